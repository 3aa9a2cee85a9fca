-- A text of lines of fields, and where its lines lead.
use Rattle.std.proofs.Common.{◌≡◌, ℕ, Bool, true, false, eqb, not, ◌&&◌, List, [], ◌∷◌, ◌++◌, append_assoc, Result, Ok, refl, ap, sym, subst, ◌∙◌}
use Rattle.std.specs.List.{AllByRecursion}
use Rattle.std.proofs.lemmas.List.{append-nil}
use Rattle.std.proofs.lemmas.List.Elements.{All-from_recursion}
use Rattle.std.proofs.lemmas.List.Splits.{slice_split_none, slice_split_at}
use Rattle.script_fields.specs.Fields.{fields, joined, further_fields}
use Rattle.script_fields.proofs.ReadBack.{IsField}
use Rattle.frame_script.specs.declared.cause.Cause.{Cause}
use Rattle.frame_script.specs.Lines.{lines, is_skipped}
use Rattle.frame_script.specs.Printing.{line}
use Rattle.frame_script.specs.States.{ScriptState, at_stage, after_line}
use Rattle.frame_script.specs.Texts.{LeadTo}

-- ---- fields

within_both : (a b : Bool) → (not a && not b) ≡ true → (a ≡ false) × (b ≡ false)
within_both true b h = absurd cc
within_both false true h = absurd cc
within_both false false h = (refl, refl)

no_spaces : (bytes : List ℕ) → IsField bytes → AllByRecursion (λ b. eqb b 32 ≡ false) bytes
no_spaces [] field = tt
no_spaces (b ∷ bytes) field = ((within_both (eqb b 32) (eqb b 10) field.0).0, no_spaces bytes field.1)

split_joined : (first : List ℕ) (others : List (List ℕ)) → IsField first → AllByRecursion IsField others → fields (first ++ further_fields others) ≡ first ∷ others
split_joined first [] field all = rw (append-nil first) (slice_split_none (λ b. eqb b 32) first (All-from_recursion (λ b. eqb b 32 ≡ false) first (no_spaces first field)))
split_joined first (next ∷ others) field all =
    slice_split_at (λ b. eqb b 32) first 32 (next ++ further_fields others) (All-from_recursion (λ b. eqb b 32 ≡ false) first (no_spaces first field)) refl
    ∙ ap (λ (fs : List (List ℕ)). first ∷ fs) (split_joined next others all.0 all.1)

-- the fields of a line that was joined of them
pub fields_joined : (first : List ℕ) (others : List (List ℕ)) → AllByRecursion IsField (first ∷ others) → fields (joined (first ∷ others)) ≡ first ∷ others
fields_joined first others all = split_joined first others all.0 all.1

-- ---- lines

abbrev NoLineFeed : List ℕ → Type 0
NoLineFeed bytes = AllByRecursion (λ b. eqb b 10 ≡ false) bytes

no_line_feed : (bytes : List ℕ) → IsField bytes → NoLineFeed bytes
no_line_feed [] field = tt
no_line_feed (b ∷ bytes) field = ((within_both (eqb b 32) (eqb b 10) field.0).1, no_line_feed bytes field.1)

feedless-append : (first second : List ℕ) → NoLineFeed first → NoLineFeed second → NoLineFeed (first ++ second)
feedless-append [] second f s = s
feedless-append (b ∷ first) second f s = (f.0, feedless-append first second f.1 s)

feedless_further : (others : List (List ℕ)) → AllByRecursion IsField others → NoLineFeed (further_fields others)
feedless_further [] all = tt
feedless_further (field ∷ others) all =
    (refl, feedless-append field (further_fields others) (no_line_feed field all.0) (feedless_further others all.1))

first_line : (text rest : List ℕ) → NoLineFeed text → lines (text ++ 10 ∷ rest) ≡ text ∷ lines rest
first_line [] rest none = refl
first_line (b ∷ text) rest none = rw (none.0, first_line text rest none.1) refl

lines_joined : (first : List ℕ) (others : List (List ℕ)) (rest : List ℕ) → AllByRecursion IsField (first ∷ others) → lines (line (first ∷ others) ++ rest) ≡ joined (first ∷ others) ∷ lines rest
lines_joined first others rest all =
    ap lines (append_assoc (joined (first ∷ others)) (10 ∷ []) rest)
    ∙ first_line (joined (first ∷ others)) rest (feedless-append first (further_fields others) (no_line_feed first all.0) (feedless_further others all.1))

-- ---- where a text leads

-- whatever stands behind it: the text leads from the one state to the other
pub record TextLeads (from : ScriptState) (text : List ℕ) (to : ScriptState) : Type 0 where
  pub leads : (rest : List ℕ) (end : ScriptState) → LeadTo to (lines rest) end → LeadTo from (lines (text ++ rest)) end

pub nothing_leads : (state : ScriptState) → TextLeads state [] state
nothing_leads state = record { leads = λ rest end more. more }

pub then_leads : (from between to : ScriptState) (first second : List ℕ) → TextLeads from first between → TextLeads between second to → TextLeads from (first ++ second) to
then_leads from between to first second a b = record {
  leads = λ rest end more. subst (λ (text : List ℕ). LeadTo from (lines text) end) (sym (append_assoc first second rest)) (a.leads (second ++ rest) end (b.leads rest end more));
}

-- one line of fields
pub line_leads : (from to : ScriptState) (first : List ℕ) (others : List (List ℕ)) → AllByRecursion IsField (first ∷ others) → after_line from (joined (first ∷ others)) ≡ Ok to
    → TextLeads from (line (first ∷ others)) to
line_leads from to first others all read = record {
  leads = λ rest end more. subst (λ (ls : List (List ℕ)). LeadTo from ls end) (sym (lines_joined first others rest all)) (to, read, more);
}

pub text_leads : (from to : ScriptState) (text : List ℕ) → TextLeads from text to → LeadTo from (lines text) to
text_leads from to text a = subst (λ (t : List ℕ). LeadTo from (lines t) to) (append-nil text) (a.leads [] to refl)

-- a line that is not skipped
pub not_skipped : (state : ScriptState) (text : List ℕ) (made : Result ScriptState Cause) → is_skipped text ≡ false → at_stage state.stage state.script text ≡ made → after_line state text ≡ made
unfolding after_line
not_skipped state text made says read = rw says read
