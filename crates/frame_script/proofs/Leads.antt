-- Reading line by line, and the relations of texts: the two agree.
use Rattle.std.proofs.Common.{◌≡◌, ◌≢◌, ℕ, suc, ◌+◌, ◌≤◌, Bool, true, false, cond, ltb, List, [], ◌∷◌, ◌++◌, length, ◌⊎◌, inl, inr, zero-add, Result, Ok, Err, refl, ap, sym, ◌∙◌, arith}
use Rattle.std.proofs.lemmas.Bool.{le-ltb, lt-ltb, ltb-true, ltb-false}
use Rattle.run_rules.specs.Scripts.{ScriptLists}
use Rattle.script_fields.specs.Fields.{◌>>=◌}
use Rattle.frame_script.specs.declared.TheConstants.{MOST_BYTES}
use Rattle.frame_script.specs.declared.cause.Cause.{Cause}
use Rattle.frame_script.specs.declared.cause.Cause.TheVariants.{MissingPart, TooLong}
use Rattle.frame_script.specs.Causes.{Refusal}
use Rattle.frame_script.specs.Lines.{lines}
use Rattle.frame_script.specs.States.{Stage, AtHeader, AtMain, InMain, InModel, InCompositor, AtEnd, Ended, ScriptState, at, beginning, after_line}
use Rattle.frame_script.specs.Texts.{LeadTo, Spells, IsWrongAt, IsCutOff, IsRefusedAt}
use Rattle.frame_script.specs.Reading.{refusal, numbered, end_at, reading_from, reading}

-- ---- the end

-- no script has ended at this stage
abbrev NotEnded : Stage → Type 0
NotEnded stage = stage ≢ Ended

abbrev is_ended : Stage → Bool
is_ended AtHeader = false
is_ended AtMain = false
is_ended InMain = false
is_ended (InModel line keys) = false
is_ended InCompositor = false
is_ended AtEnd = false
is_ended Ended = true

ends_ok : (n : ℕ) (stage : Stage) (s script : ScriptLists) → end_at n stage s ≡ Ok script → at stage s ≡ at Ended script
ends_ok n AtHeader s script h = absurd cc
ends_ok n AtMain s script h = absurd cc
ends_ok n InMain s script h = absurd cc
ends_ok n (InModel line keys) s script h = absurd cc
ends_ok n InCompositor s script h = absurd cc
ends_ok n AtEnd s script h = absurd cc
ends_ok n Ended s script h = let same : s ≡ script = cc in ap (λ (t : ScriptLists). at Ended t) same

ends_err : (n : ℕ) (stage : Stage) (s : ScriptLists) (r : Refusal) → end_at n stage s ≡ Err r → (is_ended stage ≡ false) × (r ≡ refusal n MissingPart)
ends_err n AtHeader s r h = (refl, cc)
ends_err n AtMain s r h = (refl, cc)
ends_err n InMain s r h = (refl, cc)
ends_err n (InModel line keys) s r h = (refl, cc)
ends_err n InCompositor s r h = (refl, cc)
ends_err n AtEnd s r h = (refl, cc)
ends_err n Ended s r h = absurd cc

goes_on_at : (n : ℕ) (stage : Stage) (s : ScriptLists) → stage ≢ Ended → end_at n stage s ≡ Err (refusal n MissingPart)
goes_on_at n AtHeader s h = refl
goes_on_at n AtMain s h = refl
goes_on_at n InMain s h = refl
goes_on_at n (InModel line keys) s h = refl
goes_on_at n InCompositor s h = refl
goes_on_at n AtEnd s h = refl
goes_on_at n Ended s h = absurd (h refl)

not_ended : (stage : Stage) → is_ended stage ≡ false → stage ≢ Ended
not_ended stage h same = let ended : is_ended stage ≡ true = ap is_ended same in absurd cc

-- ---- one line

numbered_ok : {A B : Type 0} (n : ℕ) (r : Result A Cause) (f : A → Result B Refusal) (y : B) → (numbered n r >>= f) ≡ Ok y → (x : A) × (r ≡ Ok x) × (f x ≡ Ok y)
numbered_ok n (Ok x) f y h = (x, refl, h)
numbered_ok n (Err cause) f y h = absurd cc

-- ---- what leads to an end is read

pub read_leads : (n : ℕ) (state : ScriptState) (text : List (List ℕ)) (script : ScriptLists) → reading_from n state text ≡ Ok script → LeadTo state text (at Ended script)
unfolding reading_from
read_leads n state [] script h = ends_ok n state.stage state.script script h
read_leads n state (line ∷ more) script h =
    let got = numbered_ok n (after_line state line) (λ next. reading_from (n + 1) next more) script h in
    (got.0, got.1, read_leads (n + 1) got.0 more script got.2)

pub leads_read : (n : ℕ) (state : ScriptState) (text : List (List ℕ)) (script : ScriptLists) → LeadTo state text (at Ended script) → reading_from n state text ≡ Ok script
unfolding reading_from
leads_read n state [] script h = ap (λ (s : ScriptState). end_at n s.stage s.script) h
leads_read n state (line ∷ more) script h = rw h.1 (leads_read (n + 1) h.0 more script h.2)

-- ---- what is refused

-- the same as in texts, from any state and number on
record IsWrongFrom (from : ScriptState) (text : List (List ℕ)) (first : ℕ) (r : Refusal) : Type 0 where
  before : List (List ℕ)
  wrong : List ℕ
  behind : List (List ℕ)
  state : ScriptState
  cut : text ≡ before ++ wrong ∷ behind
  leads : LeadTo from before state
  refused : after_line state wrong ≡ Err r.cause
  number_is : r.line ≡ length before + first

record IsCutFrom (from : ScriptState) (text : List (List ℕ)) (first : ℕ) (r : Refusal) : Type 0 where
  state : ScriptState
  leads : LeadTo from text state
  goes_on : state.stage ≢ Ended
  number_is : r.line ≡ length text + first
  cause_is : r.cause ≡ MissingPart

abbrev Fails : ScriptState → List (List ℕ) → ℕ → Refusal → Type 0
Fails from text first r = IsWrongFrom from text first r ⊎ IsCutFrom from text first r

behind_line : (state next : ScriptState) (line : List ℕ) (more : List (List ℕ)) (n : ℕ) (r : Refusal) → after_line state line ≡ Ok next
    → Fails next more (n + 1) r → Fails state (line ∷ more) n r
behind_line state next line more n r made (inl w) = inl (record {
  before = line ∷ w.before;
  wrong = w.wrong;
  behind = w.behind;
  state = w.state;
  cut = ap (λ (ls : List (List ℕ)). line ∷ ls) w.cut;
  leads = (next, made, w.leads);
  refused = w.refused;
  number_is = omega (arith, w.number_is);
})
behind_line state next line more n r made (inr c) = inr (record {
  state = c.state;
  leads = (next, made, c.leads);
  goes_on = c.goes_on;
  number_is = omega (arith, c.number_is);
  cause_is = c.cause_is;
})

fails_at : (n : ℕ) (state : ScriptState) (line : List ℕ) (more : List (List ℕ)) (r : Refusal)
    → ((next : ScriptState) → reading_from (n + 1) next more ≡ Err r → Fails next more (n + 1) r)
    → (made : Result ScriptState Cause) → after_line state line ≡ made
    → (numbered n made >>= λ next. reading_from (n + 1) next more) ≡ Err r → Fails state (line ∷ more) n r
fails_at n state line more r behind (Ok next) is h = behind_line state next line more n r is (behind next h)
fails_at n state line more r behind (Err cause) is h =
    let same : refusal n cause ≡ r = cc in
    inl (record {
      before = [];
      wrong = line;
      behind = more;
      state = state;
      cut = refl;
      leads = refl;
      refused = is ∙ ap (λ (q : Refusal). Err q.cause) same;
      number_is = rw (zero-add n) (sym (ap (λ (q : Refusal). q.line) same));
    })

read_fails : (n : ℕ) (state : ScriptState) (text : List (List ℕ)) (r : Refusal) → reading_from n state text ≡ Err r → Fails state text n r
unfolding reading_from
read_fails n state [] r h =
    let end = ends_err n state.stage state.script r h in
    inr (record {
      state = state;
      leads = refl;
      goes_on = not_ended state.stage end.0;
      number_is = rw (zero-add n) (ap (λ (q : Refusal). q.line) end.1);
      cause_is = ap (λ (q : Refusal). q.cause) end.1;
    })
read_fails n state (line ∷ more) r h =
    fails_at n state line more r (λ next k. read_fails (n + 1) next more r k) (after_line state line) refl h

wrong_is_read : (n : ℕ) (from state : ScriptState) (before : List (List ℕ)) (wrong : List ℕ) (behind : List (List ℕ)) (cause : Cause)
    → LeadTo from before state → after_line state wrong ≡ Err cause → reading_from n from (before ++ wrong ∷ behind) ≡ Err (refusal (length before + n) cause)
unfolding reading_from
wrong_is_read n from state [] wrong behind cause leads refused =
    let here : after_line from wrong ≡ Err cause = ap (λ (s : ScriptState). after_line s wrong) leads ∙ refused in
    rw (here, zero-add n) refl
wrong_is_read n from state (line ∷ before) wrong behind cause leads refused =
    let rest = wrong_is_read (n + 1) leads.0 state before wrong behind cause leads.2 refused in
    let same : length before + (n + 1) ≡ suc (length before) + n = omega arith in
    rw leads.1 (rest ∙ ap (λ (m : ℕ). Err (refusal m cause)) same)

cut_is_read : (n : ℕ) (from state : ScriptState) (text : List (List ℕ)) → LeadTo from text state → state.stage ≢ Ended
    → reading_from n from text ≡ Err (refusal (length text + n) MissingPart)
unfolding reading_from
cut_is_read n from state [] leads goes_on =
    rw (zero-add n) (ap (λ (s : ScriptState). end_at n s.stage s.script) leads ∙ goes_on_at n state.stage state.script goes_on)
cut_is_read n from state (line ∷ text) leads goes_on =
    let rest = cut_is_read (n + 1) leads.0 state text leads.2 goes_on in
    let same : length text + (n + 1) ≡ suc (length text) + n = omega arith in
    rw leads.1 (rest ∙ ap (λ (m : ℕ). Err (refusal m MissingPart)) same)

-- ---- whole texts

long_or_short : (long : Bool) (r : Refusal) (read : Result ScriptLists Refusal) (script : ScriptLists) → cond long (Err r) read ≡ Ok script → (long ≡ false) × (read ≡ Ok script)
long_or_short true r read script h = absurd cc
long_or_short false r read script h = (refl, h)

pub read_is_spelled : (bytes : List ℕ) (script : ScriptLists) → reading bytes ≡ Ok script → Spells bytes script
unfolding reading
read_is_spelled bytes script h =
    let got = long_or_short (ltb MOST_BYTES (length bytes)) (refusal 0 TooLong) (reading_from 1 beginning (lines bytes)) script h in
    record { short = ltb-false MOST_BYTES (length bytes) got.0; leads = read_leads 1 beginning (lines bytes) script got.1 }

pub spelled_is_read : (bytes : List ℕ) (script : ScriptLists) → Spells bytes script → reading bytes ≡ Ok script
unfolding reading
spelled_is_read bytes script spelled =
    rw (le-ltb MOST_BYTES (length bytes) spelled.short) (leads_read 1 beginning (lines bytes) script spelled.leads)

as_refused : (bytes : List ℕ) (r : Refusal) → length bytes ≤ MOST_BYTES → Fails beginning (lines bytes) 1 r → IsRefusedAt bytes r.line r.cause
as_refused bytes r short (inl w) = inr (record {
  short = short;
  wrong = inl (record {
    before = w.before;
    wrong = w.wrong;
    behind = w.behind;
    state = w.state;
    cut = w.cut;
    leads = w.leads;
    refused = w.refused;
    number_is = w.number_is;
  });
})
as_refused bytes r short (inr c) = inr (record {
  short = short;
  wrong = inr (record {
    state = c.state;
    leads = c.leads;
    goes_on = c.goes_on;
    number_is = c.number_is;
    cause_is = c.cause_is;
  });
})

refused_by : (bytes : List ℕ) (r : Refusal) (long : Bool) → ltb MOST_BYTES (length bytes) ≡ long
    → cond long (Err (refusal 0 TooLong)) (reading_from 1 beginning (lines bytes)) ≡ Err r → IsRefusedAt bytes r.line r.cause
refused_by bytes r true is h =
    let same : refusal 0 TooLong ≡ r = cc in
    inl (record {
      long = ltb-true MOST_BYTES (length bytes) is;
      number_is = sym (ap (λ (q : Refusal). q.line) same);
      cause_is = sym (ap (λ (q : Refusal). q.cause) same);
    })
refused_by bytes r false is h =
    as_refused bytes r (ltb-false MOST_BYTES (length bytes) is) (read_fails 1 beginning (lines bytes) r h)

pub read_is_refused : (bytes : List ℕ) (r : Refusal) → reading bytes ≡ Err r → IsRefusedAt bytes r.line r.cause
unfolding reading
read_is_refused bytes r h = refused_by bytes r (ltb MOST_BYTES (length bytes)) refl h

wrong_or_cut : (bytes : List ℕ) (number : ℕ) (cause : Cause) → IsWrongAt (lines bytes) number cause ⊎ IsCutOff (lines bytes) number cause
    → reading_from 1 beginning (lines bytes) ≡ Err (refusal number cause)
wrong_or_cut bytes number cause (inl w) =
    let read = wrong_is_read 1 beginning w.state w.before w.wrong w.behind cause w.leads w.refused in
    rw w.cut (read ∙ ap (λ (n : ℕ). Err (refusal n cause)) (sym w.number_is))
wrong_or_cut bytes number cause (inr c) =
    let read = cut_is_read 1 beginning c.state (lines bytes) c.leads c.goes_on in
    read ∙ (ap (λ (n : ℕ). Err (refusal n MissingPart)) (sym c.number_is) ∙ ap (λ (d : Cause). Err (refusal number d)) (sym c.cause_is))

pub refused_is_read : (bytes : List ℕ) (number : ℕ) (cause : Cause) → IsRefusedAt bytes number cause → reading bytes ≡ Err (refusal number cause)
unfolding reading
refused_is_read bytes number cause (inl long) =
    let same : refusal 0 TooLong ≡ refusal number cause =
    ap (λ (n : ℕ). refusal n TooLong) (sym long.number_is) ∙ ap (λ (c : Cause). refusal number c) (sym long.cause_is) in
    rw (lt-ltb MOST_BYTES (length bytes) long.long) (ap (λ (r : Refusal). Err r) same)
refused_is_read bytes number cause (inr wrong) =
    rw (le-ltb MOST_BYTES (length bytes) wrong.short) (wrong_or_cut bytes number cause wrong.wrong)

-- ---- exactly one of the two

ok_is : {A : Type 0} (x y : A) (r : Result A Refusal) → r ≡ Ok x → r ≡ Ok y → x ≡ y
ok_is x y r h k = cc

err_is : {A : Type 0} (x y : Refusal) (r : Result A Refusal) → r ≡ Err x → r ≡ Err y → x ≡ y
err_is x y r h k = cc

not_both_ways : {A : Type 0} (x : A) (y : Refusal) (r : Result A Refusal) → r ≡ Ok x → r ≡ Err y → ⊥
not_both_ways x y r h k = absurd cc

either_way : (bytes : List ℕ) (r : Result ScriptLists Refusal) → reading bytes ≡ r → ((script : ScriptLists) × Spells bytes script) ⊎ ((number : ℕ) × (cause : Cause) × IsRefusedAt bytes number cause)
either_way bytes (Ok script) is = inl (script, read_is_spelled bytes script is)
either_way bytes (Err r) is = inr (r.line, r.cause, read_is_refused bytes r is)

pub spelled_or_refused : (bytes : List ℕ) → ((script : ScriptLists) × Spells bytes script) ⊎ ((number : ℕ) × (cause : Cause) × IsRefusedAt bytes number cause)
spelled_or_refused bytes = either_way bytes (reading bytes) refl

pub not_spelled_and_refused : (bytes : List ℕ) (script : ScriptLists) (number : ℕ) (cause : Cause) → Spells bytes script → IsRefusedAt bytes number cause → ⊥
not_spelled_and_refused bytes script number cause s r =
    not_both_ways script (refusal number cause) (reading bytes) (spelled_is_read bytes script s) (refused_is_read bytes number cause r)

pub one_script : (bytes : List ℕ) (script other : ScriptLists) → Spells bytes script → Spells bytes other → script ≡ other
one_script bytes script other s t = ok_is script other (reading bytes) (spelled_is_read bytes script s) (spelled_is_read bytes other t)

pub one_refusal : (bytes : List ℕ) (number other : ℕ) (cause another : Cause) → IsRefusedAt bytes number cause → IsRefusedAt bytes other another → (number ≡ other) × (cause ≡ another)
one_refusal bytes number other cause another r s =
    let same = err_is (refusal number cause) (refusal other another) (reading bytes) (refused_is_read bytes number cause r) (refused_is_read bytes other another s) in
    (ap (λ (q : Refusal). q.line) same, ap (λ (q : Refusal). q.cause) same)
