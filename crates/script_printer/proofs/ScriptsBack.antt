-- The text of a well-formed script spells it, and no other script has the same text.
use Rattle.std.proofs.Common.{◌≡◌, ℕ, suc, ◌+◌, ◌*◌, ◌^◌, ◌<◌, ◌≤◌, true, false, leb, List, [], ◌∷◌, ◌++◌, zero-add, length, length-append, append_assoc, Option, Some, None, Result, Ok, refl, ap, sym, subst, ◌∙◌, arith}
use Rattle.std.specs.Prelude.{codes, option_map, is_none}
use Rattle.std.specs.Fmt.{decimal}
use Rattle.std.specs.List.{AllByRecursion, flat_map}
use Rattle.std.proofs.lemmas.Bool.{and_parts, lt-ltb, le-ltb, leb-true, eq-eqb}
use Rattle.std.proofs.lemmas.List.{append-nil}
use Rattle.std.proofs.Math.Nat.{mul-le-mul_right}
use Rattle.anim_names.specs.Lanes.{letters_of}
use Rattle.anim_names.specs.declared.lane.Lane.{Lane}
use Rattle.anim_names.specs.declared.lane.Lane.TheVariants.{Main, Compositor}
use Rattle.anim_names.specs.declared.limit.TheConstants.{MOST_STEPS, MOST_FRAMES}
use Rattle.anim_timeline.specs.declared.TheConstants.{LAST_TIME}
use Rattle.tree_commit.specs.declared.edits.refusal.EditRefusal.{EditRefusal}
use Rattle.run_rules.specs.declared.compositor_step.CompositorStep.{CompositorStep}
use Rattle.run_rules.specs.declared.compositor_step.CompositorStep.TheVariants.{Pull, Activate, Tick}
use Rattle.tree_commit.specs.Edits.{Book, edit_refusal}
use Rattle.run_rules.specs.Scripts.{StepOfMain, EditStep, CommitStep, DrainStep, ScriptLists, IsStep, is_allowed, are_allowed, book_of, book_after_step, ticks_of, never_fall_from, are_at_most, IsWellFormed}
use Rattle.script_fields.specs.Fields.{joined}
use Rattle.script_fields.specs.Printed.{word_text}
use Rattle.script_fields.proofs.ReadBack.{IsField, plain_field, decimal_plain, text_field, are_within, time_back, word_back, word_plain}
use Rattle.frame_script.specs.declared.TheConstants.{MOST_BYTES}
use Rattle.frame_script.specs.declared.cause.Cause.TheVariants.{Edit}
use Rattle.frame_script.specs.Lines.{lines, is_skipped}
use Rattle.frame_script.specs.Said.{compositor_said}
use Rattle.anim_names.specs.declared.version.Version.{Version}
use Rattle.anim_names.specs.declared.version.Version.TheVariants.{One}
use Rattle.frame_script.specs.Headers.{header_text}
use Rattle.frame_script.specs.States.{AtMain, InMain, InCompositor, AtEnd, Ended, ScriptState, at, empty_script, beginning, step_refusal, main_with, with_main, step_made, last_from, compositor_refusal, compositor_with, with_compositor, compositor_made, word_made, in_compositor, with_version, at_stage}
use Rattle.frame_script.specs.Reading.{reading_from}
use Rattle.frame_script.specs.Texts.{Spells}
use Rattle.frame_script.specs.Printing.{line, step_lines, compositor_line, script_text}
use Rattle.frame_script.proofs.Books.{book_of-push, ticks_with, ticks_of-push, last_from-push}
use Rattle.frame_script.proofs.Leads.{leads_read}
use Rattle.script_printer.proofs.Lined.{TextLeads, fields_joined, line_leads, nothing_leads, then_leads, text_leads, not_skipped}
use Rattle.script_printer.proofs.StepsBack.{step_leads}

-- ---- main's steps

no_edit_refusal : (refusal : Option EditRefusal) → is_none refusal ≡ true → option_map Edit refusal ≡ None
no_edit_refusal None h = refl
no_edit_refusal (Some r) h = absurd cc

no_refusal : (book : Book) (step : StepOfMain) → is_allowed book step ≡ true → step_refusal book step ≡ None
no_refusal book (EditStep change) h = no_edit_refusal (edit_refusal book change) h
no_refusal book CommitStep h = rw h refl
no_refusal book DrainStep h = refl

step_is_made : (script : ScriptLists) (step : StepOfMain) → length script.main < MOST_STEPS → is_allowed (book_of script.main) step ≡ true
    → step_made script step ≡ Ok (at InMain (with_main script (script.main ++ step ∷ [])))
unfolding step_made main_with
step_is_made script step room allowed = rw (lt-ltb (length script.main) MOST_STEPS room, no_refusal (book_of script.main) step allowed) refl

main_leads : (script : ScriptLists) (front steps : List StepOfMain) → AllByRecursion IsStep steps → are_allowed (book_of front) steps ≡ true → length (front ++ steps) ≤ MOST_STEPS
    → TextLeads (at InMain (with_main script front)) (flat_map step_lines steps) (at InMain (with_main script (front ++ steps)))
unfolding are_allowed
main_leads script front [] fits allowed few =
    subst (λ (ss : List StepOfMain). TextLeads (at InMain (with_main script front)) [] (at InMain (with_main script ss))) (sym (append-nil front)) (nothing_leads (at InMain (with_main script front)))
main_leads script front (step ∷ steps) fits allowed few =
    let b = and_parts (is_allowed (book_of front) step) (are_allowed (book_after_step (book_of front) step) steps) allowed in
    let room : length front < MOST_STEPS = omega (arith, length-append front (step ∷ steps)) in
    let moved : (front ++ step ∷ []) ++ steps ≡ front ++ step ∷ steps = append_assoc front (step ∷ []) steps in
    let after : are_allowed (book_of (front ++ step ∷ [])) steps ≡ true = ap (λ (book : Book). are_allowed book steps) (book_of-push front step) ∙ b.1 in
    let here = step_leads (with_main script front) (at InMain (with_main script (front ++ step ∷ []))) step fits.0 (step_is_made (with_main script front) step room b.0) in
    let more = main_leads script (front ++ step ∷ []) steps fits.1 after (omega (arith, ap length moved, few)) in
    let whole : TextLeads (at InMain (with_main script (front ++ step ∷ []))) (flat_map step_lines steps) (at InMain (with_main script (front ++ step ∷ steps))) =
    subst (λ (ss : List StepOfMain). TextLeads (at InMain (with_main script (front ++ step ∷ []))) (flat_map step_lines steps) (at InMain (with_main script ss))) moved more in
    then_leads (at InMain (with_main script front)) (at InMain (with_main script (front ++ step ∷ []))) (at InMain (with_main script (front ++ step ∷ steps))) (step_lines step) (flat_map step_lines steps) here whole

-- ---- the compositor's steps

-- what is to come of the ticks is in order, in time and few enough
record MayFollow (elements : ℕ) (ticks : List ℕ) (steps : List CompositorStep) : Type 0 where
  order : never_fall_from (last_from 0 ticks) (ticks_of steps) ≡ true
  times : are_at_most LAST_TIME (ticks_of steps) ≡ true
  frames : (length ticks + length (ticks_of steps)) * elements ≤ MOST_FRAMES

fewer : (a d c most : ℕ) → (a + d) * c ≤ most → a * c ≤ most
fewer a d c most h = let le : a ≤ a + d = omega arith in omega (arith, mul-le-mul_right c le, h)

compositor_is_made : (script : ScriptLists) (step : CompositorStep) → length script.compositor < MOST_STEPS
    → compositor_refusal (book_of script.main).elements_added (ticks_of script.compositor) step ≡ None
    → compositor_made script step ≡ Ok (at InCompositor (with_compositor script (script.compositor ++ step ∷ [])))
unfolding compositor_made compositor_with
compositor_is_made script step room allowed = rw (lt-ltb (length script.compositor) MOST_STEPS room, allowed) refl

not_refused : (elements time : ℕ) (ticks rest : List ℕ) → last_from 0 ticks ≤ time → (length ticks + suc (length rest)) * elements ≤ MOST_FRAMES
    → compositor_refusal elements ticks (Tick time) ≡ None
not_refused elements time ticks rest order frames =
    let shape : length ticks + suc (length rest) ≡ (length ticks + 1) + length rest = omega arith in
    let more : ((length ticks + 1) + length rest) * elements ≤ MOST_FRAMES = subst (λ (n : ℕ). n * elements ≤ MOST_FRAMES) shape frames in
    let few : (length ticks + 1) * elements ≤ MOST_FRAMES = fewer (length ticks + 1) (length rest) elements MOST_FRAMES more in
    rw (le-ltb time (last_from 0 ticks) order, le-ltb MOST_FRAMES ((length ticks + 1) * elements) few) refl

-- one step is made, and the others may follow it
record GoesOn (elements : ℕ) (ticks : List ℕ) (step : CompositorStep) (steps : List CompositorStep) : Type 0 where
  made : compositor_refusal elements ticks step ≡ None
  after : MayFollow elements (ticks_with ticks step) steps

goes_on : (elements : ℕ) (ticks : List ℕ) (step : CompositorStep) (steps : List CompositorStep) → MayFollow elements ticks (step ∷ steps) → GoesOn elements ticks step steps
goes_on elements ticks Pull steps may = record { made = refl; after = record { order = may.order; times = may.times; frames = may.frames } }
goes_on elements ticks Activate steps may = record { made = refl; after = record { order = may.order; times = may.times; frames = may.frames } }
goes_on elements ticks (Tick time) steps may =
    let o = and_parts (leb (last_from 0 ticks) time) (never_fall_from time (ticks_of steps)) may.order in
    let t = and_parts (leb time LAST_TIME) (are_at_most LAST_TIME (ticks_of steps)) may.times in
    let count : length (ticks ++ time ∷ []) + length (ticks_of steps) ≡ length ticks + suc (length (ticks_of steps)) = omega (arith, length-append ticks (time ∷ [])) in
    record {
      made = not_refused elements time ticks (ticks_of steps) (leb-true (last_from 0 ticks) time o.0) may.frames;
      after = record {
        order = ap (λ (last : ℕ). never_fall_from last (ticks_of steps)) (last_from-push 0 ticks time) ∙ o.1;
        times = t.1;
        frames = subst (λ (n : ℕ). n * elements ≤ MOST_FRAMES) (sym count) may.frames;
      };
    }

-- the times of the ticks are in time
in_time : (time : ℕ) (steps : List CompositorStep) → are_at_most LAST_TIME (ticks_of (Tick time ∷ steps)) ≡ true → time ≤ LAST_TIME
in_time time steps h = leb-true time LAST_TIME (and_parts (leb time LAST_TIME) (are_at_most LAST_TIME (ticks_of steps)) h).0

-- a line of these fields makes of the compositor's part what its fields make of it
part_leads : (script : ScriptLists) (next : ScriptState) (first : List ℕ) (others : List (List ℕ)) → AllByRecursion IsField (first ∷ others)
    → is_skipped (joined (first ∷ others)) ≡ false → in_compositor script (first ∷ others) ≡ Ok next → TextLeads (at InCompositor script) (line (first ∷ others)) next
unfolding at_stage
part_leads script next first others all says said =
    line_leads (at InCompositor script) next first others all
    (not_skipped (at InCompositor script) (joined (first ∷ others)) (Ok next) says (ap (in_compositor script) (fields_joined first others all) ∙ said))

compositor_step_leads : (script : ScriptLists) (next : ScriptState) (step : CompositorStep) (steps : List CompositorStep) → are_at_most LAST_TIME (ticks_of (step ∷ steps)) ≡ true
    → compositor_made script step ≡ Ok next → TextLeads (at InCompositor script) (compositor_line step) next
unfolding in_compositor compositor_said are_within
compositor_step_leads script next Pull steps times made = part_leads script next (codes "pull") [] (text_field (codes "pull") refl, tt) refl made
compositor_step_leads script next Activate steps times made = part_leads script next (codes "activate") [] (text_field (codes "activate") refl, tt) refl made
compositor_step_leads script next (Tick time) steps times made =
    let le = in_time time steps times in
    let small : time < 2 ^ 64 = omega (arith, le) in
    part_leads script next (codes "tick") (decimal time ∷ []) (text_field (codes "tick") refl, (plain_field (decimal time) (decimal_plain time small), tt)) refl (rw (time_back time le) made)

compositor_leads : (script : ScriptLists) (front steps : List CompositorStep) → MayFollow (book_of script.main).elements_added (ticks_of front) steps → length (front ++ steps) ≤ MOST_STEPS
    → TextLeads (at InCompositor (with_compositor script front)) (flat_map compositor_line steps) (at InCompositor (with_compositor script (front ++ steps)))
compositor_leads script front [] may few =
    subst (λ (ss : List CompositorStep). TextLeads (at InCompositor (with_compositor script front)) [] (at InCompositor (with_compositor script ss))) (sym (append-nil front))
    (nothing_leads (at InCompositor (with_compositor script front)))
compositor_leads script front (step ∷ steps) may few =
    let go = goes_on (book_of script.main).elements_added (ticks_of front) step steps may in
    let room : length front < MOST_STEPS = omega (arith, length-append front (step ∷ steps)) in
    let moved : (front ++ step ∷ []) ++ steps ≡ front ++ step ∷ steps = append_assoc front (step ∷ []) steps in
    let follow : MayFollow (book_of script.main).elements_added (ticks_of (front ++ step ∷ [])) steps =
    subst (λ (ts : List ℕ). MayFollow (book_of script.main).elements_added ts steps) (sym (ticks_of-push front step)) go.after in
    let here = compositor_step_leads (with_compositor script front) (at InCompositor (with_compositor script (front ++ step ∷ []))) step steps may.times
    (compositor_is_made (with_compositor script front) step room go.made) in
    let more = compositor_leads script (front ++ step ∷ []) steps follow (omega (arith, ap length moved, few)) in
    let whole : TextLeads (at InCompositor (with_compositor script (front ++ step ∷ []))) (flat_map compositor_line steps) (at InCompositor (with_compositor script (front ++ step ∷ steps))) =
    subst (λ (ss : List CompositorStep). TextLeads (at InCompositor (with_compositor script (front ++ step ∷ []))) (flat_map compositor_line steps) (at InCompositor (with_compositor script ss))) moved more in
    then_leads (at InCompositor (with_compositor script front)) (at InCompositor (with_compositor script (front ++ step ∷ []))) (at InCompositor (with_compositor script (front ++ step ∷ steps)))
    (compositor_line step) (flat_map compositor_line steps) here whole

-- ---- the word, and the whole

word_leads : (script : ScriptLists) (word : List Lane) → letters_of Main word ≡ length script.main → letters_of Compositor word ≡ length script.compositor
    → TextLeads (at InCompositor script) (line (codes "word" ∷ word_text word ∷ [])) (at AtEnd (record script { word = word }))
unfolding in_compositor word_made are_within
word_leads script word mains compositors =
    part_leads script (at AtEnd (record script { word = word })) (codes "word") (word_text word ∷ []) (text_field (codes "word") refl, (plain_field (word_text word) (word_plain word), tt)) refl
    (rw (word_back word, eq-eqb (letters_of Main word) (length script.main) mains, eq-eqb (letters_of Compositor word) (length script.compositor) compositors) refl)

-- a line of one field that leads from stage to stage
stage_leads : (from to : ScriptState) (first : List ℕ) (others : List (List ℕ)) → AllByRecursion IsField (first ∷ others) → is_skipped (joined (first ∷ others)) ≡ false
    → at_stage from.stage from.script (joined (first ∷ others)) ≡ Ok to → TextLeads from (line (first ∷ others)) to
stage_leads from to first others all says read = line_leads from to first others all (not_skipped from (joined (first ∷ others)) (Ok to) says read)

-- the header of a version is a line of two fields
header_leads : (version : Version) → TextLeads beginning (line (header_text version ∷ [])) (at AtMain (with_version empty_script version))
unfolding at_stage are_within
header_leads One = stage_leads beginning (at AtMain empty_script) (codes "anim") (codes "1" ∷ []) (text_field (codes "anim") refl, (text_field (codes "1") refl, tt)) refl refl

main_part_leads : (script : ScriptLists) → TextLeads (at AtMain script) (line (codes "main" ∷ [])) (at InMain script)
unfolding at_stage are_within
main_part_leads script = stage_leads (at AtMain script) (at InMain script) (codes "main") [] (text_field (codes "main") refl, tt) refl refl

compositor_part_leads : (script : ScriptLists) → TextLeads (at InMain script) (line (codes "compositor" ∷ [])) (at InCompositor script)
unfolding at_stage are_within
compositor_part_leads script = stage_leads (at InMain script) (at InCompositor script) (codes "compositor") [] (text_field (codes "compositor") refl, tt) refl refl

end_leads : (script : ScriptLists) → TextLeads (at AtEnd script) (line (codes "end" ∷ [])) (at Ended script)
unfolding at_stage are_within
end_leads script = stage_leads (at AtEnd script) (at Ended script) (codes "end") [] (text_field (codes "end") refl, tt) refl refl

script_leads : (script : ScriptLists) → IsWellFormed script → TextLeads beginning (script_text script) (at Ended script)
unfolding script_text
script_leads script fits =
    let of_version : ScriptLists = with_version empty_script script.version in
    let of_main : ScriptLists = with_main of_version script.main in
    let of_both : ScriptLists = with_compositor of_main script.compositor in
    let may : MayFollow (book_of script.main).elements_added [] script.compositor = record { order = fits.order; times = fits.times; frames = rw (zero-add (length (ticks_of script.compositor))) fits.frames } in
    let a = then_leads beginning (at AtMain of_version) (at InMain of_version) _ _ (header_leads script.version) (main_part_leads of_version) in
    let b = then_leads beginning (at InMain of_version) (at InMain of_main) _ (flat_map step_lines script.main) a (main_leads of_version [] script.main fits.ranges fits.edits fits.main_steps) in
    let c = then_leads beginning (at InMain of_main) (at InCompositor of_main) _ _ b (compositor_part_leads of_main) in
    let d = then_leads beginning (at InCompositor of_main) (at InCompositor of_both) _ (flat_map compositor_line script.compositor) c (compositor_leads of_main [] script.compositor may fits.compositor_steps) in
    let e = then_leads beginning (at InCompositor of_both) (at AtEnd script) _ _ d (word_leads of_both script.word fits.word.of_main fits.word.of_compositor) in
    then_leads beginning (at AtEnd script) (at Ended script) _ _ e (end_leads script)

pub printed_is_spelled : (script : ScriptLists) → IsWellFormed script → length (script_text script) ≤ MOST_BYTES → Spells (script_text script) script
printed_is_spelled script fits short = record { short = short; leads = text_leads beginning (at Ended script) (script_text script) (script_leads script fits) }

ok_is : {A F : Type 0} (x y : A) (r : Result A F) → r ≡ Ok x → r ≡ Ok y → x ≡ y
ok_is x y r h k = cc

pub one_text_one_script : (script other : ScriptLists) → IsWellFormed script → IsWellFormed other → script_text script ≡ script_text other → script ≡ other
one_text_one_script script other fits fit same =
    let first = leads_read 1 beginning (lines (script_text script)) script (text_leads beginning (at Ended script) (script_text script) (script_leads script fits)) in
    let second = leads_read 1 beginning (lines (script_text other)) other (text_leads beginning (at Ended other) (script_text other) (script_leads other fit)) in
    ok_is script other (reading_from 1 beginning (lines (script_text other))) (ap (λ (text : List ℕ). reading_from 1 beginning (lines text)) (sym same) ∙ first) second
