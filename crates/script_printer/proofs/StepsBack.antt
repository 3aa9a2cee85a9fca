-- The lines that a script's steps are printed as lead from step to step.
use Rattle.std.proofs.Common.{◌≡◌, ℕ, ◌^◌, ◌<◌, false, List, [], ◌∷◌, Result, Ok, refl, ap, ◌∙◌, arith}
use Rattle.std.specs.Prelude.{codes}
use Rattle.std.specs.Fmt.{decimal}
use Rattle.std.specs.Str.{bytes_eq}
use Rattle.std.specs.List.{AllByRecursion}
use Rattle.tree_commit.specs.Ranges.{IsChange, IsElementChange, IsTimelineChange, IsModelChange}
use Rattle.tree_commit.specs.Edits.{Change, ElementChange, TimelineChange, ModelChange, OnElements, OnTimelines, OnModels, AddElement, RemoveElement, SetOwn, AddTimeline, AddModel, RemoveModel}
use Rattle.run_rules.specs.Scripts.{StepOfMain, EditStep, CommitStep, DrainStep, ScriptLists, IsStep}
use Rattle.keyframe_model.specs.Models.{IsId, PropertyValue, OpacityValue, TransformValue, IsPropertyValue}
use Rattle.script_fields.specs.Fields.{joined}
use Rattle.script_fields.specs.Printed.{list_fields}
use Rattle.script_fields.proofs.ReadBack.{IsField, plain_field, decimal_plain, text_field, are_within, id_back, opacity_back, time_back}
use Rattle.script_fields.proofs.PrintBack.{list_back, list_long, list_fields_fit}
use Rattle.frame_script.specs.declared.cause.Cause.{Cause}
use Rattle.frame_script.specs.Lines.{is_skipped}
use Rattle.frame_script.specs.Said.{step_said, edit_said, new_element, new_own, own_list, new_timeline, drop_element_said, drop_model_said}
use Rattle.frame_script.specs.States.{InMain, ScriptState, at, step_made, in_main, at_stage, after_line}
use Rattle.frame_script.specs.Printing.{line, element_lines, timeline_lines, lines_of_model, edit_lines, step_lines}
use Rattle.script_printer.proofs.Lined.{TextLeads, fields_joined, line_leads, not_skipped}
use Rattle.script_printer.proofs.ModelsBack.{model_leads}

-- ---- a line of main

-- a line of these fields makes of main's part what its fields make of it
main_line : (script : ScriptLists) (first : List ℕ) (others : List (List ℕ)) (made : Result ScriptState Cause) → AllByRecursion IsField (first ∷ others)
    → is_skipped (joined (first ∷ others)) ≡ false → bytes_eq (joined (first ∷ others)) (codes "compositor") ≡ false → in_main script (first ∷ others) ≡ made
    → after_line (at InMain script) (joined (first ∷ others)) ≡ made
unfolding at_stage
main_line script first others made all says other said =
    not_skipped (at InMain script) (joined (first ∷ others)) made says (rw other (ap (in_main script) (fields_joined first others all) ∙ said))

pub main_leads : (script : ScriptLists) (next : ScriptState) (first : List ℕ) (others : List (List ℕ)) → AllByRecursion IsField (first ∷ others)
    → is_skipped (joined (first ∷ others)) ≡ false → bytes_eq (joined (first ∷ others)) (codes "compositor") ≡ false → in_main script (first ∷ others) ≡ Ok next
    → TextLeads (at InMain script) (line (first ∷ others)) next
main_leads script next first others all says other said =
    line_leads (at InMain script) next first others all (main_line script first others (Ok next) all says other said)

-- ---- edits

pub id_field : (id : ℕ) → IsId id → IsField (decimal id)
id_field id fits = let small : id < 2 ^ 64 = omega arith in plain_field (decimal id) (decimal_plain id small)

own_leads : (script : ScriptLists) (next : ScriptState) (id : ℕ) (value : PropertyValue) → IsId id → IsPropertyValue value → step_made script (EditStep (OnElements (SetOwn id value))) ≡ Ok next
    → TextLeads (at InMain script) (element_lines (SetOwn id value)) next
unfolding in_main step_said edit_said new_own own_list are_within
own_leads script next id (OpacityValue opacity) named fits made =
    let small : opacity < 2 ^ 64 = omega (arith, fits) in
    main_leads script next (codes "opacity") (decimal id ∷ decimal opacity ∷ []) (text_field (codes "opacity") refl, (id_field id named, (plain_field (decimal opacity) (decimal_plain opacity small), tt)))
    refl refl (rw (id_back id named, opacity_back opacity fits) made)
own_leads script next id (TransformValue transform) named fits made =
    main_leads script next (codes "transform") (decimal id ∷ list_fields transform) (text_field (codes "transform") refl, (id_field id named, list_fields_fit transform fits))
    refl refl (rw (list_long transform fits, id_back id named, list_back transform fits) made)

element_leads : (script : ScriptLists) (next : ScriptState) (change : ElementChange) → IsElementChange change → step_made script (EditStep (OnElements change)) ≡ Ok next
    → TextLeads (at InMain script) (element_lines change) next
unfolding in_main step_said edit_said new_element drop_element_said are_within
element_leads script next (AddElement id look) fits made =
    let small : look.opacity < 2 ^ 64 = omega (arith, fits.1.opacity) in
    main_leads script next (codes "element") (decimal id ∷ decimal look.opacity ∷ list_fields look.transform)
    (text_field (codes "element") refl, (id_field id fits.0, (plain_field (decimal look.opacity) (decimal_plain look.opacity small), list_fields_fit look.transform fits.1.transform)))
    refl refl (rw (list_long look.transform fits.1.transform, id_back id fits.0, opacity_back look.opacity fits.1.opacity, list_back look.transform fits.1.transform) made)
element_leads script next (RemoveElement id) fits made =
    main_leads script next (codes "drop-element") (decimal id ∷ []) (text_field (codes "drop-element") refl, (id_field id fits, tt))
    refl refl (rw (id_back id fits) made)
element_leads script next (SetOwn id value) fits made = own_leads script next id value fits.0 fits.1 made

timeline_leads : (script : ScriptLists) (next : ScriptState) (change : TimelineChange) → IsTimelineChange change → step_made script (EditStep (OnTimelines change)) ≡ Ok next
    → TextLeads (at InMain script) (timeline_lines change) next
unfolding in_main step_said edit_said new_timeline are_within
timeline_leads script next (AddTimeline id origin) fits made =
    let small : origin < 2 ^ 64 = omega (arith, fits.1) in
    main_leads script next (codes "timeline") (decimal id ∷ decimal origin ∷ []) (text_field (codes "timeline") refl, (id_field id fits.0, (plain_field (decimal origin) (decimal_plain origin small), tt)))
    refl refl (rw (id_back id fits.0, time_back origin fits.1) made)

change_of_model_leads : (script : ScriptLists) (next : ScriptState) (change : ModelChange) → IsModelChange change → step_made script (EditStep (OnModels change)) ≡ Ok next
    → TextLeads (at InMain script) (lines_of_model change) next
unfolding in_main step_said edit_said drop_model_said are_within
change_of_model_leads script next (AddModel model) fits made = model_leads script next model fits made
change_of_model_leads script next (RemoveModel id) fits made =
    main_leads script next (codes "drop-model") (decimal id ∷ []) (text_field (codes "drop-model") refl, (id_field id fits, tt))
    refl refl (rw (id_back id fits) made)

edit_leads : (script : ScriptLists) (next : ScriptState) (change : Change) → IsChange change → step_made script (EditStep change) ≡ Ok next
    → TextLeads (at InMain script) (edit_lines change) next
unfolding edit_lines
edit_leads script next (OnElements change) fits made = element_leads script next change fits made
edit_leads script next (OnTimelines change) fits made = timeline_leads script next change fits made
edit_leads script next (OnModels change) fits made = change_of_model_leads script next change fits made

pub step_leads : (script : ScriptLists) (next : ScriptState) (step : StepOfMain) → IsStep step → step_made script step ≡ Ok next → TextLeads (at InMain script) (step_lines step) next
unfolding in_main step_said are_within
step_leads script next (EditStep change) fits made = edit_leads script next change fits made
step_leads script next CommitStep fits made = main_leads script next (codes "commit") [] (text_field (codes "commit") refl, tt) refl refl made
step_leads script next DrainStep fits made = main_leads script next (codes "drain") [] (text_field (codes "drain") refl, tt) refl refl made
