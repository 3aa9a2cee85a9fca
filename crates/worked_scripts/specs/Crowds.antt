-- Edits up to a limit, and one more.
use Rattle.std.specs.Prelude.{ℕ, ◌+◌, ◌*◌, List, [], ◌∷◌, ◌++◌, flat_map, replicate, Option, Some, None}
use Rattle.std.specs.List.{range_with_len}
use Rattle.anim_names.specs.declared.limit.LimitName.TheVariants.{Elements, Models}
use Rattle.tree_commit.specs.declared.edits.refusal.EditRefusal.{EditRefusal}
use Rattle.tree_commit.specs.declared.edits.refusal.EditRefusal.TheVariants.{Limit}
use Rattle.run_rules.specs.Scripts.{StepOfMain}
use Rattle.worked_scripts.specs.Pieces.{timeline_1, element, element_gone}
use Rattle.worked_scripts.specs.RefusedEdits.{fade, move, model_on}

-- One element comes and goes 256 times. Then it can come no more, and no other can.
abbrev pub element_steps : List StepOfMain
element_steps =
    flat_map (λ time. element 1 1000000 ∷ element_gone 1 ∷ []) (range_with_len 1 256)
    ++ (element 1 1000000 ∷ element 2 1000000 ∷ [])

abbrev pub element_reasons : List (Option EditRefusal)
element_reasons = replicate 512 None ++ (Some (Limit Elements) ∷ Some (Limit Elements) ∷ [])

-- 512 groups of two models, and one more group
abbrev pub pair_of : ℕ → List StepOfMain
pair_of group = model_on (2 * group) group 1 1 fade ∷ model_on (2 * group + 1) group 1 1 move ∷ []

abbrev pub model_steps : List StepOfMain
model_steps = timeline_1 ∷ (flat_map pair_of (range_with_len 1 512) ++ model_on 1 1000 1 1 fade ∷ [])

abbrev pub model_reasons : List (Option EditRefusal)
model_reasons = None ∷ (replicate 1024 None ++ Some (Limit Models) ∷ [])
