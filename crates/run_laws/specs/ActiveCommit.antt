-- What is true of the active commit and its models.
use Rattle.std.specs.Prelude.{ℕ, IsTrue}
use Rattle.std.specs.List.{list_any}
use Rattle.anim_names.specs.declared.lane.Lane.{Lane}
use Rattle.keyframe_model.specs.Models.{Spec}
use Rattle.run_rules.specs.declared.mark.Mark.{Mark}
use Rattle.tree_commit.specs.Trees.{has_model}
use Rattle.run_rules.specs.Marks.{of_model, starts_in, is_started, is_ended, is_unfinished}
use Rattle.run_rules.specs.Runs.{Lanes}
use Rattle.anim_names.specs.Lists.{IsAmong}
use Rattle.run_laws.specs.Steps.{new_marks}
use Rattle.run_laws.specs.Groups.{StartsAgree}

-- Each mark that a step makes is of a model of the commit that was active before it.
abbrev pub MarkedAreActive : Lanes → Lane → Type 0
MarkedAreActive lanes letter =
    (mark : Mark) → IsAmong mark (new_marks lanes letter)
    → IsTrue (of_model (λ model what. has_model lanes.compositor.active.tree model) mark)

-- Each model that is started and not ended is in the active commit.
abbrev pub RunningIsActive : Lanes → Type 0
RunningIsActive lanes =
    (id : ℕ) → IsTrue (is_unfinished lanes.compositor.marks id) → IsTrue (has_model lanes.compositor.active.tree id)

-- Each model of the active commit that is ended had started.
abbrev pub EndedHadStarted : Lanes → Type 0
EndedHadStarted lanes =
    (model : Spec) → IsAmong model lanes.compositor.active.tree.models
    → IsTrue (is_ended lanes.compositor.marks model.id) → IsTrue (is_started lanes.compositor.marks model.id)

-- Where one model of a group started, each of the group's models in the active commit did, with one recorded start.
pub record GroupsAreWhole (lanes : Lanes) : Type 0 where
  pub started :
      (model : Spec) → IsAmong model lanes.compositor.active.tree.models
      → IsTrue (list_any (starts_in model.group) lanes.compositor.marks)
      → IsTrue (is_started lanes.compositor.marks model.id)
  pub alike : StartsAgree lanes.compositor.marks
