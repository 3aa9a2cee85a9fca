-- Laws of groups.
use Rattle.std.proofs.Common.{Some, ◌==◌, ◌≡◌, ℕ, true, false, ◌&&◌, Option, List, ◌∷◌, ◌++◌, sym, ◌∙◌, subst, ◌⊎◌, inl, inr, append_assoc, refl}
use Rattle.std.specs.List.{list_any}
use Rattle.std.proofs.lemmas.Bool.{eq-eqb, false≢true, and_parts, eqb-true, false_from_ne_true}
use Rattle.anim_names.specs.declared.lane.Lane.{Lane}
use Rattle.keyframe_model.specs.Models.{Spec}
use Rattle.run_rules.specs.declared.mark.Mark.{Mark}
use Rattle.run_rules.specs.declared.mark.Mark.TheVariants.{OfModel}
use Rattle.run_rules.specs.declared.mark.ModelMark.TheVariants.{Finished, Aborted}
use Rattle.run_rules.specs.declared.compositor_step.CompositorStep.{CompositorStep}
use Rattle.run_rules.specs.declared.compositor_step.CompositorStep.TheVariants.{Tick}
use Rattle.tree_commit.specs.Trees.{TreeLists, Committed, has_element, has_model, groups_of}
use Rattle.run_rules.specs.Marks.{model_of, starts, starts_in, is_unfinished, is_ended, pending_allows, finish_marks, start_marks, marks_of_tick, of_model, is_start}
use Rattle.run_rules.specs.Scripts.{ScriptLists, IsWellFormed}
use Rattle.run_rules.specs.Runs.{Lanes, beginning, after}
use Rattle.run_rules.proofs.MarkLemmas.{says-model, unfinished-from}
use Rattle.anim_names.specs.Lists.{IsAmong}
use Rattle.run_laws.specs.Steps.{new_marks}
use Rattle.run_laws.specs.ActiveCommit.{MarkedAreActive}
use Rattle.run_laws.specs.Ends.{finishes, is_finished}
use Rattle.run_laws.specs.Groups.{StartsTogether, HasTarget, TargetsPresent, OneBlocker, FinishesTogether}
use Rattle.tree_commit.proofs.Among.{any-among, among-append_cases, any-cases}
use Rattle.run_laws.proofs.MarkFacts.{any-fewer}
use Rattle.run_laws.proofs.FinishFits.{finish-mark, running-parts}
use Rattle.run_laws.proofs.ActivationFits.{abort-mark}
use Rattle.run_laws.proofs.RunFits.{run_fits, run_after}
use Rattle.run_laws.proofs.StepLemmas.{IsNewMark, IsStart, new-mark, started-mark}

-- a new mark is a finish, a start or an abort
pub data Kind (lanes : Lanes) (mark : Mark) : Type 0 where
  by_finish : (time : ℕ) (model : Spec) → IsAmong model lanes.compositor.active.tree.models → is_unfinished lanes.compositor.marks model.id ≡ true → mark ≡ OfModel model.id (Finished time) → Kind lanes mark
  by_start : (time : ℕ) (left : List CompositorStep) → lanes.compositor.left ≡ Tick time ∷ left → IsStart lanes.compositor.active.tree lanes.compositor.pending lanes.compositor.marks time mark → Kind lanes mark
  by_abort : (commit : Committed) (model : Spec) → lanes.compositor.pending ≡ Some commit → IsAmong model lanes.compositor.active.tree.models → mark ≡ OfModel model.id (Aborted commit.number) → Kind lanes mark

pub kind_of : (lanes : Lanes) (mark : Mark) → IsNewMark lanes mark → Kind lanes mark
unfolding marks_of_tick
kind_of lanes mark (inl (time, left, next, a)) = go (among-append_cases mark ended (start_marks active pending (marks ++ ended) time (groups_of active)) a)
  where
    active : TreeLists
    active = lanes.compositor.active.tree

    pending : Option Committed
    pending = lanes.compositor.pending

    marks : List Mark
    marks = lanes.compositor.marks

    ended : List Mark
    ended = finish_marks active marks time

    go : IsAmong mark ended ⊎ IsAmong mark (start_marks active pending (marks ++ ended) time (groups_of active)) → Kind lanes mark
    go (inl f) = let found = finish-mark active marks time mark f in by_finish time found.0 found.1 found.2 found.4
    go (inr s) =
        let found = started-mark active pending time (groups_of active) (marks ++ ended) mark s in
        by_start time left next (record {
          so_far = found.so_far;
          goes_on = (ended ++ found.goes_on.0, found.goes_on.1 ∙ append_assoc marks ended found.goes_on.0);
          model = found.model;
          there = found.there;
          member = found.member;
          ready = found.ready;
          is = found.is;
        })
kind_of lanes mark (inr (commit, e, a)) =
    let found = abort-mark lanes.compositor.active.tree commit lanes.compositor.marks mark a in
    by_abort commit found.0 e found.1 found.3

-- a new mark is of a model of the active commit
IsOfActive : Lanes → Mark → Type 0
IsOfActive lanes mark = of_model (λ model what. has_model lanes.compositor.active.tree model) mark ≡ true

model_there : (tree : TreeLists) (model : Spec) → IsAmong model tree.models → has_model tree model.id ≡ true
model_there tree model there = any-among (λ other. model.id == other.id) model tree.models there (eq-eqb model.id model.id refl)

kind_there : (lanes : Lanes) (mark : Mark) → Kind lanes mark → IsOfActive lanes mark
unfolding IsOfActive
kind_there lanes mark (by_finish time model there running e) =
    subst (λ m. of_model (λ id what. has_model lanes.compositor.active.tree id) m ≡ true) (sym e) (model_there lanes.compositor.active.tree model there)
kind_there lanes mark (by_start time left next is) =
    subst (λ m. of_model (λ id what. has_model lanes.compositor.active.tree id) m ≡ true) (sym is.is) (model_there lanes.compositor.active.tree is.model is.there)
kind_there lanes mark (by_abort commit model pending there e) =
    subst (λ m. of_model (λ id what. has_model lanes.compositor.active.tree id) m ≡ true) (sym e) (model_there lanes.compositor.active.tree model there)

pub marked_are_active : (lanes : Lanes) (letter : Lane) → MarkedAreActive lanes letter
unfolding IsOfActive
marked_are_active lanes letter mark a = kind_there lanes mark (kind_of lanes mark (new-mark lanes letter mark a))

-- ---- starts

new_start : (lanes : Lanes) (group : ℕ) (mark : Mark) → Kind lanes mark → starts_in group mark ≡ true → list_any (starts_in group) lanes.compositor.marks ≡ false
new_start lanes group mark (by_finish time model there running e) s = absurd (false≢true (subst (λ m. starts_in group m ≡ true) e s))
new_start lanes group mark (by_start time left next is) s =
    let own : group ≡ is.model.group = eqb-true group is.model.group (subst (λ m. starts_in group m ≡ true) is.is s) in
    subst (λ g. list_any (starts_in g) lanes.compositor.marks ≡ false) (sym own)
    (any-fewer (starts_in is.model.group) lanes.compositor.marks is.goes_on.0 (subst (λ l. list_any (starts_in is.model.group) l ≡ false) is.goes_on.1 is.ready.unstarted))
new_start lanes group mark (by_abort commit model pending there e) s = absurd (false≢true (subst (λ m. starts_in group m ≡ true) e s))

pub starts_together : (script : ScriptLists) → IsWellFormed script → (word : List Lane) (letter : Lane) → StartsTogether (after (beginning script) word) letter
starts_together script well word letter = record {
  one_step = λ group h.
      let found = any-cases (starts_in group) (new_marks lanes letter) h in
      new_start lanes group found.0 (kind_of lanes found.0 (new-mark lanes letter found.0 found.1)) found.2;
  alike = (run_after script well word letter).compositor.marks.alike;
}
  where
    lanes : Lanes
    lanes = after (beginning script) word

has_target : (lanes : Lanes) (mark : Mark) → Kind lanes mark → HasTarget lanes mark
has_target lanes mark (by_finish time model there running e) = subst (λ m. HasTarget lanes m) (sym e) tt
has_target lanes mark (by_start time left next is) =
    let may = is.ready.may_start is.model is.member in
    let both = and_parts (has_element lanes.compositor.active.tree is.model.element && pending_allows lanes.compositor.pending is.model.group is.model.element) _ may in
    let parts = and_parts (has_element lanes.compositor.active.tree is.model.element) _ both.0 in
    subst (λ m. HasTarget lanes m) (sym is.is) (parts.0, parts.1)
has_target lanes mark (by_abort commit model pending there e) = subst (λ m. HasTarget lanes m) (sym e) tt

pub targets_present : (lanes : Lanes) (letter : Lane) → TargetsPresent lanes letter
targets_present lanes letter mark a = has_target lanes mark (kind_of lanes mark (new-mark lanes letter mark a))

pub one_blocker : (script : ScriptLists) → IsWellFormed script → (word : List Lane) → OneBlocker (after (beginning script) word).compositor.marks
one_blocker script well word = (run_fits script well word).compositor.marks.blocker

-- ---- finishes

-- a new finish is of a model that ran
new_finish : (lanes : Lanes) (id : ℕ) (mark : Mark) → Kind lanes mark → finishes id mark ≡ true → is_unfinished lanes.compositor.marks id ≡ true
new_finish lanes id mark (by_finish time model there running e) f =
    subst (λ i. is_unfinished lanes.compositor.marks i ≡ true) (sym (eqb-true id model.id (subst (λ m. finishes id m ≡ true) e f))) running
new_finish lanes id mark (by_start time left next is) f = absurd (false≢true (subst (λ m. finishes id m ≡ true) is.is f))
new_finish lanes id mark (by_abort commit model pending there e) f = absurd (false≢true (subst (λ m. finishes id m ≡ true) e f))

pub finishes_together : (script : ScriptLists) → IsWellFormed script → (word : List Lane) (letter : Lane) → FinishesTogether (after (beginning script) word) letter
finishes_together script well word letter group id done of_group = false_from_ne_true _ go
  where
    lanes : Lanes
    lanes = after (beginning script) word

    marks : List Mark
    marks = lanes.compositor.marks

    go : is_finished (new_marks lanes letter) id ≡ true → ⊥
    go again =
        let found = any-cases (finishes id) (new_marks lanes letter) again in
        let running = new_finish lanes id found.0 (kind_of lanes found.0 (new-mark lanes letter found.0 found.1)) found.2 in
        let its = any-cases (λ mark. starts_in group mark && starts id mark) marks of_group in
        let parts = and_parts (starts_in group its.0) _ its.2 in
        let same : id ≡ model_of its.0 = says-model is_start id its.0 parts.1 in
        let runs = unfinished-from marks group its.0 its.1 parts.0 (subst (λ i. is_ended marks i ≡ false) same (running-parts marks id running).1) in
        false≢true (sym ((run_fits script well word).compositor.marks.finished group done) ∙ runs)
