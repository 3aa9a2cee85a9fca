-- A model that is started and not ended is in the active commit.
use Rattle.std.proofs.Common.{◌≡◌, ℕ, ◌==◌, Bool, true, false, not, ◌&&◌, ◌||◌, cond, Option, Some, None, List, [], ◌∷◌, ◌++◌, map, filter, refl, sym, subst, ◌∙◌, ◌⊎◌, inl, inr}
use Rattle.std.specs.List.{list_any}
use Rattle.std.proofs.lemmas.Bool.{false≢true, eqb-true, or_cases, or_parts}
use Rattle.std.proofs.lemmas.List.Folds.{list_any-append}
use Rattle.anim_names.specs.declared.lane.Lane.{Lane}
use Rattle.anim_names.specs.declared.lane.Lane.TheVariants.{Main, Compositor}
use Rattle.run_rules.specs.declared.mark.Mark.{Mark}
use Rattle.run_rules.specs.declared.mark.Mark.TheVariants.{OfModel}
use Rattle.run_rules.specs.declared.mark.ModelMark.TheVariants.{Finished, Aborted}
use Rattle.run_rules.specs.declared.compositor_step.CompositorStep.{CompositorStep}
use Rattle.keyframe_model.specs.Models.{Spec}
use Rattle.tree_commit.specs.Trees.{TreeLists, Committed, members_of, groups_of, has_element, has_model}
use Rattle.run_rules.specs.Marks.{starts, ends, is_started, is_ended, is_unfinished, is_ready, is_lost, finishing_models, lost_models, start_mark, group_marks, finish_marks, start_marks, marks_of_tick, marks_of_activation, is_start}
use Rattle.run_laws.specs.ActiveCommit.{RunningIsActive}
use Rattle.run_laws.proofs.CompositorSteps.{by_step}
use Rattle.run_laws.proofs.FinishFits.{running-parts, running-whole}
use Rattle.run_rules.specs.Scripts.{ScriptLists}
use Rattle.run_rules.specs.Runs.{Lanes, CompositorLane, beginning, after_letter, after, after_activation, compositor_step, compositor_makes, compositor_takes}
use Rattle.run_rules.specs.declared.mark.ModelMark.{ModelMark}
use Rattle.run_rules.proofs.StepLemmas.{quiet-keeps}

-- ---- tests of lists

-- what passes behind a map and a filter passes in the list
any-map-filter : {X Y : Type 0} (p : Y → Bool) (f : X → Y) (q test : X → Bool) → ((x : X) → p (f x) ≡ q x) → (xs : List X) → list_any p (map f (filter test xs)) ≡ true → list_any q xs ≡ true
any-map-filter p f q test same [] h = h
any-map-filter {X} {Y} p f q test same (x ∷ xs) h = go (any-map-filter p f q test same xs) (test x) h (q x) (same x)
  where
    go : (list_any p (map f (filter test xs)) ≡ true → list_any q xs ≡ true) → (kept : Bool) → list_any p (map f (cond kept (x ∷ filter test xs) (filter test xs))) ≡ true → (passes : Bool) → p (f x) ≡ passes → (passes || list_any q xs) ≡ true
    go rest kept h true e = refl
    go rest true h false e = rest (rw e at h)
    go rest false h false e = rest h

-- where the same becomes of all models, and it is no start, none starts
none-started : (id : ℕ) (what : ModelMark) → is_start what ≡ false → (models : List Spec) → is_started (map (λ model. OfModel model.id what) models) id ≡ false
none-started id what no_start [] = refl
none-started id what no_start (model ∷ models) = rw no_start (none-started id what no_start models)

-- ---- whose starts are among new marks

-- each model that the marks start is in the tree
StartsHere : TreeLists → List Mark → Type 0
StartsHere tree marks = (id : ℕ) → is_started marks id ≡ true → has_model tree id ≡ true

none_start : (tree : TreeLists) → StartsHere tree []
unfolding StartsHere
none_start tree id h = absurd (false≢true h)

both_start : (tree : TreeLists) (xs ys : List Mark) → StartsHere tree xs → StartsHere tree ys → StartsHere tree (xs ++ ys)
unfolding StartsHere
both_start tree xs ys first second id h = go (or_cases _ _ (rw list_any-append at h))
  where
    go : (list_any (starts id) xs ≡ true) ⊎ (list_any (starts id) ys ≡ true) → has_model tree id ≡ true
    go (inl l) = first id l
    go (inr r) = second id r

group_start : (active : TreeLists) (pending : Option Committed) (marks : List Mark) (tick group : ℕ) → StartsHere active (group_marks active pending marks tick group)
unfolding StartsHere
group_start active pending marks tick group id h = go (is_ready active pending marks group) h
  where
    go : (ready : Bool) → is_started (cond ready (map (start_mark active tick) (members_of active group)) []) id ≡ true → has_model active id ≡ true
    go true e = any-map-filter (starts id) (start_mark active tick) (λ model. id == model.id) (λ model. group == model.group) (λ model. refl) active.models e
    go false e = absurd (false≢true e)

groups_start : (active : TreeLists) (pending : Option Committed) (marks : List Mark) (tick : ℕ) (groups : List ℕ) → StartsHere active (start_marks active pending marks tick groups)
unfolding start_marks
groups_start active pending marks tick [] = none_start active
groups_start active pending marks tick (group ∷ behind) =
    both_start active _ _ (group_start active pending marks tick group)
    (groups_start active pending (marks ++ group_marks active pending marks tick group) tick behind)

finish_start : (active : TreeLists) (marks : List Mark) (tick : ℕ) → StartsHere active (finish_marks active marks tick)
unfolding StartsHere finish_marks
finish_start active marks tick id h = absurd (false≢true (sym (none-started id (Finished tick) refl (finishing_models active marks tick)) ∙ h))

tick_start : (active : TreeLists) (pending : Option Committed) (marks : List Mark) (tick : ℕ) → StartsHere active (marks_of_tick active pending marks tick)
unfolding marks_of_tick
tick_start active pending marks tick =
    both_start active _ _ (finish_start active marks tick)
    (groups_start active pending (marks ++ finish_marks active marks tick) tick (groups_of active))

-- ---- what stays along a run

-- each model that the marks leave running is in the tree
RunsHere : TreeLists → List Mark → Type 0
RunsHere tree marks = (id : ℕ) → is_unfinished marks id ≡ true → has_model tree id ≡ true

runs_on : (tree : TreeLists) (marks new : List Mark) → RunsHere tree marks → StartsHere tree new → RunsHere tree (marks ++ new)
unfolding RunsHere StartsHere
runs_on tree marks new before starting id h = go (or_cases _ _ (rw list_any-append at parts.0))
  where
    parts : (is_started (marks ++ new) id ≡ true) × (is_ended (marks ++ new) id ≡ false)
    parts = running-parts (marks ++ new) id h

    go : (list_any (starts id) marks ≡ true) ⊎ (list_any (starts id) new ≡ true) → has_model tree id ≡ true
    go (inl l) = before id (running-whole marks id l (or_parts _ _ (rw list_any-append at parts.1)).0)
    go (inr r) = starting id r

-- a model of the old tree that is not ended and not in the new tree is among the lost
lost-ends : (new : TreeLists) (marks : List Mark) (number id : ℕ) → has_model new id ≡ false → is_ended marks id ≡ false → (models : List Spec) → list_any (λ model. id == model.id) models ≡ true → list_any (ends id) (map (λ model. OfModel model.id (Aborted number)) (filter (is_lost new marks) models)) ≡ true
lost-ends new marks number id gone unended [] h = h
lost-ends new marks number id gone unended (model ∷ models) h = go (lost-ends new marks number id gone unended models) (id == model.id) refl h (is_lost new marks model) refl
  where
    lost : List Spec
    lost = filter (is_lost new marks) models

    is_one : id == model.id ≡ true → is_lost new marks model ≡ true
    is_one same =
        let P : ℕ → Type 0 = λ n. (not (is_ended marks n) && (not (has_model new n) || (is_started marks n && not (has_element new model.element)))) ≡ true in
        subst P (eqb-true id model.id same) (rw (unended, gone) refl)

    go : (list_any (λ model. id == model.id) models ≡ true → list_any (ends id) (map (λ model. OfModel model.id (Aborted number)) lost) ≡ true) → (this : Bool) → id == model.id ≡ this → (this || list_any (λ model. id == model.id) models) ≡ true → (kept : Bool) → is_lost new marks model ≡ kept → list_any (ends id) (map (λ model. OfModel model.id (Aborted number)) (cond kept (model ∷ lost) lost)) ≡ true
    go rest true same h true e = rw same refl
    go rest true same h false e = absurd (false≢true (sym e ∙ is_one same))
    go rest false other h true e = rw other (rest h)
    go rest false other h false e = rest h

activation_runs : (active : TreeLists) (new : Committed) (marks : List Mark) → RunsHere active marks → RunsHere new.tree (marks ++ marks_of_activation active new marks)
unfolding RunsHere marks_of_activation
activation_runs active new marks before id h = go (has_model new.tree id) refl
  where
    lost : List Mark
    lost = map (λ model. OfModel model.id (Aborted new.number)) (filter (is_lost new.tree marks) active.models)

    parts : (is_started (marks ++ lost) id ≡ true) × (is_ended (marks ++ lost) id ≡ false)
    parts = running-parts (marks ++ lost) id h

    ended : (list_any (ends id) marks ≡ false) × (list_any (ends id) lost ≡ false)
    ended = or_parts _ _ (rw list_any-append at parts.1)

    there : (list_any (starts id) marks ≡ true) ⊎ (list_any (starts id) lost ≡ true) → has_model active id ≡ true
    there (inl l) = before id (running-whole marks id l ended.0)
    there (inr r) = absurd (false≢true (sym (none-started id (Aborted new.number) refl (lost_models active new.tree marks)) ∙ r))

    go : (has : Bool) → has_model new.tree id ≡ has → has_model new.tree id ≡ true
    go true e = e
    go false e = absurd (false≢true (sym ended.1 ∙ lost-ends new.tree marks new.number id e ended.0 active.models (there (or_cases _ _ (rw list_any-append at parts.0)))))

-- ---- each step keeps it

activate_runs : (pending : Option Committed) (lane : CompositorLane) → RunsHere lane.active.tree lane.marks → RunsHere (after_activation pending lane).active.tree (after_activation pending lane).marks
activate_runs None lane h = h
activate_runs (Some commit) lane h = activation_runs lane.active.tree commit lane.marks h

makes_runs : (commits : List Committed) (step : CompositorStep) (lane : CompositorLane) → RunsHere lane.active.tree lane.marks → RunsHere (compositor_makes commits step lane).active.tree (compositor_makes commits step lane).marks
makes_runs commits step lane h =
    by_step (λ step. RunsHere (compositor_makes commits step lane).active.tree (compositor_makes commits step lane).marks)
    (λ step quiet. let kept = quiet-keeps commits step lane quiet in rw (kept.active, kept.marks) h)
    (activate_runs lane.pending lane h)
    (λ time. runs_on lane.active.tree lane.marks _ h (tick_start lane.active.tree lane.pending lane.marks time)) step

takes_runs : (commits : List Committed) (left : List CompositorStep) (lane : CompositorLane) → RunsHere lane.active.tree lane.marks → RunsHere (compositor_takes commits left lane).active.tree (compositor_takes commits left lane).marks
takes_runs commits [] lane h = h
takes_runs commits (step ∷ left) lane h = makes_runs commits step (record lane { left = left }) h

letter_runs : (lanes : Lanes) (letter : Lane) → RunsHere lanes.compositor.active.tree lanes.compositor.marks → RunsHere (after_letter lanes letter).compositor.active.tree (after_letter lanes letter).compositor.marks
unfolding compositor_step
letter_runs lanes Main h = h
letter_runs lanes Compositor h = takes_runs lanes.main.commits lanes.compositor.left lanes.compositor h

word_runs : (lanes : Lanes) (word : List Lane) → RunsHere lanes.compositor.active.tree lanes.compositor.marks → RunsHere (after lanes word).compositor.active.tree (after lanes word).compositor.marks
unfolding after
word_runs lanes [] h = h
word_runs lanes (letter ∷ word) h = word_runs (after_letter lanes letter) word (letter_runs lanes letter h)

pub running_is_active : (script : ScriptLists) (word : List Lane) → RunningIsActive (after (beginning script) word)
unfolding RunsHere
running_is_active script word = word_runs (beginning script) word (λ id h. absurd (false≢true h))
