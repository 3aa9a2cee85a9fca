-- The numbers of a run stay small.
use Rattle.std.proofs.Common.{◌≡◌, ℕ, zero, suc, ◌+◌, ◌≤◌, ◌==◌, ℤ, pos, unsigned_abs, Bool, true, false, cond, Option, Some, None, List, [], ◌∷◌, ◌++◌, length, drop, refl, sym, ap, ◌∙◌, subst, ◌⊎◌, inl, inr, arith}
use Rattle.std.specs.Prelude.{IfSome, find, option_map, unwrap_or, nat_le, ◌-ℤ◌}
use Rattle.std.specs.List.{AllByRecursion}
use Rattle.std.proofs.lemmas.Bool.{and_parts, leb-true}
use Rattle.std.proofs.lemmas.Int.{ints}
use Rattle.std.proofs.lemmas.Option.{none-some}
use Rattle.anim_names.specs.declared.lane.Lane.{Lane}
use Rattle.anim_names.specs.declared.lane.Lane.TheVariants.{Main, Compositor}
use Rattle.anim_names.specs.Lanes.{letters_of}
use Rattle.anim_timeline.specs.declared.TheConstants.{LAST_TIME}
use Rattle.keyframe_model.specs.Models.{Spec, IsModel}
use Rattle.run_rules.specs.declared.mark.Mark.{Mark}
use Rattle.run_rules.specs.declared.mark.Mark.TheVariants.{OfModel}
use Rattle.run_rules.specs.declared.mark.ModelMark.TheVariants.{Started, Finished, Aborted}
use Rattle.tree_commit.specs.declared.shown.Shown.{Shown}
use Rattle.run_rules.specs.declared.compositor_step.CompositorStep.{CompositorStep}
use Rattle.run_rules.specs.declared.compositor_step.CompositorStep.TheVariants.{Tick}
use Rattle.tree_commit.specs.Trees.{TreeLists, Clock, Committed, empty_commit, next_commit, origin_of, time_of}
use Rattle.tree_commit.specs.Ranges.{IsChange}
use Rattle.tree_commit.specs.Edits.{OnModels, OnTimelines, OnElements, Change, AddTimeline, AddModel, tree_after}
use Rattle.run_rules.specs.Marks.{start_from, recorded_start, start_or}
use Rattle.run_rules.specs.Scripts.{ScriptLists, StepOfMain, EditStep, CommitStep, DrainStep, IsStep, IsWellFormed, ticks_of, are_at_most}
use Rattle.run_rules.specs.Runs.{Lanes, MainLane, beginning, after_letter, after, main_takes, main_step, after_drain, unheard_events}
use Rattle.run_rules.specs.declared.mark.ModelMark.{ModelMark}
use Rattle.anim_names.specs.Lists.{IsAmong}
use Rattle.run_laws.specs.Steps.{new_marks}
use Rattle.run_laws.specs.Shown.{lanes_at}
use Rattle.run_laws.specs.Numbers.{HasSmallStart, StartsAreSmall, LocalTimesAreSmall}
use Rattle.tree_commit.proofs.Among.{among-append_cases}
use Rattle.run_laws.proofs.Births.{Birth, birth, births, births_of-cases}
use Rattle.run_laws.proofs.RunFits.{run_fits, active_fits}
use Rattle.run_laws.proofs.MainSteps.{thin-heard}
use Rattle.run_laws.proofs.CountLaws.{compositor-left}
use Rattle.run_laws.proofs.StartFits.{among-cons_option}
use Rattle.run_laws.proofs.GroupLaws.{Kind, by_finish, by_start, by_abort, kind_of}
use Rattle.run_laws.proofs.StepLemmas.{new-mark, new-split}
use Rattle.run_laws.proofs.ShownLaws.{along_words, at_next}

-- ---- sizes of times

difference_small : (a b most : ℕ) → a ≤ most → b ≤ most → unsigned_abs (pos a -ℤ pos b) ≤ most
difference_small a b most x y = omega (arith, ints)

local_small : (time start : ℤ) (n m : ℕ) → unsigned_abs time ≤ n → unsigned_abs start ≤ m → unsigned_abs (time -ℤ start) ≤ n + m
local_small time start n m x y = omega (arith, ints)

-- ---- timelines

-- each timeline's zero is a time
abbrev SmallClocks : List Clock → Type 0
SmallClocks clocks = (clock : Clock) → IsAmong clock clocks → clock.origin ≤ LAST_TIME

origin-small : (clocks : List Clock) (id : ℕ) → SmallClocks clocks → unwrap_or (option_map (λ clock. clock.origin) (find (λ clock. id == clock.id) clocks)) 0 ≤ LAST_TIME
origin-small [] id h = omega arith
origin-small (clock ∷ clocks) id h = go (id == clock.id) (origin-small clocks id (λ c a. h c (inr a)))
  where
    go : (here : Bool) → unwrap_or (option_map (λ clock. clock.origin) (find (λ clock. id == clock.id) clocks)) 0 ≤ LAST_TIME → unwrap_or (option_map (λ clock. clock.origin) (cond here (Some clock) (find (λ clock. id == clock.id) clocks))) 0 ≤ LAST_TIME
    go true rest = h clock (inl refl)
    go false rest = rest

time-small : (tree : TreeLists) (tick : ℕ) (model : Spec) → SmallClocks tree.timelines → tick ≤ LAST_TIME → unsigned_abs (time_of tree tick model) ≤ LAST_TIME
time-small tree tick model h small = difference_small tick (origin_of tree model.timeline) LAST_TIME small (origin-small tree.timelines model.timeline h)

-- the timelines of main's tree and of its commits, and the steps that are left
record ClocksFit (lane : MainLane) : Type 0 where
  left : AllByRecursion IsStep lane.left
  tree : SmallClocks lane.tree.timelines
  commits : (commit : Committed) → IsAmong commit lane.commits → SmallClocks commit.tree.timelines

more-clocks : (clocks : List Clock) (new : Clock) → new.origin ≤ LAST_TIME → SmallClocks clocks → SmallClocks (clocks ++ new ∷ [])
more-clocks clocks new small h clock a = go (among-append_cases clock clocks (new ∷ []) a)
  where
    go : IsAmong clock clocks ⊎ IsAmong clock (new ∷ []) → clock.origin ≤ LAST_TIME
    go (inl old) = h clock old
    go (inr (inl e)) = subst (λ c. c.origin ≤ LAST_TIME) (sym e) small
    go (inr (inr b)) = absurd b

clocks-edit : (tree : TreeLists) (change : Change) → IsChange change → SmallClocks tree.timelines → SmallClocks (tree_after tree change).timelines
unfolding tree_after
clocks-edit tree (OnElements elements) is h = h
clocks-edit tree (OnTimelines (AddTimeline id origin)) is h = more-clocks tree.timelines (record { id = id; origin = origin }) is.1 h
clocks-edit tree (OnModels models) is h = h

clocks-next : (marks : List Mark) (left : List StepOfMain) (lane : MainLane) → lane.left ≡ left → ClocksFit lane → ClocksFit (main_takes marks left lane)
unfolding after_drain
clocks-next marks [] lane e h = h
clocks-next marks (EditStep change ∷ left) lane e h =
    let parts : IsChange change × AllByRecursion IsStep left = subst (λ steps. AllByRecursion IsStep steps) e h.left in
    record { left = parts.1; tree = clocks-edit lane.tree change parts.0 h.tree; commits = h.commits }
clocks-next marks (CommitStep ∷ left) lane e h =
    let parts : Unit {0} × AllByRecursion IsStep left = subst (λ steps. AllByRecursion IsStep steps) e h.left in
    record { left = parts.1; tree = h.tree; commits = λ commit a. go commit (among-append_cases commit lane.commits (next_commit (length lane.commits) lane.tree ∷ []) a) }
  where
    go : (commit : Committed) → IsAmong commit lane.commits ⊎ IsAmong commit (next_commit (length lane.commits) lane.tree ∷ []) → SmallClocks commit.tree.timelines
    go commit (inl old) = h.commits commit old
    go commit (inr (inl same)) = subst (λ c. SmallClocks c.tree.timelines) (sym same) h.tree
    go commit (inr (inr b)) = absurd b
clocks-next marks (DrainStep ∷ left) lane e h =
    let parts : Unit {0} × AllByRecursion IsStep left = subst (λ steps. AllByRecursion IsStep steps) e h.left in
    record { left = parts.1; tree = subst SmallClocks (sym (thin-heard lane.tree (unheard_events marks lane)).timelines) h.tree; commits = h.commits }

clocks_along : (lanes : Lanes) (word : List Lane) → ClocksFit lanes.main → ClocksFit (after lanes word).main
unfolding after main_step
clocks_along lanes [] h = h
clocks_along lanes (Main ∷ word) h = clocks_along (after_letter lanes Main) word (clocks-next lanes.compositor.marks lanes.main.left lanes.main refl h)
clocks_along lanes (Compositor ∷ word) h = clocks_along (after_letter lanes Compositor) word h

clocks_fit : (script : ScriptLists) → IsWellFormed script → (word : List Lane) → ClocksFit (after (beginning script) word).main
clocks_fit script well word = clocks_along (beginning script) word (record { left = well.ranges; tree = λ clock a. absurd a; commits = λ commit a. absurd a })

active_clocks : (script : ScriptLists) → IsWellFormed script → (word : List Lane) → SmallClocks (after (beginning script) word).compositor.active.tree.timelines
active_clocks script well word = go (run_fits script well word).compositor.active
  where
    go : IsAmong (after (beginning script) word).compositor.active (empty_commit ∷ (after (beginning script) word).main.commits) → SmallClocks (after (beginning script) word).compositor.active.tree.timelines
    go (inl e) = subst (λ c. SmallClocks c.tree.timelines) (sym e) (λ clock a. absurd a)
    go (inr a) = (clocks_fit script well word).commits (after (beginning script) word).compositor.active a

-- ---- ticks

at_most_all : (most n : ℕ) (ns : List ℕ) → are_at_most most ns ≡ true → IsAmong n ns → n ≤ most
at_most_all most n [] h a = absurd a
at_most_all most n (m ∷ ns) h (inl e) = subst (λ k. k ≤ most) (sym e) (leb-true m most (and_parts (nat_le m most) (are_at_most most ns) h).0)
at_most_all most n (m ∷ ns) h (inr a) = at_most_all most n ns (and_parts (nat_le m most) (are_at_most most ns) h).1 a

no_cons : {A : Type 0} (x : A) (xs : List A) → ◌≡◌ {A = List A} [] (x ∷ xs) → ⊥
no_cons x xs e = cc

tick_of-drop : (n : ℕ) (steps : List CompositorStep) (time : ℕ) (left : List CompositorStep) → drop n steps ≡ Tick time ∷ left → IsAmong time (ticks_of steps)
tick_of-drop zero steps time left e = subst (λ steps. IsAmong time (ticks_of steps)) (sym e) (inl refl)
tick_of-drop (suc n) [] time left e = absurd (no_cons (Tick time) left e)
tick_of-drop (suc n) (step ∷ steps) time left e = among-cons_option time _ (ticks_of steps) (tick_of-drop n steps time left e)

-- the next tick of a run is one of the script's
next_tick : (script : ScriptLists) → IsWellFormed script → (word : List Lane) (time : ℕ) (left : List CompositorStep) → (after (beginning script) word).compositor.left ≡ Tick time ∷ left → time ≤ LAST_TIME
next_tick script well word time left e =
    at_most_all LAST_TIME time (ticks_of script.compositor) well.times
    (tick_of-drop (letters_of Compositor word) script.compositor time left (sym (compositor-left (beginning script) word) ∙ e))

-- ---- recorded starts

-- the models that steps add are such as may be
born_models : (n : ℕ) (steps : List StepOfMain) (b : Birth) → AllByRecursion IsStep steps → IsAmong b (births n steps) → IsModel b.model
born_models n [] b h a = absurd a
born_models n (EditStep change ∷ steps) b h a = go (births_of-cases n change (births n steps) b a) (born_models n steps b h.1)
  where
    go : ((model : Spec) × (change ≡ OnModels (AddModel model)) × (b ≡ birth model n)) ⊎ IsAmong b (births n steps) → (IsAmong b (births n steps) → IsModel b.model) → IsModel b.model
    go (inl (model, same, e)) rest = subst (λ x. IsModel x.model) (sym e) (subst (λ c. IsChange c) same h.0)
    go (inr behind) rest = rest behind
born_models n (CommitStep ∷ steps) b h a = born_models (n + 1) steps b h.1 a
born_models n (DrainStep ∷ steps) b h a = born_models n steps b h.1 a

recorded-small : (start : Option ℕ) (time : ℤ) → IfSome start (λ start. start ≤ LAST_TIME) → unsigned_abs time ≤ LAST_TIME → unsigned_abs (recorded_start start time) ≤ LAST_TIME
recorded-small None time h small = small
recorded-small (Some start) time h small = h

new_start_small : (script : ScriptLists) → IsWellFormed script → (word : List Lane) (mark : Mark) → Kind (after (beginning script) word) mark → HasSmallStart mark
new_start_small script well word mark (by_finish time model there running e) = subst HasSmallStart (sym e) tt
new_start_small script well word mark (by_start time left next is) =
    let lanes : Lanes = after (beginning script) word in
    let fits = run_fits script well word in
    let when = (active_fits (births 0 script.main) fits.book lanes.main lanes.compositor.active fits.main fits.compositor.active).born_before is.model is.there in
    let may = born_models 0 script.main (birth is.model when.0) well.ranges when.1 in
    subst HasSmallStart (sym is.is)
    (recorded-small is.model.start (time_of lanes.compositor.active.tree time is.model) may.start
    (time-small lanes.compositor.active.tree time is.model (active_clocks script well word) (next_tick script well word time left next)))
new_start_small script well word mark (by_abort commit model pending there e) = subst HasSmallStart (sym e) tt

pub starts_are_small : (script : ScriptLists) → IsWellFormed script → (word : List Lane) → StartsAreSmall (after (beginning script) word).compositor.marks
unfolding after
starts_are_small script well word = along_words (λ word. StartsAreSmall (lanes_at script word).compositor.marks) (λ mark a. absurd a) next word
  where
    next : (word : List Lane) (letter : Lane) → StartsAreSmall (lanes_at script word).compositor.marks → StartsAreSmall (lanes_at script (word ++ letter ∷ [])).compositor.marks
    next word letter h mark a = go (among-append_cases mark (lanes_at script word).compositor.marks _ (subst (λ marks. IsAmong mark marks) (ap (λ lanes. lanes.compositor.marks) (at_next script word letter) ∙ new-split (lanes_at script word) letter) a))
      where
        go : IsAmong mark (lanes_at script word).compositor.marks ⊎ IsAmong mark (new_marks (lanes_at script word) letter) → HasSmallStart mark
        go (inl old) = h mark old
        go (inr new) = new_start_small script well word mark (kind_of (lanes_at script word) mark (new-mark (lanes_at script word) letter mark new))

-- ---- local times

shown-small : (index : ℕ) (marks : List Mark) (id : ℕ) (shown : Shown) → StartsAreSmall marks → start_from index marks id ≡ Some shown → unsigned_abs shown.start ≤ LAST_TIME
shown-small index [] id shown h e = absurd (none-some shown e)
shown-small index (OfModel model what ∷ marks) id shown h e =
    go what (id == model) (h (OfModel model what) (inl refl)) e (shown-small (index + 1) marks id shown (λ mark a. h mark (inr a)))
  where
    go : (what : ModelMark) (here : Bool) → HasSmallStart (OfModel model what) → start_or what here index (start_from (index + 1) marks id) ≡ Some shown → (start_from (index + 1) marks id ≡ Some shown → unsigned_abs shown.start ≤ LAST_TIME) → unsigned_abs shown.start ≤ LAST_TIME
    go (Started begun) true small e rest =
        let own : Shown = record { start = begun.start; order = index } in
        let same : own ≡ shown = ap (λ o. unwrap_or o own) e in
        subst (λ s. unsigned_abs s.start ≤ LAST_TIME) same small
    go (Started begun) false small e rest = rest e
    go (Finished at) here small e rest = rest e
    go (Aborted commit) here small e rest = rest e

pub local_times_are_small : (script : ScriptLists) → IsWellFormed script → (word : List Lane) → LocalTimesAreSmall script (after (beginning script) word)
local_times_are_small script well word tick a model there shown e =
    let lanes : Lanes = after (beginning script) word in
    let small : tick ≤ LAST_TIME = at_most_all LAST_TIME tick (ticks_of script.compositor) well.times a in
    let time : unsigned_abs (time_of lanes.compositor.active.tree tick model) ≤ LAST_TIME = time-small lanes.compositor.active.tree tick model (active_clocks script well word) small in
    let start : unsigned_abs shown.start ≤ LAST_TIME = shown-small 0 lanes.compositor.marks model.id shown (starts_are_small script well word) e in
    let both = local_small (time_of lanes.compositor.active.tree tick model) shown.start LAST_TIME LAST_TIME time start in
    omega (arith, both)
