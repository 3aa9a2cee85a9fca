-- What is left of a script while it runs, and how large a run grows.
use Rattle.std.proofs.Common.{◌≡◌, ℕ, ◌+◌, ◌≤◌, nat_le, Bool, true, false, cond, Option, Some, None, List, [], ◌∷◌, ◌++◌, length, refl, sym, ap, ◌∙◌, subst, inl, inr, arith}
use Rattle.std.specs.Prelude.{IfSome, unsigned_abs, unwrap_or}
use Rattle.std.proofs.lemmas.Bool.{and_parts, leb-true}
use Rattle.std.proofs.lemmas.List.{append-nil, length-append}
use Rattle.anim_names.specs.declared.lane.Lane.{Lane}
use Rattle.anim_names.specs.declared.lane.Lane.TheVariants.{Main, Compositor}
use Rattle.anim_names.specs.declared.limit.TheConstants.{MOST_MODELS}
use Rattle.anim_timeline.specs.declared.TheConstants.{LAST_TIME}
use Rattle.keyframe_model.specs.Models.{Spec}
use Rattle.micro_time.specs.declared.TheConstants.{LARGEST_LOCAL}
use Rattle.run_laws.specs.Follows.{KnownWereAdded, PendingFollows}
use Rattle.run_laws.specs.Numbers.{EventsAreFew, LocalTimesAreSmall}
use Rattle.run_laws.proofs.EventLaws.{events_are_few}
use Rattle.run_laws.proofs.FollowLaws.{known_were_added, pending_follows}
use Rattle.run_laws.proofs.NumberLaws.{local_times_are_small}
use Rattle.run_laws.proofs.TreeLaws.{all-from_among}
use Rattle.run_laws.proofs.CompositorSteps.{by_step, makes-left, quiet-time, ticks-left}
use Rattle.run_laws.proofs.Births.{commits-edit}
use Rattle.run_rules.specs.declared.compositor_step.CompositorStep.{CompositorStep}
use Rattle.run_rules.specs.declared.compositor_step.CompositorStep.TheVariants.{Activate, Tick}
use Rattle.tree_commit.specs.declared.shown.Shown.{Shown}
use Rattle.tree_commit.specs.Trees.{local_time, next_commit}
use Rattle.tree_commit.specs.Edits.{Book, new_book, book_after}
use Rattle.anim_names.specs.Lists.{IsAmong}
use Rattle.run_rules.specs.Frames.{LocalTimesFit, shown_by}
use Rattle.run_rules.specs.Marks.{is_aborted, start_of}
use Rattle.run_rules.specs.Scripts.{StepOfMain, EditStep, CommitStep, DrainStep, ScriptLists, IsWellFormed, are_allowed, are_at_most, book_after_step, is_allowed, never_fall_from, ticks_of, time_of_tick}
use Rattle.run_rules.specs.Runs.{Lanes, after_drain, compositor_step, main_step}
use Rattle.word_machine.specs.Courses.{Course, course_after, course_of, opening}
use Rattle.word_machine.specs.Moments.{IsUnderWay, TicksAreLeft, model_count}
use Rattle.word_machine.proofs.CompositorTurns.{last_tick_after}
use Rattle.word_machine.proofs.Right.{course-append, lanes_of_course, next_compositor, next_main}

-- ---- what is left

pub opening_under_way : (script : ScriptLists) → IsWellFormed script → IsUnderWay script (opening script) new_book 0
opening_under_way script well = record {
  counted = refl;
  allowed = well.edits;
  main_steps = omega arith;
  compositor_steps = omega arith;
  ticks = record { order = well.order; times = well.times; ticks = λ tick h. h };
}

-- ---- main's step

pub first-allowed : (book : Book) (step : StepOfMain) (left : List StepOfMain) → are_allowed book (step ∷ left) ≡ true → (is_allowed book step ≡ true) × (are_allowed (book_after_step book step) left ≡ true)
unfolding are_allowed
first-allowed book step left h = and_parts (is_allowed book step) (are_allowed (book_after_step book step) left) h

pub main-left_next : (course : Course) (step : StepOfMain) (left : List StepOfMain) → (next_main course (step ∷ left)).lanes.main.left ≡ left
unfolding after_drain
main-left_next course (EditStep change) left = refl
main-left_next course CommitStep left = refl
main-left_next course DrainStep left = refl

pub counted-next : (course : Course) (step : StepOfMain) (left : List StepOfMain) (book : Book) → book.commits ≡ length course.lanes.main.commits → (book_after_step book step).commits ≡ length (next_main course (step ∷ left)).lanes.main.commits
unfolding after_drain book_after
counted-next course (EditStep change) left book is = commits-edit book change ∙ is
counted-next course CommitStep left book is =
    omega (arith, is, length-append course.lanes.main.commits (next_commit (length course.lanes.main.commits) course.lanes.main.tree ∷ []))
counted-next course DrainStep left book is = is

main-way : (script : ScriptLists) (course : Course) (step : StepOfMain) (left : List StepOfMain) (book : Book) (last_tick : ℕ) → course.lanes.main.left ≡ step ∷ left → IsUnderWay script course book last_tick → IsUnderWay script (next_main course (step ∷ left)) (book_after_step book step) last_tick
main-way script course step left book last_tick is h =
    let next : (next_main course (step ∷ left)).lanes.main.left ≡ left = main-left_next course step left in
    let length_is : length course.lanes.main.left ≡ length left + 1 = ap length is ∙ omega arith in
    record {
      counted = counted-next course step left book h.counted;
      allowed = ap (are_allowed (book_after_step book step)) next ∙ (first-allowed book step left (ap (are_allowed book) (sym is) ∙ h.allowed)).1;
      main_steps = omega (arith, h.main_steps, length_is, ap length next);
      compositor_steps = h.compositor_steps;
      ticks = h.ticks;
    }

pub main_under_way : (script : ScriptLists) (course : Course) (step : StepOfMain) (left : List StepOfMain) (book : Book) (last_tick : ℕ) → course.lanes.main.left ≡ step ∷ left → IsUnderWay script course book last_tick → IsUnderWay script (course_after course Main) (book_after_step book step) last_tick
unfolding main_step
main_under_way script course step left book last_tick is h =
    subst (λ (steps : List StepOfMain). IsUnderWay script (next_main course steps) (book_after_step book step) last_tick) (sym is) (main-way script course step left book last_tick is h)

-- ---- the compositor's step

pub compositor-left_next : (course : Course) (step : CompositorStep) (left : List CompositorStep) → (next_compositor course (step ∷ left)).lanes.compositor.left ≡ left
compositor-left_next course step left = makes-left course.lanes.main.commits step (record course.lanes.compositor { left = left })

-- a step that is no tick leaves all ticks
no-tick : (script : ScriptLists) (step : CompositorStep) (left : List CompositorStep) (last_tick : ℕ) → time_of_tick step ≡ None → TicksAreLeft script (step ∷ left) last_tick → TicksAreLeft script left (last_tick_after step last_tick)
no-tick script step left last_tick none h =
    let same = ticks-left step left none in
    subst (λ time. TicksAreLeft script left time) (sym (ap (λ time. unwrap_or time last_tick) none)) record {
      order = ap (λ ticks. never_fall_from last_tick ticks) (sym same) ∙ h.order;
      times = ap (λ ticks. are_at_most LAST_TIME ticks) (sym same) ∙ h.times;
      ticks = subst (λ ticks. (tick : ℕ) → IsAmong tick ticks → IsAmong tick (ticks_of script.compositor)) same h.ticks;
    }

pub ticks_go_on : (script : ScriptLists) (step : CompositorStep) (left : List CompositorStep) (last_tick : ℕ) → TicksAreLeft script (step ∷ left) last_tick → TicksAreLeft script left (last_tick_after step last_tick)
ticks_go_on script step left last_tick h =
    by_step (λ step. TicksAreLeft script (step ∷ left) last_tick → TicksAreLeft script left (last_tick_after step last_tick))
    (λ step quiet. no-tick script step left last_tick (quiet-time step quiet)) (no-tick script Activate left last_tick refl)
    (λ time h. record {
      order = (and_parts (nat_le last_tick time) (never_fall_from time (ticks_of left)) h.order).1;
      times = (and_parts (nat_le time LAST_TIME) (are_at_most LAST_TIME (ticks_of left)) h.times).1;
      ticks = λ tick is. h.ticks tick (inr is);
    }) step h

pub ticks_left : (script : ScriptLists) (course : Course) (left : List CompositorStep) (book : Book) (last_tick : ℕ) → course.lanes.compositor.left ≡ left → IsUnderWay script course book last_tick → TicksAreLeft script left last_tick
ticks_left script course left book last_tick is h =
    subst (λ (steps : List CompositorStep). TicksAreLeft script steps last_tick) is h.ticks

compositor-way : (script : ScriptLists) (course : Course) (step : CompositorStep) (left : List CompositorStep) (book : Book) (last_tick : ℕ) → course.lanes.compositor.left ≡ step ∷ left → IsUnderWay script course book last_tick → IsUnderWay script (next_compositor course (step ∷ left)) book (last_tick_after step last_tick)
compositor-way script course step left book last_tick is h =
    let next : (next_compositor course (step ∷ left)).lanes.compositor.left ≡ left = compositor-left_next course step left in
    let length_is : length course.lanes.compositor.left ≡ length left + 1 = ap length is ∙ omega arith in
    let go_on = ticks_go_on script step left last_tick (ticks_left script course (step ∷ left) book last_tick is h) in
    record {
      counted = h.counted;
      allowed = h.allowed;
      main_steps = h.main_steps;
      compositor_steps = omega (arith, h.compositor_steps, length_is, ap length next);
      ticks = subst (λ (steps : List CompositorStep). TicksAreLeft script steps (last_tick_after step last_tick)) (sym next) go_on;
    }

pub compositor_under_way : (script : ScriptLists) (course : Course) (step : CompositorStep) (left : List CompositorStep) (book : Book) (last_tick : ℕ) → course.lanes.compositor.left ≡ step ∷ left → IsUnderWay script course book last_tick → IsUnderWay script (course_after course Compositor) book (last_tick_after step last_tick)
unfolding compositor_step
compositor_under_way script course step left book last_tick is h =
    subst (λ (steps : List CompositorStep). IsUnderWay script (next_compositor course steps) book (last_tick_after step last_tick)) (sym is) (compositor-way script course step left book last_tick is h)

-- what the next tick is
pub record IsNextTick (script : ScriptLists) (last_tick time : ℕ) : Type 0 where
  pub later : last_tick ≤ time
  pub in_time : time ≤ LAST_TIME
  pub among : IsAmong time (ticks_of script.compositor)

pub next_tick : (script : ScriptLists) (time : ℕ) (left : List CompositorStep) (last_tick : ℕ) → TicksAreLeft script (Tick time ∷ left) last_tick → IsNextTick script last_tick time
next_tick script time left last_tick h = record {
  later = leb-true last_tick time (and_parts (nat_le last_tick time) (never_fall_from time (ticks_of left)) h.order).0;
  in_time = leb-true time LAST_TIME (and_parts (nat_le time LAST_TIME) (are_at_most LAST_TIME (ticks_of left)) h.times).0;
  among = h.ticks time (inl refl);
}

-- ---- lanes that have no step left

pub main-rests : (course : Course) → course.lanes.main.left ≡ [] → course_after course Main ≡ course
unfolding main_step
main-rests course is =
    ap (next_main course) is ∙ ap (λ entries. record course { entries = entries }) (append-nil course.entries)

pub compositor-rests : (course : Course) → course.lanes.compositor.left ≡ [] → course_after course Compositor ≡ course
unfolding compositor_step
compositor-rests course is =
    ap (next_compositor course) is ∙ ap (λ entries. record course { entries = entries }) (append-nil course.entries)

-- ---- how large a run grows

pub record IsBounded (script : ScriptLists) (lanes : Lanes) : Type 0 where
  pub follows : PendingFollows lanes
  pub known : KnownWereAdded script lanes
  pub locals : LocalTimesAreSmall script lanes
  pub events : EventsAreFew script lanes

pub bounded : (script : ScriptLists) → IsWellFormed script → (word : List Lane) → IsBounded script (course_of script word).lanes
bounded script well word = subst (λ (lanes : Lanes). IsBounded script lanes) (sym (lanes_of_course script word)) record {
  follows = pending_follows script well word;
  known = known_were_added script well word;
  locals = local_times_are_small script well word;
  events = events_are_few script well word;
}

-- a script never adds more models than may be added
pub few_models : (script : ScriptLists) → IsWellFormed script → model_count script ≤ MOST_MODELS
few_models script well = (known_were_added script well []).limit

-- the same after one more letter
pub bounded-next : (script : ScriptLists) → IsWellFormed script → (word : List Lane) (letter : Lane) → IsBounded script (course_after (course_of script word) letter).lanes
bounded-next script well word letter =
    subst (λ (course : Course). IsBounded script course.lanes) (course-append script word letter) (bounded script well (word ++ letter ∷ []))

-- each model that is shown at a tick of the script has a local time for which timings are defined
pub locals-fit : (script : ScriptLists) (lanes : Lanes) (tick : ℕ) → IsAmong tick (ticks_of script.compositor) → LocalTimesAreSmall script lanes → LocalTimesFit lanes.compositor.active.tree (shown_by lanes.compositor.marks) tick
locals-fit script lanes tick among small =
    all-from_among (λ model. IfSome (shown_by lanes.compositor.marks model.id) (λ s. unsigned_abs (local_time lanes.compositor.active.tree tick model s) ≤ LARGEST_LOCAL)) lanes.compositor.active.tree.models
    (λ model is. go model is (is_aborted lanes.compositor.marks model.id) (start_of lanes.compositor.marks model.id) refl)
  where
    go : (model : Spec) → IsAmong model lanes.compositor.active.tree.models → (aborted : Bool) (start : Option Shown) → start_of lanes.compositor.marks model.id ≡ start → IfSome (cond aborted None start) (λ s. unsigned_abs (local_time lanes.compositor.active.tree tick model s) ≤ LARGEST_LOCAL)
    go model is true start e = tt
    go model is false None e = tt
    go model is false (Some shown) e = small tick among model is shown e
