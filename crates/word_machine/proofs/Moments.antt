-- A replay goes from one moment to the next.
use Rattle.std.proofs.Common.{◌≡◌, ℕ, ◌+◌, ◌<◌, ◌≤◌, ◌^◌, ◌==◌, Bool, true, false, not, cond, Option, None, List, [], ◌∷◌, ◌++◌, length, map, refl, sym, ap, ◌∙◌, subst, arith}
use Rattle.std.specs.Prelude.{IsSomeAnd}
use Rattle.std.proofs.lemmas.List.{length-append, length-map}
use Rattle.std.proofs.lemmas.Bool.{not-false}
use Rattle.anim_names.specs.declared.event.AnimEvent.{AnimEvent}
use Rattle.anim_names.specs.declared.lane.Lane.{Lane}
use Rattle.anim_names.specs.declared.lane.Lane.TheVariants.{Main, Compositor}
use Rattle.event_queue.specs.Queues.{unheard}
use Rattle.frame_exchange.specs.Journals.{Exchange, IsExchange, drained, finds_nothing, last_pulled, published, sent}
use Rattle.frame_exchange.specs.Sides.{CompositorState, IsMainComplete, MainState, compositor_after_activation, compositor_after_tick, news_of, slot_of}
use Rattle.run_rules.specs.declared.compositor_step.CompositorStep.{CompositorStep}
use Rattle.run_rules.specs.declared.compositor_step.CompositorStep.TheVariants.{Pull, Activate, Tick}
use Rattle.run_rules.specs.declared.mark.Mark.{Mark}
use Rattle.tree_commit.specs.Trees.{Committed}
use Rattle.tree_commit.specs.Edits.{Book, new_book}
use Rattle.run_rules.specs.Frames.{DrawnFrame}
use Rattle.run_rules.specs.Marks.{event_of}
use Rattle.run_rules.specs.Scripts.{StepOfMain, EditStep, CommitStep, DrainStep, ScriptLists, IsWellFormed, are_allowed, book_after_step, event_room}
use Rattle.run_rules.specs.Runs.{CompositorLane, Lanes, MainLane, ReportLists, after_activation, after_drain, after_tick, closing_report, compositor_step, main_step, newest_commit, report_of, unheard_events, with_pending}
use Rattle.run_laws.specs.Steps.{marks_of_pending, marks_of_step}
use Rattle.word_machine.specs.Courses.{Course, board_of, compositor_of, course_after, course_of, in_mailbox, main_of, opening}
use Rattle.word_machine.specs.Moments.{HasRoom, IsAt, IsUnderWay, MayReplay, TicksAreLeft, model_count, Leaves, heard_out}
use Rattle.word_machine.specs.Turns.{AllowsStep, MayMakeCompositor, MayMakeMain, MayPlace, MaySend, board_after_compositor, board_after_main, compositor_turned, counts_with, frames_with, main_turned}
use Rattle.word_machine.proofs.CompositorTurns.{HasNew, activated-lane, activated-marks, activated-sent, board-turned_compositor, compositor-turned, event_room_after, frames-turned, last_tick_after, later-taken, mailbox-newer, news-of_side, nothing-taken, room_after_compositor, room_with, takes, ticked-lane}
use Rattle.word_machine.proofs.MainTurns.{board-turned_main, counts-turned, main-turned, may_make_main, room_after_main, same_board}
use Rattle.word_machine.proofs.Right.{IsRight, course-append, course_is_right, lanes_of_course, next_compositor, next_main, unheard-length}
use Rattle.word_machine.proofs.UnderWay.{IsBounded, bounded, bounded-next, compositor-left_next, compositor_under_way, first-allowed, compositor-rests, locals-fit, main-rests, main_under_way, next_tick, opening_under_way, ticks_left}
use Rattle.run_laws.proofs.ShownLaws.{none_of}
use Rattle.run_laws.proofs.CompositorSteps.{next-marks}

-- ---- a step of main

-- Main may make its next step.
pub main-may : (script : ScriptLists) → IsWellFormed script → (word : List Lane) (main : MainState) (compositor : CompositorState) (board : Exchange) (counts : List ℕ) (frames : List DrawnFrame) (step : StepOfMain) (left : List StepOfMain) → IsAt script word main compositor board counts frames → (course_of script word).lanes.main.left ≡ step ∷ left → MayMakeMain step main board
main-may script well word main compositor board counts frames step left at is =
    let course = course_of script word in
    let events = (bounded script well word).events in
    let way = at.under_way in
    let one_left : length course.lanes.main.left ≡ length left + 1 = ap length is ∙ omega arith in
    let may : MayMakeMain step (main_of course main.book main.room) (board_of course board.room board.queue.room) =
    may_make_main course step main.book board.room board.queue.room main.room (course_is_right script word) way.counted
    (first-allowed main.book step left (ap (are_allowed main.book) (sym is) ∙ way.allowed)).0
    (omega (arith, way.main_steps, one_left, well.main_steps))
    (omega (arith, at.rooms.for_entries, one_left))
    (omega (arith, at.rooms.for_batches, events.two_each))
    events.fit in
    subst (λ (b : Exchange). MayMakeMain step main b) (sym at.of_board)
    (subst (λ (m : MainState). MayMakeMain step m (board_of course board.room board.queue.room)) (sym at.of_main) may)

-- the rooms after a step of main
main-rooms : (script : ScriptLists) (course : Course) (step : StepOfMain) (left : List StepOfMain) (batch_room models room queue_room : ℕ) → course.lanes.main.left ≡ step ∷ left → HasRoom script course batch_room models room queue_room → HasRoom script (next_main course (step ∷ left)) batch_room models (room_after_main step room) queue_room
unfolding after_drain
main-rooms script course (EditStep change) left batch_room models room queue_room is h =
    record { for_entries = omega (arith, h.for_entries, ap length is); for_events = h.for_events; for_batches = h.for_batches; for_models = h.for_models }
main-rooms script course CommitStep left batch_room models room queue_room is h =
    record { for_entries = omega (arith, h.for_entries, ap length is); for_events = h.for_events; for_batches = h.for_batches; for_models = h.for_models }
main-rooms script course DrainStep left batch_room models room queue_room is h =
    record { for_entries = omega (arith, h.for_entries, ap length is); for_events = h.for_events; for_batches = h.for_batches; for_models = h.for_models }

main-rooms_after : (script : ScriptLists) (course : Course) (step : StepOfMain) (left : List StepOfMain) (batch_room models room queue_room : ℕ) → course.lanes.main.left ≡ step ∷ left → HasRoom script course batch_room models room queue_room → HasRoom script (course_after course Main) batch_room models (room_after_main step room) queue_room
unfolding main_step
main-rooms_after script course step left batch_room models room queue_room is h =
    subst (λ (steps : List StepOfMain). HasRoom script (next_main course steps) batch_room models (room_after_main step room) queue_room) (sym is) (main-rooms script course step left batch_room models room queue_room is h)

-- sides, a board and lists that are those of a run
pub at-run : (script : ScriptLists) (word : List Lane) (course : Course) (main : MainState) (compositor : CompositorState) (board : Exchange) (counts : List ℕ) (frames : List DrawnFrame) (book : Book) (batch_room last_tick models room queue_room : ℕ) → course ≡ course_of script word → main ≡ main_of course book batch_room → compositor ≡ compositor_of course last_tick models → board ≡ board_of course room queue_room → counts ≡ course.lanes.main.counts → frames ≡ course.lanes.compositor.frames → IsUnderWay script course book last_tick → HasRoom script course batch_room models room queue_room → IsAt script word main compositor board counts frames
at-run script word course main compositor board counts frames book batch_room last_tick models room queue_room same m c b n f way rooms =
    let book_is : book ≡ main.book = sym (ap (λ (s : MainState). s.book) m) in
    let batch_is : batch_room ≡ main.room = sym (ap (λ (s : MainState). s.room) m) in
    let tick_is : last_tick ≡ compositor.last_tick = sym (ap (λ (s : CompositorState). s.last_tick) c) in
    let models_is : models ≡ compositor.models = sym (ap (λ (s : CompositorState). s.models) c) in
    let room_is : room ≡ board.room = sym (ap (λ (s : Exchange). s.room) b) in
    let event_is : queue_room ≡ board.queue.room = sym (ap (λ (s : Exchange). s.queue.room) b) in
    record {
      of_main = m ∙ ap (λ x. main_of course x batch_room) book_is ∙ ap (λ x. main_of course main.book x) batch_is ∙ ap (λ x. main_of x main.book main.room) same;
      of_compositor = c ∙ ap (λ x. compositor_of course x models) tick_is ∙ ap (λ x. compositor_of course compositor.last_tick x) models_is ∙ ap (λ x. compositor_of x compositor.last_tick compositor.models) same;
      of_board = b ∙ ap (λ x. board_of course x queue_room) room_is ∙ ap (λ x. board_of course board.room x) event_is ∙ ap (λ x. board_of x board.room board.queue.room) same;
      of_counts = n ∙ ap (λ (x : Course). x.lanes.main.counts) same;
      of_frames = f ∙ ap (λ (x : Course). x.lanes.compositor.frames) same;
      under_way = subst (λ (x : Course). IsUnderWay script x main.book compositor.last_tick) same
          (subst (λ x. IsUnderWay script course main.book x) tick_is (subst (λ x. IsUnderWay script course x last_tick) book_is way));
      rooms = subst (λ (x : Course). HasRoom script x main.room compositor.models board.room board.queue.room) same
          (subst (λ x. HasRoom script course main.room compositor.models board.room x) event_is
          (subst (λ x. HasRoom script course main.room compositor.models x queue_room) room_is
          (subst (λ x. HasRoom script course main.room x room queue_room) models_is
          (subst (λ x. HasRoom script course x models room queue_room) batch_is rooms))));
    }

pub main-next : (script : ScriptLists) (word : List Lane) (main later : MainState) (compositor : CompositorState) (board after : Exchange) (counts more : List ℕ) (frames : List DrawnFrame) (step : StepOfMain) (left : List StepOfMain) → IsAt script word main compositor board counts frames → (course_of script word).lanes.main.left ≡ step ∷ left → later ≡ main_turned step board main → after ≡ board_after_main step main board → more ≡ counts_with step later counts → IsAt script (word ++ Main ∷ []) later compositor after more frames
main-next script word main later compositor board after counts more frames step left at is made noted counted =
    let course = course_of script word in
    let book = book_after_step main.book step in
    let right = course_is_right script word in
    let turned : later ≡ main_of (course_after course Main) book main.room =
    made ∙ ap (λ b. main_turned step b main) at.of_board
    ∙ ap (λ m. main_turned step (board_of course board.room board.queue.room) m) at.of_main
    ∙ main-turned course step left main.book board.room board.queue.room main.room is in
    at-run script (word ++ Main ∷ []) (course_after course Main) later compositor after more frames book main.room compositor.last_tick compositor.models (room_after_main step board.room) board.queue.room
    (sym (course-append script word Main))
    turned
    at.of_compositor
    (noted ∙ ap (λ b. board_after_main step main b) at.of_board
    ∙ ap (λ m. board_after_main step m (board_of course board.room board.queue.room)) at.of_main
    ∙ board-turned_main course step left main.book board.room board.queue.room main.room is right at.under_way.counted)
    (counted ∙ ap (λ m. counts_with step m counts) turned ∙ ap (λ n. counts_with step (main_of (course_after course Main) book main.room) n) at.of_counts
    ∙ counts-turned course step left book main.room is)
    at.of_frames
    (main_under_way script course step left main.book compositor.last_tick is at.under_way)
    (main-rooms_after script course step left main.room compositor.models board.room board.queue.room is at.rooms)

-- ---- a step of the compositor

-- the marks after a step of the compositor: those before it, and new ones
pub new-marks : (course : Course) (step : CompositorStep) (left : List CompositorStep) → length (next_compositor course (step ∷ left)).lanes.compositor.marks ≡ length course.lanes.compositor.marks + length (marks_of_step step course.lanes.compositor)
new-marks course step left =
    let lane = course.lanes.compositor in
    ap length (next-marks course.lanes.main.commits step left lane) ∙ length-append lane.marks (marks_of_step step lane)

-- there is room for the events of new marks
may-send : (script : ScriptLists) (course : Course) (side : CompositorState) (lane : CompositorLane) (new : List Mark) (room queue_room : ℕ) → side.sent ≡ length course.lanes.compositor.marks → side.marks ≡ lane.marks → HasNew lane course.lanes.compositor new → length course.lanes.compositor.marks + length new ≤ event_room script → length course.lanes.compositor.marks + length new < 2 ^ 32 → event_room script ≤ queue_room + length course.lanes.compositor.marks → MaySend side (board_of course room queue_room)
may-send script course side lane new room queue_room sent marks h few fit rooms =
    let news : length (news_of side) ≡ length new = ap length (news-of_side course side lane new sent marks h) ∙ length-map new event_of in
    let events : length (map event_of course.lanes.compositor.marks) ≡ length course.lanes.compositor.marks = length-map course.lanes.compositor.marks event_of in
    record { event_room = omega (arith, news, few, rooms); few = omega (arith, news, events, fit) }

-- a commit that is taken may be placed
may-place : (script : ScriptLists) (course : Course) (left : List CompositorStep) (last_tick models : ℕ) (taken : Bool) → takes course.lanes.compositor.pending course.lanes.compositor.pulled (newest_commit course.lanes.main.commits) ≡ taken → taken ≡ true → IsBounded script (record course.lanes { compositor = cond taken (with_pending (newest_commit course.lanes.main.commits) (record course.lanes.compositor { left = left })) (record course.lanes.compositor { left = left }) }) → model_count script ≤ models → IsSomeAnd (in_mailbox course.lanes) (MayPlace (compositor_of course last_tick models))
may-place script course left last_tick models false is some bound room = cc
may-place script course left last_tick models true is some bound room =
    subst (λ (m : Option Committed). IsSomeAnd m (MayPlace (compositor_of course last_tick models)))
    (sym (mailbox-newer course (later-taken course.lanes.compositor.pending course.lanes.compositor.pulled (newest_commit course.lanes.main.commits) is)))
    record {
      follows = bound.follows;
      room = λ ids distinct known. omega (arith, bound.known.at_most ids distinct known, room);
    }

-- what the step asks beside room and completeness
allows-next : (script : ScriptLists) (course : Course) (step : CompositorStep) (left : List CompositorStep) (last_tick models room queue_room : ℕ) → IsRight course → TicksAreLeft script (step ∷ left) last_tick → IsBounded script (next_compositor course (step ∷ left)).lanes → event_room script ≤ queue_room + length course.lanes.compositor.marks → model_count script ≤ models → AllowsStep step (compositor_of course last_tick models) (board_of course room queue_room)
allows-next script course Pull left last_tick models room queue_room right ticks bound rooms known =
    let pending = course.lanes.compositor.pending in
    let taken = takes pending course.lanes.compositor.pulled (newest_commit course.lanes.main.commits) in
    let nothing : finds_nothing course.entries (slot_of pending) ≡ not taken = nothing-taken course right pending taken refl in
    λ found.
    subst (λ (b : Bool). IsSomeAnd (cond b None (in_mailbox course.lanes)) (MayPlace (compositor_of course last_tick models))) (sym found)
    (may-place script course left last_tick models taken refl (not-false taken (sym nothing ∙ found)) bound known)
allows-next script course Activate left last_tick models room queue_room right ticks bound rooms known =
    let lane = course.lanes.compositor in
    let count = new-marks course Activate left in
    may-send script course (compositor_after_activation (compositor_of course last_tick models)) (after_activation lane.pending (record lane { left = left })) (marks_of_pending lane.pending lane) room queue_room
    (activated-sent course last_tick models lane.pending) (activated-marks course left last_tick models lane.pending) (activated-lane lane.pending lane left)
    (omega (arith, count, bound.events.two_each)) (omega (arith, count, bound.events.fit)) rooms
allows-next script course (Tick time) left last_tick models room queue_room right ticks bound rooms known =
    let lane = course.lanes.compositor in
    let count = new-marks course (Tick time) left in
    let next = next_tick script time left last_tick ticks in (
      record {
        later = next.later;
        in_time = next.in_time;
        locals = locals-fit script (next_compositor course (Tick time ∷ left)).lanes time next.among bound.locals;
      },
      may-send script course (compositor_after_tick (compositor_of course last_tick models) time) (after_tick time (record lane { left = left })) (marks_of_step (Tick time) lane) room queue_room
          refl refl (ticked-lane time lane left)
          (omega (arith, count, bound.events.two_each)) (omega (arith, count, bound.events.fit)) rooms,
    )

pub allows-after : (script : ScriptLists) (course : Course) (step : CompositorStep) (left : List CompositorStep) (last_tick models room queue_room : ℕ) → IsRight course → course.lanes.compositor.left ≡ step ∷ left → TicksAreLeft script (step ∷ left) last_tick → IsBounded script (course_after course Compositor).lanes → event_room script ≤ queue_room + length course.lanes.compositor.marks → model_count script ≤ models → AllowsStep step (compositor_of course last_tick models) (board_of course room queue_room)
unfolding compositor_step
allows-after script course step left last_tick models room queue_room right is ticks bound rooms known =
    allows-next script course step left last_tick models room queue_room right ticks
    (subst (λ (steps : List CompositorStep). IsBounded script (next_compositor course steps).lanes) is bound) rooms known

-- The compositor may make its next step.
pub compositor-may : (script : ScriptLists) → IsWellFormed script → (word : List Lane) (main : MainState) (compositor : CompositorState) (board : Exchange) (counts : List ℕ) (frames : List DrawnFrame) (step : CompositorStep) (left : List CompositorStep) → IsAt script word main compositor board counts frames → (course_of script word).lanes.compositor.left ≡ step ∷ left → MayMakeCompositor step compositor board
compositor-may script well word main compositor board counts frames step left at is =
    let course = course_of script word in
    let way = at.under_way in
    let right = course_is_right script word in
    let one_left : length course.lanes.compositor.left ≡ length left + 1 = ap length is ∙ omega arith in
    let may : MayMakeCompositor step (compositor_of course compositor.last_tick compositor.models) (board_of course board.room board.queue.room) =
    record {
      complete = record { placed = refl; told = refl };
      steps = omega (arith, way.compositor_steps, one_left, well.compositor_steps);
      room = omega (arith, at.rooms.for_entries, one_left);
      later = right.compositor_upto;
      allows = allows-after script course step left compositor.last_tick compositor.models board.room board.queue.room right is
          (ticks_left script course (step ∷ left) main.book compositor.last_tick is way)
          (bounded-next script well word Compositor) at.rooms.for_events at.rooms.for_models;
    } in
    subst (λ (b : Exchange). MayMakeCompositor step compositor b) (sym at.of_board)
    (subst (λ (c : CompositorState). MayMakeCompositor step c (board_of course board.room board.queue.room)) (sym at.of_compositor) may)

-- the rooms after a step of the compositor
pub with-room : (new : List Mark) (room left : ℕ) → left + 1 ≤ room → left ≤ room_with new room
with-room [] room left h = omega (arith, h)
with-room (mark ∷ new) room left h = omega (arith, h)

pub room-left : (step : CompositorStep) (lane : CompositorLane) (room left : ℕ) → left + 1 ≤ room → left ≤ room_after_compositor step lane room
room-left Pull lane room left h = omega (arith, h)
room-left Activate lane room left h = with-room (marks_of_step Activate lane) room left h
room-left (Tick time) lane room left h = with-room (marks_of_step (Tick time) lane) room left h

pub events-left : (step : CompositorStep) (lane : CompositorLane) (queue_room marks after most : ℕ) → after ≡ marks + length (marks_of_step step lane) → most ≤ queue_room + marks → most ≤ event_room_after step lane queue_room + after
events-left step lane queue_room marks after most is h = omega (arith, is, h)

compositor-rooms : (script : ScriptLists) (course : Course) (step : CompositorStep) (left : List CompositorStep) (batch_room models room queue_room : ℕ) → course.lanes.compositor.left ≡ step ∷ left → HasRoom script course batch_room models room queue_room → HasRoom script (next_compositor course (step ∷ left)) batch_room models (room_after_compositor step course.lanes.compositor room) (event_room_after step course.lanes.compositor queue_room)
compositor-rooms script course step left batch_room models room queue_room is h =
    let next = compositor-left_next course step left in
    record {
      for_entries = room-left step course.lanes.compositor room (length course.lanes.main.left + length (next_compositor course (step ∷ left)).lanes.compositor.left) (omega (arith, h.for_entries, ap length is, ap length next));
      for_events = events-left step course.lanes.compositor queue_room (length course.lanes.compositor.marks) (length (next_compositor course (step ∷ left)).lanes.compositor.marks) (event_room script) (new-marks course step left) h.for_events;
      for_batches = h.for_batches;
      for_models = h.for_models;
    }

compositor-rooms_after : (script : ScriptLists) (course : Course) (step : CompositorStep) (left : List CompositorStep) (batch_room models room queue_room : ℕ) → course.lanes.compositor.left ≡ step ∷ left → HasRoom script course batch_room models room queue_room → HasRoom script (course_after course Compositor) batch_room models (room_after_compositor step course.lanes.compositor room) (event_room_after step course.lanes.compositor queue_room)
unfolding compositor_step
compositor-rooms_after script course step left batch_room models room queue_room is h =
    subst (λ (steps : List CompositorStep). HasRoom script (next_compositor course steps) batch_room models (room_after_compositor step course.lanes.compositor room) (event_room_after step course.lanes.compositor queue_room)) (sym is)
    (compositor-rooms script course step left batch_room models room queue_room is h)

pub compositor-next : (script : ScriptLists) (word : List Lane) (main : MainState) (compositor later : CompositorState) (board after : Exchange) (counts : List ℕ) (frames more : List DrawnFrame) (step : CompositorStep) (left : List CompositorStep) → IsAt script word main compositor board counts frames → (course_of script word).lanes.compositor.left ≡ step ∷ left → later ≡ compositor_turned step board compositor → after ≡ board_after_compositor step compositor board → more ≡ frames_with step compositor frames → IsAt script (word ++ Compositor ∷ []) main later after counts more
compositor-next script word main compositor later board after counts frames more step left at is made noted drawn =
    let course = course_of script word in
    let right = course_is_right script word in
    at-run script (word ++ Compositor ∷ []) (course_after course Compositor) main later after counts more main.book main.room (last_tick_after step compositor.last_tick) compositor.models
    (room_after_compositor step course.lanes.compositor board.room) (event_room_after step course.lanes.compositor board.queue.room)
    (sym (course-append script word Compositor))
    at.of_main
    (made ∙ ap (λ b. compositor_turned step b compositor) at.of_board
    ∙ ap (λ c. compositor_turned step (board_of course board.room board.queue.room) c) at.of_compositor
    ∙ compositor-turned course step left board.room board.queue.room compositor.last_tick compositor.models is right)
    (noted ∙ ap (λ b. board_after_compositor step compositor b) at.of_board
    ∙ ap (λ c. board_after_compositor step c (board_of course board.room board.queue.room)) at.of_compositor
    ∙ board-turned_compositor course step left board.room board.queue.room compositor.last_tick compositor.models is right)
    at.of_counts
    (drawn ∙ ap (λ c. frames_with step c frames) at.of_compositor ∙ ap (λ f. frames_with step (compositor_of course compositor.last_tick compositor.models) f) at.of_frames
    ∙ frames-turned course step left compositor.last_tick compositor.models is)
    (compositor_under_way script course step left main.book compositor.last_tick is at.under_way)
    (compositor-rooms_after script course step left main.room compositor.models board.room board.queue.room is at.rooms)

-- ---- a letter whose lane has no step left

rests : (script : ScriptLists) (word : List Lane) (letter : Lane) (main : MainState) (compositor : CompositorState) (board : Exchange) (counts : List ℕ) (frames : List DrawnFrame) → course_after (course_of script word) letter ≡ course_of script word → IsAt script word main compositor board counts frames → IsAt script (word ++ letter ∷ []) main compositor board counts frames
rests script word letter main compositor board counts frames same at =
    at-run script (word ++ letter ∷ []) (course_of script word) main compositor board counts frames main.book main.room compositor.last_tick compositor.models board.room board.queue.room
    (sym same ∙ sym (course-append script word letter)) at.of_main at.of_compositor at.of_board at.of_counts at.of_frames at.under_way at.rooms

pub at-main_rest : (script : ScriptLists) (word : List Lane) (main : MainState) (compositor : CompositorState) (board : Exchange) (counts : List ℕ) (frames : List DrawnFrame) → (course_of script word).lanes.main.left ≡ [] → IsAt script word main compositor board counts frames → IsAt script (word ++ Main ∷ []) main compositor board counts frames
at-main_rest script word main compositor board counts frames is at =
    rests script word Main main compositor board counts frames (main-rests (course_of script word) is) at

pub at-compositor_rest : (script : ScriptLists) (word : List Lane) (main : MainState) (compositor : CompositorState) (board : Exchange) (counts : List ℕ) (frames : List DrawnFrame) → (course_of script word).lanes.compositor.left ≡ [] → IsAt script word main compositor board counts frames → IsAt script (word ++ Compositor ∷ []) main compositor board counts frames
at-compositor_rest script word main compositor board counts frames is at =
    rests script word Compositor main compositor board counts frames (compositor-rests (course_of script word) is) at

-- ---- the beginning

no_events : (events : List AnimEvent) → 0 ≡ length events → events ≡ []
no_events [] e = refl
no_events (event ∷ events) e = absurd (omega (arith, e))

pub at_beginning : (script : ScriptLists) → IsWellFormed script → (main : MainState) (compositor : CompositorState) (board : Exchange) → IsExchange board → MayReplay script main compositor board → IsAt script [] main compositor board [] []
unfolding course_of
at_beginning script well main compositor board is may =
    at-run script [] (opening script) main compositor board [] [] new_book main.room 0 compositor.models board.room board.queue.room
    refl may.new_main may.new_compositor
    (same_board board.queue.room board.room may.no_entry
    (none_of board.mailbox (is.empty ∙ ap (λ entries. published entries == last_pulled entries) may.no_entry))
    (no_events board.queue.events (sym (ap sent may.no_entry) ∙ is.all_sent))
    (sym is.all_drained ∙ ap drained may.no_entry))
    refl refl (opening_under_way script well)
    record {
      for_entries = may.entry_room;
      for_events = omega (arith, may.queue_room);
      for_batches = may.batch_room;
      for_models = may.models;
    }

-- ---- the end

-- what the closing drain asks
pub record MayClose (main : MainState) (board : Exchange) : Type 0 where
  pub complete : IsMainComplete main
  pub batch_room : length (unheard board.queue) ≤ main.room
  pub few : main.heard + length (unheard board.queue) < 2 ^ 32

pub may_close : (script : ScriptLists) → IsWellFormed script → (word : List Lane) (main : MainState) (compositor : CompositorState) (board : Exchange) (counts : List ℕ) (frames : List DrawnFrame) → IsAt script word main compositor board counts frames → MayClose main board
may_close script well word main compositor board counts frames at =
    let course = course_of script word in
    let right = course_is_right script word in
    let events = (bounded script well word).events in
    let news = unheard-length course.lanes.compositor.marks course.lanes.main in
    let may : MayClose (main_of course main.book main.room) (board_of course board.room board.queue.room) =
    record {
      complete = record { published = refl; heard = refl };
      batch_room = omega (arith, news, at.rooms.for_batches, events.two_each);
      few = omega (arith, news, right.heard, events.fit);
    } in
    subst (λ (b : Exchange). MayClose main b) (sym at.of_board)
    (subst (λ (m : MainState). MayClose m (board_of course board.room board.queue.room)) (sym at.of_main) may)

closing-count : (marks : List Mark) (lane : MainLane) → lane.counts ++ (length lane.heard + length (unheard_events marks lane)) ∷ [] ≡ (after_drain marks lane).counts
unfolding after_drain
closing-count marks lane = ap (λ n. lane.counts ++ n ∷ []) (sym (length-append lane.heard (unheard_events marks lane)))

-- what a board and main's side say at the end makes the report
pub report-is : (script : ScriptLists) (word : List Lane) (main : MainState) (compositor : CompositorState) (board : Exchange) (counts : List ℕ) (frames : List DrawnFrame) → IsAt script word main compositor board counts frames → record { word = word; frames = frames; events = board.queue.events; heard = counts ++ (main.heard + length (unheard board.queue)) ∷ [] } ≡ report_of script word
unfolding closing_report
report-is script word main compositor board counts frames at =
    let course = course_of script word in
    let lanes = lanes_of_course script word in
    ap (λ (f : List DrawnFrame). a_report word f board.queue.events (counts ++ (main.heard + length (unheard board.queue)) ∷ [])) at.of_frames
    ∙ ap (λ (c : List ℕ). a_report word course.lanes.compositor.frames board.queue.events (c ++ (main.heard + length (unheard board.queue)) ∷ [])) at.of_counts
    ∙ ap (λ (m : MainState). a_report word course.lanes.compositor.frames board.queue.events (course.lanes.main.counts ++ (m.heard + length (unheard board.queue)) ∷ [])) at.of_main
    ∙ ap (λ (b : Exchange). a_report word course.lanes.compositor.frames b.queue.events (course.lanes.main.counts ++ (length course.lanes.main.heard + length (unheard b.queue)) ∷ [])) at.of_board
    ∙ ap (λ (c : List ℕ). a_report word course.lanes.compositor.frames (map event_of course.lanes.compositor.marks) c) (closing-count course.lanes.compositor.marks course.lanes.main)
    ∙ ap (λ (l : Lanes). closing_report word l) lanes
  where
    a_report : List Lane → List DrawnFrame → List AnimEvent → List ℕ → ReportLists
    a_report word frames events heard = record { word = word; frames = frames; events = events; heard = heard }

-- a report of these lists
pub report-made : (script : ScriptLists) (word : List Lane) (main : MainState) (compositor : CompositorState) (board : Exchange) (counts : List ℕ) (frames : List DrawnFrame) → IsAt script word main compositor board counts frames → (report : ReportLists) (letters : List Lane) (events : List AnimEvent) (heard : List ℕ) → report ≡ record { word = letters; frames = frames; events = events; heard = heard } → letters ≡ word → events ≡ board.queue.events → heard ≡ counts ++ (main.heard + length (unheard board.queue)) ∷ [] → report ≡ report_of script word
report-made script word main compositor board counts frames at report letters events heard is w e h =
    is
    ∙ ap (λ (x : List Lane). a_report x events heard) w
    ∙ ap (λ (x : List AnimEvent). a_report word x heard) e
    ∙ ap (λ (x : List ℕ). a_report word board.queue.events x) h
    ∙ report-is script word main compositor board counts frames at
  where
    a_report : List Lane → List AnimEvent → List ℕ → ReportLists
    a_report word events heard = record { word = word; frames = frames; events = events; heard = heard }

-- what is left once main has heard the rest
pub leaves-heard : (script : ScriptLists) (word : List Lane) (main : MainState) (compositor : CompositorState) (board : Exchange) (counts : List ℕ) (frames : List DrawnFrame)
    → IsAt script word main compositor board counts frames → (ended : MainState) → ended ≡ heard_out main (unheard board.queue)
    → Leaves script word ended compositor board
leaves-heard script word main compositor board counts frames at ended heard =
    let book = ap (λ (m : MainState). m.book) heard in
    let room = ap (λ (m : MainState). m.room) heard in
    record {
      of_board = at.of_board;
      of_compositor = at.of_compositor;
      of_main = heard ∙ ap (λ (m : MainState). heard_out m (unheard board.queue)) at.of_main
          ∙ (λ i. heard_out (main_of (course_of script word) (sym book i) (sym room i)) (unheard board.queue));
    }
