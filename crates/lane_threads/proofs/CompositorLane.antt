-- The compositor's lane goes on by a step: ahead of the word of the journal, or in a section of the lock.
use Rattle.std.proofs.Common.{◌≡◌, ℕ, ◌+◌, ◌-◌, ◌<◌, ◌≤◌, nat_lt, false, List, [], ◌∷◌, ◌++◌, drop, length, map, refl, sym, ap, ◌∙◌, subst, arith, length-drop}
use Rattle.std.proofs.lemmas.Bool.{ltb-false}
use Rattle.std.proofs.lemmas.List.{drop_all}
use Rattle.std.proofs.Math.Nat.{add_assoc, add-zero}
use Rattle.anim_names.specs.declared.entry.Entry.{Entry}
use Rattle.anim_names.specs.declared.lane.Lane.{Lane}
use Rattle.anim_names.specs.declared.lane.Lane.TheVariants.{Main, Compositor}
use Rattle.anim_names.specs.Lists.{BeginsWith}
use Rattle.commit_lock.specs.Journals.{entries_of}
use Rattle.commit_lock.specs.Seats.{SeatState}
use Rattle.frame_exchange.specs.Journals.{Exchange, word_so_far}
use Rattle.frame_exchange.specs.Sides.{CompositorState, compositor_after_activation, compositor_after_send, compositor_after_tick, new_compositor, news_of}
use Rattle.frame_script.specs.Printing.{script_text}
use Rattle.run_rules.specs.declared.compositor_step.CompositorStep.{CompositorStep}
use Rattle.run_rules.specs.declared.compositor_step.CompositorStep.TheVariants.{Activate, Tick}
use Rattle.run_rules.specs.declared.mark.Mark.{Mark}
use Rattle.run_rules.specs.Frames.{DrawnFrame}
use Rattle.run_rules.specs.Marks.{event_of}
use Rattle.run_rules.specs.Scripts.{IsWellFormed, ScriptLists, event_room}
use Rattle.run_rules.specs.Runs.{CompositorLane, after_activation, after_tick}
use Rattle.run_laws.specs.Steps.{marks_of_pending, marks_of_step}
use Rattle.run_laws.proofs.CompositorSteps.{by_mark}
use Rattle.word_machine.specs.Courses.{Course, board_of, compositor_of, course_after, course_of, made_with}
use Rattle.word_machine.specs.Moments.{TicksAreLeft, model_count}
use Rattle.word_machine.specs.Turns.{MayMakeCompositor, board_after_compositor, board_with_news, compositor_turned, frames_with}
use Rattle.word_machine.proofs.CompositorTurns.{activated-lane, activated-marks, activated-sent, board-turned_compositor, compositor-turned, event_room_after, frames-turned, last_tick_after, news-of_side, room_after_compositor, room_with, ticked-lane}
use Rattle.word_machine.proofs.Moments.{allows-after}
use Rattle.word_machine.proofs.Right.{course-append, course_is_right}
use Rattle.word_machine.proofs.UnderWay.{bounded-next, ticks_go_on}
use Rattle.lane_threads.specs.Knowing.{IsCompositorAhead, IsCompositorAt, IsNextOfCompositor, KnowsCompositor, marked, with_letters}
use Rattle.lane_threads.specs.Sections.{MayMark}
use Rattle.lane_threads.proofs.Halves.{HasSameCompositor, compositor-kept}
use Rattle.lane_threads.proofs.Letters.{journal-goes_on, letters-more, letters-none, letters-one}
use Rattle.lane_threads.proofs.MainLane.{no-entries}
use Rattle.word_machine.proofs.Letters.{left-after_compositor}

-- ---- a side that is that of a run

compositor-is : (compositor : CompositorState) (course : Course) (last_tick models : ℕ) → compositor ≡ compositor_of course last_tick models → compositor ≡ compositor_of course compositor.last_tick compositor.models
compositor-is compositor course last_tick models is =
    is ∙ ap (λ t. compositor_of course t models) (sym (ap (λ (c : CompositorState). c.last_tick) is))
    ∙ ap (λ m. compositor_of course compositor.last_tick m) (sym (ap (λ (c : CompositorState). c.models) is))

-- a course with this half of the compositor's
abbrev with_compositor : Course → CompositorLane → ℕ → Course
with_compositor course lane made = record course { lanes = record course.lanes { compositor = lane }; compositor_made = made }

compositor-of_same : (course other : Course) (last_tick models : ℕ) → HasSameCompositor course other → compositor_of course last_tick models ≡ compositor_of other last_tick models
compositor-of_same course other last_tick models same =
    ap (λ lane. compositor_of (with_compositor course lane course.compositor_made) last_tick models) same.lane
    ∙ ap (λ made. compositor_of (with_compositor course other.lanes.compositor made) last_tick models) same.made

-- the same after letters of main
pub compositor-moved : (script : ScriptLists) (others : ℕ) (word : List Lane) (compositor : CompositorState) (frames : List DrawnFrame) → IsCompositorAt script word compositor frames → IsCompositorAt script (with_letters Main others word) compositor frames
compositor-moved script others word compositor frames at =
    let same = compositor-kept script others word in
    record {
      of_compositor = at.of_compositor ∙ sym (compositor-of_same (course_of script (with_letters Main others word)) (course_of script word) compositor.last_tick compositor.models same);
      of_frames = at.of_frames ∙ sym (ap (λ (l : CompositorLane). l.frames) same.lane);
      of_left = ap (λ (l : CompositorLane). l.left) same.lane ∙ at.of_left;
      ticks = at.ticks;
      models = at.models;
    }

-- a side that is ahead of a word by nothing
pub compositor-level : (script : ScriptLists) (word : List Lane) (compositor : CompositorState) (frames : List DrawnFrame) → IsCompositorAt script word compositor frames → IsCompositorAhead script word 0 compositor frames
compositor-level script word compositor frames at =
    let same = letters-none Compositor word in
    record {
      at = subst (λ (w : List Lane). IsCompositorAt script w compositor frames) (sym same) at;
      made = ap (λ w. (course_of script w).compositor_made) same ∙ sym (add-zero (course_of script word).compositor_made);
      quiet = λ room queue_room. ap (λ w. board_of (course_of script w) room queue_room) same;
    }

-- ---- the next step

-- a step that is the next one is within the script
pub compositor-within : (script : ScriptLists) (made : ℕ) (step : CompositorStep) → IsNextOfCompositor script made step → made < length script.compositor
compositor-within script made step next =
    let rest : length (drop made script.compositor) ≡ length script.compositor - made = length-drop made script.compositor in
    omega (arith, rest, ap length next)

pub compositor_made-after : (course : Course) (step : CompositorStep) (left : List CompositorStep) → course.lanes.compositor.left ≡ step ∷ left → (course_after course Compositor).compositor_made ≡ course.compositor_made + 1
compositor_made-after course step left is = ap (made_with course.compositor_made) is

-- the ticks from the next step on
ticks-next : (script : ScriptLists) (word : List Lane) (compositor : CompositorState) (frames : List DrawnFrame) (step : CompositorStep) → IsCompositorAt script word compositor frames → IsNextOfCompositor script compositor.steps step → TicksAreLeft script (step ∷ drop (compositor.steps + 1) script.compositor) compositor.last_tick
ticks-next script word compositor frames step at next =
    subst (λ (steps : List CompositorStep). TicksAreLeft script steps compositor.last_tick) next at.ticks

pub compositor-next : (script : ScriptLists) (word : List Lane) (compositor later : CompositorState) (frames more : List DrawnFrame) (step : CompositorStep) (room queue_room : ℕ) → IsCompositorAt script word compositor frames → IsNextOfCompositor script compositor.steps step → later ≡ compositor_turned step (board_of (course_of script word) room queue_room) compositor → more ≡ frames_with step compositor frames → IsCompositorAt script (word ++ Compositor ∷ []) later more
compositor-next script word compositor later frames more step room queue_room at next made drawn =
    let course = course_of script word in
    let left = drop (compositor.steps + 1) script.compositor in
    let is : course.lanes.compositor.left ≡ step ∷ left = at.of_left ∙ next in
    let one : course_of script (word ++ Compositor ∷ []) ≡ course_after course Compositor = course-append script word Compositor in
    let tick = last_tick_after step compositor.last_tick in
    let turned : later ≡ compositor_of (course_after course Compositor) tick compositor.models =
    made ∙ ap (λ c. compositor_turned step (board_of course room queue_room) c) at.of_compositor
    ∙ compositor-turned course step left room queue_room compositor.last_tick compositor.models is (course_is_right script word) in
    let tick_is : later.last_tick ≡ tick = ap (λ (c : CompositorState). c.last_tick) turned in
    let steps_is : later.steps ≡ compositor.steps + 1 =
    ap (λ (c : CompositorState). c.steps) turned ∙ compositor_made-after course step left is ∙ ap (λ n. n + 1) (sym (ap (λ (c : CompositorState). c.steps) at.of_compositor)) in
    record {
      of_compositor = compositor-is later (course_of script (word ++ Compositor ∷ [])) tick compositor.models (turned ∙ ap (λ (c : Course). compositor_of c tick compositor.models) (sym one));
      of_frames = drawn ∙ ap (λ c. frames_with step c frames) at.of_compositor ∙ ap (λ f. frames_with step (compositor_of course compositor.last_tick compositor.models) f) at.of_frames
          ∙ frames-turned course step left compositor.last_tick compositor.models is ∙ ap (λ (c : Course). c.lanes.compositor.frames) (sym one);
      of_left = ap (λ (c : Course). c.lanes.compositor.left) one ∙ left-after_compositor course step left is ∙ ap (λ n. drop n script.compositor) (sym steps_is);
      ticks = subst (λ n. TicksAreLeft script (drop n script.compositor) later.last_tick) (sym steps_is)
          (subst (λ t. TicksAreLeft script left t) (sym tick_is)
          (ticks_go_on script step left compositor.last_tick (ticks-next script word compositor frames step at next)));
      models = omega (arith, at.models, ap (λ (c : CompositorState). c.models) turned);
    }

-- The compositor may make its next step on a board of the run.
pub compositor-may : (script : ScriptLists) → IsWellFormed script → (word : List Lane) (compositor : CompositorState) (frames : List DrawnFrame) (step : CompositorStep) (room queue_room : ℕ) → IsCompositorAt script word compositor frames → IsNextOfCompositor script compositor.steps step → 0 < room → event_room script ≤ queue_room + length (course_of script word).lanes.compositor.marks → MayMakeCompositor step compositor (board_of (course_of script word) room queue_room)
compositor-may script well word compositor frames step room queue_room at next some for_events =
    let course = course_of script word in
    let right = course_is_right script word in
    let steps_is : compositor.steps ≡ course.compositor_made = ap (λ (c : CompositorState). c.steps) at.of_compositor in
    let may : MayMakeCompositor step (compositor_of course compositor.last_tick compositor.models) (board_of course room queue_room) =
    record {
      complete = record { placed = refl; told = refl };
      steps = omega (arith, steps_is, compositor-within script compositor.steps step next, well.compositor_steps);
      room = some;
      later = right.compositor_upto;
      allows = allows-after script course step (drop (compositor.steps + 1) script.compositor) compositor.last_tick compositor.models room queue_room right (at.of_left ∙ next)
          (ticks-next script word compositor frames step at next) (bounded-next script well word Compositor) for_events at.models;
    } in
    subst (λ (c : CompositorState). MayMakeCompositor step c (board_of course room queue_room)) (sym at.of_compositor) may

-- ---- a step without new marks, ahead of the word

-- the news of a side that has made its marks are the events of these
pub news-are : (course : Course) (step : CompositorStep) (last_tick models : ℕ) → MayMark step → news_of (marked step (compositor_of course last_tick models)) ≡ map event_of (marks_of_step step course.lanes.compositor)
news-are course step last_tick models may =
    let lane = course.lanes.compositor in
    let side = compositor_of course last_tick models in
    by_mark (λ step. news_of (marked step side) ≡ map event_of (marks_of_step step lane))
    (news-of_side course (compositor_after_activation side) (after_activation lane.pending (record lane { left = [] })) (marks_of_pending lane.pending lane)
    (activated-sent course last_tick models lane.pending) (activated-marks course [] last_tick models lane.pending) (activated-lane lane.pending lane []))
    (λ time. news-of_side course (compositor_after_tick side time) (after_tick time (record lane { left = [] })) (marks_of_step (Tick time) lane) refl refl (ticked-lane time lane []))
    step may

no-marks : (marks : List Mark) → map event_of marks ≡ [] → marks ≡ []
no-marks [] e = refl
no-marks (mark ∷ marks) e = cc

-- nothing is to be sent
pub no-news : (side : CompositorState) → nat_lt side.sent (length side.marks) ≡ false → news_of side ≡ []
no-news side e = ap (map event_of) (drop_all side.sent side.marks (ltb-false side.sent (length side.marks) e))

-- what a step without news leaves of a board
still : (course : Course) (step : CompositorStep) (last_tick models room queue_room : ℕ) → MayMark step → news_of (marked step (compositor_of course last_tick models)) ≡ [] → board_after_compositor step (compositor_of course last_tick models) (board_of course room queue_room) ≡ board_of course room queue_room
still course step last_tick models room queue_room may none =
    let side = compositor_of course last_tick models in
    let board = board_of course room queue_room in
    by_mark (λ step. news_of (marked step side) ≡ [] → board_after_compositor step side board ≡ board)
    (λ none. ap (λ news. board_with_news (course.compositor_made + 1) news board) none)
    (λ time none. ap (λ news. board_with_news (course.compositor_made + 1) news board) none) step may none

rooms-still : (step : CompositorStep) (lane : CompositorLane) (room queue_room : ℕ) → MayMark step → marks_of_step step lane ≡ [] → (room_after_compositor step lane room ≡ room) × (event_room_after step lane queue_room ≡ queue_room)
rooms-still step lane room queue_room may none =
    by_mark (λ step. marks_of_step step lane ≡ [] → (room_after_compositor step lane room ≡ room) × (event_room_after step lane queue_room ≡ queue_room))
    (λ none. no-room (marks_of_step Activate lane) none) (λ time none. no-room (marks_of_step (Tick time) lane) none) step may none
  where
    minus-none : (n : ℕ) → n - 0 ≡ n
    minus-none n = omega arith

    no-room : (marks : List Mark) → marks ≡ [] → (room_with marks room ≡ room) × (queue_room - length marks ≡ queue_room)
    no-room marks none = (ap (λ marks. room_with marks room) none, ap (λ marks. queue_room - length marks) none ∙ minus-none queue_room)

step-is_quiet : (script : ScriptLists) (word : List Lane) (compositor : CompositorState) (frames : List DrawnFrame) (step : CompositorStep) → IsCompositorAt script word compositor frames → IsNextOfCompositor script compositor.steps step → MayMark step → news_of (marked step compositor) ≡ [] → (room queue_room : ℕ) → board_of (course_of script (word ++ Compositor ∷ [])) room queue_room ≡ board_of (course_of script word) room queue_room
step-is_quiet script word compositor frames step at next may none room queue_room =
    let course = course_of script word in
    let side = compositor_of course compositor.last_tick compositor.models in
    let none_here : news_of (marked step side) ≡ [] = ap (λ c. news_of (marked step c)) (sym at.of_compositor) ∙ none in
    let marks : marks_of_step step course.lanes.compositor ≡ [] =
    no-marks (marks_of_step step course.lanes.compositor) (sym (news-are course step compositor.last_tick compositor.models may) ∙ none_here) in
    let rooms = rooms-still step course.lanes.compositor room queue_room may marks in
    ap (λ (c : Course). board_of c room queue_room) (course-append script word Compositor)
    ∙ ap (λ r. board_of (course_after course Compositor) r queue_room) (sym rooms.0)
    ∙ ap (λ e. board_of (course_after course Compositor) (room_after_compositor step course.lanes.compositor room) e) (sym rooms.1)
    ∙ sym (board-turned_compositor course step (drop (compositor.steps + 1) script.compositor) room queue_room compositor.last_tick compositor.models (at.of_left ∙ next) (course_is_right script word))
    ∙ still course step compositor.last_tick compositor.models room queue_room may none_here

-- a step that makes marks leads to the side that has sent them
pub marked-turned : (step : CompositorStep) (board : Exchange) (compositor later : CompositorState) → MayMark step → later ≡ compositor_after_send (marked step compositor) → later ≡ compositor_turned step board compositor
marked-turned step board compositor later may is =
    by_mark (λ step. later ≡ compositor_after_send (marked step compositor) → later ≡ compositor_turned step board compositor) (λ is. is) (λ time is. is) step may is

compositor-rests : (script : ScriptLists) (word : List Lane) (silent : ℕ) (compositor later : CompositorState) (frames more : List DrawnFrame) (step : CompositorStep) → IsCompositorAhead script word silent compositor frames → IsNextOfCompositor script compositor.steps step → MayMark step → news_of (marked step compositor) ≡ [] → later ≡ compositor_after_send (marked step compositor) → more ≡ frames_with step compositor frames → IsCompositorAhead script word (silent + 1) later more
compositor-rests script word silent compositor later frames more step h next may none made drawn =
    let before = with_letters Compositor silent word in
    let one = letters-one Compositor silent word in
    record {
      at = subst (λ (w : List Lane). IsCompositorAt script w later more) (sym one)
          (compositor-next script before compositor later frames more step 0 0 h.at next (marked-turned step (board_of (course_of script before) 0 0) compositor later may made) drawn);
      made = ap (λ w. (course_of script w).compositor_made) one ∙ ap (λ (c : Course). c.compositor_made) (course-append script before Compositor)
          ∙ compositor_made-after (course_of script before) step (drop (compositor.steps + 1) script.compositor) (h.at.of_left ∙ next)
          ∙ ap (λ n. n + 1) h.made ∙ add_assoc (course_of script word).compositor_made silent 1;
      quiet = λ room queue_room. ap (λ w. board_of (course_of script w) room queue_room) one
          ∙ step-is_quiet script before compositor frames step h.at next may none room queue_room ∙ h.quiet room queue_room;
    }

-- The compositor knows what it knew, and of one step more, which had no news.
pub knows-quiet : (script : ScriptLists) (seat : SeatState) (compositor later : CompositorState) (frames more : List DrawnFrame) (step : CompositorStep) → KnowsCompositor script seat compositor frames → IsNextOfCompositor script compositor.steps step → MayMark step → news_of (marked step compositor) ≡ [] → later ≡ compositor_after_send (marked step compositor) → more ≡ frames_with step compositor frames → KnowsCompositor script seat later more
knows-quiet script seat compositor later frames more step h next may none made drawn = record {
  seat_is = h.seat_is;
  silent = h.silent + 1;
  ahead = λ others. compositor-rests script (with_letters Main others (word_so_far seat.seen)) h.silent compositor later frames more step (h.ahead others) next may none made drawn;
}

-- ---- the beginning

compositor-begins : (script : ScriptLists) → IsWellFormed script → (compositor : CompositorState) → compositor ≡ new_compositor compositor.models → model_count script ≤ compositor.models → IsCompositorAt script [] compositor []
unfolding course_of
compositor-begins script well compositor is room =
    let steps_is : compositor.steps ≡ 0 = ap (λ (c : CompositorState). c.steps) is in
    let tick_is : compositor.last_tick ≡ 0 = ap (λ (c : CompositorState). c.last_tick) is in
    record {
      of_compositor = compositor-is compositor (course_of script []) 0 compositor.models is;
      of_frames = refl;
      of_left = ap (λ n. drop n script.compositor) (sym steps_is);
      ticks = subst (λ n. TicksAreLeft script (drop n script.compositor) compositor.last_tick) (sym steps_is)
          (subst (λ t. TicksAreLeft script script.compositor t) (sym tick_is)
          (record { order = well.order; times = well.times; ticks = λ tick h. h }));
      models = room;
    }

pub knows-new_compositor : (script : ScriptLists) → IsWellFormed script → (seat : SeatState) (compositor : CompositorState) → compositor ≡ new_compositor compositor.models → model_count script ≤ compositor.models → seat.lane ≡ Compositor → seat.subject ≡ script_text script → seat.seen ≡ [] → seat.mine ≡ [] → KnowsCompositor script seat compositor []
knows-new_compositor script well seat compositor is room lane subject seen mine = record {
  seat_is = record {
    lane_is = lane;
    subject = subject;
    mine = mine ∙ sym (ap (entries_of Compositor) seen);
    history = seen ∙ no-entries script ∙ sym (ap (λ l. (course_of script (word_so_far l)).entries) seen);
  };
  silent = 0;
  ahead = λ others. compositor-level script (with_letters Main others (word_so_far seat.seen)) compositor []
      (compositor-moved script others (word_so_far seat.seen) compositor []
      (subst (λ (l : List Entry). IsCompositorAt script (word_so_far l) compositor []) (sym seen) (compositor-begins script well compositor is room)));
}

-- ---- what a lane finds

-- What a lane finds behind the lock is a run in which the compositor is as far ahead as it knew, whatever steps main makes
-- behind it.
pub compositor-ahead_of : (script : ScriptLists) (seat : SeatState) (compositor : CompositorState) (frames : List DrawnFrame) (journal : List Entry) (others : ℕ) → (h : KnowsCompositor script seat compositor frames) → BeginsWith journal seat.seen → entries_of seat.lane journal ≡ seat.mine → IsCompositorAhead script (with_letters Main others (word_so_far journal)) h.silent compositor frames
compositor-ahead_of script seat compositor frames journal others h begins own =
    let same : entries_of Compositor journal ≡ entries_of Compositor seat.seen =
    ap (λ l. entries_of l journal) (sym h.seat_is.lane_is) ∙ own ∙ h.seat_is.mine in
    let on = journal-goes_on Main seat.seen journal begins same in
    subst (λ (w : List Lane). IsCompositorAhead script w h.silent compositor frames)
    (letters-more Main on.more others (word_so_far seat.seen) ∙ ap (with_letters Main others) (sym on.is)) (h.ahead (on.more + others))

pub compositor-found : (script : ScriptLists) (seat : SeatState) (compositor : CompositorState) (frames : List DrawnFrame) (journal : List Entry) → (h : KnowsCompositor script seat compositor frames) → BeginsWith journal seat.seen → entries_of seat.lane journal ≡ seat.mine → IsCompositorAhead script (word_so_far journal) h.silent compositor frames
compositor-found script seat compositor frames journal h begins own =
    subst (λ (w : List Lane). IsCompositorAhead script w h.silent compositor frames) (letters-none Main (word_so_far journal))
    (compositor-ahead_of script seat compositor frames journal 0 h begins own)
