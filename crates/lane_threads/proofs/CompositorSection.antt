-- A section of the lock in which the compositor makes its next step: what is kept behind the lock after it, and what the
-- compositor knows.
use Rattle.std.proofs.Common.{◌≡◌, ℕ, ◌+◌, ◌-◌, ◌<◌, ◌≤◌, List, [], ◌∷◌, ◌++◌, drop, length, refl, sym, ap, ◌∙◌, subst, arith}
use Rattle.std.proofs.lemmas.List.{length-map}
use Rattle.anim_names.specs.declared.entry.Entry.{Entry}
use Rattle.anim_names.specs.declared.event.AnimEvent.{AnimEvent}
use Rattle.anim_names.specs.declared.lane.Lane.{Lane}
use Rattle.anim_names.specs.declared.lane.Lane.TheVariants.{Main, Compositor}
use Rattle.anim_names.specs.Lanes.{letters_of}
use Rattle.commit_lock.specs.Journals.{entries_of}
use Rattle.commit_lock.specs.Seats.{SeatState, seat_after}
use Rattle.frame_exchange.specs.Journals.{Exchange, filled, pull_entry, send_entry, word_so_far}
use Rattle.frame_exchange.specs.Sides.{CompositorState, compositor_after_activation, compositor_after_tick, news_of, slot_of}
use Rattle.frame_script.specs.Printing.{script_text}
use Rattle.run_rules.specs.declared.compositor_step.CompositorStep.{CompositorStep}
use Rattle.run_rules.specs.declared.compositor_step.CompositorStep.TheVariants.{Pull, Activate, Tick}
use Rattle.run_rules.specs.Frames.{DrawnFrame}
use Rattle.run_rules.specs.Marks.{event_of}
use Rattle.run_rules.specs.Runs.{compositor_step}
use Rattle.run_rules.specs.Scripts.{event_room}
use Rattle.run_laws.specs.Steps.{marks_of_step}
use Rattle.word_machine.specs.Courses.{Course, board_of, course_after, course_of}
use Rattle.word_machine.specs.Turns.{MayMakeCompositor, board_after_compositor, board_with_news, compositor_turned, frames_with}
use Rattle.word_machine.proofs.CompositorTurns.{board-turned_compositor, event_room_after, room_after_compositor}
use Rattle.word_machine.proofs.Moments.{events-left, new-marks}
use Rattle.word_machine.proofs.Right.{course_is_right, next_compositor}
use Rattle.lane_threads.specs.Keeping.{IsKeptBehindLock, ScriptBoard, course_at}
use Rattle.lane_threads.specs.Knowing.{IsCompositorAhead, IsCompositorAt, IsNextOfCompositor, KnowsCompositor, with_letters}
use Rattle.lane_threads.proofs.CompositorLane.{compositor-level, compositor-may, compositor-moved, compositor-next, compositor-within, compositor_made-after}
use Rattle.lane_threads.proofs.Halves.{course-one, main-kept}
use Rattle.lane_threads.proofs.Letters.{filled-up, letters-one, letters-other, letters-own, word-one_more}
use Rattle.lane_threads.proofs.MainSection.{board-is}

-- the step of a side makes an entry: a pull does, and what makes marks where there are news
abbrev pub NotesOne : CompositorStep → CompositorState → Type 0
NotesOne Pull compositor = Unit {0}
NotesOne Activate compositor = 0 < length (news_of (compositor_after_activation compositor))
NotesOne (Tick time) compositor = 0 < length (news_of (compositor_after_tick compositor time))

-- the entry that the step makes
record HasNoted (before after : Exchange) (upto : ℕ) : Type 0 where
  entry : Entry
  entries : after.entries ≡ before.entries ++ entry ∷ []
  lane : entry.lane ≡ Compositor
  upto_is : entry.upto ≡ upto
  room : after.room ≡ before.room - 1

told-noted : (upto : ℕ) (news : List AnimEvent) (board : Exchange) → 0 < length news → HasNoted board (board_with_news upto news board) upto
told-noted upto [] board some = absurd (omega (arith, some))
told-noted upto (event ∷ events) board some = record { entry = send_entry upto (event ∷ events); entries = refl; lane = refl; upto_is = refl; room = refl }

noted : (step : CompositorStep) (compositor : CompositorState) (board : Exchange) → NotesOne step compositor → HasNoted board (board_after_compositor step compositor board) (compositor.steps + 1)
noted Pull compositor board one = record { entry = pull_entry board.entries (compositor.steps + 1) (slot_of compositor.pending); entries = refl; lane = refl; upto_is = refl; room = refl }
noted Activate compositor board one = told-noted (compositor.steps + 1) (news_of (compositor_after_activation compositor)) board one
noted (Tick time) compositor board one = told-noted (compositor.steps + 1) (news_of (compositor_after_tick compositor time)) board one

marks-after : (course : Course) (step : CompositorStep) (left : List CompositorStep) → course.lanes.compositor.left ≡ step ∷ left → length (course_after course Compositor).lanes.compositor.marks ≡ length course.lanes.compositor.marks + length (marks_of_step step course.lanes.compositor)
unfolding compositor_step
marks-after course step left is =
    ap (λ steps. length (next_compositor course steps).lanes.compositor.marks) is ∙ new-marks course step left

-- ---- before the step, and after it

module _ (shared : ScriptBoard) (kept : IsKeptBehindLock shared) (silent : ℕ) (compositor : CompositorState) (frames : List DrawnFrame)
    (h : IsCompositorAhead shared.script (word_so_far shared.board.entries) silent compositor frames)
    (step : CompositorStep) (next : IsNextOfCompositor shared.script compositor.steps step) where
  -- the run in which the compositor is ahead
  abbrev ahead : Course
  ahead = course_of shared.script (with_letters Compositor silent (word_so_far shared.board.entries))

  steps-are : compositor.steps ≡ (course_at shared).compositor_made + silent
  steps-are = ap (λ (c : CompositorState). c.steps) h.at.of_compositor ∙ h.made

  some-room : 0 < shared.board.room
  some-room = omega (arith, steps-are, compositor-within shared.script compositor.steps step next, kept.for_entries, kept.main_within)

  -- the steps ahead made no marks
  marks-same : length ahead.lanes.compositor.marks ≡ length (course_at shared).lanes.compositor.marks
  marks-same =
      sym (length-map ahead.lanes.compositor.marks event_of)
      ∙ ap (λ (b : Exchange). length b.queue.events) (h.quiet 0 0)
      ∙ length-map (course_at shared).lanes.compositor.marks event_of

  board-ahead : shared.board ≡ board_of ahead shared.board.room shared.board.queue.room
  board-ahead = kept.of_board ∙ sym (h.quiet shared.board.room shared.board.queue.room)

  for-events_ahead : event_room shared.script ≤ shared.board.queue.room + length ahead.lanes.compositor.marks
  for-events_ahead = omega (arith, marks-same, kept.for_events)

  pub compositor-may_here : MayMakeCompositor step compositor shared.board
  compositor-may_here =
      subst (λ (b : Exchange). MayMakeCompositor step compositor b) (sym board-ahead)
      (compositor-may shared.script kept.well (with_letters Compositor silent (word_so_far shared.board.entries)) compositor frames step shared.board.room shared.board.queue.room h.at next some-room for-events_ahead)

  module _ (after : Exchange) (made : after ≡ board_after_compositor step compositor shared.board) (one : NotesOne step compositor) where
    word-after : word_so_far after.entries ≡ with_letters Compositor (silent + 1) (word_so_far shared.board.entries)
    word-after =
        let note = noted step compositor shared.board one in
        let word = word_so_far shared.board.entries in
        ap (λ (b : Exchange). word_so_far b.entries) made ∙ ap word_so_far note.entries ∙ word-one_more shared.board.entries note.entry
        ∙ ap (λ l. filled l note.entry.upto word) note.lane
        ∙ filled-up Compositor note.entry.upto (silent + 1) word (omega (arith, note.upto_is, steps-are, kept.compositor_made))

    -- the run after the step
    course-is : course_of shared.script (word_so_far after.entries) ≡ course_after ahead Compositor
    course-is = ap (course_of shared.script) word-after ∙ course-one shared.script Compositor silent (word_so_far shared.board.entries)

    board-after : after ≡ board_of (course_of shared.script (word_so_far after.entries)) (room_after_compositor step ahead.lanes.compositor shared.board.room) (event_room_after step ahead.lanes.compositor shared.board.queue.room)
    board-after =
        made ∙ ap (λ b. board_after_compositor step compositor b) board-ahead
        ∙ ap (λ c. board_after_compositor step c (board_of ahead shared.board.room shared.board.queue.room)) h.at.of_compositor
        ∙ board-turned_compositor ahead step (drop (compositor.steps + 1) shared.script.compositor) shared.board.room shared.board.queue.room compositor.last_tick compositor.models (h.at.of_left ∙ next)
        (course_is_right shared.script (with_letters Compositor silent (word_so_far shared.board.entries)))
        ∙ ap (λ c. board_of c (room_after_compositor step ahead.lanes.compositor shared.board.room) (event_room_after step ahead.lanes.compositor shared.board.queue.room)) (sym course-is)

    main_made-same : (course_of shared.script (word_so_far after.entries)).main_made ≡ (course_at shared).main_made
    main_made-same =
        ap (λ (w : List Lane). (course_of shared.script w).main_made) word-after
        ∙ (main-kept shared.script (silent + 1) (word_so_far shared.board.entries)).made

    compositor_made-more : (course_of shared.script (word_so_far after.entries)).compositor_made ≡ compositor.steps + 1
    compositor_made-more =
        ap (λ (c : Course). c.compositor_made) course-is
        ∙ compositor_made-after ahead step (drop (compositor.steps + 1) shared.script.compositor) (h.at.of_left ∙ next)
        ∙ ap (λ n. n + 1) (sym (ap (λ (c : CompositorState). c.steps) h.at.of_compositor))

    marks-more : length (course_of shared.script (word_so_far after.entries)).lanes.compositor.marks ≡ length ahead.lanes.compositor.marks + length (marks_of_step step ahead.lanes.compositor)
    marks-more =
        ap (λ (c : Course). length c.lanes.compositor.marks) course-is
        ∙ marks-after ahead step (drop (compositor.steps + 1) shared.script.compositor) (h.at.of_left ∙ next)

    pub compositor-kept_here : IsKeptBehindLock (record { script = shared.script; board = after })
    compositor-kept_here =
        let word = word_so_far shared.board.entries in
        let letters_compositor : letters_of Compositor (word_so_far after.entries) ≡ letters_of Compositor word + (silent + 1) = ap (letters_of Compositor) word-after ∙ letters-own Compositor (silent + 1) word in
        let letters_main : letters_of Main (word_so_far after.entries) ≡ letters_of Main word = ap (letters_of Main) word-after ∙ letters-other Compositor (silent + 1) word in
        let room_is = ap (λ (b : Exchange). b.room) made ∙ (noted step compositor shared.board one).room in
        let event_room_is = ap (λ (b : Exchange). b.queue.room) board-after in
        let events = events-left step ahead.lanes.compositor shared.board.queue.room (length ahead.lanes.compositor.marks)
        (length (course_of shared.script (word_so_far after.entries)).lanes.compositor.marks) (event_room shared.script) marks-more for-events_ahead in
        record {
          well = kept.well;
          of_board = board-is after (course_of shared.script (word_so_far after.entries)) (room_after_compositor step ahead.lanes.compositor shared.board.room) (event_room_after step ahead.lanes.compositor shared.board.queue.room) board-after;
          main_made = main_made-same ∙ kept.main_made ∙ sym letters_main;
          compositor_made = omega (arith, compositor_made-more, steps-are, kept.compositor_made, letters_compositor);
          main_within = omega (arith, main_made-same, kept.main_within);
          compositor_within = omega (arith, compositor_made-more, compositor-within shared.script compositor.steps step next);
          for_entries = omega (arith, room_is, some-room, compositor_made-more, main_made-same, steps-are, kept.for_entries);
          for_events = omega (arith, event_room_is, events);
        }

    -- The compositor is level with the journal then, and stays so while main makes steps.
    pub compositor-level_here : (later : CompositorState) (more : List DrawnFrame) → later ≡ compositor_turned step shared.board compositor → more ≡ frames_with step compositor frames → (others : ℕ) → IsCompositorAhead shared.script (with_letters Main others (word_so_far after.entries)) 0 later more
    compositor-level_here later more turned drawn others =
        let word = word_so_far shared.board.entries in
        let before = with_letters Compositor silent word in
        compositor-level shared.script (with_letters Main others (word_so_far after.entries)) later more
        (compositor-moved shared.script others (word_so_far after.entries) later more
        (subst (λ (w : List Lane). IsCompositorAt shared.script w later more) (sym (letters-one Compositor silent word) ∙ sym word-after)
        (compositor-next shared.script before compositor later frames more step shared.board.room shared.board.queue.room h.at next
        (turned ∙ ap (λ b. compositor_turned step b compositor) board-ahead) drawn)))

    -- the seat after the section, with what the compositor knows
    pub knows-compositor_after : (seat : SeatState) → seat.lane ≡ Compositor → seat.subject ≡ script_text shared.script → (later : CompositorState) (more : List DrawnFrame) → later ≡ compositor_turned step shared.board compositor → more ≡ frames_with step compositor frames → KnowsCompositor shared.script (seat_after seat after.entries) later more
    knows-compositor_after seat lane subject later more turned drawn = record {
      seat_is = record {
        lane_is = lane;
        subject = subject;
        mine = ap (λ l. entries_of l after.entries) lane;
        history = ap (λ (b : Exchange). b.entries) board-after;
      };
      silent = 0;
      ahead = compositor-level_here later more turned drawn;
    }
