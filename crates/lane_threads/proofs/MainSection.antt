-- A section of the lock in which main makes its next step: what is kept behind the lock after it, and what main knows.
use Rattle.std.proofs.Common.{◌≡◌, ℕ, ◌+◌, ◌<◌, List, [], ◌∷◌, ◌++◌, drop, length, refl, sym, ap, ◌∙◌, subst, arith}
use Rattle.anim_names.specs.declared.entry.Entry.{Entry}
use Rattle.anim_names.specs.declared.lane.Lane.{Lane}
use Rattle.anim_names.specs.declared.lane.Lane.TheVariants.{Main, Compositor}
use Rattle.anim_names.specs.Lanes.{letters_of}
use Rattle.commit_lock.specs.Journals.{entries_of}
use Rattle.commit_lock.specs.Seats.{SeatState, seat_after}
use Rattle.frame_script.specs.Printing.{script_text}
use Rattle.frame_exchange.specs.Journals.{Exchange, drain_entry, filled, publish_entry, word_so_far}
use Rattle.frame_exchange.specs.Sides.{MainState}
use Rattle.run_rules.specs.Scripts.{StepOfMain, EditStep, CommitStep, DrainStep}
use Rattle.run_rules.specs.Runs.{CompositorLane}
use Rattle.word_machine.specs.Courses.{Course, board_of, course_after, course_of}
use Rattle.word_machine.specs.Turns.{MayMakeMain, board_after_main, counts_with, main_turned}
use Rattle.word_machine.proofs.MainTurns.{board-turned_main, room_after_main}
use Rattle.word_machine.proofs.Right.{course_is_right}
use Rattle.lane_threads.specs.Keeping.{IsKeptBehindLock, ScriptBoard, course_at}
use Rattle.lane_threads.specs.Knowing.{IsMainAhead, IsMainAt, IsNextOfMain, KnowsMain, with_letters}
use Rattle.lane_threads.proofs.Halves.{compositor-kept, course-one}
use Rattle.lane_threads.proofs.Letters.{filled-up, letters-one, letters-other, letters-own, word-one_more}
use Rattle.lane_threads.proofs.MainLane.{main-level, main-may, main-moved, main-next, main-within, main_made-after}

-- ---- the board

-- a board that is that of a run
pub board-is : (board : Exchange) (course : Course) (room queue_room : ℕ) → board ≡ board_of course room queue_room → board ≡ board_of course board.room board.queue.room
board-is board course room queue_room is =
    is ∙ ap (λ r. board_of course r queue_room) (sym (ap (λ (b : Exchange). b.room) is))
    ∙ ap (λ e. board_of course board.room e) (sym (ap (λ (b : Exchange). b.queue.room) is))

-- the step makes an entry
abbrev pub NotesOne : StepOfMain → Type 0
NotesOne (EditStep change) = ⊥
NotesOne CommitStep = Unit {0}
NotesOne DrainStep = Unit {0}

-- the entry that the step makes
record HasNoted (before after : Exchange) (upto : ℕ) : Type 0 where
  entry : Entry
  entries : after.entries ≡ before.entries ++ entry ∷ []
  lane : entry.lane ≡ Main
  upto_is : entry.upto ≡ upto

noted : (step : StepOfMain) (main : MainState) (board : Exchange) → NotesOne step → HasNoted board (board_after_main step main board) (main.steps + 1)
noted (EditStep change) main board one = absurd one
noted CommitStep main board one = record { entry = publish_entry board.entries (main.steps + 1); entries = refl; lane = refl; upto_is = refl }
noted DrainStep main board one = record { entry = drain_entry board (main.steps + 1); entries = refl; lane = refl; upto_is = refl }

room-noted : (step : StepOfMain) (room : ℕ) → NotesOne step → 0 < room → room_after_main step room + 1 ≡ room
room-noted (EditStep change) room one some = absurd one
room-noted CommitStep room one some = omega (arith, some)
room-noted DrainStep room one some = omega (arith, some)

-- ---- before the step, and after it

module _ (shared : ScriptBoard) (kept : IsKeptBehindLock shared) (silent : ℕ) (main : MainState) (counts : List ℕ)
    (h : IsMainAhead shared.script (word_so_far shared.board.entries) silent main counts)
    (step : StepOfMain) (next : IsNextOfMain shared.script main.steps step) where
  -- how many steps main has made
  steps-are : main.steps ≡ (course_at shared).main_made + silent
  steps-are = ap (λ (m : MainState). m.steps) h.at.of_main ∙ h.made

  some-room : 0 < shared.board.room
  some-room = omega (arith, steps-are, main-within shared.script main.steps step next, kept.for_entries, kept.compositor_within)

  board-ahead : shared.board ≡ board_of (course_of shared.script (with_letters Main silent (word_so_far shared.board.entries))) shared.board.room shared.board.queue.room
  board-ahead = kept.of_board ∙ sym (h.quiet shared.board.room shared.board.queue.room)

  pub main-may_here : MayMakeMain step main shared.board
  main-may_here =
      subst (λ (b : Exchange). MayMakeMain step main b) (sym board-ahead)
      (main-may shared.script kept.well (with_letters Main silent (word_so_far shared.board.entries)) main counts step shared.board.room shared.board.queue.room h.at next some-room)

  module _ (after : Exchange) (made : after ≡ board_after_main step main shared.board) (one : NotesOne step) where
    word-after : word_so_far after.entries ≡ with_letters Main (silent + 1) (word_so_far shared.board.entries)
    word-after =
        let note = noted step main shared.board one in
        let word = word_so_far shared.board.entries in
        ap (λ (b : Exchange). word_so_far b.entries) made ∙ ap word_so_far note.entries ∙ word-one_more shared.board.entries note.entry
        ∙ ap (λ l. filled l note.entry.upto word) note.lane
        ∙ filled-up Main note.entry.upto (silent + 1) word (omega (arith, note.upto_is, steps-are, kept.main_made))

    -- the run after the step
    course-is : course_of shared.script (word_so_far after.entries) ≡ course_after (course_of shared.script (with_letters Main silent (word_so_far shared.board.entries))) Main
    course-is = ap (course_of shared.script) word-after ∙ course-one shared.script Main silent (word_so_far shared.board.entries)

    board-after : after ≡ board_of (course_of shared.script (word_so_far after.entries)) (room_after_main step shared.board.room) shared.board.queue.room
    board-after =
        let ahead = course_of shared.script (with_letters Main silent (word_so_far shared.board.entries)) in
        made ∙ ap (λ b. board_after_main step main b) board-ahead
        ∙ ap (λ m. board_after_main step m (board_of ahead shared.board.room shared.board.queue.room)) h.at.of_main
        ∙ board-turned_main ahead step (drop (main.steps + 1) shared.script.main) main.book shared.board.room shared.board.queue.room main.room (h.at.of_left ∙ next)
        (course_is_right shared.script (with_letters Main silent (word_so_far shared.board.entries))) h.at.counted
        ∙ ap (λ c. board_of c (room_after_main step shared.board.room) shared.board.queue.room) (sym course-is)

    compositor-same : (course_of shared.script (word_so_far after.entries)).lanes.compositor ≡ (course_at shared).lanes.compositor
    compositor-same =
        ap (λ (w : List Lane). (course_of shared.script w).lanes.compositor) word-after
        ∙ (compositor-kept shared.script (silent + 1) (word_so_far shared.board.entries)).lane

    compositor_made-same : (course_of shared.script (word_so_far after.entries)).compositor_made ≡ (course_at shared).compositor_made
    compositor_made-same =
        ap (λ (w : List Lane). (course_of shared.script w).compositor_made) word-after
        ∙ (compositor-kept shared.script (silent + 1) (word_so_far shared.board.entries)).made

    main_made-more : (course_of shared.script (word_so_far after.entries)).main_made ≡ main.steps + 1
    main_made-more =
        ap (λ (c : Course). c.main_made) course-is
        ∙ main_made-after (course_of shared.script (with_letters Main silent (word_so_far shared.board.entries))) step (drop (main.steps + 1) shared.script.main) (h.at.of_left ∙ next)
        ∙ ap (λ n. n + 1) (sym (ap (λ (m : MainState). m.steps) h.at.of_main))

    pub main-kept_here : IsKeptBehindLock (record { script = shared.script; board = after })
    main-kept_here =
        let word = word_so_far shared.board.entries in
        let letters_main : letters_of Main (word_so_far after.entries) ≡ letters_of Main word + (silent + 1) = ap (letters_of Main) word-after ∙ letters-own Main (silent + 1) word in
        let letters_compositor : letters_of Compositor (word_so_far after.entries) ≡ letters_of Compositor word = ap (letters_of Compositor) word-after ∙ letters-other Main (silent + 1) word in
        let marks = ap (λ (l : CompositorLane). length l.marks) compositor-same in
        let room_is = ap (λ (b : Exchange). b.room) board-after in
        let event_room_is = ap (λ (b : Exchange). b.queue.room) board-after in
        let one_less = room-noted step shared.board.room one some-room in
        record {
          well = kept.well;
          of_board = board-is after (course_of shared.script (word_so_far after.entries)) (room_after_main step shared.board.room) shared.board.queue.room board-after;
          main_made = omega (arith, main_made-more, steps-are, kept.main_made, letters_main);
          compositor_made = compositor_made-same ∙ kept.compositor_made ∙ sym letters_compositor;
          main_within = omega (arith, main_made-more, main-within shared.script main.steps step next);
          compositor_within = omega (arith, compositor_made-same, kept.compositor_within);
          for_entries = omega (arith, room_is, one_less, main_made-more, compositor_made-same, steps-are, kept.for_entries);
          for_events = omega (arith, event_room_is, marks, kept.for_events);
        }

    -- Main is level with the journal then, and stays so while the compositor makes steps.
    pub main-level_here : (later : MainState) (more : List ℕ) → later ≡ main_turned step shared.board main → more ≡ counts_with step later counts → (others : ℕ) → IsMainAhead shared.script (with_letters Compositor others (word_so_far after.entries)) 0 later more
    main-level_here later more turned counted others =
        let word = word_so_far shared.board.entries in
        let ahead = with_letters Main silent word in
        main-level shared.script (with_letters Compositor others (word_so_far after.entries)) later more
        (main-moved shared.script others (word_so_far after.entries) later more
        (subst (λ (w : List Lane). IsMainAt shared.script w later more) (sym (letters-one Main silent word) ∙ sym word-after)
        (main-next shared.script ahead main later counts more step shared.board.room shared.board.queue.room h.at next
        (turned ∙ ap (λ b. main_turned step b main) board-ahead) counted)))

    -- the seat after the section, with what main knows
    pub knows-main_after : (seat : SeatState) → seat.lane ≡ Main → seat.subject ≡ script_text shared.script → (later : MainState) (more : List ℕ) → later ≡ main_turned step shared.board main → more ≡ counts_with step later counts → KnowsMain shared.script (seat_after seat after.entries) later more
    knows-main_after seat lane subject later more turned counted = record {
      seat_is = record {
        lane_is = lane;
        subject = subject;
        mine = ap (λ l. entries_of l after.entries) lane;
        history = ap (λ (b : Exchange). b.entries) board-after;
      };
      silent = 0;
      ahead = main-level_here later more turned counted;
    }
