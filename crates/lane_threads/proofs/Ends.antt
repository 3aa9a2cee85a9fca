-- Where both lanes have ended, their sides and the board are those of the run after the word of the journal.
use Rattle.std.proofs.Common.{◌≡◌, ℕ, ◌+◌, ◌≤◌, List, [], ◌∷◌, ◌++◌, drop, length, sym, ap, ◌∙◌, subst, arith, length-drop}
use Rattle.std.proofs.lemmas.List.{length-map}
use Rattle.anim_names.specs.declared.lane.Lane.{Lane}
use Rattle.anim_names.specs.declared.lane.Lane.TheVariants.{Main, Compositor}
use Rattle.anim_names.specs.Lanes.{letters_of}
use Rattle.anim_names.specs.Lists.{BeginsWith}
use Rattle.commit_lock.specs.Journals.{entries_of}
use Rattle.commit_lock.specs.Seats.{SeatState}
use Rattle.frame_exchange.specs.Journals.{Exchange, filled, word_of_journal, word_so_far}
use Rattle.frame_exchange.specs.Sides.{CompositorState, MainState}
use Rattle.run_rules.specs.Frames.{DrawnFrame}
use Rattle.run_rules.specs.Marks.{event_of}
use Rattle.anim_names.specs.declared.event.AnimEvent.{AnimEvent}
use Rattle.event_queue.specs.Queues.{unheard}
use Rattle.run_rules.specs.Runs.{ReportLists, report_of}
use Rattle.word_machine.specs.Laws.{KeepsLaws}
use Rattle.word_machine.proofs.Keeping.{keeps_laws}
use Rattle.word_machine.proofs.Moments.{report-made}
use Rattle.run_rules.specs.Scripts.{IsWellFormed, IsWordOf, ScriptLists, are_allowed, event_room}
use Rattle.run_rules.specs.declared.compositor_step.CompositorStep.{CompositorStep}
use Rattle.word_machine.specs.Courses.{board_of, course_of}
use Rattle.word_machine.specs.Moments.{TicksAreLeft, IsAt}
use Rattle.lane_threads.specs.Keeping.{IsKeptBehindLock, ScriptBoard, course_at}
use Rattle.lane_threads.specs.Knowing.{HaveEnded, IsCompositorAhead, IsCompositorAt, IsMainAhead, IsMainAt, KnowsCompositor, KnowsMain, with_letters}
use Rattle.lane_threads.proofs.CompositorLane.{compositor-ahead_of}
use Rattle.lane_threads.proofs.Halves.{compositor-kept}
use Rattle.lane_threads.proofs.Letters.{filled-up, letters-other, letters-own}
use Rattle.lane_threads.proofs.MainLane.{main-found, main-moved}

-- nothing is left behind the last step
none-left : {A : Type 0} (xs : List A) (n : ℕ) → n ≡ length xs → length (drop n xs) ≡ 0
none-left xs n is = omega (arith, length-drop n xs, is)

-- sides and a board that are those of a run that has ended
at-end : (script : ScriptLists) (word : List Lane) (main : MainState) (compositor : CompositorState) (board : Exchange) (counts : List ℕ) (frames : List DrawnFrame) → IsMainAt script word main counts → IsCompositorAt script word compositor frames → main.steps ≡ length script.main → compositor.steps ≡ length script.compositor → board ≡ board_of (course_of script word) board.room board.queue.room → event_room script ≤ board.queue.room + length (course_of script word).lanes.compositor.marks → IsAt script word main compositor board counts frames
at-end script word main compositor board counts frames m c main_all compositor_all is_board events =
    let course = course_of script word in
    let main_left : length course.lanes.main.left ≡ 0 = ap length m.of_left ∙ none-left script.main main.steps main_all in
    let compositor_left : length course.lanes.compositor.left ≡ 0 = ap length c.of_left ∙ none-left script.compositor compositor.steps compositor_all in
    record {
      of_main = m.of_main;
      of_compositor = c.of_compositor;
      of_board = is_board;
      of_counts = m.of_counts;
      of_frames = c.of_frames;
      under_way = record {
        counted = m.counted;
        allowed = ap (are_allowed main.book) m.of_left ∙ m.allowed;
        main_steps = omega (arith, main_left, main_all, ap (λ (s : MainState). s.steps) m.of_main);
        compositor_steps = omega (arith, compositor_left, compositor_all, ap (λ (s : CompositorState). s.steps) c.of_compositor);
        ticks = subst (λ (l : List CompositorStep). TicksAreLeft script l compositor.last_tick) (sym c.of_left) c.ticks;
      };
      rooms = record {
        for_entries = omega (arith, main_left, compositor_left);
        for_events = events;
        for_batches = m.batch_room;
        for_models = c.models;
      };
    }

module _ (script : ScriptLists) (shared : ScriptBoard) (is : shared.script ≡ script) (kept : IsKeptBehindLock shared)
    (main_seat compositor_seat : SeatState) (main : MainState) (counts : List ℕ) (compositor : CompositorState) (frames : List DrawnFrame)
    (m : KnowsMain script main_seat main counts) (c : KnowsCompositor script compositor_seat compositor frames)
    (main_begins : BeginsWith shared.board.entries main_seat.seen) (main_own : entries_of main_seat.lane shared.board.entries ≡ main_seat.mine)
    (compositor_begins : BeginsWith shared.board.entries compositor_seat.seen) (compositor_own : entries_of compositor_seat.lane shared.board.entries ≡ compositor_seat.mine)
    (main_all : main.steps ≡ length script.main) (compositor_all : compositor.steps ≡ length script.compositor) where
  kept-here : IsKeptBehindLock (record { script = script; board = shared.board })
  kept-here = subst (λ (s : ScriptLists). IsKeptBehindLock (record { script = s; board = shared.board })) is kept

  -- the word of the journal so far, with main's last letters, and with the compositor's
  abbrev so_far : List Lane
  so_far = word_so_far shared.board.entries

  abbrev with_main : List Lane
  with_main = with_letters Main m.silent so_far

  abbrev whole : List Lane
  whole = with_letters Compositor c.silent with_main

  main-ahead : IsMainAhead script so_far m.silent main counts
  main-ahead = main-found script main_seat main counts shared.board.entries m main_begins main_own

  compositor-ahead : IsCompositorAhead script with_main c.silent compositor frames
  compositor-ahead = compositor-ahead_of script compositor_seat compositor frames shared.board.entries m.silent c compositor_begins compositor_own

  main-letters : length script.main ≡ letters_of Main so_far + m.silent
  main-letters = omega (arith, main_all, ap (λ (s : MainState). s.steps) main-ahead.at.of_main, main-ahead.made, kept-here.main_made)

  compositor-letters : length script.compositor ≡ letters_of Compositor with_main + c.silent
  compositor-letters =
      omega (
        arith,
        compositor_all,
        ap (λ (s : CompositorState). s.steps) compositor-ahead.at.of_compositor,
        compositor-ahead.made,
        (compositor-kept script m.silent so_far).made,
        kept-here.compositor_made,
        letters-other Main m.silent so_far,
      )

  word-is : word_of_journal shared.board.entries (length script.main) (length script.compositor) ≡ whole
  unfolding word_of_journal
  word-is =
      ap (filled Compositor (length script.compositor)) (filled-up Main (length script.main) m.silent so_far main-letters)
      ∙ filled-up Compositor (length script.compositor) c.silent with_main compositor-letters

  board-ends : shared.board ≡ board_of (course_of script whole) shared.board.room shared.board.queue.room
  board-ends =
      kept-here.of_board ∙ sym (main-ahead.quiet shared.board.room shared.board.queue.room)
      ∙ sym (compositor-ahead.quiet shared.board.room shared.board.queue.room)

  marks-end : length (course_of script whole).lanes.compositor.marks ≡ length (course_at (record { script = script; board = shared.board })).lanes.compositor.marks
  marks-end =
      sym (length-map (course_of script whole).lanes.compositor.marks event_of)
      ∙ ap (λ (b : Exchange). length b.queue.events) (compositor-ahead.quiet 0 0 ∙ main-ahead.quiet 0 0)
      ∙ length-map (course_at (record { script = script; board = shared.board })).lanes.compositor.marks event_of

  pub have-ended : HaveEnded script shared.board main counts frames
  have-ended = record {
    compositor = compositor;
    at = subst (λ (w : List Lane). IsAt script w main compositor shared.board counts frames) (sym word-is)
        (at-end script whole main compositor shared.board counts frames (main-moved script c.silent with_main main counts main-ahead.at) compositor-ahead.at
        main_all compositor_all board-ends (omega (arith, marks-end, kept-here.for_events)));
    word = subst (λ (w : List Lane). IsWordOf (length script.main) (length script.compositor) w) (sym word-is) (record {
      of_main = letters-other Compositor c.silent with_main ∙ letters-own Main m.silent so_far ∙ sym main-letters;
      of_compositor = letters-own Compositor c.silent with_main ∙ sym compositor-letters;
    });
  }

-- ---- the report

-- what is true of a report of lanes that have ended
pub record ReportsWord (script : ScriptLists) (report : ReportLists) : Type 0 where
  pub word : IsWordOf (length script.main) (length script.compositor) report.word
  pub report_is : report ≡ report_of script report.word
  pub laws : KeepsLaws script report.word

pub reports-word : (script : ScriptLists) → IsWellFormed script → (board : Exchange) (main : MainState) (counts : List ℕ) (frames : List DrawnFrame) → HaveEnded script board main counts frames → (report : ReportLists) (letters : List Lane) (events : List AnimEvent) (heard : List ℕ) (of_main of_compositor : ℕ) → of_main ≡ length script.main → of_compositor ≡ length script.compositor → report ≡ record { word = letters; frames = frames; events = events; heard = heard } → letters ≡ word_of_journal board.entries of_main of_compositor → events ≡ board.queue.events → heard ≡ counts ++ (main.heard + length (unheard board.queue)) ∷ [] → ReportsWord script report
reports-word script well board main counts frames h report letters events heard of_main of_compositor m c is w e n =
    let word = word_of_journal board.entries (length script.main) (length script.compositor) in
    let letters_are : letters ≡ word =
    w ∙ ap (λ k. word_of_journal board.entries k of_compositor) m ∙ ap (λ k. word_of_journal board.entries (length script.main) k) c in
    let word_is : report.word ≡ word = ap (λ (r : ReportLists). r.word) is ∙ letters_are in
    let made = report-made script word main h.compositor board counts frames h.at report letters events heard is letters_are e n in
    record {
      word = subst (λ (l : List Lane). IsWordOf (length script.main) (length script.compositor) l) (sym word_is) h.word;
      report_is = made ∙ ap (report_of script) (sym word_is);
      laws = subst (λ (l : List Lane). KeepsLaws script l) (sym word_is) (keeps_laws script well word);
    }
