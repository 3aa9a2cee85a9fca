-- What the calls on the board ask inside a section, and that the board is kept as it has to be after it.
use Rattle.std.proofs.Common.{◌≡◌, ℕ, ◌+◌, ◌-◌, ◌<◌, ◌≤◌, ◌^◌, List, [], ◌∷◌, ◌++◌, drop, length, Option, Some, refl, sym, ap, ◌∙◌, subst, arith}
use Rattle.std.proofs.lemmas.List.{length-drop, length-map}
use Rattle.anim_names.specs.declared.entry.Entry.{Entry}
use Rattle.anim_names.specs.declared.event.AnimEvent.{AnimEvent}
use Rattle.anim_names.specs.declared.lane.Lane.TheVariants.{Main, Compositor}
use Rattle.event_queue.specs.Queues.{Queue, with_all_heard}
use Rattle.frame_exchange.specs.Journals.{Exchange, drain_entry, last_upto, mailbox_after_pull, publish_entry, published, pull_entry, send_entry}
use Rattle.frame_exchange.specs.Sides.{CompositorState, MainState, news_of, slot_of}
use Rattle.run_rules.specs.declared.compositor_step.CompositorStep.{CompositorStep}
use Rattle.run_rules.specs.declared.compositor_step.CompositorStep.TheVariants.{Pull}
use Rattle.run_rules.specs.Marks.{event_of}
use Rattle.frame_script.specs.Printing.{script_text}
use Rattle.script_printer.proofs.ScriptsBack.{one_text_one_script}
use Rattle.run_rules.specs.Scripts.{CommitStep, DrainStep, IsWellFormed, ScriptLists}
use Rattle.tree_commit.specs.Trees.{Committed}
use Rattle.word_machine.specs.Turns.{MayMakeCompositor, MayMakeMain, MaySend, board_after_compositor, board_after_main, board_told, board_with_news}
use Rattle.lane_threads.specs.Keeping.{IsKeptBehindLock, ScriptBoard}
use Rattle.lane_threads.specs.Knowing.{marked}
use Rattle.lane_threads.specs.Sections.{MayDrain, MayMark, MayPublish, MayPull, MaySendMarks, board_published}
use Rattle.lane_threads.proofs.CompositorSection.{NotesOne, compositor-kept_here, compositor-may_here}
use Rattle.lane_threads.proofs.MainSection.{main-kept_here, main-may_here}
use Rattle.run_laws.proofs.CompositorSteps.{by_mark}

-- a board by its parts
abbrev board_with : List Entry → Option Committed → Queue → ℕ → Exchange
board_with entries mailbox queue room = record { entries = entries; mailbox = mailbox; queue = queue; room = room }

pub parts-are : (after before : Exchange) (entries : List Entry) (mailbox : Option Committed) (queue : Queue) → after.entries ≡ entries → after.mailbox ≡ mailbox → after.queue ≡ queue → after.room + 1 ≡ before.room → after ≡ board_with entries mailbox queue (before.room - 1)
parts-are after before entries mailbox queue e m q r =
    let room : after.room ≡ before.room - 1 = omega (arith, r) in
    ap (λ x. board_with x after.mailbox after.queue after.room) e
    ∙ ap (λ x. board_with entries x after.queue after.room) m
    ∙ ap (λ x. board_with entries mailbox x after.room) q
    ∙ ap (λ x. board_with entries mailbox queue x) room

-- ---- the script

-- A board that is found behind the lock is one of this script, where the texts are the same.
pub found-script : (now inside : ScriptBoard) (script : ScriptLists) → inside ≡ now → IsKeptBehindLock inside → IsWellFormed script → script_text now.script ≡ script_text script → inside ≡ record { script = script; board = now.board }
found-script now inside script view kept well same =
    let texts : script_text inside.script ≡ script_text script = ap (λ (s : ScriptBoard). script_text s.script) view ∙ same in
    ap (λ s. shared_of s inside.board) (one_text_one_script inside.script script kept.well well texts)
    ∙ ap (λ (s : ScriptBoard). shared_of script s.board) view
  where
    shared_of : ScriptLists → Exchange → ScriptBoard
    shared_of script board = record { script = script; board = board }

-- ---- main

module _ (shared : ScriptBoard) (kept : IsKeptBehindLock shared) (main : MainState) where
  module _ (commit : Committed) (may : MayPublish shared main commit) where
    pub publish-may : MayMakeMain CommitStep may.before shared.board
    publish-may = main-may_here shared kept may.silent may.before may.counts may.ahead CommitStep may.next

    pub publish-later : last_upto Main shared.board.entries ≤ main.steps
    publish-later = omega (arith, publish-may.later, ap (λ (m : MainState). m.steps) may.built)

    pub publish-next : commit.number ≡ published shared.board.entries + 1
    publish-next = ap (λ (c : Committed). c.number) may.given ∙ ap (λ n. n + 1) publish-may.next

    -- the board after it is that after a commit step
    published-is : (after : Exchange) → after ≡ board_published main shared.board → after ≡ board_after_main CommitStep may.before shared.board
    published-is after made = made ∙ ap (λ m. board_published m shared.board) may.built

    pub publish-kept : (after : Exchange) → after.entries ≡ shared.board.entries ++ publish_entry shared.board.entries (main.steps + 1) ∷ [] → after.mailbox ≡ Some commit → after.queue ≡ shared.board.queue → after.room + 1 ≡ shared.board.room → IsKeptBehindLock (record { script = shared.script; board = after })
    publish-kept after entries mailbox queue room =
        let built : main.built ≡ Some commit = ap (λ (m : MainState). m.built) may.built ∙ ap Some (sym may.given) in
        let made = parts-are after shared.board (shared.board.entries ++ publish_entry shared.board.entries (main.steps + 1) ∷ []) main.built shared.board.queue entries (mailbox ∙ sym built) queue room in
        main-kept_here shared kept may.silent may.before may.counts may.ahead CommitStep may.next after (published-is after made) tt

  module _ (may : MayDrain shared main) where
    pub drain-may : MayMakeMain DrainStep main shared.board
    drain-may = main-may_here shared kept may.silent main may.counts may.ahead DrainStep may.next

    pub drain-kept : (after : Exchange) → after.entries ≡ shared.board.entries ++ drain_entry shared.board (main.steps + 1) ∷ [] → after.mailbox ≡ shared.board.mailbox → after.queue ≡ with_all_heard shared.board.queue → after.room + 1 ≡ shared.board.room → IsKeptBehindLock (record { script = shared.script; board = after })
    drain-kept after entries mailbox queue room =
        main-kept_here shared kept may.silent main may.counts may.ahead DrainStep may.next after
        (parts-are after shared.board (shared.board.entries ++ drain_entry shared.board (main.steps + 1) ∷ []) shared.board.mailbox (with_all_heard shared.board.queue) entries mailbox queue room) tt

-- ---- the compositor

-- what has news sends them
some-news : (compositor : CompositorState) → compositor.sent < length compositor.marks → 0 < length (news_of compositor)
some-news compositor some =
    omega (arith, some, length-map (drop compositor.sent compositor.marks) event_of, length-drop compositor.sent compositor.marks)

notes-one : (step : CompositorStep) (before : CompositorState) → MayMark step → 0 < length (news_of (marked step before)) → NotesOne step before
notes-one step before may some =
    by_mark (λ step. 0 < length (news_of (marked step before)) → NotesOne step before) (λ some. some) (λ time some. some) step may some

told-is : (step : CompositorStep) (before : CompositorState) (board : Exchange) → MayMark step → board_after_compositor step before board ≡ board_told (marked step before) board
told-is step before board may =
    by_mark (λ step. board_after_compositor step before board ≡ board_told (marked step before) board) refl (λ time. refl) step may

-- what a step that makes marks asks of the board
send-allowed : (step : CompositorStep) (before : CompositorState) (board : Exchange) → MayMark step → MayMakeCompositor step before board → MaySend (marked step before) board
send-allowed step before board mark may =
    by_mark (λ step. MayMakeCompositor step before board → MaySend (marked step before) board) (λ may. may.allows) (λ time may. may.allows.1) step mark may

steps-marked : (step : CompositorStep) (before : CompositorState) → MayMark step → (marked step before).steps ≡ before.steps + 1
steps-marked step before may =
    by_mark (λ step. (marked step before).steps ≡ before.steps + 1) refl (λ time. refl) step may

-- a board with news
told-some : (upto : ℕ) (news : List AnimEvent) (board after : Exchange) → 0 < length news → after.entries ≡ board.entries ++ send_entry upto news ∷ [] → after.mailbox ≡ board.mailbox → after.queue.events ≡ board.queue.events ++ news → after.queue.heard ≡ board.queue.heard → after.queue.room + length news ≡ board.queue.room → after.room + 1 ≡ board.room → after ≡ board_with_news upto news board
told-some upto [] board after some entries mailbox events heard queue_room room = absurd (omega (arith, some))
told-some upto (event ∷ news) board after some entries mailbox events heard queue_room room =
    let a_queue : List AnimEvent → ℕ → ℕ → Queue = λ e h r. record { events = e; heard = h; room = r } in
    let less : after.queue.room ≡ board.queue.room - length (event ∷ news) = omega (arith, queue_room) in
    let queue : after.queue ≡ a_queue (board.queue.events ++ event ∷ news) board.queue.heard (board.queue.room - length (event ∷ news)) =
    ap (λ e. a_queue e after.queue.heard after.queue.room) events
    ∙ ap (λ h. a_queue (board.queue.events ++ event ∷ news) h after.queue.room) heard
    ∙ ap (λ r. a_queue (board.queue.events ++ event ∷ news) board.queue.heard r) less in
    parts-are after board (board.entries ++ send_entry upto (event ∷ news) ∷ []) board.mailbox (a_queue (board.queue.events ++ event ∷ news) board.queue.heard (board.queue.room - length (event ∷ news))) entries mailbox queue room

module _ (shared : ScriptBoard) (kept : IsKeptBehindLock shared) (compositor : CompositorState) where
  module _ (may : MayPull shared compositor) where
    pub pull-may : MayMakeCompositor Pull compositor shared.board
    pull-may = compositor-may_here shared kept may.silent compositor may.frames may.ahead Pull may.next

    pub pull-kept : (after : Exchange) → after.entries ≡ shared.board.entries ++ pull_entry shared.board.entries (compositor.steps + 1) (slot_of compositor.pending) ∷ [] → after.mailbox ≡ mailbox_after_pull shared.board (slot_of compositor.pending) → after.queue ≡ shared.board.queue → after.room + 1 ≡ shared.board.room → IsKeptBehindLock (record { script = shared.script; board = after })
    pull-kept after entries mailbox queue room =
        compositor-kept_here shared kept may.silent compositor may.frames may.ahead Pull may.next after
        (parts-are after shared.board (shared.board.entries ++ pull_entry shared.board.entries (compositor.steps + 1) (slot_of compositor.pending) ∷ []) (mailbox_after_pull shared.board (slot_of compositor.pending)) shared.board.queue entries mailbox queue room) tt

  module _ (may : MaySendMarks shared compositor) where
    pub marks-may : MayMakeCompositor may.step may.before shared.board
    marks-may = compositor-may_here shared kept may.silent may.before may.frames may.ahead may.step may.next

    send-may : MaySend compositor shared.board
    send-may =
        subst (λ (c : CompositorState). MaySend c shared.board) (sym may.is) (send-allowed may.step may.before shared.board may.may_mark marks-may)

    pub send-later : last_upto Compositor shared.board.entries < compositor.steps
    send-later =
        omega (arith, marks-may.later, ap (λ (c : CompositorState). c.steps) may.is, steps-marked may.step may.before may.may_mark)

    pub send-event_room : length (news_of compositor) ≤ shared.board.queue.room
    send-event_room = send-may.event_room

    pub send-few : length shared.board.queue.events + length (news_of compositor) < 2 ^ 32
    send-few = send-may.few

    -- the board after it is that after the step
    pub sent-is : (after : Exchange) → after ≡ board_told compositor shared.board → after ≡ board_after_compositor may.step may.before shared.board
    sent-is after made =
        made ∙ ap (λ c. board_told c shared.board) may.is ∙ sym (told-is may.step may.before shared.board may.may_mark)

    pub sent-one : compositor.sent < length compositor.marks → NotesOne may.step may.before
    sent-one some =
        notes-one may.step may.before may.may_mark
        (subst (λ (c : CompositorState). 0 < length (news_of c)) may.is (some-news compositor some))

    pub send-kept : compositor.sent < length compositor.marks → (after : Exchange) → after.entries ≡ shared.board.entries ++ send_entry compositor.steps (news_of compositor) ∷ [] → after.mailbox ≡ shared.board.mailbox → after.queue.events ≡ shared.board.queue.events ++ news_of compositor → after.queue.heard ≡ shared.board.queue.heard → after.queue.room + length (news_of compositor) ≡ shared.board.queue.room → after.room + 1 ≡ shared.board.room → IsKeptBehindLock (record { script = shared.script; board = after })
    send-kept some after entries mailbox events heard queue_room room =
        compositor-kept_here shared kept may.silent may.before may.frames may.ahead may.step may.next after
        (sent-is after (told-some compositor.steps (news_of compositor) shared.board after (some-news compositor some) entries mailbox events heard queue_room room))
        (sent-one some)
