-- From what the compositor knows to a section and back: what it may do there, and what it knows after it.
use Rattle.std.proofs.Common.{◌≡◌, ℕ, ◌+◌, ◌<◌, ◌≤◌, nat_lt, Bool, true, false, not, ◌||◌, ◌==◌, cond, List, [], length, Option, Some, None, refl, sym, ap, ◌∙◌, subst, arith}
use Rattle.std.specs.Prelude.{IsSomeAnd, is_some}
use Rattle.std.proofs.lemmas.Bool.{ltb-false, not-true}
use Rattle.std.proofs.lemmas.List.{length-append}
use Rattle.anim_names.specs.declared.lane.Lane.TheVariants.{Main, Compositor}
use Rattle.anim_names.specs.Lists.{BeginsWith}
use Rattle.commit_lock.specs.Journals.{entries_of}
use Rattle.commit_lock.specs.Seats.{SeatState, seat_after}
use Rattle.frame_exchange.specs.Journals.{finds_nothing, is_taken, last_pulled, published, reply_to_pull, word_so_far}
use Rattle.frame_exchange.specs.Sides.{CompositorState, activated, compositor_after_pull, compositor_after_send, news_of, slot_of}
use Rattle.run_rules.specs.declared.compositor_step.CompositorStep.{CompositorStep}
use Rattle.run_rules.specs.declared.compositor_step.CompositorStep.TheVariants.{Pull, Tick}
use Rattle.run_rules.specs.Frames.{DrawnFrame}
use Rattle.run_rules.specs.Marks.{marks_of_activation, marks_of_tick}
use Rattle.run_rules.specs.Scripts.{IsWellFormed, ScriptLists, event_room}
use Rattle.tree_commit.specs.Trees.{Committed}
use Rattle.word_machine.specs.Courses.{board_of, course_of}
use Rattle.word_machine.specs.Turns.{AllowsStep, MayMakeCompositor, MayPlace, MayTick, board_after_compositor, board_told, compositor_with_reply}
use Rattle.lane_threads.specs.Keeping.{IsKeptBehindLock, ScriptBoard}
use Rattle.lane_threads.specs.Knowing.{IsNextOfCompositor, KnowsCompositor, marked, with_letters}
use Rattle.lane_threads.specs.Sections.{HasMarked, HasPulled, MayMark, MayPull, MaySendMarks}
use Rattle.lane_threads.proofs.CompositorLane.{compositor-found, compositor-may, knows-quiet, marked-turned, no-news}
use Rattle.lane_threads.proofs.CompositorSection.{compositor-may_here, knows-compositor_after}
use Rattle.lane_threads.proofs.Sections.{sent-is, sent-one}
use Rattle.run_laws.proofs.CompositorSteps.{by_mark}

-- ---- outside

-- The compositor may make the step that it knows to be next.
pub known-may : (script : ScriptLists) → IsWellFormed script → (seat : SeatState) (compositor : CompositorState) (frames : List DrawnFrame) (step : CompositorStep) → (h : KnowsCompositor script seat compositor frames) → IsNextOfCompositor script compositor.steps step → MayMakeCompositor step compositor (board_of (course_of script (with_letters Compositor h.silent (with_letters Main 0 (word_so_far seat.seen)))) 1 (event_room script))
known-may script well seat compositor frames step h next =
    compositor-may script well (with_letters Compositor h.silent (with_letters Main 0 (word_so_far seat.seen))) compositor frames step 1 (event_room script) (h.ahead 0).at next (omega arith) (omega arith)

pub known-tick : (script : ScriptLists) → IsWellFormed script → (seat : SeatState) (compositor : CompositorState) (frames : List DrawnFrame) (time : ℕ) → KnowsCompositor script seat compositor frames → IsNextOfCompositor script compositor.steps (Tick time) → MayTick compositor time
known-tick script well seat compositor frames time h next = (known-may script well seat compositor frames (Tick time) h next).allows.0

-- what is sent when marks are made
marks-grow : (step : CompositorStep) (before : CompositorState) → MayMark step → ((marked step before).sent ≡ before.sent) × (length before.marks ≤ length (marked step before).marks)
marks-grow step before may =
    by_mark (λ step. ((marked step before).sent ≡ before.sent) × (length before.marks ≤ length (marked step before).marks)) (go before.pending)
    (λ time. (refl, omega (arith, length-append before.marks (marks_of_tick before.active.tree before.pending before.marks time)))) step may
  where
    go : (pending : Option Committed) → ((record (activated before pending) { steps = before.steps + 1 }).sent ≡ before.sent) × (length before.marks ≤ length (record (activated before pending) { steps = before.steps + 1 }).marks)
    go None = (refl, omega arith)
    go (Some pending) = (refl, omega (arith, length-append before.marks (marks_of_activation before.active.tree pending before.marks)))

-- A side that has made its marks and has no news knows what it knew, and of one step more.
pub knows-no_news : (script : ScriptLists) → IsWellFormed script → (seat : SeatState) (compositor : CompositorState) (frames : List DrawnFrame) → HasMarked script seat compositor frames → nat_lt compositor.sent (length compositor.marks) ≡ false → KnowsCompositor script seat compositor frames
knows-no_news script well seat compositor frames h none =
    let none_here : news_of (marked h.step h.before) ≡ [] = ap news_of (sym h.is) ∙ no-news compositor none in
    let grow = marks-grow h.step h.before h.may_mark in
    let told : compositor.sent ≡ length compositor.marks =
    omega (
      arith,
      ltb-false compositor.sent (length compositor.marks) none,
      grow.0,
      grow.1,
      (known-may script well seat h.before h.earlier h.step h.knows h.next).complete.told,
      ap (λ (c : CompositorState). c.sent) h.is,
      ap (λ (c : CompositorState). length c.marks) h.is,
    ) in
    let sent : compositor ≡ compositor_after_send compositor = ap (λ n. record compositor { sent = n }) told in
    knows-quiet script seat h.before compositor h.earlier frames h.step h.knows h.next h.may_mark none_here (sent ∙ ap compositor_after_send h.is) h.drawn

-- ---- what a pull finds

some-is : (P : Committed → Type 0) (reply : Option Committed) → IsSomeAnd reply P → is_some reply ≡ true
some-is P None h = absurd h
some-is P (Some commit) h = refl

some-found : (nothing : Bool) (mailbox : Option Committed) (P : Committed → Type 0) → (nothing ≡ false → IsSomeAnd (cond nothing None mailbox) P) → not nothing ≡ is_some (cond nothing None mailbox)
some-found true mailbox P h = refl
some-found false mailbox P h = sym (some-is P mailbox (h refl))

-- a pull that is not told of a pending commit
none-pending : (pending : Option Committed) (same : Bool) → (is_taken (slot_of pending) || same) ≡ false → pending ≡ None
none-pending None same e = refl
none-pending (Some commit) same e = cc

-- ---- a board that is found behind the lock

module _ (script : ScriptLists) (seat : SeatState) (found : ScriptBoard) (begins : BeginsWith found.board.entries seat.seen) (own : entries_of seat.lane found.board.entries ≡ seat.mine) where
  pub found-pull : (compositor : CompositorState) (frames : List DrawnFrame) → KnowsCompositor script seat compositor frames → IsNextOfCompositor script compositor.steps Pull → MayPull (record { script = script; board = found.board }) compositor
  found-pull compositor frames h next = record {
    frames = frames;
    silent = h.silent;
    ahead = compositor-found script seat compositor frames found.board.entries h begins own;
    next = next;
  }

  abbrev pub found-send : (compositor : CompositorState) (frames : List DrawnFrame) → HasMarked script seat compositor frames → MaySendMarks (record { script = script; board = found.board }) compositor
  found-send compositor frames h = record {
    before = h.before;
    frames = h.earlier;
    silent = h.knows.silent;
    step = h.step;
    ahead = compositor-found script seat h.before h.earlier found.board.entries h.knows begins own;
    next = h.next;
    may_mark = h.may_mark;
    is = h.is;
  }

  -- ---- after the section

  module _ (is : found.script ≡ script) (kept : IsKeptBehindLock found) (held result : SeatState) (after : ScriptBoard) (seen : held ≡ record seat { seen = found.board.entries }) (released : result ≡ seat_after held after.board.entries) where
    kept-here : IsKeptBehindLock (record { script = script; board = found.board })
    kept-here = subst (λ (s : ScriptLists). IsKeptBehindLock (record { script = s; board = found.board })) is kept

    same-seat : result ≡ seat_after (record seat { seen = found.board.entries }) after.board.entries
    same-seat = released ∙ ap (λ s. seat_after s after.board.entries) seen

    pub knows-sent : (compositor later : CompositorState) (frames : List DrawnFrame) → HasMarked script seat compositor frames → compositor.sent < length compositor.marks → after ≡ record found { board = board_told compositor found.board } → later ≡ compositor_after_send compositor → KnowsCompositor script result later frames
    knows-sent compositor later frames h some made sent =
        let shared : ScriptBoard = record { script = script; board = found.board } in
        let may = found-send compositor frames h in
        let at = compositor-found script seat h.before h.earlier found.board.entries h.knows begins own in
        subst (λ (s : SeatState). KnowsCompositor script s later frames) (sym same-seat)
        (knows-compositor_after shared kept-here h.knows.silent h.before h.earlier at h.step h.next after.board
        (sent-is shared kept-here compositor may after.board (ap (λ (s : ScriptBoard). s.board) made))
        (sent-one shared kept-here compositor may some)
        (record seat { seen = found.board.entries }) h.knows.seat_is.lane_is h.knows.seat_is.subject later frames
        (marked-turned h.step found.board h.before later h.may_mark (sent ∙ ap compositor_after_send h.is)) h.drawn)

    pub knows-pulled : (compositor later : CompositorState) (frames : List DrawnFrame) (gave : Bool) → KnowsCompositor script seat compositor frames → IsNextOfCompositor script compositor.steps Pull → after ≡ record found { board = board_after_compositor Pull compositor found.board } → later ≡ compositor_after_pull compositor (reply_to_pull found.board (slot_of compositor.pending)) → gave ≡ not (finds_nothing found.board.entries (slot_of compositor.pending)) → HasPulled script result later gave frames
    knows-pulled compositor later frames gave h next made pulled gave_is =
        let shared : ScriptBoard = record { script = script; board = found.board } in
        let at = compositor-found script seat compositor frames found.board.entries h begins own in
        let reply = reply_to_pull found.board (slot_of compositor.pending) in
        let nothing = finds_nothing found.board.entries (slot_of compositor.pending) in
        let allows : AllowsStep Pull compositor found.board = (compositor-may_here shared kept-here h.silent compositor frames at Pull next).allows in
        let placed : (last : CompositorState) → last ≡ compositor_with_reply reply compositor → KnowsCompositor script result last frames =
        λ last is_placed.
        subst (λ (s : SeatState). KnowsCompositor script s last frames) (sym same-seat)
        (knows-compositor_after shared kept-here h.silent compositor frames at Pull next after.board (ap (λ (s : ScriptBoard). s.board) made) tt
        (record seat { seen = found.board.entries }) h.seat_is.lane_is h.seat_is.subject last frames is_placed refl) in
        let something : gave ≡ true → nothing ≡ false = λ some. not-true nothing (sym gave_is ∙ some) in
        record {
          before = compositor;
          reply = reply;
          seat_is = (placed (compositor_with_reply reply compositor) refl).seat_is;
          pulled = pulled;
          found_is = gave_is ∙ some-found nothing found.board.mailbox (MayPlace compositor) allows;
          free = λ some. none-pending compositor.pending (published found.board.entries == last_pulled found.board.entries) (something some);
          may_place = λ some. allows (something some);
          placed = placed;
        }
