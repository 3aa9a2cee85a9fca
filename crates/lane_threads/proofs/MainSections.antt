-- From what main knows to a section and back: what it may do there, and what it knows after it.
use Rattle.std.proofs.Common.{◌≡◌, ℕ, ◌<◌, List, refl, sym, ap, ◌∙◌, subst, arith}
use Rattle.std.proofs.lemmas.Bool.{ltb-true}
use Rattle.anim_names.specs.declared.lane.Lane.TheVariants.{Main, Compositor}
use Rattle.anim_names.specs.declared.limit.TheConstants.{MOST_COMMITS}
use Rattle.anim_names.specs.Lists.{BeginsWith}
use Rattle.commit_lock.specs.Journals.{entries_of}
use Rattle.commit_lock.specs.Seats.{SeatState, seat_after}
use Rattle.event_queue.specs.Queues.{unheard}
use Rattle.frame_exchange.specs.Journals.{word_so_far}
use Rattle.frame_exchange.specs.Sides.{MainState, main_after_drain, main_after_hearing, main_after_publish}
use Rattle.run_rules.specs.Scripts.{StepOfMain, CommitStep, DrainStep, IsWellFormed, ScriptLists}
use Rattle.tree_commit.specs.Trees.{Committed}
use Rattle.word_machine.specs.Courses.{board_of, course_of}
use Rattle.word_machine.specs.Turns.{MayMakeMain, board_after_main, counts_with}
use Rattle.lane_threads.specs.Keeping.{IsKeptBehindLock, ScriptBoard}
use Rattle.lane_threads.specs.Knowing.{IsNextOfMain, KnowsMain, with_letters}
use Rattle.lane_threads.specs.Sections.{HasBuilt, HasDrained, MayDrain, MayPublish, board_published}
use Rattle.lane_threads.proofs.MainLane.{main-found, main-may}
use Rattle.lane_threads.proofs.MainSection.{knows-main_after}

-- ---- outside

-- Main may make the step that it knows to be next.
pub known-may : (script : ScriptLists) → IsWellFormed script → (seat : SeatState) (main : MainState) (counts : List ℕ) (step : StepOfMain) → (h : KnowsMain script seat main counts) → IsNextOfMain script main.steps step → MayMakeMain step main (board_of (course_of script (with_letters Main h.silent (with_letters Compositor 0 (word_so_far seat.seen)))) 1 0)
known-may script well seat main counts step h next =
    main-may script well (with_letters Main h.silent (with_letters Compositor 0 (word_so_far seat.seen))) main counts step 1 0 (h.ahead 0).at next (omega arith)

-- Main may build the commit of its next step.
pub few-commits : (script : ScriptLists) → IsWellFormed script → (seat : SeatState) (main : MainState) (counts : List ℕ) → KnowsMain script seat main counts → IsNextOfMain script main.steps CommitStep → main.book.commits < MOST_COMMITS
few-commits script well seat main counts h next =
    ltb-true main.book.commits MOST_COMMITS (known-may script well seat main counts CommitStep h next).allowed

-- ---- a board that is found behind the lock

module _ (script : ScriptLists) (seat : SeatState) (found : ScriptBoard) (begins : BeginsWith found.board.entries seat.seen) (own : entries_of seat.lane found.board.entries ≡ seat.mine) where
  pub found-drain : (main : MainState) (counts : List ℕ) → KnowsMain script seat main counts → IsNextOfMain script main.steps DrainStep → MayDrain (record { script = script; board = found.board }) main
  found-drain main counts h next = record {
    counts = counts;
    silent = h.silent;
    ahead = main-found script seat main counts found.board.entries h begins own;
    next = next;
  }

  pub found-commit : (main : MainState) (commit : Committed) (counts : List ℕ) → HasBuilt script seat main commit counts → MayPublish (record { script = script; board = found.board }) main commit
  found-commit main commit counts h = record {
    before = h.before;
    counts = counts;
    silent = h.knows.silent;
    ahead = main-found script seat h.before counts found.board.entries h.knows begins own;
    next = h.next;
    built = h.built;
    given = h.given;
  }

  -- ---- after the section

  module _ (is : found.script ≡ script) (kept : IsKeptBehindLock found) (held result : SeatState) (after : ScriptBoard) (seen : held ≡ record seat { seen = found.board.entries }) (released : result ≡ seat_after held after.board.entries) where
    kept-here : IsKeptBehindLock (record { script = script; board = found.board })
    kept-here = subst (λ (s : ScriptLists). IsKeptBehindLock (record { script = s; board = found.board })) is kept

    pub knows-published : (main later : MainState) (commit : Committed) (counts : List ℕ) → HasBuilt script seat main commit counts → after ≡ record found { board = board_published main found.board } → later ≡ main_after_publish main → KnowsMain script result later counts
    knows-published main later commit counts h made published =
        subst (λ (s : SeatState). KnowsMain script s later counts) (sym (released ∙ ap (λ s. seat_after s after.board.entries) seen))
        (knows-main_after (record { script = script; board = found.board }) kept-here h.knows.silent h.before counts
        (main-found script seat h.before counts found.board.entries h.knows begins own) CommitStep h.next after.board
        (ap (λ (s : ScriptBoard). s.board) made ∙ ap (λ m. board_published m found.board) h.built) tt
        (record seat { seen = found.board.entries }) h.knows.seat_is.lane_is h.knows.seat_is.subject later counts
        (published ∙ ap main_after_publish h.built) refl)

    pub knows-drained : (main later : MainState) (counts : List ℕ) → KnowsMain script seat main counts → IsNextOfMain script main.steps DrainStep → after ≡ record found { board = board_after_main DrainStep main found.board } → later ≡ main_after_drain main (unheard found.board.queue) → HasDrained script result later counts
    knows-drained main later counts h next made drained =
        let at = main-found script seat main counts found.board.entries h begins own in
        let board = ap (λ (s : ScriptBoard). s.board) made in
        let same = released ∙ ap (λ s. seat_after s after.board.entries) seen in
        let heard : (last : MainState) (more : List ℕ) → last ≡ main_after_hearing later → more ≡ counts_with DrainStep last counts → KnowsMain script result last more =
        λ last more is counted.
        subst (λ (s : SeatState). KnowsMain script s last more) (sym same)
        (knows-main_after (record { script = script; board = found.board }) kept-here h.silent main counts at DrainStep next after.board board tt
        (record seat { seen = found.board.entries }) h.seat_is.lane_is h.seat_is.subject last more (is ∙ ap main_after_hearing drained) counted) in
        record {
          seat_is = (heard (main_after_hearing later) (counts_with DrainStep (main_after_hearing later) counts) refl refl).seat_is;
          heard = heard;
        }
