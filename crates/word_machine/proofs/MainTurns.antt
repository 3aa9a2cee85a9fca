-- A step of main leads from one moment of a run to the next, on main's side and on the board.
use Rattle.std.proofs.Common.{◌≡◌, ℕ, ◌+◌, ◌-◌, ◌<◌, ◌≤◌, ◌^◌, ◌==◌, cond, Option, Some, None, List, [], ◌∷◌, ◌++◌, length, map, refl, sym, ap, ◌∙◌, arith}
use Rattle.std.specs.Prelude.{IsTrue}
use Rattle.std.proofs.lemmas.Bool.{ne_eqb}
use Rattle.std.proofs.lemmas.List.{append-nil, length-append, length-map}
use Rattle.anim_names.specs.declared.entry.Entry.{Entry}
use Rattle.anim_names.specs.declared.entry.EntryKind.TheVariants as kind
use Rattle.anim_names.specs.declared.event.AnimEvent.{AnimEvent}
use Rattle.anim_names.specs.declared.lane.Lane.TheVariants.{Main}
use Rattle.anim_names.specs.declared.limit.TheConstants.{MOST_STEPS}
use Rattle.frame_exchange.specs.Journals.{Exchange}
use Rattle.tree_commit.specs.Trees.{Committed, next_commit}
use Rattle.tree_commit.specs.Edits.{Book}
use Rattle.run_rules.specs.Marks.{event_of}
use Rattle.run_rules.specs.Scripts.{StepOfMain, EditStep, CommitStep, DrainStep, book_after_step, is_allowed}
use Rattle.run_rules.specs.Runs.{after_drain, main_step, unheard_events}
use Rattle.word_machine.specs.Courses.{Course, board_of, course_after, main_of}
use Rattle.word_machine.specs.Turns.{MayMakeMain, board_after_main, counts_with, main_turned}
use Rattle.word_machine.proofs.Right.{IsRight, newest-last, next_main, unheard-length}

-- ---- before the step

pub may_make_main : (course : Course) (step : StepOfMain) (book : Book) (room queue_room batch_room : ℕ) → IsRight course → book.commits ≡ length course.lanes.main.commits → IsTrue (is_allowed book step) → course.main_made < MOST_STEPS → 0 < room → length course.lanes.compositor.marks ≤ batch_room → length course.lanes.compositor.marks < 2 ^ 32 → MayMakeMain step (main_of course book batch_room) (board_of course room queue_room)
may_make_main course step book room queue_room batch_room right counted allowed under some fits few =
    let unheard = unheard-length course.lanes.compositor.marks course.lanes.main in
    record {
      complete = record { published = refl; heard = refl };
      allowed = allowed;
      steps = under;
      room = some;
      later = right.main_upto;
      next = counted ∙ sym right.published;
      batch_room = omega (arith, unheard, fits);
      few = omega (arith, unheard, right.heard, few);
    }

-- ---- main's side

turned : (course : Course) (step : StepOfMain) (left : List StepOfMain) (book : Book) (room queue_room batch_room : ℕ) → main_turned step (board_of course room queue_room) (main_of course book batch_room) ≡ main_of (next_main course (step ∷ left)) (book_after_step book step) batch_room
unfolding after_drain
turned course (EditStep change) left book room queue_room batch_room = refl
turned course CommitStep left book room queue_room batch_room = refl
turned course DrainStep left book room queue_room batch_room =
    ap (λ n. record (main_of (next_main course (DrainStep ∷ left)) book batch_room) { heard = n })
    (sym (length-append course.lanes.main.heard (unheard_events course.lanes.compositor.marks course.lanes.main)))

pub main-turned : (course : Course) (step : StepOfMain) (left : List StepOfMain) (book : Book) (room queue_room batch_room : ℕ) → course.lanes.main.left ≡ step ∷ left → main_turned step (board_of course room queue_room) (main_of course book batch_room) ≡ main_of (course_after course Main) (book_after_step book step) batch_room
unfolding main_step
main-turned course step left book room queue_room batch_room is =
    turned course step left book room queue_room batch_room
    ∙ ap (λ steps. main_of (next_main course steps) (book_after_step book step) batch_room) (sym is)

-- ---- the board

abbrev pub a_board : List Entry → Option Committed → List AnimEvent → ℕ → ℕ → ℕ → Exchange
a_board entries mailbox events heard queue_room room = record {
  entries = entries;
  mailbox = mailbox;
  queue = record { events = events; heard = heard; room = queue_room };
  room = room;
}

pub same_board : {entries more : List Entry} {mailbox newer : Option Committed} {events longer : List AnimEvent} {heard most : ℕ} (queue_room room : ℕ) → entries ≡ more → mailbox ≡ newer → events ≡ longer → heard ≡ most → a_board entries mailbox events heard queue_room room ≡ a_board more newer longer most queue_room room
same_board {entries} {more} {mailbox} {newer} {events} {longer} {heard} {most} queue_room room e m v h =
    ap (λ x. a_board x mailbox events heard queue_room room) e
    ∙ ap (λ x. a_board more x events heard queue_room room) m
    ∙ ap (λ x. a_board more newer x heard queue_room room) v
    ∙ ap (λ x. a_board more newer longer x queue_room room) h

-- the room that a step of main leaves
abbrev pub room_after_main : StepOfMain → ℕ → ℕ
room_after_main (EditStep change) room = room
room_after_main CommitStep room = room - 1
room_after_main DrainStep room = room - 1

-- the newest commit is in the mailbox where another was pulled last
mailbox-new : (newest : Committed) (pulled : ℕ) → (newest.number ≡ pulled → ⊥) → cond (newest.number == pulled) None (Some newest) ≡ Some newest
mailbox-new newest pulled other = ap (λ b. cond b None (Some newest)) (ne_eqb newest.number pulled other)

board-turned_next : (course : Course) (step : StepOfMain) (left : List StepOfMain) (book : Book) (room queue_room batch_room : ℕ) → IsRight course → book.commits ≡ length course.lanes.main.commits → board_after_main step (main_of course book batch_room) (board_of course room queue_room) ≡ board_of (next_main course (step ∷ left)) (room_after_main step room) queue_room
unfolding after_drain
board-turned_next course (EditStep change) left book room queue_room batch_room right counted =
    same_board queue_room room (sym (append-nil course.entries)) refl refl refl
board-turned_next course CommitStep left book room queue_room batch_room right counted =
    let commits = course.lanes.main.commits in
    let tree = course.lanes.main.tree in
    let pulled = course.lanes.compositor.pulled in
    let new = next_commit (length commits) tree in
    same_board queue_room (room - 1)
    (ap (λ n. course.entries ++ record { lane = Main; upto = course.main_made + 1; kind = kind.Publish (n + 1) } ∷ []) right.published)
    (ap (λ n. Some (next_commit n tree)) counted
    ∙ sym (mailbox-new new pulled (λ e. omega (arith, e, right.within)))
    ∙ ap (λ (c : Committed). cond (c.number == pulled) None (Some c)) (sym (newest-last commits new)))
    refl refl
board-turned_next course DrainStep left book room queue_room batch_room right counted =
    let marks = course.lanes.compositor.marks in
    let heard = course.lanes.main.heard in
    let new = unheard_events marks course.lanes.main in
    let all : length (heard ++ new) ≡ length heard + length new = length-append heard new in
    let events : length (map event_of marks) ≡ length marks = length-map marks event_of in
    same_board queue_room (room - 1) refl refl refl
    (omega (arith, all, events, unheard-length marks course.lanes.main, right.heard))

pub board-turned_main : (course : Course) (step : StepOfMain) (left : List StepOfMain) (book : Book) (room queue_room batch_room : ℕ) → course.lanes.main.left ≡ step ∷ left → IsRight course → book.commits ≡ length course.lanes.main.commits → board_after_main step (main_of course book batch_room) (board_of course room queue_room) ≡ board_of (course_after course Main) (room_after_main step room) queue_room
unfolding main_step
board-turned_main course step left book room queue_room batch_room is right counted =
    board-turned_next course step left book room queue_room batch_room right counted
    ∙ ap (λ steps. board_of (next_main course steps) (room_after_main step room) queue_room) (sym is)

-- ---- the counts

counts-turned_next : (course : Course) (step : StepOfMain) (left : List StepOfMain) (book : Book) (batch_room : ℕ) → counts_with step (main_of (next_main course (step ∷ left)) book batch_room) course.lanes.main.counts ≡ (next_main course (step ∷ left)).lanes.main.counts
unfolding after_drain
counts-turned_next course (EditStep change) left book batch_room = refl
counts-turned_next course CommitStep left book batch_room = refl
counts-turned_next course DrainStep left book batch_room = refl

pub counts-turned : (course : Course) (step : StepOfMain) (left : List StepOfMain) (book : Book) (batch_room : ℕ) → course.lanes.main.left ≡ step ∷ left → counts_with step (main_of (course_after course Main) book batch_room) course.lanes.main.counts ≡ (course_after course Main).lanes.main.counts
unfolding main_step
counts-turned course step left book batch_room is =
    ap (λ steps. counts_with step (main_of (next_main course steps) book batch_room) course.lanes.main.counts) is
    ∙ counts-turned_next course step left book batch_room
    ∙ ap (λ steps. (next_main course steps).lanes.main.counts) (sym is)
