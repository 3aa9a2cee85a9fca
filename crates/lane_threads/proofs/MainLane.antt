-- Main's lane goes on by a step: ahead of the word of the journal, or in a section of the lock.
use Rattle.std.proofs.Common.{◌≡◌, ℕ, ◌+◌, ◌-◌, ◌<◌, ◌≤◌, List, [], ◌∷◌, ◌++◌, drop, length, refl, sym, ap, ◌∙◌, subst, arith, length-drop}
use Rattle.std.proofs.Math.Nat.{add_assoc, add-zero}
use Rattle.anim_names.specs.declared.entry.Entry.{Entry}
use Rattle.anim_names.specs.declared.lane.Lane.{Lane}
use Rattle.anim_names.specs.declared.lane.Lane.TheVariants.{Main, Compositor}
use Rattle.anim_names.specs.Lists.{BeginsWith}
use Rattle.commit_lock.specs.Journals.{entries_of}
use Rattle.commit_lock.specs.Seats.{SeatState}
use Rattle.frame_exchange.specs.Journals.{Exchange, word_so_far}
use Rattle.frame_exchange.specs.Sides.{MainState, main_after_edit, new_main}
use Rattle.frame_script.specs.Printing.{script_text}
use Rattle.tree_commit.specs.Edits.{Book, Change, new_book}
use Rattle.run_rules.specs.Scripts.{StepOfMain, EditStep, CommitStep, DrainStep, IsWellFormed, ScriptLists, are_allowed, book_after_step, event_room}
use Rattle.run_rules.specs.Runs.{MainLane, main_step}
use Rattle.word_machine.specs.Courses.{Course, board_of, course_after, course_of, made_with, main_of}
use Rattle.word_machine.specs.Turns.{MayMakeMain, counts_with, main_turned}
use Rattle.word_machine.proofs.MainTurns.{board-turned_main, counts-turned, main-turned, may_make_main}
use Rattle.word_machine.proofs.Right.{course-append, course_is_right, next_main}
use Rattle.word_machine.proofs.UnderWay.{bounded, counted-next, first-allowed}
use Rattle.lane_threads.specs.Knowing.{IsMainAhead, IsMainAt, IsNextOfMain, KnowsMain, with_letters}
use Rattle.lane_threads.proofs.Halves.{HasSameMain, main-kept}
use Rattle.lane_threads.proofs.Letters.{journal-goes_on, letters-none, letters-one}
use Rattle.word_machine.proofs.Letters.{left-after_main}

-- ---- a side that is that of a run

main-is : (main : MainState) (course : Course) (book : Book) (room : ℕ) → main ≡ main_of course book room → main ≡ main_of course main.book main.room
main-is main course book room is =
    is ∙ ap (λ b. main_of course b room) (sym (ap (λ (m : MainState). m.book) is))
    ∙ ap (λ r. main_of course main.book r) (sym (ap (λ (m : MainState). m.room) is))

-- a course with this half of main's
abbrev with_main : Course → MainLane → ℕ → Course
with_main course lane made = record course { lanes = record course.lanes { main = lane }; main_made = made }

main-of_same : (course other : Course) (book : Book) (room : ℕ) → HasSameMain course other → main_of course book room ≡ main_of other book room
main-of_same course other book room same =
    ap (λ lane. main_of (with_main course lane course.main_made) book room) same.lane
    ∙ ap (λ made. main_of (with_main course other.lanes.main made) book room) same.made

-- the same after letters of the compositor
pub main-moved : (script : ScriptLists) (others : ℕ) (word : List Lane) (main : MainState) (counts : List ℕ) → IsMainAt script word main counts → IsMainAt script (with_letters Compositor others word) main counts
main-moved script others word main counts at =
    let same = main-kept script others word in
    record {
      of_main = at.of_main ∙ sym (main-of_same (course_of script (with_letters Compositor others word)) (course_of script word) main.book main.room same);
      of_counts = at.of_counts ∙ sym (ap (λ (l : MainLane). l.counts) same.lane);
      of_left = ap (λ (l : MainLane). l.left) same.lane ∙ at.of_left;
      counted = at.counted ∙ sym (ap (λ (l : MainLane). length l.commits) same.lane);
      allowed = at.allowed;
      batch_room = at.batch_room;
    }

-- a side that is ahead of a word by nothing
pub main-level : (script : ScriptLists) (word : List Lane) (main : MainState) (counts : List ℕ) → IsMainAt script word main counts → IsMainAhead script word 0 main counts
main-level script word main counts at =
    let same = letters-none Main word in
    record {
      at = subst (λ (w : List Lane). IsMainAt script w main counts) (sym same) at;
      made = ap (λ w. (course_of script w).main_made) same ∙ sym (add-zero (course_of script word).main_made);
      quiet = λ room queue_room. ap (λ w. board_of (course_of script w) room queue_room) same;
    }

-- ---- the next step

-- a step that is the next one is within the script
pub main-within : (script : ScriptLists) (made : ℕ) (step : StepOfMain) → IsNextOfMain script made step → made < length script.main
main-within script made step next =
    let rest : length (drop made script.main) ≡ length script.main - made = length-drop made script.main in
    omega (arith, rest, ap length next)

steps-turned : (step : StepOfMain) (board : Exchange) (main : MainState) → (main_turned step board main).steps ≡ main.steps + 1
steps-turned (EditStep change) board main = refl
steps-turned CommitStep board main = refl
steps-turned DrainStep board main = refl

counted-after : (course : Course) (step : StepOfMain) (left : List StepOfMain) (book : Book) → course.lanes.main.left ≡ step ∷ left → book.commits ≡ length course.lanes.main.commits → (book_after_step book step).commits ≡ length (course_after course Main).lanes.main.commits
unfolding main_step
counted-after course step left book is counted =
    counted-next course step left book counted ∙ ap (λ steps. length (next_main course steps).lanes.main.commits) (sym is)

pub main_made-after : (course : Course) (step : StepOfMain) (left : List StepOfMain) → course.lanes.main.left ≡ step ∷ left → (course_after course Main).main_made ≡ course.main_made + 1
main_made-after course step left is = ap (made_with course.main_made) is

pub main-next : (script : ScriptLists) (word : List Lane) (main later : MainState) (counts more : List ℕ) (step : StepOfMain) (room queue_room : ℕ) → IsMainAt script word main counts → IsNextOfMain script main.steps step → later ≡ main_turned step (board_of (course_of script word) room queue_room) main → more ≡ counts_with step later counts → IsMainAt script (word ++ Main ∷ []) later more
main-next script word main later counts more step room queue_room at next made counted =
    let course = course_of script word in
    let left = drop (main.steps + 1) script.main in
    let is : course.lanes.main.left ≡ step ∷ left = at.of_left ∙ next in
    let one : course_of script (word ++ Main ∷ []) ≡ course_after course Main = course-append script word Main in
    let book = book_after_step main.book step in
    let turned : later ≡ main_of (course_after course Main) book main.room =
    made ∙ ap (λ m. main_turned step (board_of course room queue_room) m) at.of_main
    ∙ main-turned course step left main.book room queue_room main.room is in
    let book_is : later.book ≡ book = ap (λ (m : MainState). m.book) turned in
    let steps_is : later.steps ≡ main.steps + 1 = ap (λ (m : MainState). m.steps) made ∙ steps-turned step (board_of course room queue_room) main in
    let allowed = (first-allowed main.book step left (ap (are_allowed main.book) (sym next) ∙ at.allowed)).1 in
    record {
      of_main = main-is later (course_of script (word ++ Main ∷ [])) book main.room (turned ∙ ap (λ (c : Course). main_of c book main.room) (sym one));
      of_counts = counted ∙ ap (λ m. counts_with step m counts) turned ∙ ap (λ n. counts_with step (main_of (course_after course Main) book main.room) n) at.of_counts
          ∙ counts-turned course step left book main.room is ∙ ap (λ (c : Course). c.lanes.main.counts) (sym one);
      of_left = ap (λ (c : Course). c.lanes.main.left) one ∙ left-after_main course step left is ∙ ap (λ n. drop n script.main) (sym steps_is);
      counted = ap (λ (b : Book). b.commits) book_is ∙ counted-after course step left main.book is at.counted ∙ ap (λ (c : Course). length c.lanes.main.commits) (sym one);
      allowed = ap (λ b. are_allowed b (drop later.steps script.main)) book_is ∙ ap (λ n. are_allowed book (drop n script.main)) steps_is ∙ allowed;
      batch_room = omega (arith, at.batch_room, ap (λ (m : MainState). m.room) turned);
    }

-- Main may make its next step on a board of the run.
pub main-may : (script : ScriptLists) → IsWellFormed script → (word : List Lane) (main : MainState) (counts : List ℕ) (step : StepOfMain) (room queue_room : ℕ) → IsMainAt script word main counts → IsNextOfMain script main.steps step → 0 < room → MayMakeMain step main (board_of (course_of script word) room queue_room)
main-may script well word main counts step room queue_room at next some =
    let course = course_of script word in
    let events = (bounded script well word).events in
    let steps_is : main.steps ≡ course.main_made = ap (λ (m : MainState). m.steps) at.of_main in
    subst (λ (m : MainState). MayMakeMain step m (board_of course room queue_room)) (sym at.of_main)
    (may_make_main course step main.book room queue_room main.room (course_is_right script word) at.counted
    (first-allowed main.book step (drop (main.steps + 1) script.main) (ap (are_allowed main.book) (sym next) ∙ at.allowed)).0
    (omega (arith, steps_is, main-within script main.steps step next, well.main_steps))
    some
    (omega (arith, at.batch_room, events.two_each))
    events.fit)

-- ---- an edit, ahead of the word

edit-is_quiet : (script : ScriptLists) (word : List Lane) (main : MainState) (counts : List ℕ) (change : Change) → IsMainAt script word main counts → IsNextOfMain script main.steps (EditStep change) → (room queue_room : ℕ) → board_of (course_of script (word ++ Main ∷ [])) room queue_room ≡ board_of (course_of script word) room queue_room
edit-is_quiet script word main counts change at next room queue_room =
    let course = course_of script word in
    ap (λ (c : Course). board_of c room queue_room) (course-append script word Main)
    ∙ sym (board-turned_main course (EditStep change) (drop (main.steps + 1) script.main) main.book room queue_room main.room (at.of_left ∙ next) (course_is_right script word) at.counted)

main-edits : (script : ScriptLists) (word : List Lane) (silent : ℕ) (main later : MainState) (counts : List ℕ) (change : Change) → IsMainAhead script word silent main counts → IsNextOfMain script main.steps (EditStep change) → later ≡ main_after_edit main change → IsMainAhead script word (silent + 1) later counts
main-edits script word silent main later counts change h next made =
    let before = with_letters Main silent word in
    let one = letters-one Main silent word in
    record {
      at = subst (λ (w : List Lane). IsMainAt script w later counts) (sym one)
          (main-next script before main later counts counts (EditStep change) 0 0 h.at next made refl);
      made = ap (λ w. (course_of script w).main_made) one ∙ ap (λ (c : Course). c.main_made) (course-append script before Main)
          ∙ main_made-after (course_of script before) (EditStep change) (drop (main.steps + 1) script.main) (h.at.of_left ∙ next)
          ∙ ap (λ n. n + 1) h.made ∙ add_assoc (course_of script word).main_made silent 1;
      quiet = λ room queue_room. ap (λ w. board_of (course_of script w) room queue_room) one
          ∙ edit-is_quiet script before main counts change h.at next room queue_room ∙ h.quiet room queue_room;
    }

-- Main knows what it knew, and of one step more.
pub knows-edit : (script : ScriptLists) (seat : SeatState) (main later : MainState) (counts : List ℕ) (change : Change) → KnowsMain script seat main counts → IsNextOfMain script main.steps (EditStep change) → later ≡ main_after_edit main change → KnowsMain script seat later counts
knows-edit script seat main later counts change h next made = record {
  seat_is = h.seat_is;
  silent = h.silent + 1;
  ahead = λ others. main-edits script (with_letters Compositor others (word_so_far seat.seen)) h.silent main later counts change (h.ahead others) next made;
}

-- ---- the beginning

pub no-entries : (script : ScriptLists) → [] ≡ (course_of script []).entries
unfolding course_of
no-entries script = refl

main-begins : (script : ScriptLists) → IsWellFormed script → (main : MainState) → main ≡ new_main main.room → event_room script ≤ main.room → IsMainAt script [] main []
unfolding course_of
main-begins script well main is room = record {
  of_main = main-is main (course_of script []) new_book main.room is;
  of_counts = refl;
  of_left = ap (λ n. drop n script.main) (sym (ap (λ (m : MainState). m.steps) is));
  counted = ap (λ (m : MainState). m.book.commits) is;
  allowed = ap (λ (m : MainState). are_allowed m.book (drop m.steps script.main)) is ∙ well.edits;
  batch_room = room;
}

pub knows-new_main : (script : ScriptLists) → IsWellFormed script → (seat : SeatState) (main : MainState) → main ≡ new_main main.room → event_room script ≤ main.room → seat.lane ≡ Main → seat.subject ≡ script_text script → seat.seen ≡ [] → seat.mine ≡ [] → KnowsMain script seat main []
knows-new_main script well seat main is room lane subject seen mine = record {
  seat_is = record {
    lane_is = lane;
    subject = subject;
    mine = mine ∙ sym (ap (entries_of Main) seen);
    history = seen ∙ no-entries script ∙ sym (ap (λ l. (course_of script (word_so_far l)).entries) seen);
  };
  silent = 0;
  ahead = λ others. main-level script (with_letters Compositor others (word_so_far seat.seen)) main []
      (main-moved script others (word_so_far seat.seen) main []
      (subst (λ (l : List Entry). IsMainAt script (word_so_far l) main []) (sym seen) (main-begins script well main is room)));
}

-- ---- a section

-- What a lane finds behind the lock is a run in which main is as far ahead as it knew.
pub main-found : (script : ScriptLists) (seat : SeatState) (main : MainState) (counts : List ℕ) (journal : List Entry) → (h : KnowsMain script seat main counts) → BeginsWith journal seat.seen → entries_of seat.lane journal ≡ seat.mine → IsMainAhead script (word_so_far journal) h.silent main counts
main-found script seat main counts journal h begins own =
    let same : entries_of Main journal ≡ entries_of Main seat.seen =
    ap (λ l. entries_of l journal) (sym h.seat_is.lane_is) ∙ own ∙ h.seat_is.mine in
    let on = journal-goes_on Compositor seat.seen journal begins same in
    subst (λ (w : List Lane). IsMainAhead script w h.silent main counts) (sym on.is) (h.ahead on.more)
