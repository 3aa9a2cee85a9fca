-- A board before the first step is kept as a board behind the lock has to be.
use Rattle.std.proofs.Common.{◌≡◌, ◌+◌, ◌≤◌, List, [], length, refl, sym, ap, ◌∙◌, arith}
use Rattle.anim_names.specs.declared.lane.Lane.{Lane}
use Rattle.anim_names.specs.declared.lane.Lane.TheVariants.{Main, Compositor}
use Rattle.anim_names.specs.Lanes.{letters_of}
use Rattle.frame_exchange.specs.Journals.{Exchange, IsExchange, word_so_far}
use Rattle.frame_exchange.specs.Sides.{new_compositor, new_main}
use Rattle.run_rules.specs.Scripts.{IsWellFormed, ScriptLists, event_room}
use Rattle.word_machine.specs.Courses.{board_of, course_of}
use Rattle.word_machine.specs.Moments.{model_count}
use Rattle.word_machine.proofs.Moments.{at_beginning}
use Rattle.lane_threads.specs.Keeping.{IsKeptBehindLock}

pub kept-new : (script : ScriptLists) → IsWellFormed script → (board : Exchange) → IsExchange board → board.entries ≡ [] → length script.main + length script.compositor ≤ board.room → event_room script ≤ board.queue.room → IsKeptBehindLock (record { script = script; board = board })
unfolding course_of
kept-new script well board is no_entry room queue_room =
    let at = at_beginning script well (new_main (event_room script)) (new_compositor (model_count script)) board is record {
      new_main = refl;
      new_compositor = refl;
      no_entry = no_entry;
      entry_room = room;
      queue_room = queue_room;
      batch_room = omega arith;
      models = omega arith;
    } in
    let word : word_so_far board.entries ≡ [] = ap word_so_far no_entry in
    let main : (course_of script (word_so_far board.entries)).main_made ≡ 0 = ap (λ (w : List Lane). (course_of script w).main_made) word in
    let compositor : (course_of script (word_so_far board.entries)).compositor_made ≡ 0 = ap (λ (w : List Lane). (course_of script w).compositor_made) word in
    record {
      well = well;
      of_board = at.of_board ∙ ap (λ (w : List Lane). board_of (course_of script w) board.room board.queue.room) (sym word);
      main_made = main ∙ sym (ap (letters_of Main) word);
      compositor_made = compositor ∙ sym (ap (letters_of Compositor) word);
      main_within = omega (arith, main);
      compositor_within = omega (arith, compositor);
      for_entries = omega (arith, room);
      for_events = omega (arith, queue_room);
    }
