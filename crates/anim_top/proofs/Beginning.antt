-- New sides and a reserved board may replay any script.
use Rattle.std.proofs.Common.{◌≡◌, ◌+◌, ◌*◌, ◌≤◌, [], length, sym, ap, ◌∙◌, arith}
use Rattle.anim_names.specs.declared.limit.TheConstants.{MOST_MODELS}
use Rattle.frame_exchange.specs.Journals.{Exchange}
use Rattle.frame_exchange.specs.Sides.{CompositorState, MainState, new_compositor, new_main}
use Rattle.run_rules.specs.Scripts.{IsWellFormed, ScriptLists}
use Rattle.word_machine.specs.Moments.{MayReplay}
use Rattle.word_machine.proofs.UnderWay.{few_models}

pub may_replay : (script : ScriptLists) → IsWellFormed script → (main : MainState) (compositor : CompositorState) (board : Exchange) → main ≡ new_main (2 * MOST_MODELS) → compositor ≡ new_compositor MOST_MODELS → board.entries ≡ [] → length script.main + length script.compositor ≤ board.room → 2 * MOST_MODELS ≤ board.queue.room → MayReplay script main compositor board
may_replay script well main compositor board is_main is_compositor no_entry room events =
    let few = few_models script well in
    let batches : main.room ≡ 2 * MOST_MODELS = ap (λ (m : MainState). m.room) is_main in
    let models : compositor.models ≡ MOST_MODELS = ap (λ (c : CompositorState). c.models) is_compositor in
    record {
      new_main = is_main ∙ ap new_main (sym batches);
      new_compositor = is_compositor ∙ ap new_compositor (sym models);
      no_entry = no_entry;
      entry_room = room;
      queue_room = omega (arith, few, events);
      batch_room = omega (arith, few, batches);
      models = omega (arith, few, models);
    }
