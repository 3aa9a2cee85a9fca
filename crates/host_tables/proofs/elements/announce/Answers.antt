use Rattle.std.proofs.Common.{◌≤◌, ℕ, Bool, true, false, arith}
use Rattle.std.specs.Prelude.{if◌then◌else◌}
use Rattle.anim_names.specs.declared.lane.Tree.TheVariants.{Pending}
use Rattle.element_anims.specs.Elements.{Anims, is_known, room_for}
use Rattle.tree_commit.specs.Views.{look_of}
use Rattle.host_tables.proofs.ElementLemmas.{set-next}
use Rattle.host_tables.proofs.elements.announce.Goals as goal

one-most : (b : Bool) → (if b then 0 else 1) ≤ 1
one-most true = omega arith
one-most false = omega arith

room-few : (table : Anims) (e : ℕ) → room_for table e ≤ 1
room-few table e = one-most (is_known table e)

pub loop-index-preserved : goal.loop-index-preserved
loop-index-preserved c =
    let room = c.loop-index.invariant.1 in
    let used = c.set_present.ensures.room in
    let few = room-few c.loop-index.table c.element_at-element.result.0 in (
      set-next Pending c.args.commit.now.tree.elements c.loop-index.index (record { id = c.element_at-element.result.0; look = look_of c.element_at-element.result.1.now }) true
          c.args.table.now c.loop-index.table c.set_present.new.self c.element_at-element.ensures c.set_present.ensures.set c.loop-index.invariant.0,
      omega arith,
    )
