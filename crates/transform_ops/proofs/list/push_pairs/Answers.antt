use Rattle.std.proofs.Common.{◌≡◌, suc, ◌∷◌, [], ◌++◌, length, arith, append_assoc, rules}
use Rattle.std.proofs.lemmas.Grind.{common_steps}
use Rattle.std.proofs.lemmas.Int.{to_z-of_z}
use Rattle.std.proofs.lemmas.Slice.Zip.{zip_turn, zip_end}
use Rattle.transform_ops.proofs.Matching.{front, front-more, front-all}
use Rattle.transform_ops.proofs.list.push_pairs.Goals as goal

pub loop-a-preserved : goal.loop-a-preserved
loop-a-preserved c =
    let turn = zip_turn c.args.from.now c.args.to.now c.loop-a.yielded c.into_iter-a-iterator.result c.loop-a.a-iterator c.next.new.self _ (search rules) (search rules) c.loop-a.yielded_by (c.in-Some.a, c.in-Some.b) c.in-Some.is c.next.ensures.steps in
    let more = front-more (length c.loop-a.yielded) c.args.from.now c.args.to.now c.args.progress c.in-Some.a.now c.in-Some.b.now turn.0 turn.1 in
    let one : length (c.loop-a.yielded ++ (c.in-Some.a, c.in-Some.b) ∷ []) ≡ suc (length c.loop-a.yielded) = grind (arith, common_steps) in
    let fits = c.ranges.progress in
    let so_far = simp to_z-of_z at c.loop-a.invariant in
    let blended = simp to_z-of_z at c.blend.ensures.value in
    let a = turn.2 c.in-Some.a.now in
    let b = turn.3 c.in-Some.b.now in
    let together = append_assoc c.args.ops.now.items (front (length c.loop-a.yielded) c.args.from.now c.args.to.now c.args.progress) (c.blend.result ∷ []) in
    simp to_z-of_z (rw (one, more) (cc (c.in_ok-push.ensures.items)))

pub returns : goal.returns
returns c =
    let fits = c.ranges.progress in
    let count = zip_end c.args.from.now c.args.to.now c.loop-a.yielded c.into_iter-a-iterator.result c.loop-a.a-iterator c.next.new.self _ (search rules) (search rules) c.loop-a.yielded_by c.in-None.is c.next.ensures.steps in
    let all = front-all (length c.loop-a.yielded) c.args.from.now c.args.to.now c.args.progress count in
    rw all at (simp to_z-of_z at c.loop-a.invariant)
