use Rattle.std.proofs.Common.{◌≤◌}
use Rattle.anim_host.proofs.OverLemmas.{over-later}
use Rattle.anim_host.proofs.standing.Standing.set_last_tick.Goals as goal

pub invariant_of-self : goal.invariant_of-self
invariant_of-self c =
    let before = c.self.invariant in
    let later : c.self.inside.last_tick ≤ c.args.time = rw (← c.self.view_is) at c.requires in
    record {
      of_rows = before.of_rows;
      over = λ id says. over-later c.self.inside.active.value.tree c.self.inside.marks.marks c.self.inside.last_tick c.args.time id later (before.over id says);
      of_groups = before.of_groups;
      roomy = before.roomy;
      of_elements = before.of_elements;
      of_blocks = before.of_blocks;
      finishes = before.finishes;
      fits = before.fits;
      follows = before.follows;
    }
