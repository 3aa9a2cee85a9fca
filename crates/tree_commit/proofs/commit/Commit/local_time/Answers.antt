use Rattle.std.proofs.Common.{◌≡◌, ◌≤◌, ◌∙◌, sym, ap, arith}
use Rattle.std.specs.Prelude.{◌-ℤ◌, unsigned_abs}
use Rattle.std.specs.Option.{option_copied}
use Rattle.std.proofs.lemmas.Int.{ints}
use Rattle.micro_time.specs.declared.TheConstants.{LARGEST_LOCAL}
use Rattle.tree_commit.specs.Trees.{local_time}
use Rattle.tree_commit.proofs.TableLemmas.{local_time-found}
use Rattle.tree_commit.proofs.commit.Commit.local_time.Goals as goal

pub since-requires : goal.since-requires
since-requires c =
    let found = sym (ap option_copied c.unwrap-timeline.ensures) ∙ c.timeline-2.ensures.origin in
    let same = local_time-found c.args.self.now.tree c.args.time c.args.model.now c.args.shown c.unwrap-timeline.result.now (rw c.timeline.ensures at found) in
    let size : unsigned_abs (c.time_of.result -ℤ c.args.shown.start) ≤ LARGEST_LOCAL = rw (c.time_of.ensures.value, ← same) c.requires.fits in
    omega (arith, ints, size)

pub returns : goal.returns
returns c =
    let found = sym (ap option_copied c.unwrap-timeline.ensures) ∙ c.timeline-2.ensures.origin in
    let same = local_time-found c.args.self.now.tree c.args.time c.args.model.now c.args.shown c.unwrap-timeline.result.now (rw c.timeline.ensures at found) in
    let exact : c.time_of.result -ℤ c.args.shown.start ≡ local_time c.args.self.now.tree c.args.time c.args.model.now c.args.shown = rw c.time_of.ensures.value (sym same) in
    let since = c.since.ensures in
    omega (arith, ints, since, exact)
