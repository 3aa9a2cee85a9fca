-- The commit that is read is the one that a contract sees, and a local time is far from the ends of 64 bits.
use Rattle.std.proofs.Common.{◌≡◌, ◌≤◌, ℕ, IsTrue, sym, subst, ◌∙◌, to_z, of_z, w64, arith}
use Rattle.std.specs.Prelude.{ℤ, unsigned_abs}
use Rattle.std.proofs.lemmas.Int.{ints}
use Rattle.keyframe_model.specs.Models.{Spec}
use Rattle.micro_time.specs.declared.TheConstants.{LARGEST_LOCAL}
use Rattle.tree_commit.specs.Tables.{has_timeline}
use Rattle.tree_commit.specs.declared.shown.Shown.{Shown}
use Rattle.tree_commit.specs.Trees.{Committed, local_time}
use Rattle.active_tree.proofs.sampled_commit.SampledCommit.evaluate.Goals as goal

within : (result local : ℤ) → result ≡ local → unsigned_abs local ≤ LARGEST_LOCAL → unsigned_abs (to_z w64 (of_z w64 result)) ≤ LARGEST_LOCAL
within result local is small = omega (arith, ints)

fits : (read seen : Committed) (tick : ℕ) (model : Spec) (shown : Shown) → read ≡ seen
    → unsigned_abs (local_time seen.tree tick model shown) ≤ LARGEST_LOCAL
    → unsigned_abs (local_time read.tree tick model shown) ≤ LARGEST_LOCAL
fits read seen tick model shown one small = subst (λ (t : Committed). unsigned_abs (local_time t.tree tick model shown) ≤ LARGEST_LOCAL) (sym one) small

pub local_time-local-requires-clause-timeline_there : goal.local_time-local-requires-clause-timeline_there
local_time-local-requires-clause-timeline_there g c =
    subst (λ (t : Committed). IsTrue (has_timeline t.tree c.args.model.now.timeline)) (sym (c.deref.ensures ∙ c.self.view_is)) c.requires.timeline_there

pub local_time-local-requires-clause-fits : goal.local_time-local-requires-clause-fits
local_time-local-requires-clause-fits g c =
    fits c.deref.result.now c.args.self.now c.args.time c.args.model.now c.args.shown (c.deref.ensures ∙ c.self.view_is) c.requires.local

pub at-requires : goal.at-requires
at-requires g c =
    within c.local_time-local.result _ c.local_time-local.ensures
    (fits c.deref.result.now c.args.self.now c.args.time c.args.model.now c.args.shown (c.deref.ensures ∙ c.self.view_is) c.requires.local)

pub keep_if_over-requires-clause-within : goal.keep_if_over-requires-clause-within
keep_if_over-requires-clause-within g c =
    within c.local_time-local.result _ c.local_time-local.ensures
    (fits c.deref.result.now c.args.self.now c.args.time c.args.model.now c.args.shown (c.deref.ensures ∙ c.self.view_is) c.requires.local)
