use Rattle.std.proofs.Common.{◌≡◌, ℕ, ◌+◌, ◌<◌, ◌≤◌, inl, inr, ap, arith}
use Rattle.std.proofs.lemmas.Bool.{cases_lt}
use Rattle.anim_names.specs.declared.progress.TheConstants.{ONE}
use Rattle.easing_fixed.specs.Cubics.{across, bound}
use Rattle.easing_fixed.proofs.Places.{place-from_gap}
use Rattle.easing_fixed.proofs.search.place_between.Goals as goal
use Rattle.easing_fixed.proofs.search.place_between.Goals.{then-reached-bound, else-reached-bound+then-next-bound}

-- a step that is not past is before one that is
before : (f : ℕ → ℕ) (most low high : ℕ) → low ≤ high → f low ≤ most → most < f high → low < high
before f most low high ordered not_past past = elim (cases_lt low high) [
  | inl h ↦ h
  | inr h ↦ let same : low ≡ high = omega arith in absurd (omega (arith, ap f same))
]

-- One of the two halves is a bracket again.
pub loop-high-preserved : goal.loop-high-preserved
loop-high-preserved c =
    let kept = c.loop-high.invariant in
    elim c.if-reached-bound.branch [
      | then-reached-bound w ↦
          let past = rw (c.across-reached.ensures, c.from.ensures, c.from-2.ensures) at w.if-reached-bound.true in
          rw (w.low-is, w.high-is) (c.look_at-middle.ensures.above, omega arith, kept.2, past, omega arith)
      | else-reached-bound+then-next-bound w ↦
          let not_past = rw (c.across-next.ensures, c.from.ensures, c.from-2.ensures) at w.if-next-bound.true in
          let some = before (λ s. across ONE c.args.x1 c.args.x2 s) (bound c.args.p) (c.look_at-middle.result + 1) c.loop-high.high (omega arith) not_past kept.3 in
          rw (w.low-is, w.high-is) (some, kept.1, not_past, kept.3, omega arith)
    ]

-- The step is not past the progress, and the next one is.
pub returns-else-next-bound-clause-value : goal.returns-else-next-bound-clause-value
returns-else-next-bound-clause-value c =
    let not_past = rw (c.across-reached.ensures, c.from.ensures, c.from-2.ensures) at c.if-reached-bound.false in
    let past = rw (c.across-next.ensures, c.from.ensures, c.from-2.ensures) at c.if-next-bound.false in
    place-from_gap c.args.x1 c.args.x2 c.args.p c.look_at-middle.result (c.look_at-middle.result + 1) c.requires.first c.requires.second (omega arith) (omega arith) (omega arith) not_past (λ h. past)

-- The gap has closed.
pub returns-clause-value : goal.returns-clause-value
returns-clause-value c =
    let kept = c.loop-high.invariant in
    place-from_gap c.args.x1 c.args.x2 c.args.p c.loop-high.low c.loop-high.high c.requires.first c.requires.second kept.0 (omega arith) (omega arith) kept.2 (λ h. kept.3)
