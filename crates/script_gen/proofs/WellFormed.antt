-- A script that is made from a number is well formed.
use Rattle.std.proofs.Common.{◌≡◌, ℕ, ◌*◌, ◌≤◌, ◌∷◌, ◌++◌, length, length-append, arith}
use Rattle.std.specs.List.{AllByRecursion, flat_map, range_with_len}
use Rattle.std.proofs.Math.Nat.{mul-le-mul_left}
use Rattle.anim_names.specs.declared.limit.TheConstants.{MOST_STEPS, MOST_FRAMES}
use Rattle.tree_commit.specs.Edits.{AddTimeline, OnTimelines}
use Rattle.run_rules.specs.Scripts.{EditStep, IsStep, IsWellFormed}
use Rattle.script_gen.specs.declared.TheConstants.{MOST_GENERATED}
use Rattle.script_gen.specs.Generated.{commit_and_drain, adding_steps, dropping_steps, ticking_steps, main_steps, compositor_steps, generated_script}
use Rattle.script_gen.proofs.Numbers.{all-append, all-each, length-each}
use Rattle.script_gen.proofs.Books.{main_leads}
use Rattle.script_gen.proofs.Values.{adding_may_be, dropping_may_be, adding_is_short, dropping_is_short}
use Rattle.script_gen.proofs.Lanes.{tick_count, ticks_in_order, ticks_in_time, tick_is_short, rounds_are_word}

-- ---- main's steps

main_may_be : (n : ℕ) → n ≤ MOST_GENERATED → AllByRecursion IsStep (main_steps n)
unfolding main_steps
main_may_be n few =
    all-append IsStep (EditStep (OnTimelines (AddTimeline 1 0)) ∷ flat_map adding_steps (range_with_len 1 n) ++ commit_and_drain ++ flat_map dropping_steps (range_with_len 1 n))
    commit_and_drain
    (all-append IsStep (EditStep (OnTimelines (AddTimeline 1 0)) ∷ flat_map adding_steps (range_with_len 1 n) ++ commit_and_drain)
    (flat_map dropping_steps (range_with_len 1 n))
    (all-append IsStep (EditStep (OnTimelines (AddTimeline 1 0)) ∷ flat_map adding_steps (range_with_len 1 n)) commit_and_drain
    ((omega arith, omega arith), all-each IsStep adding_steps n 1 (λ i low high. adding_may_be i (omega arith)))
    (tt, (tt, tt)))
    (all-each IsStep dropping_steps n 1 (λ i low high. dropping_may_be i (omega arith))))
    (tt, (tt, tt))

main_is_short : (n : ℕ) → n ≤ MOST_GENERATED → length (main_steps n) ≤ MOST_STEPS
unfolding main_steps
main_is_short n few =
    let added = length-each 5 adding_steps adding_is_short n 1 in
    let dropped = length-each 2 dropping_steps dropping_is_short n 1 in
    simp length-append (omega arith)

-- ---- the compositor's steps

compositor_is_short : (n : ℕ) → n ≤ MOST_GENERATED → length (compositor_steps n) ≤ MOST_STEPS
unfolding compositor_steps
compositor_is_short n few = let each = length-each 3 ticking_steps tick_is_short (4 * n) 0 in omega arith

frames_are_few : (n ticks elements : ℕ) → n ≤ MOST_GENERATED → ticks ≡ 4 * n → elements ≡ n → ticks * elements ≤ MOST_FRAMES
frames_are_few n ticks elements few so_many as_many =
    let bound = mul-le-mul_left n few in
    rw (so_many, as_many) (omega arith)

-- ---- all of it

pub well_formed : (n : ℕ) → n ≤ MOST_GENERATED → IsWellFormed (generated_script n)
unfolding generated_script compositor_steps
well_formed n few =
    let leads = main_leads n few in
    record {
      main_steps = main_is_short n few;
      compositor_steps = compositor_is_short n few;
      ranges = main_may_be n few;
      edits = leads.allowed;
      order = ticks_in_order (4 * n) 0 0 (omega arith);
      times = ticks_in_time (4 * n) 0 _ (omega arith);
      frames = frames_are_few n _ _ few (tick_count (4 * n) 0) leads.to;
      word = rounds_are_word _ _;
    }
