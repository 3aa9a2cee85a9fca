-- The compositor's steps, and the word.
use Rattle.std.proofs.Common.{◌≡◌, ℕ, zero, suc, ◌+◌, ◌-◌, ◌*◌, ◌≤◌, min, Bool, true, false, cond, List, [], ◌∷◌, ◌++◌, length, replicate, append_assoc, refl, ap, sym, ◌∙◌, arith}
use Rattle.std.specs.Prelude.{if◌then◌else◌}
use Rattle.std.specs.List.{flat_map, range_with_len}
use Rattle.std.proofs.lemmas.Bool.{le-leb, and_from}
use Rattle.std.proofs.lemmas.List.Sums.{sum_by-append, sum_by-cons}
use Rattle.std.proofs.lemmas.List.Folds.{sum_by-replicate}
use Rattle.anim_names.specs.declared.lane.Lane.{Lane}
use Rattle.anim_names.specs.declared.lane.Lane.TheVariants.{Main, Compositor}
use Rattle.anim_names.specs.Lanes.{is_lane, letters_of}
use Rattle.run_rules.specs.declared.compositor_step.CompositorStep.{CompositorStep}
use Rattle.run_rules.specs.declared.compositor_step.CompositorStep.TheVariants.{Pull, Activate, Tick}
use Rattle.run_rules.specs.Scripts.{IsWordOf, ticks_of, never_fall_from, are_at_most}
use Rattle.script_gen.specs.Generated.{ticking_steps, word_of_rounds}

-- ---- ticks

-- the times of n ticks from that of number j on
abbrev pub ticks : ℕ → ℕ → List ℕ
ticks j n = ticks_of (flat_map ticking_steps (range_with_len j n))

first_tick : (divides : Bool) (time : ℕ) (rest : List CompositorStep)
    → ticks_of ((Tick time ∷ (if divides then Pull ∷ Activate ∷ [] else [])) ++ rest) ≡ time ∷ ticks_of rest
first_tick true time rest = refl
first_tick false time rest = refl

ticks-next : (j n : ℕ) → ticks j (suc n) ≡ (16667 * j) ∷ ticks (j + 1) n
unfolding ticking_steps
ticks-next j n = first_tick _ (16667 * j) (flat_map ticking_steps (range_with_len (j + 1) n))

pub tick_count : (n j : ℕ) → length (ticks j n) ≡ n
tick_count zero j = refl
tick_count (suc n) j = ap length (ticks-next j n) ∙ ap suc (tick_count n (j + 1))

pub ticks_in_order : (n j least : ℕ) → least ≤ 16667 * j → never_fall_from least (ticks j n) ≡ true
ticks_in_order zero j least low = refl
ticks_in_order (suc n) j least low =
    ap (never_fall_from least) (ticks-next j n)
    ∙ and_from _ _ (le-leb _ _ low) (ticks_in_order n (j + 1) (16667 * j) (omega arith))

pub ticks_in_time : (n j most : ℕ) → 16667 * (j + n) ≤ most → are_at_most most (ticks j n) ≡ true
ticks_in_time zero j most high = refl
ticks_in_time (suc n) j most high =
    ap (are_at_most most) (ticks-next j n)
    ∙ and_from _ _ (le-leb _ _ (omega arith)) (ticks_in_time n (j + 1) most (omega arith))

length_of_tick : (divides : Bool) (time : ℕ) → length (Tick time ∷ (if divides then Pull ∷ Activate ∷ [] else [])) ≤ 3
length_of_tick true time = omega arith
length_of_tick false time = omega arith

pub tick_is_short : (j : ℕ) → length (ticking_steps j) ≤ 3
unfolding ticking_steps
tick_is_short j = length_of_tick _ (16667 * j)

-- ---- the word

letters_of-append : (lane : Lane) (xs ys : List Lane) → letters_of lane (xs ++ ys) ≡ letters_of lane xs + letters_of lane ys
letters_of-append lane xs ys = sum_by-append (λ letter. cond (is_lane lane letter) 1 0) xs ys

letters_of-cons : (lane letter : Lane) (xs : List Lane) → letters_of lane (letter ∷ xs) ≡ cond (is_lane lane letter) 1 0 + letters_of lane xs
letters_of-cons lane letter xs = sum_by-cons (λ it. cond (is_lane lane it) 1 0) letter xs

letters_of-same : (lane letter : Lane) (n : ℕ) → letters_of lane (replicate n letter) ≡ n * cond (is_lane lane letter) 1 0
letters_of-same lane letter n = sum_by-replicate (λ it. cond (is_lane lane it) 1 0) n letter

of_round : (lane : Lane) (n : ℕ) (rest : List Lane)
    → letters_of lane (replicate n Main ++ Compositor ∷ rest)
    ≡ n * cond (is_lane lane Main) 1 0 + (cond (is_lane lane Compositor) 1 0 + letters_of lane rest)
of_round lane n rest =
    letters_of-append lane (replicate n Main) (Compositor ∷ rest)
    ∙ ap (λ k. k + letters_of lane (Compositor ∷ rest)) (letters_of-same lane Main n)
    ∙ ap (λ k. n * cond (is_lane lane Main) 1 0 + k) (letters_of-cons lane Compositor rest)

of_main : (compositor main : ℕ) → letters_of Main (word_of_rounds main compositor) ≡ main
unfolding word_of_rounds
of_main zero main = let e : main * 1 ≡ main = omega arith in letters_of-same Main Main main ∙ e
of_main (suc compositor) main =
    let rest = of_main compositor (main - 3) in
    let here = of_round Main (min 3 main) (word_of_rounds (main - 3) compositor) in
    omega (arith, here, rest)

of_compositor : (compositor main : ℕ) → letters_of Compositor (word_of_rounds main compositor) ≡ compositor
unfolding word_of_rounds
of_compositor zero main = let e : main * 0 ≡ 0 = omega arith in letters_of-same Compositor Main main ∙ e
of_compositor (suc compositor) main =
    let rest = of_compositor compositor (main - 3) in
    let here = of_round Compositor (min 3 main) (word_of_rounds (main - 3) compositor) in
    omega (arith, here, rest)

pub rounds_are_word : (main compositor : ℕ) → IsWordOf main compositor (word_of_rounds main compositor)
rounds_are_word main compositor = record { of_main = of_main compositor main; of_compositor = of_compositor compositor main }

-- a round, and the word of what is left after it
pub round_made : (word : List Lane) (left steps k m : ℕ) → steps ≡ min left 3 → m ≡ suc k
    → ((word ++ replicate steps Main) ++ Compositor ∷ []) ++ word_of_rounds (left - steps) k ≡ word ++ word_of_rounds left m
unfolding word_of_rounds
round_made word left steps k m made more =
    let of_main : steps ≡ min 3 left = omega arith in
    let remain : left - steps ≡ left - 3 = omega arith in
    append_assoc (word ++ replicate steps Main) (Compositor ∷ []) (word_of_rounds (left - steps) k)
    ∙ append_assoc word (replicate steps Main) (Compositor ∷ word_of_rounds (left - steps) k)
    ∙ ap (λ n. word ++ (replicate n Main ++ Compositor ∷ word_of_rounds (left - steps) k)) of_main
    ∙ ap (λ n. word ++ (replicate (min 3 left) Main ++ Compositor ∷ word_of_rounds n k)) remain
    ∙ ap (λ n. word ++ word_of_rounds left n) (sym more)

-- where the compositor has no step left
pub rest_made : (word : List Lane) (left m : ℕ) → m ≡ 0 → word ++ replicate left Main ≡ word ++ word_of_rounds left m
unfolding word_of_rounds
rest_made word left m none = ap (λ n. word ++ word_of_rounds left n) (sym none)
