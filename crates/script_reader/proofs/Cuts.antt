-- Where the first line of a text ends.
use Rattle.std.proofs.Common.{◌≡◌, ℕ, ◌+◌, ◌-◌, ◌<◌, ◌≤◌, Bool, true, false, cond, eqb, not, List, [], ◌∷◌, length, take, drop, refl, ap, arith, inl, inr, min}
use Rattle.std.specs.Prelude.{unwrap_or, position}
use Rattle.std.specs.List.{onto_first, position_or_len}
use Rattle.std.proofs.lemmas.Bool.{cases_lt, lt-ltb, le-ltb}
use Rattle.std.proofs.lemmas.List.Sums.{prefix_len-le-length}
use Rattle.std.proofs.Math.Numerals.{one-add, add-one}
use Rattle.std.proofs.lemmas.List.{length-drop, drop_all, take_all}
use Rattle.frame_script.specs.Lines.{lines}

abbrev pub feed : List ℕ → ℕ
feed text = position_or_len (λ b. eqb b 10) text

step : (b : ℕ) (here : Bool) (bs : List ℕ) → lines bs ≡ take (feed bs) bs ∷ lines (drop (feed bs + 1) bs)
    → cond here ([] ∷ lines bs) (onto_first b (lines bs)) ≡ take (cond (not here) (1 + feed bs) 0) (b ∷ bs) ∷ lines (drop (cond (not here) (1 + feed bs) 0 + 1) (b ∷ bs))
step b true bs h = refl
step b false bs h = simp (one-add, add-one) (ap (onto_first b) (simp add-one at h))

last : (b : ℕ) (here : Bool) → cond here ([] ∷ []) (onto_first b []) ≡ take (cond (not here) 1 0) (b ∷ []) ∷ lines (drop (cond (not here) 1 0 + 1) (b ∷ []))
last b true = refl
last b false = refl

-- the first line goes up to the first line feed, and the other lines are those of the text after it
pub lines_first : (text : List ℕ) → 0 < length text → lines text ≡ take (feed text) text ∷ lines (drop (feed text + 1) text)
lines_first [] h = absurd (omega arith)
lines_first (b ∷ []) h = last b (eqb b 10)
lines_first (b ∷ c ∷ cs) h = step b (eqb b 10) (c ∷ cs) (lines_first (c ∷ cs) (omega arith))

-- the first item that passes, as an index with the length as its default
pub unwrap_or-position : (text : List ℕ) → unwrap_or (position (λ b. eqb b 10) text) (length text) ≡ feed text
unwrap_or-position text =
    let le : feed text ≤ length text = prefix_len-le-length (λ b. not (eqb b 10)) text in
    elim (cases_lt (feed text) (length text)) [
      | inl lt ↦ rw (lt-ltb _ _ lt) refl
      | inr ge ↦ rw (le-ltb _ _ ge) (omega arith)
    ]

-- the rest begins behind the line feed, or is empty where there is none
rest_is : (text : List ℕ) (n : ℕ) → take (length text - min (length text) n) (drop (min (length text) n) text) ≡ drop n text
rest_is text n =
    elim (cases_lt n (length text)) [
      | inl lt ↦
          let m : min (length text) n ≡ n = omega arith in
          rw m (take_all (length text - n) (drop n text) (omega (arith, length-drop n text)))
      | inr ge ↦
          let m : min (length text) n ≡ length text = omega arith in
          rw (m, drop_all n text ge, drop_all (length text) text (omega arith)) (take_all (length text - length text) [] (omega arith))
    ]

pub split_is : (text : List ℕ) (end after : ℕ) → 0 < length text → end ≡ feed text → after ≡ min (length text) (end + 1)
    → lines text ≡ take end text ∷ lines (take (length text - after) (drop after text))
split_is text end after some end-is after-is =
    rw (after-is, rest_is text (end + 1), end-is) (lines_first text some)
