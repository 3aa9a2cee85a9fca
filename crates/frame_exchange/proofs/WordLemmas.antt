-- How many letters the word of a journal has of each lane.
use Rattle.std.proofs.Common.{◌≡◌, ℕ, ◌+◌, ◌-◌, ◌*◌, ◌≤◌, max, false, cond, List, [], ◌∷◌, fold, replicate, ap, ◌∙◌, arith}
use Rattle.std.proofs.lemmas.List.Folds.{sum_by-replicate}
use Rattle.std.proofs.lemmas.List.Sums.{sum_by-append}
use Rattle.anim_names.specs.declared.entry.Entry.{Entry}
use Rattle.anim_names.specs.declared.lane.Lane.{Lane}
use Rattle.anim_names.specs.declared.lane.Lane.TheVariants.{Main, Compositor}
use Rattle.anim_names.specs.Lanes.{is_lane, letters_of}
use Rattle.run_rules.specs.Scripts.{IsWordOf}
use Rattle.frame_exchange.specs.Journals.{filled, word_so_far, word_of_journal}
use Rattle.frame_exchange.specs.Words.{steps_of, AreWithinSteps}

letters-filled : (lane other : Lane) (upto : ℕ) (word : List Lane) → letters_of lane (filled other upto word) ≡ letters_of lane word + (upto - letters_of other word) * cond (is_lane lane other) 1 0
letters-filled lane other upto word =
    sum_by-append (λ x. cond (is_lane lane x) 1 0) word (replicate (upto - letters_of other word) other)
    ∙ ap (λ n. letters_of lane word + n) (sum_by-replicate (λ x. cond (is_lane lane x) 1 0) (upto - letters_of other word) other)

pub letters-of_own : (lane : Lane) (upto made : ℕ) (word : List Lane) → made ≡ letters_of lane word → max made upto ≡ letters_of lane (filled lane upto word)
letters-of_own Main upto made word h =
    let own : letters_of Main (filled Main upto word) ≡ letters_of Main word + (upto - letters_of Main word) * 1 = letters-filled Main Main upto word in
    omega (arith, own, h)
letters-of_own Compositor upto made word h =
    let own : letters_of Compositor (filled Compositor upto word) ≡ letters_of Compositor word + (upto - letters_of Compositor word) * 1 = letters-filled Compositor Compositor upto word in
    omega (arith, own, h)

pub letters-of_other : (lane other : Lane) (upto made : ℕ) (word : List Lane) → is_lane lane other ≡ false → made ≡ letters_of lane word → made ≡ letters_of lane (filled other upto word)
letters-of_other lane other upto made word differ h =
    let count : letters_of lane (filled other upto word) ≡ letters_of lane word + (upto - letters_of other word) * cond (is_lane lane other) 1 0 = letters-filled lane other upto word in
    let none : letters_of lane (filled other upto word) ≡ letters_of lane word + (upto - letters_of other word) * 0 = rw differ at count in
    omega (arith, none, h)

-- no lane has more letters than steps
record IsWithin (main compositor : ℕ) (word : List Lane) : Type 0 where
  of_main : letters_of Main word ≤ main
  of_compositor : letters_of Compositor word ≤ compositor

within-filled : (main compositor : ℕ) (lane : Lane) (upto : ℕ) (word : List Lane) → upto ≤ steps_of lane main compositor → IsWithin main compositor word → IsWithin main compositor (filled lane upto word)
within-filled main compositor Main upto word room h =
    let own : letters_of Main (filled Main upto word) ≡ letters_of Main word + (upto - letters_of Main word) * 1 = letters-filled Main Main upto word in
    let other : letters_of Compositor (filled Main upto word) ≡ letters_of Compositor word + (upto - letters_of Main word) * 0 = letters-filled Compositor Main upto word in
    record { of_main = omega (arith, own, room, h.of_main); of_compositor = omega (arith, other, h.of_compositor) }
within-filled main compositor Compositor upto word room h =
    let own : letters_of Compositor (filled Compositor upto word) ≡ letters_of Compositor word + (upto - letters_of Compositor word) * 1 = letters-filled Compositor Compositor upto word in
    let other : letters_of Main (filled Compositor upto word) ≡ letters_of Main word + (upto - letters_of Compositor word) * 0 = letters-filled Main Compositor upto word in
    record { of_main = omega (arith, other, h.of_main); of_compositor = omega (arith, own, room, h.of_compositor) }

within-entries : (main compositor : ℕ) (entries : List Entry) (word : List Lane) → AreWithinSteps main compositor entries → IsWithin main compositor word → IsWithin main compositor (fold (λ word entry. filled entry.lane entry.upto word) word entries)
within-entries main compositor [] word entries h = h
within-entries main compositor (entry ∷ behind) word entries h =
    within-entries main compositor behind (filled entry.lane entry.upto word) entries.1 (within-filled main compositor entry.lane entry.upto word entries.0 h)

pub word_of_steps : (entries : List Entry) (main compositor : ℕ) → AreWithinSteps main compositor entries → IsWordOf main compositor (word_of_journal entries main compositor)
unfolding word_of_journal
word_of_steps entries main compositor h =
    let word : List Lane = word_so_far entries in
    let so_far : IsWithin main compositor word = within-entries main compositor entries [] h (record { of_main = omega arith; of_compositor = omega arith }) in
    let first : letters_of Main (filled Main main word) ≡ letters_of Main word + (main - letters_of Main word) * 1 = letters-filled Main Main main word in
    let second : letters_of Compositor (filled Main main word) ≡ letters_of Compositor word + (main - letters_of Main word) * 0 = letters-filled Compositor Main main word in
    let third : letters_of Main (filled Compositor compositor (filled Main main word)) ≡ letters_of Main (filled Main main word) + (compositor - letters_of Compositor (filled Main main word)) * 0 = letters-filled Main Compositor compositor (filled Main main word) in
    let fourth : letters_of Compositor (filled Compositor compositor (filled Main main word)) ≡ letters_of Compositor (filled Main main word) + (compositor - letters_of Compositor (filled Main main word)) * 1 = letters-filled Compositor Compositor compositor (filled Main main word) in
    record {
      of_main = omega (arith, first, third, so_far.of_main);
      of_compositor = omega (arith, second, fourth, so_far.of_compositor);
    }
