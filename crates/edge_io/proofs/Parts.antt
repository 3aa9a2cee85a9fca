-- A write to the front of a part of a list.
use Rattle.std.proofs.Common.{◌≡◌, ℕ, ◌≤◌, List, ◌++◌, length, take, drop, sym, ap, ◌∙◌, take-append-drop, length-take-le}
use Rattle.std.proofs.lemmas.List.{drop-append-le}

-- what lies past the first n bytes of a part, and past the part
pub rest_of_part : (n part : ℕ) (xs : List ℕ) → n ≤ part → part ≤ length xs
    → drop n (take part xs) ++ drop part xs ≡ drop n xs
rest_of_part n part xs inside fits =
    let reaches : n ≤ length (take part xs) = rw (length-take-le part xs fits) inside in
    sym (drop-append-le n (take part xs) (drop part xs) reaches) ∙ ap (drop n) (take-append-drop part xs)
