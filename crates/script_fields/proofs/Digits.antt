-- Reading digits with a cap on the number.
use Rattle.std.proofs.Common.{◌≡◌, ℕ, suc, ◌+◌, ◌-◌, ◌*◌, ◌<◌, ◌≤◌, min, Bool, true, false, cond, List, [], ◌∷◌, length, get_or, drop, drop-cons, Option, Some, None, refl, ap, sym, ◌∙◌, arith}
use Rattle.std.specs.Prelude.{option_map}
use Rattle.std.specs.Char.{is_ascii_digit}
use Rattle.std.proofs.Math.Numerals.{add-one}
use Rattle.std.proofs.lemmas.List.{drop_all}
use Rattle.script_fields.specs.Numbers.{read_on}

abbrev pub capped : ℕ → Option ℕ → Option ℕ
capped most o = option_map (min most) o

step : (most n m d : ℕ) (is_digit : Bool) (ds : List ℕ) → capped most (read_on (10 * n + (d - 48)) ds) ≡ capped most (read_on (10 * m + (d - 48)) ds)
    → capped most (cond is_digit (read_on (10 * n + (d - 48)) ds) None) ≡ capped most (cond is_digit (read_on (10 * m + (d - 48)) ds) None)
step most n m d true ds h = h
step most n m d false ds h = refl

same_front : (most n m k : ℕ) → min most n ≡ min most m → min most (10 * n + k) ≡ min most (10 * m + k)
same_front most n m k h = omega arith

-- what was capped before is as good as what was not
pub capped-read_on : (most n m : ℕ) (ds : List ℕ) → min most n ≡ min most m → capped most (read_on n ds) ≡ capped most (read_on m ds)
capped-read_on most n m [] h = ap Some h
capped-read_on most n m (d ∷ ds) h =
    step most n m d (is_ascii_digit d) ds (capped-read_on most (10 * n + (d - 48)) (10 * m + (d - 48)) ds (same_front most n m (d - 48) h))

at_digit : (n d : ℕ) (is_digit : Bool) (ds : List ℕ) → is_digit ≡ true → cond is_digit (read_on (10 * n + (d - 48)) ds) None ≡ read_on (10 * n + (d - 48)) ds
at_digit n d true ds h = refl
at_digit n d false ds h = absurd cc

no_digit : (n d : ℕ) (is_digit : Bool) (ds : List ℕ) → is_digit ≡ false → cond is_digit (read_on (10 * n + (d - 48)) ds) None ≡ None
no_digit n d true ds h = absurd cc
no_digit n d false ds h = refl

pub goes_on : (most n m i : ℕ) (ds : List ℕ) (total : Option ℕ) → i < length ds → is_ascii_digit (get_or ds i 0) ≡ true
    → min most m ≡ min most (10 * n + (get_or ds i 0 - 48))
    → capped most (read_on n (drop i ds)) ≡ total → capped most (read_on m (drop (i + 1) ds)) ≡ total
goes_on most n m i ds total lt digit front so_far =
    let next : ℕ = 10 * n + (get_or ds i 0 - 48) in
    let here : read_on n (drop i ds) ≡ read_on next (drop (suc i) ds) = ap (read_on n) (drop-cons ds i 0 lt) ∙ at_digit n (get_or ds i 0) (is_ascii_digit (get_or ds i 0)) (drop (suc i) ds) digit in
    rw add-one (capped-read_on most m next (drop (suc i) ds) front ∙ (sym (ap (capped most) here) ∙ so_far))

pub stops : (most n i : ℕ) (ds : List ℕ) (total : Option ℕ) → i < length ds → is_ascii_digit (get_or ds i 0) ≡ false
    → capped most (read_on n (drop i ds)) ≡ total → None ≡ total
stops most n i ds total lt digit so_far =
    let here : read_on n (drop i ds) ≡ None = ap (read_on n) (drop-cons ds i 0 lt) ∙ no_digit n (get_or ds i 0) (is_ascii_digit (get_or ds i 0)) (drop (suc i) ds) digit in
    sym (ap (capped most) here) ∙ so_far

pub ends : (most n i : ℕ) (ds : List ℕ) (total : Option ℕ) → length ds ≤ i → n ≤ most → capped most (read_on n (drop i ds)) ≡ total → Some n ≡ total
ends most n i ds total le small so_far =
    let whole : min most n ≡ n = omega arith in
    ap Some (sym whole) ∙ (rw (drop_all i ds le) at so_far)
