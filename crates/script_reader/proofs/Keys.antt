-- The keys of a model so far, and a further one.
use Rattle.std.proofs.Common.{◌≡◌, ℕ, suc, List, [], ◌∷◌, length, get_or, ltb, ap, sym, arith}
use Rattle.curve_keys.specs.declared.key.Key.{Key}
use Rattle.curve_keys.proofs.Keys.{last_time-at}
use Rattle.frame_script.specs.States.{is_next_time}

pub is_next_time-at : {V : Type 0} (keys : List (Key V)) (n time : ℕ) (d : Key V) → suc n ≡ length keys → ltb (get_or keys n d).time time ≡ is_next_time keys time
is_next_time-at [] n time d is = absurd (omega arith)
is_next_time-at (key ∷ keys) n time d is = ap (λ (t : ℕ). ltb t time) (sym (last_time-at 0 (key ∷ keys) n d is))
