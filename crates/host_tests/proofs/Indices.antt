-- Elements of a list by their indices.
use Rattle.std.proofs.Common.{◌≡◌, ℕ, ◌+◌, ◌<◌, Some, List, subst}
use Rattle.std.specs.List.{slice_get}
use Rattle.std.proofs.Common.{below_more}

-- What is true of the elements below an index and of the one there is true of those below the next.
pub one-more : {A : Type 0} (P : A → Type 0) (xs : List A) (i : ℕ) (here : A)
    → ((k : ℕ) (x : A) → k < i → slice_get xs k ≡ Some x → P x) → slice_get xs i ≡ Some here → P here
    → (k : ℕ) (x : A) → k < i + 1 → slice_get xs k ≡ Some x → P x
one-more {A} P xs i here below at holds k x within is =
    below_more (λ (k : ℕ). (x : A) → slice_get xs k ≡ Some x → P x)
    i (λ k less x is. below k x less is) (λ x is. let same : here ≡ x = cc (at, is) in subst P same holds) k within x is
