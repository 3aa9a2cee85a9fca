-- Lists that go on where another ends, and what is among a list.
use Rattle.std.specs.Prelude.{◌≡◌, ◌⊎◌, List, [], ◌∷◌, ◌++◌}

-- the list begins with all of the front, and goes on behind it or ends there
abbrev pub BeginsWith : {A : Type 0} → List A → List A → Type 0
BeginsWith {A} list front = (others : List A) × (list ≡ front ++ others)

-- one of the elements of the list is this one
abbrev pub IsAmong : {A : Type 0} → A → List A → Type 0
IsAmong x [] = ⊥
IsAmong x (y ∷ ys) = (x ≡ y) ⊎ IsAmong x ys

-- each element of the list is another
abbrev pub AreDistinct : {A : Type 0} → List A → Type 0
AreDistinct [] = Unit {0}
AreDistinct (x ∷ xs) = (IsAmong x xs → ⊥) × AreDistinct xs
