-- A line as fields, with exactly one space between two, and a field as parts, with exactly one colon between two: a
-- space or a colon more makes an empty one.
use Rattle.std.specs.Prelude.{ℕ, List, [], ◌∷◌, ◌++◌, ◌==◌, Option, Some, None, Result, Ok, Err, option_and_then, option_map}
use Rattle.std.specs.List.{slice_split}

-- the fields of a line
abbrev pub fields : List ℕ → List (List ℕ)
fields line = slice_split (λ b. b == 32) line

-- the parts of a field
abbrev pub parts : List ℕ → List (List ℕ)
parts field = slice_split (λ b. b == 58) field

-- what each of the items says, where every one of them says something
abbrev pub all_say : {A B : Type 0} → (B → Option A) → List B → Option (List A)
all_say says [] = Some []
all_say says (item ∷ others) = option_and_then (λ x. option_map (λ xs. x ∷ xs) (all_say says others)) (says item)

-- what follows from what was read; a fault is the whole answer
infixl 10 ◌>>=◌
abbrev pub ◌>>=◌ : {A B F : Type 0} → Result A F → (A → Result B F) → Result B F
(Ok x) >>= f = f x
(Err fault) >>= f = Err fault

-- what each of the items is read as, or the first fault
abbrev pub all_read : {A B F : Type 0} → (B → Result A F) → List B → Result (List A) F
all_read reads [] = Ok []
all_read reads (item ∷ others) = reads item >>= λ x. all_read reads others >>= λ xs. Ok (x ∷ xs)

-- the value, unless there is a reason to refuse it
abbrev pub unless : {A F : Type 0} → Option F → A → Option A
unless None value = Some value
unless (Some reason) value = None

-- fields behind another one, and a line of fields: with a space between each two
abbrev pub further_fields : List (List ℕ) → List ℕ
further_fields [] = []
further_fields (field ∷ others) = (32 ∷ field) ++ further_fields others

abbrev pub joined : List (List ℕ) → List ℕ
joined [] = []
joined (field ∷ others) = field ++ further_fields others
