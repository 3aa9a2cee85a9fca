-- Which of a commit's models animate each element.
use Rattle.std.specs.Prelude.{◌≡◌, ℕ, ◌==◌, nat_eq, List, [], filter, unwrap_or}
use Rattle.std.specs.Map.{lookup}
use Rattle.keyframe_model.specs.Models.{Spec}

-- the models that animate an element, in their order
abbrev pub models_on : ℕ → List Spec → List Spec
models_on element models = filter (λ model. element == model.element) models

-- the models of an element in a table of lists by element, none where it has no list
abbrev pub listed_for : ℕ → List (ℕ × List Spec) → List Spec
listed_for element lists = unwrap_or (lookup (nat_eq element) lists) []

-- The table has for each element the models that animate it, in their order.
abbrev pub AreListsOf : List Spec → List (ℕ × List Spec) → Type 0
AreListsOf models lists = (element : ℕ) → listed_for element lists ≡ models_on element models
