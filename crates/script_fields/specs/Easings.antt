-- What an easing is spelled as: a word, a step function `steps:COUNT:POSITION`, or a curve `cubic:X1:Y1:X2:Y2`.
use Rattle.std.specs.Prelude.{ℕ, ℤ, pos, List, [], ◌∷◌, Option, Some, None, option_and_then, option_map, if◌then◌else◌, codes}
use Rattle.std.specs.Str.{bytes_eq}
use Rattle.std.specs.Option.{option_or}
use Rattle.easing_fixed.specs.declared.TheConstants.{MOST_INTERVALS}
use Rattle.easing_fixed.specs.declared.easing.Easing.{Easing}
use Rattle.easing_fixed.specs.declared.easing.Easing.TheVariants.{Linear, Steps, Cubic}
use Rattle.easing_fixed.specs.declared.position.StepPosition.{StepPosition}
use Rattle.easing_fixed.specs.declared.position.StepPosition.TheVariants.{JumpStart, JumpEnd}
use Rattle.easing_fixed.specs.Steps.{step_parts, step_refusal}
use Rattle.easing_fixed.specs.Cubics.{cubic_parts, cubic_refusal}
use Rattle.script_fields.specs.Fields.{parts, unless}
use Rattle.script_fields.specs.Numbers.{natural_within, number_said}
use Rattle.script_fields.specs.Keywords.{position_said}

-- the easings that have a name, after CSS Easing Functions Level 1
abbrev pub keyword_said : List ℕ → Option Easing
keyword_said word =
    if bytes_eq word (codes "linear") then Some Linear else
    if bytes_eq word (codes "ease") then Some (Cubic (cubic_parts (pos 250000) (pos 100000) (pos 250000) (pos 1000000))) else
    if bytes_eq word (codes "ease-in") then Some (Cubic (cubic_parts (pos 420000) (pos 0) (pos 1000000) (pos 1000000))) else
    if bytes_eq word (codes "ease-out") then Some (Cubic (cubic_parts (pos 0) (pos 0) (pos 580000) (pos 1000000))) else
    if bytes_eq word (codes "ease-in-out") then Some (Cubic (cubic_parts (pos 420000) (pos 0) (pos 580000) (pos 1000000))) else
    if bytes_eq word (codes "step-start") then Some (Steps (step_parts 1 JumpStart)) else
    if bytes_eq word (codes "step-end") then Some (Steps (step_parts 1 JumpEnd)) else
    None

-- ---- step functions

unfoldable pub steps_of : ℕ → StepPosition → Option Easing
steps_of count position = unless (step_refusal (step_parts count position)) (Steps (step_parts count position))

-- the parts of `steps:COUNT:POSITION`
abbrev pub steps_said : List (List ℕ) → Option Easing
steps_said (name ∷ count ∷ position ∷ []) =
    if bytes_eq name (codes "steps") then
    option_and_then (λ n. option_and_then (steps_of n) (position_said position)) (natural_within 0 MOST_INTERVALS count) else
    None
steps_said other = None

-- ---- curves

-- a control point, in millionths
abbrev pub point_said : List ℕ → List ℕ → Option (ℤ × ℤ)
point_said x y = option_and_then (λ a. option_map (λ b. (a, b)) (number_said y)) (number_said x)

-- the curve of two control points
unfoldable pub cubic_of : ℤ → ℤ → ℤ → ℤ → Option Easing
cubic_of x1 y1 x2 y2 = unless (cubic_refusal (cubic_parts x1 y1 x2 y2)) (Cubic (cubic_parts x1 y1 x2 y2))

unfoldable pub cubic_through : List ℕ → List ℕ → List ℕ → List ℕ → Option Easing
cubic_through x1 y1 x2 y2 =
    option_and_then (λ first. option_and_then (λ second. cubic_of first.0 first.1 second.0 second.1) (point_said x2 y2))
    (point_said x1 y1)

-- the parts of `cubic:X1:Y1:X2:Y2`
abbrev pub cubic_said : List (List ℕ) → Option Easing
cubic_said (name ∷ x1 ∷ y1 ∷ x2 ∷ y2 ∷ []) =
    if bytes_eq name (codes "cubic") then cubic_through x1 y1 x2 y2 else None
cubic_said other = None

-- ---- easings

abbrev pub easing_said : List ℕ → Option Easing
easing_said field = option_or (keyword_said field) (option_or (steps_said (parts field)) (cubic_said (parts field)))
