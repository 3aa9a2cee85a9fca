-- When a function may stand for the definition of what easings give. It is seen by what a call at an easing and a
-- progress asks and what it may answer.
use Rattle.std.specs.Prelude.{◌≡◌, ℕ, ◌≤◌, ℤ}
use Rattle.std.proofs.Common.{Bor}
use Rattle.anim_names.specs.declared.progress.TheConstants.{ONE}
use Rattle.easing_fixed.specs.declared.easing.Easing.{Easing}
use Rattle.easing_fixed.specs.Easings.{IsEasing, eased}

-- it may be called on every easing with every progress
abbrev pub MayEase : (Bor Easing → ℕ → Type 0) → Type 0
MayEase asks = (easing : Bor Easing) (p : ℕ) → IsEasing easing.now → p ≤ ONE → asks easing p

-- and answers there what the easing gives
abbrev pub Eases : (Bor Easing → ℕ → ℤ → Type 0) → Type 0
Eases answers = (easing : Bor Easing) (p : ℕ) (value : ℤ) → IsEasing easing.now → p ≤ ONE → answers easing p value → value ≡ eased easing.now p
