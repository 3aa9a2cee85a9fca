-- Fields that are one of a few keywords, and the letters of a word of two lanes.
use Rattle.std.specs.Prelude.{ℕ, List, [], ◌∷◌, ◌==◌, Option, Some, None, if◌then◌else◌, codes}
use Rattle.std.specs.Str.{bytes_eq}
use Rattle.anim_names.specs.declared.lane.Lane.{Lane}
use Rattle.anim_names.specs.declared.lane.Lane.TheVariants.{Main, Compositor}
use Rattle.anim_names.specs.declared.property.Property.{Property}
use Rattle.anim_names.specs.declared.property.Property.TheVariants.{Opacity, Transform}
use Rattle.anim_delegate.specs.declared.policy.Policy.{Policy}
use Rattle.anim_delegate.specs.declared.policy.Policy.TheVariants.{Auto, FinishedOnly, Manual}
use Rattle.micro_time.specs.declared.direction.Direction.{Direction}
use Rattle.micro_time.specs.declared.direction.Direction.TheVariants.{Normal, Reverse, Alternate, AlternateReverse}
use Rattle.micro_time.specs.declared.fill.Fill.{Fill}
use Rattle.micro_time.specs.declared.fill.Fill.TheVariants.{Neither, Forwards, Backwards, Both}
use Rattle.easing_fixed.specs.declared.position.StepPosition.{StepPosition}
use Rattle.easing_fixed.specs.declared.position.StepPosition.TheVariants.{JumpStart, JumpEnd, JumpNone, JumpBoth}
use Rattle.script_fields.specs.Fields.{all_say}

abbrev pub property_said : List ℕ → Option Property
property_said keyword =
    if bytes_eq keyword (codes "opacity") then Some Opacity else
    if bytes_eq keyword (codes "transform") then Some Transform else
    None

abbrev pub direction_said : List ℕ → Option Direction
direction_said keyword =
    if bytes_eq keyword (codes "normal") then Some Normal else
    if bytes_eq keyword (codes "reverse") then Some Reverse else
    if bytes_eq keyword (codes "alternate") then Some Alternate else
    if bytes_eq keyword (codes "alternate-reverse") then Some AlternateReverse else
    None

abbrev pub fill_said : List ℕ → Option Fill
fill_said keyword =
    if bytes_eq keyword (codes "none") then Some Neither else
    if bytes_eq keyword (codes "forwards") then Some Forwards else
    if bytes_eq keyword (codes "backwards") then Some Backwards else
    if bytes_eq keyword (codes "both") then Some Both else
    None

abbrev pub policy_said : List ℕ → Option Policy
policy_said keyword =
    if bytes_eq keyword (codes "auto") then Some Auto else
    if bytes_eq keyword (codes "finished") then Some FinishedOnly else
    if bytes_eq keyword (codes "manual") then Some Manual else
    None

-- where a step function jumps: `start` and `end` are short for two of the keywords
abbrev pub position_said : List ℕ → Option StepPosition
position_said keyword =
    if bytes_eq keyword (codes "jump-start") then Some JumpStart else
    if bytes_eq keyword (codes "jump-end") then Some JumpEnd else
    if bytes_eq keyword (codes "jump-none") then Some JumpNone else
    if bytes_eq keyword (codes "jump-both") then Some JumpBoth else
    if bytes_eq keyword (codes "start") then Some JumpStart else
    if bytes_eq keyword (codes "end") then Some JumpEnd else
    None

-- a letter of a word: M for main, C for the compositor
abbrev pub letter_said : ℕ → Option Lane
letter_said byte = if byte == 77 then Some Main else if byte == 67 then Some Compositor else None

-- a word: its letters, or a dash where it has none
unfoldable pub letters_said : List ℕ → Option (List Lane)
letters_said [] = None
letters_said (byte ∷ bytes) = if bytes_eq (byte ∷ bytes) (codes "-") then Some [] else all_say letter_said (byte ∷ bytes)
