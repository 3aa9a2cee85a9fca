-- The first line of a script, which names the version of its language.
use Rattle.std.specs.Prelude.{ℕ, List, Option, Some, None, if◌then◌else◌, codes}
use Rattle.std.specs.Str.{bytes_eq}
use Rattle.anim_names.specs.declared.version.Version.{Version}
use Rattle.anim_names.specs.declared.version.Version.TheVariants.{One}

-- the header of a version
abbrev pub header_text : Version → List ℕ
header_text One = codes "anim 1"

-- the version of which a line is the header
abbrev pub header_said : List ℕ → Option Version
header_said line = if bytes_eq line (header_text One) then Some One else None
