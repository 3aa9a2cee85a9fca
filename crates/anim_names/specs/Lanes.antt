-- Which lane is meant, and how many letters of a word are a lane's.
use Rattle.std.specs.Prelude.{ℕ, Bool, true, false, List, count_by}
use Rattle.anim_names.specs.declared.lane.Lane.{Lane}
use Rattle.anim_names.specs.declared.lane.Lane.TheVariants.{Main, Compositor}

-- both are the same lane
abbrev pub is_lane : Lane → Lane → Bool
is_lane Main Main = true
is_lane Main Compositor = false
is_lane Compositor Main = false
is_lane Compositor Compositor = true

-- how many letters of a word are this lane's
abbrev pub letters_of : Lane → List Lane → ℕ
letters_of lane word = count_by (is_lane lane) word
