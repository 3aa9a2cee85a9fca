-- What seats know, as plain data.
use Rattle.std.specs.Prelude.{ℕ, List, [], if◌then◌else◌}
use Rattle.anim_names.specs.declared.lane.Lane.{Lane}
use Rattle.anim_names.specs.declared.lane.Lane.TheVariants.{Main, Compositor}
use Rattle.commit_lock.specs.declared.view.Stage.TheVariants.{Absent, Outside}
use Rattle.commit_lock.specs.declared.view.Part.{Part}
use Rattle.commit_lock.specs.declared.view.View.{View}
use Rattle.anim_names.specs.Lanes.{is_lane}

abbrev pub other_lane : Lane → Lane
other_lane Main = Compositor
other_lane Compositor = Main

-- of a lane for which the seat does not speak
abbrev pub absent : Part
absent = record { stage = Absent; subject = []; seen = []; mine = [] }

-- of a lane that has made no section yet
abbrev pub fresh : List ℕ → Part
fresh subject = record { stage = Outside; subject = subject; seen = []; mine = [] }

-- what a seat knows of a lane
abbrev pub part_of : View → Lane → Part
part_of v lane = if is_lane v.lane lane then v.own else v.other

-- the first seat of a lock speaks for both lanes
abbrev pub first_view : List ℕ → View
first_view subject = record { lane = Main; own = fresh subject; other = fresh subject }

-- the view of the seat that speaks for its own lane alone, and of the seat that is cut off it for the other lane
abbrev pub own_half : View → View
own_half v = record { lane = v.lane; own = v.own; other = absent }

abbrev pub other_half : View → View
other_half v = record { lane = other_lane v.lane; own = v.other; other = absent }

-- two halves in one view again, and a view that speaks for no lane
abbrev pub whole : View → View → View
whole v w = record { lane = v.lane; own = v.own; other = w.own }

abbrev pub spent : View
spent = record { lane = Main; own = absent; other = absent }
