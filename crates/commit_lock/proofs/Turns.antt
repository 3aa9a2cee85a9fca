-- What a lane's stage says of whose turn it is.
use Rattle.std.proofs.Common.{◌≡◌, refl}
use Rattle.anim_names.specs.declared.lane.Lane.{Lane}
use Rattle.anim_names.specs.declared.lane.Lane.TheVariants.{Main, Compositor}
use Rattle.commit_lock.specs.declared.view.Stage.TheVariants.{Outside, HasTurn, HasValue}
use Rattle.commit_lock.specs.Views.{other_lane}
use Rattle.commit_lock.specs.Rules.{Turn, free, entered, out, stage_of}

pub entered_is : (turn : Turn) (lane : Lane) → stage_of turn lane ≡ HasTurn → turn ≡ entered lane
entered_is free lane e = absurd cc
entered_is (entered Main) Main e = refl
entered_is (entered Main) Compositor e = absurd cc
entered_is (entered Compositor) Main e = absurd cc
entered_is (entered Compositor) Compositor e = refl
entered_is (out Main) Main e = absurd cc
entered_is (out Main) Compositor e = absurd cc
entered_is (out Compositor) Main e = absurd cc
entered_is (out Compositor) Compositor e = absurd cc

pub out_is : (turn : Turn) (lane : Lane) → stage_of turn lane ≡ HasValue → turn ≡ out lane
out_is free lane e = absurd cc
out_is (entered Main) Main e = absurd cc
out_is (entered Main) Compositor e = absurd cc
out_is (entered Compositor) Main e = absurd cc
out_is (entered Compositor) Compositor e = absurd cc
out_is (out Main) Main e = refl
out_is (out Main) Compositor e = absurd cc
out_is (out Compositor) Main e = absurd cc
out_is (out Compositor) Compositor e = refl

-- where neither lane has the turn, it is free
pub free_is : (turn : Turn) (lane : Lane) → stage_of turn lane ≡ Outside → stage_of turn (other_lane lane) ≡ Outside → turn ≡ free
free_is free lane e f = refl
free_is (entered Main) Main e f = absurd cc
free_is (entered Main) Compositor e f = absurd cc
free_is (entered Compositor) Main e f = absurd cc
free_is (entered Compositor) Compositor e f = absurd cc
free_is (out Main) Main e f = absurd cc
free_is (out Main) Compositor e f = absurd cc
free_is (out Compositor) Main e f = absurd cc
free_is (out Compositor) Compositor e f = absurd cc

pub stage_of_entered : (lane : Lane) → stage_of (entered lane) lane ≡ HasTurn
stage_of_entered Main = refl
stage_of_entered Compositor = refl

pub stage_of_out : (lane : Lane) → stage_of (out lane) lane ≡ HasValue
stage_of_out Main = refl
stage_of_out Compositor = refl

-- where one lane has the turn, the other has not
pub other_outside_entered : (lane : Lane) → stage_of (entered lane) (other_lane lane) ≡ Outside
other_outside_entered Main = refl
other_outside_entered Compositor = refl

pub other_outside_out : (lane : Lane) → stage_of (out lane) (other_lane lane) ≡ Outside
other_outside_out Main = refl
other_outside_out Compositor = refl
