-- A value that a call gives unless it has a reason to refuse.
use Rattle.std.proofs.Common.{◌≡◌, Option, Some, None, Result, Ok, Err, refl, ap}
use Rattle.std.specs.Prelude.{IfOk}
use Rattle.std.specs.Result.{result_ok, result_err}
use Rattle.script_fields.specs.Fields.{unless}

pub ok_unless : {A F : Type 0} (r : Result A F) (reason : Option F) (x : A) → result_err r ≡ reason → IfOk r (λ y. y ≡ x) → result_ok r ≡ unless reason x
ok_unless (Ok y) None x err same = ap Some same
ok_unless (Ok y) (Some f) x err same = absurd cc
ok_unless (Err f) None x err same = absurd cc
ok_unless (Err f) (Some g) x err same = refl
