use Rattle.std.proofs.Common.{◌≡◌, ◌∷◌, ◌++◌, [], refl, arith}
use Rattle.std.proofs.lemmas.Grind.{common_steps}
use Rattle.run_rules.specs.declared.compositor_step.CompositorStep.TheVariants.{Pull, Activate, Tick}
use Rattle.script_reader.proofs.Books.{FitsTicks, fits_with_tick, fits_with_other}
use Rattle.script_reader.proofs.compositor_part.CompositorPart.push.Goals as goal

pub invariant_of-self-in-Tick : goal.invariant_of-self-in-Tick
invariant_of-self-in-Tick c =
    let items : c.push.new.self.items ≡ c.self.inside.steps.items ++ Tick c.in-Tick.time ∷ [] = grind (arith, common_steps) in
    let before : FitsTicks c.self.inside.steps.items c.self.inside.ticks c.self.inside.last =
    record { ticks_is = c.self.invariant.0; last_is = c.self.invariant.1; few = c.self.invariant.2 } in
    let fits = fits_with_tick c.self.inside.steps.items c.push.new.self.items c.self.inside.ticks c.self.inside.last c.in-Tick.time before items in
    (fits.ticks_is, fits.last_is, fits.few, grind (arith, common_steps))

pub invariant_of-self-in-Pull : goal.invariant_of-self-in-Pull
invariant_of-self-in-Pull c =
    let items : c.push.new.self.items ≡ c.self.inside.steps.items ++ Pull ∷ [] = grind (arith, common_steps) in
    let before : FitsTicks c.self.inside.steps.items c.self.inside.ticks c.self.inside.last =
    record { ticks_is = c.self.invariant.0; last_is = c.self.invariant.1; few = c.self.invariant.2 } in
    let fits = fits_with_other c.self.inside.steps.items c.push.new.self.items Pull c.self.inside.ticks c.self.inside.last before refl items in
    (fits.ticks_is, fits.last_is, fits.few, grind (arith, common_steps))

pub invariant_of-self-in-Activate : goal.invariant_of-self-in-Activate
invariant_of-self-in-Activate c =
    let items : c.push.new.self.items ≡ c.self.inside.steps.items ++ Activate ∷ [] = grind (arith, common_steps) in
    let before : FitsTicks c.self.inside.steps.items c.self.inside.ticks c.self.inside.last =
    record { ticks_is = c.self.invariant.0; last_is = c.self.invariant.1; few = c.self.invariant.2 } in
    let fits = fits_with_other c.self.inside.steps.items c.push.new.self.items Activate c.self.inside.ticks c.self.inside.last before refl items in
    (fits.ticks_is, fits.last_is, fits.few, grind (arith, common_steps))
