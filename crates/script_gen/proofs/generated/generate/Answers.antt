use Rattle.std.proofs.Common.{◌≡◌, ℕ, List, length, map, ap, sym, subst, ◌∙◌, refl, rules}
use Rattle.std.proofs.lemmas.List.{length-map}
use Rattle.anim_names.specs.declared.version.Version.TheVariants.{One}
use Rattle.anim_names.specs.declared.lane.Lane.{Lane}
use Rattle.run_rules.specs.declared.main_step.MainStep.{MainStep}
use Rattle.run_rules.specs.declared.compositor_step.CompositorStep.{CompositorStep}
use Rattle.run_rules.specs.Scripts.{IsWellFormed}
use Rattle.run_rules.specs.Views.{step_of}
use Rattle.frame_script.specs.Scripts.{script_parts}
use Rattle.script_gen.specs.Generated.{main_steps, compositor_steps, word_of_rounds, generated_script}
use Rattle.script_gen.proofs.WellFormed.{well_formed}
use Rattle.script_gen.proofs.generated.generate.Goals as goal

made : (n m k : ℕ) (main : List MainStep) (compositor : List CompositorStep) (word : List Lane)
    → map step_of main ≡ main_steps n → compositor ≡ compositor_steps n → m ≡ length main → k ≡ length compositor
    → word ≡ word_of_rounds m k → script_parts One (map step_of main) compositor word ≡ generated_script n
unfolding generated_script
made n m k main compositor word of_main of_compositor main_count compositor_count rounds =
    let a : m ≡ length (main_steps n) = main_count ∙ sym (length-map main step_of) ∙ ap length of_main in
    let b : k ≡ length (compositor_steps n) = compositor_count ∙ ap length of_compositor in
    rw (of_main, of_compositor, rounds, a, b) refl

pub new-requires : goal.new-requires
new-requires c =
    subst IsWellFormed
    (sym (made c.args.n c.len.result c.len-2.result c.in_ok-main.main.items c.in_ok-compositor.compositor.items c.in_ok-word.word.items c.in_ok-main.ensures c.in_ok-compositor.ensures (search rules) (search rules) c.in_ok-word.ensures))
    (well_formed c.args.n c.requires.few)

pub returns : goal.returns
returns c =
    c.new.ensures
    ∙ made c.args.n c.len.result c.len-2.result c.in_ok-main.main.items c.in_ok-compositor.compositor.items c.in_ok-word.word.items c.in_ok-main.ensures c.in_ok-compositor.ensures (search rules) (search rules)
    c.in_ok-word.ensures
