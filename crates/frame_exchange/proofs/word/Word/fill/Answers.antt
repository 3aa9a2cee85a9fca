use Rattle.std.proofs.Common.{◌≡◌, ◌∙◌, sym, ap, refl, arith}
use Rattle.std.proofs.lemmas.Grind.{common_steps}
use Rattle.anim_names.specs.declared.lane.Lane.TheVariants.{Main, Compositor}
use Rattle.anim_names.specs.Lanes.{letters_of}
use Rattle.frame_exchange.specs.Journals.{filled}
use Rattle.frame_exchange.proofs.WordLemmas.{letters-of_own, letters-of_other}
use Rattle.frame_exchange.proofs.word.Word.fill.Goals as goal

pub invariant_of-self-in-Main : goal.invariant_of-self-in-Main
invariant_of-self-in-Main c =
    let made : c.made-made.result ≡ letters_of Main c.self.inside.letters.items = cc in
    let items : c.resize.new.self.items ≡ filled Main c.args.upto c.self.inside.letters.items = grind (arith, common_steps) in (
      c.max-self-inside.ensures ∙ letters-of_own Main c.args.upto c.made-made.result c.self.inside.letters.items made ∙ ap (letters_of Main) (sym items),
      letters-of_other Compositor Main c.args.upto c.self.inside.compositor c.self.inside.letters.items refl c.self.invariant.1 ∙ ap (letters_of Compositor) (sym items),
    )

pub invariant_of-self-in-Compositor : goal.invariant_of-self-in-Compositor
invariant_of-self-in-Compositor c =
    let made : c.made-made.result ≡ letters_of Compositor c.self.inside.letters.items = cc in
    let items : c.resize.new.self.items ≡ filled Compositor c.args.upto c.self.inside.letters.items = grind (arith, common_steps) in (
      letters-of_other Main Compositor c.args.upto c.self.inside.main c.self.inside.letters.items refl c.self.invariant.0 ∙ ap (letters_of Main) (sym items),
      c.max-self-inside-in-Compositor.ensures ∙ letters-of_own Compositor c.args.upto c.made-made.result c.self.inside.letters.items made ∙ ap (letters_of Compositor) (sym items),
    )
