use Rattle.std.proofs.Common.{◌≡◌, ◌∷◌, ◌++◌, [], arith}
use Rattle.std.proofs.lemmas.Grind.{common_steps}
use Rattle.script_reader.proofs.Books.{book_with_step}
use Rattle.script_reader.proofs.main_part.MainPart.push.Goals as goal

pub invariant_of-self-2 : goal.invariant_of-self-2
invariant_of-self-2 c =
    let items : c.push.new.self.items ≡ c.self.inside.steps.items ++ c.args.step ∷ [] = grind (arith, common_steps) in
    book_with_step c.self.inside.steps.items c.push.new.self.items c.args.step c.self.inside.book c.note.new.book
    c.self.invariant items c.in_ok-note.ensures.noted
