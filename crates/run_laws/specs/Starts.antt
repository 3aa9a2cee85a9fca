-- What is asked of how models started. Of any other mark nothing is asked.
use Rattle.run_rules.specs.declared.mark.Begun.{Begun}
use Rattle.run_rules.specs.declared.mark.Mark.{Mark}
use Rattle.run_rules.specs.declared.mark.Mark.TheVariants.{OfModel}
use Rattle.run_rules.specs.declared.mark.ModelMark.{ModelMark}
use Rattle.run_rules.specs.declared.mark.ModelMark.TheVariants.{Started, Finished, Aborted}

-- where the model started, this is true of how it did
abbrev pub IfBegan : (Begun → Type 0) → ModelMark → Type 0
IfBegan P (Started begun) = P begun
IfBegan P (Finished at) = Unit {0}
IfBegan P (Aborted commit) = Unit {0}

-- where the mark starts a model, this is true of how that started
abbrev pub IfStarts : (Begun → Type 0) → Mark → Type 0
IfStarts P (OfModel model what) = IfBegan P what
