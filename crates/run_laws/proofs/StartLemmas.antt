-- How models start: one lemma each for whatever became of a model.
use Rattle.std.proofs.Common.{◌≡◌, ℕ, Bool, true}
use Rattle.std.proofs.lemmas.Bool.{false≢true, and_parts, and_from}
use Rattle.run_rules.specs.declared.mark.Begun.{Begun}
use Rattle.run_rules.specs.declared.mark.Mark.{Mark}
use Rattle.run_rules.specs.declared.mark.Mark.TheVariants.{OfModel}
use Rattle.run_rules.specs.declared.mark.ModelMark.{ModelMark}
use Rattle.run_rules.specs.declared.mark.ModelMark.TheVariants.{Started, Finished, Aborted}
use Rattle.run_rules.specs.Marks.{began, is_end, says}
use Rattle.run_laws.specs.Starts.{IfBegan}

-- a test of how a model started is passed by a start, of which what is true of starts is true
pub began-so : (P : Begun → Type 0) (test : Begun → Bool) (what : ModelMark) → IfBegan P what → began test what ≡ true → (begun : Begun) × P begun × (test begun ≡ true)
began-so P test (Started begun) p h = (begun, p, h)
began-so P test (Finished at) p h = absurd (false≢true h)
began-so P test (Aborted commit) p h = absurd (false≢true h)

-- what passes one test passes another that follows from it
pub began-weaker : (P : Begun → Type 0) (test other : Begun → Bool) → ((begun : Begun) → P begun → test begun ≡ true → other begun ≡ true) → (what : ModelMark) → IfBegan P what → began test what ≡ true → began other what ≡ true
began-weaker P test other weaker (Started begun) p h = weaker begun p h
began-weaker P test other weaker (Finished at) p h = absurd (false≢true h)
began-weaker P test other weaker (Aborted commit) p h = absurd (false≢true h)

-- what is true of every start
pub if_began-all : (P : Begun → Type 0) → ((begun : Begun) → P begun) → (what : ModelMark) → IfBegan P what
if_began-all P all (Started begun) = all begun
if_began-all P all (Finished at) = tt
if_began-all P all (Aborted commit) = tt

-- what is true of every start that fails a test, where the test is not passed
pub if_began-fails : (P : Begun → Type 0) (test : Begun → Bool) → ((begun : Begun) → (test begun ≡ true → ⊥) → P begun) → (what : ModelMark) → (began test what ≡ true → ⊥) → IfBegan P what
if_began-fails P test all (Started begun) fails = all begun fails
if_began-fails P test all (Finished at) fails = tt
if_began-fails P test all (Aborted commit) fails = tt

-- ---- ends

-- so nothing is asked of it
pub end-if_began : (P : Begun → Type 0) (what : ModelMark) → is_end what ≡ true → IfBegan P what
end-if_began P (Started begun) e = absurd (false≢true e)
end-if_began P (Finished at) e = tt
end-if_began P (Aborted commit) e = tt

-- ---- what is said of a model

-- what says one thing of a model says another that follows from it
pub says-weaker : (test other : ModelMark → Bool) → ((what : ModelMark) → test what ≡ true → other what ≡ true) → (id : ℕ) (mark : Mark) → says test id mark ≡ true → says other id mark ≡ true
says-weaker test other weaker id (OfModel model what) h =
    let parts = and_parts (test what) _ h in and_from _ _ (weaker what parts.0) parts.1
