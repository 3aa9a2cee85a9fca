-- What marks of models say: one lemma for whatever became of the model.
use Rattle.std.proofs.Common.{◌≡◌, ℕ, Bool, true, false, not, ◌&&◌, List, refl, ◌∙◌, sym}
use Rattle.std.specs.Prelude.{◌==◌}
use Rattle.std.proofs.lemmas.Bool.{false≢true, and_parts, eqb-true, eq-eqb, not-true, not_from_false, and_from}
use Rattle.run_rules.specs.declared.mark.Begun.{Begun}
use Rattle.run_rules.specs.declared.mark.Mark.{Mark}
use Rattle.run_rules.specs.declared.mark.Mark.TheVariants.{OfModel}
use Rattle.run_rules.specs.declared.mark.ModelMark.{ModelMark}
use Rattle.run_rules.specs.declared.mark.ModelMark.TheVariants.{Started, Finished, Aborted}
use Rattle.run_rules.specs.Marks.{began, is_abort, is_about, is_end, is_ended, is_group_unfinished, is_start, model_of, says, starts, starts_in, starts_so, starts_unfinished}
use Rattle.anim_names.specs.Lists.{IsAmong}
use Rattle.tree_commit.proofs.Among.{any-among, any-cases}

-- a mark that says something of a model is about that model
pub says-model : (test : ModelMark → Bool) (id : ℕ) (mark : Mark) → says test id mark ≡ true → id ≡ model_of mark
says-model test id (OfModel model what) h = eqb-true id model (and_parts (test what) (id == model) h).1

-- and what became of the model passes the test
pub says-what : (test : ModelMark → Bool) (id model : ℕ) (what : ModelMark) → says test id (OfModel model what) ≡ true → test what ≡ true
says-what test id model what h = (and_parts (test what) (id == model) h).0

-- a mark about a model says of that model what became of it
pub says-own : (test : ModelMark → Bool) (model : ℕ) (what : ModelMark) → says test model (OfModel model what) ≡ test what
says-own test model what = by (test what) (model == model) (eq-eqb model model refl)
  where
    by : (a b : Bool) → b ≡ true → (a && b) ≡ a
    by true b h = h
    by false b h = refl

-- it says nothing of another model
pub says-other : (test : ModelMark → Bool) (id model : ℕ) (what : ModelMark) → (id == model) ≡ false → says test id (OfModel model what) ≡ false
says-other test id model what h = by (test what) (id == model) h
  where
    by : (a b : Bool) → b ≡ false → (a && b) ≡ false
    by true b h = h
    by false b h = refl

-- what starts a model began in some way
pub began-start : (test : Begun → Bool) (what : ModelMark) → began test what ≡ true → is_start what ≡ true
began-start test (Started begun) h = refl
began-start test (Finished at) h = absurd (false≢true h)
began-start test (Aborted commit) h = absurd (false≢true h)

-- a model that starts does not end in the same mark
pub start-is_no_end : (what : ModelMark) → is_start what ≡ true → is_end what ≡ false
start-is_no_end (Started begun) h = refl
start-is_no_end (Finished at) h = absurd (false≢true h)
start-is_no_end (Aborted commit) h = absurd (false≢true h)

-- an abort is an end
pub abort-is_end : (what : ModelMark) → is_abort what ≡ true → is_end what ≡ true
abort-is_end (Started begun) h = absurd (false≢true h)
abort-is_end (Finished at) h = refl
abort-is_end (Aborted commit) h = refl

-- a mark that starts a model in some way starts the model that it is about
pub starts_so-starts : (test : Begun → Bool) (mark : Mark) → starts_so test mark ≡ true → starts (model_of mark) mark ≡ true
starts_so-starts test (OfModel model what) h = says-own is_start model what ∙ began-start test what h

-- the start of an unfinished model in a group, by its two parts
pub starts_unfinished-parts : (marks : List Mark) (group : ℕ) (mark : Mark)
    → starts_unfinished marks group mark ≡ (starts_in group mark && not (is_ended marks (model_of mark)))
starts_unfinished-parts marks group (OfModel model what) = refl

-- a mark is about its own model
pub about-own : (mark : Mark) → is_about (model_of mark) mark ≡ true
about-own (OfModel model what) = eq-eqb model model refl

-- and about no other
pub about-model : (id : ℕ) (mark : Mark) → is_about id mark ≡ true → id ≡ model_of mark
about-model id (OfModel model what) h = eqb-true id model h

-- what ends begins nothing
pub end-began : (test : Begun → Bool) (what : ModelMark) → is_end what ≡ true → began test what ≡ false
end-began test (Started begun) end = absurd (false≢true end)
end-began test (Finished at) end = refl
end-began test (Aborted commit) end = refl

-- ---- groups with an unfinished model

-- such a group has the start of a model that has not ended
pub unfinished-mark : (marks : List Mark) (group : ℕ) → is_group_unfinished marks group ≡ true
    → (mark : Mark) × IsAmong mark marks × (starts_in group mark ≡ true) × (is_ended marks (model_of mark) ≡ false)
unfinished-mark marks group h =
    let found = any-cases (starts_unfinished marks group) marks h in
    let both = and_parts (starts_in group found.0) _ (sym (starts_unfinished-parts marks group found.0) ∙ found.2) in
    (found.0, found.1, both.0, not-true _ both.1)

-- and a group with the start of such a model is one
pub unfinished-from : (marks : List Mark) (group : ℕ) (mark : Mark) → IsAmong mark marks → starts_in group mark ≡ true
    → is_ended marks (model_of mark) ≡ false → is_group_unfinished marks group ≡ true
unfinished-from marks group mark among starts unended =
    any-among (starts_unfinished marks group) mark marks among (starts_unfinished-parts marks group mark ∙ and_from _ _ starts (not_from_false _ unended))
