-- How the marks go with the models of the active commit: what one more mark keeps.
use Rattle.std.proofs.Common.{◌≡◌, ◌⊎◌, ℕ, Bool, true, false, List, [], ◌∷◌, ◌++◌, map, Option, Some, None, refl, sym, ap, subst, ◌∙◌, nat_eq, inl, inr}
use Rattle.std.specs.Prelude.{◌==◌, IfSome}
use Rattle.std.specs.List.{IsDistinct, list_any}
use Rattle.std.proofs.lemmas.Bool.{eq-eqb, eqb-true, or_cases, or_parts}
use Rattle.anim_names.specs.Lists.{IsAmong}
use Rattle.keyframe_model.specs.Models.{Spec}
use Rattle.tree_commit.specs.Trees.{Committed, TreeLists}
use Rattle.tree_commit.proofs.Among.{among-has, among-one_more, any-among, one-model}
use Rattle.run_rules.specs.declared.mark.Mark.{Mark}
use Rattle.run_rules.specs.declared.mark.Mark.TheVariants.{OfModel}
use Rattle.run_rules.specs.declared.mark.ModelMark.{ModelMark}
use Rattle.run_rules.specs.declared.mark.ModelMark.TheVariants.{Started, Finished, Aborted}
use Rattle.run_rules.specs.Follows.{Follows}
use Rattle.run_rules.specs.Marks.{began, ends, is_about, is_ended, starts_in}
use Rattle.host_tables.proofs.StateLemmas.{ended-more, one_any}
use Rattle.anim_host.specs.Fits.{AgreesAs, AgreesWith, IsOf, IsThereIfUnfinished, MarksFitModels}

-- ---- tests

pub both-ways : (a b : Bool) → (a ≡ true → b ≡ true) → (b ≡ true → a ≡ true) → a ≡ b
both-ways true b there back = sym (there refl)
both-ways false true there back = back refl
both-ways false false there back = refl

-- one element more passes, or one of those before did
pub any-more : {A : Type 0} (test : A → Bool) (list : List A) (last : A) → list_any test (list ++ last ∷ []) ≡ true
    → (list_any test list ≡ true) ⊎ (test last ≡ true)
any-more test list last is = or_cases (list_any test list) (test last) (sym (one_any test list last) ∙ is)

-- ---- one more mark about a model of the active commit

agrees-of : (models : List Spec) (what : ModelMark) (model other : Spec) → IsDistinct nat_eq (map (λ m. m.id) models)
    → ((one mate : Spec) → IsAmong one models → IsAmong mate models → one.group ≡ mate.group → one.element ≡ mate.element)
    → IsAmong model models → IsOf what model → IsAmong other models → AgreesAs model.id what other
agrees-of models (Started begun) model other differ mates there of also = (
  λ ids. of.0 ∙ ap (λ (m : Spec). m.group) (one-model models model other differ there also ids),
  λ groups. of.1 ∙ mates model other there also (sym of.0 ∙ groups),
)
agrees-of models (Finished at) model other differ mates there of also = tt
agrees-of models (Aborted commit) model other differ mates there of also = tt

pub ended-before : (marks : List Mark) (mark : Mark) (id : ℕ) → is_ended (marks ++ mark ∷ []) id ≡ false → is_ended marks id ≡ false
ended-before marks mark id alive = (or_parts (is_ended marks id) (ends id mark) (sym (ended-more marks mark id) ∙ alive)).0

still-there : (models : List Spec) (marks : List Mark) (mark first : Mark)
    → IsThereIfUnfinished models marks first → IsThereIfUnfinished models (marks ++ mark ∷ []) first
still-there models marks mark (OfModel id what) there = λ start alive. there start (ended-before marks mark id alive)

pub fits-next : (models : List Spec) (marks : List Mark) (what : ModelMark) (model : Spec) → IsDistinct nat_eq (map (λ m. m.id) models)
    → MarksFitModels models marks → IsAmong model models → IsOf what model → MarksFitModels models (marks ++ OfModel model.id what ∷ [])
fits-next models marks what model differ fit there of =
    let mark = OfModel model.id what in
    record {
      agree = λ one other among also.
          elim (among-one_more one marks mark among) [
            | inl before ↦ fit.agree one other before also
            | inr last ↦ subst (λ (m : Mark). AgreesWith m other) (sym last) (agrees-of models what model other differ fit.mates there of also)
          ];
      unfinished = λ one among.
          elim (among-one_more one marks mark among) [
            | inl before ↦ still-there models marks mark one (fit.unfinished one before)
            | inr last ↦
                subst (λ (m : Mark). IsThereIfUnfinished models (marks ++ mark ∷ []) m) (sym last)
                (λ start alive. among-has model models there)
          ];
      mates = fit.mates;
    }

-- ---- the pending commit still follows

group-of : (what : ModelMark) (model : Spec) (group : ℕ) → IsOf what model → began (λ begun. group == begun.group) what ≡ true → group ≡ model.group
group-of (Started begun) model group of is = eqb-true group begun.group is ∙ of.0
group-of (Finished at) model group of is = cc
group-of (Aborted commit) model group of is = cc

follows-next : (active pending : TreeLists) (marks : List Mark) (what : ModelMark) (model : Spec)
    → Follows active pending marks → IsAmong model active.models → IsOf what model → Follows active pending (marks ++ OfModel model.id what ∷ [])
follows-next active pending marks what model follows there of = record {
  one_model = follows.one_model;
  marked = λ other among is.
      elim (any-more (is_about other.id) marks (OfModel model.id what) is) [
        | inl before ↦ follows.marked other among before
        | inr last ↦
            subst (λ (m : Spec). IsAmong m active.models)
            (follows.one_model model other there among (sym (eqb-true other.id model.id last))) there
      ];
  group_there = follows.group_there;
  group_started = λ other among is.
      elim (any-more (starts_in other.group) marks (OfModel model.id what) is) [
        | inl before ↦ follows.group_started other among before
        | inr last ↦
            follows.group_there other among
            (any-among (λ (m : Spec). other.group == m.group) model active.models there (eq-eqb other.group model.group (group-of what model other.group of last)))
      ];
  groups_agree = follows.groups_agree;
  timelines = follows.timelines;
}

-- ---- the pending commit takes over

agrees-over : (active pending : TreeLists) (marks : List Mark) → Follows active pending marks → MarksFitModels active.models marks
    → (mark : Mark) (model : Spec) → IsAmong mark marks → IsAmong model pending.models → AgreesWith mark model
agrees-over active pending marks follows fit (OfModel id (Started begun)) model among there =
    let mark = OfModel id (Started begun) in (
      λ ids.
          (fit.agree mark model among
          (follows.marked model there (any-among (is_about model.id) mark marks among (eq-eqb model.id id (sym ids))))).0 ids,
      λ groups.
          (fit.agree mark model among
          (follows.group_started model there (any-among (starts_in model.group) mark marks among (eq-eqb model.group begun.group (sym groups))))).1 groups,
    )
agrees-over active pending marks follows fit (OfModel id (Finished at)) model among there = tt
agrees-over active pending marks follows fit (OfModel id (Aborted commit)) model among there = tt

pub fits-over : (active pending : TreeLists) (marks : List Mark) → Follows active pending marks → MarksFitModels active.models marks
    → ((mark : Mark) → IsAmong mark marks → IsThereIfUnfinished pending.models marks mark)
    → MarksFitModels pending.models marks
fits-over active pending marks follows fit unfinished = record {
  agree = agrees-over active pending marks follows fit;
  unfinished = unfinished;
  mates = λ model mate there also groups. (follows.groups_agree model mate there also groups).element;
}

-- no marks go with no models
pub fits-nothing : MarksFitModels [] []
fits-nothing = record {
  agree = λ mark model among. absurd among;
  unfinished = λ mark among. absurd among;
  mates = λ model mate there. absurd there;
}

pub follows-more : (active : TreeLists) (pending : Option Committed) (marks : List Mark) (what : ModelMark) (model : Spec)
    → IfSome pending (λ commit. Follows active commit.tree marks) → IsAmong model active.models → IsOf what model
    → IfSome pending (λ commit. Follows active commit.tree (marks ++ OfModel model.id what ∷ []))
follows-more active None marks what model follows there of = tt
follows-more active (Some commit) marks what model follows there of = follows-next active commit.tree marks what model follows there of
