-- What stays true of the marks along a run, and marks that end models.
use Rattle.std.proofs.Common.{◌≡◌, ℕ, ◌<◌, ◌==◌, true, false, List, [], sym, ap, ◌∙◌}
use Rattle.std.specs.List.{list_any}
use Rattle.std.proofs.lemmas.Bool.{false≢true, eqb-true, eq-eqb}
use Rattle.anim_names.specs.declared.property.Property.{Property}
use Rattle.keyframe_model.specs.Models.{Spec, property_of}
use Rattle.run_rules.specs.declared.mark.Mark.{Mark}
use Rattle.run_rules.specs.declared.mark.Mark.TheVariants.{OfModel}
use Rattle.tree_commit.specs.Trees.{TreeLists, Committed, has_model}
use Rattle.run_rules.specs.Marks.{model_of, starts, starts_in, is_started, is_ended, is_unfinished, is_group_unfinished, blocks, is_start}
use Rattle.run_rules.proofs.MarkLemmas.{says-what}
use Rattle.anim_names.specs.Lists.{IsAmong}
use Rattle.run_laws.specs.Ends.{is_group_finished}
use Rattle.run_laws.specs.Groups.{StartsAgree}
use Rattle.tree_commit.proofs.Among.{any-cases}
use Rattle.run_laws.proofs.Births.{Birth, birth, AreOfOneScript}
use Rattle.run_laws.proofs.Lines.{FitsBirths}
use Rattle.run_laws.proofs.MarkFacts.{AreInOrder}
use Rattle.run_laws.specs.Starts.{IfBegan}
use Rattle.run_laws.proofs.StartLemmas.{began-so, began-weaker}

-- ---- whose a mark is

-- the mark is about the model, with what the model has
abbrev pub IsAbout : Spec → Mark → Type 0
IsAbout model (OfModel id what) =
    (id ≡ model.id)
    × IfBegan (λ begun. (begun.group ≡ model.group) × (begun.element ≡ model.element) × (begun.property ≡ property_of model)) what

-- the mark is of a model that was added before this many commits
pub record IsOfBirth (born : List Birth) (number : ℕ) (mark : Mark) : Type 0 where
  pub model : Spec
  pub before : ℕ
  pub among : IsAmong (birth model before) born
  pub under : before < number
  pub about : IsAbout model mark

pub about-id : (model : Spec) (mark : Mark) → IsAbout model mark → model_of mark ≡ model.id
about-id model (OfModel id what) h = h.0

pub about-group : (model : Spec) (mark : Mark) (group : ℕ) → IsAbout model mark → starts_in group mark ≡ true → group ≡ model.group
about-group model (OfModel id what) group h s =
    let found = began-so _ (λ begun. group == begun.group) what h.1 s in eqb-true group found.0.group found.2 ∙ found.1.0

-- a mark that starts a model starts in the group of that
pub about-starts_in : (model : Spec) (mark : Mark) (id : ℕ) → IsAbout model mark → starts id mark ≡ true → starts_in model.group mark ≡ true
about-starts_in model (OfModel other what) id h s =
    began-weaker _ (λ begun. true) (λ begun. model.group == begun.group) (λ begun parts started. eq-eqb model.group begun.group (sym parts.0)) what h.1
    (says-what is_start id other what s)

-- of one birth in a script and a mark with that model's id
pub of_same_model : (born : List Birth) (number : ℕ) (mark : Mark) (model : Spec) (before : ℕ) → AreOfOneScript born → IsAmong (birth model before) born → (h : IsOfBirth born number mark) → model_of mark ≡ model.id → (h.model ≡ model) × (h.before ≡ before)
of_same_model born number mark model before script among h same =
    let one = script.one (birth h.model h.before) (birth model before) h.among among (sym (about-id h.model mark h.about) ∙ same) in
    (ap (λ b. b.model) one, ap (λ b. b.before) one)

-- ---- what stays along a run

pub record MarksFitBirths (born : List Birth) (active : Committed) (marks : List Mark) : Type 0 where
  pub of_births : (mark : Mark) → IsAmong mark marks → IsOfBirth born active.number mark
  pub order : AreInOrder [] marks
  pub running : (id : ℕ) → is_unfinished marks id ≡ true → has_model active.tree id ≡ true
  pub ended : (model : Spec) → IsAmong model active.tree.models → is_ended marks model.id ≡ true → is_started marks model.id ≡ true
  pub grouped : (model : Spec) → IsAmong model active.tree.models → list_any (starts_in model.group) marks ≡ true → is_started marks model.id ≡ true
  pub alike : StartsAgree marks
  pub blocker : (one other element : ℕ) (property : Property) → blocks marks one element property ≡ true → blocks marks other element property ≡ true → one ≡ other
  pub finished : (group : ℕ) → is_group_finished marks group ≡ true → is_group_unfinished marks group ≡ false

pub no_marks_fit : (born : List Birth) (active : Committed) → MarksFitBirths born active []
no_marks_fit born active = record {
  of_births = λ mark a. absurd a;
  order = tt;
  running = λ id h. absurd (false≢true h);
  ended = λ model a h. absurd (false≢true h);
  grouped = λ model a h. absurd (false≢true h);
  alike = λ one other a. absurd a;
  blocker = λ one other element property h. absurd (false≢true h);
  finished = λ group h. absurd (false≢true h);
}

-- the model of the tree that has this id
pub model_there : (tree : TreeLists) (id : ℕ) → has_model tree id ≡ true → (model : Spec) × IsAmong model tree.models × (id ≡ model.id)
model_there tree id h = let found = any-cases (λ model. id == model.id) tree.models h in (found.0, found.1, eqb-true id found.0.id found.2)

-- a mark about a model of the active commit has that model's own parts
pub of_active : (born : List Birth) (active : Committed) (model : Spec) (mark : Mark) → AreOfOneScript born → FitsBirths born active → IsAmong model active.tree.models → (h : IsOfBirth born active.number mark) → model_of mark ≡ model.id → h.model ≡ model
of_active born active model mark script fits there h same =
    let when = fits.born_before model there in
    (of_same_model born active.number mark model when.0 script when.1 h same).0
