-- Commits of one line: each fits the births of the script, and each later one goes on from those before it.
use Rattle.std.proofs.Common.{◌≡◌, ℕ, ◌≤◌, ◌<◌, Bool, true, false, cond, List, [], ◌∷◌, ◌++◌, length, refl, sym, ap, subst, ◌⊎◌, inl, inr, arith}
use Rattle.anim_names.specs.Lists.{BeginsWith, IsAmong}
use Rattle.keyframe_model.specs.Models.{Spec}
use Rattle.tree_commit.specs.Trees.{Clock, Committed, empty_commit}
use Rattle.tree_commit.specs.Tables.{has_timeline}
use Rattle.tree_commit.specs.Edits.{without}
use Rattle.tree_commit.proofs.Among.{among-without, among-append_cases}
use Rattle.run_laws.proofs.Births.{Birth, birth}

-- ---- commits of one line

-- the model was added before this many commits
abbrev pub BornBefore : List Birth → ℕ → Spec → Type 0
BornBefore born number model = (before : ℕ) × IsAmong (birth model before) born × (before < number)

-- no two models have one id
abbrev pub AreApart : List Spec → Type 0
AreApart [] = Unit {0}
AreApart (model ∷ models) = ((other : Spec) → IsAmong other models → model.id ≡ other.id → ⊥) × AreApart models

-- The commit has only models that were added before it, each with its timeline.
pub record FitsBirths (born : List Birth) (commit : Committed) : Type 0 where
  pub born_before : (model : Spec) → IsAmong model commit.tree.models → BornBefore born commit.number model
  pub apart : AreApart commit.tree.models
  pub timelines : (model : Spec) → IsAmong model commit.tree.models → has_timeline commit.tree model.timeline ≡ true
  pub clocks : (one other : Clock) → IsAmong one commit.tree.timelines → IsAmong other commit.tree.timelines → one.id ≡ other.id → one ≡ other

-- The newer commit goes on from the older one: a model of it that was added before the older one is in the older one,
-- and its timelines go on.
pub record Precedes (born : List Birth) (older newer : Committed) : Type 0 where
  pub number : older.number < newer.number
  pub stays : (model : Spec) (before : ℕ) → IsAmong model newer.tree.models → IsAmong (birth model before) born → before < older.number → IsAmong model older.tree.models
  pub timelines : BeginsWith newer.tree.timelines older.tree.timelines

-- each precedes all behind it
abbrev pub AreOrdered : List Birth → List Committed → Type 0
AreOrdered born [] = Unit {0}
AreOrdered born (commit ∷ commits) = ((newer : Committed) → IsAmong newer commits → Precedes born commit newer) × AreOrdered born commits

-- ---- the empty commit

pub empty_fits : (born : List Birth) → FitsBirths born empty_commit
empty_fits born = record {
  born_before = λ model h. absurd h;
  apart = tt;
  timelines = λ model h. absurd h;
  clocks = λ one other h. absurd h;
}

pub empty_precedes : (born : List Birth) (commit : Committed) → 0 < commit.number → Precedes born empty_commit commit
empty_precedes born commit later = record {
  number = later;
  stays = λ model before h among under. absurd (omega (arith, under));
  timelines = (commit.tree.timelines, refl);
}

-- ---- ordered commits

-- one more commit, which all others precede
pub ordered-last : (born : List Birth) (commits : List Committed) (last : Committed) → AreOrdered born commits → ((older : Committed) → IsAmong older commits → Precedes born older last) → AreOrdered born (commits ++ last ∷ [])
ordered-last born [] last ordered before = (λ newer h. absurd h, tt)
ordered-last born (commit ∷ commits) last ordered before =
    (λ newer h. go newer (among-append_cases newer commits (last ∷ []) h), ordered-last born commits last ordered.1 (λ older h. before older (inr h)))
  where
    go : (newer : Committed) → IsAmong newer commits ⊎ IsAmong newer (last ∷ []) → Precedes born commit newer
    go newer (inl h) = ordered.0 newer h
    go newer (inr (inl e)) = subst (λ c. Precedes born commit c) (sym e) (before commit (inl refl))
    go newer (inr (inr h)) = absurd h

-- of two commits of a line that of the smaller number precedes the other
pub ordered-precedes : (born : List Birth) (commits : List Committed) → AreOrdered born commits → (older newer : Committed) → IsAmong older commits → IsAmong newer commits → older.number < newer.number → Precedes born older newer
ordered-precedes born [] ordered older newer h other under = absurd h
ordered-precedes born (commit ∷ commits) ordered older newer (inl e) (inl f) under =
    absurd (omega (arith, under, ap (λ c. c.number) e, ap (λ c. c.number) f))
ordered-precedes born (commit ∷ commits) ordered older newer (inl e) (inr f) under =
    subst (λ c. Precedes born c newer) (sym e) (ordered.0 newer f)
ordered-precedes born (commit ∷ commits) ordered older newer (inr e) (inl f) under =
    absurd (omega (arith, under, (ordered.0 older e).number, ap (λ c. c.number) f))
ordered-precedes born (commit ∷ commits) ordered older newer (inr e) (inr f) under =
    ordered-precedes born commits ordered.1 older newer e f under

-- ---- fewer models

-- the models are some of the others, in their order
pub record IsThin (fewer models : List Spec) : Type 0 where
  pub among : (model : Spec) → IsAmong model fewer → IsAmong model models
  pub apart : AreApart models → AreApart fewer
  pub length : length fewer ≤ length models

pub thin_same : (models : List Spec) → IsThin models models
thin_same models = record { among = λ model h. h; apart = λ h. h; length = omega arith }

pub thin_thinner : (one two three : List Spec) → IsThin two three → IsThin one two → IsThin one three
thin_thinner one two three h i = record {
  among = λ model a. h.among model (i.among model a);
  apart = λ a. i.apart (h.apart a);
  length = omega (arith, h.length, i.length);
}

pub thin_without : (test : Spec → Bool) (models : List Spec) → IsThin (without test models) models
thin_without test models = record {
  among = λ model h. among-without test model models h;
  apart = apart models;
  length = shorter models;
}
  where
    pick : (model : Spec) (models rest : List Spec) (gone : Bool) → AreApart (model ∷ models) → ((other : Spec) → IsAmong other rest → IsAmong other models) → AreApart rest → AreApart (cond gone models (model ∷ rest))
    pick model models rest true h fewer i = h.1
    pick model models rest false h fewer i = (λ other a. h.0 other (fewer other a), i)

    apart : (models : List Spec) → AreApart models → AreApart (without test models)
    apart [] h = h
    apart (model ∷ models) h = pick model models (without test models) (test model) h (λ other a. among-without test other models a) (apart models h.1)

    count : (model : Spec) (models rest : List Spec) (gone : Bool) → length rest ≤ length models → length (cond gone models (model ∷ rest)) ≤ length (model ∷ models)
    count model models rest true h = omega arith
    count model models rest false h = omega (arith, h)

    shorter : (models : List Spec) → length (without test models) ≤ length models
    shorter [] = omega arith
    shorter (model ∷ models) = count model models (without test models) (test model) (shorter models)

pub fits_thin : (born : List Birth) (commit thin : Committed) → thin.number ≡ commit.number → thin.tree.timelines ≡ commit.tree.timelines → IsThin thin.tree.models commit.tree.models → FitsBirths born commit → FitsBirths born thin
fits_thin born commit thin number timelines models h = record {
  born_before = λ model a. subst (λ n. BornBefore born n model) (sym number) (h.born_before model (models.among model a));
  apart = models.apart h.apart;
  timelines = λ model a. rw timelines (h.timelines model (models.among model a));
  clocks = subst (λ clocks. (one other : Clock) → IsAmong one clocks → IsAmong other clocks → one.id ≡ other.id → one ≡ other) (sym timelines) h.clocks;
}

pub precedes_thin : (born : List Birth) (older commit thin : Committed) → thin.number ≡ commit.number → thin.tree.timelines ≡ commit.tree.timelines → IsThin thin.tree.models commit.tree.models → Precedes born older commit → Precedes born older thin
precedes_thin born older commit thin number timelines models h = record {
  number = omega (arith, number, h.number);
  stays = λ model before a. h.stays model before (models.among model a);
  timelines = subst (λ clocks. BeginsWith clocks older.tree.timelines) (sym timelines) h.timelines;
}
