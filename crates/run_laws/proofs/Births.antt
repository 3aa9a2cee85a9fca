-- The models that a script ever adds, each with how many commits came before it.
use Rattle.std.proofs.Common.{◌≡◌, ℕ, ◌+◌, ◌≤◌, ◌==◌, nat_le, Bool, true, false, not, ◌&&◌, ◌||◌, cond, Option, Some, None, List, [], ◌∷◌, length, refl, sym, ap, ◌∙◌, subst, ◌⊎◌, inl, inr, arith}
use Rattle.std.specs.Prelude.{is_none, nat_eq, find, unwrap_or}
use Rattle.std.specs.List.{list_any}
use Rattle.std.specs.Option.{option_eq}
use Rattle.std.proofs.lemmas.Bool.{false≢true, and_parts, or_parts, eqb-true, eqb-false, eq-eqb, ltb-false, not-false}
use Rattle.std.proofs.lemmas.List.Folds.{list_any-append}
use Rattle.std.proofs.lemmas.Option.{none-some}
use Rattle.anim_names.specs.declared.limit.TheConstants.{MOST_MODELS}
use Rattle.anim_names.specs.declared.property.Property.{Property}
use Rattle.anim_names.specs.declared.property.Property.TheVariants.{Opacity, Transform}
use Rattle.anim_names.specs.Properties.{is_property}
use Rattle.keyframe_model.specs.Models.{Spec, property_of}
use Rattle.tree_commit.specs.declared.edits.refusal.EditRefusal.{EditRefusal}
use Rattle.tree_commit.specs.Edits.{OnModels, OnTimelines, OnElements, Change, AddElement, RemoveElement, AddTimeline, AddModel, RemoveModel, GroupParts, Book, new_book, is_in, parts_of, is_closed, is_mixed, model_refusal, edit_refusal, new_parts, with_property, with_member, book_after, book_after_commit, SetOwn, ElementChange, book_after_elements}
use Rattle.run_rules.specs.Scripts.{StepOfMain, EditStep, CommitStep, DrainStep, are_allowed, is_allowed}
use Rattle.anim_names.specs.Lists.{IsAmong}

-- ---- births

-- a model, and how many commits there were when it was added
pub record Birth : Type 0 where
  pub model : Spec
  pub before : ℕ

abbrev pub birth : Spec → ℕ → Birth
birth model before = record { model = model; before = before }

-- the births of an edit, before those of the steps behind it
abbrev pub births_of : ℕ → Change → List Birth → List Birth
births_of commits (OnElements elements) behind = behind
births_of commits (OnTimelines timelines) behind = behind
births_of commits (OnModels (AddModel model)) behind = birth model commits ∷ behind
births_of commits (OnModels (RemoveModel id)) behind = behind

-- the births of these steps, where this many commits came before them
abbrev pub births : ℕ → List StepOfMain → List Birth
births commits [] = []
births commits (EditStep change ∷ steps) = births_of commits change (births commits steps)
births commits (CommitStep ∷ steps) = births (commits + 1) steps
births commits (DrainStep ∷ steps) = births commits steps

-- ---- what two births have in common

-- The models of one group were added between the same two commits, and agree in all but the property.
pub record AreMates (one other : Birth) : Type 0 where
  pub before : other.before ≡ one.before
  pub element : other.model.element ≡ one.model.element
  pub timeline : other.model.timeline ≡ one.model.timeline
  pub start : other.model.start ≡ one.model.start
  pub property : is_property (property_of other.model) (property_of one.model) ≡ true → other.model.id ≡ one.model.id

-- Of these births each has an id of its own, and those of a group are mates.
pub record AreOfOneScript (born : List Birth) : Type 0 where
  pub one : (b c : Birth) → IsAmong b born → IsAmong c born → b.model.id ≡ c.model.id → b ≡ c
  pub mates : (b c : Birth) → IsAmong b born → IsAmong c born → b.model.group ≡ c.model.group → AreMates b c

-- ---- equal parts

is_property-sym : (p q : Property) → is_property p q ≡ true → is_property q p ≡ true
is_property-sym Opacity Opacity h = refl
is_property-sym Opacity Transform h = absurd (false≢true h)
is_property-sym Transform Opacity h = absurd (false≢true h)
is_property-sym Transform Transform h = refl

some_same : {A : Type 0} (x y : A) → Some x ≡ Some y → x ≡ y
some_same x y e = ap (λ o. unwrap_or o x) e

option_eq-true : (a b : Option ℕ) → option_eq nat_eq a b ≡ true → a ≡ b
option_eq-true None None h = refl
option_eq-true None (Some y) h = absurd (false≢true h)
option_eq-true (Some x) None h = absurd (false≢true h)
option_eq-true (Some x) (Some y) h = ap Some (eqb-true x y h)

pub mates_with_itself : (b : Birth) → AreMates b b
mates_with_itself b = record { before = refl; element = refl; timeline = refl; start = refl; property = λ same. refl }

mates_both_ways : (b c : Birth) → AreMates b c → AreMates c b
mates_both_ways b c h = record {
  before = sym h.before;
  element = sym h.element;
  timeline = sym h.timeline;
  start = sym h.start;
  property = λ same. sym (h.property (is_property-sym _ _ same));
}

-- ---- an edit that is not refused

pub not_refused : (found : Bool) (refusal : EditRefusal) (behind : Option EditRefusal) → is_none (cond found (Some refusal) behind) ≡ true → (found ≡ false) × (is_none behind ≡ true)
not_refused true refusal behind h = absurd (false≢true h)
not_refused false refusal behind h = (refl, h)

pub record IsAccepted (book : Book) (model : Spec) : Type 0 where
  pub fresh : is_in model.id book.models ≡ false
  pub timeline : is_in model.timeline book.timelines ≡ true
  pub unclosed : is_closed book.commits (parts_of book model.group) ≡ false
  pub alike : is_mixed model.element model.timeline model.start (property_of model) (parts_of book model.group) ≡ false
  pub room : nat_le MOST_MODELS (length book.models) ≡ false

pub accepted : (book : Book) (model : Spec) → is_none (edit_refusal book (OnModels (AddModel model))) ≡ true → IsAccepted book model
unfolding edit_refusal model_refusal
accepted book model h =
    let first = not_refused (is_in model.id book.models) _ _ h in
    let second = not_refused (not (is_in model.timeline book.timelines)) _ _ first.1 in
    let third = not_refused (is_closed book.commits (parts_of book model.group)) _ _ second.1 in
    let fourth = not_refused (is_mixed model.element model.timeline model.start (property_of model) (parts_of book model.group)) _ _ third.1 in
    let fifth = not_refused (nat_le MOST_MODELS (length book.models)) _ _ fourth.1 in
    record {
      fresh = first.0;
      timeline = not-false (is_in model.timeline book.timelines) second.0;
      unclosed = third.0;
      alike = fourth.0;
      room = fifth.0;
    }

-- ---- how a later birth joins what is known

-- the birth is one that its group takes
pub record Joins (parts : GroupParts) (b : Birth) : Type 0 where
  pub before : b.before ≤ parts.commits_before
  pub element : b.model.element ≡ parts.element
  pub timeline : b.model.timeline ≡ parts.timeline
  pub start : b.model.start ≡ parts.start
  pub property : list_any (is_property (property_of b.model)) parts.properties ≡ false

-- the birth is of a step that is still to come
pub record IsLater (book : Book) (b : Birth) : Type 0 where
  pub fresh : is_in b.model.id book.models ≡ false
  pub since : book.commits ≤ b.before
  pub joins : (parts : GroupParts) → parts_of book b.model.group ≡ Some parts → Joins parts b

open_parts : (commits : ℕ) (parts : GroupParts) → is_closed commits (Some parts) ≡ false → commits ≤ parts.commits_before
open_parts commits parts h = ltb-false parts.commits_before commits h

alike_parts : (m : Spec) (n : ℕ) (parts : GroupParts) → n ≤ parts.commits_before → is_mixed m.element m.timeline m.start (property_of m) (Some parts) ≡ false → Joins parts (birth m n)
alike_parts m n parts before h =
    let both = or_parts (not (m.element == parts.element && m.timeline == parts.timeline && option_eq nat_eq m.start parts.start)) _ h in
    let all = and_parts (m.element == parts.element && m.timeline == parts.timeline) _ (not-false _ both.0) in
    let two = and_parts (m.element == parts.element) _ all.0 in
    record {
      before = before;
      element = eqb-true m.element parts.element two.0;
      timeline = eqb-true m.timeline parts.timeline two.1;
      start = option_eq-true m.start parts.start all.1;
      property = both.1;
    }

head_is_later : (book : Book) (m : Spec) → IsAccepted book m → IsLater book (birth m book.commits)
head_is_later book m h = record {
  fresh = h.fresh;
  since = omega arith;
  joins = λ parts e.
      let P : Option GroupParts → Type 0 = λ p. is_closed book.commits p ≡ false in
      let Q : Option GroupParts → Type 0 = λ p. is_mixed m.element m.timeline m.start (property_of m) p ≡ false in
      alike_parts m book.commits parts (open_parts book.commits parts (subst P e h.unclosed)) (subst Q e h.alike);
}

-- ---- a group with one more member

-- what is known of the group of a model once that is added
grown : ℕ → Spec → Option GroupParts → GroupParts
grown commits m None = new_parts commits m
grown commits m (Some parts) = with_property (property_of m) parts

member-own : (n : ℕ) (m : Spec) (groups : List GroupParts) → find (λ parts. m.group == parts.group) (with_member n m groups) ≡ Some (grown n m (find (λ parts. m.group == parts.group) groups))
unfolding grown
member-own n m [] = rw (eq-eqb m.group m.group refl) refl
member-own n m (parts ∷ others) = go (m.group == parts.group) refl (member-own n m others)
  where
    go : (own : Bool) → m.group == parts.group ≡ own → find (λ parts. m.group == parts.group) (with_member n m others) ≡ Some (grown n m (find (λ parts. m.group == parts.group) others)) → find (λ parts. m.group == parts.group) (cond own (with_property (property_of m) parts ∷ others) (parts ∷ with_member n m others)) ≡ Some (grown n m (cond own (Some parts) (find (λ parts. m.group == parts.group) others)))
    go true e rest = rw e refl
    go false e rest = rw e rest

member-other : (g n : ℕ) (m : Spec) → (g == m.group) ≡ false → (groups : List GroupParts) → find (λ parts. g == parts.group) (with_member n m groups) ≡ find (λ parts. g == parts.group) groups
member-other g n m other [] = rw other refl
member-other g n m other (parts ∷ others) = go (m.group == parts.group) refl (member-other g n m other others)
  where
    go : (own : Bool) → m.group == parts.group ≡ own → find (λ parts. g == parts.group) (with_member n m others) ≡ find (λ parts. g == parts.group) others → find (λ parts. g == parts.group) (cond own (with_property (property_of m) parts ∷ others) (parts ∷ with_member n m others)) ≡ cond (g == parts.group) (Some parts) (find (λ parts. g == parts.group) others)
    go true e rest =
        let apart : (g == parts.group) ≡ false = subst (λ k. (g == k) ≡ false) (eqb-true m.group parts.group e) other in
        rw apart refl
    go false e rest = ap (λ found. cond (g == parts.group) (Some parts) found) rest

joins_before : (p : Property) (parts : GroupParts) (b : Birth) → Joins (with_property p parts) b → Joins parts b
joins_before p parts b h = record {
  before = h.before;
  element = h.element;
  timeline = h.timeline;
  start = h.start;
  property = (or_parts (list_any (is_property (property_of b.model)) parts.properties) _ (sym (list_any-append (is_property (property_of b.model)) parts.properties (p ∷ [])) ∙ h.property)).0;
}

-- ---- back over one step

later-model : (book : Book) (m : Spec) (b : Birth) → IsLater (book_after book (OnModels (AddModel m))) b → IsLater book b
unfolding book_after grown
later-model book m b h = record {
  fresh = (or_parts (is_in b.model.id book.models) _ (sym (list_any-append (λ other. b.model.id == other) book.models (m.id ∷ [])) ∙ h.fresh)).0;
  since = h.since;
  joins = λ parts e. go parts e (b.model.group == m.group) refl;
}
  where
    go : (parts : GroupParts) → parts_of book b.model.group ≡ Some parts → (own : Bool) → (b.model.group == m.group) ≡ own → Joins parts b
    go parts e true same =
        let equal : b.model.group ≡ m.group = eqb-true b.model.group m.group same in
        let here : find (λ parts. m.group == parts.group) book.groups ≡ Some parts = subst (λ g. find (λ parts. g == parts.group) book.groups ≡ Some parts) equal e in
        let there = member-own book.commits m book.groups ∙ ap (λ found. Some (grown book.commits m found)) here in
        joins_before (property_of m) parts b (h.joins (with_property (property_of m) parts) (subst (λ g. find (λ parts. g == parts.group) (with_member book.commits m book.groups) ≡ Some (with_property (property_of m) parts)) (sym equal) there))
    go parts e false other = h.joins parts (member-other b.model.group book.commits m other book.groups ∙ e)

-- a change of the elements leaves all else of a book
pub keeps-elements : (P : Book → Type 0) (book : Book) (change : ElementChange) → ((ids : List ℕ) (added : ℕ) → P (record book { elements = ids; elements_added = added })) → P (book_after_elements book change)
keeps-elements P book (AddElement id look) all = all _ _
keeps-elements P book (RemoveElement id) all = all _ book.elements_added
keeps-elements P book (SetOwn id value) all = all book.elements book.elements_added

later-edit : (book : Book) (change : Change) (b : Birth) → IsLater (book_after book change) b → IsLater book b
unfolding book_after
later-edit book (OnElements elements) b h =
    keeps-elements (λ after. IsLater after b → IsLater book b) book elements (λ ids added later. record { fresh = later.fresh; since = later.since; joins = later.joins }) h
later-edit book (OnTimelines (AddTimeline id origin)) b h = record { fresh = h.fresh; since = h.since; joins = h.joins }
later-edit book (OnModels (AddModel model)) b h = later-model book model b h
later-edit book (OnModels (RemoveModel id)) b h = h

later-commit : (book : Book) (b : Birth) → IsLater (book_after_commit book) b → IsLater book b
later-commit book b h = record { fresh = h.fresh; since = omega (arith, h.since); joins = h.joins }

pub commits-edit : (book : Book) (change : Change) → (book_after book change).commits ≡ book.commits
unfolding book_after
commits-edit book (OnElements elements) = keeps-elements (λ after. after.commits ≡ book.commits) book elements (λ ids added. refl)
commits-edit book (OnTimelines (AddTimeline id origin)) = refl
commits-edit book (OnModels (AddModel model)) = refl
commits-edit book (OnModels (RemoveModel id)) = refl

-- a birth of an edit is its model's, or one of the steps behind it
pub births_of-cases : (n : ℕ) (change : Change) (behind : List Birth) (b : Birth) → IsAmong b (births_of n change behind) → ((model : Spec) × (change ≡ OnModels (AddModel model)) × (b ≡ birth model n)) ⊎ IsAmong b behind
births_of-cases n (OnElements elements) behind b h = inr h
births_of-cases n (OnTimelines timelines) behind b h = inr h
births_of-cases n (OnModels (AddModel model)) behind b (inl e) = inl (model, refl, e)
births_of-cases n (OnModels (AddModel model)) behind b (inr h) = inr h
births_of-cases n (OnModels (RemoveModel id)) behind b h = inr h

-- each birth of steps that are allowed is later than what was before them
pub all_later : (book : Book) (steps : List StepOfMain) → are_allowed book steps ≡ true → (b : Birth) → IsAmong b (births book.commits steps) → IsLater book b
unfolding are_allowed
all_later book [] allowed b h = absurd h
all_later book (EditStep change ∷ steps) allowed b h =
    go (births_of-cases book.commits change (births book.commits steps) b h)
    (λ behind. all_later (book_after book change) steps parts.1 b (subst (λ n. IsAmong b (births n steps)) (sym (commits-edit book change)) behind))
  where
    parts : (is_none (edit_refusal book change) ≡ true) × (are_allowed (book_after book change) steps ≡ true)
    parts = and_parts _ _ allowed

    go : ((model : Spec) × (change ≡ OnModels (AddModel model)) × (b ≡ birth model book.commits)) ⊎ IsAmong b (births book.commits steps) → (IsAmong b (births book.commits steps) → IsLater (book_after book change) b) → IsLater book b
    go (inl (model, same, e)) rest =
        let ok : is_none (edit_refusal book (OnModels (AddModel model))) ≡ true = subst (λ change. is_none (edit_refusal book change) ≡ true) same parts.0 in
        subst (λ b. IsLater book b) (sym e) (head_is_later book model (accepted book model ok))
    go (inr behind) rest = later-edit book change b (rest behind)
all_later book (CommitStep ∷ steps) allowed b h = later-commit book b (all_later (book_after_commit book) steps (and_parts (is_allowed book CommitStep) _ allowed).1 b h)
all_later book (DrainStep ∷ steps) allowed b h = all_later book steps (and_parts true _ allowed).1 b h

-- ---- the births of a script

-- the groups of the book are none of commits still to come
OldGroups : Book → Type 0
OldGroups book = (group : ℕ) (parts : GroupParts) → parts_of book group ≡ Some parts → parts.commits_before ≤ book.commits

old-model : (book : Book) (m : Spec) → OldGroups book → OldGroups (book_after book (OnModels (AddModel m)))
unfolding OldGroups book_after grown
old-model book m old group parts e = go (group == m.group) refl
  where
    grown_old : (found : Option GroupParts) → find (λ parts. m.group == parts.group) book.groups ≡ found → (parts : GroupParts) → Some (grown book.commits m found) ≡ Some parts → parts.commits_before ≤ book.commits
    grown_old None here parts same = subst (λ p. p.commits_before ≤ book.commits) (some_same _ _ same) (omega arith)
    grown_old (Some before) here parts same = subst (λ p. p.commits_before ≤ book.commits) (some_same _ _ same) (old m.group before here)

    go : (own : Bool) → (group == m.group) ≡ own → parts.commits_before ≤ book.commits
    go true same =
        let equal : group ≡ m.group = eqb-true group m.group same in
        let here : find (λ parts. m.group == parts.group) (with_member book.commits m book.groups) ≡ Some parts = subst (λ g. find (λ parts. g == parts.group) (with_member book.commits m book.groups) ≡ Some parts) equal e in
        grown_old (find (λ parts. m.group == parts.group) book.groups) refl parts (sym (member-own book.commits m book.groups) ∙ here)
    go false other = old group parts (sym (member-other group book.commits m other book.groups) ∙ e)

old-edit : (book : Book) (change : Change) → OldGroups book → OldGroups (book_after book change)
unfolding OldGroups book_after
old-edit book (OnElements elements) h = keeps-elements (λ after. (group : ℕ) (parts : GroupParts) → parts_of after group ≡ Some parts → parts.commits_before ≤ after.commits) book elements (λ ids added. h)
old-edit book (OnTimelines (AddTimeline id origin)) h = h
old-edit book (OnModels (AddModel model)) h = old-model book model h
old-edit book (OnModels (RemoveModel id)) h = h

old-commit : (book : Book) → OldGroups book → OldGroups (book_after_commit book)
unfolding OldGroups
old-commit book h group parts e = omega (arith, h group parts e)

head_apart : (book : Book) (m : Spec) (c : Birth) → IsLater (book_after book (OnModels (AddModel m))) c → m.id ≡ c.model.id → ⊥
unfolding book_after
head_apart book m c h same =
    let last = (or_parts (is_in c.model.id book.models) (c.model.id == m.id || false) (sym (list_any-append (λ other. c.model.id == other) book.models (m.id ∷ [])) ∙ h.fresh)).1 in
    eqb-false c.model.id m.id (or_parts (c.model.id == m.id) false last).0 (sym same)

head_mates : (book : Book) (m : Spec) (c : Birth) → IsAccepted book m → OldGroups book → IsLater (book_after book (OnModels (AddModel m))) c → m.group ≡ c.model.group → AreMates (birth m book.commits) c
unfolding book_after OldGroups grown
head_mates book m c ok old h same = go (find (λ parts. m.group == parts.group) book.groups) refl
  where
    joined : (parts : GroupParts) → find (λ parts. m.group == parts.group) (with_member book.commits m book.groups) ≡ Some parts → Joins parts c
    joined parts e = h.joins parts (subst (λ g. find (λ parts. g == parts.group) (with_member book.commits m book.groups) ≡ Some parts) same e)

    go : (found : Option GroupParts) → find (λ parts. m.group == parts.group) book.groups ≡ found → AreMates (birth m book.commits) c
    go None e =
        let j = joined (new_parts book.commits m) (member-own book.commits m book.groups ∙ ap (λ found. Some (grown book.commits m found)) e) in
        record {
          before = omega (arith, j.before, h.since);
          element = j.element;
          timeline = j.timeline;
          start = j.start;
          property = λ alike. absurd (false≢true (sym (or_parts (is_property (property_of c.model) (property_of m)) false j.property).0 ∙ alike));
        }
    go (Some parts) e =
        let j = joined (with_property (property_of m) parts) (member-own book.commits m book.groups ∙ ap (λ found. Some (grown book.commits m found)) e) in
        let i = (head_is_later book m ok).joins parts e in
        let last = (or_parts (list_any (is_property (property_of c.model)) parts.properties) (is_property (property_of c.model) (property_of m) || false) (sym (list_any-append (is_property (property_of c.model)) parts.properties (property_of m ∷ [])) ∙ j.property)).1 in
        record {
          before = omega (arith, j.before, h.since, old m.group parts e);
          element = j.element ∙ sym i.element;
          timeline = j.timeline ∙ sym i.timeline;
          start = j.start ∙ sym i.start;
          property = λ alike. absurd (false≢true (sym (or_parts (is_property (property_of c.model) (property_of m)) false last).0 ∙ alike));
        }

one_more : (b : Birth) (born : List Birth) → ((c : Birth) → IsAmong c born → b.model.id ≡ c.model.id → ⊥) → ((c : Birth) → IsAmong c born → b.model.group ≡ c.model.group → AreMates b c) → AreOfOneScript born → AreOfOneScript (b ∷ born)
one_more b born apart mates h = record { one = one; mates = all }
  where
    one : (x y : Birth) → IsAmong x (b ∷ born) → IsAmong y (b ∷ born) → x.model.id ≡ y.model.id → x ≡ y
    one x y (inl e) (inl f) same = e ∙ sym f
    one x y (inl e) (inr f) same = absurd (apart y f (ap (λ z. z.model.id) (sym e) ∙ same))
    one x y (inr e) (inl f) same = absurd (apart x e (ap (λ z. z.model.id) (sym f) ∙ sym same))
    one x y (inr e) (inr f) same = h.one x y e f same

    all : (x y : Birth) → IsAmong x (b ∷ born) → IsAmong y (b ∷ born) → x.model.group ≡ y.model.group → AreMates x y
    all x y (inl e) (inl f) same = subst (λ z. AreMates z y) (sym e) (subst (λ z. AreMates b z) (sym f) (mates_with_itself b))
    all x y (inl e) (inr f) same = subst (λ z. AreMates z y) (sym e) (mates y f (ap (λ z. z.model.group) (sym e) ∙ same))
    all x y (inr e) (inl f) same = subst (λ z. AreMates x z) (sym f) (mates_both_ways b x (mates x e (ap (λ z. z.model.group) (sym f) ∙ sym same)))
    all x y (inr e) (inr f) same = h.mates x y e f same

of_one-edit : (book : Book) (change : Change) (behind : List Birth) → is_none (edit_refusal book change) ≡ true → OldGroups book → ((c : Birth) → IsAmong c behind → IsLater (book_after book change) c) → AreOfOneScript behind → AreOfOneScript (births_of book.commits change behind)
of_one-edit book (OnElements elements) behind allowed old later h = h
of_one-edit book (OnTimelines timelines) behind allowed old later h = h
of_one-edit book (OnModels (AddModel model)) behind allowed old later h =
    one_more (birth model book.commits) behind (λ c r same. head_apart book model c (later c r) same)
    (λ c r same. head_mates book model c (accepted book model allowed) old (later c r) same) h
of_one-edit book (OnModels (RemoveModel id)) behind allowed old later h = h

of_one : (book : Book) (steps : List StepOfMain) → are_allowed book steps ≡ true → OldGroups book → AreOfOneScript (births book.commits steps)
unfolding are_allowed
of_one book [] allowed old = record { one = λ b c h. absurd h; mates = λ b c h. absurd h }
of_one book (EditStep change ∷ steps) allowed old =
    let parts : (is_none (edit_refusal book change) ≡ true) × (are_allowed (book_after book change) steps ≡ true) = and_parts _ _ allowed in
    let same : (book_after book change).commits ≡ book.commits = commits-edit book change in
    of_one-edit book change (births book.commits steps) parts.0 old
    (λ c h. all_later (book_after book change) steps parts.1 c (subst (λ n. IsAmong c (births n steps)) (sym same) h))
    (subst (λ n. AreOfOneScript (births n steps)) same (of_one (book_after book change) steps parts.1 (old-edit book change old)))
of_one book (CommitStep ∷ steps) allowed old = of_one (book_after_commit book) steps (and_parts (is_allowed book CommitStep) _ allowed).1 (old-commit book old)
of_one book (DrainStep ∷ steps) allowed old = of_one book steps (and_parts true _ allowed).1 old

-- the births of steps that are allowed from the beginning on
pub births_of_script : (steps : List StepOfMain) → are_allowed new_book steps ≡ true → AreOfOneScript (births 0 steps)
unfolding OldGroups
births_of_script steps allowed = of_one new_book steps allowed (λ group parts e. absurd (none-some parts e))
