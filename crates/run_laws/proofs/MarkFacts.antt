-- What more marks change of what is read off them.
use Rattle.std.proofs.Common.{◌≡◌, ℕ, Bool, true, false, ◌&&◌, ◌||◌, cond, List, [], ◌∷◌, ◌++◌, map, filter, refl, sym, ap, ◌∙◌, subst, ◌⊎◌, inl, inr, append_assoc}
use Rattle.std.specs.List.{list_any}
use Rattle.std.proofs.lemmas.Bool.{false≢true, and_parts, and_from, or_parts, or_left}
use Rattle.std.proofs.lemmas.List.{append-nil}
use Rattle.std.proofs.lemmas.List.Folds.{list_any-append}
use Rattle.anim_names.specs.declared.property.Property.{Property}
use Rattle.keyframe_model.specs.Models.{Spec}
use Rattle.run_rules.specs.declared.mark.Mark.{Mark}
use Rattle.run_rules.specs.declared.mark.Mark.TheVariants.{OfModel}
use Rattle.run_rules.specs.Marks.{model_of, starts, ends, starts_in, starts_on, is_group_unfinished, blocks, says, is_start, is_end}
use Rattle.run_rules.specs.declared.mark.ModelMark.{ModelMark}
use Rattle.run_rules.proofs.MarkLemmas.{says-model, unfinished-from, unfinished-mark}
use Rattle.anim_names.specs.Lists.{IsAmong}
use Rattle.run_laws.specs.Ends.{may_follow, is_finished, is_group_finished, starts_finished}
use Rattle.tree_commit.proofs.Among.{among-append_cases, among-filter, any-among, any-cases, any-none}
use Rattle.run_laws.proofs.Lines.{AreApart}

-- ---- tests over more marks

pub any-more : {A : Type 0} (p : A → Bool) (xs ys : List A) → list_any p xs ≡ true → list_any p (xs ++ ys) ≡ true
any-more p xs ys h = list_any-append p xs ys ∙ or_left _ _ h

pub any-fewer : {A : Type 0} (p : A → Bool) (xs ys : List A) → list_any p (xs ++ ys) ≡ false → list_any p xs ≡ false
any-fewer p xs ys h = (or_parts (list_any p xs) (list_any p ys) (sym (list_any-append p xs ys) ∙ h)).0

or-nothing : (a b : Bool) → b ≡ false → (a || b) ≡ a
or-nothing true b h = refl
or-nothing false b h = h

-- where none of the new ones passes, what was found before is all
pub any-same : {A : Type 0} (p : A → Bool) (xs ys : List A) → list_any p ys ≡ false → list_any p (xs ++ ys) ≡ list_any p xs
any-same p xs ys h = list_any-append p xs ys ∙ or-nothing (list_any p xs) (list_any p ys) h

pub apart-filter : (p : Spec → Bool) (models : List Spec) → AreApart models → AreApart (filter p models)
apart-filter p [] h = tt
apart-filter p (model ∷ models) h = go (p model) (apart-filter p models h.1)
  where
    go : (kept : Bool) → AreApart (filter p models) → AreApart (cond kept (model ∷ filter p models) (filter p models))
    go true rest = (λ other a. h.0 other (among-filter p other models a).0, rest)
    go false rest = rest

-- ---- a mark of another model

no-mark : (test : ModelMark → Bool) (id : ℕ) (mark : Mark) → (id ≡ model_of mark → ⊥) → list_any (says test id) (mark ∷ []) ≡ false
no-mark test id mark other = any-none (says test id) (mark ∷ []) go
  where
    go : (x : Mark) → IsAmong x (mark ∷ []) → says test id x ≡ true → ⊥
    go x (inl e) h = other (says-model test id mark (ap (says test id) (sym e) ∙ h))
    go x (inr a) h = absurd a

follow-other : (before : List Mark) (new mark : Mark) → (model_of mark ≡ model_of new → ⊥) → may_follow before mark ≡ true → may_follow (before ++ new ∷ []) mark ≡ true
follow-other before new (OfModel model what) other h =
    rw (any-same (starts model) before (new ∷ []) (no-mark is_start model new other), any-same (ends model) before (new ∷ []) (no-mark is_end model new other)) h

-- ---- marks in order

-- each mark may follow those before it
abbrev pub AreInOrder : List Mark → List Mark → Type 0
AreInOrder before [] = Unit {0}
AreInOrder before (mark ∷ marks) = (may_follow before mark ≡ true) × AreInOrder (before ++ mark ∷ []) marks

pub order-append : (before xs ys : List Mark) → AreInOrder before xs → AreInOrder (before ++ xs) ys → AreInOrder before (xs ++ ys)
order-append before [] ys h i = subst (λ l. AreInOrder l ys) (append-nil before) i
order-append before (x ∷ xs) ys h i = (h.0, order-append (before ++ x ∷ []) xs ys h.1 (subst (λ l. AreInOrder l ys) (sym (append_assoc before (x ∷ []) xs)) i))

-- marks of different models, each of which may follow what was before, are in order
pub order-apart : (before : List Mark) (f : Spec → Mark) → ((model : Spec) → model_of (f model) ≡ model.id) → (models : List Spec) → AreApart models → ((model : Spec) → IsAmong model models → may_follow before (f model) ≡ true) → AreInOrder before (map f models)
order-apart before f about [] apart allowed = tt
order-apart before f about (model ∷ models) apart allowed = (
  allowed model (inl refl),
  order-apart (before ++ f model ∷ []) f about models apart.1
      (λ other a. follow-other before (f model) (f other) (λ same. apart.0 other a (sym (about model) ∙ sym same ∙ about other)) (allowed other (inr a))),
)

-- ---- what a group does

pub blocks-mark : (marks : List Mark) (group element : ℕ) (property : Property) → blocks marks group element property ≡ true → (is_group_unfinished marks group ≡ true) × ((mark : Mark) × IsAmong mark marks × (starts_in group mark ≡ true) × (starts_on element property mark ≡ true))
blocks-mark marks group element property h =
    let both = and_parts (is_group_unfinished marks group) _ h in
    let found = any-cases (λ mark. starts_in group mark && starts_on element property mark) marks both.1 in
    let parts = and_parts (starts_in group found.0) _ found.2 in
    (both.0, (found.0, found.1, parts.0, parts.1))

pub blocks-from : (marks : List Mark) (group element : ℕ) (property : Property) (mark : Mark) → is_group_unfinished marks group ≡ true → IsAmong mark marks → starts_in group mark ≡ true → starts_on element property mark ≡ true → blocks marks group element property ≡ true
blocks-from marks group element property mark running a starts on =
    and_from _ _ running (any-among (λ mark. starts_in group mark && starts_on element property mark) mark marks a (and_from _ _ starts on))

-- the start of a finished model in a group, by its two parts
starts_finished-parts : (marks : List Mark) (group : ℕ) (mark : Mark) → starts_finished marks group mark ≡ (starts_in group mark && is_finished marks (model_of mark))
starts_finished-parts marks group (OfModel model what) = refl

pub finished-mark : (marks : List Mark) (group : ℕ) → is_group_finished marks group ≡ true → (mark : Mark) × IsAmong mark marks × (starts_in group mark ≡ true) × (is_finished marks (model_of mark) ≡ true)
finished-mark marks group h =
    let found = any-cases (starts_finished marks group) marks h in
    let both = and_parts (starts_in group found.0) _ (sym (starts_finished-parts marks group found.0) ∙ found.2) in
    (found.0, found.1, both.0, both.1)

pub finished-from : (marks : List Mark) (group : ℕ) (mark : Mark) → IsAmong mark marks → starts_in group mark ≡ true → is_finished marks (model_of mark) ≡ true → is_group_finished marks group ≡ true
finished-from marks group mark a starts finished =
    any-among (starts_finished marks group) mark marks a (starts_finished-parts marks group mark ∙ and_from _ _ starts finished)

-- the new marks start nothing in the group
abbrev pub NoStartIn : ℕ → List Mark → Type 0
NoStartIn group new = (mark : Mark) → IsAmong mark new → starts_in group mark ≡ true → ⊥

-- a mark that starts in the group is then one of those before
pub start-before : (group : ℕ) (marks new : List Mark) (mark : Mark) → NoStartIn group new → IsAmong mark (marks ++ new) → starts_in group mark ≡ true → IsAmong mark marks
start-before group marks new mark none a starts = go (among-append_cases mark marks new a)
  where
    go : IsAmong mark marks ⊎ IsAmong mark new → IsAmong mark marks
    go (inl h) = h
    go (inr h) = absurd (none mark h starts)

pub running-before : (marks new : List Mark) (group : ℕ) → NoStartIn group new → is_group_unfinished (marks ++ new) group ≡ true → is_group_unfinished marks group ≡ true
running-before marks new group none h =
    let found = unfinished-mark (marks ++ new) group h in
    unfinished-from marks group found.0 (start-before group marks new found.0 none found.1 found.2) found.2 (any-fewer (ends (model_of found.0)) marks new found.3)

pub blocks-before : (marks new : List Mark) (group element : ℕ) (property : Property) → NoStartIn group new → blocks (marks ++ new) group element property ≡ true → blocks marks group element property ≡ true
blocks-before marks new group element property none h =
    let found = blocks-mark (marks ++ new) group element property h in
    blocks-from marks group element property found.1.0 (running-before marks new group none found.0) (start-before group marks new found.1.0 none found.1.1 found.1.2) found.1.2 found.1.3

-- a group that does not run does not run later, where nothing of it starts
pub still-idle : (marks new : List Mark) (group : ℕ) → NoStartIn group new → is_group_unfinished marks group ≡ false → is_group_unfinished (marks ++ new) group ≡ false
still-idle marks new group none h = go (is_group_unfinished (marks ++ new) group) refl
  where
    go : (runs : Bool) → is_group_unfinished (marks ++ new) group ≡ runs → runs ≡ false
    go true e = absurd (false≢true (sym h ∙ running-before marks new group none e))
    go false e = refl
