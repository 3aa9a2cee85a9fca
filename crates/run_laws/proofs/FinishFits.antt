-- Marks that end models, and what a tick finishes.
use Rattle.std.proofs.Common.{◌≡◌, ℕ, true, false, not, ◌&&◌, List, [], ◌++◌, map, refl, sym, ap, ◌∙◌, subst, ◌⊎◌, inl, inr}
use Rattle.std.specs.List.{list_any}
use Rattle.std.proofs.lemmas.Bool.{false≢true, and_parts, and_from, or_cases, or_right, eqb-true, eq-eqb, not-true, not_from_false, false_from_ne_true}
use Rattle.std.proofs.lemmas.List.Folds.{list_any-append}
use Rattle.std.specs.Prelude.{◌==◌, IsTrue}
use Rattle.keyframe_model.specs.Models.{Spec}
use Rattle.run_rules.specs.declared.mark.Mark.{Mark}
use Rattle.run_rules.specs.declared.mark.Mark.TheVariants.{OfModel}
use Rattle.run_rules.specs.declared.mark.ModelMark.TheVariants.{Finished}
use Rattle.tree_commit.specs.Trees.{TreeLists, Committed}
use Rattle.run_rules.specs.Marks.{model_of, starts, ends, starts_in, is_started, is_ended, is_unfinished, is_group_unfinished, are_over, finishing_models, finish_marks, of_model, is_start, is_end}
use Rattle.run_rules.proofs.MarkLemmas.{says-what, starts_so-starts, end-began, unfinished-mark}
use Rattle.anim_names.specs.Lists.{IsAmong}
use Rattle.run_laws.specs.Ends.{finishes, is_finished}
use Rattle.run_laws.specs.Groups.{AreAlike, StartsAgree}
use Rattle.tree_commit.proofs.Among.{among-append_cases, among-map, among-map_cases, among-filter, among-filter_from, any-among, any-cases, any-none}
use Rattle.run_laws.proofs.Births.{Birth, AreOfOneScript}
use Rattle.run_laws.proofs.Lines.{FitsBirths}
use Rattle.run_laws.proofs.MarkFacts.{any-more, any-fewer, any-same, apart-filter, AreInOrder, order-append, order-apart, blocks-before, finished-mark, finished-from, NoStartIn, start-before, still-idle}
use Rattle.run_laws.proofs.MarksFit.{IsAbout, IsOfBirth, MarksFitBirths, about-group, model_there, of_active}
use Rattle.run_laws.proofs.StartLemmas.{end-if_began, if_began-all}

-- ---- marks that end models

abbrev pub IsEnd : Mark → Type 0
IsEnd mark = IsTrue (of_model (λ model what. is_end what) mark)

abbrev pub AreEnds : List Mark → Type 0
AreEnds new = (mark : Mark) → IsAmong mark new → IsEnd mark

end-starts : (id : ℕ) (mark : Mark) → IsEnd mark → starts id mark ≡ true → ⊥
end-starts id (OfModel model what) e h = false≢true (sym (end-began (λ begun. true) what e) ∙ says-what is_start id model what h)

end-starts_in : (group : ℕ) (mark : Mark) → IsEnd mark → starts_in group mark ≡ true → ⊥
end-starts_in group (OfModel model what) e h = false≢true (sym (end-began (λ begun. group == begun.group) what e) ∙ h)

alike-left : (one other : Mark) → IsEnd one → AreAlike one other
alike-left (OfModel model what) other e = end-if_began _ what e

alike-right : (one other : Mark) → IsEnd other → AreAlike one other
alike-right (OfModel model what) (OfModel id became) e = if_began-all _ (λ begun. end-if_began _ became e) what

pub none_start : (new : List Mark) (id : ℕ) → AreEnds new → list_any (starts id) new ≡ false
none_start new id ends = any-none (starts id) new (λ mark a h. end-starts id mark (ends mark a) h)

pub none_start_in : (new : List Mark) (group : ℕ) → AreEnds new → NoStartIn group new
none_start_in new group ends mark a h = end-starts_in group mark (ends mark a) h

pub ends_alike : (marks new : List Mark) → AreEnds new → StartsAgree marks → StartsAgree (marks ++ new)
ends_alike marks new ends h one other a b = go (among-append_cases one marks new a) (among-append_cases other marks new b)
  where
    go : IsAmong one marks ⊎ IsAmong one new → IsAmong other marks ⊎ IsAmong other new → AreAlike one other
    go (inl x) (inl y) = h one other x y
    go (inl x) (inr y) = alike-right one other (ends other y)
    go (inr x) y = alike-left one other (ends one x)

-- ---- what a tick finishes

finishing-parts : (active : TreeLists) (marks : List Mark) (tick : ℕ) (model : Spec) → IsAmong model (finishing_models active marks tick) → IsAmong model active.models × (is_unfinished marks model.id ≡ true) × (are_over active marks tick model.group ≡ true)
finishing-parts active marks tick model h =
    let found = among-filter (λ model. is_unfinished marks model.id && are_over active marks tick model.group) model active.models h in
    let both = and_parts (is_unfinished marks model.id) _ found.1 in
    (found.0, both.0, both.1)

-- a finish mark is that of a finishing model
pub finish-mark : (active : TreeLists) (marks : List Mark) (tick : ℕ) (mark : Mark) → IsAmong mark (finish_marks active marks tick) → (model : Spec) × IsAmong model active.models × (is_unfinished marks model.id ≡ true) × (are_over active marks tick model.group ≡ true) × (mark ≡ OfModel model.id (Finished tick))
unfolding finish_marks
finish-mark active marks tick mark h =
    let found = among-map_cases (λ model. OfModel model.id (Finished tick)) mark (finishing_models active marks tick) h in
    let parts = finishing-parts active marks tick found.0 found.1 in
    (found.0, parts.0, parts.1, parts.2, found.2)

finish-ends : (active : TreeLists) (marks : List Mark) (tick : ℕ) → AreEnds (finish_marks active marks tick)
finish-ends active marks tick mark a =
    let found = finish-mark active marks tick mark a in
    subst (λ m. IsEnd m) (sym found.4) refl

finish-order : (active : Committed) (marks : List Mark) (tick : ℕ) → (born : List Birth) → FitsBirths born active → AreInOrder marks (finish_marks active.tree marks tick)
unfolding finish_marks
finish-order active marks tick born fits =
    order-apart marks (λ model. OfModel model.id (Finished tick)) (λ model. refl) (finishing_models active.tree marks tick) (apart-filter _ active.tree.models fits.apart)
    (λ model a. (finishing-parts active.tree marks tick model a).1)

-- a running model of a group that is over is marked as finished
finish-from : (active : TreeLists) (marks : List Mark) (tick : ℕ) (model : Spec) → IsAmong model active.models → is_unfinished marks model.id ≡ true → are_over active marks tick model.group ≡ true → list_any (ends model.id) (finish_marks active marks tick) ≡ true
unfolding finish_marks
finish-from active marks tick model there running over =
    any-among (ends model.id) (OfModel model.id (Finished tick)) (map (λ model. OfModel model.id (Finished tick)) (finishing_models active marks tick))
    (among-map (λ model. OfModel model.id (Finished tick)) model (finishing_models active marks tick)
    (among-filter_from (λ model. is_unfinished marks model.id && are_over active marks tick model.group) model active.models there (and_from _ _ running over)))
    (eq-eqb model.id model.id refl)

pub running-parts : (marks : List Mark) (id : ℕ) → is_unfinished marks id ≡ true → (is_started marks id ≡ true) × (is_ended marks id ≡ false)
running-parts marks id h = let both = and_parts (is_started marks id) (not (is_ended marks id)) h in (both.0, not-true _ both.1)

pub running-whole : (marks : List Mark) (id : ℕ) → is_started marks id ≡ true → is_ended marks id ≡ false → is_unfinished marks id ≡ true
running-whole marks id started unended = and_from _ _ started (not_from_false _ unended)

-- a model that runs after more ends ran before them
pub ran_before : (marks new : List Mark) (id : ℕ) → AreEnds new → is_unfinished (marks ++ new) id ≡ true → is_unfinished marks id ≡ true
ran_before marks new id ending h =
    let parts = running-parts (marks ++ new) id h in
    running-whole marks id (sym (any-same (starts id) marks new (none_start new id ending)) ∙ parts.0) (any-fewer (ends id) marks new parts.1)

-- a start in a group is that of a model of the active tree where it still runs
running-model : (born : List Birth) (active : Committed) (marks : List Mark) (mark : Mark) (group : ℕ) → AreOfOneScript born → FitsBirths born active → MarksFitBirths born active marks → IsAmong mark marks → starts_in group mark ≡ true → is_ended marks (model_of mark) ≡ false → (model : Spec) × IsAmong model active.tree.models × (model_of mark ≡ model.id) × (group ≡ model.group)
running-model born active marks mark group script fits h a in_group unended =
    let running = running-whole marks (model_of mark) (any-among (starts (model_of mark)) mark marks a (starts_so-starts (λ begun. group == begun.group) mark in_group)) unended in
    let there = model_there active.tree (model_of mark) (h.running (model_of mark) running) in
    let whose = h.of_births mark a in
    let same = of_active born active there.0 mark script fits there.1 whose there.2 in
    (there.0, there.1, there.2, about-group whose.model mark group whose.about in_group ∙ ap (λ m. m.group) same)

-- a group of which a model finishes runs no more
idle-after_finish : (born : List Birth) (active : Committed) (marks : List Mark) (tick group : ℕ) → AreOfOneScript born → FitsBirths born active → MarksFitBirths born active marks → (mark : Mark) → IsAmong mark marks → starts_in group mark ≡ true → list_any (finishes (model_of mark)) (finish_marks active.tree marks tick) ≡ true → is_group_unfinished (marks ++ finish_marks active.tree marks tick) group ≡ true → ⊥
idle-after_finish born active marks tick group script fits h mark a in_group finished runs =
    let new = finish_marks active.tree marks tick in
    let found = any-cases (finishes (model_of mark)) new finished in
    let done = finish-mark active.tree marks tick found.0 found.1 in
    let same_id : model_of mark ≡ done.0.id = eqb-true (model_of mark) done.0.id (subst (λ m. finishes (model_of mark) m ≡ true) done.4 found.2) in
    let whose = h.of_births mark a in
    let same = of_active born active done.0 mark script fits done.1 whose same_id in
    let its_group : group ≡ done.0.group = about-group whose.model mark group whose.about in_group ∙ ap (λ m. m.group) same in
    let still = unfinished-mark (marks ++ new) group runs in
    let still_there : IsAmong still.0 marks = start-before group marks new still.0 (none_start_in new group (finish-ends active.tree marks tick)) still.1 still.2 in
    let unended : is_ended marks (model_of still.0) ≡ false = any-fewer (ends (model_of still.0)) marks new still.3 in
    let its = running-model born active marks still.0 group script fits h still_there still.2 unended in
    let running : is_unfinished marks its.0.id ≡ true = subst (λ id. is_unfinished marks id ≡ true) its.2 (running-whole marks (model_of still.0) (any-among (starts (model_of still.0)) still.0 marks still_there (starts_so-starts (λ begun. group == begun.group) still.0 still.2)) unended) in
    let over : are_over active.tree marks tick its.0.group ≡ true = subst (λ g. are_over active.tree marks tick g ≡ true) (sym its_group ∙ its.3) done.3 in
    let ended : list_any (ends its.0.id) new ≡ true = finish-from active.tree marks tick its.0 its.1 running over in
    let told : list_any (ends (model_of still.0)) new ≡ true = subst (λ id. list_any (ends id) new ≡ true) (sym its.2) ended in
    false≢true (sym still.3 ∙ (list_any-append (ends (model_of still.0)) marks new ∙ or_right (list_any (ends (model_of still.0)) marks) _ told))

pub finish_fits : (born : List Birth) (active : Committed) (marks : List Mark) (tick : ℕ) → AreOfOneScript born → FitsBirths born active → MarksFitBirths born active marks → MarksFitBirths born active (marks ++ finish_marks active.tree marks tick)
finish_fits born active marks tick script fits h = record {
  of_births = λ mark a. of_births mark (among-append_cases mark marks new a);
  order = order-append [] marks new h.order (finish-order active marks tick born fits);
  running = λ id runs. h.running id (ran_before marks new id ending runs);
  ended = λ model a over. ended model a (or_cases _ _ (sym (list_any-append (ends model.id) marks new) ∙ over));
  grouped = λ model a starts_there. any-more (starts model.id) marks new (h.grouped model a (sym (any-same (starts_in model.group) marks new (any-none (starts_in model.group) new (none_start_in new model.group ending))) ∙ starts_there));
  alike = ends_alike marks new ending h.alike;
  blocker = λ one other element property first second. h.blocker one other element property (blocks-before marks new one element property (none_start_in new one ending) first) (blocks-before marks new other element property (none_start_in new other ending) second);
  finished = λ group done. idle group (finished-mark (marks ++ new) group done);
}
  where
    new : List Mark
    new = finish_marks active.tree marks tick

    ending : AreEnds new
    ending = finish-ends active.tree marks tick

    of_births : (mark : Mark) → IsAmong mark marks ⊎ IsAmong mark new → IsOfBirth born active.number mark
    of_births mark (inl a) = h.of_births mark a
    of_births mark (inr a) =
        let found = finish-mark active.tree marks tick mark a in
        let when = fits.born_before found.0 found.1 in
        record { model = found.0; before = when.0; among = when.1; under = when.2; about = subst (λ m. IsAbout found.0 m) (sym found.4) (refl, tt) }

    ended : (model : Spec) → IsAmong model active.tree.models → (is_ended marks model.id ≡ true) ⊎ (list_any (ends model.id) new ≡ true) → is_started (marks ++ new) model.id ≡ true
    ended model a (inl over) = any-more (starts model.id) marks new (h.ended model a over)
    ended model a (inr over) =
        let found = any-cases (ends model.id) new over in
        let done = finish-mark active.tree marks tick found.0 found.1 in
        let same : model.id ≡ done.0.id = eqb-true model.id done.0.id (subst (λ m. ends model.id m ≡ true) done.4 found.2) in
        any-more (starts model.id) marks new (subst (λ id. is_started marks id ≡ true) (sym same) (running-parts marks done.0.id done.2).0)

    idle : (group : ℕ) → (mark : Mark) × IsAmong mark (marks ++ new) × (starts_in group mark ≡ true) × (is_finished (marks ++ new) (model_of mark) ≡ true) → is_group_unfinished (marks ++ new) group ≡ false
    idle group (mark, a, in_group, done) = go (or_cases _ _ (sym (list_any-append (finishes (model_of mark)) marks new) ∙ done))
      where
        here : IsAmong mark marks
        here = start-before group marks new mark (none_start_in new group ending) a in_group

        go : (is_finished marks (model_of mark) ≡ true) ⊎ (list_any (finishes (model_of mark)) new ≡ true) → is_group_unfinished (marks ++ new) group ≡ false
        go (inl old) = still-idle marks new group (none_start_in new group ending) (h.finished group (finished-from marks group mark here in_group old))
        go (inr fresh) = false_from_ne_true _ (idle-after_finish born active marks tick group script fits h mark here in_group fresh)
