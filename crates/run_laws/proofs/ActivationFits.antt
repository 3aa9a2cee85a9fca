-- What an activation aborts.
use Rattle.std.proofs.Common.{◌≡◌, ℕ, ◌<◌, ◌==◌, true, false, not, ◌&&◌, List, [], ◌++◌, map, refl, sym, ◌∙◌, subst, ◌⊎◌, inl, inr, arith}
use Rattle.std.specs.List.{list_any}
use Rattle.std.proofs.lemmas.Bool.{false≢true, and_parts, and_from, or_cases, or_left, or_right, eqb-true, eq-eqb, not-true, not_from_false, true_from_ne_false}
use Rattle.std.proofs.lemmas.List.Folds.{list_any-append}
use Rattle.keyframe_model.specs.Models.{Spec}
use Rattle.run_rules.specs.declared.mark.Mark.{Mark}
use Rattle.run_rules.specs.declared.mark.Mark.TheVariants.{OfModel}
use Rattle.run_rules.specs.declared.mark.ModelMark.TheVariants.{Aborted}
use Rattle.tree_commit.specs.Trees.{TreeLists, Committed, has_model, has_element}
use Rattle.run_rules.specs.Marks.{model_of, starts, ends, starts_in, is_started, is_ended, is_unfinished, is_group_unfinished, is_lost, lost_models, marks_of_activation, is_end}
use Rattle.run_rules.proofs.MarkLemmas.{says-model}
use Rattle.anim_names.specs.Lists.{IsAmong}
use Rattle.run_laws.specs.Ends.{finishes, is_finished}
use Rattle.tree_commit.proofs.Among.{among-append_cases, among-map, among-map_cases, among-filter, among-filter_from, any-among, any-cases, any-none}
use Rattle.run_laws.proofs.Births.{Birth, birth, AreOfOneScript}
use Rattle.run_laws.proofs.Lines.{FitsBirths, Precedes}
use Rattle.run_laws.proofs.MarkFacts.{any-more, any-same, apart-filter, AreInOrder, order-append, order-apart, blocks-before, finished-mark, finished-from, start-before, still-idle}
use Rattle.run_laws.proofs.MarksFit.{IsAbout, IsOfBirth, MarksFitBirths, about-group, of_same_model, model_there}
use Rattle.run_laws.proofs.FinishFits.{IsEnd, AreEnds, none_start_in, ends_alike, ran_before, running-parts}

-- an abort is that of a model that is lost
pub abort-mark : (active : TreeLists) (new : Committed) (marks : List Mark) (mark : Mark) → IsAmong mark (marks_of_activation active new marks) → (model : Spec) × IsAmong model active.models × (is_lost new.tree marks model ≡ true) × (mark ≡ OfModel model.id (Aborted new.number))
unfolding marks_of_activation
abort-mark active new marks mark h =
    let found = among-map_cases (λ model. OfModel model.id (Aborted new.number)) mark (lost_models active new.tree marks) h in
    let parts = among-filter (is_lost new.tree marks) found.0 active.models found.1 in
    (found.0, parts.0, parts.1, found.2)

abort-ends : (active : TreeLists) (new : Committed) (marks : List Mark) → AreEnds (marks_of_activation active new marks)
abort-ends active new marks mark a = subst (λ m. IsEnd m) (sym (abort-mark active new marks mark a).3) refl

-- a lost model is marked as aborted
abort-from : (active : TreeLists) (new : Committed) (marks : List Mark) (model : Spec) → IsAmong model active.models → is_lost new.tree marks model ≡ true → list_any (ends model.id) (marks_of_activation active new marks) ≡ true
unfolding marks_of_activation
abort-from active new marks model there lost =
    any-among (ends model.id) (OfModel model.id (Aborted new.number)) (map (λ model. OfModel model.id (Aborted new.number)) (lost_models active new.tree marks))
    (among-map (λ model. OfModel model.id (Aborted new.number)) model (lost_models active new.tree marks)
    (among-filter_from (is_lost new.tree marks) model active.models there lost))
    (eq-eqb model.id model.id refl)

lost-unended : (new : TreeLists) (marks : List Mark) (model : Spec) → is_lost new marks model ≡ true → not (is_ended marks model.id) ≡ true
lost-unended new marks model lost = (and_parts (not (is_ended marks model.id)) _ lost).0

abort-order : (active : Committed) (new : Committed) (marks : List Mark) (born : List Birth) → FitsBirths born active → AreInOrder marks (marks_of_activation active.tree new marks)
unfolding marks_of_activation
abort-order active new marks born fits =
    order-apart marks (λ model. OfModel model.id (Aborted new.number)) (λ model. refl) (lost_models active.tree new.tree marks) (apart-filter _ active.tree.models fits.apart)
    (λ model a. lost-unended new.tree marks model (among-filter (is_lost new.tree marks) model active.tree.models a).1)

-- no finish is among aborts
none_finishes : (active : TreeLists) (new : Committed) (marks : List Mark) (id : ℕ) → list_any (finishes id) (marks_of_activation active new marks) ≡ false
none_finishes active new marks id = any-none (finishes id) (marks_of_activation active new marks) go
  where
    go : (mark : Mark) → IsAmong mark (marks_of_activation active new marks) → finishes id mark ≡ true → ⊥
    go mark a h = false≢true (subst (λ m. finishes id m ≡ true) (abort-mark active new marks mark a).3 h)

-- a model of the new commit that has a mark was in the old one
pub marked-stays : (born : List Birth) (active new : Committed) (mark : Mark) (model : Spec) → AreOfOneScript born → FitsBirths born new → Precedes born active new → IsOfBirth born active.number mark → IsAmong model new.tree.models → model_of mark ≡ model.id → IsAmong model active.tree.models
marked-stays born active new mark model script fits goes whose there same =
    let when = fits.born_before model there in
    let both = of_same_model born active.number mark model when.0 script when.1 whose same in
    goes.stays model when.0 there when.1 (subst (λ n. n < active.number) both.1 whose.under)

-- a model of the new commit in a group that started was in the old one
pub group-stays : (born : List Birth) (active new : Committed) (mark : Mark) (model : Spec) → AreOfOneScript born → FitsBirths born new → Precedes born active new → IsOfBirth born active.number mark → IsAmong model new.tree.models → starts_in model.group mark ≡ true → IsAmong model active.tree.models
group-stays born active new mark model script fits goes whose there in_group =
    let when = fits.born_before model there in
    let mates = script.mates (birth whose.model whose.before) (birth model when.0) whose.among when.1 (sym (about-group whose.model mark model.group whose.about in_group)) in
    goes.stays model when.0 there when.1 (subst (λ n. n < active.number) (sym mates.before) whose.under)

pub abort_fits : (born : List Birth) (active new : Committed) (marks : List Mark) → AreOfOneScript born → FitsBirths born active → FitsBirths born new → Precedes born active new → MarksFitBirths born active marks → MarksFitBirths born new (marks ++ marks_of_activation active.tree new marks)
abort_fits born active new marks script fits fits_new goes h = record {
  of_births = λ mark a. of_births mark (among-append_cases mark marks lost a);
  order = order-append [] marks lost h.order (abort-order active new marks born fits);
  running = λ id runs. true_from_ne_false _ (λ gone. running id runs gone);
  ended = λ model a over. any-more (starts model.id) marks lost (ended model a (or_cases _ _ (sym (list_any-append (ends model.id) marks lost) ∙ over)));
  grouped = λ model a starts_there. any-more (starts model.id) marks lost (grouped model a (sym (any-same (starts_in model.group) marks lost (any-none (starts_in model.group) lost (none_start_in lost model.group ending))) ∙ starts_there));
  alike = ends_alike marks lost ending h.alike;
  blocker = λ one other element property first second. h.blocker one other element property (blocks-before marks lost one element property (none_start_in lost one ending) first) (blocks-before marks lost other element property (none_start_in lost other ending) second);
  finished = λ group done. idle group (finished-mark (marks ++ lost) group done);
}
  where
    lost : List Mark
    lost = marks_of_activation active.tree new marks

    ending : AreEnds lost
    ending = abort-ends active.tree new marks

    of_births : (mark : Mark) → IsAmong mark marks ⊎ IsAmong mark lost → IsOfBirth born new.number mark
    of_births mark (inl a) =
        let whose = h.of_births mark a in
        let less : active.number < new.number = goes.number in
        record { model = whose.model; before = whose.before; among = whose.among; under = omega (arith, whose.under, less); about = whose.about }
    of_births mark (inr a) =
        let found = abort-mark active.tree new marks mark a in
        let when = fits.born_before found.0 found.1 in
        let less : active.number < new.number = goes.number in
        record { model = found.0; before = when.0; among = when.1; under = omega (arith, when.2, less); about = subst (λ m. IsAbout found.0 m) (sym found.3) (refl, tt) }

    running : (id : ℕ) → is_unfinished (marks ++ lost) id ≡ true → has_model new.tree id ≡ false → ⊥
    running id runs gone =
        let ran = ran_before marks lost id ending runs in
        let there = model_there active.tree id (h.running id ran) in
        let unended : is_ended marks there.0.id ≡ false = subst (λ id. is_ended marks id ≡ false) there.2 (running-parts marks id ran).1 in
        let is_gone : has_model new.tree there.0.id ≡ false = subst (λ id. has_model new.tree id ≡ false) there.2 gone in
        let is_one : is_lost new.tree marks there.0 ≡ true = and_from (not (is_ended marks there.0.id)) _ (not_from_false _ unended) (or_left (not (has_model new.tree there.0.id)) _ (not_from_false _ is_gone)) in
        let ended = abort-from active.tree new marks there.0 there.1 is_one in
        let told : list_any (ends id) lost ≡ true = subst (λ id. list_any (ends id) lost ≡ true) (sym there.2) ended in
        false≢true (sym (running-parts (marks ++ lost) id runs).1 ∙ (list_any-append (ends id) marks lost ∙ or_right (list_any (ends id) marks) _ told))

    ended : (model : Spec) → IsAmong model new.tree.models → (is_ended marks model.id ≡ true) ⊎ (list_any (ends model.id) lost ≡ true) → is_started marks model.id ≡ true
    ended model a (inl over) =
        let found = any-cases (ends model.id) marks over in
        h.ended model (marked-stays born active new found.0 model script fits_new goes (h.of_births found.0 found.1) a (sym (says-model is_end model.id found.0 found.2))) over
    ended model a (inr over) = go (or_cases _ _ (and_parts (not (is_ended marks done.0.id)) _ done.2).1)
      where
        found : (x : Mark) × IsAmong x lost × (ends model.id x ≡ true)
        found = any-cases (ends model.id) lost over

        done : (model : Spec) × IsAmong model active.tree.models × (is_lost new.tree marks model ≡ true) × (found.0 ≡ OfModel model.id (Aborted new.number))
        done = abort-mark active.tree new marks found.0 found.1

        same : model.id ≡ done.0.id
        same = eqb-true model.id done.0.id (subst (λ m. ends model.id m ≡ true) done.3 found.2)

        still : has_model new.tree done.0.id ≡ true
        still = any-among (λ other. done.0.id == other.id) model new.tree.models a (eq-eqb done.0.id model.id (sym same))

        go : (not (has_model new.tree done.0.id) ≡ true) ⊎ ((is_started marks done.0.id && not (has_element new.tree done.0.element)) ≡ true) → is_started marks model.id ≡ true
        go (inl gone) = absurd (false≢true (sym (not-true _ gone) ∙ still))
        go (inr started) = subst (λ id. is_started marks id ≡ true) (sym same) (and_parts (is_started marks done.0.id) _ started).0

    grouped : (model : Spec) → IsAmong model new.tree.models → list_any (starts_in model.group) marks ≡ true → is_started marks model.id ≡ true
    grouped model a started =
        let found = any-cases (starts_in model.group) marks started in
        h.grouped model (group-stays born active new found.0 model script fits_new goes (h.of_births found.0 found.1) a found.2) started

    idle : (group : ℕ) → (mark : Mark) × IsAmong mark (marks ++ lost) × (starts_in group mark ≡ true) × (is_finished (marks ++ lost) (model_of mark) ≡ true) → is_group_unfinished (marks ++ lost) group ≡ false
    idle group (mark, a, in_group, done) =
        let here = start-before group marks lost mark (none_start_in lost group ending) a in_group in
        let old = sym (any-same (finishes (model_of mark)) marks lost (none_finishes active.tree new marks (model_of mark))) ∙ done in
        still-idle marks lost group (none_start_in lost group ending) (h.finished group (finished-from marks group mark here in_group old))
