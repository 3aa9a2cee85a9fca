-- What a tick starts.
use Rattle.std.proofs.Common.{◌≡◌, ℕ, ◌==◌, Bool, true, false, not, ◌&&◌, cond, Option, Some, None, List, [], ◌∷◌, ◌++◌, map, refl, sym, ap, ◌∙◌, subst, ◌⊎◌, inl, inr, append_assoc}
use Rattle.std.specs.Prelude.{filter_map}
use Rattle.std.specs.List.{list_any, cons_option}
use Rattle.std.proofs.lemmas.Bool.{false≢true, and_parts, and_from, or_cases, or_right, eqb-true, eqb-false, eq-eqb, ne_eqb, not-true, not_from_false, false_from_ne_true}
use Rattle.std.proofs.lemmas.List.{append-nil}
use Rattle.std.proofs.lemmas.List.Folds.{list_any-append}
use Rattle.anim_names.specs.declared.property.Property.{Property}
use Rattle.anim_timeline.specs.Timelines.{timeline_time}
use Rattle.keyframe_model.specs.Models.{Spec, property_of}
use Rattle.run_rules.specs.declared.mark.Mark.{Mark}
use Rattle.run_rules.specs.declared.mark.Mark.TheVariants.{OfModel}
use Rattle.run_rules.specs.declared.mark.ModelMark.TheVariants.{Started, Finished, Aborted}
use Rattle.tree_commit.specs.Trees.{TreeLists, Committed, has_model, has_group, has_element, members_of, time_of, origin_of}
use Rattle.run_rules.specs.Marks.{model_of, starts, ends, starts_in, starts_on, started_group, is_started, is_ended, is_unfinished, is_group_unfinished, blocks, pending_allows, may_start, is_ready, recorded_start, start_mark, group_marks, start_marks, began, group_begun, is_start, is_end}
use Rattle.run_rules.specs.declared.mark.ModelMark.{ModelMark}
use Rattle.run_rules.proofs.MarkLemmas.{says-model}
use Rattle.anim_names.specs.Lists.{IsAmong}
use Rattle.anim_names.proofs.PropertyLemmas.{is_property-one}
use Rattle.run_laws.specs.Ends.{finishes, is_finished, is_finish}
use Rattle.run_laws.specs.Groups.{AreAlike}
use Rattle.tree_commit.proofs.Among.{among-append_cases, among-map, among-map_cases, among-filter, among-filter_from, any-among, any-cases, any-none, all-among}
use Rattle.run_laws.proofs.Births.{Birth, birth, AreOfOneScript}
use Rattle.run_laws.proofs.Lines.{FitsBirths}
use Rattle.run_laws.proofs.MarkFacts.{any-more, any-fewer, any-same, apart-filter, AreInOrder, order-append, order-apart, blocks-before, blocks-mark, finished-mark, finished-from, NoStartIn, still-idle}
use Rattle.run_laws.proofs.MarksFit.{IsAbout, IsOfBirth, MarksFitBirths, about-starts_in, of_active}
use Rattle.run_laws.proofs.FinishFits.{running-parts, running-whole}
use Rattle.run_laws.proofs.StartLemmas.{if_began-fails, says-weaker}

-- ---- what a ready group is

pub record IsReadyGroup (active : TreeLists) (pending : Option Committed) (marks : List Mark) (group : ℕ) : Type 0 where
  pub unstarted : list_any (starts_in group) marks ≡ false
  pub may_start : (model : Spec) → IsAmong model (members_of active group) → may_start active pending marks model ≡ true

pub ready-parts : (active : TreeLists) (pending : Option Committed) (marks : List Mark) (group : ℕ) → is_ready active pending marks group ≡ true → IsReadyGroup active pending marks group
unfolding is_ready
ready-parts active pending marks group h =
    let both = and_parts (has_group active group && not (list_any (starts_in group) marks)) _ h in
    let first = and_parts (has_group active group) _ both.0 in
    record {
      unstarted = not-true _ first.1;
      may_start = λ model a. all-among _ model (members_of active group) both.1 a;
    }

-- ---- the marks of its start

abbrev pub start_list : TreeLists → ℕ → ℕ → List Mark
start_list active tick group = map (start_mark active tick) (members_of active group)

pub start-mark : (active : TreeLists) (tick group : ℕ) (mark : Mark) → IsAmong mark (start_list active tick group) → (model : Spec) × IsAmong model active.models × (group ≡ model.group) × (mark ≡ start_mark active tick model) × IsAmong model (members_of active group)
start-mark active tick group mark h =
    let found = among-map_cases (start_mark active tick) mark (members_of active group) h in
    let parts = among-filter (λ model. group == model.group) found.0 active.models found.1 in
    (found.0, parts.0, eqb-true group found.0.group parts.1, found.2, found.1)

start-from : (active : TreeLists) (tick group : ℕ) (model : Spec) → IsAmong model active.models → group ≡ model.group → IsAmong (start_mark active tick model) (start_list active tick group)
start-from active tick group model there same =
    among-map (start_mark active tick) model (members_of active group) (among-filter_from (λ model. group == model.group) model active.models there (eq-eqb group model.group same))

none_ends : (active : TreeLists) (tick group id : ℕ) → list_any (ends id) (start_list active tick group) ≡ false
none_ends active tick group id = any-none (ends id) (start_list active tick group) go
  where
    go : (mark : Mark) → IsAmong mark (start_list active tick group) → ends id mark ≡ true → ⊥
    go mark a h = false≢true (subst (λ m. ends id m ≡ true) (start-mark active tick group mark a).3 h)

none_finishes : (active : TreeLists) (tick group id : ℕ) → list_any (finishes id) (start_list active tick group) ≡ false
none_finishes active tick group id = any-none (finishes id) (start_list active tick group) go
  where
    go : (mark : Mark) → IsAmong mark (start_list active tick group) → finishes id mark ≡ true → ⊥
    go mark a h = false≢true (subst (λ m. finishes id m ≡ true) (start-mark active tick group mark a).3 h)

-- a start of the list is one of its own group
own-group : (active : TreeLists) (tick group other : ℕ) (mark : Mark) → IsAmong mark (start_list active tick group) → starts_in other mark ≡ true → other ≡ group
own-group active tick group other mark a h =
    let found = start-mark active tick group mark a in
    eqb-true other found.0.group (subst (λ m. starts_in other m ≡ true) found.3 h) ∙ sym found.2

none_of_others : (active : TreeLists) (tick group other : ℕ) → (other ≡ group → ⊥) → NoStartIn other (start_list active tick group)
none_of_others active tick group other apart mark a h = apart (own-group active tick group other mark a h)

-- ---- tests of marks

finish-ends : (what : ModelMark) → is_finish what ≡ true → is_end what ≡ true
finish-ends (Started begun) h = absurd (false≢true h)
finish-ends (Finished at) h = refl
finish-ends (Aborted commit) h = absurd (false≢true h)

finish-is_end : (marks : List Mark) (id : ℕ) → is_finished marks id ≡ true → is_ended marks id ≡ true
finish-is_end marks id h =
    let found = any-cases (finishes id) marks h in
    any-among (ends id) found.0 marks found.1 (says-weaker is_finish is_end finish-ends id found.0 found.2)

group-begun : (group : ℕ) (what : ModelMark) → began (λ begun. group == begun.group) what ≡ true → group_begun what ≡ Some group
group-begun group (Started begun) h = ap Some (sym (eqb-true group begun.group h))
group-begun group (Finished at) h = absurd (false≢true h)
group-begun group (Aborted commit) h = absurd (false≢true h)

started_group-of : (group : ℕ) (mark : Mark) → starts_in group mark ≡ true → started_group mark ≡ Some group
started_group-of group (OfModel model what) h = group-begun group what h

pub among-cons_option : {B : Type 0} (y : B) (o : Option B) (ys : List B) → IsAmong y ys → IsAmong y (cons_option o ys)
among-cons_option y None ys h = h
among-cons_option y (Some z) ys h = inr h

among-filter_map : {A B : Type 0} (f : A → Option B) (x : A) (y : B) (xs : List A) → IsAmong x xs → f x ≡ Some y → IsAmong y (filter_map f xs)
among-filter_map f x y [] h e = absurd h
among-filter_map f x y (z ∷ xs) (inl same) e = subst (λ o. IsAmong y (cons_option o (filter_map f xs))) (sym e ∙ ap f same) (inl refl)
among-filter_map f x y (z ∷ xs) (inr h) e = among-cons_option y (f z) (filter_map f xs) (among-filter_map f x y xs h e)

-- ---- the start of one group

start_fits : (born : List Birth) (active : Committed) (pending : Option Committed) (marks : List Mark) (tick group : ℕ) → AreOfOneScript born → FitsBirths born active → MarksFitBirths born active marks → IsReadyGroup active.tree pending marks group → MarksFitBirths born active (marks ++ start_list active.tree tick group)
start_fits born active pending marks tick group script fits h ready = record {
  of_births = λ mark a. of_births mark (among-append_cases mark marks new a);
  order = order-append [] marks new h.order in_order;
  running = λ id runs. running id runs;
  ended = λ model a over. any-more (starts model.id) marks new (h.ended model a (sym (any-same (ends model.id) marks new (none_ends active.tree tick group model.id)) ∙ over));
  grouped = λ model a started. grouped model a (or_cases _ _ (sym (list_any-append (starts_in model.group) marks new) ∙ started));
  alike = λ one other a b. alike one other (among-append_cases one marks new a) (among-append_cases other marks new b);
  blocker = λ one other element property first second. blocker one other element property first second (one == group) refl (other == group) refl;
  finished = λ g done. finished g (finished-mark (marks ++ new) g done);
}
  where
    new : List Mark
    new = start_list active.tree tick group

    none_before : (mark : Mark) → IsAmong mark marks → starts_in group mark ≡ true → ⊥
    none_before mark a s = false≢true (sym ready.unstarted ∙ any-among (starts_in group) mark marks a s)

    of_births : (mark : Mark) → IsAmong mark marks ⊎ IsAmong mark new → IsOfBirth born active.number mark
    of_births mark (inl a) = h.of_births mark a
    of_births mark (inr a) =
        let found = start-mark active.tree tick group mark a in
        let when = fits.born_before found.0 found.1 in
        record { model = found.0; before = when.0; among = when.1; under = when.2; about = subst (λ m. IsAbout found.0 m) (sym found.3) (refl, (refl, refl, refl)) }

    not_started : (model : Spec) → IsAmong model active.tree.models → group ≡ model.group → is_started marks model.id ≡ true → ⊥
    not_started model there same started =
        let found = any-cases (starts model.id) marks started in
        let whose = h.of_births found.0 found.1 in
        let own = of_active born active model found.0 script fits there whose (sym (says-model is_start model.id found.0 found.2)) in
        none_before found.0 found.1 (subst (λ g. starts_in g found.0 ≡ true) (ap (λ m. m.group) own ∙ sym same) (about-starts_in whose.model found.0 model.id whose.about found.2))

    not_ended : (model : Spec) → IsAmong model active.tree.models → group ≡ model.group → is_ended marks model.id ≡ true → ⊥
    not_ended model there same over = not_started model there same (h.ended model there over)

    in_order : AreInOrder marks new
    in_order = order-apart marks (start_mark active.tree tick) (λ model. refl) (members_of active.tree group) (apart-filter _ active.tree.models fits.apart)
        (λ model a.
        let parts = among-filter (λ model. group == model.group) model active.tree.models a in
        let same = eqb-true group model.group parts.1 in
        and_from _ _ (not_from_false _ (false_from_ne_true _ (not_started model parts.0 same))) (not_from_false _ (false_from_ne_true _ (not_ended model parts.0 same))))

    running : (id : ℕ) → is_unfinished (marks ++ new) id ≡ true → has_model active.tree id ≡ true
    running id runs = go (or_cases _ _ (sym (list_any-append (starts id) marks new) ∙ (running-parts (marks ++ new) id runs).0))
      where
        go : (is_started marks id ≡ true) ⊎ (list_any (starts id) new ≡ true) → has_model active.tree id ≡ true
        go (inl started) = h.running id (running-whole marks id started (any-fewer (ends id) marks new (running-parts (marks ++ new) id runs).1))
        go (inr started) =
            let found = any-cases (starts id) new started in
            let mine = start-mark active.tree tick group found.0 found.1 in
            any-among (λ model. id == model.id) mine.0 active.tree.models mine.1 (subst (λ m. starts id m ≡ true) mine.3 found.2)

    grouped : (model : Spec) → IsAmong model active.tree.models → (list_any (starts_in model.group) marks ≡ true) ⊎ (list_any (starts_in model.group) new ≡ true) → is_started (marks ++ new) model.id ≡ true
    grouped model there (inl started) = any-more (starts model.id) marks new (h.grouped model there started)
    grouped model there (inr started) =
        let found = any-cases (starts_in model.group) new started in
        let same = own-group active.tree tick group model.group found.0 found.1 found.2 in
        list_any-append (starts model.id) marks new ∙ or_right (is_started marks model.id) _ (any-among (starts model.id) (start_mark active.tree tick model) new (start-from active.tree tick group model there (sym same)) (eq-eqb model.id model.id refl))

    -- a start among the earlier marks is of another group
    apart_left : (one : Mark) (model : Spec) → IsAmong one marks → group ≡ model.group → AreAlike one (start_mark active.tree tick model)
    apart_left (OfModel id what) model a same =
        if_began-fails _ (λ begun. group == begun.group) (λ begun fails equal. absurd (fails (eq-eqb group begun.group (same ∙ sym equal)))) what (none_before (OfModel id what) a)

    apart_right : (model : Spec) (other : Mark) → IsAmong other marks → group ≡ model.group → AreAlike (start_mark active.tree tick model) other
    apart_right model (OfModel id what) a same =
        if_began-fails _ (λ begun. group == begun.group) (λ begun fails equal. absurd (fails (eq-eqb group begun.group (same ∙ equal)))) what (none_before (OfModel id what) a)

    both_new : (one other : Spec) → IsAmong one active.tree.models → IsAmong other active.tree.models → group ≡ one.group → group ≡ other.group → AreAlike (start_mark active.tree tick one) (start_mark active.tree tick other)
    both_new one other a b same equal =
        let first = fits.born_before one a in
        let second = fits.born_before other b in
        let mates = script.mates (birth one first.0) (birth other second.0) first.1 second.1 (sym same ∙ equal) in
        λ e. (sym mates.element, refl, ap (λ start. recorded_start start (time_of active.tree tick one)) (sym mates.start) ∙ ap (λ timeline. recorded_start other.start (timeline_time (origin_of active.tree timeline) tick)) (sym mates.timeline))

    alike : (one other : Mark) → IsAmong one marks ⊎ IsAmong one new → IsAmong other marks ⊎ IsAmong other new → AreAlike one other
    alike one other (inl a) (inl b) = h.alike one other a b
    alike one other (inl a) (inr b) =
        let found = start-mark active.tree tick group other b in
        subst (λ m. AreAlike one m) (sym found.3) (apart_left one found.0 a found.2)
    alike one other (inr a) (inl b) =
        let found = start-mark active.tree tick group one a in
        subst (λ m. AreAlike m other) (sym found.3) (apart_right found.0 other b found.2)
    alike one other (inr a) (inr b) =
        let found = start-mark active.tree tick group one a in
        let mine = start-mark active.tree tick group other b in
        subst (λ m. AreAlike m other) (sym found.3) (subst (λ m. AreAlike (start_mark active.tree tick found.0) m) (sym mine.3) (both_new found.0 mine.0 found.1 mine.1 found.2 mine.2))

    -- what the group blocks was blocked by no other
    clash : (other element : ℕ) (property : Property) → (other ≡ group → ⊥) → blocks (marks ++ new) group element property ≡ true → blocks (marks ++ new) other element property ≡ true → ⊥
    clash other element property apart first second =
        let own = blocks-mark (marks ++ new) group element property first in
        let old = blocks-before marks new other element property (none_of_others active.tree tick group other apart) second in
        let its = blocks-mark marks other element property old in
        go own.1.0 own.1.1 own.1.2 own.1.3 old its.1.0 its.1.1 its.1.2 (among-append_cases own.1.0 marks new own.1.1)
      where
        go : (mark : Mark) → IsAmong mark (marks ++ new) → starts_in group mark ≡ true → starts_on element property mark ≡ true → blocks marks other element property ≡ true → (its : Mark) → IsAmong its marks → starts_in other its ≡ true → IsAmong mark marks ⊎ IsAmong mark new → ⊥
        go mark a s on old its b t (inl early) = none_before mark early s
        go mark a s on old its b t (inr late) =
            let found = start-mark active.tree tick group mark late in
            let parts = and_parts (element == found.0.element) _ (subst (λ m. starts_on element property m ≡ true) found.3 on) in
            let may = ready.may_start found.0 found.4 in
            let unblocked = not-true _ (and_parts (has_element active.tree found.0.element && pending_allows pending found.0.group found.0.element) _ may).1 in
            let here : blocks marks other found.0.element (property_of found.0) ≡ true = subst (λ e. blocks marks other e (property_of found.0) ≡ true) (eqb-true element found.0.element parts.0) (subst (λ p. blocks marks other element p ≡ true) (is_property-one property (property_of found.0) parts.1) old) in
            let differs : not (found.0.group == other) ≡ true = not_from_false _ (ne_eqb found.0.group other (λ e. apart (sym e ∙ sym found.2))) in
            false≢true (sym unblocked ∙ any-among (λ g. not (found.0.group == g) && blocks marks g found.0.element (property_of found.0)) other (filter_map started_group marks) (among-filter_map started_group its other marks b (started_group-of other its t)) (and_from _ _ differs here))

    blocker : (one other element : ℕ) (property : Property) → blocks (marks ++ new) one element property ≡ true → blocks (marks ++ new) other element property ≡ true → (first : Bool) → (one == group) ≡ first → (second : Bool) → (other == group) ≡ second → one ≡ other
    blocker one other element property x y true e true f = eqb-true one group e ∙ sym (eqb-true other group f)
    blocker one other element property x y true e false f =
        absurd (clash other element property (eqb-false other group f) (subst (λ g. blocks (marks ++ new) g element property ≡ true) (eqb-true one group e) x) y)
    blocker one other element property x y false e true f =
        absurd (clash one element property (eqb-false one group e) (subst (λ g. blocks (marks ++ new) g element property ≡ true) (eqb-true other group f) y) x)
    blocker one other element property x y false e false f =
        h.blocker one other element property (blocks-before marks new one element property (none_of_others active.tree tick group one (eqb-false one group e)) x)
        (blocks-before marks new other element property (none_of_others active.tree tick group other (eqb-false other group f)) y)

    finished : (g : ℕ) → (mark : Mark) × IsAmong mark (marks ++ new) × (starts_in g mark ≡ true) × (is_finished (marks ++ new) (model_of mark) ≡ true) → is_group_unfinished (marks ++ new) g ≡ false
    finished g (mark, a, s, done) = go (among-append_cases mark marks new a)
      where
        old : is_finished marks (model_of mark) ≡ true
        old = sym (any-same (finishes (model_of mark)) marks new (none_finishes active.tree tick group (model_of mark))) ∙ done

        go : IsAmong mark marks ⊎ IsAmong mark new → is_group_unfinished (marks ++ new) g ≡ false
        go (inl early) = still-idle marks new g (none_of_others active.tree tick group g (λ e. none_before mark early (subst (λ k. starts_in k mark ≡ true) e s))) (h.finished g (finished-from marks g mark early s old))
        go (inr late) =
            let found = start-mark active.tree tick group mark late in
            absurd (not_ended found.0 found.1 found.2 (finish-is_end marks found.0.id (subst (λ m. is_finished marks (model_of m) ≡ true) found.3 old)))

-- ---- all groups in turn

pub starts_fit : (born : List Birth) (active : Committed) (pending : Option Committed) (tick : ℕ) (groups : List ℕ) (marks : List Mark) → AreOfOneScript born → FitsBirths born active → MarksFitBirths born active marks → MarksFitBirths born active (marks ++ start_marks active.tree pending marks tick groups)
unfolding start_marks
starts_fit born active pending tick [] marks script fits h = subst (λ l. MarksFitBirths born active l) (sym (append-nil marks)) h
starts_fit born active pending tick (group ∷ behind) marks script fits h =
    subst (λ l. MarksFitBirths born active l) (append_assoc marks (group_marks active.tree pending marks tick group) (start_marks active.tree pending (marks ++ group_marks active.tree pending marks tick group) tick behind))
    (starts_fit born active pending tick behind (marks ++ group_marks active.tree pending marks tick group) script fits (go (is_ready active.tree pending marks group) refl))
  where
    go : (ready : Bool) → is_ready active.tree pending marks group ≡ ready → MarksFitBirths born active (marks ++ cond ready (map (start_mark active.tree tick) (members_of active.tree group)) [])
    go true e = start_fits born active pending marks tick group script fits h (ready-parts active.tree pending marks group e)
    go false e = subst (λ l. MarksFitBirths born active l) (sym (append-nil marks)) h
