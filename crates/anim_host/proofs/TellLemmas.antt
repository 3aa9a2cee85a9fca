-- What the row of a group tells: whether models of it run, and whether it is ready.
use Rattle.std.proofs.Common.{◌≡◌, ℕ, suc, ◌+◌, Bool, true, false, not, ◌||◌, List, [], ◌∷◌, map, filter, cond, Option, Some, None, refl, sym, ap, ◌∙◌, subst, nat_eq, arith, inl, inr}
use Rattle.std.specs.Prelude.{◌==◌, ◌&&◌, count_by, nat_lt}
use Rattle.std.specs.List.{IsDistinct, list_all, list_any}
use Rattle.std.proofs.lemmas.Bool.{and_from, and_parts, both_ways, eq-eqb, eqb-true, ne_eqb}
use Rattle.std.proofs.lemmas.Bool.Decides.{leb_tells}
use Rattle.std.proofs.lemmas.Option.{none-some, same_Some}
use Rattle.anim_names.specs.declared.lane.Tree.TheVariants.{Pending}
use Rattle.anim_names.specs.declared.property.Property.{Property}
use Rattle.anim_names.proofs.PropertyLemmas.{at-for_each}
use Rattle.element_anims.specs.Elements.{Anims, is_present}
use Rattle.keyframe_model.specs.Models.{Spec, property_of}
use Rattle.keyframe_effect.specs.declared.group.GroupRow.{GroupRow}
use Rattle.keyframe_effect.specs.Groups.{one_if}
use Rattle.keyframe_effect.specs.Ready as effect
use Rattle.keyframe_effect.specs.Rule.{IsInTable, TellsOf, animates, has_some}
use Rattle.keyframe_effect.proofs.RuleLemmas.{has_some-filter, list_all-filter, rows_follow}
use Rattle.run_rules.specs.declared.mark.Mark.{Mark}
use Rattle.anim_names.specs.Lists.{IsAmong}
use Rattle.run_rules.specs.Marks.{are_over, finishing_models, is_ended, is_ready, is_unfinished, is_started, may_start, pending_allows, starts_in}
use Rattle.tree_commit.specs.Trees.{Committed, TreeLists, groups_of, has_group, members_of}
use Rattle.tree_commit.proofs.Among.{among-filter, among-filter_from, any-among, any-cases}
use Rattle.host_tables.specs.Blocks.{BlocksStand}
use Rattle.host_tables.specs.Elements.{PresenceStands, pending_has_element}
use Rattle.host_tables.specs.Groups.{group_row_of, is_waiting, row_of_members}
use Rattle.host_tables.proofs.GroupLemmas.{count-moves, count-cons}
use Rattle.host_tables.proofs.CommitGroupsLemmas.{groups-any}
use Rattle.anim_host.specs.Fits.{AreSettled, MarksFitModels}
use Rattle.anim_host.specs.Standing.{pending_has_group}
use Rattle.anim_host.specs.Ticks.{finishes, group_finishes}
use Rattle.anim_host.proofs.BlockLemmas.{blocked-for}
use Rattle.anim_host.proofs.SettleLemmas.{no-indices, not-ended, started-tells}
use Rattle.std.proofs.Math.Nat.{add-zero}

-- ---- counts

none-plus : (n : ℕ) → 0 + n ≡ n
none-plus n = omega arith

-- some count exactly where one does
count-any : (p : Spec → Bool) (models : List Spec) → nat_lt 0 (count_by p models) ≡ list_any p models
count-any p [] = refl
count-any p (x ∷ xs) = ap (nat_lt 0) (count-cons p x xs) ∙ by (p x) (count_by p xs) (count-any p xs)
  where
    by : (b : Bool) (n : ℕ) → nat_lt 0 n ≡ list_any p xs → nat_lt 0 (one_if b + n) ≡ (b || list_any p xs)
    by true n rest = elim (leb_tells (suc 0) (1 + n)) [ inl t ↦ t.0 | inr t ↦ let lt = t.1 in absurd (omega (arith, lt)) ]
    by false n rest = ap (nat_lt 0) (none-plus n) ∙ rest

count-none : (p : Spec → Bool) (models : List Spec) → ((x : Spec) → IsAmong x models → p x ≡ false) → count_by p models ≡ 0
count-none p [] none = refl
count-none p (x ∷ xs) none =
    count-cons p x xs
    ∙ ap (λ (b : Bool). one_if b + count_by p xs) (none x (inl refl))
    ∙ none-plus (count_by p xs)
    ∙ count-none p xs (λ y there. none y (inr there))

more-than : (a m n : ℕ) → n + a ≡ m → nat_lt a m ≡ nat_lt 0 n
more-than a m n is =
    elim (leb_tells (suc a) m) [
      | inl t ↦ elim (leb_tells (suc 0) n) [ inl u ↦ t.0 ∙ sym u.0 | inr u ↦ let lt = t.1 in let le = u.1 in absurd (omega (arith, is, lt, le)) ]
      | inr t ↦ elim (leb_tells (suc 0) n) [ inl u ↦ let le = t.1 in let lt = u.1 in absurd (omega (arith, is, lt, le)) | inr u ↦ t.0 ∙ sym u.0 ]
    ]

-- ---- whether models of a group run

none-of : (marks : List Mark) (group : ℕ) (members : List Spec) → row_of_members marks group members ≡ None → members ≡ []
none-of marks group [] is = refl
none-of marks group (first ∷ mates) is = absurd (none-some _ (sym is))

runs-of : (marks : List Mark) (group : ℕ) (members : List Spec) (row : GroupRow) → row_of_members marks group members ≡ Some row
    → row.unfinished ≡ count_by (λ model. is_unfinished marks model.id) members
runs-of marks group [] row is = absurd (none-some row is)
runs-of marks group (first ∷ mates) row is = ap (λ (r : GroupRow). r.unfinished) (sym (same_Some _ row is))

-- a group with no row has no models
pub no-members : (models : List Spec) (marks : List Mark) (group : ℕ) → group_row_of models marks group ≡ None
    → filter (λ (m : Spec). group == m.group) models ≡ []
unfolding group_row_of
no-members models marks group is = none-of marks group (filter (λ (m : Spec). group == m.group) models) is

pub some-run : (models : List Spec) (marks : List Mark) (group : ℕ) (row : GroupRow) → group_row_of models marks group ≡ Some row
    → nat_lt 0 row.unfinished ≡ list_any (λ (m : Spec). is_unfinished marks m.id) (filter (λ (m : Spec). group == m.group) models)
unfolding group_row_of
some-run models marks group row is =
    ap (nat_lt 0) (runs-of marks group (filter (λ (m : Spec). group == m.group) models) row is)
    ∙ count-any (λ (m : Spec). is_unfinished marks m.id) (filter (λ (m : Spec). group == m.group) models)

-- others than this model run where more run than this one
pub others-run : (models : List Spec) (marks : List Mark) (model : Spec) (row : GroupRow)
    → IsDistinct nat_eq (map (λ m. m.id) models) → IsAmong model models
    → group_row_of models marks model.group ≡ Some row
    → nat_lt (one_if (is_unfinished marks model.id)) row.unfinished
    ≡ list_any (λ (m : Spec). not (m.id == model.id) && is_unfinished marks m.id) (filter (λ (m : Spec). model.group == m.group) models)
unfolding group_row_of
others-run models marks model row differ there is =
    let keep = λ (m : Spec). model.group == m.group in
    let runs = λ (m : Spec). is_unfinished marks m.id in
    let others = λ (m : Spec). not (m.id == model.id) && is_unfinished marks m.id in
    let own : keep model ≡ true = eq-eqb model.group model.group refl in
    let itself : others model ≡ false = ap (λ b. not b && is_unfinished marks model.id) (eq-eqb model.id model.id refl) in
    let moves = count-moves keep runs others model
    (λ x other. ap (λ b. not b && is_unfinished marks x.id) (ne_eqb x.id model.id other))
    models differ there in
    let sum : count_by others (filter keep models) + one_if (runs model) ≡ row.unfinished =
    ap (λ (b : Bool). count_by others (filter keep models) + one_if (b && runs model)) (sym own)
    ∙ moves
    ∙ ap (λ (b : Bool). count_by runs (filter keep models) + one_if b) (ap (λ b. b && others model) own ∙ itself)
    ∙ add-zero (count_by runs (filter keep models))
    ∙ sym (runs-of marks model.group (filter keep models) row is) in
    more-than (one_if (runs model)) row.unfinished (count_by others (filter keep models)) sum
    ∙ count-any others (filter keep models)

-- ---- what finishes

filter-none : (p : Spec → Bool) (models : List Spec) → ((x : Spec) → IsAmong x models → p x ≡ false) → filter p models ≡ []
filter-none p [] none = refl
filter-none p (x ∷ xs) none =
    ap (λ (b : Bool). cond b (x ∷ filter p xs) (filter p xs)) (none x (inl refl)) ∙ filter-none p xs (λ y there. none y (inr there))

-- where no group finishes, no model does
pub none-finish : (tree : TreeLists) (marks : List Mark) (tick : ℕ) → list_any (group_finishes tree marks tick) (groups_of tree) ≡ false
    → finishing_models tree marks tick ≡ []
none-finish tree marks tick none =
    filter-none (finishes tree marks tick) tree.models (λ model there. either model there (finishes tree marks tick model) refl)
  where
    of-groups : (model : Spec) → IsAmong model tree.models → list_any (λ other. model.group == other) (groups_of tree) ≡ true
    of-groups model there =
        groups-any [] tree.models model.group
        ∙ any-among (λ (m : Spec). model.group == m.group) model tree.models there (eq-eqb model.group model.group refl)

    either : (model : Spec) → IsAmong model tree.models → (b : Bool) → finishes tree marks tick model ≡ b → finishes tree marks tick model ≡ false
    either model there false is = is
    either model there true is =
        let runs = (and_parts (is_unfinished marks model.id) (are_over tree marks tick model.group) is).0 in
        let over = (and_parts (is_unfinished marks model.id) (are_over tree marks tick model.group) is).1 in
        let mine : list_any (λ (m : Spec). is_unfinished marks m.id) (members_of tree model.group) ≡ true =
        any-among (λ (m : Spec). is_unfinished marks m.id) model (members_of tree model.group)
        (among-filter_from (λ (m : Spec). model.group == m.group) model tree.models there (eq-eqb model.group model.group refl)) runs in
        let found = any-cases (λ (other : ℕ). model.group == other) (groups_of tree) (of-groups model there) in
        let same : model.group ≡ found.0 = eqb-true model.group found.0 found.2 in
        let all = any-among (group_finishes tree marks tick) found.0 (groups_of tree) found.1
        (subst (λ (g : ℕ). group_finishes tree marks tick g ≡ true) same
        (and_from (list_any (λ (m : Spec). is_unfinished marks m.id) (members_of tree model.group)) (are_over tree marks tick model.group) mine over)) in
        absurd (both_ways (list_any (group_finishes tree marks tick) (groups_of tree)) none all)

-- ---- whether a group is ready

-- a group that the active commit has not is not ready
pub none-ready : (tree : TreeLists) (pending : Option Committed) (marks : List Mark) (group : ℕ)
    → group_row_of tree.models marks group ≡ None → is_ready tree pending marks group ≡ false
unfolding is_ready
none-ready tree pending marks group is =
    ap (λ b. b && not (list_any (starts_in group) marks) && list_all (may_start tree pending marks) (members_of tree group))
    (no-indices tree.models group (no-members tree.models marks group is))

module _ (table : Anims) (active : Committed) (pending : Option Committed) (marks : List Mark) (group : ℕ)
    (presence : PresenceStands table active pending) (blocked : BlocksStand table marks)
    (fit : MarksFitModels active.tree.models marks) (settled : AreSettled active.tree.models marks)
  where
    abbrev keep : Spec → Bool
    keep model = group == model.group

    abbrev has_started : Bool
    has_started = list_any (starts_in group) marks

    allows : (next : Option Committed) → ((e : ℕ) → is_present table Pending e ≡ pending_has_element next e) → (element : ℕ)
        → pending_allows next group element ≡ (not (pending_has_group next group) || is_present table Pending element)
    allows None is element = refl
    allows (Some commit) is element = ap (λ b. not (has_group commit.tree group) || b) (sym (is element))

    in-table : (row : GroupRow) → row.group ≡ group → IsInTable row table (pending_has_group pending group) (may_start active.tree pending marks)
    in-table row own model its element = λ i.
        (sym (presence.of_active model.element) i
        && (ap (λ (g : ℕ). pending_allows pending g model.element) (its ∙ own) ∙ allows pending presence.of_pending model.element) i)
        && not (sym (blocked-for table marks model.group model.element (property_of model) blocked) i)

    all-among : (test : Spec → Bool) (models : List Spec) → ((m : Spec) → IsAmong m models → test m ≡ true) → list_all test models ≡ true
    all-among test [] all = refl
    all-among test (x ∷ xs) all =
        and_from (test x) (list_all test xs) (all x (inl refl)) (all-among test xs (λ m there. all m (inr there)))

    of : (m : Spec) (members : List Spec) → filter keep active.tree.models ≡ members → IsAmong m members → IsAmong m active.tree.models × (keep m ≡ true)
    of m members is there = among-filter keep m active.tree.models (subst (λ (ms : List Spec). IsAmong m ms) (sym is) there)

    waits : (first : Spec) (mates : List Spec) → filter keep active.tree.models ≡ first ∷ mates
        → nat_lt 0 (count_by (λ model. is_waiting marks model.id) (first ∷ mates)) ≡ not has_started
    waits first mates is = by has_started refl
      where
        by : (b : Bool) → has_started ≡ b → nat_lt 0 (count_by (λ model. is_waiting marks model.id) (first ∷ mates)) ≡ not b
        by true began =
            ap (nat_lt 0)
            (count-none (λ (m : Spec). is_waiting marks m.id) (first ∷ mates)
            (λ m there.
            let its = of m (first ∷ mates) is there in
            let same : group ≡ m.group = eqb-true group m.group its.1 in
            ap (λ b. not b && not (is_ended marks m.id)) (settled.together m its.0 (ap (λ (g : ℕ). list_any (starts_in g) marks) (sym same) ∙ began))))
        by false none =
            let its = of first (first ∷ mates) is (inl refl) in
            let same : group ≡ first.group = eqb-true group first.group its.1 in
            let none_there : list_any (starts_in first.group) marks ≡ false = ap (λ (g : ℕ). list_any (starts_in g) marks) (sym same) ∙ none in
            let not_started : is_started marks first.id ≡ false = started-tells active.tree.models marks first fit settled its.0 ∙ none_there in
            let alive : is_ended marks first.id ≡ false = not-ended active.tree.models marks first fit settled its.0 none_there in
            count-any (λ (m : Spec). is_waiting marks m.id) (first ∷ mates)
            ∙ ap (λ b. (not b && not (is_ended marks first.id)) || list_any (λ (m : Spec). is_waiting marks m.id) mates) not_started
            ∙ ap (λ b. not b || list_any (λ (m : Spec). is_waiting marks m.id) mates) alive

    -- The row tells the truth of the group.
    tells : (first : Spec) (mates : List Spec) (row : GroupRow) → filter keep active.tree.models ≡ first ∷ mates
        → row_of_members marks group (first ∷ mates) ≡ Some row
        → TellsOf row (first ∷ mates) has_started × (row.group ≡ group)
    tells first mates row is row_is =
        subst (λ (r : GroupRow). TellsOf r (first ∷ mates) has_started × (r.group ≡ group)) (same_Some _ row row_is) (
          record {
            own_group = subst (λ (ms : List Spec). list_all keep ms ≡ true) is (list_all-filter keep active.tree.models);
            own_element = all-among (λ (m : Spec). first.element == m.element) (first ∷ mates)
                (λ m there.
                let one = of first (first ∷ mates) is (inl refl) in
                let other = of m (first ∷ mates) is there in
                eq-eqb first.element m.element
                (fit.mates first m one.0 other.0 (sym (eqb-true group first.group one.1) ∙ eqb-true group m.group other.1)));
            waiting = waits first mates is;
            properties = λ none property. at-for_each (λ (p : Property). animates p (first ∷ mates)) property;
          },
          refl,
        )

    -- A group is ready by its row exactly where it is ready by its models.
    pub row-ready : (row : GroupRow) → group_row_of active.tree.models marks group ≡ Some row
        → effect.is_ready row table (pending_has_group pending group) ≡ is_ready active.tree pending marks group
    unfolding group_row_of is_ready
    row-ready row is = by (filter keep active.tree.models) refl is
      where
        by : (members : List Spec) → filter keep active.tree.models ≡ members → row_of_members marks group members ≡ Some row
            → effect.is_ready row table (pending_has_group pending group) ≡ is_ready active.tree pending marks group
        by [] all row_is = absurd (none-some row row_is)
        by (first ∷ mates) all row_is =
            let told = tells first mates row all row_is in
            rows_follow row table (pending_has_group pending group) (first ∷ mates) has_started (may_start active.tree pending marks) told.0 (in-table row told.1)
            ∙ (λ i. (ap has_some (sym all) ∙ has_some-filter keep active.tree.models) i && not has_started
            && list_all (may_start active.tree pending marks) (sym all i))
