-- The groups of a commit with the indices of their models.
use Rattle.std.proofs.Common.{◌≡◌, ℕ, ◌+◌, ◌<◌, ◌≤◌, Bool, true, false, cond, ◌||◌, List, [], ◌∷◌, ◌++◌, length, map, take, drop, filter, Option, Some, None, refl, sym, ap, ◌∙◌, nat_eq, arith, add-one, subst, zero, suc, inl, inr}
use Rattle.std.specs.Prelude.{option_map, is_some, slice_get, unwrap_or, Vec, if◌then◌else◌, ◌==◌, fold}
use Rattle.std.specs.Prelude.{◌&&◌}
use Rattle.std.specs.List.{list_all, list_any, cons_option, AllByRecursion}
use Rattle.host_tables.proofs.LoopLemmas.{all-filter}
use Rattle.std.proofs.lemmas.Bool.Decides.{eqb_tells}
use Rattle.std.proofs.Math.Bool.{or-false, or_assoc}
use Rattle.std.proofs.lemmas.Option.{none-some, same_Some}
use Rattle.std.proofs.lemmas.List.Folds.{list_any-append}
use Rattle.std.specs.Map.{lookup, set_value}
use Rattle.std.specs.declared.alloc.Global.{Global}
use Rattle.std.proofs.lemmas.List.{length-map, append-nil, take-append-drop}
use Rattle.std.proofs.lemmas.List.Elements.{filter-append, filter_map-append}
use Rattle.indexmap.specs.IndexMap.{insert_entry}
use Rattle.keyframe_model.specs.Models.{Spec}
use Rattle.tree_commit.specs.Trees.{with_group_of}
use Rattle.host_tables.specs.CommitGroups.{at_indices, group_entry, indices_in, commit_groups_from, commit_groups, with_index}
use Rattle.tree_commit.proofs.Among.{apart}

-- ---- the table

pub lookup-entries : (group : ℕ) (entries : List (ℕ × Vec ℕ Global))
    → lookup (nat_eq group) (map group_entry entries) ≡ option_map (λ indices. indices.items) (lookup (nat_eq group) entries)
lookup-entries group [] = refl
lookup-entries group (e ∷ es) =
    elim (nat_eq group e.0) as (λ b.
    cond b (Some e.1.items) (lookup (nat_eq group) (map group_entry es))
    ≡ option_map (λ indices. indices.items) (cond b (Some e.1) (lookup (nat_eq group) es)))
    [ true ↦ refl | false ↦ lookup-entries group es ]

pub with_index-first : (index group : ℕ) (indices : Vec ℕ Global) (entries : List (ℕ × Vec ℕ Global))
    → indices.items ≡ index ∷ []
    → lookup (nat_eq group) entries ≡ None
    → map group_entry (insert_entry nat_eq entries group indices) ≡ with_index index group (map group_entry entries)
with_index-first index group indices [] new = λ none. ap (λ (ps : List ℕ). (group, ps) ∷ []) new
with_index-first index group indices (e ∷ es) new =
    elim (nat_eq group e.0) as (λ b.
    cond b (Some e.1) (lookup (nat_eq group) es) ≡ None
    → map group_entry (if b then (e.0, indices) ∷ es else e ∷ insert_entry nat_eq es group indices)
    ≡ (if b then (e.0, e.1.items ++ index ∷ []) ∷ map group_entry es else group_entry e ∷ with_index index group (map group_entry es)))
    [ true ↦ λ none. cc | false ↦ λ none. ap (λ rest. group_entry e ∷ rest) (with_index-first index group indices es new none) ]

pub with_index-further : (index group : ℕ) (old indices : Vec ℕ Global) (entries : List (ℕ × Vec ℕ Global))
    → indices.items ≡ old.items ++ index ∷ []
    → lookup (nat_eq group) entries ≡ Some old
    → map group_entry (set_value (nat_eq group) entries indices) ≡ with_index index group (map group_entry entries)
with_index-further index group old indices [] new = λ found. cc
with_index-further index group old indices (e ∷ es) new =
    elim (nat_eq group e.0) as (λ b.
    cond b (Some e.1) (lookup (nat_eq group) es) ≡ Some old
    → map group_entry (cond b ((e.0, indices) ∷ es) (e ∷ set_value (nat_eq group) es indices))
    ≡ (if b then (e.0, e.1.items ++ index ∷ []) ∷ map group_entry es else group_entry e ∷ with_index index group (map group_entry es))) [
      | true ↦ λ found.
          let is_old : e.1 ≡ old = cc in
          ap (λ (ps : List ℕ). (e.0, ps) ∷ map group_entry es) (new ∙ ap (λ (v : Vec ℕ Global). v.items ++ index ∷ []) (sym is_old))
      | false ↦ λ found. ap (λ rest. group_entry e ∷ rest) (with_index-further index group old indices es new found)
    ]

-- ---- the groups in order

keys : List (ℕ × List ℕ) → List ℕ
keys grouped = map (λ entry. entry.0) grouped

-- a group that is there stays, another goes last
keys-with : (index : ℕ) (model : Spec) (grouped : List (ℕ × List ℕ))
    → map (λ entry. entry.0) (with_index index model.group grouped) ≡ with_group_of (map (λ entry. entry.0) grouped) model
keys-with index model [] = refl
keys-with index model (e ∷ es) =
    elim (nat_eq model.group e.0) as (λ b.
    map (λ entry. entry.0) (if b then (e.0, e.1 ++ index ∷ []) ∷ es else e ∷ with_index index model.group es)
    ≡ (if (b || list_any (λ group. model.group == group) (map (λ entry. entry.0) es)) then e.0 ∷ map (λ entry. entry.0) es else e.0 ∷ (map (λ entry. entry.0) es ++ model.group ∷ []))) [
      | true ↦ refl
      | false ↦ ap (λ rest. e.0 ∷ rest) (keys-with index model es) ∙ inside (list_any (λ group. model.group == group) (map (λ entry. entry.0) es))
    ]
  where
    inside : (b : Bool)
        → e.0 ∷ (if b then map (λ entry. entry.0) es else map (λ entry. entry.0) es ++ model.group ∷ [])
        ≡ (if b then e.0 ∷ map (λ entry. entry.0) es else e.0 ∷ (map (λ entry. entry.0) es ++ model.group ∷ []))
    inside true = refl
    inside false = refl

keys-from : (index : ℕ) (grouped : List (ℕ × List ℕ)) (models : List Spec)
    → map (λ entry. entry.0) (commit_groups_from index grouped models) ≡ fold with_group_of (map (λ entry. entry.0) grouped) models
keys-from index grouped [] = refl
keys-from index grouped (model ∷ models) =
    keys-from (index + 1) (with_index index model.group grouped) models
    ∙ ap (λ (groups : List ℕ). fold with_group_of groups models) (keys-with index model grouped)

-- the groups stand in the order of their first models
pub groups-in_order : (models : List Spec) → map (λ entry. entry.0) (commit_groups models) ≡ fold with_group_of [] models
groups-in_order models = keys-from 0 [] models

-- ---- the indices of a group

pub indices-with : (index group other : ℕ) (grouped : List (ℕ × List ℕ))
    → indices_in (with_index index other grouped) group ≡ (if nat_eq group other then indices_in grouped group ++ index ∷ [] else indices_in grouped group)
indices-with index group other [] =
    elim (nat_eq group other) as (λ b. unwrap_or (cond b (Some (index ∷ [])) None) [] ≡ (if b then [] ++ index ∷ [] else [])) [ true ↦ refl | false ↦ refl ]
indices-with index group other (e ∷ es) =
    elim (eqb_tells other e.0) [
      | inl t ↦
          let same : nat_eq group e.0 ≡ nat_eq group other = ap (nat_eq group) (sym t.1) in
          ap (λ (b : Bool). indices_in (if b then (e.0, e.1 ++ index ∷ []) ∷ es else e ∷ with_index index other es) group) t.0
          ∙ here (nat_eq group e.0)
          ∙ ap (λ (b : Bool). if b then indices_in (e ∷ es) group ++ index ∷ [] else indices_in (e ∷ es) group) same
      | inr f ↦
          ap (λ (b : Bool). indices_in (if b then (e.0, e.1 ++ index ∷ []) ∷ es else e ∷ with_index index other es) group) f.0
          ∙ elim (eqb_tells group e.0) [
            | inl u ↦
                let differ : nat_eq group other ≡ false = apart group other (λ (is : group ≡ other). f.1 (sym is ∙ u.1)) in
                ap (λ (b : Bool). unwrap_or (cond b (Some e.1) (lookup (nat_eq group) (with_index index other es))) []) u.0
                ∙ sym (ap (λ (b : Bool). if b then indices_in (e ∷ es) group ++ index ∷ [] else indices_in (e ∷ es) group) differ
                ∙ ap (λ (b : Bool). unwrap_or (cond b (Some e.1) (lookup (nat_eq group) es)) []) u.0)
            | inr v ↦
                ap (λ (b : Bool). unwrap_or (cond b (Some e.1) (lookup (nat_eq group) (with_index index other es))) []) v.0
                ∙ indices-with index group other es
                ∙ ap (λ (ps : List ℕ). if nat_eq group other then ps ++ index ∷ [] else ps)
                (sym (ap (λ (b : Bool). unwrap_or (cond b (Some e.1) (lookup (nat_eq group) es)) []) v.0))
          ]
    ]
  where
    here : (b : Bool)
        → unwrap_or (cond b (Some (e.1 ++ index ∷ [])) (lookup (nat_eq group) es)) []
        ≡ (if b then unwrap_or (cond b (Some e.1) (lookup (nat_eq group) es)) [] ++ index ∷ [] else unwrap_or (cond b (Some e.1) (lookup (nat_eq group) es)) [])
    here true = refl
    here false = refl

-- what stands first of the models that are left
front : (models : List Spec) (i : ℕ) (model : Spec) (rest : List Spec) → drop i models ≡ model ∷ rest
    → (slice_get models i ≡ Some model) × (drop (suc i) models ≡ rest) × (take (suc i) models ≡ take i models ++ model ∷ [])
front [] zero model rest is = cc
front [] (suc i) model rest is = cc
front (x ∷ models) zero model rest is =
    let first : x ≡ model = cc in
    let others : models ≡ rest = cc in
    (ap Some first, others, ap (λ (m : Spec). m ∷ []) first)
front (x ∷ models) (suc i) model rest is =
    let here = front models i model rest is in
    (here.0, here.1, ap (λ (ms : List Spec). x ∷ ms) here.2)

member-next : (models : List Spec) (index group : ℕ) (model : Spec) (indices : List ℕ) (b : Bool)
    → nat_eq group model.group ≡ b
    → slice_get models index ≡ Some model
    → at_indices models indices ≡ filter (λ m. group == m.group) (take index models)
    → at_indices models (if b then indices ++ index ∷ [] else indices) ≡ filter (λ m. group == m.group) (take index models ++ model ∷ [])
member-next models index group model indices true test found is =
    filter_map-append (slice_get models) indices (index ∷ [])
    ∙ ap (λ (o : Option Spec). at_indices models indices ++ cons_option o []) found
    ∙ ap (λ (ms : List Spec). ms ++ model ∷ []) is
    ∙ ap (λ (c : Bool). filter (λ m. group == m.group) (take index models) ++ cond c (model ∷ []) []) (sym test)
    ∙ sym (filter-append (λ m. group == m.group) (take index models) (model ∷ []))
member-next models index group model indices false test found is =
    is
    ∙ sym (append-nil (filter (λ m. group == m.group) (take index models)))
    ∙ ap (λ (c : Bool). filter (λ m. group == m.group) (take index models) ++ cond c (model ∷ []) []) (sym test)
    ∙ sym (filter-append (λ m. group == m.group) (take index models) (model ∷ []))

members-from : (models : List Spec) (index : ℕ) (grouped : List (ℕ × List ℕ)) (rest : List Spec)
    → drop index models ≡ rest
    → ((group : ℕ) → at_indices models (indices_in grouped group) ≡ filter (λ m. group == m.group) (take index models))
    → (group : ℕ) → at_indices models (indices_in (commit_groups_from index grouped rest) group) ≡ filter (λ m. group == m.group) models
members-from models index grouped [] left so_far = λ group.
    so_far group ∙ ap (filter (λ m. group == m.group)) (sym (append-nil (take index models)) ∙ ap (λ (ms : List Spec). take index models ++ ms) (sym left) ∙ take-append-drop index models)
members-from models index grouped (model ∷ rest) left so_far =
    let here = front models index model rest left in
    let next : drop (index + 1) models ≡ rest = ap (λ (k : ℕ). drop k models) (add-one index) ∙ here.1 in
    let taken : take (index + 1) models ≡ take index models ++ model ∷ [] = ap (λ (k : ℕ). take k models) (add-one index) ∙ here.2 in
    members-from models (index + 1) (with_index index model.group grouped) rest next
    (λ group.
    ap (at_indices models) (indices-with index group model.group grouped)
    ∙ member-next models index group model (indices_in grouped group) (nat_eq group model.group) refl here.0 (so_far group)
    ∙ ap (filter (λ m. group == m.group)) (sym taken))

-- the models at the indices of a group are those of the group
pub group-members : (models : List Spec) (group : ℕ) → at_indices models (indices_in (commit_groups models) group) ≡ filter (λ m. group == m.group) models
group-members models group = members-from models 0 [] models refl (λ g. refl) group

-- ---- which groups there are

lookup-keys : (group : ℕ) (grouped : List (ℕ × List ℕ)) → is_some (lookup (nat_eq group) grouped) ≡ list_any (λ other. group == other) (map (λ entry. entry.0) grouped)
lookup-keys group [] = refl
lookup-keys group (e ∷ es) =
    elim (nat_eq group e.0) as (λ b.
    is_some (cond b (Some e.1) (lookup (nat_eq group) es)) ≡ (b || list_any (λ other. group == other) (map (λ entry. entry.0) es)))
    [ true ↦ refl | false ↦ lookup-keys group es ]

group-added : (groups : List ℕ) (model : Spec) (group : ℕ) (b : Bool) → list_any (λ other. model.group == other) groups ≡ b
    → list_any (λ other. group == other) (if b then groups else groups ++ model.group ∷ []) ≡ (list_any (λ other. group == other) groups || (group == model.group))
group-added groups model group true is =
    elim (eqb_tells group model.group) [
      | inl t ↦
          let there : list_any (λ other. group == other) groups ≡ true = ap (λ (g : ℕ). list_any (λ other. g == other) groups) t.1 ∙ is in
          there ∙ sym (ap (λ b. b || (group == model.group)) there)
      | inr f ↦ sym (ap (λ b. list_any (λ other. group == other) groups || b) f.0 ∙ or-false (list_any (λ other. group == other) groups))
    ]
group-added groups model group false is =
    list_any-append (λ other. group == other) groups (model.group ∷ [])
    ∙ ap (λ b. list_any (λ other. group == other) groups || b) (or-false (group == model.group))

pub groups-any : (groups : List ℕ) (models : List Spec) (group : ℕ)
    → list_any (λ other. group == other) (fold with_group_of groups models)
    ≡ (list_any (λ other. group == other) groups || list_any (λ model. group == model.group) models)
groups-any groups [] group = sym (or-false (list_any (λ other. group == other) groups))
groups-any groups (model ∷ models) group =
    groups-any (with_group_of groups model) models group
    ∙ ap (λ b. b || list_any (λ model. group == model.group) models) (group-added groups model group (list_any (λ other. model.group == other) groups) refl)
    ∙ or_assoc (list_any (λ other. group == other) groups) (group == model.group) (list_any (λ model. group == model.group) models)

-- a group is there exactly where a model is of it
pub group-has : (models : List Spec) (group : ℕ) → is_some (lookup (nat_eq group) (commit_groups models)) ≡ list_any (λ model. group == model.group) models
group-has models group =
    lookup-keys group (commit_groups models)
    ∙ ap (list_any (λ other. group == other)) (groups-in_order models)
    ∙ groups-any [] models group

-- ---- indices are within the commit

below-later : (n m : ℕ) (indices : List ℕ) → n ≤ m → AllByRecursion (λ index. index < n) indices → AllByRecursion (λ index. index < m) indices
below-later n m [] le all = tt
below-later n m (p ∷ indices) le all = let first = all.0 in (omega arith, below-later n m indices le all.1)

pub below-append : (n index : ℕ) (indices : List ℕ) → index < n → AllByRecursion (λ index. index < n) indices → AllByRecursion (λ index. index < n) (indices ++ index ∷ [])
below-append n index [] lt all = (lt, tt)
below-append n index (p ∷ indices) lt all = (all.0, below-append n index indices lt all.1)

below-if : (b : Bool) (index : ℕ) (indices : List ℕ) → AllByRecursion (λ p. p < index) indices → AllByRecursion (λ p. p < index + 1) (if b then indices ++ index ∷ [] else indices)
below-if true index indices all = below-append (index + 1) index indices (omega arith) (below-later index (index + 1) indices (omega arith) all)
below-if false index indices all = below-later index (index + 1) indices (omega arith) all

below-from : (index : ℕ) (grouped : List (ℕ × List ℕ)) (models : List Spec)
    → ((group : ℕ) → AllByRecursion (λ p. p < index) (indices_in grouped group))
    → (group : ℕ) → AllByRecursion (λ p. p < index + length models) (indices_in (commit_groups_from index grouped models) group)
below-from index grouped [] all = λ group. below-later index (index + 0) (indices_in grouped group) (omega arith) (all group)
below-from index grouped (model ∷ models) all = λ group.
    below-later ((index + 1) + length models) (index + length (model ∷ models)) (indices_in (commit_groups_from (index + 1) (with_index index model.group grouped) models) group) (omega arith)
    (below-from (index + 1) (with_index index model.group grouped) models
    (λ g. subst (AllByRecursion (λ p. p < index + 1)) (sym (indices-with index g model.group grouped)) (below-if (nat_eq g model.group) index (indices_in grouped g) (all g)))
    group)

pub below-at : (n : ℕ) (indices : List ℕ) (j index : ℕ) → AllByRecursion (λ p. p < n) indices → slice_get indices j ≡ Some index → index < n
below-at n [] j index all found = absurd (none-some index found)
below-at n (p ∷ indices) zero index all found = subst (λ (k : ℕ). k < n) (same_Some p index found) all.0
below-at n (p ∷ indices) (suc j) index all found = below-at n indices j index all.1 found

-- each index of a group is that of a model
pub group-within : (models : List Spec) (group j index : ℕ) → slice_get (indices_in (commit_groups models) group) j ≡ Some index → index < length models
group-within models group j index found =
    let all = below-from 0 [] models (λ g. tt) group in
    let lt : index < 0 + length models = below-at (0 + length models) (indices_in (commit_groups models) group) j index all found in
    omega arith

-- ---- loops over the indices of a group

-- a test of those models at indices that pass another
pub all-indices : (models : List Spec) (p q : Spec → Bool) (index : ℕ) (indices : List ℕ) (model : Spec)
    → slice_get models index ≡ Some model
    → list_all q (filter p (at_indices models (index ∷ indices))) ≡ (cond (p model) (q model) true && list_all q (filter p (at_indices models indices)))
all-indices models p q index indices model found =
    ap (λ (o : Option Spec). list_all q (filter p (cons_option o (at_indices models indices)))) found
    ∙ all-filter p q model (at_indices models indices) (p model) refl

some-at : (models : List Spec) (index : ℕ) → index < length models → is_some (slice_get models index) ≡ true
some-at [] index lt = absurd (omega arith)
some-at (m ∷ models) zero lt = refl
some-at (m ∷ models) (suc index) lt = some-at models index (omega arith)

one-more : (o : Option Spec) (models : List Spec) (indices : List ℕ) (index : ℕ) → is_some o ≡ true → length models ≡ length indices
    → length (cons_option o models) ≡ length (index ∷ indices)
one-more None models indices index there rest = cc
one-more (Some model) models indices index there rest = omega arith

-- as many models as indices
pub length-indices : (models : List Spec) (indices : List ℕ) → ((j index : ℕ) → slice_get indices j ≡ Some index → index < length models)
    → length (at_indices models indices) ≡ length indices
length-indices models [] within = refl
length-indices models (index ∷ indices) within =
    one-more (slice_get models index) (at_indices models indices) indices index (some-at models index (within 0 index refl))
    (length-indices models indices (λ j p found. within (suc j) p found))

-- a group has as many indices as models
pub length-members : (models : List Spec) (group : ℕ) → length (indices_in (commit_groups models) group) ≡ length (filter (λ m. group == m.group) models)
length-members models group =
    sym (length-indices models (indices_in (commit_groups models) group) (group-within models group))
    ∙ ap (λ (ms : List Spec). length ms) (group-members models group)

-- each index of a group in a table that is the grouped of the models
pub indices-within : (models : List Spec) (grouped : List (ℕ × List ℕ)) (group : ℕ) (indices : List ℕ)
    → grouped ≡ commit_groups models → indices ≡ indices_in grouped group
    → (j index : ℕ) → slice_get indices j ≡ Some index → index < length models
indices-within models grouped group indices is are j index found =
    group-within models group j index
    (ap (λ (s : List (ℕ × List ℕ)). slice_get (indices_in s group) j) (sym is) ∙ ap (λ (ps : List ℕ). slice_get ps j) (sym are) ∙ found)

-- and the models at its indices
pub indices-members : (models : List Spec) (grouped : List (ℕ × List ℕ)) (group : ℕ) (indices : List ℕ)
    → grouped ≡ commit_groups models → indices ≡ indices_in grouped group
    → at_indices models indices ≡ filter (λ m. group == m.group) models
indices-members models grouped group indices is are =
    ap (at_indices models) (are ∙ ap (λ (s : List (ℕ × List ℕ)). indices_in s group) is) ∙ group-members models group

-- and how many they are
pub indices-length : (models : List Spec) (grouped : List (ℕ × List ℕ)) (group : ℕ) (indices : List ℕ)
    → grouped ≡ commit_groups models → indices ≡ indices_in grouped group
    → length indices ≡ length (filter (λ m. group == m.group) models)
indices-length models grouped group indices is are =
    ap (λ (ps : List ℕ). length ps) (are ∙ ap (λ (s : List (ℕ × List ℕ)). indices_in s group) is) ∙ length-members models group

-- a test that elements pass leaves no more of them
pub filter-fewer : (p : Spec → Bool) (models : List Spec) → length (filter p models) ≤ length models
filter-fewer p [] = omega arith
filter-fewer p (m ∷ models) = let rest = filter-fewer p models in either (p m) (filter p models) models rest
  where
    either : (b : Bool) (few all : List Spec) → length few ≤ length all → length (cond b (m ∷ few) few) ≤ length (m ∷ all)
    either true few all le = omega arith
    either false few all le = omega arith

-- the group at an index of a table that is the grouped of the models
pub group-found : (models : List Spec) (grouped : List (ℕ × List ℕ)) (i group : ℕ)
    → grouped ≡ commit_groups models
    → slice_get (map (λ entry. entry.0) grouped) i ≡ Some group
    → slice_get (fold with_group_of [] models) i ≡ Some group
group-found models grouped i group is found =
    ap (λ (groups : List ℕ). slice_get groups i) (sym (ap (λ (s : List (ℕ × List ℕ)). map (λ entry. entry.0) s) is ∙ groups-in_order models)) ∙ found

pub group-count : (models : List Spec) (grouped : List (ℕ × List ℕ)) → grouped ≡ commit_groups models
    → length grouped ≡ length (fold with_group_of [] models)
group-count models grouped is =
    sym (length-map grouped (λ entry. entry.0))
    ∙ ap (λ (groups : List ℕ). length groups) (ap (λ (s : List (ℕ × List ℕ)). map (λ entry. entry.0) s) is ∙ groups-in_order models)
