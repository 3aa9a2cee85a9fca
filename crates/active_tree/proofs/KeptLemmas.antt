-- What becomes of the kept samples as one is added, and as another commit takes the place of the one before.
use Rattle.std.proofs.Common.{◌≡◌, ◌≢◌, ◌⊎◌, ℕ, Bool, true, false, cond, nat_eq, IsTrue, IfSome, List, [], ◌∷◌, map, filter, Option, Some, None, refl, sym, ap, subst, ◌∙◌, inl, inr}
use Rattle.std.specs.Prelude.{ℤ, ◌-ℤ◌, ◌==◌}
use Rattle.std.specs.List.{IsDistinct}
use Rattle.std.specs.Map.{lookup}
use Rattle.std.specs.Ordering.{int_eq}
use Rattle.std.proofs.lemmas.Bool.{true≢false, false≢true, and_parts, eqb-true, cases_Bool}
use Rattle.std.proofs.lemmas.Bool.Decides.{eqb_tells, Decides-int_eq}
use Rattle.std.proofs.lemmas.Option.{IfSome_then, MatchOption-from_none}
use Rattle.anim_timeline.specs.Timelines.{timeline_time}
use Rattle.keyframe_model.specs.Models.{Spec, PropertyValue, model_value}
use Rattle.micro_time.specs.Timings.{is_done}
use Rattle.anim_names.specs.Lists.{IsAmong}
use Rattle.run_rules.specs.Follows.{TreesAgree}
use Rattle.tree_commit.specs.Tables.{HasAllTimelines, has_timeline}
use Rattle.tree_commit.specs.declared.shown.Shown.{Shown}
use Rattle.tree_commit.specs.Trees.{TreeLists, has_model, local_time}
use Rattle.tree_commit.proofs.Among.{among-has, any-cases, each-among, one-model}
use Rattle.tree_commit.proofs.OverLemmas.{value-later}
use Rattle.active_tree.specs.Kept.{AreKeptOf, IsKeptOf, IsRightOf, KeptSample, is_shown}

-- ---- a sample is kept

-- what the test tells to be the same is the same
pub same-shown : (one other : Shown) → is_shown one other ≡ true → one ≡ other
same-shown one other is =
    let parts = and_parts (int_eq one.start other.start) (nat_eq one.order other.order) is in
    let start = (Decides-int_eq one.start other.start).0 parts.0 in
    let order = eqb-true one.order other.order parts.1 in
    λ i. record { start = start i; order = order i }

-- what a model that is over gives at a tick may be kept
pub kept-of-over : (tree : TreeLists) (model : Spec) (id : ℕ) (shown : Shown) (local : ℤ) (tick : ℕ) (value : Option PropertyValue)
    → IsDistinct nat_eq (map (λ m. m.id) tree.models)
    → IsAmong model tree.models
    → id ≡ model.id
    → local ≡ local_time tree tick model shown
    → is_done model.timing local ≡ true
    → value ≡ model_value model local
    → IsKeptOf tree id (record { shown = shown; since = tick; value = value })
kept-of-over tree model id shown local tick value differ there is_id is_local over is = (
  ap (λ i. has_model tree i) is_id ∙ among-has model tree.models there,
  λ twin also same later after.
      subst (λ (m : Spec). model_value m (local_time tree later m shown) ≡ value) (one-model tree.models model twin differ there also (sym is_id ∙ same))
      (value-later tree model shown tick later after (ap (is_done model.timing) (sym is_local) ∙ over) ∙ sym (is ∙ ap (model_value model) is_local)),
)

-- the samples with one more, under its id
pub kept-more : (tree : TreeLists) (key : ℕ) (kept : KeptSample) (old new : List (ℕ × KeptSample))
    → AreKeptOf tree old
    → IsKeptOf tree key kept
    → ((id : ℕ) → lookup (nat_eq id) new ≡ cond (nat_eq key id) (Some kept) (lookup (nat_eq id) old))
    → AreKeptOf tree new
kept-more tree key kept old new are is written id =
    subst (λ o. IfSome o (IsKeptOf tree id)) (sym (written id)) (either (eqb_tells key id))
  where
    either : (nat_eq key id ≡ true) × (key ≡ id) ⊎ (nat_eq key id ≡ false) × (key ≢ id) → IfSome (cond (nat_eq key id) (Some kept) (lookup (nat_eq id) old)) (IsKeptOf tree id)
    either (inl t) = subst (λ b. IfSome (cond b (Some kept) (lookup (nat_eq id) old)) (IsKeptOf tree id)) (sym t.0) (subst (λ i. IsKeptOf tree i kept) t.1 is)
    either (inr f) = subst (λ b. IfSome (cond b (Some kept) (lookup (nat_eq id) old)) (IsKeptOf tree id)) (sym f.0) (are id)

-- ---- another commit

-- under an id that is not kept there is nothing
filtered-out : (keep : ℕ → Bool) (es : List (ℕ × KeptSample)) (id : ℕ) → keep id ≡ false
    → lookup (nat_eq id) (filter (λ e. keep e.0) es) ≡ None
filtered-out keep [] id out = refl
filtered-out keep (e ∷ es) id out = by (filtered-out keep es id out) (keep e.0) refl
  where
    by : lookup (nat_eq id) (filter (λ e. keep e.0) es) ≡ None
        → (b : Bool) → keep e.0 ≡ b → lookup (nat_eq id) (cond b (e ∷ filter (λ e. keep e.0) es) (filter (λ e. keep e.0) es)) ≡ None
    by rest false is = rest
    by rest true is =
        elim (eqb_tells id e.0) [
          | inl t ↦ absurd (true≢false (sym is ∙ ap keep (sym t.1) ∙ out))
          | inr f ↦ ap (λ b. cond b (Some e.1) (lookup (nat_eq id) (filter (λ e. keep e.0) es))) f.0 ∙ rest
        ]

-- under an id that is kept there is what was there
filtered-in : (keep : ℕ → Bool) (es : List (ℕ × KeptSample)) (id : ℕ) → keep id ≡ true
    → lookup (nat_eq id) (filter (λ e. keep e.0) es) ≡ lookup (nat_eq id) es
filtered-in keep [] id stays = refl
filtered-in keep (e ∷ es) id stays = by (filtered-in keep es id stays) (keep e.0) refl
  where
    by : lookup (nat_eq id) (filter (λ e. keep e.0) es) ≡ lookup (nat_eq id) es
        → (b : Bool) → keep e.0 ≡ b → lookup (nat_eq id) (cond b (e ∷ filter (λ e. keep e.0) es) (filter (λ e. keep e.0) es)) ≡ lookup (nat_eq id) (e ∷ es)
    by rest true is = ap (cond (nat_eq id e.0) (Some e.1)) rest
    by rest false is =
        elim (eqb_tells id e.0) [
          | inl t ↦ absurd (false≢true (sym is ∙ ap keep (sym t.1) ∙ stays))
          | inr f ↦ rest ∙ sym (ap (λ b. cond b (Some e.1) (lookup (nat_eq id) es)) f.0)
        ]

-- a sample of a model that the new commit has too is right there
right-after : (old new : TreeLists) (id : ℕ) (kept : KeptSample)
    → TreesAgree old new → HasAllTimelines old → HasAllTimelines new
    → IsKeptOf old id kept
    → (model : Spec) → IsAmong model new.models → id ≡ model.id → IsRightOf new model kept
right-after old new id kept agree old_clocks new_clocks is model there is_id =
    let found = any-cases (λ (m : Spec). id == m.id) old.models is.0 in
    let before = found.0 in
    let was_id = eqb-true id before.id found.2 in
    let one : before ≡ model = agree.one_model before model found.1 there (sym was_id ∙ is_id) in
    let old_clock = subst (λ (m : Spec). IsTrue (has_timeline old m.timeline)) one (each-among (λ m. IsTrue (has_timeline old m.timeline)) before old.models old_clocks found.1) in
    let new_clock = each-among (λ m. IsTrue (has_timeline new m.timeline)) model new.models new_clocks there in
    let origin = agree.one_origin model.timeline old_clock new_clock in
    let right : IsRightOf old model kept = subst (λ (m : Spec). IsRightOf old m kept) one (is.1 before found.1 was_id) in
    λ tick after. ap (λ o. model_value model (timeline_time o tick -ℤ kept.shown.start)) origin ∙ right tick after

-- the samples of the models that the new commit has too
pub kept-after : (old new : TreeLists) (es kept : List (ℕ × KeptSample))
    → TreesAgree old new → HasAllTimelines old → HasAllTimelines new
    → kept ≡ filter (λ e. has_model new e.0) es
    → AreKeptOf old es
    → AreKeptOf new kept
kept-after old new es kept agree old_clocks new_clocks is are id =
    subst (λ l. IfSome (lookup (nat_eq id) l) (IsKeptOf new id)) (sym is)
    (elim (cases_Bool (has_model new id)) [
      | inl there ↦
          subst (λ o. IfSome o (IsKeptOf new id)) (sym (filtered-in (has_model new) es id there))
          (IfSome_then (lookup (nat_eq id) es) (are id) (λ k right. (there, right-after old new id k agree old_clocks new_clocks right)))
      | inr gone ↦ MatchOption-from_none (lookup (nat_eq id) (filter (λ e. has_model new e.0) es)) (IsKeptOf new id) (filtered-out (has_model new) es id gone)
    ])
