-- What a host shows, and what its marks show: the same of each model of the active commit.
use Rattle.std.proofs.Common.{◌≡◌, ℕ, ◌≤◌, get_or, Bool, true, false, cond, List, [], ◌∷◌, map, filter, Option, None, refl, ap, ◌∙◌}
use Rattle.std.specs.Prelude.{unsigned_abs, filter_map, fold, option_map, IfSome, if◌then◌else◌, ◌==◌}
use Rattle.std.specs.List.{list_any, cons_option}
use Rattle.std.proofs.lemmas.Bool.{eq-eqb, or_left, or_right}
use Rattle.anim_names.specs.declared.property.Property.{Property}
use Rattle.anim_names.specs.declared.property.TheConstants.{PROPERTIES}
use Rattle.micro_time.specs.declared.TheConstants.{LARGEST_LOCAL}
use Rattle.keyframe_model.specs.Models.{Spec, PropertyValue}
use Rattle.tree_commit.specs.declared.shown.Shown.{Shown}
use Rattle.tree_commit.specs.Trees.{Element, Look, has_model, local_time}
use Rattle.run_rules.specs.Frames.{DrawnFrame, DrawnRow, Given, LocalTimesFit, animated_value, animates, frame_at, frame_by, given_by, latest_of, row_of, show, shown_by}
use Rattle.anim_host.specs.Hosting.{Hosting, shown_in}

-- ---- one model

shown-there : (host : Hosting) (id : ℕ) → has_model host.active.tree id ≡ true → shown_in host id ≡ shown_by host.marks id
shown-there host id there = ap (λ b. if b then shown_by host.marks id else None) there

itself : (id : ℕ) → (id == id) ≡ true
itself id = eq-eqb id id refl

-- ---- all models that animate a property

filtered-same : (f g : Spec → Option Given) (p : Spec → Bool) (model : Spec) (models : List Spec)
    → f model ≡ g model → filter_map f (filter p models) ≡ filter_map g (filter p models)
    → filter_map f (filter p (model ∷ models)) ≡ filter_map g (filter p (model ∷ models))
filtered-same f g p model models one rest = two (p model)
  where
    two : (b : Bool) → filter_map f (cond b (model ∷ filter p models) (filter p models)) ≡ filter_map g (cond b (model ∷ filter p models) (filter p models))
    two true = ap (λ given. cons_option given (filter_map f (filter p models))) one ∙ ap (λ (givens : List Given). cons_option (g model) givens) rest
    two false = rest

given-same : (host : Hosting) (tick : ℕ) (p : Spec → Bool) (models : List Spec)
    → ((id : ℕ) → list_any (λ (m : Spec). id == m.id) models ≡ true → has_model host.active.tree id ≡ true)
    → filter_map (λ (m : Spec). given_by host.active.tree tick m (shown_in host m.id)) (filter p models)
    ≡ filter_map (λ (m : Spec). given_by host.active.tree tick m (shown_by host.marks m.id)) (filter p models)
given-same host tick p [] there = refl
given-same host tick p (model ∷ models) there =
    filtered-same
    (λ (m : Spec). given_by host.active.tree tick m (shown_in host m.id))
    (λ (m : Spec). given_by host.active.tree tick m (shown_by host.marks m.id))
    p model models
    (ap (given_by host.active.tree tick model)
    (shown-there host model.id (there model.id (or_left (model.id == model.id) (list_any (λ (m : Spec). model.id == m.id) models) (itself model.id)))))
    (given-same host tick p models
    (λ id found. there id (or_right (id == model.id) (list_any (λ (m : Spec). id == m.id) models) found)))

value-same : (host : Hosting) (tick element : ℕ) (property : Property)
    → animated_value host.active.tree (shown_in host) tick element property
    ≡ animated_value host.active.tree (shown_by host.marks) tick element property
unfolding animated_value
value-same host tick element property =
    ap (λ (givens : List Given). option_map (λ given. given.value) (latest_of givens))
    (given-same host tick (animates element property) host.active.tree.models (λ id found. found))

-- ---- rows and frames

looks-same : (host : Hosting) (tick : ℕ) (element : Element) (look : Look) (properties : List Property)
    → fold (λ look property. show look (animated_value host.active.tree (shown_in host) tick element.id property)) look properties
    ≡ fold (λ look property. show look (animated_value host.active.tree (shown_by host.marks) tick element.id property)) look properties
looks-same host tick element look [] = refl
looks-same host tick element look (property ∷ properties) =
    ap
    (λ (o : Option PropertyValue).
    fold (λ look property. show look (animated_value host.active.tree (shown_in host) tick element.id property)) (show look o) properties)
    (value-same host tick element.id property)
    ∙ looks-same host tick element (show look (animated_value host.active.tree (shown_by host.marks) tick element.id property)) properties

row-same : (host : Hosting) (tick : ℕ) (element : Element)
    → row_of host.active.tree (shown_in host) tick element ≡ row_of host.active.tree (shown_by host.marks) tick element
unfolding row_of
row-same host tick element =
    ap (λ (look : Look). record { element = element.id; look = look }) (looks-same host tick element element.look PROPERTIES)

rows-same : (host : Hosting) (tick : ℕ) (elements : List Element)
    → map (row_of host.active.tree (shown_in host) tick) elements ≡ map (row_of host.active.tree (shown_by host.marks) tick) elements
rows-same host tick [] = refl
rows-same host tick (element ∷ elements) =
    ap (λ (r : DrawnRow). r ∷ map (row_of host.active.tree (shown_in host) tick) elements) (row-same host tick element)
    ∙ ap (λ (rs : List DrawnRow). row_of host.active.tree (shown_by host.marks) tick element ∷ rs) (rows-same host tick elements)

frame : ℕ → ℕ → List DrawnRow → DrawnFrame
frame time commit rows = record { time = time; commit = commit; rows = rows }

pub frame-same : (host : Hosting) (time : ℕ) → frame_by host.active (shown_in host) time ≡ frame_at host.active host.marks time
unfolding frame_at frame
frame-same host time = ap (λ (rows : List DrawnRow). frame time host.active.number rows) (rows-same host time host.active.tree.elements)

-- ---- local times

fits-if : (b : Bool) (shown : Option Shown) (P : Shown → Type 0) → IfSome shown P → IfSome (if b then shown else None) P
fits-if true shown P fits = fits
fits-if false shown P fits = tt

pub locals-same : (host : Hosting) (time : ℕ) → LocalTimesFit host.active.tree (shown_by host.marks) time
    → LocalTimesFit host.active.tree (shown_in host) time
locals-same host time fits = λ k d within.
    let model = get_or host.active.tree.models k d in
    fits-if (has_model host.active.tree model.id) (shown_by host.marks model.id)
    (λ (s : Shown). unsigned_abs (local_time host.active.tree time model s) ≤ LARGEST_LOCAL) (fits k d within)
