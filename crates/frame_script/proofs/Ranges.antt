-- What a line says is of values that may be.
use Rattle.std.proofs.Common.{◌≡◌, ℕ, ◌≤◌, Bool, true, false, cond, leb, eqb, ◌&&◌, ℤ, pos, negsuc, List, [], ◌∷◌, length, Option, Some, None, Result, Ok, Err, refl, ap, subst, arith}
use Rattle.std.specs.Prelude.{ok_or, codes, IfSome}
use Rattle.std.specs.Str.{bytes_eq}
use Rattle.std.proofs.lemmas.Bool.{and_parts, leb-true}
use Rattle.anim_names.specs.declared.property.Property.{Property}
use Rattle.anim_names.specs.declared.property.Property.TheVariants.{Opacity, Transform}
use Rattle.anim_names.specs.declared.version.Version.{Version}
use Rattle.anim_timeline.specs.declared.TheConstants.{LAST_TIME}
use Rattle.anim_timeline.specs.Timelines.{IsTime}
use Rattle.anim_delegate.specs.declared.policy.Policy.{Policy}
use Rattle.micro_time.specs.Timings.{TimingParts, IsTiming}
use Rattle.easing_fixed.specs.declared.easing.Easing.{Easing}
use Rattle.easing_fixed.specs.Easings.{IsEasing}
use Rattle.value_blend.specs.Blends.{IsOpacity}
use Rattle.transform_ops.specs.declared.TheConstants.{MOST_OPERATIONS}
use Rattle.transform_ops.specs.declared.op.TransformOp.{TransformOp}
use Rattle.transform_ops.specs.Lists.{IsList}
use Rattle.curve_keys.specs.declared.TheConstants.{FEWEST_KEYS, MOST_KEYS}
use Rattle.curve_keys.specs.declared.key.Key.{Key}
use Rattle.curve_keys.specs.Curves.{IsKey}
use Rattle.keyframe_model.specs.Models.{IsId, PropertyValue, OpacityValue, TransformValue, IsPropertyValue}
use Rattle.run_rules.specs.declared.compositor_step.CompositorStep.{CompositorStep}
use Rattle.run_rules.specs.declared.compositor_step.CompositorStep.TheVariants.{Pull, Activate, Tick}
use Rattle.tree_commit.specs.Ranges.{IsChange}
use Rattle.tree_commit.specs.Edits.{Change, OnElements, OnTimelines, OnModels, AddElement, RemoveElement, SetOwn, AddTimeline, RemoveModel}
use Rattle.run_rules.specs.Scripts.{StepOfMain, EditStep, CommitStep, DrainStep, IsStep}
use Rattle.script_fields.specs.declared.fault.FieldFault.{FieldFault}
use Rattle.script_fields.specs.declared.values.TimingNumbers.{TimingNumbers}
use Rattle.script_fields.specs.Fields.{◌>>=◌}
use Rattle.script_fields.specs.Numbers.{number_said}
use Rattle.script_fields.specs.Keywords.{property_said, policy_said}
use Rattle.script_fields.specs.Values.{id_said, opacity_said, time_said, key_time_said, start_said, timing_of}
use Rattle.script_fields.specs.Easings.{easing_said}
use Rattle.script_fields.specs.Lists.{is_list_long, list_read}
use Rattle.script_fields.proofs.Ranges.{bind_ok, id_in_range, opacity_in_range, time_in_range, key_time_in_range, start_in_range, timing_in_range, easing_in_range, list_in_range}
use Rattle.frame_script.specs.declared.cause.Cause.{Cause}
use Rattle.frame_script.specs.declared.cause.Cause.TheVariants.{BadLine, BadNumber, BadCurve, BadTiming, BadEasing}
use Rattle.frame_script.specs.declared.model_line.ModelNames.{ModelNames}
use Rattle.frame_script.specs.declared.model_line.ModelLine.{ModelLine}
use Rattle.frame_script.specs.Causes.{caused}
use Rattle.frame_script.specs.Said.{alone, new_element, element_said, is_value_long, value_said, new_own, own_said, new_timeline, timeline_said, old_id, drop_element_said, drop_model_said, edit_said, named, ids_said, names_said, numbers_said, key_count_of, key_count_said, curve_line_said, after_numbers, after_names, after_model, model_said, step_said, key_parts, key_of, key_said, is_one, own_opacity, own_list, tick_said, compositor_said}

-- ---- what is read

abbrev pub done : {A : Type 0} → A → Result A Cause
done x = Ok x

pub ok_is : {A : Type 0} (x y : A) → done x ≡ done y → x ≡ y
ok_is x y h = cc

pub ok_or_is : {A : Type 0} (o : Option A) (cause : Cause) (x : A) → ok_or o cause ≡ Ok x → o ≡ Some x
ok_or_is None cause x h = absurd cc
ok_or_is {A} (Some y) cause x h = let some : A → Option A = λ z. Some z in ap some (ok_is y x h)

pub caused_is : {A : Type 0} (r : Result A FieldFault) (x : A) → caused r ≡ Ok x → r ≡ Ok x
caused_is {A} (Ok y) x h = let ok : A → Result A FieldFault = λ z. Ok z in ap ok (ok_is y x h)
caused_is (Err f) x h = absurd cc

pub guarded : {A : Type 0} (test : Bool) (r : Result A Cause) (cause : Cause) (x : A) → cond test r (Err cause) ≡ Ok x → (test ≡ true) × (r ≡ Ok x)
guarded true r cause x h = (refl, h)
guarded false r cause x h = absurd cc

-- one of two, whichever it is
pub picked : {A : Type 0} (P : Type 0) (test : Bool) (first rest : Result A Cause) (x : A) → (first ≡ Ok x → P) → (rest ≡ Ok x → P) → cond test first rest ≡ Ok x → P
picked P true first rest x f r h = f h
picked P false first rest x f r h = r h

pub list_is_short : (fields : List (List ℕ)) → is_list_long fields ≡ true → length fields ≤ MOST_OPERATIONS
list_is_short fields h = let b = and_parts (leb 1 (length fields)) (leb (length fields) MOST_OPERATIONS) h in leb-true (length fields) MOST_OPERATIONS b.1

-- ---- values of a property

pub own_opacity_fits : (value : List (List ℕ)) (v : ℕ) → is_one value ≡ true → own_opacity value ≡ Ok v → IsOpacity v
own_opacity_fits [] v one h = absurd cc
own_opacity_fits (field ∷ []) v one h = opacity_in_range field v (ok_or_is (opacity_said field) BadNumber v h)
own_opacity_fits (field ∷ more ∷ others) v one h = absurd cc

pub own_list_fits : (value : List (List ℕ)) (v : List TransformOp) → is_list_long value ≡ true → own_list value ≡ Ok v → IsList v
unfolding own_list
own_list_fits value v long h = list_in_range value v (list_is_short value long) (caused_is (list_read value) v h)

value_in_range : (property : Property) (value : List (List ℕ)) (v : PropertyValue) → is_value_long property value ≡ true → value_said property value ≡ Ok v → IsPropertyValue v
value_in_range Opacity value v long h =
    let a = bind_ok (own_opacity value) (λ opacity. done (OpacityValue opacity)) v h in
    subst IsPropertyValue (ok_is (OpacityValue a.0) v a.2) (own_opacity_fits value a.0 long a.1)
value_in_range Transform value v long h =
    let a = bind_ok (own_list value) (λ list. done (TransformValue list)) v h in
    subst IsPropertyValue (ok_is (TransformValue a.0) v a.2) (own_list_fits value a.0 long a.1)

-- ---- edits

new_element_fits : (id opacity : List ℕ) (list : List (List ℕ)) (change : Change) → length list ≤ MOST_OPERATIONS → new_element id opacity list ≡ Ok change → IsChange change
unfolding new_element
new_element_fits id opacity list change short h =
    let a = bind_ok (ok_or (id_said id) BadNumber) (λ name. ok_or (opacity_said opacity) BadNumber >>= λ own. caused (list_read list) >>= λ ops. done (OnElements (AddElement name (record { opacity = own; transform = ops })))) change h in
    let b = bind_ok (ok_or (opacity_said opacity) BadNumber) (λ own. caused (list_read list) >>= λ ops. done (OnElements (AddElement a.0 (record { opacity = own; transform = ops })))) change a.2 in
    let c = bind_ok (caused (list_read list)) (λ ops. done (OnElements (AddElement a.0 (record { opacity = b.0; transform = ops })))) change b.2 in
    subst IsChange (ok_is (OnElements (AddElement a.0 (record { opacity = b.0; transform = c.0 }))) change c.2) (
      id_in_range id a.0 (ok_or_is (id_said id) BadNumber a.0 a.1),
      record {
        opacity = opacity_in_range opacity b.0 (ok_or_is (opacity_said opacity) BadNumber b.0 b.1);
        transform = list_in_range list c.0 short (caused_is (list_read list) c.0 c.1);
      },
    )

element_fits : (fields : List (List ℕ)) (change : Change) → element_said fields ≡ Ok change → IsChange change
element_fits [] change h = absurd cc
element_fits (id ∷ []) change h = absurd cc
element_fits (id ∷ opacity ∷ list) change h =
    let g = guarded (is_list_long list) (new_element id opacity list) BadLine change h in
    new_element_fits id opacity list change (list_is_short list g.0) g.1

new_own_fits : (property : Property) (id : List ℕ) (value : List (List ℕ)) (change : Change) → is_value_long property value ≡ true → new_own property id value ≡ Ok change → IsChange change
unfolding new_own
new_own_fits property id value change long h =
    let a = bind_ok (ok_or (id_said id) BadNumber) (λ name. value_said property value >>= λ own. done (OnElements (SetOwn name own))) change h in
    let b = bind_ok (value_said property value) (λ own. done (OnElements (SetOwn a.0 own))) change a.2 in
    subst IsChange (ok_is (OnElements (SetOwn a.0 b.0)) change b.2) (
      id_in_range id a.0 (ok_or_is (id_said id) BadNumber a.0 a.1),
      value_in_range property value b.0 long b.1,
    )

own_fits : (property : Property) (fields : List (List ℕ)) (change : Change) → own_said property fields ≡ Ok change → IsChange change
own_fits property [] change h = absurd cc
own_fits property (id ∷ value) change h =
    let g = guarded (is_value_long property value) (new_own property id value) BadLine change h in
    new_own_fits property id value change g.0 g.1

new_timeline_fits : (id origin : List ℕ) (change : Change) → new_timeline id origin ≡ Ok change → IsChange change
unfolding new_timeline
new_timeline_fits id origin change h =
    let a = bind_ok (ok_or (id_said id) BadNumber) (λ name. ok_or (time_said origin) BadNumber >>= λ tick. done (OnTimelines (AddTimeline name tick))) change h in
    let b = bind_ok (ok_or (time_said origin) BadNumber) (λ tick. done (OnTimelines (AddTimeline a.0 tick))) change a.2 in
    subst IsChange (ok_is (OnTimelines (AddTimeline a.0 b.0)) change b.2) (
      id_in_range id a.0 (ok_or_is (id_said id) BadNumber a.0 a.1),
      time_in_range origin b.0 (ok_or_is (time_said origin) BadNumber b.0 b.1),
    )

timeline_fits : (fields : List (List ℕ)) (change : Change) → timeline_said fields ≡ Ok change → IsChange change
timeline_fits [] change h = absurd cc
timeline_fits (id ∷ []) change h = absurd cc
timeline_fits (id ∷ origin ∷ []) change h = new_timeline_fits id origin change h
timeline_fits (id ∷ origin ∷ more ∷ others) change h = absurd cc

old_id_fits : (fields : List (List ℕ)) (id : ℕ) → old_id fields ≡ Ok id → IsId id
old_id_fits [] id h = absurd cc
old_id_fits (field ∷ []) id h = id_in_range field id (ok_or_is (id_said field) BadNumber id h)
old_id_fits (field ∷ more ∷ others) id h = absurd cc

drop_element_fits : (fields : List (List ℕ)) (change : Change) → drop_element_said fields ≡ Ok change → IsChange change
unfolding drop_element_said
drop_element_fits fields change h =
    let a = bind_ok (old_id fields) (λ name. done (OnElements (RemoveElement name))) change h in
    subst IsChange (ok_is (OnElements (RemoveElement a.0)) change a.2) (old_id_fits fields a.0 a.1)

drop_model_fits : (fields : List (List ℕ)) (change : Change) → drop_model_said fields ≡ Ok change → IsChange change
unfolding drop_model_said
drop_model_fits fields change h =
    let a = bind_ok (old_id fields) (λ name. done (OnModels (RemoveModel name))) change h in
    subst IsChange (ok_is (OnModels (RemoveModel a.0)) change a.2) (old_id_fits fields a.0 a.1)

edit_fits : (version : Version) (name : List ℕ) (fields : List (List ℕ)) (change : Change) → edit_said version name fields ≡ Ok change → IsChange change
unfolding edit_said
edit_fits version name fields change h =
    picked (IsChange change) (bytes_eq name (codes "element")) (element_said fields) _ change (element_fits fields change) (
    picked (IsChange change) (bytes_eq name (codes "timeline")) (timeline_said fields) _ change (timeline_fits fields change) (
    picked (IsChange change) (bytes_eq name (codes "drop-element")) (drop_element_said fields) _ change (drop_element_fits fields change) (
    picked (IsChange change) (bytes_eq name (codes "drop-model")) (drop_model_said fields) (ok_or (property_said name) BadLine >>= λ property. own_said property fields) change (drop_model_fits fields change)
    (λ k.
    let p = bind_ok (ok_or (property_said name) BadLine) (λ property. own_said property fields) change k in
    own_fits p.0 fields change p.2)
    )
    )
    ) h

alone_is : {A : Type 0} (said : A) (fields : List (List ℕ)) (x : A) → alone said fields ≡ Ok x → said ≡ x
alone_is said [] x h = ok_is said x h
alone_is said (field ∷ others) x h = absurd cc

pub step_in_range : (version : Version) (name : List ℕ) (fields : List (List ℕ)) (step : StepOfMain) → step_said version name fields ≡ Ok step → IsStep step
unfolding step_said
step_in_range version name fields step h =
    picked (IsStep step) (bytes_eq name (codes "commit")) (alone CommitStep fields) _ step (λ k. subst IsStep (alone_is CommitStep fields step k) tt) (
    picked (IsStep step) (bytes_eq name (codes "drain")) (alone DrainStep fields) (edit_said version name fields >>= λ change. done (EditStep change)) step (λ k. subst IsStep (alone_is DrainStep fields step k) tt) (
    λ k.
    let e = bind_ok (edit_said version name fields) (λ change. done (EditStep change)) step k in
    subst IsStep (ok_is (EditStep e.0) step e.2) (edit_fits version name fields e.0 e.1)
    )
    ) h

-- ---- the line of a model

pub record IsNames (names : ModelNames) : Type 0 where
  pub id : IsId names.id
  pub group : IsId names.group
  pub element : IsId names.element
  pub timeline : IsId names.timeline
  pub start : IfSome names.start (λ time. time ≤ LAST_TIME)

pub record IsLine (line : ModelLine) : Type 0 where
  pub names : IsNames line.names
  pub timing : IsTiming line.timing
  pub easing : IsEasing line.easing
  pub fewest : FEWEST_KEYS ≤ line.keys
  pub most : line.keys ≤ MOST_KEYS

record AreIds (ids : ℕ × (ℕ × (ℕ × ℕ))) : Type 0 where
  id : IsId ids.0
  group : IsId ids.1.0
  element : IsId ids.1.1.0
  timeline : IsId ids.1.1.1

ids_fit : (id group element timeline : List ℕ) (ids : ℕ × (ℕ × (ℕ × ℕ))) → ids_said id group element timeline ≡ Ok ids → AreIds ids
unfolding ids_said
ids_fit id group element timeline ids h =
    let a = bind_ok (ok_or (id_said id) BadNumber) (λ own. ok_or (id_said group) BadNumber >>= λ of_group. ok_or (id_said element) BadNumber >>= λ of_element. ok_or (id_said timeline) BadNumber >>= λ of_timeline. done (own, (of_group, (of_element, of_timeline)))) ids h in
    let b = bind_ok (ok_or (id_said group) BadNumber) (λ of_group. ok_or (id_said element) BadNumber >>= λ of_element. ok_or (id_said timeline) BadNumber >>= λ of_timeline. done (a.0, (of_group, (of_element, of_timeline)))) ids a.2 in
    let c = bind_ok (ok_or (id_said element) BadNumber) (λ of_element. ok_or (id_said timeline) BadNumber >>= λ of_timeline. done (a.0, (b.0, (of_element, of_timeline)))) ids b.2 in
    let d = bind_ok (ok_or (id_said timeline) BadNumber) (λ of_timeline. done (a.0, (b.0, (c.0, of_timeline)))) ids c.2 in
    subst AreIds (ok_is (a.0, (b.0, (c.0, d.0))) ids d.2) (record {
      id = id_in_range id a.0 (ok_or_is (id_said id) BadNumber a.0 a.1);
      group = id_in_range group b.0 (ok_or_is (id_said group) BadNumber b.0 b.1);
      element = id_in_range element c.0 (ok_or_is (id_said element) BadNumber c.0 c.1);
      timeline = id_in_range timeline d.0 (ok_or_is (id_said timeline) BadNumber d.0 d.1);
    })

names_fit : (id group element timeline property start : List ℕ) (names : ModelNames) → names_said id group element timeline property start ≡ Ok names → IsNames names
unfolding names_said
names_fit id group element timeline property start names h =
    let a = bind_ok (ids_said id group element timeline) (λ ids. ok_or (property_said property) BadLine >>= λ animated. ok_or (start_said start) BadNumber >>= λ given. done (named ids.0 ids.1.0 ids.1.1.0 ids.1.1.1 animated given)) names h in
    let b = bind_ok (ok_or (property_said property) BadLine) (λ animated. ok_or (start_said start) BadNumber >>= λ given. done (named a.0.0 a.0.1.0 a.0.1.1.0 a.0.1.1.1 animated given)) names a.2 in
    let c = bind_ok (ok_or (start_said start) BadNumber) (λ given. done (named a.0.0 a.0.1.0 a.0.1.1.0 a.0.1.1.1 b.0 given)) names b.2 in
    let ids = ids_fit id group element timeline a.0 a.1 in
    subst IsNames (ok_is (named a.0.0 a.0.1.0 a.0.1.1.0 a.0.1.1.1 b.0 c.0) names c.2) (record {
      id = ids.id;
      group = ids.group;
      element = ids.element;
      timeline = ids.timeline;
      start = start_in_range start c.0 (ok_or_is (start_said start) BadNumber c.0 c.1);
    })

count_is : (test : Bool) (n count : ℕ) → cond test (Some n) None ≡ Some count → (test ≡ true) × (n ≡ count)
count_is true n count h = (refl, cc)
count_is false n count h = absurd cc

key_count_fits : (number : ℤ) (count : ℕ) → key_count_of number ≡ Some count → (FEWEST_KEYS ≤ count) × (count ≤ MOST_KEYS)
key_count_fits (pos n) count h =
    let k = count_is (leb FEWEST_KEYS n && leb n MOST_KEYS) n count h in
    let b = and_parts (leb FEWEST_KEYS n) (leb n MOST_KEYS) k.0 in
    (omega (arith, leb-true FEWEST_KEYS n b.0, k.1), omega (arith, leb-true n MOST_KEYS b.1, k.1))
key_count_fits (negsuc n) count h = absurd cc

key_count_said_fits : (field : List ℕ) (count : ℕ) → key_count_said field ≡ Ok count → (FEWEST_KEYS ≤ count) × (count ≤ MOST_KEYS)
unfolding key_count_said
key_count_said_fits field count h =
    let a = bind_ok (ok_or (number_said field) BadNumber) (λ number. ok_or (key_count_of number) BadCurve) count h in
    key_count_fits a.0 count (ok_or_is (key_count_of a.0) BadCurve count a.2)

abbrev line_of : ModelNames → TimingParts → Policy → Easing → ℕ → ModelLine
line_of names timing policy easing keys = record { names = names; timing = timing; policy = policy; easing = easing; keys = keys }

curve_line_fits : (names : ModelNames) (numbers : TimingNumbers) (policy easing keys : List ℕ) (line : ModelLine) → IsNames names
    → curve_line_said names numbers policy easing keys ≡ Ok line → IsLine line
unfolding curve_line_said
curve_line_fits names numbers policy easing keys line fits h =
    let a = bind_ok (ok_or (policy_said policy) BadLine) (λ kept. ok_or (easing_said easing) BadEasing >>= λ bend. key_count_said keys >>= λ count. ok_or (timing_of numbers) BadTiming >>= λ timing. done (line_of names timing kept bend count)) line h in
    let b = bind_ok (ok_or (easing_said easing) BadEasing) (λ bend. key_count_said keys >>= λ count. ok_or (timing_of numbers) BadTiming >>= λ timing. done (line_of names timing a.0 bend count)) line a.2 in
    let c = bind_ok (key_count_said keys) (λ count. ok_or (timing_of numbers) BadTiming >>= λ timing. done (line_of names timing a.0 b.0 count)) line b.2 in
    let d = bind_ok (ok_or (timing_of numbers) BadTiming) (λ timing. done (line_of names timing a.0 b.0 c.0)) line c.2 in
    let count = key_count_said_fits keys c.0 c.1 in
    subst IsLine (ok_is (line_of names d.0 a.0 b.0 c.0) line d.2) (record {
      names = fits;
      timing = timing_in_range numbers d.0 (ok_or_is (timing_of numbers) BadTiming d.0 d.1);
      easing = easing_in_range easing b.0 (ok_or_is (easing_said easing) BadEasing b.0 b.1);
      fewest = count.0;
      most = count.1;
    })

after_numbers_fits : (names : ModelNames) (numbers : TimingNumbers) (fields : List (List ℕ)) (line : ModelLine) → IsNames names → after_numbers names numbers fields ≡ Ok line → IsLine line
after_numbers_fits names numbers [] line fits h = absurd cc
after_numbers_fits names numbers (a ∷ []) line fits h = absurd cc
after_numbers_fits names numbers (a ∷ b ∷ []) line fits h = absurd cc
after_numbers_fits names numbers (policy ∷ easing ∷ keys ∷ []) line fits h = curve_line_fits names numbers policy easing keys line fits h
after_numbers_fits names numbers (a ∷ b ∷ c ∷ d ∷ more) line fits h = absurd cc

after_names_fits : (names : ModelNames) (fields : List (List ℕ)) (line : ModelLine) → IsNames names → after_names names fields ≡ Ok line → IsLine line
after_names_fits names [] line fits h = absurd cc
after_names_fits names (a ∷ []) line fits h = absurd cc
after_names_fits names (a ∷ b ∷ []) line fits h = absurd cc
after_names_fits names (a ∷ b ∷ c ∷ []) line fits h = absurd cc
after_names_fits names (a ∷ b ∷ c ∷ d ∷ []) line fits h = absurd cc
after_names_fits names (a ∷ b ∷ c ∷ d ∷ e ∷ []) line fits h = absurd cc
after_names_fits names (offset ∷ iterations ∷ start ∷ direction ∷ fill ∷ rate ∷ more) line fits h =
    let n = bind_ok (numbers_said offset iterations start direction fill rate) (λ numbers. after_numbers names numbers more) line h in
    after_numbers_fits names n.0 more line fits n.2

after_model_fits : (fields : List (List ℕ)) (line : ModelLine) → after_model fields ≡ Ok line → IsLine line
after_model_fits [] line h = absurd cc
after_model_fits (a ∷ []) line h = absurd cc
after_model_fits (a ∷ b ∷ []) line h = absurd cc
after_model_fits (a ∷ b ∷ c ∷ []) line h = absurd cc
after_model_fits (a ∷ b ∷ c ∷ d ∷ []) line h = absurd cc
after_model_fits (a ∷ b ∷ c ∷ d ∷ e ∷ []) line h = absurd cc
after_model_fits (id ∷ group ∷ element ∷ timeline ∷ property ∷ start ∷ more) line h =
    let n = bind_ok (names_said id group element timeline property start) (λ names. after_names names more) line h in
    after_names_fits n.0 more line (names_fit id group element timeline property start n.0 n.1) n.2

pub line_in_range : (fields : List (List ℕ)) (line : ModelLine) → model_said fields ≡ Ok line → IsLine line
unfolding model_said
line_in_range fields line h =
    let g = guarded (eqb (length fields) 15) (after_model fields) BadLine line h in after_model_fits fields line g.1

-- ---- keys

key_of_fits : {V : Type 0} (is_value : V → Type 0) (says : List (List ℕ) → Result V Cause) (time easing : List ℕ) (value : List (List ℕ)) (key : Key V)
    → ((v : V) → says value ≡ Ok v → is_value v) → key_of says time easing value ≡ Ok key → IsKey is_value key
unfolding key_of
key_of_fits {V} is_value says time easing value key fits h =
    let a = bind_ok (ok_or (key_time_said time) BadNumber) (λ at. ok_or (easing_said easing) BadEasing >>= λ bend. says value >>= λ there. done (key_parts at bend there)) key h in
    let b = bind_ok (ok_or (easing_said easing) BadEasing) (λ bend. says value >>= λ there. done (key_parts a.0 bend there)) key a.2 in
    let c = bind_ok (says value) (λ there. done (key_parts a.0 b.0 there)) key b.2 in
    subst (λ (k : Key V). IsKey is_value k) (ok_is (key_parts a.0 b.0 c.0) key c.2) (record {
      time = key_time_in_range time a.0 (ok_or_is (key_time_said time) BadNumber a.0 a.1);
      easing = easing_in_range easing b.0 (ok_or_is (easing_said easing) BadEasing b.0 b.1);
      value = fits c.0 c.1;
    })

pub key_in_range : {V : Type 0} (is_value : V → Type 0) (is_long : List (List ℕ) → Bool) (says : List (List ℕ) → Result V Cause) (fields : List (List ℕ)) (key : Key V)
    → ((value : List (List ℕ)) (v : V) → is_long value ≡ true → says value ≡ Ok v → is_value v) → key_said is_long says fields ≡ Ok key → IsKey is_value key
unfolding key_said
key_in_range is_value is_long says [] key fits h = absurd cc
key_in_range is_value is_long says (a ∷ []) key fits h = absurd cc
key_in_range is_value is_long says (a ∷ b ∷ []) key fits h = absurd cc
key_in_range is_value is_long says (name ∷ time ∷ easing ∷ value) key fits h =
    let g = guarded (bytes_eq name (codes "key") && is_long value) (key_of says time easing value) BadLine key h in
    let b = and_parts (bytes_eq name (codes "key")) (is_long value) g.0 in
    key_of_fits is_value says time easing value key (λ v k. fits value v b.1 k) g.1

-- ---- the compositor's steps

-- a tick is in time
abbrev pub IsCompositorStep : CompositorStep → Type 0
IsCompositorStep Pull = Unit {0}
IsCompositorStep Activate = Unit {0}
IsCompositorStep (Tick time) = IsTime time

tick_fits : (fields : List (List ℕ)) (step : CompositorStep) → tick_said fields ≡ Ok step → IsCompositorStep step
tick_fits [] step h = absurd cc
tick_fits (field ∷ []) step h =
    let a = bind_ok (ok_or (time_said field) BadNumber) (λ t. done (Tick t)) step h in
    subst IsCompositorStep (ok_is (Tick a.0) step a.2) (time_in_range field a.0 (ok_or_is (time_said field) BadNumber a.0 a.1))
tick_fits (field ∷ more ∷ others) step h = absurd cc

pub compositor_in_range : (version : Version) (name : List ℕ) (fields : List (List ℕ)) (step : CompositorStep) → compositor_said version name fields ≡ Ok step → IsCompositorStep step
unfolding compositor_said
compositor_in_range version name fields step h =
    picked (IsCompositorStep step) (bytes_eq name (codes "pull")) (alone Pull fields) _ step (λ k. subst IsCompositorStep (alone_is Pull fields step k) tt) (
    picked (IsCompositorStep step) (bytes_eq name (codes "activate")) (alone Activate fields) _ step (λ k. subst IsCompositorStep (alone_is Activate fields step k) tt) (
    picked (IsCompositorStep step) (bytes_eq name (codes "tick")) (tick_said fields) (Err BadLine) step (tick_fits fields step) (λ bad. absurd cc)
    )
    ) h
