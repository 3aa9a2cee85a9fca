-- Whether a group may start, by its models: the rule that its row stands for.
use Rattle.std.specs.Prelude.{◌≡◌, Bool, true, false, not, ◌==◌, ◌&&◌, nat_lt, List}
use Rattle.std.specs.List.{list_any, list_all}
use Rattle.anim_names.specs.declared.property.Property.{Property}
use Rattle.anim_names.specs.Properties.{at, is_property}
use Rattle.keyframe_model.specs.Models.{Spec, property_of}
use Rattle.element_anims.specs.Elements.{Anims}
use Rattle.keyframe_effect.specs.declared.group.GroupRow.{GroupRow}
use Rattle.keyframe_effect.specs.Ready.{is_blocked_for, is_there, is_ready}

-- Nothing in the table keeps the model from starting: its element is there, and no other group blocks its property.
abbrev pub may_start : Anims → Bool → Spec → Bool
may_start table pending_has model =
    is_there table model.element pending_has
    && not (is_blocked_for table model.group model.element (property_of model))

-- there are models
abbrev pub has_some : List Spec → Bool
has_some models = list_any (λ model. true) models

-- one of these models is of the property
abbrev pub animates : Property → List Spec → Bool
animates property models = list_any (λ model. is_property (property_of model) property) models

-- The rule, for the models of a group in the active commit: there are such, none of the group has started, and each of
-- them may start.
abbrev pub may_all_start : (Spec → Bool) → List Spec → Bool → Bool
may_all_start may models has_started = has_some models && not has_started && list_all may models

-- The row tells the truth of the group that has these models in the active commit: they are of its group and of its
-- element; models wait where there are any and none of the group has started; and before that, the properties are those
-- of the models.
pub record TellsOf (row : GroupRow) (models : List Spec) (has_started : Bool) : Type 0 where
  pub own_group : list_all (λ model. row.group == model.group) models ≡ true
  pub own_element : list_all (λ model. row.element == model.element) models ≡ true
  pub waiting : nat_lt 0 row.waiting ≡ (has_some models && not has_started)
  pub properties : has_started ≡ false → (property : Property) → at row.animates property ≡ animates property models

-- what keeps a model of the row's group and element from starting is what the table says
abbrev pub IsInTable : GroupRow → Anims → Bool → (Spec → Bool) → Type 0
IsInTable row table pending_has may =
    (model : Spec) → model.group ≡ row.group → model.element ≡ row.element → may model ≡ may_start table pending_has model

-- Where row and table tell the truth, a group is ready by its row exactly where it is ready by the rule.
abbrev pub RowsFollowTheRule : Type 0
RowsFollowTheRule =
    (row : GroupRow) (table : Anims) (pending_has : Bool) (models : List Spec) (has_started : Bool) (may : Spec → Bool)
    → TellsOf row models has_started
    → IsInTable row table pending_has may
    → is_ready row table pending_has ≡ may_all_start may models has_started
