-- Rows of a frame, one behind the other.
use Rattle.std.proofs.Common.{◌≡◌, ℕ, Option, map, List, [], ◌∷◌, ◌++◌, ◌+◌, take, Some, sym, ap, ◌∙◌}
use Rattle.std.specs.Prelude.{option_map, slice_get}
use Rattle.std.proofs.lemmas.Option.{slice_get_within, get_or_from_slice_get, slice_get-map}
use Rattle.std.proofs.lemmas.List.{take_more}
use Rattle.anim_names.specs.declared.property.Property.{Property}
use Rattle.anim_names.specs.declared.property.TheConstants.{PROPERTIES}
use Rattle.keyframe_model.specs.Models.{PropertyValue}
use Rattle.tree_commit.specs.declared.shown.Shown.{Shown}
use Rattle.run_rules.specs.Frames.{DrawnRow, animated_value, row_of, shown_with}
use Rattle.tree_commit.specs.Trees.{Element, Look, TreeLists}
use Rattle.element_samples.proofs.SamplingLemmas.{shown_after-same}

-- one more row
pub take-next : (all : List DrawnRow) (index : ℕ) (rows : List DrawnRow) (row : DrawnRow)
    → rows ≡ take index all
    → slice_get all index ≡ Some row
    → rows ++ row ∷ [] ≡ take (index + 1) all
take-next all index rows row front there =
    ap (λ l. l ++ row ∷ []) front
    ∙ ap (λ x. take index all ++ x ∷ []) (sym (get_or_from_slice_get all index row row there))
    ∙ sym (take_more all index row (slice_get_within all index row there))

-- the row of an element shows its animated values, else the element's own
pub row-shown : (tree : TreeLists) (shown : ℕ → Option Shown) (tick index : ℕ) (element : Element) (animated : Property → Option PropertyValue) (look : Look)
    → slice_get tree.elements index ≡ Some element
    → ((property : Property) → animated property ≡ animated_value tree shown tick element.id property)
    → look ≡ shown_with animated element.look
    → slice_get (map (row_of tree shown tick) tree.elements) index ≡ Some (record { element = element.id; look = look })
unfolding row_of
row-shown tree shown tick index element animated look found same is =
    slice_get-map (row_of tree shown tick) tree.elements index
    ∙ ap (option_map (row_of tree shown tick)) found
    ∙ ap (λ l. Some (record { element = element.id; look = l }))
    (sym (is ∙ shown_after-same animated (animated_value tree shown tick element.id) same element.look PROPERTIES))
