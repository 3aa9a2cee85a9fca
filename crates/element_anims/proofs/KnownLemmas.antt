-- An element that is in a tree, or of which a property is blocked, is known: what is said of it takes no room.
use Rattle.std.proofs.Common.{◌≡◌, ℕ, Bool, true, false, not, ◌||◌, is_some, refl, ap, ◌∙◌}
use Rattle.anim_names.specs.declared.lane.Tree.{Tree}
use Rattle.anim_names.specs.declared.lane.Tree.TheVariants.{Pending, Active}
use Rattle.anim_names.specs.Properties.{is_some_at}
use Rattle.element_anims.specs.Rows.{Row, is_idle, is_in_tree}
use Rattle.element_anims.specs.Elements.{Anims, is_present, is_known, row_of}

-- ---- of a row

-- three tests of which one is passed
second : (a c : Bool) → (a || true || c) ≡ true
second true c = refl
second false c = refl

in_tree : (tree : Tree) (row : Row) → is_in_tree tree row ≡ true → not (is_idle row) ≡ true
in_tree Pending row is = ap (λ b. not (not (b || row.active || is_some_at is_some row.blockers))) is
in_tree Active row is =
    ap (λ b. not (not (row.pending || b || is_some_at is_some row.blockers))) is
    ∙ ap (λ b. not (not b)) (second row.pending (is_some_at is_some row.blockers))

-- ---- of a table

module _ (table : Anims) (element : ℕ) where
  pub known-present : (tree : Tree) → is_present table tree element ≡ true → is_known table element ≡ true
  known-present tree is = in_tree tree (row_of table element) is
