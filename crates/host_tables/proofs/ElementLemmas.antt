-- Loops over the elements of a commit that tell the table of elements.
use Rattle.std.proofs.Common.{◌≡◌, ◌≢◌, ℕ, zero, suc, ◌+◌, Bool, true, false, ◌||◌, inl, inr, List, [], ◌∷◌, take, Option, Some, None, refl, sym, ap, ◌∙◌, add-one}
use Rattle.std.specs.Prelude.{◌==◌, ◌&&◌, slice_get, if◌then◌else◌}
use Rattle.std.proofs.lemmas.Option.{none-some, same_Some}
use Rattle.std.proofs.lemmas.Bool.{eq-eqb, or_right}
use Rattle.std.proofs.Math.Bool.{or-false, or_assoc}
use Rattle.std.proofs.lemmas.Bool.Decides.{eqb_tells}
use Rattle.anim_names.specs.declared.lane.Tree.{Tree}
use Rattle.anim_names.specs.declared.property.Property.{Property}
use Rattle.anim_names.specs.declared.lane.Tree.TheVariants.{Active, Pending}
use Rattle.element_anims.specs.Elements.{Anims, IsSetPresent, blocker_of, is_present, is_tree}
use Rattle.run_rules.specs.declared.mark.Mark.{Mark}
use Rattle.tree_commit.specs.Trees.{Committed, Element, has_element}
use Rattle.host_tables.specs.Blocks.{BlocksStand}
use Rattle.element_anims.specs.Rows.{is_blocked_by}
use Rattle.host_tables.specs.Elements.{AreSet, PresenceStands, has_in, is_listed}

pub apart-test : (a b : ℕ) → a ≢ b → (a == b) ≡ false
apart-test a b differ = elim (eqb_tells a b) [ inl t ↦ absurd (differ t.1) | inr f ↦ f.0 ]

pub eq-flip : (a b : ℕ) → (a == b) ≡ (b == a)
eq-flip a b = elim (eqb_tells a b) [ inl t ↦ t.0 ∙ sym (eq-eqb b a (sym t.1)) | inr f ↦ f.0 ∙ sym (apart-test b a (λ same. f.1 (sym same))) ]

listed-taken : (elements : List Element) (i : ℕ) (element : Element) (id : ℕ) → slice_get elements i ≡ Some element
    → is_listed (take (suc i) elements) id ≡ (is_listed (take i elements) id || (id == element.id))
listed-taken [] i element id found = absurd (none-some element found)
listed-taken (x ∷ elements) zero element id found = or-false (id == x.id) ∙ ap (λ (m : Element). id == m.id) (same_Some x element found)
listed-taken (x ∷ elements) (suc i) element id found =
    ap (λ b. (id == x.id) || b) (listed-taken elements i element id found) ∙ sym (or_assoc (id == x.id) (is_listed (take i elements) id) (id == element.id))

-- an element that is found at a index is listed
pub found-listed : (elements : List Element) (i : ℕ) (element : Element) → slice_get elements i ≡ Some element → is_listed elements element.id ≡ true
found-listed [] i element found = absurd (none-some element found)
found-listed (x ∷ elements) zero element found =
    ap (λ b. b || is_listed elements element.id) (eq-eqb element.id x.id (ap (λ (m : Element). m.id) (sym (same_Some x element found))))
found-listed (x ∷ elements) (suc i) element found = or_right (element.id == x.id) (is_listed elements element.id) (found-listed elements i element found)

both : (tree listed here there old : Bool)
    → (if tree && here then there else (if tree && listed then there else old)) ≡ (if tree && (listed || here) then there else old)
both true true true there old = refl
both true true false there old = refl
both true false true there old = refl
both true false false there old = refl
both false listed here there old = refl

-- one more element was told
pub set-next : (tree : Tree) (elements : List Element) (i : ℕ) (element : Element) (there : Bool) (old now new : Anims)
    → slice_get elements i ≡ Some element
    → IsSetPresent tree element.id there now new
    → AreSet tree (take i elements) there old now
    → AreSet tree (take (i + 1) elements) there old new
set-next tree elements i element there old now new found set so_far = record {
  presence = λ t e.
      set.presence t e
      ∙ ap (λ (b : Bool). if is_tree tree t && (element.id == e) then there else b) (so_far.presence t e)
      ∙ both (is_tree tree t) (is_listed (take i elements) e) (element.id == e) there (is_present old t e)
      ∙ ap (λ (b : Bool). if is_tree tree t && (is_listed (take i elements) e || b) then there else is_present old t e) (eq-flip element.id e)
      ∙ ap (λ (b : Bool). if is_tree tree t && b then there else is_present old t e)
      (sym (ap (λ (k : ℕ). is_listed (take k elements) e) (add-one i) ∙ listed-taken elements i element e found));
  blocks = λ e p. set.blocks e p ∙ so_far.blocks e p;
}

-- what the table says of one tree
pub presence-in : (table : Anims) (active : Committed) (pending : Option Committed) (t : Tree) (e : ℕ)
    → PresenceStands table active pending → is_present table t e ≡ has_in t active pending e
presence-in table active pending Active e stand = stand.of_active e
presence-in table active pending Pending e stand = stand.of_pending e

-- the same elements are in the same trees
pub presence-same : (old new : Anims) (active : Committed) (pending : Option Committed)
    → ((t : Tree) (e : ℕ) → is_present new t e ≡ is_present old t e)
    → PresenceStands old active pending → PresenceStands new active pending
presence-same old new active pending same stand = record {
  of_active = λ e. same Active e ∙ stand.of_active e;
  of_pending = λ e. same Pending e ∙ stand.of_pending e;
}

told : (listed : Bool) → (if listed then true else false) ≡ listed
told true = refl
told false = refl

untold : (listed : Bool) → (if listed then false else listed) ≡ false
untold true = refl
untold false = refl

-- the elements of a commit are announced
pub presence-announced : (old new : Anims) (active commit : Committed)
    → AreSet Pending commit.tree.elements true old new
    → PresenceStands old active None → PresenceStands new active (Some commit)
presence-announced old new active commit set stand = record {
  of_active = λ e. set.presence Active e ∙ stand.of_active e;
  of_pending = λ e.
      set.presence Pending e
      ∙ ap (λ (b : Bool). if has_element commit.tree e then true else b) (stand.of_pending e)
      ∙ told (has_element commit.tree e);
}

pub swapped-active : (listed old : Bool) → old ≡ false → (if listed then true else old) ≡ listed
swapped-active listed old is = ap (λ (b : Bool). if listed then true else b) is ∙ told listed

pub swapped-pending : (listed old : Bool) → old ≡ listed → (if listed then false else old) ≡ false
swapped-pending listed old is = ap (λ (b : Bool). if listed then false else b) is ∙ untold listed

-- the same groups block the same
pub blocks-same : (old new : Anims) (marks : List Mark) → ((e : ℕ) (p : Property) → blocker_of new e p ≡ blocker_of old e p)
    → BlocksStand old marks → BlocksStand new marks
blocks-same old new marks same stand = λ g e p. ap (is_blocked_by g) (same e p) ∙ stand g e p
