-- What a table says once one element's row was written or taken out.
use Rattle.std.proofs.Common.{◌≡◌, ℕ, ◌==◌, nat_eq, Bool, true, false, cond, if◌then◌else◌, List, Option, Some, None, refl, sym, ap, ◌∙◌, true≢false}
use Rattle.std.specs.Option.{unwrap_or}
use Rattle.std.specs.Map.{lookup}
use Rattle.element_anims.specs.Rows.{Row, idle_row, is_idle}
use Rattle.element_anims.specs.Elements.{row_in, KeepsNoIdleRow}

-- the rows are as they were, but for the key's, which is now this one or none
abbrev pub IsWritten : ℕ → Option Row → List (ℕ × Row) → List (ℕ × Row) → Type 0
IsWritten key kept old new = (e : ℕ) → lookup (nat_eq e) new ≡ cond (nat_eq key e) kept (lookup (nat_eq e) old)

-- a row that may be there says nothing
abbrev says_nothing : Option Row → Bool
says_nothing found = is_idle (unwrap_or found idle_row)

module _ (key : ℕ) (kept : Option Row) (old new : List (ℕ × Row)) (written : IsWritten key kept old new) where
  row-written : (e : ℕ) → row_in new e ≡ (if key == e then unwrap_or kept idle_row else row_in old e)
  row-written e = ap (λ found. unwrap_or found idle_row) (written e) ∙ by (nat_eq key e)
    where
      by : (b : Bool) → unwrap_or (cond b kept (lookup (nat_eq e) old)) idle_row ≡ cond b (unwrap_or kept idle_row) (row_in old e)
      by true = refl
      by false = refl

  no_idle-written : (says_nothing kept ≡ true → kept ≡ None) → KeepsNoIdleRow old → KeepsNoIdleRow new
  no_idle-written needed none_idle e idle = by (nat_eq key e) (written e)
    where
      by : (b : Bool) → lookup (nat_eq e) new ≡ cond b kept (lookup (nat_eq e) old) → lookup (nat_eq e) new ≡ None
      by true is = is ∙ needed (sym (ap says_nothing is) ∙ idle)
      by false is = is ∙ none_idle e (sym (ap says_nothing is) ∙ idle)

module _ (key : ℕ) (old new : List (ℕ × Row)) where
  -- where a row was taken out
  pub row-removed : IsWritten key None old new → (e : ℕ) → row_in new e ≡ (if key == e then idle_row else row_in old e)
  row-removed written = row-written key None old new written

  pub no_idle-removed : IsWritten key None old new → KeepsNoIdleRow old → KeepsNoIdleRow new
  no_idle-removed written = no_idle-written key None old new written (λ _. refl)

  pub no_idle-put : (row : Row) → is_idle row ≡ false → IsWritten key (Some row) old new
      → KeepsNoIdleRow old → KeepsNoIdleRow new
  no_idle-put row busy written =
      no_idle-written key (Some row) old new written (λ idle. absurd (true≢false (sym idle ∙ busy)))
