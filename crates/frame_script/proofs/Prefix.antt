-- A refusal depends on the lines up to its own alone, and the checks that are made again never decide.
use Rattle.std.proofs.Common.{◌≡◌, ℕ, zero, suc, ◌+◌, ◌<◌, ◌≤◌, List, [], ◌∷◌, ◌++◌, take, length, ◌⊎◌, inl, inr, refl, ap, sym, subst, ◌∙◌, add-one, append_assoc, arith}
use Rattle.frame_script.specs.declared.cause.Cause.{Cause}
use Rattle.frame_script.specs.Lines.{lines}
use Rattle.frame_script.specs.States.{ScriptState, beginning}
use Rattle.frame_script.specs.Texts.{LeadTo, IsWrongAt, IsCutOff, IsRefusedAt}

-- the front of lines that lead somewhere leads somewhere
front_leads : (from to : ScriptState) (text : List (List ℕ)) (j : ℕ) → LeadTo from text to → (state : ScriptState) × LeadTo from (take j text) state
front_leads from to text zero leads = (from, refl)
front_leads from to [] (suc j) leads = (from, refl)
front_leads from to (line ∷ more) (suc j) leads =
    let rest = front_leads leads.0 to more j leads.2 in (rest.0, (leads.0, leads.1, rest.1))

take_front : (before : List (List ℕ)) (rest : List (List ℕ)) (j : ℕ) → j ≤ length before → take j (before ++ rest) ≡ take j before
take_front before rest zero le = refl
take_front [] rest (suc j) le = absurd (omega arith)
take_front (line ∷ before) rest (suc j) le = ap (λ (ls : List (List ℕ)). line ∷ ls) (take_front before rest j (omega arith))

earlier : (bytes : List ℕ) (number : ℕ) (cause : Cause) (j : ℕ) → IsWrongAt (lines bytes) number cause ⊎ IsCutOff (lines bytes) number cause → j < number
    → (state : ScriptState) × LeadTo beginning (take j (lines bytes)) state
earlier bytes number cause j (inl w) lt =
    let front = front_leads beginning w.state w.before j w.leads in
    let same : take j (lines bytes) ≡ take j w.before = ap (take j) w.cut ∙ take_front w.before (w.wrong ∷ w.behind) j (omega (arith, w.number_is)) in
    (front.0, subst (λ (ls : List (List ℕ)). LeadTo beginning ls front.0) (sym same) front.1)
earlier bytes number cause j (inr c) lt = front_leads beginning c.state (lines bytes) j c.leads

-- each line before the one that is refused is allowed where it stands
pub earlier_lines_lead : (bytes : List ℕ) (number : ℕ) (cause : Cause) (j : ℕ) → IsRefusedAt bytes number cause → j < number → (state : ScriptState) × LeadTo beginning (take j (lines bytes)) state
earlier_lines_lead bytes number cause j (inl long) lt = absurd (omega (arith, long.number_is))
earlier_lines_lead bytes number cause j (inr wrong) lt = earlier bytes number cause j wrong.wrong lt

-- ---- the same line of another text

take_all_of : (before : List (List ℕ)) (wrong : List ℕ) (behind : List (List ℕ)) → take (length before + 1) (before ++ wrong ∷ behind) ≡ before ++ wrong ∷ []
take_all_of [] wrong behind = refl
take_all_of (line ∷ before) wrong behind =
    let same : length before + 1 ≡ suc (length before) = omega arith in
    rw add-one (ap (λ (ls : List (List ℕ)). line ∷ ls) (rw add-one at (take_all_of before wrong behind)))

take_cut : (text front : List (List ℕ)) (k : ℕ) → take k text ≡ front → (behind : List (List ℕ)) × (text ≡ front ++ behind)
take_cut text front zero is = (text, ap (λ (ls : List (List ℕ)). ls ++ text) is)
take_cut [] front (suc k) is = ([], ap (λ (ls : List (List ℕ)). ls ++ []) is)
take_cut (line ∷ text) front (suc k) is =
    let rest = take_cut text (take k text) k refl in
    (rest.0, ap (λ (ls : List (List ℕ)). line ∷ ls) rest.1 ∙ ap (λ (ls : List (List ℕ)). ls ++ rest.0) is)

-- a line that is refused is refused in every text that has the same lines up to it
pub same_front_same_refusal : (text other : List (List ℕ)) (number : ℕ) (cause : Cause) → IsWrongAt text number cause → take number text ≡ take number other → IsWrongAt other number cause
same_front_same_refusal text other number cause w same =
    let front : take number text ≡ w.before ++ w.wrong ∷ [] =
    ap (λ (n : ℕ). take n text) w.number_is ∙ (ap (take (length w.before + 1)) w.cut ∙ take_all_of w.before w.wrong w.behind) in
    let cut = take_cut other (w.before ++ w.wrong ∷ []) number (sym same ∙ front) in
    record {
      before = w.before;
      wrong = w.wrong;
      behind = cut.0;
      state = w.state;
      cut = cut.1 ∙ append_assoc w.before (w.wrong ∷ []) cut.0;
      leads = w.leads;
      refused = w.refused;
      number_is = w.number_is;
    }
