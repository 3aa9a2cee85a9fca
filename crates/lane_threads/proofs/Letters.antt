-- Words with more letters of one lane, and the word of a journal that grows.
use Rattle.std.proofs.Common.{◌≡◌, ℕ, ◌+◌, ◌-◌, ◌*◌, cond, true, false, List, [], ◌∷◌, ◌++◌, fold, ◌⊎◌, inl, inr, refl, sym, ap, ◌∙◌, append_assoc, arith}
use Rattle.std.specs.Prelude.{replicate}
use Rattle.std.proofs.lemmas.List.{append-nil, replicate-append-replicate, append_cancel_left}
use Rattle.std.proofs.lemmas.List.Folds.{sum_by-replicate}
use Rattle.std.proofs.lemmas.List.Sums.{fold-append, sum_by-append}
use Rattle.std.proofs.Math.Nat.{add-zero}
use Rattle.anim_names.specs.declared.entry.Entry.{Entry}
use Rattle.anim_names.specs.declared.lane.Lane.{Lane}
use Rattle.anim_names.specs.declared.lane.Lane.TheVariants.{Main, Compositor}
use Rattle.anim_names.specs.Lanes.{is_lane, letters_of}
use Rattle.anim_names.specs.Lists.{BeginsWith}
use Rattle.commit_lock.specs.Journals.{entries_of}
use Rattle.commit_lock.specs.Views.{other_lane}
use Rattle.commit_lock.proofs.Lanes.{entries_of-append, one_of_two, other_lane-is_not}
use Rattle.frame_exchange.specs.Journals.{filled, word_so_far}
use Rattle.lane_threads.specs.Knowing.{with_letters}

-- ---- letters

pub letters-none : (lane : Lane) (word : List Lane) → with_letters lane 0 word ≡ word
letters-none lane word = append-nil word

pub letters-more : (lane : Lane) (n m : ℕ) (word : List Lane) → with_letters lane (n + m) word ≡ with_letters lane m (with_letters lane n word)
letters-more lane n m word =
    ap (λ l. word ++ l) (sym (replicate-append-replicate n m lane)) ∙ sym (append_assoc word (replicate n lane) (replicate m lane))

pub letters-one : (lane : Lane) (n : ℕ) (word : List Lane) → with_letters lane (n + 1) word ≡ with_letters lane n word ++ lane ∷ []
letters-one lane n word = letters-more lane n 1 word

pub letters-own : (lane : Lane) (n : ℕ) (word : List Lane) → letters_of lane (with_letters lane n word) ≡ letters_of lane word + n
letters-own lane n word =
    sum_by-append (λ x. cond (is_lane lane x) 1 0) word (replicate n lane)
    ∙ ap (λ k. letters_of lane word + k) (sum_by-replicate (λ x. cond (is_lane lane x) 1 0) n lane ∙ own lane)
  where
    own : (lane : Lane) → n * cond (is_lane lane lane) 1 0 ≡ n
    own Main = omega arith
    own Compositor = omega arith

pub letters-other : (lane : Lane) (n : ℕ) (word : List Lane) → letters_of (other_lane lane) (with_letters lane n word) ≡ letters_of (other_lane lane) word
letters-other lane n word =
    sum_by-append (λ x. cond (is_lane (other_lane lane) x) 1 0) word (replicate n lane)
    ∙ (ap (λ k. letters_of (other_lane lane) word + k) (sum_by-replicate (λ x. cond (is_lane (other_lane lane) x) 1 0) n lane ∙ other lane)
    ∙ add-zero (letters_of (other_lane lane) word))
  where
    other : (lane : Lane) → n * cond (is_lane (other_lane lane) lane) 1 0 ≡ 0
    other Main = omega arith
    other Compositor = omega arith

-- ---- the word of a journal that grows

pub word-one_more : (entries : List Entry) (entry : Entry) → word_so_far (entries ++ entry ∷ []) ≡ filled entry.lane entry.upto (word_so_far entries)
word-one_more entries entry = fold-append (λ word (e : Entry). filled e.lane e.upto word) [] entries (entry ∷ [])

-- the word with this number of letters of the lane
pub filled-up : (lane : Lane) (upto more : ℕ) (word : List Lane) → upto ≡ letters_of lane word + more → filled lane upto word ≡ with_letters lane more word
filled-up lane upto more word is = ap (λ n. word ++ replicate n lane) (omega (arith, is))

-- Entries of one lane alone put letters of that lane behind the word.
pub record GoesOn (lane : Lane) (word longer : List Lane) : Type 0 where
  pub more : ℕ
  pub is : longer ≡ with_letters lane more word

-- the word with the letters of an entry, and of those behind it
abbrev along : List Lane → List Entry → List Lane
along word entries = fold (λ word (e : Entry). filled e.lane e.upto word) word entries

other-is : (lane : Lane) → is_lane (other_lane lane) (other_lane lane) ≡ true
other-is Main = refl
other-is Compositor = refl

goes-on_one : (lane : Lane) (entry : Entry) (entries : List Entry) (word : List Lane) → entries_of (other_lane lane) (entry ∷ entries) ≡ [] → ((w : List Lane) → entries_of (other_lane lane) entries ≡ [] → GoesOn lane w (along w entries)) → (entry.lane ≡ lane) ⊎ (entry.lane ≡ other_lane lane) → GoesOn lane word (along word (entry ∷ entries))
goes-on_one lane entry entries word none behind (inl is) =
    let test : is_lane (other_lane lane) entry.lane ≡ false = ap (is_lane (other_lane lane)) is ∙ other_lane-is_not lane in
    let rest = sym (ap (λ b. cond b (entry ∷ entries_of (other_lane lane) entries) (entries_of (other_lane lane) entries)) test) ∙ none in
    let here : ℕ = entry.upto - letters_of lane word in
    let on = behind (with_letters lane here word) rest in
    record {
      more = here + on.more;
      is = ap (λ l. along (filled l entry.upto word) entries) is ∙ on.is ∙ sym (letters-more lane here on.more word);
    }
goes-on_one lane entry entries word none behind (inr is) =
    let test : is_lane (other_lane lane) entry.lane ≡ true = ap (is_lane (other_lane lane)) is ∙ other-is lane in
    let some = sym (ap (λ b. cond b (entry ∷ entries_of (other_lane lane) entries) (entries_of (other_lane lane) entries)) test) ∙ none in
    absurd (not_nil entry (entries_of (other_lane lane) entries) some)
  where
    not_nil : (e : Entry) (es : List Entry) → e ∷ es ≡ [] → ⊥
    not_nil e es is = cc

goes-on : (lane : Lane) (entries : List Entry) (word : List Lane) → entries_of (other_lane lane) entries ≡ [] → GoesOn lane word (along word entries)
goes-on lane [] word none = record { more = 0; is = sym (letters-none lane word) }
goes-on lane (entry ∷ entries) word none =
    goes-on_one lane entry entries word none (λ w rest. goes-on lane entries w rest) (one_of_two lane entry.lane)

-- A journal that goes on where a lane has seen it, without entries of that lane, is that of more letters of the other.
pub journal-goes_on : (lane : Lane) (seen journal : List Entry) → BeginsWith journal seen → entries_of (other_lane lane) journal ≡ entries_of (other_lane lane) seen → GoesOn lane (word_so_far seen) (word_so_far journal)
journal-goes_on lane seen journal (added, is) same =
    let all : entries_of (other_lane lane) seen ++ entries_of (other_lane lane) added ≡ entries_of (other_lane lane) seen ++ [] =
    sym (entries_of-append (other_lane lane) seen added) ∙ ap (entries_of (other_lane lane)) (sym is) ∙ same ∙ sym (append-nil (entries_of (other_lane lane) seen)) in
    let none : entries_of (other_lane lane) added ≡ [] = append_cancel_left (entries_of (other_lane lane) seen) (entries_of (other_lane lane) added) [] all in
    let on = goes-on lane added (word_so_far seen) none in
    record {
      more = on.more;
      is = ap word_so_far is ∙ fold-append (λ word (e : Entry). filled e.lane e.upto word) [] seen added ∙ on.is;
    }
