-- Steps of main that are allowed, and what the book says after them.
use Rattle.std.proofs.Common.{◌≡◌, ℕ, zero, suc, ◌+◌, ◌-◌, ◌*◌, ◌<◌, ◌≤◌, Bool, true, false, eqb, List, [], ◌∷◌, ◌++◌, length, None, refl, ap, subst, ◌∙◌, arith}
use Rattle.std.specs.Prelude.{◌%◌, ◌==◌, fold, is_none, if◌then◌else◌}
use Rattle.std.specs.List.{flat_map, range_with_len}
use Rattle.std.proofs.lemmas.Bool.{and_parts, and_from, lt-ltb, eq-eqb, ne_eqb}
use Rattle.std.proofs.lemmas.List.FromFn.{length-range_with_len}
use Rattle.anim_names.specs.declared.limit.TheConstants.{MOST_COMMITS}
use Rattle.tree_commit.specs.Edits.{Book, Change, AddElement, RemoveElement, AddTimeline, AddModel, RemoveModel, new_book, is_in, parts_of, edit_refusal, book_after, book_after_commit, new_parts, with_member, OnElements, OnTimelines, OnModels}
use Rattle.run_rules.specs.Scripts.{StepOfMain, EditStep, CommitStep, DrainStep, book_after_step, is_allowed, are_allowed}
use Rattle.script_gen.specs.declared.TheConstants.{MOST_GENERATED}
use Rattle.script_gen.specs.Generated.{first_look, opacity_model, transform_model, where_divides, commit_and_drain, adding_steps, dropping_steps, main_steps}
use Rattle.script_gen.proofs.Numbers.{in_range, not_in_range, next_id}
use Rattle.script_gen.proofs.Edits.{element_taken, removal_taken, model_removal_taken, first_taken, further_taken, with_member-other, with_member-new, is_in-without}

-- ---- steps that are allowed, and lead to a book of which something is so

pub record Lead (P : Book → Type 0) (book : Book) (steps : List StepOfMain) : Type 0 where
  pub allowed : are_allowed book steps ≡ true
  pub to : P (fold book_after_step book steps)

pub no_step : (P : Book → Type 0) (book : Book) → P book → Lead P book []
unfolding are_allowed
no_step P book so = record { allowed = refl; to = so }

pub a_step : (P : Book → Type 0) (book : Book) (step : StepOfMain) (steps : List StepOfMain) → is_allowed book step ≡ true
    → Lead P (book_after_step book step) steps → Lead P book (step ∷ steps)
unfolding are_allowed
a_step P book step steps here rest = record { allowed = and_from _ _ here rest.allowed; to = rest.to }

an_edit : (P : Book → Type 0) (book : Book) (change : Change) (steps : List StepOfMain) → edit_refusal book change ≡ None
    → Lead P (book_after book change) steps → Lead P book (EditStep change ∷ steps)
an_edit P book change steps taken rest = a_step P book (EditStep change) steps (ap is_none taken) rest

pub both : (P Q : Book → Type 0) (book : Book) (xs ys : List StepOfMain) → Lead P book xs → ((b : Book) → P b → Lead Q b ys) → Lead Q book (xs ++ ys)
unfolding are_allowed
both P Q book [] ys first next = next book first.to
both P Q book (x ∷ xs) ys first next =
    let parts = and_parts (is_allowed book x) (are_allowed (book_after_step book x) xs) first.allowed in
    a_step Q book x (xs ++ ys) parts.0 (both P Q (book_after_step book x) xs ys (record { allowed = parts.1; to = first.to }) next)

-- what each number gives leads from what is so of the numbers before it to what is so of it
pub each : (P : ℕ → Book → Type 0) (f : ℕ → List StepOfMain) (n k : ℕ) (book : Book)
    → ((j : ℕ) (b : Book) → k ≤ j → j < k + n → P j b → Lead (P (j + 1)) b (f (j + 1)))
    → P k book → Lead (P (k + n)) book (flat_map f (range_with_len (k + 1) n))
each P f zero k book step so =
    let e : k ≡ k + 0 = omega arith in
    no_step (P (k + 0)) book (subst (λ (m : ℕ). P m book) e so)
each P f (suc n) k book step so =
    let e : k + 1 + n ≡ k + suc n = omega arith in
    both (P (k + 1)) (P (k + suc n)) book (f (k + 1)) (flat_map f (range_with_len (k + 1 + 1) n)) (step k book (omega arith) (omega arith) so)
    (λ b next. subst (λ (m : ℕ). Lead (P m) b (flat_map f (range_with_len (k + 1 + 1) n))) e
    (each P f n (k + 1) b (λ j it low high. step j it (omega arith) (omega arith)) next))

-- a commit and a drain
pub committed : (P : Book → Type 0) (book : Book) → book.commits < MOST_COMMITS → P (book_after_commit book) → Lead P book commit_and_drain
committed P book few so =
    a_step P book CommitStep (DrainStep ∷ []) (lt-ltb _ _ few)
    (a_step P (book_after_commit book) DrainStep [] refl (no_step P (book_after_commit book) so))

-- ---- adding

-- what the book says once the numbers up to k were added
pub record Added (k : ℕ) (book : Book) : Type 0 where
  pub elements : book.elements ≡ range_with_len 1 k
  pub elements_added : book.elements_added ≡ k
  pub timelines : book.timelines ≡ 1 ∷ []
  pub models : book.models ≡ range_with_len 1 (2 * k)
  pub groups : (group : ℕ) → k < group → parts_of book group ≡ None
  pub commits : book.commits ≤ k

-- where 8 divides the number there is a commit
maybe_committed : (divides : Bool) (j : ℕ) (book : Book) → Added (j + 1) book → book.commits ≤ j → j < MOST_GENERATED
    → Lead (Added (j + 1)) book (if divides then commit_and_drain else [])
maybe_committed false j book so before few = no_step (Added (j + 1)) book so
maybe_committed true j book so before few =
    committed (Added (j + 1)) book (omega arith) (record {
      elements = so.elements;
      elements_added = so.elements_added;
      timelines = so.timelines;
      models = so.models;
      groups = so.groups;
      commits = omega arith;
    })

known_timeline : (timelines : List ℕ) → timelines ≡ 1 ∷ [] → is_in 1 timelines ≡ true
known_timeline timelines so = ap (is_in 1) so

-- no id so far, where they are those from 1 to n
unused : (ids : List ℕ) (n id : ℕ) → ids ≡ range_with_len 1 n → 1 + n ≤ id → is_in id ids ≡ false
unused ids n id so above = ap (is_in id) so ∙ not_in_range n 1 id above

length_of : (ids : List ℕ) (n : ℕ) → ids ≡ range_with_len 1 n → length ids ≡ n
length_of ids n so = ap length so ∙ length-range_with_len 1 n

-- the book with an element and its two models, where it had those up to j
after_pair : (j : ℕ) (book : Book) → Added j book → (divides : Bool) → j < MOST_GENERATED
    → Lead (Added (j + 1)) (book_after (book_after (book_after book (OnElements (AddElement (j + 1) first_look))) (OnModels (AddModel (opacity_model (j + 1))))) (OnModels (AddModel (transform_model (j + 1)))))
    (if divides then commit_and_drain else [])
unfolding book_after opacity_model transform_model
after_pair j book so divides few =
    maybe_committed divides j _ (record {
      elements = next_id book.elements j (j + 1) (j + 1) so.elements (omega arith) (omega arith);
      elements_added = ap (λ count. count + 1) so.elements_added;
      timelines = so.timelines;
      models = next_id _ (2 * j + 1) (2 * (j + 1)) (2 * (j + 1))
          (next_id book.models (2 * j) (2 * (j + 1) - 1) (2 * j + 1) so.models (omega arith) (omega arith)) (omega arith) (omega arith);
      groups = λ group above.
          let apart : eqb group (j + 1) ≡ false = ne_eqb _ _ (λ e. omega arith) in
          with_member-other group book.commits (transform_model (j + 1)) (with_member book.commits (opacity_model (j + 1)) book.groups) apart
          ∙ with_member-other group book.commits (opacity_model (j + 1)) book.groups apart
          ∙ so.groups group (omega arith);
      commits = let h = so.commits in omega arith;
    }) so.commits few

-- the first model of the next number
first_model : (j : ℕ) (book : Book) → Added j book → j < MOST_GENERATED
    → edit_refusal (book_after book (OnElements (AddElement (j + 1) first_look))) (OnModels (AddModel (opacity_model (j + 1)))) ≡ None
unfolding book_after opacity_model
first_model j book so few =
    let count = length_of book.models (2 * j) so.models in
    first_taken (book_after book (OnElements (AddElement (j + 1) first_look))) (opacity_model (j + 1)) (record {
      id = unused book.models (2 * j) (2 * (j + 1) - 1) so.models (omega arith);
      timeline = known_timeline book.timelines so.timelines;
      few = omega arith;
    }) (so.groups (j + 1) (omega arith))

-- and its second one, which goes with the first
second_model : (j : ℕ) (book : Book) → Added j book → j < MOST_GENERATED
    → edit_refusal (book_after (book_after book (OnElements (AddElement (j + 1) first_look))) (OnModels (AddModel (opacity_model (j + 1))))) (OnModels (AddModel (transform_model (j + 1)))) ≡ None
unfolding book_after opacity_model transform_model
second_model j book so few =
    let models = next_id book.models (2 * j) (2 * (j + 1) - 1) (2 * j + 1) so.models (omega arith) (omega arith) in
    let count = length_of _ (2 * j + 1) models in
    let same : eqb (j + 1) (j + 1) ≡ true = eq-eqb _ _ refl in
    further_taken (book_after (book_after book (OnElements (AddElement (j + 1) first_look))) (OnModels (AddModel (opacity_model (j + 1))))) (transform_model (j + 1))
    (new_parts book.commits (opacity_model (j + 1))) (record {
      id = unused _ (2 * j + 1) (2 * (j + 1)) models (omega arith);
      timeline = known_timeline book.timelines so.timelines;
      few = omega arith;
    })
    (with_member-new book.commits (opacity_model (j + 1)) book.groups (so.groups (j + 1) (omega arith)))
    (omega arith) (rw same refl)

adding : (j : ℕ) (book : Book) → j < MOST_GENERATED → Added j book → Lead (Added (j + 1)) book (adding_steps (j + 1))
unfolding adding_steps
adding j book few so =
    let new = unused book.elements j (j + 1) so.elements (omega arith) in
    let added = so.elements_added in
    an_edit _ book (OnElements (AddElement (j + 1) first_look)) _ (element_taken book (j + 1) first_look new (omega arith))
    (an_edit _ _ (OnModels (AddModel (opacity_model (j + 1)))) _ (first_model j book so few)
    (an_edit _ _ (OnModels (AddModel (transform_model (j + 1)))) _ (second_model j book so few) (after_pair j book so _ few)))

-- ---- dropping

-- what the book says once numbers up to k of n have had their turn to be dropped
pub record Kept (n k : ℕ) (book : Book) : Type 0 where
  pub elements : (id : ℕ) → k < id → id ≤ n → is_in id book.elements ≡ true
  pub elements_added : book.elements_added ≡ n
  pub models : book.models ≡ range_with_len 1 (2 * n)
  pub commits : book.commits ≤ n + 1

maybe_model_dropped : (divides : Bool) (n j : ℕ) (book : Book) → j < n → Kept n j book
    → Lead (Kept n j) book (if divides then EditStep (OnModels (RemoveModel (2 * (j + 1)))) ∷ [] else [])
unfolding book_after
maybe_model_dropped false n j book few so = no_step (Kept n j) book so
maybe_model_dropped true n j book few so =
    let there = ap (is_in (2 * (j + 1))) so.models ∙ in_range (2 * n) 1 (2 * (j + 1)) (omega arith) (omega arith) in
    an_edit (Kept n j) book (OnModels (RemoveModel (2 * (j + 1)))) [] (model_removal_taken book _ there) (no_step (Kept n j) book so)

maybe_element_dropped : (divides : Bool) (n j : ℕ) (book : Book) → j < n → Kept n j book
    → Lead (Kept n (j + 1)) book (if divides then EditStep (OnElements (RemoveElement (j + 1))) ∷ [] else [])
unfolding book_after
maybe_element_dropped false n j book few so = no_step (Kept n (j + 1)) book (record {
  elements = λ id above within. so.elements id (omega arith) within;
  elements_added = so.elements_added;
  models = so.models;
  commits = so.commits;
})
maybe_element_dropped true n j book few so =
    an_edit (Kept n (j + 1)) book (OnElements (RemoveElement (j + 1))) [] (removal_taken book (j + 1) (so.elements (j + 1) (omega arith) (omega arith)))
    (no_step (Kept n (j + 1)) (book_after book (OnElements (RemoveElement (j + 1)))) (record {
      elements = λ id above within.
          let apart : eqb id (j + 1) ≡ false = ne_eqb _ _ (λ e. omega arith) in
          is_in-without id (j + 1) book.elements apart ∙ so.elements id (omega arith) within;
      elements_added = so.elements_added;
      models = so.models;
      commits = so.commits;
    }))

dropping : (n j : ℕ) (book : Book) → j < n → Kept n j book → Lead (Kept n (j + 1)) book (dropping_steps (j + 1))
unfolding dropping_steps
dropping n j book few so =
    both (Kept n j) (Kept n (j + 1)) book (where_divides 5 (j + 1) (EditStep (OnModels (RemoveModel (2 * (j + 1)))) ∷ []))
    (where_divides 7 (j + 1) (EditStep (OnElements (RemoveElement (j + 1))) ∷ [])) (maybe_model_dropped ((j + 1) % 5 == 0) n j book few so)
    (λ b kept. maybe_element_dropped ((j + 1) % 7 == 0) n j b few kept)

-- ---- all of main's steps

-- this number of elements was added
abbrev pub AddedSoMany : ℕ → Book → Type 0
AddedSoMany n book = book.elements_added ≡ n

first_book : Added 0 (book_after new_book (OnTimelines (AddTimeline 1 0)))
unfolding book_after
first_book = record {
  elements = refl;
  elements_added = refl;
  timelines = refl;
  models = refl;
  groups = λ group above. refl;
  commits = omega arith;
}

all_added : (n : ℕ) → n ≤ MOST_GENERATED → Lead (Added n) new_book (EditStep (OnTimelines (AddTimeline 1 0)) ∷ flat_map adding_steps (range_with_len 1 n))
unfolding edit_refusal
all_added n few =
    let zero_more : 0 + n ≡ n = omega arith in
    an_edit (Added n) new_book (OnTimelines (AddTimeline 1 0)) (flat_map adding_steps (range_with_len 1 n)) refl
    (subst (λ (m : ℕ). Lead (Added m) (book_after new_book (OnTimelines (AddTimeline 1 0))) (flat_map adding_steps (range_with_len 1 n))) zero_more
    (each Added adding_steps n 0 (book_after new_book (OnTimelines (AddTimeline 1 0))) (λ j b low high so. adding j b (omega arith) so) first_book))

all_dropped : (n : ℕ) (book : Book) → Kept n 0 book → Lead (Kept n n) book (flat_map dropping_steps (range_with_len 1 n))
all_dropped n book so =
    let zero_more : 0 + n ≡ n = omega arith in
    subst (λ (m : ℕ). Lead (Kept n m) book (flat_map dropping_steps (range_with_len 1 n))) zero_more
    (each (Kept n) dropping_steps n 0 book (λ j b low high kept. dropping n j b (omega arith) kept) so)

kept_after_commit : (n : ℕ) (book : Book) → Added n book → Kept n 0 (book_after_commit book)
kept_after_commit n book so = record {
  elements = λ id above within. ap (is_in id) so.elements ∙ in_range n 1 id (omega arith) (omega arith);
  elements_added = so.elements_added;
  models = so.models;
  commits = let h = so.commits in omega arith;
}

pub main_leads : (n : ℕ) → n ≤ MOST_GENERATED → Lead (AddedSoMany n) new_book (main_steps n)
unfolding main_steps
main_leads n few =
    both (Kept n n) (AddedSoMany n) new_book _ commit_and_drain
    (both (Kept n 0) (Kept n n) new_book _ (flat_map dropping_steps (range_with_len 1 n))
    (both (Added n) (Kept n 0) new_book (EditStep (OnTimelines (AddTimeline 1 0)) ∷ flat_map adding_steps (range_with_len 1 n)) commit_and_drain
    (all_added n few)
    (λ b so. let h = so.commits in committed (Kept n 0) b (omega arith) (kept_after_commit n b so)))
    (λ b so. all_dropped n b so))
    (λ b so. let h = so.commits in committed (AddedSoMany n) b (omega arith) so.elements_added)
