-- Which group blocks what: what a start and an end change.
use Rattle.std.proofs.Common.{◌≡◌, ◌≢◌, ◌⊎◌, ℕ, Bool, true, false, not, ◌||◌, List, [], ◌∷◌, ◌++◌, Option, Some, None, refl, sym, ap, ◌∙◌, filter, inl, inr}
use Rattle.std.specs.Prelude.{◌==◌, ◌&&◌, filter_map, if◌then◌else◌}
use Rattle.std.specs.List.{list_any, cons_option}
use Rattle.std.proofs.Math.Bool.{or-false}
use Rattle.std.proofs.lemmas.Bool.{and_from, and_parts, eq-eqb, eqb-true, ne_eqb, not-true, not_from_false, or_parts, or_right, true≢false}
use Rattle.std.proofs.lemmas.Bool.Decides.{eqb_tells}
use Rattle.anim_names.specs.declared.property.Property.{Property}
use Rattle.anim_names.specs.Lists.{IsAmong}
use Rattle.anim_names.specs.Properties.{is_property}
use Rattle.anim_names.proofs.PropertyLemmas.{is_property-flip, is_property-one}
use Rattle.element_anims.specs.Rows.{is_blocked_by, unless_by}
use Rattle.element_anims.specs.Elements.{Anims, IsSetBlocker, IsUnblocked, blocker_of}
use Rattle.keyframe_effect.specs.Ready.{is_other}
use Rattle.keyframe_model.specs.Models.{Spec}
use Rattle.tree_commit.proofs.Among.{among-append_left, among-filter, among-filter_from, among-last, among-one_more, any-among, any-cases}
use Rattle.run_rules.specs.declared.mark.Begun.{Begun}
use Rattle.run_rules.specs.declared.mark.Mark.{Mark}
use Rattle.run_rules.specs.declared.mark.Mark.TheVariants.{OfModel}
use Rattle.run_rules.specs.declared.mark.ModelMark.{ModelMark}
use Rattle.run_rules.specs.declared.mark.ModelMark.TheVariants.{Started, Finished, Aborted}
use Rattle.run_rules.specs.Marks.{blocks, ends, is_blocked_for, is_end, is_ended, is_group_unfinished, is_started, is_unfinished, model_of, started_group, starts, starts_in, starts_on}
use Rattle.run_rules.proofs.MarkLemmas.{began-start, starts_so-starts, end-began, unfinished-from, unfinished-mark}
use Rattle.host_tables.specs.Blocks.{BlocksStand}
use Rattle.host_tables.specs.States.{is_among}
use Rattle.host_tables.proofs.ElementLemmas.{eq-flip}
use Rattle.host_tables.proofs.StateLemmas.{ended-more, one_any}
use Rattle.anim_host.specs.Fits.{AgreesWith, IsOf, IsThereIfUnfinished, MarksFitModels}
use Rattle.anim_host.proofs.FitLemmas.{both-ways, ended-before}

-- ---- tests

-- what implies another test is the two together
and-implied : (a b : Bool) → (b ≡ true → a ≡ true) → (a && b) ≡ b
and-implied true b so = refl
and-implied false true so = so refl
and-implied false false so = refl

-- ---- groups that run

-- a running group has started
pub running-starts : (marks : List Mark) (group : ℕ) → is_group_unfinished marks group ≡ true → list_any (starts_in group) marks ≡ true
running-starts marks group is =
    let by = unfinished-mark marks group is in
    any-among (starts_in group) by.0 marks by.1 by.2

agree-group : (mark : Mark) (model : Spec) (group : ℕ) → AgreesWith mark model → starts_in group mark ≡ true → model_of mark ≡ model.id → group ≡ model.group
agree-group (OfModel id (Started begun)) model group agrees is same = eqb-true group begun.group is ∙ agrees.0 same
agree-group (OfModel id (Finished at)) model group agrees is same = cc
agree-group (OfModel id (Aborted commit)) model group agrees is same = cc

agree-element : (mark : Mark) (model : Spec) (e : ℕ) (p : Property) → AgreesWith mark model → starts_in model.group mark ≡ true → starts_on e p mark ≡ true → e ≡ model.element
agree-element (OfModel id (Started begun)) model e p agrees is on =
    eqb-true e begun.element (and_parts (e == begun.element) (is_property p begun.property) on).0 ∙ agrees.1 (sym (eqb-true model.group begun.group is))
agree-element (OfModel id (Finished at)) model e p agrees is on = cc
agree-element (OfModel id (Aborted commit)) model e p agrees is on = cc

pub there-running : (models : List Spec) (marks : List Mark) (mark : Mark) (group : ℕ) → IsThereIfUnfinished models marks mark
    → starts_in group mark ≡ true → is_ended marks (model_of mark) ≡ false → is_among models (model_of mark) ≡ true
there-running models marks (OfModel id what) group there is alive = there (began-start (λ begun. group == begun.group) what is) alive

-- ---- one more start

pub alive-same : (marks : List Mark) (id : ℕ) (begun : Begun) (other : ℕ)
    → is_ended (marks ++ OfModel id (Started begun) ∷ []) other ≡ is_ended marks other
alive-same marks id begun other = ended-more marks (OfModel id (Started begun)) other ∙ or-false (is_ended marks other)

-- the starting group runs
pub start-runs : (marks : List Mark) (id : ℕ) (begun : Begun) → is_ended marks id ≡ false
    → is_group_unfinished (marks ++ OfModel id (Started begun) ∷ []) begun.group ≡ true
start-runs marks id begun alive =
    let mark = OfModel id (Started begun) in
    unfinished-from (marks ++ mark ∷ []) begun.group mark (among-last mark marks) (eq-eqb begun.group begun.group refl) (alive-same marks id begun id ∙ alive)

-- another group runs where it did
start-elsewhere : (marks : List Mark) (id : ℕ) (begun : Begun) (other : ℕ) → other ≢ begun.group
    → is_group_unfinished (marks ++ OfModel id (Started begun) ∷ []) other ≡ is_group_unfinished marks other
start-elsewhere marks id begun other differ =
    let mark = OfModel id (Started begun) in
    both-ways (is_group_unfinished (marks ++ mark ∷ []) other) (is_group_unfinished marks other)
    (λ is.
    let by = unfinished-mark (marks ++ mark ∷ []) other is in
    elim (among-one_more by.0 marks mark by.1) [
      | inl before ↦ unfinished-from marks other by.0 before by.2 (sym (alive-same marks id begun (model_of by.0)) ∙ by.3)
      | inr last ↦ absurd (differ (eqb-true other begun.group (sym (ap (starts_in other) last) ∙ by.2)))
    ])
    (λ is.
    let by = unfinished-mark marks other is in
    unfinished-from (marks ++ mark ∷ []) other by.0 (among-append_left by.0 marks (mark ∷ []) by.1) by.2 (alive-same marks id begun (model_of by.0) ∙ by.3))

-- what another group blocks stays
pub blocks-elsewhere : (marks : List Mark) (id : ℕ) (begun : Begun) (other e : ℕ) (p : Property) → other ≢ begun.group
    → blocks (marks ++ OfModel id (Started begun) ∷ []) other e p ≡ blocks marks other e p
blocks-elsewhere marks id begun other e p differ =
    let mark = OfModel id (Started begun) in
    let on = λ (k : Mark). starts_in other k && starts_on e p k in
    ap (λ b. b && list_any on (marks ++ mark ∷ [])) (start-elsewhere marks id begun other differ)
    ∙ ap (λ b. is_group_unfinished marks other && b)
    (one_any on marks mark
    ∙ ap (λ b. list_any on marks || (b && (e == begun.element && is_property p begun.property))) (ne_eqb other begun.group differ)
    ∙ or-false (list_any on marks))

pub start-blocks : (table new : Anims) (marks : List Mark) (id : ℕ) (begun : Begun)
    → BlocksStand table marks
    → list_any (starts_in begun.group) marks ≡ is_group_unfinished marks begun.group
    → is_ended marks id ≡ false
    → ((other : ℕ) → other ≢ begun.group → blocks marks other begun.element begun.property ≡ false)
    → IsSetBlocker begun.element begun.property (Some begun.group) table new
    → BlocksStand new (marks ++ OfModel id (Started begun) ∷ [])
start-blocks table new marks id begun stand whole alive free set g e p =
    let mark = OfModel id (Started begun) in
    let on = λ (k : Mark). starts_in g k && starts_on e p k in
    ap (is_blocked_by g) (set.blocks e p)
    ∙ elim (eqb_tells g begun.group) [
      | inr f ↦
          other (begun.element == e && is_property begun.property p) refl f.0 f.1
          ∙ sym (blocks-elsewhere marks id begun g e p f.1)
      | inl t ↦
          let runs : is_group_unfinished (marks ++ mark ∷ []) g ≡ true = ap (is_group_unfinished (marks ++ mark ∷ [])) t.1 ∙ start-runs marks id begun alive in
          let test : (begun.element == e && is_property begun.property p) ≡ (e == begun.element && is_property p begun.property) =
          ap (λ b. b && is_property begun.property p) (eq-flip begun.element e) ∙ ap (λ b. e == begun.element && b) (is_property-flip begun.property p) in
          own (begun.element == e && is_property begun.property p) t.0 (λ is. implied t.1 (stand g e p))
          ∙ ap (λ b. list_any on marks || b) (test ∙ sym (ap (λ b. b && (e == begun.element && is_property p begun.property)) t.0))
          ∙ sym (one_any on marks mark)
          ∙ sym (ap (λ b. b && list_any on (marks ++ mark ∷ [])) runs)
    ]
  where
    other : (c : Bool) → (begun.element == e && is_property begun.property p) ≡ c → (g == begun.group) ≡ false → g ≢ begun.group
        → is_blocked_by g (if c then Some begun.group else blocker_of table e p) ≡ blocks marks g e p
    other true test apart differ =
        let here : begun.element ≡ e = eqb-true begun.element e (and_parts (begun.element == e) (is_property begun.property p) test).0 in
        let kind : begun.property ≡ p = is_property-one begun.property p (and_parts (begun.element == e) (is_property begun.property p) test).1 in
        apart ∙ sym (free g differ) ∙ ap (λ (x : ℕ). blocks marks g x begun.property) here ∙ ap (blocks marks g e) kind
    other false test apart differ = stand g e p

    implied : g ≡ begun.group → is_blocked_by g (blocker_of table e p) ≡ blocks marks g e p
        → is_blocked_by g (blocker_of table e p) ≡ list_any (λ (k : Mark). starts_in g k && starts_on e p k) marks
    implied same is =
        is
        ∙ and-implied (is_group_unfinished marks g) (list_any (λ (k : Mark). starts_in g k && starts_on e p k) marks)
        (λ any.
        let found = any-cases (λ (k : Mark). starts_in g k && starts_on e p k) marks any in
        let one : list_any (starts_in g) marks ≡ true = any-among (starts_in g) found.0 marks found.1 (and_parts (starts_in g found.0) (starts_on e p found.0) found.2).0 in
        ap (is_group_unfinished marks) same ∙ sym whole ∙ ap (λ (x : ℕ). list_any (starts_in x) marks) (sym same) ∙ one)

    own : (c : Bool) → (g == begun.group) ≡ true
        → (c ≡ false → is_blocked_by g (blocker_of table e p) ≡ list_any (λ (k : Mark). starts_in g k && starts_on e p k) marks)
        → is_blocked_by g (if c then Some begun.group else blocker_of table e p) ≡ (list_any (λ (k : Mark). starts_in g k && starts_on e p k) marks || c)
    own true is known = is ∙ sym (or_right (list_any (λ (k : Mark). starts_in g k && starts_on e p k) marks) true refl)
    own false is known = known refl ∙ sym (or-false (list_any (λ (k : Mark). starts_in g k && starts_on e p k) marks))

-- ---- one more end

-- and may become of any model
pub end-of : (what : ModelMark) (model : Spec) → is_end what ≡ true → IsOf what model
end-of (Started begun) model end = cc
end-of (Finished at) model end = tt
end-of (Aborted commit) model end = tt

-- it ends that model alone
pub ends-of : (what : ModelMark) (model id : ℕ) → is_end what ≡ true → ends id (OfModel model what) ≡ (id == model)
ends-of what model id end = ap (λ b. b && (id == model)) end

-- another group runs where it did
pub end-elsewhere : (models : List Spec) (marks : List Mark) (what : ModelMark) (model : Spec) (other : ℕ)
    → MarksFitModels models marks → IsAmong model models → is_end what ≡ true → other ≢ model.group
    → is_group_unfinished (marks ++ OfModel model.id what ∷ []) other ≡ is_group_unfinished marks other
end-elsewhere models marks what model other fit there end differ =
    let mark = OfModel model.id what in
    both-ways (is_group_unfinished (marks ++ mark ∷ []) other) (is_group_unfinished marks other)
    (λ is.
    let by = unfinished-mark (marks ++ mark ∷ []) other is in
    elim (among-one_more by.0 marks mark by.1) [
      | inl before ↦ unfinished-from marks other by.0 before by.2 (ended-before marks mark (model_of by.0) by.3)
      | inr last ↦ absurd (true≢false (sym (sym (ap (starts_in other) last) ∙ by.2) ∙ end-began (λ begun. other == begun.group) what end))
    ])
    (λ is.
    let by = unfinished-mark marks other is in
    let own : (model_of by.0 == model.id) ≡ false =
    ne_eqb (model_of by.0) model.id (λ same. differ (agree-group by.0 model other (fit.agree by.0 model by.1 there) by.2 same)) in
    unfinished-from (marks ++ mark ∷ []) other by.0 (among-append_left by.0 marks (mark ∷ []) by.1) by.2
    (ended-more marks mark (model_of by.0)
    ∙ ap (λ b. b || ends (model_of by.0) mark) by.3
    ∙ ends-of what model.id (model_of by.0) end
    ∙ own))

end-on : (marks : List Mark) (what : ModelMark) (model g e : ℕ) (p : Property) → is_end what ≡ true
    → list_any (λ (k : Mark). starts_in g k && starts_on e p k) (marks ++ OfModel model what ∷ [])
    ≡ list_any (λ (k : Mark). starts_in g k && starts_on e p k) marks
end-on marks what model g e p end =
    let mark = OfModel model what in
    let on = λ (k : Mark). starts_in g k && starts_on e p k in
    one_any on marks mark
    ∙ ap (λ b. list_any on marks || (b && starts_on e p mark)) (end-began (λ begun. g == begun.group) what end)
    ∙ or-false (list_any on marks)

-- where the model's group still runs, all is blocked that was
pub end-keeps : (models : List Spec) (table : Anims) (marks : List Mark) (what : ModelMark) (model : Spec)
    → MarksFitModels models marks → IsAmong model models → is_end what ≡ true
    → is_group_unfinished (marks ++ OfModel model.id what ∷ []) model.group ≡ true
    → BlocksStand table marks
    → BlocksStand table (marks ++ OfModel model.id what ∷ [])
end-keeps models table marks what model fit there end runs stand g e p =
    let mark = OfModel model.id what in
    let on = λ (k : Mark). starts_in g k && starts_on e p k in
    let same : is_group_unfinished (marks ++ mark ∷ []) g ≡ is_group_unfinished marks g =
    elim (eqb_tells g model.group) [
      | inl t ↦
          ap (is_group_unfinished (marks ++ mark ∷ [])) t.1 ∙ runs
          ∙ sym (before (unfinished-mark (marks ++ mark ∷ []) model.group runs)) ∙ ap (is_group_unfinished marks) (sym t.1)
      | inr f ↦ end-elsewhere models marks what model g fit there end f.1
    ] in
    stand g e p
    ∙ ap (λ b. b && list_any on marks) (sym same)
    ∙ ap (λ b. is_group_unfinished (marks ++ mark ∷ []) g && b) (sym (end-on marks what model.id g e p end))
  where
    before : ((k : Mark) × IsAmong k (marks ++ OfModel model.id what ∷ []) × (starts_in model.group k ≡ true)
        × (is_ended (marks ++ OfModel model.id what ∷ []) (model_of k) ≡ false))
        → is_group_unfinished marks model.group ≡ true
    before by =
        elim (among-one_more by.0 marks (OfModel model.id what) by.1) [
          | inl first ↦ unfinished-from marks model.group by.0 first by.2 (ended-before marks (OfModel model.id what) (model_of by.0) by.3)
          | inr last ↦
              absurd (true≢false
              (sym (sym (ap (starts_in model.group) last) ∙ by.2) ∙ end-began (λ begun. model.group == begun.group) what end))
        ]

freed-other : (group other : ℕ) (here : Bool) (blocker : Option ℕ) → other ≢ group
    → is_blocked_by other (if here then unless_by group blocker else blocker) ≡ is_blocked_by other blocker
freed-other group other true None differ = refl
freed-other group other true (Some blocker) differ = test (group == blocker) refl
  where
    test : (b : Bool) → (group == blocker) ≡ b → is_blocked_by other (if b then None else Some blocker) ≡ (other == blocker)
    test true is = sym (ne_eqb other blocker (λ same. differ (same ∙ sym (eqb-true group blocker is))))
    test false is = refl
freed-other group other false None differ = refl
freed-other group other false (Some blocker) differ = refl

freed-own : (group : ℕ) (blocker : Option ℕ) → is_blocked_by group (unless_by group blocker) ≡ false
freed-own group None = refl
freed-own group (Some blocker) = test (group == blocker) refl
  where
    test : (b : Bool) → (group == blocker) ≡ b → is_blocked_by group (if b then None else Some blocker) ≡ false
    test true is = refl
    test false is = is

-- where the model was the last of its group to run, the group blocks nothing any more
pub end-frees : (models : List Spec) (table new : Anims) (marks : List Mark) (what : ModelMark) (model : Spec)
    → MarksFitModels models marks → IsAmong model models → is_end what ≡ true
    → is_group_unfinished (marks ++ OfModel model.id what ∷ []) model.group ≡ false
    → IsUnblocked model.element model.group table new
    → BlocksStand table marks
    → BlocksStand new (marks ++ OfModel model.id what ∷ [])
end-frees models table new marks what model fit there end still unblocked stand g e p =
    let mark = OfModel model.id what in
    let on = λ (k : Mark). starts_in g k && starts_on e p k in
    ap (is_blocked_by g) (unblocked.blocks e p)
    ∙ elim (eqb_tells g model.group) [
      | inl t ↦
          ap (λ (x : ℕ). is_blocked_by x (if model.element == e then unless_by model.group (blocker_of table e p) else blocker_of table e p)) t.1
          ∙ own (model.element == e) refl
          ∙ sym (ap (λ b. b && list_any on (marks ++ mark ∷ [])) (ap (is_group_unfinished (marks ++ mark ∷ [])) t.1 ∙ still))
      | inr f ↦
          freed-other model.group g (model.element == e) (blocker_of table e p) f.1
          ∙ stand g e p
          ∙ ap (λ b. b && list_any on marks) (sym (end-elsewhere models marks what model g fit there end f.1))
          ∙ ap (λ b. is_group_unfinished (marks ++ mark ∷ []) g && b) (sym (end-on marks what model.id g e p end))
    ]
  where
    elsewhere : (b : Bool) → blocks marks model.group e p ≡ b → (model.element == e) ≡ false → b ≡ false
    elsewhere true is apart =
        let any = (and_parts (is_group_unfinished marks model.group) (list_any (λ (k : Mark). starts_in model.group k && starts_on e p k) marks) is).1 in
        let found = any-cases (λ (k : Mark). starts_in model.group k && starts_on e p k) marks any in
        let here : e ≡ model.element =
        agree-element found.0 model e p (fit.agree found.0 model found.1 there)
        (and_parts (starts_in model.group found.0) (starts_on e p found.0) found.2).0
        (and_parts (starts_in model.group found.0) (starts_on e p found.0) found.2).1 in
        sym (eq-eqb model.element e (sym here)) ∙ apart
    elsewhere false is apart = refl

    own : (b : Bool) → (model.element == e) ≡ b
        → is_blocked_by model.group (if b then unless_by model.group (blocker_of table e p) else blocker_of table e p) ≡ false
    own true is = freed-own model.group (blocker_of table e p)
    own false is = stand model.group e p ∙ elsewhere (blocks marks model.group e p) refl is

-- ---- what is blocked for a group

started-in : (mark : Mark) (group : ℕ) → starts_in group mark ≡ true → started_group mark ≡ Some group
started-in (OfModel id (Started begun)) group is = ap Some (sym (eqb-true group begun.group is))
started-in (OfModel id (Finished at)) group is = cc
started-in (OfModel id (Aborted commit)) group is = cc

given-among : (marks : List Mark) (mark : Mark) (group : ℕ) → IsAmong mark marks → started_group mark ≡ Some group → IsAmong group (filter_map started_group marks)
given-among [] mark group among is = absurd among
given-among (m ∷ marks) mark group among is =
    elim among [
      | inl same ↦ first (started_group m) (ap started_group (sym same) ∙ is)
      | inr rest ↦ later (started_group m) (given-among marks mark group rest is)
    ]
  where
    first : (o : Option ℕ) → o ≡ Some group → IsAmong group (cons_option o (filter_map started_group marks))
    first None is = cc
    first (Some x) is = let e : x ≡ group = cc in inl (sym e)

    later : (o : Option ℕ) → IsAmong group (filter_map started_group marks) → IsAmong group (cons_option o (filter_map started_group marks))
    later None there = there
    later (Some x) there = inr there

-- by the table of blocks
pub blocked-for : (table : Anims) (marks : List Mark) (group element : ℕ) (property : Property) → BlocksStand table marks
    → is_other group (blocker_of table element property) ≡ is_blocked_for marks group element property
blocked-for table marks group element property stand =
    let test = λ (other : ℕ). not (group == other) && blocks marks other element property in
    both-ways (is_other group (blocker_of table element property)) (is_blocked_for marks group element property)
    (known (blocker_of table element property) refl)
    (λ is.
    let found = any-cases test (filter_map started_group marks) is in
    other-blocks (blocker_of table element property) found.0 (and_parts (not (group == found.0)) (blocks marks found.0 element property) found.2).0
    (stand found.0 element property ∙ (and_parts (not (group == found.0)) (blocks marks found.0 element property) found.2).1))
  where
    other-blocks : (o : Option ℕ) (h : ℕ) → not (group == h) ≡ true → is_blocked_by h o ≡ true → is_other group o ≡ true
    other-blocks None h differ is = cc
    other-blocks (Some x) h differ is = ap (λ (y : ℕ). not (group == y)) (sym (eqb-true h x is)) ∙ differ

    known : (o : Option ℕ) → blocker_of table element property ≡ o → is_other group o ≡ true → is_blocked_for marks group element property ≡ true
    known None is other = cc
    known (Some h) is other =
        let blocked : blocks marks h element property ≡ true = sym (stand h element property) ∙ ap (is_blocked_by h) is ∙ eq-eqb h h refl in
        let any = (and_parts (is_group_unfinished marks h) (list_any (λ (k : Mark). starts_in h k && starts_on element property k) marks) blocked).1 in
        let found = any-cases (λ (k : Mark). starts_in h k && starts_on element property k) marks any in
        any-among (λ (other : ℕ). not (group == other) && blocks marks other element property) h (filter_map started_group marks)
        (given-among marks found.0 h found.1 (started-in found.0 h (and_parts (starts_in h found.0) (starts_on element property found.0) found.2).0))
        (and_from (not (group == h)) (blocks marks h element property) other blocked)

-- no other group blocks what is not blocked for this one
pub none-blocks : (marks : List Mark) (group element : ℕ) (property : Property) (other : ℕ) → is_blocked_for marks group element property ≡ false
    → other ≢ group → blocks marks other element property ≡ false
none-blocks marks group element property other free differ = either (blocks marks other element property) refl
  where
    either : (b : Bool) → blocks marks other element property ≡ b → b ≡ false
    either false is = refl
    either true is =
        let any = (and_parts (is_group_unfinished marks other) (list_any (λ (k : Mark). starts_in other k && starts_on element property k) marks) is).1 in
        let found = any-cases (λ (k : Mark). starts_in other k && starts_on element property k) marks any in
        let blocked : is_blocked_for marks group element property ≡ true =
        any-among (λ (h : ℕ). not (group == h) && blocks marks h element property) other (filter_map started_group marks)
        (given-among marks found.0 other found.1 (started-in found.0 other (and_parts (starts_in other found.0) (starts_on element property found.0) found.2).0))
        (and_from (not (group == other)) (blocks marks other element property) (not_from_false (group == other) (ne_eqb group other (λ same. differ (sym same)))) is) in
        sym blocked ∙ free

-- the table blocks nothing for another group
pub free-or-own : (table : Anims) (marks : List Mark) (group element : ℕ) (property : Property) → BlocksStand table marks
    → ((other : ℕ) → other ≢ group → blocks marks other element property ≡ false)
    → (blocker_of table element property ≡ None) ⊎ (blocker_of table element property ≡ Some group)
free-or-own table marks group element property stand free = either (blocker_of table element property) refl
  where
    either : (o : Option ℕ) → blocker_of table element property ≡ o
        → (blocker_of table element property ≡ None) ⊎ (blocker_of table element property ≡ Some group)
    either None is = inl is
    either (Some h) is =
        elim (eqb_tells h group) [
          | inl t ↦ inr (is ∙ ap Some t.1)
          | inr f ↦
              let known : blocks marks h element property ≡ true = sym (stand h element property) ∙ ap (is_blocked_by h) is ∙ eq-eqb h h refl in
              let not_other = free h f.1 in
              absurd cc
        ]

-- ---- what runs of a group besides one model

-- a model of this id
pub among-model : (models : List Spec) (id : ℕ) → is_among models id ≡ true → (model : Spec) × IsAmong model models × (model.id ≡ id)
among-model models id is =
    let found = any-cases (λ (m : Spec). id == m.id) models is in
    (found.0, found.1, sym (eqb-true id found.0.id found.2))

starts-of : (mark : Mark) (group id : ℕ) → starts_in group mark ≡ true → model_of mark ≡ id → starts id mark ≡ true
starts-of mark group id is same = ap (λ (n : ℕ). starts n mark) (sym same) ∙ starts_so-starts (λ begun. group == begun.group) mark is

starts-group : (mark : Mark) (model : Spec) → AgreesWith mark model → starts model.id mark ≡ true
    → (starts_in model.group mark ≡ true) × (model_of mark ≡ model.id)
starts-group (OfModel own (Started begun)) model agrees is =
    let same : own ≡ model.id = sym (eqb-true model.id own is) in
    (eq-eqb model.group begun.group (sym (agrees.0 same)), same)
starts-group (OfModel own (Finished at)) model agrees is = cc
starts-group (OfModel own (Aborted commit)) model agrees is = cc

-- a model that started is of a group that did
pub started-group-of : (models : List Spec) (marks : List Mark) (model : Spec) → MarksFitModels models marks → IsAmong model models
    → is_started marks model.id ≡ true → list_any (starts_in model.group) marks ≡ true
started-group-of models marks model fit there is =
    let found = any-cases (starts model.id) marks is in
    any-among (starts_in model.group) found.0 marks found.1 (starts-group found.0 model (fit.agree found.0 model found.1 there) found.2).0

pub runs-after : (models : List Spec) (marks : List Mark) (what : ModelMark) (model : Spec)
    → MarksFitModels models marks → IsAmong model models → is_end what ≡ true
    → is_group_unfinished (marks ++ OfModel model.id what ∷ []) model.group
    ≡ list_any (λ (k : Spec). not (k.id == model.id) && is_unfinished marks k.id) (filter (λ (k : Spec). model.group == k.group) models)
runs-after models marks what model fit there end =
    let mark = OfModel model.id what in
    let test = λ (k : Spec). not (k.id == model.id) && is_unfinished marks k.id in
    let own = λ (k : Spec). model.group == k.group in
    both-ways (is_group_unfinished (marks ++ mark ∷ []) model.group) (list_any test (filter own models))
    (λ is.
    let by = unfinished-mark (marks ++ mark ∷ []) model.group is in
    elim (among-one_more by.0 marks mark by.1) [
      | inr last ↦
          absurd (true≢false
          (sym (sym (ap (starts_in model.group) last) ∙ by.2) ∙ end-began (λ begun. model.group == begun.group) what end))
      | inl before ↦
          let alive : is_ended marks (model_of by.0) ≡ false = ended-before marks mark (model_of by.0) by.3 in
          let found = among-model models (model_of by.0) (there-running models marks by.0 model.group (fit.unfinished by.0 before) by.2 alive) in
          let group : model.group ≡ found.0.group =
          agree-group by.0 found.0 model.group (fit.agree by.0 found.0 before found.1) by.2 (sym found.2) in
          let began : is_started marks found.0.id ≡ true = any-among (starts found.0.id) by.0 marks before (starts-of by.0 model.group found.0.id by.2 (sym found.2)) in
          let runs : is_unfinished marks found.0.id ≡ true =
          and_from (is_started marks found.0.id) (not (is_ended marks found.0.id)) began (not_from_false (is_ended marks found.0.id) (ap (is_ended marks) found.2 ∙ alive)) in
          let differ : (found.0.id == model.id) ≡ false =
          ap (λ (x : ℕ). x == model.id) found.2
          ∙ sym (ends-of what model.id (model_of by.0) end)
          ∙ (or_parts (is_ended marks (model_of by.0)) (ends (model_of by.0) mark) (sym (ended-more marks mark (model_of by.0)) ∙ by.3)).1 in
          any-among test found.0 (filter own models) (among-filter_from own found.0 models found.1 (eq-eqb model.group found.0.group group))
          (and_from (not (found.0.id == model.id)) (is_unfinished marks found.0.id) (not_from_false (found.0.id == model.id) differ) runs)
    ])
    (λ is.
    let found = any-cases test (filter own models) is in
    let mate = among-filter own found.0 models found.1 in
    let group : model.group ≡ found.0.group = eqb-true model.group found.0.group mate.1 in
    let runs = (and_parts (not (found.0.id == model.id)) (is_unfinished marks found.0.id) found.2).1 in
    let differ = not-true (found.0.id == model.id) (and_parts (not (found.0.id == model.id)) (is_unfinished marks found.0.id) found.2).0 in
    let by = any-cases (starts found.0.id) marks (and_parts (is_started marks found.0.id) (not (is_ended marks found.0.id)) runs).0 in
    let its = starts-group by.0 found.0 (fit.agree by.0 found.0 by.1 mate.0) by.2 in
    let alive : is_ended marks found.0.id ≡ false = not-true (is_ended marks found.0.id) (and_parts (is_started marks found.0.id) (not (is_ended marks found.0.id)) runs).1 in
    unfinished-from (marks ++ mark ∷ []) model.group by.0 (among-append_left by.0 marks (mark ∷ []) by.1)
    (ap (λ (g : ℕ). starts_in g by.0) group ∙ its.0)
    (ended-more marks mark (model_of by.0)
    ∙ ap (λ b. b || ends (model_of by.0) mark) (ap (is_ended marks) its.1 ∙ alive)
    ∙ ends-of what model.id (model_of by.0) end
    ∙ ap (λ (x : ℕ). x == model.id) its.1
    ∙ differ))
