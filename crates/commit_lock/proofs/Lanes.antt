-- Two lanes, and what a journal has of each.
use Rattle.std.proofs.Common.{◌≡◌, ◌⊎◌, inl, inr, true, false, List, [], ◌∷◌, ◌++◌, All, refl, sym, ap, ◌∙◌, append_assoc}
use Rattle.std.proofs.lemmas.List.{append-nil, append_cancel_left}
use Rattle.std.proofs.lemmas.List.Elements.{filter-append, All-head, All-tail}
use Rattle.anim_names.specs.declared.lane.Lane.{Lane}
use Rattle.anim_names.specs.declared.lane.Lane.TheVariants.{Main, Compositor}
use Rattle.anim_names.specs.declared.entry.Entry.{Entry}
use Rattle.commit_lock.specs.Journals.{entries_of, IsGrownBy, GrowsAlike}
use Rattle.anim_names.specs.Lanes.{is_lane}
use Rattle.anim_names.specs.Lists.{BeginsWith}
use Rattle.commit_lock.specs.Views.{other_lane}

-- the other lane is not the lane
pub other_lane-is_not : (lane : Lane) → is_lane (other_lane lane) lane ≡ false
other_lane-is_not Main = refl
other_lane-is_not Compositor = refl

pub is_lane-self : (lane : Lane) → is_lane lane lane ≡ true
is_lane-self Main = refl
is_lane-self Compositor = refl

pub is_lane-other_lane : (lane : Lane) → is_lane lane (other_lane lane) ≡ false
is_lane-other_lane Main = refl
is_lane-other_lane Compositor = refl

-- any lane is this one or the other one
pub one_of_two : (lane any : Lane) → (any ≡ lane) ⊎ (any ≡ other_lane lane)
one_of_two Main Main = inl refl
one_of_two Main Compositor = inr refl
one_of_two Compositor Main = inr refl
one_of_two Compositor Compositor = inl refl

pub entries_of-append : (lane : Lane) (xs ys : List Entry) → entries_of lane (xs ++ ys) ≡ entries_of lane xs ++ entries_of lane ys
entries_of-append lane xs ys = filter-append (λ (e : Entry). is_lane lane e.lane) xs ys

-- the entries of a lane in a list of its own are all of it
pub entries_of_own : (lane : Lane) (xs : List Entry) → All (λ e. e.lane ≡ lane) xs → entries_of lane xs ≡ xs
entries_of_own lane [] own = refl
entries_of_own lane (x ∷ xs) own =
    let here : x.lane ≡ lane = All-head (λ (e : Entry). e.lane ≡ lane) x xs own in
    let test : is_lane lane x.lane ≡ true = ap (is_lane lane) here ∙ is_lane-self lane in
    let more = entries_of_own lane xs (All-tail (λ (e : Entry). e.lane ≡ lane) x xs own) in
    rw test (ap (λ (l : List Entry). x ∷ l) more)

-- and the other lane has none in it
pub entries_of_other : (lane : Lane) (xs : List Entry) → All (λ e. e.lane ≡ lane) xs → entries_of (other_lane lane) xs ≡ []
entries_of_other lane [] own = refl
entries_of_other lane (x ∷ xs) own =
    let here : x.lane ≡ lane = All-head (λ (e : Entry). e.lane ≡ lane) x xs own in
    let test : is_lane (other_lane lane) x.lane ≡ false = ap (is_lane (other_lane lane)) here ∙ other_lane-is_not lane in
    rw test (entries_of_other lane xs (All-tail (λ (e : Entry). e.lane ≡ lane) x xs own))

-- what a lane adds to a journal is its own there, and none of the other lane's
pub entries_of_grown : (lane : Lane) (old new added : List Entry) → new ≡ old ++ added → All (λ e. e.lane ≡ lane) added
    → entries_of lane new ≡ entries_of lane old ++ added
entries_of_grown lane old new added is own =
    ap (entries_of lane) is ∙ (entries_of-append lane old added ∙ ap (λ (l : List Entry). entries_of lane old ++ l) (entries_of_own lane added own))

pub entries_of_kept : (lane : Lane) (old new : List Entry) → IsGrownBy lane old new → entries_of (other_lane lane) new ≡ entries_of (other_lane lane) old
entries_of_kept lane old new grown =
    ap (entries_of (other_lane lane)) grown.grown
    ∙ (entries_of-append (other_lane lane) old grown.added
    ∙ (ap (λ (l : List Entry). entries_of (other_lane lane) old ++ l) (entries_of_other lane grown.added grown.own)
    ∙ append-nil (entries_of (other_lane lane) old)))

pub begins_with_more : (front old new added : List Entry) → new ≡ old ++ added → BeginsWith old front → BeginsWith new front
begins_with_more front old new added is begins = (begins.0 ++ added, is ∙ (ap (λ (l : List Entry). l ++ added) begins.1 ∙ append_assoc front begins.0 added))

pub begins_with_itself : (xs ys : List Entry) → xs ≡ ys → BeginsWith ys xs
begins_with_itself xs ys same = ([], sym same ∙ sym (append-nil xs))

-- where a lane's own entries were what the journal had of it, they grow by what the lane adds
pub own_grows : (lane : Lane) (seen journal mine : List Entry) → entries_of lane seen ≡ mine → IsGrownBy lane seen journal → GrowsAlike seen journal mine (entries_of lane journal)
own_grows lane seen journal mine own grown added is =
    let same : grown.added ≡ added = append_cancel_left seen grown.added added (sym grown.grown ∙ is) in
    entries_of_grown lane seen journal grown.added grown.grown grown.own ∙ (ap (λ (l : List Entry). l ++ grown.added) own ∙ ap (λ (l : List Entry). mine ++ l) same)
