-- For callers: what a section has added to the journal, as `release` asks.
use Rattle.std.proofs.Common.{◌≡◌, List, [], ◌∷◌, ◌++◌, sym, ◌∙◌}
use Rattle.std.proofs.lemmas.List.{append-nil}
use Rattle.std.proofs.lemmas.List.Elements.{All-nil, All-cons}
use Rattle.anim_names.specs.declared.lane.Lane.{Lane}
use Rattle.anim_names.specs.declared.entry.Entry.{Entry}
use Rattle.commit_lock.specs.Journals.{IsGrownBy}

-- one entry of the lane
pub grown_by_one : (lane : Lane) (old new : List Entry) (entry : Entry) → new ≡ old ++ entry ∷ [] → entry.lane ≡ lane → IsGrownBy lane old new
grown_by_one lane old new entry is own = record {
  added = entry ∷ [];
  grown = is;
  own = All-cons (λ (e : Entry). e.lane ≡ lane) entry [] own (All-nil (λ (e : Entry). e.lane ≡ lane));
}

-- nothing
pub grown_by_none : (lane : Lane) (old new : List Entry) → new ≡ old → IsGrownBy lane old new
grown_by_none lane old new is = record {
  added = [];
  grown = is ∙ sym (append-nil old);
  own = All-nil (λ (e : Entry). e.lane ≡ lane);
}
