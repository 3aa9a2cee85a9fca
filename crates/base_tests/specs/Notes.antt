-- What the lanes write into a journal under the lock.
use Rattle.std.specs.Prelude.{ℕ, zero, suc, List, [], ◌∷◌, ◌++◌}
use Rattle.anim_names.specs.declared.lane.Lane.{Lane}
use Rattle.anim_names.specs.declared.lane.Lane.TheVariants.{Main, Compositor}
use Rattle.anim_names.specs.declared.entry.Entry.{Entry}
use Rattle.anim_names.specs.declared.entry.EntryKind.{EntryKind}
use Rattle.anim_names.specs.declared.entry.EntryKind.TheVariants.{Publish, Send}

abbrev pub kind_of : Lane → ℕ → EntryKind
kind_of Main upto = Publish upto
kind_of Compositor upto = Send upto

-- the entry of a lane's step
abbrev pub note_of : Lane → ℕ → Entry
note_of lane upto = record { lane = lane; upto = upto; kind = kind_of lane upto }

-- the entries of a lane's first steps
abbrev pub notes : Lane → ℕ → List Entry
notes lane zero = []
notes lane (suc n) = notes lane n ++ note_of lane (suc n) ∷ []
