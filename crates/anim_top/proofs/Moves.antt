-- Bytes that move in several calls, and a count of faults over them.
use Rattle.std.proofs.Common.{◌≡◌, ℕ, ◌+◌, ◌-◌, ◌≤◌, List, [], ◌++◌, length, take, drop, Option, Some, None, ap, sym, ◌∙◌, append_assoc, length-append, arith}
use Rattle.std.proofs.Math.Seq.{take-add}
use Rattle.std.proofs.lemmas.List.{append-nil, take_all, length-drop}
use Rattle.edge_io.specs.Edges.{Gave, Took}
use Rattle.anim_top.specs.Outside.{HasGiven, most_read}

pub Gave-then : (a b c : Option (List ℕ)) (x y : List ℕ) → Gave a b x → Gave b c y → Gave a c (x ++ y)
Gave-then None b c x y p q = tt
Gave-then (Some a) None c x y p q = absurd p
Gave-then (Some a) (Some b) None x y p q = absurd q
Gave-then (Some a) (Some b) (Some c) x y p q = p ∙ ap (λ (rest : List ℕ). x ++ rest) q ∙ sym (append_assoc x y c)

pub Took-then : (a b c : Option (List ℕ)) (x y : List ℕ) → Took a b x → Took b c y → Took a c (x ++ y)
Took-then a b None x y p q = tt
Took-then a None (Some c) x y p q = absurd q
Took-then None (Some b) (Some c) x y p q = absurd p
Took-then (Some a) (Some b) (Some c) x y p q = q ∙ (ap (λ (front : List ℕ). front ++ y) p ∙ append_assoc a x y)

pub Took-nothing : (a : Option (List ℕ)) → Took a a []
Took-nothing None = tt
Took-nothing (Some a) = sym (append-nil a)

-- what was written before, and a front of what is left
pub take-+ : (text : List ℕ) (count n : ℕ) → take (count + n) text ≡ take count text ++ take n (take (length text - count) (drop count text))
take-+ text count n =
    rw (take_all (length text - count) (drop count text) (omega (arith, length-drop count text))) (take-add count n text)

-- what was read before, and a part that was lost
pub HasGiven-then : (a b c : Option (List ℕ)) (bytes part : List ℕ) → Gave a b bytes → Gave b c part
    → length bytes + length part ≤ most_read → HasGiven a c
HasGiven-then a b c bytes part p q few = record {
  bytes = bytes ++ part;
  given = Gave-then a b c bytes part p q;
  few = rw (length-append bytes part) few;
}
