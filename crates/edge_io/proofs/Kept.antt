-- What a reader of std did to its bytes, after tries that moved none.
use Rattle.std.proofs.Common.{◌≡◌, ℕ, List, [], ◌++◌, take, Option, Some, None, IfSome, refl, ap, sym, ◌∙◌}
use Rattle.std.specs.Io.KnownBytes.{Keeps, Consumes, IsAtEnd}
use Rattle.edge_io.specs.Edges.{Gave}

pub kept_at_first : (old : Option (List ℕ)) → Keeps old old
kept_at_first None = tt
kept_at_first (Some xs) = refl

pub kept_again : (old mid new : Option (List ℕ)) → Keeps old mid → Keeps mid new → Keeps old new
kept_again None mid new p q = tt
kept_again (Some xs) None new p q = absurd p
kept_again (Some xs) (Some ys) None p q = absurd q
kept_again (Some xs) (Some ys) (Some zs) p q = q ∙ p

-- nothing was given
pub gave_none : (old new : Option (List ℕ)) → Keeps old new → Gave old new []
gave_none None new p = tt
gave_none (Some xs) None p = absurd p
gave_none (Some xs) (Some ys) p = sym p

pub gave_after : (old mid new : Option (List ℕ)) (bytes : List ℕ) → Keeps old mid → Consumes mid new bytes
    → Gave old new bytes
gave_after None mid new bytes p q = tt
gave_after (Some xs) None new bytes p q = absurd p
gave_after (Some xs) (Some ys) None bytes p q = absurd q
gave_after (Some xs) (Some ys) (Some zs) bytes p q = sym p ∙ q

-- a read of no byte found the end
pub none_left : (old mid new : Option (List ℕ)) (n : ℕ) (into : List ℕ) → Keeps old mid
    → Consumes mid new (take n into) → n ≡ 0 → IsAtEnd new → IfSome old (λ bytes. bytes ≡ [])
none_left None mid new n into p q e end = tt
none_left (Some xs) None new n into p q e end = absurd p
none_left (Some xs) (Some ys) None n into p q e end = absurd q
none_left (Some xs) (Some ys) (Some zs) n into p q e end =
    sym p ∙ q ∙ ap (λ m. take m into ++ zs) e ∙ end

-- all of them, for the tries of one read
pub ruleset kept = (kept_at_first, kept_again, gave_none, gave_after, none_left)
