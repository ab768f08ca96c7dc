-- Known bytes over several writes and reads.
use Rattle.std.proofs.Common.{◌≡◌, ◌+◌, ◌++◌, ◌∙◌, [], ℕ, List, Option, Some, None, take, drop, sym, append_assoc}
use Rattle.std.proofs.lemmas.List.{append-nil, drop-drop, take-append-drop}
use Rattle.std.proofs.Math.Seq.{take-add}
use Rattle.std.specs.Io.KnownBytes.{Appends, Keeps}

-- nothing appended
pub appends-none : (x : Option (List ℕ)) → Appends x x []
appends-none None = tt
appends-none (Some xs) = sym (append-nil xs)

-- two appends in turn
pub appends-both : (a b c : Option (List ℕ)) (xs ys : List ℕ) → Appends a b xs → Appends b c ys → Appends a c (xs ++ ys)
appends-both None b c xs ys f g = tt
appends-both (Some p) None c xs ys f g = absurd f
appends-both (Some p) (Some q) None xs ys f g = absurd g
appends-both (Some p) (Some q) (Some r) xs ys f g = rw (g, f) (append_assoc p xs ys)

-- an append, and then a write that took nothing
pub appends-kept : (a b c : Option (List ℕ)) (xs : List ℕ) → Appends a b xs → Keeps b c → Appends a c xs
appends-kept None b c xs f g = tt
appends-kept (Some p) None c xs f g = absurd f
appends-kept (Some p) (Some q) None xs f g = absurd g
appends-kept (Some p) (Some q) (Some r) xs f g = g ∙ f

-- the bytes so far, and then a piece of what is left
pub appends-piece : (a b c : Option (List ℕ)) (i n : ℕ) (bs : List ℕ) → Appends a b (take i bs) → Appends b c (take n (drop i bs)) → Appends a c (take (i + n) bs)
appends-piece a b c i n bs f g = rw (take-add i n bs) (appends-both a b c (take i bs) (take n (drop i bs)) f g)

-- what a read of n bytes gives and leaves
pub read-leaves : (i n : ℕ) (bs new : List ℕ) → take n new ≡ take n (drop i bs) → drop i bs ≡ take n new ++ drop (i + n) bs
read-leaves i n bs new h = rw (h, ← drop-drop n i bs) (sym (take-append-drop n (drop i bs)))
