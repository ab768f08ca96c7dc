-- Keys as they grow.
use Rattle.std.proofs.Common.{◌≡◌, ◌≢◌, ◌≤◌, ◌<◌, ◌+◌, ◌∷◌, ◌++◌, ◌∙◌, [], ℕ, zero, suc, List, Option, Some, None, length, take, drop, get_or, refl, sym, ap, arith, append_assoc, take-append-drop, add-one, drop-cons, subst, inl, inr, false}
use Rattle.std.specs.Prelude.{◌==◌}
use Rattle.std.proofs.lemmas.Bool.{cases_Bool, eqb-true}
use Rattle.std.proofs.lemmas.List.{append_cancel_left, take-take, length-append, drop_all}
use Rattle.std.proofs.Math.Nat.{add_assoc}
use Rattle.std.specs.List.{All, flat_map}
use Rattle.std.proofs.lemmas.List.Elements.{All-head, All-tail}
use Rattle.aggregate.specs.Spelling.{behind, spelled, spelled_byte, unspelled}
use Rattle.std.proofs.Math.Seq.{take-append_seam}
use Rattle.std.specs.Io.{StartsWith}

-- what starts with more starts with less
pub starts-less : (new mid old tail : List ℕ) → StartsWith new mid → mid ≡ old ++ tail → StartsWith new old
starts-less new mid old tail h e =
    let long : length mid ≡ length old + length tail = ap length e ∙ length-append old tail in
    let fits : length old ≤ length mid = omega arith in
    sym (take-take (length old) (length mid) new fits) ∙ ap (take (length old)) (h ∙ e) ∙ take-append_seam old tail

-- ---- a key is read byte by byte
pub behind-behind : (f g : List ℕ) (n m : ℕ) (o : Option (List ℕ × ℕ)) → behind f n (behind g m o) ≡ behind (f ++ g) (n + m) o
behind-behind f g n m None = refl
behind-behind f g n m (Some p) = rw (append_assoc f g p.0, add_assoc n m p.1) refl

other-byte : (b : ℕ) (bs : List ℕ) → b ≢ 0 → unspelled (b ∷ bs) ≡ behind (b ∷ []) 1 (unspelled bs)
unfolding unspelled
other-byte zero bs n = absurd (n refl)
other-byte (suc b) bs n = refl

one-cons : (key : List ℕ) (i : ℕ) → i < length key → drop i key ≡ get_or key i 0 ∷ drop (i + 1) key
one-cons key i h = rw (drop-cons key i 0, add-one) refl

two-cons : (key : List ℕ) (i : ℕ) → i + 1 < length key → drop i key ≡ get_or key i 0 ∷ get_or key (i + 1) 0 ∷ drop (i + 2) key
two-cons key i h =
    let next : i + 1 + 1 ≡ i + 2 = omega arith in
    let first = one-cons key i (omega arith) in
    let second = one-cons key (i + 1) h in
    first ∙ rw (second, next) refl

pub step-other : (key : List ℕ) (i : ℕ) → i < length key → get_or key i 0 ≢ 0 → unspelled (drop i key) ≡ behind (get_or key i 0 ∷ []) 1 (unspelled (drop (i + 1) key))
step-other key i h n = rw (one-cons key i h) (other-byte (get_or key i 0) (drop (i + 1) key) n)

pub step-end : (key : List ℕ) (i : ℕ) → i < length key → length key ≤ i + 1 → get_or key i 0 ≡ 0 → unspelled (drop i key) ≡ None
unfolding unspelled
step-end key i h k z =
    let none : drop (i + 1) key ≡ [] = drop_all (i + 1) key k in
    rw (one-cons key i h, none, z) refl

pub step-none : (key : List ℕ) (i : ℕ) → length key ≤ i → unspelled (drop i key) ≡ None
unfolding unspelled
step-none key i h = rw (drop_all i key h) refl

pub step-done : (key : List ℕ) (i : ℕ) → i + 1 < length key → get_or key i 0 ≡ 0 → get_or key (i + 1) 0 ≡ 0 → unspelled (drop i key) ≡ Some ([], 2)
unfolding unspelled
step-done key i h z y = rw (two-cons key i h, z, y) refl

pub step-zero : (key : List ℕ) (i : ℕ) → i + 1 < length key → get_or key i 0 ≡ 0 → get_or key (i + 1) 0 ≡ 1 → unspelled (drop i key) ≡ behind (0 ∷ []) 2 (unspelled (drop (i + 2) key))
unfolding unspelled
step-zero key i h z y = rw (two-cons key i h, z, y) refl

other-mark : (m : ℕ) (bs : List ℕ) → m ≢ 0 → m ≢ 1 → unspelled (0 ∷ m ∷ bs) ≡ None
unfolding unspelled
other-mark zero bs a b = absurd (a refl)
other-mark (suc zero) bs a b = absurd (b refl)
other-mark (suc (suc m)) bs a b = refl

pub step-wrong : (key : List ℕ) (i : ℕ) → i + 1 < length key → get_or key i 0 ≡ 0 → get_or key (i + 1) 0 ≢ 0 → get_or key (i + 1) 0 ≢ 1 → unspelled (drop i key) ≡ None
step-wrong key i h z a b = rw (two-cons key i h, z) (other-mark (get_or key (i + 1) 0) (drop (i + 2) key) a b)

pub not-zero : (b : ℕ) → (suc b == 0) ≡ false
not-zero b = elim (cases_Bool (suc b == 0)) [ inl t ↦ absurd (let e = eqb-true (suc b) 0 t in omega arith) | inr f ↦ f ]

two-more : (n : ℕ) → 2 + n ≡ suc (suc n)
two-more n = omega arith

one-more : (n : ℕ) → 1 + n ≡ suc n
one-more n = omega arith

-- ---- a spelling is read back, whatever follows, and nothing else is read
byte-cases : (b : ℕ) (rest : List ℕ) → unspelled (spelled_byte b ++ rest) ≡ behind (b ∷ []) (length (spelled_byte b)) (unspelled rest)
unfolding unspelled
byte-cases zero rest = refl
byte-cases (suc b) rest = rw (not-zero b) refl

pub reads-back : (field rest : List ℕ) → unspelled (spelled field ++ rest) ≡ Some (field, length (spelled field))
unfolding unspelled
reads-back [] rest = refl
reads-back (b ∷ bs) rest =
    let more = reads-back bs rest in
    let tail = append_assoc (spelled_byte b) (flat_map spelled_byte bs) (0 ∷ 0 ∷ []) in
    let e : spelled (b ∷ bs) ++ rest ≡ spelled_byte b ++ (spelled bs ++ rest) = rw tail (append_assoc (spelled_byte b) (spelled bs) rest) in
    let long : length (spelled (b ∷ bs)) ≡ length (spelled_byte b) + length (spelled bs) = rw tail (length-append (spelled_byte b) (spelled bs)) in
    rw (e, long) (byte-cases b (spelled bs ++ rest) ∙ ap (behind (b ∷ []) (length (spelled_byte b))) more)

behind-front : (k n : ℕ) (head piece bs f : List ℕ) (o : Option (List ℕ × ℕ)) → behind head k o ≡ Some (f, n)
    → ((g : List ℕ) (m : ℕ) → o ≡ Some (g, m) → take (k + m) (piece ++ bs) ≡ spelled (head ++ g)) → take n (piece ++ bs) ≡ spelled f
behind-front k n head piece bs f None e h = cc e
behind-front k n head piece bs f (Some p) e h =
    let same : (head ++ p.0, k + p.1) ≡ (f, n) = cc e in
    subst (λ (x : List ℕ × ℕ). take x.1 (piece ++ bs) ≡ spelled x.0) same (h p.0 p.1 refl)

-- what is read stands at the front of the key
pub spelled-front : (key f : List ℕ) (n : ℕ) → unspelled key ≡ Some (f, n) → take n key ≡ spelled f
unfolding unspelled
spelled-front [] f n e = cc e
spelled-front (zero ∷ []) f n e = cc e
spelled-front (zero ∷ zero ∷ bs) f n e =
    let same : ([], 2) ≡ (f, n) = cc e in
    subst (λ (x : List ℕ × ℕ). take x.1 (0 ∷ 0 ∷ bs) ≡ spelled x.0) same refl
spelled-front (zero ∷ suc zero ∷ bs) f n e =
    behind-front 2 n (0 ∷ []) (0 ∷ 1 ∷ []) bs f (unspelled bs) e (λ g m h. rw two-more (ap (λ (t : List ℕ). 0 ∷ 1 ∷ t) (spelled-front bs g m h)))
spelled-front (zero ∷ suc (suc b) ∷ bs) f n e = cc e
spelled-front (suc b ∷ bs) f n e =
    behind-front 1 n (suc b ∷ []) (suc b ∷ []) bs f (unspelled bs) e (λ g m h. rw (one-more m, not-zero b) (ap (λ (t : List ℕ). suc b ∷ t) (spelled-front bs g m h)))

-- a key is the spelling that was read, and what is left
pub spelled-rest : (key f : List ℕ) (n : ℕ) → unspelled key ≡ Some (f, n) → (key ≡ spelled f ++ drop n key) × (n ≡ length (spelled f))
spelled-rest key f n e =
    let whole : key ≡ spelled f ++ drop n key = sym (take-append-drop n key) ∙ ap (λ (t : List ℕ). t ++ drop n key) (spelled-front key f n e) in
    let again : Some (f, length (spelled f)) ≡ Some (f, n) = sym (reads-back f (drop n key)) ∙ ap unspelled (sym whole) ∙ e in
    let pair : (f, length (spelled f)) ≡ (f, n) = cc again in
    (whole, sym (ap (λ (p : List ℕ × ℕ). p.1) pair))

-- a field that has no zero byte is spelled as it is
pub plain-spelled : (field : List ℕ) → All (λ byte. byte ≢ 0) field → flat_map spelled_byte field ≡ field
plain-spelled [] h = refl
plain-spelled (zero ∷ bs) h = absurd (All-head (λ byte. byte ≢ 0) 0 bs h refl)
plain-spelled (suc b ∷ bs) h =
    rw (not-zero b) (ap (λ (t : List ℕ). suc b ∷ t) (plain-spelled bs (All-tail (λ byte. byte ≢ 0) (suc b) bs h)))

-- equal keys have equal fields, and the same behind them
pub apart : (a b x y : List ℕ) → spelled a ++ x ≡ spelled b ++ y → (a ≡ b) × (x ≡ y)
apart a b x y e =
    let left = reads-back a x in
    let right = reads-back b y in
    let same : Some (a, length (spelled a)) ≡ Some (b, length (spelled b)) = sym left ∙ ap unspelled e ∙ right in
    let read : (a, length (spelled a)) ≡ (b, length (spelled b)) = cc same in
    let fields : a ≡ b = ap (λ (p : List ℕ × ℕ). p.0) read in
    (fields, append_cancel_left (spelled b) x y (rw fields at e))
