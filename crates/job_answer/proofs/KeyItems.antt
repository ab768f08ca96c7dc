-- Keys of an order compare as its items, and then as what stands behind.
use Rattle.std.proofs.Common.{◌≡◌, ◌-◌, ◌<◌, ◌^◌, ◌∙◌, ◌++◌, ℕ, zero, suc, Bool, true, false, List, [], ◌∷◌, map, refl, sym, ap, arith, append_assoc, ℤ, pos, unsigned_abs}
use Rattle.std.specs.Prelude.{◌==◌, ◌+ℤ◌, ◌-ℤ◌, if◌then◌else◌}
use Rattle.std.specs.Cmp.{int_cmp_is, nat_cmp_is, ranked}
use Rattle.std.specs.Cmp.Lexicographic.{slice_cmp}
use Rattle.std.specs.Int.{to_be_bytes, w64}
use Rattle.std.specs.Int.RustNames.{FitsSigned}
use Rattle.std.specs.List.{AllByRecursion, flat_map}
use Rattle.std.specs.Ordering.{MatchOrdering, int_cmp, nat_cmp, ordering_reverse, ordering_then}
use Rattle.std.specs.declared.cmp.Ordering.{Ordering}
use Rattle.std.specs.declared.cmp.Ordering.TheVariants.{Less, Equal, Greater}
use Rattle.std.proofs.lemmas.Cmp.{int_cmp_total, nat_list_cmp_total}
use Rattle.std.proofs.lemmas.Int.{ints}
use Rattle.std.proofs.lemmas.List.{append-nil}
use Rattle.aggregate.specs.Spelling.{KeysInOrder, NumbersInOrder, number_spelling, spelled, spelling}
use Rattle.aggregate.specs.Totals.{key_cmp}
use Rattle.job_text.specs.declared.job.Job.{Job}
use Rattle.job_text.specs.declared.job.KeyItem.{KeyItem}
use Rattle.job_plan.specs.Columns.{Fields}
use Rattle.job_answer.specs.Answer.{field_of, number_of, item_cmp, rows_cmp}
use Rattle.job_answer.proofs.Aggregates.{number-small}

-- all are below 256
abbrev pub Bytes : List ℕ → Type 0
Bytes bs = AllByRecursion (λ b. b < 256) bs

then-then : (o p q : Ordering) → ordering_then o (ordering_then p q) ≡ ordering_then (ordering_then o p) q
then-then Less p q = refl
then-then Equal p q = refl
then-then Greater p q = refl

-- ---- fields that are turned round

not-zero : (b : ℕ) → (suc b == 0) ≡ false
not-zero b = grind arith

below : (b : ℕ) → nat_cmp 0 (suc b) ≡ Less
below b = sym (nat_cmp_is 0 (suc b) Less (omega arith))

above : (b : ℕ) → nat_cmp (suc b) 0 ≡ Greater
above b = sym (nat_cmp_is (suc b) 0 Greater (omega arith))

turned-ranked : (a b : ℕ) (o : Ordering) → a < 256 → b < 256 → MatchOrdering o (b < a) (b ≡ a) (a < b)
    → MatchOrdering o (255 - a < 255 - b) (255 - a ≡ 255 - b) (255 - b < 255 - a)
turned-ranked a b Less small-a small-b h = omega arith
turned-ranked a b Equal small-a small-b h = omega arith
turned-ranked a b Greater small-a small-b h = omega arith

turned-byte : (a b : ℕ) → a < 256 → b < 256 → nat_cmp (255 - a) (255 - b) ≡ nat_cmp b a
turned-byte a b small-a small-b =
    sym (nat_cmp_is (255 - a) (255 - b) (nat_cmp b a) (turned-ranked a b (nat_cmp b a) small-a small-b (ranked b a (nat_cmp b a) refl)))

-- a byte above 0 and a zero byte, turned round
turned-above : (b : ℕ) → suc b < 256 → nat_cmp 255 (255 - suc b) ≡ Greater
turned-above b small = turned-byte 0 (suc b) (omega arith) small ∙ above b

turned-below : (a : ℕ) → suc a < 256 → nat_cmp (255 - suc a) 255 ≡ Less
turned-below a small = turned-byte (suc a) 0 small (omega arith) ∙ below a

-- fields whose spellings are turned round stand in turned order
turned-order : (a b x y : List ℕ) → Bytes a → Bytes b
    → key_cmp (map (λ c. 255 - c) (spelled a) ++ x) (map (λ c. 255 - c) (spelled b) ++ y) ≡ ordering_then (key_cmp b a) (key_cmp x y)
turned-order [] [] x y in-a in-b = refl
turned-order [] (zero ∷ bs) x y in-a in-b = refl
turned-order [] (suc b ∷ bs) x y in-a in-b = rw (not-zero b, turned-above b in-b.0) refl
turned-order (zero ∷ as_) [] x y in-a in-b = refl
turned-order (suc a ∷ as_) [] x y in-a in-b = rw (not-zero a, turned-below a in-a.0) refl
turned-order (zero ∷ as_) (zero ∷ bs) x y in-a in-b = turned-order as_ bs x y in-a.1 in-b.1
turned-order (zero ∷ as_) (suc b ∷ bs) x y in-a in-b = rw (above b, not-zero b, turned-above b in-b.0) refl
turned-order (suc a ∷ as_) (zero ∷ bs) x y in-a in-b = rw (not-zero a, turned-below a in-a.0, below a) refl
turned-order (suc a ∷ as_) (suc b ∷ bs) x y in-a in-b =
    rw (not-zero a, not-zero b)
    (ap (ordering_then (nat_cmp (255 - suc a) (255 - suc b))) (turned-order as_ bs x y in-a.1 in-b.1)
    ∙ then-then (nat_cmp (255 - suc a) (255 - suc b)) (key_cmp bs as_) (key_cmp x y)
    ∙ ap (λ (o : Ordering). ordering_then (ordering_then o (key_cmp bs as_)) (key_cmp x y)) (turned-byte (suc a) (suc b) in-a.0 in-b.0))

-- ---- items

-- a number or a field as a key has it
abbrev pub item_key : Bool → Bool → ℤ → List ℕ → List ℕ
item_key is_number down n field = if is_number then number_spelling n down else spelling field down

-- two of them in order
abbrev pub upward_cmp : Bool → ℤ → ℤ → List ℕ → List ℕ → Ordering
upward_cmp is_number m n p q = if is_number then int_cmp m n else slice_cmp nat_cmp p q

module _ (job : Job) (header : Fields) where
  -- the bytes of an item of a row
  abbrev pub key_item : Fields → KeyItem → List ℕ
  key_item row item = item_key item.number item.down (number_of job header row item.column) (field_of job header row item.column)

  -- a row's fields in these columns are bytes
  abbrev pub HasBytes : List KeyItem → Fields → Type 0
  HasBytes keys row = AllByRecursion (λ item. Bytes (field_of job header row item.column)) keys

module _ (order : KeysInOrder) (numbers : NumbersInOrder) where
  item-order : (is_number down : Bool) (m n : ℤ) (p q x y : List ℕ) → FitsSigned w64 m → FitsSigned w64 n → Bytes p → Bytes q
      → key_cmp (item_key is_number down m p ++ x) (item_key is_number down n q ++ y)
      ≡ ordering_then (if down then ordering_reverse (upward_cmp is_number m n p q) else upward_cmp is_number m n p q) (key_cmp x y)
  item-order true true m n p q x y fits-m fits-n in-p in-q =
      numbers.downward m n x y fits-m fits-n ∙ ap (λ (o : Ordering). ordering_then o (key_cmp x y)) (int_cmp_total.antisymm n m)
  item-order true false m n p q x y fits-m fits-n in-p in-q = numbers.upward m n x y fits-m fits-n
  item-order false true m n p q x y fits-m fits-n in-p in-q =
      turned-order p q x y in-p in-q ∙ ap (λ (o : Ordering). ordering_then o (key_cmp x y)) (nat_list_cmp_total.antisymm q p)
  item-order false false m n p q x y fits-m fits-n in-p in-q = order p q x y

  -- keys compare as their rows, and then as what stands behind
  pub keys-order : (job : Job) (header : Fields) (keys : List KeyItem) (a b : Fields) (x y : List ℕ) → HasBytes job header keys a → HasBytes job header keys b
      → key_cmp (flat_map (key_item job header a) keys ++ x) (flat_map (key_item job header b) keys ++ y) ≡ ordering_then (rows_cmp job header keys a b) (key_cmp x y)
  keys-order job header [] a b x y in-a in-b = refl
  keys-order job header (item ∷ items) a b x y in-a in-b =
      let more = keys-order job header items a b x y in-a.1 in-b.1 in
      let number = λ (row : Fields). number_of job header row item.column in
      let field = λ (row : Fields). field_of job header row item.column in
      ap (λ (t : List ℕ). key_cmp t (flat_map (key_item job header b) (item ∷ items) ++ y)) (append_assoc (key_item job header a item) (flat_map (key_item job header a) items) x)
      ∙ ap (key_cmp (key_item job header a item ++ (flat_map (key_item job header a) items ++ x))) (append_assoc (key_item job header b item) (flat_map (key_item job header b) items) y)
      ∙ item-order item.number item.down (number a) (number b) (field a) (field b) (flat_map (key_item job header a) items ++ x) (flat_map (key_item job header b) items ++ y)
      (number-small (field a)) (number-small (field b)) in-a.0 in-b.0
      ∙ ap (ordering_then (item_cmp job header item a b)) more
      ∙ then-then (item_cmp job header item a b) (rows_cmp job header items a b) (key_cmp x y)

-- ---- the numbers of rows

-- a row's number, less 2 ^ 63
abbrev pub lowered : ℕ → ℤ
lowered n = pos n -ℤ pos (2 ^ 63)

raised-back : (n : ℕ) → unsigned_abs (lowered n +ℤ pos (2 ^ 63)) ≡ n
raised-back n = omega (arith, ints)

lowered-fits : (n : ℕ) → n < 2 ^ 64 → FitsSigned w64 (lowered n)
lowered-fits n small = omega (arith, ints)

lowered-spelling : (n : ℕ) → number_spelling (lowered n) false ++ [] ≡ to_be_bytes w64 n
unfolding number_spelling
lowered-spelling n = append-nil (number_spelling (lowered n) false) ∙ ap (to_be_bytes w64) (raised-back n)

-- an earlier row's number stands before a later one's
pub number-order : NumbersInOrder → (m n : ℕ) → m < n → n < 2 ^ 64 → key_cmp (to_be_bytes w64 m) (to_be_bytes w64 n) ≡ Less
number-order numbers m n later small =
    let less : int_cmp (lowered m) (lowered n) ≡ Less = sym (int_cmp_is (lowered m) (lowered n) Less (omega (arith, ints))) in
    let both = numbers.upward (lowered m) (lowered n) [] [] (lowered-fits m (omega arith)) (lowered-fits n small) in
    ap (λ (t : List ℕ). key_cmp t (to_be_bytes w64 n)) (sym (lowered-spelling m))
    ∙ ap (key_cmp (number_spelling (lowered m) false ++ [])) (sym (lowered-spelling n))
    ∙ both
    ∙ ap (λ (o : Ordering). ordering_then o (key_cmp [] [])) less
