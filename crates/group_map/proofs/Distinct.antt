-- Entries of different keys: their total has just them, ascending, and is that of each list that has just them.
use Rattle.std.proofs.Common.{◌≡◌, ℕ, false, List, [], ◌∷◌, ◌++◌, Some, ◌⊎◌, inl, inr, ⊎_elim, arith, refl, sym, ap, subst, ◌∙◌, append_assoc}
use Rattle.std.specs.Prelude.{Contains}
use Rattle.std.specs.Ordering.{is_eq, is_gt}
use Rattle.std.specs.List.{All, AllByRecursion, IsDistinct}
use Rattle.std.specs.List.Sorted.{IsPermutation}
use Rattle.std.specs.declared.cmp.Ordering.{Ordering}
use Rattle.std.specs.declared.cmp.Ordering.TheVariants.{Less, Equal, Greater}
use Rattle.std.proofs.lemmas.Cmp.{nat_list_cmp_total, tied_itself}
use Rattle.std.proofs.lemmas.List.Elements.{All-cons, All-contains, All-from_recursion, All-head, All-nil, All-tail, Contains-append_cases, Contains-append_right, Contains-get_or}
use Rattle.std.proofs.lemmas.List.Sorted.{Contains-permutation, IsPermutation-append_comm, IsPermutation-append_left, IsPermutation-cons, IsPermutation-middle, IsPermutation-refl, IsPermutation-sym, IsPermutation-trans}
use Rattle.aggregate.specs.declared.agg_list.Agg.{Agg}
use Rattle.aggregate.specs.declared.kind.Kind.TheVariants.{Group, Order}
use Rattle.aggregate.specs.Partial.{combined}
use Rattle.aggregate.specs.Rows.{Ascends, StandsBefore}
use Rattle.aggregate.specs.Totals.{Entry, group_at, insert_group, key_cmp, total}
use Rattle.aggregate.proofs.Totalling.{last_group, last_group_at, turn}
use Rattle.aggregate.proofs.Ascending.{pairs-first, pairs-rest}
use Rattle.std.proofs.lemmas.List.Kept.{AllPairs-cons}
use Rattle.std.proofs.lemmas.Map.Keys.{IsDistinct-IsPermutation}
use Rattle.group_map.specs.Pairs.{AreApart, same_key}

-- the key isn't that of any entry
abbrev pub IsAbsent : List ℕ → List Entry → Type 0
IsAbsent k es = AllByRecursion (λ e. is_eq (key_cmp k e.key) ≡ false) es

-- no key stands twice
abbrev pub AreDistinct : List Entry → Type 0
AreDistinct [] = Unit {0}
AreDistinct (e ∷ es) = IsAbsent e.key es × AreDistinct es

-- each key is below those behind it
abbrev pub Rises : List Entry → Type 0
Rises [] = Unit {0}
Rises (e ∷ es) = AllByRecursion (λ z. key_cmp e.key z.key ≡ Less) es × Rises es

-- what holds of an entry of a new key and of those of a total holds of those that it then has
pub all_inserted : (P : Entry → Type 0) (aggs : List Agg) (e : Entry) (m : List Entry) → IsAbsent e.key m → P e → AllByRecursion P m → AllByRecursion P (insert_group aggs e m)
all_inserted P aggs e [] absent pe all = (pe, tt)
all_inserted P aggs e (y ∷ ys) absent pe all = at (key_cmp e.key y.key) absent.0 (all_inserted P aggs e ys absent.1 pe all.1)
  where
    at : (o : Ordering) → is_eq o ≡ false → AllByRecursion P (insert_group aggs e ys) → AllByRecursion P (group_at aggs o e y ys (insert_group aggs e ys))
    at Less n rec = (pe, all)
    at Equal n rec = absurd (cc)
    at Greater n rec = (all.0, rec)

-- what holds of all entries holds of those of their total
pub all_total : (P : Entry → Type 0) (aggs : List Agg) (es : List Entry) → AreDistinct es → AllByRecursion P es → AllByRecursion P (total (Group aggs) es)
unfolding total
all_total P aggs [] d all = tt
all_total P aggs (e ∷ es) d all = all_inserted P aggs e (total (Group aggs) es) (all_total (λ z. is_eq (key_cmp e.key z.key) ≡ false) aggs es d.1 d.0) all.0 (all_total P aggs es d.1 all.1)

-- a key that isn't among the entries isn't in their total
pub absent_total : (k : List ℕ) (aggs : List Agg) (es : List Entry) → AreDistinct es → IsAbsent k es → IsAbsent k (total (Group aggs) es)
absent_total k aggs es d absent = all_total (λ z. is_eq (key_cmp k z.key) ≡ false) aggs es d absent

weaker : (P Q : Entry → Type 0) → ((z : Entry) → P z → Q z) → (es : List Entry) → AllByRecursion P es → AllByRecursion Q es
weaker P Q f [] all = tt
weaker P Q f (e ∷ es) all = (f e all.0, weaker P Q f es all.1)

rises_inserted : (aggs : List Agg) (e : Entry) (m : List Entry) → IsAbsent e.key m → Rises m → Rises (insert_group aggs e m)
rises_inserted aggs e [] absent r = (tt, tt)
rises_inserted aggs e (y ∷ ys) absent r = at (key_cmp e.key y.key) refl absent.0 (rises_inserted aggs e ys absent.1 r.1)
  where
    at : (o : Ordering) → key_cmp e.key y.key ≡ o → is_eq o ≡ false → Rises (insert_group aggs e ys) → Rises (group_at aggs o e y ys (insert_group aggs e ys))
    at Less o n rec = ((o, weaker (λ z. key_cmp y.key z.key ≡ Less) (λ z. key_cmp e.key z.key ≡ Less) (λ z h. nat_list_cmp_total.trans e.key y.key z.key o h) ys r.0), r)
    at Equal o n rec = absurd (cc)
    at Greater o n rec = (all_inserted (λ z. key_cmp y.key z.key ≡ Less) aggs e ys absent.1 (turn e.key y.key Greater o) r.0, rec)

pub rises_total : (aggs : List Agg) (es : List Entry) → AreDistinct es → Rises (total (Group aggs) es)
unfolding total
rises_total aggs [] d = tt
rises_total aggs (e ∷ es) d = rises_inserted aggs e (total (Group aggs) es) (absent_total e.key aggs es d.1 d.0) (rises_total aggs es d.1)

same_inserted : (aggs : List Agg) (e : Entry) (m : List Entry) → IsAbsent e.key m → IsPermutation (e ∷ m) (insert_group aggs e m)
same_inserted aggs e [] absent = IsPermutation-refl (e ∷ [])
same_inserted aggs e (y ∷ ys) absent = at (key_cmp e.key y.key) absent.0 (same_inserted aggs e ys absent.1)
  where
    at : (o : Ordering) → is_eq o ≡ false → IsPermutation (e ∷ ys) (insert_group aggs e ys) → IsPermutation (e ∷ (y ∷ ys)) (group_at aggs o e y ys (insert_group aggs e ys))
    at Less n rec = IsPermutation-refl (e ∷ (y ∷ ys))
    at Equal n rec = absurd (cc)
    at Greater n rec = IsPermutation-trans (e ∷ (y ∷ ys)) (y ∷ (e ∷ ys)) (y ∷ insert_group aggs e ys) (IsPermutation-middle (e ∷ []) y ys) (IsPermutation-cons y (e ∷ ys) (insert_group aggs e ys) rec)

pub same_total : (aggs : List Agg) (es : List Entry) → AreDistinct es → IsPermutation es (total (Group aggs) es)
unfolding total
same_total aggs [] d = IsPermutation-refl []
same_total aggs (e ∷ es) d =
    IsPermutation-trans (e ∷ es) (e ∷ total (Group aggs) es) (insert_group aggs e (total (Group aggs) es))
    (IsPermutation-cons e es (total (Group aggs) es) (same_total aggs es d.1))
    (same_inserted aggs e (total (Group aggs) es) (absent_total e.key aggs es d.1 d.0))

abbrev IsFirstOrAbove : Entry → Entry → Type 0
IsFirstOrAbove y z = (z ≡ y) ⊎ (key_cmp y.key z.key ≡ Less)

-- each entry of a list that rises is its first, or above it
first_or_above : (y : Entry) (ys : List Entry) → Rises (y ∷ ys) → (z : Entry) → Contains (y ∷ ys) z → IsFirstOrAbove y z
first_or_above y ys r z h = All-contains (IsFirstOrAbove y) (y ∷ ys) z (All-from_recursion (IsFirstOrAbove y) (y ∷ ys) (inl refl, weaker (λ z. key_cmp y.key z.key ≡ Less) (IsFirstOrAbove y) (λ z h. inr h) ys r.0)) h

first_is : (y : Entry) (ys : List Entry) → Contains (y ∷ ys) y
first_is y ys = Contains-get_or (y ∷ ys) 0 y (omega arith)

behind : (y z : Entry) (ys : List Entry) → Contains ys z → Contains (y ∷ ys) z
behind y z ys h = Contains-append_right (y ∷ []) ys z h

-- an entry of such a list that is above its first is behind it
is_behind : (y z : Entry) (ys : List Entry) → key_cmp y.key z.key ≡ Less → Contains (y ∷ ys) z → Contains ys z
is_behind y z ys above h = ⊎_elim (λ here. absurd (let e : z ≡ y = All-contains (λ u. u ≡ y) (y ∷ []) z (All-from_recursion (λ u. u ≡ y) (y ∷ []) (refl, tt)) here in let t : key_cmp y.key y.key ≡ Less = ap (λ (u : Entry). key_cmp y.key u.key) (sym e) ∙ above in let t' = tied_itself nat_list_cmp_total y.key in cc)) (λ there. there) (Contains-append_cases (y ∷ []) ys z h)

above_first : (x z : Entry) (xs : List Entry) → Rises (x ∷ xs) → Contains xs z → key_cmp x.key z.key ≡ Less
above_first x z xs r h = All-contains (λ u. key_cmp x.key u.key ≡ Less) xs z (All-from_recursion (λ u. key_cmp x.key u.key ≡ Less) xs r.0) h

-- two lists that rise and have the same entries are one
pub one_that_rises : (xs ys : List Entry) → Rises xs → Rises ys → ((z : Entry) → Contains xs z → Contains ys z) → ((z : Entry) → Contains ys z → Contains xs z) → xs ≡ ys
one_that_rises [] [] r s f g = refl
one_that_rises [] (y ∷ ys) r s f g = absurd (let h = g y (first_is y ys) in omega (arith, h.1))
one_that_rises (x ∷ xs) [] r s f g = absurd (let h = f x (first_is x xs) in omega (arith, h.1))
one_that_rises (x ∷ xs) (y ∷ ys) r s f g =
    let same : x ≡ y = ⊎_elim (λ e. e) (λ above. ⊎_elim (λ e. sym e) (λ below. absurd (let t = turn x.key y.key Less below in cc)) (first_or_above x xs r y (g y (first_is y ys)))) (first_or_above y ys s x (f x (first_is x xs))) in
    ap (λ z. z ∷ xs) same ∙ ap (λ zs. y ∷ zs) (one_that_rises xs ys r.1 s.1
    (λ z h. is_behind y z ys (ap (λ (u : Entry). key_cmp u.key z.key) (sym same) ∙ above_first x z xs r h) (f z (behind x z xs h)))
    (λ z h. is_behind x z xs (ap (λ (u : Entry). key_cmp u.key z.key) same ∙ above_first y z ys s h) (g z (behind y z ys h))))

-- a list that rises and has just the entries of another is its total
pub total_that_rises : (aggs : List Agg) (es sorted : List Entry) → AreDistinct es → IsPermutation es sorted → Rises sorted → total (Group aggs) es ≡ sorted
total_that_rises aggs es sorted d same r =
    one_that_rises (total (Group aggs) es) sorted (rises_total aggs es d) r
    (λ z h. Contains-permutation es sorted z same (Contains-permutation (total (Group aggs) es) es z (IsPermutation-sym es (total (Group aggs) es) (same_total aggs es d)) h))
    (λ z h. Contains-permutation es (total (Group aggs) es) z (same_total aggs es d) (Contains-permutation sorted es z (IsPermutation-sym es sorted same) h))

-- a later entry of a key combines with the earlier one, wherever it comes
pub joined_last : (aggs : List Agg) (k a b : List ℕ) (m : List Entry) → IsAbsent k m → insert_group aggs (record { key = k; value = a }) (last_group aggs (record { key = k; value = b }) m) ≡ insert_group aggs (record { key = k; value = combined aggs a b }) m
joined_last aggs k a b [] absent = ap (λ o. group_at aggs o (record { key = k; value = a }) (record { key = k; value = b }) [] (record { key = k; value = a } ∷ [])) (tied_itself nat_list_cmp_total k)
joined_last aggs k a b (y ∷ ys) absent = at (key_cmp k y.key) refl absent.0 (joined_last aggs k a b ys absent.1)
  where
    x : Entry
    x = record { key = k; value = a }

    e : Entry
    e = record { key = k; value = b }

    both : Entry
    both = record { key = k; value = combined aggs a b }

    at : (o : Ordering) → key_cmp k y.key ≡ o → is_eq o ≡ false → insert_group aggs x (last_group aggs e ys) ≡ insert_group aggs both ys → insert_group aggs x (last_group_at aggs o e y ys (last_group aggs e ys)) ≡ group_at aggs o both y ys (insert_group aggs both ys)
    at Less o n rec = ap (λ r. group_at aggs r x e (y ∷ ys) (insert_group aggs x (y ∷ ys))) (tied_itself nat_list_cmp_total k)
    at Equal o n rec = absurd (cc)
    at Greater o n rec = ap (λ r. group_at aggs r x y (last_group aggs e ys) (insert_group aggs x (last_group aggs e ys))) o ∙ ap (λ zs. y ∷ zs) rec

-- ---- entries that are apart, by either word

pub distinct_of : (es : List Entry) → AreApart es → AreDistinct es
unfolding IsDistinct
distinct_of [] d = tt
distinct_of (e ∷ es) d = (d.0, distinct_of es d.1)

pub apart_of : (es : List Entry) → AreDistinct es → AreApart es
unfolding IsDistinct
apart_of [] d = tt
apart_of (e ∷ es) d = (d.0, apart_of es d.1)

pub same_flips : (a b : Entry) → same_key a b ≡ same_key b a
same_flips a b = at (key_cmp a.key b.key) refl
  where
    at : (o : Ordering) → key_cmp a.key b.key ≡ o → is_eq o ≡ same_key b a
    at Less e = sym (ap is_eq (turn a.key b.key Less e))
    at Equal e = sym (ap is_eq (turn a.key b.key Equal e))
    at Greater e = sym (ap is_eq (turn a.key b.key Greater e))

-- entries stay apart in any order
pub apart_permuted : (es fs : List Entry) → IsPermutation es fs → AreApart es → AreApart fs
apart_permuted es fs same d = IsDistinct-IsPermutation same_key same_flips es fs same d

-- and where those at the front go
pub apart_behind : (front es : List Entry) → AreApart (front ++ es) → AreApart es
unfolding IsDistinct
apart_behind [] es d = d
apart_behind (e ∷ front) es d = apart_behind front es d.1

-- what comes first goes behind the rest
pub moved_behind : (front rows left : List Entry) → IsPermutation (front ++ (rows ++ left)) (rows ++ (front ++ left))
moved_behind front rows left =
    subst (λ (es : List Entry). IsPermutation es (rows ++ (front ++ left))) (append_assoc front rows left)
    (subst (λ (es : List Entry). IsPermutation ((front ++ rows) ++ left) es) (append_assoc rows front left)
    (IsPermutation-append_left left (front ++ rows) (rows ++ front) (IsPermutation-append_comm front rows)))

pub apart_left : (front rows left : List Entry) → AreApart (front ++ (rows ++ left)) → AreApart (front ++ left)
apart_left front rows left d = apart_behind rows (front ++ left) (apart_permuted (front ++ (rows ++ left)) (rows ++ (front ++ left)) (moved_behind front rows left) d)

-- entries that are apart come to the same in any order
pub total_permuted : (aggs : List Agg) (es fs : List Entry) → AreApart es → IsPermutation es fs → total (Group aggs) fs ≡ total (Group aggs) es
total_permuted aggs es fs d same =
    let back = IsPermutation-sym es fs same in
    let distinct = distinct_of es d in
    total_that_rises aggs fs (total (Group aggs) es) (distinct_of fs (apart_permuted es fs same d))
    (IsPermutation-trans fs es (total (Group aggs) es) back (same_total aggs es distinct))
    (rises_total aggs es distinct)

-- ---- entries that are apart and don't fall rise

all_less : (x : Entry) (es : List Entry) → AllByRecursion (λ e. same_key x e ≡ false) es → All (StandsBefore (Some Order) x) es → All (StandsBefore (Some (Group [])) x) es
all_less x [] apart up = All-nil (StandsBefore (Some (Group [])) x)
all_less x (e ∷ es) apart up = All-cons (StandsBefore (Some (Group [])) x) e es (at (key_cmp x.key e.key) apart.0 (All-head (StandsBefore (Some Order) x) e es up)) (all_less x es apart.1 (All-tail (StandsBefore (Some Order) x) e es up))
  where
    at : (o : Ordering) → is_eq o ≡ false → is_gt o ≡ false → o ≡ Less
    at Less n g = refl
    at Equal n g = absurd (cc)
    at Greater n g = absurd (cc)

pub ascends_apart : (es : List Entry) → AreApart es → Ascends (Some Order) es → Ascends (Some (Group [])) es
unfolding IsDistinct
ascends_apart [] d up = λ i j e a b. absurd (omega arith)
ascends_apart (x ∷ es) d up =
    AllPairs-cons (StandsBefore (Some (Group []))) x es
    (all_less x es d.0 (pairs-first (StandsBefore (Some Order)) x es up))
    (ascends_apart es d.1 (pairs-rest (StandsBefore (Some Order)) x es up))
