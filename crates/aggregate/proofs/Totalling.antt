-- The total of a list with one more entry at its end.
use Rattle.std.proofs.Common.{◌≡◌, ℕ, List, [], ◌∷◌, ◌++◌, refl, sym, ap, ◌∙◌}
use Rattle.std.specs.Ordering.{ordering_reverse}
use Rattle.std.specs.declared.cmp.Ordering.{Ordering}
use Rattle.std.specs.declared.cmp.Ordering.TheVariants.{Less, Equal, Greater}
use Rattle.std.proofs.lemmas.Cmp.{nat_list_cmp_total}
use Rattle.std.specs.FinMap.{slice_cmp-IsAntisymmetric, nat_cmp-IsAntisymmetric}
use Rattle.aggregate.specs.declared.agg_list.Agg.{Agg}
use Rattle.aggregate.specs.declared.kind.Kind.{Kind}
use Rattle.aggregate.specs.declared.kind.Kind.TheVariants.{Group, Order}
use Rattle.aggregate.specs.Partial.{combined}
use Rattle.aggregate.specs.PartialLaws.{IsAssociative}
use Rattle.aggregate.specs.Totals.{Entry, TotalsStayEqual, insert_entry, insert_group, insert_order, key_cmp, total}

-- a later entry joined to the total of earlier ones
abbrev pub last_group_at : List Agg → Ordering → Entry → Entry → List Entry → List Entry → List Entry
last_group_at aggs Less e x rest later = e ∷ (x ∷ rest)
last_group_at aggs Equal e x rest later = record { key = x.key; value = combined aggs x.value e.value } ∷ rest
last_group_at aggs Greater e x rest later = x ∷ later

abbrev pub last_group : List Agg → Entry → List Entry → List Entry
last_group aggs e [] = e ∷ []
last_group aggs e (x ∷ xs) = last_group_at aggs (key_cmp e.key x.key) e x xs (last_group aggs e xs)

pub same_key : (a b : List ℕ) → key_cmp a b ≡ Equal → a ≡ b
same_key a b e = slice_cmp-IsAntisymmetric nat_cmp-IsAntisymmetric a b e

pub turn : (a b : List ℕ) (o : Ordering) → key_cmp a b ≡ o → key_cmp b a ≡ ordering_reverse o
turn a b o e = nat_list_cmp_total.antisymm b a ∙ ap ordering_reverse e

-- an earlier and a later entry come in either order
swap_nil : (aggs : List Agg) (x e : Entry) (r : Ordering) → key_cmp x.key e.key ≡ r → insert_group aggs x (e ∷ []) ≡ last_group aggs e (x ∷ [])
swap_nil aggs x e Less h = let t : key_cmp e.key x.key ≡ Greater = turn x.key e.key Less h in simp (h, t) refl
swap_nil aggs x e Equal h = let t : key_cmp e.key x.key ≡ Equal = turn x.key e.key Equal h in simp (h, t) (ap (λ k. record { key = k; value = combined aggs x.value e.value } ∷ []) (sym (same_key x.key e.key h)))
swap_nil aggs x e Greater h = let t : key_cmp e.key x.key ≡ Less = turn x.key e.key Greater h in simp (h, t) refl

swap_first : (aggs : List Agg) (x e y : Entry) (ys : List Entry) (r : Ordering) → key_cmp x.key e.key ≡ r → key_cmp x.key y.key ≡ Less → key_cmp e.key y.key ≡ Less → insert_group aggs x (e ∷ (y ∷ ys)) ≡ last_group aggs e (x ∷ (y ∷ ys))
swap_first aggs x e y ys Less h p q = let t : key_cmp e.key x.key ≡ Greater = turn x.key e.key Less h in simp (h, t, p, q) refl
swap_first aggs x e y ys Equal h p q = let t : key_cmp e.key x.key ≡ Equal = turn x.key e.key Equal h in simp (h, t, p, q) (ap (λ k. record { key = k; value = combined aggs x.value e.value } ∷ (y ∷ ys)) (sym (same_key x.key e.key h)))
swap_first aggs x e y ys Greater h p q = let t : key_cmp e.key x.key ≡ Less = turn x.key e.key Greater h in simp (h, t, p, q) refl

swap_at : (aggs : List Agg) → IsAssociative → (x e y : Entry) (ys : List Entry) (p q : Ordering) → key_cmp x.key y.key ≡ p → key_cmp e.key y.key ≡ q → insert_group aggs x (last_group aggs e ys) ≡ last_group aggs e (insert_group aggs x ys) → insert_group aggs x (last_group aggs e (y ∷ ys)) ≡ last_group aggs e (insert_group aggs x (y ∷ ys))
swap_at aggs assoc x e y ys Less Less p q rec = let f = swap_first aggs x e y ys (key_cmp x.key e.key) refl p q in simp (p, q) (simp (p, q) at f)
swap_at aggs assoc x e y ys Less Equal p q rec =
    let r : key_cmp x.key e.key ≡ Less = ap (λ z. key_cmp x.key z) (same_key e.key y.key q) ∙ p in
    let s : key_cmp e.key x.key ≡ Greater = turn x.key e.key Less r in
    simp (p, q, s) refl
swap_at aggs assoc x e y ys Less Greater p q rec =
    let r : key_cmp x.key e.key ≡ Less = nat_list_cmp_total.trans x.key y.key e.key p (turn e.key y.key Greater q) in
    let s : key_cmp e.key x.key ≡ Greater = turn x.key e.key Less r in
    simp (p, q, s) refl
swap_at aggs assoc x e y ys Equal Less p q rec =
    let r : key_cmp x.key e.key ≡ Greater = ap (λ z. key_cmp z e.key) (same_key x.key y.key p) ∙ turn e.key y.key Less q in
    simp (p, q, r) refl
swap_at aggs assoc x e y ys Equal Equal p q rec = simp (p, q) (ap (λ v. record { key = y.key; value = v } ∷ ys) (sym (assoc aggs x.value y.value e.value)))
swap_at aggs assoc x e y ys Equal Greater p q rec = simp (p, q) refl
swap_at aggs assoc x e y ys Greater Less p q rec =
    let s : key_cmp e.key x.key ≡ Less = nat_list_cmp_total.trans e.key y.key x.key q (turn x.key y.key Greater p) in
    let r : key_cmp x.key e.key ≡ Greater = turn e.key x.key Less s in
    simp (p, q, r) refl
swap_at aggs assoc x e y ys Greater Equal p q rec = simp (p, q) refl
swap_at aggs assoc x e y ys Greater Greater p q rec = simp (p, q) (ap (λ es. y ∷ es) rec)

pub swap_group : (aggs : List Agg) → IsAssociative → (x e : Entry) (m : List Entry) → insert_group aggs x (last_group aggs e m) ≡ last_group aggs e (insert_group aggs x m)
swap_group aggs assoc x e [] = swap_nil aggs x e (key_cmp x.key e.key) refl
swap_group aggs assoc x e (y ∷ ys) = swap_at aggs assoc x e y ys (key_cmp x.key y.key) (key_cmp e.key y.key) refl refl (swap_group aggs assoc x e ys)

-- the total of a list with one more entry at its end
pub total-snoc_group : (aggs : List Agg) → IsAssociative → (xs : List Entry) (e : Entry) → total (Group aggs) (xs ++ (e ∷ [])) ≡ last_group aggs e (total (Group aggs) xs)
unfolding total
total-snoc_group aggs assoc [] e = refl
total-snoc_group aggs assoc (x ∷ xs) e = ap (λ es. insert_group aggs x es) (total-snoc_group aggs assoc xs e) ∙ swap_group aggs assoc x e (total (Group aggs) xs)

-- ---- the same where nothing is combined

abbrev pub last_order_at : Ordering → Entry → Entry → List Entry → List Entry → List Entry
last_order_at Less e x rest later = e ∷ (x ∷ rest)
last_order_at Equal e x rest later = x ∷ later
last_order_at Greater e x rest later = x ∷ later

abbrev pub last_order : Entry → List Entry → List Entry
last_order e [] = e ∷ []
last_order e (x ∷ xs) = last_order_at (key_cmp e.key x.key) e x xs (last_order e xs)

order_nil : (x e : Entry) (r : Ordering) → key_cmp x.key e.key ≡ r → insert_order x (e ∷ []) ≡ last_order e (x ∷ [])
order_nil x e Less h = let t : key_cmp e.key x.key ≡ Greater = turn x.key e.key Less h in simp (h, t) refl
order_nil x e Equal h = let t : key_cmp e.key x.key ≡ Equal = turn x.key e.key Equal h in simp (h, t) refl
order_nil x e Greater h = let t : key_cmp e.key x.key ≡ Less = turn x.key e.key Greater h in simp (h, t) refl

order_first : (x e y : Entry) (ys : List Entry) (r : Ordering) → key_cmp x.key e.key ≡ r → key_cmp x.key y.key ≡ Less → key_cmp e.key y.key ≡ Less → insert_order x (e ∷ (y ∷ ys)) ≡ last_order e (x ∷ (y ∷ ys))
order_first x e y ys Less h p q = let t : key_cmp e.key x.key ≡ Greater = turn x.key e.key Less h in simp (h, t, p, q) refl
order_first x e y ys Equal h p q = let t : key_cmp e.key x.key ≡ Equal = turn x.key e.key Equal h in simp (h, t, p, q) refl
order_first x e y ys Greater h p q = let t : key_cmp e.key x.key ≡ Less = turn x.key e.key Greater h in simp (h, t, p, q) refl

order_swap_at : (x e y : Entry) (ys : List Entry) (p q : Ordering) → key_cmp x.key y.key ≡ p → key_cmp e.key y.key ≡ q → insert_order x (last_order e ys) ≡ last_order e (insert_order x ys) → insert_order x (last_order e (y ∷ ys)) ≡ last_order e (insert_order x (y ∷ ys))
order_swap_at x e y ys Less Less p q rec = let f = order_first x e y ys (key_cmp x.key e.key) refl p q in simp (p, q) (simp (p, q) at f)
order_swap_at x e y ys Less Equal p q rec =
    let r : key_cmp x.key e.key ≡ Less = ap (λ z. key_cmp x.key z) (same_key e.key y.key q) ∙ p in
    let s : key_cmp e.key x.key ≡ Greater = turn x.key e.key Less r in
    simp (p, q, s) refl
order_swap_at x e y ys Less Greater p q rec =
    let r : key_cmp x.key e.key ≡ Less = nat_list_cmp_total.trans x.key y.key e.key p (turn e.key y.key Greater q) in
    let s : key_cmp e.key x.key ≡ Greater = turn x.key e.key Less r in
    simp (p, q, s) refl
order_swap_at x e y ys Equal Less p q rec =
    let r : key_cmp x.key e.key ≡ Greater = ap (λ z. key_cmp z e.key) (same_key x.key y.key p) ∙ turn e.key y.key Less q in
    let s : key_cmp e.key x.key ≡ Less = turn x.key e.key Greater r in
    simp (p, q, r, s) refl
order_swap_at x e y ys Equal Equal p q rec =
    let s : key_cmp e.key x.key ≡ Equal = ap (λ z. key_cmp e.key z) (same_key x.key y.key p) ∙ q in
    simp (p, q, s) refl
order_swap_at x e y ys Equal Greater p q rec =
    let s : key_cmp e.key x.key ≡ Greater = ap (λ z. key_cmp e.key z) (same_key x.key y.key p) ∙ q in
    simp (p, q, s) refl
order_swap_at x e y ys Greater Less p q rec =
    let s : key_cmp e.key x.key ≡ Less = nat_list_cmp_total.trans e.key y.key x.key q (turn x.key y.key Greater p) in
    let r : key_cmp x.key e.key ≡ Greater = turn e.key x.key Less s in
    simp (p, q, r) refl
order_swap_at x e y ys Greater Equal p q rec = simp (p, q) (ap (λ es. y ∷ es) rec)
order_swap_at x e y ys Greater Greater p q rec = simp (p, q) (ap (λ es. y ∷ es) rec)

pub swap_order : (x e : Entry) (m : List Entry) → insert_order x (last_order e m) ≡ last_order e (insert_order x m)
swap_order x e [] = order_nil x e (key_cmp x.key e.key) refl
swap_order x e (y ∷ ys) = order_swap_at x e y ys (key_cmp x.key y.key) (key_cmp e.key y.key) refl refl (swap_order x e ys)

pub total-snoc_order : (xs : List Entry) (e : Entry) → total Order (xs ++ (e ∷ [])) ≡ last_order e (total Order xs)
unfolding total
total-snoc_order [] e = refl
total-snoc_order (x ∷ xs) e = ap (λ es. insert_order x es) (total-snoc_order xs e) ∙ swap_order x e (total Order xs)

-- equal totals stay equal with one more entry at the end
with_last : IsAssociative → (kind : Kind) (xs ys : List Entry) (e : Entry) → total kind xs ≡ total kind ys → total kind (xs ++ (e ∷ [])) ≡ total kind (ys ++ (e ∷ []))
with_last assoc (Group aggs) xs ys e h = total-snoc_group aggs assoc xs e ∙ ap (λ es. last_group aggs e es) h ∙ sym (total-snoc_group aggs assoc ys e)
with_last assoc Order xs ys e h = total-snoc_order xs e ∙ ap (λ es. last_order e es) h ∙ sym (total-snoc_order ys e)

-- and behind one front
behind : (kind : Kind) (front xs ys : List Entry) → total kind xs ≡ total kind ys → total kind (front ++ xs) ≡ total kind (front ++ ys)
unfolding total
behind kind [] xs ys h = h
behind kind (e ∷ front) xs ys h = ap (insert_entry kind e) (behind kind front xs ys h)

pub totals_stay : IsAssociative → (kind : Kind) → TotalsStayEqual kind
totals_stay assoc kind = record { behind = behind kind; with_last = with_last assoc kind }
