-- A total has of each key the one value that the values of the key are combined to.
use Rattle.std.proofs.Common.{◌≡◌, ℕ, Bool, true, false, List, [], ◌∷◌, Some, cond, refl, sym, ap, ◌∙◌}
use Rattle.std.specs.List.{All, fold}
use Rattle.std.specs.Ordering.{is_eq}
use Rattle.std.specs.declared.cmp.Ordering.{Ordering}
use Rattle.std.specs.declared.cmp.Ordering.TheVariants.{Less, Equal, Greater}
use Rattle.std.proofs.lemmas.Cmp.{nat_list_cmp_total}
use Rattle.std.proofs.lemmas.List.Elements.{All-cons, All-head, All-tail}
use Rattle.aggregate.specs.declared.agg_list.Agg.{Agg}
use Rattle.aggregate.specs.declared.kind.Kind.TheVariants.{Group}
use Rattle.aggregate.specs.Partial.{combined}
use Rattle.aggregate.specs.PartialLaws.{IsAssociative}
use Rattle.aggregate.specs.Rows.{Ascends, StandsBefore}
use Rattle.aggregate.specs.Totals.{Entry, insert_group, group_at, key_cmp, total}
use Rattle.aggregate.specs.Keyed.{TotalsTellKeys, folded, is_of_key, values_of}
use Rattle.aggregate.proofs.Ascending.{pairs-first, pairs-rest, totals_ascend}
use Rattle.aggregate.proofs.Totalling.{same_key}

-- an earlier value joined to the later ones' one
abbrev joined_first : List Agg → List ℕ → List (List ℕ) → List (List ℕ)
joined_first aggs value [] = value ∷ []
joined_first aggs value (later ∷ more) = combined aggs value later ∷ more

equal_where : (o : Ordering) → is_eq o ≡ true → o ≡ Equal
equal_where Less h = absurd (cc)
equal_where Equal h = refl
equal_where Greater h = absurd (cc)

-- a key that is an entry's is its key
key_is : (key : List ℕ) (e : Entry) → is_of_key key e ≡ true → key ≡ e.key
key_is key e h = same_key key e.key (equal_where (key_cmp key e.key) h)

-- a key below all others has no value among theirs
none_above : (key : List ℕ) (m : List Entry) → All (λ entry. key_cmp key entry.key ≡ Less) m → values_of key m ≡ []
none_above key [] all = refl
none_above key (x ∷ xs) all =
    let h : key_cmp key x.key ≡ Less = All-head (λ entry. key_cmp key entry.key ≡ Less) x xs all in
    simp h (none_above key xs (All-tail (λ entry. key_cmp key entry.key ≡ Less) x xs all))

abbrev Inserted : List Agg → List ℕ → Entry → List Entry → List Entry → Type 0
Inserted aggs key e m new = values_of key new ≡ cond (is_of_key key e) (joined_first aggs e.value (values_of key m)) (values_of key m)

inserted_at : (aggs : List Agg) (key : List ℕ) (e x : Entry) (xs : List Entry) (r : Ordering) (b c : Bool)
    → key_cmp e.key x.key ≡ r → is_of_key key e ≡ b → is_of_key key x ≡ c
    → (b ≡ true → r ≡ Less → values_of key (x ∷ xs) ≡ [])
    → Inserted aggs key e xs (insert_group aggs e xs)
    → Inserted aggs key e (x ∷ xs) (group_at aggs r e x xs (insert_group aggs e xs))
inserted_at aggs key e x xs Less true c h hb hc none rec =
    let n = none refl refl in
    simp (hb, n) refl
inserted_at aggs key e x xs Less false c h hb hc none rec = simp hb refl
inserted_at aggs key e x xs Equal true true h hb hc none rec = simp (hb, hc) refl
inserted_at aggs key e x xs Equal false false h hb hc none rec = simp (hb, hc) refl
inserted_at aggs key e x xs Equal true false h hb hc none rec =
    let other : is_of_key key x ≡ true = sym (ap (λ k. is_eq (key_cmp key k)) (same_key e.key x.key h)) ∙ hb in
    absurd (cc (sym other ∙ hc))
inserted_at aggs key e x xs Equal false true h hb hc none rec =
    let other : is_of_key key e ≡ true = ap (λ k. is_eq (key_cmp key k)) (same_key e.key x.key h) ∙ hc in
    absurd (cc (sym other ∙ hb))
inserted_at aggs key e x xs Greater true true h hb hc none rec =
    let same : is_eq (key_cmp e.key x.key) ≡ true = sym (ap (λ k. is_eq (key_cmp k x.key)) (key_is key e hb)) ∙ hc in
    absurd (cc (sym same ∙ ap is_eq h))
inserted_at aggs key e x xs Greater true false h hb hc none rec = simp (hb, hc) (simp hb at rec)
inserted_at aggs key e x xs Greater false true h hb hc none rec = simp (hb, hc) (ap (λ vs. x.value ∷ vs) (simp hb at rec))
inserted_at aggs key e x xs Greater false false h hb hc none rec = simp (hb, hc) (simp hb at rec)

-- what an earlier entry does to the values of a key
inserted : (aggs : List Agg) (key : List ℕ) (e : Entry) (m : List Entry) → Ascends (Some (Group aggs)) m → Inserted aggs key e m (insert_group aggs e m)
inserted aggs key e [] up = alone (is_of_key key e) refl
  where
    alone : (b : Bool) → is_of_key key e ≡ b → Inserted aggs key e [] (e ∷ [])
    alone true h = simp h refl
    alone false h = simp h refl
inserted aggs key e (x ∷ xs) up =
    let R = StandsBefore (Some (Group aggs)) in
    inserted_at aggs key e x xs (key_cmp e.key x.key) (is_of_key key e) (is_of_key key x) refl refl refl
    (λ is less. above is less)
    (inserted aggs key e xs (pairs-rest R x xs up))
  where
    above : is_of_key key e ≡ true → key_cmp e.key x.key ≡ Less → values_of key (x ∷ xs) ≡ []
    above is less =
        let R = StandsBefore (Some (Group aggs)) in
        let name = key_is key e is in
        let first : key_cmp key x.key ≡ Less = ap (λ k. key_cmp k x.key) name ∙ less in
        none_above key (x ∷ xs) (All-cons (λ entry. key_cmp key entry.key ≡ Less) x xs first
        (λ k d within. nat_list_cmp_total.trans key x.key _ first (pairs-first R x xs up k d within)))

-- values go in any grouping
fold_first : IsAssociative → (aggs : List Agg) (v w : List ℕ) (ws : List (List ℕ)) → fold (combined aggs) (combined aggs v w) ws ≡ combined aggs v (fold (combined aggs) w ws)
fold_first assoc aggs v w [] = refl
fold_first assoc aggs v w (u ∷ us) = ap (λ z. fold (combined aggs) z us) (assoc aggs v w u) ∙ fold_first assoc aggs v (combined aggs w u) us

folded_first : IsAssociative → (aggs : List Agg) (v : List ℕ) (vs : List (List ℕ)) → joined_first aggs v (folded aggs vs) ≡ folded aggs (v ∷ vs)
folded_first assoc aggs v [] = refl
folded_first assoc aggs v (w ∷ ws) = ap (λ z. z ∷ []) (sym (fold_first assoc aggs v w ws))

folded_at : IsAssociative → (aggs : List Agg) (key : List ℕ) (e : Entry) (es : List Entry) (b : Bool) → is_of_key key e ≡ b → cond b (joined_first aggs e.value (folded aggs (values_of key es))) (folded aggs (values_of key es)) ≡ folded aggs (values_of key (e ∷ es))
folded_at assoc aggs key e es true h = simp h (folded_first assoc aggs e.value (values_of key es))
folded_at assoc aggs key e es false h = simp h refl

pub totals_tell : IsAssociative → TotalsTellKeys
unfolding total
totals_tell assoc aggs [] key = refl
totals_tell assoc aggs (e ∷ es) key =
    inserted aggs key e (total (Group aggs) es) ((totals_ascend (Group aggs)).ascends es)
    ∙ ap (λ vs. cond (is_of_key key e) (joined_first aggs e.value vs) vs) (totals_tell assoc aggs es key)
    ∙ folded_at assoc aggs key e es (is_of_key key e) refl
