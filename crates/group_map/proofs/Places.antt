-- What calls on groups do to their entries.
use Rattle.std.proofs.Common.{◌≡◌, ℕ, suc, ◌+◌, ◌*◌, ◌<◌, ◌≤◌, Bool, true, false, List, [], ◌∷◌, ◌++◌, length, get_or, set, take, drop, refl, sym, ap, subst, ◌∙◌, arith, length-append, length-drop, append_assoc, append-nil}
use Rattle.std.specs.Prelude.{Some, if◌then◌else◌}
use Rattle.std.specs.List.{All, list_any, position, slice_get}
use Rattle.std.specs.Ordering.{is_eq}
use Rattle.std.specs.declared.cmp.Ordering.{Ordering}
use Rattle.std.specs.declared.cmp.Ordering.TheVariants.{Less, Equal, Greater}
use Rattle.std.proofs.Math.Seq.{drop-cons}
use Rattle.std.proofs.lemmas.List.{drop_all, length-take-le}
use Rattle.std.proofs.lemmas.List.Elements.{All-get_or, All-push, All-same}
use Rattle.std.proofs.lemmas.List.Quantifiers.{position-Some}
use Rattle.std.proofs.lemmas.Option.{get_or_from_slice_get, slice_get_within}
use Rattle.indexmap.specs.IndexSet.{insert_key}
use Rattle.aggregate.specs.declared.agg_list.Agg.{Agg}
use Rattle.aggregate.specs.declared.kind.Kind.TheVariants.{Group}
use Rattle.aggregate.specs.Partial.{combined}
use Rattle.aggregate.specs.PartialLaws.{IsAssociative}
use Rattle.aggregate.specs.Totals.{Entry, cost, costs, key_cmp}
use Rattle.aggregate.specs.Values.{IsValueOf, ValuesStayFormed, are_partials, width}
use Rattle.aggregate.proofs.Combining.{length-combined}
use Rattle.aggregate.proofs.Totalling as totalling
use Rattle.consumer_trait.specs.Calls.{has_key}
use Rattle.consumer_trait.specs.States.{IsEntryOf}
use Rattle.group_map.specs.Pairs.{AreApart, entries_by, TakesIn}
use Rattle.group_map.proofs.ByPlace.{entry_at_place, is_key, known_is, length-entries_by, push-entries_by, same_keys, set-entries_by, tests_bytes}
use Rattle.group_map.proofs.Taking.{one_charged, takes_known}
use Rattle.group_map.proofs.Widths.{within_width}
use borrow.Rule.Slice.PartMut.{put_mid}

equal_where : (o : Ordering) → is_eq o ≡ true → o ≡ Equal
equal_where Less h = absurd (cc)
equal_where Equal h = refl
equal_where Greater h = absurd (cc)

-- the key that a set found, and the value at its place
record Finds (w : ℕ) (ks : List (List ℕ)) (vs key : List ℕ) (i : ℕ) (e : Entry) : Type 0 where
  within : i < length ks
  entry : e ≡ record { key = key; value = take w (drop (w * i) vs) }
  there : get_or (entries_by w ks vs) i e ≡ e
  width : length (take w (drop (w * i) vs)) ≡ w

finds : (w : ℕ) (ks : List (List ℕ)) (vs key : List ℕ) (i : ℕ) (d : List ℕ) → position (is_key key) ks ≡ Some i → length vs ≡ w * length ks → Finds w ks vs key i (record { key = key; value = take w (drop (w * i) vs) })
finds w ks vs key i d found long =
    let at = position-Some (is_key key) ks i d found in
    let same : key ≡ (get_or ks i d) = totalling.same_key key (get_or ks i d) (equal_where (key_cmp key (get_or ks i d)) (sym (tests_bytes key (get_or ks i d)) ∙ at.1)) in
    let room = within_width w i (length ks) at.0 in
    record {
      within = at.0;
      entry = refl;
      there = entry_at_place w ks vs i d (record { key = key; value = take w (drop (w * i) vs) }) at.0 ∙ ap (λ (k : List ℕ). record { key = k; value = take w (drop (w * i) vs) }) (sym same);
      width = length-take-le w (drop (w * i) vs) (omega (arith, room, long, length-drop (w * i) vs));
    }

-- a known key has its charge
pub found_charged : (w : ℕ) (ks : List (List ℕ)) (vs key value : List ℕ) (i : ℕ) (d : List ℕ) → position (is_key key) ks ≡ Some i → length vs ≡ w * length ks → length value ≡ w → cost (record { key = key; value = value }) ≤ costs (entries_by w ks vs)
found_charged w ks vs key value i d found long width =
    let e : Entry = record { key = key; value = take w (drop (w * i) vs) } in
    let f = finds w ks vs key i d found long in
    let same = length-entries_by w ks vs in
    let one = one_charged (entries_by w ks vs) i e (omega (arith, f.within, same)) in
    let cost_is : cost (get_or (entries_by w ks vs) i e) ≡ cost e = ap cost f.there in
    omega (arith, one, cost_is, f.width, width)

-- the value that was found is one of the kind
pub found_formed : (aggs : List Agg) (w : ℕ) (ks : List (List ℕ)) (vs seen key : List ℕ) (i n : ℕ) (d : List ℕ) → position (is_key key) ks ≡ Some i → length vs ≡ w * length ks → seen ≡ vs → n ≡ w → All (IsEntryOf (Group aggs)) (entries_by w ks vs) → IsValueOf (Group aggs) (take n (drop (w * i) seen))
found_formed aggs w ks vs seen key i n d found long is_seen is_n all =
    let e : Entry = record { key = key; value = take w (drop (w * i) vs) } in
    let f = finds w ks vs key i d found long in
    let es : List Entry = entries_by w ks vs in
    let count = length-entries_by w ks vs in
    let there : IsEntryOf (Group aggs) (get_or es i e) = All-get_or (IsEntryOf (Group aggs)) es i e (omega (arith, f.within, count)) all in
    let value : IsValueOf (Group aggs) (take w (drop (w * i) vs)) = subst (λ (x : Entry). IsValueOf (Group aggs) x.value) f.there there.width in
    ap (λ (k : ℕ). are_partials aggs (take k (drop (w * i) seen))) is_n ∙ ap (λ (bs : List ℕ). are_partials aggs (take w (drop (w * i) bs))) is_seen ∙ value

-- a value that was combined is taken in, and charged nothing
pub combined_known : IsAssociative → ValuesStayFormed → (aggs : List Agg) (w : ℕ) (ks : List (List ℕ)) (vs seen bytes key value new : List ℕ) (i n : ℕ) (d : List ℕ) → position (is_key key) ks ≡ Some i → AreApart (entries_by w ks vs) → length vs ≡ w * length ks → w ≡ width aggs → seen ≡ vs → n ≡ w → bytes ≡ put_mid (w * i) n seen new → new ≡ combined aggs (take n (drop (w * i) seen)) value → TakesIn aggs (entries_by w ks vs) (entries_by w ks bytes) (record { key = key; value = value }) 0
combined_known assoc stay aggs w ks vs seen bytes key value new i n d found apart long wide is_seen is_n is_bytes is_new =
    let e : Entry = record { key = key; value = take w (drop (w * i) vs) } in
    let f = finds w ks vs key i d found long in
    let es : List Entry = entries_by w ks vs in
    let count = length-entries_by w ks vs in
    let value_is : new ≡ combined aggs (take w (drop (w * i) vs)) value = is_new ∙ ap (λ (k : ℕ). combined aggs (take k (drop (w * i) seen)) value) is_n ∙ ap (λ (bs : List ℕ). combined aggs (take w (drop (w * i) bs)) value) is_seen in
    let size : length new ≡ w = ap length value_is ∙ length-combined aggs (take w (drop (w * i) vs)) value ∙ sym wide in
    let put : bytes ≡ put_mid (w * i) w vs new = is_bytes ∙ ap (λ (k : ℕ). put_mid (w * i) k seen new) is_n ∙ ap (λ (bs : List ℕ). put_mid (w * i) w bs new) is_seen in
    let there : get_or es i e ≡ record { key = (get_or ks i d); value = take w (drop (w * i) vs) } = entry_at_place w ks vs i d e f.within in
    let name : key ≡ (get_or ks i d) = ap (λ (x : Entry). x.key) (sym f.there ∙ there) in
    let written : entries_by w ks bytes ≡ set es i (record { key = key; value = new }) =
    ap (entries_by w ks) put ∙ set-entries_by w ks vs new i d f.within long size
    ∙ ap (λ (k : List ℕ). set es i (record { key = k; value = new })) (sym name) in
    subst (λ (after : List Entry). TakesIn aggs es after (record { key = key; value = value }) 0) (sym written)
    (takes_known assoc stay aggs (record { key = key; value = value }) es i e (record { key = key; value = new }) apart (omega (arith, f.within, count))
    (ap (λ (x : Entry). x.key) (sym f.there))
    (ap (λ (bs : List ℕ). record { key = key; value = bs }) value_is ∙ ap (λ (x : Entry). record { key = x.key; value = combined aggs x.value value }) (sym f.there))
    (size ∙ sym f.width ∙ ap (λ (x : Entry). length x.value) (sym f.there)))

-- one more entry of those from a place on
pub copied_more : (w : ℕ) (ks : List (List ℕ)) (vs seen key : List ℕ) (i n : ℕ) (k : List ℕ) (before after copied : List Entry) → slice_get ks i ≡ Some k → key ≡ k → seen ≡ vs → n ≡ w → after ≡ before ++ record { key = key; value = take n (drop (w * i) seen) } ∷ [] → before ++ drop i (entries_by w ks vs) ≡ copied → after ++ drop (i + 1) (entries_by w ks vs) ≡ copied
copied_more w ks vs seen key i n k before after copied there is_key is_seen is_n is_after so_far =
    let es : List Entry = entries_by w ks vs in
    let e : Entry = record { key = k; value = take w (drop (w * i) vs) } in
    let within = slice_get_within ks i k there in
    let count = length-entries_by w ks vs in
    let next : suc i ≡ i + 1 = omega arith in
    let first : get_or es i e ≡ e = entry_at_place w ks vs i k e within ∙ ap (λ (x : List ℕ). record { key = x; value = take w (drop (w * i) vs) }) (get_or_from_slice_get ks i k k there) in
    let parts : drop i es ≡ e ∷ drop (i + 1) es = drop-cons es i e (omega (arith, within, count)) ∙ ap (λ (x : Entry). x ∷ drop (suc i) es) first ∙ ap (λ (m : ℕ). e ∷ drop m es) next in
    let same : record { key = key; value = take n (drop (w * i) seen) } ≡ e =
    ap (λ (bs : List ℕ). record { key = bs; value = take n (drop (w * i) seen) }) is_key
    ∙ ap (λ (m : ℕ). record { key = k; value = take m (drop (w * i) seen) }) is_n
    ∙ ap (λ (bs : List ℕ). record { key = k; value = take w (drop (w * i) bs) }) is_seen in
    ap (λ (xs : List Entry). xs ++ drop (i + 1) es) (is_after ∙ ap (λ (x : Entry). before ++ x ∷ []) same)
    ∙ append_assoc before (e ∷ []) (drop (i + 1) es)
    ∙ ap (λ (xs : List Entry). before ++ xs) (sym parts)
    ∙ so_far

-- nothing stands behind the last place
pub copied_all : (w : ℕ) (ks : List (List ℕ)) (vs : List ℕ) (i : ℕ) (list copied : List Entry) → length ks ≤ i → list ++ drop i (entries_by w ks vs) ≡ copied → list ≡ copied
copied_all w ks vs i list copied past so_far =
    let count = length-entries_by w ks vs in
    sym (append-nil list) ∙ ap (λ (xs : List Entry). list ++ xs) (sym (drop_all i (entries_by w ks vs) (omega (arith, past, count)))) ∙ so_far

-- a new key goes behind the others
pub new_last : (w : ℕ) (ks : List (List ℕ)) (vs key : List ℕ) (copy : List ℕ) → copy ≡ key → has_key key (entries_by w ks vs) ≡ false → insert_key same_keys ks copy ≡ ks ++ copy ∷ []
new_last w ks vs key copy is new =
    let none : list_any (same_keys copy) ks ≡ false = sym (known_is copy w ks vs) ∙ ap (λ (bs : List ℕ). has_key bs (entries_by w ks vs)) is ∙ new in
    ap (λ (b : Bool). if b then ks else ks ++ copy ∷ []) none

-- with its value
pub pushed : (w : ℕ) (ks after : List (List ℕ)) (vs bytes key value : List ℕ) (copy : List ℕ) → copy ≡ key → after ≡ ks ++ copy ∷ [] → bytes ≡ vs ++ value → length vs ≡ w * length ks → length value ≡ w → entries_by w after bytes ≡ entries_by w ks vs ++ record { key = key; value = value } ∷ []
pushed w ks after vs bytes key value copy is is_after is_bytes long width =
    ap (λ (xs : List (List ℕ)). entries_by w xs bytes) is_after
    ∙ ap (λ (bs : List ℕ). entries_by w (ks ++ copy ∷ []) bs) is_bytes
    ∙ push-entries_by w ks vs value copy long width
    ∙ ap (λ (bs : List ℕ). entries_by w ks vs ++ record { key = bs; value = value } ∷ []) is

-- and the values are as long as they have to be
pub pushed_whole : (w : ℕ) (ks after : List (List ℕ)) (vs bytes value : List ℕ) (copy : List ℕ) → after ≡ ks ++ copy ∷ [] → bytes ≡ vs ++ value → length vs ≡ w * length ks → length value ≡ w → length bytes ≡ w * length after
pushed_whole w ks after vs bytes value copy is_after is_bytes long width =
    let count : length after ≡ length ks + 1 = ap length is_after ∙ length-append ks (copy ∷ []) in
    let size : length bytes ≡ length vs + length value = ap length is_bytes ∙ length-append vs value in
    let more : w * (length ks + 1) ≡ w * length ks + w = omega arith in
    size ∙ omega (arith, long, width, more) ∙ ap (λ (n : ℕ). w * n) (sym count)

pub pushed_short : (P : List ℕ → Type 0) (ks after : List (List ℕ)) (copy : List ℕ) → after ≡ ks ++ copy ∷ [] → All P ks → P copy → All P after
pushed_short P ks after copy is all here = All-same P after (ks ++ copy ∷ []) is (All-push P ks copy all here)
