-- Keys and values side by side, as entries.
use Rattle.std.proofs.Common.{◌≡◌, ℕ, zero, suc, ◌+◌, ◌*◌, ◌<◌, ◌≤◌, Bool, false, List, [], ◌∷◌, ◌++◌, length, get_or, set, take, drop, refl, sym, ap, subst, ◌∙◌, arith, length-drop, append_assoc}
use Rattle.std.specs.Prelude.{◌||◌}
use Rattle.std.specs.List.{AllByRecursion, IsDistinct, list_any}
use Rattle.std.specs.Ordering.{is_eq}
use Rattle.std.specs.Cmp.Lexicographic.{pointwise}
use Rattle.std.specs.Prelude.{nat_eq}
use Rattle.std.proofs.lemmas.Map.Text.{is_eq-slice_cmp}
use Rattle.std.proofs.lemmas.List.{drop-append-le, drop_at, drop-drop, drop-take, length-take-le, take-append-le, take-take, take_all, take_at}
use Rattle.std.proofs.Math.Seq.{take-add}
use Rattle.aggregate.specs.Totals.{Entry, key_cmp}
use Rattle.consumer_trait.specs.Calls.{has_key}
use Rattle.group_map.specs.Pairs.{AreApart, entries_by, same_key}
use borrow.Rule.Slice.PartMut.{put_mid}

-- how a set finds bytes among its keys, and tells these apart
abbrev pub is_key : List ℕ → List ℕ → Bool
is_key k v = pointwise nat_eq k v

abbrev pub same_keys : List ℕ → List ℕ → Bool
same_keys a b = is_key a b

pub tests_bytes : (k : List ℕ) (v : List ℕ) → is_key k v ≡ is_eq (key_cmp k v)
tests_bytes k v = sym (is_eq-slice_cmp k v)

-- each key has its entry
pub length-entries_by : (w : ℕ) (ks : List (List ℕ)) (vs : List ℕ) → length (entries_by w ks vs) ≡ length ks
length-entries_by w [] vs = refl
length-entries_by w (k ∷ ks) vs = ap suc (length-entries_by w ks (drop w vs))

-- the place of a key's value, one place on
pub width_more : (w i : ℕ) → w * suc i ≡ w + w * i
width_more w i = omega arith

-- the entry at a place
pub entry_at_place : (w : ℕ) (ks : List (List ℕ)) (vs : List ℕ) (i : ℕ) (k : List ℕ) (e : Entry) → i < length ks → get_or (entries_by w ks vs) i e ≡ record { key = (get_or ks i k); value = take w (drop (w * i) vs) }
entry_at_place w [] vs i k e b = absurd (omega arith)
entry_at_place w (x ∷ ks) vs zero k e b =
    let at : 0 ≡ w * 0 = omega arith in
    ap (λ (n : ℕ). record { key = x; value = take w (drop n vs) }) at
entry_at_place w (x ∷ ks) vs (suc i) k e b =
    entry_at_place w ks (drop w vs) i k e (omega arith)
    ∙ ap (λ (bytes : List ℕ). record { key = (get_or ks i k); value = take w bytes }) (drop-drop (w * i) w vs ∙ ap (λ (n : ℕ). drop n vs) (sym (width_more w i)))

-- the entries up to a place
pub take-entries_by : (w : ℕ) (ks : List (List ℕ)) (vs : List ℕ) (n : ℕ) → entries_by w (take n ks) (take (w * n) vs) ≡ take n (entries_by w ks vs)
take-entries_by w [] vs zero = refl
take-entries_by w [] vs (suc n) = refl
take-entries_by w (k ∷ ks) vs zero = refl
take-entries_by w (k ∷ ks) vs (suc n) =
    let value : take w (take (w * suc n) vs) ≡ take w vs = rw (width_more w n) (take-take w (w + w * n) vs (omega arith)) in
    let rest : drop w (take (w * suc n) vs) ≡ take (w * n) (drop w vs) = rw (width_more w n) (drop-take w (w * n) vs) in
    ap (λ (bytes : List ℕ). record { key = k; value = bytes } ∷ entries_by w (take n ks) (drop w (take (w * suc n) vs))) value
    ∙ ap (λ (bytes : List ℕ). record { key = k; value = take w vs } ∷ entries_by w (take n ks) bytes) rest
    ∙ ap (λ (es : List Entry). record { key = k; value = take w vs } ∷ es) (take-entries_by w ks (drop w vs) n)

none_left : (vs : List ℕ) → length vs ≡ 0 → vs ≡ []
none_left [] e = refl
none_left (v ∷ vs) e = absurd (omega (arith, e))

-- one more key, with its value behind the values
pub push-entries_by : (w : ℕ) (ks : List (List ℕ)) (vs value : List ℕ) (k : List ℕ) → length vs ≡ w * length ks → length value ≡ w → entries_by w (ks ++ k ∷ []) (vs ++ value) ≡ entries_by w ks vs ++ record { key = k; value = value } ∷ []
push-entries_by w [] vs value k long width =
    let none : vs ≡ [] = none_left vs (omega (arith, long)) in
    ap (λ (bytes : List ℕ). record { key = k; value = take w (bytes ++ value) } ∷ []) none
    ∙ ap (λ (bytes : List ℕ). record { key = k; value = bytes } ∷ []) (take_all w value (omega (arith, width)))
push-entries_by w (x ∷ ks) vs value k long width =
    let first : w ≤ length vs = omega (arith, long, width_more w (length ks)) in
    let rest_long : length (drop w vs) ≡ w * length ks = omega (arith, long, width_more w (length ks), length-drop w vs) in
    ap (λ (bytes : List ℕ). record { key = x; value = bytes } ∷ entries_by w (ks ++ k ∷ []) (drop w (vs ++ value))) (take-append-le w vs value first)
    ∙ ap (λ (bytes : List ℕ). record { key = x; value = take w vs } ∷ entries_by w (ks ++ k ∷ []) bytes) (drop-append-le w vs value first)
    ∙ ap (λ (es : List Entry). record { key = x; value = take w vs } ∷ es) (push-entries_by w ks (drop w vs) value k rest_long width)

-- what is written behind a front leaves that
put_later : (w at n : ℕ) (vs new : List ℕ) {to : ℕ} → to ≡ w + at → put_mid to n vs new ≡ take w vs ++ put_mid at n (drop w vs) new
put_later w at n vs new {to} e =
    let front : take to vs ≡ take w vs ++ take at (drop w vs) = ap (λ (k : ℕ). take k vs) e ∙ take-add w at vs in
    let back : drop n (drop to vs) ≡ drop n (drop at (drop w vs)) = ap (λ (k : ℕ). drop n (drop k vs)) e ∙ ap (λ (bytes : List ℕ). drop n bytes) (sym (drop-drop at w vs)) in
    ap (λ (bytes : List ℕ). bytes ++ (new ++ drop n (drop to vs))) front
    ∙ ap (λ (bytes : List ℕ). (take w vs ++ take at (drop w vs)) ++ (new ++ bytes)) back
    ∙ append_assoc (take w vs) (take at (drop w vs)) (new ++ drop n (drop at (drop w vs)))

-- a value that is written at its place
pub set-entries_by : (w : ℕ) (ks : List (List ℕ)) (vs new : List ℕ) (i : ℕ) (k : List ℕ) → i < length ks → length vs ≡ w * length ks → length new ≡ w → entries_by w ks (put_mid (w * i) w vs new) ≡ set (entries_by w ks vs) i (record { key = (get_or ks i k); value = new })
set-entries_by w [] vs new i k b long width = absurd (omega arith)
set-entries_by w (x ∷ ks) vs new zero k b long width =
    let at : w * 0 ≡ 0 = omega arith in
    subst (λ (n : ℕ). entries_by w (x ∷ ks) (put_mid n w vs new) ≡ record { key = x; value = new } ∷ entries_by w ks (drop w vs)) (sym at)
    (ap (λ (bytes : List ℕ). record { key = x; value = bytes } ∷ entries_by w ks (drop w (new ++ drop w vs))) (take_at new (drop w vs) w width)
    ∙ ap (λ (bytes : List ℕ). record { key = x; value = new } ∷ entries_by w ks bytes) (drop_at new (drop w vs) w width))
set-entries_by w (x ∷ ks) vs new (suc i) k b long width =
    let first : w ≤ length vs = omega (arith, long, width_more w (length ks)) in
    let rest_long : length (drop w vs) ≡ w * length ks = omega (arith, long, width_more w (length ks), length-drop w vs) in
    let parts : put_mid (w * suc i) w vs new ≡ take w vs ++ put_mid (w * i) w (drop w vs) new = put_later w (w * i) w vs new (width_more w i) in
    let front : length (take w vs) ≡ w = length-take-le w vs first in
    ap (λ (bytes : List ℕ). entries_by w (x ∷ ks) bytes) parts
    ∙ ap (λ (bytes : List ℕ). record { key = x; value = bytes } ∷ entries_by w ks (drop w (take w vs ++ put_mid (w * i) w (drop w vs) new))) (take_at (take w vs) (put_mid (w * i) w (drop w vs) new) w front)
    ∙ ap (λ (bytes : List ℕ). record { key = x; value = take w vs } ∷ entries_by w ks bytes) (drop_at (take w vs) (put_mid (w * i) w (drop w vs) new) w front)
    ∙ ap (λ (es : List Entry). record { key = x; value = take w vs } ∷ es) (set-entries_by w ks (drop w vs) new i k (omega arith) rest_long width)

-- an entry has a key exactly where the set finds it
pub known_is : (key : List ℕ) (w : ℕ) (ks : List (List ℕ)) (vs : List ℕ) → has_key key (entries_by w ks vs) ≡ list_any (is_key key) ks
known_is key w [] vs = refl
known_is key w (k ∷ ks) vs =
    ap (λ (b : Bool). b || has_key key (entries_by w ks (drop w vs))) (sym (tests_bytes key k))
    ∙ ap (λ (b : Bool). is_key key k || b) (known_is key w ks (drop w vs))

absent_all : (x : List ℕ) (value : List ℕ) (w : ℕ) (ks : List (List ℕ)) (vs : List ℕ) → AllByRecursion (λ k. same_keys x k ≡ false) ks → AllByRecursion (λ e. same_key (record { key = x; value = value }) e ≡ false) (entries_by w ks vs)
absent_all x value w [] vs n = tt
absent_all x value w (k ∷ ks) vs n = (sym (tests_bytes x k) ∙ n.0, absent_all x value w ks (drop w vs) n.1)

-- keys that a set tells apart are those of entries apart
pub apart_entries : (w : ℕ) (ks : List (List ℕ)) (vs : List ℕ) → IsDistinct same_keys ks → AreApart (entries_by w ks vs)
unfolding IsDistinct
apart_entries w [] vs d = tt
apart_entries w (k ∷ ks) vs d = (absent_all k (take w vs) w ks (drop w vs) d.0, apart_entries w ks (drop w vs) d.1)
