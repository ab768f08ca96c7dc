-- Entries that are apart, with one more taken in: behind the others, or combined into that of its key.
use Rattle.std.proofs.Common.{◌≡◌, ℕ, zero, suc, ◌+◌, ◌*◌, ◌<◌, ◌≤◌, false, List, [], ◌∷◌, ◌++◌, length, get_or, set, arith, refl, sym, ap, subst, ◌∙◌, append-nil}
use Rattle.std.specs.Prelude.{Bool, true, ◌||◌}
use Rattle.std.specs.Ordering.{is_eq}
use Rattle.std.specs.List.{All, AllByRecursion, IsDistinct}
use Rattle.aggregate.specs.declared.agg_list.Agg.{Agg}
use Rattle.aggregate.specs.declared.kind.Kind.TheVariants.{Group}
use Rattle.aggregate.specs.Partial.{combined}
use Rattle.aggregate.specs.PartialLaws.{IsAssociative}
use Rattle.aggregate.specs.Totals.{Entry, cost, costs, insert_group, key_cmp, total}
use Rattle.aggregate.specs.Values.{IsValueOf, ValuesStayFormed}
use Rattle.aggregate.proofs.Totalling.{last_group, swap_group, total-snoc_group}
use Rattle.std.proofs.lemmas.List.Elements.{All-get_or, All-set}
use Rattle.std.proofs.lemmas.List.Sums.{sum_by-append, sum_by-cons}
use Rattle.consumer_trait.specs.Calls.{has_key}
use Rattle.consumer_trait.specs.States.{IsEntryOf}
use Rattle.group_map.specs.Pairs.{AreApart, same_key, TakesIn}
use Rattle.group_map.proofs.Distinct.{AreDistinct, absent_total, apart_of, distinct_of, joined_last, same_flips}

-- a value that takes a later one in leaves the total of what was there and the later entry
total_set : IsAssociative → (aggs : List Agg) (e : Entry) (es : List Entry) (i : ℕ) (d : Entry) → AreDistinct es → i < length es → e.key ≡ (get_or es i d).key → total (Group aggs) (set es i (record { key = (get_or es i d).key; value = combined aggs (get_or es i d).value e.value })) ≡ last_group aggs e (total (Group aggs) es)
unfolding total
total_set assoc aggs e [] i d apart b key = absurd (omega arith)
total_set assoc aggs e (x ∷ es) zero d apart b key =
    sym (joined_last aggs x.key x.value e.value (total (Group aggs) es) (absent_total x.key aggs es apart.1 apart.0))
    ∙ ap (λ (k : List ℕ). insert_group aggs x (last_group aggs (record { key = k; value = e.value }) (total (Group aggs) es))) (sym key)
    ∙ swap_group aggs assoc x e (total (Group aggs) es)
total_set assoc aggs e (x ∷ es) (suc i) d apart b key =
    ap (insert_group aggs x) (total_set assoc aggs e es i d apart.1 (omega arith) key) ∙ swap_group aggs assoc x e (total (Group aggs) es)

set_costs : (es : List Entry) (i : ℕ) (d e : Entry) → i < length es → cost e ≡ cost (get_or es i d) → costs (set es i e) ≡ costs es
set_costs [] i d e b same = absurd (omega arith)
set_costs (x ∷ es) zero d e b same = let old = sum_by-cons cost x es in let new = sum_by-cons cost e es in omega (arith, same, old, new)
set_costs (x ∷ es) (suc i) d e b same =
    let rec = set_costs es i d e (omega arith) same in
    let old = sum_by-cons cost x es in
    let new = sum_by-cons cost x (set es i e) in
    omega (arith, rec, old, new)

all_set : (P : Entry → Type 0) (es : List Entry) (i : ℕ) (d new : Entry) → i < length es → (P (get_or es i d) → P new) → AllByRecursion P es → AllByRecursion P (set es i new)
all_set P [] i d new b f all = absurd (omega arith)
all_set P (x ∷ es) zero d new b f all = (f all.0, all.1)
all_set P (x ∷ es) (suc i) d new b f all = (all.0, all_set P es i d new (omega arith) f all.1)

-- one whose key stays leaves entries apart
apart_set : (es : List Entry) (i : ℕ) (d new : Entry) → i < length es → new.key ≡ (get_or es i d).key → AreApart es → AreApart (set es i new)
unfolding IsDistinct
apart_set [] i d new b key apart = absurd (omega arith)
apart_set (x ∷ es) zero d new b key apart =
    (subst (λ (k : List ℕ). AllByRecursion (λ e. is_eq (key_cmp k e.key) ≡ false) es) (sym key) apart.0, apart.1)
apart_set (x ∷ es) (suc i) d new b key apart =
    (all_set (λ e. same_key x e ≡ false) es i d new (omega arith) (λ n. ap (λ (k : List ℕ). is_eq (key_cmp x.key k)) key ∙ n) apart.0, apart_set es i d new (omega arith) key apart.1)

-- an entry into whose value another was combined is still one of the kind
formed_set : ValuesStayFormed → (aggs : List Agg) (e : Entry) (es : List Entry) (i : ℕ) (d new : Entry) → i < length es → new ≡ record { key = (get_or es i d).key; value = combined aggs (get_or es i d).value e.value } → length new.value ≡ length (get_or es i d).value → All (IsEntryOf (Group aggs)) es → All (IsEntryOf (Group aggs)) (set es i new)
formed_set stay aggs e es i d new b is len all =
    let was : IsEntryOf (Group aggs) (get_or es i d) = All-get_or (IsEntryOf (Group aggs)) es i d b all in
    let key : length new.key ≡ length (get_or es i d).key = ap (λ (n : Entry). length n.key) is in
    let now : IsEntryOf (Group aggs) new = record {
      key_fits = let fits = was.key_fits in omega (arith, key, fits);
      value_fits = let fits = was.value_fits in omega (arith, len, fits);
      width = subst (λ (n : Entry). IsValueOf (Group aggs) n.value) (sym is) (stay aggs (get_or es i d).value e.value was.width);
    } in
    All-set (IsEntryOf (Group aggs)) es i new now all

-- an entry of a known key is taken in, where its value is combined into the one that is there, and charged nothing
pub takes_known : IsAssociative → ValuesStayFormed → (aggs : List Agg) (e : Entry) (es : List Entry) (i : ℕ) (d new : Entry) → AreApart es → i < length es → e.key ≡ (get_or es i d).key → new ≡ record { key = (get_or es i d).key; value = combined aggs (get_or es i d).value e.value } → length new.value ≡ length (get_or es i d).value → TakesIn aggs es (set es i new) e 0
takes_known assoc stay aggs e es i d new apart b key is len =
    let name : new.key ≡ (get_or es i d).key = ap (λ (n : Entry). n.key) is in
    record {
      total = ap (λ (n : Entry). total (Group aggs) (set es i n)) is ∙ total_set assoc aggs e es i d (distinct_of es apart) b key ∙ sym (total-snoc_group aggs assoc es e);
      charged = let long = ap length name in let same = set_costs es i d new b (omega (arith, long, len)) in omega (arith, same);
      apart = apart_set es i d new b name apart;
      formed = formed_set stay aggs e es i d new b is len;
    }

all_push : (P : Entry → Type 0) (es : List Entry) (e : Entry) → AllByRecursion P es → P e → AllByRecursion P (es ++ e ∷ [])
all_push P [] e all h = (h, tt)
all_push P (x ∷ es) e all h = (all.0, all_push P es e all.1 h)

none_of : (b c : Bool) → (b || c) ≡ false → (b ≡ false) × (c ≡ false)
none_of true c h = absurd (cc)
none_of false c h = (refl, h)

-- one more entry, of a new key
pub apart_push : (es : List Entry) (e : Entry) → has_key e.key es ≡ false → AreApart es → AreApart (es ++ e ∷ [])
unfolding IsDistinct
apart_push [] e new apart = (tt, tt)
apart_push (x ∷ es) e new apart =
    let none = none_of (is_eq (key_cmp e.key x.key)) (has_key e.key es) new in
    (all_push (λ z. same_key x z ≡ false) es e apart.0 (same_flips x e ∙ none.0), apart_push es e none.1 apart.1)

-- each entry has its charge
pub one_charged : (es : List Entry) (i : ℕ) (d : Entry) → i < length es → cost (get_or es i d) ≤ costs es
one_charged [] i d b = absurd (omega arith)
one_charged (x ∷ es) zero d b = let sum = sum_by-cons cost x es in omega (arith, sum)
one_charged (x ∷ es) (suc i) d b = let sum = sum_by-cons cost x es in let rec = one_charged es i d (omega arith) in omega (arith, sum, rec)

-- which is at least 32
pub least_charge : (es : List Entry) → 32 * length es ≤ costs es
least_charge [] = omega arith
least_charge (x ∷ es) = let sum = sum_by-cons cost x es in let rec = least_charge es in omega (arith, sum, rec)

-- no entries are apart
pub apart_none : (es : List Entry) → es ≡ [] → AreApart es
apart_none es e = subst (λ (xs : List Entry). AreApart xs) (sym e) (apart_of [] tt)

-- a new entry leaves those in memory apart, where no chunk is there
pub apart_more : (groups more chunk : List Entry) (e : Entry) → chunk ≡ [] → more ≡ groups ++ e ∷ [] → has_key e.key (groups ++ chunk) ≡ false → AreApart (groups ++ chunk) → AreApart (more ++ chunk)
apart_more groups more chunk e none is new apart =
    let all : groups ++ chunk ≡ groups = ap (λ (es : List Entry). groups ++ es) none ∙ append-nil groups in
    let after : more ++ chunk ≡ groups ++ e ∷ [] = ap (λ (es : List Entry). more ++ es) none ∙ append-nil more ∙ is in
    subst (λ (es : List Entry). AreApart es) (sym after)
    (apart_push groups e (sym (ap (λ (es : List Entry). has_key e.key es) all) ∙ new) (subst (λ (es : List Entry). AreApart es) all apart))

-- and costs what it costs
pub charge_more : (groups more chunk : List Entry) (e : Entry) → more ≡ groups ++ e ∷ [] → costs (more ++ chunk) ≡ costs (groups ++ chunk) + cost e
charge_more groups more chunk e is =
    let old = sum_by-append cost groups chunk in
    let new = sum_by-append cost more chunk in
    let pushed = ap costs is ∙ sum_by-append cost groups (e ∷ []) in
    let one = sum_by-cons cost e [] in
    omega (arith, old, new, pushed, one)
