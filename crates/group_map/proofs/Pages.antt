-- A page that a spill wrote: what went, what is left, and what the entries that a map lets go come to.
use Rattle.std.proofs.Common.{◌≡◌, ◌≢◌, ℕ, ◌+◌, ◌≤◌, List, [], ◌∷◌, ◌++◌, length, take, drop, Option, Some, None, refl, sym, ap, subst, ◌∙◌, arith, length-append, take-append-drop}
use Rattle.std.specs.Prelude.{IsSome}
use Rattle.std.specs.List.{All}
use Rattle.std.specs.List.Sorted.{IsPermutation}
use Rattle.std.proofs.lemmas.List.{length-map}
use Rattle.std.proofs.lemmas.List.Sums.{sum_by-append}
use Rattle.std.proofs.lemmas.List.Elements.{All-append, All-cons, All-head, All-nil, All-tail}
use Rattle.std.proofs.lemmas.List.Sorted.{All-permutation, IsPermutation-append_right, length_permutation, sum_by-IsPermutation}
use Rattle.aggregate.specs.declared.agg_list.Agg.{Agg}
use Rattle.aggregate.specs.declared.kind.Kind.TheVariants.{Group, Order}
use Rattle.aggregate.specs.Rows.{Ascends, entry_of, entries_of}
use Rattle.aggregate.specs.Totals.{Entry, cost, costs}
use Rattle.consumer_trait.specs.States.{IsEntryBy, IsEntryOf, total_by}
use Rattle.consumer_trait.specs.Calls.{IsEntryRow}
use Rattle.consumer_trait.specs.Usages.{group_of}
use Rattle.entry_list.proofs.Ends.{rises_suffix}
use Rattle.entry_list.specs.Sorted.{Fills, IsSuffix, Sorts}
use Rattle.group_map.specs.Pairs.{AreApart, AreFormed}
use Rattle.group_map.proofs.Distinct.{apart_behind, apart_left, apart_permuted, ascends_apart, moved_behind, total_permuted}
use Rattle.group_map.proofs.Formed.{all_front, all_rest, of_kind}
use Rattle.group_map.proofs.Taking.{least_charge}

-- rows whose entries are of the kind are of the kind
formed_by : (aggs : Option (List Agg)) (rows : List (List (List ℕ))) → All (IsEntryRow (Some Order)) rows → All (IsEntryBy (group_of aggs)) (entries_of rows) → All (IsEntryRow (group_of aggs)) rows
formed_by aggs [] rows_formed formed = All-nil (IsEntryRow (group_of aggs))
formed_by aggs (row ∷ rows) rows_formed formed =
    let first = All-head (IsEntryRow (Some Order)) row rows rows_formed in
    All-cons (IsEntryRow (group_of aggs)) row rows
    (record { fields = first.fields; entry = All-head (IsEntryBy (group_of aggs)) (entry_of row) (entries_of rows) formed })
    (formed_by aggs rows (All-tail (IsEntryRow (Some Order)) row rows rows_formed) (All-tail (IsEntryBy (group_of aggs)) (entry_of row) (entries_of rows) formed))

-- what rises under one group's kind does so under the one that was begun
rises_by : (aggs : Option (List Agg)) (entries : List Entry) → IsSome (group_of aggs) → Ascends (Some (Group [])) entries → Ascends (group_of aggs) entries
rises_by None entries begun up = absurd (cc begun)
rises_by (Some aggs) entries begun up = up

-- and what comes to the same
total_by_group : (aggs : Option (List Agg)) (es fs : List Entry) → IsSome (group_of aggs) → AreApart es → IsPermutation es fs → total_by (group_of aggs) fs ≡ total_by (group_of aggs) es
total_by_group None es fs begun apart same = absurd (cc begun)
total_by_group (Some aggs) es fs begun apart same = total_permuted aggs es fs apart same

-- some entries take bytes
pub some_charge : (entries : List Entry) → entries ≢ [] → 32 ≤ costs entries
some_charge [] h = absurd (h refl)
some_charge (entry ∷ entries) h = let least = least_charge (entry ∷ entries) in omega (arith, least)

pub some_with : (front : List Entry) {chunk : List Entry} → chunk ≢ [] → front ++ chunk ≢ []
some_with [] some = some
some_with (e ∷ front) some = λ none. absurd (cc)

-- ---- some of the chunk went

-- what is left of a chunk
pub record Leaves (aggs : Option (List Agg)) (groups chunk left : List Entry) (costs_old costs_new : ℕ) : Type 0 where
  pub formed : AreFormed aggs (groups ++ left)
  pub charged : costs_new ≡ costs (groups ++ left)
  pub apart : AreApart (groups ++ left)
  pub ascends : Ascends (Some (Group [])) left

pub leaves : (aggs : Option (List Agg)) (groups chunk left : List Entry) (costs_old costs_new : ℕ) → IsSuffix left chunk → costs_new + costs chunk ≡ costs_old + costs left → costs_old ≡ costs (groups ++ chunk) → AreFormed aggs (groups ++ chunk) → AreApart (groups ++ chunk) → Ascends (Some (Group [])) chunk → Leaves aggs groups chunk left costs_old costs_new
leaves aggs groups chunk left costs_old costs_new end fell charged formed apart up = record {
  formed = λ begun is.
      let P = IsEntryOf (Group begun) in
      let all = formed begun is in
      All-append P groups left (all_front P groups chunk all) (all_rest P end.0 left (subst (λ (es : List Entry). All P es) end.1 (all_rest P groups chunk all)));
  charged = let old = sum_by-append cost groups chunk in let new = sum_by-append cost groups left in omega (arith, old, new, fell, charged);
  apart = apart_left groups end.0 left (subst (λ (es : List Entry). AreApart (groups ++ es)) end.1 apart);
  ascends = rises_suffix [] left end.0 (subst (λ (es : List Entry). Ascends (Some (Group [])) es) end.1 up);
}

-- the page that it went to
pub record Pages (aggs : Option (List Agg)) (groups chunk left : List Entry) (rows : List (List (List ℕ))) : Type 0 where
  pub total : total_by (group_of aggs) (entries_of rows ++ (groups ++ left)) ≡ total_by (group_of aggs) (groups ++ chunk)
  pub some : 1 ≤ length rows
  pub moved : length rows + length (groups ++ left) ≡ length (groups ++ chunk)
  pub formed : All (IsEntryRow (group_of aggs)) rows
  pub ascends : Ascends (group_of aggs) (entries_of rows ++ left)
  pub follows : entries_of rows ++ left ≡ chunk
  pub fell : costs left + 32 ≤ costs chunk

pub pages : (aggs : Option (List Agg)) (groups chunk left : List Entry) (rows : List (List (List ℕ))) → IsSome (group_of aggs) → chunk ≢ [] → Fills chunk left rows → AreFormed aggs (groups ++ chunk) → AreApart (groups ++ chunk) → Ascends (Some (Group [])) chunk → Pages aggs groups chunk left rows
pages aggs groups chunk left rows begun some fills formed apart up =
    let count : length (entries_of rows) ≡ length rows = length-map rows entry_of in
    let whole : AreApart (groups ++ (entries_of rows ++ left)) = subst (λ (es : List Entry). AreApart (groups ++ es)) fills.moved apart in
    let perm = moved_behind groups (entries_of rows) left in
    let one = fills.some some in
    record {
      total = total_by_group aggs (groups ++ (entries_of rows ++ left)) (entries_of rows ++ (groups ++ left)) begun whole perm ∙ ap (λ (es : List Entry). total_by (group_of aggs) (groups ++ es)) (sym fills.moved);
      some = one;
      moved = let sizes = ap length fills.moved in omega (arith, count, sizes, length-append (entries_of rows) left, length-append groups left, length-append groups chunk);
      formed = formed_by aggs rows fills.formed (all_front (IsEntryBy (group_of aggs)) (entries_of rows) left (subst (λ (es : List Entry). All (IsEntryBy (group_of aggs)) es) fills.moved (all_rest (IsEntryBy (group_of aggs)) groups chunk (of_kind aggs (groups ++ chunk) formed))));
      ascends = rises_by aggs (entries_of rows ++ left) begun (subst (λ (es : List Entry). Ascends (Some (Group [])) es) fills.moved up);
      follows = sym fills.moved;
      fell = let sum = sum_by-append cost (entries_of rows) left in let same = ap costs fills.moved in let least = least_charge (entries_of rows) in omega (arith, sum, same, least, count, one);
    }

-- ---- the last entries come off as a chunk

-- what they come to with those that stay
pub record ComesOff (aggs : Option (List Agg)) (entries kept chunk : List Entry) : Type 0 where
  pub formed : AreFormed aggs (kept ++ chunk)
  pub charge : costs (kept ++ chunk) ≡ costs entries
  pub apart : AreApart (kept ++ chunk)
  pub ascends : Ascends (Some (Group [])) chunk
  pub count : length (kept ++ chunk) ≡ length entries
  pub total : IsSome (group_of aggs) → total_by (group_of aggs) (kept ++ chunk) ≡ total_by (group_of aggs) entries

pub comes_off : (aggs : Option (List Agg)) (entries kept last chunk : List Entry) (n : ℕ) → kept ≡ take n entries → last ≡ drop n entries → Sorts last chunk → AreFormed aggs entries → AreApart entries → ComesOff aggs entries kept chunk
comes_off aggs entries kept last chunk n is_kept is_last sorts formed apart =
    let parts : kept ++ last ≡ entries = ap (λ (es : List Entry). es ++ last) is_kept ∙ ap (λ (es : List Entry). take n entries ++ es) is_last ∙ take-append-drop n entries in
    let perm : IsPermutation entries (kept ++ chunk) = subst (λ (es : List Entry). IsPermutation es (kept ++ chunk)) parts (IsPermutation-append_right kept last chunk sorts.permuted) in
    let apart_all = apart_permuted entries (kept ++ chunk) perm apart in
    record {
      formed = λ begun is. All-permutation (IsEntryOf (Group begun)) entries (kept ++ chunk) perm (formed begun is);
      charge = sum_by-IsPermutation cost entries (kept ++ chunk) perm;
      apart = apart_all;
      ascends = ascends_apart chunk (apart_behind kept chunk apart_all) sorts.ascends;
      count = length_permutation entries (kept ++ chunk) perm;
      total = λ begun. total_by_group aggs entries (kept ++ chunk) begun apart perm;
    }
