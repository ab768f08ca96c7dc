-- The entries of a map are of its kind, and stay so.
use Rattle.std.proofs.Common.{◌≡◌, List, [], ◌∷◌, ◌++◌, Option, Some, None, length, refl, ap, sym, subst, ◌∙◌, append-nil}
use Rattle.std.specs.List.{All}
use Rattle.std.specs.Prelude.{IsSome}
use Rattle.std.proofs.lemmas.List.Elements.{All-append, All-cons, All-head, All-nil, All-push, All-tail}
use Rattle.std.proofs.lemmas.Option.{same_Some}
use Rattle.aggregate.specs.declared.agg_list.Agg.{Agg}
use Rattle.aggregate.specs.declared.kind.Kind.TheVariants.{Group}
use Rattle.aggregate.specs.Totals.{Entry}
use Rattle.aggregate.proofs.Tested.{length_value}
use Rattle.consumer_trait.specs.States.{IsEntryBy, IsEntryOf}
use Rattle.consumer_trait.specs.Usages.{group_of}
use Rattle.group_map.specs.Pairs.{AreFormed, width_of}

-- what is true of each entry of a list is true of each in front and behind
pub all_front : (P : Entry → Type 0) (front rest : List Entry) → All P (front ++ rest) → All P front
all_front P [] rest all = All-nil P
all_front P (e ∷ front) rest all = All-cons P e front (All-head P e (front ++ rest) all) (all_front P front rest (All-tail P e (front ++ rest) all))

pub all_rest : (P : Entry → Type 0) (front rest : List Entry) → All P (front ++ rest) → All P rest
all_rest P [] rest all = all
all_rest P (e ∷ front) rest all = all_rest P front rest (All-tail P e (front ++ rest) all)

-- entries that are formed by what a map was begun with are of its kind
pub of_kind : (aggs : Option (List Agg)) (entries : List Entry) → AreFormed aggs entries → All (IsEntryBy (group_of aggs)) entries
of_kind None entries formed = λ i d below. tt
of_kind (Some aggs) entries formed = formed aggs refl

-- those in front are of the kind that the map was begun with
pub formed_front : (aggs : Option (List Agg)) (list : List Agg) (groups chunk : List Entry) → aggs ≡ Some list → AreFormed aggs (groups ++ chunk) → All (IsEntryOf (Group list)) groups
formed_front aggs list groups chunk is formed = all_front (IsEntryOf (Group list)) groups chunk (formed list is)

-- the value of an entry of the kind has the bytes of its aggregates
pub entry_width : (aggs : Option (List Agg)) (e : Entry) → IsSome (group_of aggs) → IsEntryBy (group_of aggs) e → length e.value ≡ width_of aggs
entry_width None e begun entry = absurd (cc begun)
entry_width (Some aggs) e begun entry = length_value aggs e.value entry.width

-- the same entries in front and behind are the same
pub same_entries : {front chunk other left : List Entry} → other ≡ front → left ≡ chunk → other ++ left ≡ front ++ chunk
same_entries {front} {chunk} {other} {left} one two = ap (λ (es : List Entry). es ++ left) one ∙ ap (λ (es : List Entry). front ++ es) two

-- the same entries are formed
pub formed_as : (aggs : Option (List Agg)) (entries same : List Entry) → same ≡ entries → AreFormed aggs entries → AreFormed aggs same
formed_as aggs entries same is formed = λ begun its. subst (All (IsEntryOf (Group begun))) (sym is) (formed begun its)

pub formed_same : (aggs : Option (List Agg)) (groups same chunk : List Entry) → same ≡ groups → AreFormed aggs (groups ++ chunk) → AreFormed aggs (same ++ chunk)
formed_same aggs groups same chunk is = formed_as aggs (groups ++ chunk) (same ++ chunk) (ap (λ (es : List Entry). es ++ chunk) is)

-- one more entry of the kind, where no chunk is there
pub formed_more : (aggs : Option (List Agg)) (groups more chunk : List Entry) (e : Entry) → chunk ≡ [] → more ≡ groups ++ e ∷ [] → IsEntryBy (group_of aggs) e → AreFormed aggs (groups ++ chunk) → AreFormed aggs (more ++ chunk)
formed_more aggs groups more chunk e none is entry formed = λ begun its.
    let P = IsEntryOf (Group begun) in
    let one : P e = subst (λ (list : Option (List Agg)). IsEntryBy (group_of list) e) its entry in
    let all : All P groups = subst (λ (es : List Entry). All P es) (ap (λ (es : List Entry). groups ++ es) none ∙ append-nil groups) (formed begun its) in
    subst (λ (es : List Entry). All P es) (sym (ap (λ (es : List Entry). more ++ es) none ∙ append-nil more ∙ is)) (All-push P groups e all one)

-- a value that was combined
pub formed_taken : (aggs : Option (List Agg)) (list : List Agg) (groups more chunk : List Entry) → aggs ≡ Some list → (All (IsEntryOf (Group list)) groups → All (IsEntryOf (Group list)) more) → AreFormed aggs (groups ++ chunk) → AreFormed aggs (more ++ chunk)
formed_taken aggs list groups more chunk is stay formed = λ begun its.
    let P = IsEntryOf (Group list) in
    let all : All P (groups ++ chunk) = formed list is in
    subst (λ (found : List Agg). All (IsEntryOf (Group found)) (more ++ chunk)) (same_Some list begun (sym is ∙ its))
    (All-append P more chunk (stay (all_front P groups chunk all)) (all_rest P groups chunk all))
