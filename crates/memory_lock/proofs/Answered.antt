-- An attempt at the end of a legal journal was answered by the rules, over what came before its evictions.
use Rattle.std.proofs.Common.{◌≡◌, ◌∙◌, ◌∷◌, ◌++◌, ◌+◌, [], ℕ, List, Option, length, length-append, arith, refl, sym, ap, subst, inl, inr, append_assoc, append-nil}
use Rattle.std.proofs.lemmas.Bool.{cases_Bool}
use Rattle.std.proofs.lemmas.List.{length-map, nil_from_length, reverse-append}
use Rattle.pool_ledger.specs.declared.entry.Entry.{Entry}
use Rattle.pool_ledger.specs.declared.entry.Event.TheVariants.{Attempt}
use Rattle.pool_ledger.specs.Sizes.{Sizes}
use Rattle.pool_ledger.specs.History.{History}
use Rattle.pool_ledger.specs.Answers.{answer, growth}
use Rattle.pool_ledger.specs.Journal.{history_of}
use Rattle.pool_ledger.specs.Legal.{IsLegal, IsPermitted, Evicted, evicted_by, evicted_of, is_eviction, pending, settled}
use Rattle.pool_laws.specs.Growing.{entry_by}
use Rattle.memory_lock.specs.Workers.{AreEvictions, IsEviction}
use Rattle.memory_lock.specs.Endings.{EndsWithAttempt, IsLastAnswer}

-- a journal with one entry more, the newest first
newest : (base : List Entry) (entry : Entry) → history_of (base ++ entry ∷ []) ≡ entry ∷ history_of base
newest base entry = reverse-append base (entry ∷ [])

-- ---- evictions are pending

pending_one : (worker : ℕ) (entry : Entry) (history : History) → IsEviction worker entry → length (pending (entry ∷ history)) ≡ length (pending history) + 1
pending_one worker entry history is =
    subst (λ (e : Entry). length (pending (e ∷ history)) ≡ length (pending history) + 1) (sym is.4)
    (length-append (pending history) (record { dataset = is.0; part = is.1; size = is.2 } ∷ []))

settled_one : (worker : ℕ) (entry : Entry) (history : History) → IsEviction worker entry → settled (entry ∷ history) ≡ settled history
settled_one worker entry history is = subst (λ (e : Entry). settled (e ∷ history) ≡ settled history) (sym is.4) refl

-- a journal that goes on with evictions: what settled before them, how many are pending, and what may have come before them
record GoesOn (setup : Sizes) (before after : List Entry) (more : ℕ) : Type 0 where
  settles : settled (history_of after) ≡ settled (history_of before)
  as_many : length (pending (history_of after)) ≡ length (pending (history_of before)) + more
  permitted : IsPermitted setup (history_of after) → IsPermitted setup (history_of before)

goes_on : (setup : Sizes) (worker : ℕ) (base evicted : List Entry) → AreEvictions worker evicted → GoesOn setup base (base ++ evicted) (length evicted)
goes_on setup worker base [] are = subst (λ (es : List Entry). GoesOn setup base es 0) (sym (append-nil base)) record { settles = refl; as_many = omega arith; permitted = λ p. p }
goes_on setup worker base (entry ∷ evicted) are =
    let rest = goes_on setup worker (base ++ entry ∷ []) evicted are.1 in
    let one = newest base entry in
    let many = ap (λ (h : History). length (pending h)) one ∙ pending_one worker entry (history_of base) are.0 in
    subst (λ (es : List Entry). GoesOn setup base es (length (entry ∷ evicted))) (append_assoc base (entry ∷ []) evicted) record {
      settles = rest.settles ∙ ap settled one ∙ settled_one worker entry (history_of base) are.0;
      as_many = (let more = rest.as_many in omega (arith, more, many));
      permitted = λ p. (subst (IsPermitted setup) one (rest.permitted p)).0;
    }

-- ---- where none are pending all is settled

all_settled : (history : History) → pending history ≡ [] → settled history ≡ history
all_settled [] none = refl
all_settled (entry ∷ before) none = elim (cases_Bool (is_eviction entry.event)) [
  | inl evicts ↦
      let some : pending before ++ evicted_by entry.event ∷ [] ≡ [] = rw evicts at none in
      let long = ap length some in
      let one = length-append (pending before) (evicted_by entry.event ∷ []) in
      absurd (omega (arith, long, one))
  | inr other ↦ rw other refl
]

-- ---- the answer

pub last_answer : (setup : Sizes) (seen : List Entry) (worker task asked : ℕ) (got : Option ℕ) → IsLegal setup (history_of seen) → EndsWithAttempt worker task asked got seen → IsLastAnswer setup worker task asked got seen
last_answer setup seen worker task asked got legal ends =
    let base = ends.0 in
    let evicted = ends.1.0 in
    let moved = ends.1.1 in
    let entry = entry_by worker (Attempt task asked moved (length evicted) got) in
    let is : history_of seen ≡ entry ∷ history_of (base ++ evicted) = ap history_of (ends.1.3 ∙ sym (append_assoc base evicted (entry ∷ []))) ∙ newest (base ++ evicted) entry in
    let permitted = subst (IsPermitted setup) is legal.permitted in
    let right = permitted.1.event.1 in
    let on = goes_on setup worker base evicted ends.1.2 in
    let blocks = (growth setup (settled (history_of (base ++ evicted))) asked).evicted in
    let pended = ap (λ (es : List Evicted). length es) right.evicts.blocks_are ∙ length-map blocks evicted_of in
    let none : pending (history_of base) ≡ [] = nil_from_length (pending (history_of base)) (let many = on.as_many in let number = right.evicts.number in omega (arith, pended, many, number)) in
    record {
      base = base;
      adds = ends.1;
      legal = record { permitted = on.permitted permitted.0; whole = none };
      answers = right.answers ∙ ap (λ (h : History). answer setup h task asked) (on.settles ∙ all_settled (history_of base) none);
    }
