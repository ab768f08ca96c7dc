-- The entries so far after one more: an eviction that waits, or what the evictions were for.
use Rattle.std.proofs.Common.{◌≡◌, ℕ, ◌+◌, ◌<◌, true, false, not, ◌||◌, List, [], ◌∷◌, ◌++◌, map, length, get_or, drop, Option, Some, None, sym, ap, subst, ◌∙◌, arith, append_assoc}
use Rattle.std.specs.Prelude.{nat_eq, is_some, reverse}
use Rattle.std.proofs.lemmas.Bool.{cond-true, cond-false}
use Rattle.std.proofs.lemmas.List.{map-append, reverse-append}
use Rattle.pool_ledger.specs.declared.entry.Entry.{Entry}
use Rattle.pool_ledger.specs.Accounts.{Accounts}
use Rattle.pool_ledger.specs.Sizes.{Sizes}
use Rattle.pool_ledger.specs.History.{History, held, maximum, open_task}
use Rattle.pool_ledger.specs.Journal.{after}
use Rattle.pool_ledger.specs.Legal.{Evicted, evicted_by, is_eviction, pending, settled, IsPermitted, MayFollow}
use Rattle.pool_ledger.proofs.Prefixes.{whole-after, after-more}
use Rattle.pool_laws.proofs.Evictions.{open_settled}
use Rattle.pool_laws.proofs.Settled.{leaves, maximum_settled}
use Rattle.journal_replay.specs.declared.before.Before.{Before}
use Rattle.journal_replay.specs.declared.turns.Turns.{Turns}
use Rattle.journal_replay.specs.Replays.{gone_of, is_turn_of, seen, TellsBefore, TellsTurns}

-- What the ledger tells of all entries

pub open_base : (turns : Turns) (h : History) → TellsTurns turns h → (w : ℕ) → open_task turns.ledger.history w ≡ open_task h w
open_base turns h tells w = sym (open_settled h w ∙ ap (λ (g : History). open_task g w) tells.base)

pub held_base : (turns : Turns) (h : History) → TellsTurns turns h → (t : ℕ) → held turns.ledger.history t ≡ held h t
held_base turns h tells t =
    let same = leaves turns.ledger.setup h in
    let settled_is : held (settled h) t ≡ held h t = omega (arith, same.granted_same t, same.freed_same t) in
    ap (λ (g : History). held g t) (sym tells.base) ∙ settled_is

pub maximum_base : (turns : Turns) (h : History) → TellsTurns turns h → maximum turns.ledger.setup turns.ledger.history ≡ maximum turns.ledger.setup h
maximum_base turns h tells = ap (maximum turns.ledger.setup) (sym tells.base) ∙ sym (maximum_settled turns.ledger.setup h)

-- An entry more

pub waits_more : (turns new : Turns) (e : Entry) → TellsTurns turns (seen turns) → MayFollow turns.ledger.setup (seen turns) e → is_eviction e.event ≡ true
    → new.ledger ≡ turns.ledger → new.before ≡ turns.before → new.waiting.items ≡ turns.waiting.items ++ e ∷ [] → new.waits ≡ Some e.worker → TellsTurns new (e ∷ seen turns)
waits_more turns new e tells may ev ledger before items waits = record {
  same =
      ap (λ (ws : List Entry). reverse ws ++ new.ledger.history) items
      ∙ ap (λ (l : Accounts). reverse (turns.waiting.items ++ e ∷ []) ++ l.history) ledger
      ∙ ap (λ (ws : List Entry). ws ++ turns.ledger.history) (reverse-append turns.waiting.items (e ∷ []));
  permitted = subst (λ (l : Accounts). IsPermitted l.setup (e ∷ seen turns)) (sym ledger) (tells.permitted, may);
  base_permitted = subst (λ (l : Accounts). IsPermitted l.setup l.history) (sym ledger) tells.base_permitted;
  base = cond-true (is_eviction e.event) (settled (seen turns)) (e ∷ seen turns) ev ∙ tells.base ∙ ap (λ (l : Accounts). l.history) (sym ledger);
  before = subst (λ (l : Accounts). TellsBefore new.before l.history) (sym ledger) (subst (λ (b : Before). TellsBefore b turns.ledger.history) (sym before) tells.before);
  gone =
      cond-true (is_eviction e.event) (pending (seen turns) ++ evicted_by e.event ∷ []) [] ev
      ∙ ap (λ (g : List Evicted). g ++ gone_of e ∷ []) tells.gone
      ∙ sym (map-append gone_of turns.waiting.items (e ∷ []))
      ∙ ap (map gone_of) (sym items);
  waits = ev ∙ ap (λ (o : Option ℕ). is_some o) (sym waits);
  turn = λ w. ap (λ t. not t || nat_eq e.worker w) ev ∙ ap (λ (o : Option ℕ). is_turn_of o w) (sym waits);
}

pub settled_more : (turns new : Turns) (e : Entry) → TellsTurns turns (seen turns) → MayFollow turns.ledger.setup (seen turns) e → is_eviction e.event ≡ false
    → new.ledger.history ≡ e ∷ seen turns → TellsBefore new.before new.ledger.history → new.ledger.setup ≡ turns.ledger.setup → new.waiting.items ≡ [] → new.waits ≡ None → TellsTurns new (e ∷ seen turns)
settled_more turns new e tells may ev history before setup items waits =
    let permitted : IsPermitted new.ledger.setup (e ∷ seen turns) = subst (λ (s : Sizes). IsPermitted s (e ∷ seen turns)) (sym setup) (tells.permitted, may) in
    record {
      same = ap (λ (ws : List Entry). reverse ws ++ new.ledger.history) items ∙ history;
      permitted = permitted;
      base_permitted = subst (λ (g : History). IsPermitted new.ledger.setup g) (sym history) permitted;
      base = cond-false (is_eviction e.event) (settled (seen turns)) (e ∷ seen turns) ev ∙ sym history;
      before = before;
      gone = cond-false (is_eviction e.event) (pending (seen turns) ++ evicted_by e.event ∷ []) [] ev ∙ ap (map gone_of) (sym items);
      waits = ev ∙ ap (λ (o : Option ℕ). is_some o) (sym waits);
      turn = λ w. ap (λ t. not t || nat_eq e.worker w) ev ∙ ap (λ (o : Option ℕ). is_turn_of o w) (sym waits);
    }

-- Evictions that go into the ledger one by one

pub permitted_before : (s : Sizes) (newer before : History) → IsPermitted s (newer ++ before) → IsPermitted s before
permitted_before s [] before h = h
permitted_before s (entry ∷ newer) before h = permitted_before s newer before h.0

pub permitted_next : (s : Sizes) (ws : List Entry) (base : History) (i : ℕ) (any : Entry) → IsPermitted s (reverse ws ++ base) → i < length ws → IsPermitted s (get_or ws i any ∷ (after i ws ++ base))
permitted_next s ws base i any permitted below =
    let parts : reverse ws ++ base ≡ reverse (drop (i + 1) ws) ++ (after (i + 1) ws ++ base) =
    ap (λ (h : History). h ++ base) (whole-after (i + 1) ws) ∙ append_assoc (reverse (drop (i + 1) ws)) (after (i + 1) ws) base in
    subst (λ (h : History). IsPermitted s (h ++ base)) (after-more i ws any below)
    (permitted_before s (reverse (drop (i + 1) ws)) (after (i + 1) ws ++ base) (subst (IsPermitted s) parts permitted))
