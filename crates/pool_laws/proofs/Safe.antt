-- Every legal journal is safe.
use Rattle.std.proofs.Common.{◌≡◌, ℕ, ◌+◌, ◌≤◌, Some, List, sym, ap, ◌∙◌, arith}
use Rattle.pool_ledger.specs.declared.entry.Entry.{Entry}
use Rattle.pool_ledger.specs.declared.entry.Event.TheVariants.{Attempt}
use Rattle.pool_ledger.specs.Sizes.{Sizes}
use Rattle.pool_ledger.specs.History.{History, held}
use Rattle.pool_ledger.specs.Journal.{history_of, after}
use Rattle.pool_ledger.specs.Answers.{moment}
use Rattle.pool_ledger.specs.Legal.{settled, AttemptIsRight, IsLegal}
use Rattle.pool_ledger.proofs.Prefixes.{after-at}
use Rattle.pool_ledger.proofs.Tasks.{held-Attempt}
use Rattle.pool_laws.specs.SafeJournal.{Grant, IsGrantOf, held_after, IsSafeJournal}
use Rattle.pool_laws.proofs.Settled.{leaves}
use Rattle.pool_laws.proofs.Shares.{Grants, share_some}
use Rattle.pool_laws.proofs.Ends.{ends_free_all, idle}
use Rattle.pool_laws.proofs.Passing.{holds}
use Rattle.pool_laws.proofs.Prefixes.{permitted_after, permitted_at}
use Rattle.pool_laws.proofs.Once.{begun_once, ends_fit, ended_is_closed}
use Rattle.pool_laws.proofs.Sound.{never_passes}

-- what the task holds after its grant, and what the grant says
record HoldsThen (s : Sizes) (h : History) (task asked granted holds : ℕ) : Type 0 where
  pub held_is : holds ≡ held h task + granted
  pub before : held (settled h) task ≡ held h task
  pub grants : Grants (moment s (settled h) task asked) granted

holds_then : (s : Sizes) (journal : List Entry) → s.region ≤ s.maximum → IsLegal s (history_of journal) → (grant : Grant) → IsGrantOf journal grant → HoldsThen s (after grant.place journal) grant.task grant.asked grant.granted (held_after journal grant)
holds_then s journal region legal grant is =
    let h = after grant.place journal in
    let entry : Entry = record { worker = is.worker; event = Attempt grant.task grant.asked is.moved is.evictions (Some grant.granted) } in
    let perm = permitted_at s journal legal.permitted grant.place entry is.there in
    let right : AttemptIsRight s h grant.task grant.asked is.moved is.evictions (Some grant.granted) = perm.1.event.1 in
    let r = (holds s h region perm.0).recorded in
    let same = leaves s h in
    record {
      held_is = ap (λ g. held g grant.task) (after-at grant.place journal entry is.there) ∙ held-Attempt s h r is.worker grant.task grant.asked is.moved is.evictions (Some grant.granted);
      before = omega (arith, same.granted_same grant.task, same.freed_same grant.task);
      grants = share_some (moment s (settled h) grant.task grant.asked) grant.granted (sym right.answers);
    }

pub legal_is_safe : (s : Sizes) (journal : List Entry) → s.region ≤ s.maximum → IsLegal s (history_of journal) → IsSafeJournal s journal
legal_is_safe s journal region legal = record {
  never_passes = λ n. never_passes s (after n journal) region (permitted_after s journal legal.permitted n);
  no_grant_passes = λ grant is some.
      let then = holds_then s journal region legal grant is in
      omega (arith, then.held_is, then.before, then.grants.value, some);
  short_grants = λ grant is short.
      let then = holds_then s journal region legal grant is in
      omega (arith, then.held_is, then.before, then.grants.enough short);
  ended_hold_nothing = λ n task ended.
      let perm = permitted_after s journal legal.permitted n in
      let r = (holds s (after n journal) region perm).recorded in
      (idle s (after n journal) r (ends_free_all s (after n journal) perm) task (ended_is_closed s (after n journal) r task ended)).nothing;
  begun_once = λ task. begun_once s (history_of journal) (holds s (history_of journal) region legal.permitted).recorded task;
  ended_once = λ task.
      let r = (holds s (history_of journal) region legal.permitted).recorded in
      omega (arith, (ends_fit s (history_of journal) r task).within, begun_once s (history_of journal) r task);
  ended_after_begun = λ n task. (ends_fit s (after n journal) (holds s (after n journal) region (permitted_after s journal legal.permitted n)).recorded task).within;
}
