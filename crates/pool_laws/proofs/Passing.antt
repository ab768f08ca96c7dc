-- Nobody ever holds more than there is.
use Rattle.std.proofs.Common.{◌≡◌, ℕ, ◌+◌, ◌-◌, ◌≤◌, ◌<◌, Bool, true, false, ◌&&◌, Option, Some, None, [], ◌∷◌, map, unwrap_or, refl, sym, ap, ◌∙◌, arith, inl, inr}
use Rattle.std.specs.Prelude.{nat_eq, nat_le, if◌then◌else◌}
use Rattle.std.proofs.lemmas.Bool.{cases_Bool, and_parts, leb-true, false≢true, cond-true, cond-false}
use Rattle.pool_ledger.specs.declared.entry.Event.{Event}
use Rattle.pool_ledger.specs.declared.entry.Event.TheVariants.{Begin, Attempt, Release, End, Evict, Admit, Refused, Pin, Unpin, Remove, Grow}
use Rattle.pool_ledger.specs.Sizes.{Sizes, block_limit_of}
use Rattle.pool_ledger.specs.History.{History, held, exec, maximum, execution_pool, storage_pool, execution_free}
use Rattle.pool_ledger.specs.Blocks.{sizes, stored, storage_free, victims}
use Rattle.pool_ledger.specs.Answers.{growth, Moment, moment, share_of, Admission, admission, borrowed_for}
use Rattle.pool_ledger.specs.Legal.{settled, AttemptIsRight, AdmissionIsRight, MayCome, IsPermitted, evicted_of}
use Rattle.pool_ledger.specs.Recorded.{IsRecorded, IsLeaving}
use Rattle.pool_ledger.proofs.After.{borrowed_fits}
use Rattle.pool_ledger.proofs.Tasks.{entry_of, exec-Begin, exec-Attempt, exec-Release, exec-same}
use Rattle.pool_ledger.proofs.Residents.{stored-without, stored-Admit, stored-Pin}
use Rattle.pool_laws.proofs.Settled.{exec_settled, maximum_settled, pool_settled, stored_settled, evicted_sizes, evicted_sizes-of, absent_settled}
use Rattle.pool_laws.proofs.Shares.{share_some}
use Rattle.pool_laws.proofs.Growths.{victims_within}

-- what tasks hold and blocks take stays within the pools, and the execution pool within what there is
pub record Within (s : Sizes) (h : History) : Type 0 where
  pub pool_fits : execution_pool s h ≤ maximum s h
  pub exec_fits : exec h ≤ execution_pool s h
  pub stored_fits : stored h ≤ storage_pool s h

-- the same before the evictions
settled_passes : (s : Sizes) (h : History) → IsRecorded s h → Within s h → exec (settled h) ≤ execution_pool s (settled h)
settled_passes s h r never = omega (arith, exec_settled s h, pool_settled s h, never.exec_fits)

-- what is granted is at most what is free
granted_fits : (at : Moment) (got : Option ℕ) → got ≡ share_of at → at.exec ≤ at.pool → at.exec + unwrap_or got 0 ≤ at.pool
granted_fits at None is fits = omega (arith, fits)
granted_fits at (Some g) is fits = omega (arith, (share_some at g (sym is)).value, fits)

pub record AfterAttempt (s : Sizes) (h : History) (moved : ℕ) (got : Option ℕ) : Type 0 where
  pub pool_fits : execution_pool s h + moved ≤ maximum s h
  pub exec_fits : exec h + unwrap_or got 0 ≤ execution_pool s h + moved
  pub stored_fits : stored h + (execution_pool s h + moved) ≤ maximum s h

after_attempt : (s : Sizes) (h : History) (task asked moved evictions : ℕ) (got : Option ℕ) → IsRecorded s h → Within s h → stored (settled h) ≤ storage_pool s (settled h) → AttemptIsRight s h task asked moved evictions got → AfterAttempt s h moved got
after_attempt s h task asked moved evictions got r never before right =
    let g = settled h in
    let grown = growth s g asked in
    let within : sizes grown.evicted ≤ stored g = victims_within g grown.need None in
    let gone : stored h + sizes grown.evicted ≡ stored g = omega (arith, stored_settled s h r, ap evicted_sizes right.evicts.blocks_are, evicted_sizes-of grown.evicted) in
    let pool = pool_settled s h in
    let all = maximum_settled s h in
    let exec_is = exec_settled s h in
    let fits : exec g ≤ execution_pool s g + grown.moved = omega (arith, never.exec_fits, pool, exec_is) in
    let grants = granted_fits (moment s g task asked) got right.answers fits in
    record {
      pool_fits = omega (arith, pool, all, right.moves, within, before, never.pool_fits);
      exec_fits = omega (arith, pool, exec_is, right.moves, grants);
      stored_fits = omega (arith, pool, all, right.moves, within, gone, before, never.pool_fits);
    }

pub record AfterAdmission (s : Sizes) (h : History) (size borrowed : ℕ) (admitted : Bool) : Type 0 where
  pub exec_fits : exec h + borrowed ≤ execution_pool s h
  pub stored_fits : admitted ≡ true → stored h + size ≤ storage_pool s h + borrowed
  pub small : admitted ≡ true → size ≤ block_limit_of s

-- whether a block of this size is tried
abbrev is_tried : Sizes → History → ℕ → Bool
is_tried s g size = nat_le size (block_limit_of s) && nat_le size (maximum s g - exec g)

-- the answer where it is
abbrev tried : Sizes → History → ℕ → ℕ → Admission
tried s g dataset size =
    let free = storage_free s g in
    let borrowed = borrowed_for size free (execution_free s g) in
    let need = size - (free + borrowed) in
    let evicted = if nat_eq need 0 then [] else unwrap_or (victims g need (Some dataset)) [] in
    record { admitted = nat_le size (free + borrowed + sizes evicted); borrowed = borrowed; evicted = evicted }

abbrev refused : Admission
refused = record { admitted = false; borrowed = 0; evicted = [] }

pub after_admission : (s : Sizes) (h : History) (d p size borrowed evictions : ℕ) (admitted : Bool) → IsRecorded s h → Within s h → stored (settled h) ≤ storage_pool s (settled h) → AdmissionIsRight s h d p size borrowed evictions admitted → AfterAdmission s h size borrowed admitted
after_admission s h d p size borrowed evictions admitted r never before right =
    let g = settled h in
    let pool = pool_settled s h in
    let all = maximum_settled s h in
    let exec_is = exec_settled s h in
    elim (cases_Bool (is_tried s g size)) [
      | inl try ↦
          let is : admission s g d size ≡ tried s g d size = cond-true (is_tried s g size) (tried s g d size) refused try in
          let now = tried s g d size in
          let borrowed_is : borrowed ≡ now.borrowed = right.borrows ∙ ap (λ (a : Admission). a.borrowed) is in
          let admitted_is : admitted ≡ now.admitted = right.answers ∙ ap (λ (a : Admission). a.admitted) is in
          let within : sizes now.evicted ≤ stored g = victims_within g (size - (storage_free s g + now.borrowed)) (Some d) in
          let blocks = right.evicts.blocks_are ∙ ap (λ (a : Admission). map evicted_of a.evicted) is in
          let gone : stored h + sizes now.evicted ≡ stored g = omega (arith, stored_settled s h r, ap evicted_sizes blocks, evicted_sizes-of now.evicted) in
          let limits = and_parts (nat_le size (block_limit_of s)) (nat_le size (maximum s g - exec g)) try in
          record {
            exec_fits = omega (arith, borrowed_is, pool, exec_is, never.exec_fits);
            stored_fits = λ yes_admitted. omega (arith, borrowed_is, gone, within, before, pool, all, never.pool_fits, leb-true size (storage_free s g + now.borrowed + sizes now.evicted) (sym admitted_is ∙ yes_admitted));
            small = λ _. leb-true size (block_limit_of s) limits.0;
          }
      | inr skip ↦
          let is : admission s g d size ≡ refused = cond-false (is_tried s g size) (tried s g d size) refused skip in
          let borrowed_is : borrowed ≡ 0 = right.borrows ∙ ap (λ (a : Admission). a.borrowed) is in
          let admitted_is : admitted ≡ false = right.answers ∙ ap (λ (a : Admission). a.admitted) is in
          record {
            exec_fits = omega (arith, borrowed_is, never.exec_fits);
            stored_fits = λ other. absurd (false≢true (sym admitted_is ∙ other));
            small = λ other. absurd (false≢true (sym admitted_is ∙ other));
          }
    ]

-- what holds after each permitted entry
pub record Holds (s : Sizes) (h : History) : Type 0 where
  pub recorded : IsRecorded s h
  pub never : Within s h
  pub before : stored (settled h) ≤ storage_pool s (settled h)

holds-more : (s : Sizes) (h : History) (v : ℕ) (e : Event) → v < s.workers → Holds s h → MayCome s h v e → Holds s (entry_of v e ∷ h)
holds-more s h v (Begin task) known held can =
    let exec_is = exec-Begin s h held.recorded v task can.2 in
    let never : Within s (entry_of v (Begin task) ∷ h) = record { pool_fits = omega (arith, held.never.pool_fits); exec_fits = omega (arith, held.never.exec_fits, exec_is); stored_fits = omega (arith, held.never.stored_fits) } in
    record { recorded = (held.recorded, record { worker_known = known; event_fits = record { free = can.1; new = can.2 } }); never = never; before = never.stored_fits }
holds-more s h v (Attempt task asked moved evictions got) known held can =
    let e = Attempt task asked moved evictions got in
    let after = after_attempt s h task asked moved evictions got held.recorded held.never held.before can.1 in
    let exec_is = exec-Attempt s h held.recorded v task asked moved evictions got can.0 in
    let borrowed = borrowed_fits s h held.recorded in
    let never : Within s (entry_of v e ∷ h) = record { pool_fits = omega (arith, after.pool_fits, borrowed); exec_fits = omega (arith, after.exec_fits, exec_is, borrowed); stored_fits = omega (arith, after.stored_fits, borrowed) } in
    record { recorded = (held.recorded, record { worker_known = known; event_fits = record { open_now = can.0; pool_fits = after.pool_fits; sum_fits = omega (arith, after.exec_fits, after.pool_fits) } }); never = never; before = never.stored_fits }
holds-more s h v (Release task freed) known held can =
    let exec_is = exec-Release s h held.recorded v task freed can.1 can.2 in
    let never : Within s (entry_of v (Release task freed) ∷ h) = record { pool_fits = omega (arith, held.never.pool_fits); exec_fits = omega (arith, held.never.exec_fits, exec_is); stored_fits = omega (arith, held.never.stored_fits) } in
    record { recorded = (held.recorded, record { worker_known = known; event_fits = record { open_now = can.1; holds = can.2 } }); never = never; before = never.stored_fits }
holds-more s h v (End task freed) known held can =
    let exec_is = exec-Release s h held.recorded v task freed can.1 (omega (arith, can.2)) in
    let never : Within s (entry_of v (End task freed) ∷ h) = record { pool_fits = omega (arith, held.never.pool_fits); exec_fits = omega (arith, held.never.exec_fits, exec_is); stored_fits = omega (arith, held.never.stored_fits) } in
    record { recorded = (held.recorded, record { worker_known = known; event_fits = record { open_now = can.1; holds = omega (arith, can.2) } }); never = never; before = never.stored_fits }
holds-more s h v (Evict d p size fate) known held can =
    let e = Evict d p size fate in
    let leaves : IsLeaving h d p size can.0 = record { resident = can.1.resident; size_is = can.1.size_is } in
    let exec_is = exec-same h (entry_of v e) refl (λ u. omega arith) in
    let never : Within s (entry_of v e ∷ h) = record { pool_fits = omega (arith, held.never.pool_fits); exec_fits = omega (arith, held.never.exec_fits, exec_is); stored_fits = omega (arith, held.never.stored_fits, stored-without s h d p size can.0 held.recorded leaves) } in
    record { recorded = (held.recorded, record { worker_known = known; event_fits = (can.0, leaves) }); never = never; before = held.before }
holds-more s h v (Admit d p size level borrowed evictions) known held can =
    let e = Admit d p size level borrowed evictions in
    let after = after_admission s h d p size borrowed evictions true held.recorded held.never held.before can in
    let exec_is = exec-same h (entry_of v e) refl (λ u. omega arith) in
    let lent = borrowed_fits s h held.recorded in
    let fits = after.stored_fits refl in
    let never : Within s (entry_of v e ∷ h) = record { pool_fits = omega (arith, held.never.pool_fits); exec_fits = omega (arith, after.exec_fits, exec_is, lent); stored_fits = omega (arith, stored-Admit h v d p size level borrowed evictions, fits, after.exec_fits, held.never.pool_fits, lent) } in
    record { recorded = (held.recorded, record { worker_known = known; event_fits = record { absent = absent_settled h d p can.absent; in_pool = omega (arith, after.exec_fits); sum_fits = omega (arith, fits, after.exec_fits, held.never.pool_fits) } }); never = never; before = never.stored_fits }
holds-more s h v (Refused d p size borrowed evictions) known held can =
    let e = Refused d p size borrowed evictions in
    let after = after_admission s h d p size borrowed evictions false held.recorded held.never held.before can in
    let exec_is = exec-same h (entry_of v e) refl (λ u. omega arith) in
    let lent = borrowed_fits s h held.recorded in
    let never : Within s (entry_of v e ∷ h) = record { pool_fits = omega (arith, held.never.pool_fits); exec_fits = omega (arith, after.exec_fits, exec_is, lent); stored_fits = omega (arith, held.never.stored_fits, after.exec_fits, held.never.pool_fits, lent) } in
    record { recorded = (held.recorded, record { worker_known = known; event_fits = omega (arith, after.exec_fits) }); never = never; before = never.stored_fits }
holds-more s h v (Pin d p false) known held can =
    let exec_is = exec-same h (entry_of v (Pin d p false)) refl (λ u. omega arith) in
    let never : Within s (entry_of v (Pin d p false) ∷ h) = record { pool_fits = omega (arith, held.never.pool_fits); exec_fits = omega (arith, held.never.exec_fits, exec_is); stored_fits = omega (arith, held.never.stored_fits, stored-Pin h v d p false) } in
    record { recorded = (held.recorded, record { worker_known = known; event_fits = can.1 }); never = never; before = never.stored_fits }
holds-more s h v (Pin d p true) known held can =
    let exec_is = exec-same h (entry_of v (Pin d p true)) refl (λ u. omega arith) in
    let never : Within s (entry_of v (Pin d p true) ∷ h) = record { pool_fits = omega (arith, held.never.pool_fits); exec_fits = omega (arith, held.never.exec_fits, exec_is); stored_fits = omega (arith, held.never.stored_fits) } in
    record { recorded = (held.recorded, record { worker_known = known; event_fits = can.1 }); never = never; before = never.stored_fits }
holds-more s h v (Unpin d p) known held can =
    let exec_is = exec-same h (entry_of v (Unpin d p)) refl (λ u. omega arith) in
    let never : Within s (entry_of v (Unpin d p) ∷ h) = record { pool_fits = omega (arith, held.never.pool_fits); exec_fits = omega (arith, held.never.exec_fits, exec_is); stored_fits = omega (arith, held.never.stored_fits) } in
    record { recorded = (held.recorded, record { worker_known = known; event_fits = tt }); never = never; before = never.stored_fits }
holds-more s h v (Remove d p size) known held can =
    let e = Remove d p size in
    let leaves : IsLeaving h d p size can.1 = record { resident = can.2.resident; size_is = can.2.size_is } in
    let exec_is = exec-same h (entry_of v e) refl (λ u. omega arith) in
    let never : Within s (entry_of v e ∷ h) = record { pool_fits = omega (arith, held.never.pool_fits); exec_fits = omega (arith, held.never.exec_fits, exec_is); stored_fits = omega (arith, held.never.stored_fits, stored-without s h d p size can.1 held.recorded leaves) } in
    record { recorded = (held.recorded, record { worker_known = known; event_fits = (can.1, leaves) }); never = never; before = never.stored_fits }
holds-more s h v (Grow bytes) known held can =
    let e = Grow bytes in
    let exec_is = exec-same h (entry_of v e) refl (λ u. omega arith) in
    let lent = borrowed_fits s h held.recorded in
    let never : Within s (entry_of v e ∷ h) = record { pool_fits = omega (arith, held.never.pool_fits, lent); exec_fits = omega (arith, held.never.exec_fits, exec_is, lent); stored_fits = omega (arith, held.never.stored_fits, held.never.pool_fits, lent) } in
    record { recorded = (held.recorded, record { worker_known = known; event_fits = can.1 }); never = never; before = never.stored_fits }

pub holds : (s : Sizes) (h : History) → s.region ≤ s.maximum → IsPermitted s h → Holds s h
holds s [] region p = record { recorded = tt; never = record { pool_fits = omega arith; exec_fits = omega arith; stored_fits = omega arith }; before = omega arith }
holds s (entry ∷ h) region p = holds-more s h entry.worker entry.event p.1.worker_known (holds s h region p.0) p.1.event
