-- What is legal by groups is legal entry by entry.
use Rattle.std.proofs.Common.{◌≡◌, ℕ, ◌+◌, ◌-◌, ◌≤◌, ◌<◌, Bool, true, false, cond, ◌&&◌, Option, Some, None, List, [], ◌∷◌, ◌++◌, length, map, suc, refl, sym, ap, subst, ◌∙◌, inl, inr}
use Rattle.std.specs.Prelude.{nat_eq, nat_le, reverse, unwrap_or}
use Rattle.std.proofs.lemmas.Bool.{cases_Bool, cond-true, cond-false}
use Rattle.std.proofs.lemmas.List.{append-nil, append_assoc, reverse-append}
use Rattle.pool_ledger.specs.declared.entry.Event.{Event}
use Rattle.pool_ledger.specs.declared.entry.Event.TheVariants.{Begin, Attempt, Release, End, Evict, Admit, Refused, Pin, Unpin, Remove, Grow}
use Rattle.pool_ledger.specs.Sizes.{Sizes, block_limit_of}
use Rattle.pool_ledger.specs.History.{History, exec, execution_free, maximum}
use Rattle.pool_ledger.specs.Blocks.{Resident, evictable, sizes, storage_free, victims}
use Rattle.pool_ledger.specs.Answers.{growth, Admission, admission, borrowed_for, refused_at_once}
use Rattle.pool_ledger.specs.Legal.{is_eviction, MayCome, MayFollow, IsPermitted, IsLegal}
use Rattle.pool_ledger.specs.Groups.{Gone, Group, eviction_in, history_in, WentAs, EventIsLegal, AreGroups, IsLegalByGroups}
use Rattle.pool_ledger.proofs.Tasks.{entry_of}
use Rattle.pool_laws.specs.Evicting.{IsEvicting, eviction_by, evicting_attempt_by}
use Rattle.pool_laws.proofs.Evictions.{one_by_one}
use Rattle.pool_laws.proofs.NextEntries.{whole, grows}

-- ---- the history of a group

-- a worker's evictions of these blocks, in order, after what came before
abbrev pub evictions_on : ℕ → List Gone → History → History
evictions_on worker [] base = base
evictions_on worker (g ∷ gone) base = evictions_on worker gone (eviction_in worker g ∷ base)

evictions_on-reverse : (w : ℕ) (gone : List Gone) (base : History) → reverse (map (eviction_in w) gone) ++ base ≡ evictions_on w gone base
evictions_on-reverse w [] base = refl
evictions_on-reverse w (g ∷ gone) base =
    ap (λ (h : History). h ++ base) (reverse-append (eviction_in w g ∷ []) (map (eviction_in w) gone))
    ∙ append_assoc (reverse (map (eviction_in w) gone)) (eviction_in w g ∷ []) base
    ∙ evictions_on-reverse w gone (eviction_in w g ∷ base)

pub history_in-group : (group : Group) (before : List Group) → history_in (group ∷ before) ≡ entry_of group.worker group.event ∷ evictions_on group.worker group.gone (history_in before)
history_in-group group before =
    let evictions = map (eviction_in group.worker) group.gone in
    ap (λ (h : History). h ++ history_in before) (reverse-append evictions (entry_of group.worker group.event ∷ []))
    ∙ ap (λ (h : History). entry_of group.worker group.event ∷ h) (evictions_on-reverse group.worker group.gone (history_in before))

pub length_went : (gone : List Gone) (blocks : List Resident) → WentAs gone blocks → length gone ≡ length blocks
length_went [] [] went = refl
length_went [] (b ∷ blocks) went = absurd went
length_went (g ∷ gone) [] went = absurd went
length_went (g ∷ gone) (b ∷ blocks) went = ap (λ n. suc n) (length_went gone blocks went.4)

-- ---- its evictions

-- after a legal history, a growth's or an admission's blocks may go
module _ (s : Sizes) (region : s.region ≤ s.maximum) (base : History) (legal : IsLegal s base) (w : ℕ) where
  none_goes : (except : Option ℕ) → IsEvicting base base w except [] []
  none_goes except =
      let now = whole base legal.whole in
      record { base_is = now.all_settled; gone_is = legal.whole; own_turn = now.any_turn w; behind = evictable base except; left_first = refl }

  found_go : (need : ℕ) (except : Option ℕ) (found : Option (List Resident)) → victims base need except ≡ found → IsEvicting base base w except [] (unwrap_or found [])
  found_go need except None is = none_goes except
  found_go need except (Some front) is = (one_by_one s region).first base w need except front legal is

  needed_go : (need : ℕ) (except : Option ℕ) → IsEvicting base base w except [] (cond (nat_eq need 0) [] (unwrap_or (victims base need except) []))
  needed_go need except = elim (cases_Bool (nat_eq need 0)) [
    | inl none ↦ rw (cond-true (nat_eq need 0) [] (unwrap_or (victims base need except) []) none) (none_goes except)
    | inr some ↦ rw (cond-false (nat_eq need 0) [] (unwrap_or (victims base need except) []) some) (found_go need except (victims base need except) refl)
  ]

  pub growth_goes : (asked : ℕ) → IsEvicting base base w None [] (growth s base asked).evicted
  growth_goes asked = needed_go (growth s base asked).need None

  either_goes : (except : Option ℕ) (b : Bool) (a : Admission) → IsEvicting base base w except [] a.evicted → IsEvicting base base w except [] (cond b a refused_at_once).evicted
  either_goes except true a goes = goes
  either_goes except false a goes = none_goes except

  pub admission_goes : (dataset size : ℕ) → IsEvicting base base w (Some dataset) [] (admission s base dataset size).evicted
  admission_goes dataset size =
      let free = storage_free s base in
      let borrowed = borrowed_for size free (execution_free s base) in
      let need = size - (free + borrowed) in
      let evicted = cond (nat_eq need 0) [] (unwrap_or (victims base need (Some dataset)) []) in
      either_goes (Some dataset) (nat_le size (block_limit_of s) && nat_le size (maximum s base - exec base))
      (record { admitted = nat_le size (free + borrowed + sizes evicted); borrowed = borrowed; evicted = evicted })
      (needed_go need (Some dataset))

-- the blocks of a group go one by one
blocks_go : (s : Sizes) → s.region ≤ s.maximum → (base : History) (w : ℕ) (except : Option ℕ) (gone : List Gone) (went left : List Resident) (h : History) → w < s.workers → IsPermitted s h → IsEvicting h base w except went left → WentAs gone left
    → IsPermitted s (evictions_on w gone h) × IsEvicting (evictions_on w gone h) base w except (went ++ left) []
blocks_go s region base w except [] went [] h known perm evicting match = (perm, subst (λ (bs : List Resident). IsEvicting h base w except bs []) (sym (append-nil went)) evicting)
blocks_go s region base w except [] went (b ∷ left) h known perm evicting match = absurd match
blocks_go s region base w except (g ∷ gone) went [] h known perm evicting match = absurd match
blocks_go s region base w except (g ∷ gone) went (b ∷ left) h known perm evicting match =
    let goes = (one_by_one s region).next h base w except went left b g.fate perm known evicting match.3 in
    let same : eviction_by w b g.fate ≡ eviction_in w g = cc in
    let next = subst (λ entry. MayFollow s h entry × IsEvicting (entry ∷ h) base w except (went ++ b ∷ []) left) same goes in
    let rest = blocks_go s region base w except gone (went ++ b ∷ []) left (eviction_in w g ∷ h) known (perm, next.0) next.1 match.4 in
    (rest.0, subst (λ (bs : List Resident). IsEvicting (evictions_on w gone (eviction_in w g ∷ h)) base w except bs []) (append_assoc went (b ∷ []) left) rest.1)

-- ---- its event

-- a group without evictions
alone : (s : Sizes) (base : History) (w : ℕ) (gone : List Gone) (e : Event) → IsLegal s base → w < s.workers → gone ≡ [] → is_eviction e ≡ false → MayCome s base w e → IsLegal s (entry_of w e ∷ evictions_on w gone base)
alone s base w gone e legal known none other may =
    let now = grows s base legal in
    subst (λ (gs : List Gone). IsLegal s (entry_of w e ∷ evictions_on w gs base)) (sym none) (now.stays (entry_of w e) (record { worker_known = known; own_turn = now.whole.any_turn w; event = may }) other)

event_comes : (s : Sizes) → s.region ≤ s.maximum → (base : History) (w : ℕ) (gone : List Gone) (e : Event) → IsLegal s base → w < s.workers → EventIsLegal s base w gone e → IsLegal s (entry_of w e ∷ evictions_on w gone base)
event_comes s region base w gone (Begin task) legal known is = alone s base w gone (Begin task) legal known is.0 refl (legal.whole, is.2, is.1)
event_comes s region base w gone (Attempt task asked moved evictions got) legal known is =
    let right = is.1 in
    let blocks = (growth s base asked).evicted in
    let all = blocks_go s region base w None gone [] blocks base known legal.permitted (growth_goes s region base legal w asked) right.went in
    let may = (one_by_one s region).attempts (evictions_on w gone base) base w task asked all.1 known is.0 right.asked_some right.asked_small in
    let number : evictions ≡ length blocks = right.number ∙ length_went gone blocks right.went in
    let same : evicting_attempt_by s base w task asked ≡ entry_of w (Attempt task asked moved evictions got) = cc in
    record { permitted = (all.0, subst (MayFollow s (evictions_on w gone base)) same may); whole = refl }
event_comes s region base w gone (Release task freed) legal known is = alone s base w gone (Release task freed) legal known is.0 refl (legal.whole, is.1, is.2)
event_comes s region base w gone (End task freed) legal known is = alone s base w gone (End task freed) legal known is.0 refl (legal.whole, is.1, is.2)
event_comes s region base w gone (Evict d p size fate) legal known is = absurd is
event_comes s region base w gone (Admit d p size level borrowed evictions) legal known is =
    let blocks = (admission s base d size).evicted in
    let all = blocks_go s region base w (Some d) gone [] blocks base known legal.permitted (admission_goes s region base legal w d size) is.3 in
    let may = (one_by_one s region).admissions.admits (evictions_on w gone base) base w d p size level all.1 known is.0 is.1 in
    let number : evictions ≡ length blocks = is.4 ∙ length_went gone blocks is.3 in
    let same : entry_of w (Admit d p size level (admission s base d size).borrowed (length blocks)) ≡ entry_of w (Admit d p size level borrowed evictions) = cc in
    record { permitted = (all.0, subst (MayFollow s (evictions_on w gone base)) same may); whole = refl }
event_comes s region base w gone (Refused d p size borrowed evictions) legal known is =
    let blocks = (admission s base d size).evicted in
    let all = blocks_go s region base w (Some d) gone [] blocks base known legal.permitted (admission_goes s region base legal w d size) is.3 in
    let may = (one_by_one s region).admissions.refuses (evictions_on w gone base) base w d p size all.1 known is.0 is.1 in
    let number : evictions ≡ length blocks = is.4 ∙ length_went gone blocks is.3 in
    let same : entry_of w (Refused d p size (admission s base d size).borrowed (length blocks)) ≡ entry_of w (Refused d p size borrowed evictions) = cc in
    record { permitted = (all.0, subst (MayFollow s (evictions_on w gone base)) same may); whole = refl }
event_comes s region base w gone (Pin d p false) legal known is = alone s base w gone (Pin d p false) legal known is.0 refl (legal.whole, is.1, is.2)
event_comes s region base w gone (Pin d p true) legal known is = alone s base w gone (Pin d p true) legal known is.0 refl (legal.whole, is.1, is.3, is.2)
event_comes s region base w gone (Unpin d p) legal known is = alone s base w gone (Unpin d p) legal known is.0 refl (legal.whole, is.1)
event_comes s region base w gone (Remove d p size) legal known is = alone s base w gone (Remove d p size) legal known is.0 refl (legal.whole, is.1, is.2)
event_comes s region base w gone (Grow bytes) legal known is = alone s base w gone (Grow bytes) legal known is.0 refl (legal.whole, is.1)

legal_in : (s : Sizes) → s.region ≤ s.maximum → (groups : List Group) → AreGroups s groups → IsLegal s (history_in groups)
legal_in s region [] are = record { permitted = tt; whole = refl }
legal_in s region (group ∷ before) are =
    subst (IsLegal s) (sym (history_in-group group before))
    (event_comes s region (history_in before) group.worker group.gone group.event (legal_in s region before are.0) are.1 are.2)

pub legal_of_groups : (s : Sizes) (h : History) → s.region ≤ s.maximum → IsLegalByGroups s h → IsLegal s h
legal_of_groups s h region by = subst (IsLegal s) by.1 (legal_in s region by.0 by.2)
