-- The evictions that wait, beside the first blocks of a list that may go.
use Rattle.std.proofs.Common.{◌≡◌, ℕ, ◌≤◌, Bool, true, false, not, cond, ◌&&◌, List, [], ◌∷◌, map, length, take, Option, refl, sym, ap, ◌∙◌, arith}
use Rattle.std.specs.Prelude.{nat_eq}
use Rattle.std.specs.List.{filter}
use Rattle.std.proofs.lemmas.Bool.{eq-eqb, ne_eqb}
use Rattle.std.proofs.lemmas.List.{length-take-le}
use Rattle.pool_ledger.specs.History.{History}
use Rattle.pool_ledger.specs.Blocks.{Resident, evictable, is_excepted, is_pinned, residents}
use Rattle.pool_ledger.specs.Legal.{Evicted}
use Rattle.eviction.specs.declared.candidate.Candidate.{Candidate}
use Rattle.pool_plans.specs.Listed.{listed, seen_in}
use Rattle.journal_audit.specs.Rules.{are_evicted}
use Rattle.journal_replay.specs.Checks.{go_first, is_gone}

-- whether the block may go
abbrev pub may_go : History → Option ℕ → Resident → Bool
may_go h except block = not (is_pinned h block.dataset block.part) && not (is_excepted except block.dataset)

first_are : (h : History) (except : Option ℕ) (gone : List Evicted) (blocks : List Resident)
    → go_first except gone (map (seen_in h) blocks) ≡ are_evicted gone (take (length gone) (filter (may_go h except) blocks))
first_are h except [] blocks = refl
first_are h except (x ∷ more) [] = refl
first_are h except (x ∷ more) (b ∷ bs) = by (may_go h except b) (first_are h except more bs) (first_are h except (x ∷ more) bs)
  where
    by : (t : Bool) → go_first except more (map (seen_in h) bs) ≡ are_evicted more (take (length more) (filter (may_go h except) bs))
        → go_first except (x ∷ more) (map (seen_in h) bs) ≡ are_evicted (x ∷ more) (take (length (x ∷ more)) (filter (may_go h except) bs))
        → cond t (is_gone x (seen_in h b) && go_first except more (map (seen_in h) bs)) (go_first except (x ∷ more) (map (seen_in h) bs))
        ≡ are_evicted (x ∷ more) (take (length (x ∷ more)) (cond t (b ∷ filter (may_go h except) bs) (filter (may_go h except) bs)))
    by true goes stays = ap (λ t. is_gone x (seen_in h b) && t) goes
    by false goes stays = stays

and_false : (t : Bool) → (t && false) ≡ false
and_false true = refl
and_false false = refl

unlike : (gone : List Evicted) (blocks : List Resident) → (length gone ≡ length blocks → ⊥) → are_evicted gone blocks ≡ false
unlike [] [] other = absurd (other refl)
unlike [] (b ∷ bs) other = refl
unlike (x ∷ gone) [] other = refl
unlike (x ∷ gone) (b ∷ bs) other =
    ap (λ t. ((nat_eq x.dataset b.dataset && nat_eq x.part b.part) && nat_eq x.size b.size) && t) (unlike gone bs (λ e. other (omega (arith, e))))
    ∙ and_false ((nat_eq x.dataset b.dataset && nat_eq x.part b.part) && nat_eq x.size b.size)

-- another number of them aren't these
pub gone_unlike : (base : History) (except : Option ℕ) (gone : List Evicted) (count : ℕ) → count ≤ length (evictable base except) → (length gone ≡ count → ⊥)
    → are_evicted gone (take count (evictable base except)) ≡ false
gone_unlike base except gone count few other =
    unlike gone (take count (evictable base except)) (λ e. other (e ∙ length-take-le count (evictable base except) few))

-- so many are these where they are the first
pub gone_alike : (base : History) (except : Option ℕ) (list : List Candidate) (gone : List Evicted) (count : ℕ) → list ≡ listed base → length gone ≡ count
    → go_first except gone list ≡ are_evicted gone (take count (evictable base except))
gone_alike base except list [] count is_listed same = ap (λ n. are_evicted [] (take n (evictable base except))) same
gone_alike base except list (x ∷ gone) count is_listed same =
    ap (go_first except (x ∷ gone)) is_listed
    ∙ first_are base except (x ∷ gone) (residents base)
    ∙ ap (λ n. are_evicted (x ∷ gone) (take n (evictable base except))) same

-- What is told of them

pub goes_unlike : (base : History) (except : Option ℕ) (gone : List Evicted) (count told : ℕ) (blocks : List Resident) → take count (evictable base except) ≡ blocks
    → count ≤ length (evictable base except) → (length gone ≡ count → ⊥) → false ≡ (are_evicted gone blocks && nat_eq told (length blocks))
goes_unlike base except gone count told blocks are few other =
    sym (ap (λ t. t && nat_eq told (length blocks)) (ap (are_evicted gone) (sym are) ∙ gone_unlike base except gone count few other))

pub goes_untold : (base : History) (except : Option ℕ) (gone : List Evicted) (count told : ℕ) (blocks : List Resident) → take count (evictable base except) ≡ blocks
    → count ≤ length (evictable base except) → (told ≡ count → ⊥) → false ≡ (are_evicted gone blocks && nat_eq told (length blocks))
goes_untold base except gone count told blocks are few other =
    let long : length blocks ≡ count = ap length (sym are) ∙ length-take-le count (evictable base except) few in
    sym (ap (λ t. are_evicted gone blocks && t) (ne_eqb told (length blocks) (λ e. other (e ∙ long))) ∙ and_false (are_evicted gone blocks))

and_true : (t : Bool) → t ≡ (t && true)
and_true true = refl
and_true false = refl

pub goes_alike : (base : History) (except : Option ℕ) (list : List Candidate) (gone : List Evicted) (count told : ℕ) (blocks : List Resident) → take count (evictable base except) ≡ blocks
    → count ≤ length (evictable base except) → list ≡ listed base → length gone ≡ count → told ≡ count
    → go_first except gone list ≡ (are_evicted gone blocks && nat_eq told (length blocks))
goes_alike base except list gone count told blocks are few is_listed same told_is =
    let long : length blocks ≡ count = ap length (sym are) ∙ length-take-le count (evictable base except) few in
    gone_alike base except list gone count is_listed same
    ∙ ap (are_evicted gone) are
    ∙ and_true (are_evicted gone blocks)
    ∙ ap (λ t. are_evicted gone blocks && t) (sym (eq-eqb told (length blocks) (told_is ∙ sym long)))
