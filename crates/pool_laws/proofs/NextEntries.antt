-- What may follow a legal history.
use Rattle.std.proofs.Common.{◌≡◌, ℕ, List, [], ◌∷◌, ◌++◌, refl, sym, ap, ◌∙◌}
use Rattle.std.proofs.lemmas.Bool.{cond-false}
use Rattle.pool_ledger.specs.declared.entry.Event.{Event}
use Rattle.pool_ledger.specs.declared.entry.Event.TheVariants.{Evict}
use Rattle.pool_ledger.specs.Sizes.{Sizes}
use Rattle.pool_ledger.specs.History.{History}
use Rattle.pool_ledger.specs.Blocks.{Resident}
use Rattle.pool_ledger.specs.Answers.{growth, answer}
use Rattle.pool_ledger.specs.Legal.{Evicted, evicted_by, is_eviction, pending, settled, Evicts, IsLegal}
use Rattle.pool_ledger.proofs.Tasks.{entry_of}
use Rattle.pool_laws.specs.Growing.{IsWhole, StaysLegal, Grows}

-- a list with one more element isn't empty
nothing_pushed : (xs : List Evicted) (x : Evicted) → xs ++ x ∷ [] ≡ [] → ⊥
nothing_pushed [] x is = cc
nothing_pushed (y ∷ ys) x is = cc

whole-at : (h : History) (v : ℕ) (e : Event) → pending (entry_of v e ∷ h) ≡ [] → IsWhole (entry_of v e ∷ h)
whole-at h v (Evict d p size fate) none = absurd (nothing_pushed (pending h) (evicted_by (Evict d p size fate)) none)
whole-at h v _ none = record { any_turn = λ w. refl; all_settled = refl }

pub whole : (h : History) → pending h ≡ [] → IsWhole h
whole [] none = record { any_turn = λ w. refl; all_settled = refl }
whole (entry ∷ h) none = whole-at h entry.worker entry.event none

stays_legal : (s : Sizes) (h : History) → IsLegal s h → StaysLegal s h
stays_legal s h legal entry may other = record {
  permitted = (legal.permitted, may);
  whole = cond-false (is_eviction entry.event) (pending h ++ evicted_by entry.event ∷ []) [] other;
}

-- nothing has to be evicted where the growth evicts nothing
evicts_nothing : (h : History) (blocks : List Resident) → pending h ≡ [] → blocks ≡ [] → Evicts h blocks 0
evicts_nothing h blocks none is = rw is (record { blocks_are = none; number = refl })

pub grows : (s : Sizes) (h : History) → IsLegal s h → Grows s h
grows s h legal =
    let now = whole h legal.whole in
    record {
      whole = now;
      stays = stays_legal s h legal;
      begins = λ w t known free new. record { worker_known = known; own_turn = now.any_turn w; event = (legal.whole, free, new) };
      attempts = λ w t asked known open_now some small none. record {
        worker_known = known;
        own_turn = now.any_turn w;
        event = (
          open_now,
          record {
            asked_some = some;
            asked_small = small;
            evicts = evicts_nothing h (growth s (settled h) asked).evicted legal.whole (ap (λ g. (growth s g asked).evicted) now.all_settled ∙ none);
            moves = ap (λ g. (growth s g asked).moved) (sym now.all_settled);
            answers = ap (λ g. answer s g t asked) (sym now.all_settled);
          },
        );
      };
      releases = λ w t freed known open_now fits. record { worker_known = known; own_turn = now.any_turn w; event = (legal.whole, open_now, fits) };
      ends = λ w t known open_now. record { worker_known = known; own_turn = now.any_turn w; event = (legal.whole, open_now, refl) };
      grows = λ w bytes known can. record { worker_known = known; own_turn = now.any_turn w; event = (legal.whole, can) };
    }
