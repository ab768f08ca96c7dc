-- The pools of a permitted history never have more than 2^41 bytes.
use Rattle.std.proofs.Common.{◌≤◌, ◌^◌, ℕ, [], ◌∷◌, arith}
use Rattle.pool_ledger.specs.declared.entry.Event.{Event}
use Rattle.pool_ledger.specs.declared.entry.Event.TheVariants.{Grow}
use Rattle.pool_ledger.specs.Sizes.{Sizes}
use Rattle.pool_ledger.specs.History.{History, maximum}
use Rattle.pool_ledger.specs.Legal.{IsPermitted, MayCome}
use Rattle.pool_ledger.proofs.Tasks.{entry_of}

small-more : (s : Sizes) (h : History) (v : ℕ) (e : Event) → MayCome s h v e → maximum s h ≤ 2 ^ 41 → maximum s (entry_of v e ∷ h) ≤ 2 ^ 41
small-more s h v (Grow bytes) may before = omega (arith, may.1.fits)
small-more s h v _ may before = omega (arith, before)

pub stays_small : (s : Sizes) (h : History) → s.maximum ≤ 2 ^ 40 → IsPermitted s h → maximum s h ≤ 2 ^ 41
stays_small s [] small permitted = omega (arith, small)
stays_small s (entry ∷ h) small permitted = small-more s h entry.worker entry.event permitted.1.event (stays_small s h small permitted.0)
