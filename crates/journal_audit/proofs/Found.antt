-- What is read as a line is one, and where nothing is read there is none.
use Rattle.std.proofs.Common.{ℕ, ◌≡◌, ◌∙◌, ◌++◌, ◌∷◌, ◌↔◌, List, Option, Some, None, IfSome, IfNone, IsSome, rules, sym, ap}
use Rattle.std.specs.Option.{option_map}
use Rattle.pool_ledger.specs.declared.entry.Entry.{Entry}
use Rattle.pool_ledger.specs.Sizes.{Sizes, IsInRange}
use Rattle.journal_audit.specs.declared.version.Version.{Version}
use Rattle.journal_audit.specs.Text.{entry_text, head_text, FitsIn}
use Rattle.journal_audit.specs.Reading.{line_at, head_line_at, setup_of}
use Rattle.journal_audit.specs.Lines.{IsSetup, BeginsLine, BeginsHead}
use Rattle.journal_audit.proofs.Wholes.{is_none}
use Rattle.journal_audit.proofs.LinesOf.{line_again, line_takes, head_line_again, head_line_takes, setup_again, setup_takes}

pub entry_found : {R : Type 0} (now : R → List ℕ) (version : Version) (bytes : List ℕ) (o : Option (Entry × R))
    → option_map (λ p. (p.0, now p.1)) o ≡ line_at version bytes
    → IfSome o (λ p. FitsIn version p.0 × (bytes ≡ entry_text p.0 ++ (10 ∷ now p.1)))
entry_found now version bytes None h = tt
entry_found now version bytes (Some p) h = line_takes version bytes (p.0, now p.1) (sym h)

pub no_entry : {R : Type 0} (now : R → List ℕ) (version : Version) (bytes : List ℕ) (o : Option (Entry × R))
    → option_map (λ p. (p.0, now p.1)) o ≡ line_at version bytes → IfNone o (BeginsLine version bytes → ⊥)
no_entry now version bytes None h = λ b. absurd (cc (h ∙ ap (line_at version) b.3 ∙ line_again version b.0 b.1 b.2))
no_entry now version bytes (Some p) h = tt

pub setup_found : {R : Type 0} (now : R → List ℕ) (bytes : List ℕ) (o : Option (Version × Sizes × R))
    → option_map (λ p. (p.0, p.1, now p.2)) o ≡ head_line_at bytes
    → IfSome o (λ p. IsSetup p.1 × (bytes ≡ head_text p.0 p.1 ++ (10 ∷ now p.2)))
setup_found now bytes None h = tt
setup_found now bytes (Some p) h = head_line_takes bytes (p.0, p.1, now p.2) (sym h)

pub no_setup : {R : Type 0} (now : R → List ℕ) (bytes : List ℕ) (o : Option (Version × Sizes × R))
    → option_map (λ p. (p.0, p.1, now p.2)) o ≡ head_line_at bytes
    → IfNone o ((version : Version) → BeginsHead version bytes → ⊥)
no_setup now bytes None h = λ version b. absurd (cc (h ∙ ap head_line_at b.3 ∙ head_line_again version b.0 b.1 b.2))
no_setup now bytes (Some p) h = tt

-- what is a setup exactly where there is one is the setup of the numbers
pub setup_is : (maximum region workers : ℕ) (o : Option Sizes)
    → IfSome o (λ setup. setup ≡ record { maximum = maximum; region = region; workers = workers })
    → (IsSome o ↔ IsInRange maximum region workers) → o ≡ setup_of maximum region workers
setup_is maximum region workers (Some setup) some exact =
    let there : IsSome {T = Sizes} (Some setup) = search rules in
    ap Some some ∙ sym (setup_again (record { maximum = maximum; region = region; workers = workers }) (exact.0 there))
setup_is maximum region workers None some exact =
    is_none (setup_of maximum region workers) (λ setup h. let some_none : IsSome {T = Sizes} None = exact.1 (setup_takes maximum region workers setup h).0 in search rules)
