use Rattle.std.proofs.Common.{◌<◌, ℕ, arith}
use Rattle.std.proofs.lemmas.List.Elements.{All-from_get_or}
use Rattle.landing.proofs.rules.add_field.Goals as goal

pub returns-clause-bytes : goal.returns-clause-bytes
returns-clause-bytes c = All-from_get_or (λ (b : ℕ). b < 256) c.args.field.now 0 (λ i lt. omega (arith, (c.type_inv.field i).fits))
