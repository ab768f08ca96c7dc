use Rattle.std.proofs.Common.{◌+◌, ◌-◌, ◌≤◌, drop, length, take, ap, arith, ◌∙◌}
use Rattle.run_file.specs.Readers.{Kept}
use Rattle.std.proofs.lemmas.List.{length-take}
use Rattle.run_file.proofs.Keeping.{row_taken, rest_taken}
use Rattle.run_file.proofs.kept.KeptBytes.take.Goals as goal

pub returns-clause-row : goal.returns-clause-row
returns-clause-row c =
    let k = c.self.inside in
    let rest = ap (λ (v : Kept). v.rest) c.self.view_is in
    let enough : 4 + c.args.size ≤ k.end - k.next = omega (arith, ap length rest, length-take (k.end - k.next) (drop k.next k.bytes.items), c.requires) in
    row_taken k.next k.end c.args.size k.bytes.items enough ∙ ap (λ r. take c.args.size (drop 4 r)) rest

pub returns-clause-rest : goal.returns-clause-rest
returns-clause-rest c =
    let k = c.self.inside in
    let rest = ap (λ (v : Kept). v.rest) c.self.view_is in
    let enough : 4 + c.args.size ≤ k.end - k.next = omega (arith, ap length rest, length-take (k.end - k.next) (drop k.next k.bytes.items), c.requires) in
    rest_taken k.next k.end c.args.size k.bytes.items enough ∙ ap (drop (4 + c.args.size)) rest
