use Rattle.std.proofs.Common.{◌<◌, ◌^◌, arith}
use Rattle.words.proofs.Digits.{refused_number}
use Rattle.words.proofs.numbers.read_number.Goals as goal

pub returns-in-Err-clause-value : goal.returns-in-Err-clause-value
returns-in-Err-clause-value c =
    let most : c.args.greatest < 2 ^ 64 = omega arith in
    refused_number c.args.text.now c.args.least c.args.greatest c.in-Err.field-0 most c.in-Err.ensures.value.0
