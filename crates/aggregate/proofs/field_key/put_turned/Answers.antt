use Rattle.std.proofs.lemmas.Result.{err_from_is_err_and}
use Rattle.aggregate.proofs.Spellings.{starts-less}
use Rattle.aggregate.proofs.field_key.put_turned.Goals as goal

pub returns-in_err-put_spelled-clause-err : goal.returns-in_err-put_spelled-clause-err
returns-in_err-put_spelled-clause-err c =
    let p = err_from_is_err_and c.from_residual-in_err-put_spelled.result c.from_residual-in_err-put_spelled.ensures.1 in
    rw p.1 (starts-less _ _ _ _ c.in_err-put_spelled.ensures.err c.loop-byte.invariant)
