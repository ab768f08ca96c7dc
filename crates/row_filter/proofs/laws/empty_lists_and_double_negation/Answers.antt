use Rattle.std.proofs.Common.{[]}
use Rattle.row_filter.proofs.Negations.{not_twice}
use Rattle.row_filter.proofs.Meanings.{keeps-and, keeps-or}
use Rattle.row_filter.proofs.laws.empty_lists_and_double_negation.Goals as goal

pub returns-clause-all : goal.returns-clause-all
returns-clause-all c = λ field_at. keeps-and field_at []

pub returns-clause-none : goal.returns-clause-none
returns-clause-none c = λ field_at. keeps-or field_at []

pub returns-clause-twice : goal.returns-clause-twice
returns-clause-twice c = not_twice
