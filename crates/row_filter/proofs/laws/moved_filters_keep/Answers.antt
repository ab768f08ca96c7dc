use Rattle.row_filter.proofs.Movings.{columns_moved, keeps_moved}
use Rattle.row_filter.proofs.laws.moved_filters_keep.Goals as goal

pub returns-clause-keeps : goal.returns-clause-keeps
returns-clause-keeps c = keeps_moved

pub returns-clause-columns : goal.returns-clause-columns
returns-clause-columns c = columns_moved
