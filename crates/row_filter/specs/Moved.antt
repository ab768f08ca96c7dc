-- Filters whose columns are moved, as from a job's names to the kept columns.
-- This project's own.
use Rattle.std.specs.Prelude.{ℕ}
use Rattle.row_filter.specs.declared.filter.Filter.{Filter}
use Rattle.row_filter.specs.declared.filter.Filter.TheFolds.{fold-Filter}
use Rattle.row_filter.specs.declared.filter.Filter.TheOpen.{Filter-F}
use Rattle.row_filter.specs.declared.filter.Filter.TheOpen as layers
use Rattle.row_filter.specs.declared.filter.Filter.TheVariants as filters

-- a filter whose columns are moved, where those of the filters in it are
abbrev pub moved_step : (ℕ → ℕ) → Filter-F Filter → Filter
moved_step move (layers.Test column test constant) = filters.Test (move column) test constant
moved_step move (layers.And parts) = filters.And parts
moved_step move (layers.Or parts) = filters.Or parts
moved_step move (layers.Not inner) = filters.Not inner

-- a filter whose columns are moved
abbrev pub moved_filter : (ℕ → ℕ) → Filter → Filter
moved_filter move = fold-Filter Filter (moved_step move)
