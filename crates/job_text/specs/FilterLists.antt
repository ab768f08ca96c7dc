-- Lists of filters are flat: an `and` in an `and` adds its units, and an `or` in an `or` its parts.
-- This project's own.
use Rattle.std.specs.Prelude.{List, [], ◌∷◌}
use Rattle.row_filter.specs.declared.filter.Filter.{Filter, out-Filter}
use Rattle.row_filter.specs.declared.filter.Filter.TheOpen.{Filter-F}
use Rattle.row_filter.specs.declared.filter.Filter.TheOpen as layers
use Rattle.row_filter.specs.declared.filter.Filter.TheVariants as filters

-- the units of a filter that stands in an `and`
abbrev pub units_out : Filter → Filter-F Filter → List Filter
units_out unit (layers.And more) = more
units_out unit _ = unit ∷ []

-- the units of a filter: those of an `and`, else itself alone
abbrev pub units_in : Filter → List Filter
units_in unit = units_out unit (out-Filter unit)

-- the parts of a filter that stands in an `or`
abbrev pub parts_out : Filter → Filter-F Filter → List Filter
parts_out part (layers.Or more) = more
parts_out part _ = part ∷ []

-- the parts of a filter: those of an `or`, else itself alone
abbrev pub parts_in : Filter → List Filter
parts_in part = parts_out part (out-Filter part)

-- these units as one filter
abbrev pub and_of : List Filter → Filter
and_of (unit ∷ []) = unit
and_of units = filters.And units

-- these parts as one filter
abbrev pub or_of : List Filter → Filter
or_of (part ∷ []) = part
or_of parts = filters.Or parts
