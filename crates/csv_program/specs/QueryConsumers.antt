-- A consumer of a query as contracts see it.
-- This project's own.
use Rattle.consumer_trait.specs.States.{State}
use Rattle.group_map.specs.GroupMaps as map
use Rattle.row_sorter.specs.Sorters as sorter
use Rattle.csv_program.specs.declared.consumers.QueryConsumer.{QueryConsumer}
use Rattle.csv_program.specs.declared.consumers.QueryConsumer.TheVariants.{Groups, Orders}

-- that of the map, or of the sorter
abbrev pub state_in : QueryConsumer → State
state_in (Groups groups) = map.state_of groups
state_in (Orders rows) = sorter.state_of rows
