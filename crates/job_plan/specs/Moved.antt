-- Shapes and datasets whose columns are moved, as from a job's names to the kept columns.
-- This project's own.
use Rattle.std.specs.Prelude.{ℕ, map, option_map}
use Rattle.row_filter.specs.declared.chain.Link.{Link}
use Rattle.row_filter.specs.Moved.{moved_filter}
use Rattle.job_text.specs.declared.job.Dataset.{Dataset}
use Rattle.job_text.specs.declared.job.KeyItem.{KeyItem}
use Rattle.job_text.specs.declared.job.Part.{Part}
use Rattle.job_text.specs.declared.job.Shape.{Shape}
use Rattle.job_text.specs.declared.job.Shape.TheVariants.{Group, Order}

-- an aggregate of a column that is moved
abbrev pub moved_part : (ℕ → ℕ) → Part → Part
moved_part move part = record part { column = option_map move part.column }

-- a key of a column that is moved
abbrev pub moved_item : (ℕ → ℕ) → KeyItem → KeyItem
moved_item move item = record item { column = move item.column }

-- a shape whose columns are moved
abbrev pub moved : (ℕ → ℕ) → Shape → Shape
moved move (Group columns parts) = Group (map move columns) (map (moved_part move) parts)
moved move (Order keys columns) = Order (map (moved_item move) keys) (map move columns)

-- how a dataset is made, where the columns of its filter are moved
abbrev pub link_over : (ℕ → ℕ) → Dataset → Link
link_over move dataset = record {
  parent = dataset.parent;
  filter = option_map (moved_filter move) dataset.filter;
  level = dataset.level;
}
