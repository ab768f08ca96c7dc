-- A chain of datasets, by their numbers: 0 is the input, which is made from nothing and never kept.
-- This project's own; Spark's resilient distributed datasets know their parents so.
use Rattle.std.specs.Prelude.{ℕ, zero, suc, List, Option, None, option_and_then, slice_get}
use Rattle.std.specs.Option.{option_map_or}
use Rattle.pool_ledger.specs.declared.entry.Level.{Level}
use Rattle.row_form.specs.declared.form.Form.{Form}
use Rattle.row_filter.specs.declared.chain.Chain.{Chain}
use Rattle.row_filter.specs.declared.chain.Link.{Link}
use Rattle.row_filter.specs.declared.filter.Filter.{Filter}

-- the datasets from number 1 on
abbrev pub links_of : Chain → List Link
links_of chain = chain.links

-- the form of the input's landed rows
abbrev pub form_of : Chain → Form
form_of chain = chain.form

-- the number by which the chain's blocks name the input; those that follow name the others, in their order
abbrev pub base_of : Chain → ℕ
base_of chain = chain.base

-- how a dataset is made; the input isn't
abbrev pub link_at : Chain → ℕ → Option Link
link_at chain zero = None
link_at chain (suc before) = slice_get (links_of chain) before

-- the dataset that it is made from
abbrev pub parent_at : Chain → ℕ → ℕ
parent_at chain dataset = option_map_or (λ link. link.parent) (link_at chain dataset) 0

-- the filter that keeps its rows, if one does
abbrev pub filter_at : Chain → ℕ → Option Filter
filter_at chain dataset = option_and_then (λ link. link.filter) (link_at chain dataset)

-- its level, if it is kept
abbrev pub level_at : Chain → ℕ → Option Level
level_at chain dataset = option_and_then (λ link. link.level) (link_at chain dataset)
