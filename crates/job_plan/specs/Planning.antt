-- What holds of each plan, whichever job it is of.
-- This project's own.
use Rattle.std.specs.Prelude.{◌≡◌, ℕ, ◌+◌, ◌<◌, ◌≤◌, All, AllPairs, true, IfSome, List, length}
use Rattle.row_filter.specs.Lines.{AreOrdered}
use Rattle.row_filter.specs.Rows.{HasTestedColumns}
use Rattle.row_filter.specs.declared.chain.Link.{Link}
use Rattle.row_form.specs.declared.form.Form.{Form}
use Rattle.row_form.specs.Forms.{columns_of, is_landed}
use Rattle.job_text.specs.Jobs.{IsShape}
use Rattle.job_plan.specs.declared.passing.Pass.{Pass}
use Rattle.job_plan.specs.declared.planned.Planned.{Planned}
use Rattle.job_plan.specs.Entries.{kind_of}

-- landed rows, at most eight datasets beside the input, each made from an earlier one by a filter over their columns
pub record FitsChain (form : Form) (links : List Link) : Type 0 where
  pub landed : is_landed form ≡ true
  pub few : length links ≤ 8
  pub ordered : AreOrdered links
  pub covered : All (λ link. IfSome link.filter (HasTestedColumns (columns_of form + 1))) links

-- the queries of a pass, of so many in all: one or more, ascending
pub record FitsQueries (count : ℕ) (queries : List ℕ) : Type 0 where
  pub some : 1 ≤ length queries
  pub ascend : AllPairs (λ earlier later. earlier < later) queries
  pub named : All (λ query. query < count) queries

-- a pass over one of so many datasets beside the input
pub record IsPass (datasets count : ℕ) (pass : Pass) : Type 0 where
  pub there : pass.dataset ≤ datasets
  pub queries : FitsQueries count pass.queries.items

-- what is planned for a query, over so many kept columns
pub record IsPlanned (columns : ℕ) (planned : Planned) : Type 0 where
  pub shape : IsShape columns planned.kept
  pub kind : planned.kind ≡ kind_of planned.kept

-- the form of landed rows, the datasets, the one to eight queries and the one to eight passes of a plan
pub record ArePlanned (form : Form) (links : List Link) (queries : List Planned) (over : List Pass) : Type 0 where
  pub chain : FitsChain form links
  pub few : length queries ≤ 8
  pub each : All (IsPlanned (columns_of form)) queries
  pub some : 1 ≤ length over
  pub several : length over ≤ 8
  pub passes : All (IsPass (length links) (length queries)) over
