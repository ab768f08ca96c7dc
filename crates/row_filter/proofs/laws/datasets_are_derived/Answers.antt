use Rattle.std.specs.List.{list_all}
use Rattle.std.proofs.lemmas.List.Elements.{filter-append}
use Rattle.row_filter.specs.Chains.{links_of}
use Rattle.row_filter.specs.Derived.{passes_own}
use Rattle.row_filter.specs.Lines.{line}
use Rattle.row_filter.proofs.Lineage.{derived_made, input_whole}
use Rattle.row_filter.proofs.laws.datasets_are_derived.Goals as goal

pub returns-clause-input : goal.returns-clause-input
returns-clause-input c = input_whole

pub returns-clause-made : goal.returns-clause-made
returns-clause-made c = derived_made

pub returns-clause-parts : goal.returns-clause-parts
returns-clause-parts c = λ chain dataset front back.
    filter-append (λ row. list_all (passes_own chain row) (line (links_of chain) dataset)) front back
