use Rattle.std.proofs.Common.{List, ℕ, sym, subst, arith}
use Rattle.std.proofs.lemmas.List.{take_all}
use Rattle.row_page.specs.Grammar.{IsPage}
use Rattle.spill_disk.specs.Files.{bytes_of}
use Rattle.run_file.proofs.laws.written_runs_stand.Goals as goal

pub returns : goal.returns
returns c files run rows there whole counts =
    let bytes = bytes_of files run.file in
    let all = take_all run.bytes bytes (omega (arith, c.pages_have_their_length.ensures bytes rows whole, counts.bytes)) in
    (there, subst (λ (t : List ℕ). IsPage t rows) (sym all) whole, counts)
