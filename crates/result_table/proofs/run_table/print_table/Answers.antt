use Rattle.std.proofs.Common.{◌≡◌, ◌∙◌, ℕ, List, Option, Some, ap, refl, subst}
use Rattle.std.specs.Prelude.{option_map}
use Rattle.std.proofs.lemmas.Result.{err_from_is_err_and, on_err_weaker, on_ok_weaker}
use Rattle.byte_io.specs.Sinks.{AppendsPrefix}
use Rattle.csv.specs.Writing.{default_writer, row_text}
use Rattle.job_plan.specs.Plans.{heading_at, kept_at, kind_at}
use Rattle.spill_disk.specs.Files.{Files}
use Rattle.run_file.specs.Shelved.{files_on}
use Rattle.result_table.specs.Ahead.{AreAhead}
use Rattle.result_table.specs.Results.{HasResult}
use Rattle.result_table.specs.Told.{rows_told}
use Rattle.result_table.proofs.Blocks.{front-none, front-within}
use Rattle.result_table.proofs.Stopping.{front_alone, front_of_all, front_result, front_written, result_ahead, stops_among, told_whole, undamaged_among}
use Rattle.result_table.proofs.run_table.print_table.Goals as goal

pub returns-in_err-text-clause-front : goal.returns-in_err-text-clause-front
returns-in_err-text-clause-front g c =
    let p = err_from_is_err_and c.from_residual.result c.from_residual.ensures.1 in
    rw (p.1, p.2) (front_alone (Unit {0}) (kept_at c.args.plan.now c.args.query) _ _ _ _ _ _ (front-none (g.W.Sink.written c.args.output.now) _) tt)

pub returns-in_default-clause-err : goal.returns-in_default-clause-err
returns-in_default-clause-err g c =
    let heading : c.deref.result.now ≡ row_text default_writer (heading_at c.args.plan.now c.args.query) =
    c.deref.ensures.value ∙ c.in_ok-text.ensures ∙ ap (row_text default_writer) c.heading.ensures in
    let was = g.W.Sink.written c.args.output.now in
    let now = g.W.Sink.written c.write_out.new.output in
    on_err_weaker c.write_out.result
    (λ front entries has.
    front-within was now (row_text default_writer (heading_at c.args.plan.now c.args.query)) (rows_told (kept_at c.args.plan.now c.args.query) entries)
    (subst (λ (t : List ℕ). AppendsPrefix was now t) heading front))
    c.write_out.ensures.err

pub returns-in_default-clause-front : goal.returns-in_default-clause-front
returns-in_default-clause-front g c =
    let heading : c.deref.result.now ≡ row_text default_writer (heading_at c.args.plan.now c.args.query) =
    c.deref.ensures.value ∙ c.in_ok-text.ensures ∙ ap (row_text default_writer) c.heading.ensures in
    front_written (kept_at c.args.plan.now c.args.query) _ _ _ _ _ _ _ c.write_out.result c.write_out.ensures.cause (rw heading at c.write_out.ensures.err)

pub returns-in_err-reader-clause-front : goal.returns-in_err-reader-clause-front
returns-in_err-reader-clause-front g c =
    let p = err_from_is_err_and c.from_residual-in_err-reader.result c.from_residual-in_err-reader.ensures.1 in
    rw (p.1, p.2) (front_alone (Unit {0}) (kept_at c.args.plan.now c.args.query) _ _ _ _ _ _ (front-none (g.W.Sink.written c.args.output.now) _) tt)

pub returns-clause-ok : goal.returns-clause-ok
returns-clause-ok g c =
    let files : _ → ℕ → Option Files = files_on g.H.Shelf.disk_of g.D.Disk.files in
    let plan = c.args.plan.now in
    let reader = c.in_ok-reader.reader in
    let heading : c.in_ok-text.text.items ≡ row_text default_writer (heading_at plan c.args.query) = c.in_ok-text.ensures ∙ ap (row_text default_writer) c.heading.ensures in
    let all = told_whole c.kept.result.now _ _ reader c.print_entries.new.reader c.in_ok-text.text.items _ _ c.print_entries.result c.print_entries.ensures.run
    c.print_entries.ensures.ok c.print_entries.ensures.whole in
    on_ok_weaker c.print_entries.result
    (λ told entries has.
    let ahead = result_ahead (files c.args.shelf.now) (kind_at plan c.args.query) c.kind-kind.result.now _ c.in-Some.run'.now reader entries (ap (option_map (λ run. run.now)) c.in-Some.is)
    c.kind-kind.ensures c.in_ok-reader.ensures.run c.in_ok-reader.ensures.begins has in
    rw (heading, c.kept.ensures) at (told entries ahead).1)
    all

pub returns-clause-told : goal.returns-clause-told
returns-clause-told g c =
    let files : _ → ℕ → Option Files = files_on g.H.Shelf.disk_of g.D.Disk.files in
    let plan = c.args.plan.now in
    let reader = c.in_ok-reader.reader in
    let all = told_whole c.kept.result.now _ _ reader c.print_entries.new.reader c.in_ok-text.text.items _ _ c.print_entries.result c.print_entries.ensures.run
    c.print_entries.ensures.ok c.print_entries.ensures.whole in
    on_ok_weaker c.print_entries.result
    (λ told entries has.
    let ahead = result_ahead (files c.args.shelf.now) (kind_at plan c.args.query) c.kind-kind.result.now _ c.in-Some.run'.now reader entries (ap (option_map (λ run. run.now)) c.in-Some.is)
    c.kind-kind.ensures c.in_ok-reader.ensures.run c.in_ok-reader.ensures.begins has in
    rw c.kept.ensures at (told entries ahead).0)
    all

pub returns-clause-err : goal.returns-clause-err
returns-clause-err g c =
    let files : _ → ℕ → Option Files = files_on g.H.Shelf.disk_of g.D.Disk.files in
    let plan = c.args.plan.now in
    let reader = c.in_ok-reader.reader in
    let heading : c.in_ok-text.text.items ≡ row_text default_writer (heading_at plan c.args.query) = c.in_ok-text.ensures ∙ ap (row_text default_writer) c.heading.ensures in
    on_err_weaker c.print_entries.result
    (λ front entries has.
    let ahead = result_ahead (files c.args.shelf.now) (kind_at plan c.args.query) c.kind-kind.result.now _ c.in-Some.run'.now reader entries (ap (option_map (λ run. run.now)) c.in-Some.is)
    c.kind-kind.ensures c.in_ok-reader.ensures.run c.in_ok-reader.ensures.begins has in
    rw (heading, c.kept.ensures) at (front_of_all (Unit {0}) c.kept.result.now (AreAhead (files c.args.shelf.now reader.run.disk) reader) reader.found reader.run.count
    c.in_ok-text.text.items (g.W.Sink.written c.args.output.now) (g.W.Sink.written c.print_entries.new.output) c.print_entries.result entries front ahead))
    c.print_entries.ensures.front

pub returns-clause-front : goal.returns-clause-front
returns-clause-front g c =
    let files : _ → ℕ → Option Files = files_on g.H.Shelf.disk_of g.D.Disk.files in
    let plan = c.args.plan.now in
    let reader = c.in_ok-reader.reader in
    let heading : c.in_ok-text.text.items ≡ row_text default_writer (heading_at plan c.args.query) = c.in_ok-text.ensures ∙ ap (row_text default_writer) c.heading.ensures in
    let is : option_map (λ run. run.now) c.args.answer ≡ Some c.in-Some.run'.now = ap (option_map (λ run. run.now)) c.in-Some.is in
    rw is (rw (heading, c.kept.ensures, c.in_ok-reader.ensures.none, c.in_ok-reader.ensures.run) at
    (front_result c.kept.result.now _ (HasResult (files c.args.shelf.now) (kind_at plan c.args.query) (Some c.in-Some.run'.now)) reader.found reader.run.count c.in_ok-text.text.items _ _
    c.print_entries.result
    (λ entries has. result_ahead (files c.args.shelf.now) (kind_at plan c.args.query) c.kind-kind.result.now _ c.in-Some.run'.now reader entries refl
    c.kind-kind.ensures c.in_ok-reader.ensures.run c.in_ok-reader.ensures.begins has)
    c.print_entries.ensures.front))

pub returns-clause-undamaged : goal.returns-clause-undamaged
returns-clause-undamaged g c entries has all =
    let files : _ → ℕ → Option Files = files_on g.H.Shelf.disk_of g.D.Disk.files in
    let plan = c.args.plan.now in
    let reader = c.in_ok-reader.reader in
    let ahead = result_ahead (files c.args.shelf.now) (kind_at plan c.args.query) c.kind-kind.result.now _ c.in-Some.run'.now reader entries (ap (option_map (λ run. run.now)) c.in-Some.is)
    c.kind-kind.ensures c.in_ok-reader.ensures.run c.in_ok-reader.ensures.begins has in
    undamaged_among (kept_at plan c.args.query) c.print_entries.result entries
    (rw c.kept.ensures at (stops_among c.kept.result.now _ reader c.print_entries.result entries c.in_ok-reader.ensures.none c.print_entries.ensures.stops ahead)) all
