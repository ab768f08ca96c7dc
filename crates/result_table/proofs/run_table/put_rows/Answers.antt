use Rattle.std.proofs.Common.{◌≡◌, ◌++◌, ◌∷◌, ◌∙◌, ℕ, Bool, [], Option, Ok, true, false, refl, sym, ap, subst, arith}
use Rattle.std.proofs.lemmas.List.{append-nil}
use Rattle.std.proofs.lemmas.Result.{err_from_is_err_and}
use Rattle.csv.specs.Writing.{default_writer, row_text}
use Rattle.spill_disk.specs.Files.{Files}
use Rattle.run_file.specs.AtEntries.{entry_at}
use Rattle.run_file.specs.Shelved.{files_on}
use Rattle.run_file.specs.declared.run.Run.{Run}
use Rattle.job_plan.specs.Telling.{IsTold, row_of}
use Rattle.result_table.specs.Ahead.{TakesEntry}
use Rattle.result_table.specs.Table.{text_in}
use Rattle.result_table.proofs.Ahead.{goes_on_run, same_entry}
use Rattle.result_table.proofs.Leaving.{leaves_self, leaves_trans}
use Rattle.result_table.proofs.Stopping.{stops_damage, stops_read}
use Rattle.result_table.proofs.ToldRows.{Goes, row_laid, tells_next, tells_none, tells_same}
use Rattle.result_table.proofs.run_table.put_rows.Goals as goal

pub entries-init : goal.entries-init
entries-init g c = record {
  between = c.requires.between;
  run = refl;
  form = c.requires.form;
  shelf = leaves_self _ _ _ _ _ _;
  later = omega arith;
  told = [];
  tells = tells_none c.args.shape.now _ c.args.reader.now;
  text = sym (append-nil (text_in c.args.writer.now));
}

pub returns-in_err-go_on-clause-stops : goal.returns-in_err-go_on-clause-stops
returns-in_err-go_on-clause-stops g c =
    let files : _ → ℕ → Option Files = files_on g.H.Shelf.disk_of g.D.Disk.files in
    let inv = c.entries.invariant in
    let p = err_from_is_err_and c.from_residual.result c.from_residual.ensures.1 in
    rw (p.1, p.2) (stops_read Bool c.args.shape.now _ _ _ c.args.reader.now c.entries.reader c.go_on.new.self _ inv.told inv.tells inv.run
    (goes_on_run (files c.entries.shelf) (files c.go_on.new.shelf) c.entries.reader c.go_on.new.self c.args.reader.now.run _ inv.run c.in_err-go_on.ensures.gives)
    c.in_err-go_on.ensures.damaged)

pub key-requires : goal.key-requires
key-requires g c =
    let takes : TakesEntry c.entries.reader c.go_on.new.self (Ok true) = rw c.if-branch.true at c.in_ok-go_on.ensures.takes in
    (c.args.kind.now, takes.0 c.args.kind.now c.entries.invariant.form)

pub value-requires : goal.value-requires
value-requires g c =
    let takes : TakesEntry c.entries.reader c.go_on.new.self (Ok true) = rw c.if-branch.true at c.in_ok-go_on.ensures.takes in
    (c.args.kind.now, takes.0 c.args.kind.now c.entries.invariant.form)

pub returns-then-not-branch-clause-stops : goal.returns-then-not-branch-clause-stops
returns-then-not-branch-clause-stops g c =
    let files : _ → ℕ → Option Files = files_on g.H.Shelf.disk_of g.D.Disk.files in
    let inv = c.entries.invariant in
    let takes : TakesEntry c.entries.reader c.go_on.new.self (Ok true) = rw c.if-branch.true at c.in_ok-go_on.ensures.takes in
    let goes : Goes (files c.entries.shelf c.args.reader.now.run.disk) (files c.go_on.new.shelf c.args.reader.now.run.disk) c.entries.reader c.go_on.new.self true =
    goes_on_run (files c.entries.shelf) (files c.go_on.new.shelf) c.entries.reader c.go_on.new.self c.args.reader.now.run (Ok true) inv.run
    (rw c.if-branch.true at c.in_ok-go_on.ensures.gives) in
    let same = same_entry (entry_at c.go_on.new.self) c.key.result.now c.value.result.now c.key.ensures c.value.ensures.value in
    rw (c.from.ensures, c.damage.ensures) (stops_damage Bool c.args.shape.now _ _ _ c.args.reader.now c.entries.reader c.go_on.new.self inv.told inv.tells inv.run
    c.go_on.ensures.run goes takes.1 takes.2
    (λ told. c.in_ok-tell.ensures.untold c.if-not-branch.true (subst (IsTold c.args.shape.now) (sym same) told)))

pub returns-then-len-ge-BLOCK-clause-tells : goal.returns-then-len-ge-BLOCK-clause-tells
returns-then-len-ge-BLOCK-clause-tells g c =
    let files : _ → ℕ → Option Files = files_on g.H.Shelf.disk_of g.D.Disk.files in
    let inv = c.entries.invariant in
    let shape = c.args.shape.now in
    let takes : TakesEntry c.entries.reader c.go_on.new.self (Ok true) = rw c.if-branch.true at c.in_ok-go_on.ensures.takes in
    let goes : Goes (files c.entries.shelf c.args.reader.now.run.disk) (files c.go_on.new.shelf c.args.reader.now.run.disk) c.entries.reader c.go_on.new.self true =
    goes_on_run (files c.entries.shelf) (files c.go_on.new.shelf) c.entries.reader c.go_on.new.self c.args.reader.now.run (Ok true) inv.run
    (rw c.if-branch.true at c.in_ok-go_on.ensures.gives) in
    let same = same_entry (entry_at c.go_on.new.self) c.key.result.now c.value.result.now c.key.ensures c.value.ensures.value in
    let told : IsTold shape (entry_at c.go_on.new.self) = subst (IsTold shape) same (c.in_ok-tell.ensures.told c.if-not-branch.false) in
    let row = c.in_ok-tell.ensures.row c.if-not-branch.false in
    let step : text_in c.tell.new.writer ≡ text_in c.entries.writer ++ row_text default_writer (row_of shape (entry_at c.go_on.new.self)) =
    row.text ∙ ap (λ e. text_in c.entries.writer ++ row_text default_writer (row_of shape e)) same in (
      inv.told ++ entry_at c.go_on.new.self ∷ [],
      tells_next shape _ _ _ c.args.reader.now c.entries.reader c.go_on.new.self inv.told inv.tells goes takes.1 told,
      row_laid shape (text_in c.args.writer.now) (text_in c.entries.writer) (text_in c.tell.new.writer) inv.told (entry_at c.go_on.new.self) inv.text step,
    )

pub entries-preserved : goal.entries-preserved
entries-preserved g c =
    let files : _ → ℕ → Option Files = files_on g.H.Shelf.disk_of g.D.Disk.files in
    let inv = c.entries.invariant in
    let shape = c.args.shape.now in
    let takes : TakesEntry c.entries.reader c.go_on.new.self (Ok true) = rw c.if-branch.true at c.in_ok-go_on.ensures.takes in
    let goes : Goes (files c.entries.shelf c.args.reader.now.run.disk) (files c.go_on.new.shelf c.args.reader.now.run.disk) c.entries.reader c.go_on.new.self true =
    goes_on_run (files c.entries.shelf) (files c.go_on.new.shelf) c.entries.reader c.go_on.new.self c.args.reader.now.run (Ok true) inv.run
    (rw c.if-branch.true at c.in_ok-go_on.ensures.gives) in
    let same = same_entry (entry_at c.go_on.new.self) c.key.result.now c.value.result.now c.key.ensures c.value.ensures.value in
    let told : IsTold shape (entry_at c.go_on.new.self) = subst (IsTold shape) same (c.in_ok-tell.ensures.told c.if-not-branch.false) in
    let row = c.in_ok-tell.ensures.row c.if-not-branch.false in
    let step : text_in c.tell.new.writer ≡ text_in c.entries.writer ++ row_text default_writer (row_of shape (entry_at c.go_on.new.self)) =
    row.text ∙ ap (λ e. text_in c.entries.writer ++ row_text default_writer (row_of shape e)) same in
    record {
      between = row.between;
      run = c.go_on.ensures.run ∙ inv.run;
      form = c.go_on.ensures.kind c.args.kind.now inv.form;
      shelf = leaves_trans _ _ _ _ _ _ _ _ inv.shelf c.go_on.ensures.shelf;
      later = omega (arith, inv.later, takes.1);
      told = inv.told ++ entry_at c.go_on.new.self ∷ [];
      tells = tells_next shape _ _ _ c.args.reader.now c.entries.reader c.go_on.new.self inv.told inv.tells goes takes.1 told;
      text = row_laid shape (text_in c.args.writer.now) (text_in c.entries.writer) (text_in c.tell.new.writer) inv.told (entry_at c.go_on.new.self) inv.text step;
    }

pub returns-clause-tells : goal.returns-clause-tells
returns-clause-tells g c =
    let inv = c.entries.invariant in
    let stays : TakesEntry c.entries.reader c.go_on.new.self (Ok false) = rw c.if-branch.false at c.in_ok-go_on.ensures.takes in (
      inv.told,
      tells_same c.args.shape.now _ _ _ c.args.reader.now c.entries.reader c.go_on.new.self inv.told inv.tells stays.0
          (c.go_on.ensures.shelf.same c.args.reader.now.run.disk),
      inv.text,
    )

pub returns-clause-whole : goal.returns-clause-whole
returns-clause-whole g c none =
    let stays : TakesEntry c.entries.reader c.go_on.new.self (Ok false) = rw c.if-branch.false at c.in_ok-go_on.ensures.takes in
    stays.1 ∙ ap (λ (r : Run). r.count) c.entries.invariant.run
