use Rattle.std.proofs.Common.{◌≡◌, ◌++◌, ◌∙◌, ℕ, Bool, List, [], Err, Option, refl, sym, ap, subst, arith}
use Rattle.std.specs.Global.{Global}
use Rattle.std.specs.Prelude.{Vec}
use Rattle.std.proofs.lemmas.List.{append-nil}
use Rattle.std.proofs.lemmas.Result.{err_from_is_err_and}
use Rattle.std.proofs.KnownBytes.{Appends-trans}
use Rattle.aggregate.specs.Totals.{Entry}
use Rattle.spill_disk.specs.Files.{Files}
use Rattle.run_file.specs.Shelved.{files_on}
use Rattle.run_file.specs.declared.run.Run.{Run}
use Rattle.result_table.specs.Told.{StopsIn, TellsEntries, rows_told}
use Rattle.result_table.proofs.Blocks.{appends_none}
use Rattle.result_table.proofs.Leaving.{leaves_self, leaves_trans}
use Rattle.result_table.proofs.Stopping.{front_unfilled, front_unwritten, stops_block, stops_written}
use Rattle.result_table.proofs.ToldRows.{few_left, joined_next, tells_none, tells_trans}
use Rattle.result_table.proofs.run_table.print_entries.Goals as goal

pub blocks-2-init : goal.blocks-2-init
blocks-2-init g c = record {
  run = refl;
  form = c.requires.form;
  few = c.requires.given;
  shelf = leaves_self _ _ _ _ _ _;
  done = [];
  written = appends_none (g.W.Sink.written c.args.output.now);
  later = omega arith;
  shown = refl;
  told = [];
  tells = tells_none c.args.shape.now _ c.args.reader.now;
  joined = sym (append-nil c.args.text.items);
}

pub returns-in_err-filled-clause-front : goal.returns-in_err-filled-clause-front
returns-in_err-filled-clause-front g c =
    let files : _ → ℕ → Option Files = files_on g.H.Shelf.disk_of g.D.Disk.files in
    let inv = c.blocks-2.invariant in
    let p = err_from_is_err_and c.from_residual.result c.from_residual.ensures.1 in
    rw (p.1, p.2) (front_unfilled (Vec ℕ Global × Bool) (Unit {0}) c.args.shape.now _ _ c.args.reader.now c.blocks-2.reader c.in_err-filled.field-0.0 c.args.text.items inv.done c.blocks-2.text.items _ _
    inv.told inv.tells inv.run inv.few
    (subst (λ (run : Run). StopsIn {T = Vec ℕ Global × Bool} c.args.shape.now (files c.blocks-2.shelf run.disk) c.blocks-2.reader (Err c.in_err-filled.field-0.0)) inv.run c.in_err-filled.ensures.stops)
    inv.written inv.joined)

pub returns-in_err-filled-clause-stops : goal.returns-in_err-filled-clause-stops
returns-in_err-filled-clause-stops g c =
    let files : _ → ℕ → Option Files = files_on g.H.Shelf.disk_of g.D.Disk.files in
    let inv = c.blocks-2.invariant in
    let p = err_from_is_err_and c.from_residual.result c.from_residual.ensures.1 in
    rw (p.1, p.2) (stops_block (Vec ℕ Global × Bool) (Unit {0}) c.args.shape.now _ _ c.args.reader.now c.blocks-2.reader c.in_err-filled.field-0.0 inv.told inv.tells inv.run
    (subst (λ (run : Run). StopsIn {T = Vec ℕ Global × Bool} c.args.shape.now (files c.blocks-2.shelf run.disk) c.blocks-2.reader (Err c.in_err-filled.field-0.0)) inv.run c.in_err-filled.ensures.stops))

pub returns-in_err-write_out-clause-front : goal.returns-in_err-write_out-clause-front
returns-in_err-write_out-clause-front g c =
    let files : _ → ℕ → Option Files = files_on g.H.Shelf.disk_of g.D.Disk.files in
    let inv = c.blocks-2.invariant in
    let shape = c.args.shape.now in
    let p = err_from_is_err_and c.from_residual-in_err-write_out.result c.from_residual-in_err-write_out.ensures.1 in
    let block = subst (λ (run : Run). (told : List Entry) × TellsEntries shape (files c.blocks-2.shelf run.disk) (files c.fill_block.new.shelf run.disk) c.blocks-2.reader c.fill_block.new.reader told
    × (c.in_ok-filled.filled.items ≡ c.blocks-2.text.items ++ rows_told shape told)) inv.run c.in_ok-filled.ensures.tells in
    let few = few_left c.blocks-2.reader c.fill_block.new.reader c.in_ok-filled.more c.in_ok-filled.ensures.whole c.in_ok-filled.ensures.more in
    rw (p.1, p.2) (front_unwritten (Unit {0}) (Unit {0}) shape _ _ c.args.reader.now c.fill_block.new.reader c.in_err-write_out.field-0.0 c.args.text.items inv.done c.in_ok-filled.filled.items _ _ _ _ _ (inv.told ++ block.0)
    (tells_trans shape _ _ _ c.args.reader.now c.blocks-2.reader c.fill_block.new.reader inv.told block.0 inv.tells block.1)
    (omega (arith, few, ap (λ (r : Run). r.count) inv.run)) c.in_err-write_out.ensures.cause inv.written (rw c.deref.ensures.value at c.in_err-write_out.ensures.err)
    (joined_next shape inv.done c.blocks-2.text.items c.args.text.items inv.told block.0 c.in_ok-filled.filled.items inv.joined block.2))

pub returns-in_err-write_out-clause-stops : goal.returns-in_err-write_out-clause-stops
returns-in_err-write_out-clause-stops g c =
    let p = err_from_is_err_and c.from_residual-in_err-write_out.result c.from_residual-in_err-write_out.ensures.1 in
    rw (p.1, p.2) (stops_written (Unit {0}) (Unit {0}) c.args.shape.now _ c.args.reader.now _ _ c.in_err-write_out.field-0.0 c.in_err-write_out.ensures.cause)

pub returns-then-not-more-clause-ok : goal.returns-then-not-more-clause-ok
returns-then-not-more-clause-ok g c =
    let files : _ → ℕ → Option Files = files_on g.H.Shelf.disk_of g.D.Disk.files in
    let inv = c.blocks-2.invariant in
    let shape = c.args.shape.now in
    let block = subst (λ (run : Run). (told : List Entry) × TellsEntries shape (files c.blocks-2.shelf run.disk) (files c.fill_block.new.shelf run.disk) c.blocks-2.reader c.fill_block.new.reader told
    × (c.in_ok-filled.filled.items ≡ c.blocks-2.text.items ++ rows_told shape told)) inv.run c.in_ok-filled.ensures.tells in
    let joined = joined_next shape inv.done c.blocks-2.text.items c.args.text.items inv.told block.0 c.in_ok-filled.filled.items inv.joined block.2 in (
      inv.told ++ block.0,
      tells_trans shape _ _ _ c.args.reader.now c.blocks-2.reader c.fill_block.new.reader inv.told block.0 inv.tells block.1,
      rw (← joined) (Appends-trans _ _ _ inv.done c.in_ok-filled.filled.items inv.written (rw c.deref.ensures.value at c.in_ok-write_out.ensures.ok)),
    )

pub returns-then-not-more-clause-whole : goal.returns-then-not-more-clause-whole
returns-then-not-more-clause-whole g c =
    c.in_ok-filled.ensures.whole c.if-not-more.true ∙ ap (λ (r : Run). r.count) c.blocks-2.invariant.run

pub blocks-2-preserved : goal.blocks-2-preserved
blocks-2-preserved g c =
    let files : _ → ℕ → Option Files = files_on g.H.Shelf.disk_of g.D.Disk.files in
    let inv = c.blocks-2.invariant in
    let shape = c.args.shape.now in
    let block = subst (λ (run : Run). (told : List Entry) × TellsEntries shape (files c.blocks-2.shelf run.disk) (files c.fill_block.new.shelf run.disk) c.blocks-2.reader c.fill_block.new.reader told
    × (c.in_ok-filled.filled.items ≡ c.blocks-2.text.items ++ rows_told shape told)) inv.run c.in_ok-filled.ensures.tells in
    let joined = joined_next shape inv.done c.blocks-2.text.items c.args.text.items inv.told block.0 c.in_ok-filled.filled.items inv.joined block.2 in
    let few = few_left c.blocks-2.reader c.fill_block.new.reader c.in_ok-filled.more c.in_ok-filled.ensures.whole c.in_ok-filled.ensures.more in
    record {
      run = c.fill_block.ensures.run ∙ inv.run;
      form = c.fill_block.ensures.form;
      few = omega (arith, few, ap (λ (r : Run). r.count) inv.run);
      shelf = leaves_trans _ _ _ _ _ _ _ _ inv.shelf c.fill_block.ensures.shelf;
      done = inv.done ++ c.in_ok-filled.filled.items;
      written = Appends-trans _ _ _ inv.done c.in_ok-filled.filled.items inv.written (rw c.deref.ensures.value at c.in_ok-write_out.ensures.ok);
      later = omega (arith, inv.later, c.write_out.ensures.later);
      shown = c.write_out.ensures.tells ∙ inv.shown;
      told = inv.told ++ block.0;
      tells = tells_trans shape _ _ _ c.args.reader.now c.blocks-2.reader c.fill_block.new.reader inv.told block.0 inv.tells block.1;
      joined = rw (c.clear.ensures.items, append-nil (inv.done ++ c.in_ok-filled.filled.items)) joined;
    }
