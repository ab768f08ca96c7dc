use Rattle.std.proofs.Common.{◌≡◌, ◌∙◌, ℕ, List, Ok, Option, Some, true, false, length, sym, ap, subst}
use Rattle.std.specs.List.{list_any}
use Rattle.std.proofs.lemmas.Result.{IfOk-weaker, err_from_is_err_and}
use Rattle.aggregate.specs.declared.kind.Kind.TheVariants.{Group}
use Rattle.aggregate.specs.declared.key.Key.{Key}
use Rattle.run_file.specs.declared.run.Run.{Run}
use Rattle.run_file.specs.Shelved.{files_on}
use Rattle.job_plan.specs.Telling.{is_wide, leaves_i64, value_partials}
use Rattle.run_file.specs.AtEntries.{entry_at}
use Rattle.result_table.specs.Ahead.{GoesTo, TakesEntry}
use Rattle.result_table.proofs.Leaving.{leaves_trans}
use Rattle.result_table.proofs.WideKeys.{goes_sound, wide_ended, wide_found, wide_next}
use Rattle.result_table.proofs.wide.first_wide.Goals as goal

pub returns-in_err-go_on-clause-undamaged : goal.returns-in_err-go_on-clause-undamaged
returns-in_err-go_on-clause-undamaged g c entries ahead =
    let still = c.entries.invariant.ahead entries ahead in
    let p = err_from_is_err_and c.from_residual.result c.from_residual.ensures.1 in
    rw (p.1, p.2) (goes_sound (Option Key) _ c.go_on.new.self still.0 _ (c.in_err-go_on.ensures.gives still.0 still.1))

pub value-requires : goal.value-requires
value-requires g c =
    let takes : TakesEntry c.entries.reader c.go_on.new.self (Ok true) = rw c.if-branch.true at c.in_ok-go_on.ensures.takes in
    (Group c.args.aggs.now, takes.0 (Group c.args.aggs.now) c.entries.invariant.kind)

pub has_wide-requires : goal.has_wide-requires
has_wide-requires g c =
    let takes : TakesEntry c.entries.reader c.go_on.new.self (Ok true) = rw c.if-branch.true at c.in_ok-go_on.ensures.takes in
    c.value.ensures.kind (Group c.args.aggs.now) (takes.0 (Group c.args.aggs.now) c.entries.invariant.kind)

pub key-requires : goal.key-requires
key-requires g c =
    let takes : TakesEntry c.entries.reader c.go_on.new.self (Ok true) = rw c.if-branch.true at c.in_ok-go_on.ensures.takes in
    (Group c.args.aggs.now, takes.0 (Group c.args.aggs.now) c.entries.invariant.kind)

pub returns-then-has_wide-clause-ok : goal.returns-then-has_wide-clause-ok
returns-then-has_wide-clause-ok g c =
    let count = length c.args.aggs.now in
    let wide : is_wide count (entry_at c.go_on.new.self) ≡ true =
    ap (λ (v : List ℕ). list_any leaves_i64 (value_partials count v)) (sym c.value.ensures.value) ∙ sym c.has_wide.ensures ∙ c.if-has_wide.true in
    IfOk-weaker c.copy_key.result _ _
    (λ key e entries ahead.
    let still = c.entries.invariant.ahead entries ahead in
    e ∙ ap Some c.key.ensures
    ∙ wide_found count _ c.go_on.new.self entries still.0 still.2 (rw c.if-branch.true at c.in_ok-go_on.ensures.gives still.0 still.1) wide)
    c.copy_key.ensures.ok

pub entries-preserved : goal.entries-preserved
entries-preserved g c =
    let count = length c.args.aggs.now in
    let files = files_on g.H.Shelf.disk_of g.D.Disk.files c.go_on.new.shelf in
    let narrow : is_wide count (entry_at c.go_on.new.self) ≡ false =
    ap (λ (v : List ℕ). list_any leaves_i64 (value_partials count v)) (sym c.value.ensures.value) ∙ sym c.has_wide.ensures ∙ c.if-has_wide.false in
    record {
      run = c.go_on.ensures.run ∙ c.entries.invariant.run;
      kind = c.go_on.ensures.kind (Group c.args.aggs.now) c.entries.invariant.kind;
      shelf = leaves_trans _ _ _ _ _ _ _ _ c.entries.invariant.shelf c.go_on.ensures.shelf;
      ahead = λ entries ahead.
          let still = c.entries.invariant.ahead entries ahead in
          let goes : GoesTo (files c.entries.reader.run.disk) c.go_on.new.self still.0 (Ok true) = rw c.if-branch.true at c.in_ok-go_on.ensures.gives still.0 still.1 in
          wide_next count (files c.go_on.new.self.run.disk) c.go_on.new.self entries still.0 still.2
          (subst (λ (r : Run). GoesTo (files r.disk) c.go_on.new.self still.0 (Ok true)) (sym c.go_on.ensures.run) goes) narrow;
    }

pub returns-clause-ok : goal.returns-clause-ok
returns-clause-ok g c entries ahead =
    let still = c.entries.invariant.ahead entries ahead in
    wide_ended (length c.args.aggs.now) _ c.go_on.new.self entries still.0 still.2 (rw c.if-branch.false at c.in_ok-go_on.ensures.gives still.0 still.1)
