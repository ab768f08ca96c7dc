use Rattle.std.proofs.Common.{◌≡◌, ℕ, List, sym, subst, ◌∙◌}
use Rattle.std.proofs.lemmas.Result.{err_from_is_err_and}
use Rattle.aggregate.specs.Totals.{total}
use Rattle.run_file.specs.declared.run.Run.{Run}
use Rattle.run_file.specs.Shelved.{files_on, IsNotThereOn, SameBut}
use Rattle.run_file.specs.Several.{IsFileAmong, concatenated}
use Rattle.run_file.proofs.Among.{among_renamed}
use Rattle.run_merge.specs.Merging.{runs_of}
use Rattle.run_merge.proofs.Clearing.{others_kept, renamed_gone, renamed_same, renamed_same_others}
use Rattle.run_merge.proofs.Grouping.{merged_becomes, new_beside, to_come}
use Rattle.run_merge.proofs.one_group.merge_group.Goals as goal

pub returns-in_err-run-clause-undamaged :
    goal.returns-in_err-run-clause-undamaged
returns-in_err-run-clause-undamaged g c lists have =
    let files = files_on g.H.Shelf.disk_of g.D.Disk.files in
    let start = c.args.shelf.now in
    let begun = c.begin.new.shelf in
    let named = g.H.Shelf.named start in
    let runs = c.args.runs.now in
    let kind = c.args.kind.now in
    let merge = c.in-Ok.merge in
    let file = c.in_ok-writer.writer.run.file in
    let fresh = c.in_ok-writer.ensures.fresh in
    let beside = new_beside named (files start) kind c.args.to file runs lists fresh have in
    let come = to_come named (files start) (files begun) c.args.to file kind merge runs lists fresh c.in_ok-writer.ensures.same c.in-Ok.ensures.runs c.in-Ok.ensures.kind c.in-Ok.ensures.begins have in
    let apart : IsFileAmong (g.H.Shelf.named begun) (runs_of merge) c.args.to file → ⊥ = λ here.
    beside (subst (λ (all : List Run). IsFileAmong named all c.args.to file) c.in-Ok.ensures.runs (among_renamed named (g.H.Shelf.named begun) (runs_of merge) c.args.to file c.begin.ensures.shelf.names here)) in
    let p = err_from_is_err_and c.from_residual-in_err-run.result c.from_residual-in_err-run.ensures.1 in
    rw (p.1, p.2) (c.in_err-run.ensures.undamaged (total kind (concatenated lists)) come (rw c.in_ok-writer.ensures.disk apart))

pub returns-in_err-run-clause-others : goal.returns-in_err-run-clause-others
returns-in_err-run-clause-others g c =
    let files = files_on g.H.Shelf.disk_of g.D.Disk.files in
    let named = g.H.Shelf.named c.args.shelf.now in
    let begun = c.begin.new.shelf in
    let after = c.write_merged.new.shelf in
    let file = c.in_ok-writer.writer.run.file in
    let next = renamed_same named (g.H.Shelf.named begun) (files begun) (files after) c.args.to file c.begin.ensures.shelf.names (rw c.in_ok-writer.ensures.disk at c.write_merged.ensures.same) in
    others_kept named (files c.args.shelf.now) (files after) c.args.runs.now c.args.to file
    (λ j. c.write_merged.ensures.shelf.tells j ∙ c.begin.ensures.shelf.tells j) c.in_ok-writer.ensures.fresh
    (λ j q other new. next j q new ∙ c.in_ok-writer.ensures.same j q new)

pub returns-in_err-remove_all-clause-others : goal.returns-in_err-remove_all-clause-others
returns-in_err-remove_all-clause-others g c =
    let files = files_on g.H.Shelf.disk_of g.D.Disk.files in
    let named = g.H.Shelf.named c.args.shelf.now in
    let begun = c.begin.new.shelf in
    let written = c.write_merged.new.shelf in
    let after = c.remove_all.new.shelf in
    let file = c.in_ok-writer.writer.run.file in
    let runs = c.args.runs.now in
    let names : (j : ℕ) → g.H.Shelf.named written j ≡ named j = λ j. c.write_merged.ensures.shelf.names j ∙ c.begin.ensures.shelf.names j in
    let next = renamed_same named (g.H.Shelf.named begun) (files begun) (files written) c.args.to file c.begin.ensures.shelf.names (rw c.in_ok-writer.ensures.disk at c.write_merged.ensures.same) in
    let last = renamed_same_others named (g.H.Shelf.named written) (files written) (files after) runs names c.remove_all.ensures.others in
    others_kept named (files c.args.shelf.now) (files after) runs c.args.to file
    (λ j. c.remove_all.ensures.shelf.tells j ∙ c.write_merged.ensures.shelf.tells j ∙ c.begin.ensures.shelf.tells j) c.in_ok-writer.ensures.fresh
    (λ j q other new. last j q other ∙ next j q new ∙ c.in_ok-writer.ensures.same j q new)

pub returns-clause-becomes : goal.returns-clause-becomes
returns-clause-becomes g c =
    let files = files_on g.H.Shelf.disk_of g.D.Disk.files in
    let start = c.args.shelf.now in
    let begun = c.begin.new.shelf in
    let written = c.write_merged.new.shelf in
    let after = c.remove_all.new.shelf in
    let named = g.H.Shelf.named start in
    let to = c.args.to in
    let runs = c.args.runs.now in
    let merge = c.in-Ok.merge in
    let run = c.in_ok-run.run' in
    let file = c.in_ok-writer.writer.run.file in
    let file_is : file ≡ run.file = sym c.in_ok-run.ensures.file in
    let names : (j : ℕ) → g.H.Shelf.named written j ≡ named j = λ j. c.write_merged.ensures.shelf.names j ∙ c.begin.ensures.shelf.names j in
    let next = renamed_same named (g.H.Shelf.named begun) (files begun) (files written) to file c.begin.ensures.shelf.names (rw c.in_ok-writer.ensures.disk at c.write_merged.ensures.same) in
    let last = renamed_same_others named (g.H.Shelf.named written) (files written) (files after) runs names c.remove_all.ensures.others in
    let gone = renamed_gone named (g.H.Shelf.named written) (files after) runs names c.in_ok-remove_all.ensures.gone in
    merged_becomes c.written_runs_stand.ensures (g.H.Shelf.count_of start) named (files start) (files begun) (files written) (files after) to c.args.kind.now merge runs run (IsFileAmong (g.H.Shelf.named begun) (runs_of merge) to file → ⊥) c.requires.to
    (record {
      tells = λ j. c.remove_all.ensures.shelf.tells j ∙ c.write_merged.ensures.shelf.tells j ∙ c.begin.ensures.shelf.tells j;
      told = c.write_merged.ensures.shelf.tells to ∙ c.begin.ensures.shelf.tells to;
      disk = c.in_ok-run.ensures.disk ∙ c.in_ok-writer.ensures.disk;
      fresh = subst (λ (f : ℕ). IsNotThereOn named (files start) to f) file_is c.in_ok-writer.ensures.fresh;
      first = subst (λ (f : ℕ). SameBut named (files start) (files begun) to f) file_is c.in_ok-writer.ensures.same;
      next = subst (λ (f : ℕ). SameBut named (files begun) (files written) to f) file_is next;
      gone = gone;
      others = last;
      there = rw (c.in_ok-writer.ensures.disk, file_is) at c.write_merged.ensures.there;
      all = rw c.in_ok-writer.ensures.disk at c.in_ok-run.ensures.all;
      is_apart = λ other here.
          other (subst (λ (f : ℕ). IsFileAmong named runs to f) file_is (subst (λ (all : List Run). IsFileAmong named all to file) c.in-Ok.ensures.runs (among_renamed named (g.H.Shelf.named begun) (runs_of merge) to file c.begin.ensures.shelf.names here)));
      runs_are = c.in-Ok.ensures.runs;
      kind_is = c.in-Ok.ensures.kind;
      begins = c.in-Ok.ensures.begins;
      left = c.in-Ok.ensures.left;
    })

pub returns-clause-others : goal.returns-clause-others
returns-clause-others g c =
    let files = files_on g.H.Shelf.disk_of g.D.Disk.files in
    let named = g.H.Shelf.named c.args.shelf.now in
    let begun = c.begin.new.shelf in
    let written = c.write_merged.new.shelf in
    let after = c.remove_all.new.shelf in
    let file = c.in_ok-writer.writer.run.file in
    let runs = c.args.runs.now in
    let names : (j : ℕ) → g.H.Shelf.named written j ≡ named j = λ j. c.write_merged.ensures.shelf.names j ∙ c.begin.ensures.shelf.names j in
    let next = renamed_same named (g.H.Shelf.named begun) (files begun) (files written) c.args.to file c.begin.ensures.shelf.names (rw c.in_ok-writer.ensures.disk at c.write_merged.ensures.same) in
    let last = renamed_same_others named (g.H.Shelf.named written) (files written) (files after) runs names c.remove_all.ensures.others in
    others_kept named (files c.args.shelf.now) (files after) runs c.args.to file
    (λ j. c.remove_all.ensures.shelf.tells j ∙ c.write_merged.ensures.shelf.tells j ∙ c.begin.ensures.shelf.tells j) c.in_ok-writer.ensures.fresh
    (λ j q other new. last j q other ∙ next j q new ∙ c.in_ok-writer.ensures.same j q new)
