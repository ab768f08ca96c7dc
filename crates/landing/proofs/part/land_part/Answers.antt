use Rattle.std.proofs.Common.{◌∙◌}
use Rattle.run_file.specs.Shelved.{files_on}
use Rattle.run_file.proofs.Shelves.{same_more}
use Rattle.landing.proofs.Shelves.{files_kept}
use Rattle.landing.proofs.part.land_part.Goals as goal

pub returns-in_err-fill_part-clause-files : goal.returns-in_err-fill_part-clause-files
returns-in_err-fill_part-clause-files g c =
    let files = files_on g.H.Shelf.disk_of g.D.Disk.files in
    let named = g.H.Shelf.named in
    let start = c.args.shelf.now in
    let begun = c.begin.new.shelf in
    let filled = c.fill_part.new.shelf in
    let made = c.in-Ok.writer.run in
    let first = c.in-Ok.ensures.same in
    let next = rw c.in-Ok.ensures.disk at c.fill_part.ensures.same in
    let both = same_more (named start) (named begun) (files start) (files begun) (files filled) c.args.to made.file c.begin.ensures.shelf.names first next in
    files_kept (named start) (files start) (files filled) c.args.to made.file
    (λ j. c.fill_part.ensures.shelf.tells j ∙ c.begin.ensures.shelf.tells j) c.in-Ok.ensures.fresh both

pub returns-in-Ok-finish-clause-files : goal.returns-in-Ok-finish-clause-files
returns-in-Ok-finish-clause-files g c =
    let files = files_on g.H.Shelf.disk_of g.D.Disk.files in
    let named = g.H.Shelf.named in
    let start = c.args.shelf.now in
    let begun = c.begin.new.shelf in
    let filled = c.fill_part.new.shelf in
    let made = c.in-Ok.writer.run in
    let first = c.in-Ok.ensures.same in
    let next = rw c.in-Ok.ensures.disk at c.fill_part.ensures.same in
    let both = same_more (named start) (named begun) (files start) (files begun) (files filled) c.args.to made.file c.begin.ensures.shelf.names first next in
    let last = rw (c.fill_part.ensures.disk, c.in-Ok.ensures.disk, c.fill_part.ensures.file) at c.finish.ensures.same in
    let all = same_more (named start) (named filled) (files start) (files filled) (files c.finish.new.shelf) c.args.to made.file (λ j. c.fill_part.ensures.shelf.names j ∙ c.begin.ensures.shelf.names j) both last in
    files_kept (named start) (files start) (files c.finish.new.shelf) c.args.to made.file
    (λ j. c.finish.ensures.shelf.tells j ∙ c.fill_part.ensures.shelf.tells j ∙ c.begin.ensures.shelf.tells j) c.in-Ok.ensures.fresh all

pub returns-in-Err-finish-clause-files : goal.returns-in-Err-finish-clause-files
returns-in-Err-finish-clause-files g c =
    let files = files_on g.H.Shelf.disk_of g.D.Disk.files in
    let named = g.H.Shelf.named in
    let start = c.args.shelf.now in
    let begun = c.begin.new.shelf in
    let filled = c.fill_part.new.shelf in
    let made = c.in-Ok.writer.run in
    let first = c.in-Ok.ensures.same in
    let next = rw c.in-Ok.ensures.disk at c.fill_part.ensures.same in
    let both = same_more (named start) (named begun) (files start) (files begun) (files filled) c.args.to made.file c.begin.ensures.shelf.names first next in
    let last = rw (c.fill_part.ensures.disk, c.in-Ok.ensures.disk, c.fill_part.ensures.file) at c.finish.ensures.same in
    let all = same_more (named start) (named filled) (files start) (files filled) (files c.finish.new.shelf) c.args.to made.file (λ j. c.fill_part.ensures.shelf.names j ∙ c.begin.ensures.shelf.names j) both last in
    files_kept (named start) (files start) (files c.finish.new.shelf) c.args.to made.file
    (λ j. c.finish.ensures.shelf.tells j ∙ c.fill_part.ensures.shelf.tells j ∙ c.begin.ensures.shelf.tells j) c.in-Ok.ensures.fresh all
