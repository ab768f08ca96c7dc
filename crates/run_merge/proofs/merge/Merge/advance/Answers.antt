use Rattle.std.proofs.Common.{◌≡◌, ◌<◌, ℕ, [], true, false, length, refl, sym, ◌∙◌, arith, rules}
use Rattle.run_file.specs.Shelved.{files_on}
use Rattle.run_merge.specs.Giving.{AreComing}
use Rattle.run_merge.specs.Heads.{has_head}
use Rattle.run_merge.specs.Merging.{left_by, left_of}
use Rattle.run_merge.proofs.Finishing.{none_coming, nothing_left}
use Rattle.run_merge.proofs.Orders.{none_in_order, some_left}
use Rattle.run_merge.proofs.merge.Merge.advance.Goals as goal

pub returns-then-is_empty-clause-gives : goal.returns-then-is_empty-clause-gives
returns-then-is_empty-clause-gives g c entries come =
    let readers = c.let_all_on.new.readers.items in
    let heads = c.let_all_on.new.heads.items in
    let empty : length c.let_all_on.new.order ≡ 0 = search rules in
    let none : (k : ℕ) → has_head heads k ≡ false = none_in_order readers heads c.let_all_on.new.order empty c.let_all_on.ensures.order in
    let coming : AreComing (files_on g.H.Shelf.disk_of g.D.Disk.files c.let_all_on.new.shelf) true c.args.self.now.kind readers heads entries =
    record { lists = come.lists; left = c.in_ok-let_all_on.ensures.gives come.lists come.left; formed = come.formed; ascend = come.ascend; are = come.are } in
    let nil : entries ≡ [] = none_coming (files_on g.H.Shelf.disk_of g.D.Disk.files c.let_all_on.new.shelf) c.args.self.now.kind readers heads entries none coming in
    rw nil tt

pub returns-then-is_empty-clause-falls : goal.returns-then-is_empty-clause-falls
returns-then-is_empty-clause-falls g c =
    let readers = c.let_all_on.new.readers.items in
    let heads = c.let_all_on.new.heads.items in
    let empty : length c.let_all_on.new.order ≡ 0 = search rules in
    nothing_left readers heads c.let_all_on.ensures.heads (none_in_order readers heads c.let_all_on.new.order empty c.let_all_on.ensures.order) c.in_ok-let_all_on.ensures.end

pub returns-then-is_empty-clause-end : goal.returns-then-is_empty-clause-end
returns-then-is_empty-clause-end g c =
    let readers = c.let_all_on.new.readers.items in
    let heads = c.let_all_on.new.heads.items in
    let empty : length c.let_all_on.new.order ≡ 0 = search rules in
    let left : left_by readers heads ≡ left_of c.args.self.now = c.in_ok-let_all_on.ensures.left in
    (λ e. sym left ∙ nothing_left readers heads c.let_all_on.ensures.heads (none_in_order readers heads c.let_all_on.new.order empty c.let_all_on.ensures.order) c.in_ok-let_all_on.ensures.end, λ e. refl)

pub returns-in-Err-clause-end : goal.returns-in-Err-clause-end
returns-in-Err-clause-end g c =
    let readers = c.let_all_on.new.readers.items in
    let heads = c.let_all_on.new.heads.items in
    let some : 0 < length c.let_all_on.new.order = search rules in
    let left : left_by readers heads ≡ left_of c.args.self.now = c.in_ok-let_all_on.ensures.left in
    (λ e. absurd cc, λ none. absurd (omega (arith, some_left readers heads c.let_all_on.new.order some c.let_all_on.ensures.order, left, none)))
