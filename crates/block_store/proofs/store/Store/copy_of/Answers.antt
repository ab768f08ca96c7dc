use Rattle.std.proofs.Common.{◌≡◌, ℕ, sym, subst, ap, ◌∙◌}
use Rattle.std.specs.Prelude.{is_some, IfOk, IfSome}
use Rattle.std.specs.Arc.{arc_value}
use Rattle.std.proofs.lemmas.Bool.{false≢true, true≢false}
use Rattle.block_store.proofs.Copied.{found_stored, found_name, found_is}
use Rattle.block_store.proofs.store.Store.copy_of.Goals as goal

pub returns-in_default-clause-lost : goal.returns-in_default-clause-lost
returns-in_default-clause-lost g c copied tells =
    absurd (false≢true (ap is_some (sym c.in_default.is ∙ c.find.ensures) ∙ found_is c.args.self.now.copies.list c.args.dataset c.args.part ∙ copied))

pub read_copy-requires-clause-small : goal.read_copy-requires-clause-small
read_copy-requires-clause-small g c =
    (found_stored (g.K.Disk.files c.args.self.now.disk) (g.K.Disk.next_number c.args.self.now.disk) c.args.self.now.copies.list c.args.dataset c.args.part c.in-Some.copy c.args.self.now.stored (sym c.find.ensures ∙ c.in-Some.is)).0

pub read_copy-requires-clause-stored : goal.read_copy-requires-clause-stored
read_copy-requires-clause-stored g c =
    (found_stored (g.K.Disk.files c.args.self.now.disk) (g.K.Disk.next_number c.args.self.now.disk) c.args.self.now.copies.list c.args.dataset c.args.part c.in-Some.copy c.args.self.now.stored (sym c.find.ensures ∙ c.in-Some.is)).1

pub returns-clause-none : goal.returns-clause-none
returns-clause-none g c none =
    absurd (true≢false (ap is_some (sym c.in-Some.is ∙ c.find.ensures) ∙ found_is c.args.self.now.copies.list c.args.dataset c.args.part ∙ none))

pub returns-clause-dataset : goal.returns-clause-dataset
returns-clause-dataset g c =
    let name = found_name c.args.self.now.copies.list c.args.dataset c.args.part c.in-Some.copy (sym c.find.ensures ∙ c.in-Some.is) in
    subst (λ (n : ℕ). IfOk c.read_copy.result (λ read. IfSome read (λ block. (arc_value block).dataset ≡ n))) name.0 c.read_copy.ensures.dataset

pub returns-clause-part : goal.returns-clause-part
returns-clause-part g c =
    let name = found_name c.args.self.now.copies.list c.args.dataset c.args.part c.in-Some.copy (sym c.find.ensures ∙ c.in-Some.is) in
    subst (λ (n : ℕ). IfOk c.read_copy.result (λ read. IfSome read (λ block. (arc_value block).part ≡ n))) name.1 c.read_copy.ensures.part
