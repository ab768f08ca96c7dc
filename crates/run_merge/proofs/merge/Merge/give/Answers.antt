use Rattle.std.proofs.Common.{[], ◌∷◌, map, subst, sym}
use Rattle.std.specs.Prelude.{Some}
use Rattle.aggregate.specs.declared.kind.Kind.{Kind}
use Rattle.aggregate.specs.declared.kind.Kind.TheVariants.{Group, Order}
use Rattle.row_form.specs.declared.form.Form.TheVariants.{Entries}
use Rattle.row_form.specs.Forms.{IsWellFormed}
use Rattle.run_file.specs.Readers.{run_of}
use Rattle.run_file.specs.Several.{greatest_of}
use Rattle.run_merge.specs.Heads.{row_lent}
use Rattle.run_merge.proofs.Finishing.{given_one}
use Rattle.run_merge.proofs.merge.Merge.give.Goals as goal

pub returns-in-Order-clause-gives : goal.returns-in-Order-clause-gives
returns-in-Order-clause-gives c files [] coming =
    absurd (c.give_alone.ensures.gives c.args.self.now.row files [] (rw (c.deref.ensures.value) (rw c.in-Order.is at coming)))
returns-in-Order-clause-gives c files (entry ∷ entries) coming =
    let readers = c.args.self.now.readers.items in
    let gives = rw c.deref.ensures.value at (c.give_alone.ensures.gives c.args.self.now.row files (entry ∷ entries) (rw (c.deref.ensures.value) (rw c.in-Order.is at coming))) in
    let one = given_one files Order c.args.self.now.kind readers c.give_alone.new.heads.items (row_lent readers (Some c.give_alone.result) c.args.self.now.row) entry entries c.in-Order.is gives in
    (one.0, record { lists = one.1.lists; left = one.1.left; formed = one.1.formed; ascend = one.1.ascend; are = one.1.are })

pub returns-in-Order-clause-formed : goal.returns-in-Order-clause-formed
returns-in-Order-clause-formed c =
    let readers = c.args.self.now.readers.items in
    subst (λ (k : Kind). IsWellFormed (Entries k) (greatest_of (map run_of readers)) (row_lent readers (Some c.give_alone.result) c.args.self.now.row)) (sym c.in-Order.is)
    (rw c.deref.ensures.value at (c.give_alone.ensures.formed c.args.self.now.row))

pub returns-in_ok-self-in-Group-clause-gives : goal.returns-in_ok-self-in-Group-clause-gives
returns-in_ok-self-in-Group-clause-gives c files [] coming =
    absurd (c.in_ok-self-in-Group.ensures.gives files [] (rw (c.deref-in-Group.ensures.value) (rw c.in-Group.is at coming)))
returns-in_ok-self-in-Group-clause-gives c files (entry ∷ entries) coming =
    let readers = c.args.self.now.readers.items in
    let given = c.in_ok-self-in-Group.field-0 in
    let gives = rw c.deref-in-Group.ensures.value at (c.in_ok-self-in-Group.ensures.gives files (entry ∷ entries) (rw (c.deref-in-Group.ensures.value) (rw c.in-Group.is at coming))) in
    let one = given_one files (Group c.in-Group.aggs) c.args.self.now.kind readers c.give_joined.new.heads.items (row_lent readers given c.give_joined.new.row) entry entries c.in-Group.is gives in
    (one.0, record { lists = one.1.lists; left = one.1.left; formed = one.1.formed; ascend = one.1.ascend; are = one.1.are })

pub returns-in_ok-self-in-Group-clause-formed : goal.returns-in_ok-self-in-Group-clause-formed
returns-in_ok-self-in-Group-clause-formed c =
    let readers = c.args.self.now.readers.items in
    let given = c.in_ok-self-in-Group.field-0 in
    subst (λ (k : Kind). IsWellFormed (Entries k) (greatest_of (map run_of readers)) (row_lent readers given c.give_joined.new.row)) (sym c.in-Group.is)
    (rw c.deref-in-Group.ensures.value at c.in_ok-self-in-Group.ensures.formed)
