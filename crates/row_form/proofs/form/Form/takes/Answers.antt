use Rattle.std.proofs.Common.{◌≡◌, ◌+◌, ◌≤◌, ◌<◌, ◌^◌, length, subst, sym, true≢false, arith}
use Rattle.row_form.specs.declared.form.Form.{Form}
use Rattle.row_form.specs.declared.form.Form.TheVariants.{Landed}
use Rattle.row_form.specs.Forms.{IsFormed}
use Rattle.row_form.proofs.Formed.{formed_short, is_formed, of_form}
use Rattle.row_form.proofs.form.Form.takes.Goals as goal
use Rattle.row_form.proofs.form.Form.takes.Goals.{then-bytes-via-then-bytes, then-bytes-via-else-bytes+then-bytes-greatest}

pub returns-then-bytes : goal.returns-then-bytes
returns-then-bytes c = (
  λ no. absurd (true≢false (sym no)),
  λ formed.
      let short = formed_short c.args.self.now c.args.greatest c.args.bytes.now formed in
      absurd (elim c.then-bytes.branch [
        | then-bytes-via-then-bytes w ↦ omega (arith, w.if-bytes.true, short.0)
        | then-bytes-via-else-bytes+then-bytes-greatest w ↦ omega (arith, w.if-bytes-greatest.true, short.1)
      ]),
)

pub returns-in-Landed : goal.returns-in-Landed
returns-in-Landed c =
    let short : length c.args.bytes.now < 2 ^ 32 = omega (arith, c.if-bytes.false) in
    let cheap : length c.args.bytes.now + 24 ≤ c.args.greatest = omega (arith, c.if-bytes-greatest.false) in
    let landed = Landed c.in-Landed.columns c.in-Landed.numbers in
    let same : c.args.self.now ≡ landed = c.in-Landed.is in (
      λ yes. subst (λ (form : Form). IsFormed form c.args.greatest c.args.bytes.now) (sym same) (is_formed landed c.args.greatest c.args.bytes.now short cheap (c.is_landed.ensures.0 yes)),
      λ formed. c.is_landed.ensures.1 (of_form landed c.args.greatest c.args.bytes.now (subst (λ (form : Form). IsFormed form c.args.greatest c.args.bytes.now) same formed)),
    )
