use Rattle.std.proofs.Common.{◌≡◌, rules, decimal, ◌∙◌}
use Rattle.std.proofs.lemmas.Fmt.{parse-decimal, IsAscii-decimal}
use Rattle.std.proofs.lemmas.Str.{IsUtf8-from_ascii}
use Rattle.journal_audit.proofs.numbers.number_of.Goals as goal

pub returns-in_default-clause-only : goal.returns-in_default-clause-only
returns-in_default-clause-only c n h e = absurd (c.in_default.ensures.cases.0 (rw e (IsUtf8-from_ascii _ (IsAscii-decimal n h))))

pub returns-in_default-parse-clause-only : goal.returns-in_default-parse-clause-only
returns-in_default-parse-clause-only c n h e =
    let text : c.in-Ok.text.now ≡ decimal n = c.in-Ok.ensures.cases.0 ∙ e in
    absurd (cc (parse-decimal 64 n _ _ h h text c.parse.ensures.value.0))

pub returns-then-eq-clause-only : goal.returns-then-eq-clause-only
returns-then-eq-clause-only c n h e =
    let text : c.in-Ok.text.now ≡ decimal n = c.in-Ok.ensures.cases.0 ∙ e in
    cc (parse-decimal 64 n _ _ h h text c.parse.ensures.value.0)

pub returns-else-eq-clause-only : goal.returns-else-eq-clause-only
returns-else-eq-clause-only c n h e =
    let text : c.in-Ok.text.now ≡ decimal n = c.in-Ok.ensures.cases.0 ∙ e in
    let read = parse-decimal 64 n _ _ h h text c.parse.ensures.value.0 in
    let same : c.format.result.now ≡ c.in-Ok.text.now = cc (text, read) in
    search rules
