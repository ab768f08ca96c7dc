use Rattle.std.proofs.Common.{rules, ◌≡◌, ◌++◌, ◌∷◌, [], ◌∙◌, sym, ap, List, ℕ, Some, None, append_assoc, string_bytes}
use Rattle.std.proofs.lemmas.Str.Pattern.{split_parts}
use Rattle.job_text.specs.Printing.{doubled}
use Rattle.job_text.proofs.Doubled.{doubled-none, doubled-split}
use Rattle.job_text.proofs.printer.push_quoted.Goals as goal

pub loop-before-preserved : goal.loop-before-preserved
loop-before-preserved c =
    let quote = c.args.quote in
    let before = c.in-Some.before.now in
    let after = c.in-Some.after.now in
    let parts = split_parts quote c.loop-before.rest.now (Some (c.in-Some.before, c.in-Some.after)) c.in-Some.ensures.cases c.requires.ascii in
    let split : doubled quote c.loop-before.rest.now ≡ before ++ quote ∷ quote ∷ doubled quote after = ap (doubled quote) parts.0 ∙ doubled-split quote before after parts.1 in (
      search rules,
      rw (c.in_ok-push_twice.ensures, c.in_ok-push_str.ensures.bytes)
          (simp append_assoc (sym (ap (λ (l : List ℕ). string_bytes c.loop-before.out ++ l) split) ∙ c.loop-before.invariant.1)),
    )

pub returns : goal.returns
returns c =
    let quote = c.args.quote in
    let none = split_parts quote c.loop-before.rest.now None c.in_default.ensures.cases c.requires.ascii in
    let same : doubled quote c.loop-before.rest.now ≡ c.loop-before.rest.now = doubled-none quote c.loop-before.rest.now none in
    rw (c.in_ok-push-2.ensures.bytes, c.in_ok-push-2.ensures.ascii c.requires.ascii, c.in_ok-push_str-2.ensures.bytes)
    (ap (λ (l : List ℕ). string_bytes c.loop-before.out ++ l ++ quote ∷ []) (sym same) ∙ ap (λ (l : List ℕ). l ++ quote ∷ []) c.loop-before.invariant.1)
