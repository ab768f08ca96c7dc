use Rattle.std.proofs.Common.{◌≡◌, length, Some, None, drop, ◌∙◌, sym, ap, refl, arith, []}
use Rattle.std.proofs.lemmas.List.{drop_all}
use Rattle.std.proofs.lemmas.Str.{IsCharBoundary-start}
use Rattle.job_text.specs.declared.state.State.{State}
use Rattle.job_text.specs.Step.{step}
use Rattle.job_text.specs.Scan.{token_at}
use Rattle.job_text.specs.Text.{outcome_of, scan}
use Rattle.job_text.proofs.Scanning.{blank_at, bad_at, token_next, behind, at_none, blank_boundary, token_boundary}
use Rattle.job_text.proofs.Names.{names_grow, datasets_grow}
use Rattle.job_text.proofs.reading.read_short.Goals as goal

pub loop-at-init : goal.loop-at-init
loop-at-init c = record {
  gives = ap (λ (s : State). outcome_of (length c.args.text.now) s (scan 0 0 c.args.text.now)) (sym c.start-state.ensures);
  within = omega arith;
  cut = IsCharBoundary-start c.args.text.now c.utf8.text;
  names = rw c.start-state.ensures (omega arith);
  datasets = rw c.start-state.ensures (omega arith);
}

pub loop-at-preserved-then-is_blank : goal.loop-at-preserved-then-is_blank
loop-at-preserved-then-is_blank c = record {
  gives = c.loop-at.invariant.gives ∙ blank_at (length c.args.text.now) c.loop-at.state c.loop-at.at c.args.text.now c.loop-at-test.true (rw (← c.as_bytes.ensures.value) (sym c.is_blank.ensures ∙ c.if-is_blank.true));
  within = omega arith;
  cut = blank_boundary c.loop-at.at c.args.text.now c.utf8.text c.loop-at-test.true (rw (← c.as_bytes.ensures.value) (sym c.is_blank.ensures ∙ c.if-is_blank.true));
  names = omega arith;
  datasets = omega arith;
}

pub returns-in_default : goal.returns-in_default
returns-in_default c =
    let text = c.args.text.now in
    let is : token_at (drop c.loop-at.at text) ≡ None = rw (← c.range_from.ensures.value) (sym c.in_ok-token.ensures ∙ c.in_default.is) in
    c.loop-at.invariant.gives ∙ bad_at (length text) c.loop-at.state c.loop-at.at text c.loop-at-test.true (rw (← c.as_bytes.ensures.value) (sym c.is_blank.ensures ∙ c.if-is_blank.false)) is

pub returns-in_default-2 : goal.returns-in_default-2
returns-in_default-2 c =
    let text = c.args.text.now in
    let is : token_at (drop c.loop-at.at text) ≡ Some (c.in-Some.token, c.in-Some.length) = rw (← c.range_from.ensures.value) (sym c.in_ok-token.ensures ∙ c.in-Some.is) in
    let none : step c.loop-at.state c.in-Some.token ≡ None = sym c.in_ok-next.ensures ∙ c.in_default-2.is in
    c.loop-at.invariant.gives ∙ token_next (length text) c.loop-at.state c.loop-at.at text c.loop-at-test.true c.in-Some.token c.in-Some.length (rw (← c.as_bytes.ensures.value) (sym c.is_blank.ensures ∙ c.if-is_blank.false)) is ∙ rw none refl

pub overflow_add-at-else-is_blank : goal.overflow_add-at-else-is_blank
overflow_add-at-else-is_blank c =
    let text = c.args.text.now in
    let is : token_at (drop c.loop-at.at text) ≡ Some (c.in-Some.token, c.in-Some.length) = rw (← c.range_from.ensures.value) (sym c.in_ok-token.ensures ∙ c.in-Some.is) in
    let far = behind c.loop-at.at text c.in-Some.token c.in-Some.length c.loop-at-test.true is in
    omega (arith, far.1)

pub loop-at-smaller : goal.loop-at-smaller
loop-at-smaller c =
    let text = c.args.text.now in
    let is : token_at (drop c.loop-at.at text) ≡ Some (c.in-Some.token, c.in-Some.length) = rw (← c.range_from.ensures.value) (sym c.in_ok-token.ensures ∙ c.in-Some.is) in
    let far = behind c.loop-at.at text c.in-Some.token c.in-Some.length c.loop-at-test.true is in
    omega (arith, far.0, far.1)

pub loop-at-preserved : goal.loop-at-preserved
loop-at-preserved c =
    let text = c.args.text.now in
    let is : token_at (drop c.loop-at.at text) ≡ Some (c.in-Some.token, c.in-Some.length) = rw (← c.range_from.ensures.value) (sym c.in_ok-token.ensures ∙ c.in-Some.is) in
    let far = behind c.loop-at.at text c.in-Some.token c.in-Some.length c.loop-at-test.true is in
    let next : step c.loop-at.state c.in-Some.token ≡ Some c.in-Some-2.next = sym c.in_ok-next.ensures ∙ c.in-Some-2.is in
    let more = names_grow c.loop-at.state c.in-Some-2.next c.in-Some.token next in
    let others = datasets_grow c.loop-at.state c.in-Some-2.next c.in-Some.token next in
    record {
      gives = c.loop-at.invariant.gives ∙ token_next (length text) c.loop-at.state c.loop-at.at text c.loop-at-test.true c.in-Some.token c.in-Some.length (rw (← c.as_bytes.ensures.value) (sym c.is_blank.ensures ∙ c.if-is_blank.false)) is ∙ rw (next, far.2) refl;
      within = far.1;
      cut = token_boundary c.loop-at.at text c.utf8.text c.loop-at.invariant.cut c.loop-at-test.true c.in-Some.token c.in-Some.length is;
      names = omega (arith, more, far.0);
      datasets = omega (arith, others, far.0);
    }

pub returns-in-Some-3 : goal.returns-in-Some-3
returns-in-Some-3 c =
    let text = c.args.text.now in
    let past : drop c.loop-at.at text ≡ [] = drop_all c.loop-at.at text (omega arith) in
    c.loop-at.invariant.gives ∙ at_none (length text) c.loop-at.state c.loop-at.at (drop c.loop-at.at text) past ∙ rw (← c.in_ok-job.ensures, c.in-Some-3.is) refl

pub returns-in-None : goal.returns-in-None
returns-in-None c =
    let text = c.args.text.now in
    let past : drop c.loop-at.at text ≡ [] = drop_all c.loop-at.at text (omega arith) in
    let place : length text ≡ c.loop-at.at = omega arith in
    c.loop-at.invariant.gives ∙ at_none (length text) c.loop-at.state c.loop-at.at (drop c.loop-at.at text) past ∙ rw (← c.in_ok-job.ensures, c.in-None.is, place) refl
