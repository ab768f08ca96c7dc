use Rattle.std.proofs.Common.{rules, ◌≡◌, ℕ, ◌+◌, ◌++◌, ◌∷◌, [], ◌∙◌, sym, ap, refl, List, Some, None, arith, length, string_bytes, take}
use Rattle.std.proofs.lemmas.List.{get_or_push, length-append}
use Rattle.std.proofs.Math.Seq.{take-append_seam}
use Rattle.std.proofs.lemmas.Str.Pattern.{split_parts, strip_prefix_char}
use Rattle.job_text.specs.Scan.{closed_at}
use Rattle.job_text.proofs.Quotes.{so_far, closed_by, over_doubled, up_to_quote, unclosed}
use Rattle.job_text.proofs.tokens.closed.Goals as goal

pub returns-in_default-strip_prefix : goal.returns-in_default-strip_prefix
returns-in_default-strip_prefix c =
    let quote = c.args.quote in
    let content = string_bytes c.loop-piece.content in
    let doubled = closed_by content c.loop-piece.doubled in
    let piece = c.in-Some.piece.now in
    let after = c.in-Some.after.now in
    let parts = split_parts quote c.loop-piece.rest.now (Some (c.in-Some.piece, c.in-Some.after)) c.in-Some.ensures.cases c.requires.ascii in
    let alone = strip_prefix_char quote after None c.in_default-strip_prefix.ensures.cases c.requires.ascii in
    let place : c.loop-piece.at + (length piece + 1) ≡ c.loop-piece.at + length piece + 1 = omega arith in
    rw (c.of.ensures, c.in_ok-push_str.ensures.bytes, place) (sym (c.loop-piece.invariant.found ∙ ap (λ (l : List ℕ). so_far content c.loop-piece.at doubled (closed_at quote l)) parts.0
    ∙ up_to_quote quote piece after content c.loop-piece.at doubled parts.1 alone))

pub loop-piece-preserved : goal.loop-piece-preserved
loop-piece-preserved c =
    let quote = c.args.quote in
    let at = c.loop-piece.at in
    let content = string_bytes c.loop-piece.content in
    let doubled = closed_by content c.loop-piece.doubled in
    let piece = c.in-Some.piece.now in
    let after = c.in-Some.after.now in
    let more = c.in-Some-strip_prefix.more.now in
    let parts = split_parts quote c.loop-piece.rest.now (Some (c.in-Some.piece, c.in-Some.after)) c.in-Some.ensures.cases c.requires.ascii in
    let two : after ≡ quote ∷ more = strip_prefix_char quote after (Some c.in-Some-strip_prefix.more) c.in-Some-strip_prefix.ensures.cases c.requires.ascii in
    let rest : c.loop-piece.rest.now ≡ piece ++ quote ∷ quote ∷ more = parts.0 ∙ ap (λ (l : List ℕ). piece ++ quote ∷ l) two in
    let long = ap length rest in
    let before : List ℕ = content ++ piece in
    let read : string_bytes c.push_str.new.self ≡ before = c.in_ok-push_str.ensures.bytes in
    let pushed : string_bytes c.push.new.self ≡ before ++ quote ∷ [] = c.in_ok-push.ensures.bytes ∙ rw (c.in_ok-push.ensures.ascii c.requires.ascii, read) refl in
    let len : c.len.result ≡ length before = search rules in
    rw (pushed, len) (record {
      utf8 = search rules;
      found = c.loop-piece.invariant.found ∙ ap (λ (l : List ℕ). so_far content at doubled (closed_at quote l)) rest
          ∙ over_doubled quote piece more content at doubled parts.1
          ∙ ap (λ (l : List ℕ). so_far (before ++ quote ∷ []) (at + length piece + 2) (Some (l, at + length piece + 1)) (closed_at quote more)) (sym (take-append_seam before (quote ∷ [])))
          ∙ ap (λ (n : ℕ). so_far (before ++ quote ∷ []) n (Some (take (length before) (before ++ quote ∷ []), at + length piece + 1)) (closed_at quote more)) (omega arith)
          ∙ ap (λ (n : ℕ). so_far (before ++ quote ∷ []) (at + (length piece + 1) + 1) (Some (take (length before) (before ++ quote ∷ []), n)) (closed_at quote more)) (omega arith);
      place = omega (arith, long, c.loop-piece.invariant.place, length-append piece (quote ∷ quote ∷ more));
      kept = (omega (arith, length-append before (quote ∷ [])), get_or_push before quote 0 (length before) refl);
    })

pub returns-in_default-doubled : goal.returns-in_default-doubled
returns-in_default-doubled c =
    let content = string_bytes c.loop-piece.content in
    let none = split_parts c.args.quote c.loop-piece.rest.now None c.in_default.ensures.cases c.requires.ascii in
    sym (c.loop-piece.invariant.found ∙ unclosed c.args.quote c.loop-piece.rest.now content c.loop-piece.at (closed_by content c.loop-piece.doubled) none ∙ ap (closed_by content) c.in_default-doubled.is)

pub returns : goal.returns
returns c =
    let content = string_bytes c.loop-piece.content in
    let none = split_parts c.args.quote c.loop-piece.rest.now None c.in_default.ensures.cases c.requires.ascii in
    rw (c.of-2.ensures, c.truncate.ensures.bytes) (sym (c.loop-piece.invariant.found ∙ unclosed c.args.quote c.loop-piece.rest.now content c.loop-piece.at (closed_by content c.loop-piece.doubled) none ∙ ap (closed_by content) c.in-Some-doubled.is))
