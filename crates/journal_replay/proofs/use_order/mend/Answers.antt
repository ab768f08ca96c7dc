use Rattle.std.proofs.Common.{◌≡◌, ◌≢◌, ℕ, false, arith, ap, sym, ◌∙◌}
use Rattle.std.specs.BTreeMap.{is_at}
use Rattle.std.specs.BTreeSet.{BTreeSet}
use Rattle.std.specs.Ordering.{nat_cmp}
use Rattle.journal_replay.specs.UseOrder.{block_by, is_start}
use Rattle.journal_replay.proofs.Known.{not_here}
use Rattle.journal_replay.proofs.Stretches.{mended_apart, mended_end, mended_same, not_added}
use Rattle.journal_replay.proofs.use_order.mend.Goals as goal
use Rattle.journal_replay.proofs.use_order.mend.Goals.{in-Some+in-Some-first_from+then-before-behind, in-Some+in-Some-first_from+else-before-behind+in_ok-insert, in-Some+in_default-first_from, in_default}

pub returns : goal.returns
returns c =
    let at = block_by c.args.blocks.now in
    let old = is_start c.args.starts.now in
    let mid = is_start c.match-last_before.starts in
    let new = is_start c.remove-2.new.self in
    let place = c.args.place in
    let parted = c.requires.stretches in
    let gone : (start : ℕ) → start ≢ place → new start ≡ false → mid start ≡ false =
    λ start other none. sym (c.remove-2.ensures.updates.2 start (not_here place start (λ e. other (sym e)))) ∙ none in
    record {
      stretches = elim c.match-last_before.branch [
        | in-Some+in-Some-first_from+then-before-behind w ↦
            let low = w.in-Some._low in
            let high = w.in-Some-first_from.next in
            let others : (start : ℕ) → start ≢ high → mid start ≡ false → old start ≡ false =
            λ start other none. sym (w.remove.ensures.updates.2 start (not_here high start (λ e. other (sym e)))) ∙ ap (λ (s : BTreeSet ℕ). is_start s start) (sym w.starts-is) ∙ none in
            mended_same at old mid new place parted gone low high w.in-Some.before w.in-Some-first_from.behind w.in-Some.ensures.found.1 w.in-Some-first_from.ensures.found.1
            w.in-Some.ensures.found.0 w.in-Some-first_from.ensures.found.0 w.in-Some.ensures.greatest w.in-Some-first_from.ensures.least others w.if-before-behind.true
        | in-Some+in-Some-first_from+else-before-behind+in_ok-insert w ↦
            let low = w.in-Some._low in
            let high = w.in-Some-first_from.next in
            let kept : (start : ℕ) → mid start ≡ false → old start ≡ false =
            λ start none. not_added (is_at (nat_cmp high) start) (old start) (is_start w.insert.new.self start) (w.in_ok-insert.ensures.updates.0 start)
            (ap (λ (s : BTreeSet ℕ). is_start s start) (sym w.starts-is) ∙ none) in
            mended_apart at old mid new place parted gone low high w.in-Some.before w.in-Some-first_from.behind w.in-Some.ensures.found.1 w.in-Some-first_from.ensures.found.1
            w.in-Some.ensures.found.0 w.in-Some-first_from.ensures.found.0 w.in-Some.ensures.greatest w.in-Some-first_from.ensures.least kept
            (ap (λ (s : BTreeSet ℕ). is_start s high) w.starts-is ∙ w.in_ok-insert.ensures.updates.1) c.requires.gone
        | in-Some+in_default-first_from w ↦
            mended_end at old mid new place parted gone (λ start none. ap (λ (s : BTreeSet ℕ). is_start s start) (sym w.starts-is) ∙ none)
            (λ p q a b at_p at_q below above. let before = w.in_default-first_from.ensures.none q b at_q in omega (arith, before, above))
        | in_default w ↦
            mended_end at old mid new place parted gone (λ start none. ap (λ (s : BTreeSet ℕ). is_start s start) (sym w.starts-is) ∙ none)
            (λ p q a b at_p at_q below above. let behind = w.in_default.ensures.none p a at_p in omega (arith, behind, below))
      ];
    }
