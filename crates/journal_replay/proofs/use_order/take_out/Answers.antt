use Rattle.std.proofs.Common.{◌≡◌, ◌≢◌, ℕ, ◌∷◌, [], All, cond, false, Option, Some, None, ap, sym, ◌∙◌}
use Rattle.std.specs.List.{list_any}
use Rattle.std.specs.Option.{option_map_or}
use Rattle.std.proofs.lemmas.Bool.{ne_eqb}
use Rattle.std.proofs.lemmas.List.Elements.{All-weaker}
use Rattle.pool_ledger.specs.Blocks.{is_block}
use Rattle.journal_replay.specs.declared.placed.Placed.{Placed}
use Rattle.journal_replay.specs.Tables.{named, same_name}
use Rattle.journal_audit.specs.Rules.{is_the}
use Rattle.journal_replay.specs.UseOrder.{block_by, is_start, place_of, resident_in, residents_in}
use Rattle.journal_replay.proofs.InUse.{none_kept, none_taken}
use Rattle.journal_replay.proofs.Known.{before_taken, each_at, known_taken, none_listed, not_here, only_taken, still_there, without_taken, StandsAt}
use Rattle.journal_replay.proofs.Stretches.{parted_taken}
use Rattle.journal_replay.proofs.use_order.take_out.Goals as goal

pub mend-requires-clause-stretches : goal.mend-requires-clause-stretches
mend-requires-clause-stretches c =
    let place = c.in-Some.place in
    parted_taken (block_by c.args.order.now.placed) (block_by c.remove-taken.new.self) (is_start c.args.order.now.starts) place c.requires.stretches c.remove-taken.ensures.updates.1
    (λ q other. c.remove-taken.ensures.updates.2 q (not_here place q (λ e. other (sym e))))

pub returns-in_default : goal.returns-in_default
returns-in_default c =
    let d = c.args.dataset in
    let p = c.args.part in
    let blocks = c.args.order.now.placed in
    let at = block_by blocks in
    let kept = place_of c.args.order.now.places in
    let none : kept d p ≡ None = sym c.remove.ensures.value ∙ c.in_default.is in
    let isn't : (q : ℕ) (x : Placed) → at q ≡ Some x → is_block d p (resident_in x) ≡ false =
    λ q x at_q. sym (c.requires.known q x at_q d p) ∙ ap (λ (o : Option ℕ). is_the o q) none in
    let unlisted : list_any (is_block d p) (residents_in blocks.entries) ≡ false =
    none_listed d p blocks.entries
    (All-weaker (λ (e : ℕ × Placed). at e.0 ≡ Some e.1) (λ (e : ℕ × Placed). is_block d p (resident_in e.1) ≡ false) (λ e there. isn't e.0 e.1 there) blocks.entries
    (each_at blocks c.len-count.ensures.ordered)) in
    let noted : (d' p' : ℕ) → place_of c.remove.new.self d' p' ≡ cond (same_name (named d p) (named d' p')) None (kept d' p') =
    λ d' p'. c.remove.ensures.updates.0 (named d' p') in
    record {
      blocks = sym (none_taken (is_block d p) (residents_in blocks.entries) unlisted);
      taken = none_kept (is_block d p) (residents_in blocks.entries) unlisted;
      in_order = λ place is. record {
        known = known_taken at at kept (place_of c.remove.new.self) d p is.known (λ q x there. there) isn't noted;
        before = before_taken at at kept (place_of c.remove.new.self) d p place is.before noted;
        stretches = is.stretches;
      };
    }

pub returns : goal.returns
returns c =
    let d = c.args.dataset in
    let p = c.args.part in
    let place = c.in-Some.place in
    let blocks = c.args.order.now.placed in
    let at = block_by blocks in
    let new_at = block_by c.remove-taken.new.self in
    let kept = place_of c.args.order.now.places in
    let there : kept d p ≡ Some place = sym c.remove.ensures.value ∙ c.in-Some.is in
    let others : (q : ℕ) → q ≢ place → new_at q ≡ at q = λ q other. c.remove-taken.ensures.updates.2 q (not_here place q (λ e. other (sym e))) in
    let stands : All (StandsAt d p place) blocks.entries =
    All-weaker (λ (e : ℕ × Placed). at e.0 ≡ Some e.1) (StandsAt d p place) (λ e here. ap (λ (o : Option ℕ). is_the o e.0) (sym there) ∙ c.requires.known e.0 e.1 here d p) blocks.entries
    (each_at blocks c.len-count.ensures.ordered) in
    let noted : (d' p' : ℕ) → place_of c.remove.new.self d' p' ≡ cond (same_name (named d p) (named d' p')) None (kept d' p') =
    λ d' p'. c.remove.ensures.updates.0 (named d' p') in
    let still = still_there at new_at place c.remove-taken.ensures.updates.1 others in
    record {
      blocks = ap residents_in c.remove-taken.ensures.entries ∙ without_taken d p place blocks.entries c.len-count.ensures.ordered stands;
      taken =
          only_taken d p place blocks.entries c.len-count.ensures.ordered stands
          ∙ ap (λ (o : Option Placed). option_map_or (λ x. resident_in x ∷ []) o []) (sym c.remove-taken.ensures.value);
      in_order = λ before is. record {
        known = known_taken at new_at kept (place_of c.remove.new.self) d p is.known (λ q x here. (still q x here).0)
            (λ q x here. sym (is.known q x (still q x here).0 d p) ∙ ap (λ (o : Option ℕ). is_the o q) there ∙ ne_eqb place q (λ e. (still q x here).1 (sym e))) noted;
        before = before_taken at new_at kept (place_of c.remove.new.self) d p before is.before noted;
        stretches = c.in_ok-mend.ensures.stretches;
      };
    }
