use Rattle.std.proofs.Common.{All, rules, arith, subst}
use Rattle.std.proofs.lemmas.List.Elements.{All-more}
use Rattle.std.proofs.lemmas.List.{take_all}
use Rattle.journal_audit.specs.Text.{Fits}
use Rattle.journal_audit.proofs.widths.entries_fit.Goals as goal

pub loop-entry-preserved : goal.loop-entry-preserved
loop-entry-preserved c = search (rules, All-more Fits c.args.entries.now c.loop-entry.entry-index)

pub returns : goal.returns
returns c = subst (All Fits) (take_all c.loop-entry.entry-index c.args.entries.now (omega arith)) c.loop-entry.invariant
