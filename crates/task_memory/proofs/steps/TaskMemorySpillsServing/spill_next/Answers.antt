use Rattle.std.proofs.Common.{◌≡◌, [], ◌∷◌, ◌++◌, List, true, false, not, length, length-append, map, ap, refl, subst, ◌∙◌, arith}
use Rattle.std.specs.Prelude.{max}
use Rattle.std.specs.Result.{is_ok}
use Rattle.task_memory.specs.declared.ask.Ask.{Ask}
use Rattle.task_memory.specs.Asks.{Tries}
use Rattle.task_memory.specs.RunLists.{lists_of}
use Rattle.task_memory.specs.Stacks.{Stack}
use Rattle.task_memory.specs.Words.{scene_of}
use Rattle.task_memory.proofs.FewRuns.{few_ask, few_end}
use Rattle.task_memory.proofs.Stacking.{new_ask}
use Rattle.task_memory.proofs.Stepping.{next_ask, next_end}
use Rattle.task_memory.proofs.steps.TaskMemorySpillsServing.spill_next.Goals as goal

pub returns-in-Ok-clause-steps : goal.returns-in-Ok-clause-steps
returns-in-Ok-clause-steps g c =
    let old : Stack = (scene_of g.C.Consumer.state g.P.Pool.state g.D.Disk.files g.D.Disk.faults c.args.self.now).stack in
    let before = (g.P.Pool.state c.args.self.now.pool.now).account in
    let after = (g.P.Pool.state c.try_pool.new.pool).account in
    let spills = rw c.in-Asks.is at c.in_ok-bytes.ensures.spill in
    let pushed : is_ok c.push.result ≡ true = c.is_err.ensures.negation ∙ ap not c.if-is_err.false in
    let items : c.push.new.self.items ≡ old.asks ++ (new_ask c.args.place c.in-Asks.bytes c.in-Asks.freed ∷ []) = rw pushed at c.push.ensures.items in
    let tries = subst (λ (asks : List Ask). Tries before after asks c.try_pool.new.asks.items c.in-Asks.bytes) items c.in-Ok.ensures.tries in
    let deepest : c.max-self.result ≡ max old.deepest (length old.asks) = grind (arith, c.max-self.ensures, c.len.ensures, c.args.self.now.spills.asks.ok) in
    record {
      steps = next_ask old (map g.C.Consumer.state c.spill_at.new.consumers) (g.D.Disk.files c.spill_at.new.disk) (lists_of c.spill_at.new.runs.items) after c.try_pool.new.asks.items
          c.args.place c.in-Asks.bytes c.in-Asks.freed c.max-self.result deepest c.requires.stands.stack c.requires.candidate.within c.requires.candidate.candidate spills tries;
      page = c.in_ok-bytes.ensures.page;
    }

pub returns-in-Ok-settle-clause-steps : goal.returns-in-Ok-settle-clause-steps
returns-in-Ok-settle-clause-steps g c =
    let old : Stack = (scene_of g.C.Consumer.state g.P.Pool.state g.D.Disk.files g.D.Disk.faults c.args.self.now).stack in
    let spills = rw c.in-Ended.is at c.in_ok-bytes.ensures.spill in
    record {
      steps = next_end old (map g.C.Consumer.state c.spill_at.new.consumers) (g.D.Disk.files c.spill_at.new.disk) (lists_of c.spill_at.new.runs.items) (g.P.Pool.state c.settle.new.pool).account c.settle.new.asks.items
          c.args.place c.in-Ended.freed c.in-Ended.run' c.requires.stands.stack c.requires.candidate.within c.requires.candidate.candidate spills c.in-Ok-settle.ensures.settles;
      page = c.in_ok-bytes.ensures.page;
    }

pub returns-in-Ok-clause-few_runs : goal.returns-in-Ok-clause-few_runs
returns-in-Ok-clause-few_runs g c =
    let old : Stack = (scene_of g.C.Consumer.state g.P.Pool.state g.D.Disk.files g.D.Disk.faults c.args.self.now).stack in
    let before = (g.P.Pool.state c.args.self.now.pool.now).account in
    let after = (g.P.Pool.state c.try_pool.new.pool).account in
    let spills = rw c.in-Asks.is at c.in_ok-bytes.ensures.spill in
    let pushed : is_ok c.push.result ≡ true = c.is_err.ensures.negation ∙ ap not c.if-is_err.false in
    let items : c.push.new.self.items ≡ old.asks ++ (new_ask c.args.place c.in-Asks.bytes c.in-Asks.freed ∷ []) = rw pushed at c.push.ensures.items in
    let tries = subst (λ (asks : List Ask). Tries before after asks c.try_pool.new.asks.items c.in-Asks.bytes) items c.in-Ok.ensures.tries in
    few_ask old.runs (lists_of c.spill_at.new.runs.items) before after old.asks c.try_pool.new.asks.items c.args.place c.in-Asks.bytes c.in-Asks.freed spills.same_runs tries

pub returns-in-Ok-settle-clause-few_runs : goal.returns-in-Ok-settle-clause-few_runs
returns-in-Ok-settle-clause-few_runs g c =
    let old : Stack = (scene_of g.C.Consumer.state g.P.Pool.state g.D.Disk.files g.D.Disk.faults c.args.self.now).stack in
    let spills = rw c.in-Ended.is at c.in_ok-bytes.ensures.spill in
    few_end old.runs (lists_of c.spill_at.new.runs.items) old.account (g.P.Pool.state c.settle.new.pool).account old.asks c.settle.new.asks.items c.in-Ended.freed spills.one c.requires.stands.stack.some c.in-Ok-settle.ensures.settles

pub returns-in_err-bytes-clause-goes : goal.returns-in_err-bytes-clause-goes
returns-in_err-bytes-clause-goes g c = record {
  same = c.spill_at.ensures.same;
  disk = c.spill_at.ensures.disk;
  pool = c.pools_go_on.ensures.none _ c.requires.stands.at_work;
  stays = record { lent = refl; leasts = refl; roomed = refl };
  deeper = record { grows = omega arith; counts = λ counted. counted };
}

pub returns-then-is_err-clause-goes : goal.returns-then-is_err-clause-goes
returns-then-is_err-clause-goes g c =
    let asks = c.args.self.now.spills.asks in
    let refused : is_ok c.push.result ≡ false = c.is_err.ensures.negation ∙ ap not c.if-is_err.true in
    let items : c.push.new.self.items ≡ asks.items = rw refused at c.push.ensures.items in
    let as_many = ap (λ (list : List Ask). length list) items in
    record {
      same = c.spill_at.ensures.same;
      disk = c.spill_at.ensures.disk;
      pool = c.pools_go_on.ensures.none _ c.requires.stands.at_work;
      stays = record { lent = refl; leasts = refl; roomed = refl };
      deeper = record {
        grows = grind (arith, c.max-self.ensures);
        counts = λ counted. grind (arith, c.max-self.ensures, as_many, counted);
      };
    }

pub returns-in-Ok-clause-goes : goal.returns-in-Ok-clause-goes
returns-in-Ok-clause-goes g c =
    let asks = c.args.self.now.spills.asks in
    let pushed : is_ok c.push.result ≡ true = c.is_err.ensures.negation ∙ ap not c.if-is_err.false in
    let ask = new_ask c.args.place c.in-Asks.bytes c.in-Asks.freed in
    let items : c.push.new.self.items ≡ asks.items ++ (ask ∷ []) = rw pushed at c.push.ensures.items in
    let one_more = ap (λ (list : List Ask). length list) items ∙ length-append asks.items (ask ∷ []) in
    record {
      same = c.spill_at.ensures.same;
      disk = c.spill_at.ensures.disk;
      pool = c.try_pool.ensures.goes;
      stays = record { lent = refl; leasts = refl; roomed = refl };
      deeper = record {
        grows = grind (arith, c.max-self.ensures);
        counts = λ counted. grind (arith, c.max-self.ensures, c.len.ensures, asks.ok, c.try_pool.ensures.kept, one_more, counted);
      };
    }

pub returns-in-Err-clause-goes : goal.returns-in-Err-clause-goes
returns-in-Err-clause-goes g c =
    let asks = c.args.self.now.spills.asks in
    let pushed : is_ok c.push.result ≡ true = c.is_err.ensures.negation ∙ ap not c.if-is_err.false in
    let ask = new_ask c.args.place c.in-Asks.bytes c.in-Asks.freed in
    let items : c.push.new.self.items ≡ asks.items ++ (ask ∷ []) = rw pushed at c.push.ensures.items in
    let one_more = ap (λ (list : List Ask). length list) items ∙ length-append asks.items (ask ∷ []) in
    record {
      same = c.spill_at.ensures.same;
      disk = c.spill_at.ensures.disk;
      pool = c.try_pool.ensures.goes;
      stays = record { lent = refl; leasts = refl; roomed = refl };
      deeper = record {
        grows = grind (arith, c.max-self.ensures);
        counts = λ counted. grind (arith, c.max-self.ensures, c.len.ensures, asks.ok, c.try_pool.ensures.kept, one_more, counted);
      };
    }

pub returns-in-Ok-settle-clause-goes : goal.returns-in-Ok-settle-clause-goes
returns-in-Ok-settle-clause-goes g c = record {
  same = c.spill_at.ensures.same;
  disk = c.spill_at.ensures.disk;
  pool = c.settle.ensures.goes;
  stays = record { lent = refl; leasts = refl; roomed = refl };
  deeper = record { grows = omega arith; counts = λ counted. omega (arith, c.settle.ensures.kept, counted) };
}

pub returns-in-Err-settle-clause-goes : goal.returns-in-Err-settle-clause-goes
returns-in-Err-settle-clause-goes g c = record {
  same = c.spill_at.ensures.same;
  disk = c.spill_at.ensures.disk;
  pool = c.settle.ensures.goes;
  stays = record { lent = refl; leasts = refl; roomed = refl };
  deeper = record { grows = omega arith; counts = λ counted. omega (arith, c.settle.ensures.kept, counted) };
}
