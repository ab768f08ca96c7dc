use Rattle.std.proofs.Common.{◌≡◌, ◌≢◌, ◌+◌, ◌-◌, ◌<◌, [], length, length-take, take, map, set, sym, ap, ◌∙◌, arith, Bool, List, refl, subst}
use Rattle.std.proofs.lemmas.List.{get_or_default, length-map}
use Rattle.task_memory.specs.declared.ask.Ask.{Ask}
use Rattle.task_memory.specs.Asks.{no_ask, ask_at, top_of}
use Rattle.task_memory.specs.RunLists.{lists_of}
use Rattle.task_memory.specs.Stacks.{Stack, is_rest}
use Rattle.task_memory.specs.Words.{scene_of}
use Rattle.consumer_trait.specs.Members.{blank, state_at}
use Rattle.consumer_trait.specs.States.{State}
use Rattle.task_memory.specs.Pauses.{AllSame}
use Rattle.task_memory.proofs.FewRuns.{few_pop}
use Rattle.task_memory.proofs.Places.{same_field}
use Rattle.task_memory.proofs.Sameness.{all_same_set, all_same_trans}
use Rattle.task_memory.proofs.Stepping.{next_pop}
use Rattle.task_memory.proofs.steps.TaskMemorySpillsServing.resume.Goals as goal

pub returns-in-Ok-clause-steps : goal.returns-in-Ok-clause-steps
returns-in-Ok-clause-steps g c =
    let old : Stack = (scene_of g.C.Consumer.state g.P.Pool.state g.D.Disk.files g.D.Disk.faults c.args.self.now).stack in
    let spills = rw c.in-Ended.is at c.in_ok-spill_at.ensures.spill in
    let asks = c.args.self.now.spills.asks in
    let count : c.len.result ≡ length asks.items = omega (arith, c.len.ensures, asks.ok) in
    let count_then : c.len-in-Ended.result ≡ length asks.items = omega (arith, c.len-in-Ended.ensures, asks.ok) in
    let below : c.len.result - 1 < length asks.items = omega (arith, c.requires.nested) in
    let top : top_of asks.items ≡ c.index-top.result.now = ap (λ k. ask_at asks.items (k - 1)) (sym count) ∙ get_or_default asks.items (c.len.result - 1) no_ask c.index-top.result.now below ∙ sym c.index-top.ensures in
    let front : c.truncate.new.self.items ≡ take (length asks.items - 1) asks.items = c.truncate.ensures.items ∙ ap (λ k. take (k - 1) asks.items) count_then in
    record {
      steps = next_pop old (map g.C.Consumer.state c.grant_at.new.members) (map g.C.Consumer.state c.spill_at.new.consumers) (g.D.Disk.files c.spill_at.new.disk) (lists_of c.spill_at.new.runs.items)
          (g.P.Pool.state c.settle.new.pool).account c.truncate.new.self.items c.settle.new.asks.items c.index-top.result.now c.in-Ended.freed c.in-Ended.run' c.requires.stands.stack c.requires.nested top front c.grant_at.ensures spills c.in-Ok.ensures.settles;
      page = c.in_ok-spill_at.ensures.page;
    }

pub returns-in-Ok-clause-goes : goal.returns-in-Ok-clause-goes
returns-in-Ok-clause-goes g c =
    let states : List State = map g.C.Consumer.state c.args.self.now.consumers.now in
    let asks = c.args.self.now.spills.asks in
    let count : c.len.result ≡ length asks.items = omega (arith, c.len.ensures, asks.ok) in
    let below : c.len.result - 1 < length asks.items = omega (arith, c.requires.nested) in
    let top : top_of asks.items ≡ c.index-top.result.now = ap (λ k. ask_at asks.items (k - 1)) (sym count) ∙ get_or_default asks.items (c.len.result - 1) no_ask c.index-top.result.now below ∙ sym c.index-top.ensures in
    let within : c.index-top.result.now.place < length states = rw top at (c.requires.stands.stack.within (length asks.items - 1) (omega (arith, c.requires.nested)) (omega (arith, c.requires.nested))) in
    let count_then : c.len-in-Ended.result ≡ length asks.items = omega (arith, c.len-in-Ended.ensures, asks.ok) in
    let front : c.truncate.new.self.items ≡ take (length asks.items - 1) asks.items = c.truncate.ensures.items ∙ ap (λ k. take (k - 1) asks.items) count_then in
    let told : AllSame states (map g.C.Consumer.state c.grant_at.new.members) = subst (λ (after : List State). AllSame states after) (sym c.grant_at.ensures) (all_same_set states c.index-top.result.now.place _ within (record { kind = refl; fed = refl; least = refl; serves = refl })) in
    record {
      same = all_same_trans _ _ _ told c.spill_at.ensures.same;
      disk = c.spill_at.ensures.disk;
      pool = c.settle.ensures.goes;
      stays = record { lent = refl; leasts = refl; roomed = refl };
      deeper = record {
        grows = omega arith;
        counts = λ counted. let fewer = length-take (length asks.items - 1) asks.items in let as_many = ap (λ (list : List Ask). length list) front in let kept = c.settle.ensures.kept in omega arith;
      };
    }

pub returns-in-Ok-clause-few_runs : goal.returns-in-Ok-clause-few_runs
returns-in-Ok-clause-few_runs g c =
    let old : Stack = (scene_of g.C.Consumer.state g.P.Pool.state g.D.Disk.files g.D.Disk.faults c.args.self.now).stack in
    let spills = rw c.in-Ended.is at c.in_ok-spill_at.ensures.spill in
    let asks = c.args.self.now.spills.asks in
    let count : c.len-in-Ended.result ≡ length asks.items = omega (arith, c.len-in-Ended.ensures, asks.ok) in
    let front : c.truncate.new.self.items ≡ take (length asks.items - 1) asks.items = c.truncate.ensures.items ∙ ap (λ k. take (k - 1) asks.items) count in
    few_pop old.runs (lists_of c.spill_at.new.runs.items) old.account (g.P.Pool.state c.settle.new.pool).account asks.items c.truncate.new.self.items c.settle.new.asks.items c.in-Ended.freed spills.one c.requires.nested front c.in-Ok.ensures.settles

pub spill_at-requires-clause-some : goal.spill_at-requires-clause-some
spill_at-requires-clause-some g c =
    let states : List State = map g.C.Consumer.state c.args.self.now.consumers.now in
    let asks = c.args.self.now.spills.asks in
    let count : c.len.result ≡ length asks.items = omega (arith, c.len.ensures, asks.ok) in
    let below : c.len.result - 1 < length asks.items = omega (arith, c.requires.nested) in
    let top : top_of asks.items ≡ c.index-top.result.now = ap (λ k. ask_at asks.items (k - 1)) (sym count) ∙ get_or_default asks.items (c.len.result - 1) no_ask c.index-top.result.now below ∙ sym c.index-top.ensures in
    let place = c.index-top.result.now.place in
    let stands = c.requires.stands.stack.stands (length asks.items - 1) (omega (arith, c.requires.nested)) (omega (arith, c.requires.nested)) in
    let some : (state_at states place).entries ≢ [] = rw top at stands.entries in
    let told : State = record (state_at states place) { used = (state_at states place).used + c.index-top.result.now.got } in
    let same : (state_at (set states place told) place).entries ≡ (state_at states place).entries = same_field (λ (state : State). state.entries) states place told blank place refl in
    subst (λ (after : List State). (state_at after place).entries ≢ []) (sym c.grant_at.ensures) (λ none. some (sym same ∙ none))

pub index_mut-requires : goal.index_mut-requires
index_mut-requires g c =
    let states : List State = map g.C.Consumer.state c.args.self.now.consumers.now in
    let asks = c.args.self.now.spills.asks in
    let resting = c.args.self.now.spills.resting in
    let count : c.len.result ≡ length asks.items = omega (arith, c.len.ensures, asks.ok) in
    let below : c.len.result - 1 < length asks.items = omega (arith, c.requires.nested) in
    let top : top_of asks.items ≡ c.index-top.result.now = ap (λ k. ask_at asks.items (k - 1)) (sym count) ∙ get_or_default asks.items (c.len.result - 1) no_ask c.index-top.result.now below ∙ sym c.index-top.ensures in
    let within : c.index-top.result.now.place < length states = rw top at (c.requires.stands.stack.within (length asks.items - 1) (omega (arith, c.requires.nested)) (omega (arith, c.requires.nested))) in
    let flags : length resting.items ≡ length states = ap (λ (each : List Bool). length each) c.requires.stands.stack.rests ∙ length-map states (λ (each : State). is_rest each.stage) in
    omega (arith, within, flags, resting.ok)

pub returns-in_err-spill_at-clause-goes : goal.returns-in_err-spill_at-clause-goes
returns-in_err-spill_at-clause-goes g c =
    let states : List State = map g.C.Consumer.state c.args.self.now.consumers.now in
    let asks = c.args.self.now.spills.asks in
    let count : c.len.result ≡ length asks.items = omega (arith, c.len.ensures, asks.ok) in
    let below : c.len.result - 1 < length asks.items = omega (arith, c.requires.nested) in
    let top : top_of asks.items ≡ c.index-top.result.now = ap (λ k. ask_at asks.items (k - 1)) (sym count) ∙ get_or_default asks.items (c.len.result - 1) no_ask c.index-top.result.now below ∙ sym c.index-top.ensures in
    let within : c.index-top.result.now.place < length states = rw top at (c.requires.stands.stack.within (length asks.items - 1) (omega (arith, c.requires.nested)) (omega (arith, c.requires.nested))) in
    let told : AllSame states (map g.C.Consumer.state c.grant_at.new.members) = subst (λ (after : List State). AllSame states after) (sym c.grant_at.ensures) (all_same_set states c.index-top.result.now.place _ within (record { kind = refl; fed = refl; least = refl; serves = refl })) in
    record {
      same = all_same_trans _ _ _ told c.spill_at.ensures.same;
      disk = c.spill_at.ensures.disk;
      pool = c.pools_go_on.ensures.none _ c.requires.stands.at_work;
      stays = record { lent = refl; leasts = refl; roomed = refl };
      deeper = record { grows = omega arith; counts = λ counted. counted };
    }

pub returns-in-Err-clause-goes : goal.returns-in-Err-clause-goes
returns-in-Err-clause-goes g c =
    let states : List State = map g.C.Consumer.state c.args.self.now.consumers.now in
    let asks = c.args.self.now.spills.asks in
    let count : c.len.result ≡ length asks.items = omega (arith, c.len.ensures, asks.ok) in
    let below : c.len.result - 1 < length asks.items = omega (arith, c.requires.nested) in
    let top : top_of asks.items ≡ c.index-top.result.now = ap (λ k. ask_at asks.items (k - 1)) (sym count) ∙ get_or_default asks.items (c.len.result - 1) no_ask c.index-top.result.now below ∙ sym c.index-top.ensures in
    let within : c.index-top.result.now.place < length states = rw top at (c.requires.stands.stack.within (length asks.items - 1) (omega (arith, c.requires.nested)) (omega (arith, c.requires.nested))) in
    let count_then : c.len-in-Ended.result ≡ length asks.items = omega (arith, c.len-in-Ended.ensures, asks.ok) in
    let front : c.truncate.new.self.items ≡ take (length asks.items - 1) asks.items = c.truncate.ensures.items ∙ ap (λ k. take (k - 1) asks.items) count_then in
    let told : AllSame states (map g.C.Consumer.state c.grant_at.new.members) = subst (λ (after : List State). AllSame states after) (sym c.grant_at.ensures) (all_same_set states c.index-top.result.now.place _ within (record { kind = refl; fed = refl; least = refl; serves = refl })) in
    record {
      same = all_same_trans _ _ _ told c.spill_at.ensures.same;
      disk = c.spill_at.ensures.disk;
      pool = c.settle.ensures.goes;
      stays = record { lent = refl; leasts = refl; roomed = refl };
      deeper = record {
        grows = omega arith;
        counts = λ counted. let fewer = length-take (length asks.items - 1) asks.items in let as_many = ap (λ (list : List Ask). length list) front in let kept = c.settle.ensures.kept in omega arith;
      };
    }
