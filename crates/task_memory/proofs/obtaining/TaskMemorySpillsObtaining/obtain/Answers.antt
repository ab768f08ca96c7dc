use Rattle.std.proofs.Common.{◌≡◌, ◌<◌, [], ◌∷◌, length, map, List, ℕ, refl, sym, ap, subst, inl, ◌∙◌, arith}
use Rattle.std.proofs.lemmas.List.{length-map, get_or_default}
use Rattle.row_page.specs.Pages.{empty_page}
use Rattle.task_pool.specs.Accounts.{Held, less_by}
use Rattle.task_pool.specs.Asks.{FirstAsks}
use Rattle.task_memory.specs.declared.ask.Ask.{Ask}
use Rattle.task_memory.specs.declared.spills.Spills.{Spills}
use Rattle.task_memory.specs.Asks.{Tries, no_ask, ask_at}
use Rattle.task_memory.specs.RunLists.{lists_of}
use Rattle.task_memory.specs.Stacks.{Stack, stack_of}
use Rattle.task_memory.specs.Asking.{AddsFewRuns, Keeps, Obtains, SpillsWhenShort}
use Rattle.task_memory.specs.Scenes.{GoesOn}
use Rattle.task_memory.specs.Words.{scene_of}
use Rattle.task_memory.specs.declared.obtained.Obtained.TheVariants.{NoRoom}
use Rattle.task_memory.proofs.Opening.{IsNewAsk, IsBegun, IsAnswered, single, begun_is, answered_at_once, answered_later, served_keeps, short_is_out, short_keeps}
use Rattle.task_memory.proofs.Sameness.{all_same_self, leaves_self}
use Rattle.task_memory.proofs.Short.{few_at_once, few_served, short_first, tries_counted}
use Rattle.task_memory.proofs.Few.{IsOneFew, first_few, read_few, served_few}
use Rattle.task_memory.proofs.obtaining.TaskMemorySpillsObtaining.obtain.Goals.{then-index-must+in_ok-serve, else-index-must}
use Rattle.task_memory.proofs.obtaining.TaskMemorySpillsObtaining.obtain.Goals as goal

pub serve-requires-clause-stands : goal.serve-requires-clause-stands
serve-requires-clause-stands g c =
    let self = c.args.self.now in
    let ask : Ask = record { place = c.args.place; need = c.args.must; got = 0; freed = 0 } in
    let count : length self.consumers.now ≡ length (map g.C.Consumer.state self.consumers.now) = sym (length-map self.consumers.now g.C.Consumer.state) in
    let fresh : IsNewAsk ask = record { got = refl; freed = refl; need = omega (arith, c.requires.bytes.ordered, c.requires.bytes.most) } in
    let tried : Spills = record c.open.new.self { asks = c.try_pool.new.asks } in
    let ready : Stack = (scene_of g.C.Consumer.state g.P.Pool.state g.D.Disk.files g.D.Disk.faults self).stack in
    let begun : IsBegun (single ready ask) (stack_of (map g.C.Consumer.state self.consumers.now) (g.D.Disk.files self.disk.now) (g.P.Pool.state c.try_pool.new.pool).account tried) =
    begun_is _ _ _ _ self.spills c.open.new.self tried _ ask c.args.wish c.requires.rests.ready fresh count c.in-Ok.ensures.opens refl refl refl refl c.in-Ok-try_pool.ensures.tries c.requires.bytes.ordered c.requires.bytes.some in
    record {
      stack = begun.stack;
      page = c.open.ensures.page ∙ c.requires.rests.page;
      at_work = c.try_pool.ensures.goes.at_work;
    }

pub returns-then-got-must-clause-obtains : goal.returns-then-got-must-clause-obtains
returns-then-got-must-clause-obtains g c =
    let self = c.args.self.now in
    let ask : Ask = record { place = c.args.place; need = c.args.must; got = 0; freed = 0 } in
    let count : length self.consumers.now ≡ length (map g.C.Consumer.state self.consumers.now) = sym (length-map self.consumers.now g.C.Consumer.state) in
    let fresh : IsNewAsk ask = record { got = refl; freed = refl; need = omega (arith, c.requires.bytes.ordered, c.requires.bytes.most) } in
    let tried : Spills = record c.open.new.self { asks = c.try_pool.new.asks } in
    let ready : Stack = (scene_of g.C.Consumer.state g.P.Pool.state g.D.Disk.files g.D.Disk.faults self).stack in
    let begun : IsBegun (single ready ask) (stack_of (map g.C.Consumer.state self.consumers.now) (g.D.Disk.files self.disk.now) (g.P.Pool.state c.try_pool.new.pool).account tried) =
    begun_is _ _ _ _ self.spills c.open.new.self tried _ ask c.args.wish c.requires.rests.ready fresh count c.in-Ok.ensures.opens refl refl refl refl c.in-Ok-try_pool.ensures.tries c.requires.bytes.ordered c.requires.bytes.some in
    let page : c.open.new.self.page ≡ empty_page = c.open.ensures.page ∙ c.requires.rests.page in
    let served : Stack = (scene_of g.C.Consumer.state g.P.Pool.state g.D.Disk.files g.D.Disk.faults c.if-index-must.self).stack in
    let answered : IsAnswered ready served ask = elim c.if-index-must.branch [
      | then-index-must+in_ok-serve w ↦ rw w.self-is (answered_later ready _ _ ask begun w.in_ok-serve.ensures.serves.serves)
      | else-index-must w ↦
          let within : 0 < length c.try_pool.new.asks.items = omega (arith, begun.one) in
          let top : ask_at c.try_pool.new.asks.items 0 ≡ c.index.result.now = get_or_default c.try_pool.new.asks.items 0 no_ask c.index.result.now within ∙ sym c.index.ensures in
          let got : (ask_at c.try_pool.new.asks.items 0).got ≡ c.index.result.now.got = ap (λ (each : Ask). each.got) top in
          rw w.self-is (answered_at_once ready _ ask begun (omega (arith, w.if-index-must.false)))
    ] in
    let clean : (scene_of g.C.Consumer.state g.P.Pool.state g.D.Disk.files g.D.Disk.faults c.if-index-must.self).page ≡ empty_page = elim c.if-index-must.branch [
      | then-index-must+in_ok-serve w ↦ rw w.self-is w.in_ok-serve.ensures.serves.page
      | else-index-must w ↦ rw w.self-is page
    ] in
    let first = first_few _ _ ask c.open.new.self.asks.items c.try_pool.new.asks.items c.args.wish refl c.in-Ok.ensures.opens.asks c.in-Ok-try_pool.ensures.tries in
    let few : IsOneFew c.if-index-must.self.spills.asks.items c.args.wish = elim c.if-index-must.branch [
      | then-index-must+in_ok-serve w ↦
          let serves = w.in_ok-serve.ensures.serves.serves in
          rw w.self-is (served_few c.try_pool.new.asks.items _ c.args.must c.args.wish first.0 first.1 c.requires.bytes.ordered serves.served.single serves.few)
      | else-index-must w ↦ rw w.self-is first.0
    ] in
    let asks : List Ask = c.if-index-must.self.spills.asks.items in
    let within : 0 < length asks = omega (arith, answered.one) in
    let top : ask_at asks 0 ≡ c.index-2.result.now = get_or_default asks 0 no_ask c.index-2.result.now within ∙ sym c.index-2.ensures in
    let got : (ask_at asks 0).got ≡ c.index-2.result.now.got = ap (λ (each : Ask). each.got) top in
    let keeps : Keeps ready served c.index-2.result.now.got = subst (λ (extra : ℕ). Keeps ready served extra) got (served_keeps ready served ask fresh answered.moves answered.stack answered.one) in
    let opened_runs = ap (λ (each : _). lists_of each.items) c.in-Ok.ensures.opens.runs in
    let tries : Tries ready.account (g.P.Pool.state c.try_pool.new.pool).account (ask ∷ []) c.try_pool.new.asks.items c.args.wish =
    subst (λ (each : List Ask). Tries ready.account (g.P.Pool.state c.try_pool.new.pool).account each c.try_pool.new.asks.items c.args.wish) c.in-Ok.ensures.opens.asks c.in-Ok-try_pool.ensures.tries in
    let counted = tries_counted ready.account (g.P.Pool.state c.try_pool.new.pool).account (ask ∷ []) c.try_pool.new.asks.items c.args.wish (omega arith) (omega (arith, c.requires.bytes.ordered)) tries in
    let few_runs : AddsFewRuns ready served = elim c.if-index-must.branch [
      | then-index-must+in_ok-serve w ↦ rw w.self-is (few_served ready (stack_of (map g.C.Consumer.state self.consumers.now) (g.D.Disk.files self.disk.now) (g.P.Pool.state c.try_pool.new.pool).account tried) (scene_of g.C.Consumer.state g.P.Pool.state g.D.Disk.files g.D.Disk.faults w.serve.new.self).stack ask opened_runs counted w.in_ok-serve.ensures.few_runs w.in_ok-serve.ensures.serves.serves.served.single)
      | else-index-must w ↦ rw w.self-is (few_at_once ready (stack_of (map g.C.Consumer.state self.consumers.now) (g.D.Disk.files self.disk.now) (g.P.Pool.state c.try_pool.new.pool).account tried) opened_runs tries.grants.counts)
    ] in
    let first_asks : FirstAsks c.args.wish (g.P.Pool.state self.pool.now).worker (g.P.Pool.state c.if-index-must.self.pool.now).worker = elim c.if-index-must.branch [
      | then-index-must+in_ok-serve w ↦ rw w.self-is (c.pools_go_on.ensures.asks c.args.wish (g.P.Pool.state self.pool.now) (g.P.Pool.state c.try_pool.new.pool) (g.P.Pool.state w.serve.new.self.pool.now) c.in-Ok-try_pool.ensures.first w.serve.ensures.goes.pool)
      | else-index-must w ↦ rw w.self-is c.in-Ok-try_pool.ensures.first
    ] in
    let shorts : SpillsWhenShort ready served = elim c.if-index-must.branch [
      | then-index-must+in_ok-serve w ↦
          let within : 0 < length c.try_pool.new.asks.items = omega (arith, begun.one) in
          let top : ask_at c.try_pool.new.asks.items 0 ≡ c.index.result.now = get_or_default c.try_pool.new.asks.items 0 no_ask c.index.result.now within ∙ sym c.index.ensures in
          let got : (ask_at c.try_pool.new.asks.items 0).got ≡ c.index.result.now.got = ap (λ (each : Ask). each.got) top in
          rw w.self-is (short_first ready _ _ ask c.args.wish begun counted (omega (arith, w.if-index-must.true, got)) w.in_ok-serve.ensures.serves.serves.moves)
      | else-index-must w ↦ rw w.self-is (inl opened_runs)
    ] in
    record {
      obtains = (c.if-got-must.true, keeps);
      few = read_few asks c.index-2.result.now c.args.wish few c.index-2.ensures;
      first = first_asks;
      shorts = shorts;
      few_runs = few_runs;
      page = clean;
    }

pub returns-in-Ok-release-clause-obtains : goal.returns-in-Ok-release-clause-obtains
returns-in-Ok-release-clause-obtains g c =
    let self = c.args.self.now in
    let ask : Ask = record { place = c.args.place; need = c.args.must; got = 0; freed = 0 } in
    let count : length self.consumers.now ≡ length (map g.C.Consumer.state self.consumers.now) = sym (length-map self.consumers.now g.C.Consumer.state) in
    let fresh : IsNewAsk ask = record { got = refl; freed = refl; need = omega (arith, c.requires.bytes.ordered, c.requires.bytes.most) } in
    let tried : Spills = record c.open.new.self { asks = c.try_pool.new.asks } in
    let ready : Stack = (scene_of g.C.Consumer.state g.P.Pool.state g.D.Disk.files g.D.Disk.faults self).stack in
    let begun : IsBegun (single ready ask) (stack_of (map g.C.Consumer.state self.consumers.now) (g.D.Disk.files self.disk.now) (g.P.Pool.state c.try_pool.new.pool).account tried) =
    begun_is _ _ _ _ self.spills c.open.new.self tried _ ask c.args.wish c.requires.rests.ready fresh count c.in-Ok.ensures.opens refl refl refl refl c.in-Ok-try_pool.ensures.tries c.requires.bytes.ordered c.requires.bytes.some in
    let page : c.open.new.self.page ≡ empty_page = c.open.ensures.page ∙ c.requires.rests.page in
    let served : Stack = (scene_of g.C.Consumer.state g.P.Pool.state g.D.Disk.files g.D.Disk.faults c.if-index-must.self).stack in
    let answered : IsAnswered ready served ask = elim c.if-index-must.branch [
      | then-index-must+in_ok-serve w ↦ rw w.self-is (answered_later ready _ _ ask begun w.in_ok-serve.ensures.serves.serves)
      | else-index-must w ↦
          let within : 0 < length c.try_pool.new.asks.items = omega (arith, begun.one) in
          let top : ask_at c.try_pool.new.asks.items 0 ≡ c.index.result.now = get_or_default c.try_pool.new.asks.items 0 no_ask c.index.result.now within ∙ sym c.index.ensures in
          let got : (ask_at c.try_pool.new.asks.items 0).got ≡ c.index.result.now.got = ap (λ (each : Ask). each.got) top in
          rw w.self-is (answered_at_once ready _ ask begun (omega (arith, w.if-index-must.false)))
    ] in
    let clean : (scene_of g.C.Consumer.state g.P.Pool.state g.D.Disk.files g.D.Disk.faults c.if-index-must.self).page ≡ empty_page = elim c.if-index-must.branch [
      | then-index-must+in_ok-serve w ↦ rw w.self-is w.in_ok-serve.ensures.serves.page
      | else-index-must w ↦ rw w.self-is page
    ] in
    let first = first_few _ _ ask c.open.new.self.asks.items c.try_pool.new.asks.items c.args.wish refl c.in-Ok.ensures.opens.asks c.in-Ok-try_pool.ensures.tries in
    let few : IsOneFew c.if-index-must.self.spills.asks.items c.args.wish = elim c.if-index-must.branch [
      | then-index-must+in_ok-serve w ↦
          let serves = w.in_ok-serve.ensures.serves.serves in
          rw w.self-is (served_few c.try_pool.new.asks.items _ c.args.must c.args.wish first.0 first.1 c.requires.bytes.ordered serves.served.single serves.few)
      | else-index-must w ↦ rw w.self-is first.0
    ] in
    let asks : List Ask = c.if-index-must.self.spills.asks.items in
    let within : 0 < length asks = omega (arith, answered.one) in
    let top : ask_at asks 0 ≡ c.index-2.result.now = get_or_default asks 0 no_ask c.index-2.result.now within ∙ sym c.index-2.ensures in
    let got : (ask_at asks 0).got ≡ c.index-2.result.now.got = ap (λ (each : Ask). each.got) top in
    let keeps : Keeps ready served c.index-2.result.now.got = subst (λ (extra : ℕ). Keeps ready served extra) got (served_keeps ready served ask fresh answered.moves answered.stack answered.one) in
    let opened_runs = ap (λ (each : _). lists_of each.items) c.in-Ok.ensures.opens.runs in
    let tries : Tries ready.account (g.P.Pool.state c.try_pool.new.pool).account (ask ∷ []) c.try_pool.new.asks.items c.args.wish =
    subst (λ (each : List Ask). Tries ready.account (g.P.Pool.state c.try_pool.new.pool).account each c.try_pool.new.asks.items c.args.wish) c.in-Ok.ensures.opens.asks c.in-Ok-try_pool.ensures.tries in
    let counted = tries_counted ready.account (g.P.Pool.state c.try_pool.new.pool).account (ask ∷ []) c.try_pool.new.asks.items c.args.wish (omega arith) (omega (arith, c.requires.bytes.ordered)) tries in
    let few_runs : AddsFewRuns ready served = elim c.if-index-must.branch [
      | then-index-must+in_ok-serve w ↦ rw w.self-is (few_served ready (stack_of (map g.C.Consumer.state self.consumers.now) (g.D.Disk.files self.disk.now) (g.P.Pool.state c.try_pool.new.pool).account tried) (scene_of g.C.Consumer.state g.P.Pool.state g.D.Disk.files g.D.Disk.faults w.serve.new.self).stack ask opened_runs counted w.in_ok-serve.ensures.few_runs w.in_ok-serve.ensures.serves.serves.served.single)
      | else-index-must w ↦ rw w.self-is (few_at_once ready (stack_of (map g.C.Consumer.state self.consumers.now) (g.D.Disk.files self.disk.now) (g.P.Pool.state c.try_pool.new.pool).account tried) opened_runs tries.grants.counts)
    ] in
    let first_asks : FirstAsks c.args.wish (g.P.Pool.state self.pool.now).worker (g.P.Pool.state c.if-index-must.self.pool.now).worker = elim c.if-index-must.branch [
      | then-index-must+in_ok-serve w ↦ rw w.self-is (c.pools_go_on.ensures.asks c.args.wish (g.P.Pool.state self.pool.now) (g.P.Pool.state c.try_pool.new.pool) (g.P.Pool.state w.serve.new.self.pool.now) c.in-Ok-try_pool.ensures.first w.serve.ensures.goes.pool)
      | else-index-must w ↦ rw w.self-is c.in-Ok-try_pool.ensures.first
    ] in
    let shorts : SpillsWhenShort ready served = elim c.if-index-must.branch [
      | then-index-must+in_ok-serve w ↦
          let within : 0 < length c.try_pool.new.asks.items = omega (arith, begun.one) in
          let top : ask_at c.try_pool.new.asks.items 0 ≡ c.index.result.now = get_or_default c.try_pool.new.asks.items 0 no_ask c.index.result.now within ∙ sym c.index.ensures in
          let got : (ask_at c.try_pool.new.asks.items 0).got ≡ c.index.result.now.got = ap (λ (each : Ask). each.got) top in
          rw w.self-is (short_first ready _ _ ask c.args.wish begun counted (omega (arith, w.if-index-must.true, got)) w.in_ok-serve.ensures.serves.serves.moves)
      | else-index-must w ↦ rw w.self-is (inl opened_runs)
    ] in
    let short : c.index-2.result.now.got < c.args.must = omega (arith, c.if-got-must.false) in
    let out = short_is_out ready served ask c.index-2.result.now.got answered got short in
    let kept = short_keeps ready served c.index-2.result.now.got c.requires.rests.ready keeps in
    let released : (g.P.Pool.state c.release.new.self).account ≡ less_by served.account c.index-2.result.now.got = c.in-Ok-release.ensures.freed in
    record {
      obtains = subst (λ (account : Held). Obtains ready (record served { account = account }) c.args.must NoRoom) (sym released) (out, kept);
      few = tt;
      first = c.pools_go_on.ensures.asks c.args.wish (g.P.Pool.state self.pool.now) (g.P.Pool.state c.if-index-must.self.pool.now) (g.P.Pool.state c.release.new.self) first_asks c.release.ensures.goes;
      shorts = subst (λ (account : Held). SpillsWhenShort ready (record served { account = account })) (sym released) shorts;
      few_runs = subst (λ (account : Held). AddsFewRuns ready (record served { account = account })) (sym released) few_runs;
      page = clean;
    }

pub returns-then-got-must-clause-goes : goal.returns-then-got-must-clause-goes
returns-then-got-must-clause-goes g c =
    let first : GoesOn (scene_of g.C.Consumer.state g.P.Pool.state g.D.Disk.files g.D.Disk.faults c.args.self.now) (scene_of g.C.Consumer.state g.P.Pool.state g.D.Disk.files g.D.Disk.faults (record c.args.self.now { pool = record c.args.self.now.pool { now = c.try_pool.new.pool }; spills = record c.open.new.self { asks = c.try_pool.new.asks } })) = record {
      same = all_same_self _;
      disk = leaves_self _ _;
      pool = c.try_pool.ensures.goes;
      stays = record { lent = refl; leasts = refl; roomed = refl };
      deeper = let opened = c.open.ensures.deepest in let one = c.open.ensures.few in let kept = c.try_pool.ensures.kept in record { grows = omega arith; counts = λ _. omega arith };
    } in
    let so_far : GoesOn (scene_of g.C.Consumer.state g.P.Pool.state g.D.Disk.files g.D.Disk.faults c.args.self.now) (scene_of g.C.Consumer.state g.P.Pool.state g.D.Disk.files g.D.Disk.faults c.if-index-must.self) = elim c.if-index-must.branch [
      | then-index-must+in_ok-serve w ↦ rw w.self-is (c.scenes_go_on.ensures.more _ _ _ first w.serve.ensures.goes)
      | else-index-must w ↦ rw w.self-is first
    ] in
    so_far

pub returns-in-Ok-release-clause-goes : goal.returns-in-Ok-release-clause-goes
returns-in-Ok-release-clause-goes g c =
    let first : GoesOn (scene_of g.C.Consumer.state g.P.Pool.state g.D.Disk.files g.D.Disk.faults c.args.self.now) (scene_of g.C.Consumer.state g.P.Pool.state g.D.Disk.files g.D.Disk.faults (record c.args.self.now { pool = record c.args.self.now.pool { now = c.try_pool.new.pool }; spills = record c.open.new.self { asks = c.try_pool.new.asks } })) = record {
      same = all_same_self _;
      disk = leaves_self _ _;
      pool = c.try_pool.ensures.goes;
      stays = record { lent = refl; leasts = refl; roomed = refl };
      deeper = let opened = c.open.ensures.deepest in let one = c.open.ensures.few in let kept = c.try_pool.ensures.kept in record { grows = omega arith; counts = λ _. omega arith };
    } in
    let so_far : GoesOn (scene_of g.C.Consumer.state g.P.Pool.state g.D.Disk.files g.D.Disk.faults c.args.self.now) (scene_of g.C.Consumer.state g.P.Pool.state g.D.Disk.files g.D.Disk.faults c.if-index-must.self) = elim c.if-index-must.branch [
      | then-index-must+in_ok-serve w ↦ rw w.self-is (c.scenes_go_on.ensures.more _ _ _ first w.serve.ensures.goes)
      | else-index-must w ↦ rw w.self-is first
    ] in
    c.scenes_go_on.ensures.more _ _ _ so_far (record {
      same = all_same_self _;
      disk = leaves_self _ _;
      pool = c.release.ensures.goes;
      stays = record { lent = refl; leasts = refl; roomed = refl };
      deeper = record { grows = omega arith; counts = λ counted. counted };
    })

pub returns-in-Err-clause-goes : goal.returns-in-Err-clause-goes
returns-in-Err-clause-goes g c =
    let first : GoesOn (scene_of g.C.Consumer.state g.P.Pool.state g.D.Disk.files g.D.Disk.faults c.args.self.now) (scene_of g.C.Consumer.state g.P.Pool.state g.D.Disk.files g.D.Disk.faults (record c.args.self.now { pool = record c.args.self.now.pool { now = c.try_pool.new.pool }; spills = record c.open.new.self { asks = c.try_pool.new.asks } })) = record {
      same = all_same_self _;
      disk = leaves_self _ _;
      pool = c.try_pool.ensures.goes;
      stays = record { lent = refl; leasts = refl; roomed = refl };
      deeper = let opened = c.open.ensures.deepest in let one = c.open.ensures.few in let kept = c.try_pool.ensures.kept in record { grows = omega arith; counts = λ _. omega arith };
    } in
    let so_far : GoesOn (scene_of g.C.Consumer.state g.P.Pool.state g.D.Disk.files g.D.Disk.faults c.args.self.now) (scene_of g.C.Consumer.state g.P.Pool.state g.D.Disk.files g.D.Disk.faults c.if-index-must.self) = elim c.if-index-must.branch [
      | then-index-must+in_ok-serve w ↦ rw w.self-is (c.scenes_go_on.ensures.more _ _ _ first w.serve.ensures.goes)
      | else-index-must w ↦ rw w.self-is first
    ] in
    c.scenes_go_on.ensures.more _ _ _ so_far (record {
      same = all_same_self _;
      disk = leaves_self _ _;
      pool = c.release.ensures.goes;
      stays = record { lent = refl; leasts = refl; roomed = refl };
      deeper = record { grows = omega arith; counts = λ counted. counted };
    })
