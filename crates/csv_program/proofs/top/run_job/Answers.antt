use Rattle.std.proofs.Common.{◌≡◌, ◌∙◌, ℕ, List, Option, length, map, refl, sym, ap, subst}
use Rattle.std.specs.Prelude.{IfSome, option_map}
use Rattle.std.specs.Io.KnownBytes.{Appends}
use Rattle.byte_io.specs.Rows.{rows_of}
use Rattle.byte_io.specs.Sinks.{AppendsPrefix}
use Rattle.consumer_trait.specs.States.{State}
use Rattle.landing.specs.Checks.{Checked, Refused, checked}
use Rattle.landing.specs.Landed.{PassChecks}
use Rattle.run_file.specs.declared.run.Run.{Run}
use Rattle.task_runner.specs.Consumers.{HasConsumers, KeepsConsumers}
use Rattle.task_runner.specs.Pass.{states_at}
use Rattle.csv_program.specs.Charges.{ChargesRun}
use Rattle.job_ending.specs.Endings.{Ending, MayEndAs, ending_of, ending_of_totals, printed_in, totals_of}
use Rattle.csv_program.specs.Feeds.{FeedsJob, FeedsRun}
use Rattle.csv_program.specs.Posts.{post_files}
use Rattle.job_ending.specs.Tasks.{BeginsAll, FollowsPlan, owner_of}
use Rattle.csv_program.proofs.Based.{none_said, says_parts, stand_as}
use Rattle.csv_program.proofs.AllTotals.{ending_is}
use Rattle.csv_program.proofs.EndedRuns.{prefix_of_nothing}
use Rattle.csv_program.proofs.FedRows.{feeds_job}
use Rattle.csv_program.proofs.ChargedPasses.{charges_job}
use Rattle.csv_program.proofs.Judged.{ends_undamaged, if_each, known_is, landed_as, partitions_are, refusal_called, refusal_ends, refusal_is, refusal_may, some_always, tasks_judged, tasks_refuse_nothing}
use Rattle.csv_program.proofs.PlannedPasses.{passes_are, passes_planned}
use Rattle.csv_program.proofs.PostDisks.{consumers_as, keeps_same, states_same}
use Rattle.csv_program.proofs.StillThere.{keeps_then}
use Rattle.csv_program.proofs.top.run_job.Goals as goal

pub run_queries-requires-clause-consumers : goal.run_queries-requires-clause-consumers
run_queries-requires-clause-consumers g c κs within =
    consumers_as (λ consumers. HasConsumers (map g.C.Consumer.state consumers.items)) c.args.posts.now.items c.land_on.new.posts.items c.land_on.ensures.consumers c.requires.consumers

pub run_queries-requires-clause-first : goal.run_queries-requires-clause-first
run_queries-requires-clause-first g c κs within = c.in-Ok.ensures.lands.planned.first

pub run_queries-requires-clause-passes : goal.run_queries-requires-clause-passes
run_queries-requires-clause-passes g c κs within = passes_planned c.args.asked.now.job c.in-Ok.ensures.lands.header c.in-Ok.landed.plan c.in-Ok.ensures.lands.planned

pub run_queries-requires-clause-said : goal.run_queries-requires-clause-said
run_queries-requires-clause-said g c κs within =
    let l = c.in-Ok.ensures.lands in
    let asked = c.args.asked.now in
    let files = post_files g.D.Disk.files c.land_on.new.posts in
    let there = landed_as files asked.part_rows _ asked.pool.workers _ c.deref.result.now l.rows refl (sym c.deref.ensures.value) l.are_landed in
    says_parts files c.in-Ok.landed.plan c.deref.result.now asked.part_rows asked.pool.workers l.rows there l.are_checked (g.D.Disk.files c.args.store)

pub run_queries-requires-clause-rows : goal.run_queries-requires-clause-rows
run_queries-requires-clause-rows g c κs within =
    none_said (g.D.Disk.files c.args.store) (post_files g.D.Disk.files c.land_on.new.posts) c.in-Ok.landed.plan c.deref.result.now c.args.asked.now.pool.workers

-- ---- an input that isn't landed

pub returns-in-Err-clause-ending : goal.returns-in-Err-clause-ending
returns-in-Err-clause-ending g c = if_each (g.S.Source.left c.args.input.now) _ (λ bytes is tell.
    refusal_may c.in-Err.fault (ending_of c.args.asked.now bytes) c.unpooled.result.status (c.unpooled.ensures.status ∙ c.land_status.ensures) (refusal_ends c.in-Err.fault c.args.asked.now bytes c.unpooled.result.status (c.unpooled.ensures.status ∙ c.land_status.ensures)
    (λ of_input. known_is (g.S.Source.left c.args.input.now) bytes (λ bytes. checked c.args.asked.now.job c.args.asked.now.max_rows (rows_of bytes) ≡ Refused c.in-Err.fault) is (c.land_on.ensures.refused c.in-Err.fault of_input c.in-Err.is))))

pub returns-in-Err-clause-refused : goal.returns-in-Err-clause-refused
returns-in-Err-clause-refused g c = if_each (g.S.Source.left c.args.input.now) _ (λ bytes is why calls. (
  refusal_is why c.in-Err.fault (ending_of c.args.asked.now bytes) c.unpooled.result.status calls (c.unpooled.ensures.status ∙ c.land_status.ensures) (refusal_ends c.in-Err.fault c.args.asked.now bytes c.unpooled.result.status (c.unpooled.ensures.status ∙ c.land_status.ensures)
      (λ of_input. known_is (g.S.Source.left c.args.input.now) bytes (λ bytes. checked c.args.asked.now.job c.args.asked.now.max_rows (rows_of bytes) ≡ Refused c.in-Err.fault) is (c.land_on.ensures.refused c.in-Err.fault of_input c.in-Err.is))),
  c.unpooled.ensures.setup,
))

pub returns-in-Err-clause-called : goal.returns-in-Err-clause-called
returns-in-Err-clause-called g c = if_each (g.S.Source.left c.args.input.now) _ (λ bytes is why of_input tells.
    refusal_called why c.in-Err.fault (ending_of c.args.asked.now bytes) c.unpooled.result.status of_input tells (c.unpooled.ensures.status ∙ c.land_status.ensures) (refusal_ends c.in-Err.fault c.args.asked.now bytes c.unpooled.result.status (c.unpooled.ensures.status ∙ c.land_status.ensures)
    (λ of_input. known_is (g.S.Source.left c.args.input.now) bytes (λ bytes. checked c.args.asked.now.job c.args.asked.now.max_rows (rows_of bytes) ≡ Refused c.in-Err.fault) is (c.land_on.ensures.refused c.in-Err.fault of_input c.in-Err.is))))

pub returns-in-Err-clause-prefix : goal.returns-in-Err-clause-prefix
returns-in-Err-clause-prefix g c cut = if_each (g.S.Source.left c.args.input.now) _ (λ bytes is tell.
    prefix_of_nothing g.W.Sink.written c.args.output.now c.args.output.now (printed_in (ending_of c.args.asked.now bytes)) refl)

pub returns-in-Err-clause-others : goal.returns-in-Err-clause-others
returns-in-Err-clause-others g c place beyond = states_same g.C.Consumer.state c.args.posts.now.items c.land_on.new.posts.items c.land_on.ensures.consumers place

pub returns-in-Err-clause-consumers : goal.returns-in-Err-clause-consumers
returns-in-Err-clause-consumers g c place =
    keeps_same _ _ (states_same g.C.Consumer.state c.args.posts.now.items c.land_on.new.posts.items c.land_on.ensures.consumers place)

-- ---- an input that is landed

pub returns-in-Ok-clause-ending : goal.returns-in-Ok-clause-ending
returns-in-Ok-clause-ending g c = if_each (g.S.Source.left c.args.input.now) _ (λ bytes is tell.
    let l = c.in-Ok.ensures.lands in
    let files = post_files g.D.Disk.files c.land_on.new.posts in
    let plan = c.in-Ok.landed.plan in
    let known = subst (λ (o : Option (List ℕ)). IfSome (option_map rows_of o) (PassChecks c.args.asked.now.job c.args.asked.now.max_rows plan l.rows)) is l.are_known in
    let there = landed_as files c.args.asked.now.part_rows _ c.args.asked.now.pool.workers _ c.deref.result.now l.rows refl (sym c.deref.ensures.value) l.are_landed in
    subst (λ (ending : Ending). MayEndAs ending c.run_queries.result.status)
    (ending_is c.args.asked.now.job c.args.asked.now.max_rows plan l.rows (rows_of bytes) c.requires.run.few c.totals_tell_queries.ensures c.plans_derive_rows.ensures c.requires.run.job known l.are_checked l.few)
    (c.run_queries.ensures.ending l.rows (stand_as (g.D.Disk.files c.args.store) (post_files g.D.Disk.files c.args.posts.now) files c.args.asked.now l.header plan c.deref.result.now l.rows c.requires.run.some l.planned there l.are_checked c.land_on.ensures.tells tell)))

pub returns-in-Ok-clause-done : goal.returns-in-Ok-clause-done
returns-in-Ok-clause-done g c done = if_each (g.S.Source.left c.args.input.now) _ (λ bytes is tell.
    let l = c.in-Ok.ensures.lands in
    let files = post_files g.D.Disk.files c.land_on.new.posts in
    let plan = c.in-Ok.landed.plan in
    let known = subst (λ (o : Option (List ℕ)). IfSome (option_map rows_of o) (PassChecks c.args.asked.now.job c.args.asked.now.max_rows plan l.rows)) is l.are_known in
    let there = landed_as files c.args.asked.now.part_rows _ c.args.asked.now.pool.workers _ c.deref.result.now l.rows refl (sym c.deref.ensures.value) l.are_landed in
    subst (λ (ending : Ending). Appends (g.W.Sink.written c.args.output.now) (g.W.Sink.written c.run_queries.new.output) (printed_in ending))
    (ending_is c.args.asked.now.job c.args.asked.now.max_rows plan l.rows (rows_of bytes) c.requires.run.few c.totals_tell_queries.ensures c.plans_derive_rows.ensures c.requires.run.job known l.are_checked l.few)
    (c.run_queries.ensures.done l.rows (stand_as (g.D.Disk.files c.args.store) (post_files g.D.Disk.files c.args.posts.now) files c.args.asked.now l.header plan c.deref.result.now l.rows c.requires.run.some l.planned there l.are_checked c.land_on.ensures.tells tell) done))

pub returns-in-Ok-clause-prefix : goal.returns-in-Ok-clause-prefix
returns-in-Ok-clause-prefix g c cut = if_each (g.S.Source.left c.args.input.now) _ (λ bytes is tell.
    let l = c.in-Ok.ensures.lands in
    let files = post_files g.D.Disk.files c.land_on.new.posts in
    let plan = c.in-Ok.landed.plan in
    let known = subst (λ (o : Option (List ℕ)). IfSome (option_map rows_of o) (PassChecks c.args.asked.now.job c.args.asked.now.max_rows plan l.rows)) is l.are_known in
    let there = landed_as files c.args.asked.now.part_rows _ c.args.asked.now.pool.workers _ c.deref.result.now l.rows refl (sym c.deref.ensures.value) l.are_landed in
    subst (λ (ending : Ending). AppendsPrefix (g.W.Sink.written c.args.output.now) (g.W.Sink.written c.run_queries.new.output) (printed_in ending))
    (ending_is c.args.asked.now.job c.args.asked.now.max_rows plan l.rows (rows_of bytes) c.requires.run.few c.totals_tell_queries.ensures c.plans_derive_rows.ensures c.requires.run.job known l.are_checked l.few)
    (c.run_queries.ensures.prefix l.rows (stand_as (g.D.Disk.files c.args.store) (post_files g.D.Disk.files c.args.posts.now) files c.args.asked.now l.header plan c.deref.result.now l.rows c.requires.run.some l.planned there l.are_checked c.land_on.ensures.tells tell) cut))

pub returns-in-Ok-clause-tasks : goal.returns-in-Ok-clause-tasks
returns-in-Ok-clause-tasks g c =
    let l = c.in-Ok.ensures.lands in
    some_always c.run_queries.result.setup (
      length c.deref.result.now,
      record {
        follows = subst (λ (n : ℕ). FollowsPlan (owner_of 0 0 c.args.asked.now.pool.workers (length c.deref.result.now) n) c.run_queries.result.journal) (passes_are c.args.asked.now.job l.header c.in-Ok.landed.plan l.planned) c.run_queries.ensures.tasks;
        all = λ done. subst (λ (n : ℕ). BeginsAll 0 (length c.deref.result.now) n c.run_queries.result.journal) (passes_are c.args.asked.now.job l.header c.in-Ok.landed.plan l.planned) (c.run_queries.ensures.all done);
        cached = λ done. record { header = l.header; plan = c.in-Ok.landed.plan; planned = l.planned; tells = c.run_queries.ensures.told done; removes = c.run_queries.ensures.removes done; goes = c.run_queries.ensures.gone done };
      },
      if_each (g.S.Source.left c.args.input.now) _ (λ bytes is.
          let known = subst (λ (o : Option (List ℕ)). IfSome (option_map rows_of o) (PassChecks c.args.asked.now.job c.args.asked.now.max_rows c.in-Ok.landed.plan l.rows)) is l.are_known in
          ap (λ (runs : List Run). length runs) c.deref.ensures.value ∙ l.are_landed.count ∙ partitions_are c.args.asked.now.job c.args.asked.now.max_rows c.args.asked.now.part_rows c.in-Ok.landed.plan l.rows (rows_of bytes) known),
    )

pub returns-in-Ok-clause-fed : goal.returns-in-Ok-clause-fed
returns-in-Ok-clause-fed g c done = if_each (g.S.Source.left c.args.input.now) _ (λ bytes is tell worker below.
    let l = c.in-Ok.ensures.lands in
    let asked = c.args.asked.now in
    let files = post_files g.D.Disk.files c.land_on.new.posts in
    let plan = c.in-Ok.landed.plan in
    let known = subst (λ (o : Option (List ℕ)). IfSome (option_map rows_of o) (PassChecks asked.job asked.max_rows plan l.rows)) is l.are_known in
    let there = landed_as files asked.part_rows _ asked.pool.workers _ c.deref.result.now l.rows refl (sym c.deref.ensures.value) l.are_landed in
    let before = states_at g.C.Consumer.state c.args.posts.now.items worker in
    let after = states_at g.C.Consumer.state c.run_queries.new.posts.items worker in
    subst (λ (what : Checked). FeedsRun asked what worker before after) (sym known.passed)
    (subst (λ (states : List State). FeedsJob states after asked.job known.header asked.part_rows known.rows asked.pool.workers worker)
    (states_same g.C.Consumer.state c.args.posts.now.items c.land_on.new.posts.items c.land_on.ensures.consumers worker)
    (feeds_job (states_at g.C.Consumer.state c.land_on.new.posts.items worker) after asked.job known.header plan asked.part_rows (length c.deref.result.now) asked.pool.workers worker l.rows known.rows
    c.plans_derive_rows.ensures c.requires.run.job known.planned known.landed_are there.count
    (c.run_queries.ensures.fed done l.rows (stand_as (g.D.Disk.files c.args.store) (post_files g.D.Disk.files c.args.posts.now) files asked l.header plan c.deref.result.now l.rows c.requires.run.some l.planned there l.are_checked c.land_on.ensures.tells tell) worker below))))

pub returns-in-Ok-clause-charged : goal.returns-in-Ok-clause-charged
returns-in-Ok-clause-charged g c done = if_each (g.S.Source.left c.args.input.now) _ (λ bytes is tell.
    let l = c.in-Ok.ensures.lands in
    let asked = c.args.asked.now in
    let files = post_files g.D.Disk.files c.land_on.new.posts in
    let plan = c.in-Ok.landed.plan in
    let known = subst (λ (o : Option (List ℕ)). IfSome (option_map rows_of o) (PassChecks asked.job asked.max_rows plan l.rows)) is l.are_known in
    let there = landed_as files asked.part_rows _ asked.pool.workers _ c.deref.result.now l.rows refl (sym c.deref.ensures.value) l.are_landed in
    subst (λ (what : Checked). ChargesRun asked what (states_at g.C.Consumer.state c.args.posts.now.items) c.run_queries.result.journal) (sym known.passed)
    (charges_job (states_at g.C.Consumer.state c.args.posts.now.items) (states_at g.C.Consumer.state c.land_on.new.posts.items) asked.job known.header plan asked.part_rows (length c.deref.result.now) asked.pool.workers l.rows known.rows
    c.run_queries.result.journal (λ place. sym (states_same g.C.Consumer.state c.args.posts.now.items c.land_on.new.posts.items c.land_on.ensures.consumers place)) known.planned known.landed_are there.count
    (c.run_queries.ensures.charged done l.rows (stand_as (g.D.Disk.files c.args.store) (post_files g.D.Disk.files c.args.posts.now) files asked l.header plan c.deref.result.now l.rows c.requires.run.some l.planned there l.are_checked c.land_on.ensures.tells tell))))

pub returns-in-Ok-clause-others : goal.returns-in-Ok-clause-others
returns-in-Ok-clause-others g c place beyond =
    c.run_queries.ensures.others place beyond ∙ states_same g.C.Consumer.state c.args.posts.now.items c.land_on.new.posts.items c.land_on.ensures.consumers place

pub returns-in-Ok-clause-consumers : goal.returns-in-Ok-clause-consumers
returns-in-Ok-clause-consumers g c place =
    subst (λ (states : List State). KeepsConsumers states (states_at g.C.Consumer.state c.run_queries.new.posts.items place))
    (states_same g.C.Consumer.state c.args.posts.now.items c.land_on.new.posts.items c.land_on.ensures.consumers place) (c.run_queries.ensures.consumers place)

pub returns-in-Ok-clause-files : goal.returns-in-Ok-clause-files
returns-in-Ok-clause-files g c =
    keeps_then (post_files g.D.Disk.files c.args.posts.now) (post_files g.D.Disk.files c.land_on.new.posts) (post_files g.D.Disk.files c.run_queries.new.posts) c.land_on.ensures.files c.run_queries.ensures.files

pub returns-in-Ok-clause-called : goal.returns-in-Ok-clause-called
returns-in-Ok-clause-called g c = if_each (g.S.Source.left c.args.input.now) _ (λ bytes is why of_input tells.
    absurd (tasks_refuse_nothing why c.run_queries.result.status c.run_queries.ensures.of_tasks of_input tells))

pub returns-in-Ok-clause-judged : goal.returns-in-Ok-clause-judged
returns-in-Ok-clause-judged g c = tasks_judged c.run_queries.result.status c.run_queries.ensures.of_tasks

pub returns-in-Ok-clause-undamaged : goal.returns-in-Ok-clause-undamaged
returns-in-Ok-clause-undamaged g c tell =
    let l = c.in-Ok.ensures.lands in
    let asked = c.args.asked.now in
    let there = landed_as (post_files g.D.Disk.files c.land_on.new.posts) asked.part_rows _ asked.pool.workers _ c.deref.result.now l.rows refl (sym c.deref.ensures.value) l.are_landed in
    ends_undamaged (ending_of_totals c.in-Ok.landed.plan (totals_of c.in-Ok.landed.plan l.rows)) c.run_queries.result.status
    (c.run_queries.ensures.ending l.rows (stand_as (g.D.Disk.files c.args.store) (post_files g.D.Disk.files c.args.posts.now) (post_files g.D.Disk.files c.land_on.new.posts) asked l.header c.in-Ok.landed.plan c.deref.result.now l.rows c.requires.run.some l.planned there l.are_checked c.land_on.ensures.tells tell))
