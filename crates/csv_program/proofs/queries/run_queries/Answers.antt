use Rattle.std.proofs.Common.{◌≡◌, ◌∙◌, ℕ, List, Option, Ok, length, ap, subst, sym}
use Rattle.std.specs.Prelude.{IfSome, OnOk}
use Rattle.std.specs.Global.{Vec}
use Rattle.std.specs.Io.KnownBytes.{Appends}
use Rattle.byte_io.specs.Sinks.{AppendsPrefix}
use Rattle.pool_ledger.specs.declared.entry.Entry.{Entry as JournalEntry}
use Rattle.journal_audit.specs.Text.{text_of}
use Rattle.job_plan.specs.Columns.{Fields}
use Rattle.job_plan.specs.Plans.{kind_at, passes_in}
use Rattle.landing.specs.Landed.{partition_of}
use Rattle.result_table.specs.Results.{HasResult}
use Rattle.run_file.specs.declared.run.Run.{Run}
use Rattle.consumer_trait.specs.States.{State}
use Rattle.task_runner.specs.Consumers.{KeepsConsumers}
use Rattle.task_runner.specs.Pass.{states_at}
use Rattle.task_runner.specs.Workers.{IfSound, answer_at}
use Rattle.task_runner.specs.declared.post.Post.{Post}
use Rattle.job_ending.specs.Endings.{MayEndAs, ending_of_totals, printed_in, totals_of, wide_of}
use Rattle.csv_program.specs.Feeds.{FeedsPlan}
use Rattle.csv_program.specs.Basis.{StandAs}
use Rattle.csv_program.specs.Cached.{GoesBehind, TellsPasses}
use Rattle.csv_program.specs.Charges.{ChargesPlan}
use Rattle.csv_program.specs.Posts.{post_files}
use Rattle.csv_program.specs.QueryResults.{HaveResults, HoldsParts, totals_of_parts}
use Rattle.job_ending.specs.Statuses.{IsCut}
use Rattle.job_ending.specs.Removals.{RemovesLate}
use Rattle.job_ending.specs.Tasks.{BeginsAll}
use Rattle.csv_program.specs.Telling.{status_of_work}
use Rattle.job_ending.specs.Written.{GainsIfAsked}
use Rattle.job_ending.specs.declared.status.Status.{Status}
use Rattle.csv_program.proofs.EndedRuns.{fault_not_done, follows_none, may_end, ok_holds, unprinted_work, prefix_of_nothing, sound_more, sound_ok}
use Rattle.csv_program.proofs.Gaining.{fault_gains}
use Rattle.csv_program.proofs.PostDisks.{states_same}
use Rattle.csv_program.proofs.StillThere.{keeps_alike, keeps_then}
use Rattle.csv_program.proofs.ToldTotals.{holds_parts, told_plan}
use Rattle.csv_program.proofs.Wholes.{whole_totals}
use Rattle.csv_program.proofs.queries.run_queries.Goals.{in-Ok, in-Err}
use Rattle.csv_program.proofs.queries.run_queries.Given as given
use Rattle.csv_program.proofs.queries.run_queries.Goals as goal

pub returns-in_default-clause-tasks : goal.returns-in_default-clause-tasks
returns-in_default-clause-tasks g c = follows_none c.args.asked.now.pool.workers (length c.args.parts.now) (length (passes_in c.args.plan.now)) c.unpooled.result.journal c.unpooled.ensures.journal

-- the answers of the tasks are runs of what all entries come to
sound : (g : given.Over) (c : goal.Joined-told-2 g) (rows : List Fields) → StandAs g.B.Basis.rows (post_files g.D.Disk.files c.args.posts.now) c.args.asked.now c.args.plan.now c.args.parts.now rows
    → IfSound (λ answers. HaveResults (post_files g.D.Disk.files c.run_tasks-told.new.posts) c.args.plan.now (totals_of c.args.plan.now rows) answers.items) c.run_tasks-told.result.0
sound g c rows stand =
    let plan = c.args.plan.now in
    let parts = c.args.parts.now in
    let files = post_files g.D.Disk.files c.args.posts.now in
    let after = post_files g.D.Disk.files c.run_tasks-told.new.posts in
    let each : ℕ → List Fields = λ part. partition_of c.args.asked.now.part_rows part rows in
    sound_more (λ answers. HaveResults after plan (totals_of_parts plan (length parts) each) answers.items) (λ answers. HaveResults after plan (totals_of plan rows) answers.items)
    (λ answers has query below. subst (HasResult after (kind_at plan query) (answer_at answers.items query)) (whole_totals plan rows c.args.asked.now.part_rows _ query c.requires.parts stand.landed.count) (has query below))
    c.run_tasks-told.result.0
    (c.run_tasks-told.ensures.answer each (holds_parts g.B.Basis.rows files c.args.asked.now plan parts rows c.requires.some stand))

-- the results that are printed
printed : (g : given.Over) (c : goal.Joined-told-2 g) (rows : List Fields) (answers : Vec (Option Run)) (seen : List (Option Run)) → c.run_tasks-told.result.0 ≡ Ok answers → seen ≡ answers.items
    → IfSound (λ answers. HaveResults (post_files g.D.Disk.files c.run_tasks-told.new.posts) c.args.plan.now (totals_of c.args.plan.now rows) answers.items) c.run_tasks-told.result.0
    → HaveResults (post_files g.D.Disk.files c.run_tasks-told.new.posts) c.args.plan.now (totals_of c.args.plan.now rows) seen
printed g c rows answers seen is same known =
    let has = λ (list : List (Option Run)). HaveResults (post_files g.D.Disk.files c.run_tasks-told.new.posts) c.args.plan.now (totals_of c.args.plan.now rows) list in
    subst has (sym same) (sound_ok (λ answers. has answers.items) c.run_tasks-told.result.0 answers is known)

pub returns-clause-ending : goal.returns-clause-ending
returns-clause-ending g c rows stand =
    let plan = c.args.plan.now in
    let says = λ (answers : Vec (Option Run)). HaveResults (post_files g.D.Disk.files c.run_tasks-told.new.posts) plan (totals_of plan rows) answers.items in
    let known = sound g c rows stand in
    elim c.match-told-2.branch [
      | in-Ok w ↦
          subst (λ (ended : Status). MayEndAs (ending_of_totals plan (totals_of plan rows)) ended) (sym w.status-is)
          (w.print_answers-status.ensures.ending (totals_of plan rows) (printed g c rows w.in-Ok.answers _ w.in-Ok.is w.deref.ensures.value known) (told_plan plan rows c.short_shapes_are_told.ensures stand.checked))
      | in-Err w ↦ may_end _ (wide_of plan (totals_of plan rows)) c.match-told-2.status
          (unprinted_work says c.run_tasks-told.result.0 w.in-Err.fault c.match-told-2.status w.in-Err.is known (w.status-is ∙ w.status_of_fault-status.ensures))
    ]

pub returns-clause-done : goal.returns-clause-done
returns-clause-done g c rows stand done =
    let plan = c.args.plan.now in
    let known = sound g c rows stand in
    elim c.match-told-2.branch [
      | in-Ok w ↦
          subst (λ (output : g.row.W.Denot). Appends (g.W.Sink.written c.args.output.now) (g.W.Sink.written output) (printed_in (ending_of_totals plan (totals_of plan rows)))) (sym w.output-is)
          (w.print_answers-status.ensures.done (totals_of plan rows) (printed g c rows w.in-Ok.answers _ w.in-Ok.is w.deref.ensures.value known) (sym w.status-is ∙ done))
      | in-Err w ↦ absurd (fault_not_done w.in-Err.fault c.match-told-2.status (w.status-is ∙ w.status_of_fault-status.ensures) done)
    ]

pub returns-clause-prefix : goal.returns-clause-prefix
returns-clause-prefix g c rows stand cut =
    let plan = c.args.plan.now in
    let known = sound g c rows stand in
    elim c.match-told-2.branch [
      | in-Ok w ↦
          subst (λ (output : g.row.W.Denot). AppendsPrefix (g.W.Sink.written c.args.output.now) (g.W.Sink.written output) (printed_in (ending_of_totals plan (totals_of plan rows)))) (sym w.output-is)
          (w.print_answers-status.ensures.prefix (totals_of plan rows) (printed g c rows w.in-Ok.answers _ w.in-Ok.is w.deref.ensures.value known) (subst IsCut w.status-is cut))
      | in-Err w ↦ prefix_of_nothing g.W.Sink.written c.args.output.now c.match-told-2.output _ w.output-is
    ]

pub returns-clause-all : goal.returns-clause-all
returns-clause-all g c done = elim c.match-told-2.branch [
  | in-Ok w ↦ ok_holds c.run_tasks-told.result.0 w.in-Ok.answers w.in-Ok.is (subst (λ (journal : Option (List JournalEntry)). OnOk c.run_tasks-told.result.0 (IfSome journal (BeginsAll 0 (length c.args.parts.now) (length (passes_in c.args.plan.now))))) c.in-Some.is c.run_tasks-told.ensures.all)
  | in-Err w ↦ absurd (fault_not_done w.in-Err.fault c.match-told-2.status (w.status-is ∙ w.status_of_fault-status.ensures) done)
]

pub returns-clause-told : goal.returns-clause-told
returns-clause-told g c done = elim c.match-told-2.branch [
  | in-Ok w ↦
      let partitions = length c.args.parts.now in
      let passes = length (passes_in c.args.plan.now) in
      ok_holds c.run_tasks-told.result.0 w.in-Ok.answers w.in-Ok.is
      (subst (λ (journal : Option (List JournalEntry)). OnOk c.run_tasks-told.result.0 (IfSome journal (TellsPasses c.args.plan.now c.args.asked.now.pool.workers partitions passes))) c.in-Some.is c.run_tasks-told.ensures.told)
  | in-Err w ↦ absurd (fault_not_done w.in-Err.fault c.match-told-2.status (w.status-is ∙ w.status_of_fault-status.ensures) done)
]

pub returns-clause-removes : goal.returns-clause-removes
returns-clause-removes g c done = elim c.match-told-2.branch [
  | in-Ok w ↦
      ok_holds c.run_tasks-told.result.0 w.in-Ok.answers w.in-Ok.is
      (subst (λ (journal : Option (List JournalEntry)). OnOk c.run_tasks-told.result.0 (IfSome journal (RemovesLate c.args.plan.now c.args.asked.now.pool.workers (length c.args.parts.now)))) c.in-Some.is c.run_tasks-told.ensures.removes)
  | in-Err w ↦ absurd (fault_not_done w.in-Err.fault c.match-told-2.status (w.status-is ∙ w.status_of_fault-status.ensures) done)
]

pub returns-clause-gone : goal.returns-clause-gone
returns-clause-gone g c done = elim c.match-told-2.branch [
  | in-Ok w ↦
      ok_holds c.run_tasks-told.result.0 w.in-Ok.answers w.in-Ok.is
      (subst (λ (journal : Option (List JournalEntry)). OnOk c.run_tasks-told.result.0 (IfSome journal (GoesBehind c.args.plan.now (length c.args.parts.now) (length (passes_in c.args.plan.now))))) c.in-Some.is c.run_tasks-told.ensures.gone)
  | in-Err w ↦ absurd (fault_not_done w.in-Err.fault c.match-told-2.status (w.status-is ∙ w.status_of_fault-status.ensures) done)
]

pub returns-clause-charged : goal.returns-clause-charged
returns-clause-charged g c done rows stand = elim c.match-told-2.branch [
  | in-Ok w ↦
      let plan = c.args.plan.now in
      let parts = c.args.parts.now in
      let files = post_files g.D.Disk.files c.args.posts.now in
      let asked = c.args.asked.now in
      let states = states_at g.C.Consumer.state c.args.posts.now.items in
      ok_holds c.run_tasks-told.result.0 w.in-Ok.answers w.in-Ok.is
      (subst (λ (journal : Option (List JournalEntry)). OnOk c.run_tasks-told.result.0 ((rows : ℕ → List (List (List ℕ))) → HoldsParts files g.B.Basis.rows plan parts asked.part_rows asked.pool.workers rows
      → IfSome journal (ChargesPlan states plan (length parts) rows asked.pool.workers))) c.in-Some.is c.run_tasks-told.ensures.charged)
      (λ part. partition_of asked.part_rows part rows) (holds_parts g.B.Basis.rows files asked plan parts rows c.requires.some stand)
  | in-Err w ↦ absurd (fault_not_done w.in-Err.fault c.match-told-2.status (w.status-is ∙ w.status_of_fault-status.ensures) done)
]

-- printing leaves the consumers
states_stay : (g : given.Over) (c : goal.Joined-told-2 g) (place : ℕ) → states_at g.C.Consumer.state c.match-told-2.posts.items place ≡ states_at g.C.Consumer.state c.run_tasks-told.new.posts.items place
states_stay g c place = elim c.match-told-2.branch [
  | in-Ok w ↦
      ap (λ (posts : Vec (Post g.row.D.Denot g.row.C.Denot)). states_at g.C.Consumer.state posts.items place) w.posts-is
      ∙ states_same g.C.Consumer.state c.run_tasks-told.new.posts.items w.print_answers-status.new.posts.items w.print_answers-status.ensures.consumers place
  | in-Err w ↦ ap (λ (posts : Vec (Post g.row.D.Denot g.row.C.Denot)). states_at g.C.Consumer.state posts.items place) w.posts-is
]

pub returns-clause-fed : goal.returns-clause-fed
returns-clause-fed g c done rows stand worker below = elim c.match-told-2.branch [
  | in-Ok w ↦
      subst (λ (states : List State). FeedsPlan (states_at g.C.Consumer.state c.args.posts.now.items worker) states c.args.plan.now (length c.args.parts.now) (λ part. partition_of c.args.asked.now.part_rows part rows) c.args.asked.now.pool.workers worker) (sym (states_stay g c worker))
      (ok_holds c.run_tasks-told.result.0 w.in-Ok.answers w.in-Ok.is c.run_tasks-told.ensures.fed (λ part. partition_of c.args.asked.now.part_rows part rows)
      (holds_parts g.B.Basis.rows (post_files g.D.Disk.files c.args.posts.now) c.args.asked.now c.args.plan.now c.args.parts.now rows c.requires.some stand) worker below)
  | in-Err w ↦ absurd (fault_not_done w.in-Err.fault c.match-told-2.status (w.status-is ∙ w.status_of_fault-status.ensures) done)
]

pub returns-clause-others : goal.returns-clause-others
returns-clause-others g c place beyond = states_stay g c place ∙ c.run_tasks-told.ensures.others place beyond

pub returns-clause-consumers : goal.returns-clause-consumers
returns-clause-consumers g c place =
    subst (λ (states : List State). KeepsConsumers (states_at g.C.Consumer.state c.args.posts.now.items place) states) (sym (states_stay g c place)) (c.run_tasks-told.ensures.consumers place)

pub returns-clause-files : goal.returns-clause-files
returns-clause-files g c =
    let before = post_files g.D.Disk.files c.args.posts.now in
    let worked = post_files g.D.Disk.files c.run_tasks-told.new.posts in
    let after = post_files g.D.Disk.files c.match-told-2.posts in
    keeps_then before worked after c.run_tasks-told.ensures.files
    (elim c.match-told-2.branch [
      | in-Ok w ↦
          keeps_alike worked after
          (λ place. ap (λ (posts : Vec (Post g.row.D.Denot g.row.C.Denot)). post_files g.D.Disk.files posts place) w.posts-is ∙ w.print_answers-status.ensures.files place)
      | in-Err w ↦ keeps_alike worked after (λ place. ap (λ (posts : Vec (Post g.row.D.Denot g.row.C.Denot)). post_files g.D.Disk.files posts place) w.posts-is)
    ])

pub returns-clause-gains : goal.returns-clause-gains
returns-clause-gains g c =
    let asked = c.args.asked.now.journal in
    let before = g.J.Sink.written c.args.journal.now in
    let text = text_of c.args.asked.now.pool c.in-Some.entries in
    elim c.match-told-2.branch [
      | in-Ok w ↦
          subst (λ (ended : Status). GainsIfAsked asked ended text before (g.J.Sink.written c.match-told-2.journal)) (sym w.status-is)
          (subst (λ (sink : g.row.J.Denot). GainsIfAsked asked w.print_answers-status.result text before (g.J.Sink.written sink)) (sym w.journal-is) w.print_answers-status.ensures.gains)
      | in-Err w ↦
          subst (λ (ended : Status). GainsIfAsked asked ended text before (g.J.Sink.written c.match-told-2.journal)) (sym (w.status-is ∙ w.status_of_fault-status.ensures))
          (subst (λ (sink : g.row.J.Denot). GainsIfAsked asked (status_of_work w.in-Err.fault) text before (g.J.Sink.written sink)) (sym w.journal-is) (fault_gains asked w.in-Err.fault text before))
    ]
