use Rattle.std.proofs.Common.{◌≡◌, ℕ, arith, inr, length, sym, subst, refl}
use Rattle.words.specs.Texts.{texts}
use Rattle.job_ending.specs.Calls.{IsWhyNot, Runs, call_of}
use Rattle.job_ending.specs.Endings.{ending_of, printed_in}
use Rattle.csv_program.specs.Posts.{post_faults}
use Rattle.csv_program.proofs.Called.{for_no_run, for_none, for_run, no_run_not, none_has, tells_run, tells_why, wanting_before, wanting_calls_nothing, wanting_not_done, wanting_refused, wanting_undamaged, wanting_undamaged_on}
use Rattle.csv_program.proofs.Completed.{completes_call}
use Rattle.csv_program.proofs.EndedRuns.{prefix_of_nothing}
use Rattle.csv_program.proofs.Judged.{if_each}
use Rattle.csv_program.proofs.top.run.Goals as goal

-- ---- a run

pub returns-in-Ok-clause-told : goal.returns-in-Ok-clause-told
returns-in-Ok-clause-told g c = tells_run (call_of (length c.args.posts.now.items) (texts c.args.words.now)) c.in-Ok.asked c.run_job-left.result.status (subst (λ (posts : ℕ). call_of posts (texts c.args.words.now) ≡ Runs c.in-Ok.asked) (omega (arith, c.len.ensures, c.args.posts.now.ok.0)) c.in-Ok.ensures.ok) c.run_job-left.ensures.judged

pub returns-in-Ok-clause-ending : goal.returns-in-Ok-clause-ending
returns-in-Ok-clause-ending g c = for_run (call_of (length c.args.posts.now.items) (texts c.args.words.now)) c.in-Ok.asked _ (subst (λ (posts : ℕ). call_of posts (texts c.args.words.now) ≡ Runs c.in-Ok.asked) (omega (arith, c.len.ensures, c.args.posts.now.ok.0)) c.in-Ok.ensures.ok) c.run_job-left.ensures.ending

pub returns-in-Ok-clause-refused : goal.returns-in-Ok-clause-refused
returns-in-Ok-clause-refused g c = for_run (call_of (length c.args.posts.now.items) (texts c.args.words.now)) c.in-Ok.asked _ (subst (λ (posts : ℕ). call_of posts (texts c.args.words.now) ≡ Runs c.in-Ok.asked) (omega (arith, c.len.ensures, c.args.posts.now.ok.0)) c.in-Ok.ensures.ok) c.run_job-left.ensures.refused

pub returns-in-Ok-clause-called : goal.returns-in-Ok-clause-called
returns-in-Ok-clause-called g c = for_run (call_of (length c.args.posts.now.items) (texts c.args.words.now)) c.in-Ok.asked _ (subst (λ (posts : ℕ). call_of posts (texts c.args.words.now) ≡ Runs c.in-Ok.asked) (omega (arith, c.len.ensures, c.args.posts.now.ok.0)) c.in-Ok.ensures.ok) c.run_job-left.ensures.called

pub returns-in-Ok-clause-complete : goal.returns-in-Ok-clause-complete
returns-in-Ok-clause-complete g c = completes_call g.D.Disk.files (g.D.Disk.files c.args.store_disk) c.args.posts.now (g.S.Source.left c.args.input.now) (call_of (length c.args.posts.now.items) (texts c.args.words.now)) c.in-Ok.asked c.run_job-left.result.status c.run_job-left.result.journal (g.S.Source.faults c.args.input.now) _ (g.W.Sink.faults c.args.output.now) _ (g.J.Sink.faults c.args.journal.now) _
    (post_faults g.D.Disk.faults c.args.posts.now) _ (subst (λ (posts : ℕ). call_of posts (texts c.args.words.now) ≡ Runs c.in-Ok.asked) (omega (arith, c.len.ensures, c.args.posts.now.ok.0)) c.in-Ok.ensures.ok) c.run_job-left.ensures.read c.run_job-left.ensures.write c.run_job-left.ensures.recorded c.run_job-left.ensures.disk c.run_job-left.ensures.no_room c.run_job-left.ensures.ending

pub returns-in-Ok-clause-named : goal.returns-in-Ok-clause-named
returns-in-Ok-clause-named g c = for_run (call_of (length c.args.posts.now.items) (texts c.args.words.now)) c.in-Ok.asked _ (subst (λ (posts : ℕ). call_of posts (texts c.args.words.now) ≡ Runs c.in-Ok.asked) (omega (arith, c.len.ensures, c.args.posts.now.ok.0)) c.in-Ok.ensures.ok) c.run_job-left.ensures.named

pub returns-in-Ok-clause-undamaged : goal.returns-in-Ok-clause-undamaged
returns-in-Ok-clause-undamaged g c = for_run (call_of (length c.args.posts.now.items) (texts c.args.words.now)) c.in-Ok.asked _ (subst (λ (posts : ℕ). call_of posts (texts c.args.words.now) ≡ Runs c.in-Ok.asked) (omega (arith, c.len.ensures, c.args.posts.now.ok.0)) c.in-Ok.ensures.ok) c.run_job-left.ensures.undamaged

pub returns-in-Ok-clause-unread : goal.returns-in-Ok-clause-unread
returns-in-Ok-clause-unread g c = no_run_not (call_of (length c.args.posts.now.items) (texts c.args.words.now)) c.in-Ok.asked _ (subst (λ (posts : ℕ). call_of posts (texts c.args.words.now) ≡ Runs c.in-Ok.asked) (omega (arith, c.len.ensures, c.args.posts.now.ok.0)) c.in-Ok.ensures.ok)

pub returns-in-Ok-clause-unpooled : goal.returns-in-Ok-clause-unpooled
returns-in-Ok-clause-unpooled g c = no_run_not (call_of (length c.args.posts.now.items) (texts c.args.words.now)) c.in-Ok.asked _ (subst (λ (posts : ℕ). call_of posts (texts c.args.words.now) ≡ Runs c.in-Ok.asked) (omega (arith, c.len.ensures, c.args.posts.now.ok.0)) c.in-Ok.ensures.ok)

pub returns-in-Ok-clause-setup : goal.returns-in-Ok-clause-setup
returns-in-Ok-clause-setup g c = for_run (call_of (length c.args.posts.now.items) (texts c.args.words.now)) c.in-Ok.asked _ (subst (λ (posts : ℕ). call_of posts (texts c.args.words.now) ≡ Runs c.in-Ok.asked) (omega (arith, c.len.ensures, c.args.posts.now.ok.0)) c.in-Ok.ensures.ok) c.run_job-left.ensures.setup

pub returns-in-Ok-clause-tasks : goal.returns-in-Ok-clause-tasks
returns-in-Ok-clause-tasks g c = for_run (call_of (length c.args.posts.now.items) (texts c.args.words.now)) c.in-Ok.asked _ (subst (λ (posts : ℕ). call_of posts (texts c.args.words.now) ≡ Runs c.in-Ok.asked) (omega (arith, c.len.ensures, c.args.posts.now.ok.0)) c.in-Ok.ensures.ok) c.run_job-left.ensures.tasks

pub returns-in-Ok-clause-others : goal.returns-in-Ok-clause-others
returns-in-Ok-clause-others g c = for_run (call_of (length c.args.posts.now.items) (texts c.args.words.now)) c.in-Ok.asked _ (subst (λ (posts : ℕ). call_of posts (texts c.args.words.now) ≡ Runs c.in-Ok.asked) (omega (arith, c.len.ensures, c.args.posts.now.ok.0)) c.in-Ok.ensures.ok) c.run_job-left.ensures.others

pub returns-in-Ok-clause-done : goal.returns-in-Ok-clause-done
returns-in-Ok-clause-done g c done = for_run (call_of (length c.args.posts.now.items) (texts c.args.words.now)) c.in-Ok.asked _ (subst (λ (posts : ℕ). call_of posts (texts c.args.words.now) ≡ Runs c.in-Ok.asked) (omega (arith, c.len.ensures, c.args.posts.now.ok.0)) c.in-Ok.ensures.ok) (c.run_job-left.ensures.done done)

pub returns-in-Ok-clause-prefix : goal.returns-in-Ok-clause-prefix
returns-in-Ok-clause-prefix g c cut = for_run (call_of (length c.args.posts.now.items) (texts c.args.words.now)) c.in-Ok.asked _ (subst (λ (posts : ℕ). call_of posts (texts c.args.words.now) ≡ Runs c.in-Ok.asked) (omega (arith, c.len.ensures, c.args.posts.now.ok.0)) c.in-Ok.ensures.ok) (c.run_job-left.ensures.prefix cut)

pub returns-in-Ok-clause-fed : goal.returns-in-Ok-clause-fed
returns-in-Ok-clause-fed g c done = for_run (call_of (length c.args.posts.now.items) (texts c.args.words.now)) c.in-Ok.asked _ (subst (λ (posts : ℕ). call_of posts (texts c.args.words.now) ≡ Runs c.in-Ok.asked) (omega (arith, c.len.ensures, c.args.posts.now.ok.0)) c.in-Ok.ensures.ok) (c.run_job-left.ensures.fed done)

pub returns-in-Ok-clause-charged : goal.returns-in-Ok-clause-charged
returns-in-Ok-clause-charged g c done = for_run (call_of (length c.args.posts.now.items) (texts c.args.words.now)) c.in-Ok.asked _ (subst (λ (posts : ℕ). call_of posts (texts c.args.words.now) ≡ Runs c.in-Ok.asked) (omega (arith, c.len.ensures, c.args.posts.now.ok.0)) c.in-Ok.ensures.ok) (c.run_job-left.ensures.charged done)

pub returns-in-Ok-clause-gains : goal.returns-in-Ok-clause-gains
returns-in-Ok-clause-gains g c = for_run (call_of (length c.args.posts.now.items) (texts c.args.words.now)) c.in-Ok.asked _ (subst (λ (posts : ℕ). call_of posts (texts c.args.words.now) ≡ Runs c.in-Ok.asked) (omega (arith, c.len.ensures, c.args.posts.now.ok.0)) c.in-Ok.ensures.ok) c.run_job-left.ensures.gains

-- ---- none

pub returns-in-Err-clause-told : goal.returns-in-Err-clause-told
returns-in-Err-clause-told g c = tells_why (call_of (length c.args.posts.now.items) (texts c.args.words.now)) c.unpooled.result.status (subst (λ (posts : ℕ). IsWhyNot (call_of posts (texts c.args.words.now)) c.unpooled.result.status) (omega (arith, c.len.ensures, c.args.posts.now.ok.0)) (subst (IsWhyNot (call_of c.len.result (texts c.args.words.now))) (sym c.unpooled.ensures.status) c.in-Err.ensures.why))

pub returns-in-Err-clause-ending : goal.returns-in-Err-clause-ending
returns-in-Err-clause-ending g c = for_none (call_of (length c.args.posts.now.items) (texts c.args.words.now)) c.unpooled.result.status _ (subst (λ (posts : ℕ). IsWhyNot (call_of posts (texts c.args.words.now)) c.unpooled.result.status) (omega (arith, c.len.ensures, c.args.posts.now.ok.0)) (subst (IsWhyNot (call_of c.len.result (texts c.args.words.now))) (sym c.unpooled.ensures.status) c.in-Err.ensures.why)) (λ asked is. if_each (g.S.Source.left c.args.input.now) _ (λ bytes known tell. wanting_before (ending_of asked bytes) c.unpooled.result.status is))

pub returns-in-Err-clause-refused : goal.returns-in-Err-clause-refused
returns-in-Err-clause-refused g c = for_none (call_of (length c.args.posts.now.items) (texts c.args.words.now)) c.unpooled.result.status _ (subst (λ (posts : ℕ). IsWhyNot (call_of posts (texts c.args.words.now)) c.unpooled.result.status) (omega (arith, c.len.ensures, c.args.posts.now.ok.0)) (subst (IsWhyNot (call_of c.len.result (texts c.args.words.now))) (sym c.unpooled.ensures.status) c.in-Err.ensures.why)) (λ asked is. if_each (g.S.Source.left c.args.input.now) _ (λ bytes known why calls. (wanting_refused why c.unpooled.result.status is, c.unpooled.ensures.setup)))

pub returns-in-Err-clause-called : goal.returns-in-Err-clause-called
returns-in-Err-clause-called g c = for_none (call_of (length c.args.posts.now.items) (texts c.args.words.now)) c.unpooled.result.status _ (subst (λ (posts : ℕ). IsWhyNot (call_of posts (texts c.args.words.now)) c.unpooled.result.status) (omega (arith, c.len.ensures, c.args.posts.now.ok.0)) (subst (IsWhyNot (call_of c.len.result (texts c.args.words.now))) (sym c.unpooled.ensures.status) c.in-Err.ensures.why)) (λ asked is. if_each (g.S.Source.left c.args.input.now) _ (λ bytes known why of_input tells. absurd (wanting_calls_nothing why c.unpooled.result.status is of_input tells)))

pub returns-in-Err-clause-complete : goal.returns-in-Err-clause-complete
returns-in-Err-clause-complete g c = for_none (call_of (length c.args.posts.now.items) (texts c.args.words.now)) c.unpooled.result.status _ (subst (λ (posts : ℕ). IsWhyNot (call_of posts (texts c.args.words.now)) c.unpooled.result.status) (omega (arith, c.len.ensures, c.args.posts.now.ok.0)) (subst (IsWhyNot (call_of c.len.result (texts c.args.words.now))) (sym c.unpooled.ensures.status) c.in-Err.ensures.why)) (λ asked is. if_each (g.S.Source.left c.args.input.now) _ (λ bytes known tell text prints nothing all. inr is))

pub returns-in-Err-clause-named : goal.returns-in-Err-clause-named
returns-in-Err-clause-named g c = for_none (call_of (length c.args.posts.now.items) (texts c.args.words.now)) c.unpooled.result.status _ (subst (λ (posts : ℕ). IsWhyNot (call_of posts (texts c.args.words.now)) c.unpooled.result.status) (omega (arith, c.len.ensures, c.args.posts.now.ok.0)) (subst (IsWhyNot (call_of c.len.result (texts c.args.words.now))) (sym c.unpooled.ensures.status) c.in-Err.ensures.why)) (λ asked is. wanting_undamaged_on c.unpooled.result.status _ is)

pub returns-in-Err-clause-undamaged : goal.returns-in-Err-clause-undamaged
returns-in-Err-clause-undamaged g c = for_none (call_of (length c.args.posts.now.items) (texts c.args.words.now)) c.unpooled.result.status _ (subst (λ (posts : ℕ). IsWhyNot (call_of posts (texts c.args.words.now)) c.unpooled.result.status) (omega (arith, c.len.ensures, c.args.posts.now.ok.0)) (subst (IsWhyNot (call_of c.len.result (texts c.args.words.now))) (sym c.unpooled.ensures.status) c.in-Err.ensures.why)) (λ asked is tell. wanting_undamaged c.unpooled.result.status _ is)

pub returns-in-Err-clause-unread : goal.returns-in-Err-clause-unread
returns-in-Err-clause-unread g c = for_no_run (call_of (length c.args.posts.now.items) (texts c.args.words.now)) _ (refl, refl, refl, refl)

pub returns-in-Err-clause-unpooled : goal.returns-in-Err-clause-unpooled
returns-in-Err-clause-unpooled g c = for_no_run (call_of (length c.args.posts.now.items) (texts c.args.words.now)) _ c.unpooled.ensures.setup

pub returns-in-Err-clause-setup : goal.returns-in-Err-clause-setup
returns-in-Err-clause-setup g c = for_none (call_of (length c.args.posts.now.items) (texts c.args.words.now)) c.unpooled.result.status _ (subst (λ (posts : ℕ). IsWhyNot (call_of posts (texts c.args.words.now)) c.unpooled.result.status) (omega (arith, c.len.ensures, c.args.posts.now.ok.0)) (subst (IsWhyNot (call_of c.len.result (texts c.args.words.now))) (sym c.unpooled.ensures.status) c.in-Err.ensures.why)) (λ asked is. none_has c.unpooled.result.setup _ c.unpooled.ensures.setup)

pub returns-in-Err-clause-gains : goal.returns-in-Err-clause-gains
returns-in-Err-clause-gains g c = for_none (call_of (length c.args.posts.now.items) (texts c.args.words.now)) c.unpooled.result.status _ (subst (λ (posts : ℕ). IsWhyNot (call_of posts (texts c.args.words.now)) c.unpooled.result.status) (omega (arith, c.len.ensures, c.args.posts.now.ok.0)) (subst (IsWhyNot (call_of c.len.result (texts c.args.words.now))) (sym c.unpooled.ensures.status) c.in-Err.ensures.why)) (λ asked is. none_has c.unpooled.result.setup _ c.unpooled.ensures.setup)

pub returns-in-Err-clause-tasks : goal.returns-in-Err-clause-tasks
returns-in-Err-clause-tasks g c = for_none (call_of (length c.args.posts.now.items) (texts c.args.words.now)) c.unpooled.result.status _ (subst (λ (posts : ℕ). IsWhyNot (call_of posts (texts c.args.words.now)) c.unpooled.result.status) (omega (arith, c.len.ensures, c.args.posts.now.ok.0)) (subst (IsWhyNot (call_of c.len.result (texts c.args.words.now))) (sym c.unpooled.ensures.status) c.in-Err.ensures.why)) (λ asked is. none_has c.unpooled.result.setup _ c.unpooled.ensures.setup)

pub returns-in-Err-clause-others : goal.returns-in-Err-clause-others
returns-in-Err-clause-others g c = for_none (call_of (length c.args.posts.now.items) (texts c.args.words.now)) c.unpooled.result.status _ (subst (λ (posts : ℕ). IsWhyNot (call_of posts (texts c.args.words.now)) c.unpooled.result.status) (omega (arith, c.len.ensures, c.args.posts.now.ok.0)) (subst (IsWhyNot (call_of c.len.result (texts c.args.words.now))) (sym c.unpooled.ensures.status) c.in-Err.ensures.why)) (λ asked is place beyond. refl)

pub returns-in-Err-clause-done : goal.returns-in-Err-clause-done
returns-in-Err-clause-done g c done = for_none (call_of (length c.args.posts.now.items) (texts c.args.words.now)) c.unpooled.result.status _ (subst (λ (posts : ℕ). IsWhyNot (call_of posts (texts c.args.words.now)) c.unpooled.result.status) (omega (arith, c.len.ensures, c.args.posts.now.ok.0)) (subst (IsWhyNot (call_of c.len.result (texts c.args.words.now))) (sym c.unpooled.ensures.status) c.in-Err.ensures.why)) (λ asked is. absurd (wanting_not_done c.unpooled.result.status is done))

pub returns-in-Err-clause-fed : goal.returns-in-Err-clause-fed
returns-in-Err-clause-fed g c done = for_none (call_of (length c.args.posts.now.items) (texts c.args.words.now)) c.unpooled.result.status _ (subst (λ (posts : ℕ). IsWhyNot (call_of posts (texts c.args.words.now)) c.unpooled.result.status) (omega (arith, c.len.ensures, c.args.posts.now.ok.0)) (subst (IsWhyNot (call_of c.len.result (texts c.args.words.now))) (sym c.unpooled.ensures.status) c.in-Err.ensures.why)) (λ asked is. absurd (wanting_not_done c.unpooled.result.status is done))

pub returns-in-Err-clause-charged : goal.returns-in-Err-clause-charged
returns-in-Err-clause-charged g c done = for_none (call_of (length c.args.posts.now.items) (texts c.args.words.now)) c.unpooled.result.status _ (subst (λ (posts : ℕ). IsWhyNot (call_of posts (texts c.args.words.now)) c.unpooled.result.status) (omega (arith, c.len.ensures, c.args.posts.now.ok.0)) (subst (IsWhyNot (call_of c.len.result (texts c.args.words.now))) (sym c.unpooled.ensures.status) c.in-Err.ensures.why)) (λ asked is. absurd (wanting_not_done c.unpooled.result.status is done))

pub returns-in-Err-clause-prefix : goal.returns-in-Err-clause-prefix
returns-in-Err-clause-prefix g c cut = for_none (call_of (length c.args.posts.now.items) (texts c.args.words.now)) c.unpooled.result.status _ (subst (λ (posts : ℕ). IsWhyNot (call_of posts (texts c.args.words.now)) c.unpooled.result.status) (omega (arith, c.len.ensures, c.args.posts.now.ok.0)) (subst (IsWhyNot (call_of c.len.result (texts c.args.words.now))) (sym c.unpooled.ensures.status) c.in-Err.ensures.why)) (λ asked is. if_each (g.S.Source.left c.args.input.now) _ (λ bytes known tell. prefix_of_nothing g.W.Sink.written c.args.output.now c.args.output.now (printed_in (ending_of asked bytes)) refl))
