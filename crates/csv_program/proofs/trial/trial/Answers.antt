use Rattle.std.proofs.Common.{◌≡◌, ℕ, arith, inr, length, sym, subst, refl}
use Rattle.words.specs.Texts.{texts}
use Rattle.trial_input.specs.Lines.{trial_lines}
use Rattle.job_ending.specs.Calls.{IsWhyNot, Runs}
use Rattle.csv_program.specs.Trials.{IsOfTrial, IsSoundEnd, trial_of}
use Rattle.csv_program.proofs.Called.{for_no_run, for_none, for_run, no_run_not, none_has, tells_run, tells_why, wanting_not_done, wanting_undamaged_on}
use Rattle.csv_program.proofs.EndedRuns.{prefix_of_nothing}
use Rattle.csv_program.proofs.trial.trial.Goals as goal

-- ---- a trial

pub returns-in-Ok-clause-told : goal.returns-in-Ok-clause-told
returns-in-Ok-clause-told g c = tells_run (trial_of (length c.args.posts.now.items) (texts c.args.words.now)) c.in-Ok.asked c.run_trial-left.result.status (subst (λ (posts : ℕ). trial_of posts (texts c.args.words.now) ≡ Runs c.in-Ok.asked) (omega (arith, c.len.ensures, c.args.posts.now.ok.0)) c.in-Ok.ensures.ok) c.run_trial-left.ensures.judged

pub returns-in-Ok-clause-sound : goal.returns-in-Ok-clause-sound
returns-in-Ok-clause-sound g c = for_run (trial_of (length c.args.posts.now.items) (texts c.args.words.now)) c.in-Ok.asked _ (subst (λ (posts : ℕ). trial_of posts (texts c.args.words.now) ≡ Runs c.in-Ok.asked) (omega (arith, c.len.ensures, c.args.posts.now.ok.0)) c.in-Ok.ensures.ok) c.run_trial-left.ensures.sound

pub returns-in-Ok-clause-complete : goal.returns-in-Ok-clause-complete
returns-in-Ok-clause-complete g c = for_run (trial_of (length c.args.posts.now.items) (texts c.args.words.now)) c.in-Ok.asked _ (subst (λ (posts : ℕ). trial_of posts (texts c.args.words.now) ≡ Runs c.in-Ok.asked) (omega (arith, c.len.ensures, c.args.posts.now.ok.0)) c.in-Ok.ensures.ok) c.run_trial-left.ensures.complete

pub returns-in-Ok-clause-named : goal.returns-in-Ok-clause-named
returns-in-Ok-clause-named g c = for_run (trial_of (length c.args.posts.now.items) (texts c.args.words.now)) c.in-Ok.asked _ (subst (λ (posts : ℕ). trial_of posts (texts c.args.words.now) ≡ Runs c.in-Ok.asked) (omega (arith, c.len.ensures, c.args.posts.now.ok.0)) c.in-Ok.ensures.ok) c.run_trial-left.ensures.named

pub returns-in-Ok-clause-setup : goal.returns-in-Ok-clause-setup
returns-in-Ok-clause-setup g c = for_run (trial_of (length c.args.posts.now.items) (texts c.args.words.now)) c.in-Ok.asked _ (subst (λ (posts : ℕ). trial_of posts (texts c.args.words.now) ≡ Runs c.in-Ok.asked) (omega (arith, c.len.ensures, c.args.posts.now.ok.0)) c.in-Ok.ensures.ok) c.run_trial-left.ensures.setup

pub returns-in-Ok-clause-tasks : goal.returns-in-Ok-clause-tasks
returns-in-Ok-clause-tasks g c = for_run (trial_of (length c.args.posts.now.items) (texts c.args.words.now)) c.in-Ok.asked _ (subst (λ (posts : ℕ). trial_of posts (texts c.args.words.now) ≡ Runs c.in-Ok.asked) (omega (arith, c.len.ensures, c.args.posts.now.ok.0)) c.in-Ok.ensures.ok) c.run_trial-left.ensures.tasks

pub returns-in-Ok-clause-others : goal.returns-in-Ok-clause-others
returns-in-Ok-clause-others g c = for_run (trial_of (length c.args.posts.now.items) (texts c.args.words.now)) c.in-Ok.asked _ (subst (λ (posts : ℕ). trial_of posts (texts c.args.words.now) ≡ Runs c.in-Ok.asked) (omega (arith, c.len.ensures, c.args.posts.now.ok.0)) c.in-Ok.ensures.ok) c.run_trial-left.ensures.others

pub returns-in-Ok-clause-prefix : goal.returns-in-Ok-clause-prefix
returns-in-Ok-clause-prefix g c = for_run (trial_of (length c.args.posts.now.items) (texts c.args.words.now)) c.in-Ok.asked _ (subst (λ (posts : ℕ). trial_of posts (texts c.args.words.now) ≡ Runs c.in-Ok.asked) (omega (arith, c.len.ensures, c.args.posts.now.ok.0)) c.in-Ok.ensures.ok) c.run_trial-left.ensures.prefix

pub returns-in-Ok-clause-done : goal.returns-in-Ok-clause-done
returns-in-Ok-clause-done g c done = for_run (trial_of (length c.args.posts.now.items) (texts c.args.words.now)) c.in-Ok.asked _ (subst (λ (posts : ℕ). trial_of posts (texts c.args.words.now) ≡ Runs c.in-Ok.asked) (omega (arith, c.len.ensures, c.args.posts.now.ok.0)) c.in-Ok.ensures.ok) (c.run_trial-left.ensures.done done)

pub returns-in-Ok-clause-fed : goal.returns-in-Ok-clause-fed
returns-in-Ok-clause-fed g c done = for_run (trial_of (length c.args.posts.now.items) (texts c.args.words.now)) c.in-Ok.asked _ (subst (λ (posts : ℕ). trial_of posts (texts c.args.words.now) ≡ Runs c.in-Ok.asked) (omega (arith, c.len.ensures, c.args.posts.now.ok.0)) c.in-Ok.ensures.ok) (c.run_trial-left.ensures.fed done)

pub returns-in-Ok-clause-charged : goal.returns-in-Ok-clause-charged
returns-in-Ok-clause-charged g c done = for_run (trial_of (length c.args.posts.now.items) (texts c.args.words.now)) c.in-Ok.asked _ (subst (λ (posts : ℕ). trial_of posts (texts c.args.words.now) ≡ Runs c.in-Ok.asked) (omega (arith, c.len.ensures, c.args.posts.now.ok.0)) c.in-Ok.ensures.ok) (c.run_trial-left.ensures.charged done)

pub returns-in-Ok-clause-unread : goal.returns-in-Ok-clause-unread
returns-in-Ok-clause-unread g c = no_run_not (trial_of (length c.args.posts.now.items) (texts c.args.words.now)) c.in-Ok.asked _ (subst (λ (posts : ℕ). trial_of posts (texts c.args.words.now) ≡ Runs c.in-Ok.asked) (omega (arith, c.len.ensures, c.args.posts.now.ok.0)) c.in-Ok.ensures.ok)

pub returns-in-Ok-clause-unpooled : goal.returns-in-Ok-clause-unpooled
returns-in-Ok-clause-unpooled g c = no_run_not (trial_of (length c.args.posts.now.items) (texts c.args.words.now)) c.in-Ok.asked _ (subst (λ (posts : ℕ). trial_of posts (texts c.args.words.now) ≡ Runs c.in-Ok.asked) (omega (arith, c.len.ensures, c.args.posts.now.ok.0)) c.in-Ok.ensures.ok)

-- ---- none

pub returns-in-Err-clause-told : goal.returns-in-Err-clause-told
returns-in-Err-clause-told g c = tells_why (trial_of (length c.args.posts.now.items) (texts c.args.words.now)) c.unpooled.result.status (subst (λ (posts : ℕ). IsWhyNot (trial_of posts (texts c.args.words.now)) c.unpooled.result.status) (omega (arith, c.len.ensures, c.args.posts.now.ok.0)) (subst (IsWhyNot (trial_of c.len.result (texts c.args.words.now))) (sym c.unpooled.ensures.status) c.in-Err.ensures.why))

pub returns-in-Err-clause-ends : goal.returns-in-Err-clause-ends
returns-in-Err-clause-ends g c = subst IsOfTrial (sym c.unpooled.ensures.status) c.in-Err.ensures.ends

pub returns-in-Err-clause-sound : goal.returns-in-Err-clause-sound
returns-in-Err-clause-sound g c = for_none (trial_of (length c.args.posts.now.items) (texts c.args.words.now)) c.unpooled.result.status _ (subst (λ (posts : ℕ). IsWhyNot (trial_of posts (texts c.args.words.now)) c.unpooled.result.status) (omega (arith, c.len.ensures, c.args.posts.now.ok.0)) (subst (IsWhyNot (trial_of c.len.result (texts c.args.words.now))) (sym c.unpooled.ensures.status) c.in-Err.ensures.why)) (λ asked is tell. subst IsSoundEnd (sym is) _)

pub returns-in-Err-clause-complete : goal.returns-in-Err-clause-complete
returns-in-Err-clause-complete g c = for_none (trial_of (length c.args.posts.now.items) (texts c.args.words.now)) c.unpooled.result.status _ (subst (λ (posts : ℕ). IsWhyNot (trial_of posts (texts c.args.words.now)) c.unpooled.result.status) (omega (arith, c.len.ensures, c.args.posts.now.ok.0)) (subst (IsWhyNot (trial_of c.len.result (texts c.args.words.now))) (sym c.unpooled.ensures.status) c.in-Err.ensures.why)) (λ asked is tell nothing all. inr is)

pub returns-in-Err-clause-named : goal.returns-in-Err-clause-named
returns-in-Err-clause-named g c = for_none (trial_of (length c.args.posts.now.items) (texts c.args.words.now)) c.unpooled.result.status _ (subst (λ (posts : ℕ). IsWhyNot (trial_of posts (texts c.args.words.now)) c.unpooled.result.status) (omega (arith, c.len.ensures, c.args.posts.now.ok.0)) (subst (IsWhyNot (trial_of c.len.result (texts c.args.words.now))) (sym c.unpooled.ensures.status) c.in-Err.ensures.why)) (λ asked is. wanting_undamaged_on c.unpooled.result.status _ is)

pub returns-in-Err-clause-prefix : goal.returns-in-Err-clause-prefix
returns-in-Err-clause-prefix g c = for_none (trial_of (length c.args.posts.now.items) (texts c.args.words.now)) c.unpooled.result.status _ (subst (λ (posts : ℕ). IsWhyNot (trial_of posts (texts c.args.words.now)) c.unpooled.result.status) (omega (arith, c.len.ensures, c.args.posts.now.ok.0)) (subst (IsWhyNot (trial_of c.len.result (texts c.args.words.now))) (sym c.unpooled.ensures.status) c.in-Err.ensures.why)) (λ asked is tell. prefix_of_nothing g.W.Sink.written c.args.output.now c.args.output.now (trial_lines asked.max_rows) refl)

pub returns-in-Err-clause-unread : goal.returns-in-Err-clause-unread
returns-in-Err-clause-unread g c = for_no_run (trial_of (length c.args.posts.now.items) (texts c.args.words.now)) _ (refl, refl)

pub returns-in-Err-clause-unpooled : goal.returns-in-Err-clause-unpooled
returns-in-Err-clause-unpooled g c = for_no_run (trial_of (length c.args.posts.now.items) (texts c.args.words.now)) _ c.unpooled.ensures.setup

pub returns-in-Err-clause-setup : goal.returns-in-Err-clause-setup
returns-in-Err-clause-setup g c = for_none (trial_of (length c.args.posts.now.items) (texts c.args.words.now)) c.unpooled.result.status _ (subst (λ (posts : ℕ). IsWhyNot (trial_of posts (texts c.args.words.now)) c.unpooled.result.status) (omega (arith, c.len.ensures, c.args.posts.now.ok.0)) (subst (IsWhyNot (trial_of c.len.result (texts c.args.words.now))) (sym c.unpooled.ensures.status) c.in-Err.ensures.why)) (λ asked is. none_has c.unpooled.result.setup _ c.unpooled.ensures.setup)

pub returns-in-Err-clause-tasks : goal.returns-in-Err-clause-tasks
returns-in-Err-clause-tasks g c = for_none (trial_of (length c.args.posts.now.items) (texts c.args.words.now)) c.unpooled.result.status _ (subst (λ (posts : ℕ). IsWhyNot (trial_of posts (texts c.args.words.now)) c.unpooled.result.status) (omega (arith, c.len.ensures, c.args.posts.now.ok.0)) (subst (IsWhyNot (trial_of c.len.result (texts c.args.words.now))) (sym c.unpooled.ensures.status) c.in-Err.ensures.why)) (λ asked is. none_has c.unpooled.result.setup _ c.unpooled.ensures.setup)

pub returns-in-Err-clause-others : goal.returns-in-Err-clause-others
returns-in-Err-clause-others g c = for_none (trial_of (length c.args.posts.now.items) (texts c.args.words.now)) c.unpooled.result.status _ (subst (λ (posts : ℕ). IsWhyNot (trial_of posts (texts c.args.words.now)) c.unpooled.result.status) (omega (arith, c.len.ensures, c.args.posts.now.ok.0)) (subst (IsWhyNot (trial_of c.len.result (texts c.args.words.now))) (sym c.unpooled.ensures.status) c.in-Err.ensures.why)) (λ asked is place beyond. refl)

pub returns-in-Err-clause-done : goal.returns-in-Err-clause-done
returns-in-Err-clause-done g c done = for_none (trial_of (length c.args.posts.now.items) (texts c.args.words.now)) c.unpooled.result.status _ (subst (λ (posts : ℕ). IsWhyNot (trial_of posts (texts c.args.words.now)) c.unpooled.result.status) (omega (arith, c.len.ensures, c.args.posts.now.ok.0)) (subst (IsWhyNot (trial_of c.len.result (texts c.args.words.now))) (sym c.unpooled.ensures.status) c.in-Err.ensures.why)) (λ asked is. absurd (wanting_not_done c.unpooled.result.status is done))

pub returns-in-Err-clause-fed : goal.returns-in-Err-clause-fed
returns-in-Err-clause-fed g c done = for_none (trial_of (length c.args.posts.now.items) (texts c.args.words.now)) c.unpooled.result.status _ (subst (λ (posts : ℕ). IsWhyNot (trial_of posts (texts c.args.words.now)) c.unpooled.result.status) (omega (arith, c.len.ensures, c.args.posts.now.ok.0)) (subst (IsWhyNot (trial_of c.len.result (texts c.args.words.now))) (sym c.unpooled.ensures.status) c.in-Err.ensures.why)) (λ asked is. absurd (wanting_not_done c.unpooled.result.status is done))

pub returns-in-Err-clause-charged : goal.returns-in-Err-clause-charged
returns-in-Err-clause-charged g c done = for_none (trial_of (length c.args.posts.now.items) (texts c.args.words.now)) c.unpooled.result.status _ (subst (λ (posts : ℕ). IsWhyNot (trial_of posts (texts c.args.words.now)) c.unpooled.result.status) (omega (arith, c.len.ensures, c.args.posts.now.ok.0)) (subst (IsWhyNot (trial_of c.len.result (texts c.args.words.now))) (sym c.unpooled.ensures.status) c.in-Err.ensures.why)) (λ asked is. absurd (wanting_not_done c.unpooled.result.status is done))
