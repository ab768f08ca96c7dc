-- What reading refuses is refused where the tokens stop beginning a job.
use Rattle.std.proofs.Common.{◌≡◌, ℕ, ◌<◌, ◌≤◌, List, [], ◌∷◌, ◌++◌, length, Option, Some, None, Result, Ok, Err, refl, sym, ap, subst, ◌∙◌, append_assoc, inl, inr}
use Rattle.std.specs.Prelude.{IsSome, IfOk, IfErr, option_and_then}
use Rattle.std.proofs.lemmas.Bool.{lt-ltb, le-ltb, cases_lt}
use Rattle.std.proofs.lemmas.List.{append-nil}
use Rattle.job_text.specs.declared.token.Token.{Token}
use Rattle.job_text.specs.declared.job.Job.{Job}
use Rattle.job_text.specs.declared.state.State.{State}
use Rattle.job_text.specs.Step.{step, start}
use Rattle.job_text.specs.Begins.{steps, job_at, job_of}
use Rattle.job_text.specs.Text.{outcome, outcome_of, at_end, next_or, scan, read_of, ReadsLike}
use Rattle.job_text.specs.Place.{only_tokens, IsRefusedAt, IsJobText, IsRefusal, IsFaultOf}
use Rattle.job_text.specs.declared.fault.JobFault.{JobFault}
use Rattle.job_text.specs.declared.fault.JobFault.TheVariants as faults
use Rattle.job_text.specs.Place.{at_token, at_stop}
use Rattle.job_text.specs.Place.{at_end as at_text_end}
use Rattle.job_text.proofs.Viable.{begins, taken, steps-append}

ok_or : {A B : Type 0} (a : A) (b : B) → let x : Result A B = Ok a in let y : Result A B = Err b in x ≡ y → ⊥
ok_or a b e = cc

only-snoc : (before : List (Token × ℕ)) (t : Token × ℕ) → only_tokens (before ++ t ∷ []) ≡ only_tokens before ++ t.0 ∷ []
only-snoc [] t = refl
only-snoc (b ∷ before) t = ap (λ (l : List Token). b.0 ∷ l) (only-snoc before t)

-- one more token
steps-snoc : (ts : List Token) (s : State) (t : Token) → steps start ts ≡ Some s → steps start (ts ++ t ∷ []) ≡ option_and_then (λ n. steps n []) (step s t)
unfolding steps
steps-snoc ts s t e = steps-append ts (t ∷ []) start ∙ rw e refl

one_more : (o : Option State) → option_and_then (λ n. steps n []) o ≡ o
unfolding steps
one_more None = refl
one_more (Some s) = refl

no_some : (let o : Option State = None in IsSome o) → ⊥
no_some h = absurd cc

module _ (len : ℕ) (stop : Option ℕ) (place : ℕ) where
  end_refused : (tokens : List (Token × ℕ)) (s : State) (o : Option ℕ) (j : Option Job) → o ≡ stop → j ≡ job_at (Some s) → steps start (only_tokens tokens) ≡ Some s → at_end len o j ≡ Err place → IsRefusedAt len tokens stop place
  end_refused tokens s (Some p) j eo ej es e = at_stop (sym eo ∙ ap (λ (n : ℕ). Some n) cc) (begins (only_tokens tokens) (rw es refl))
  end_refused tokens s None None eo ej es e = at_text_end (sym eo) (begins (only_tokens tokens) (rw es refl)) (rw es (sym ej)) cc
  end_refused tokens s None (Some job) eo ej es e = absurd (ok_or job place e)

  refused : (ts before : List (Token × ℕ)) (s : State) → steps start (only_tokens before) ≡ Some s → outcome len s ts stop ≡ Err place → IsRefusedAt len (before ++ ts) stop place
  unfolding outcome
  refused [] before s es e = rw append-nil (end_refused before s stop (job_at (Some s)) refl refl es e)
  refused (t ∷ ts) before s es e = on (step s t.0) refl e (λ next en rest. subst (λ (l : List (Token × ℕ)). IsRefusedAt len l stop place) (append_assoc before (t ∷ []) ts)
      (refused ts (before ++ t ∷ []) next (ap (steps start) (only-snoc before t) ∙ steps-snoc (only_tokens before) s t.0 es ∙ one_more (step s t.0) ∙ sym en) rest))
    where
      on : (o : Option State) → o ≡ step s t.0 → next_or o (Err t.1) (λ next. outcome len next ts stop) ≡ Err place
          → ((next : State) → Some next ≡ step s t.0 → outcome len next ts stop ≡ Err place → IsRefusedAt len (before ++ t ∷ ts) stop place) → IsRefusedAt len (before ++ t ∷ ts) stop place
      on None en r go =
          let at : t.1 ≡ place = cc in
          at_token before ts t.0 (ap (λ (n : ℕ). before ++ (t.0, n) ∷ ts) at) (begins (only_tokens before) (rw es refl))
          (λ b. let some : IsSome (steps start (only_tokens before ++ t.0 ∷ [])) = taken (only_tokens before ++ t.0 ∷ []) b in
          let none : steps start (only_tokens before ++ t.0 ∷ []) ≡ None = steps-snoc (only_tokens before) s t.0 es ∙ one_more (step s t.0) ∙ sym en in
          absurd (no_some (rw none at some)))
      on (Some next) en r go = go next en r

  found_end : (tokens : List (Token × ℕ)) (s : State) (job : Job) (o : Option ℕ) (j : Option Job) → o ≡ stop → j ≡ job_at (Some s) → steps start (only_tokens tokens) ≡ Some s → at_end len o j ≡ Ok job → (stop ≡ None) × (job_of (only_tokens tokens) ≡ Some job)
  found_end tokens s job (Some p) j eo ej es e = absurd (ok_or job p (sym e))
  found_end tokens s job None None eo ej es e = absurd (ok_or job len (sym e))
  found_end tokens s job None (Some k) eo ej es e = (sym eo, rw es (sym ej ∙ cc))

  found : (ts before : List (Token × ℕ)) (s : State) (job : Job) → steps start (only_tokens before) ≡ Some s → outcome len s ts stop ≡ Ok job → (stop ≡ None) × (job_of (only_tokens (before ++ ts)) ≡ Some job)
  unfolding outcome
  found [] before s job es e = rw append-nil (found_end before s job stop (job_at (Some s)) refl refl es e)
  found (t ∷ ts) before s job es e = on (step s t.0) refl e (λ next en rest. subst (λ (l : List (Token × ℕ)). (stop ≡ None) × (job_of (only_tokens l) ≡ Some job)) (append_assoc before (t ∷ []) ts)
      (found ts (before ++ t ∷ []) next job (ap (steps start) (only-snoc before t) ∙ steps-snoc (only_tokens before) s t.0 es ∙ one_more (step s t.0) ∙ sym en) rest))
    where
      on : (o : Option State) → o ≡ step s t.0 → next_or o (Err t.1) (λ next. outcome len next ts stop) ≡ Ok job
          → ((next : State) → Some next ≡ step s t.0 → outcome len next ts stop ≡ Ok job → (stop ≡ None) × (job_of (only_tokens (before ++ t ∷ ts)) ≡ Some job)) → (stop ≡ None) × (job_of (only_tokens (before ++ t ∷ ts)) ≡ Some job)
      on None en r go = absurd (ok_or job t.1 (sym r))
      on (Some next) en r go = go next en r

  -- a list of tokens that is a job is read to its end
  again : (ts : List (Token × ℕ)) (s : State) (job : Job) → stop ≡ None → job_at (steps s (only_tokens ts)) ≡ Some job → outcome len s ts stop ≡ Ok job
  unfolding outcome steps
  again [] s job es e = rw (es, e) refl
  again (t ∷ ts) s job es e = on (step s t.0) e (λ next h. again ts next job es h)
    where
      on : (o : Option State) → job_at (option_and_then (λ n. steps n (only_tokens ts)) o) ≡ Some job → ((next : State) → job_at (steps next (only_tokens ts)) ≡ Some job → outcome len next ts stop ≡ Ok job) → next_or o (Err t.1) (λ next. outcome len next ts stop) ≡ Ok job
      on None h go = absurd cc
      on (Some next) h go = go next h

start_is : steps start [] ≡ Some start
unfolding steps
start_is = refl

long_is : (text : List ℕ) → 16384 < length text → read_of text ≡ Err 16384
unfolding read_of
long_is text lt = rw (lt-ltb 16384 (length text) lt) refl

short_is : (text : List ℕ) → length text ≤ 16384 → read_of text ≡ outcome_of (length text) start (scan 0 0 text)
unfolding read_of
short_is text le = rw (le-ltb 16384 (length text) le) refl

err_is : (a b : ℕ) → let x : Result Job ℕ = Err a in let y : Result Job ℕ = Err b in x ≡ y → a ≡ b
err_is a b e = cc

pub refusal : (text : List ℕ) (place : ℕ) → read_of text ≡ Err place → IsRefusal text place
refusal text place e = (
  λ long. err_is place 16384 (sym e ∙ long_is text long),
  λ short. refused (length text) (scan 0 0 text).stop place (scan 0 0 text).tokens [] start start_is (sym (short_is text short) ∙ e),
)

pub is_job : (text : List ℕ) (job : Job) → read_of text ≡ Ok job → IsJobText text job
is_job text job e = elim (cases_lt 16384 (length text)) [
  | inl long ↦ absurd (ok_or job 16384 (sym e ∙ long_is text long))
  | inr short ↦
      let f = found (length text) (scan 0 0 text).stop 0 (scan 0 0 text).tokens [] start job start_is (sym (short_is text short) ∙ e) in
      record { short = short; whole = f.0; is = f.1 }
]

pub job_read : (text : List ℕ) (job : Job) → IsJobText text job → read_of text ≡ Ok job
job_read text job h = short_is text h.short ∙ again (length text) (scan 0 0 text).stop 0 (scan 0 0 text).tokens start job h.whole h.is

-- ---- what a function returned

pub found_of : (text : List ℕ) (r : Result Job JobFault) → ReadsLike r (read_of text) → IfOk r (λ job. IsJobText text job)
found_of text (Ok job) h = is_job text job h
found_of text (Err fault) h = tt

pub only_of : (text : List ℕ) (r : Result Job JobFault) → ReadsLike r (read_of text) → (job : Job) → IsJobText text job → ReadsLike r (Ok job)
only_of text (Ok other) h job is = sym (job_read text job is) ∙ h
only_of text (Err faults.NoMemory) h job is = tt
only_of text (Err (faults.BadJob place)) h job is = sym (job_read text job is) ∙ h

pub refused_of : (text : List ℕ) (r : Result Job JobFault) → ReadsLike r (read_of text) → IfErr r (λ fault. IsFaultOf text fault)
refused_of text (Ok job) h = tt
refused_of text (Err faults.NoMemory) h = tt
refused_of text (Err (faults.BadJob place)) h = refusal text place h
