-- What the calls of a closure with a place, and `&mut` of what two lists have there, did and answered.
-- This project's own.
use Rattle.std.specs.Prelude.{◌≡◌, ℕ, ◌+◌, ◌<◌, List, length, slice_index_or}
use denote.Ref.{MutBor}
use denote.Param.Members.{Shared}
use Rattle.worker_threads.specs.Places.{AtEachPlace}

module _ {F W P A : Type 0} (g : Shared F (ℕ × (MutBor W × (MutBor P × Unit {0}))) (A × (MutBor W × (MutBor P × Unit {0})))) (f : F) where
  -- f may be called with i and `&mut` of these two
  abbrev pub AcceptsCall : ℕ → W → P → Type 0
  AcceptsCall i w p = (one : MutBor W) (other : MutBor P) → one.now ≡ w → other.now ≡ p → g.pre f (i, (one, (other, tt)))

  -- a call of f with i and `&mut` of w and p may leave w' and p' there, and answer a
  pub record Called (i : ℕ) (w w' : W) (p p' : P) (a : A) : Type 0 where
    pub one : MutBor W
    pub one_is : one.now ≡ w
    pub other : MutBor P
    pub other_is : other.now ≡ p
    pub one_after : MutBor W
    pub other_after : MutBor P
    pub call : g.post f (i, (one, (other, tt))) (a, (one_after, (other_after, tt)))
    pub one_left : one_after.now ≡ w'
    pub other_left : other_after.now ≡ p'

  -- f may be called with each place from base on, and what the lists have there
  abbrev pub AcceptsCalls : ℕ → List W → List P → Type 0
  AcceptsCalls base ws ps = (k : ℕ) (w : W) (p : P) → k < length ws → AcceptsCall (base + k) (slice_index_or ws k w) (slice_index_or ps k p)

  -- what the lists have at each place is what a call of f left there, and its answer stands there
  abbrev pub CalledAll : ℕ → List W → List W → List P → List P → List A → Type 0
  CalledAll base ws ws' ps ps' answers = AtEachPlace Called base ws ws' ps ps' answers
