-- A walk of `clap` over words gives what the stricter reading gives.
use Rattle.std.proofs.Common.{◌≡◌, ◌∙◌, ℕ, Bool, codes, true, false, refl, sym, ap, subst, List, [], ◌∷◌, ◌++◌, Option, Some, None}
use Rattle.std.specs.Str.{IsUtf8}
use Rattle.clap.specs.Walk.{Row, arg_by_id, idle, option, value}
use Rattle.clap.specs.Faults.{long_fault, walk_fault}
use Rattle.words.specs.Texts.{AreTexts}
use Rattle.words.specs.Reading.{Kind, Text, Use, Word, valued, bare, unknown, dashes, named, refused, plain, use_of, word_kind_in, word_of, with_use, with_place, read_places, named_use, valued_use, bare_use, read_word, has_use}
use Rattle.words.proofs.Rules.{option_rule, rule_for, HasPlaces, rows_for, IsFault, Reader}
use Rattle.words.proofs.Looks.{LooksLike, looks}
use Rattle.words.proofs.Strict.{strict_value, strict, gives, gives_new, gives_again}
use Rattle.words.proofs.Turns.{held, at, result_at, next_fails, word_fails, fault_named, fault_plain, fault_refused, long_fails, on, stray, fails_at_end, broken_behind, met_plain, result_as, result_dashes, broken}
use Rattle.words.proofs.Settled.{Settles, nothing_pending, option_pending, option_again, place_pending, place_again, at_end, place_turn, reads_behind, valued_turn, bare_turn, waits_turn, long_again, bare_again, no_value, value_turn}

module _ (reader : Reader) where
  abbrev pub Claim : List Text → Type 0
  Claim words =
      ((before : List Use) (rows : List Row) (pending : Option (Text × List Text)) (position : ℕ) (places : List Text)
      → Settles reader before rows pending → HasPlaces reader.rules position places
      → result_at reader (at reader rows pending idle position false) words ≡ gives before (strict reader.grammar words places None))
      × ((before : List Use) (n : Text) (position : ℕ) (places : List Text) → arg_by_id reader.rules n ≡ Some (option_rule n) → HasPlaces reader.rules position places
      → result_at reader (at reader (rows_for before) (Some (n, [])) (option n) position false) words ≡ gives before (strict reader.grammar words places (Some n)))

  module _ (x : Text) (rest : List Text) (u : IsUtf8 x) (us : AreTexts rest) (later : Claim rest) where
    valued_is : (before : List Use) (rows : List Row) (pending : Option (Text × List Text)) (position : ℕ) (places : List Text) (n : Text) (v : Option Text)
        → Settles reader before rows pending → HasPlaces reader.rules position places → LooksLike x (named n v) → word_kind_in reader.grammar n ≡ valued
        → result_at reader (at reader rows pending idle position false) (x ∷ rest) ≡ gives before (valued_use n v (strict reader.grammar rest places))
    valued_is before rows pending position places n None ok has like kind =
        waits_turn reader before rows pending position x n rest ok like kind ∙ later.1 before n position places (reader.knows.id n kind) has
    valued_is before rows pending position places n (Some v) ok has like kind = by (has_use n before) refl
      where
        by : (b : Bool) → has_use n before ≡ b → result_at reader (at reader rows pending idle position false) (x ∷ rest) ≡ gives before (with_use (use_of n v) (strict reader.grammar rest places None))
        by true e =
            word_fails reader rows pending idle position x rest
            (subst IsFault (sym (fault_named reader idle x n (Some v) (held reader rows pending) like ∙ ap (λ k. long_fault reader.rules false (rule_for k n) (Some v) (held reader rows pending)) kind))
            (long_again reader before rows pending n v ok e))
            ∙ sym (gives_again (use_of n v) (strict reader.grammar rest places None) before e)
        by false e =
            valued_turn reader before rows pending position x n v rest ok like kind e
            ∙ later.0 (before ++ use_of n v ∷ []) _ None position places (nothing_pending reader (before ++ use_of n v ∷ [])) has
            ∙ sym (gives_new (use_of n v) (strict reader.grammar rest places None) before e)

    bare_is : (before : List Use) (rows : List Row) (pending : Option (Text × List Text)) (position : ℕ) (places : List Text) (n : Text) (v : Option Text)
        → Settles reader before rows pending → HasPlaces reader.rules position places → LooksLike x (named n v) → word_kind_in reader.grammar n ≡ bare
        → result_at reader (at reader rows pending idle position false) (x ∷ rest) ≡ gives before (bare_use n v (strict reader.grammar rest places))
    bare_is before rows pending position places n (Some v) ok has like kind =
        word_fails reader rows pending idle position x rest
        (subst IsFault (sym (fault_named reader idle x n (Some v) (held reader rows pending) like ∙ ap (λ k. long_fault reader.rules false (rule_for k n) (Some v) (held reader rows pending)) kind)) tt)
    bare_is before rows pending position places n None ok has like kind = by (has_use n before) refl
      where
        by : (b : Bool) → has_use n before ≡ b → result_at reader (at reader rows pending idle position false) (x ∷ rest) ≡ gives before (with_use (use_of n (codes "true")) (strict reader.grammar rest places None))
        by true e =
            word_fails reader rows pending idle position x rest
            (subst IsFault (sym (fault_named reader idle x n None (held reader rows pending) like ∙ ap (λ k. long_fault reader.rules false (rule_for k n) None (held reader rows pending)) kind))
            (bare_again reader before rows pending n ok e))
            ∙ sym (gives_again (use_of n (codes "true")) (strict reader.grammar rest places None) before e)
        by false e =
            bare_turn reader before rows pending position x n rest ok like kind e
            ∙ later.0 (before ++ use_of n (codes "true") ∷ []) _ None position places (nothing_pending reader (before ++ use_of n (codes "true") ∷ [])) has
            ∙ sym (gives_new (use_of n (codes "true")) (strict reader.grammar rest places None) before e)

    named_is : (k : Kind) (before : List Use) (rows : List Row) (pending : Option (Text × List Text)) (position : ℕ) (places : List Text) (n : Text) (v : Option Text)
        → Settles reader before rows pending → HasPlaces reader.rules position places → LooksLike x (named n v) → word_kind_in reader.grammar n ≡ k
        → result_at reader (at reader rows pending idle position false) (x ∷ rest) ≡ gives before (named_use k n v (strict reader.grammar rest places))
    named_is valued before rows pending position places n v ok has like kind = valued_is before rows pending position places n v ok has like kind
    named_is bare before rows pending position places n v ok has like kind = bare_is before rows pending position places n v ok has like kind
    named_is unknown before rows pending position places n v ok has like kind =
        word_fails reader rows pending idle position x rest
        (subst IsFault (sym (fault_named reader idle x n v (held reader rows pending) like ∙ ap (λ k. long_fault reader.rules false (rule_for k n) v (held reader rows pending)) kind)) tt)

    plain_is : (before : List Use) (rows : List Row) (pending : Option (Text × List Text)) (position : ℕ) (places : List Text)
        → Settles reader before rows pending → HasPlaces reader.rules position places → LooksLike x plain
        → result_at reader (at reader rows pending idle position false) (x ∷ rest) ≡ gives before (with_place places x (λ ps. strict reader.grammar rest ps None))
    plain_is before rows pending position [] ok has like =
        result_as reader rows pending idle position false x rest [] (held reader rows pending, value) (fault_plain reader idle x (held reader rows pending) like) (met_plain reader idle position x (held reader rows pending) like)
        ∙ next_fails reader _ _ rest (stray reader position (held reader rows pending) has)
    plain_is before rows pending position (p ∷ ps) ok has like =
        place_turn reader before rows pending idle position false p x rest ok has.0 (fault_plain reader idle x (held reader rows pending) like) (met_plain reader idle position x (held reader rows pending) like)
        ∙ by (has_use p before) refl
      where
        by : (b : Bool) → has_use p before ≡ b
            → result_at reader (at reader (rows_for before) (Some (p, x ∷ [])) idle (on reader position) false) rest ≡ gives before (with_use (use_of p x) (strict reader.grammar rest ps None))
        by true e =
            broken reader rest us (rows_for before) (Some (p, x ∷ [])) (on reader position) ps has.2 (place_again reader position p x before has.1 e)
            ∙ sym (gives_again (use_of p x) (strict reader.grammar rest ps None) before e)
        by false e =
            later.0 (before ++ use_of p x ∷ []) _ _ (on reader position) ps (place_pending reader position p x before has.1 e) has.2
            ∙ sym (gives_new (use_of p x) (strict reader.grammar rest ps None) before e)

    idle_is : (k : Word) → LooksLike x k → (before : List Use) (rows : List Row) (pending : Option (Text × List Text)) (position : ℕ) (places : List Text)
        → Settles reader before rows pending → HasPlaces reader.rules position places
        → result_at reader (at reader rows pending idle position false) (x ∷ rest) ≡ gives before (read_word reader.grammar k x places (read_places rest places) (strict reader.grammar rest))
    idle_is dashes like before rows pending position places ok has =
        result_dashes reader rows pending idle position x rest like ∙ reads_behind reader rest before rows pending idle position places ok has
    idle_is (named n v) like before rows pending position places ok has = named_is (word_kind_in reader.grammar n) before rows pending position places n v ok has like refl
    idle_is refused like before rows pending position places ok has = word_fails reader rows pending idle position x rest (fault_refused reader idle x rows pending like)
    idle_is plain like before rows pending position places ok has = plain_is before rows pending position places ok has like

    waiting_is : (k : Word) → LooksLike x k → (before : List Use) (n : Text) (position : ℕ) (places : List Text) → arg_by_id reader.rules n ≡ Some (option_rule n) → HasPlaces reader.rules position places
        → result_at reader (at reader (rows_for before) (Some (n, [])) (option n) position false) (x ∷ rest) ≡ gives before (strict_value n k x (strict reader.grammar rest places None))
    waiting_is dashes like before n position places known has =
        result_dashes reader (rows_for before) (Some (n, [])) (option n) position x rest like
        ∙ broken_behind reader rest (rows_for before) (Some (n, [])) (option n) position places has (no_value reader n (rows_for before) known)
    waiting_is (named m v) like before n position places known has =
        let h = held reader (rows_for before) (Some (n, [])) in
        word_fails reader (rows_for before) (Some (n, [])) (option n) position x rest
        (subst IsFault (sym (fault_named reader (option n) x m v h like)) (long_fails reader (word_kind_in reader.grammar m) m v h (no_value reader n (rows_for before) known)))
    waiting_is refused like before n position places known has =
        word_fails reader (rows_for before) (Some (n, [])) (option n) position x rest (fault_refused reader (option n) x (rows_for before) (Some (n, [])) like)
    waiting_is plain like before n position places known has = value_turn reader (rows_for before) position x n rest like known ∙ by (has_use n before) refl
      where
        by : (b : Bool) → has_use n before ≡ b
            → result_at reader (at reader (rows_for before) (Some (n, x ∷ [])) idle position false) rest ≡ gives before (with_use (use_of n x) (strict reader.grammar rest places None))
        by true e =
            broken reader rest us (rows_for before) (Some (n, x ∷ [])) position places has (option_again reader n x before known e)
            ∙ sym (gives_again (use_of n x) (strict reader.grammar rest places None) before e)
        by false e =
            later.0 (before ++ use_of n x ∷ []) _ _ position places (option_pending reader n x before known e) has
            ∙ sym (gives_new (use_of n x) (strict reader.grammar rest places None) before e)

  pub reads : (words : List Text) → AreTexts words → Claim words
  unfolding strict walk_fault
  reads [] u = (
    λ before rows pending position places ok has. at_end reader before rows pending idle position false ok,
    λ before n position places known has. fails_at_end reader (rows_for before) (Some (n, [])) (option n) position false (no_value reader n (rows_for before) known),
  )
  reads (x ∷ rest) u = (
    λ before rows pending position places ok has.
        idle_is x rest u.0 u.1 (reads rest u.1) (word_of x) (looks x u.0) before rows pending position places ok has,
    λ before n position places known has. waiting_is x rest u.0 u.1 (reads rest u.1) (word_of x) (looks x u.0) before n position places known has,
  )
