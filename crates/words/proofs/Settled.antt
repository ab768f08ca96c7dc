-- A turn of a walk without a fault: what was pending is settled, and the use of the word is added.
use Rattle.std.proofs.Common.{◌≡◌, ◌∙◌, ℕ, Bool, cond, codes, true, false, refl, sym, ap, ap₂, subst, List, [], ◌∷◌, ◌++◌, Option, Some, None, nat_lt}
use Rattle.std.specs.List.{fold}
use Rattle.std.specs.Option.{option_map_or}
use Rattle.clap.specs.Walk.{Row, Waiting, Walk, after_flag, arg_by_id, arg_by_index, idle, long_met, next, option, option_word, reacted, settled, settled_rows, used, used_by_id, value, with_default, word_met}
use Rattle.clap.specs.Kinds.{Kinds, or_else}
use Rattle.clap.specs.Faults.{check_fault, defaults_fault, long_fault, settle_fault, use_fault, walk_fault, word_fault}
use Rattle.clap.specs.declared.error.kind.ErrorKind.TheVariants.{ArgumentConflict}
use Rattle.words.specs.Reading.{Text, Use, valued, bare, named, plain, use_of, word_kind_in, with_use, read_places, has_use}
use Rattle.words.proofs.Rules.{option_rule, flag_rule, place_rule, rule_for, HasPlaces, rows_for, used_new, outcome, IsFault, Reader}
use Rattle.words.proofs.Looks.{LooksLike}
use Rattle.words.proofs.Strict.{gives, gives_new, gives_again, repeat_is, bytes_same}
use Rattle.words.proofs.Turns.{s, held, at, result_at, result_next, result_step, next_fails, fault_named, fault_plain, on, stray, place_fault, place_walk, broken_behind, met_plain, met_named, result_as}

module _ (reader : Reader) where
  -- ---- the walk gives what the stricter reading gives

  pub record Settles (before : List Use) (rows : List Row) (pending : Option (Text × List Text)) : Type 0 where
    pub rows_are : settled_rows reader.rules pending rows ≡ rows_for before
    pub no_fault : settle_fault reader.rules false (held reader rows pending) ≡ []

  pub nothing_pending : (before : List Use) → Settles before (rows_for before) None
  nothing_pending before = record { rows_are = refl; no_fault = refl }

  -- a value that is pending, of an option or a positional
  pub option_pending : (n v : Text) (before : List Use) → arg_by_id reader.rules n ≡ Some (option_rule n) → has_use n before ≡ false
      → Settles (before ++ use_of n v ∷ []) (rows_for before) (Some (n, v ∷ []))
  option_pending n v before known new = record {
    rows_are = ap (λ o. used_by_id o (v ∷ []) (rows_for before)) known ∙ used_new n v before new;
    no_fault = ap (λ o. option_map_or (λ a. use_fault false a (v ∷ []) (rows_for before)) o []) known
        ∙ ap (λ k. or_else k []) (repeat_is n before false new);
  }

  pub option_again : (n v : Text) (before : List Use) → arg_by_id reader.rules n ≡ Some (option_rule n) → has_use n before ≡ true
      → IsFault (settle_fault reader.rules false (held reader (rows_for before) (Some (n, v ∷ []))))
  option_again n v before known old =
      let is : settle_fault reader.rules false (held reader (rows_for before) (Some (n, v ∷ []))) ≡ ArgumentConflict ∷ [] =
      ap (λ o. option_map_or (λ a. use_fault false a (v ∷ []) (rows_for before)) o []) known
      ∙ ap (λ k. or_else k []) (repeat_is n before true old) in
      subst IsFault (sym is) tt

  pub place_pending : (i : ℕ) (n v : Text) (before : List Use) → arg_by_id reader.rules n ≡ Some (place_rule i n) → has_use n before ≡ false
      → Settles (before ++ use_of n v ∷ []) (rows_for before) (Some (n, v ∷ []))
  place_pending i n v before known new = record {
    rows_are = ap (λ o. used_by_id o (v ∷ []) (rows_for before)) known ∙ used_new n v before new;
    no_fault = ap (λ o. option_map_or (λ a. use_fault false a (v ∷ []) (rows_for before)) o []) known
        ∙ ap (λ k. or_else k []) (repeat_is n before false new);
  }

  pub place_again : (i : ℕ) (n v : Text) (before : List Use) → arg_by_id reader.rules n ≡ Some (place_rule i n) → has_use n before ≡ true
      → IsFault (settle_fault reader.rules false (held reader (rows_for before) (Some (n, v ∷ []))))
  place_again i n v before known old =
      let is : settle_fault reader.rules false (held reader (rows_for before) (Some (n, v ∷ []))) ≡ ArgumentConflict ∷ [] =
      ap (λ o. option_map_or (λ a. use_fault false a (v ∷ []) (rows_for before)) o []) known
      ∙ ap (λ k. or_else k []) (repeat_is n before true old) in
      subst IsFault (sym is) tt

  pub at_end : (before : List Use) (rows : List Row) (pending : Option (Text × List Text)) (waiting : Waiting) (position : ℕ) (behind : Bool) → Settles before rows pending
      → result_at reader (at reader rows pending waiting position behind) [] ≡ Some (rows_for before)
  unfolding walk_fault
  at_end before rows pending waiting position behind ok =
      let later = or_else (defaults_fault (settled_rows reader.rules pending rows) reader.rules) (check_fault (s reader) (fold with_default (settled_rows reader.rules pending rows) reader.rules) false) in
      ap₂ outcome (ap (λ k. or_else k later) ok.no_fault ∙ reader.knows.ends reader.name (settled_rows reader.rules pending rows)) ok.rows_are

  -- one more positional word, where `pending` is settled first
  pub place_turn : (before : List Use) (rows : List Row) (pending : Option (Text × List Text)) (waiting : Waiting) (position : ℕ) (behind : Bool) (p : Text) (x : Text) (rest : List Text)
      → Settles before rows pending → arg_by_index reader.rules position ≡ Some (place_rule position p)
      → word_fault (s reader) [] behind waiting x (held reader rows pending) ≡ [] → word_met reader.rules [] behind waiting position x (held reader rows pending) ≡ (held reader rows pending, value)
      → result_at reader (at reader rows pending waiting position behind) (x ∷ rest) ≡ result_at reader (at reader (rows_for before) (Some (p, x ∷ [])) idle (on reader position) behind) rest
  place_turn before rows pending waiting position behind p x rest ok known none met =
      result_as reader rows pending waiting position behind x rest [] (held reader rows pending, value) none met
      ∙ ap₂ (λ (k : Kinds) (w : Walk). result_next reader k w rest)
      (place_fault reader position position p (held reader rows pending) known ∙ ok.no_fault)
      (place_walk reader position position p x rows pending waiting behind known
      ∙ ap (λ rs. at reader rs (Some (p, x ∷ [])) idle (on reader position) behind) ok.rows_are)

  pub reads_behind : (words : List Text) (before : List Use) (rows : List Row) (pending : Option (Text × List Text)) (waiting : Waiting) (position : ℕ) (places : List Text)
      → Settles before rows pending → HasPlaces reader.rules position places → result_at reader (at reader rows pending waiting position true) words ≡ gives before (read_places words places)
  reads_behind [] before rows pending waiting position places ok has = at_end before rows pending waiting position true ok
  reads_behind (x ∷ rest) before rows pending waiting position [] ok has =
      result_step reader rows pending waiting position true x rest ∙ next_fails reader _ _ rest (stray reader position (held reader rows pending) has)
  reads_behind (x ∷ rest) before rows pending waiting position (p ∷ ps) ok has =
      place_turn before rows pending waiting position true p x rest ok has.0 refl refl
      ∙ by (has_use p before) refl (λ new. reads_behind rest (before ++ use_of p x ∷ []) (rows_for before) (Some (p, x ∷ [])) idle (on reader position) ps (place_pending position p x before has.1 new) has.2)
    where
      by : (b : Bool) → has_use p before ≡ b
          → (has_use p before ≡ false → result_at reader (at reader (rows_for before) (Some (p, x ∷ [])) idle (on reader position) true) rest ≡ gives (before ++ use_of p x ∷ []) (read_places rest ps))
          → result_at reader (at reader (rows_for before) (Some (p, x ∷ [])) idle (on reader position) true) rest ≡ gives before (with_use (use_of p x) (read_places rest ps))
      by true e ih =
          broken_behind reader rest (rows_for before) (Some (p, x ∷ [])) idle (on reader position) ps has.2 (place_again position p x before has.1 e)
          ∙ sym (gives_again (use_of p x) (read_places rest ps) before e)
      by false e ih = ih e ∙ sym (gives_new (use_of p x) (read_places rest ps) before e)

  -- an option with a value, and a flag
  pub valued_turn : (before : List Use) (rows : List Row) (pending : Option (Text × List Text)) (position : ℕ) (x n v : Text) (rest : List Text)
      → Settles before rows pending → LooksLike x (named n (Some v)) → word_kind_in reader.grammar n ≡ valued → has_use n before ≡ false
      → result_at reader (at reader rows pending idle position false) (x ∷ rest) ≡ result_at reader (at reader (rows_for (before ++ use_of n v ∷ [])) None idle position false) rest
  valued_turn before rows pending position x n v rest ok like kind new =
      let h = held reader rows pending in
      let kinds : word_fault (s reader) [] false idle x h ≡ long_fault reader.rules false (rule_for valued n) (Some v) h =
      fault_named reader idle x n (Some v) h like ∙ ap (λ k. long_fault reader.rules false (rule_for k n) (Some v) h) kind in
      let met : word_met reader.rules [] false idle position x h ≡ (reacted reader.rules (option_rule n) (v ∷ []) h, next idle) =
      met_named reader idle position x n (Some v) h like
      ∙ ap (λ k. after_flag reader.rules idle x (long_met reader.rules (rule_for k n) (Some v) h).0 (long_met reader.rules (rule_for k n) (Some v) h).1) kind in
      let passes : use_fault false (option_rule n) (v ∷ []) (settled_rows reader.rules pending rows) ≡ [] =
      ap (λ rs. use_fault false (option_rule n) (v ∷ []) rs) ok.rows_are ∙ ap (λ k. or_else k []) (repeat_is n before false new) in
      result_as reader rows pending idle position false x rest _ _ kinds met
      ∙ ap₂ (λ (k : Kinds) (rs : List Row). result_next reader k (at reader rs None idle position false) rest)
      (ap₂ (λ (a b : Kinds). or_else (or_else a b) []) ok.no_fault passes)
      (ap (λ rs. used (option_rule n) (v ∷ []) rs) ok.rows_are ∙ used_new n v before new)

  pub bare_turn : (before : List Use) (rows : List Row) (pending : Option (Text × List Text)) (position : ℕ) (x n : Text) (rest : List Text)
      → Settles before rows pending → LooksLike x (named n None) → word_kind_in reader.grammar n ≡ bare → has_use n before ≡ false
      → result_at reader (at reader rows pending idle position false) (x ∷ rest) ≡ result_at reader (at reader (rows_for (before ++ use_of n (codes "true") ∷ [])) None idle position false) rest
  bare_turn before rows pending position x n rest ok like kind new =
      let h = held reader rows pending in
      let kinds : word_fault (s reader) [] false idle x h ≡ long_fault reader.rules false (rule_for bare n) None h =
      fault_named reader idle x n None h like ∙ ap (λ k. long_fault reader.rules false (rule_for k n) None h) kind in
      let met : word_met reader.rules [] false idle position x h ≡ (reacted reader.rules (flag_rule n) [] h, next idle) =
      met_named reader idle position x n None h like
      ∙ ap (λ k. after_flag reader.rules idle x (long_met reader.rules (rule_for k n) None h).0 (long_met reader.rules (rule_for k n) None h).1) kind in
      let passes : use_fault false (flag_rule n) [] (settled_rows reader.rules pending rows) ≡ [] =
      ap (λ rs. use_fault false (flag_rule n) [] rs) ok.rows_are ∙ ap (λ k. or_else k []) (repeat_is n before false new) in
      result_as reader rows pending idle position false x rest _ _ kinds met
      ∙ ap₂ (λ (k : Kinds) (rs : List Row). result_next reader k (at reader rs None idle position false) rest)
      (ap₂ (λ (a b : Kinds). or_else (or_else a b) []) ok.no_fault passes)
      (ap (λ rs. used (flag_rule n) [] rs) ok.rows_are ∙ used_new n (codes "true") before new)

  -- an option whose value is the next word
  pub waits_turn : (before : List Use) (rows : List Row) (pending : Option (Text × List Text)) (position : ℕ) (x n : Text) (rest : List Text)
      → Settles before rows pending → LooksLike x (named n None) → word_kind_in reader.grammar n ≡ valued
      → result_at reader (at reader rows pending idle position false) (x ∷ rest) ≡ result_at reader (at reader (rows_for before) (Some (n, [])) (option n) position false) rest
  waits_turn before rows pending position x n rest ok like kind =
      let h = held reader rows pending in
      let kinds : word_fault (s reader) [] false idle x h ≡ long_fault reader.rules false (rule_for valued n) None h =
      fault_named reader idle x n None h like ∙ ap (λ k. long_fault reader.rules false (rule_for k n) None h) kind in
      let met : word_met reader.rules [] false idle position x h ≡ (record (settled reader.rules h) { pending = Some (n, []) }, next (option n)) =
      met_named reader idle position x n None h like
      ∙ ap (λ k. after_flag reader.rules idle x (long_met reader.rules (rule_for k n) None h).0 (long_met reader.rules (rule_for k n) None h).1) kind in
      result_as reader rows pending idle position false x rest _ _ kinds met
      ∙ ap₂ (λ (k : Kinds) (rs : List Row). result_next reader k (at reader rs (Some (n, [])) (option n) position false) rest)
      (ap (λ k. or_else k []) ok.no_fault) ok.rows_are

  -- the use repeats a name
  pub long_again : (before : List Use) (rows : List Row) (pending : Option (Text × List Text)) (n v : Text)
      → Settles before rows pending → has_use n before ≡ true → IsFault (long_fault reader.rules false (rule_for valued n) (Some v) (held reader rows pending))
  long_again before rows pending n v ok old =
      let is : long_fault reader.rules false (rule_for valued n) (Some v) (held reader rows pending) ≡ ArgumentConflict ∷ [] =
      ap₂ (λ (a : Kinds) (rs : List Row). or_else a (use_fault false (option_rule n) (v ∷ []) rs)) ok.no_fault ok.rows_are
      ∙ ap (λ x. or_else x []) (repeat_is n before true old) in
      subst IsFault (sym is) tt

  pub bare_again : (before : List Use) (rows : List Row) (pending : Option (Text × List Text)) (n : Text)
      → Settles before rows pending → has_use n before ≡ true → IsFault (long_fault reader.rules false (rule_for bare n) None (held reader rows pending))
  bare_again before rows pending n ok old =
      let is : long_fault reader.rules false (rule_for bare n) None (held reader rows pending) ≡ ArgumentConflict ∷ [] =
      ap₂ (λ (a : Kinds) (rs : List Row). or_else a (use_fault false (flag_rule n) [] rs)) ok.no_fault ok.rows_are
      ∙ ap (λ x. or_else x []) (repeat_is n before true old) in
      subst IsFault (sym is) tt

  -- an option that waits for its value
  pub no_value : (n : Text) (rows : List Row) → arg_by_id reader.rules n ≡ Some (option_rule n) → IsFault (settle_fault reader.rules false (held reader rows (Some (n, []))))
  no_value n rows known = subst IsFault (sym (ap (λ o. option_map_or (λ a. use_fault false a [] rows) o []) known)) tt

  pub value_turn : (rows : List Row) (position : ℕ) (x n : Text) (rest : List Text) → LooksLike x plain → arg_by_id reader.rules n ≡ Some (option_rule n)
      → result_at reader (at reader rows (Some (n, [])) (option n) position false) (x ∷ rest) ≡ result_at reader (at reader rows (Some (n, x ∷ [])) idle position false) rest
  value_turn rows position x n rest like known =
      let h = held reader rows (Some (n, [])) in
      let met : word_met reader.rules [] false (option n) position x h ≡ (held reader rows (Some (n, x ∷ [])), next idle) =
      met_plain reader (option n) position x h like
      ∙ ap (λ o. ((option_word o n x h).0, next (option_word o n x h).1)) known
      ∙ ap (λ b. (held reader rows (Some (n, x ∷ [])), next (cond (nat_lt (cond b 1 0) 1) (option n) idle))) (bytes_same n) in
      result_as reader rows (Some (n, [])) (option n) position false x rest [] _ (fault_plain reader (option n) x h like) met
