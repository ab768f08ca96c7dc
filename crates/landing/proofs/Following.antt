-- Records that are taken in hand, checked and landed one by one.
use Rattle.std.proofs.Common.{◌≡◌, ◌+◌, ◌∷◌, ◌++◌, ◌∙◌, [], ℕ, suc, List, Option, Some, None, Bool, true, false, length, refl, sym, ap, arith, append_assoc}
use Rattle.std.specs.Prelude.{IfSome, if◌then◌else◌}
use Rattle.std.proofs.lemmas.List.{append-nil, length-append}
use Rattle.csv.specs.Records.{Row, fields_of}
use Rattle.byte_io.specs.Records.{GivesRow}
use Rattle.job_plan.specs.Columns.{Fields}
use Rattle.job_plan.specs.Plans.{places_in}
use Rattle.job_plan.specs.Rows.{landed_row, landed_rows}
use Rattle.landing.specs.Ruling.{ArePassed, Follows, ahead, first_refusal_in, refusal_in, row_in, rows_in}
use Rattle.landing.specs.declared.fault.LandFault.{LandFault}
use Rattle.landing.specs.declared.rules.Rules.{Rules}

-- ---- landed rows

rows_length : (places : List ℕ) (n : ℕ) (rows : List Fields) → length (landed_rows places n rows) ≡ length rows
rows_length places n [] = refl
rows_length places n (row ∷ rows) = ap (λ (k : ℕ). suc k) (rows_length places (n + 1) rows)

rows_append : (places : List ℕ) (n m : ℕ) (first next : List Fields) → m ≡ n + length first → landed_rows places n (first ++ next) ≡ landed_rows places n first ++ landed_rows places m next
rows_append places n m [] next e = ap (λ (k : ℕ). landed_rows places k next) (omega (arith, e))
rows_append places n m (row ∷ first) next e = ap (λ (rest : List Fields). landed_row places n row ∷ rest) (rows_append places (n + 1) m first next (omega (arith, e)))

-- ---- one record after another

pub follows_start : (rules : Rules) (m : ℕ) (o : Option (List Fields)) → Follows rules m [] o o
follows_start rules m None = tt
follows_start rules m (Some all) = record { seen = []; parts = refl; pass = ap (λ (k : ℕ). first_refusal_in rules k all) (omega arith); are = refl }

-- the next record is taken in hand
pub follows_read : (rules : Rules) (m : ℕ) (landed : List Fields) (all before after : Option (List Fields)) (more : Bool) (row : Row)
    → Follows rules m landed all before → GivesRow before after (if more then Some row else None) → Follows rules m landed all (ahead more row after)
follows_read rules m landed None before after more row f g = tt
follows_read rules m landed (Some all) None after more row f g = absurd f
follows_read rules m landed (Some all) (Some rows) None true row f g = absurd g
follows_read rules m landed (Some all) (Some rows) None false row f g = absurd g
follows_read rules m landed (Some all) (Some rows) (Some rest) true row f g = rw (← g) f
follows_read rules m landed (Some all) (Some rows) (Some rest) false row f g = rw (← g.0) f

-- it passes, and its landed row is put to the others
pub follows_more : (rules : Rules) (m n : ℕ) (landed : List Fields) (all rest : Option (List Fields)) (row : Row) → n ≡ m + length landed
    → Follows rules m landed all (ahead true row rest) → refusal_in rules n (fields_of row) ≡ None → Follows rules m (landed ++ row_in rules n (fields_of row) ∷ []) all rest
unfolding first_refusal_in
follows_more rules m n landed None rest row at f e = tt
follows_more rules m n landed (Some all) None row at f e = absurd f
follows_more rules m n landed (Some all) (Some rest) row at f e =
    let places = places_in rules.plan in
    let more = row_in rules n (fields_of row) in
    let several : length landed ≡ length f.seen = ap length f.are ∙ rows_length places m f.seen in
    let next : n + 1 ≡ m + length (landed ++ more ∷ []) = omega (arith, at, length-append landed (more ∷ [])) in
    let here : first_refusal_in rules (m + length landed) (fields_of row ∷ rest) ≡ first_refusal_in rules n (fields_of row ∷ rest) = ap (λ (k : ℕ). first_refusal_in rules k (fields_of row ∷ rest)) (sym at) in
    record {
      seen = f.seen ++ fields_of row ∷ [];
      parts = f.parts ∙ sym (append_assoc f.seen (fields_of row ∷ []) rest);
      pass = f.pass ∙ here ∙ rw e (ap (λ (k : ℕ). first_refusal_in rules k rest) next);
      are = ap (λ (rows : List Fields). rows ++ more ∷ []) f.are ∙ sym (rows_append places m n f.seen (fields_of row ∷ []) (omega (arith, at, several)));
    }

-- it doesn't pass
pub follows_refused : (rules : Rules) (m n : ℕ) (landed : List Fields) (all rest : Option (List Fields)) (row : Row) (why : LandFault) → n ≡ m + length landed
    → Follows rules m landed all (ahead true row rest) → refusal_in rules n (fields_of row) ≡ Some why → IfSome all (λ rows. first_refusal_in rules m rows ≡ Some why)
unfolding first_refusal_in
follows_refused rules m n landed None rest row why at f e = tt
follows_refused rules m n landed (Some all) None row why at f e = absurd f
follows_refused rules m n landed (Some all) (Some rest) row why at f e =
    let here : first_refusal_in rules (m + length landed) (fields_of row ∷ rest) ≡ first_refusal_in rules n (fields_of row ∷ rest) = ap (λ (k : ℕ). first_refusal_in rules k (fields_of row ∷ rest)) (sym at) in
    f.pass ∙ here ∙ rw e refl

-- ---- one partition after another

pub follows_trans : (rules : Rules) (m n : ℕ) (first next : List Fields) (a b c : Option (List Fields)) → n ≡ m + length first
    → Follows rules m first a b → Follows rules n next b c → Follows rules m (first ++ next) a c
follows_trans rules m n first next None b c at f g = tt
follows_trans rules m n first next (Some all) None c at f g = absurd f
follows_trans rules m n first next (Some all) (Some rows) None at f g = absurd g
follows_trans rules m n first next (Some all) (Some rows) (Some rest) at f g =
    let places = places_in rules.plan in
    let several : length first ≡ length f.seen = ap length f.are ∙ rows_length places m f.seen in
    record {
      seen = f.seen ++ g.seen;
      parts = f.parts ∙ ap (λ (rows : List Fields). f.seen ++ rows) g.parts ∙ sym (append_assoc f.seen g.seen rest);
      pass = f.pass ∙ ap (λ (k : ℕ). first_refusal_in rules k rows) (sym at) ∙ g.pass ∙ ap (λ (k : ℕ). first_refusal_in rules k rest) (omega (arith, at, length-append first next));
      are = ap (λ (rows : List Fields). rows ++ next) f.are ∙ ap (λ (rows : List Fields). rows_in rules m f.seen ++ rows) g.are ∙ sym (rows_append places m n f.seen g.seen (omega (arith, at, several)));
    }

pub refused_behind : (rules : Rules) (m n : ℕ) (landed : List Fields) (a b : Option (List Fields)) (why : LandFault) → n ≡ m + length landed
    → Follows rules m landed a b → IfSome b (λ rows. first_refusal_in rules n rows ≡ Some why) → IfSome a (λ rows. first_refusal_in rules m rows ≡ Some why)
refused_behind rules m n landed None b why at f e = tt
refused_behind rules m n landed (Some all) None why at f e = absurd f
refused_behind rules m n landed (Some all) (Some rest) why at f e = f.pass ∙ ap (λ (k : ℕ). first_refusal_in rules k rest) (sym at) ∙ e

-- the end
pub follows_end : (rules : Rules) (m : ℕ) (landed : List Fields) (all rest : Option (List Fields)) (more : Bool) (row : Row)
    → more ≡ false → Follows rules m landed all (ahead more row rest) → IfSome all (ArePassed rules m landed)
unfolding first_refusal_in
follows_end rules m landed None rest more row over f = tt
follows_end rules m landed (Some all) rest true row over f = cc over
follows_end rules m landed (Some all) rest false row over f =
    let whole : all ≡ f.seen = f.parts ∙ append-nil f.seen in
    record { pass = f.pass; are = f.are ∙ ap (rows_in rules m) (sym whole) }
