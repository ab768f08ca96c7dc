-- Filling up what is kept of a file: the bytes that are ahead stay, and the front of them is there then.
use Rattle.std.proofs.Common.{◌≡◌, ℕ, zero, suc, ◌+◌, ◌-◌, ◌≤◌, min, List, [], ◌∷◌, ◌++◌, length, take, drop, Option, Some, None, refl, sym, ap, subst, ◌∙◌, append_assoc, arith, inl, inr, ◌⊎◌}
use Rattle.std.specs.Prelude.{IfSome}
use Rattle.std.proofs.lemmas.Bool.Decides.{leb_tells}
use Rattle.std.proofs.lemmas.List.{drop-take, drop-drop, drop_all, append-nil, length-append, length-take, length-drop, take_at, take_all}
use Rattle.std.proofs.Math.Seq.{take-append-add}
use Rattle.row_page.proofs.Fronts.{one_front, front-append}
use Rattle.row_page.specs.Grammar.{IsPieceThen, IsRow}
use Rattle.spill_disk.specs.Files.{Files, bytes_of}
use Rattle.run_file.specs.declared.run.Run.{Run}
use Rattle.row_form.specs.declared.form.Form.{Form}
use Rattle.run_file.specs.Readers.{Kept, ahead_of, most_kept}
use Rattle.run_file.specs.Filling.{ReadsMore, ShowsFront}
use Rattle.run_file.specs.Filling.{has_piece, is_full}
use Rattle.run_file.specs.Reading.{BeginsDamaged}
use Rattle.row_form.proofs.Formed.{row_long}
use Rattle.run_file.proofs.Keeping.{take_take}

-- what was taken, and what is behind it
taken : (w : ℕ) (xs : List ℕ) → take w xs ++ drop (length (take w xs)) xs ≡ xs
taken zero xs = refl
taken (suc w) [] = refl
taken (suc w) (x ∷ xs) = ap (λ (l : List ℕ). x ∷ l) (taken w xs)

-- a read within the run's bytes sees those alone
within : (F : List ℕ) (B at k : ℕ) → at + k ≤ B → take k (drop at (take B F)) ≡ take k (drop at F)
within F B at k le =
    let on : B ≡ at + (B - at) = omega (arith, le) in
    ap (λ (n : ℕ). take k (drop at (take n F))) on ∙ ap (take k) (drop-take at (B - at) F) ∙ take_take k (B - at) (drop at F) (omega (arith, le))

-- what was read goes from the file to what is kept
moved : (F rest : List ℕ) (B at w : ℕ) → at + w ≤ B → (rest ++ take w (drop at F)) ++ drop (at + length (take w (drop at F))) (take B F) ≡ rest ++ drop at (take B F)
moved F rest B at w le =
    let A = take B F in
    let given = take w (drop at F) in
    let same : take w (drop at A) ≡ given = within F B at w le in
    let back : drop (at + length given) A ≡ drop (length (take w (drop at A))) (drop at A) = sym (drop-drop (length given) at A) ∙ ap (λ (g : List ℕ). drop (length g) (drop at A)) (sym same) in
    append_assoc rest given (drop (at + length given) A)
    ∙ ap (λ (t : List ℕ). rest ++ t) (ap (λ (t : List ℕ). given ++ t) back ∙ ap (λ (g : List ℕ). g ++ drop (length (take w (drop at A))) (drop at A)) (sym same) ∙ taken w (drop at A))

-- after a read as many are kept as may be, or nothing is behind them
ends : (F : List ℕ) (B at w most have : ℕ) → at ≤ B → have ≤ most → w ≡ min (B - at) (most - have)
    → (have + length (take w (drop at F)) ≡ most) ⊎ (drop (at + length (take w (drop at F))) (take B F) ≡ [])
ends F B at w most have inside bound w_is =
    let g = length (take w (drop at F)) in
    let g_is : g ≡ min w (length F - at) = omega (arith, length-take w (drop at F), length-drop at F) in
    elim (leb_tells (length (take B F)) (at + g)) [
      | inl short ↦ inr (drop_all (at + g) (take B F) short.1)
      | inr long ↦ inl (omega (arith, long.1, length-take B F, g_is, w_is, inside, bound))
    ]

pub ahead_stays : (files : Option Files) (run : Run) (before after : Kept) (w : ℕ) → before.at + w ≤ run.bytes → before.count ≡ length before.rest → after.count ≡ length after.rest
    → after.at + before.count ≡ before.at + after.count → ReadsMore files run.file before.at w before.rest after.rest → ahead_of files run after ≡ ahead_of files run before
ahead_stays None run before after w le counted counted' place read = refl
ahead_stays (Some files) run before after w le counted counted' place read =
    let F = bytes_of files run.file in
    let given = take w (drop before.at F) in
    let at_is : after.at ≡ before.at + length given = omega (arith, place, counted, counted', ap length read, length-append before.rest given) in
    ap Some (ap (λ (r : List ℕ). r ++ drop after.at (take run.bytes F)) read ∙ ap (λ (n : ℕ). (before.rest ++ given) ++ drop n (take run.bytes F)) at_is ∙ moved F before.rest run.bytes before.at w le)

pub front_shown : (files : Option Files) (run : Run) (before after : Kept) (w : ℕ) → before.at ≤ run.bytes → before.count ≤ most_kept run → w ≡ min (run.bytes - before.at) (most_kept run - before.count)
    → before.count ≡ length before.rest → after.count ≡ length after.rest → after.at + before.count ≡ before.at + after.count
    → ReadsMore files run.file before.at w before.rest after.rest → IfSome (ahead_of files run after) (ShowsFront run after.rest)
front_shown None run before after w inside bound w_is counted counted' place read = tt
front_shown (Some files) run before after w inside bound w_is counted counted' place read =
    let F = bytes_of files run.file in
    let A = take run.bytes F in
    let given = take w (drop before.at F) in
    let at_is : after.at ≡ before.at + length given = omega (arith, place, counted, counted', ap length read, length-append before.rest given) in
    let long : length after.rest ≡ before.count + length given = omega (arith, counted, ap length read, length-append before.rest given) in
    is_full (elim (ends F run.bytes before.at w (most_kept run) before.count inside bound w_is) [
      | inl full ↦ sym (take_at after.rest (drop after.at A) (most_kept run) (long ∙ full))
      | inr none ↦
          let all : after.rest ++ drop after.at A ≡ after.rest = ap (λ (t : List ℕ). after.rest ++ t) (ap (λ (n : ℕ). drop n A) at_is ∙ none) ∙ append-nil after.rest in
          let fits : length after.rest ≤ most_kept run = omega (arith, long, w_is, bound, length-take w (drop before.at F)) in
          sym (ap (take (most_kept run)) all ∙ take_all (most_kept run) after.rest fits)
    ])

-- a piece at the front of bytes is at that of each long enough part of them
pub front_cut : (n : ℕ) (bytes piece behind : List ℕ) → IsPieceThen bytes piece behind → 4 + length piece ≤ n → (rest : List ℕ) × IsPieceThen (take n bytes) piece rest
front_cut n [] piece behind h le = absurd h
front_cut n (a ∷ []) piece behind h le = absurd h
front_cut n (a ∷ b ∷ []) piece behind h le = absurd h
front_cut n (a ∷ b ∷ c ∷ []) piece behind h le = absurd h
front_cut zero (a ∷ b ∷ c ∷ d ∷ bytes) piece behind h le = absurd (omega (arith, le))
front_cut (suc zero) (a ∷ b ∷ c ∷ d ∷ bytes) piece behind h le = absurd (omega (arith, le))
front_cut (suc (suc zero)) (a ∷ b ∷ c ∷ d ∷ bytes) piece behind h le = absurd (omega (arith, le))
front_cut (suc (suc (suc zero))) (a ∷ b ∷ c ∷ d ∷ bytes) piece behind h le = absurd (omega (arith, le))
front_cut (suc (suc (suc (suc n)))) (a ∷ b ∷ c ∷ d ∷ bytes) piece behind h le =
    let m = n - length piece in
    let on : n ≡ length piece + m = omega (arith, le) in
    (take m behind, (h.0, ap (take n) h.1 ∙ ap (λ (k : ℕ). take k (piece ++ behind)) on ∙ take-append-add piece behind m))

-- where the front shows no well-formed row, none is ahead
pub front_tells : (run : Run) (form : Form) (front all : List ℕ) → ShowsFront run front all → BeginsDamaged form run.greatest front → BeginsDamaged form run.greatest all
front_tells run form front all (has_piece more is piece) damaged = λ row enc behind here spelled formed.
    let longer = subst (λ (t : List ℕ). IsPieceThen t piece.0 (piece.1 ++ more)) (sym is) (front-append front piece.0 piece.1 more piece.2) in
    let same = one_front all enc piece.0 behind (piece.1 ++ more) here longer in
    damaged row piece.0 piece.1 piece.2 (subst (λ (t : List ℕ). IsRow t row) same.0 spelled) formed
front_tells run form front all (is_full is) damaged = λ row enc behind here spelled formed.
    let long = row_long enc row spelled in
    let cut = front_cut (most_kept run) all enc behind here (omega (arith, long, formed.cost, spelled.short)) in
    damaged row enc cut.0 (subst (λ (t : List ℕ). IsPieceThen t enc cut.0) (sym is) cut.1) spelled formed

-- the same rest before the same place
pub same_ahead : (files : Option Files) (run : Run) (before after : Kept) → after.rest ≡ before.rest → after.at ≡ before.at → ahead_of files run after ≡ ahead_of files run before
same_ahead files run before after rest at = rw (rest, at) refl

-- a whole piece is shown
pub piece_shown : (files : Option Files) (run : Run) (kept : Kept) (piece behind : List ℕ) → IsPieceThen kept.rest piece behind → IfSome (ahead_of files run kept) (ShowsFront run kept.rest)
piece_shown None run kept piece behind here = tt
piece_shown (Some files) run kept piece behind here = has_piece (drop kept.at (take run.bytes (bytes_of files run.file))) refl (piece, behind, here)
