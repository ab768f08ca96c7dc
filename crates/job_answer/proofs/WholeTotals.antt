-- The totals of parts come to what all their entries come to.
use Rattle.std.specs.Prelude.{◌≡◌, List, [], ◌∷◌, ◌++◌, map}
use Rattle.std.proofs.Common.{refl, sym, ap, ◌∙◌}
use Rattle.std.proofs.lemmas.List.{append-nil, append_assoc}
use Rattle.aggregate.specs.Rows.{TotalsAscend}
use Rattle.aggregate.specs.Totals.{Entry, TotalsStayEqual, total}
use Rattle.aggregate.specs.declared.kind.Kind.{Kind}
use Rattle.run_file.specs.Several.{concatenated}

-- lists of equal total stay equal before any rest
pub before_rest : (kind : Kind) → TotalsStayEqual kind → (entries others rest : List Entry) → total kind entries ≡ total kind others → total kind (entries ++ rest) ≡ total kind (others ++ rest)
before_rest kind stay entries others [] same = ap (total kind) (append-nil entries) ∙ same ∙ sym (ap (total kind) (append-nil others))
before_rest kind stay entries others (x ∷ rest) same =
    ap (total kind) (sym (append_assoc entries (x ∷ []) rest))
    ∙ before_rest kind stay (entries ++ x ∷ []) (others ++ x ∷ []) rest (stay.with_last entries others x same)
    ∙ ap (total kind) (append_assoc others (x ∷ []) rest)

pub parts_total : (kind : Kind) → TotalsStayEqual kind → TotalsAscend kind → (parts : List (List Entry)) → total kind (concatenated (map (total kind) parts)) ≡ total kind (concatenated parts)
parts_total kind stay ascend [] = refl
parts_total kind stay ascend (part ∷ parts) =
    before_rest kind stay (total kind part) part (concatenated (map (total kind) parts)) (ascend.alone (total kind part) (ascend.ascends part))
    ∙ stay.behind part (concatenated (map (total kind) parts)) (concatenated parts) (parts_total kind stay ascend parts)
