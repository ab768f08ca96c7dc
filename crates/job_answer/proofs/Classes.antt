-- Groups of rows by plain insertion: each group once, ascending, with its rows in their order.
use Rattle.std.proofs.Common.{◌≡◌, ◌∙◌, false, cond, List, [], ◌∷◌, map, length, refl, sym, ap, arith, inl, inr}
use Rattle.std.specs.Prelude.{⊤}
use Rattle.std.specs.Cmp.{Equal-is, IsTotalOrder}
use Rattle.std.specs.Cmp.Lexicographic.{lists_total}
use Rattle.std.specs.FinMap.{empty, entries, entries-insert, from_entries, len-empty, len-entries, nat_cmp-IsAntisymmetric, slice_cmp-IsAntisymmetric}
use Rattle.std.specs.FinMap.Entries.{by_order, put}
use Rattle.std.specs.List.{AllByRecursion, filter}
use Rattle.std.specs.Ordering.{is_eq, ordering_reverse}
use Rattle.std.specs.declared.cmp.Ordering.{Ordering}
use Rattle.std.specs.declared.cmp.Ordering.TheVariants.{Less, Equal, Greater}
use Rattle.std.proofs.lemmas.Bool.{cases_Bool}
use Rattle.std.proofs.lemmas.Cmp.{nat_list_cmp_total, tied_itself}
use Rattle.job_plan.specs.Columns.{Fields}
use Rattle.job_answer.specs.Answer.{fields_cmp}

-- a group and its rows: the first of them and the others
pub record Class : Type 0 where
  pub group : Fields
  pub first : Fields
  pub rest : List Fields

abbrev pub rows_in : Class → List Fields
rows_in c = c.first ∷ c.rest

pub fields-total : IsTotalOrder fields_cmp
fields-total = lists_total nat_list_cmp_total

pub same-fields : (a b : Fields) → fields_cmp a b ≡ Equal → a ≡ b
same-fields a b e = slice_cmp-IsAntisymmetric (slice_cmp-IsAntisymmetric nat_cmp-IsAntisymmetric) a b e

turned : (a b : Fields) (o : Ordering) → fields_cmp a b ≡ o → fields_cmp b a ≡ ordering_reverse o
turned a b o e = fields-total.antisymm b a ∙ ap ordering_reverse e

-- ---- classes that rise

-- the group stands below all classes
abbrev pub Above : Fields → List Class → Type 0
Above x cs = AllByRecursion (λ c. fields_cmp x c.group ≡ Less) cs

abbrev pub Rising : List Class → Type 0
Rising [] = ⊤
Rising (c ∷ cs) = Above c.group cs × Rising cs

above-less : (x y : Fields) (cs : List Class) → fields_cmp x y ≡ Less → Above y cs → Above x cs
above-less x y [] h all = tt
above-less x y (c ∷ cs) h all = (fields-total.trans x y c.group h all.0, above-less x y cs h all.1)

-- the rows of a group, by its class
abbrev pub rows_at : Fields → List Class → List Fields
rows_at q [] = []
rows_at q (c ∷ cs) = cond (is_eq (fields_cmp c.group q)) (rows_in c) (rows_at q cs)

none-below : (q : Fields) (cs : List Class) → Above q cs → rows_at q cs ≡ []
none-below q [] all = refl
none-below q (c ∷ cs) all =
    let past : fields_cmp c.group q ≡ Greater = turned q c.group Less all.0 in
    rw past (none-below q cs all.1)

-- ---- each class is found by its group

pub all-weaker : {X : Type 0} (P Q : X → Type 0) → ((x : X) → P x → Q x) → (xs : List X) → AllByRecursion P xs → AllByRecursion Q xs
all-weaker P Q more [] all = tt
all-weaker P Q more (x ∷ xs) all = (more x all.0, all-weaker P Q more xs all.1)

found-later : (c : Class) (cs others : List Class) → Above c.group others → AllByRecursion (λ d. rows_at d.group cs ≡ rows_in d) others
    → AllByRecursion (λ d. rows_at d.group (c ∷ cs) ≡ rows_in d) others
found-later c cs [] above all = tt
found-later c cs (d ∷ ds) above all = (rw above.0 all.0, found-later c cs ds above.1 all.1)

all-found : (cs : List Class) → Rising cs → AllByRecursion (λ c. rows_at c.group cs ≡ rows_in c) cs
all-found [] up = tt
all-found (c ∷ cs) up = (rw (tied_itself fields-total c.group) refl, found-later c cs cs up.0 (all-found cs up.1))

no-length : {A : Type 0} (es : List A) → length es ≡ 0 → es ≡ []
no-length [] e = refl
no-length (x ∷ es) e = absurd (omega arith)

no-entries : (X : Type 0) → entries (empty {X = X} {R = fields_cmp}) ≡ []
no-entries X = no-length _ (sym (len-entries (empty {X = X} {R = fields_cmp})) ∙ len-empty fields_cmp X)

module _ (g : Fields → Fields) where
  -- a row joined to the classes of later ones
  abbrev pub class_at : Ordering → Fields → Class → List Class → List Class → List Class
  class_at Less row c cs later = record { group = g row; first = row; rest = [] } ∷ (c ∷ cs)
  class_at Equal row c cs later = record { group = c.group; first = row; rest = c.first ∷ c.rest } ∷ cs
  class_at Greater row c cs later = c ∷ later

  abbrev pub insert_class : Fields → List Class → List Class
  insert_class row [] = record { group = g row; first = row; rest = [] } ∷ []
  insert_class row (c ∷ cs) = class_at (fields_cmp (g row) c.group) row c cs (insert_class row cs)

  abbrev pub classes : List Fields → List Class
  classes [] = []
  classes (row ∷ rows) = insert_class row (classes rows)

  above-at : (y row : Fields) (c : Class) (cs later : List Class) (o : Ordering) → fields_cmp y (g row) ≡ Less → Above y (c ∷ cs) → Above y later
      → Above y (class_at o row c cs later)
  above-at y row c cs later Less h all rec = (h, all)
  above-at y row c cs later Equal h all rec = all
  above-at y row c cs later Greater h all rec = (all.0, rec)

  above-insert : (y row : Fields) (cs : List Class) → fields_cmp y (g row) ≡ Less → Above y cs → Above y (insert_class row cs)
  above-insert y row [] h all = (h, tt)
  above-insert y row (c ∷ cs) h all = above-at y row c cs (insert_class row cs) (fields_cmp (g row) c.group) h all (above-insert y row cs h all.1)

  rising-at : (row : Fields) (c : Class) (cs : List Class) (o : Ordering) → fields_cmp (g row) c.group ≡ o → Rising (c ∷ cs) → Rising (insert_class row cs)
      → Rising (class_at o row c cs (insert_class row cs))
  rising-at row c cs Less h up rec = ((h, above-less (g row) c.group cs h up.0), up)
  rising-at row c cs Equal h up rec = up
  rising-at row c cs Greater h up rec = (above-insert c.group row cs (turned (g row) c.group Greater h) up.0, rec)

  rising-insert : (row : Fields) (cs : List Class) → Rising cs → Rising (insert_class row cs)
  rising-insert row [] up = (tt, tt)
  rising-insert row (c ∷ cs) up = rising-at row c cs (fields_cmp (g row) c.group) refl up (rising-insert row cs up.1)

  pub rising : (rows : List Fields) → Rising (classes rows)
  rising [] = tt
  rising (row ∷ rows) = rising-insert row (classes rows) (rising rows)

  -- ---- the rows of each class are those of its group

  member-at : (q row : Fields) (c : Class) (cs : List Class) (o : Ordering) → fields_cmp (g row) c.group ≡ o → Rising (c ∷ cs)
      → rows_at q (insert_class row cs) ≡ cond (is_eq (fields_cmp (g row) q)) (row ∷ rows_at q cs) (rows_at q cs)
      → rows_at q (class_at o row c cs (insert_class row cs)) ≡ cond (is_eq (fields_cmp (g row) q)) (row ∷ rows_at q (c ∷ cs)) (rows_at q (c ∷ cs))
  member-at q row c cs Less h up rec = elim (cases_Bool (is_eq (fields_cmp (g row) q))) [
    | inl here ↦
        let same : g row ≡ q = same-fields (g row) q ((Equal-is (fields_cmp (g row) q)).0 here) in
        let none : rows_at q (c ∷ cs) ≡ [] = ap (λ (x : Fields). rows_at x (c ∷ cs)) (sym same) ∙ none-below (g row) (c ∷ cs) (h, above-less (g row) c.group cs h up.0) in
        rw here (ap (λ (rows : List Fields). row ∷ rows) (sym none))
    | inr past ↦ rw past refl
  ]
  member-at q row c cs Equal h up rec =
      let same : is_eq (fields_cmp (g row) q) ≡ is_eq (fields_cmp c.group q) = ap (λ (x : Fields). is_eq (fields_cmp x q)) (same-fields (g row) c.group h) in
      elim (cases_Bool (is_eq (fields_cmp c.group q))) [
        | inl here ↦ rw (same, here) refl
        | inr past ↦ rw (same, past) refl
      ]
  member-at q row c cs Greater h up rec = elim (cases_Bool (is_eq (fields_cmp c.group q))) [
    | inl here ↦
        let same : c.group ≡ q = same-fields c.group q ((Equal-is (fields_cmp c.group q)).0 here) in
        let other : is_eq (fields_cmp (g row) q) ≡ false = ap (λ (x : Fields). is_eq (fields_cmp (g row) x)) (sym same) ∙ ap is_eq h in
        rw (here, other) refl
    | inr past ↦ rw past rec
  ]

  member-insert : (q row : Fields) (cs : List Class) → Rising cs
      → rows_at q (insert_class row cs) ≡ cond (is_eq (fields_cmp (g row) q)) (row ∷ rows_at q cs) (rows_at q cs)
  member-insert q row [] up = refl
  member-insert q row (c ∷ cs) up = member-at q row c cs (fields_cmp (g row) c.group) refl up (member-insert q row cs up.1)

  rows-of_group : (q : Fields) (rows : List Fields) → rows_at q (classes rows) ≡ filter (λ row. is_eq (fields_cmp (g row) q)) rows
  rows-of_group q [] = refl
  rows-of_group q (row ∷ rows) =
      member-insert q row (classes rows) (rising rows)
      ∙ ap (λ (rs : List Fields). cond (is_eq (fields_cmp (g row) q)) (row ∷ rs) rs) (rows-of_group q rows)

  -- a class has all rows of its group
  abbrev pub IsWhole : List Fields → Class → Type 0
  IsWhole rows c = rows_in c ≡ filter (λ row. is_eq (fields_cmp (g row) c.group)) rows

  pub all-whole : (rows : List Fields) → AllByRecursion (IsWhole rows) (classes rows)
  all-whole rows =
      all-weaker (λ c. rows_at c.group (classes rows) ≡ rows_in c) (IsWhole rows) (λ c found. sym found ∙ rows-of_group c.group rows)
      (classes rows)
      (all-found (classes rows) (rising rows))

  -- ---- what is true of the group of each row is true of each class

  group-at : (P : Fields → Type 0) (row : Fields) (c : Class) (cs later : List Class) (o : Ordering) → P (g row) → AllByRecursion (λ d. P d.group) (c ∷ cs) → AllByRecursion (λ d. P d.group) later
      → AllByRecursion (λ d. P d.group) (class_at o row c cs later)
  group-at P row c cs later Less h all rec = (h, all)
  group-at P row c cs later Equal h all rec = all
  group-at P row c cs later Greater h all rec = (all.0, rec)

  group-insert : (P : Fields → Type 0) (row : Fields) (cs : List Class) → P (g row) → AllByRecursion (λ d. P d.group) cs → AllByRecursion (λ d. P d.group) (insert_class row cs)
  group-insert P row [] h all = (h, tt)
  group-insert P row (c ∷ cs) h all = group-at P row c cs (insert_class row cs) (fields_cmp (g row) c.group) h all (group-insert P row cs h all.1)

  pub all-groups : (P : Fields → Type 0) → ((row : Fields) → P (g row)) → (rows : List Fields) → AllByRecursion (λ d. P d.group) (classes rows)
  all-groups P h [] = tt
  all-groups P h (row ∷ rows) = group-insert P row (classes rows) (h row) (all-groups P h rows)

  -- ---- the map of the groups has the classes' groups

  module _ {X : Type 0} (t : Fields → X) where
    put-at : (row : Fields) (c : Class) (cs : List Class) (o : Ordering) → fields_cmp (g row) c.group ≡ o
        → put fields_cmp (g row) (t (g row)) (map (λ d. (d.group, t d.group)) cs) ≡ map (λ d. (d.group, t d.group)) (insert_class row cs)
        → by_order o
        ((g row, t (g row)) ∷ (c.group, t c.group) ∷ map (λ d. (d.group, t d.group)) cs)
        ((c.group, t (g row)) ∷ map (λ d. (d.group, t d.group)) cs)
        ((c.group, t c.group) ∷ put fields_cmp (g row) (t (g row)) (map (λ d. (d.group, t d.group)) cs))
        ≡ map (λ d. (d.group, t d.group)) (class_at o row c cs (insert_class row cs))
    put-at row c cs Less h rec = refl
    put-at row c cs Equal h rec = ap (λ (x : X). (c.group, x) ∷ map (λ d. (d.group, t d.group)) cs) (ap t (same-fields (g row) c.group h))
    put-at row c cs Greater h rec = ap (λ (es : List (Fields × X)). (c.group, t c.group) ∷ es) rec

    put-class : (row : Fields) (cs : List Class)
        → put fields_cmp (g row) (t (g row)) (map (λ d. (d.group, t d.group)) cs) ≡ map (λ d. (d.group, t d.group)) (insert_class row cs)
    put-class row [] = refl
    put-class row (c ∷ cs) = put-at row c cs (fields_cmp (g row) c.group) refl (put-class row cs)

    pub entries-classes : (rows : List Fields) → entries (from_entries {R = fields_cmp} (map (λ row. (g row, t (g row))) rows)) ≡ map (λ c. (c.group, t c.group)) (classes rows)
    entries-classes [] = no-entries X
    entries-classes (row ∷ rows) =
        entries-insert fields-total (from_entries (map (λ r. (g r, t (g r))) rows)) (g row) (t (g row))
        ∙ ap (put fields_cmp (g row) (t (g row))) (entries-classes rows)
        ∙ put-class row (classes rows)
