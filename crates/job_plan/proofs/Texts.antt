-- Lists in a plan's text, with one item more.
use Rattle.std.proofs.Common.{◌≡◌, ◌<◌, ◌+◌, ◌∙◌, ℕ, List, [], ◌∷◌, ◌++◌, length, map, get_or, take, refl, sym, ap, append_assoc, arith}
use Rattle.std.specs.List.{flat_map, range_with_len}
use Rattle.std.proofs.lemmas.List.{append-nil, length-map, length-take, map-id, map_more}
use Rattle.std.proofs.lemmas.List.Concat.{flat_map-append}
use Rattle.std.proofs.lemmas.List.FromFn.{map-range_with_len_more}
use Rattle.job_plan.specs.declared.passing.Pass.{Pass}
use Rattle.job_plan.specs.declared.query_plan.Plan.{Plan}
use Rattle.job_plan.specs.PlanText.{comma_before, comma_joined, pass_line, pass_text, removal_line}
use Rattle.job_plan.specs.Plans.{dataset_names_in}
use Rattle.job_plan.proofs.Queries.{pass_field}

joined_push : (texts : List (List ℕ)) (text : List ℕ) → comma_joined (texts ++ text ∷ []) ≡ comma_joined texts ++ (comma_before (length texts) ++ text)
joined_push [] text = append-nil text
joined_push (first ∷ more) text =
    ap (λ (rest : List ℕ). first ++ rest) (flat_map-append (λ next. 44 ∷ next) more (text ∷ []) ∙ ap (λ (rest : List ℕ). flat_map (λ next. 44 ∷ next) more ++ rest) (append-nil (44 ∷ text)))
    ∙ sym (append_assoc first (flat_map (λ next. 44 ∷ next) more) (44 ∷ text))

-- a list of texts with one more
joined_more : {X : Type 0} (text_of : X → List ℕ) (xs : List X) (i : ℕ) (d : X) → i < length xs
    → comma_joined (map text_of (take (i + 1) xs)) ≡ comma_joined (map text_of (take i xs)) ++ (comma_before i ++ text_of (get_or xs i d))
joined_more text_of xs i d lt =
    let many : length (map text_of (take i xs)) ≡ i = omega (arith, length-map (take i xs) text_of, length-take i xs) in
    ap comma_joined (map_more text_of xs i d lt) ∙ joined_push (map text_of (take i xs)) (text_of (get_or xs i d))
    ∙ ap (λ (n : ℕ). comma_joined (map text_of (take i xs)) ++ (comma_before n ++ text_of (get_or xs i d))) many

-- what is put behind a list of texts, after the comma
pub listed_more : {X : Type 0} (text_of : X → List ℕ) (xs : List X) (i : ℕ) (d : X) (start before comma after : List ℕ) → i < length xs
    → before ≡ start ++ comma_joined (map text_of (take i xs)) → comma ≡ before ++ comma_before i → after ≡ comma ++ text_of (get_or xs i d)
    → after ≡ start ++ comma_joined (map text_of (take (i + 1) xs))
listed_more text_of xs i d start before comma after lt so_far sign put =
    let old = comma_joined (map text_of (take i xs)) in
    let text = text_of (get_or xs i d) in
    put ∙ ap (λ (t : List ℕ). t ++ text) (sign ∙ ap (λ (t : List ℕ). t ++ comma_before i) so_far)
    ∙ append_assoc (start ++ old) (comma_before i) text ∙ append_assoc start old (comma_before i ++ text)
    ∙ ap (λ (t : List ℕ). start ++ t) (sym (joined_more text_of xs i d lt))

-- ---- passes

range_more : (n : ℕ) → range_with_len 0 (n + 1) ≡ range_with_len 0 n ++ n ∷ []
range_more n = sym (map-id (range_with_len 0 (n + 1))) ∙ map-range_with_len_more (λ k. k) 0 n n (omega arith)
    ∙ ap (λ (list : List ℕ). list ++ n ∷ []) (map-id (range_with_len 0 n))

pub passes_more : (plan : Plan) (i : ℕ) (pass : Pass) (start before line after : List ℕ) → i < length plan.passes.items → pass ≡ get_or plan.passes.items i pass
    → before ≡ start ++ flat_map (pass_text plan) (range_with_len 0 i) → line ≡ before ++ pass_line (dataset_names_in plan) i pass.dataset pass.queries.items
    → after ≡ line ++ flat_map (removal_line (dataset_names_in plan) i) pass.removed.items → after ≡ start ++ flat_map (pass_text plan) (range_with_len 0 (i + 1))
passes_more plan i pass start before line after lt is so_far passed removed =
    let names = dataset_names_in plan in
    let old = flat_map (pass_text plan) (range_with_len 0 i) in
    let removals = flat_map (removal_line names i) pass.removed.items in
    let text : pass_line names i pass.dataset pass.queries.items ++ removals ≡ pass_text plan i =
    rw (
      pass_field (λ (p : Pass). p.dataset) plan.passes.items i pass 0 lt is,
      pass_field (λ (p : Pass). p.queries.items) plan.passes.items i pass [] lt is,
      pass_field (λ (p : Pass). p.removed.items) plan.passes.items i pass [] lt is,
    ) refl in
    removed ∙ ap (λ (t : List ℕ). t ++ removals) (passed ∙ ap (λ (t : List ℕ). t ++ pass_line names i pass.dataset pass.queries.items) so_far)
    ∙ append_assoc (start ++ old) (pass_line names i pass.dataset pass.queries.items) removals
    ∙ ap (λ (t : List ℕ). (start ++ old) ++ t) (text ∙ sym (append-nil (pass_text plan i)))
    ∙ append_assoc start old (flat_map (pass_text plan) (i ∷ []))
    ∙ ap (λ (t : List ℕ). start ++ t) (sym (flat_map-append (pass_text plan) (range_with_len 0 i) (i ∷ [])) ∙ ap (flat_map (pass_text plan)) (sym (range_more i)))
