-- Fields of a row that a writer puts one behind the other, and the row's end.
use Rattle.std.proofs.Common.{◌≡◌, ◌==◌, ◌+◌, ◌-◌, ◌^◌, ◌++◌, ◌∷◌, ◌∙◌, ℕ, zero, suc, true, false, List, [], length, refl, sym, ap, subst, append_assoc, length-append, arith}
use Rattle.std.specs.Prelude.{◌≢◌, min, not, Vec}
use Rattle.std.specs.Global.{Global}
use Rattle.std.proofs.lemmas.Bool.{ne_eqb}
use Rattle.std.proofs.lemmas.List.{append-nil}
use Rattle.csv.specs.Writing.{default_writer, field_text, fields_written, has_written, is_blank, next_sep, row_body, tail_text, writer_setup}
use Rattle.csv.specs.declared.writer.QuoteStyle.TheVariants as style
use Rattle.csv.specs.declared.writer.Writer.{Writer}
use Rattle.csv.proofs.WriteFacts.{blank-more, row-more}
use Rattle.result_table.specs.Table.{EndsRow, IsBetweenRows, IsInRow, PutsFields, text_in}

abbrev BlockWriter : Type 0
BlockWriter = Writer (Vec ℕ Global)

abbrev most : ℕ
most = 2 ^ 64 - 1

-- a count that goes no further than `most` is none, or one, where the count is
none_small : (n : ℕ) → (min n most == 0) ≡ (n == 0)
none_small zero = refl
none_small (suc n) = ne_eqb (min (suc n) most) 0 (λ e. absurd (omega (arith, e))) ∙ sym (ne_eqb (suc n) 0 (λ e. cc e))

one_small : (n : ℕ) → (min n most == 1) ≡ (n == 1)
one_small zero = refl
one_small (suc zero) = refl
one_small (suc (suc n)) = ne_eqb (min (suc (suc n)) most) 1 (λ e. absurd (omega (arith, e))) ∙ sym (ne_eqb (suc (suc n)) 1 (λ e. cc e))

-- a writer between two rows begins one
pub in_row : (writer : BlockWriter) → IsBetweenRows writer → IsInRow (text_in writer) [] writer
unfolding is_blank
in_row writer h = record {
  setup = h.setup;
  count = h.fields;
  blank = rw h.wrote refl;
  text = sym (append-nil (text_in writer));
}

pub puts_none : (writer : BlockWriter) → PutsFields writer writer []
puts_none writer = λ start front h. subst (λ (fields : List (List ℕ)). IsInRow start fields writer) (sym (append-nil front)) h

pub puts_more : (before middle after : BlockWriter) (xs ys : List (List ℕ)) → PutsFields before middle xs → PutsFields middle after ys → PutsFields before after (xs ++ ys)
puts_more before middle after xs ys first next = λ start front h.
    subst (λ (fields : List (List ℕ)). IsInRow start fields after) (append_assoc front xs ys) (next start (front ++ xs) (first start front h))

-- nothing is left of bytes of no length
pub none_left : (bytes : List ℕ) → length bytes ≡ 0 → bytes ≡ []
none_left [] none = refl
none_left (b ∷ bytes) none = absurd (omega (arith, none))

-- what the writer says of a field that it put
pub record HasPut (before after : BlockWriter) (field : List ℕ) : Type 0 where
  pub text : (writer_setup before).style ≢ style.NonNumeric
      → text_in after ≡ text_in before ++ (next_sep (writer_setup before) (fields_written before) ++ field_text (writer_setup before) field)
  pub same : writer_setup after ≡ writer_setup before
  pub count : fields_written after ≡ min (fields_written before + 1) most
  pub wrote : has_written before ≡ false → (writer_setup before).style ≢ style.NonNumeric
      → has_written after ≡ not (length (field_text (writer_setup before) field) == 0)
  pub stays : has_written before ≡ true → has_written after ≡ true

pub puts_field : (before after : BlockWriter) (field : List ℕ) → HasPut before after field → PutsFields before after (field ∷ [])
puts_field before after field put = λ start front h.
    let n = length front in
    let plain : (writer_setup before).style ≢ style.NonNumeric = rw h.setup (λ e. cc e) in
    let longer : length (front ++ field ∷ []) ≡ n + 1 = length-append front (field ∷ []) in
    let sep : next_sep default_writer (fields_written before) ≡ next_sep default_writer n = rw (h.count, none_small n) refl in
    record {
      setup = put.same ∙ h.setup;
      count = put.count ∙ omega (arith, h.count, longer);
      blank = rw longer (blank-more default_writer front field (has_written before) (has_written after) h.blank
          (λ none. rw h.setup at (put.wrote none plain)) put.stays);
      text = rw h.setup at (put.text plain)
          ∙ ap (λ (t : List ℕ). text_in before ++ (t ++ field_text default_writer field)) sep
          ∙ ap (λ (t : List ℕ). t ++ (next_sep default_writer n ++ field_text default_writer field)) h.text
          ∙ append_assoc start (row_body default_writer front) (next_sep default_writer n ++ field_text default_writer field)
          ∙ ap (λ (t : List ℕ). start ++ t) (sym (row-more default_writer front field));
    }

-- what the writer says of a row that it ended
pub record HasEnded (before after : BlockWriter) : Type 0 where
  pub text : text_in after ≡ text_in before ++ tail_text (writer_setup before) (has_written before) (fields_written before)
  pub same : writer_setup after ≡ writer_setup before
  pub fields : fields_written after ≡ 0
  pub wrote : has_written after ≡ false

pub ends_row : (before after : BlockWriter) → HasEnded before after → (start : List ℕ) (fields : List (List ℕ)) → IsInRow start fields before → EndsRow start fields after
ends_row before after ended start fields h =
    let n = length fields in
    let tail : tail_text (writer_setup before) (has_written before) (fields_written before) ≡ tail_text default_writer (has_written before) n =
    rw (h.setup, h.count, none_small n, one_small n) refl in
    record {
      text = ended.text
          ∙ ap (λ (t : List ℕ). text_in before ++ t) tail
          ∙ ap (λ (t : List ℕ). t ++ tail_text default_writer (has_written before) n) h.text
          ∙ append_assoc start (row_body default_writer fields) (tail_text default_writer (has_written before) n)
          ∙ rw h.blank refl;
      between = record { setup = ended.same ∙ h.setup; fields = ended.fields; wrote = ended.wrote };
    }
