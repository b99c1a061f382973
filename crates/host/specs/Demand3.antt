-- Demand 3 (docs/RUNS.md) read off the contracts of the two calls that a host in C makes: what `teqharis_check` accepts, `teqharis_run` takes to a value,
-- within the limits, on all cells and entry values that some typing fits. Assumes nothing.
use Rattle.std.specs.Prelude.{Bool, ◌&&◌, refl, ℕ, length, Err, Ok}
use Rattle.std.proofs.Math.Bool.{true}
use mathlib.Core.List.{List}
use Rattle.std.proofs.Math.Path.{◌≡◌}
use Rattle.std.proofs.Common.{sym, ap, subst, ◌∙◌, arith, take_at}
use Rattle.script.specs.Answers.{kind_of, bits_of}
use Rattle.script.specs.Limits.{node_limit, entry_limit}
use Rattle.script.specs.declared.Value.{Value}
use Rattle.rules.specs.Checking.{path_limit}
use Rattle.rules.specs.Demand3.{EndsWithValue}
use Rattle.rules.proofs.Demand3.{accepted_ends_with_value}
use Rattle.rules.specs.Running.{values_of, right_cells, right_values}
use Rattle.rules.specs.Typings.{HasType, HaveTypes, Fits, Extends}
use Rattle.text.specs.Grammar.{Meaning, means, refused, meaning_of}
use Rattle.text.specs.Reading.{table_read, entries_read}
use Rattle.answers.specs.Answers.{packed, done, answer_of_check, answer_of_run, AnswersRun}
use Rattle.host.specs.Texts.{check_meant, check_text, run_meant, run_text}
use Rattle.script.specs.Answers.Named.{Checked}

-- the types of a text's entries
abbrev pub entries_in : List ℕ → List ℕ
entries_in text = entries_read (meaning_of text)

-- neither 35 nor 34
abbrev pub within_limits : List ℕ → List ℕ → List ℕ → ℕ → Bool
within_limits text values cells used = right_cells cells used && right_values (length (entries_in text)) values cells used

-- the number b tells a value and a used count; some extension of the typing fits the used cells among the bytes left, and gives the value the type
pub record AnswersValue (typing : List ℕ) (type b : ℕ) (left : List ℕ) : Type 0 where
  pub value : Value
  pub used : ℕ
  pub answers : b ≡ packed done (kind_of value) used (bits_of value)
  pub extension : List ℕ
  pub extends : Extends typing extension
  pub fits : Fits extension (values_of used left)
  pub typed : HasType extension value type

-- ---- over texts

module _ (text values cells : List ℕ) (used type : ℕ) (typing : List ℕ) where
  pub accepted_text-ends_with_value :
      check_text text ≡ Ok type
      → within_limits text values cells used ≡ true
      → Fits typing (values_of used cells)
      → HaveTypes typing (values_of (length (entries_in text)) values) (entries_in text)
      → EndsWithValue typing type (run_text text values cells used)
  unfolding check_text run_text
  accepted_text-ends_with_value = go (meaning_of text)
    where
      go : (m : Meaning) → check_meant m ≡ Ok type → (right_cells cells used && right_values (length (entries_read m)) values cells used) ≡ true
          → Fits typing (values_of used cells) → HaveTypes typing (values_of (length (entries_read m)) values) (entries_read m) → EndsWithValue typing type (run_meant m values cells used)
      go (means es ns) accepted within fits typed =
          accepted_ends_with_value path_limit (table_read es ns node_limit entry_limit) type values cells used typing accepted within fits
          (subst (λ (ts : List ℕ). HaveTypes typing (values_of (length es) values) ts) (sym (take_at es _ (length es) refl)) typed)
      go (refused r) accepted within fits typed = let z : ◌≡◌ {A = ℕ} 0 1 = cc in absurd (omega arith)

  -- ---- over the answers' numbers

  accepted_by : (c : Checked) → packed done 0 0 type ≡ answer_of_check c → c ≡ Ok type
  accepted_by (Ok t) e = let q : t ≡ type = omega arith in ap Ok q
  accepted_by (Err r) e = absurd (omega arith)

  -- `a` is what `teqharis_check` answers, `b` and `left` are what `teqharis_run` answers and leaves
  pub checked_answers_with_value : (a b : ℕ) (left : List ℕ)
      → a ≡ answer_of_check (check_text text)
      → AnswersRun (run_text text values cells used) b left
      → a ≡ packed done 0 0 type
      → within_limits text values cells used ≡ true
      → Fits typing (values_of used cells)
      → HaveTypes typing (values_of (length (entries_in text)) values) (entries_in text)
      → AnswersValue typing type b left
  checked_answers_with_value a b left checked ran accepted within fits typed =
      let e = accepted_text-ends_with_value (accepted_by (check_text text) (sym accepted ∙ checked)) within fits typed in
      record {
        value = e.value;
        used = e.used;
        answers = ran.0 ∙ ap answer_of_run e.answers;
        extension = e.extension;
        extends = e.extends;
        fits = subst (λ (bytes : List ℕ). Fits e.extension (values_of e.used bytes)) (sym ran.1) e.fits;
        typed = e.typed;
      }
