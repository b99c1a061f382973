-- The words of the rows: each is told apart from every other word and from `entry`, and has no separator in it. Assumes nothing.
use Rattle.std.specs.Prelude.{Bool, true, false, ◌≡◌, ℕ, ◌+◌, ◌*◌, ◌≤◌, ◌<◌, eqb, length}
use Rattle.std.proofs.Math.Bool.{not}
use Rattle.std.proofs.Math.Option.{Option, none, some}
use Rattle.std.proofs.Math.Path.{refl}
use Rattle.std.proofs.Common.{ap}
use Rattle.std.proofs.Math.Dec.{leb}
use borrow.Author.Tests.{not-true, not-false, eqb-true, leb-true}
use Rattle.script.specs.Rows.{Row, rows, row_of, number_up_to, operand_count}
use Rattle.script.specs.Rows.Kinds.{kind_count}
use Rattle.script.specs.Rows.Laws.{row-kind, operands-most}
use Rattle.script.specs.Tests.{all, lowest_from}
use Rattle.script.specs.Tests.Laws.{all_get_elem?, lowest-none, true_or_false}
use Rattle.text.specs.Bytes.{tab, lf, entry_word}
use Rattle.text.specs.Fields.{same_bytes, kind_named}
use Rattle.text.specs.SameTable.Parts.{Free, is_free, is_free_lem}

-- ---- the kind of a word

is_some : Option ℕ → ℕ → Bool
is_some none k = false
is_some (some j) k = eqb j k

is-some-true : (o : Option ℕ) (k : ℕ) → is_some o k ≡ true → o ≡ some k
unfolding is_some
is-some-true none k e = absurd (true_or_false false e refl)
is-some-true (some j) k e = ap some (eqb-true j k e)

-- the word of the kind is the word of no lower kind
tells_kind : Option Row → ℕ → Bool
tells_kind none k = true
tells_kind (some r) k = is_some (kind_named r.word) k

tells-kind : (k : ℕ) → k < kind_count → not (tells_kind (row_of k) k) ≡ false
unfolding row_of rows lowest_from tells_kind is_some kind_named same_bytes
tells-kind k h = lowest-none (λ k. not (tells_kind (row_of k) k)) kind_count refl k h

pub word-kind : (k : ℕ) (r : Row) → row_of k ≡ some r → kind_named r.word ≡ some k
unfolding tells_kind
word-kind k r e = is-some-true _ k (rw e at (not-false (tells_kind (row_of k) k) (tells-kind k (row-kind k r e))))

-- ---- what every row passes

-- the most bytes that an operand takes, with its tab: a number up to ten digits, a node three
abbrev pub width : Option ℕ → ℕ
width none = 4
width (some m) = 11

row-passes : (p : Row → Bool) → all p rows ≡ true → (k : ℕ) (r : Row) → row_of k ≡ some r → p r ≡ true
unfolding row_of
row-passes p a k r e = all_get_elem? p rows a k r e

module _ (k : ℕ) (r : Row) (e : row_of k ≡ some r) where
  pub not_entry : same_bytes entry_word r.word ≡ false
  unfolding rows same_bytes
  not_entry = not-true _ (row-passes (λ r. not (same_bytes entry_word r.word)) refl k r e)

  pub word-tab : Free tab r.word
  unfolding rows
  word-tab = is_free_lem tab r.word (row-passes (λ r. is_free tab r.word) refl k r e)

  pub word-lf : Free lf r.word
  unfolding rows
  word-lf = is_free_lem lf r.word (row-passes (λ r. is_free lf r.word) refl k r e)

  pub row-most : r.count ≤ 3
  unfolding operand_count
  row-most = rw e at (operands-most k)

  -- the longest lines are those of `int` and `if`
  pub row-width : length r.word + r.count * width (number_up_to r.form) ≤ 14
  unfolding rows
  row-width = leb-true _ 14 (row-passes (λ r. leb (length r.word + r.count * width (number_up_to r.form)) 14) refl k r e)
