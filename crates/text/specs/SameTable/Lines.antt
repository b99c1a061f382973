-- A written line reads back as its entry or its node. Assumes nothing.
use Rattle.std.specs.Prelude.{true, ◌≡◌, ℕ, zero, suc, ◌+◌, ◌≤◌, ◌<◌, leb, ltb, eqb, length, take, drop}
use mathlib.Core.List.{List, [], ◌∷◌, ◌++◌, map, append-nil}
use Rattle.std.proofs.Math.Option.{Option, none, some}
use Rattle.std.proofs.Math.Path.{refl, ap}
use Rattle.std.proofs.Common.{sym, ap₂, ◌∙◌, arith, length-take}
use Rattle.std.proofs.lemmas.List.{length-map}
use borrow.Author.Tests.{ltb-true, leb-true, le-leb, eq-eqb, ne_eqb}
use Rattle.script.specs.Limits.{node_limit, word_limit, type_limit}
use Rattle.script.specs.Rows.{Row, Form, row_of, int_form, var_form, if_form, let_form, typed_form, sym_form, truth_form, unary_form, binary_form}
use Rattle.script.specs.Rows as Rows
use Rattle.script.specs.Table.{node_of, fields, right_operands, right_node}
use Rattle.script.specs.Table.Laws.{each-zero}
use Rattle.script.specs.Tests.{all}
use Rattle.script.specs.Tests.Laws.{both_true}
use Rattle.script.specs.declared.Node.{Node}
use Rattle.text.specs.Bytes.{tab, lf, letter_r, entry_word}
use Rattle.text.specs.Fields.{is_digit, type_after, type_of, same_bytes}
use Rattle.text.specs.Grammar.{parts, entry_line, node_line, up_to, numbers_up_to, node_with, line_of}
use Rattle.text.specs.Writing.{digits, type_text, operands_text}
use Rattle.text.specs.SameTable.Numbers.{below_word, digits_decimal, number_digits}
use Rattle.text.specs.SameTable.Parts.{Free, free_nil, free_cons, free_append, is_free_lem, parts_free, parts_cut}
use Rattle.text.specs.SameTable.Words.{word-kind, not_entry, word-tab, word-lf, row-most}

-- ---- fields

-- bytes that are digits are no separators
free-digits : (s : ℕ) (xs : List ℕ) → s < 48 → all is_digit xs ≡ true → Free s xs
free-digits s [] h e = free_nil
free-digits s (x ∷ xs) h e =
    let b = both_true (is_digit x) (all is_digit xs) e in
    let l = leb-true 48 x (both_true (leb 48 x) (leb x 57) b.0).0 in
    free_cons (ne_eqb x s (λ q. omega arith)) (free-digits s xs h b.1)

pub digits-free : (s n : ℕ) → s < 48 → n ≤ word_limit → Free s (digits n)
digits-free s n h w = free-digits s (digits n) h (digits_decimal 10 n (below_word n w)).each

-- nor are the letters of a type
pub type-free : (s t : ℕ) → s < 48 → Free s (type_text t)
unfolding type_text
type-free s zero h = free_cons (ne_eqb 105 s (λ q. omega arith)) free_nil
type-free s (suc zero) h = free_cons (ne_eqb 98 s (λ q. omega arith)) free_nil
type-free s (suc (suc t)) h = free_cons (ne_eqb letter_r s (λ q. omega arith)) (type-free s t h)

type-after : (s t : ℕ) → type_after s (type_text t) ≡ some (s + t)
unfolding type_after type_text
type-after s zero = ap some (omega arith)
type-after s (suc zero) = ap some (omega arith)
type-after s (suc (suc t)) = type-after (suc (suc s)) t ∙ ap some (omega arith)

pub type-written : (t : ℕ) → t ≤ type_limit → type_of (type_text t) ≡ some t
unfolding type_of
type-written t h = let z : 0 + t ≡ t = omega arith in rw (type-after 0 t, z, le-leb t type_limit h) refl

-- ---- an entry line, without its LF

abbrev pub entry_bytes : ℕ → List ℕ
entry_bytes t = entry_word ++ (tab ∷ type_text t)

pub entry_free : (t : ℕ) → Free lf (entry_bytes t)
entry_free t = free_append (is_free_lem lf entry_word refl) (free_cons refl (type-free lf t (omega arith)))

pub entry-line : (t : ℕ) → t ≤ type_limit → line_of (entry_bytes t) ≡ some (entry_line t)
unfolding line_of same_bytes
entry-line t h = rw (parts_cut (type_text t) (is_free_lem tab entry_word refl), parts_free (type-free tab t (omega arith)), type-written t h) refl

-- ---- operands

-- each of these is at most m
pub data Each (m : ℕ) : List ℕ → Type 0 where
  each_nil : Each m []
  each_cons : {o : ℕ} {os : List ℕ} → o ≤ m → Each m os → Each m (o ∷ os)

pub all-each : (m : ℕ) (os : List ℕ) → all (λ o. leb o m) os ≡ true → Each m os
all-each m [] e = each_nil
all-each m (o ∷ os) e = let b = both_true (leb o m) (all (λ o. leb o m) os) e in each_cons (leb-true o m b.0) (all-each m os b.1)

earlier-each : (i m : ℕ) (os : List ℕ) → i ≤ suc m → all (λ o. ltb o i) os ≡ true → Each m os
earlier-each i m [] h e = each_nil
earlier-each i m (o ∷ os) h e =
    let b = both_true (ltb o i) (all (λ o. ltb o i) os) e in
    let l = ltb-true o i b.0 in
    each_cons {o = o} (omega arith) (earlier-each i m os h b.1)

-- operands that pass the test of a table are within the range of their word
pub right-each : (b : Option ℕ) (i : ℕ) (os : List ℕ) → i < node_limit → right_operands b i os ≡ true → Each (up_to b) os
right-each none i os h e = earlier-each i 127 os (omega arith) e
right-each (some m) i os h e = all-each m os e

-- no range goes beyond the words
pub up_to-word : (f : Form) → up_to (Rows.number_up_to f) ≤ word_limit
up_to-word int_form = omega arith
up_to-word var_form = omega arith
up_to-word if_form = omega arith
up_to-word let_form = omega arith
up_to-word typed_form = omega arith
up_to-word sym_form = omega arith
up_to-word (truth_form b) = omega arith
up_to-word (unary_form o) = omega arith
up_to-word (binary_form o) = omega arith

module _ (m : ℕ) (w : m ≤ word_limit) where
  pub operands-free : {os : List ℕ} → Each m os → Free lf (operands_text os)
  unfolding operands_text
  operands-free each_nil = free_nil
  operands-free (each_cons {o = o} h e) = free_cons refl (free_append (digits-free lf o (omega arith) (omega arith)) (operands-free e))

  -- the fields of a line: its first one, and the digits of each operand
  pub operands-parts : (xs : List ℕ) {os : List ℕ} → Free tab xs → Each m os → parts tab (xs ++ operands_text os) ≡ xs ∷ map digits os
  unfolding operands_text
  operands-parts xs f each_nil = rw append-nil (parts_free f)
  operands-parts xs f (each_cons {o = o} {os = os} h e) =
      parts_cut (digits o ++ operands_text os) f ∙ ap (λ (ps : List (List ℕ)). xs ∷ ps) (operands-parts (digits o) (digits-free tab o (omega arith) (omega arith)) e)

  pub numbers-digits : {os : List ℕ} → Each m os → numbers_up_to m (map digits os) ≡ some os
  unfolding numbers_up_to
  numbers-digits each_nil = refl
  numbers-digits (each_cons {o = o} h e) = rw (number_digits m o h (omega arith), numbers-digits e) refl

-- ---- a node line, without its LF

node_with_lem : (n : Node) (c : ℕ) → c ≤ 3 → all (λ o. eqb o 0) (drop c (fields n)) ≡ true → node_with n.kind (some (take c (fields n))) ≡ some (node_line n)
node_with_lem n zero h e =
    let u = each-zero (fields n) e in
    ap₂ (λ (a : ℕ) (f : ℕ × ℕ). some (node_line (node_of n.kind a f.0 f.1))) (sym (u 0 (omega arith))) (cc (u 1 (omega arith), u 2 (omega arith)))
node_with_lem n (suc zero) h e =
    let u = each-zero (n.b ∷ n.c ∷ []) e in
    ap₂ (λ (b c : ℕ). some (node_line (node_of n.kind n.a b c))) (sym (u 0 (omega arith))) (sym (u 1 (omega arith)))
node_with_lem n (suc (suc zero)) h e = ap (λ (c : ℕ). some (node_line (node_of n.kind n.a n.b c))) (sym (each-zero (n.c ∷ []) e 0 (omega arith)))
node_with_lem n (suc (suc (suc zero))) h e = refl
node_with_lem n (suc (suc (suc (suc c)))) h e = absurd (omega arith)

module _ (i : ℕ) (n : Node) (r : Row) (e : row_of n.kind ≡ some r) (l : i < node_limit) (p : right_node (some r) i n ≡ true) where
  pub operands-each : Each (up_to (Rows.number_up_to r.form)) (take r.count (fields n))
  operands-each = right-each (Rows.number_up_to r.form) i (take r.count (fields n)) l (both_true (right_operands (Rows.number_up_to r.form) i (take r.count (fields n))) _ p).0

  pub node-free : Free lf (r.word ++ operands_text (take r.count (fields n)))
  node-free = free_append (word-lf n.kind r e) (operands-free (up_to (Rows.number_up_to r.form)) (up_to-word r.form) operands-each)

  operands-count : length (map digits (take r.count (fields n))) ≡ r.count
  operands-count = let m = row-most n.kind r e in simp (length-map, length-take) (omega arith)

  pub node-line : line_of (r.word ++ operands_text (take r.count (fields n))) ≡ some (node_line n)
  unfolding line_of
  node-line =
      let m = up_to (Rows.number_up_to r.form) in
      let w = up_to-word r.form in
      rw (
        operands-parts m w r.word (word-tab n.kind r e) operands-each,
        not_entry n.kind r e,
        word-kind n.kind r e,
        e,
        eq-eqb _ _ operands-count,
        numbers-digits m w operands-each,
      )
      (node_with_lem n r.count (row-most n.kind r e) (both_true (right_operands (Rows.number_up_to r.form) i (take r.count (fields n))) _ p).1)
