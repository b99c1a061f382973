-- What every row of the table of words has: the operand count of its form, and its form's kind; what is said of all kinds but some; the rows as the
-- code has them. Assumes nothing.
use Rattle.std.specs.Prelude.{Bool, true, false, ◌||◌, not, List, [], ◌∷◌, map, ◌≡◌, refl, ℕ, zero, suc, ◌≤◌, ◌<◌, leb, eqb, length, get_or, replicate}
use Rattle.std.proofs.Math.Option.{Option, none, some}
use Rattle.std.proofs.Common.{sym, ap, ◌∙◌, arith, eqb-true, ne_eqb, leb-true}
use Rattle.std.proofs.Math.ListN.{get_elem?}
use Rattle.std.proofs.lemmas.Bool.{not-false}
use Rattle.script.specs.Limits.{variable_limit, word_limit}
use Rattle.script.specs.Rows.{Row, Form, rows, row_of, count_by, operand_count, takes_in, takes_of, nodes_only, node_operands, int_form, var_form, if_form, let_form, typed_form, sym_form, truth_form, unary_form, binary_form, not_op, ref_op, get_op, add_op, eq_op, and_op, set_op}
use Rattle.script.specs.Rows.Kinds.{kind_count, kind_for}
use Rattle.script.specs.Tests.{pick, lowest_from}
use Rattle.script.specs.Tests.Laws.{all_get_elem?, lowest-none, some-not-none}
use Rattle.script.specs.declared.table.Takes.{Takes}
use Rattle.script.specs.declared.table.Takes.TheVariants.{Number, Nodes}

-- how many operands a form takes
abbrev pub count_of : Form → ℕ
count_of int_form = 1
count_of var_form = 1
count_of if_form = 3
count_of let_form = 2
count_of typed_form = 1
count_of sym_form = 1
count_of (truth_form b) = 0
count_of (unary_form o) = 1
count_of (binary_form o) = 2

pub row_count : (k : ℕ) (r : Row) → row_of k ≡ some r → r.count ≡ count_of r.form
unfolding row_of rows
row_count k r e = eqb-true r.count (count_of r.form) (all_get_elem? (λ (r : Row). eqb r.count (count_of r.form)) rows refl k r e)

-- ---- which kinds have a row

place-below : {A : Type 0} (xs : List A) (k : ℕ) (x : A) → get_elem? xs k ≡ some x → k < length xs
place-below [] k x e = absurd (some-not-none x (sym e))
place-below (y ∷ ys) zero x e = omega arith
place-below (y ∷ ys) (suc k) x e = let h = place-below ys k x e in omega arith

-- a kind with a word is below the count of the kinds
pub row-kind : (k : ℕ) (r : Row) → row_of k ≡ some r → k < kind_count
unfolding row_of
row-kind k r e = place-below rows k r e

place-some : {A : Type 0} (xs : List A) (k : ℕ) → k < length xs → get_elem? xs k ≡ none → ⊥
place-some [] k h e = omega arith
place-some (x ∷ xs) zero h e = some-not-none x e
place-some (x ∷ xs) (suc k) h e = place-some xs k (omega arith) e

-- each kind below it has a word
pub row-some : (k : ℕ) → k < kind_count → row_of k ≡ none → ⊥
unfolding row_of
row-some k h e = place-some rows k h e

pub row-none : (k : ℕ) → kind_count ≤ k → row_of k ≡ none
row-none k h = go (row_of k) refl
  where
    go : (o : Option Row) → row_of k ≡ o → row_of k ≡ none
    go none e = e
    go (some r) e = let l = row-kind k r e in absurd (omega arith)

-- ---- the kind of a form

-- a kind that has no word stands for `false`, as in a tree
abbrev pub form_by : Option Row → Form
form_by none = truth_form false
form_by (some r) = r.form

-- a row stands at the kind of its form
abbrev stands_at : Option Row → ℕ → Bool
stands_at none k = true
stands_at (some r) k = eqb (kind_for r.form) k

each_stands : (k : ℕ) → k < kind_count → stands_at (row_of k) k ≡ true
unfolding row_of rows lowest_from
each_stands k h = not-false _ (lowest-none (λ k. not (stands_at (row_of k) k)) kind_count refl k h)

-- a kind that has a row is the kind of that row's form
pub row-form : (k : ℕ) (r : Row) → row_of k ≡ some r → kind_for r.form ≡ k
row-form k r e = eqb-true (kind_for r.form) k (rw e at (each_stands k (row-kind k r e)))

-- and the row of a form's kind has that form
pub form-row : (f : Form) → form_by (row_of (kind_for f)) ≡ f
unfolding row_of rows
form-row int_form = refl
form-row var_form = refl
form-row if_form = refl
form-row let_form = refl
form-row typed_form = refl
form-row sym_form = refl
form-row (truth_form true) = refl
form-row (truth_form false) = refl
form-row (unary_form not_op) = refl
form-row (unary_form ref_op) = refl
form-row (unary_form get_op) = refl
form-row (binary_form add_op) = refl
form-row (binary_form eq_op) = refl
form-row (binary_form and_op) = refl
form-row (binary_form set_op) = refl

-- ---- all kinds but some

-- kind k is none of these forms' kinds
pub data NoneOf (k : ℕ) : List Form → Type 0 where
  none_left : NoneOf k []
  but : {f : Form} {fs : List Form} → (k ≡ kind_for f → ⊥) → NoneOf k fs → NoneOf k (f ∷ fs)

-- the forms of the operators
abbrev pub unary_forms : List Form
unary_forms = unary_form not_op ∷ unary_form ref_op ∷ unary_form get_op ∷ []

abbrev pub binary_forms : List Form
binary_forms = binary_form add_op ∷ binary_form eq_op ∷ binary_form and_op ∷ binary_form set_op ∷ []

-- k is one of these forms' kinds
abbrev pub among : ℕ → List Form → Bool
among k [] = false
among k (f ∷ fs) = eqb k (kind_for f) || among k fs

none-among : {k : ℕ} {fs : List Form} → NoneOf k fs → among k fs ≡ false
none-among none_left = refl
none-among (but {f = f} d n) = rw (ne_eqb _ (kind_for f) d) (none-among n)

-- what is said of a row, but a for the rows of these forms
abbrev pub elsewhere : {A : Type 0} → List Form → A → (Row → A) → Row → A
elsewhere fs a g r = pick (among (kind_for r.form) fs) a (g r)

at_all : {A B : Type 0} (h : A → B) (b : B) (xs : List A) (k : ℕ) (x : A) → map h xs ≡ replicate (length xs) b → get_elem? xs k ≡ some x → h x ≡ b
at_all h b [] k x e q = absurd (some-not-none x (sym q))
at_all h b (y ∷ xs) zero x e q = let s : y ≡ x = cc in let f : h y ≡ b = cc in rw (sym s) f
at_all h b (y ∷ xs) (suc k) x e q = let f : map h xs ≡ replicate (length xs) b = cc in at_all h b xs k x f q

-- what is said of the row of any other kind, where all other rows say what none does
pub other_row : {A : Type 0} (g : Option Row → A) (fs : List Form) (k : ℕ) → map (elsewhere fs (g none) (λ r. g (some r))) rows ≡ replicate kind_count (g none)
    → NoneOf k fs → g (row_of k) ≡ g none
unfolding row_of
other_row g fs k e n = go (row_of k) refl
  where
    go : (o : Option Row) → row_of k ≡ o → g o ≡ g none
    go none q = refl
    go (some r) q =
        let a : among (kind_for r.form) fs ≡ false = ap (λ (m : ℕ). among m fs) (row-form k r q) ∙ none-among n in
        rw a at (at_all (elsewhere fs (g none) (λ r. g (some r))) (g none) rows k r e q)

-- ---- the operand counts and what operands are, as the code has them

-- what is said of each row and of none, by the place
rows_at : {A : Type 0} (f : Option Row → A) (rs : List Row) (k : ℕ) → f (get_elem? rs k) ≡ get_or (map (λ (r : Row). f (some r)) rs) k (f none)
rows_at f [] k = refl
rows_at f (r ∷ rs) zero = refl
rows_at f (r ∷ rs) (suc k) = rows_at f rs k

-- the operand counts of the kinds, in their order
pub operand-counts : (k : ℕ) → get_or (map (λ (r : Row). r.count) rows) k 0 ≡ operand_count k
unfolding operand_count row_of
operand-counts k = sym (rows_at count_by rows k)

pub no_operands : (k : ℕ) → kind_count ≤ k → operand_count k ≡ 0
unfolding operand_count
no_operands k h = ap count_by (row-none k h)

pub same_anywhere : {A : Type 0} (m : ℕ) (a : A) (k : ℕ) → get_or (replicate m a) k a ≡ a
same_anywhere zero a k = refl
same_anywhere (suc m) a zero = refl
same_anywhere (suc m) a (suc k) = same_anywhere m a k

pub takes_int : takes_of (kind_for int_form) ≡ Number word_limit
unfolding takes_of row_of rows
takes_int = refl

pub takes_var : takes_of (kind_for var_form) ≡ Number variable_limit
unfolding takes_of row_of rows
takes_var = refl

-- every other kind takes nodes
pub takes_nodes : (k : ℕ) → (k ≡ kind_for int_form → ⊥) → (k ≡ kind_for var_form → ⊥) → takes_of k ≡ Nodes
unfolding takes_of rows
takes_nodes k not_int not-var = other_row takes_in (int_form ∷ var_form ∷ []) k refl (but not_int (but not-var none_left))

most_three : (k : ℕ) (r : Row) → row_of k ≡ some r → leb r.count 3 ≡ true
unfolding row_of rows
most_three k r e = all_get_elem? (λ (r : Row). leb r.count 3) rows refl k r e

-- a kind takes at most three operands
pub operands-most : (k : ℕ) → operand_count k ≤ 3
unfolding operand_count
operands-most k = go (row_of k) refl
  where
    go : (o : Option Row) → row_of k ≡ o → count_by o ≤ 3
    go none e = omega arith
    go (some r) e = leb-true r.count 3 (most_three k r e)

pub node-operands-most : (k : ℕ) → node_operands k ≤ 3
unfolding node_operands
node-operands-most k = go (takes_of k) (operand_count k) (operands-most k)
  where
    go : (t : Takes) (c : ℕ) → c ≤ 3 → nodes_only t c ≤ 3
    go (Number m) c h = omega arith
    go Nodes c h = h

pub numbers_no_nodes : (k m : ℕ) (t : Takes) → t ≡ takes_of k → t ≡ Number m → 0 ≡ node_operands k
unfolding node_operands
numbers_no_nodes k m t e f = rw (sym e ∙ f) refl

pub all-nodes : (k c : ℕ) (t : Takes) → t ≡ takes_of k → t ≡ Nodes → c ≡ operand_count k → c ≡ node_operands k
unfolding node_operands
all-nodes k c t e f g = rw (sym e ∙ f) g
