-- What the code answers of atoms of symbols, case by case: each law is what one answer of the code cites. Assumes nothing.
use Rattle.std.specs.Prelude.{Bool, true, false, List, ◌≡◌, ℕ, ◌≤◌, ◌<◌, eqb, ltb, length}
use Rattle.std.proofs.Math.Path.{refl}
use Rattle.std.proofs.Common.{sym, ◌∙◌, length-set}
use borrow.Author.Tests.{eq-eqb, ne_eqb, lt-ltb, le-ltb}
use Rattle.script.specs.Tests.{pick}
use Rattle.terms.specs.Atoms.{found_or, holds, is_atom, atom_row_of, atom_left, references_row, references_left}
use Rattle.terms.specs.References.{symbol_at, apart_at}
use Rattle.terms.specs.Terms.{count_in, pushed, of_constant, of_pair}
use Rattle.terms.specs.declared.Row.{Row}

module _ (row : Row) (a b : ℕ) where
  pub holds_a : (row.a ≡ a → ⊥) → false ≡ holds row a b
  unfolding holds
  holds_a n = rw (ne_eqb row.a a n) refl

  pub holds_b : row.a ≡ a → eqb row.b b ≡ holds row a b
  unfolding holds
  holds_b e = rw (eq-eqb row.a a e) refl

module _ (op a b : ℕ) (row : Row) where
  pub atom-other : (row.op ≡ op → ⊥) → false ≡ is_atom op a b row
  unfolding is_atom
  atom-other n = rw (ne_eqb row.op op n) refl

  pub atom-straight : row.op ≡ op → holds row a b ≡ true → true ≡ is_atom op a b row
  unfolding is_atom
  atom-straight e t = rw (eq-eqb row.op op e, t) refl

  pub atom-crossed : row.op ≡ op → holds row a b ≡ false → holds row b a ≡ is_atom op a b row
  unfolding is_atom
  atom-crossed e t = rw (eq-eqb row.op op e, t) refl

-- ---- found or made

module _ (ws : List ℕ) (r op a b : ℕ) where
  pub left-found : r < count_in ws → ws ≡ found_or ws r op a b
  unfolding found_or
  left-found h = rw (lt-ltb r (count_in ws) h) refl

  pub left-made : count_in ws ≤ r → pushed ws op a b ≡ found_or ws r op a b
  unfolding found_or
  left-made h = rw (le-ltb r (count_in ws) h) refl

pub found-length : (ws : List ℕ) (r op a b : ℕ) → length (found_or ws r op a b) ≡ length ws
unfolding found_or
found-length ws r op a b = go (ltb r (count_in ws))
  where
    go : (t : Bool) → length (pick t ws (pushed ws op a b)) ≡ length ws
    go true = refl
    go false = simp length-set

-- ---- references at places r and s, with symbols a and b

module _ (ws : List ℕ) (r s : ℕ) {a b : ℕ} (first : a ≡ symbol_at r) (second : b ≡ symbol_at s) where
  differ : (a ≡ b → ⊥) → symbol_at r ≡ symbol_at s → ⊥
  differ n e = n (first ∙ e ∙ sym second)

  pub row_one : a ≡ b → count_in ws ≡ references_row ws r s
  unfolding references_row
  row_one e = rw (eq-eqb (symbol_at r) (symbol_at s) (sym first ∙ e ∙ second)) refl

  pub left_one : a ≡ b → pushed ws of_constant 1 0 ≡ references_left ws r s
  unfolding references_left
  left_one e = rw (eq-eqb (symbol_at r) (symbol_at s) (sym first ∙ e ∙ second)) refl

  pub row_apart : (a ≡ b → ⊥) → apart_at r s ≡ true → count_in ws ≡ references_row ws r s
  unfolding references_row
  row_apart n t = rw (ne_eqb (symbol_at r) (symbol_at s) (differ n), t) refl

  pub left-apart : (a ≡ b → ⊥) → apart_at r s ≡ true → pushed ws of_constant 0 0 ≡ references_left ws r s
  unfolding references_left
  left-apart n t = rw (ne_eqb (symbol_at r) (symbol_at s) (differ n), t) refl

  pub row_open : (a ≡ b → ⊥) → apart_at r s ≡ false → atom_row_of ws of_pair a b ≡ references_row ws r s
  unfolding references_row
  row_open n t = rw (first, second, ne_eqb (symbol_at r) (symbol_at s) (differ n), t) refl

  pub left_open : (a ≡ b → ⊥) → apart_at r s ≡ false → atom_left ws of_pair a b ≡ references_left ws r s
  unfolding references_left
  left_open n t = rw (first, second, ne_eqb (symbol_at r) (symbol_at s) (differ n), t) refl

pub references-length : (ws : List ℕ) (r s : ℕ) → length (references_left ws r s) ≡ length ws
unfolding references_left
references-length ws r s = go (eqb (symbol_at r) (symbol_at s)) (apart_at r s)
  where
    go : (t u : Bool) → length (pick t (pushed ws of_constant 1 0) (pick u (pushed ws of_constant 0 0) (atom_left ws of_pair (symbol_at r) (symbol_at s)))) ≡ length ws
    go true u = simp length-set
    go false true = simp length-set
    go false false = found-length ws (atom_row_of ws of_pair (symbol_at r) (symbol_at s)) of_pair (symbol_at r) (symbol_at s)
