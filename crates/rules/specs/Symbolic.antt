-- Symbolic values (docs/CHECKS.md, 'Values'): sums for words, formulas over atoms for truths, symbols for references. Assumes nothing.
pub mod Laws
use Rattle.std.specs.Prelude.{Bool, true, false, not, ◌&&◌, ◌||◌, List, [], ◌∷◌, ◌++◌, ℕ, zero, suc, ◌+◌, ◌-◌, ◌%◌, ◌^◌, eqb, replicate}
use Rattle.script.specs.Tests.{pick, all}

-- a constant and the coefficients of the symbols 0, 1, .., modulo 2^32; further coefficients are 0
pub record Sum : Type 0 where
  pub constant : ℕ
  pub coefficients : List ℕ

abbrev pub number : ℕ → Sum
number w = record { constant = w; coefficients = [] }

abbrev pub word_symbol : ℕ → Sum
word_symbol s = record { constant = 0; coefficients = replicate s 0 ++ (1 ∷ []) }

unfoldable pub plus_each : List ℕ → List ℕ → List ℕ
plus_each [] ys = ys
plus_each (x ∷ xs) [] = x ∷ xs
plus_each (x ∷ xs) (y ∷ ys) = (x + y) % 2 ^ 32 ∷ plus_each xs ys

abbrev pub plus : Sum → Sum → Sum
plus p q = record { constant = (p.constant + q.constant) % 2 ^ 32; coefficients = plus_each p.coefficients q.coefficients }

abbrev pub opposite : ℕ → ℕ
opposite x = (2 ^ 32 - x % 2 ^ 32) % 2 ^ 32

unfoldable pub opposite_each : List ℕ → List ℕ
opposite_each [] = []
opposite_each (x ∷ xs) = opposite x ∷ opposite_each xs

abbrev pub negated : Sum → Sum
negated p = record { constant = opposite p.constant; coefficients = opposite_each p.coefficients }

abbrev pub minus : Sum → Sum → Sum
minus p q = plus p (negated q)

-- equal modulo 2^32
abbrev pub same_number : ℕ → ℕ → Bool
same_number x y = eqb (x % 2 ^ 32) (y % 2 ^ 32)

abbrev pub is_zero : ℕ → Bool
is_zero x = same_number x 0

unfoldable pub same_each : List ℕ → List ℕ → Bool
same_each [] ys = all is_zero ys
same_each (x ∷ xs) [] = is_zero x && all is_zero xs
same_each (x ∷ xs) (y ∷ ys) = same_number x y && same_each xs ys

unfoldable pub same_sum : Sum → Sum → Bool
same_sum p q = same_number p.constant q.constant && same_each p.coefficients q.coefficients

-- a truth symbol, an unordered pair of reference symbols, or a difference of words that is no constant
pub data Atom : Type 0 where
  truth_symbol : ℕ → Atom
  pair : ℕ → ℕ → Atom
  difference : Sum → Atom

-- a difference and its negation are one atom
unfoldable pub same_atom : Atom → Atom → Bool
same_atom (truth_symbol s) (truth_symbol u) = eqb s u
same_atom (truth_symbol s) (pair u v) = false
same_atom (truth_symbol s) (difference q) = false
same_atom (pair r s) (truth_symbol u) = false
same_atom (pair r s) (pair u v) = eqb r u && eqb s v || eqb r v && eqb s u
same_atom (pair r s) (difference q) = false
same_atom (difference p) (truth_symbol u) = false
same_atom (difference p) (pair u v) = false
same_atom (difference p) (difference q) = same_sum p q || same_sum p (negated q)

-- no formula is simplified
pub data Formula : Type 0 where
  constantly : Bool → Formula
  atom : Atom → Formula
  negation : Formula → Formula
  conjunction : Formula → Formula → Formula
  equality : Formula → Formula → Formula

-- where a reference symbol comes from: made by `ref` on this path, a variable's when the path began, or any other
pub data Origin : Type 0 where
  made initial other : Origin

-- the constructor is the type; of a reference: its origin, the type of its cell, and its symbol
pub data Symbolic : Type 0 where
  a_word : Sum → Symbolic
  a_truth : Formula → Symbolic
  a_reference : Origin → ℕ → ℕ → Symbolic

abbrev pub type_of : Symbolic → ℕ
type_of (a_word p) = 0
type_of (a_truth f) = 1
type_of (a_reference o t s) = suc (suc t)

-- the symbol s as a value of type t, and its origin
unfoldable pub symbol : Origin → ℕ → ℕ → Symbolic
symbol o zero s = a_word (word_symbol s)
symbol o (suc zero) s = a_truth (atom (truth_symbol s))
symbol o (suc (suc t)) s = a_reference o t s

-- when a path begins: each variable is a symbol of its type, numbered from s on
unfoldable pub symbols : ℕ → List ℕ → List Symbolic
symbols s [] = []
symbols s (t ∷ ts) = symbol initial t s ∷ symbols (suc s) ts

-- two symbols that are certainly different cells: different ones, of which `ref` made one on this path, and the other too or it was a variable's
unfoldable pub apart : Origin → ℕ → Origin → ℕ → Bool
apart made s made u = not (eqb s u)
apart made s initial u = not (eqb s u)
apart initial s made u = not (eqb s u)
apart initial s initial u = false
apart made s other u = false
apart initial s other u = false
apart other s o u = false

-- ---- equality

abbrev pub is_constant : Sum → Bool
is_constant p = all is_zero p.coefficients

abbrev pub zero_difference : Sum → Formula
zero_difference d = pick (is_constant d) (constantly (is_zero d.constant)) (atom (difference d))

abbrev pub equal_sums : Sum → Sum → Formula
equal_sums p q = zero_difference (minus p q)

unfoldable pub equal_references : Origin → ℕ → Origin → ℕ → Formula
equal_references o s p u = pick (eqb s u) (constantly true) (pick (apart o s p u) (constantly false) (atom (pair s u)))
