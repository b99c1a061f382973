-- The terms of a path in their rows: what a row stands for in the symbolic rules. An atom's row stands for every spelling of its atom, every row of a
-- difference is one of words, and different rows of atoms are different atoms. Assumes nothing.
pub mod Laws
use Rattle.std.specs.Prelude.{Bool, true, false, List, ◌≡◌, ℕ, ◌+◌, ◌≤◌, ◌<◌, length, get_or, set}
use Rattle.rules.specs.Symbolic.{Sum, number, word_symbol, plus, minus, Atom, truth_symbol, pair, difference, same_atom, Formula, constantly, atom, negation, conjunction, equality}
use Rattle.terms.specs.Places.{count_at, row_at, row_limit, rows_at, rows_end, symbol_limit}
use Rattle.terms.specs.declared.Row.{Row}

-- ---- the operators of rows, in their order: words, truths, of which those with operands stand together, and atoms

abbrev pub of_number : ℕ
of_number = 0

abbrev pub of_symbol : ℕ
of_symbol = 1

abbrev pub of_sum : ℕ
of_sum = 2

abbrev pub of_constant : ℕ
of_constant = 3

abbrev pub of_negation : ℕ
of_negation = 4

abbrev pub of_conjunction : ℕ
of_conjunction = 5

abbrev pub of_equality : ℕ
of_equality = 6

abbrev pub of_exclusion : ℕ
of_exclusion = 7

abbrev pub of_truth : ℕ
of_truth = 8

abbrev pub of_pair : ℕ
of_pair = 9

abbrev pub of_difference : ℕ
of_difference = 10

-- the operators of atoms are those from here on
abbrev pub first_atom : ℕ
first_atom = of_truth

-- ---- the rows

abbrev pub count_in : List ℕ → ℕ
count_in ws = get_or ws count_at 0

abbrev pub row_in : List ℕ → ℕ → Row
row_in ws i = record { op = get_or ws (row_at i) 0; a = get_or ws (row_at i + 1) 0; b = get_or ws (row_at i + 2) 0 }

-- the slice has all its rows, and so many are free
pub record Space (ws : List ℕ) (more : ℕ) : Type 0 where
  pub lent : rows_end ≤ length ws
  pub room : count_in ws + more ≤ row_limit

abbrev pub pushed : List ℕ → ℕ → ℕ → ℕ → List ℕ
pushed ws op a b =
    let at = row_at (count_in ws) in
    set (set (set (set ws at op) (at + 1) a) (at + 2) b) count_at (count_in ws + 1)

-- ---- what a row stands for

pub data SumRow (ws : List ℕ) : ℕ → Sum → Type 0 where
  number_row : {i w : ℕ} → (row_in ws i).op ≡ of_number → (row_in ws i).a ≡ w → SumRow ws i (number w)
  symbol_row : {i s : ℕ} → (row_in ws i).op ≡ of_symbol → (row_in ws i).a ≡ s → s < symbol_limit → SumRow ws i (word_symbol s)
  plus_row : {i j k : ℕ} {p q : Sum} → (row_in ws i).op ≡ of_sum → (row_in ws i).a ≡ j → (row_in ws i).b ≡ k → j < i → k < i → SumRow ws j p → SumRow ws k q
      → SumRow ws i (plus p q)

pub data AtomRow (ws : List ℕ) : ℕ → Atom → Type 0 where
  truth_symbol_row : {i s : ℕ} → (row_in ws i).op ≡ of_truth → (row_in ws i).a ≡ s → (row_in ws i).b ≡ s → AtomRow ws i (truth_symbol s)
  pair_row : {i r s : ℕ} → (row_in ws i).op ≡ of_pair → (row_in ws i).a ≡ r → (row_in ws i).b ≡ s → AtomRow ws i (pair r s)
  difference_row : {i j k : ℕ} {p q : Sum} → (row_in ws i).op ≡ of_difference → (row_in ws i).a ≡ j → (row_in ws i).b ≡ k → j < i → k < i → SumRow ws j p → SumRow ws k q
      → AtomRow ws i (difference (minus p q))

abbrev pub bit_of : Bool → ℕ
bit_of true = 1
bit_of false = 0

pub data TruthRow (ws : List ℕ) : ℕ → Formula → Type 0 where
  constant_row : {i : ℕ} {b : Bool} → (row_in ws i).op ≡ of_constant → (row_in ws i).a ≡ bit_of b → TruthRow ws i (constantly b)
  atom_row : {i : ℕ} {x y : Atom} → AtomRow ws i x → same_atom x y ≡ true → TruthRow ws i (atom y)
  negation_row : {i j : ℕ} {f : Formula} → (row_in ws i).op ≡ of_negation → (row_in ws i).a ≡ j → j < i → TruthRow ws j f → TruthRow ws i (negation f)
  conjunction_row : {i j k : ℕ} {f g : Formula} → (row_in ws i).op ≡ of_conjunction → (row_in ws i).a ≡ j → (row_in ws i).b ≡ k → j < i → k < i
      → TruthRow ws j f → TruthRow ws k g → TruthRow ws i (conjunction f g)
  equality_row : {i j k : ℕ} {f g : Formula} → (row_in ws i).op ≡ of_equality → (row_in ws i).a ≡ j → (row_in ws i).b ≡ k → j < i → k < i
      → TruthRow ws j f → TruthRow ws k g → TruthRow ws i (equality f g)
  exclusion_row : {i j k : ℕ} {f g : Formula} → (row_in ws i).op ≡ of_exclusion → (row_in ws i).a ≡ j → (row_in ws i).b ≡ k → j < i → k < i
      → TruthRow ws j f → TruthRow ws k g → TruthRow ws i (conjunction f (negation g))

-- row i is that of some atom
pub data SomeAtom (ws : List ℕ) (i : ℕ) : Type 0 where
  some-atom : {x : Atom} → AtomRow ws i x → SomeAtom ws i

-- every row with the operator of a difference is that of an atom, so its operands are words; and different rows of atoms are different atoms
pub record Distinct (ws : List ℕ) : Type 0 where
  pub differences : (i : ℕ) → i < count_in ws → (row_in ws i).op ≡ of_difference → SomeAtom ws i
  pub different : (i j : ℕ) (x y : Atom) → i < j → j < count_in ws → AtomRow ws i x → AtomRow ws j y → same_atom x y ≡ false

-- ---- more rows

-- the rows from before are as before
pub record Grown (ws left : List ℕ) : Type 0 where
  pub grows : count_in ws ≤ count_in left
  pub rows : (k : ℕ) → rows_at ≤ k → k < row_at (count_in ws) → get_or left k 0 ≡ get_or ws k 0

-- nothing but rows is changed, and at most `more` are added
pub record Added (ws left : List ℕ) (more : ℕ) : Type 0 where
  pub grown : Grown ws left
  pub most : count_in left ≤ count_in ws + more
  pub before : (k : ℕ) → k < count_at → get_or left k 0 ≡ get_or ws k 0
  pub beyond : (k : ℕ) → rows_end ≤ k → get_or left k 0 ≡ get_or ws k 0

-- a row that stands for a formula, where at most one was added
pub record Made (ws left : List ℕ) (r : ℕ) (f : Formula) : Type 0 where
  pub added : Added ws left 1
  pub inside : r < count_in left
  pub is : TruthRow left r f
  pub distinct : Distinct left

-- likewise for a word
pub record MadeWord (ws left : List ℕ) (r : ℕ) (p : Sum) : Type 0 where
  pub added : Added ws left 1
  pub inside : r < count_in left
  pub is : SumRow left r p
  pub distinct : Distinct left
