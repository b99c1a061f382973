-- The words are right: bit p of the word of a row that has at least the mark is the truth of its formula under assignment 64 * block + p.
-- Assumes nothing.
use Rattle.std.specs.Prelude.{Bool, List, [], ◌∷◌, ◌++◌, ◌⊎◌, ◌≡◌, refl, get_or}
use Rattle.std.proofs.Math.Bool.{true, false, not, ◌&&◌, beq}
use Rattle.std.proofs.lemmas.Bool.{false≢true}
use Rattle.std.proofs.Common.{inl, inr, ◌∙◌, le-ltb, le-leb, arith, lit<}
use Rattle.std.proofs.Math.Path.{sym, ap, ap₂}
use Prim.Native.Nat.{ℕ, zero, suc, ◌+◌, ◌-◌, ◌*◌, ◌≤◌, ◌<◌}
use Rattle.std.proofs.Math.Decide.{ℕ_discrete, le_ind}
use Rattle.std.specs.Int.Bits.{bit_and, bit_xor, and_lt}
use Rattle.std.proofs.lemmas.Nat.{xor_lt}
use Rattle.std.proofs.Math.ListN.{get_or-append}
use Rattle.std.proofs.lemmas.List.{get_or_at}
use Rattle.script.specs.Tests.Bits.{bit, bit-and, bit_xor_lem, bit_not}
use Rattle.script.specs.Tests.Laws.{or_cases}
use Rattle.rules.specs.Satisfiable.{holds, atoms_of, among}
use Rattle.rules.proofs.Satisfiable.Laws.{among_same, among_append}
use Rattle.rules.proofs.Symbolic.Laws.{same_atom_trans}
use Rattle.rules.specs.Symbolic.{Atom, Formula, constantly, atom, negation, conjunction, equality, same_atom}
use Rattle.terms.specs.Terms.{row_in, bit_of, TruthRow, constant_row, atom_row, negation_row, conjunction_row, equality_row, exclusion_row, AtomRow, truth_symbol_row, pair_row, difference_row, of_conjunction, of_constant, of_equality, of_exclusion, of_negation, first_atom}
use Rattle.terms.specs.declared.Row.{Row}
use Rattle.rows.specs.Code.{ones, spread_of, pattern_of, rank, row_word, word_of, words}
use Rattle.rows.specs.Code.Laws.{seen_grows, words-length}
use Rattle.rows.specs.Marks.{Operand, AtLeast}
use Rattle.rows.specs.Known.{Assigned, Right}
use Rattle.known.specs.Atoms.{assign_respects}
use Rattle.known.specs.Patterns.{pattern_bit, pattern_small, spread-bit, spread-small}

-- ---- a row's word by its operator

module _ (r : Row) (x y m block : ℕ) where
  word-atom : 7 < r.op → row_word r x y m block ≡ pattern_of m block
  unfolding row_word
  word-atom h = rw (le-leb first_atom r.op h)

  word_exclusion : r.op ≡ of_exclusion → row_word r x y m block ≡ bit_and x (ones - y)
  unfolding row_word
  word_exclusion e = rw e

  word-equality : r.op ≡ of_equality → row_word r x y m block ≡ ones - bit_xor x y
  unfolding row_word
  word-equality e = rw e

  word-conjunction : r.op ≡ of_conjunction → row_word r x y m block ≡ bit_and x y
  unfolding row_word
  word-conjunction e = rw e

  word-negation : r.op ≡ of_negation → row_word r x y m block ≡ ones - x
  unfolding row_word
  word-negation e = rw e

  word-constant : r.op ≡ of_constant → row_word r x y m block ≡ spread_of r.a
  unfolding row_word
  word-constant e = rw e

-- ---- a row's word by the words of its operands

module _ (ws ms : List ℕ) (least : ℕ) (ns : List ℕ) (block : ℕ) where
  pub words-at : (n i : ℕ) → i < n
      → get_or (words ws ms least ns block n) i 0 ≡ word_of (words ws ms least ns block i) (row_in ws i) (get_or ms i 0) least (get_or ns i 0) block
  unfolding words
  words-at zero i h = absurd (omega arith)
  words-at (suc n) i h = go (ℕ_discrete n i) (words-at n i)
    where
      w : ℕ
      w = word_of (words ws ms least ns block n) (row_in ws n) (get_or ms n 0) least (get_or ns n 0) block

      go : Dec (n ≡ i)
          → (i < n → get_or (words ws ms least ns block n) i 0 ≡ word_of (words ws ms least ns block i) (row_in ws i) (get_or ms i 0) least (get_or ns i 0) block)
          → get_or (words ws ms least ns block n ++ (word_of (words ws ms least ns block n) (row_in ws n) (get_or ms n 0) least (get_or ns n 0) block ∷ [])) i 0
          ≡ word_of (words ws ms least ns block i) (row_in ws i) (get_or ms i 0) least (get_or ns i 0) block
      go (yes q) ih = rw q (get_or_at (words ws ms least ns block i) _ [] 0 i (words-length ws ms least ns block i))
      go (no q) ih =
          let l = words-length ws ms least ns block n in
          get_or-append (words ws ms least ns block n) _ 0 i (omega arith) ∙ ih (omega arith)

  pub words_same : (n i j : ℕ) → j < i → j < n → get_or (words ws ms least ns block i) j 0 ≡ get_or (words ws ms least ns block n) j 0
  words_same n i j h k = words-at i j h ∙ sym (words-at n j k)

  word_row : (n i : ℕ) → i < n → least ≤ get_or ms i 0
      → get_or (words ws ms least ns block n) i 0
      ≡ row_word (row_in ws i) (get_or (words ws ms least ns block i) (row_in ws i).a 0) (get_or (words ws ms least ns block i) (row_in ws i).b 0)
      (get_or ns i 0) block
  unfolding word_of
  word_row n i h k = words-at n i h ∙ rw (le-ltb (get_or ms i 0) least k)

-- ---- right words

not-not : (b : Bool) → not (not b) ≡ b
not-not true = refl
not-not false = refl

module _ {xs : List Atom} {block : ℕ} where
  pub right-negation : {v : ℕ} {f : Formula} → Right xs block v f → Right xs block (ones - v) (negation f)
  unfolding holds
  right-negation {v} {f} r =
      record { small = omega arith; bits = λ p h. bit_not 64 v p h r.small ∙ ap not (r.bits p h) }

  pub right-conjunction : {v w : ℕ} {f g : Formula} → Right xs block v f → Right xs block w g → Right xs block (bit_and v w) (conjunction f g)
  unfolding holds
  right-conjunction {v} {w} r s =
      record { small = and_lt 64 v w r.small s.small; bits = λ p h. bit-and v w p ∙ ap₂ ◌&&◌ (r.bits p h) (s.bits p h) }

  pub right-equality : {v w : ℕ} {f g : Formula} → Right xs block v f → Right xs block w g → Right xs block (ones - bit_xor v w) (equality f g)
  unfolding holds
  right-equality {v} {w} {f} {g} r s =
      record {
        small = omega arith;
        bits = λ p h.
            bit_not 64 (bit_xor v w) p h (xor_lt 64 v w r.small s.small) ∙ ap not (bit_xor_lem v w p) ∙ not-not (beq (bit v p) (bit w p))
            ∙ ap₂ beq (r.bits p h) (s.bits p h);
      }

  pub right-constant : (b : Bool) → Right xs block (spread_of (bit_of b)) (constantly b)
  unfolding holds
  right-constant true = record { small = spread-small 1; bits = λ p h. spread-bit 1 p (lit< tt) h }
  right-constant false = record { small = spread-small 0; bits = λ p h. spread-bit 0 p (lit< tt) h }

-- ---- all marked rows have right words

-- what holds of a row's mark holds of its operands' marks
pub record Closed (P : ℕ → Type 0) (ws ms : List ℕ) (n : ℕ) : Type 0 where
  pub some : (i : ℕ) → P (get_or ms i 0) → 0 < get_or ms i 0
  pub first : (i : ℕ) → i < n → Operand of_negation (row_in ws i).op (get_or ms i 0) i (row_in ws i).a → P (get_or ms i 0) → P (get_or ms (row_in ws i).a 0)
  pub second : (i : ℕ) → i < n → Operand of_conjunction (row_in ws i).op (get_or ms i 0) i (row_in ws i).b → P (get_or ms i 0) → P (get_or ms (row_in ws i).b 0)

rank-more : (ws ms : List ℕ) (least i : ℕ) → rank ws ms least i ≤ rank ws ms least (suc i)
unfolding rank
rank-more ws ms least i = seen_grows (row_in ws i).op (get_or ms i 0) least (rank ws ms least i)

pub rank-grows : (ws ms : List ℕ) (least i n : ℕ) → i ≤ n → rank ws ms least i ≤ rank ws ms least n
rank-grows ws ms least i n h =
    le_ind (λ (m : ℕ). rank ws ms least i ≤ rank ws ms least m) (omega arith) (λ m l e. let o = rank-more ws ms least m in omega arith) n h

pub atom_op : {ws : List ℕ} {i : ℕ} {x : Atom} → AtomRow ws i x → of_exclusion < (row_in ws i).op
atom_op (truth_symbol_row eo ea eb) = omega arith
atom_op (pair_row eo ea eb) = omega arith
atom_op (difference_row eo ea eb ja jb p q) = omega arith

-- an atom of two formulas is one of the first or one of the second
pub either : (f g : Formula) (z : Atom) → among (atoms_of f ++ atoms_of g) z ≡ true → (among (atoms_of f) z ≡ true) ⊎ (among (atoms_of g) z ≡ true)
either f g z m = or_cases (among (atoms_of f) z) (among (atoms_of g) z) (sym (among_append (atoms_of f) (atoms_of g) z) ∙ m)

-- ---- the atoms of a marked row's formula have marked rows

-- the row of an atom
pub data RowOf (P : ℕ → Type 0) (ws ms : List ℕ) (n : ℕ) (z : Atom) : Type 0 where
  row_of : (i : ℕ) {x : Atom} → i < n → AtomRow ws i x → same_atom x z ≡ true → P (get_or ms i 0) → RowOf P ws ms n z

module _ {P : ℕ → Type 0} {ws ms : List ℕ} {n : ℕ} (s : Closed P ws ms n) where
  -- a marked operand below its row
  first-marked : (i j : ℕ) → i < n → P (get_or ms i 0) → of_negation ≤ (row_in ws i).op → (row_in ws i).op ≤ of_exclusion → (row_in ws i).a ≡ j → j < i → P (get_or ms j 0)
  first-marked i j h k l u e b = rw e at (s.first i h (record { marks = s.some i k; low = l; high = u; below = omega arith }) k)

  second-marked : (i j : ℕ) → i < n → P (get_or ms i 0) → of_conjunction ≤ (row_in ws i).op → (row_in ws i).op ≤ of_exclusion → (row_in ws i).b ≡ j → j < i → P (get_or ms j 0)
  second-marked i j h k l u e b = rw e at (s.second i h (record { marks = s.some i k; low = l; high = u; below = omega arith }) k)

  two-rows : (f g : Formula) (z : Atom) → among (atoms_of f ++ atoms_of g) z ≡ true → (among (atoms_of f) z ≡ true → RowOf P ws ms n z)
      → (among (atoms_of g) z ≡ true → RowOf P ws ms n z) → RowOf P ws ms n z
  two-rows f g z m p q = go (either f g z m)
    where
      go : (among (atoms_of f) z ≡ true) ⊎ (among (atoms_of g) z ≡ true) → RowOf P ws ms n z
      go (inl h) = p h
      go (inr h) = q h

  pub rows_of : {i : ℕ} {f : Formula} → TruthRow ws i f → i < n → P (get_or ms i 0) → (z : Atom) → among (atoms_of f) z ≡ true → RowOf P ws ms n z
  unfolding atoms_of among
  rows_of (constant_row eo ea) h k z m = absurd (false≢true m)
  rows_of (atom_row {i = i} {x = x} {y = y} a e) h k z m = go (or_cases (same_atom y z) false m)
    where
      go : (same_atom y z ≡ true) ⊎ (false ≡ true) → RowOf P ws ms n z
      go (inl q) = row_of i h a (same_atom_trans x y z e q) k
      go (inr q) = absurd (false≢true q)
  rows_of (negation_row {i = i} {j = j} eo ea ja t) h k z m =
      rows_of t (omega arith) (first-marked i j h k (omega arith) (omega arith) ea ja) z m
  rows_of (conjunction_row {i = i} {j = j} {k = l} {f = f} {g = g} eo ea eb ja jb t u) h k z m =
      two-rows f g z m
      (rows_of t (omega arith) (first-marked i j h k (omega arith) (omega arith) ea ja) z)
      (rows_of u (omega arith) (second-marked i l h k (omega arith) (omega arith) eb jb) z)
  rows_of (equality_row {i = i} {j = j} {k = l} {f = f} {g = g} eo ea eb ja jb t u) h k z m =
      two-rows f g z m
      (rows_of t (omega arith) (first-marked i j h k (omega arith) (omega arith) ea ja) z)
      (rows_of u (omega arith) (second-marked i l h k (omega arith) (omega arith) eb jb) z)
  rows_of (exclusion_row {i = i} {j = j} {k = l} {f = f} {g = g} eo ea eb ja jb t u) h k z m =
      two-rows f (negation g) z m
      (rows_of t (omega arith) (first-marked i j h k (omega arith) (omega arith) ea ja) z)
      (rows_of u (omega arith) (second-marked i l h k (omega arith) (omega arith) eb jb) z)

-- what the words stand on
pub record Sweep (ws ms : List ℕ) (least n : ℕ) (ns : List ℕ) (xs : List Atom) : Type 0 where
  pub closed : Closed (AtLeast least) ws ms n
  pub numbered : (i : ℕ) (x : Atom) → i < n → least ≤ get_or ms i 0 → AtomRow ws i x → Assigned xs (get_or ns i 0) x

module _ {ws ms : List ℕ} {least n : ℕ} {ns : List ℕ} {xs : List Atom} (s : Sweep ws ms least n ns xs) where
  -- the atoms of a marked row's formula are listed
  pub rows-listed : {i : ℕ} {f : Formula} → TruthRow ws i f → i < n → least ≤ get_or ms i 0 → (z : Atom) → among (atoms_of f) z ≡ true → among xs z ≡ true
  rows-listed t h k z m = go (rows_of s.closed t h k z m)
    where
      go : RowOf (AtLeast least) ws ms n z → among xs z ≡ true
      go (row_of i {x = x} l a e p) = sym (among_same xs x z e) ∙ (s.numbered i x l p a).listed

  module _ (block : ℕ) where
    -- an operand's word
    operand-word : (i a j : ℕ) → i < n → a ≡ j → j < i → get_or (words ws ms least ns block i) a 0 ≡ get_or (words ws ms least ns block n) j 0
    operand-word i a j h e b = ap (λ (k : ℕ). get_or (words ws ms least ns block i) k 0) e ∙ words_same ws ms least ns block n i j b (omega arith)

    right-atom : (i : ℕ) (x y : Atom) → AtomRow ws i x → same_atom x y ≡ true → i < n → least ≤ get_or ms i 0
        → Right xs block (pattern_of (get_or ns i 0) block) (atom y)
    unfolding holds
    right-atom i x y a e h k =
        let m = s.numbered i x h k a in
        record {
          small = pattern_small (get_or ns i 0) block;
          bits = λ p q.
              pattern_bit (get_or ns i 0) block p m.low q ∙ sym (m.bits (block * 64 + p)) ∙ (assign_respects xs (block * 64 + p)).same x y e;
        }

    pub rows_right : {i : ℕ} {f : Formula} → TruthRow ws i f → i < n → least ≤ get_or ms i 0 → Right xs block (get_or (words ws ms least ns block n) i 0) f
    rows_right (constant_row {i = i} {b = b} eo ea) h k =
        rw (word_row ws ms least ns block n i h k, word-constant (row_in ws i) _ _ _ block eo, ea) (right-constant b)
    rows_right (atom_row {i = i} {x = x} {y = y} a e) h k =
        rw (word_row ws ms least ns block n i h k, word-atom (row_in ws i) _ _ _ block (atom_op a)) (right-atom i x y a e h k)
    rows_right (negation_row {i = i} {j = j} eo ea ja t) h k =
        rw (word_row ws ms least ns block n i h k, word-negation (row_in ws i) _ _ _ block eo, operand-word i (row_in ws i).a j h ea ja)
        (right-negation (rows_right t (omega arith) (first-marked s.closed i j h k (omega arith) (omega arith) ea ja)))
    rows_right (conjunction_row {i = i} {j = j} {k = m} eo ea eb ja jb t u) h k =
        let p = operand-word i (row_in ws i).a j h ea ja in
        let q = operand-word i (row_in ws i).b m h eb jb in
        rw (word_row ws ms least ns block n i h k, word-conjunction (row_in ws i) _ _ _ block eo, p, q)
        (right-conjunction
        (rows_right t (omega arith) (first-marked s.closed i j h k (omega arith) (omega arith) ea ja))
        (rows_right u (omega arith) (second-marked s.closed i m h k (omega arith) (omega arith) eb jb)))
    rows_right (equality_row {i = i} {j = j} {k = m} eo ea eb ja jb t u) h k =
        let p = operand-word i (row_in ws i).a j h ea ja in
        let q = operand-word i (row_in ws i).b m h eb jb in
        rw (word_row ws ms least ns block n i h k, word-equality (row_in ws i) _ _ _ block eo, p, q)
        (right-equality
        (rows_right t (omega arith) (first-marked s.closed i j h k (omega arith) (omega arith) ea ja))
        (rows_right u (omega arith) (second-marked s.closed i m h k (omega arith) (omega arith) eb jb)))
    rows_right (exclusion_row {i = i} {j = j} {k = m} eo ea eb ja jb t u) h k =
        let p = operand-word i (row_in ws i).a j h ea ja in
        let q = operand-word i (row_in ws i).b m h eb jb in
        rw (word_row ws ms least ns block n i h k, word_exclusion (row_in ws i) _ _ _ block eo, p, q)
        (right-conjunction
        (rows_right t (omega arith) (first-marked s.closed i j h k (omega arith) (omega arith) ea ja))
        (right-negation (rows_right u (omega arith) (second-marked s.closed i m h k (omega arith) (omega arith) eb jb))))
