-- The atoms of symbols that the code finds or makes are those of the symbolic rules, and different rows stay different atoms; likewise the equality of
-- references. Assumes nothing.
use Rattle.std.specs.Prelude.{Bool, true, false, List, ◌⊎◌, ◌≡◌, refl, ℕ, ◌<◌, eqb}
use Rattle.std.proofs.lemmas.Bool.{false≢true, eqb-false}
use Rattle.std.proofs.Common.{inl, inr, sym, ◌∙◌, arith, eqb-true, eq-eqb}
use Rattle.script.specs.Tests.Laws.{both_true, true-both, or_cases, or_first, or_second}
use Rattle.rules.specs.Symbolic.{Atom, truth_symbol, pair, same_atom, atom, constantly, Origin, apart, equal_references}
use Rattle.rules.specs.Symbolic.Laws.{SameAtoms}
use Rattle.rules.proofs.Symbolic.Laws.{same-atoms, atoms-same, same_atom-refl}
use Rattle.terms.specs.Atoms.{holds, is_atom, atom_at, atom_row_of, atom_left, references_row, references_left}
use Rattle.terms.specs.Atoms.Laws.{left-found, left-made, row_one, left_one, row_apart, left-apart, row_open, left_open}
use Rattle.terms.specs.References.{reference_at, symbol_at, apart_at}
use Rattle.terms.specs.References.Laws.{symbol_of, apart_of}
use Rattle.terms.specs.Search.{first-cases}
use Rattle.terms.specs.Terms.{count_in, row_in, Space, pushed, AtomRow, TruthRow, Distinct, Made, of_difference, of_pair, of_truth}
use Rattle.terms.specs.Terms.Laws.{added-refl, pushed_op, pushed_a, pushed_b, pushed-added, pushed-inside, pushed-distinct, made-constant}
use Rattle.terms.specs.declared.Row.{Row}

-- ---- what the test of a row tells

pub data Holds (op a b : ℕ) (row : Row) : Type 0 where
  in_order : row.op ≡ op → row.a ≡ a → row.b ≡ b → Holds op a b row
  turned : row.op ≡ op → row.a ≡ b → row.b ≡ a → Holds op a b row

holds-told : (row : Row) (a b : ℕ) → holds row a b ≡ true → (row.a ≡ a) × (row.b ≡ b)
unfolding holds
holds-told row a b t =
    let u = both_true (eqb row.a a) (eqb row.b b) t in (eqb-true row.a a u.0, eqb-true row.b b u.1)

told-holds : (row : Row) (a b : ℕ) → row.a ≡ a → row.b ≡ b → holds row a b ≡ true
unfolding holds
told-holds row a b e f = true-both (eqb row.a a) (eqb row.b b) (eq-eqb row.a a e) (eq-eqb row.b b f)

pub atom-told : (op a b : ℕ) (row : Row) → is_atom op a b row ≡ true → Holds op a b row
unfolding is_atom
atom-told op a b row t = let u = both_true (eqb row.op op) _ t in go (eqb-true row.op op u.0) (or_cases (holds row a b) (holds row b a) u.1)
  where
    go : row.op ≡ op → (holds row a b ≡ true) ⊎ (holds row b a ≡ true) → Holds op a b row
    go e (inl h) = let k = holds-told row a b h in in_order e k.0 k.1
    go e (inr h) = let k = holds-told row b a h in turned e k.0 k.1

pub told-atom : {op a b : ℕ} {row : Row} → Holds op a b row → is_atom op a b row ≡ true
unfolding is_atom
told-atom {op} {a} {b} {row} (in_order e f g) =
    true-both (eqb row.op op) _ (eq-eqb row.op op e) (or_first (holds row a b) (holds row b a) (told-holds row a b f g))
told-atom {op} {a} {b} {row} (turned e f g) =
    true-both (eqb row.op op) _ (eq-eqb row.op op e) (or_second (holds row a b) (holds row b a) (told-holds row b a f g))

-- ---- different atoms

-- what is no atom by a test is none
pub not_same : (x y : Atom) → (SameAtoms x y → ⊥) → same_atom x y ≡ false
not_same x y n = go (same_atom x y) refl
  where
    go : (t : Bool) → same_atom x y ≡ t → t ≡ false
    go true e = absurd (n (same-atoms x y e))
    go false e = refl

-- the same atom of symbols has the same operator and operands, in either order
same_row : {ws left : List ℕ} {i n : ℕ} {x y : Atom} → AtomRow ws i x → AtomRow left n y → SameAtoms x y → (row_in left n).op < of_difference
    → Holds (row_in left n).op (row_in left n).a (row_in left n).b (row_in ws i)
same_row (AtomRow.truth_symbol_row e f g) (AtomRow.truth_symbol_row e' f' g') (SameAtoms.one_truth k) h =
    in_order (e ∙ sym e') (f ∙ k ∙ sym f') (g ∙ k ∙ sym g')
same_row (AtomRow.pair_row e f g) (AtomRow.pair_row e' f' g') (SameAtoms.straight k l) h =
    in_order (e ∙ sym e') (f ∙ k ∙ sym f') (g ∙ l ∙ sym g')
same_row (AtomRow.pair_row e f g) (AtomRow.pair_row e' f' g') (SameAtoms.crossed k l) h =
    turned (e ∙ sym e') (f ∙ k ∙ sym g') (g ∙ l ∙ sym f')
same_row u (AtomRow.difference_row e' f' g' l m p q) (SameAtoms.same_difference k) h = absurd (omega arith)
same_row u (AtomRow.difference_row e' f' g' l m p q) (SameAtoms.opposites k) h = absurd (omega arith)
same_row {ws = ws} {left = left} {i = i} {n = n} (Rattle.terms.specs.Terms.pair_row {r = r} {s = s} e f g) (Rattle.terms.specs.Terms.truth_symbol_row e' f' g') x20 h = elim x20 [ ]
same_row {ws = ws} {left = left} {i = i} {n = n} (Rattle.terms.specs.Terms.difference_row {j = j} {k = k} {p = p} {q = q} _ _ _ _ _ _ _) (Rattle.terms.specs.Terms.truth_symbol_row {s = s} e' f' g') x36 h = elim x36 [ ]
same_row {ws = ws} {left = left} {i = i} {n = n} (Rattle.terms.specs.Terms.truth_symbol_row {s = s} e f g) (Rattle.terms.specs.Terms.pair_row {r = r} e' f' g') x18 h = elim x18 [ ]
same_row {ws = ws} {left = left} {i = i} {n = n} (Rattle.terms.specs.Terms.difference_row {j = j} {k = k} {p = p} {q = q} _ _ _ _ _ _ _) (Rattle.terms.specs.Terms.pair_row {r = r} {s = s} e' f' g') x34 h = elim x34 [ ]

-- ---- found or made

module _ {ws : List ℕ} (s : Space ws 1) (d : Distinct ws) (op a b : ℕ) (h : op < of_difference) (y : Atom)
    (old : (left : List ℕ) (i : ℕ) → Holds op a b (row_in left i) → TruthRow left i (atom y)) where
  new_row : ((i : ℕ) → i < count_in ws → atom_at ws op a b i ≡ false) → Distinct (pushed ws op a b)
  new_row none = pushed-distinct s d op a b (λ e. absurd (omega arith)) λ i x z l u v. not_same x z λ k.
      let e = pushed_op s op a b in
      let t = told-atom (rw (e, pushed_a s op a b, pushed_b s op a b) at (same_row u v k (omega arith))) in
      false≢true (sym (none i l) ∙ t)

  made_by : (r : ℕ) (left : List ℕ) → r ≡ atom_row_of ws op a b → left ≡ atom_left ws op a b → Made ws left r (atom y)
  made_by r left e f = go (first-cases (atom_at ws op a b) (count_in ws))
    where
      go : ((atom_row_of ws op a b < count_in ws) × (atom_at ws op a b (atom_row_of ws op a b) ≡ true))
          ⊎ ((atom_row_of ws op a b ≡ count_in ws) × ((i : ℕ) → i < count_in ws → atom_at ws op a b i ≡ false))
          → Made ws left r (atom y)
      go (inl (l, t)) =
          rw (e, f, sym (left-found ws (atom_row_of ws op a b) op a b l))
          (record { added = added-refl ws 1; inside = l; is = old ws _ (atom-told op a b _ t); distinct = d })
      go (inr (l, n)) =
          rw (e, f, sym (left-made ws (atom_row_of ws op a b) op a b (omega arith)), l)
          (record {
            added = pushed-added s op a b;
            inside = pushed-inside s op a b;
            is = old (pushed ws op a b) (count_in ws) (in_order (pushed_op s op a b) (pushed_a s op a b) (pushed_b s op a b));
            distinct = new_row n;
          })

truth-row : (u : ℕ) (left : List ℕ) (i : ℕ) → Holds of_truth u u (row_in left i) → TruthRow left i (atom (truth_symbol u))
truth-row u left i (in_order e f g) = TruthRow.atom_row (AtomRow.truth_symbol_row e f g) (same_atom-refl (truth_symbol u))
truth-row u left i (turned e f g) = TruthRow.atom_row (AtomRow.truth_symbol_row e f g) (same_atom-refl (truth_symbol u))

pair_row_lem : (a b : ℕ) (left : List ℕ) (i : ℕ) → Holds of_pair a b (row_in left i) → TruthRow left i (atom (pair a b))
pair_row_lem a b left i (in_order e f g) = TruthRow.atom_row (AtomRow.pair_row e f g) (same_atom-refl (pair a b))
pair_row_lem a b left i (turned e f g) = TruthRow.atom_row (AtomRow.pair_row e f g) (atoms-same (SameAtoms.crossed refl refl))

-- what `symbols_atom` gives of a truth symbol
pub made-truth : {ws : List ℕ} → Space ws 1 → Distinct ws → (u r : ℕ) (left : List ℕ) → r ≡ atom_row_of ws of_truth u u → left ≡ atom_left ws of_truth u u
    → Made ws left r (atom (truth_symbol u))
made-truth s d u = made_by s d of_truth u u (omega arith) (truth_symbol u) (truth-row u)

-- what `symbols_atom` gives of a pair of reference symbols
pub made_pair : {ws : List ℕ} → Space ws 1 → Distinct ws → (a b r : ℕ) (left : List ℕ) → r ≡ atom_row_of ws of_pair a b → left ≡ atom_left ws of_pair a b
    → Made ws left r (atom (pair a b))
made_pair s d a b = made_by s d of_pair a b (omega arith) (pair a b) (pair_row_lem a b)

-- ---- references

equal_one : (o : Origin) (s : ℕ) (p : Origin) (u : ℕ) → eqb s u ≡ true → equal_references o s p u ≡ constantly true
unfolding equal_references
equal_one o s p u t = rw t refl

equal-apart : (o : Origin) (s : ℕ) (p : Origin) (u : ℕ) → eqb s u ≡ false → apart o s p u ≡ true → equal_references o s p u ≡ constantly false
unfolding equal_references
equal-apart o s p u t v = rw (t, v) refl

equal_open : (o : Origin) (s : ℕ) (p : Origin) (u : ℕ) → eqb s u ≡ false → apart o s p u ≡ false → equal_references o s p u ≡ atom (pair s u)
unfolding equal_references
equal_open o s p u t v = rw (t, v) refl

-- what `equal_references` gives
pub made-references : {ws : List ℕ} → Space ws 1 → Distinct ws → (o : Origin) (s : ℕ) (p : Origin) (u : ℕ) (r : ℕ) (left : List ℕ)
    → r ≡ references_row ws (reference_at o s) (reference_at p u) → left ≡ references_left ws (reference_at o s) (reference_at p u)
    → Made ws left r (equal_references o s p u)
made-references {ws} sp d o s p u r left e f = go (eqb s u) refl (apart o s p u) refl
  where
    first : s ≡ symbol_at (reference_at o s)
    first = sym (symbol_of o s)

    second : u ≡ symbol_at (reference_at p u)
    second = sym (symbol_of p u)

    known : (v : Bool) → apart o s p u ≡ v → apart_at (reference_at o s) (reference_at p u) ≡ v
    known v k = apart_of o s p u ∙ k

    go : (t : Bool) → eqb s u ≡ t → (v : Bool) → apart o s p u ≡ v → Made ws left r (equal_references o s p u)
    go true t v k =
        let n = eqb-true s u t in
        rw (e, f, sym (row_one ws (reference_at o s) (reference_at p u) first second n), sym (left_one ws (reference_at o s) (reference_at p u) first second n), equal_one o s p u t)
        (made-constant sp d true 0)
    go false t true k =
        let n = eqb-false s u t in
        let a = known true k in
        rw (e, f, sym (row_apart ws (reference_at o s) (reference_at p u) first second n a), sym (left-apart ws (reference_at o s) (reference_at p u) first second n a), equal-apart o s p u t k)
        (made-constant sp d false 0)
    go false t false k =
        let n = eqb-false s u t in
        let a = known false k in
        rw (equal_open o s p u t k)
        (made_pair sp d s u r left (e ∙ sym (row_open ws (reference_at o s) (reference_at p u) first second n a))
        (f ∙ sym (left_open ws (reference_at o s) (reference_at p u) first second n a)))
