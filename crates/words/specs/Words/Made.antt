-- The equality of words that the code finds or makes is that of the symbolic rules, and different rows stay different atoms. Assumes nothing.
use Rattle.std.specs.Prelude.{◌≡◌, ℕ, ◌<◌, Bool, true, false, ◌⊎◌, List, ◌==◌, slice_index, refl}
use Rattle.std.proofs.lemmas.Bool.{false≢true}
use Rattle.std.proofs.Common.{inl, inr, sym, ap₂, ◌∙◌, arith}
use Rattle.script.specs.Tests.Laws.{both_true, true-both}
use Rattle.rules.specs.Symbolic.{Sum, minus, Atom, difference, atom, equal_sums}
use Rattle.rules.specs.Symbolic.Laws.{SameAtoms}
use Rattle.rules.proofs.Symbolic.Laws.{atoms-same, same_atom-refl}
use Rattle.terms.specs.Atoms.Laws.{left-found, left-made}
use Rattle.terms.specs.Atoms.Made.{not_same}
use Rattle.terms.specs.Places.{row_limit}
use Rattle.terms.specs.Search.{first-cases}
use Rattle.terms.specs.Terms.{count_in, row_in, Space, pushed, SumRow, AtomRow, TruthRow, SomeAtom, Distinct, Made, of_difference}
use Rattle.terms.specs.Terms.Laws.{added-refl, sum_from, sum_kept, pushed_op, pushed_a, pushed_b, pushed-grown, pushed-added, pushed-inside, pushed-distinct, made-constant}
use Rattle.words.specs.Sums.{joins, numbers_of, constant_numbers}
use Rattle.words.specs.Sums.Laws.{joined, joined-joins}
use Rattle.words.specs.Sums.Stands.{Stands, numbers_stand, stands-constant, stands-zero, alike-told, told-alike}
use Rattle.words.specs.Words.{is_wanted, is_found, difference_row_of, difference_left, equal_row, equal_left}
use Rattle.words.specs.Words.Laws.{row-constant, left-constant, row-atom, left-atom}

-- ---- a difference found again

-- a row that is found is an atom, and the same one
found-atom : {ws wanted : List ℕ} {d : Sum} (i : ℕ) → Distinct ws → i < count_in ws → i < row_limit → Stands wanted d → is_found ws wanted i ≡ true
    → TruthRow ws i (atom (difference d))
unfolding is_found
found-atom {ws} {wanted} {d} i c l h s t =
    let u = both_true (joins (row_in ws i) of_difference i) _ t in
    let o = (joined (row_in ws i) 10 i u.0).is in
    go o (c.differences i l o) u.1
  where
    go : (row_in ws i).op ≡ of_difference → SomeAtom ws i → is_wanted ws wanted (row_in ws i).a (row_in ws i).b ≡ true → TruthRow ws i (atom (difference d))
    go o (SomeAtom.some-atom (AtomRow.truth_symbol_row e f g)) w = absurd (omega arith)
    go o (SomeAtom.some-atom (AtomRow.pair_row e f g)) w = absurd (omega arith)
    go o (SomeAtom.some-atom (AtomRow.difference_row e f g m n a b)) w =
        TruthRow.atom_row (AtomRow.difference_row e f g m n a b)
        (atoms-same (alike-told (numbers_stand a b (omega arith) (omega arith)) s (rw (f, g) at w)))

-- the row of the same atom is found
again : {ws : List ℕ} {i p q : ℕ} {x : Atom} {y z : Sum} → AtomRow ws i x → i < row_limit → SumRow ws p y → SumRow ws q z → p < row_limit → q < row_limit
    → SameAtoms x (difference (minus y z)) → is_found ws (numbers_of ws p q) i ≡ true
unfolding is_found
again {ws} {i} {p} {q} (AtomRow.difference_row {j = j} {k = k} e f g l m a b) h u v c d same =
    true-both (joins (row_in ws i) of_difference i) _ (joined-joins (row_in ws i) of_difference i (record { is = e; first = omega arith; second = omega arith }))
    (rw (f, g) (told-alike (numbers_stand a b (omega arith) (omega arith)) (numbers_stand u v c d) same))
again {ws = ws} {i = i} {p = p} {q = q} {y = y} {z = z} (Rattle.terms.specs.Terms.truth_symbol_row {s = s} _ _ _) h u v c d same = elim same [ ]
again {ws = ws} {i = i} {p = p} {q = q} {y = y} {z = z} (Rattle.terms.specs.Terms.pair_row {r = r} {s = s} _ _ _) h u v c d same = elim same [ ]

module _ {ws : List ℕ} (s : Space ws 1) (d : Distinct ws) {p q : ℕ} {x y : Sum} (u : SumRow ws p x) (v : SumRow ws q y)
    (h : p < count_in ws) (l : q < count_in ws) where
  -- the row that is pushed
  new_atom : AtomRow (pushed ws of_difference p q) (count_in ws) (difference (minus x y))
  new_atom =
      let g = pushed-grown s of_difference p q in
      AtomRow.difference_row (pushed_op s of_difference p q) (pushed_a s of_difference p q) (pushed_b s of_difference p q) h l (sum_kept g u h) (sum_kept g v l)

  -- no earlier row is the atom of the row that is pushed
  new_difference : ((i : ℕ) → i < count_in ws → is_found ws (numbers_of ws p q) i ≡ false) → Distinct (pushed ws of_difference p q)
  new_difference none = pushed-distinct s d of_difference p q (λ e. SomeAtom.some-atom new_atom) λ i a b m k n. not_same a b (go i a b m k n)
    where
      go : (i : ℕ) (a b : Atom) → i < count_in ws → AtomRow ws i a → AtomRow (pushed ws of_difference p q) (count_in ws) b → SameAtoms a b → ⊥
      go i a b m k (AtomRow.truth_symbol_row e f g) same = let o = pushed_op s of_difference p q in omega arith
      go i a b m k (AtomRow.pair_row e f g) same = let o = pushed_op s of_difference p q in omega arith
      go i a b m k (AtomRow.difference_row {j = j} {k = o} e f g c w t z) same =
          let left_p : p ≡ j = sym (pushed_a s of_difference p q) ∙ f in
          let left_q : q ≡ o = sym (pushed_b s of_difference p q) ∙ g in
          let grown = pushed-grown s of_difference p q in
          let found = again k (omega arith) (sum_from grown t (omega arith)) (sum_from grown z (omega arith)) (omega arith) (omega arith) same in
          false≢true (sym (none i m) ∙ ap₂ (λ (a b : ℕ). is_found ws (numbers_of ws a b) i) left_p left_q ∙ found)

  made-atom : (r : ℕ) (left : List ℕ) → r ≡ difference_row_of ws (numbers_of ws p q) → left ≡ difference_left ws (numbers_of ws p q) p q
      → Made ws left r (atom (difference (minus x y)))
  made-atom r left e f = go (first-cases (is_found ws (numbers_of ws p q)) (count_in ws))
    where
      go : ((difference_row_of ws (numbers_of ws p q) < count_in ws) × (is_found ws (numbers_of ws p q) (difference_row_of ws (numbers_of ws p q)) ≡ true))
          ⊎ ((difference_row_of ws (numbers_of ws p q) ≡ count_in ws) × ((i : ℕ) → i < count_in ws → is_found ws (numbers_of ws p q) i ≡ false))
          → Made ws left r (atom (difference (minus x y)))
      go (inl (m, t)) =
          rw (e, f, sym (left-found ws (difference_row_of ws (numbers_of ws p q)) 10 p q m))
          (record { added = added-refl ws 1; inside = m; is = found-atom _ d m (omega arith) (numbers_stand u v (omega arith) (omega arith)) t; distinct = d })
      go (inr (m, n)) =
          rw (e, f, sym (left-made ws (difference_row_of ws (numbers_of ws p q)) 10 p q (omega arith)), m)
          (record {
            added = pushed-added s of_difference p q;
            inside = pushed-inside s of_difference p q;
            is = TruthRow.atom_row new_atom (same_atom-refl (difference (minus x y)));
            distinct = new_difference n;
          })

  -- what `equal_words` gives
  pub made-equal : (r : ℕ) (left : List ℕ) → r ≡ equal_row ws p q → left ≡ equal_left ws p q → Made ws left r (equal_sums x y)
  made-equal r left e f = go (constant_numbers (numbers_of ws p q)) refl
    where
      stand : Stands (numbers_of ws p q) (minus x y)
      stand = numbers_stand u v (omega arith) (omega arith)

      go : (t : Bool) → constant_numbers (numbers_of ws p q) ≡ t → Made ws left r (equal_sums x y)
      go true t =
          rw (e, f, sym (row-constant ws p q (numbers_of ws p q) refl t), sym (left-constant ws p q t), sym (stands-constant stand) ∙ t, sym (stands-zero stand))
          (made-constant s d (slice_index (numbers_of ws p q) 0 == 0) 0)
      go false t =
          rw (sym (stands-constant stand) ∙ t)
          (made-atom r left (e ∙ sym (row-atom ws p q (numbers_of ws p q) refl t)) (f ∙ sym (left-atom ws p q (numbers_of ws p q) refl t)))
