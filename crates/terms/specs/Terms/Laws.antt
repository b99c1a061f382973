-- Rows that are added: the rows from before stay what they were, and a row that is no atom keeps different atoms different. Assumes nothing.
use Rattle.std.specs.Prelude.{Bool, false, List, ◌⊎◌, ◌≡◌, refl, ℕ, ◌+◌, ◌≤◌, ◌<◌, length, get_or, set}
use Rattle.std.proofs.Common.{inl, inr, sym, ◌∙◌, eq-or-lt_of_le, arith, length-set, get_or-set_same, get_or-set_other}
use Rattle.rules.specs.Symbolic.{Sum, number, word_symbol, plus, Atom, same_atom, Formula, constantly, negation, conjunction, equality}
use Rattle.terms.specs.Places.{count_at, row_at, symbol_limit}
use Rattle.terms.specs.Terms.{count_in, row_in, Space, pushed, SumRow, AtomRow, TruthRow, bit_of, SomeAtom, Distinct, Grown, Added, Made, MadeWord, first_atom, of_conjunction, of_constant, of_difference, of_equality, of_exclusion, of_negation, of_number, of_sum, of_symbol}

-- ---- more rows

pub grown-refl : (ws : List ℕ) → Grown ws ws
grown-refl ws = record { grows = omega arith; rows = λ k h l. refl }

pub grown_trans : {ws xs ys : List ℕ} → Grown ws xs → Grown xs ys → Grown ws ys
grown_trans g h = record {
  grows = omega arith;
  rows = λ k l m. h.rows k l (omega arith) ∙ g.rows k l m;
}

pub added-refl : (ws : List ℕ) (m : ℕ) → Added ws ws m
added-refl ws m = record { grown = grown-refl ws; most = omega arith; before = λ k h. refl; beyond = λ k h. refl }

-- ---- the rows from before

module _ {ws left : List ℕ} (g : Grown ws left) (i : ℕ) (h : i < count_in ws) where
  pub op_kept : (row_in left i).op ≡ (row_in ws i).op
  op_kept = g.rows (row_at i) (omega arith) (omega arith)

  pub a_kept : (row_in left i).a ≡ (row_in ws i).a
  a_kept = g.rows (row_at i + 1) (omega arith) (omega arith)

  pub b_kept : (row_in left i).b ≡ (row_in ws i).b
  b_kept = g.rows (row_at i + 2) (omega arith) (omega arith)

module _ {ws left : List ℕ} (g : Grown ws left) where
  pub sum_kept : {i : ℕ} {p : Sum} → SumRow ws i p → i < count_in ws → SumRow left i p
  sum_kept (SumRow.number_row {i = i} e f) h = SumRow.number_row (op_kept g i h ∙ e) (a_kept g i h ∙ f)
  sum_kept (SumRow.symbol_row {i = i} e f l) h = SumRow.symbol_row (op_kept g i h ∙ e) (a_kept g i h ∙ f) l
  sum_kept (SumRow.plus_row {i = i} e f t l m p q) h =
      SumRow.plus_row (op_kept g i h ∙ e) (a_kept g i h ∙ f) (b_kept g i h ∙ t) l m (sum_kept p (omega arith)) (sum_kept q (omega arith))

  pub sum_from : {i : ℕ} {p : Sum} → SumRow left i p → i < count_in ws → SumRow ws i p
  sum_from (SumRow.number_row {i = i} e f) h = SumRow.number_row (sym (op_kept g i h) ∙ e) (sym (a_kept g i h) ∙ f)
  sum_from (SumRow.symbol_row {i = i} e f l) h = SumRow.symbol_row (sym (op_kept g i h) ∙ e) (sym (a_kept g i h) ∙ f) l
  sum_from (SumRow.plus_row {i = i} e f t l m p q) h =
      SumRow.plus_row (sym (op_kept g i h) ∙ e) (sym (a_kept g i h) ∙ f) (sym (b_kept g i h) ∙ t) l m
      (sum_from p (omega arith)) (sum_from q (omega arith))

  pub atom-kept : {i : ℕ} {x : Atom} → AtomRow ws i x → i < count_in ws → AtomRow left i x
  atom-kept (AtomRow.truth_symbol_row {i = i} e f t) h =
      AtomRow.truth_symbol_row (op_kept g i h ∙ e) (a_kept g i h ∙ f) (b_kept g i h ∙ t)
  atom-kept (AtomRow.pair_row {i = i} e f t) h = AtomRow.pair_row (op_kept g i h ∙ e) (a_kept g i h ∙ f) (b_kept g i h ∙ t)
  atom-kept (AtomRow.difference_row {i = i} e f t l m p q) h =
      AtomRow.difference_row (op_kept g i h ∙ e) (a_kept g i h ∙ f) (b_kept g i h ∙ t) l m
      (sum_kept p (omega arith)) (sum_kept q (omega arith))

  pub atom-from : {i : ℕ} {x : Atom} → AtomRow left i x → i < count_in ws → AtomRow ws i x
  atom-from (AtomRow.truth_symbol_row {i = i} e f t) h =
      AtomRow.truth_symbol_row (sym (op_kept g i h) ∙ e) (sym (a_kept g i h) ∙ f) (sym (b_kept g i h) ∙ t)
  atom-from (AtomRow.pair_row {i = i} e f t) h =
      AtomRow.pair_row (sym (op_kept g i h) ∙ e) (sym (a_kept g i h) ∙ f) (sym (b_kept g i h) ∙ t)
  atom-from (AtomRow.difference_row {i = i} e f t l m p q) h =
      AtomRow.difference_row (sym (op_kept g i h) ∙ e) (sym (a_kept g i h) ∙ f) (sym (b_kept g i h) ∙ t) l m
      (sum_from p (omega arith)) (sum_from q (omega arith))

  pub truth-kept : {i : ℕ} {f : Formula} → TruthRow ws i f → i < count_in ws → TruthRow left i f
  truth-kept (TruthRow.constant_row {i = i} e f) h = TruthRow.constant_row (op_kept g i h ∙ e) (a_kept g i h ∙ f)
  truth-kept (TruthRow.atom_row r s) h = TruthRow.atom_row (atom-kept r h) s
  truth-kept (TruthRow.negation_row {i = i} e f l p) h =
      TruthRow.negation_row (op_kept g i h ∙ e) (a_kept g i h ∙ f) l (truth-kept p (omega arith))
  truth-kept (TruthRow.conjunction_row {i = i} e f t l m p q) h =
      TruthRow.conjunction_row (op_kept g i h ∙ e) (a_kept g i h ∙ f) (b_kept g i h ∙ t) l m
      (truth-kept p (omega arith)) (truth-kept q (omega arith))
  truth-kept (TruthRow.equality_row {i = i} e f t l m p q) h =
      TruthRow.equality_row (op_kept g i h ∙ e) (a_kept g i h ∙ f) (b_kept g i h ∙ t) l m
      (truth-kept p (omega arith)) (truth-kept q (omega arith))
  truth-kept (TruthRow.exclusion_row {i = i} e f t l m p q) h =
      TruthRow.exclusion_row (op_kept g i h ∙ e) (a_kept g i h ∙ f) (b_kept g i h ∙ t) l m
      (truth-kept p (omega arith)) (truth-kept q (omega arith))

-- ---- a row that is pushed

-- the list after the first, the second and the third of its stores
abbrev stored : List ℕ → ℕ → List ℕ
stored ws op = set ws (row_at (count_in ws)) op

abbrev stored_a : List ℕ → ℕ → ℕ → List ℕ
stored_a ws op a = set (stored ws op) (row_at (count_in ws) + 1) a

abbrev stored_b : List ℕ → ℕ → ℕ → ℕ → List ℕ
stored_b ws op a b = set (stored_a ws op a) (row_at (count_in ws) + 2) b

module _ {ws : List ℕ} (s : Space ws 1) (op a b : ℕ) where
  pub pushed-length : length (pushed ws op a b) ≡ length ws
  pushed-length = simp length-set

  pub pushed-count : count_in (pushed ws op a b) ≡ count_in ws + 1
  pushed-count = get_or-set_same (stored_b ws op a b) count_at (count_in ws + 1) 0 (simp length-set (omega arith))

  pub pushed_op : (row_in (pushed ws op a b) (count_in ws)).op ≡ op
  pushed_op =
      let n = count_in ws in
      get_or-set_other (stored_b ws op a b) count_at (row_at n) (n + 1) 0 (λ e. omega arith)
      ∙ get_or-set_other (stored_a ws op a) (row_at n + 2) (row_at n) b 0 (λ e. omega arith)
      ∙ get_or-set_other (stored ws op) (row_at n + 1) (row_at n) a 0 (λ e. omega arith)
      ∙ get_or-set_same ws (row_at n) op 0 (omega arith)

  pub pushed_a : (row_in (pushed ws op a b) (count_in ws)).a ≡ a
  pushed_a =
      let n = count_in ws in
      get_or-set_other (stored_b ws op a b) count_at (row_at n + 1) (n + 1) 0 (λ e. omega arith)
      ∙ get_or-set_other (stored_a ws op a) (row_at n + 2) (row_at n + 1) b 0 (λ e. omega arith)
      ∙ get_or-set_same (stored ws op) (row_at n + 1) a 0 (simp length-set (omega arith))

  pub pushed_b : (row_in (pushed ws op a b) (count_in ws)).b ≡ b
  pushed_b =
      let n = count_in ws in
      get_or-set_other (stored_b ws op a b) count_at (row_at n + 2) (n + 1) 0 (λ e. omega arith)
      ∙ get_or-set_same (stored_a ws op a) (row_at n + 2) b 0 (simp length-set (omega arith))

  place_kept : (k : ℕ) → (k ≡ count_at → ⊥) → (k ≡ row_at (count_in ws) → ⊥) → (k ≡ row_at (count_in ws) + 1 → ⊥) → (k ≡ row_at (count_in ws) + 2 → ⊥)
      → get_or (pushed ws op a b) k 0 ≡ get_or ws k 0
  place_kept k c u v w =
      get_or-set_other (stored_b ws op a b) count_at k (count_in ws + 1) 0 c
      ∙ get_or-set_other (stored_a ws op a) (row_at (count_in ws) + 2) k b 0 w
      ∙ get_or-set_other (stored ws op) (row_at (count_in ws) + 1) k a 0 v
      ∙ get_or-set_other ws (row_at (count_in ws)) k op 0 u

  -- every place but the count and the new row's is as it was
  pub pushed-below : (k : ℕ) → (k ≡ count_at → ⊥) → k < row_at (count_in ws) → get_or (pushed ws op a b) k 0 ≡ get_or ws k 0
  pushed-below k c h = place_kept k c (λ e. omega arith) (λ e. omega arith) (λ e. omega arith)

  pub pushed-above : (k : ℕ) → row_at (count_in ws) + 2 < k → get_or (pushed ws op a b) k 0 ≡ get_or ws k 0
  pushed-above k h = place_kept k (λ e. omega arith) (λ e. omega arith) (λ e. omega arith) (λ e. omega arith)

  pub pushed-grown : Grown ws (pushed ws op a b)
  pushed-grown = record {
    grows = omega (arith, pushed-count);
    rows = λ k l m. pushed-below k (λ e. omega arith) m;
  }

  pub pushed-added : Added ws (pushed ws op a b) 1
  pushed-added = record {
    grown = pushed-grown;
    most = omega (arith, pushed-count);
    before = λ k l. pushed-below k (λ e. omega arith) (omega arith);
    beyond = λ k l. pushed-above k (omega arith);
  }

  pub pushed-inside : count_in ws < count_in (pushed ws op a b)
  pushed-inside = omega (arith, pushed-count)

-- ---- different atoms

-- the row of an atom has one of three operators
pub atom_op : {ws : List ℕ} {i : ℕ} {x : Atom} → AtomRow ws i x → first_atom ≤ (row_in ws i).op
atom_op (AtomRow.truth_symbol_row e f t) = omega arith
atom_op (AtomRow.pair_row e f t) = omega arith
atom_op (AtomRow.difference_row e f t l m p q) = omega arith

-- some atom from before
some-kept : {ws left : List ℕ} {i : ℕ} → Grown ws left → SomeAtom ws i → i < count_in ws → SomeAtom left i
some-kept g (SomeAtom.some-atom u) h = SomeAtom.some-atom (atom-kept g u h)

-- rows that are as before, and no more
pub still_distinct : {ws left : List ℕ} → Grown ws left → count_in left ≤ count_in ws → Distinct ws → Distinct left
still_distinct g h d = record {
  differences = λ i l e. some-kept g (d.differences i (omega arith) (sym (op_kept g i (omega arith)) ∙ e)) (omega arith);
  different = λ i j x y l m u v. d.different i j x y l (omega arith) (atom-from g u (omega arith)) (atom-from g v (omega arith));
}

-- a pushed row that is no earlier atom, but an atom if it has the operator of a difference
pub pushed-distinct : {ws : List ℕ} (s : Space ws 1) (d : Distinct ws) (op a b : ℕ) → (op ≡ of_difference → SomeAtom (pushed ws op a b) (count_in ws))
    → ((i : ℕ) (x y : Atom) → i < count_in ws → AtomRow ws i x → AtomRow (pushed ws op a b) (count_in ws) y → same_atom x y ≡ false)
    → Distinct (pushed ws op a b)
pushed-distinct {ws} s d op a b one new = record {
  differences = λ i m e. old i e (eq-or-lt_of_le (let c = pushed-count s op a b in omega arith));
  different = λ i j x y l m u v. go i j x y l u v (eq-or-lt_of_le (let c = pushed-count s op a b in omega arith));
}
  where
    g : Grown ws (pushed ws op a b)
    g = pushed-grown s op a b

    old : (i : ℕ) → (row_in (pushed ws op a b) i).op ≡ of_difference → (i ≡ count_in ws) ⊎ (i < count_in ws) → SomeAtom (pushed ws op a b) i
    old i e (inl k) = rw k (one (sym (pushed_op s op a b) ∙ rw k at e))
    old i e (inr h) = some-kept g (d.differences i h (sym (op_kept g i h) ∙ e)) h

    go : (i j : ℕ) (x y : Atom) → i < j → AtomRow (pushed ws op a b) i x → AtomRow (pushed ws op a b) j y
        → (j ≡ count_in ws) ⊎ (j < count_in ws) → same_atom x y ≡ false
    go i j x y l u v (inl e) = new i x y (omega arith) (atom-from g u (omega arith)) (rw e at v)
    go i j x y l u v (inr h) = d.different i j x y l h (atom-from g u (omega arith)) (atom-from g v h)

-- a pushed row that is no atom
pub plain-distinct : {ws : List ℕ} (s : Space ws 1) (d : Distinct ws) (op a b : ℕ) → op < first_atom → Distinct (pushed ws op a b)
plain-distinct s d op a b h =
    pushed-distinct s d op a b (λ e. absurd (omega arith)) λ i x y l u v. absurd (let k = atom_op v in let e = pushed_op s op a b in omega arith)

-- ---- what is made by one push

module _ {ws : List ℕ} (s : Space ws 1) (d : Distinct ws) where
  pub made-number : (w b : ℕ) → MadeWord ws (pushed ws of_number w b) (count_in ws) (number w)
  made-number w b = record {
    added = pushed-added s of_number w b;
    inside = pushed-inside s of_number w b;
    is = SumRow.number_row (pushed_op s of_number w b) (pushed_a s of_number w b);
    distinct = plain-distinct s d of_number w b (omega arith);
  }

  pub made-symbol : (u b : ℕ) → u < symbol_limit → MadeWord ws (pushed ws of_symbol u b) (count_in ws) (word_symbol u)
  made-symbol u b l = record {
    added = pushed-added s of_symbol u b;
    inside = pushed-inside s of_symbol u b;
    is = SumRow.symbol_row (pushed_op s of_symbol u b) (pushed_a s of_symbol u b) l;
    distinct = plain-distinct s d of_symbol u b (omega arith);
  }

  pub made_sum : {j k : ℕ} {p q : Sum} → SumRow ws j p → j < count_in ws → SumRow ws k q → k < count_in ws
      → MadeWord ws (pushed ws of_sum j k) (count_in ws) (plus p q)
  made_sum {j} {k} u l v m = record {
    added = pushed-added s of_sum j k;
    inside = pushed-inside s of_sum j k;
    is = SumRow.plus_row (pushed_op s of_sum j k) (pushed_a s of_sum j k) (pushed_b s of_sum j k) l m
        (sum_kept (pushed-grown s of_sum j k) u l) (sum_kept (pushed-grown s of_sum j k) v m);
    distinct = plain-distinct s d of_sum j k (omega arith);
  }

  pub made-constant : (v : Bool) (b : ℕ) → Made ws (pushed ws of_constant (bit_of v) b) (count_in ws) (constantly v)
  made-constant v b = record {
    added = pushed-added s of_constant (bit_of v) b;
    inside = pushed-inside s of_constant (bit_of v) b;
    is = TruthRow.constant_row (pushed_op s of_constant (bit_of v) b) (pushed_a s of_constant (bit_of v) b);
    distinct = plain-distinct s d of_constant (bit_of v) b (omega arith);
  }

  pub made-negation : {j : ℕ} {f : Formula} (b : ℕ) → TruthRow ws j f → j < count_in ws → Made ws (pushed ws of_negation j b) (count_in ws) (negation f)
  made-negation {j} b u l = record {
    added = pushed-added s of_negation j b;
    inside = pushed-inside s of_negation j b;
    is = TruthRow.negation_row (pushed_op s of_negation j b) (pushed_a s of_negation j b) l (truth-kept (pushed-grown s of_negation j b) u l);
    distinct = plain-distinct s d of_negation j b (omega arith);
  }

  pub made-conjunction : {j k : ℕ} {f h : Formula} → TruthRow ws j f → j < count_in ws → TruthRow ws k h → k < count_in ws
      → Made ws (pushed ws of_conjunction j k) (count_in ws) (conjunction f h)
  made-conjunction {j} {k} u l v m = record {
    added = pushed-added s of_conjunction j k;
    inside = pushed-inside s of_conjunction j k;
    is = TruthRow.conjunction_row (pushed_op s of_conjunction j k) (pushed_a s of_conjunction j k) (pushed_b s of_conjunction j k) l m
        (truth-kept (pushed-grown s of_conjunction j k) u l) (truth-kept (pushed-grown s of_conjunction j k) v m);
    distinct = plain-distinct s d of_conjunction j k (omega arith);
  }

  pub made-equality : {j k : ℕ} {f h : Formula} → TruthRow ws j f → j < count_in ws → TruthRow ws k h → k < count_in ws
      → Made ws (pushed ws of_equality j k) (count_in ws) (equality f h)
  made-equality {j} {k} u l v m = record {
    added = pushed-added s of_equality j k;
    inside = pushed-inside s of_equality j k;
    is = TruthRow.equality_row (pushed_op s of_equality j k) (pushed_a s of_equality j k) (pushed_b s of_equality j k) l m
        (truth-kept (pushed-grown s of_equality j k) u l) (truth-kept (pushed-grown s of_equality j k) v m);
    distinct = plain-distinct s d of_equality j k (omega arith);
  }

  pub made_exclusion : {j k : ℕ} {f h : Formula} → TruthRow ws j f → j < count_in ws → TruthRow ws k h → k < count_in ws
      → Made ws (pushed ws of_exclusion j k) (count_in ws) (conjunction f (negation h))
  made_exclusion {j} {k} u l v m = record {
    added = pushed-added s of_exclusion j k;
    inside = pushed-inside s of_exclusion j k;
    is = TruthRow.exclusion_row (pushed_op s of_exclusion j k) (pushed_a s of_exclusion j k) (pushed_b s of_exclusion j k) l m
        (truth-kept (pushed-grown s of_exclusion j k) u l) (truth-kept (pushed-grown s of_exclusion j k) v m);
    distinct = plain-distinct s d of_exclusion j k (omega arith);
  }
