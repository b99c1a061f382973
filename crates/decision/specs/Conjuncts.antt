-- A guard that is a conjunct of the condition: the way down the chain, one row at a time; all formulas of one row hold alike, so where the condition holds the
-- guard does, or does not, by the operator that it stands with; and so one branch is impossible. Assumes nothing.
use Rattle.std.specs.Prelude.{Bool, List, ◌≡◌, ltb, Option, Some, None}
use Rattle.std.proofs.Math.Bool.{true, false, not, ◌&&◌, beq}
use Rattle.std.proofs.Math.Path.{refl, ap, ap₂}
use Rattle.std.proofs.Common.{sym, ◌∙◌, arith}
use Prim.Native.Nat.{ℕ, zero, suc, ◌+◌, ◌-◌, ◌≤◌, ◌<◌}
use borrow.Author.Tests.{lt-ltb, le-ltb, eq-eqb, ne_eqb, eqb-true, not-true}
use Rattle.std.proofs.Math.Dec.{eqb}
use Rattle.script.specs.Tests.{pick}
use Rattle.script.specs.Tests.Laws.{true_or_false, both_true, true-both}
use Rattle.rules.specs.Satisfiable.{holds, satisfiable}
use Rattle.rules.specs.Satisfiable.Laws.{Respects}
use Rattle.rules.proofs.Satisfiable.Laws.{satisfiable_if, satisfiable-only_if}
use Rattle.rules.specs.Symbolic.{Atom, Formula, negation, conjunction, same_atom}
use Rattle.terms.specs.Places.{row_limit}
use Rattle.terms.specs.Terms.{row_in, bit_of, AtomRow, TruthRow, constant_row, atom_row, negation_row, conjunction_row, equality_row, exclusion_row, of_conjunction, of_exclusion, first_atom}
use Rattle.terms.specs.declared.Row.{Row}
use Rattle.rows.specs.Code.{is_link, conjunct_at, conjunct_of}
use Rattle.rows.specs.Decision.{branches_of}
use Rattle.rows.specs.declared.Decision.{Decision}
use Rattle.rows.specs.declared.Decision.TheVariants.{OnlyTrue, OnlyFalse}
use Rattle.known.specs.Atoms.{atom_one}
use Rattle.known.specs.Words.{atom_op}

-- ---- the way down

-- what a condition with this operator makes of its second operand as a guard
unfoldable pub link_of : ℕ → Option Decision
link_of op = pick (eqb op of_conjunction) (Some OnlyTrue) (pick (eqb op of_exclusion) (Some OnlyFalse) None)

-- each answer by its operator
pub data LinkIs (op : ℕ) : Option Decision → Type 0 where
  with-guard : eqb op of_conjunction ≡ true → LinkIs op (Some OnlyTrue)
  with-negation : eqb op of_conjunction ≡ false → eqb op of_exclusion ≡ true → LinkIs op (Some OnlyFalse)
  with-neither : eqb op of_conjunction ≡ false → eqb op of_exclusion ≡ false → LinkIs op None

pub link-is : (op : ℕ) (o : Option Decision) → o ≡ link_of op → LinkIs op o
unfolding link_of
link-is op o e = rw e (go (eqb op of_conjunction) (eqb op of_exclusion) refl refl)
  where
    go : (s t : Bool) → eqb op of_conjunction ≡ s → eqb op of_exclusion ≡ t → LinkIs op (pick s (Some OnlyTrue) (pick t (Some OnlyFalse) None))
    go true t p q = with-guard p
    go false true p q = with-negation p q
    go false false p q = with-neither p q

-- an operator that is neither
pub link-neither : (op : ℕ) → (op ≡ of_conjunction → ⊥) → (op ≡ of_exclusion → ⊥) → None ≡ link_of op
unfolding link_of
link-neither op m n = rw (ne_eqb op of_conjunction m, ne_eqb op of_exclusion n) refl

linking : {op : ℕ} {d : Decision} → LinkIs op (Some d) → is_link op ≡ true
unfolding is_link
linking (with-guard p) = rw p refl
linking (with-negation p q) = rw (p, q) refl

not-linking : {op : ℕ} → LinkIs op None → is_link op ≡ false
unfolding is_link
not-linking (with-neither p q) = rw (p, q) refl

-- what is found from row i on, by so many rows as there are up to it or more, is what is found of the condition
pub record Walking (ws : List ℕ) (c g i : ℕ) : Type 0 where
  pub low : i < row_limit
  pub left : ℕ
  pub more : i < left
  pub is : conjunct_at ws g left i ≡ conjunct_of ws c g

pub walking : (ws : List ℕ) (c g : ℕ) → c < row_limit → Walking ws c g c
unfolding conjunct_of
walking ws c g h = record { low = h; left = c + 1; more = omega arith; is = refl }

turn : (ws : List ℕ) (g left i : ℕ) → 0 < left
    → conjunct_at ws g left i
    ≡ pick (is_link (row_in ws i).op)
    (pick (eqb (row_in ws i).b g) (row_in ws i).op (pick (ltb (row_in ws i).a i) (conjunct_at ws g (left - 1) (row_in ws i).a) 0))
    0
unfolding conjunct_at
turn ws g zero i h = absurd (omega arith)
turn ws g (suc n) i h = let e : suc n - 1 ≡ n = omega arith in rw e

-- what is found of the condition where it is what is found from row i on: by the row's operator and its operands
module _ (ws : List ℕ) (c g left i : ℕ) (is : conjunct_at ws g left i ≡ conjunct_of ws c g) (more : 0 < left) (row : Row) (er : row ≡ row_in ws i) where
  pub conjunct-none : (b : Bool) → b ≡ is_link row.op → not b ≡ true → 0 ≡ conjunct_of ws c g
  conjunct-none b e n =
      let t : is_link (row_in ws i).op ≡ false = rw er at (sym e ∙ not-true b n) in
      rw t at (sym (turn ws g left i more)) ∙ is

  link_true : (b : Bool) → b ≡ is_link row.op → not b ≡ false → is_link (row_in ws i).op ≡ true
  link_true true e n = rw er at (sym e)
  link_true false e n = absurd (true_or_false true refl n)

  module _ (b : Bool) (is_link_lem : b ≡ is_link row.op) (n : not b ≡ false) where
    pub conjunct-found : row.b ≡ g → row.op ≡ conjunct_of ws c g
    conjunct-found e =
        let f : (row_in ws i).b ≡ g = rw er at e in
        rw er (rw (link_true b is_link_lem n, eq-eqb (row_in ws i).b g f) at (sym (turn ws g left i more)) ∙ is)

    module _ (d : row.b ≡ g → ⊥) where
      guard_other : eqb (row_in ws i).b g ≡ false
      guard_other = ne_eqb (row_in ws i).b g (rw er at d)

      pub conjunct-up : i ≤ row.a → 0 ≡ conjunct_of ws c g
      conjunct-up h =
          let l : i ≤ (row_in ws i).a = rw er at h in
          rw (link_true b is_link_lem n, guard_other, le-ltb (row_in ws i).a i l) at (sym (turn ws g left i more)) ∙ is

      pub conjunct_on : row.a < i → conjunct_at ws g (left - 1) row.a ≡ conjunct_of ws c g
      conjunct_on h =
          let l : (row_in ws i).a < i = rw er at h in
          rw er (rw (link_true b is_link_lem n, guard_other, lt-ltb (row_in ws i).a i l) at (sym (turn ws g left i more)) ∙ is)

pub walking_end : (ws : List ℕ) (c g left i : ℕ) → conjunct_at ws g left i ≡ conjunct_of ws c g → left ≤ 0 → 0 ≡ conjunct_of ws c g
unfolding conjunct_at
walking_end ws c g left i is h = let e : left ≡ 0 = omega arith in rw e at is

some_left : {ws : List ℕ} {c g i : ℕ} (w : Walking ws c g i) → 0 < w.left
some_left w = let m = w.more in omega arith

module _ {ws : List ℕ} {c g i : ℕ} (w : Walking ws c g i) (row : Row) (er : row ≡ row_in ws i) where
  -- no operator links 0
  pub none_of : 0 ≡ conjunct_of ws c g → None ≡ link_of (conjunct_of ws c g)
  unfolding link_of
  none_of e = rw (sym e) refl

  pub walking-none : None ≡ link_of row.op → None ≡ link_of (conjunct_of ws c g)
  walking-none e =
      let t : is_link (row_in ws i).op ≡ false = rw er at (not-linking (link-is row.op None e)) in
      none_of (rw t at (sym (turn ws g w.left i (some_left w))) ∙ w.is)

  module _ (d : Decision) (e : Some d ≡ link_of row.op) where
    here : is_link (row_in ws i).op ≡ true
    here = rw er at (linking (link-is row.op (Some d) e))

    pub walking-found : row.b ≡ g → Some d ≡ link_of (conjunct_of ws c g)
    walking-found q =
        let f : (row_in ws i).b ≡ g = rw er at q in
        e ∙ ap link_of (rw er (rw (here, eq-eqb (row_in ws i).b g f) at (sym (turn ws g w.left i (some_left w))) ∙ w.is))

    module _ (n : row.b ≡ g → ⊥) where
      other-guard : eqb (row_in ws i).b g ≡ false
      other-guard = ne_eqb (row_in ws i).b g (rw er at n)

      pub walking-up : i ≤ row.a → None ≡ link_of (conjunct_of ws c g)
      walking-up h =
          let l : i ≤ (row_in ws i).a = rw er at h in
          none_of (rw (here, other-guard, le-ltb (row_in ws i).a i l) at (sym (turn ws g w.left i (some_left w))) ∙ w.is)

      pub walking_on : row.a < i → Walking ws c g row.a
      walking_on h =
          let l : (row_in ws i).a < i = rw er at h in
          let p = w.low in
          let q = w.more in
          record {
            low = omega arith;
            left = w.left - 1;
            more = omega arith;
            is = rw er (rw (here, other-guard, lt-ltb (row_in ws i).a i l) at (sym (turn ws g w.left i (some_left w))) ∙ w.is);
          }

-- ---- the formulas of one row hold alike

-- one row has one first and one second operand
module _ (ws : List ℕ) {i j : ℕ} (e : i ≡ j) where
  same_first : {k l : ℕ} → (row_in ws i).a ≡ k → (row_in ws j).a ≡ l → k ≡ l
  same_first p q = sym p ∙ ap (λ (n : ℕ). (row_in ws n).a) e ∙ q

  same_second : {k l : ℕ} → (row_in ws i).b ≡ k → (row_in ws j).b ≡ l → k ≡ l
  same_second p q = sym p ∙ ap (λ (n : ℕ). (row_in ws n).b) e ∙ q

  -- and one operator
  other : {A : Type 0} {m n : ℕ} → (row_in ws i).op ≡ m → (row_in ws j).op ≡ n → (m ≡ n → ⊥) → A
  other p q h = absurd (h (sym p ∙ ap (λ (n : ℕ). (row_in ws n).op) e ∙ q))

  no_atom : {A : Type 0} {n : ℕ} {x : Atom} → AtomRow ws i x → (row_in ws j).op ≡ n → n < first_atom → A
  no_atom p q h =
      let a = atom_op p in
      let o = ap (λ (n : ℕ). (row_in ws n).op) e in
      absurd (omega arith)

bit_one : (b d : Bool) → bit_of b ≡ bit_of d → b ≡ d
bit_one true true e = refl
bit_one true false e = absurd (omega arith)
bit_one false true e = absurd (omega arith)
bit_one false false e = refl

module _ {ws : List ℕ} (a : Atom → Bool) (r : Respects a) where
  atom-truth : {i j : ℕ} {x y v w : Atom} → i ≡ j → AtomRow ws i x → same_atom x y ≡ true → AtomRow ws j v → same_atom v w ≡ true → a y ≡ a w
  atom-truth {i} {j} {x} {y} {v} {w} e p s q t =
      let o : x ≡ v = atom_one p (rw (sym e) at q) in sym (r.same x y s) ∙ ap a o ∙ r.same v w t

  pub row-truth : {i j : ℕ} {f h : Formula} → i ≡ j → TruthRow ws i f → TruthRow ws j h → holds a f ≡ holds a h
  unfolding holds
  row-truth e (constant_row eo ea) (constant_row fo fa) = bit_one _ _ (same_first ws e ea fa)
  row-truth e (constant_row eo ea) (atom_row q y) = no_atom ws (sym e) q eo (omega arith)
  row-truth e (constant_row eo ea) (negation_row fo fa l s) = other ws e eo fo (λ h. omega arith)
  row-truth e (constant_row eo ea) (conjunction_row fo fa fb l m s t) = other ws e eo fo (λ h. omega arith)
  row-truth e (constant_row eo ea) (equality_row fo fa fb l m s t) = other ws e eo fo (λ h. omega arith)
  row-truth e (constant_row eo ea) (exclusion_row fo fa fb l m s t) = other ws e eo fo (λ h. omega arith)
  row-truth e (atom_row p x) (constant_row fo fa) = no_atom ws e p fo (omega arith)
  row-truth e (atom_row p x) (atom_row q y) = atom-truth e p x q y
  row-truth e (atom_row p x) (negation_row fo fa l s) = no_atom ws e p fo (omega arith)
  row-truth e (atom_row p x) (conjunction_row fo fa fb l m s t) = no_atom ws e p fo (omega arith)
  row-truth e (atom_row p x) (equality_row fo fa fb l m s t) = no_atom ws e p fo (omega arith)
  row-truth e (atom_row p x) (exclusion_row fo fa fb l m s t) = no_atom ws e p fo (omega arith)
  row-truth e (negation_row eo ea j u) (constant_row fo fa) = other ws e eo fo (λ h. omega arith)
  row-truth e (negation_row eo ea j u) (atom_row q y) = no_atom ws (sym e) q eo (omega arith)
  row-truth e (negation_row eo ea j u) (negation_row fo fa l s) = ap not (row-truth (same_first ws e ea fa) u s)
  row-truth e (negation_row eo ea j u) (conjunction_row fo fa fb l m s t) = other ws e eo fo (λ h. omega arith)
  row-truth e (negation_row eo ea j u) (equality_row fo fa fb l m s t) = other ws e eo fo (λ h. omega arith)
  row-truth e (negation_row eo ea j u) (exclusion_row fo fa fb l m s t) = other ws e eo fo (λ h. omega arith)
  row-truth e (conjunction_row eo ea eb j k u v) (constant_row fo fa) = other ws e eo fo (λ h. omega arith)
  row-truth e (conjunction_row eo ea eb j k u v) (atom_row q y) = no_atom ws (sym e) q eo (omega arith)
  row-truth e (conjunction_row eo ea eb j k u v) (negation_row fo fa l s) = other ws e eo fo (λ h. omega arith)
  row-truth e (conjunction_row eo ea eb j k u v) (conjunction_row fo fa fb l m s t) = ap₂ ◌&&◌ (row-truth (same_first ws e ea fa) u s) (row-truth (same_second ws e eb fb) v t)
  row-truth e (conjunction_row eo ea eb j k u v) (equality_row fo fa fb l m s t) = other ws e eo fo (λ h. omega arith)
  row-truth e (conjunction_row eo ea eb j k u v) (exclusion_row fo fa fb l m s t) = other ws e eo fo (λ h. omega arith)
  row-truth e (equality_row eo ea eb j k u v) (constant_row fo fa) = other ws e eo fo (λ h. omega arith)
  row-truth e (equality_row eo ea eb j k u v) (atom_row q y) = no_atom ws (sym e) q eo (omega arith)
  row-truth e (equality_row eo ea eb j k u v) (negation_row fo fa l s) = other ws e eo fo (λ h. omega arith)
  row-truth e (equality_row eo ea eb j k u v) (conjunction_row fo fa fb l m s t) = other ws e eo fo (λ h. omega arith)
  row-truth e (equality_row eo ea eb j k u v) (equality_row fo fa fb l m s t) = ap₂ beq (row-truth (same_first ws e ea fa) u s) (row-truth (same_second ws e eb fb) v t)
  row-truth e (equality_row eo ea eb j k u v) (exclusion_row fo fa fb l m s t) = other ws e eo fo (λ h. omega arith)
  row-truth e (exclusion_row eo ea eb j k u v) (constant_row fo fa) = other ws e eo fo (λ h. omega arith)
  row-truth e (exclusion_row eo ea eb j k u v) (atom_row q y) = no_atom ws (sym e) q eo (omega arith)
  row-truth e (exclusion_row eo ea eb j k u v) (negation_row fo fa l s) = other ws e eo fo (λ h. omega arith)
  row-truth e (exclusion_row eo ea eb j k u v) (conjunction_row fo fa fb l m s t) = other ws e eo fo (λ h. omega arith)
  row-truth e (exclusion_row eo ea eb j k u v) (equality_row fo fa fb l m s t) = other ws e eo fo (λ h. omega arith)
  row-truth e (exclusion_row eo ea eb j k u v) (exclusion_row fo fa fb l m s t) = ap₂ (λ (b d : Bool). b && not d) (row-truth (same_first ws e ea fa) u s) (row-truth (same_second ws e eb fb) v t)

-- ---- the guard by the condition

-- what the operator found says of the guard
pub data Linked : ℕ → Bool → Type 0 where
  unlinked : {b : Bool} → Linked 0 b
  linked_with : Linked of_conjunction true
  linked-without : Linked of_exclusion false

pub guard-true : {n : ℕ} {b : Bool} → Linked n b → n ≡ of_conjunction → b ≡ true
guard-true unlinked e = absurd (omega arith)
guard-true linked_with e = refl
guard-true linked-without e = absurd (omega arith)

pub guard_false : {n : ℕ} {b : Bool} → Linked n b → n ≡ of_exclusion → b ≡ false
guard_false unlinked e = absurd (omega arith)
guard_false linked_with e = absurd (omega arith)
guard_false linked-without e = refl

at_true : {b : Bool} → b ≡ true → Linked of_conjunction b
at_true e = rw e linked_with

at-false : {b : Bool} → not b ≡ true → Linked of_exclusion b
at-false {b} e = rw (not-true b e) linked-without

module _ {ws : List ℕ} {g : ℕ} {h : Formula} (is-guard : TruthRow ws g h) (a : Atom → Bool) (r : Respects a) where
  -- a row without a conjunct has none
  no_link : (n i o : ℕ) → (row_in ws i).op ≡ o → is_link o ≡ false → Linked (conjunct_at ws g n i) (holds a h)
  unfolding conjunct_at
  no_link zero i o e f = unlinked
  no_link (suc n) i o e f = rw (e, f) unlinked

  -- a row with one
  module _ (n i j k o : ℕ) (eo : (row_in ws i).op ≡ o) (ea : (row_in ws i).a ≡ j) (eb : (row_in ws i).b ≡ k) (link : is_link o ≡ true) where
    one_link : (k ≡ g → Linked o (holds a h)) → Linked (conjunct_at ws g n j) (holds a h) → Linked (conjunct_at ws g (suc n) i) (holds a h)
    unfolding conjunct_at
    one_link here there = rw (eo, ea, eb, link) (go (eqb k g) refl (ltb j i))
      where
        go : (t : Bool) → eqb k g ≡ t → (u : Bool) → Linked (pick t o (pick u (conjunct_at ws g n j) 0)) (holds a h)
        go true e u = here (eqb-true k g e)
        go false e true = there
        go false e false = unlinked

  atom_link : {i : ℕ} {x : Atom} → AtomRow ws i x → is_link (row_in ws i).op ≡ false
  unfolding is_link
  atom_link {i = i} p =
      let o = atom_op p in rw (ne_eqb (row_in ws i).op of_conjunction (λ z. omega arith), ne_eqb (row_in ws i).op of_exclusion (λ z. omega arith))

  pub linked : (n i : ℕ) (f : Formula) → TruthRow ws i f → holds a f ≡ true → Linked (conjunct_at ws g n i) (holds a h)
  unfolding conjunct_at is_link holds
  linked zero i f t e = unlinked
  linked (suc n) i f (constant_row eo ea) e = no_link (suc n) i 3 eo refl
  linked (suc n) i f (atom_row p s) e = no_link (suc n) i (row_in ws i).op refl (atom_link p)
  linked (suc n) i f (negation_row eo ea l s) e = no_link (suc n) i 4 eo refl
  linked (suc n) i f (conjunction_row {j = j} {k = k} {f = p} {g = q} eo ea eb l m s t) e =
      let b = both_true (holds a p) (holds a q) e in
      one_link n i j k 5 eo ea eb refl (λ z. at_true (sym (row-truth a r z t is-guard) ∙ b.1)) (linked n j p s b.0)
  linked (suc n) i f (equality_row eo ea eb l m s t) e = no_link (suc n) i 6 eo refl
  linked (suc n) i f (exclusion_row {j = j} {k = k} {f = p} {g = q} eo ea eb l m s t) e =
      let b = both_true (holds a p) (not (holds a q)) e in
      one_link n i j k 7 eo ea eb refl (λ z. at-false (ap not (sym (row-truth a r z t is-guard)) ∙ b.1)) (linked n j p s b.0)

-- ---- the branches

module _ {ws : List ℕ} {c g : ℕ} {f h : Formula} (is-condition : TruthRow ws c f) (is-guard : TruthRow ws g h) where
  condition_links : (a : Atom → Bool) → Respects a → holds a f ≡ true → Linked (conjunct_of ws c g) (holds a h)
  unfolding conjunct_of
  condition_links a r e = linked is-guard a r (c + 1) c f is-condition e

  pub with_false : conjunct_of ws c g ≡ 5 → satisfiable (conjunction f (negation h)) ≡ false
  unfolding holds
  with_false l = go (satisfiable (conjunction f (negation h))) refl
    where
      at : (a : Atom → Bool) × Respects a × (holds a (conjunction f (negation h)) ≡ true) → ⊥
      at w =
          let b = both_true (holds w.0 f) (not (holds w.0 h)) w.2 in
          true_or_false (holds w.0 h) (guard-true (condition_links w.0 w.1 b.0) l) (not-true (holds w.0 h) b.1)

      go : (t : Bool) → satisfiable (conjunction f (negation h)) ≡ t → satisfiable (conjunction f (negation h)) ≡ false
      go true e = absurd (at (satisfiable-only_if (conjunction f (negation h)) e))
      go false e = e

  pub with_true : conjunct_of ws c g ≡ 5 → satisfiable f ≡ true → satisfiable (conjunction f h) ≡ true
  unfolding holds
  with_true l s = go (satisfiable-only_if f s)
    where
      go : (a : Atom → Bool) × Respects a × (holds a f ≡ true) → satisfiable (conjunction f h) ≡ true
      go w =
          satisfiable_if (conjunction f h) w.0 w.1
          (true-both (holds w.0 f) (holds w.0 h) w.2 (guard-true (condition_links w.0 w.1 w.2) l))

  pub without-true : conjunct_of ws c g ≡ 7 → satisfiable (conjunction f h) ≡ false
  unfolding holds
  without-true l = go (satisfiable (conjunction f h)) refl
    where
      at : (a : Atom → Bool) × Respects a × (holds a (conjunction f h) ≡ true) → ⊥
      at w =
          let b = both_true (holds w.0 f) (holds w.0 h) w.2 in
          true_or_false (holds w.0 h) b.1 (guard_false (condition_links w.0 w.1 b.0) l)

      go : (t : Bool) → satisfiable (conjunction f h) ≡ t → satisfiable (conjunction f h) ≡ false
      go true e = absurd (at (satisfiable-only_if (conjunction f h) e))
      go false e = e

  -- a conjunct decides as the branches that are satisfiable do
  pub linked-branches : (d : Decision) → satisfiable f ≡ true → d ≡ branches_of (satisfiable (conjunction f h)) (satisfiable (conjunction f (negation h)))
      → pick (eqb (conjunct_of ws c g) of_conjunction) OnlyTrue (pick (eqb (conjunct_of ws c g) of_exclusion) OnlyFalse d)
      ≡ branches_of (satisfiable (conjunction f h)) (satisfiable (conjunction f (negation h)))
  unfolding branches_of
  linked-branches d s e = go (eqb (conjunct_of ws c g) of_conjunction) refl (eqb (conjunct_of ws c g) of_exclusion) refl
    where
      go : (t : Bool) → eqb (conjunct_of ws c g) of_conjunction ≡ t → (u : Bool) → eqb (conjunct_of ws c g) of_exclusion ≡ u
          → pick t OnlyTrue (pick u OnlyFalse d) ≡ branches_of (satisfiable (conjunction f h)) (satisfiable (conjunction f (negation h)))
      go true p u q = let l = eqb-true (conjunct_of ws c g) of_conjunction p in rw (with_true l s, with_false l)
      go false p true q = rw (without-true (eqb-true (conjunct_of ws c g) of_exclusion q))
      go false p false q = e
