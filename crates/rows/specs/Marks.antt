-- What is marked: with a row its operands, by the same marks, and only what stands for a part of a formula that is asked for. Assumes nothing.
use Rattle.std.specs.Prelude.{Bool, List, ◌⊎◌, ◌≡◌, ltb, eqb, length, set, replicate}
use Rattle.std.proofs.Math.Bool.{true, false}
use Rattle.std.proofs.Math.Logic.{inl, inr}
use Rattle.std.proofs.Math.Path.{refl}
use Rattle.std.proofs.Common.{sym, subst, ◌∙◌, arith, length-set}
use Prim.Native.Nat.{ℕ, zero, suc, ◌%◌, ◌≤◌, ◌<◌}
use borrow.Author.Tests.{ltb-false, leb-false, eqb-false, ne_eqb, le-ltb, lt-leb}
use Rattle.std.proofs.Math.Decide.{ℕ_discrete}
use Rattle.std.specs.Int.Bits.{bit_or}
use Rattle.std.proofs.Math.Dec.{leb}
use Rattle.std.proofs.Math.ListN.{get_or}
use Rattle.std.proofs.lemmas.List.{length-replicate}
use Rattle.std.proofs.Math.Seq.{get_or-set_same, get_or-set_other}
use Rattle.script.specs.Tests.{pick}
use Rattle.script.specs.Tests.Bits.{or_first-most, or_second-most, or_first_odd, or_second_odd}
use Rattle.rules.specs.Satisfiable.{atoms_of, among}
use Rattle.rules.proofs.Satisfiable.Laws.{in_first, in_second}
use Rattle.rules.specs.Symbolic.{Atom, Formula, negation, conjunction, equality}
use Rattle.terms.specs.Places.{row_limit}
use Rattle.terms.specs.Terms.{row_in, TruthRow, constant_row, atom_row, negation_row, conjunction_row, equality_row, exclusion_row, truth_symbol_row, pair_row, difference_row, of_conjunction, of_exclusion, of_negation}
use Rattle.terms.specs.declared.Row.{Row}
use Rattle.rows.specs.Code.{operand_below, reached, mark_row, marked, first_mark, start_marks}
use Rattle.rows.specs.Code.Laws.{below-within, reached-length, mark_row-length}

-- ---- one operand

-- a row that is an operand of a marked row whose operator is at least `least`
pub record Operand (least op mark i a : ℕ) : Type 0 where
  pub marks : 0 < mark
  pub low : least ≤ op
  pub high : op ≤ of_exclusion
  pub below : a < i

pick_less : (t : Bool) (a k : ℕ) → a < pick t 0 k → (t ≡ false) × (a < k)
pick_less true a k h = absurd (omega arith)
pick_less false a k h = (refl, h)

module _ (least op mark i a : ℕ) where
  pub below-operand : a < operand_below least op mark i → Operand least op mark i a
  unfolding operand_below
  below-operand h =
      let p = pick_less (eqb mark 0) a (pick (ltb op least) 0 (pick (ltb of_exclusion op) 0 i)) h in
      let q = pick_less (ltb op least) a (pick (ltb of_exclusion op) 0 i) p.1 in
      let r = pick_less (ltb of_exclusion op) a i q.1 in
      let m = eqb-false mark 0 p.0 in
      record { marks = omega arith; low = ltb-false op least q.0; high = ltb-false of_exclusion op r.0; below = r.1 }

  pub operand_below_lem : Operand least op mark i a → operand_below least op mark i ≡ i
  unfolding operand_below
  operand_below_lem o =
      let m = o.marks in
      rw (ne_eqb mark 0 (λ e. omega arith), le-ltb op least o.low, le-ltb of_exclusion op o.high)

-- ---- what marks say

-- what holds of a mark holds of more marks too, and of none but marks
pub record Kept (P : ℕ → Type 0) : Type 0 where
  pub first : (a b : ℕ) → P a → P (bit_or a b)
  pub second : (a b : ℕ) → P b → P (bit_or a b)
  pub some : (a : ℕ) → P a → 0 < a

-- the marks that are at least one, and those of the condition
abbrev pub AtLeast : ℕ → ℕ → Type 0
AtLeast least mark = least ≤ mark

abbrev pub Odd : ℕ → Type 0
Odd mark = mark % 2 ≡ 1

pub kept-least : (least : ℕ) → 0 < least → Kept (AtLeast least)
kept-least least h =
    record {
      first = λ a b l. let o = or_first-most a b in omega arith;
      second = λ a b l. let o = or_second-most a b in omega arith;
      some = λ a l. omega arith;
    }

pub kept_odd : Kept Odd
kept_odd = record { first = or_first_odd; second = or_second_odd; some = λ a e. odd_some a e }
  where
    odd_some : (a : ℕ) → a % 2 ≡ 1 → 0 < a
    odd_some a e = omega arith

-- ---- one mark more

module _ (ms : List ℕ) (a below mark : ℕ) where
  -- what is marked after was marked before, or is the row reached
  pub reached-from : (k : ℕ) → 0 < get_or (reached ms a below mark) k 0 → (0 < get_or ms k 0) ⊎ ((k ≡ a) × (a < below))
  unfolding reached
  reached-from k = go (leb below a) refl (ℕ_discrete k a)
    where
      go : (t : Bool) → leb below a ≡ t → Dec (k ≡ a) → 0 < get_or (pick t ms (set ms a (bit_or (get_or ms a 0) mark))) k 0
          → (0 < get_or ms k 0) ⊎ ((k ≡ a) × (a < below))
      go true e d h = inl h
      go false e (yes q) h = inr (q, leb-false below a e)
      go false e (no q) h = inl (rw (get_or-set_other ms a k _ 0 q) at h)

  -- rows at or above the bound are as they were
  pub reached-above : (k : ℕ) → below ≤ k → get_or (reached ms a below mark) k 0 ≡ get_or ms k 0
  unfolding reached
  reached-above k h = go (leb below a) refl
    where
      go : (t : Bool) → leb below a ≡ t → get_or (pick t ms (set ms a (bit_or (get_or ms a 0) mark))) k 0 ≡ get_or ms k 0
      go true e = refl
      go false e = let b = leb-false below a e in get_or-set_other ms a k _ 0 (λ q. omega arith)

  module _ {P : ℕ → Type 0} (kept : Kept P) where
    -- what a mark said it says still
    pub reached-keeps : (k : ℕ) → P (get_or ms k 0) → k < length ms → P (get_or (reached ms a below mark) k 0)
    unfolding reached
    reached-keeps k h l = go (leb below a) (ℕ_discrete k a)
      where
        go : (t : Bool) → Dec (k ≡ a) → P (get_or (pick t ms (set ms a (bit_or (get_or ms a 0) mark))) k 0)
        go true d = h
        go false (yes q) = rw (q, get_or-set_same ms a (bit_or (get_or ms a 0) mark) 0 (rw q at l)) (kept.first (get_or ms a 0) mark (rw q at h))
        go false (no q) = rw (get_or-set_other ms a k (bit_or (get_or ms a 0) mark) 0 q) h

    pub reached-there : P mark → a < below → a < length ms → P (get_or (reached ms a below mark) a 0)
    unfolding reached
    reached-there h b l = rw (lt-leb below a b, get_or-set_same ms a (bit_or (get_or ms a 0) mark) 0 l) (kept.second (get_or ms a 0) mark h)

-- ---- the operands of one row

module _ (ms : List ℕ) (r : Row) (i : ℕ) where
  pub row-above : (k : ℕ) → i ≤ k → get_or (mark_row ms r i) k 0 ≡ get_or ms k 0
  unfolding mark_row
  row-above k h =
      let m = get_or ms i 0 in
      let f = operand_below of_negation r.op m i in
      let s = operand_below of_conjunction r.op m i in
      let p = below-within of_negation r.op m i in
      let q = below-within of_conjunction r.op m i in
      reached-above (reached ms r.a f m) r.b s m k (omega arith) ∙ reached-above ms r.a f m k (omega arith)

  module _ {P : ℕ → Type 0} (kept : Kept P) where
    pub row_keeps : (k : ℕ) → P (get_or ms k 0) → k < length ms → P (get_or (mark_row ms r i) k 0)
    unfolding mark_row
    row_keeps k h l =
        let m = get_or ms i 0 in
        let f = operand_below of_negation r.op m i in
        let e = reached-length ms r.a f m in
        reached-keeps (reached ms r.a f m) r.b (operand_below of_conjunction r.op m i) m kept k (reached-keeps ms r.a f m kept k h l) (omega arith)

    pub row_first : Operand of_negation r.op (get_or ms i 0) i r.a → P (get_or ms i 0) → i ≤ length ms → P (get_or (mark_row ms r i) r.a 0)
    unfolding mark_row
    row_first o h l =
        let m = get_or ms i 0 in
        let f = operand_below of_negation r.op m i in
        let e = reached-length ms r.a f m in
        let p = operand_below_lem of_negation r.op m i r.a o in
        let b = o.below in
        reached-keeps (reached ms r.a f m) r.b (operand_below of_conjunction r.op m i) m kept r.a
        (reached-there ms r.a f m kept h (omega arith) (omega arith)) (omega arith)

    pub row-second : Operand of_conjunction r.op (get_or ms i 0) i r.b → P (get_or ms i 0) → i ≤ length ms → P (get_or (mark_row ms r i) r.b 0)
    unfolding mark_row
    row-second o h l =
        let m = get_or ms i 0 in
        let f = operand_below of_negation r.op m i in
        let e = reached-length ms r.a f m in
        let p = operand_below_lem of_conjunction r.op m i r.b o in
        let b = o.below in
        reached-there (reached ms r.a f m) r.b (operand_below of_conjunction r.op m i) m kept h (omega arith) (omega arith)

-- ---- all rows

module _ (ws : List ℕ) where
  pub marked-above : (n : ℕ) (ms : List ℕ) (k : ℕ) → n ≤ k → get_or (marked ws n ms) k 0 ≡ get_or ms k 0
  unfolding marked
  marked-above zero ms k h = refl
  marked-above (suc j) ms k h =
      marked-above j (mark_row ms (row_in ws j) j) k (omega arith) ∙ row-above ms (row_in ws j) j k (omega arith)

  module _ {P : ℕ → Type 0} (kept : Kept P) where
    pub marked-keeps : (n : ℕ) (ms : List ℕ) (k : ℕ) → P (get_or ms k 0) → k < length ms → P (get_or (marked ws n ms) k 0)
    unfolding marked
    marked-keeps zero ms k h l = h
    marked-keeps (suc j) ms k h l =
        let e = mark_row-length ms (row_in ws j) j in
        marked-keeps j (mark_row ms (row_in ws j) j) k (row_keeps ms (row_in ws j) j kept k h l) (omega arith)

    -- with a row its operands are marked, if one row's operand is marked with it
    module _ (least : ℕ) (operand : Row → ℕ)
        (one : (ms : List ℕ) (r : Row) (i : ℕ) → Operand least r.op (get_or ms i 0) i (operand r) → P (get_or ms i 0) → i ≤ length ms
        → P (get_or (mark_row ms r i) (operand r) 0)) where
      closed : (n : ℕ) (ms : List ℕ) → n ≤ length ms → (i : ℕ) → i < n
          → Operand least (row_in ws i).op (get_or (marked ws n ms) i 0) i (operand (row_in ws i)) → P (get_or (marked ws n ms) i 0)
          → P (get_or (marked ws n ms) (operand (row_in ws i)) 0)
      unfolding marked
      closed zero ms l i h o m = absurd (omega arith)
      closed (suc j) ms l i h o m = go (ℕ_discrete i j) (closed j (mark_row ms (row_in ws j) j))
        where
          here : Operand least (row_in ws j).op (get_or (marked ws j (mark_row ms (row_in ws j) j)) j 0) j (operand (row_in ws j))
              → P (get_or (marked ws j (mark_row ms (row_in ws j) j)) j 0) → P (get_or (marked ws j (mark_row ms (row_in ws j) j)) (operand (row_in ws j)) 0)
          here q m =
              let e = mark_row-length ms (row_in ws j) j in
              let u = marked-above j (mark_row ms (row_in ws j) j) j (omega arith) ∙ row-above ms (row_in ws j) j j (omega arith) in
              let b = q.below in
              marked-keeps j (mark_row ms (row_in ws j) j) (operand (row_in ws j)) (one ms (row_in ws j) j (rw u at q) (rw u at m) (omega arith)) (omega arith)

          go : Dec (i ≡ j)
              → (j ≤ length (mark_row ms (row_in ws j) j) → (i : ℕ) → i < j
              → Operand least (row_in ws i).op (get_or (marked ws j (mark_row ms (row_in ws j) j)) i 0) i (operand (row_in ws i))
              → P (get_or (marked ws j (mark_row ms (row_in ws j) j)) i 0)
              → P (get_or (marked ws j (mark_row ms (row_in ws j) j)) (operand (row_in ws i)) 0))
              → P (get_or (marked ws j (mark_row ms (row_in ws j) j)) (operand (row_in ws i)) 0)
          go (yes q) ih = rw q (here (rw q at o) (rw q at m))
          go (no q) ih = let e = mark_row-length ms (row_in ws j) j in ih (omega arith) i (omega arith) o m

    pub closed-first : (n : ℕ) (ms : List ℕ) → n ≤ length ms → (i : ℕ) → i < n
        → Operand of_negation (row_in ws i).op (get_or (marked ws n ms) i 0) i (row_in ws i).a → P (get_or (marked ws n ms) i 0)
        → P (get_or (marked ws n ms) (row_in ws i).a 0)
    closed-first = closed 4 (λ r. r.a) (λ ms r i. row_first ms r i kept)

    pub closed-second : (n : ℕ) (ms : List ℕ) → n ≤ length ms → (i : ℕ) → i < n
        → Operand of_conjunction (row_in ws i).op (get_or (marked ws n ms) i 0) i (row_in ws i).b → P (get_or (marked ws n ms) i 0)
        → P (get_or (marked ws n ms) (row_in ws i).b 0)
    closed-second = closed 5 (λ r. r.b) (λ ms r i. row-second ms r i kept)

-- ---- what marked rows stand for

-- the atoms of one formula are atoms of another
pub record Within (f whole : Formula) : Type 0 where
  pub each : (x : Atom) → among (atoms_of f) x ≡ true → among (atoms_of whole) x ≡ true

-- the row stands for a formula with no other atoms than the whole
pub data Part (ws : List ℕ) (whole : Formula) (i : ℕ) : Type 0 where
  part : {f : Formula} → TruthRow ws i f → Within f whole → Part ws whole i

pub record Parts (ws : List ℕ) (whole : Formula) (ms : List ℕ) : Type 0 where
  pub each : (k : ℕ) → 0 < get_or ms k 0 → Part ws whole k

within-negation : {f whole : Formula} → Within (negation f) whole → Within f whole
unfolding atoms_of
within-negation w = record { each = w.each }

within_first : (f g : Formula) {whole : Formula} → Within (conjunction f g) whole → Within f whole
unfolding atoms_of
within_first f g w = record { each = λ x h. w.each x (in_first (atoms_of f) (atoms_of g) x h) }

within-second : (f g : Formula) {whole : Formula} → Within (conjunction f g) whole → Within g whole
unfolding atoms_of
within-second f g w = record { each = λ x h. w.each x (in_second (atoms_of f) (atoms_of g) x h) }

within-equality : (f g : Formula) {whole : Formula} → Within (equality f g) whole → Within (conjunction f g) whole
unfolding atoms_of
within-equality f g w = record { each = w.each }

module _ (ws : List ℕ) (whole : Formula) where
  first_part : {i : ℕ} {f : Formula} → TruthRow ws i f → Within f whole → of_negation ≤ (row_in ws i).op → (row_in ws i).op ≤ of_exclusion → Part ws whole (row_in ws i).a
  first_part (constant_row eo ea) w l h = absurd (omega arith)
  first_part (atom_row (truth_symbol_row eo ea eb) s) w l h = absurd (omega arith)
  first_part (atom_row (pair_row eo ea eb) s) w l h = absurd (omega arith)
  first_part (atom_row (difference_row eo ea eb ja jb p q) s) w l h = absurd (omega arith)
  first_part (negation_row eo ea ja t) w l h = rw ea (part t (within-negation w))
  first_part (conjunction_row {f = f} {g = g} eo ea eb ja jb t u) w l h = rw ea (part t (within_first f g w))
  first_part (equality_row {f = f} {g = g} eo ea eb ja jb t u) w l h = rw ea (part t (within_first f g (within-equality f g w)))
  first_part (exclusion_row {f = f} {g = g} eo ea eb ja jb t u) w l h = rw ea (part t (within_first f (negation g) w))

  second-part : {i : ℕ} {f : Formula} → TruthRow ws i f → Within f whole → of_conjunction ≤ (row_in ws i).op → (row_in ws i).op ≤ of_exclusion → Part ws whole (row_in ws i).b
  second-part (constant_row eo ea) w l h = absurd (omega arith)
  second-part (atom_row (truth_symbol_row eo ea eb) s) w l h = absurd (omega arith)
  second-part (atom_row (pair_row eo ea eb) s) w l h = absurd (omega arith)
  second-part (atom_row (difference_row eo ea eb ja jb p q) s) w l h = absurd (omega arith)
  second-part (negation_row eo ea ja t) w l h = absurd (omega arith)
  second-part (conjunction_row {f = f} {g = g} eo ea eb ja jb t u) w l h = rw eb (part u (within-second f g w))
  second-part (equality_row {f = f} {g = g} eo ea eb ja jb t u) w l h = rw eb (part u (within-second f g (within-equality f g w)))
  second-part (exclusion_row {f = f} {g = g} eo ea eb ja jb t u) w l h = rw eb (part u (within-negation (within-second f (negation g) w)))

  first_of : {i : ℕ} → Part ws whole i → of_negation ≤ (row_in ws i).op → (row_in ws i).op ≤ of_exclusion → Part ws whole (row_in ws i).a
  first_of (part t w) l h = first_part t w l h

  second_of_lem : {i : ℕ} → Part ws whole i → of_conjunction ≤ (row_in ws i).op → (row_in ws i).op ≤ of_exclusion → Part ws whole (row_in ws i).b
  second_of_lem (part t w) l h = second-part t w l h

  parts-reached : (ms : List ℕ) (a below mark : ℕ) → Parts ws whole ms → (a < below → Part ws whole a) → Parts ws whole (reached ms a below mark)
  parts-reached ms a below mark s p = record { each = λ k h. go k (reached-from ms a below mark k h) }
    where
      go : (k : ℕ) → (0 < get_or ms k 0) ⊎ ((k ≡ a) × (a < below)) → Part ws whole k
      go k (inl h) = s.each k h
      go k (inr h) = rw h.0 (p h.1)

  parts-row : (ms : List ℕ) (i : ℕ) → Parts ws whole ms → Parts ws whole (mark_row ms (row_in ws i) i)
  unfolding mark_row
  parts-row ms i s =
      parts-reached _ (row_in ws i).b _ _ (parts-reached ms (row_in ws i).a _ _ s one) two
    where
      one : (row_in ws i).a < operand_below of_negation (row_in ws i).op (get_or ms i 0) i → Part ws whole (row_in ws i).a
      one h = let o = below-operand of_negation (row_in ws i).op (get_or ms i 0) i (row_in ws i).a h in first_of (s.each i o.marks) o.low o.high

      two : (row_in ws i).b < operand_below of_conjunction (row_in ws i).op (get_or ms i 0) i → Part ws whole (row_in ws i).b
      two h = let o = below-operand of_conjunction (row_in ws i).op (get_or ms i 0) i (row_in ws i).b h in second_of_lem (s.each i o.marks) o.low o.high

  pub parts-marked : (n : ℕ) (ms : List ℕ) → Parts ws whole ms → Parts ws whole (marked ws n ms)
  unfolding marked
  parts-marked zero ms s = s
  parts-marked (suc j) ms s = parts-marked j (mark_row ms (row_in ws j) j) (parts-row ms j s)

-- ---- the marks at first

zeros : (n k : ℕ) → get_or (replicate {A = ℕ} n 0) k 0 ≡ 0
zeros zero k = refl
zeros (suc n) zero = refl
zeros (suc n) (suc k) = zeros n k

set-from : (ms : List ℕ) (a m k : ℕ) → 0 < get_or (set ms a m) k 0 → (0 < get_or ms k 0) ⊎ (k ≡ a)
set-from ms a m k h = go (ℕ_discrete k a)
  where
    go : Dec (k ≡ a) → (0 < get_or ms k 0) ⊎ (k ≡ a)
    go (yes q) = inr q
    go (no q) = inl (rw (get_or-set_other ms a k m 0 q) at h)

pub start-parts : (ws : List ℕ) (whole : Formula) (c g : ℕ) → Part ws whole c → Part ws whole g → Parts ws whole (start_marks c g)
start-parts ws whole c g p q = record { each = λ k h. two k (set-from (first_mark c) g _ k h) }
  where
    one : (k : ℕ) → (0 < get_or (replicate {A = ℕ} row_limit 0) k 0) ⊎ (k ≡ c) → Part ws whole k
    one k (inl h) = let z = zeros row_limit k in absurd (omega arith)
    one k (inr e) = rw e p

    two : (k : ℕ) → (0 < get_or (first_mark c) k 0) ⊎ (k ≡ g) → Part ws whole k
    two k (inl h) = one k (set-from (replicate row_limit 0) c 1 k h)
    two k (inr e) = rw e q

module _ (c g : ℕ) where
  one_length : length (first_mark c) ≡ row_limit
  one_length = length-set (replicate row_limit 0) c 1 ∙ length-replicate {A = ℕ} row_limit 0

  pub start-length : length (start_marks c g) ≡ row_limit
  start-length = length-set (first_mark c) g _ ∙ one_length

  marked_twice : (ms : List ℕ) (i j : ℕ) → i ≡ j → i < length ms → get_or (set ms j (bit_or (get_or ms j 0) 2)) i 0 ≡ bit_or (get_or ms i 0) 2
  marked_twice ms i j e h = rw (sym e) (get_or-set_same ms i (bit_or (get_or ms i 0) 2) 0 h)

  -- what the two marks say
  module _ {P : ℕ → Type 0} (kept : Kept P) where
    pub start_first : c < row_limit → P 1 → P (get_or (start_marks c g) c 0)
    start_first h p = go (ℕ_discrete c g)
      where
        first : P (get_or (first_mark c) c 0)
        first = let l = length-replicate {A = ℕ} row_limit 0 in rw (get_or-set_same {A = ℕ} (replicate row_limit 0) c 1 0 (omega arith)) p

        go : Dec (c ≡ g) → P (get_or (start_marks c g) c 0)
        go (yes q) = let l = one_length in subst P (sym (marked_twice (first_mark c) c g q (omega arith))) (kept.first (get_or (first_mark c) c 0) 2 first)
        go (no q) = rw (get_or-set_other (first_mark c) g c (bit_or (get_or (first_mark c) g 0) 2) 0 q) first

    pub start-second : g < row_limit → P 2 → P (get_or (start_marks c g) g 0)
    start-second h p =
        let l = one_length in
        rw (get_or-set_same (first_mark c) g (bit_or (get_or (first_mark c) g 0) 2) 0 (omega arith))
        (kept.second (get_or (first_mark c) g 0) 2 p)
