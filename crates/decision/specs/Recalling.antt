-- A guard whose atoms are all known is decided by what is known. Assumes nothing.
use Rattle.std.specs.Prelude.{Bool, true, false, List, [], ◌∷◌, ◌++◌, ◌⊎◌, ◌≡◌, ltb, set, replicate}
use Rattle.std.proofs.lemmas.Bool.{false≢true}
use Rattle.std.proofs.Math.Logic.{inl, inr}
use Rattle.std.proofs.Math.Path.{refl}
use Rattle.std.proofs.Common.{sym, ap₂, ◌∙◌, ltb-true, ltb-false, le-ltb, le-leb, length-append, get_or-set_other}
use Prim.Native.Nat.{ℕ, zero, suc, ◌+◌, ◌≤◌, ◌<◌}
use Rattle.std.proofs.Math.Decide.{ℕ_discrete}
use native.Mathlib.Omega.{arith}
use Rattle.std.proofs.Math.ListN.{length, get_or, length-set, length-replicate, get_or-replicate, get_or-append}
use Rattle.std.proofs.lemmas.List.{get_or_at}
use Rattle.std.proofs.Math.Seq.{get_or-set_same}
use Rattle.script.specs.Tests.{pick}
use Rattle.rules.specs.Satisfiable.{atoms_of, among, different_atoms, satisfiable}
use Rattle.rules.proofs.Satisfiable.Laws.{among-different}
use Rattle.rules.specs.Symbolic.{Atom, Formula, negation, conjunction}
use Rattle.terms.specs.Places.{row_limit}
use Rattle.terms.specs.Terms.{row_in, TruthRow, AtomRow, first_atom, of_exclusion}
use Rattle.rows.specs.Code.{words, rows_from, is_numbered, numbered_to, no_numbers, known_row, known_numbers, guard_marks, guard_rows, with_known, without_known, compared, recalled, recalls}
use Rattle.rows.specs.Decision.{branches_of, decision_of}
use Rattle.rows.specs.Marks.{kept-least, marked-keeps, closed-first, closed-second}
use Rattle.known.specs.Atoms.{atom_one, no_repeat-fits, different_no_repeat}
use Rattle.known.specs.Ordered.{rows_skip, rows_more}
use Rattle.rows.specs.Known.{Assigned, Right, Numbered, Known}
use Rattle.known.specs.Words.{right-negation, right-conjunction, Sweep, atom_op, rows-listed, rows_right}
use Rattle.decision.specs.Deciding.{found-is, with_atoms, without-atoms}

-- ---- a row that has the mark is among the rows in order

record Placed (rows : List ℕ) (i : ℕ) : Type 0 where
  pub at : ℕ
  pub below : at < length rows
  pub is : get_or rows at 0 ≡ i

placed_longer : (rows : List ℕ) (i k : ℕ) → Placed rows i → Placed (rows ++ (k ∷ [])) i
placed_longer rows i k p =
    let l = length-append rows (k ∷ []) in
    let b = p.below in
    record { at = p.at; below = omega arith; is = get_or-append rows (k ∷ []) 0 p.at b ∙ p.is }

placed-last : (rows : List ℕ) (k : ℕ) → Placed (rows ++ (k ∷ [])) k
placed-last rows k = let l = length-append rows (k ∷ []) in record { at = length rows; below = omega arith; is = get_or_at rows k [] 0 (length rows) refl }

placed : (ms : List ℕ) (least n i : ℕ) → i < n → least ≤ get_or ms i 0 → Placed (rows_from ms least n) i
placed ms least zero i h m = absurd (omega arith)
placed ms least (suc n) i h m = go (ℕ_discrete n i) (ltb (get_or ms n 0) least) refl (λ k. placed ms least n i k m)
  where
    go : Dec (n ≡ i) → (t : Bool) → ltb (get_or ms n 0) least ≡ t → (i < n → Placed (rows_from ms least n) i) → Placed (rows_from ms least (suc n)) i
    go (yes e) t q ih = rw (sym e) (rw (rows_more ms least n (rw (sym e) at m)) (placed-last (rows_from ms least n) n))
    go (no e) true q ih = rw (rows_skip ms least n (ltb-true (get_or ms n 0) least q)) (ih (omega arith))
    go (no e) false q ih = rw (rows_more ms least n (ltb-false (get_or ms n 0) least q)) (placed_longer (rows_from ms least n) i n (ih (omega arith)))

-- ---- every atom among the rows has a number

numbered-each : (ws os ns : List ℕ) (count j : ℕ) → numbered_to ws os ns count ≡ true → j < count → is_numbered ws ns (get_or os j 0) ≡ true
unfolding numbered_to
numbered-each ws os ns zero j e h = absurd (omega arith)
numbered-each ws os ns (suc n) j e h = go (is_numbered ws ns (get_or os n 0)) refl e (ℕ_discrete j n) (numbered-each ws os ns n j)
  where
    go : (t : Bool) → is_numbered ws ns (get_or os n 0) ≡ t → pick t (numbered_to ws os ns n) false ≡ true → Dec (j ≡ n)
        → (numbered_to ws os ns n ≡ true → j < n → is_numbered ws ns (get_or os j 0) ≡ true) → is_numbered ws ns (get_or os j 0) ≡ true
    go true q r (yes z) ih = rw z q
    go true q r (no z) ih = ih r (omega arith)
    go false q r d ih = absurd (false≢true r)

number-low : (ws ns : List ℕ) (i : ℕ) → is_numbered ws ns i ≡ true → of_exclusion < (row_in ws i).op → get_or ns i 0 < 10
unfolding is_numbered
number-low ws ns i e h = ltb-true (get_or ns i 0) 10 (rw (le-ltb (row_in ws i).op first_atom (omega arith)) at e)

-- ---- the numbers are those of the atoms known

module _ {ws : List ℕ} {at : ℕ} {f : Formula} (k : Known ws at f) where
  known-length : (ns : List ℕ) (j : ℕ) → length (known_numbers ws at ns j) ≡ length ns
  unfolding known_numbers
  known-length ns zero = refl
  known-length ns (suc j) = length-set (known_numbers ws at ns j) (known_row ws at j) j ∙ known-length ns j

  -- a row has no number, or one that is right
  right-number : (ns : List ℕ) → ((i : ℕ) → i < length ns → (get_or ns i 0 < 10 → ⊥) ⊎ Numbered ws k.atoms i (get_or ns i 0)) → (j : ℕ) → j ≤ length k.atoms
      → (i : ℕ) → i < length ns → (get_or (known_numbers ws at ns j) i 0 < 10 → ⊥) ⊎ Numbered ws k.atoms i (get_or (known_numbers ws at ns j) i 0)
  unfolding known_numbers
  right-number ns b zero l i h = b i h
  right-number ns b (suc j) l i h = go (ℕ_discrete i (known_row ws at j)) (right-number ns b j (omega arith) i h)
    where
      go : Dec (i ≡ known_row ws at j)
          → (get_or (known_numbers ws at ns j) i 0 < 10 → ⊥) ⊎ Numbered ws k.atoms i (get_or (known_numbers ws at ns j) i 0)
          → (get_or (set (known_numbers ws at ns j) (known_row ws at j) j) i 0 < 10 → ⊥)
          ⊎ Numbered ws k.atoms i (get_or (set (known_numbers ws at ns j) (known_row ws at j) j) i 0)
      go (no e) ih = rw (get_or-set_other (known_numbers ws at ns j) (known_row ws at j) i j 0 e) ih
      go (yes e) ih =
          let n = known-length ns j in
          let u : known_row ws at j < length ns = rw (sym e) h in
          inr (rw (e, get_or-set_same (known_numbers ws at ns j) (known_row ws at j) j 0 (omega arith)) (k.rows j (omega arith)))

  number-right : (i : ℕ) → i < row_limit → get_or (recalled ws at) i 0 < 10 → Numbered ws k.atoms i (get_or (recalled ws at) i 0)
  unfolding recalled
  number-right i h l =
      let n = length-replicate {A = ℕ} row_limit 10 in
      go (right-number no_numbers (λ q r. inl (none q r)) (get_or ws (at + 1) 0) (omega (arith, k.count)) i (omega arith))
    where
      none : (q : ℕ) → q < length no_numbers → get_or no_numbers q 0 < 10 → ⊥
      none q r = let n = length-replicate {A = ℕ} row_limit 10 in let e = get_or-replicate {A = ℕ} row_limit q 10 0 (omega arith) in λ z. omega arith

      go : (get_or (known_numbers ws at no_numbers (get_or ws (at + 1) 0)) i 0 < 10 → ⊥)
          ⊎ Numbered ws k.atoms i (get_or (known_numbers ws at no_numbers (get_or ws (at + 1) 0)) i 0)
          → Numbered ws k.atoms i (get_or (known_numbers ws at no_numbers (get_or ws (at + 1) 0)) i 0)
      go (inl n) = absurd (n l)
      go (inr n) = n

  -- ---- the guard

  module _ {g : ℕ} {h : Formula} (low : g < row_limit) (is-guard : TruthRow ws g h) (all : recalls ws at g ≡ true) where
    abbrev marks : List ℕ
    marks = guard_marks ws g

    start-long : g + 1 ≤ length (set (replicate {A = ℕ} row_limit 0) g 1)
    start-long = let l = length-set (replicate {A = ℕ} row_limit 0) g 1 in let n = length-replicate {A = ℕ} row_limit 0 in omega arith

    guard-numbered : (i : ℕ) (x : Atom) → i < g + 1 → 1 ≤ get_or marks i 0 → AtomRow ws i x → Assigned k.atoms (get_or (recalled ws at) i 0) x
    unfolding recalls guard_rows
    guard-numbered i x b m a =
        let p = placed marks 1 (g + 1) i b m in
        let n = numbered-each ws (guard_rows ws g) (recalled ws at) (length (guard_rows ws g)) p.at all p.below in
        let q = number-right i (omega arith) (number-low ws (recalled ws at) i (rw p.is at n) (atom_op a)) in
        let e : q.atom ≡ x = atom_one q.row a in
        rw e at q.assigned

    guard_sweep : Sweep ws marks 1 (g + 1) (recalled ws at) k.atoms
    unfolding guard_marks
    guard_sweep =
        record {
          closed =
              record {
                some = λ i m. (kept-least 1 (omega arith)).some _ m;
                first = closed-first ws (kept-least 1 (omega arith)) (g + 1) (set (replicate row_limit 0) g 1) start-long;
                second = closed-second ws (kept-least 1 (omega arith)) (g + 1) (set (replicate row_limit 0) g 1) start-long;
              };
          numbered = guard-numbered;
        }

    guard_marked : 1 ≤ get_or marks g 0
    unfolding guard_marks
    guard_marked =
        let l = start-long in
        let n = length-replicate {A = ℕ} row_limit 0 in
        let e = get_or-set_same (replicate {A = ℕ} row_limit 0) g 1 0 (omega arith) in
        marked-keeps ws (kept-least 1 (omega arith)) (g + 1) (set (replicate row_limit 0) g 1) g (omega arith) (omega arith)

    pub recalled-atoms : (z : Atom) → among (atoms_of h) z ≡ true → among k.atoms z ≡ true
    recalled-atoms = rows-listed guard_sweep is-guard (omega arith) guard_marked

    guard-right : (block : ℕ) → Right k.atoms block (get_or (words ws marks 1 (recalled ws at) block (g + 1)) g 0) h
    guard-right block = rows_right guard_sweep block is-guard (omega arith) guard_marked

    compared_is : compared ws at (recalled ws at) g ≡ branches_of (satisfiable (conjunction f h)) (satisfiable (conjunction f (negation h)))
    unfolding compared with_known without_known
    compared_is =
        rw k.count
        (ap₂ branches_of
        (found-is k.atoms (conjunction f h) (with_known ws at (recalled ws at) g) (λ b l. right-conjunction (k.words b l) (guard-right b))
        (with_atoms f h k.atoms k.all recalled-atoms) k.few)
        (found-is k.atoms (conjunction f (negation h)) (without_known ws at (recalled ws at) g)
        (λ b l. right-conjunction (k.words b l) (right-negation (guard-right b))) (without-atoms f h k.atoms k.all recalled-atoms) k.few))

    few-atoms : length (different_atoms (conjunction f h)) ≤ 10
    few-atoms =
        let l = k.few in
        let a =
        no_repeat-fits (different_no_repeat (atoms_of (conjunction f h))) k.atoms
        (λ z m. with_atoms f h k.atoms k.all recalled-atoms z (sym (among-different (atoms_of (conjunction f h)) z) ∙ m)) in
        omega arith

    pub recalled-decides : compared ws at (recalled ws at) g ≡ decision_of f h
    unfolding decision_of
    recalled-decides = rw (le-leb (length (different_atoms (conjunction f h))) 10 few-atoms) compared_is
