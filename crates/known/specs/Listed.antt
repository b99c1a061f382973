-- The atoms of the rows that have at least a mark in a list, the last row first: it has each atom of the formula asked for once, and its assignments by
-- number give the atom of each row its bit. Assumes nothing.
use Rattle.std.specs.Prelude.{Bool, ◌||◌, List, [], ◌∷◌, ◌⊎◌, ◌≡◌, get_or}
use Rattle.std.proofs.Math.Bool.{true, false}
use Rattle.std.proofs.lemmas.Bool.{false≢true}
use Rattle.std.proofs.Math.Logic.{inl, inr}
use Rattle.std.proofs.Math.Path.{refl, sym, ap}
use Rattle.std.proofs.Common.{◌∙◌, add-one}
use Prim.Native.Nat.{ℕ, zero, suc, ◌+◌, ◌≤◌, ◌<◌}
use borrow.Author.Tests.{ltb-false, le-ltb}
use Rattle.std.proofs.Math.Decide.{ℕ_discrete}
use native.Mathlib.Omega.{arith}
use Rattle.std.proofs.Math.Dec.{ltb}
use Rattle.std.proofs.Math.ListN.{length}
use Rattle.script.specs.Tests.{pick}
use Rattle.script.specs.Tests.Bits.{bit}
use Rattle.script.specs.Tests.Laws.{or_cases, or_first, or_second}
use Rattle.rules.specs.Satisfiable.{atoms_of, among}
use Rattle.rules.proofs.Satisfiable.Laws.{among_same}
use Rattle.rules.specs.Symbolic.{Atom, Formula, same_atom}
use Rattle.rules.proofs.Symbolic.Laws.{same_atom-refl}
use Rattle.terms.specs.Terms.{row_in, count_in, constant_row, atom_row, negation_row, conjunction_row, equality_row, exclusion_row, AtomRow, Distinct, first_atom, of_exclusion}
use Rattle.rows.specs.Code.{seen_after, rank}
use Rattle.rows.specs.Marks.{Part, part, Parts}
use Rattle.rows.specs.Known.{assign}
use Rattle.known.specs.Atoms.{NoRepeat, no_repeat-none, no_repeat-more, same-turned, atom_one}

-- a row that is an atom and has at least a mark
pub record Counted (ws ms : List ℕ) (least i : ℕ) : Type 0 where
  pub marks : least ≤ get_or ms i 0
  pub atoms : of_exclusion < (row_in ws i).op

pub data Listed (ws ms : List ℕ) (least : ℕ) : ℕ → List Atom → Type 0 where
  listed-none : Listed ws ms least 0 []
  listed_skip : {i : ℕ} {xs : List Atom} → rank ws ms least (suc i) ≡ rank ws ms least i → Listed ws ms least i xs → Listed ws ms least (suc i) xs
  listed_more : {i : ℕ} {x : Atom} {xs : List Atom} → Counted ws ms least i → AtomRow ws i x → Listed ws ms least i xs → Listed ws ms least (suc i) (x ∷ xs)

pub data SomeList (ws ms : List ℕ) (least n : ℕ) : Type 0 where
  some_list : {xs : List Atom} → Listed ws ms least n xs → SomeList ws ms least n

data AtomOf (ws : List ℕ) (i : ℕ) : Type 0 where
  atom_of : {x : Atom} → AtomRow ws i x → AtomOf ws i

-- ---- a marked row that is an atom stands for one of the formula

module _ {ws : List ℕ} where
  atom-at : {whole : Formula} {i : ℕ} → Part ws whole i → of_exclusion < (row_in ws i).op → AtomOf ws i
  atom-at (part (constant_row eo ea) w) h = absurd (omega arith)
  atom-at (part (atom_row a s) w) h = atom_of a
  atom-at (part (negation_row eo ea ja t) w) h = absurd (omega arith)
  atom-at (part (conjunction_row eo ea eb ja jb t u) w) h = absurd (omega arith)
  atom-at (part (equality_row eo ea eb ja jb t u) w) h = absurd (omega arith)
  atom-at (part (exclusion_row eo ea eb ja jb t u) w) h = absurd (omega arith)

  part-has : {whole : Formula} {i : ℕ} {x : Atom} → Part ws whole i → of_exclusion < (row_in ws i).op → AtomRow ws i x → among (atoms_of whole) x ≡ true
  unfolding atoms_of among
  part-has (part (constant_row eo ea) w) h r = absurd (omega arith)
  part-has {whole = whole} {x = x} (part (atom_row {x = z} {y = y} a s) w) h r =
      let e : z ≡ x = atom_one a r in
      among_same (atoms_of whole) x y (rw e at s) ∙ w.each y (or_first (same_atom y y) false (same_atom-refl y))
  part-has (part (negation_row eo ea ja t) w) h r = absurd (omega arith)
  part-has (part (conjunction_row eo ea eb ja jb t u) w) h r = absurd (omega arith)
  part-has (part (equality_row eo ea eb ja jb t u) w) h r = absurd (omega arith)
  part-has (part (exclusion_row eo ea eb ja jb t u) w) h r = absurd (omega arith)

module _ {ws ms : List ℕ} {least : ℕ} where
  -- ---- the number of the next atom

  pub rank-counted : (i : ℕ) → Counted ws ms least i → rank ws ms least (suc i) ≡ suc (rank ws ms least i)
  unfolding rank seen_after
  rank-counted i c =
      let m = c.marks in
      let a = c.atoms in
      rw (le-ltb (get_or ms i 0) least m, le-ltb (row_in ws i).op first_atom (omega arith)) (add-one (rank ws ms least i))

  rank_or : (i : ℕ) → (rank ws ms least (suc i) ≡ rank ws ms least i) ⊎ Counted ws ms least i
  unfolding rank seen_after
  rank_or i = go (ltb (get_or ms i 0) least) refl (ltb (row_in ws i).op first_atom) refl
    where
      go : (s : Bool) → ltb (get_or ms i 0) least ≡ s → (t : Bool) → ltb (row_in ws i).op first_atom ≡ t
          → (pick s (rank ws ms least i) (pick t (rank ws ms least i) (rank ws ms least i + 1)) ≡ rank ws ms least i) ⊎ Counted ws ms least i
      go true e t f = inl refl
      go false e true f = inl refl
      go false e false f =
          let a = ltb-false (row_in ws i).op first_atom f in
          inr (record { marks = ltb-false (get_or ms i 0) least e; atoms = omega arith })

  -- a counted row is no skipped one
  skip_other : (i j : ℕ) → Counted ws ms least i → rank ws ms least (suc j) ≡ rank ws ms least j → i ≡ j → ⊥
  skip_other i j c e q = let r = rank-counted i c in let s : rank ws ms least (suc i) ≡ rank ws ms least i = rw q e in omega arith

  pub listed-length : {n : ℕ} {xs : List Atom} → Listed ws ms least n xs → length xs ≡ rank ws ms least n
  unfolding rank
  listed-length listed-none = refl
  listed-length (listed_skip e l) = listed-length l ∙ sym e
  listed-length (listed_more {i = i} c a l) = ap suc (listed-length l) ∙ sym (rank-counted i c)

  -- ---- there is such a list

  pub list_made : {whole : Formula} → 0 < least → Parts ws whole ms → (n : ℕ) → SomeList ws ms least n
  list_made p s zero = some_list listed-none
  list_made p s (suc i) = go (rank_or i) (list_made p s i)
    where
      more : Counted ws ms least i → AtomOf ws i → SomeList ws ms least i → SomeList ws ms least (suc i)
      more c (atom_of a) (some_list l) = some_list (listed_more c a l)

      skip : rank ws ms least (suc i) ≡ rank ws ms least i → SomeList ws ms least i → SomeList ws ms least (suc i)
      skip e (some_list l) = some_list (listed_skip e l)

      go : (rank ws ms least (suc i) ≡ rank ws ms least i) ⊎ Counted ws ms least i → SomeList ws ms least i → SomeList ws ms least (suc i)
      go (inl e) r = skip e r
      go (inr c) r = let m = c.marks in more c (atom-at (s.each i (omega arith)) c.atoms) r

  -- ---- it has the atoms of the marked rows, and only such of the formula

  pub listed_in : {n : ℕ} {xs : List Atom} → Listed ws ms least n xs → (i : ℕ) (y : Atom) → i < n → Counted ws ms least i → AtomRow ws i y → among xs y ≡ true
  unfolding among
  listed_in listed-none i y h c r = absurd (omega arith)
  listed_in (listed_skip {i = j} e l) i y h c r = listed_in l i y (go (ℕ_discrete i j)) c r
    where
      go : Dec (i ≡ j) → i < j
      go (yes q) = absurd (skip_other i j c e q)
      go (no q) = omega arith
  listed_in (listed_more {i = j} {x = x} {xs = xs} d a l) i y h c r = go (ℕ_discrete i j) (λ k. listed_in l i y k c r)
    where
      go : Dec (i ≡ j) → (i < j → among xs y ≡ true) → same_atom x y || among xs y ≡ true
      go (yes q) ih = let e : x ≡ y = atom_one a (rw q at r) in or_first (same_atom x y) (among xs y) (rw e (same_atom-refl y))
      go (no q) ih = or_second (same_atom x y) (among xs y) (ih (omega arith))

  pub listed-part : {whole : Formula} → 0 < least → Parts ws whole ms → {n : ℕ} {xs : List Atom} → Listed ws ms least n xs → (z : Atom) → among xs z ≡ true
      → among (atoms_of whole) z ≡ true
  unfolding among
  listed-part p s listed-none z h = absurd (false≢true h)
  listed-part p s (listed_skip e l) z h = listed-part p s l z h
  listed-part {whole} p s (listed_more {i = i} {x = x} {xs = xs} c a l) z h =
      go (or_cases (same_atom x z) (among xs z) h) (listed-part p s l z)
    where
      go : (same_atom x z ≡ true) ⊎ (among xs z ≡ true) → (among xs z ≡ true → among (atoms_of whole) z ≡ true) → among (atoms_of whole) z ≡ true
      go (inl e) ih = sym (among_same (atoms_of whole) x z e) ∙ (let m = c.marks in part-has (s.each i (omega arith)) c.atoms a)
      go (inr k) ih = ih k

  -- ---- each once

  listed_below : Distinct ws → {n : ℕ} {xs : List Atom} → Listed ws ms least n xs → (j : ℕ) (y : Atom) → n ≤ j → j < count_in ws → AtomRow ws j y
      → among xs y ≡ false
  unfolding among
  listed_below d listed-none j y h k r = refl
  listed_below d (listed_skip e l) j y h k r = listed_below d l j y (omega arith) k r
  listed_below d (listed_more {i = i} {x = x} c a l) j y h k r =
      rw (d.different i j x y (omega arith) k a r, listed_below d l j y (omega arith) k r)

  pub listed_no_repeat : Distinct ws → {n : ℕ} {xs : List Atom} → Listed ws ms least n xs → n ≤ count_in ws → NoRepeat xs
  listed_no_repeat d listed-none h = no_repeat-none
  listed_no_repeat d (listed_skip e l) h = listed_no_repeat d l (omega arith)
  listed_no_repeat d (listed_more {i = i} {x = x} c a l) h =
      no_repeat-more (listed_below d l i x (omega arith) (omega arith) a) (listed_no_repeat d l (omega arith))

  -- ---- the assignments by number

  pub listed-assigns : Distinct ws → {n : ℕ} {xs : List Atom} → Listed ws ms least n xs → n ≤ count_in ws → (m i : ℕ) (y : Atom) → i < n → Counted ws ms least i
      → AtomRow ws i y → assign xs m y ≡ bit m (rank ws ms least i)
  unfolding assign
  listed-assigns d listed-none b m i y h c r = absurd (omega arith)
  listed-assigns d (listed_skip {i = j} e l) b m i y h c r = listed-assigns d l (omega arith) m i y (go (ℕ_discrete i j)) c r
    where
      go : Dec (i ≡ j) → i < j
      go (yes q) = absurd (skip_other i j c e q)
      go (no q) = omega arith
  listed-assigns d (listed_more {i = j} {x = x} {xs = xs} f a l) b m i y h c r =
      go (ℕ_discrete i j) (λ k. listed-assigns d l (omega arith) m i y k c r)
    where
      go : Dec (i ≡ j) → (i < j → assign xs m y ≡ bit m (rank ws ms least i))
          → pick (same_atom x y) (bit m (length xs)) (assign xs m y) ≡ bit m (rank ws ms least i)
      go (yes q) ih =
          let e : x ≡ y = atom_one a (rw q at r) in
          let n : length xs ≡ rank ws ms least i = rw q (listed-length l) in
          rw (e, same_atom-refl y, n)
      go (no q) ih = rw (same-turned y x (d.different i j y x (omega arith) (omega arith) r a)) (ih (omega arith))
