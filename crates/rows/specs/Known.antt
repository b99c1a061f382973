-- What is known of a condition, so that it is not gone through again: the rows of its atoms, and its truths under their assignments. It stands among the
-- lent numbers from a place on: 1 if something is known, how many atoms, ten places for their rows, and two numbers for each of 16 blocks.
-- Assumes nothing.
use Rattle.std.specs.Prelude.{Bool, true, false, List, [], ◌∷◌, ◌≡◌, ℕ, ◌+◌, ◌*◌, ◌^◌, ◌≤◌, ◌<◌, eqb, length, get_or}
use Rattle.std.proofs.Common.{sym, ◌∙◌, arith, lit≤}
use Rattle.script.specs.Tests.{pick}
use Rattle.script.specs.Tests.Bits.{bit}
use Rattle.rules.specs.Satisfiable.{holds, atoms_of, among}
use Rattle.rules.specs.Symbolic.{Atom, Formula, same_atom}
use Rattle.terms.specs.Places.{row_limit}
use Rattle.terms.specs.Terms.{count_in, AtomRow, Grown}
use Rattle.terms.specs.Terms.Laws.{atom-kept}
use Rattle.rows.specs.Code.{blocks_of, known_size, known_row, known_word, Sound}

-- assignments by number: bit k of the number for the atom that k atoms follow
unfoldable pub assign : List Atom → ℕ → Atom → Bool
assign [] x y = false
assign (z ∷ zs) x y = pick (same_atom z y) (bit x (length zs)) (assign zs x y)

-- the assignments by number give an atom of the list their bit m
pub record Assigned (xs : List Atom) (m : ℕ) (x : Atom) : Type 0 where
  pub low : m < 10
  pub listed : among xs x ≡ true
  pub bits : (n : ℕ) → assign xs n x ≡ bit n m

-- the truths of a formula under the 64 assignments of a block, one bit each
pub record Right (xs : List Atom) (block w : ℕ) (f : Formula) : Type 0 where
  pub small : w < 2 ^ 64
  pub bits : (p : ℕ) → p < 64 → bit w p ≡ holds (assign xs (block * 64 + p)) f

-- row i is an atom with number m
pub record Numbered (ws : List ℕ) (xs : List Atom) (i m : ℕ) : Type 0 where
  pub atom : Atom
  pub below : i < count_in ws
  pub row : AtomRow ws i atom
  pub assigned : Assigned xs m atom

-- the truths of a formula are known
pub record Known (ws : List ℕ) (at : ℕ) (f : Formula) : Type 0 where
  pub atoms : List Atom
  pub few : length atoms ≤ 10
  pub count : get_or ws (at + 1) 0 ≡ length atoms
  pub rows : (j : ℕ) → j < length atoms → Numbered ws atoms (known_row ws at j) j
  pub all : (z : Atom) → among (atoms_of f) z ≡ true → among atoms z ≡ true
  pub words : (block : ℕ) → block < blocks_of (length atoms) → Right atoms block (known_word ws at block) f

-- they are known over the atoms of another formula too
pub record KnownOver (ws : List ℕ) (at : ℕ) (f h : Formula) : Type 0 where
  pub is : Known ws at f
  pub others : (z : Atom) → among (atoms_of h) z ≡ true → among is.atoms z ≡ true

-- if something is known, it is this formula's
pub record Remembers (ws : List ℕ) (at : ℕ) (f : Formula) : Type 0 where
  pub known : get_or ws at 0 ≡ 1 → Known ws at f

pub remembers-sound : {ws : List ℕ} {at : ℕ} {f : Formula} → count_in ws ≤ row_limit → Remembers ws at f → Sound ws at
remembers-sound {ws} {at} r m =
    record {
      count = λ e. omega (arith, (m.known e).count, (m.known e).few);
      rows = λ e j l. omega (arith, ((m.known e).rows j (omega (arith, l, (m.known e).count))).below, r);
    }

pub blocks_most : (n : ℕ) → blocks_of n ≤ 16
unfolding blocks_of
blocks_most n = go (eqb n 7) (eqb n 8) (eqb n 9) (eqb n 10)
  where
    go : (s t u v : Bool) → pick s 2 (pick t 4 (pick u 8 (pick v 16 1))) ≤ 16
    go true t u v = lit≤ tt
    go false true u v = lit≤ tt
    go false false true v = lit≤ tt
    go false false false true = lit≤ tt
    go false false false false = lit≤ tt

-- ---- what is only added to keeps what is known

module _ {ws left : List ℕ} {at : ℕ} (g : Grown ws left) (same : (k : ℕ) → at ≤ k → k < at + known_size → get_or left k 0 ≡ get_or ws k 0) where
  known_kept : (f : Formula) → Known ws at f → Known left at f
  known_kept f k =
      record {
        atoms = k.atoms;
        few = k.few;
        count = same (at + 1) (omega arith) (omega arith) ∙ k.count;
        rows = λ j l. row j l;
        all = k.all;
        words = λ b l. word b l;
      }
    where
      row : (j : ℕ) → j < length k.atoms → Numbered left k.atoms (known_row left at j) j
      row j l =
          let n = k.rows j l in
          let e = same (at + 2 + j) (omega arith) (omega (arith, l, k.few)) in
          rw e (record { atom = n.atom; below = omega (arith, n.below, g.grows); row = atom-kept g n.row n.below; assigned = n.assigned })

      word : (b : ℕ) → b < blocks_of (length k.atoms) → Right k.atoms b (known_word left at b) f
      word b l =
          let m = blocks_most (length k.atoms) in
          rw (same (at + 12 + 2 * b) (omega arith) (omega arith), same (at + 12 + 2 * b + 1) (omega arith) (omega arith)) (k.words b l)

  pub remembers-kept : {f : Formula} → Remembers ws at f → Remembers left at f
  remembers-kept {f} m = record { known = λ e. known_kept f (m.known (sym (same at (omega arith) (omega arith)) ∙ e)) }
