-- The loops over the log: what a turn leaves of the whole. Assumes nothing.
use Rattle.std.specs.Prelude.{true, false, ◌&&◌, ◌||◌, List, ◌≡◌, leb, eqb, get_or, Some, None}
use Rattle.std.proofs.Math.Path.{refl, sym}
use Rattle.std.proofs.Common.{ap, ◌∙◌, add-one, le-leb, eq-eqb, ne_eqb}
use Prim.Native.Nat.{ℕ, suc, ◌+◌, ◌-◌, ◌≤◌, ◌<◌}
use native.Mathlib.Omega.{arith}
use Rattle.std.proofs.lemmas.Bool.{lt-leb}
use Rattle.script.specs.Tests.{pick}
use Rattle.terms.specs.References.{apart_at, symbol_at}
use Rattle.workspace.specs.Answers.{Found}
use Rattle.workspace.specs.Log.{right_on, mends_on, mended_on, settled_on, consistent_on, lookup_at, lookup_on}
use Rattle.workspace.specs.Places.{write_at}

-- ---- a later write that mends

pub record Mending (ws : List ℕ) (s i count j : ℕ) : Type 0 where
  pub within : j ≤ count
  pub rest : mended_on ws s (suc i) (count - suc i) ≡ mended_on ws s j (count - j)

module _ (ws : List ℕ) (s i count : ℕ) where
  mending_by : (j : ℕ) → j < count → mended_on ws s j (count - j) ≡ (mends_on ws s j || mended_on ws s (suc j) (count - suc j))
  unfolding mended_on
  mending_by j l = let e : count - j ≡ suc (count - suc j) = omega arith in rw e refl

  pub mending_start : i < count → Mending ws s i count (i + 1)
  mending_start l = rw (add-one i) (record { within = omega arith; rest = refl })

  pub mending_found : (j : ℕ) → Mending ws s i count j → j < count → mends_on ws s j ≡ true → true ≡ mended_on ws s (suc i) (count - suc i)
  mending_found j m l e = sym (m.rest ∙ mending_by j l ∙ rw e refl)

  pub mending_on : (j : ℕ) → Mending ws s i count j → j < count → mends_on ws s j ≡ false → Mending ws s i count (j + 1)
  mending_on j m l e = rw (add-one j) (record { within = omega arith; rest = m.rest ∙ mending_by j l ∙ rw e refl })

  pub mending_end : (j : ℕ) → Mending ws s i count j → count ≤ j → false ≡ mended_on ws s (suc i) (count - suc i)
  unfolding mended_on
  mending_end j m l = let e : count - j ≡ 0 = omega arith in sym (m.rest ∙ rw e refl)

-- ---- all writes settled

module _ (ws : List ℕ) (begin more : ℕ) where
  pub consistent-none : (k : ℕ) → k ≤ begin → consistent_on ws begin more (k - begin) ≡ true
  unfolding consistent_on
  consistent-none k l = let e : k - begin ≡ 0 = omega arith in rw e refl

  pub consistent-some : (k : ℕ) → begin ≤ k
      → consistent_on ws begin more (suc k - begin) ≡ (settled_on ws k more && consistent_on ws begin (suc more) (k - begin))
  unfolding consistent_on
  consistent-some k l =
      let e : suc k - begin ≡ suc (k - begin) = omega arith in
      let f : begin + (k - begin) ≡ k = omega arith in
      rw e (ap (λ (i : ℕ). settled_on ws i more && consistent_on ws begin (suc more) (k - begin)) f)

pub record Settling (ws : List ℕ) (begin count i : ℕ) : Type 0 where
  pub within : i ≤ count
  pub rest : consistent_on ws begin 0 (count - begin) ≡ consistent_on ws begin (count - i) (i - begin)

module _ (ws : List ℕ) (begin count : ℕ) where
  settling_by : (i j : ℕ) → i ≡ suc j → begin < i → i ≤ count
      → consistent_on ws begin (count - i) (i - begin) ≡ (settled_on ws j (count - suc j) && consistent_on ws begin (count - j) (j - begin))
  settling_by i j e b l =
      let k : suc (count - suc j) ≡ count - j = omega arith in
      rw e (consistent-some ws begin (count - suc j) j (omega arith) ∙ rw k refl)

  pub settling_start : Settling ws begin count count
  settling_start = let e : count - count ≡ 0 = omega arith in record { within = omega arith; rest = rw e refl }

  pub settling_wrong : (i j : ℕ) → i ≡ suc j → begin < i → Settling ws begin count i → settled_on ws j (count - suc j) ≡ false
      → false ≡ consistent_on ws begin 0 (count - begin)
  settling_wrong i j e b m f = sym (m.rest ∙ settling_by i j e b m.within ∙ rw f refl)

  pub settling_on : (i j : ℕ) → i ≡ suc j → begin < i → Settling ws begin count i → settled_on ws j (count - suc j) ≡ true → Settling ws begin count j
  settling_on i j e b m t = record { within = omega (arith, e, m.within); rest = m.rest ∙ settling_by i j e b m.within ∙ rw t refl }

  pub settling_end : (i : ℕ) → i ≤ begin → Settling ws begin count i → true ≡ consistent_on ws begin 0 (count - begin)
  settling_end i l m = sym (m.rest ∙ consistent-none ws begin (count - i) i l)

-- ---- what `get` finds

module _ (ws : List ℕ) (begin q : ℕ) where
  pub lookup-none : (k : ℕ) → k ≤ begin → lookup_on ws begin q (k - begin) ≡ None
  unfolding lookup_on
  lookup-none k l = let e : k - begin ≡ 0 = omega arith in rw e refl

  pub lookup-some : (k : ℕ) → begin ≤ k → lookup_on ws begin q (suc k - begin) ≡ lookup_at ws q k (lookup_on ws begin q (k - begin))
  unfolding lookup_on
  lookup-some k l =
      let e : suc k - begin ≡ suc (k - begin) = omega arith in
      let f : begin + (k - begin) ≡ k = omega arith in
      rw e (ap (λ (i : ℕ). lookup_at ws q i (lookup_on ws begin q (k - begin))) f)

pub record Looking (ws : List ℕ) (begin q count i : ℕ) : Type 0 where
  pub within : i ≤ count
  pub rest : lookup_on ws begin q (count - begin) ≡ lookup_on ws begin q (i - begin)

module _ (ws : List ℕ) (begin q count : ℕ) where
  abbrev through_on : ℕ → ℕ
  through_on j = get_or ws (write_at j + 1) 0

  abbrev value_on : ℕ → Found
  value_on j = Some (get_or ws (write_at j + 2) 0, get_or ws (write_at j + 3) 0)

  looking-by : (i j : ℕ) → i ≡ suc j → begin < i → lookup_on ws begin q (i - begin)
      ≡ pick (apart_at (through_on j) q) (lookup_on ws begin q (j - begin)) (pick (eqb (symbol_at (through_on j)) (symbol_at q)) (value_on j) None)
  looking-by i j e b = rw e (lookup-some ws begin q j (omega arith))

  pub looking-start : Looking ws begin q count count
  looking-start = record { within = omega arith; rest = refl }

  pub looking-found : (i j : ℕ) → i ≡ suc j → begin < i → Looking ws begin q count i → apart_at (through_on j) q ≡ false → symbol_at (through_on j) ≡ symbol_at q
      → value_on j ≡ lookup_on ws begin q (count - begin)
  looking-found i j e b m f t = sym (m.rest ∙ looking-by i j e b ∙ rw (f, eq-eqb (symbol_at (through_on j)) (symbol_at q) t) refl)

  pub looking-none : (i j : ℕ) → i ≡ suc j → begin < i → Looking ws begin q count i → apart_at (through_on j) q ≡ false → (symbol_at (through_on j) ≡ symbol_at q → ⊥)
      → None ≡ lookup_on ws begin q (count - begin)
  looking-none i j e b m f t = sym (m.rest ∙ looking-by i j e b ∙ rw (f, ne_eqb (symbol_at (through_on j)) (symbol_at q) t) refl)

  pub looking_on : (i j : ℕ) → i ≡ suc j → begin < i → Looking ws begin q count i → apart_at (through_on j) q ≡ true → Looking ws begin q count j
  looking_on i j e b m t = record { within = omega (arith, e, m.within); rest = m.rest ∙ looking-by i j e b ∙ rw t refl }

  pub looking_end : (i : ℕ) → i ≤ begin → Looking ws begin q count i → None ≡ lookup_on ws begin q (count - begin)
  looking_end i l m = sym (m.rest ∙ lookup-none ws begin q i l)

-- ---- tests of a write

pub right-typed : (ws : List ℕ) (i : ℕ) → 2 ≤ get_or ws (write_at i) 0 → eqb (get_or ws (write_at i) 0 - 2) (get_or ws (write_at i + 2) 0) ≡ right_on ws i
right-typed ws i l = rw (le-leb 2 (get_or ws (write_at i) 0) l) refl

pub right_untyped : (ws : List ℕ) (i : ℕ) → get_or ws (write_at i) 0 < 2 → leb 2 (get_or ws (write_at i) 0) ≡ right_on ws i
right_untyped ws i l = rw (lt-leb 2 (get_or ws (write_at i) 0) l) refl
