-- What a loop over numbers answers that looks for one that passes a test, and the laws by which it does. Assumes nothing.
use Rattle.std.specs.Prelude.{Bool, ◌≡◌, ◌⊎◌, ℕ, ◌≤◌, ◌<◌, ltb, Some, None}
use Rattle.std.specs.Prelude.{Option as CodeOption}
use Rattle.std.proofs.Math.Bool.{true, false}
use Rattle.std.proofs.lemmas.Bool.{false≢true}
use Rattle.std.proofs.Math.Option.{Option, none, some}
use Rattle.std.proofs.Math.Path.{sym, ap, refl}
use Rattle.std.proofs.Math.Logic.{inl, inr}
use native.Mathlib.Omega.{arith}
use borrow.Author.Tests.{lt-ltb, le-ltb}
use Rattle.std.proofs.lemmas.Bool.Decides.{nat_tests}
use Rattle.script.specs.Tests.{pick, lowest}
use Rattle.script.specs.Tests.Laws.{lowest-none, none-lowest, lowest-some}
use Rattle.script.specs.Tests.Loops.{Looked, look-found, look_none}

abbrev pub is_none : Option ℕ → Bool
is_none none = true
is_none (some i) = false

-- no number below n passes the test
unfoldable pub nowhere : (ℕ → Bool) → ℕ → Bool
nowhere p n = is_none (lowest p n)

abbrev pub or_else : Option ℕ → ℕ → ℕ
or_else none n = n
or_else (some i) n = i

-- the lowest number below n that passes the test, or else n
unfoldable pub first_or : (ℕ → Bool) → ℕ → ℕ
first_or p n = or_else (lowest p n) n

-- a number if it is below n, as code answers what it found
unfoldable pub if_below : ℕ → ℕ → CodeOption ℕ
if_below i n = pick (ltb i n) (Some i) None

module _ (i n : ℕ) where
  pub below : i < n → Some i ≡ if_below i n
  unfolding if_below
  below h = rw (lt-ltb i n h) refl

  pub not_below : n ≤ i → None ≡ if_below i n
  unfolding if_below
  not_below h = rw (le-ltb i n h) refl

  pub below-some : (k : ℕ) → if_below i n ≡ Some k → (k ≡ i) × (i < n)
  unfolding if_below
  below-some k e = grind (arith, nat_tests)

  pub below-none : if_below i n ≡ None → n ≤ i
  unfolding if_below
  below-none e = grind (arith, nat_tests)

module _ (p : ℕ → Bool) (n : ℕ) where
  -- ---- in a loop

  pub nowhere-here : (i : ℕ) → Looked p n i → i < n → p i ≡ true → false ≡ nowhere p n
  unfolding nowhere
  nowhere-here i l h t = sym (ap is_none (look-found p n i l h t))

  pub nowhere_end : (i : ℕ) → Looked p n i → n ≤ i → true ≡ nowhere p n
  unfolding nowhere
  nowhere_end i l h = sym (ap is_none (look_none p n i l h))

  pub first-here : (i : ℕ) → Looked p n i → i < n → p i ≡ true → i ≡ first_or p n
  unfolding first_or
  first-here i l h t = sym (ap (λ (o : Option ℕ). or_else o n) (look-found p n i l h t))

  pub first_end : (i : ℕ) → Looked p n i → n ≤ i → n ≡ first_or p n
  unfolding first_or
  first_end i l h = sym (ap (λ (o : Option ℕ). or_else o n) (look_none p n i l h))

  -- ---- what the answers tell

  pub first-most : first_or p n ≤ n
  unfolding first_or
  first-most = go (lowest p n) refl
    where
      go : (o : Option ℕ) → lowest p n ≡ o → or_else o n ≤ n
      go none e = omega arith
      go (some i) e = let h = lowest-some p n i e in omega arith

  -- it is the lowest that passes, or there is none
  pub first-cases : ((first_or p n < n) × (p (first_or p n) ≡ true)) ⊎ ((first_or p n ≡ n) × ((i : ℕ) → i < n → p i ≡ false))
  unfolding first_or
  first-cases = go (lowest p n) refl
    where
      go : (o : Option ℕ) → lowest p n ≡ o → ((or_else o n < n) × (p (or_else o n) ≡ true)) ⊎ ((or_else o n ≡ n) × ((i : ℕ) → i < n → p i ≡ false))
      go none e = inr (refl, lowest-none p n e)
      go (some i) e = let h = lowest-some p n i e in inl (h.below, h.holds)

  pub nowhere-each : nowhere p n ≡ true → (i : ℕ) → i < n → p i ≡ false
  unfolding nowhere
  nowhere-each t = go (lowest p n) refl t
    where
      go : (o : Option ℕ) → lowest p n ≡ o → is_none o ≡ true → (i : ℕ) → i < n → p i ≡ false
      go none e h = lowest-none p n e
      go (some i) e h = absurd (false≢true h)

  pub each-nowhere : ((i : ℕ) → i < n → p i ≡ false) → nowhere p n ≡ true
  unfolding nowhere
  each-nowhere h = ap is_none (none-lowest p n h)
