-- A loop that looks for the lowest number that passes a test, one number a turn; and two tests that agree. Assumes nothing.
use Rattle.std.specs.Prelude.{Bool, true, false, ◌≡◌}
use Rattle.std.proofs.Math.Option.{none, some}
use Rattle.std.proofs.Math.Path.{refl}
use Rattle.std.proofs.Common.{sym, ◌∙◌, add-one, arith}
use Prim.Native.Nat.{ℕ, zero, suc, ◌+◌, ◌-◌, ◌≤◌, ◌<◌}
use Rattle.script.specs.Tests.{lowest_from, lowest}
use Rattle.script.specs.Tests.Laws.{lowest_from-zero, lowest_from-here, lowest_from-next}

-- the numbers below i do not pass, so that the lowest below n is the lowest from i on
pub record Looked (p : ℕ → Bool) (n i : ℕ) : Type 0 where
  pub within : i ≤ n
  pub rest : lowest_from p i (n - i) ≡ lowest p n

module _ (p : ℕ → Bool) (n : ℕ) where
  -- by the count of the numbers from i on
  looked_by : (i k : ℕ) → i + k ≡ n → lowest_from p i k ≡ lowest p n → Looked p n i
  looked_by i k e f = let q : n - i ≡ k = omega arith in record { within = omega arith; rest = rw q f }

  looked_count : (i : ℕ) → i < n → n - i ≡ suc (n - suc i)
  looked_count i h = omega arith

  pub look : Looked p n 0
  look = looked_by 0 n (omega arith) refl

  pub look_on : (i : ℕ) → Looked p n i → i < n → p i ≡ false → Looked p n (i + 1)
  look_on i l h f =
      let e : lowest_from p (suc i) (n - suc i) ≡ lowest p n = sym (lowest_from-next p i (n - suc i) f) ∙ rw (looked_count i h) at l.rest in
      rw (add-one i) (looked_by (suc i) (n - suc i) (omega arith) e)

  pub look-found : (i : ℕ) → Looked p n i → i < n → p i ≡ true → lowest p n ≡ some i
  look-found i l h t = sym (rw (looked_count i h) at l.rest) ∙ lowest_from-here p i (n - suc i) t

  pub look_none : (i : ℕ) → Looked p n i → n ≤ i → lowest p n ≡ none
  look_none i l h = let q : n - i ≡ 0 = omega arith in sym (rw q at l.rest) ∙ lowest_from-zero p i

module _ (p q : ℕ → Bool) where
  lowest_from-same : (i k : ℕ) → ((j : ℕ) → i ≤ j → j < i + k → p j ≡ q j) → lowest_from p i k ≡ lowest_from q i k
  unfolding lowest_from
  lowest_from-same i zero h = refl
  lowest_from-same i (suc k) h = rw (h i (omega arith) (omega arith), lowest_from-same (suc i) k (λ j a b. h j (omega arith) (omega arith))) refl

  -- tests that agree below n have the same lowest number
  pub lowest-same : (n : ℕ) → ((j : ℕ) → j < n → p j ≡ q j) → lowest p n ≡ lowest q n
  lowest-same n h = lowest_from-same 0 n (λ j a b. h j (omega arith))
