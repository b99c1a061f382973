-- A word of which each bit stands for a node: the bit that code reads, the word with one bit less, and the first of its bits. Assumes nothing.
use Rattle.std.specs.Prelude.{Bool, true, false, not, ◌≡◌, refl, ℕ, zero, suc, ◌-◌, ◌*◌, ◌/◌, ◌%◌, ◌^◌, ◌≤◌, ◌<◌, eqb}
use Rattle.std.proofs.Common.{sym, ap, ◌∙◌, pow-suc, div-one, one-mul, one-add, arith, pow_pos, shl_exact, shr-shr, eqb-true, eq-eqb, ne_eqb}
use Rattle.std.specs.Int.Count.{count_trailing_zeros, under}
use Rattle.script.specs.Tests.Bits.{bit, bit_not, bit-zero}
use Rattle.uses.specs.Walk.{half}

-- ---- one bit

-- as code reads it
pub bit_shr : (a k : ℕ) → eqb (a / 2 ^ k % 2) 1 ≡ bit a k
unfolding bit
bit_shr a zero = rw (div-one a) refl
bit_shr a (suc k) = ap (λ (x : ℕ). eqb (x % 2) 1) (sym (shr-shr a 1 k ∙ ap (λ (j : ℕ). a / 2 ^ j) (one-add k))) ∙ bit_shr (a / 2) k

pub bit-least : (a k : ℕ) → bit a k ≡ true → 2 ^ k ≤ a
unfolding bit
bit-least a zero e = let f = eqb-true (a % 2) 1 e in omega arith
bit-least a (suc k) e = let h = bit-least (a / 2) k e in rw (pow-suc 2 k) (omega arith)

-- 1 at bit k, shifted there
pub one_shl : (k : ℕ) → k < half → (1 * 2 ^ k) % 2 ^ half ≡ 2 ^ k
one_shl k h = shl_exact {a = 1} 1 k half (omega arith) (omega arith) ∙ one-mul (2 ^ k)

half_less : (a p : ℕ) → p ≤ a / 2 → (a - p * 2) / 2 ≡ a / 2 - p
half_less a p h = omega arith

odd_less : (a p : ℕ) → p ≤ a / 2 → (a - p * 2) % 2 ≡ a % 2
odd_less a p h = omega arith

-- the word with a 0 at bit k: there, and elsewhere
pub bit_gone : (a k : ℕ) → bit a k ≡ true → bit (a - 2 ^ k) k ≡ false
unfolding bit
bit_gone a zero e = let f = eqb-true (a % 2) 1 e in ne_eqb ((a - 1) % 2) 1 (λ q. omega arith)
bit_gone a (suc k) e = rw (pow-suc 2 k, half_less a (2 ^ k) (bit-least (a / 2) k e)) (bit_gone (a / 2) k e)

pub bit_kept : (a k j : ℕ) → bit a k ≡ true → (k ≡ j → ⊥) → bit (a - 2 ^ k) j ≡ bit a j
unfolding bit
bit_kept a zero zero e d = absurd (d refl)
bit_kept a zero (suc j) e d = let f = eqb-true (a % 2) 1 e in let q : (a - 1) / 2 ≡ a / 2 = omega arith in rw q refl
bit_kept a (suc k) zero e d = rw (pow-suc 2 k, odd_less a (2 ^ k) (bit-least (a / 2) k e)) refl
bit_kept a (suc k) (suc j) e d = rw (pow-suc 2 k, half_less a (2 ^ k) (bit-least (a / 2) k e)) (bit_kept (a / 2) k j e (λ q. d (ap suc q)))

pub bit-ones : (n k : ℕ) → k < n → bit (2 ^ n - 1) k ≡ true
bit-ones n k h = let q : 2 ^ n - 1 - 0 ≡ 2 ^ n - 1 = omega arith in rw (← q) (bit_not n 0 k h (pow_pos n) ∙ ap not (bit-zero k))

-- ---- the first bit

-- t is the lowest of n numbers that passes the test, or n where none does
pub record First (p : ℕ → Bool) (n t : ℕ) : Type 0 where
  pub within : t ≤ n
  pub before : (j : ℕ) → j < t → p j ≡ false
  pub at : t < n → p t ≡ true

pub first_bit : (n a : ℕ) → First (bit a) n (count_trailing_zeros n a)
unfolding bit count_trailing_zeros
first_bit zero a = record { within = omega arith; before = λ j h. absurd (omega arith); at = λ h. absurd (omega arith) }
first_bit (suc n) a = go (a % 2) refl (first_bit n (a / 2))
  where
    later : First (bit (a / 2)) n (count_trailing_zeros n (a / 2)) → a % 2 ≡ 0 → (j : ℕ) → j < suc (count_trailing_zeros n (a / 2)) → bit a j ≡ false
    later f e zero h = rw e refl
    later f e (suc j) h = f.before j (omega arith)

    go : (d : ℕ) → a % 2 ≡ d → First (bit (a / 2)) n (count_trailing_zeros n (a / 2)) → First (bit a) (suc n) (under d (count_trailing_zeros n (a / 2)))
    go zero e f = let w = f.within in record { within = omega arith; before = later f e; at = λ h. f.at (omega arith) }
    go (suc d) e f = record { within = omega arith; before = λ j h. absurd (omega arith); at = λ h. eq-eqb (a % 2) 1 (omega arith) }
