-- Single bits of a word, and what the word operations do to each. Assumes nothing.
use Rattle.std.specs.Prelude.{Bool, true, false, not, ◌&&◌, ◌≡◌, refl, ℕ, zero, suc, ◌+◌, ◌-◌, ◌*◌, ◌/◌, ◌%◌, ◌^◌, ◌≤◌, ◌<◌, eqb}
use Rattle.std.specs.Bool.{beq}
use Rattle.std.proofs.Common.{sym, ap, ◌∙◌, pow-suc, suc-add, zero-add, arith}
use Rattle.std.proofs.lemmas.Bool.{eqb-false}
use Rattle.std.proofs.Math.Decide.{ℕ_discrete}
use Rattle.std.specs.Int.Bits.{bit_and, bit_or, bit_xor, or_add_and, block_half, block_odd}
use Rattle.std.proofs.lemmas.Nat.{and_shr, and_mod, and_le_l, and_le_r, or_comm, or_mod, xor_shr, xor_mod}
use Rattle.script.specs.Tests.Laws.{both_true}

unfoldable pub bit : ℕ → ℕ → Bool
bit a zero = eqb (a % 2) 1
bit a (suc k) = bit (a / 2) k

-- ---- the operations

and-digit : (x y : ℕ) → x < 2 → y < 2 → eqb (bit_and x y) 1 ≡ (eqb x 1 && eqb y 1)
and-digit zero zero p q = refl
and-digit zero (suc y) p q = refl
and-digit (suc zero) zero p q = refl
and-digit (suc zero) (suc zero) p q = refl
and-digit (suc zero) (suc (suc y)) p q = absurd (omega arith)
and-digit (suc (suc x)) zero p q = absurd (omega arith)
and-digit (suc (suc x)) (suc y) p q = absurd (omega arith)

xor_digit : (x y : ℕ) → x < 2 → y < 2 → eqb (bit_xor x y) 1 ≡ not (beq (eqb x 1) (eqb y 1))
xor_digit zero zero p q = refl
xor_digit zero (suc zero) p q = refl
xor_digit zero (suc (suc y)) p q = absurd (omega arith)
xor_digit (suc zero) zero p q = refl
xor_digit (suc zero) (suc zero) p q = refl
xor_digit (suc zero) (suc (suc y)) p q = absurd (omega arith)
xor_digit (suc (suc x)) zero p q = absurd (omega arith)
xor_digit (suc (suc x)) (suc y) p q = absurd (omega arith)

pub bit-and : (a b k : ℕ) → bit (bit_and a b) k ≡ (bit a k && bit b k)
unfolding bit
bit-and a b zero = ap (λ (x : ℕ). eqb x 1) (and_mod a b 1) ∙ and-digit (a % 2) (b % 2) (omega arith) (omega arith)
bit-and a b (suc k) = ap (λ (x : ℕ). bit x k) (and_shr a b 1) ∙ bit-and (a / 2) (b / 2) k

pub bit_xor_lem : (a b k : ℕ) → bit (bit_xor a b) k ≡ not (beq (bit a k) (bit b k))
unfolding bit
bit_xor_lem a b zero = ap (λ (x : ℕ). eqb x 1) (xor_mod a b 1) ∙ xor_digit (a % 2) (b % 2) (omega arith) (omega arith)
bit_xor_lem a b (suc k) = ap (λ (x : ℕ). bit x k) (xor_shr a b 1) ∙ bit_xor_lem (a / 2) (b / 2) k

not_digit : (x y : ℕ) → x + y ≡ 1 → eqb x 1 ≡ not (eqb y 1)
not_digit zero zero h = absurd (omega arith)
not_digit zero (suc zero) h = refl
not_digit zero (suc (suc y)) h = absurd (omega arith)
not_digit (suc zero) zero h = refl
not_digit (suc zero) (suc y) h = absurd (omega arith)
not_digit (suc (suc x)) zero h = absurd (omega arith)
not_digit (suc (suc x)) (suc y) h = absurd (omega arith)

not-half : (p a : ℕ) → a < p * 2 → (p * 2 - 1 - a) / 2 ≡ p - 1 - a / 2
not-half p a h = omega arith

not_odd : (p a : ℕ) → a < p * 2 → (p * 2 - 1 - a) % 2 + a % 2 ≡ 1
not_odd p a h = omega arith

half_less : (p a : ℕ) → a < p * 2 → a / 2 < p
half_less p a h = omega arith

pub bit_not : (n a k : ℕ) → k < n → a < 2 ^ n → bit (2 ^ n - 1 - a) k ≡ not (bit a k)
unfolding bit
bit_not zero a k h s = absurd (omega arith)
bit_not (suc n) a zero h s =
    let t : a < 2 ^ n * 2 = rw (pow-suc 2 n) at s in
    rw (pow-suc 2 n) (not_digit ((2 ^ n * 2 - 1 - a) % 2) (a % 2) (not_odd (2 ^ n) a t))
bit_not (suc n) a (suc k) h s =
    let t : a < 2 ^ n * 2 = rw (pow-suc 2 n) at s in
    rw (pow-suc 2 n, not-half (2 ^ n) a t) (bit_not n (a / 2) k (omega arith) (half_less (2 ^ n) a t))

-- ---- `or` keeps what each word has

pub or_first-most : (a b : ℕ) → a ≤ bit_or a b
or_first-most a b = let s = or_add_and a b in let l = and_le_r a b in omega arith

pub or_second-most : (a b : ℕ) → b ≤ bit_or a b
or_second-most a b = let s = or_add_and a b in let l = and_le_l a b in omega arith

odd_digit : (x : ℕ) → x < 2 → bit_or 1 x ≡ 1
odd_digit zero h = refl
odd_digit (suc zero) h = refl
odd_digit (suc (suc x)) h = absurd (omega arith)

pub or_first_odd : (a b : ℕ) → a % 2 ≡ 1 → bit_or a b % 2 ≡ 1
or_first_odd a b e = or_mod a b 1 ∙ ap (λ (x : ℕ). bit_or x (b % 2)) e ∙ odd_digit (b % 2) (omega arith)

pub or_second_odd : (a b : ℕ) → b % 2 ≡ 1 → bit_or a b % 2 ≡ 1
or_second_odd a b e = ap (λ (x : ℕ). x % 2) (or_comm a b) ∙ or_first_odd b a e

-- ---- words with no bit, and with one

pub bit-zero : (k : ℕ) → bit 0 k ≡ false
unfolding bit
bit-zero zero = refl
bit-zero (suc k) = bit-zero k

pub record BitOf (n a : ℕ) : Type 0 where
  pub at : ℕ
  pub below : at < n
  pub is : bit a at ≡ true

pub some-bit : (n a : ℕ) → a < 2 ^ n → (a ≡ 0 → ⊥) → BitOf n a
unfolding bit
some-bit zero a s h = absurd (h (omega arith))
some-bit (suc n) a s h = go (eqb (a % 2) 1) refl (some-bit n (a / 2) (half_less (2 ^ n) a (rw (pow-suc 2 n) at s)))
  where
    go : (t : Bool) → eqb (a % 2) 1 ≡ t → ((a / 2 ≡ 0 → ⊥) → BitOf n (a / 2)) → BitOf (suc n) a
    go true e r = record { at = 0; below = omega arith; is = e }
    go false e r = let f = eqb-false (a % 2) 1 e in let b = r (λ z. h (none z f)) in let l = b.below in record { at = suc b.at; below = omega arith; is = b.is }
      where
        none : a / 2 ≡ 0 → (a % 2 ≡ 1 → ⊥) → a ≡ 0
        none z f = omega arith

-- ---- a number of two parts

pub bit-low : (n b p k : ℕ) → k < n → bit (b * 2 ^ n + p) k ≡ bit p k
unfolding bit
bit-low zero b p k h = absurd (omega arith)
bit-low (suc n) b p zero h = ap (λ (x : ℕ). eqb x 1) (block_odd b n p)
bit-low (suc n) b p (suc k) h = ap (λ (x : ℕ). bit x k) (block_half b n p) ∙ bit-low n b (p / 2) k (omega arith)

pub bit_high : (n b p k : ℕ) → p < 2 ^ n → bit (b * 2 ^ n + p) (n + k) ≡ bit b k
unfolding bit
bit_high zero b p k s = let e : b * 1 + p ≡ b = omega arith in rw (e, zero-add k)
bit_high (suc n) b p k s =
    rw (suc-add n k) (ap (λ (x : ℕ). bit x (n + k)) (block_half b n p) ∙ bit_high n b (p / 2) k (half_less (2 ^ n) p (rw (pow-suc 2 n) at s)))

-- ---- a test of all numbers below one

unfoldable pub all_below : (ℕ → Bool) → ℕ → Bool
all_below f zero = true
all_below f (suc k) = f k && all_below f k

pub all-below : (f : ℕ → Bool) (n k : ℕ) → all_below f n ≡ true → k < n → f k ≡ true
unfolding all_below
all-below f zero k e h = absurd (omega arith)
all-below f (suc n) k e h = let b = both_true (f n) (all_below f n) e in go (ℕ_discrete n k) b.0 (all-below f n k b.1)
  where
    go : Dec (n ≡ k) → f n ≡ true → (k < n → f k ≡ true) → f k ≡ true
    go (yes q) t r = rw q at t
    go (no q) t r = r (omega arith)

pub beq_same : (a b : Bool) → beq a b ≡ true → a ≡ b
beq_same true true e = refl
beq_same true false e = sym e
beq_same false true e = e
beq_same false false e = refl
