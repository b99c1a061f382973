-- The fields that the writer stores, as the code makes them: a number by its tens and its last digit, a type by its first letter. Assumes nothing.
use Rattle.std.specs.Prelude.{[], ◌∷◌, ◌++◌, ◌≡◌, refl, ℕ, zero, suc, ◌+◌, ◌-◌, ◌/◌, ◌%◌, ◌≤◌, ◌<◌}
use Rattle.std.proofs.Common.{arith}
use Rattle.script.specs.Limits.{word_limit}
use Rattle.text.specs.Bytes.{digit0, letter_r}
use Rattle.text.specs.SameTable.Numbers.{below-tens, digits_one, digits_more, same_digits}
use Rattle.text.specs.Writing.{digits, type_text}

-- ---- numbers

-- a number below ten, and one from ten on: its tens, then its last digit
pub digits_last : (n : ℕ) → n < 10 → digits n ≡ (digit0 + n) ∷ []
digits_last n h = digits_one 9 n h

pub digits-tens : (n : ℕ) → 10 ≤ n → n ≤ word_limit → digits n ≡ digits (n / 10) ++ ((digit0 + n % 10) ∷ [])
digits-tens n h w = rw (digits_more 9 n h, same_digits 9 10 (n / 10) (below-tens 8 (n / 10) (omega arith)) (below-tens 9 (n / 10) (omega arith))) refl

-- ---- types

pub type-more : (t : ℕ) → 1 < t → type_text t ≡ letter_r ∷ type_text (t - 2)
unfolding type_text
type-more zero h = absurd (omega arith)
type-more (suc zero) h = absurd (omega arith)
type-more (suc (suc t)) h = let e : suc (suc t) - 2 ≡ t = omega arith in rw e refl
