-- Numbers that are equal modulo another one, over any modulus. Assumes nothing.
use Rattle.std.specs.Prelude.{◌≡◌, ℕ, ◌%◌}

pub record Same (m a b : ℕ) : Type 0 where
  pub same : a % m ≡ b % m
