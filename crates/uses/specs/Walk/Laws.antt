-- What the state of the walk says of the uses so far, use by use and node by node. Assumes nothing.
use Rattle.std.specs.Prelude.{Bool, ◌≡◌, ℕ, ◌+◌, ◌-◌, ◌≤◌, ◌<◌, ltb, eqb}
use Rattle.script.specs.Limits.{node_limit}
use Rattle.script.specs.Tests.{pick}
use Rattle.script.specs.Tests.Bits.{bit}
use Rattle.uses.specs.Walk.{half}
use Rattle.uses.specs.declared.Uses.{Uses}

-- ---- the bit of a node

abbrev pub unused_at : Uses → ℕ → Bool
unused_at u i = pick (ltb i half) (bit u.low i) (bit u.high (i - half))

-- ---- one use more

-- so many uses of each node, and one more of node o
abbrev pub one_more : (ℕ → ℕ) → ℕ → ℕ → ℕ
one_more times o i = pick (eqb o i) 1 0 + times i

-- the nodes are used so many times
pub record Says (times : ℕ → ℕ) (u : Uses) : Type 0 where
  pub most : u.again ≤ node_limit
  pub unused : (i : ℕ) → i < node_limit → unused_at u i ≡ eqb (times i) 0
  pub once : (i : ℕ) → i < u.again → times i ≤ 1
  pub again : u.again < node_limit → 1 < times u.again
