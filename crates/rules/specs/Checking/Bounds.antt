-- The checker's answer is a type's code, 0 to 31, or a refusal at a node of the script: every rule gives types that are, and names its own node.
-- Assumes nothing.
use Prim.Native.Nat.{ℕ, ◌≤◌}
use Rattle.script.specs.Answers.{place_of}
use Rattle.script.specs.Answers.Bounds.{PlaceBelow}
use Rattle.script.specs.Limits.{type_limit}
use Rattle.script.specs.declared.Refusal.{Refusal}
use Rattle.std.specs.Prelude.{Err, Ok}
use Rattle.script.specs.Answers.Named.{Checked}

-- ---- what is shown

-- a type's code, or a refusal at a place below m
pub data Bounded (m : ℕ) : Checked → Type 0 where
  code : {t : ℕ} → t ≤ type_limit → Bounded m (Ok t)
  refusal : {r : Refusal} → PlaceBelow m (place_of r) → Bounded m (Err r)

pub record Code (t : ℕ) : Type 0 where
  pub most : t ≤ type_limit
