-- The cells beside the write log of a path. Each cell's content has its type, or a symbol that denotes the cell has a wrong write that no right one
-- followed; a consistent log leaves none of these, so the typing then fits the cells. Each step of a path keeps this. Assumes nothing.
use Rattle.std.specs.Prelude.{◌≡◌, Bool, true, false, not, List, [], ◌∷◌, ◌⊎◌, ℕ, ◌<◌, eqb, length}
use Rattle.std.proofs.Math.Option.{some}
use Rattle.script.specs.Tests.{pick}
use Rattle.script.specs.declared.Value.{Value}
use Rattle.script.specs.declared.Value.TheVariants.{Location}
use Rattle.rules.specs.Demand3.Meaning.{Entry, entry}
use Rattle.rules.specs.Demand3.Stands.{StandsFor, Distinct}
use Rattle.rules.specs.Paths.{Write, write_of, is_right, lookup}
use Rattle.rules.specs.Symbolic.{Origin, made, Symbolic, type_of}
use Rattle.rules.specs.Typings.{At, HasType}

-- the newest write through the symbol is wrong
unfoldable pub pending : List Write → ℕ → Bool
pending [] s = false
pending (w ∷ ws) s = pick (eqb w.through s) (not (is_right w)) (pending ws s)

-- all writes are through symbols below n
pub data WrittenBelow (n : ℕ) : List Write → Type 0 where
  no_writes : WrittenBelow n []
  and-write : {w : Write} {ws : List Write} → w.through < n → WrittenBelow n ws → WrittenBelow n (w ∷ ws)

-- some symbol that denotes the cell has a pending wrong write
pub record Pending (ρ : List Entry) (log : List Write) (l : ℕ) : Type 0 where
  pub origin : Origin
  pub through : ℕ
  pub denotes : At ρ through (entry origin (Location l))
  pub is-pending : pending log through ≡ true

-- what the cell holds is what the symbolic value stands for
pub record Holds (typing : List ℕ) (ρ : List Entry) (cells : List Value) (l : ℕ) (v : Symbolic) : Type 0 where
  pub content : Value
  pub placed : At cells l content
  pub stands : StandsFor typing ρ v content

pub record Memory (typing : List ℕ) (ρ : List Entry) (cells : List Value) (log : List Write) : Type 0 where
  pub as_many : length typing ≡ length cells
  pub contents : (l t : ℕ) (x : Value) → At cells l x → At typing l t → HasType typing x t ⊎ Pending ρ log l
  pub recent : (o : Origin) (s l : ℕ) (v : Symbolic) → At ρ s (entry o (Location l)) → lookup o s log ≡ some v → Holds typing ρ cells l v
  pub written : WrittenBelow (length ρ) log
  pub apart-cells : Distinct ρ
  pub live : (o : Origin) (s l : ℕ) → At ρ s (entry o (Location l)) → l < length cells

abbrev pub ref_write : List Entry → Symbolic → Write
ref_write ρ v = write_of made (type_of v) (length ρ) v
