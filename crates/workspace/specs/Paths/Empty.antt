-- A new workspace holds nothing. Assumes nothing.
use Rattle.std.specs.Prelude.{ℕ, replicate}
use Rattle.std.proofs.Common.{arith}
use Rattle.std.proofs.lemmas.List.{length-replicate}
use Rattle.script.specs.Rows.Laws.{same_anywhere}
use Rattle.workspace.specs.Paths.{Blank}
use Rattle.workspace.specs.Places.{space_size}

pub blank : Blank (replicate {A = ℕ} space_size 0)
blank = record { lent = let e = length-replicate {A = ℕ} space_size 0 in omega arith; zeros = λ k. same_anywhere space_size 0 k }
