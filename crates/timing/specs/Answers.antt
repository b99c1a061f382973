-- The answers of reader, writer and test 5 as one number each, for a program that times them: how many nodes or bytes, or which node; 0 for a refusal or
-- for none. Assumes nothing.
use Rattle.std.specs.Prelude.{not, ◌&&◌, List, ◌≡◌, ℕ, ◌+◌, pred, leb, eqb, length, take, Err, Ok}
use Rattle.std.proofs.Math.Option.{Option, none, some}
use Rattle.script.specs.Limits.{node_limit}
use Rattle.script.specs.Table.{uses}
use Rattle.script.specs.Tests.{pick, lowest}
use Rattle.script.specs.declared.Node.{Node}
use Rattle.text.specs.Reading.{Left, leaves}
use Rattle.text.specs.Writing.{Outcome, outcome}
use Rattle.script.specs.Answers.Named.{Reading}
use Rattle.script.specs.Answers.Named.{Writing}
pub mod Laws

abbrev pub nodes_read : Reading → ℕ
nodes_read (Ok s) = s.nodes
nodes_read (Err r) = 0

abbrev pub bytes_written : Writing → ℕ
bytes_written (Ok n) = n
bytes_written (Err r) = 0

-- what a call of the reader gives, `n` as its number, and leaves in the lent table and the lent entries
pub record ReadTo (left : Left) (n : ℕ) (table' entries' : List ℕ) : Type 0 where
  pub answer : Reading
  pub leaves_it : leaves answer table' entries' ≡ left
  pub number_is : n ≡ nodes_read answer

-- what a call of the writer gives, `n` as its number, and leaves in the lent bytes
pub record WroteTo (written : Outcome) (n : ℕ) (out' : List ℕ) : Type 0 where
  pub answer : Writing
  pub leaves_it : outcome answer out' ≡ written
  pub number_is : n ≡ bytes_written answer

abbrev pub node_named : Option ℕ → ℕ
node_named none = 0
node_named (some i) = i + 1

-- the node that test 5 names among the first n, which are lent and within the limit
unfoldable pub wrong_use : List Node → ℕ → ℕ
wrong_use ns n = pick (leb n node_limit && leb n (length ns)) (node_named (lowest (λ i. not (eqb (uses (take n ns) i) 1)) (pred (length (take n ns))))) 0
