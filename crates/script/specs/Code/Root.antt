-- The last node of a table that passes its tests, for code that begins there: its tree is the table's, with as many nodes as the table has.
-- Assumes nothing.
use Rattle.std.specs.Prelude.{List, ◌≡◌, length, take}
use Rattle.std.proofs.Math.Option.{none}
use Rattle.std.proofs.Math.Path.{sym, ap}
use Rattle.std.proofs.Common.{subst, ◌∙◌, arith, length-take-le}
use Prim.Native.Nat.{ℕ, suc, ◌≤◌, pred}
use Rattle.script.specs.Code.Forms.{tree_in}
use Rattle.script.specs.Flat.{FormedNodes, nodes_in, table_in}
use Rattle.script.specs.Flat.Laws.{length-nodes_in, nodes_in-holds}
use Rattle.script.specs.Table.{table_test}
use Rattle.script.specs.Table.Laws.{Sound, passes}
use Rattle.script.specs.Tree.{size, tree_at, trees, root}
use Rattle.script.specs.Tree.Laws.{trees-take}
use Rattle.script.specs.Tree.Size.{size-root}

-- a table of some nodes, well formed and each but the last used once
pub record Rooted (table : List ℕ) (nodes : ℕ) : Type 0 where
  pub least : 1 ≤ nodes
  pub formed : FormedNodes table nodes
  pub sound : Sound (take nodes (nodes_in table))

pub rooted : (table : List ℕ) (nodes : ℕ) (es : List ℕ) (entries : ℕ) → table_test (table_in table nodes es entries) ≡ none → Rooted table nodes
rooted table nodes es entries p =
    let s = passes (table_in table nodes es entries) p in
    record {
      least = s.nodes_least;
      formed = record {
        most = s.nodes_most;
        room = omega (arith, s.nodes_most, s.lent_nodes, length-nodes_in table);
        formed = λ i h. s.sound.formed i (omega (arith, h, s.nodes_length));
      };
      sound = s.sound;
    }

module _ {table : List ℕ} {nodes : ℕ} (q : Rooted table nodes) (m : ℕ) (last : suc m ≡ nodes) where
  pub root-formed : FormedNodes table (suc m)
  root-formed = subst (λ (n : ℕ). FormedNodes table n) (sym last) q.formed

  nodes-length : length (take nodes (nodes_in table)) ≡ nodes
  nodes-length = length-take-le nodes (nodes_in table) (nodes_in-holds table nodes q.formed.room)

  pub root-tree : tree_in table m ≡ root (take nodes (nodes_in table))
  unfolding tree_in root
  root-tree =
      let p : pred (length (take nodes (nodes_in table))) ≡ m = ap pred (nodes-length ∙ sym last) in
      sym (trees-take (nodes_in table) nodes m (nodes_in-holds table nodes q.formed.room) (omega arith))
      ∙ ap (λ (i : ℕ). tree_at (trees (take nodes (nodes_in table))) i) (sym p)

  pub root-size : size (tree_in table m) ≡ nodes
  root-size = ap size root-tree ∙ size-root (take nodes (nodes_in table)) q.sound (omega (arith, nodes-length, q.least)) ∙ nodes-length
