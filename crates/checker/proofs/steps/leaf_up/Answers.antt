-- `checker::steps::leaf_up` meets its contract: a leaf's value goes up. Assumes nothing.
use Rattle.script.specs.Answers.Named.{handed_on}
use Rattle.checker.specs.Code.Going.Arriving.{leaf_room, leaf-lent, leaf-returnable, leaf_climbing, leaf-stopping}
use Rattle.checker.proofs.steps.leaf_up.Goals as goal

pub leaf-requires : goal.leaf-requires
leaf-requires c =
    record {
      room = leaf_room c.requires;
      depth_in_bounds = leaf-lent c.requires;
    }

pub climb-requires : goal.climb-requires
climb-requires c =
    leaf-returnable c.requires (rw c.node_at-node.ensures at c.leaf.ensures) c.in_ok-value.was

pub returns-in_err-value : goal.returns-in_err-value
returns-in_err-value c =
    rw (handed_on c.from_residual.result c.from_residual.ensures.1) (leaf-stopping c.requires (rw c.node_at-node.ensures at c.leaf.ensures) c.in_err-value.was)

pub returns : goal.returns
returns c =
    leaf_climbing c.requires (rw c.node_at-node.ensures at c.leaf.ensures) c.in_ok-value.was c.climb.ensures
