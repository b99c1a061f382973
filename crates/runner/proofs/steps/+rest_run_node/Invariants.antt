use Rattle.std.proofs.Common.{◌*◌, ◌+◌}
use Rattle.runner.proofs.steps.+rest_run_node.Given as goal

abbrev pub decreases-rest : goal.decreases-rest
decreases-rest l = 2 * l.n

abbrev pub decreases-run_node : goal.decreases-run_node
decreases-run_node l = 2 * l.n + 1
