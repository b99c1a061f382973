-- `answers::ended_answer` meets its contract: a used count below 65536 has room in the number. Assumes nothing.
use mathlib.Core.Path.{ap}
use native.Mathlib.Omega.{arith}
use Rattle.std.specs.Prelude.{Ok}
use Rattle.script.specs.Answers.Bounds.{kind-most}
use Rattle.script.specs.Answers.Named.{Ran}
use Rattle.script.specs.declared.Ended.{Ended}
use Rattle.answers.specs.Code.Packing.{gave-few, failed-few, run_gave, run_failed}
use Rattle.answers.proofs.ended_answer.Goals as goal

abbrev as_run : Ended → Ran
as_run e = Ok e

pub pack-requires : goal.pack-requires
pack-requires c =
    let n = gave-few (ap as_run c.in-Gave.is) c.requires in
    let k = kind-most c.in-Gave.v in
    omega (arith, n, k, c.kind.ensures)

pub pack-requires-in-Failed : goal.pack-requires-in-Failed
pack-requires-in-Failed c = omega (arith, failed-few (ap as_run c.in-Failed.is) c.requires)

pub returns-in-Gave : goal.returns-in-Gave
returns-in-Gave c = run_gave (ap as_run c.in-Gave.is) c.kind.ensures c.bits.ensures c.pack.ensures

pub returns-in-Failed : goal.returns-in-Failed
returns-in-Failed c = run_failed (ap as_run c.in-Failed.is) c.pack-in-Failed.ensures
