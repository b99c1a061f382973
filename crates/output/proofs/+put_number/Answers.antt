-- `output::put_number` meets its contract: the number falls with each call, to its tens. Assumes nothing.
use mathlib.Core.Path.{ap}
use Prim.Native.Nat.{◌+◌, ◌^◌, ◌<◌}
use native.Mathlib.Omega.{arith}
use lib.ListN.{length, length-append}
use Rattle.text.specs.Code.Output.Fields.{digits_last, digits-tens}
use Rattle.text.specs.Code.Output.{Put}
use Rattle.text.specs.Code.Output.Laws.{put_one, put_then}
use Rattle.text.specs.Writing.{digits}
use Rattle.output.proofs.+put_number.Goals as goal

pub overflow_add-result : goal.overflow_add-result
overflow_add-result t c =
    omega (arith, c.requires, ap length (digits_last c.args.n c.if-n-lt10.true))

pub returns-then-n-lt10 : goal.returns-then-n-lt10
returns-then-n-lt10 t c =
    rw (digits_last c.args.n c.if-n-lt10.true) (put_one c.put.ensures)

pub put_number-last-requires : goal.put_number-last-requires
put_number-last-requires t c =
    let p : c.args.at + length (digits c.args.n) < 2 ^ 64 = c.requires in
    let q = rw (digits-tens c.args.n c.if-n-lt10.false (omega arith), length-append) at p in
    (omega arith, omega arith)

pub overflow_add-result-2 : goal.overflow_add-result-2
overflow_add-result-2 t c =
    let r : Put (digits c.args.n) c.args.at c.args.out.now (c.put_number-last.result + 1) c.put-2.new.out = rw (digits-tens c.args.n c.if-n-lt10.false (omega arith)) (put_then c.put_number-last.ensures (put_one c.put-2.ensures)) in
    omega (arith, c.requires)

pub returns : goal.returns
returns t c =
    rw (digits-tens c.args.n c.if-n-lt10.false (omega arith)) (put_then c.put_number-last.ensures (put_one c.put-2.ensures))
