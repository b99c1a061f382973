-- `output::put_bytes` meets its contract: the bytes from `i` on remain to be stored, from place `at + i` on. Assumes nothing.
use mathlib.Core.Path.{◌≡◌}
use native.Mathlib.Nat.{add-zero}
use native.Mathlib.Omega.{arith}
use lib.ListN.{length}
use lib.Seq.{drop-length}
use Rattle.text.specs.Code.Output.Laws.{remains_all, remains_next, remains_none, remains_length}
use Rattle.output.proofs.put_bytes.Goals as goal

pub loop-i-init : goal.loop-i-init
loop-i-init c = rw (add-zero c.args.at) remains_all

pub overflow_add-at : goal.overflow_add-at
overflow_add-at c = omega arith

pub loop-i-preserved : goal.loop-i-preserved
loop-i-preserved c =
    let l = c.loop-i in
    remains_next l.i _ (omega arith) l.invariant c.put.ensures

pub overflow_add-result : goal.overflow_add-result
overflow_add-result c = omega arith

pub shape_of-out : goal.shape_of-out
shape_of-out c = remains_length c.loop-i.invariant

pub returns : goal.returns
returns c =
    let l = c.loop-i in
    let bytes = c.args.bytes.now in
    let e : l.i ≡ length bytes = omega arith in
    remains_none (rw (e, drop-length bytes) at l.invariant)
