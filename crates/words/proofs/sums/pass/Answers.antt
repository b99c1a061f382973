-- `words::sums::pass` meets its contract. The loop's invariant: the rows below i with the weights and numbers now give what all give, and each
-- number is below 2^32. Assumes nothing.
use Rattle.std.proofs.Common.{◌-◌, arith}
use Rattle.words.specs.Sums.Laws.{passing_next, passing_skip, passing_end, gather-reduced}
use Rattle.words.proofs.sums.pass.Goals as goal

pub loop-i-preserved-then-w-ne0 : goal.loop-i-preserved-then-w-ne0
loop-i-preserved-then-w-ne0 c =
    let l = c.loop-i in
    passing_next (l.i - 1) c.row_at-row.result _ _ l.invariant (omega arith) c.row_at-row.ensures c.spread.ensures c.gather.ensures
    (rw c.gather.ensures (gather-reduced _ _ _ l.invariant.reduced))

pub loop-i-preserved : goal.loop-i-preserved
loop-i-preserved c =
    let l = c.loop-i in
    passing_skip (l.i - 1) l.invariant (omega arith) (record { below = λ k. omega (arith, c.type_inv.weights k) }) c.if-w-ne0.false

pub returns : goal.returns
returns c = passing_end c.loop-i.invariant c.loop-i-test.false
