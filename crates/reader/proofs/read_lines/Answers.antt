-- `reader::read_lines` meets its contract. The loop's invariant is `Walked`; each line takes the place where the next one starts further. Assumes nothing.
use native.Mathlib.Omega.{arith}
use native.Mathlib.Numerals.{add-one}
use Rattle.script.specs.Answers.Named.{handed_on}
use Rattle.text.specs.Code.Steps.Walk.{walk_start, walk_on, walk_refused, walk_end}
use Rattle.reader.proofs.read_lines.Goals as goal

pub loop-at-init : goal.loop-at-init
loop-at-init c =
    let a = c.args in
    let p = c.requires in
    rw c.empty-script.ensures (walk_start a.text.now a.table.now a.entries.now p.node_limit_in_bounds p.entry_limit_in_bounds)

pub take_line-requires : goal.take_line-requires
take_line-requires c =
    let w = c.loop-at.invariant in record {
      at_in_bounds = w.within;
      kept = w.kept;
    }

pub returns-in_err-more : goal.returns-in_err-more
returns-in_err-more c =
    rw (handed_on c.from_residual.result c.from_residual.ensures.1)
    (walk_refused c.loop-at.invariant c.loop-at-test.true (rw c.in_err-more.was at c.take_line.ensures))

pub overflow_add-i : goal.overflow_add-i
overflow_add-i c =
    let w = c.loop-at.invariant in omega (arith, c.requires.text_len_bound)

pub loop-at-smaller : goal.loop-at-smaller
loop-at-smaller c =
    let t = walk_on c.loop-at.invariant c.loop-at-test.true (rw c.in_ok-more.was at c.take_line.ensures) in
    let l = t.0.within in
    omega (arith, t.1)

pub loop-at-preserved : goal.loop-at-preserved
loop-at-preserved c =
    rw (add-one c.loop-at.i)
    (walk_on c.loop-at.invariant c.loop-at-test.true (rw c.in_ok-more.was at c.take_line.ensures)).0

pub at_end-requires : goal.at_end-requires
at_end-requires c =
    let k = c.loop-at.invariant.kept in
    record { most = k.nodes-most; room = omega arith; formed = k.formed }

pub returns : goal.returns
returns c = rw c.at_end.ensures (walk_end c.loop-at.invariant c.loop-at-test.false)
