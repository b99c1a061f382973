-- `truths::list_rows` meets its contract: the rows passed are listed. Assumes nothing.
use Rattle.std.proofs.Common.{length, refl, ◌∙◌}
use borrow.Author.Tests.{lt-ltb, le-ltb}
use Rattle.rows.specs.Code.{count_after, listed_row}
use Rattle.rows.specs.Code.Leaves.{listing, listing_on}
use Rattle.truths.proofs.list_rows.Goals.{then-least-mark, else-least-mark}
use Rattle.truths.proofs.list_rows.Goals as goal

pub loop-i-init : goal.loop-i-init
loop-i-init c = let a = c.args in listing a.marks.now (length a.marks.now) a.least a.order.now

pub loop-i-preserved : goal.loop-i-preserved
unfolding count_after listed_row
loop-i-preserved c =
    let k = c.loop-i.invariant in
    elim c.if-least-mark.branch [
      | then-least-mark w ↦
          let t = le-ltb _ _ w.if-least-mark.true in
          listing_on _ _ k c.loop-i-test.true c.requires.lent (w.count-is ∙ rw t refl) (w.order-is ∙ rw t refl)
      | else-least-mark w ↦
          let t = lt-ltb _ _ w.if-least-mark.false in
          listing_on _ _ k c.loop-i-test.true c.requires.lent (w.count-is ∙ rw t refl) (w.order-is ∙ rw t refl)
    ]
