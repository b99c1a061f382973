-- `rows::mark_all` meets its contract: what is left to mark gives what is wanted, and with the atoms of the rest those seen are all. Assumes nothing.
use Rattle.rows.specs.Code.Loops.{tallying, tallying-room, tallying-low, tallying_on, tallying_end, marking_end}
use Rattle.rows.proofs.mark_all.Goals as goal

pub loop-j-init : goal.loop-j-init
loop-j-init c = let a = c.args in tallying a.space.now a.n a.marks.now

pub visit-counts-requires : goal.visit-counts-requires
visit-counts-requires c =
    let t = c.loop-j.invariant in
    let r = c.requires in
    record {
      room = tallying-room t c.loop-j-test.true r;
      low = tallying-low t c.loop-j-test.true r.few;
    }

pub loop-j-preserved : goal.loop-j-preserved
loop-j-preserved c = tallying_on _ _ c.loop-j.invariant c.loop-j-test.true c.visit-counts.ensures

pub shape_of-marks : goal.shape_of-marks
shape_of-marks c = c.loop-j.invariant.marks.same

pub returns : goal.returns
returns c =
    let t = c.loop-j.invariant in record {
      value = tallying_end t c.loop-j-test.false;
      marks_after = marking_end t.marks c.loop-j-test.false;
    }
