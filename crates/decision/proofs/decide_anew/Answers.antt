-- `decision::decide_anew` meets its contract: the parts, one after the other. Assumes nothing.
use mathlib.Core.Path.{refl, sym, ◌∙◌}
use native.Mathlib.Omega.{arith}
use Rattle.rows.specs.Code.{Room, blocks_of, kept, left-same, left-none}
use Rattle.std.proofs.Common.{◌≡◌, ap, List, ℕ, take, replicate}
use Rattle.script.specs.Tests.{pick}
use lib.ListN.{length}
use Rattle.rows.specs.Code.Leaves.{keepable-first, kept-first, taken}
use Rattle.rows.specs.Decision.{only_one}
use Rattle.rows.specs.Known.{blocks_most}
use Rattle.decision.specs.Whole.{Prepared, room-start, room-marked, room-guard, decided-many, decided-alone, decided-link, decided-both, aside-alone, aside-link, aside-not, keepable, left_after, left_alone}
use Rattle.decision.proofs.decide_anew.Goals.{After-mark_all-counts}
use Rattle.decision.proofs.decide_anew.Goals as goal

-- what the parts give
prepared : (c : After-mark_all-counts) → Prepared c.args.space.now c.args.condition c.args.guard c.above-n.result c.mark_all-counts.new.marks c.mark_all-counts.result
prepared c = record { up = c.above-n.ensures; marks = c.mark_all-counts.ensures.marks_after; counts = c.mark_all-counts.ensures.value }

-- the marked rows have room
marked-room : (c : After-mark_all-counts) → Room c.args.space.now c.above-n.result c.mark_all-counts.new.marks
marked-room c =
    let a = c.args in
    let p = c.requires in
    room-marked _ (room-start a.space.now a.condition a.guard c.above-n.result c.above-n.ensures (omega (arith, p.behind, p.lent)) p.low p.high)
    c.mark_all-counts.ensures.marks_after

-- as many blocks as so many atoms have
lent-truths : (n b : ℕ) → b ≡ blocks_of n → length (take b (replicate {A = ℕ} 16 0)) ≡ blocks_of n
lent-truths n b e = let m = blocks_most n in taken (replicate 16 0) b (omega arith) ∙ e

pub slice_bounds-marks-end : goal.slice_bounds-marks-end
slice_bounds-marks-end c = (marked-room (goal.at.slice_bounds-marks-end c).After-mark_all-counts).marks

pub slice_bounds-keep_after-end : goal.slice_bounds-keep_after-end
slice_bounds-keep_after-end c = sym (taken c.mark_all-counts.new.marks c.above-n.result ((marked-room (goal.at.slice_bounds-keep_after-end c).After-mark_all-counts).marks))

pub above-n-requires : goal.above-n-requires
above-n-requires c = (c.requires.low, c.requires.high)

pub mark_all-counts-requires : goal.mark_all-counts-requires
mark_all-counts-requires c =
    let a = c.args in
    let p = c.requires in
    room-start a.space.now a.condition a.guard c.above-n.result c.above-n.ensures (omega (arith, p.behind, p.lent)) p.low p.high

pub returns-then-counts-gt-ATOMS : goal.returns-then-counts-gt-ATOMS
returns-then-counts-gt-ATOMS c =
    let a = c.args in
    let d = prepared (goal.at.returns-then-counts-gt-ATOMS c).After-mark_all-counts in
    record {
      value = decided-many a.space.now a.condition a.guard d c.if-counts-gt-ATOMS.true;
      left_anew = left-same refl refl;
    }

pub slice_bounds-truths-end : goal.slice_bounds-truths-end
slice_bounds-truths-end c = rw c.blocks_of.ensures (blocks_most _)

pub slice_bounds-truths-end-then-counts-eq0 : goal.slice_bounds-truths-end-then-counts-eq0
slice_bounds-truths-end-then-counts-eq0 c = c.blocks_of.ensures ∙ sym (lent-truths _ _ c.blocks_of.ensures)

pub slice_bounds-truths-end-2 : goal.slice_bounds-truths-end-2
slice_bounds-truths-end-2 c = rw c.blocks_of-2.ensures (blocks_most _)

pub slice_bounds-truths-end-3 : goal.slice_bounds-truths-end-3
slice_bounds-truths-end-3 c = c.blocks_of-2.ensures ∙ sym (lent-truths _ _ c.blocks_of-2.ensures)

pub search-alone-requires : goal.search-alone-requires
search-alone-requires c =
    let a = c.args in
    let p = c.requires in
    record {
      low = p.high;
      high = p.high;
      room = room-guard a.condition a.guard (marked-room (goal.at.search-alone-requires c).After-mark_all-counts) c.above-n.ensures;
      few = rw (lent-truths _ _ c.blocks_of.ensures) (blocks_most _);
    }

pub forget_after-requires : goal.forget_after-requires
forget_after-requires c = omega (arith, c.requires.lent)

pub returns-then-counts-eq0 : goal.returns-then-counts-eq0
returns-then-counts-eq0 c =
    let a = c.args in
    let d = prepared (goal.at.returns-then-counts-eq0 c).After-mark_all-counts in
    record {
      value = decided-alone a.space.now a.condition a.guard d _ c.search-alone.result c.if-counts-gt-ATOMS.false c.if-counts-eq0.true
          (lent-truths _ _ c.blocks_of.ensures) c.search-alone.ensures.is;
      left_anew = left_alone (aside-alone a.space.now a.condition a.guard d c.if-counts-eq0.true) c.forget_after.ensures;
    }

pub conjunct-requires : goal.conjunct-requires
conjunct-requires c = let p = c.requires in (omega (arith, p.behind, p.lent), p.low)

pub forget-requires : goal.forget-requires
forget-requires c = omega (arith, c.requires.lent)

pub returns-in-Some : goal.returns-in-Some
returns-in-Some c =
    let a = c.args in
    let d = prepared (goal.at.returns-in-Some c).After-mark_all-counts in
    let e = sym c.in-Some.is ∙ c.conjunct.ensures in
    let k = aside-link a.space.now a.condition a.guard d c.in-Some.decision c.if-counts-eq0.false e in
    record {
      value = decided-link a.space.now a.condition a.guard d c.in-Some.decision c.if-counts-gt-ATOMS.false c.if-counts-eq0.false e;
      left_anew = left-none k.0 k.1 c.forget.ensures;
    }

pub search-decision-requires : goal.search-decision-requires
search-decision-requires c =
    let p = c.requires in
    record {
      low = p.low;
      high = p.high;
      room = rw c.above-n.ensures at (marked-room (goal.at.search-decision-requires c).After-mark_all-counts);
      few = rw (lent-truths _ _ c.blocks_of-2.ensures) (blocks_most _);
    }

pub keep_after-requires : goal.keep_after-requires
keep_after-requires c =
    let a = c.args in
    let p = c.requires in
    let d = prepared (goal.at.keep_after-requires c).After-mark_all-counts in
    record {
      keepable = keepable-first (keepable a.space.now a.condition a.guard d a.at p.behind p.lent p.low p.high c.if-counts-gt-ATOMS.false);
      blocks_bound = rw (c.search-decision.ensures.same, lent-truths _ _ c.blocks_of-2.ensures) (blocks_most _);
    }

pub returns : goal.returns
returns c =
    let a = c.args in
    let d = prepared (goal.at.returns c).After-mark_all-counts in
    let e = sym c.in_default.is ∙ c.conjunct.ensures in
    let b = lent-truths _ _ c.blocks_of-2.ensures in
    let s = c.search-decision.ensures in
    let ts = c.search-decision.new.truths in
    let k = kept-first a.space.now a.at c.mark_all-counts.new.marks c.above-n.result (length ts) ts ((marked-room (goal.at.returns c).After-mark_all-counts).marks)
    ∙ ap (λ (n : ℕ). kept a.space.now a.at c.mark_all-counts.new.marks c.above-n.result n ts) s.same in
    record {
      value = decided-both a.space.now a.condition a.guard d _ c.search-decision.result c.if-counts-gt-ATOMS.false c.if-counts-eq0.false e b s.is;
      left_anew = left_after a.space.now a.condition a.guard d (aside-not a.space.now a.condition a.guard d c.if-counts-eq0.false e) c.if-counts-gt-ATOMS.false
          b s (c.keep_after.ensures ∙ ap (λ (l : List ℕ). pick (only_one c.search-decision.result) l a.space.now) k);
    }
