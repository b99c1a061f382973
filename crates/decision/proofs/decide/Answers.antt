-- `decision::decide` meets its contract: by what is known, if that has every atom of the guard, else by the rows. Assumes nothing.
use mathlib.Core.Path.{sym, ◌∙◌}
use native.Mathlib.Omega.{arith}
use Rattle.decision.specs.Whole.{decided-unknown, decided-known, decided-other, unknown, not-recalled, numbers-known, recalls-is, guard-rows}
use Rattle.decision.specs.Promised.{anew_promised, known_promised}
use Rattle.decision.proofs.decide.Goals as goal

pub returns-then-space-at-ne1 : goal.returns-then-space-at-ne1
returns-then-space-at-ne1 c =
    let a = c.args in
    anew_promised
    (decided-unknown a.space.now a.at a.condition a.guard c.decide_anew.result c.if-space-at-ne1.true
    c.decide_anew.ensures.value)
    c.requires (unknown a.space.now a.at a.guard c.if-space-at-ne1.true) c.decide_anew.ensures.value
    c.decide_anew.ensures.left_anew

pub all_numbered-requires : goal.all_numbered-requires
all_numbered-requires c =
    let a = c.args in
    let p = c.requires in
    let l = c.list_guard-count.ensures in record {
      rows = guard-rows a.space.now a.at a.guard _ c.number_known.new.numbers l.rows (omega (arith, p.behind, p.lent)) p.high;
      row_limit_in_bounds = omega (arith, c.number_known.auto.numbers);
    }

pub compare-requires : goal.compare-requires
compare-requires c =
    let a = c.args in
    let p = c.requires in
    let l = c.list_guard-count.ensures in
    record {
      behind = p.behind;
      lent = p.lent;
      high = p.high;
      rows = l.rows;
      numbers = omega (arith, c.number_known.auto.numbers);
    }

pub returns-then-all_numbered : goal.returns-then-all_numbered
returns-then-all_numbered c =
    let a = c.args in
    let l = c.list_guard-count.ensures in
    let known = numbers-known a.space.now a.at a.guard _ c.number_known.new.numbers l.rows c.number_known.ensures in
    let recalled = recalls-is a.space.now a.at a.guard _ c.number_known.new.numbers l.rows c.all_numbered.result known c.all_numbered.ensures in
    let t = sym recalled ∙ c.if-all_numbered.true in
    let e = rw known at c.compare.ensures in
    known_promised (decided-known a.space.now a.at a.condition a.guard c.compare.result c.if-space-at-ne1.false t e) c.requires
    c.if-space-at-ne1.false t e

pub returns : goal.returns
returns c =
    let a = c.args in
    let l = c.list_guard-count.ensures in
    let known = numbers-known a.space.now a.at a.guard _ c.number_known.new.numbers l.rows c.number_known.ensures in
    let recalled = recalls-is a.space.now a.at a.guard _ c.number_known.new.numbers l.rows c.all_numbered.result known c.all_numbered.ensures in
    anew_promised
    (decided-other a.space.now a.at a.condition a.guard c.decide_anew-2.result c.if-space-at-ne1.false
    (sym recalled ∙ c.if-all_numbered.false) c.decide_anew-2.ensures.value)
    c.requires (not-recalled a.space.now a.at a.guard (sym recalled ∙ c.if-all_numbered.false))
    c.decide_anew-2.ensures.value c.decide_anew-2.ensures.left_anew
