-- `known::compare` meets its contract. The loop's invariant: what is found is what the blocks before this one have. Assumes nothing.
use mathlib.Core.Path.{sym, ap, ◌∙◌}
use Prim.Native.Nat.{◌+◌}
use native.Mathlib.Omega.{arith}
use lib.ListN.{length, get_or}
use Rattle.rows.specs.Code.{changes_of}
use Rattle.known.specs.Searching.{rows-listed, comparing, compare_rows, comparing_on, comparing-both, comparing_end}
use Rattle.rows.specs.Known.{blocks_most}
use Rattle.known.proofs.compare.Goals as goal

pub begin-more-requires : goal.begin-more-requires
begin-more-requires c =
    let p = c.requires in record {
      rows = compare_rows c.requires;
      row_limit_in_bounds = (p.numbers, omega arith);
      n_le_row_limit = (omega (arith, p.high), omega (arith, p.high));
    }

pub bounds-space-at : goal.bounds-space-at
bounds-space-at c = omega (arith, c.requires.lent)

pub loop-block-init : goal.loop-block-init
loop-block-init c = comparing c.requires c.blocks_of-block-end.result _ c.begin-more.ensures.words_after

pub known_word-c-requires : goal.known_word-c-requires
known_word-c-requires c =
    let m = blocks_most (get_or c.args.space.now (c.args.at + 1) 0) in record {
      known_size_in_bounds = c.requires.lent;
      block_bound = omega (arith, c.loop-block-test.true);
    }

pub slice_bounds-guarded_word-end : goal.slice_bounds-guarded_word-end
slice_bounds-guarded_word-end c = let l = c.begin-more.ensures.lists in l.many ∙ sym (ap length l.rows)

pub guarded_word-g-requires : goal.guarded_word-g-requires
guarded_word-g-requires c =
    let a = c.args in
    let p = c.requires in
    let s = changes_of a.space.now a.order.now a.numbers.now (length a.order.now) in
    record {
      rows = rows-listed a.space.now s 1 (a.guard + 1) _ (omega (arith, p.behind, p.lent)) (omega (arith, p.high)) c.begin-more.ensures.lists.rows;
      row_limit_in_bounds = (p.numbers, omega (arith, c.loop-block.invariant.whole));
      guard_lt_row_limit = p.high;
    }

pub returns-then-both : goal.returns-then-both
returns-then-both c =
    let k = comparing_on c.requires c.blocks_of-block-end.result c.loop-block.invariant _ c.begin-more.ensures.lists.rows c.known_word-c.result
    c.guarded_word-g.result _ _ _ c.loop-block-test.true c.known_word-c.ensures
    c.guarded_word-g.ensures.words_after c.guarded_word-g.ensures.value c.add.ensures.yes c.add.ensures.no in
    comparing-both c.requires c.blocks_of-block-end.result k c.both.result c.blocks_of-block-end.ensures c.both.ensures c.if-both.true

pub loop-block-preserved : goal.loop-block-preserved
loop-block-preserved c =
    comparing_on c.requires c.blocks_of-block-end.result c.loop-block.invariant _ c.begin-more.ensures.lists.rows c.known_word-c.result
    c.guarded_word-g.result _ _ _ c.loop-block-test.true c.known_word-c.ensures
    c.guarded_word-g.ensures.words_after c.guarded_word-g.ensures.value c.add.ensures.yes c.add.ensures.no

pub returns : goal.returns
returns c =
    comparing_end c.requires c.blocks_of-block-end.result c.loop-block.invariant c.branches.result c.blocks_of-block-end.ensures
    c.loop-block-test.false c.branches.ensures
