-- `uses::with_use` meets its contract, case by case. Assumes nothing.
use borrow.Author.Rules.{rules}
use mathlib.Core.Path.{sym, ◌∙◌}
use Rattle.uses.proofs.Laws.{low-once, low_again, high-once, high-again, no_node}
use Rattle.uses.proofs.with_use.Goals as goal

pub without_bit-requires : goal.without_bit-requires
without_bit-requires c =
    record {
      k_lt_half = c.if-o-lt-HALF.true;
      k_value = sym c.has_bit.ensures ∙ c.if-has_bit.true;
    }

pub returns-then-has_bit : goal.returns-then-has_bit
returns-then-has_bit c =
    let a = c.args in
    rw c.without_bit.ensures (low-once a.u a.o c.if-o-lt-HALF.true (sym c.has_bit.ensures ∙ c.if-has_bit.true))

pub returns-then-o-lt-HALF : goal.returns-then-o-lt-HALF
returns-then-o-lt-HALF c = let a = c.args in c.used_again.ensures ∙ low_again a.u a.o c.if-o-lt-HALF.true (sym c.has_bit.ensures ∙ c.if-has_bit.false)

pub without_bit-requires-then-has_bit-2 : goal.without_bit-requires-then-has_bit-2
without_bit-requires-then-has_bit-2 c =
    record {
      k_lt_half = search rules;
      k_value = sym c.has_bit-then-o-lt-LIMIT.ensures ∙ c.if-has_bit-2.true;
    }

pub returns-then-has_bit-2 : goal.returns-then-has_bit-2
returns-then-has_bit-2 c =
    let a = c.args in
    rw c.without_bit-then-has_bit-2.ensures (high-once a.u a.o c.if-o-lt-HALF.false c.if-o-lt-LIMIT.true (sym c.has_bit-then-o-lt-LIMIT.ensures ∙ c.if-has_bit-2.true))

pub returns-then-o-lt-LIMIT : goal.returns-then-o-lt-LIMIT
returns-then-o-lt-LIMIT c = let a = c.args in c.used_again-then-o-lt-LIMIT.ensures ∙ high-again a.u a.o c.if-o-lt-HALF.false c.if-o-lt-LIMIT.true (sym c.has_bit-then-o-lt-LIMIT.ensures ∙ c.if-has_bit-2.false)

pub returns : goal.returns
returns c = let a = c.args in no_node a.u a.o c.if-o-lt-HALF.false c.if-o-lt-LIMIT.false
