-- `reader::lines::line_at` meets its contract. Assumes nothing.
use borrow.Author.Rules.{rules}
use mathlib.Core.Path.{sym, ap, ◌∙◌}
use native.Mathlib.Omega.{arith}
use lib.ListN.{length}
use Rattle.text.specs.Fields.{kind_named}
use Rattle.text.specs.Fields.Words.{kind-below}
use Rattle.text.specs.Code.Scan.Laws.{said_number, said_nothing}
use Rattle.text.specs.Code.Scan.Lines.{line-entry, line-node, line-none, word-most, word-ends}
use Rattle.reader.proofs.lines.line_at.Goals as goal

pub overflow_add-end : goal.overflow_add-end
overflow_add-end c =
    let a = c.args in
    let l = ap length c.field-w.ensures in
    let h = word-most a.text.now a.at (omega arith) in
    search rules

pub entry_line-requires : goal.entry_line-requires
entry_line-requires c =
    let a = c.args in
    let f = c.field-w.ensures in
    record {
      at_in_bounds = rw f (word-most a.text.now a.at (omega arith));
      text_value = rw f (word-ends a.text.now a.at);
    }

pub returns-then-same : goal.returns-then-same
returns-then-same c =
    let a = c.args in
    let f = c.field-w.ensures in
    let w = sym c.same.ensures ∙ c.if-same.true in
    sym (line-entry a.text.now a.at (rw f at w) ∙ rw (← f) (sym c.entry_line.ensures))

pub node_line-requires : goal.node_line-requires
node_line-requires c =
    let a = c.args in
    let f = c.field-w.ensures in
    let k = said_number (kind_named c.field-w.result.now) c.in_ok-kind.kind (sym c.kind_of.ensures ∙ c.in_ok-kind.was) in record {
      at_in_bounds = rw f (word-most a.text.now a.at (omega arith));
      text_value = rw f (word-ends a.text.now a.at);
      kind_lt_kind_count = kind-below c.field-w.result.now c.in_ok-kind.kind k;
    }

pub returns : goal.returns
returns c =
    let a = c.args in
    let f = c.field-w.ensures in
    let w = sym c.same.ensures ∙ c.if-same.false in
    let k = said_number (kind_named c.field-w.result.now) c.in_ok-kind.kind (sym c.kind_of.ensures ∙ c.in_ok-kind.was) in
    sym (line-node a.text.now a.at c.in_ok-kind.kind (rw f at w) (rw f at k) ∙ rw (← f) (sym c.node_line.ensures))

pub returns-in_err-kind : goal.returns-in_err-kind
returns-in_err-kind c =
    let a = c.args in
    let f = c.field-w.ensures in
    let w = sym c.same.ensures ∙ c.if-same.false in
    let k = said_nothing (kind_named c.field-w.result.now) (sym c.kind_of.ensures ∙ c.in_err-kind.was) in
    c.from_residual.ensures ∙ sym (line-none a.text.now a.at (rw f at w) (rw f at k))
