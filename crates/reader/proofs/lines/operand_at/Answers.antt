-- `reader::lines::operand_at` meets its contract. Assumes nothing.
use mathlib.Core.Path.{refl, sym, ◌∙◌}
use native.Mathlib.Omega.{arith}
use lib.ListN.{drop}
use Rattle.text.specs.Fields.{decimal_up_to}
use Rattle.text.specs.Code.Scan.Laws.{said_number, said_nothing}
use Rattle.text.specs.Code.Scan.Lines.{operand_no_tab, operand-tab, starts-within}
use Rattle.reader.proofs.lines.operand_at.Goals as goal

pub returns-then-not-wanted : goal.returns-then-not-wanted
returns-then-not-wanted c = rw (c.if-not-wanted.true) refl

pub returns-then-not-byte_is : goal.returns-then-not-byte_is
returns-then-not-byte_is c =
    let a = c.args in
    let b = sym c.byte_is.ensures ∙ c.if-not-byte_is.true in
    rw (c.if-not-wanted.false) (sym (operand_no_tab a.limit a.at (drop a.at a.text.now) b))

pub field-f-requires : goal.field-f-requires
field-f-requires c =
    let a = c.args in
    let h = starts-within 9 a.text.now a.at (sym c.byte_is.ensures ∙ c.if-not-byte_is.false) in
    omega arith

pub returns : goal.returns
returns c =
    let a = c.args in
    let t = sym c.byte_is.ensures ∙ c.if-not-byte_is.false in
    let f = c.field-f.ensures in
    let n = said_number (decimal_up_to a.limit c.field-f.result.now) c.in_ok-n.n (sym c.number.ensures ∙ c.in_ok-n.was) in
    rw (c.if-not-wanted.false, operand-tab a.text.now a.at t a.limit, ← f, n) refl

pub returns-in_err-n : goal.returns-in_err-n
returns-in_err-n c =
    let a = c.args in
    let t = sym c.byte_is.ensures ∙ c.if-not-byte_is.false in
    let f = c.field-f.ensures in
    let n = said_nothing (decimal_up_to a.limit c.field-f.result.now) (sym c.number.ensures ∙ c.in_err-n.was) in
    c.from_residual.ensures ∙ rw (c.if-not-wanted.false, operand-tab a.text.now a.at t a.limit, ← f, n) refl
