-- `reader::lines::entry_line` meets its contract. Assumes nothing.
use borrow.Author.Rules.{rules}
use mathlib.Core.Path.{refl, sym, ◌∙◌}
use Prim.Native.Nat.{◌+◌}
use native.Mathlib.Omega.{arith}
use lib.ListN.{length, drop}
use Rattle.text.specs.Fields.{type_of}
use Rattle.text.specs.Code.Scan.Laws.{said_number, said_nothing}
use Rattle.text.specs.Code.Scan.Lines.{entry_no_tab, entry-lf, entry_no_lf, starts-within}
use Rattle.reader.proofs.lines.entry_line.Goals as goal

pub returns-then-not-byte_is : goal.returns-then-not-byte_is
returns-then-not-byte_is c =
    let a = c.args in
    sym (entry_no_tab a.at (drop a.at a.text.now) (sym c.byte_is.ensures ∙ c.if-not-byte_is.true))

pub field-f-requires : goal.field-f-requires
field-f-requires c =
    let a = c.args in
    let h = starts-within 9 a.text.now a.at (sym c.byte_is.ensures ∙ c.if-not-byte_is.false) in
    omega arith

pub returns-then-not-byte_is-2 : goal.returns-then-not-byte_is-2
returns-then-not-byte_is-2 c =
    let a = c.args in
    let t = sym c.byte_is.ensures ∙ c.if-not-byte_is.false in
    let f = c.field-f.ensures in
    let l = sym c.byte_is-2.ensures ∙ c.if-not-byte_is-2.true in
    sym (entry_no_lf a.text.now a.at t (rw f at l))

pub overflow_add-result : goal.overflow_add-result
overflow_add-result c =
    let a = c.args in
    let l = sym c.byte_is-2.ensures ∙ c.if-not-byte_is-2.false in
    let h = starts-within 10 a.text.now (a.at + 1 + length c.field-f.result.now) l in
    search rules

pub returns : goal.returns
returns c =
    let a = c.args in
    let t = sym c.byte_is.ensures ∙ c.if-not-byte_is.false in
    let f = c.field-f.ensures in
    let l = sym c.byte_is-2.ensures ∙ c.if-not-byte_is-2.false in
    let n = said_number (type_of c.field-f.result.now) c.in_ok-t.t (sym c.type_code.ensures ∙ c.in_ok-t.was) in
    rw (entry-lf a.text.now a.at t (rw f at l), ← f, n) refl

pub returns-in_err-t : goal.returns-in_err-t
returns-in_err-t c =
    let a = c.args in
    let t = sym c.byte_is.ensures ∙ c.if-not-byte_is.false in
    let f = c.field-f.ensures in
    let l = sym c.byte_is-2.ensures ∙ c.if-not-byte_is-2.false in
    let n = said_nothing (type_of c.field-f.result.now) (sym c.type_code.ensures ∙ c.in_err-t.was) in
    c.from_residual.ensures ∙ rw (entry-lf a.text.now a.at t (rw f at l), ← f, n) refl
