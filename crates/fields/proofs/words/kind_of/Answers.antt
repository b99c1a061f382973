-- `fields::words::kind_of` meets its contract. The loop looks for the lowest kind whose word the field is. Assumes nothing.
use mathlib.Core.Path.{sym, ap, ◌∙◌}
use native.Mathlib.Omega.{arith}
use Rattle.script.specs.Rows.{rows}
use Rattle.script.specs.Rows.Kinds.{kind_count}
use Rattle.script.specs.Tests.Loops.{look, look_on, look-found, look_none}
use Rattle.text.specs.Fields.Words.{word-is, is_kind_of, kind-lowest}
use Rattle.text.specs.Code.Scan.{said_by}
use Rattle.fields.proofs.words.kind_of.Goals as goal

pub loop-k-init : goal.loop-k-init
loop-k-init c = look (is_kind_of c.args.f.now) kind_count

pub word-requires : goal.word-requires
unfolding rows
word-requires c = omega arith

pub returns-then-same : goal.returns-then-same
unfolding rows
returns-then-same c =
    let f = c.args.f.now in
    let l = c.loop-k in
    let w = rw c.word.ensures at c.same.ensures in
    let e = word-is l.k f (omega arith) ∙ sym w ∙ c.if-same.true in
    sym (ap said_by (kind-lowest f ∙ look-found (is_kind_of f) kind_count l.k l.invariant (omega arith) e))

pub loop-k-preserved : goal.loop-k-preserved
unfolding rows
loop-k-preserved c =
    let f = c.args.f.now in
    let l = c.loop-k in
    let w = rw c.word.ensures at c.same.ensures in
    let e = word-is l.k f (omega arith) ∙ sym w ∙ c.if-same.false in
    look_on (is_kind_of f) kind_count l.k l.invariant (omega arith) e

pub returns : goal.returns
unfolding rows
returns c =
    let f = c.args.f.now in
    let l = c.loop-k in
    sym (ap said_by (kind-lowest f ∙ look_none (is_kind_of f) kind_count l.k l.invariant (omega arith)))
