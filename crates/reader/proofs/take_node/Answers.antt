-- `reader::take_node` meets its contract. Assumes nothing.
use mathlib.Core.Path.{refl, sym, ◌∙◌}
use borrow.Author.Tests.{ltb-true}
use Prim.Native.Nat.{◌+◌}
use native.Mathlib.Omega.{arith}
use lib.Dec.{ltb}
use Rattle.script.specs.Answers.Named.{handed_on, lacking, there_is}
use Rattle.script.specs.declared.Refusal.TheVariants.{TooManyAt}
use Rattle.script.specs.Limits.{node_limit, size_of}
use Rattle.text.specs.Code.Steps.Taken.{sized_fits, sized_large}
use Rattle.reader.proofs.take_node.Goals as goal

pub returns-then-not-well_formed : goal.returns-then-not-well_formed
returns-then-not-well_formed c =
    let s = c.args.script in
    let f = sized_fits (ltb s.nodes node_limit) (size_of (s.nodes + 1) s.entries) c.in_ok-more.more (sym c.with_node.ensures ∙ there_is c.with_node.result (TooManyAt c.args.i) (sym c.ok_or.ensures.value ∙ c.in_ok-more.was)) in
    let w = sym c.well_formed-2.ensures ∙ c.if-not-well_formed.true in
    (rw (f.0, w) refl, rw (f.0, w) refl)

pub put_node-requires : goal.put_node-requires
put_node-requires c =
    let s = c.args.script in
    let f = sized_fits (ltb s.nodes node_limit) (size_of (s.nodes + 1) s.entries) c.in_ok-more.more (sym c.with_node.ensures ∙ there_is c.with_node.result (TooManyAt c.args.i) (sym c.ok_or.ensures.value ∙ c.in_ok-more.was)) in
    let m = ltb-true s.nodes node_limit f.0 in
    omega (arith, c.requires)

pub returns : goal.returns
returns c =
    let s = c.args.script in
    let f = sized_fits (ltb s.nodes node_limit) (size_of (s.nodes + 1) s.entries) c.in_ok-more.more (sym c.with_node.ensures ∙ there_is c.with_node.result (TooManyAt c.args.i) (sym c.ok_or.ensures.value ∙ c.in_ok-more.was)) in
    let w = sym c.well_formed-2.ensures ∙ c.if-not-well_formed.false in
    (rw (f.0, w, f.1) refl, rw (f.0, w) c.put_node.ensures)

pub returns-in_err-more : goal.returns-in_err-more
returns-in_err-more c =
    let s = c.args.script in
    let n = lacking c.with_node.result (TooManyAt c.args.i) (sym c.ok_or.ensures.value ∙ c.in_err-more.was) in
    let f = sized_large (ltb s.nodes node_limit) (size_of (s.nodes + 1) s.entries) (sym c.with_node.ensures ∙ n.0) in
    (handed_on c.from_residual.result c.from_residual.ensures.1 ∙ rw (f, n.1) refl, rw f refl)
