-- `reader::take_entry` meets its contract. Assumes nothing.
use borrow.Author.Rules.{rules}
use mathlib.Core.Path.{refl, sym, ◌∙◌}
use borrow.Author.Tests.{eq-eqb, ne_eqb, ltb-true}
use Prim.Native.Nat.{◌+◌}
use native.Mathlib.Omega.{arith}
use lib.Dec.{ltb}
use Rattle.script.specs.Answers.Named.{handed_on, lacking, there_is}
use Rattle.script.specs.declared.Refusal.TheVariants.{TooManyAt}
use Rattle.script.specs.Limits.{entry_limit, size_of}
use Rattle.text.specs.Code.Steps.Taken.{sized_fits, sized_large}
use Rattle.reader.proofs.take_entry.Goals as goal

pub returns-then-script-ne0 : goal.returns-then-script-ne0
returns-then-script-ne0 c = let e = ne_eqb c.args.script.nodes 0 c.if-script-ne0.true in (rw e refl, rw e refl)

pub offset_bounds-entries-script : goal.offset_bounds-entries-script
offset_bounds-entries-script c =
    let s = c.args.script in
    let f = sized_fits (ltb s.entries entry_limit) (size_of s.nodes (s.entries + 1)) c.in_ok-more.more (sym c.with_entry.ensures ∙ there_is c.with_entry.result (TooManyAt c.args.i) (sym c.ok_or.ensures.value ∙ c.in_ok-more.was)) in
    let m = ltb-true s.entries entry_limit f.0 in
    search rules

pub bounds-entries-script : goal.bounds-entries-script
bounds-entries-script c =
    let s = c.args.script in
    let f = sized_fits (ltb s.entries entry_limit) (size_of s.nodes (s.entries + 1)) c.in_ok-more.more (sym c.with_entry.ensures ∙ there_is c.with_entry.result (TooManyAt c.args.i) (sym c.ok_or.ensures.value ∙ c.in_ok-more.was)) in
    let m = ltb-true s.entries entry_limit f.0 in
    omega (arith, c.requires)

pub returns : goal.returns
returns c =
    let s = c.args.script in
    let f = sized_fits (ltb s.entries entry_limit) (size_of s.nodes (s.entries + 1)) c.in_ok-more.more (sym c.with_entry.ensures ∙ there_is c.with_entry.result (TooManyAt c.args.i) (sym c.ok_or.ensures.value ∙ c.in_ok-more.was)) in
    let e = eq-eqb s.nodes 0 c.if-script-ne0.false in
    (rw (e, f.0, f.1) refl, rw (e, f.0) refl)

pub returns-in_err-more : goal.returns-in_err-more
returns-in_err-more c =
    let s = c.args.script in
    let n = lacking c.with_entry.result (TooManyAt c.args.i) (sym c.ok_or.ensures.value ∙ c.in_err-more.was) in
    let f = sized_large (ltb s.entries entry_limit) (size_of s.nodes (s.entries + 1)) (sym c.with_entry.ensures ∙ n.0) in
    let e = eq-eqb s.nodes 0 c.if-script-ne0.false in
    (handed_on c.from_residual.result c.from_residual.ensures.1 ∙ rw (e, f, n.1) refl, rw (e, f) refl)
