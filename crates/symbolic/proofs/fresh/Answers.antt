-- `symbolic::fresh` meets its contract. Assumes nothing.
use Rattle.terms.specs.References.{origin_as}
use Rattle.workspace.specs.Paths.Symbols.{fresh-word, fresh-truth, fresh_reference}
use Rattle.symbolic.proofs.fresh.Goals as goal

pub returns-in-0 : goal.returns-in-0
returns-in-0 c =
    let a = c.args in
    let r = c.push in
    fresh-word a.space.now c.requires (origin_as a.origin) a.t r.result r.new.space c.in-0.is r.ensures.value r.ensures.space_after

pub returns-in-1 : goal.returns-in-1
returns-in-1 c =
    let a = c.args in
    let r = c.symbols_atom in
    fresh-truth a.space.now c.requires (origin_as a.origin) a.t r.result r.new.space c.in-1.is r.ensures.value r.ensures.space_after

pub returns-in_default : goal.returns-in_default
returns-in_default c =
    let a = c.args in
    let d = c.in_default.in_default-own.rest in
    let m = d.0.1 in
    let n = d.1 in
    rw c.reference.ensures (fresh_reference a.space.now c.requires (origin_as a.origin) a.t m n)
