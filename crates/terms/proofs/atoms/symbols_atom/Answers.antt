-- `terms::atoms::symbols_atom` meets its contract: found, or pushed. Assumes nothing.
use mathlib.Core.Path.{sym, ◌∙◌}
use native.Mathlib.Omega.{arith}
use Rattle.terms.specs.Search.{first-most, below-some, below-none}
use Rattle.terms.specs.Terms.{count_in}
use Rattle.terms.specs.Atoms.{atom_at, atom_row_of}
use Rattle.terms.specs.Atoms.Laws.{left-found, left-made}
use Rattle.terms.proofs.atoms.symbols_atom.Goals as goal

pub returns-in-Some : goal.returns-in-Some
returns-in-Some c =
    let a = c.args in
    let r = atom_row_of a.space.now a.op a.a a.b in
    let f = below-some r (count_in a.space.now) c.in-Some.i (sym c.find_atom.ensures ∙ c.in-Some.is) in
    record {
      value = f.0;
      space_after = left-found a.space.now r a.op a.a a.b f.1;
    }

pub returns-in-None : goal.returns-in-None
returns-in-None c =
    let a = c.args in
    let r = atom_row_of a.space.now a.op a.a a.b in
    let h = below-none r (count_in a.space.now) (sym c.find_atom.ensures ∙ c.in-None.is) in
    let m = first-most (atom_at a.space.now a.op a.a a.b) (count_in a.space.now) in
    let u = c.push.ensures.value in
    record {
      value = omega arith;
      space_after = c.push.ensures.space_after ∙ left-made a.space.now r a.op a.a a.b h;
    }
