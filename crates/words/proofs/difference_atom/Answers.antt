-- `words::difference_atom` meets its contract: found, or pushed. Assumes nothing.
use Rattle.std.proofs.Common.{sym, ◌∙◌, arith}
use Rattle.terms.specs.Atoms.Laws.{left-found, left-made}
use Rattle.terms.specs.Search.{first-most, below-some, below-none}
use Rattle.terms.specs.Terms.{count_in}
use Rattle.words.specs.Words.{is_found, difference_row_of}
use Rattle.words.proofs.difference_atom.Goals as goal

pub returns-in-Some : goal.returns-in-Some
returns-in-Some c =
    let a = c.args in
    let r = difference_row_of a.space.now a.wanted.now in
    let f = below-some r (count_in a.space.now) c.in-Some.i (sym c.find_difference.ensures ∙ c.in-Some.is) in
    record {
      value = f.0;
      space_after = left-found a.space.now r 10 a.p a.q f.1;
    }

pub returns-in-None : goal.returns-in-None
returns-in-None c =
    let a = c.args in
    let r = difference_row_of a.space.now a.wanted.now in
    let h = below-none r (count_in a.space.now) (sym c.find_difference.ensures ∙ c.in-None.is) in
    let m = first-most (is_found a.space.now a.wanted.now) (count_in a.space.now) in
    let u = c.push.ensures.value in
    record {
      value = omega arith;
      space_after = c.push.ensures.space_after ∙ left-made a.space.now r 10 a.p a.q h;
    }
