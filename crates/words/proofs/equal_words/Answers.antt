-- `words::equal_words` meets its contract: a constant, or an atom. Assumes nothing.
use Rattle.std.proofs.Common.{◌≡◌, Bool, true, false, refl, sym, ◌∙◌}
use mir.Val.{bool_byte}
use Rattle.terms.specs.Terms.{bit_of}
use Rattle.words.specs.Words.Laws.{row-constant, left-bit, row-atom, left-atom}
use Rattle.words.proofs.equal_words.Goals as goal

-- a bit as the code casts it
bit : (b : Bool) → bool_byte b ≡ bit_of b
bit true = refl
bit false = refl

pub returns-then-is_constant : goal.returns-then-is_constant
returns-then-is_constant c =
    let a = c.args in
    let e = c.subtract.ensures in
    let t = sym c.is_constant.ensures ∙ c.if-is_constant.true in
    let u = c.push.ensures in
    record {
      value = u.value ∙ row-constant a.space.now a.p a.q _ e t;
      space_after = u.space_after ∙ left-bit a.space.now a.p a.q _ e t _ (bit _);
    }

pub returns : goal.returns
returns c =
    let a = c.args in
    let e = c.subtract.ensures in
    let t = sym c.is_constant.ensures ∙ c.if-is_constant.false in
    let u = c.difference_atom.ensures in
    record {
      value = u.value ∙ row-atom a.space.now a.p a.q _ e t;
      space_after = u.space_after ∙ left-atom a.space.now a.p a.q _ e t;
    }
