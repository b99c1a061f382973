-- `uses::without_bit` meets its contract: 1 is shifted whole, and the word is no less. Assumes nothing.
use mathlib.Core.Path.{refl}
use Rattle.uses.specs.Words.{bit-least, one_shl}
use Rattle.uses.proofs.without_bit.Goals as goal

pub overflow_sub-result : goal.overflow_sub-result
overflow_sub-result c = rw (one_shl c.args.k c.requires.k_lt_half) (bit-least c.args.word c.args.k c.requires.k_value)

pub returns : goal.returns
returns c = rw (one_shl c.args.k c.requires.k_lt_half) refl
