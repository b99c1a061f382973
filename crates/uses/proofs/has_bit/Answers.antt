-- `uses::has_bit` meets its contract: the bit that a shift brings down. Assumes nothing.
use Rattle.uses.specs.Words.{bit_shr}
use Rattle.uses.proofs.has_bit.Goals as goal

pub returns : goal.returns
returns c = bit_shr c.args.word c.args.k
