-- The writing is the one onto full stops.
use Rattle.texts.specs.Rounds.{wrote-is}
use Rattle.texts.proofs.rounds.try_writer.Goals as goal

pub returns : goal.returns
returns c = wrote-is _ c.args.out.now (c.fill.ensures.after (λ y e. e)) c.write.ensures
