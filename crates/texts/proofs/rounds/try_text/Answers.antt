-- The table that is written is the one that was read.
use Rattle.texts.specs.Rounds.{tried_read, tried-refused}
use Rattle.texts.proofs.rounds.try_text.Goals as goal

pub returns-in_err-script : goal.returns-in_err-script
returns-in_err-script c =
    tried-refused c.args.table.now c.args.entries.now (c.fill.ensures.after (λ y e. e)) (c.fill-2.ensures.after (λ y e. e)) c.read.ensures c.in_err-script.was

pub returns : goal.returns
returns c =
    tried_read c.args.table.now c.args.entries.now (c.fill.ensures.after (λ y e. e)) (c.fill-2.ensures.after (λ y e. e)) c.read.ensures c.in_ok-script.was
    c.try_writer-wrote.ensures
