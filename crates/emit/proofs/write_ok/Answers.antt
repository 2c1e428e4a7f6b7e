-- An OK has no payload.
-- Assumes nothing.
use Rattle.answer.specs.Answers.{answer_bytes}
use Rattle.emit.proofs.write_ok.Goals as goal

pub returns : goal.returns
unfolding answer_bytes
returns c =
    c.write.ensures
