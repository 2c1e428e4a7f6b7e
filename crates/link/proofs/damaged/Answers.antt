-- One frame is said, and that is all.
-- Assumes nothing.
use Rattle.emit.proofs.Laws.{sent-one}
use Rattle.control.proofs.Laws.{spoken}
use Rattle.link.proofs.damaged.Goals as goal

pub returns : goal.returns
returns c =
    let write-err = c.write_err-w in
    spoken _ _ (sent-one write-err.ensures) c.done.ensures
