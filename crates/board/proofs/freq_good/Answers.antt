-- Both tests are the definition's.
-- Assumes nothing.
use borrow.Author.Rules.{rules}
use Rattle.board.specs.Board.{sx1262}
use Rattle.board.proofs.freq_good.Goals as goal

pub returns : goal.returns
unfolding sx1262
returns c = search rules
