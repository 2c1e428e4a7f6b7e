-- The definition, with what the call promised.
-- Assumes nothing.
use Rattle.board.specs.Params.{fsk_good}
use Rattle.board.proofs.fsk_good.Goals as goal

pub returns : goal.returns
unfolding fsk_good
returns c = simp c.freq_good.ensures
