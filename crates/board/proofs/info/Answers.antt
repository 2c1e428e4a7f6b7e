-- The definition computes to these bytes.
-- Assumes nothing.
use mathlib.Core.Path.{refl}
use Rattle.buffer.specs.Lay.{lay}
use Rattle.scalar.specs.Scalars.{le, unsigned}
use Rattle.info.specs.Info.{info_bytes, info_head}
use Rattle.board.specs.Board.{sx1262, board_info, bitmap}
use Rattle.board.proofs.info.Goals as goal

pub returns : goal.returns
unfolding info_bytes info_head lay le board_info unsigned sx1262 bitmap
returns c = refl
