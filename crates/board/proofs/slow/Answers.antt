-- Above SF 12 every symbol is slow, and up to SF 12 neither the product nor the shift leaves 32 bits.
-- Assumes nothing.
use Rattle.board.specs.Ldro.{slow}
use Rattle.board.proofs.Laws.{high-slow, shift}
use Rattle.board.proofs.slow.Goals as goal

pub returns-then-sf-gt-SF_MAX : goal.returns-then-sf-gt-SF_MAX
returns-then-sf-gt-SF_MAX c = high-slow c.args.sf c.args.bw c.if-sf-gt-SF_MAX.true

pub returns : goal.returns
unfolding slow
returns c = simp (c.bandwidth.ensures, shift c.args.sf c.if-sf-gt-SF_MAX.false)
