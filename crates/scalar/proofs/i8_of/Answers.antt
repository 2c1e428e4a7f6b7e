-- A byte below 0x80 is itself; another one is lowered by 0x100, in an i16.
-- Assumes nothing.
use mir.Syntax.{w8, w16}
use Rattle.scalar.proofs.Signs.{low-is, difference-is}
use Rattle.scalar.proofs.i8_of.Goals as goal

pub returns-then-u-lt128 : goal.returns-then-u-lt128
returns-then-u-lt128 c = low-is w8 c.if-u-lt128.true

pub returns : goal.returns
returns c = difference-is w8 w16 tt c.ranges.u c.if-u-lt128.false
