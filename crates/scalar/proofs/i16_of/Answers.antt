-- A u16 below 0x8000 is itself; another one is lowered by 0x10000, in an i32.
-- Assumes nothing.
use mir.Syntax.{w16, w32}
use Rattle.scalar.proofs.Signs.{low-is, difference-is}
use Rattle.scalar.proofs.i16_of.Goals as goal

pub returns-then-u-lt32768 : goal.returns-then-u-lt32768
returns-then-u-lt32768 c = low-is w16 c.if-u-lt32768.true

pub returns : goal.returns
returns c = difference-is w16 w32 tt c.ranges.u c.if-u-lt32768.false
