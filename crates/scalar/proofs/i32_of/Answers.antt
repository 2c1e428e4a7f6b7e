-- A u32 below 0x80000000 is itself; another one is lowered by 0x100000000, in an i64.
-- Assumes nothing.
use mir.Syntax.{w32, w64}
use Rattle.scalar.proofs.Signs.{low-is, difference-is}
use Rattle.scalar.proofs.i32_of.Goals as goal

pub returns-then-u-lt2147483648 : goal.returns-then-u-lt2147483648
returns-then-u-lt2147483648 c = low-is w32 c.if-u-lt2147483648.true

pub returns : goal.returns
returns c = difference-is w32 w64 tt c.ranges.u c.if-u-lt2147483648.false
