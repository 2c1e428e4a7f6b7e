-- A number below zero is raised by 0x100000000, in an i64; another one is itself.
-- Assumes nothing.
use mir.Syntax.{w32, w64}
use Rattle.scalar.proofs.Signs.{plain-is, sum_is}
use Rattle.scalar.proofs.u32_of.Goals as goal

pub returns-then-x-lt0 : goal.returns-then-x-lt0
returns-then-x-lt0 c = sum_is w32 c.ranges.x w64 tt c.if-x-lt0.true

pub returns : goal.returns
returns c = plain-is w32 c.ranges.x c.if-x-lt0.false
