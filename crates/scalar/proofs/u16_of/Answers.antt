-- A number below zero is raised by 0x10000, in an i32; another one is itself.
-- Assumes nothing.
use mir.Syntax.{w16, w32}
use Rattle.scalar.proofs.Signs.{plain-is, sum_is}
use Rattle.scalar.proofs.u16_of.Goals as goal

pub returns-then-x-lt0 : goal.returns-then-x-lt0
returns-then-x-lt0 c = sum_is w16 c.ranges.x w32 tt c.if-x-lt0.true

pub returns : goal.returns
returns c = plain-is w16 c.ranges.x c.if-x-lt0.false
