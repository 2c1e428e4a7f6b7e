-- A number below zero is raised by 0x100, in an i16; another one is itself.
-- Assumes nothing.
use mir.Syntax.{w8, w16}
use Rattle.scalar.proofs.Signs.{plain-is, sum_is}
use Rattle.scalar.proofs.u8_of.Goals as goal

pub returns-then-x-lt0 : goal.returns-then-x-lt0
returns-then-x-lt0 c = sum_is w8 c.ranges.x w16 tt c.if-x-lt0.true

pub returns : goal.returns
returns c = plain-is w8 c.ranges.x c.if-x-lt0.false
