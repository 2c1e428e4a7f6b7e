-- Each number of a command is a value of its type: P 5.1, 6.3 and 6.4.
-- Assumes nothing.
use Rattle.std.specs.Prelude.{◌<◌}
use Rattle.modulation.specs.Ranges.{ModulationIn}
use Rattle.command.specs.declared.Command.{Command}
use Rattle.command.specs.declared.Command.TheVariants as C

abbrev pub CommandIn : Command → Type 0
CommandIn C.Ping = Unit {0}
CommandIn C.GetInfo = Unit {0}
CommandIn (C.SetConfig m) = ModulationIn m
CommandIn (C.Tx f) = f < 0x100
CommandIn C.RxStart = Unit {0}
CommandIn C.RxStop = Unit {0}
