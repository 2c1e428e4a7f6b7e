-- Each number of a state is a value of its type.
-- Assumes nothing.
use Rattle.std.specs.Prelude.{◌<◌}
use Rattle.control.specs.declared.Device.{Device}
use Rattle.packed.specs.Words.{radio_tag}

pub record DeviceIn (d : Device) : Type 0 where
  pub ticks : d.link.ticks < 0x10000
  pub run : d.link.run < 0x10000
  pub tag : radio_tag d.air.radio < 0x10000
  pub first : d.air.first < 0x100
  pub waiting : d.air.waiting < 0x100
  pub ring : d.inbox.first < 0x100
  pub held : d.inbox.held < 0x100
  pub drops : d.inbox.drops < 0x10000
