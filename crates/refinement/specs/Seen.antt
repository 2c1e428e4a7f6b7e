-- What is seen of the device in code outside: its answers, with the bytes that their orders name.
-- Assumes nothing.
use Rattle.std.specs.Prelude.{ℕ, List, take, drop}
use Rattle.modulation.specs.Modulations.{config_of, sync_word}
use Rattle.device.specs.State.{Config}
use Rattle.device.specs.State as S
use Rattle.device.specs.Events.{Reply}
use Rattle.control.specs.declared.Order.{Order}
use Rattle.control.specs.declared.Order.TheVariants.{Nothing, Standby, Configure, Transmit, Receive}
use Rattle.machine.specs.Machine.{Ran}

-- an order with the bytes that it names: they stand in the memory of commands
abbrev pub config_in : List ℕ → Config
config_in p = record { modulation = config_of p; word = sync_word p }

abbrev pub order_in : List ℕ → Order → S.Order
order_in m Nothing = S.nothing
order_in m Standby = S.standby
order_in m (Configure at n ldro) = S.configure (config_in (take n (drop at m))) ldro
order_in m (Transmit at n listen) = S.transmit (take n (drop at m)) listen
order_in m Receive = S.receive

-- the number, how many bytes were written, as many bytes from the output's start on, and the order
unfoldable pub reply_of : Ran → Reply
reply_of x =
    record {
      number = x.answer.number;
      count = x.answer.written;
      bytes = take x.answer.written x.out;
      order = order_in x.next.commands x.answer.order;
    }
