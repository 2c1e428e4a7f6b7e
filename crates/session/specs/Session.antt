-- A session's end, and the two events that bring it: 01 "What each event does", tick and disconnect.
-- Assumes nothing.
use Rattle.std.specs.Prelude.{ℕ, ◌+◌, Bool, true, false, cond, not, ◌&&◌, [], leb}
use Rattle.device.specs.Events.{ticks_max}
use Rattle.device.specs.Events as E
use Rattle.control.specs.declared.Mode.TheVariants.{Unconfigured}
use Rattle.control.specs.declared.Radio.{Radio}
use Rattle.control.specs.declared.Device.{Device}
use Rattle.control.specs.declared.Order.TheVariants.{Nothing, Standby}
use Rattle.control.specs.Control.{link, air, device, with_link, no_session, reception_ended, radio_of, radio_is, free?, stalled, Done, does, Out, taken, within}

-- ---- a session's end

-- it leaves of the radio what the definition says
abbrev pub ended : Radio → Radio
ended r = radio_is (E.ended (radio_of r))

-- and of the rest nothing; standby is ordered if the radio is free
unfoldable pub end_session : Device → Done
end_session d =
    does (device Unconfigured no_session (air (ended d.air.radio) false d.air.first 0) (reception_ended d.inbox)) []
    (cond (free? (ended d.air.radio)) Standby Nothing)

-- ---- tick, disconnect

-- the tick that makes the count 1000 ends the session
abbrev pub on_tick : Device → Done
on_tick d =
    cond (d.link.session && not (stalled d.air))
    (cond (leb ticks_max (d.link.ticks + 1)) (end_session d)
    (does (with_link d (link true (d.link.ticks + 1) d.link.run)) [] Nothing))
    (does d [] Nothing)

-- with no session open only the run is emptied
abbrev pub on_disconnect : Bool → Device → Done
on_disconnect true d = end_session d
on_disconnect false d = does (with_link d (link false d.link.ticks 0)) [] Nothing

-- the two events, with output of so much room
unfoldable pub tick_out : ℕ → Device → Out
tick_out room d = within room d (taken (on_tick d))

unfoldable pub disconnect_out : ℕ → Device → Out
disconnect_out room d = within room d (taken (on_disconnect d.link.session d))
