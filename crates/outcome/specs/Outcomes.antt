-- The radio's outcomes, item by item: 01 "What each event does". `m` is the memory of commands.
-- Assumes nothing.
use Rattle.std.specs.Prelude.{ℕ, Bool, true, false, cond, List, [], ◌∷◌, map, eqb}
use Rattle.status.specs.Numbers.{PLACE}
use Rattle.kind.specs.Kinds.{ERADIO, TRANSMITTED, CHANNEL_BUSY, CANCELLED, OK, APPLIED, MINE}
use Rattle.device.specs.Messages.{Frame, seen, err, tx_done, frame}
use Rattle.device.specs.Events.{if_session}
use Rattle.control.specs.declared.Mode.TheVariants.{Unconfigured, Lora, Fsk}
use Rattle.control.specs.declared.Radio.{Radio}
use Rattle.control.specs.declared.Radio.TheVariants.{Free, Listening, OnAir, Orphan, Configuring}
use Rattle.control.specs.declared.Device.{Device}
use Rattle.control.specs.declared.Order.{Order}
use Rattle.control.specs.declared.Order.TheVariants.{Nothing, Standby, Receive}
use Rattle.control.specs.Control.{device, with_air, with_radio, with_receiving, Done, does, writes_first, Out, taken, refused, within}
use Rattle.slot.specs.Slots.{setting, tag_at, head_at, payload_at}
use Rattle.queue.specs.Queue.{after_tx}
use Rattle.modulation.specs.Modulations.{LORA}
use Rattle.control.specs.declared.Mode.{Mode}

-- ---- clear, busy, sent

abbrev pub on_clear : Radio → Device → Out
on_clear Free d = refused PLACE d
on_clear (Listening t) d = taken (does (with_air d (with_radio d.air (OnAir t))) [] Nothing)
on_clear (OnAir t) d = refused PLACE d
on_clear Orphan d = refused PLACE d
on_clear Configuring d = refused PLACE d

abbrev pub on_busy : Radio → List ℕ → Device → Out
on_busy Free m d = refused PLACE d
on_busy (Listening t) m d = taken (writes_first (seen (tx_done CHANNEL_BUSY 0 t) ∷ []) (after_tx m d))
on_busy (OnAir t) m d = refused PLACE d
on_busy Orphan m d = refused PLACE d
on_busy Configuring m d = refused PLACE d

abbrev pub on_sent : ℕ → Radio → List ℕ → Device → Out
on_sent airtime Free m d = refused PLACE d
on_sent airtime (Listening t) m d = refused PLACE d
on_sent airtime (OnAir t) m d = taken (writes_first (seen (tx_done TRANSMITTED airtime t) ∷ []) (after_tx m d))
on_sent airtime Orphan m d = taken (after_tx m d)
on_sent airtime Configuring m d = refused PLACE d

-- ---- configured

-- the mode that a modulation puts the device in
abbrev pub mode_of : ℕ → Mode
mode_of id = cond (eqb id LORA) Lora Fsk

-- the OK with result 0, owner 1, and the modulation and parameters as they came
abbrev pub ok_configured : List ℕ → Frame
ok_configured m = frame OK (tag_at m setting) (APPLIED ∷ MINE ∷ payload_at m setting)

-- receive where receiving is on, and nothing where it is off
abbrev pub rearmed : Bool → Order
rearmed on = cond on Receive Nothing

-- the configuration is in force, unless its session has ended: then the radio goes to standby
abbrev pub in_force : Bool → List ℕ → Device → Done
in_force true m d =
    does (device (mode_of (head_at m setting)) d.link (with_radio d.air Free) d.inbox) (ok_configured m ∷ [])
    (rearmed d.inbox.receiving)
in_force false m d = does (with_air d (with_radio d.air Free)) [] Standby

abbrev pub on_configured : Radio → List ℕ → Device → Out
on_configured Free m d = refused PLACE d
on_configured (Listening t) m d = refused PLACE d
on_configured (OnAir t) m d = refused PLACE d
on_configured Orphan m d = refused PLACE d
on_configured Configuring m d = taken (in_force d.link.session m d)

-- ---- fault

-- ERR(ERADIO) in an open session
abbrev pub fault_frames : Bool → ℕ → List Frame
fault_frames session t = map seen (if_session session (err ERADIO t))

-- the TX with the radio is reported with 2
abbrev pub lost : ℕ → List ℕ → Device → Done
lost t m d = writes_first (fault_frames d.link.session 0) (writes_first (seen (tx_done CANCELLED 0 t) ∷ []) (after_tx m d))

-- the SET_CONFIG has failed: receiving ends
abbrev pub failed : List ℕ → Device → Done
failed m d =
    does (device Unconfigured d.link (with_radio d.air Free) (with_receiving d.inbox false)) (fault_frames d.link.session (tag_at m setting)) Standby

abbrev pub on_fault : Radio → List ℕ → Device → Done
on_fault Free m d = writes_first (fault_frames d.link.session 0) (after_tx m d)
on_fault (Listening t) m d = lost t m d
on_fault (OnAir t) m d = lost t m d
on_fault Orphan m d = writes_first (fault_frames d.link.session 0) (after_tx m d)
on_fault Configuring m d = failed m d

-- ---- the five outcomes, with output of so much room

unfoldable pub clear_out : ℕ → Device → Out
clear_out room d = within room d (on_clear d.air.radio d)

unfoldable pub busy_out : ℕ → List ℕ → Device → Out
busy_out room m d = within room d (on_busy d.air.radio m d)

unfoldable pub sent_out : ℕ → ℕ → List ℕ → Device → Out
sent_out airtime room m d = within room d (on_sent airtime d.air.radio m d)

unfoldable pub configured_out : ℕ → List ℕ → Device → Out
configured_out room m d = within room d (on_configured d.air.radio m d)

unfoldable pub fault_out : ℕ → List ℕ → Device → Out
fault_out room m d = within room d (taken (on_fault d.air.radio m d))
