-- A TX starts, those that wait are cancelled, the radio is configured, and what comes after a TX: 01 "What each event does".
-- Assumes nothing.
use Rattle.std.specs.Prelude.{ℕ, zero, suc, ◌+◌, ◌*◌, ◌%◌, min, Bool, true, false, cond, List, [], ◌∷◌, map, eqb, get_or}
use Rattle.modulation.specs.Lora.{sf_at, bw_at}
use Rattle.modulation.specs.Modulations.{LORA, params_at}
use Rattle.command.specs.Commands.{flags_size}
use Rattle.board.specs.Board.{tx_max}
use Rattle.board.specs.Ldro.{slow}
use Rattle.device.specs.Messages.{Frame, seen, cancelled}
use Rattle.device.specs.Events as E
use Rattle.emit.specs.Emitting.{done_room}
use Rattle.control.specs.declared.Mode.{Mode}
use Rattle.control.specs.declared.Mode.TheVariants.{Unconfigured, Lora, Fsk}
use Rattle.control.specs.declared.Radio.{Radio}
use Rattle.control.specs.declared.Radio.TheVariants.{Free, Configuring}
use Rattle.control.specs.declared.Device.{Device}
use Rattle.control.specs.declared.Order.TheVariants.{Configure, Transmit}
use Rattle.control.specs.Control.{radio_is, air, with_air, Done, does, idle}
use Rattle.slot.specs.Slots.{slot_size, payload_offset, setting, len_at, tag_at, head_at}

-- ---- a TX starts

-- it listens first only under LoRa, with skip_cad 0
abbrev pub listens : Mode → ℕ → Bool
listens Unconfigured f = false
listens Lora f = eqb f 0
listens Fsk f = false

abbrev pub begun : Bool → ℕ → Radio
begun first t = radio_is (E.begun first t)

-- the TX in slot k starts, and n wait in the slots after it
unfoldable pub start : List ℕ → ℕ → ℕ → Device → Done
start m k n d =
    let first = listens d.mode (head_at m k) in
    does (with_air d (air (begun first (tag_at m k)) false ((k + 1) % tx_max) n)) []
    (Transmit (k * slot_size + (payload_offset + flags_size)) (len_at m k) first)

-- ---- those that wait

-- the tags in n slots of the ring, from slot k on
unfoldable pub waiting_tags : List ℕ → ℕ → ℕ → List ℕ
waiting_tags m k zero = []
waiting_tags m k (suc n) = tag_at m k ∷ waiting_tags m ((k + 1) % tx_max) n

-- the room that they may take: as much as sixteen TX_DONE
abbrev pub cancel_room : ℕ
cancel_room = tx_max * done_room

-- TX_DONE 2 for each
abbrev pub cancels : List ℕ → List Frame
cancels ts = map seen (cancelled ts)

-- ---- the radio is configured

-- LDRO by the modulation, sf and bw of the SET_CONFIG
abbrev param_at : List ℕ → ℕ → ℕ
param_at m k = get_or m (setting * slot_size + (payload_offset + (params_at + k))) 0

unfoldable pub ldro_at : List ℕ → Bool
ldro_at m =
    cond (eqb (head_at m setting) LORA) (slow (param_at m sf_at) (param_at m bw_at))
    false

-- the TX that wait are cancelled, sixteen at most, and the radio is configured as the SET_CONFIG says
unfoldable pub begin : List ℕ → Device → Done
begin m d =
    record {
      next = with_air d (air Configuring false d.air.first 0);
      writes = cancels (waiting_tags m (d.air.first % tx_max) (min d.air.waiting tx_max));
      order = Configure (setting * slot_size + payload_offset) (len_at m setting + 1) (ldro_at m);
    }

-- ---- after a TX

-- a waiting SET_CONFIG; else the oldest waiting TX; else receive or standby
abbrev pub next : Bool → ℕ → List ℕ → Device → Done
next true n m d = begin m d
next false zero m d = does (with_air d (air Free false d.air.first 0)) [] (idle d.inbox.receiving)
next false (suc n) m d = start m (d.air.first % tx_max) n d

unfoldable pub after_tx : List ℕ → Device → Done
after_tx m d = next d.air.pending d.air.waiting m d
