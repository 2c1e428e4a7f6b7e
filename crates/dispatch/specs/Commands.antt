-- What the six commands do: 01 "What each event does". `m` is the memory of commands.
-- Assumes nothing.
use Rattle.std.specs.Prelude.{ℕ, ◌+◌, ◌%◌, Bool, true, false, cond, ◌&&◌, List, [], ◌∷◌, eqb, ◌≡◌, length}
use Rattle.std.proofs.Math.Option.{Option, none, some}
use Rattle.kind.specs.Kinds.{GET_INFO, SET_CONFIG, TX, RX_START, RX_STOP, EFRAME, CANCELLED}
use Rattle.board.specs.Board.{sx1262, tx_max}
use Rattle.device.specs.Messages.{seen, ok, ok_info, err, tx_done}
use Rattle.device.specs.Frames.{Received, damaged, command, error_for}
use Rattle.device.specs.Events.{changed}
use Rattle.control.specs.declared.Device.{Device}
use Rattle.control.specs.declared.Order.TheVariants.{Nothing}
use Rattle.control.specs.Control.{with_inbox, with_receiving, unconfigured, free?, Done, does, idle, radio_of, air, with_air, ring_emptied, writes_first, Gives}
use Rattle.device.specs.State.{held}
use Rattle.control.specs.declared.Radio.{Radio}
use Rattle.control.specs.declared.Radio.TheVariants.{Free, Listening, OnAir, Orphan, Configuring}
use Rattle.control.specs.declared.Air.{Air}
use Rattle.control.specs.declared.Taken.{Taken}
use Rattle.slot.specs.Slots.{setting, command_kept}
use Rattle.queue.specs.Queue.{start, begin}

-- what a command gives, and the memory of commands that it leaves
pub record CommandGives : Type 0 where
  pub done : Done
  pub commands : List ℕ

abbrev pub command_gives : Done → List ℕ → CommandGives
command_gives x m = record { done = x; commands = m }

-- ---- TX: its OK, and then it starts if the radio is free, or waits in the slot after the last

-- how many TX are open: with the radio, and waiting
abbrev pub open# : Air → ℕ
open# a = length (held (radio_of a.radio)) + a.waiting

abbrev pub slot_for : Air → ℕ
slot_for a = (a.first + a.waiting) % tx_max

abbrev pub waits_too : Device → Done
waits_too d = does (with_air d (air d.air.radio d.air.pending d.air.first (d.air.waiting + 1))) [] Nothing

unfoldable pub on_tx : ℕ → List ℕ → List ℕ → Device → CommandGives
on_tx t p m d =
    let m' = command_kept m (slot_for d.air) t p in
    command_gives (writes_first (seen (ok t) ∷ []) (cond (free? d.air.radio) (start m' (slot_for d.air) d.air.waiting d) (waits_too d))) m'

-- ---- SET_CONFIG: with a TX or an orphan on air it waits, and otherwise it cancels every open TX

abbrev pub pends : Device → Done
pends d = does (with_air d (air d.air.radio true d.air.first d.air.waiting)) [] Nothing

abbrev pub sets : Radio → List ℕ → Device → Done
sets Free m d = begin m d
sets (Listening t) m d = writes_first (seen (tx_done CANCELLED 0 t) ∷ []) (begin m d)
sets (OnAir t) m d = pends d
sets Orphan m d = pends d
sets Configuring m d = begin m d

unfoldable pub on_set : ℕ → List ℕ → List ℕ → Device → CommandGives
on_set t p m d =
    let m' = command_kept m setting t p in
    command_gives (sets d.air.radio m' (with_inbox d (ring_emptied d.inbox))) m'

-- ---- RX_START, RX_STOP

unfoldable pub turned : Bool → ℕ → Device → Done
turned on t d =
    does (with_inbox d (with_receiving d.inbox on)) (seen (ok t) ∷ [])
    (cond (free? d.air.radio && changed on d.inbox.receiving) (idle on) Nothing)

-- ---- what is answered at once: RX_START, RX_STOP, GET_INFO, PING

unfoldable pub at_once : ℕ → ℕ → Device → Done
at_once kind t d =
    cond (eqb kind RX_START) (turned true t d)
    (cond (eqb kind RX_STOP) (turned false t d)
    (cond (eqb kind GET_INFO) (does d (seen (ok_info sx1262 t) ∷ []) Nothing)
    (does d (seen (ok t) ∷ []) Nothing)))

-- ---- any command

abbrev pub on_command : ℕ → ℕ → List ℕ → List ℕ → Device → CommandGives
on_command kind t p m d =
    cond (eqb kind TX) (on_tx t p m d)
    (cond (eqb kind SET_CONFIG) (on_set t p m d)
    (command_gives (at_once kind t d) m))

-- a command with an error draws an ERR, and does nothing else
abbrev pub unless : Option ℕ → ℕ → ℕ → List ℕ → List ℕ → Device → CommandGives
unless (some code) kind t p m d = command_gives (does d (seen (err code t) ∷ []) Nothing) m
unless none kind t p m d = on_command kind t p m d

unfoldable pub dispatched : ℕ → ℕ → List ℕ → List ℕ → Device → CommandGives
dispatched kind t p m d = unless (error_for sx1262 (unconfigured d.mode) (open# d.air) kind p) kind t p m d

abbrev pub on_received : Received → List ℕ → Device → CommandGives
on_received damaged m d = command_gives (does d (seen (err EFRAME 0) ∷ []) Nothing) m
on_received (command kind t p) m d = dispatched kind t p m d

-- ---- a contract: what is written, given and left

pub record CommandTaken (x : CommandGives) (o : List ℕ) (r : Taken) (o' m' : List ℕ) : Type 0 where
  pub gives : Gives x.done o 0 r o'
  pub commands : m' ≡ x.commands
