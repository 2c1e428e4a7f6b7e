-- 01 "The tally behind demand 3": a function of the events and of their answers as they are seen outside, never of the device's state.
-- The TX with number n is the n-th of the list, counted from 0; each is in one place only, since an entry has one place.
-- Assumes nothing.
use Rattle.std.specs.Prelude.{ℕ, zero, suc, Bool, true, false, cond, not, ◌&&◌, ◌||◌, List, [], ◌∷◌, ◌++◌, map, eqb}
use Rattle.kind.specs.Kinds.{SET_CONFIG, TX, OK, ERR, TX_DONE}
use Rattle.device.specs.State.{Event, byte, tick, clear, busy, sent, configured, fault, packet, request}
use Rattle.device.specs.State.{disconnect, Order, nothing, standby, configure, transmit, receive}
use Rattle.device.specs.Messages.{Frame, frame}
use Rattle.device.specs.Frames.{Received, damaged, command}
use Rattle.device.specs.Reading.{frames, brings}
use Rattle.device.specs.Events.{Reply}

-- ---- what it keeps

pub data Place : Type 0 where
  reported : Place
  dropped : Place
  with_radio : Place
  waits : Place

-- an accepted TX: its tag and its place
pub data Entry : Type 0 where
  entry : ℕ → Place → Entry

-- the run, whether a session is open, the ticks, whether a SET_CONFIG is pending, and the accepted TX
pub record Tally : Type 0 where
  pub run : List ℕ
  pub session : Bool
  pub ticks : ℕ
  pub pending : Bool
  pub txs : List Entry

abbrev pub tally : List ℕ → Bool → ℕ → Bool → List Entry → Tally
tally run s n p xs = record { run = run; session = s; ticks = n; pending = p; txs = xs }

-- at power-up
abbrev pub no_tally : Tally
no_tally = tally [] false 0 false []

abbrev pub with_txs : List Entry → Tally → Tally
with_txs xs t = tally t.run t.session t.ticks t.pending xs

-- ---- what becomes of one TX

abbrev pub open? : Place → Bool
open? reported = false
open? dropped = false
open? with_radio = true
open? waits = true

-- an open one is put in this place
abbrev pub open_to : Place → Entry → Entry
open_to q (entry t p) = entry t (cond (open? p) q p)

-- the one with the radio is reported
abbrev pub radio_reported : Entry → Entry
radio_reported (entry t reported) = entry t reported
radio_reported (entry t dropped) = entry t dropped
radio_reported (entry t with_radio) = entry t reported
radio_reported (entry t waits) = entry t waits

-- the lowest waiting one, if any, is with the radio
abbrev pub started : List Entry → List Entry
started [] = []
started (entry t reported ∷ xs) = entry t reported ∷ started xs
started (entry t dropped ∷ xs) = entry t dropped ∷ started xs
started (entry t with_radio ∷ xs) = entry t with_radio ∷ started xs
started (entry t waits ∷ xs) = entry t with_radio ∷ xs

-- ---- what a taken event does, in the paper's order

-- whether a frame of this type is among those written
abbrev pub wrote : ℕ → List Frame → Bool
wrote kind [] = false
wrote kind (frame k t p ∷ fs) = eqb k kind || wrote kind fs

-- a run that passed step 1: a TX whose OK was written has the next number, and waits; a SET_CONFIG without an ERR is pending
abbrev pub noted : Received → List Frame → Tally → Tally
noted damaged fs t = t
noted (command kind tag p) fs t =
    cond (eqb kind TX) (cond (wrote OK fs) (with_txs (t.txs ++ (entry tag waits ∷ [])) t) t)
    (cond (eqb kind SET_CONFIG) (cond (wrote ERR fs) t (tally t.run t.session t.ticks true t.txs))
    t)

-- a run that isn't empty, ended by its zero: a session is open, with no tick yet
abbrev pub run_noted : List ℕ → List Frame → Tally → Tally
run_noted [] fs t = t
run_noted (r ∷ rs) fs t = noted (brings (r ∷ rs)) fs (tally [] true 0 t.pending t.txs)

-- a byte
abbrev pub byte_noted : ℕ → List Frame → Tally → Tally
byte_noted zero fs t = run_noted t.run fs t
byte_noted (suc n) fs t = tally (t.run ++ (suc n ∷ [])) t.session t.ticks t.pending t.txs

-- first: the byte
abbrev pub after_byte : Event → List Frame → Tally → Tally
after_byte (byte n) fs t = byte_noted n fs t
after_byte tick fs t = t
after_byte clear fs t = t
after_byte busy fs t = t
after_byte (sent airtime) fs t = t
after_byte configured fs t = t
after_byte fault fs t = t
after_byte (packet p) fs t = t
after_byte request fs t = t
after_byte disconnect fs t = t

-- then: busy, sent and fault report the TX with the radio
abbrev pub after_outcome : Event → Tally → Tally
after_outcome (byte n) t = t
after_outcome tick t = t
after_outcome clear t = t
after_outcome busy t = with_txs (map radio_reported t.txs) t
after_outcome (sent airtime) t = with_txs (map radio_reported t.txs) t
after_outcome configured t = t
after_outcome fault t = with_txs (map radio_reported t.txs) t
after_outcome (packet p) t = t
after_outcome request t = t
after_outcome disconnect t = t

-- then: an order to configure reports every open TX, and an order to transmit puts the lowest waiting one with the radio
abbrev pub after_order : Order → Tally → Tally
after_order nothing t = t
after_order standby t = t
after_order (configure c ldro) t = with_txs (map (open_to reported) t.txs) t
after_order (transmit bs first) t = with_txs (started t.txs) t
after_order receive t = t

-- then: nothing is pending after configured, and after a fault that did not order to configure
abbrev pub nothing_pending : Tally → Tally
nothing_pending t = tally t.run t.session t.ticks false t.txs

abbrev pub unless_configure : Order → Tally → Tally
unless_configure nothing t = nothing_pending t
unless_configure standby t = nothing_pending t
unless_configure (configure c ldro) t = t
unless_configure (transmit bs first) t = nothing_pending t
unless_configure receive t = nothing_pending t

abbrev pub after_setting : Event → Order → Tally → Tally
after_setting (byte n) o t = t
after_setting tick o t = t
after_setting clear o t = t
after_setting busy o t = t
after_setting (sent airtime) o t = t
after_setting configured o t = nothing_pending t
after_setting fault o t = unless_configure o t
after_setting (packet p) o t = t
after_setting request o t = t
after_setting disconnect o t = t

-- a session's end drops what is open
abbrev pub session_ended : Tally → Tally
session_ended t = tally [] false 0 false (map (open_to dropped) t.txs)

-- last: a tick counts in an open session with nothing pending; the one that makes 1000 ends the session, and so does a disconnect. The number is 01's, and not
-- the device's constant.
abbrev pub after_time : Event → Tally → Tally
after_time (byte n) t = t
after_time tick t =
    cond (t.session && not t.pending)
    (cond (eqb (suc t.ticks) 1000) (session_ended t)
    (tally t.run true (suc t.ticks) t.pending t.txs))
    t
after_time clear t = t
after_time busy t = t
after_time (sent airtime) t = t
after_time configured t = t
after_time fault t = t
after_time (packet p) t = t
after_time request t = t
after_time disconnect t = session_ended t

abbrev pub after_taken : Event → List Frame → Order → Tally → Tally
after_taken e fs o t = after_time e (after_setting e o (after_order o (after_outcome e (after_byte e fs t))))

-- a refused event changes nothing
abbrev pub if_taken : {A : Type 0} → ℕ → A → A → A
if_taken zero new old = new
if_taken (suc n) new old = old

-- the tally after an event, by the event and its answer
unfoldable pub tallied : Event → Reply → Tally → Tally
tallied e r t = if_taken r.number (after_taken e (frames r.bytes) r.order t) t

-- ---- what is read off frames and tallies

-- the tags of the TX_DONEs among some frames, in their order
abbrev pub dones : List Frame → List ℕ
dones [] = []
dones (frame k t p ∷ fs) = cond (eqb k TX_DONE) (t ∷ []) [] ++ dones fs

-- the tags of the reported TX, in number order
abbrev pub if_reported : Place → ℕ → List ℕ
if_reported reported t = t ∷ []
if_reported dropped t = []
if_reported with_radio t = []
if_reported waits t = []

abbrev pub reported_tags : List Entry → List ℕ
reported_tags [] = []
reported_tags (entry t p ∷ xs) = if_reported p t ++ reported_tags xs

-- the tags of the TX that are reported in the second list and were not in the first, in number order
abbrev pub if_new : Place → Place → ℕ → List ℕ
if_new reported q t = []
if_new dropped q t = if_reported q t
if_new with_radio q t = if_reported q t
if_new waits q t = if_reported q t

abbrev pub newly_reported : List Entry → List Entry → List ℕ
newly_reported xs [] = []
newly_reported [] (entry t q ∷ ys) = if_reported q t ++ newly_reported [] ys
newly_reported (entry u p ∷ xs) (entry t q ∷ ys) = if_new p q t ++ newly_reported xs ys
