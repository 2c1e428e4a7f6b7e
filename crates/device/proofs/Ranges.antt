-- Each number of the state stays a value of its type, at most 16 TX are open, receiving is on only in an open session and under a configuration, and what an
-- event writes can be sent: no more than 283 bytes, nor more than 201 without an RX.
-- The idea: one way of ending for a TX, one for a session, and for each event a clause for every radio; a message is no longer than its fields say. RX_START
-- alone turns receiving on, which opens a session and needs a configuration; what takes either away turns it off.
-- Assumes nothing.
use mathlib.Core.Path.{◌≡◌, refl, sym, ap, ◌∙◌}
use mathlib.Core.Bool.{Bool, true, false, cond, not, ◌&&◌, ◌||◌, true≢false}
use mathlib.Core.List.{List, [], ◌∷◌, ◌++◌, map, append_assoc}
use mathlib.Core.Option.{Option, none, some}
use Prim.Native.Nat.{ℕ, zero, suc, ◌+◌, ◌-◌, ◌*◌, ◌/◌, ◌<◌, ◌≤◌, min, zero-le}
use native.Mathlib.Omega.{arith}
use borrow.Author.Tests.{not-false, leb-true, leb-false, eqb-true}
use lib.Dec.{leb, ltb, eqb}
use lib.ListN.{length, take, drop, length-append, length-take, length-drop}
use Rattle.cobs.specs.Answers.{encoded_max}
use Rattle.cobs.specs.Decoding.{decoded}
use Rattle.scalar.specs.Bytes.{Each, IsByte, Bytes}
use Rattle.scalar.specs.Scalars.{le, get}
use Rattle.scalar.proofs.Bytes.{each_append, each_right, each_take, each-drop}
use Rattle.buffer.specs.Lay.{lay}
use Rattle.kind.specs.Kinds.{GET_INFO, SET_CONFIG, TX, RX, RX_START, RX_STOP, is_command, EPARAM, ELENGTH, ENOTCONFIGURED}
use Rattle.kind.specs.Kinds.{EMODULATION, EUNKNOWN_CMD, EBUSY, ERADIO, EFRAME, TRANSMITTED, CHANNEL_BUSY, CANCELLED, packet_max}
use Rattle.frame.specs.Body.{overhead, payload_of}
use Rattle.frame.specs.Reading.{open_answer}
use Rattle.frame.specs.declared.Opened.{Opened}
use Rattle.frame.specs.declared.Opened.TheVariants as O
use Rattle.frame.proofs.Bytes.{decoded-bytes, opened-tag}
use Rattle.modulation.specs.Lora.{lora_size, lora_of}
use Rattle.modulation.specs.Fsk.{sync_word_max, fsk_size, sync_word_len, fsk_of}
use Rattle.modulation.specs.declared.Fsk.{Fsk}
use Rattle.modulation.specs.declared.Modulation.TheVariants as M
use Rattle.modulation.specs.Modulations.{LORA, FSK, modulation_id, config_of, sync_word}
use Rattle.modulation.proofs.Laws.{length-config, fixed-most, word_len, config-in}
use Rattle.info.proofs.Laws.{length-info}
use Rattle.rx.specs.Rx.{rx_bytes}
use Rattle.answer.specs.Answers.{answer_bytes, configured_bytes, tx_done_max, tx_done_bytes}
use Rattle.answer.specs.declared.Answer.{Answer}
use Rattle.answer.specs.declared.Answer.TheVariants as A
use Rattle.board.specs.Board.{Board, ring_max, tx_max, board_info, uids_of, bitmap, sx1262}
use Rattle.board.specs.Params.{params_good, fsk_good, freq_good}
use Rattle.device.specs.State.{Config, Setting, Tx, Radio, free, listening, on_air, orphan, configuring, Packet, Inbox, Air, State}
use Rattle.device.specs.State.{link, air, inbox, with_link, with_air, with_inbox, with_receiving, no_reception, power_up, held, tags_of, open#}
use Rattle.device.specs.State.{Event, byte, tick, clear, busy, sent, configured, fault, packet, request, disconnect, Input, nothing}
use Rattle.device.specs.State.{free?, stalled}
use Rattle.device.specs.Messages.{Message, messages_bytes, ok, ok_info, ok_configured, err, tx_done, rx, cancelled, seen}
use Rattle.device.specs.Frames.{Received, damaged, command, received, untagged, unconfigured, needs_config}
use Rattle.device.specs.Frames.{other_modulation, config_sized, sized, error_of, good, setting_of, tx_of}
use Rattle.device.specs.Events.{Done, does, Out, begun, start, begin, next, after_tx, writes_first, waits_for, on_tx, ring_emptied, on_set, turned}
use Rattle.device.specs.Events.{on_command, unless, on_received}
use Rattle.device.specs.Events.{
  on_run,
  on_byte,
  unless_stalled,
  on_clear,
  on_busy,
  on_sent,
  on_configured,
  in_force,
  if_session,
  on_fault,
  cut,
  kept,
  drops_max,
}
use Rattle.device.specs.Events.{listens, on_packet, on_request, ended, end_session, ticks_max, on_tick, on_disconnect, on_event, room_min, unless_room, step}
use Rattle.device.specs.Tally.{wrote}
use Rattle.device.specs.Ranges.{PacketIn, EventIn, InputIn, BoardIn}
use Rattle.device.proofs.Laws.{tags-more}
use Rattle.device.proofs.Wires.{Sendable, AllSendable, sendable-append, length-wire, wires-append}
use Rattle.device.proofs.Back.{TagIn, ConfigIn, ok-sent, info-sent, configured-sent, err-sent, done-sent, rx-sent}

-- ---- the state

pub record SettingIn (c : Setting) : Type 0 where
  pub tag : TagIn c.tag
  pub config : ConfigIn c.config

abbrev pub PendingIn : Option Setting → Type 0
PendingIn none = Unit {0}
PendingIn (some c) = SettingIn c

abbrev pub RadioIn : Radio → Type 0
RadioIn free = Unit {0}
RadioIn (listening t) = Unit {0}
RadioIn (on_air t) = Unit {0}
RadioIn orphan = Unit {0}
RadioIn (configuring c) = SettingIn c

-- the tags are those of the open TX
pub record AirIn (a : Air) : Type 0 where
  pub tags : Each TagIn (held a.radio ++ tags_of a.waiting)
  pub bounded : open# a ≤ tx_max
  pub radio : RadioIn a.radio
  pub pending : PendingIn a.pending

-- a packet that was cut
pub record HeldIn (p : Packet) : Type 0 where
  pub values : PacketIn p
  pub short : length p.bytes ≤ packet_max

pub record InboxIn (i : Inbox) : Type 0 where
  pub ring : Each HeldIn i.ring
  pub drops : i.drops ≤ drops_max

-- by the session, the configuration and whether receiving is on
pub data Receives : Bool → Option Config → Bool → Type 0 where
  is-off : {v : Bool} {c : Option Config} → Receives v c false
  is-on : {c : Config} → Receives true (some c) true

pub record StateIn (s : State) : Type 0 where
  pub run : Bytes s.link.run
  pub air : AirIn s.air
  pub inbox : InboxIn s.inbox
  pub receives : Receives s.link.session s.config s.inbox.receiving

pub session_on : {v on : Bool} {c : Option Config} → Receives v c on → on ≡ true → v ≡ true
session_on is-off e = absurd (true≢false (sym e))
session_on is-on e = refl

pub if-configured : {v on : Bool} {c : Option Config} → Receives v c on → unconfigured c ≡ true → on ≡ false
if-configured is-off e = refl
if-configured is-on e = absurd (true≢false (sym e))

-- a session is opened; a configuration is in force; receiving is turned on
opened : {v on : Bool} {c : Option Config} → Receives v c on → Receives true c on
opened is-off = is-off
opened is-on = is-on

set : {v on : Bool} {c : Option Config} (d : Config) → Receives v c on → Receives v (some d) on
set d is-off = is-off
set d is-on = is-on

turned_on : (c : Option Config) → unconfigured c ≡ false → Receives true c true
turned_on none e = absurd (true≢false e)
turned_on (some c) e = is-on

no-reception-in : InboxIn no_reception
no-reception-in = record { ring = tt; drops = omega arith }

emptied-in : (i : Inbox) → InboxIn (ring_emptied i)
emptied-in i = record { ring = tt; drops = omega arith }

receiving-in : (on : Bool) {i : Inbox} → InboxIn i → InboxIn (with_receiving on i)
receiving-in on h = record { ring = h.ring; drops = h.drops }

-- no TX open
idle-in : (r : Radio) → held r ≡ [] → RadioIn r → AirIn (air r [] none)
idle-in r e x = record { tags = rw e tt; bounded = rw e (omega arith); radio = x; pending = tt }

pub at-power-up : StateIn power_up
at-power-up = record { run = tt; air = idle-in free refl tt; inbox = no-reception-in; receives = is-off }

-- ---- how long messages are

-- the bytes of a payload before those of variable length, at most
abbrev before : Answer → ℕ
before A.Ok = 0
before (A.Info m) = 37
before (A.Configured m) = 19
before (A.Err c) = 2
before (A.Rx m) = 20
before (A.TxDone r t) = 5

length-answer : (a : Answer) (bs : List ℕ) → length (answer_bytes a bs) ≤ before a + length bs
unfolding answer_bytes configured_bytes rx_bytes tx_done_bytes lay le
length-answer A.Ok bs = omega arith
length-answer (A.Info m) bs = omega (arith, length-info m bs)
length-answer (A.Configured m) bs = omega (arith, length-config m.current bs, fixed-most m.current)
length-answer (A.Err c) bs = omega arith
length-answer (A.Rx m) bs = omega arith
length-answer (A.TxDone r t) bs = omega arith

-- the length of a payload, at most
abbrev longest : Message → ℕ
longest m = before m.answer + length m.bytes

-- messages that can be sent, in n bytes at most
record Wired (n : ℕ) (ms : List Message) : Type 0 where
  sendable : AllSendable ms
  size : length (messages_bytes ms) ≤ n

silence : (n : ℕ) → Wired n []
unfolding messages_bytes
silence n = record { sendable = tt; size = omega arith }

one : (n : ℕ) (m : Message) → Sendable m → longest m + 7 + (longest m + 5) / 254 ≤ n → Wired n (m ∷ [])
unfolding messages_bytes
one n m s h = record { sendable = (s, tt); size = rw length-append (omega (arith, length-answer m.answer m.bytes, length-wire m)) }

both : (n : ℕ) {a b : ℕ} {xs ys : List Message} → Wired a xs → Wired b ys → a + b ≤ n → Wired n (xs ++ ys)
both n {a} {b} {xs} {ys} p q h =
    record {
      sendable = sendable-append xs ys p.sendable q.sendable;
      size = rw (wires-append xs ys, length-append) (omega (arith, p.size, q.size));
    }

done : (result airtime t : ℕ) → result ≤ tx_done_max → airtime < 0x100000000 → TagIn t → Wired 12 (tx_done result airtime t ∷ [])
done result airtime t r a h = one 12 (tx_done result airtime t) (done-sent result airtime r a t h) (omega arith)

-- a TX that is cancelled
cancel : (t : ℕ) → TagIn t → Wired 12 (tx_done CANCELLED 0 t ∷ [])
cancel t h = done CANCELLED 0 t (omega arith) (omega arith) h

cancels : (ts : List ℕ) → Each TagIn ts → Wired (12 * length ts) (cancelled ts)
cancels [] h = silence 0
cancels (t ∷ ts) h = both _ (cancel t h.0) (cancels ts h.1) (omega arith)

hears : (session : Bool) (t : ℕ) → t < 65536 → Wired 9 (if_session session (err ERADIO t))
hears true t h = one 9 (err ERADIO t) (err-sent ERADIO (omega arith) t h) (omega arith)
hears false t h = silence 9

-- ---- what an event leaves and writes

pub record Fits (s : State) (ms : List Message) : Type 0 where
  pub next : StateIn s
  pub sendable : AllSendable ms
  pub most : length (messages_bytes ms) ≤ 283
  pub others : wrote RX (map seen ms) ≡ false → length (messages_bytes ms) ≤ 201

abbrev pub Kept : Out → Type 0
Kept o = Fits o.next o.written

abbrev Does : Done → Type 0
Does x = Fits x.next x.written

keep : {s : State} {ms : List Message} → StateIn s → {n : ℕ} → Wired n ms → n ≤ 201 → Fits s ms
keep h w l =
    record { next = h; sendable = w.sendable; most = omega (arith, w.size); others = λ e. omega (arith, w.size) }

-- nothing is written
still : {s : State} → StateIn s → Fits s []
still h = keep h (silence 0) (omega arith)

-- one message is
writes : (m : Message) → Sendable m → longest m ≤ 85 → {s : State} → StateIn s → Fits s (m ∷ [])
writes m w l h = keep h (one 201 m w (omega arith)) (omega arith)

-- ---- the radio

-- the same TX open
moved : (q r : Radio) {ws : List Tx} {p o : Option Setting} → held q ≡ held r → RadioIn r → PendingIn o → AirIn (air q ws p) → AirIn (air r ws o)
moved q r e x y i = record { tags = rw e at i.tags; bounded = rw e at i.bounded; radio = x; pending = y }

-- one TX more waits
joined : (x : Tx) → TagIn x.tag → (r : Radio) {ws : List Tx} {p : Option Setting} → open# (air r ws p) < tx_max → AirIn (air r ws p)
    → AirIn (air r (ws ++ (x ∷ [])) p)
joined x t r {ws} l i =
    let e : held r ++ tags_of (ws ++ (x ∷ [])) ≡ (held r ++ tags_of ws) ++ (x.tag ∷ []) =
    ap (λ (ts : List ℕ). held r ++ ts) (tags-more ws x) ∙ sym (append_assoc (held r) (tags_of ws) (x.tag ∷ [])) in
    record {
      tags = rw e (each_append TagIn (held r ++ tags_of ws) (x.tag ∷ []) i.tags (t, tt));
      bounded = rw (e, length-append (held r ++ tags_of ws) (x.tag ∷ [])) (omega arith);
      radio = i.radio;
      pending = i.pending;
    }

begun-in : (x : Tx) (ws : List Tx) → Each TagIn (tags_of (x ∷ ws)) → length (tags_of (x ∷ ws)) ≤ tx_max → (first : Bool)
    → AirIn (air (begun first x.tag) ws none)
begun-in x ws t l true = record { tags = t; bounded = l; radio = tt; pending = tt }
begun-in x ws t l false = record { tags = t; bounded = l; radio = tt; pending = tt }

ended-in : (r : Radio) → RadioIn r → AirIn (air (ended r) [] none)
ended-in free x = idle-in free refl tt
ended-in (listening t) x = idle-in free refl tt
ended-in (on_air t) x = idle-in orphan refl tt
ended-in orphan x = idle-in orphan refl tt
ended-in (configuring c) x = idle-in (configuring c) refl x

end_kept : (r : Radio) → RadioIn r → Does (end_session r)
end_kept r x = still record { run = tt; air = ended-in r x; inbox = no-reception-in; receives = is-off }

-- ---- packets

cut_in : (p : Packet) → PacketIn p → HeldIn (cut p)
cut_in p k =
    record {
      values = record { rssi = k.rssi; snr = k.snr; freq_err = k.freq_err; timestamp_us = k.timestamp_us };
      short = omega (arith, length-take packet_max p.bytes);
    }

kept_in : (p : Packet) → HeldIn p → (i : Inbox) → InboxIn i → InboxIn (kept p i)
kept_in p k i h = go (ltb (length i.ring) ring_max)
  where
    later : Each HeldIn (drop 1 i.ring)
    later = each-drop HeldIn 1 i.ring h.ring

    go : (room : Bool)
        → InboxIn (cond room (inbox i.receiving (i.ring ++ (p ∷ [])) i.drops)
        (inbox i.receiving (drop 1 i.ring ++ (p ∷ [])) (min (suc i.drops) drops_max)))
    go true = record { ring = each_append HeldIn i.ring (p ∷ []) h.ring (k, tt); drops = h.drops }
    go false = record { ring = each_append HeldIn (drop 1 i.ring) (p ∷ []) later (k, tt); drops = omega arith }

kept-receives : (p : Packet) (i : Inbox) → (kept p i).receiving ≡ i.receiving
kept-receives p i = go (ltb (length i.ring) ring_max)
  where
    go : (room : Bool)
        → (cond room (inbox i.receiving (i.ring ++ (p ∷ [])) i.drops)
        (inbox i.receiving (drop 1 i.ring ++ (p ∷ [])) (min (suc i.drops) drops_max))).receiving ≡ i.receiving
    go true = refl
    go false = refl

-- ---- the events but byte

module _ (s : State) (h : StateIn s) where
  with-air : {a : Air} → AirIn a → StateIn (with_air a s)
  with-air i = record { run = h.run; air = i; inbox = h.inbox; receives = h.receives }

  with-inbox : {i : Inbox} → InboxIn i → Receives s.link.session s.config i.receiving → StateIn (with_inbox i s)
  with-inbox i k = record { run = h.run; air = h.air; inbox = i; receives = k }

  with-run : {session : Bool} {ticks : ℕ} {run : List ℕ} → Bytes run → Receives session s.config s.inbox.receiving
      → StateIn (with_link (link session ticks run) s)
  with-run r k = record { run = r; air = h.air; inbox = h.inbox; receives = k }

  start-kept : (x : Tx) (ws : List Tx) → Each TagIn (tags_of (x ∷ ws)) → length (tags_of (x ∷ ws)) ≤ tx_max → {n : ℕ} {ms : List Message}
      → Wired n ms → n ≤ 201 → Does (start x ws ms s)
  start-kept x ws t bounded w l = keep (with-air (begun-in x ws t bounded (listens s.config x.flags))) w l

  begin-kept : (c : Setting) → SettingIn c → {n : ℕ} {ms : List Message} → Wired n ms → n ≤ 201 → Does (begin c ms s)
  begin-kept c k w l = keep (with-air (idle-in (configuring c) refl k)) w l

  -- the four ways on after a TX
  next-kept : (p : Option Setting) → PendingIn p → (ws : List Tx) → Each TagIn (tags_of ws) → {n : ℕ} {ms : List Message} → Wired n ms
      → n + 12 * length (tags_of ws) ≤ 201 → Does (next p ws ms s)
  next-kept (some c) k ws t w l = begin-kept c k (both 201 w (cancels (tags_of ws) t) l) (omega arith)
  next-kept none k (x ∷ ws) t w l = start-kept x ws t (omega arith) w (omega arith)
  next-kept none k [] t w l = keep (with-air (idle-in free refl tt)) w (omega arith)

  after_kept : {n : ℕ} {ms : List Message} → Wired n ms → n + 12 * length (tags_of s.air.waiting) ≤ 201 → Does (after_tx ms s)
  after_kept w l =
      next-kept s.air.pending h.air.pending s.air.waiting
      (each_right TagIn (held s.air.radio) (tags_of s.air.waiting) h.air.tags) w l

  -- the state's air, with the radio r
  abbrev With : Radio → Type 0
  With r = AirIn (air r s.air.waiting s.air.pending)

  clear_kept : (r : Radio) → With r → Kept (on_clear r s)
  clear_kept free i = still h
  clear_kept (listening t) i = still (with-air (moved (listening t) (on_air t) refl tt i.pending i))
  clear_kept (on_air t) i = still h
  clear_kept orphan i = still h
  clear_kept (configuring c) i = still h

  busy-kept : (r : Radio) → With r → Kept (on_busy r s)
  busy-kept free i = still h
  busy-kept (listening t) i = after_kept (done CHANNEL_BUSY 0 t (omega arith) (omega arith) i.tags.0) (omega (arith, i.bounded))
  busy-kept (on_air t) i = still h
  busy-kept orphan i = still h
  busy-kept (configuring c) i = still h

  sent-kept : (airtime : ℕ) → airtime < 0x100000000 → (r : Radio) → With r → Kept (on_sent airtime r s)
  sent-kept airtime a free i = still h
  sent-kept airtime a (listening t) i = still h
  sent-kept airtime a (on_air t) i = after_kept (done TRANSMITTED airtime t (omega arith) a i.tags.0) (omega (arith, i.bounded))
  sent-kept airtime a orphan i = after_kept (silence 0) (omega (arith, i.bounded))
  sent-kept airtime a (configuring c) i = still h

  in-force-kept : (session : Bool) (c : Setting) → With (configuring c) → Does (in_force session c s)
  in-force-kept true c i =
      let k = i.radio.config in
      let a = moved (configuring c) free refl tt i.pending i in
      writes (ok_configured c) (configured-sent c i.radio.tag k) (omega (arith, k.word, k.short))
      (record { run = h.run; air = a; inbox = h.inbox; receives = set c.config h.receives })
  in-force-kept false c i = still (with-air (moved (configuring c) free refl tt i.pending i))

  configured-kept : (r : Radio) → With r → Kept (on_configured r s)
  configured-kept free i = still h
  configured-kept (listening t) i = still h
  configured-kept (on_air t) i = still h
  configured-kept orphan i = still h
  configured-kept (configuring c) i = in-force-kept s.link.session c i

  -- an ERR, and the TX with the radio is cancelled
  cancelled-kept : (t : ℕ) → TagIn t → length (t ∷ tags_of s.air.waiting) ≤ tx_max
      → Does (after_tx (if_session s.link.session (err ERADIO 0) ++ (tx_done CANCELLED 0 t ∷ [])) s)
  cancelled-kept t k l = after_kept (both 21 (hears s.link.session 0 (omega arith)) (cancel t k) (omega arith)) (omega arith)

  fault-kept : (r : Radio) → With r → Does (on_fault r s)
  fault-kept free i = after_kept (hears s.link.session 0 (omega arith)) (omega (arith, i.bounded))
  fault-kept (listening t) i = cancelled-kept t i.tags.0 i.bounded
  fault-kept (on_air t) i = cancelled-kept t i.tags.0 i.bounded
  fault-kept orphan i = after_kept (hears s.link.session 0 (omega arith)) (omega (arith, i.bounded))
  fault-kept (configuring c) i =
      let a = moved (configuring c) free refl tt i.pending i in
      let w = hears s.link.session c.tag i.radio.tag.1 in
      keep (record { run = h.run; air = a; inbox = receiving-in false h.inbox; receives = is-off }) w (omega arith)

  packet-kept : (fits : Bool) (p : Packet) → PacketIn p → Kept (on_packet fits p s)
  packet-kept true p k = still (with-inbox (kept_in (cut p) (cut_in p k) s.inbox h.inbox) (rw (kept-receives (cut p) s.inbox) h.receives))
  packet-kept false p k = still h

  request-kept : (ps : List Packet) → Each HeldIn ps → Does (on_request ps s)
  request-kept [] k = still h
  request-kept (p ∷ ps) k =
      let l = k.0.short in
      let w = one 283 (rx p s.inbox.drops) (rx-sent p k.0.values l s.inbox.drops h.inbox.drops) (omega arith) in
      record {
        next = with-inbox (record { ring = k.1; drops = omega arith }) h.receives;
        sendable = w.sendable;
        most = w.size;
        others = λ e. absurd (true≢false e);
      }

  tick-kept : Does (on_tick s)
  tick-kept = go (s.link.session && not (stalled s.air)) (eqb (suc s.link.ticks) ticks_max)
    where
      go : (counts last : Bool)
          → Does (cond counts (cond last (end_session s.air.radio) (does (with_link (link true (suc s.link.ticks) s.link.run) s) [] nothing))
          (does s [] nothing))
      go true true = end_kept s.air.radio h.air.radio
      go true false = still (with-run h.run (opened h.receives))
      go false last = still h

  disconnect-kept : (session : Bool) → s.link.session ≡ session → Does (on_disconnect session s)
  disconnect-kept true e = end_kept s.air.radio h.air.radio
  disconnect-kept false e = still (with-run tt (rw e at h.receives))

  -- ---- a command without an error

  set-kept : (c : Setting) → SettingIn c → (r : Radio) → With r → Does (on_set c r s)
  set-kept c k free i = begin-kept c k (cancels (tags_of s.air.waiting) i.tags) (omega (arith, i.bounded))
  set-kept c k (listening t) i = begin-kept c k (cancels (t ∷ tags_of s.air.waiting) i.tags) (omega (arith, i.bounded))
  set-kept c k (on_air t) i = still (with-air (moved (on_air t) (on_air t) refl tt k i))
  set-kept c k orphan i = still (with-air (moved orphan orphan refl tt k i))
  set-kept c k (configuring d) i = begin-kept c k (cancels (tags_of s.air.waiting) i.tags) (omega (arith, i.bounded))

  module _ (x : Tx) (k : TagIn x.tag) where
    waits_kept : (r : Radio) → With r → open# (air r s.air.waiting s.air.pending) < tx_max → Does (waits_for x r s)
    waits_kept r i l = writes (ok x.tag) (ok-sent x.tag k) (omega arith) (with-air (joined x k r l i))

    tx-kept : (r : Radio) → With r → open# (air r s.air.waiting s.air.pending) < tx_max → Does (on_tx x r s)
    tx-kept free i l = start-kept x s.air.waiting (k, i.tags) l (one 7 (ok x.tag) (ok-sent x.tag k) (omega arith)) (omega arith)
    tx-kept (listening t) i l = waits_kept (listening t) i l
    tx-kept (on_air t) i l = waits_kept (on_air t) i l
    tx-kept orphan i l = waits_kept orphan i l
    tx-kept (configuring c) i l = waits_kept (configuring c) i l

  turned-kept : (on : Bool) (t : ℕ) → TagIn t → Receives s.link.session s.config on → Does (turned on t s)
  turned-kept on t k r = writes (ok t) (ok-sent t k) (omega arith) (with-inbox (receiving-in on h.inbox) r)

-- ---- what steps 1 to 7 tell

and_right : (a b : Bool) → (a && b) ≡ true → b ≡ true
and_right true b e = e
and_right false b e = cc

and_left : (a b : Bool) → b ≡ true → (a && b) ≡ false → a ≡ false
and_left true b t e = absurd (true≢false (sym t ∙ e))
and_left false b t e = refl

-- RX_START needs a configuration
needs-config : (kind : ℕ) → eqb kind RX_START ≡ true → needs_config kind ≡ true
needs-config kind x = rw (eqb-true kind RX_START x)

-- the sync word that a SET_CONFIG brings has the length that its parameters say, 8 bytes at most
fsk-short : (b : Board) (m : Fsk) → fsk_good b m ≡ true → m.sync_word_len ≤ sync_word_max
unfolding fsk_good
fsk-short b m g = leb-true m.sync_word_len sync_word_max (and_right (freq_good b m.freq_hz) (leb m.sync_word_len sync_word_max) g)

word_in : (b : Board) (p : List ℕ) → other_modulation p ≡ false → config_sized p ≡ true → params_good b (config_of p) ≡ true
    → (length (sync_word p) ≡ word_len (config_of p)) × (word_len (config_of p) ≤ sync_word_max)
unfolding sync_word config_of params_good fsk_of
word_in b [] s z g = absurd (true≢false (sym z))
word_in b (x ∷ bs) s z g = go (eqb (get modulation_id (x ∷ bs)) LORA) refl (eqb (get modulation_id (x ∷ bs)) FSK) refl s z g
  where
    go : (lora : Bool) → eqb (get modulation_id (x ∷ bs)) LORA ≡ lora → (fsk : Bool) → eqb (get modulation_id (x ∷ bs)) FSK ≡ fsk
        → not (lora || fsk) ≡ false
        → cond lora (eqb (length bs) lora_size) (leb fsk_size (length bs) && eqb (length bs) (fsk_size + get sync_word_len bs)) ≡ true
        → params_good b (cond lora (M.Lora (lora_of bs)) (M.Fsk (fsk_of bs))) ≡ true
        → (length (cond fsk (take (get sync_word_len bs) (drop fsk_size bs)) []) ≡ word_len (cond lora (M.Lora (lora_of bs)) (M.Fsk (fsk_of bs))))
        × (word_len (cond lora (M.Lora (lora_of bs)) (M.Fsk (fsk_of bs))) ≤ sync_word_max)
    go true d true e s z g = absurd (omega (arith, eqb-true (get modulation_id (x ∷ bs)) LORA d, eqb-true (get modulation_id (x ∷ bs)) FSK e))
    go true d false e s z g = (refl, zero-le)
    go false d true e s z g =
        let n = eqb-true (length bs) (fsk_size + get sync_word_len bs) (and_right (leb fsk_size (length bs)) _ z) in
        (omega (arith, length-take (get sync_word_len bs) (drop fsk_size bs), length-drop fsk_size bs), fsk-short b (fsk_of bs) g)
    go false d false e s z g = absurd (true≢false s)

module _ (b : Board) (s : State) (kind : ℕ) (p : List ℕ) where
  -- of a command that no step objects to: what was tested
  record Passed : Type 0 where
    ready : (unconfigured s.config && needs_config kind) ≡ false
    known : (eqb kind SET_CONFIG && other_modulation p) ≡ false
    size : sized kind p ≡ true
    params : good b kind p ≡ true
    room : (eqb kind TX && leb tx_max (open# s.air)) ≡ false

  -- and of any other: its error code is a u16
  abbrev Told : Option ℕ → Type 0
  Told none = Passed
  Told (some code) = code < 65536

  test : (t : Bool) (code : ℕ) (o : Option ℕ) → code < 65536 → (t ≡ false → Told o) → Told (cond t (some code) o)
  test true code o l h = l
  test false code o l h = h refl

  told : Told (error_of b s kind p)
  unfolding error_of
  told =
      test (not (is_command kind)) EUNKNOWN_CMD _ (omega arith) (λ a₂.
      test (unconfigured s.config && needs_config kind) ENOTCONFIGURED _ (omega arith) (λ a₃.
      test (eqb kind SET_CONFIG && other_modulation p) EMODULATION _ (omega arith) (λ a₄.
      test (not (sized kind p)) ELENGTH _ (omega arith) (λ a₅.
      test (not (good b kind p)) EPARAM _ (omega arith) (λ a₆.
      test (eqb kind TX && leb tx_max (open# s.air)) EBUSY none (omega arith) (λ a₇.
      record { ready = a₃; known = a₄; size = not-false (sized kind p) a₅; params = not-false (good b kind p) a₆; room = a₇ }))))))

  module _ (h : Passed) where
    tx-fits : eqb kind TX ≡ true → open# s.air < tx_max
    tx-fits x = leb-false tx_max (open# s.air) (rw x at h.room)

    rx-starts : eqb kind RX_START ≡ true → Receives true s.config true
    rx-starts x = turned_on s.config (and_left (unconfigured s.config) (needs_config kind) (needs-config kind x) h.ready)

    set-in : eqb kind SET_CONFIG ≡ true → (t : ℕ) → TagIn t → Bytes p → SettingIn (setting_of t p)
    set-in x t k bytes =
        let w = word_in b p (rw x at h.known) (rw x at h.size) (rw x at h.params) in
        record { tag = k; config = record { values = config-in p bytes; word = w.0; short = w.1 } }

-- a command's tag is a u16 and not zero, and its payload is of bytes
abbrev pub ReceivedIn : Received → Type 0
ReceivedIn damaged = Unit {0}
ReceivedIn (command kind t p) = TagIn t × Bytes p

pub received-in : (run : List ℕ) → Bytes run → ReceivedIn (received run)
unfolding received
received-in run h = go (open_answer run encoded_max) refl
  where
    go : (o : Opened) → open_answer run encoded_max ≡ o → ReceivedIn (untagged o (payload_of (decoded run)))
    go (O.Body kind zero n) e = tt
    go (O.Body kind (suc t) n) e =
        let b = decoded run in
        ((omega arith, opened-tag run encoded_max h e), each_take IsByte (length b - overhead) (drop 3 b) (each-drop IsByte 3 b (decoded-bytes run h)))
    go (O.Refused r) e = tt

-- ---- byte

uids-short : (b : Board) → BoardIn b → length (uids_of b) ≤ 48
uids-short b h = rw (length-append b.mcu_uid b.radio_uid) (omega (arith, h.mcu_uid, h.radio_uid))

-- in an open session
module _ (b : Board) (board : BoardIn b) (s : State) (h : StateIn s) (awake : s.link.session ≡ true) where
  module _ (kind t : ℕ) (p : List ℕ) (k : TagIn t) (bytes : Bytes p) where
    command-kept : Passed b s kind p → Does (on_command b kind t p s)
    command-kept e = go (eqb kind TX) refl (eqb kind SET_CONFIG) refl (eqb kind RX_START) refl (eqb kind RX_STOP) (eqb kind GET_INFO)
      where
        go : (tx : Bool) → eqb kind TX ≡ tx → (set : Bool) → eqb kind SET_CONFIG ≡ set → (rx-start : Bool) → eqb kind RX_START ≡ rx-start
            → (rx-stop get-info : Bool)
            → Does (cond tx (on_tx (tx_of t p) s.air.radio s)
            (cond set (on_set (setting_of t p) s.air.radio (with_inbox (ring_emptied s.inbox) s))
            (cond rx-start (turned true t s)
            (cond rx-stop (turned false t s)
            (cond get-info (writes_first (ok_info b t) nothing s)
            (writes_first (ok t) nothing s))))))
        go true x set y c z d f = tx-kept s h (tx_of t p) k s.air.radio h.air (tx-fits b s kind p e x)
        go false x true y c z d f =
            set-kept (with_inbox (ring_emptied s.inbox) s) (with-inbox s h (emptied-in s.inbox) h.receives) (setting_of t p)
            (set-in b s kind p e y t k bytes) s.air.radio h.air
        go false x false y true z d f = turned-kept s h true t k (rw awake (rx-starts b s kind p e z))
        go false x false y false z true f = turned-kept s h false t k is-off
        go false x false y false z false true = writes (ok_info b t) (info-sent b board t k) (omega (arith, uids-short b board)) h
        go false x false y false z false false = writes (ok t) (ok-sent t k) (omega arith) h

    unless-kept : (o : Option ℕ) → Told b s kind p o → Does (unless o b kind t p s)
    unless-kept (some code) c = writes (err code t) (err-sent code c t k.1) (omega arith) h
    unless-kept none c = command-kept c

  received-kept : (r : Received) → ReceivedIn r → Does (on_received b r s)
  received-kept damaged k = writes (err EFRAME 0) (err-sent EFRAME (omega arith) 0 (omega arith)) (omega arith) h
  received-kept (command kind t p) k = unless-kept kind t p k.0 k.1 (error_of b s kind p) (told b s kind p)

module _ (b : Board) (board : BoardIn b) (s : State) (h : StateIn s) where
  run-kept : (run : List ℕ) → Bytes run → Does (on_run b run s)
  run-kept [] r = still h
  run-kept (x ∷ xs) r =
      let awake = with-run s h tt (opened h.receives) in
      received-kept b board (with_link (link true 0 []) s) awake refl (received (x ∷ xs)) (received-in (x ∷ xs) r)

  byte-kept : (n : ℕ) → n < 256 → Does (on_byte b n s)
  byte-kept zero l = run-kept s.link.run h.run
  byte-kept (suc n) l = still (with-run s h (each_append IsByte s.link.run (suc n ∷ []) h.run (l, tt)) h.receives)

  stalled-kept : (stall : Bool) (n : ℕ) → n < 256 → Kept (unless_stalled stall b n s)
  stalled-kept true n l = still h
  stalled-kept false n l = byte-kept n l

  -- ---- the ten events

  event-kept : (e : Event) → EventIn e → Kept (on_event b e s)
  event-kept (byte n) l = stalled-kept (stalled s.air) n l
  event-kept tick l = tick-kept s h
  event-kept clear l = clear_kept s h s.air.radio h.air
  event-kept busy l = busy-kept s h s.air.radio h.air
  event-kept (sent airtime) l = sent-kept s h airtime l s.air.radio h.air
  event-kept configured l = configured-kept s h s.air.radio h.air
  event-kept fault l = fault-kept s h s.air.radio h.air
  event-kept (packet p) l = packet-kept s h (s.inbox.receiving && free? s.air.radio) p l
  event-kept request l = request-kept s h s.inbox.ring h.inbox.ring
  event-kept disconnect l = disconnect-kept s h s.link.session refl

  room-kept : (short : Bool) (e : Event) → EventIn e → Kept (unless_room short b e s)
  room-kept true e l = still h
  room-kept false e l = event-kept e l

pub keeps : (b : Board) → BoardIn b → (s : State) → StateIn s → (i : Input) → InputIn i → Kept (step b s i)
unfolding step
keeps b board s h i l = room-kept b board s h (ltb i.room room_min) i.event l

-- ---- the board that 01 names

pub sx1262-in : BoardIn sx1262
unfolding sx1262 board_info bitmap
sx1262-in =
    record {
      info =
          record {
            proto_major = omega arith;
            proto_minor = omega arith;
            fw_major = omega arith;
            fw_minor = omega arith;
            fw_patch = omega arith;
            radio_chip_id = omega arith;
            capability_bitmap = omega arith;
            supported_sf_bitmap = omega arith;
            supported_bw_bitmap = omega arith;
            max_payload_bytes = omega arith;
            rx_queue_capacity = omega arith;
            tx_queue_capacity = omega arith;
            freq_min_hz = omega arith;
            freq_max_hz = omega arith;
            tx_power_min_dbm = omega arith;
            tx_power_max_dbm = omega arith;
            mcu_uid_len = omega arith;
            radio_uid_len = omega arith;
          };
      mcu_uid = omega arith;
      radio_uid = omega arith;
    }
