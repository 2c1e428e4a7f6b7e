-- The three cases of `packetOut`: no room, no place, and a packet that is kept.
-- Assumes nothing.
use Rattle.inbox.specs.Packets.{received_packet}
use Rattle.inbox.proofs.Laws.{no_room, no_place, placed}
use Rattle.inbox.proofs.packet.Goals as goal

pub returns-then-room-lt-ROOM_MIN : goal.returns-then-room-lt-ROOM_MIN
returns-then-room-lt-ROOM_MIN c =
    let s = c.args in
    let if1 = c.if-room-lt-ROOM_MIN in
    no_room s.room (received_packet s.h s.bytes.now) s.packets.now s.d if1.true c.refuse.ensures

pub returns-then-i-is_free : goal.returns-then-i-is_free
returns-then-i-is_free c =
    let s = c.args in
    let if1 = c.if-room-lt-ROOM_MIN in
    let is_free = c.is_free in
    let if2 = c.if-i-is_free in
    let keep = c.keep in
    let more = c.more in
    let with-inbox = c.with_inbox-e in
    placed s.room (received_packet s.h s.bytes.now) s.packets.now s.d if1.false
    (rw is_free.ensures at if2.true) (rw (with-inbox.ensures, more.ensures) at c.accept.ensures) keep.ensures

pub returns : goal.returns
returns c =
    let s = c.args in
    let if1 = c.if-room-lt-ROOM_MIN in
    let is_free = c.is_free in
    let if2 = c.if-i-is_free in
    no_place s.room (received_packet s.h s.bytes.now) s.packets.now s.d if1.false
    (rw is_free.ensures at if2.false) c.refuse-2.ensures
