-- The three cases of `requestOut`: no room, nothing held, and a packet that is delivered.
-- Assumes nothing.
use Prim.Native.Nat.{◌-◌}
use native.Mathlib.Omega.{arith}
use Rattle.inbox.proofs.Laws.{no-room-out, none-held, delivered}
use Rattle.inbox.proofs.request.Goals as goal

pub returns-then-out-lt-ROOM_MIN : goal.returns-then-out-lt-ROOM_MIN
returns-then-out-lt-ROOM_MIN c =
    let s = c.args in
    no-room-out s.out.now s.packets.now s.d c.if-out-lt-ROOM_MIN.true c.refuse.ensures

pub returns-then-held-eq0 : goal.returns-then-held-eq0
returns-then-held-eq0 c =
    let s = c.args in
    let if1 = c.if-out-lt-ROOM_MIN in
    let if2 = c.if-held-eq0 in
    none-held s.out.now s.packets.now s.d if1.false if2.true c.accept.ensures

pub returns : goal.returns
returns c =
    let s = c.args in
    let if1 = c.if-out-lt-ROOM_MIN in
    let if2 = c.if-held-eq0 in
    let deliver = c.deliver-w in
    let with-inbox = c.with_inbox-e in
    let w = deliver.ensures in
    delivered s.out.now s.packets.now s.d if1.false (s.d.inbox.held - 1) (omega (arith, if2.false)) w.packets_after w.writes
    (rw with-inbox.ensures at c.accept-2.ensures)
