-- The bytes that an order names, on single lists of calls, by computing. They follow from `bytes-stay`; here a wrong device of must-fail/ is seen to break what
-- is demanded, and not only its proof.
-- Assumes nothing.
use Prim.Native.Nat.{ℕ}
use mathlib.Core.Path.{◌≡◌, refl}
use mathlib.Core.Bool.{false}
use mathlib.Core.List.{List, [], ◌∷◌, ◌++◌, map}
use mathlib.Core.Option.{Option, some}
use lib.ListN.{take, drop, replicate}
use Rattle.kind.specs.Kinds.{TX}
use Rattle.device.specs.State.{disconnect, Input}
use Rattle.device.specs.Scripts.{lent, sent_as, ready}
use Rattle.device.proofs.Computing.{computes}
use Rattle.control.specs.Control.{within}
use Rattle.slot.specs.Slots.{command_kept}
use Rattle.emit.specs.Emitting.{bytes_of}
use Rattle.emit.specs.Emitting as W
use Rattle.queue.specs.Queue.{start, ldro_at, begin}
use Rattle.session.specs.Session.{end_session, disconnect_out}
use Rattle.outcome.specs.Outcomes.{configured_out}
use Rattle.dispatch.specs.Commands.{on_tx, on_set, dispatched}
use Rattle.link.specs.Link.{on_join, on_zero, byte_out}
use Rattle.machine.specs.Machine.{Call, stepped}
use Rattle.refinement.specs.Refines.{zeros}
use Rattle.refinement.specs.Named.{Named, Orders, Past, after_call, after_calls, past, code_orders}

abbrev code : Orders
code = code_orders zeros

-- events as calls
abbrev calls : List Input → List Call
calls is = map (λ i. record { event = i.event; out = replicate i.room 0 }) is

-- the bytes that the radio needs, and those that stand there
record Place : Type 0 where
  needed : Option Named
  now : List ℕ

abbrev at : ℕ → ℕ → Past code → Place
at k n h = record { needed = h.needed; now = take n (drop k (code.commands h.device)) }

-- bs stand at k, where the radio needs them
abbrev Stays : List Input → ℕ → ℕ → List ℕ → Type 0
Stays is k n bs = at k n (past code (calls is)) ≡ record { needed = some (record { at = k; size = n; bytes = bs; listens = false }); now = bs }

-- what the code's definitions compute with, beside those of crate device
unfoldable pub runs_computes : Unit {0}
unfolding
    computes within command_kept bytes_of W.frames_bytes start ldro_at begin end_session disconnect_out configured_out
    on_tx on_set dispatched on_join on_zero byte_out stepped after_call after_calls past
runs_computes = tt

-- the packet of an orphan: slot 0, after length, tag and flags
pub orphan : Stays (ready ++ (sent_as TX 20 (0x01 ∷ 0x41 ∷ 0x42 ∷ []) ++ (lent disconnect ∷ []))) 4 2 (0x41 ∷ 0x42 ∷ [])
unfolding runs_computes
orphan = refl
