-- A byte, in code and in the definition: a zero that ends the run, or another that joins it.
-- Assumes nothing.
use mathlib.Core.Path.{◌≡◌, sym, ap, subst}
use mathlib.Core.Bool.{true, false}
use mathlib.Core.List.{List, [], ◌∷◌}
use Prim.Native.Nat.{ℕ, zero, suc, ◌<◌}
use native.Mathlib.Omega.{arith}
use borrow.Author.Tests.{lt-ltb, le-ltb}
use lib.ListN.{length}
use lib.Seq.{length-take-le}
use Rattle.scalar.specs.Bytes.{Bytes}
use Rattle.frame.specs.Reading.{open_answer}
use Rattle.board.specs.Board.{sx1262}
use Rattle.device.specs.State.{State}
use Rattle.device.specs.State as S
use Rattle.kind.specs.Kinds.{EFRAME}
use Rattle.device.specs.Messages.{err}
use Rattle.device.specs.Frames.{Received, damaged, command, received}
use Rattle.device.specs.Events as E
use Rattle.device.proofs.Ranges.{AirIn, ReceivedIn, received-in}
use Rattle.control.specs.declared.Device.{Device}
use Rattle.control.specs.Control.{link, with_link, stalled}
use Rattle.dispatch.specs.Commands.{CommandGives, on_received}
use Rattle.link.specs.Link.{dispatches, on_run, on_zero, on_byte}
use Rattle.refinement.proofs.Stands.{RunAs, as-run, as_long, Stands, Agrees, quietly}
use Rattle.refinement.proofs.Link.{opens, on-join}
use Rattle.refinement.proofs.Commands.{Ruling, answers}
use Rattle.refinement.proofs.Commands as C

-- ---- what a run brings

-- one that is too long is damaged
long-damaged : (run : List ℕ) → 282 < length run → received run ≡ damaged
unfolding received open_answer
long-damaged run h = rw (lt-ltb 282 (length run) h)

module _ {d : Device} {run m ps : List ℕ} {s : State} (h : Stands d run m ps s) (calm : stalled d.air ≡ false) (g : AirIn s.air)
    (q : s.air.radio ≡ S.free → s.air.waiting ≡ []) where
  on-received : (f : Received) → ReceivedIn f → Ruling h calm (on_received f m d) (E.on_received sx1262 f s)
  on-received damaged i = answers h calm (err EFRAME 0)
  on-received (command kind t p) i = C.judges h calm kind t p i.0 i.1 g q

module _ {d : Device} {run m ps : List ℕ} {s : State} (h : Stands d run m ps s) (calm : stalled d.air ≡ false) (g : AirIn s.air)
    (q : s.air.radio ≡ S.free → s.air.waiting ≡ []) (bytes : Bytes s.link.run) where
  -- the run has ended, and brings f
  brings : (f : Received) → ReceivedIn f → (n : ℕ) → dispatches n run m (with_link d (link true 0 0)) ≡ on_received f m (with_link d (link true 0 0))
      → Ruling h calm (dispatches n run m (with_link d (link true 0 0))) (E.on_received sx1262 f (S.with_link (S.link true 0 []) s))
  brings f i n e =
      subst (λ (x : CommandGives). Ruling h calm x (E.on_received sx1262 f (S.with_link (S.link true 0 []) s))) (sym e)
      (on-received (opens h) calm g q f i)

  on-run : (n : ℕ) (rs : List ℕ) → RunAs run n rs → Bytes rs → Ruling h calm (on_run n run m d) (E.on_run sx1262 rs s)
  on-run zero [] a b = quietly h
  on-run zero (r ∷ rs) (as-run l e) b = absurd (omega (arith, ap length e))
  on-run zero (r ∷ rs) (as_long l e) b = absurd (omega arith)
  on-run (suc n) [] (as-run l e) b = absurd (omega (arith, ap length e, length-take-le (suc n) run (omega (arith, h.link.long))))
  on-run (suc n) [] (as_long l e) b = absurd (omega arith)
  on-run (suc n) (r ∷ rs) (as-run l e) b =
      brings (received (r ∷ rs)) (received-in (r ∷ rs) b) (suc n) (rw (le-ltb 282 (suc n) l, ← e))
  on-run (suc n) (r ∷ rs) (as_long l e) b =
      subst (λ (f : Received). Ruling h calm (dispatches (suc n) run m (with_link d (link true 0 0)))
      (E.on_received sx1262 f (S.with_link (S.link true 0 []) s)))
      (sym (long-damaged (r ∷ rs) e))
      (brings damaged tt (suc n) (rw (lt-ltb 282 (suc n) (omega arith))))

  pub on-byte : (b : ℕ) → Agrees (on_byte b run m d).gives (on_byte b run m d).run (on_byte b run m d).commands ps (E.on_byte sx1262 b s)
  unfolding on_zero
  on-byte zero = on-run d.link.run s.link.run h.link.bytes bytes
  on-byte (suc n) = on-join h (suc n)
