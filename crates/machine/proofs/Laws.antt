-- What is left of a call is what it is in each part.
-- Assumes nothing.
use Prim.Native.Nat.{ℕ}
use mathlib.Core.Path.{◌≡◌, sym}
use mathlib.Core.List.{List}
use Rattle.control.specs.declared.Device.{Device}
use Rattle.control.specs.declared.Reply.{Reply}
use Rattle.control.specs.Control.{Out, replied, reply_numbers, Returns}
use Rattle.machine.specs.Machine.{Left}

pub left_by : {x : Out} {r : Reply} {run run' m m' p p' o o' : List ℕ} → Returns x r → run' ≡ run → m' ≡ m → p' ≡ p → o' ≡ o
    → ◌≡◌ {A = Left} (record { device = x.next; answer = reply_numbers (replied x); run = run; commands = m; packets = p; out = o })
    (record { device = r.device; answer = reply_numbers r; run = run'; commands = m'; packets = p'; out = o' })
left_by t a b c d = go (sym t.state) (sym t.numbers) (sym a) (sym b) (sym c) (sym d)
  where
    go : {e e' : Device} {n n' run run' m m' p p' o o' : List ℕ} → e ≡ e' → n ≡ n' → run ≡ run' → m ≡ m' → p ≡ p' → o ≡ o'
        → ◌≡◌ {A = Left} (record { device = e; answer = n; run = run; commands = m; packets = p; out = o })
        (record { device = e'; answer = n'; run = run'; commands = m'; packets = p'; out = o' })
    go e n a b c d = rw (e, n, a, b, c, d)
