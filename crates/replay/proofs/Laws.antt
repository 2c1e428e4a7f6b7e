-- How long the lines of a trace may be: a byte has two digits, a number 20 at most, and the rest is names and blanks.
-- Assumes nothing.
use mathlib.Core.Path.{◌≡◌, refl}
use mathlib.Core.Bool.{Bool, true, false, cond}
use mathlib.Core.List.{List, [], ◌∷◌}
use Prim.Native.Nat.{ℕ, ◌+◌, ◌*◌, ◌≤◌}
use native.Mathlib.Omega.{arith}
use lib.ListN.{length, take, drop, length-append, length-take, length-drop}
use Rattle.control.specs.declared.Reply.{Reply}
use Rattle.control.specs.declared.Order.{Order}
use Rattle.control.specs.declared.Order.TheVariants as O
use Rattle.text.specs.Text.{hex}
use Rattle.text.proofs.Digits.{length-decimal}
use Rattle.trace.specs.Traces.{plain, flag, order_text, bytes_text, number_column, trace_line, event_text, count_line}

length-hex : (bs : List ℕ) → length (hex bs) ≡ 2 * length bs
unfolding hex
length-hex [] = refl
length-hex (b ∷ bs) = omega (arith, length-hex bs)

length-flag : (on : Bool) → length (flag on) ≡ 2
length-flag true = refl
length-flag false = refl

-- an order that names bytes
named : (n at : ℕ) (m : List ℕ) → length m ≤ 4403 → length (hex (take n (drop at m))) ≤ 8806
named n at m h = rw (length-hex, length-take, length-drop) (omega arith)

order-most : (o : Order) (m : List ℕ) → length m ≤ 4403 → length (order_text o m) ≤ 8818
order-most O.Nothing m h = omega arith
order-most O.Standby m h = omega arith
order-most (O.Configure at n ldro) m h = omega (arith, length-append (flag ldro) (hex (take n (drop at m))), length-flag ldro, named n at m h)
order-most (O.Transmit at n listen) m h = omega (arith, length-append (flag listen) (hex (take n (drop at m))), length-flag listen, named n at m h)
order-most O.Receive m h = omega arith

bytes_most : (bs : List ℕ) → length (bytes_text bs) ≤ 2 * length bs + 1
bytes_most [] = omega arith
bytes_most (b ∷ bs) = omega (arith, length-hex (b ∷ bs))

line-most : (k : ℕ) (a : Reply) (m out : List ℕ) → length m ≤ 4403 → length out ≤ 4096 → length (trace_line k a m out) ≤ 17700
unfolding trace_line number_column
line-most k a m out h l =
    simp length-append
    (omega (arith, length-decimal k, length-decimal a.number, order-most a.order m h, bytes_most (take a.written out), length-take a.written out))

pub event-most : (k : ℕ) (a : Reply) (m out : List ℕ) → length m ≤ 4403 → length out ≤ 4096 → length (event_text k a m out) ≤ 17700
unfolding event_text
event-most k a m out h l = go (plain a)
  where
    go : (b : Bool) → length (cond b [] (trace_line k a m out)) ≤ 17700
    go true = omega arith
    go false = line-most k a m out h l

pub count_most : (name : List ℕ) (n : ℕ) → length (count_line name n) ≤ length name + 21
unfolding count_line
count_most name n = simp length-append (omega (arith, length-decimal n))
