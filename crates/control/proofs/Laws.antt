-- Laws by which an event's answer is put together: nothing is said, frames are said first, and the room is tested before all else.
-- Assumes nothing.
use Prim.Native.Nat.{ℕ, ◌+◌, ◌≤◌, ◌<◌}
use mathlib.Core.Path.{◌≡◌, refl, sym, ap, ◌∙◌}
use mathlib.Core.List.{List, [], ◌++◌}
use native.Mathlib.Nat.{zero-add, add-zero}
use native.Mathlib.Omega.{arith}
use borrow.Author.Tests.{lt-ltb, le-ltb}
use lib.ListN.{length, length-append}
use Rattle.status.specs.Numbers.{TAKEN, ROOM}
use Rattle.buffer.proofs.Laws.{lay-none}
use Rattle.device.specs.Messages.{Frame}
use Rattle.device.specs.Events.{room_min}
use Rattle.emit.specs.Emitting.{frames_bytes}
use Rattle.emit.proofs.Laws.{lay-after, sends-append, Sent}
use Rattle.control.specs.declared.Device.{Device}
use Rattle.control.specs.declared.Order.{Order}
use Rattle.control.specs.declared.Order.TheVariants.{Nothing}
use Rattle.control.specs.declared.Taken.{Taken}
use Rattle.control.specs.declared.Reply.{Reply}
use Rattle.control.specs.Control.{Done, does, writes_first, Out, taken, refused, within, done_at, replied, reply_numbers, Gives, Returns, Replies}

-- what is done, by its three parts, and what gives it
abbrev pub did_with : Device → ℕ → Order → Taken
did_with d w q = record { device = d; written = w; order = q }

-- an answer by its four parts
abbrev pub answered : Device → ℕ → ℕ → Order → Reply
answered d n w q = record { device = d; number = n; written = w; order = q }

-- ---- nothing is said

-- then no byte more is written
pub plain : (d : Device) (at : ℕ) (q : Order) {r : Taken} → r ≡ did_with d at q → r ≡ done_at at (does d [] q)
unfolding frames_bytes
plain d at q e = rw add-zero e

-- the output stays
pub writes_nothing : (x : Done) (o : List ℕ) (at : ℕ) {r : Taken} → x.writes ≡ [] → r ≡ done_at at x → Gives x o at r o
unfolding frames_bytes
writes_nothing x o at s e = record { does = e; writes = rw s (sym (lay-none at o)) }

pub quiet : (d : Device) (q : Order) (o : List ℕ) (at : ℕ) {r : Taken} → r ≡ did_with d at q → Gives (does d [] q) o at r o
quiet d q o at e = writes_nothing (does d [] q) o at refl (plain d at q e)

-- ---- frames are said

-- and that is all
pub spoken : (d : Device) (q : Order) {fs : List Frame} {o o1 : List ℕ} {at w : ℕ} {r : Taken} → Sent fs o at w o1
    → r ≡ did_with d w q → Gives (does d fs q) o at r o1
spoken d q s e = record { does = e ∙ ap (λ (w : ℕ). did_with d w q) s.ends; writes = s.lays }

-- and then what x gives
pub then : {x : Done} {fs : List Frame} {o o1 o2 : List ℕ} {at w : ℕ} {r : Taken} → Sent fs o at w o1 → Gives x o1 w r o2 → Gives (writes_first fs x) o at r o2
then {x} {fs} {o} {at = at} {w} s g =
    let n : w + length (frames_bytes x.writes) ≡ at + length (frames_bytes (fs ++ x.writes)) = rw (sends-append, length-append) (omega (arith, s.ends)) in
    record {
      does = g.does ∙ ap (λ (k : ℕ). did_with x.next k x.order) n;
      writes = g.writes ∙ rw (s.lays, s.ends, sends-append) (lay-after at (frames_bytes fs) (frames_bytes x.writes) o);
    }

-- ---- what is given is given by another name

pub gives : {x : Done} (y : Done) {o o' : List ℕ} {at : ℕ} {r : Taken} → x ≡ y → Gives y o at r o' → Gives x o at r o'
gives y e g = rw e g

-- ---- answers

-- an answer tells all that it is
pub returns : (x : Out) {r : Reply} → r ≡ replied x → Returns x r
returns x e = record { state = ap (λ (a : Reply). a.device) e; numbers = ap reply_numbers e }

-- a refusal, and that it leaves the output
pub returns-refusal : (n : ℕ) (d : Device) {r : Reply} → r ≡ answered d n 0 Nothing → Returns (refused n d) r
unfolding frames_bytes
returns-refusal n d e = returns (refused n d) e

pub refusal : (n : ℕ) (d : Device) (o : List ℕ) {r : Reply} → r ≡ answered d n 0 Nothing → Replies (refused n d) o r o
unfolding frames_bytes
refusal n d o e = record { returns = returns-refusal n d e; writes = sym (lay-none 0 o) }

-- an answer of which nothing is said leaves it
pub silently : (x : Out) (o : List ℕ) {r : Reply} → x.writes ≡ [] → Returns x r → Replies x o r o
unfolding frames_bytes
silently x o s t = record { returns = t; writes = rw s (sym (lay-none 0 o)) }

-- what is done by one that is taken
pub returns-taken : (x : Done) {t : Taken} {r : Reply} → t ≡ done_at 0 x → r ≡ answered t.device TAKEN t.written t.order → Returns (taken x) r
returns-taken x e f = returns (taken x) (rw zero-add at (rw e at f))

pub takes : (x : Done) {o o' : List ℕ} {t : Taken} {r : Reply} → Gives x o 0 t o' → r ≡ answered t.device TAKEN t.written t.order
    → Replies (taken x) o r o'
takes x g f = record { returns = returns-taken x g.does f; writes = g.writes }

-- frames are said, and that is all
pub writes-all : (d : Device) (q : Order) {fs : List Frame} {o o' : List ℕ} {w : ℕ} {r : Reply} → Sent fs o 0 w o' → r ≡ answered d TAKEN w q
    → Replies (taken (does d fs q)) o r o'
writes-all d q {fs} s e = takes (does d fs q) {t = did_with d _ q} (spoken d q s refl) e

-- where that says nothing
pub returns-quiet : (d : Device) (q : Order) {r : Reply} → r ≡ answered d TAKEN 0 q → Returns (taken (does d [] q)) r
unfolding frames_bytes
returns-quiet d q e = returns (taken (does d [] q)) e

-- an answer is given by another name
pub told-by : {x : Out} (y : Out) {r : Reply} → x ≡ y → Returns y r → Returns x r
told-by y e g = rw e g

pub answers : {x : Out} (y : Out) {o o' : List ℕ} {r : Reply} → x ≡ y → Replies y o r o' → Replies x o r o'
answers y e g = rw e g

-- ---- the room

module _ (room : ℕ) (d : Device) (x : Out) where
  pub entered : room_min ≤ room → within room d x ≡ x
  unfolding within
  entered h = simp (le-ltb room room_min h)

  pub closed : room < room_min → within room d x ≡ refused ROOM d
  unfolding within
  closed h = simp (lt-ltb room room_min h)
