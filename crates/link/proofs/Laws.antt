-- What a run is received as, by what opening it answers; what the end of a run gives, by its length; and what a byte gives, test by test.
-- Assumes nothing.
use mathlib.Core.Path.{◌≡◌, refl}
use mathlib.Core.Bool.{Bool, true, false, cond}
use mathlib.Core.List.{List, []}
use Prim.Native.Nat.{ℕ, zero, suc, ◌≤◌, ◌<◌}
use native.Mathlib.Omega.{arith}
use borrow.Author.Tests.{lt-ltb, le-ltb}
use lib.Dec.{ltb}
use lib.ListN.{take}
use Rattle.status.specs.Numbers.{ROOM, STALL}
use Rattle.cobs.specs.Decoding.{decoded}
use Rattle.cobs.specs.Answers.{encoded_max}
use Rattle.frame.specs.Body.{payload_of}
use Rattle.frame.specs.Reading.{open_answer}
use Rattle.frame.specs.declared.Opened.TheVariants as O
use Rattle.status.specs.declared.Refusal.{Refusal}
use Rattle.device.specs.Frames.{damaged, command, received}
use Rattle.device.specs.Events.{room_min}
use Rattle.control.specs.declared.Device.{Device}
use Rattle.control.specs.declared.Order.TheVariants.{Nothing}
use Rattle.control.specs.Control.{link, with_link, stalled, Done, does, Out, taken, refused}
use Rattle.dispatch.specs.Commands.{command_gives, on_received}
use Rattle.link.specs.Link.{ByteGives, byte_gives, longer, stored, joins_run, on_join, on_run, on_zero, unless_refused, join_out, byte_out}

-- ---- a run that was opened

module _ (run : List ℕ) where
  pub refused-run : {r : Refusal} → open_answer run encoded_max ≡ O.Refused r → received run ≡ damaged
  unfolding received
  refused-run e = rw e

  pub untagged-run : {k t n : ℕ} → open_answer run encoded_max ≡ O.Body k t n → t ≡ 0 → received run ≡ damaged
  unfolding received
  untagged-run e z = rw (e, z)

  pub tagged-run : {k t n : ℕ} → open_answer run encoded_max ≡ O.Body k t n → (t ≡ 0 → ⊥) → received run ≡ command k t (payload_of (decoded run))
  unfolding received
  tagged-run {t = zero} e h = absurd (h refl)
  tagged-run {t = suc t} e h = rw e

-- ---- the end of a run

module _ (run m : List ℕ) (d : Device) where
  abbrev session_open : Device
  session_open = with_link d (link true 0 0)

  pub no_run : d.link.run ≡ 0 → on_zero run m d ≡ command_gives (does d [] Nothing) m
  unfolding on_zero
  no_run e = rw e

  long : (n : ℕ) → encoded_max < n → on_run n run m d ≡ on_received damaged m session_open
  long zero h = absurd (omega arith)
  long (suc n) h = simp (lt-ltb encoded_max (suc n) h)

  pub long-run : encoded_max < d.link.run → on_zero run m d ≡ on_received damaged m session_open
  unfolding on_zero
  long-run h = long d.link.run h

  short : (n : ℕ) → (n ≡ 0 → ⊥) → n ≤ encoded_max → on_run n run m d ≡ on_received (received (take n run)) m session_open
  short zero z h = absurd (z refl)
  short (suc n) z h = simp (le-ltb encoded_max (suc n) h)

  pub short-run : (d.link.run ≡ 0 → ⊥) → d.link.run ≤ encoded_max → on_zero run m d ≡ on_received (received (take d.link.run run)) m session_open
  unfolding on_zero
  short-run z h = short d.link.run z h

-- ---- a byte

-- the three ways out of the tests before it
module _ (room : ℕ) (run m : List ℕ) (d : Device) (x : ByteGives Done) where
  pub no_room : room < room_min → unless_refused room run m d x ≡ byte_gives (refused ROOM d) run m
  no_room h = simp (lt-ltb room room_min h)

  module _ (enough : room_min ≤ room) where
    pub stalls : stalled d.air ≡ true → unless_refused room run m d x ≡ byte_gives (refused STALL d) run m
    stalls s = simp (le-ltb room room_min enough, s)

    pub enters : stalled d.air ≡ false → unless_refused room run m d x ≡ byte_gives (taken x.gives) x.run x.commands
    enters s = simp (le-ltb room room_min enough, s)

-- a byte that isn't zero joins
module _ (room : ℕ) (run m : List ℕ) (d : Device) where
  joins : (b : ℕ) → byte_out room (suc b) run m d ≡ byte_gives (join_out room (suc b) run d).gives (join_out room (suc b) run d).run m
  unfolding byte_out join_out on_join
  joins b = go (ltb room room_min) (stalled d.air) (taken (joins_run d (longer d.link.run))) (stored d.link.run (suc b) run)
    where
      go : (v w : Bool) (x : Out) (run' : List ℕ)
          → cond v (byte_gives (refused ROOM d) run m) (cond w (byte_gives (refused STALL d) run m) (byte_gives x run' m))
          ≡ byte_gives (cond v (byte_gives (refused ROOM d) run []) (cond w (byte_gives (refused STALL d) run []) (byte_gives x run' []))).gives
          (cond v (byte_gives (refused ROOM d) run []) (cond w (byte_gives (refused STALL d) run []) (byte_gives x run' []))).run m
      go true w x run' = refl
      go false true x run' = refl
      go false false x run' = refl

  pub join-byte : (b : ℕ) → (b ≡ 0 → ⊥) → byte_out room b run m d ≡ byte_gives (join_out room b run d).gives (join_out room b run d).run m
  join-byte zero z = absurd (z refl)
  join-byte (suc b) z = joins b

pub join-enters : (room b : ℕ) (run : List ℕ) (d : Device) → room_min ≤ room → stalled d.air ≡ false
    → join_out room b run d ≡ byte_gives (taken (joins_run d (longer d.link.run))) (stored d.link.run b run) []
unfolding join_out on_join
join-enters room b run d h s = enters room run [] d (byte_gives (joins_run d (longer d.link.run)) (stored d.link.run b run) []) h s

-- and says nothing
pub join-writes-nothing : (room b : ℕ) (run : List ℕ) (d : Device) → (join_out room b run d).gives.writes ≡ []
unfolding join_out on_join
join-writes-nothing room b run d = go (ltb room room_min) (stalled d.air) (stored d.link.run b run)
  where
    go : (v w : Bool) (run' : List ℕ)
        → (cond v (byte_gives (refused ROOM d) run []) (cond w (byte_gives (refused STALL d) run [])
        (byte_gives (taken (joins_run d (longer d.link.run))) run' []))).gives.writes ≡ []
    go true w run' = refl
    go false true run' = refl
    go false false run' = refl
