-- A byte from the host: 01 "A run of bytes becomes a frame".
-- Assumes nothing.
use Rattle.std.specs.Prelude.{ℕ, zero, suc, ◌+◌, ◌≡◌, true, cond, List, [], ltb, take, set}
use Rattle.status.specs.Numbers.{ROOM, STALL}
use Rattle.cobs.specs.Answers.{encoded_max}
use Rattle.device.specs.Frames.{damaged, received}
use Rattle.device.specs.Events.{room_min}
use Rattle.control.specs.declared.Device.{Device}
use Rattle.control.specs.declared.Order.TheVariants.{Nothing}
use Rattle.control.specs.declared.Reply.{Reply}
use Rattle.control.specs.Control.{link, with_link, stalled, Done, does, Out, taken, refused, Replies}
use Rattle.dispatch.specs.Commands.{CommandGives, command_gives, on_received}

-- what is given, by a byte that is taken (Done) or by any (Out), and the memories of the run and of commands that are left
pub record ByteGives (A : Type 0) : Type 0 where
  pub gives : A
  pub run : List ℕ
  pub commands : List ℕ

abbrev pub byte_gives : {A : Type 0} → A → List ℕ → List ℕ → ByteGives A
byte_gives x run m = record { gives = x; run = run; commands = m }

-- a byte that isn't zero joins the run; past the longest only that it is too long is kept
abbrev pub longer : ℕ → ℕ
longer n = cond (ltb n encoded_max) (n + 1) (encoded_max + 1)

abbrev pub stored : ℕ → ℕ → List ℕ → List ℕ
stored n b run = cond (ltb n encoded_max) (set run n b) run

abbrev pub joins_run : Device → ℕ → Done
joins_run d n = does (with_link d (link d.link.session d.link.ticks n)) [] Nothing

unfoldable pub on_join : ℕ → List ℕ → List ℕ → Device → ByteGives Done
on_join b run m d = byte_gives (joins_run d (longer d.link.run)) (stored d.link.run b run) m

-- a zero ends the run: an empty one is nothing, and any other opens a session, sets the liveness count to 0, and is judged
abbrev pub dispatches : ℕ → List ℕ → List ℕ → Device → CommandGives
dispatches n run m d = cond (ltb encoded_max n) (on_received damaged m d) (on_received (received (take n run)) m d)

abbrev pub on_run : ℕ → List ℕ → List ℕ → Device → CommandGives
on_run zero run m d = command_gives (does d [] Nothing) m
on_run (suc n) run m d = dispatches (suc n) run m (with_link d (link true 0 0))

unfoldable pub on_zero : List ℕ → List ℕ → Device → CommandGives
on_zero run m d = on_run d.link.run run m d

-- by the zero the run's memory stays
abbrev pub ends_run : List ℕ → CommandGives → ByteGives Done
ends_run run x = byte_gives x.done run x.commands

abbrev pub on_byte : ℕ → List ℕ → List ℕ → Device → ByteGives Done
on_byte zero run m d = ends_run run (on_zero run m d)
on_byte (suc n) run m d = on_join (suc n) run m d

-- a byte that comes: ROOM, then STALL, and else what x gives; a refusal leaves the memories
abbrev pub unless_refused : ℕ → List ℕ → List ℕ → Device → ByteGives Done → ByteGives Out
unless_refused room run m d x =
    cond (ltb room room_min) (byte_gives (refused ROOM d) run m)
    (cond (stalled d.air) (byte_gives (refused STALL d) run m)
    (byte_gives (taken x.gives) x.run x.commands))

-- any byte, with output of so much room
unfoldable pub byte_out : ℕ → ℕ → List ℕ → List ℕ → Device → ByteGives Out
byte_out room b run m d = unless_refused room run m d (on_byte b run m d)

-- one that isn't zero leaves the memory of commands, whatever that holds
unfoldable pub join_out : ℕ → ℕ → List ℕ → Device → ByteGives Out
join_out room b run d = unless_refused room run [] d (on_join b run [] d)

-- the contract of a byte
pub record ByteTaken (x : ByteGives Out) (o : List ℕ) (r : Reply) (o' run' m' : List ℕ) : Type 0 where
  pub answers : Replies x.gives o r o'
  pub run : run' ≡ x.run
  pub commands : m' ≡ x.commands
