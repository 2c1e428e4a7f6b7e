-- Scripts: lists of events as people write them, with 283 bytes of output lent to each.
-- Assumes nothing.
use Rattle.std.specs.Prelude.{ℕ, List, [], ◌∷◌, ◌++◌, map}
use Rattle.frame.specs.Body.{body, frame}
use Rattle.kind.specs.Kinds.{SET_CONFIG}
use Rattle.device.specs.State.{Event, byte, configured, Input}

-- an event that is lent just enough: 01 "Numbers that come back", ROOM
abbrev pub lent : Event → Input
lent e = record { room = 283; event = e }

-- bytes from the host: one event each
abbrev pub bytes_in : List ℕ → List Input
bytes_in bs = map (λ b. lent (byte b)) bs

-- a command from the host, by its type, its tag and its payload
abbrev pub sent_as : ℕ → ℕ → List ℕ → List Input
sent_as kind t p = bytes_in (frame (body kind t p))

-- P C.2.3: the payload of its SET_CONFIG, with any SF and any byte of power; and the events by which it configures the device
abbrev pub lora : ℕ → ℕ → List ℕ
lora sf power =
    0x01 ∷ 0xA0 ∷ 0x27 ∷ 0xBE ∷ 0x33 ∷ sf ∷ 0x07 ∷ 0x00 ∷ 0x08 ∷ 0x00 ∷ 0x24 ∷ 0x14 ∷ power ∷ 0x00 ∷ 0x01 ∷ 0x00 ∷ []

abbrev pub ready : List Input
ready = sent_as SET_CONFIG 0x0003 (lora 7 14) ++ (lent configured ∷ [])
