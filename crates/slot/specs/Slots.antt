-- The memory of commands: seventeen slots of 259 bytes. Sixteen hold the TX that are with the radio or wait, in a ring, and the
-- last one the SET_CONFIG that waits or runs. A slot has the command's payload with its length, less one, and its tag before it: so
-- of a TX the packet's length, the tag, the flags and the packet, and of a SET_CONFIG the parameters' length, the tag, the
-- modulation and the parameters.
-- Assumes nothing.
use Rattle.std.specs.Prelude.{ℕ, ◌+◌, ◌-◌, ◌*◌, List, ◌∷◌, ◌++◌, length, take, drop, get_or}
use Rattle.kind.specs.Kinds.{packet_max}
use Rattle.scalar.specs.Scalars.{le, column, get}
use Rattle.command.specs.Commands.{flags_size}
use Rattle.board.specs.Board.{tx_max}
use Rattle.buffer.specs.Lay.{lay}

-- the longest payload that is kept, a TX's: its flags and a packet
abbrev pub kept_max : ℕ
kept_max = flags_size + packet_max

-- where the tag and the payload stand in a slot
abbrev pub tag_offset : ℕ
tag_offset = 1

abbrev pub payload_offset : ℕ
payload_offset = 3

abbrev pub slot_size : ℕ
slot_size = payload_offset + kept_max

-- the slot of the SET_CONFIG, after those of the TX
abbrev pub setting : ℕ
setting = tx_max

abbrev pub commands_size : ℕ
commands_size = (setting + 1) * slot_size

-- a command with the tag t and the payload p
abbrev pub slot_bytes : ℕ → List ℕ → List ℕ
slot_bytes t p = (length p - 1) ∷ (le 2 t ++ p)

-- the memory m with a command in slot k
unfoldable pub command_kept : List ℕ → ℕ → ℕ → List ℕ → List ℕ
command_kept m k t p = lay (k * slot_size) (slot_bytes t p) m

-- what stands in slot k: the length without the payload's first byte, the tag, that first byte, and the payload
abbrev pub len_at : List ℕ → ℕ → ℕ
len_at m k = get_or m (k * slot_size) 0

abbrev pub tag_at : List ℕ → ℕ → ℕ
tag_at m k = get (column (k * slot_size + tag_offset) 2) m

abbrev pub head_at : List ℕ → ℕ → ℕ
head_at m k = get_or m (k * slot_size + payload_offset) 0

abbrev pub payload_at : List ℕ → ℕ → List ℕ
payload_at m k = take (len_at m k + 1) (drop (k * slot_size + payload_offset) m)
