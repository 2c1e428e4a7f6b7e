-- A body, and the frame that it becomes: P 2.1 and 2.2; 01 "Bytes on the wire".
-- Assumes nothing.
use Rattle.std.specs.Prelude.{ℕ, ◌+◌, ◌-◌, List, [], ◌∷◌, ◌++◌, length, take, drop}
use Rattle.crc16.specs.Crc.{crc_of}
use Rattle.cobs.specs.Encoding.{encoded}
use Rattle.scalar.specs.Scalars.{le, column, get}

-- type (1), tag (2), payload: what the check value covers
unfoldable pub covered : ℕ → ℕ → List ℕ → List ℕ
covered kind tag payload = kind ∷ (le 2 tag ++ payload)

-- type (1), tag (2), payload, check (2)
unfoldable pub body : ℕ → ℕ → List ℕ → List ℕ
body kind tag payload = covered kind tag payload ++ le 2 (crc_of (covered kind tag payload))

-- what a body has beside its payload
abbrev pub overhead : ℕ
overhead = 5

-- the longest payload: a body has 280 bytes at most
abbrev pub payload_max : ℕ
payload_max = 275

-- the longest frame: such a body encoded, and the zero
abbrev pub frame_max : ℕ
frame_max = 283

-- a frame: the encoded body, and the zero that ends it
unfoldable pub frame : List ℕ → List ℕ
frame b = encoded b ++ (0 ∷ [])

-- the type, the tag, the payload and the check value in a body
abbrev pub kind_of : List ℕ → ℕ
kind_of b = get (column 0 1) b

abbrev pub tag_of : List ℕ → ℕ
tag_of b = get (column 1 2) b

abbrev pub payload_of : List ℕ → List ℕ
payload_of b = take (length b - overhead) (drop 3 b)

abbrev pub check_of : List ℕ → ℕ
check_of b = get (column (length b - 2) 2) b

-- what that check value covers
abbrev pub covered_of : List ℕ → List ℕ
covered_of b = take (length b - 2) b
