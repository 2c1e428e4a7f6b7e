-- The numbers that come back: 01 "Numbers that come back", row by row, and those of 02.
-- Assumes nothing.
use Rattle.std.specs.Prelude.{ℕ}

-- nothing below applies
abbrev pub TAKEN : ℕ
TAKEN = 0

-- an event whose output is under 283 bytes
abbrev pub ROOM : ℕ
ROOM = 1

-- a byte while a SET_CONFIG waits or runs
abbrev pub STALL : ℕ
STALL = 2

-- a radio outcome that does not fit
abbrev pub PLACE : ℕ
PLACE = 3

-- a destination that is too small, in reading too
abbrev pub SHORT : ℕ
SHORT = 4

-- bytes that are no COBS encoding ("bad stuffing" in 01)
abbrev pub STUFF : ℕ
STUFF = 5

-- a source that is too long, or a body outside 5 to 280 bytes
abbrev pub LENGTH : ℕ
LENGTH = 6

-- a check value that differs
abbrev pub CHECK : ℕ
CHECK = 7

-- a tag that is zero on a command, an OK or a TX_DONE, or not zero on an RX
abbrev pub TAG : ℕ
TAG = 8

-- a type that is not one of that side's
abbrev pub TYPE : ℕ
TYPE = 9

-- a payload that is not of that message's layout or values
abbrev pub FORM : ℕ
FORM = 10

-- 02 §2: a command while sixteen lines of the ledger are open
abbrev pub LEDGER : ℕ
LEDGER = 11

-- 02 §3: the time on air of values that its formula is not for
abbrev pub AIR : ℕ
AIR = 12

-- 02 §3: a time on air over 4,294,967,295 us
abbrev pub WIDE : ℕ
WIDE = 13
