-- A line of a script: the format's table, line by line.
-- Assumes nothing.
use Rattle.std.specs.Prelude.{ℕ, zero, suc, Bool, true, false, cond, Option, Some, None, List, [], ◌∷◌, leb, eqb, length, take}
use Prim.Native.Char.{code}
use Rattle.scalar.specs.Scalars as S
use Rattle.text.specs.Text.{text}
use Rattle.script.specs.declared.item.Item.{Item}
use Rattle.script.specs.declared.item.Item.TheVariants as I
use Rattle.script.specs.declared.item.Head.{Head}
use Rattle.script.specs.Words.{words, word, others, same}
use Rattle.script.specs.Numbers.{decimal_in, signed_in, byte_of}

-- ---- what follows a line's name

-- whether there are words
abbrev pub any_words : List (List ℕ) → Bool
any_words [] = false
any_words (w ∷ ws) = true

-- one word, that is a number up to most, and no other
abbrev pub one : ℕ → List (List ℕ) → Option ℕ
one most ws = cond (any_words (others ws)) None (decimal_in most (word ws))

-- the highest u32 and u64
abbrev pub max32 : ℕ
max32 = 0xFFFFFFFF

abbrev pub max64 : ℕ
max64 = 0xFFFFFFFFFFFFFFFF

-- the bytes of those words, from the first on, that are bytes
abbrev pub before : Option ℕ → List ℕ → List ℕ
before (Some b) bs = b ∷ bs
before None bs = []

unfoldable pub leading : List (List ℕ) → List ℕ
leading [] = []
leading (w ∷ ws) = before (byte_of w) (leading ws)

-- how many bytes the words are, where there is room for so many
abbrev pub count_of : ℕ → List (List ℕ) → Option ℕ
count_of room ws = cond (eqb (length (leading ws)) (length ws)) (cond (leb (length ws) room) (Some (length ws)) None) None

-- ---- the lines

-- tick, or tick N
abbrev pub ticks : Option ℕ → Option Item
ticks (Some n) = Some (I.Ticks n)
ticks None = None

abbrev pub tick_item : List (List ℕ) → Option Item
tick_item ws = cond (any_words ws) (ticks (one max64 ws)) (Some (I.Ticks 1))

-- sent N
abbrev pub sents : Option ℕ → Option Item
sents (Some n) = Some (I.Sent n)
sents None = None

abbrev pub sent_item : List (List ℕ) → Option Item
sent_item ws = sents (one max32 ws)

-- room N
abbrev pub rooms : Option ℕ → Option Item
rooms (Some n) = Some (I.Room n)
rooms None = None

abbrev pub room_item : List (List ℕ) → Option Item
room_item ws = rooms (one max64 ws)

-- byte HH HH .., with one byte at least
abbrev pub bytes : Option ℕ → Option Item
bytes (Some zero) = None
bytes (Some (suc n)) = Some (I.Bytes (suc n))
bytes None = None

abbrev pub byte_item : ℕ → List (List ℕ) → Option Item
byte_item room ws = bytes (count_of room ws)

-- packet RSSI SNR FREQ TIME CRC HH ..: an i16, an i16, an i32, a u64, 0 or 1, and bytes
abbrev pub crc_valid_of : ℕ → ℕ → ℕ → ℕ → Option ℕ → Option Head
crc_valid_of a b c d (Some e) = Some (record { rssi = a; snr = b; freq_err = c; timestamp_us = d; crc_valid = eqb e 1 })
crc_valid_of a b c d None = None

abbrev pub time_of : ℕ → ℕ → ℕ → Option ℕ → Option ℕ → Option Head
time_of a b c (Some d) e = crc_valid_of a b c d e
time_of a b c None e = None

abbrev pub freq_of : ℕ → ℕ → Option ℕ → Option ℕ → Option ℕ → Option Head
freq_of a b (Some c) d e = time_of a b c d e
freq_of a b None d e = None

abbrev pub snr_of : ℕ → Option ℕ → Option ℕ → Option ℕ → Option ℕ → Option Head
snr_of a (Some b) c d e = freq_of a b c d e
snr_of a None c d e = None

abbrev pub rssi_of : Option ℕ → Option ℕ → Option ℕ → Option ℕ → Option ℕ → Option Head
rssi_of (Some a) b c d e = snr_of a b c d e
rssi_of None b c d e = None

abbrev pub packet_head : List ℕ → List ℕ → List ℕ → List ℕ → List ℕ → Option Head
packet_head a b c d e = rssi_of (signed_in S.sign16 a) (signed_in S.sign16 b) (signed_in S.sign32 c) (decimal_in max64 d) (decimal_in 1 e)

-- the head of some words, where a word that is missing is no number, and what follows it
abbrev pub head_in : List (List ℕ) → Option Head
head_in ws =
    packet_head (word ws)
    (word (others ws))
    (word (others (others ws)))
    (word (others (others (others ws))))
    (word (others (others (others (others ws)))))

abbrev pub tail_in : List (List ℕ) → List (List ℕ)
tail_in ws = others (others (others (others (others ws))))

abbrev pub packet_with : Head → ℕ → Item
packet_with h n =
    I.Packet (S.signed S.sign16 h.rssi) (S.signed S.sign16 h.snr) (S.signed S.sign32 h.freq_err) h.timestamp_us h.crc_valid n

abbrev pub packets : Option Head → Option ℕ → Option Item
packets (Some h) (Some n) = Some (packet_with h n)
packets (Some h) None = None
packets None n = None

abbrev pub packet_item : ℕ → List (List ℕ) → Option Item
packet_item room ws = packets (head_in ws) (count_of room (tail_in ws))

abbrev pub headed : Option Head → List ℕ → List ℕ
headed (Some h) bs = bs
headed None bs = []

abbrev pub packet_bytes : ℕ → List (List ℕ) → List ℕ
packet_bytes room ws = headed (head_in ws) (take room (leading (tail_in ws)))

-- the lines of one word
unfoldable pub name_item : List ℕ → Option Item
name_item w =
    cond (same w (text "clear")) (Some I.Clear)
    (cond (same w (text "busy")) (Some I.Busy)
    (cond (same w (text "configured")) (Some I.Configured)
    (cond (same w (text "fault")) (Some I.Fault)
    (cond (same w (text "request")) (Some I.Request)
    (cond (same w (text "disconnect")) (Some I.Disconnect) None)))))

-- ---- all of them

-- a line with this name and these words after it, that has no bytes
unfoldable pub plain_item : List ℕ → List (List ℕ) → Option Item
plain_item w ws =
    cond (same w (text "tick")) (tick_item ws)
    (cond (same w (text "sent")) (sent_item ws)
    (cond (same w (text "room")) (room_item ws)
    (cond (any_words ws) None (name_item w))))

-- a line with this name and these words after it, where there is room for so many bytes
unfoldable pub named_item : ℕ → List ℕ → List (List ℕ) → Option Item
named_item room w ws =
    cond (same w (text "byte")) (byte_item room ws)
    (cond (same w (text "packet")) (packet_item room ws) (plain_item w ws))

-- the bytes of such a line
unfoldable pub named_bytes : ℕ → List ℕ → List (List ℕ) → List ℕ
named_bytes room w ws =
    cond (same w (text "byte")) (take room (leading ws))
    (cond (same w (text "packet")) (packet_bytes room ws) [])

abbrev pub item_of : ℕ → List (List ℕ) → Option Item
item_of room [] = Some I.Nothing
item_of room (w ∷ ws) = named_item room w ws

abbrev pub item_bytes : ℕ → List (List ℕ) → List ℕ
item_bytes room [] = []
item_bytes room (w ∷ ws) = named_bytes room w ws

-- a line without a carriage return at its end
unfoldable pub without_return : List ℕ → List ℕ
without_return [] = []
without_return (c ∷ []) = cond (eqb c (code "\r")) [] (c ∷ [])
without_return (c ∷ d ∷ s) = c ∷ without_return (d ∷ s)

-- whether it is a comment: `#` stands in its first column
abbrev pub comment : List ℕ → Bool
comment [] = false
comment (c ∷ s) = eqb c (code "#")

abbrev pub line_item : ℕ → List ℕ → Option Item
line_item room line = cond (comment line) (Some I.Nothing) (item_of room (words (without_return line)))

abbrev pub line_bytes : ℕ → List ℕ → List ℕ
line_bytes room line = cond (comment line) [] (item_bytes room (words (without_return line)))
