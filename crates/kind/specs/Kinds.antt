-- The numbers of messages: the ten types, and which tags each may have (P 4; 01 "Numbers that come back", 8 and 9), error codes, results, and the longest
-- packet.
-- Assumes nothing.
use Rattle.std.specs.Prelude.{ℕ, Bool, false, cond, not, ◌&&◌, ◌||◌, leb, eqb}

-- from the host to the device: the six commands
abbrev pub PING : ℕ
PING = 0x01

abbrev pub GET_INFO : ℕ
GET_INFO = 0x02

abbrev pub SET_CONFIG : ℕ
SET_CONFIG = 0x03

abbrev pub TX : ℕ
TX = 0x04

abbrev pub RX_START : ℕ
RX_START = 0x05

abbrev pub RX_STOP : ℕ
RX_STOP = 0x06

-- from the device to the host: the four answers
abbrev pub OK : ℕ
OK = 0x80

abbrev pub ERR : ℕ
ERR = 0x81

abbrev pub RX : ℕ
RX = 0xC0

abbrev pub TX_DONE : ℕ
TX_DONE = 0xC1

-- the code of an ERR: P 7
abbrev pub EPARAM : ℕ
EPARAM = 0x0001

abbrev pub ELENGTH : ℕ
ELENGTH = 0x0002

abbrev pub ENOTCONFIGURED : ℕ
ENOTCONFIGURED = 0x0003

abbrev pub EMODULATION : ℕ
EMODULATION = 0x0004

abbrev pub EUNKNOWN_CMD : ℕ
EUNKNOWN_CMD = 0x0005

abbrev pub EBUSY : ℕ
EBUSY = 0x0006

abbrev pub ERADIO : ℕ
ERADIO = 0x0101

abbrev pub EFRAME : ℕ
EFRAME = 0x0102

-- the result of a TX_DONE: P 6.10
abbrev pub TRANSMITTED : ℕ
TRANSMITTED = 0

abbrev pub CHANNEL_BUSY : ℕ
CHANNEL_BUSY = 1

abbrev pub CANCELLED : ℕ
CANCELLED = 2

-- the result and the owner in an OK to SET_CONFIG: P 6.3, for a device that has one client
abbrev pub APPLIED : ℕ
APPLIED = 0

abbrev pub MINE : ℕ
MINE = 1

-- the longest packet of a TX or an RX: P 6.4 and 6.9
abbrev pub packet_max : ℕ
packet_max = 255

unfoldable pub is_command : ℕ → Bool
is_command kind = leb PING kind && leb kind RX_STOP

unfoldable pub is_answer : ℕ → Bool
is_answer kind = eqb kind OK || (eqb kind ERR || (eqb kind RX || eqb kind TX_DONE))

-- TAG: zero on a command, OK or TX_DONE; not zero on RX. An ERR may have any tag, and a type that is none of the ten has no tag rule.
unfoldable pub tag_wrong : ℕ → ℕ → Bool
tag_wrong kind tag =
    cond (is_command kind || (eqb kind OK || eqb kind TX_DONE)) (eqb tag 0)
    (cond (eqb kind RX) (not (eqb tag 0)) false)
