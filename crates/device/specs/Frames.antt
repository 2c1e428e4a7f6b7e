-- 01 "A run of bytes becomes a frame": steps 1 to 7.
-- Assumes nothing.
use Rattle.std.specs.Prelude.{ℕ, zero, suc, ◌+◌, Bool, true, false, cond, not, ◌&&◌, ◌||◌, List, [], ◌∷◌, leb, eqb, length}
use Rattle.std.proofs.Math.Option.{Option, none, some}
use Rattle.cobs.specs.Decoding.{decoded}
use Rattle.cobs.specs.Answers.{encoded_max}
use Rattle.scalar.specs.Scalars.{get}
use Rattle.frame.specs.Body.{payload_of}
use Rattle.frame.specs.Reading.{open_answer}
use Rattle.frame.specs.declared.Opened.{Opened}
use Rattle.frame.specs.declared.Opened.TheVariants as O
use Rattle.kind.specs.Kinds.{SET_CONFIG, TX, RX_START, RX_STOP, is_command, EPARAM, ELENGTH, ENOTCONFIGURED, EMODULATION, EUNKNOWN_CMD, EBUSY, packet_max}
use Rattle.modulation.specs.Lora.{lora_size}
use Rattle.modulation.specs.Fsk.{fsk_size, sync_word_len}
use Rattle.modulation.specs.Modulations.{LORA, FSK, modulation_id, config_of, sync_word}
use Rattle.command.specs.Commands.{flags, flags_size, flags_max, packet_of}
use Rattle.board.specs.Board.{Board, tx_max}
use Rattle.board.specs.Params.{params_good}
use Rattle.device.specs.State.{Config, Setting, Tx, State, open#}

-- ---- step 1

-- a run that isn't empty is damaged, or it has a type, which step 2 judges, a tag and a payload
pub data Received : Type 0 where
  damaged : Received
  command : ℕ → ℕ → List ℕ → Received

-- a run that opens has a tag, and a tag of zero is damage too, for any type; p is its payload
abbrev pub untagged : Opened → List ℕ → Received
untagged (O.Body k zero n) p = damaged
untagged (O.Body k (suc t) n) p = command k (suc t) p
untagged (O.Refused r) p = damaged

-- damage: a run over 282 bytes, bad stuffing, a body of a wrong length, a wrong check, a tag of zero
unfoldable pub received : List ℕ → Received
received run = untagged (open_answer run encoded_max) (payload_of (decoded run))

-- ---- steps 2 to 7

-- 3. UNCONFIGURED and TX, RX_START or RX_STOP
abbrev pub unconfigured : Option Config → Bool
unconfigured none = true
unconfigured (some c) = false

abbrev pub needs_config : ℕ → Bool
needs_config kind = eqb kind TX || (eqb kind RX_START || eqb kind RX_STOP)

-- 4. SET_CONFIG with a payload: modulation not 1 or 2
abbrev pub other_modulation : List ℕ → Bool
other_modulation [] = false
other_modulation (b ∷ bs) = not (eqb (get modulation_id (b ∷ bs)) LORA || eqb (get modulation_id (b ∷ bs)) FSK)

-- 5. SET_CONFIG's sizes: the modulation and its parameters; FSK's are 16 and as many bytes as sync_word_len says
abbrev pub config_sized : List ℕ → Bool
config_sized [] = false
config_sized (b ∷ bs) =
    cond (eqb (get modulation_id (b ∷ bs)) LORA) (eqb (length bs) lora_size)
    (leb fsk_size (length bs) && eqb (length bs) (fsk_size + get sync_word_len bs))

-- TX's: the flags, and a packet of 1 to 255 bytes
abbrev pub tx_sized : List ℕ → Bool
tx_sized p = leb (flags_size + 1) (length p) && leb (length p) (flags_size + packet_max)

-- PING, GET_INFO, RX_START and RX_STOP have no payload
abbrev pub sized : ℕ → List ℕ → Bool
sized kind p =
    cond (eqb kind SET_CONFIG) (config_sized p)
    (cond (eqb kind TX) (tx_sized p)
    (eqb (length p) 0))

-- 6. the parameters of a SET_CONFIG, the flags of a TX
abbrev pub good : Board → ℕ → List ℕ → Bool
good b kind p =
    cond (eqb kind SET_CONFIG) (params_good b (config_of p))
    (cond (eqb kind TX) (leb (get flags p) flags_max)
    true)

-- Why a command draws an ERR: the first that applies of steps 2 to 7, or none. `noConfig` says whether the device is UNCONFIGURED, and n how many TX are open.
abbrev pub error_for : Board → Bool → ℕ → ℕ → List ℕ → Option ℕ
error_for b noConfig n kind p =
    cond (not (is_command kind)) (some EUNKNOWN_CMD)
    (cond (noConfig && needs_config kind) (some ENOTCONFIGURED)
    (cond (eqb kind SET_CONFIG && other_modulation p) (some EMODULATION)
    (cond (not (sized kind p)) (some ELENGTH)
    (cond (not (good b kind p)) (some EPARAM)
    (cond (eqb kind TX && leb tx_max n) (some EBUSY)
    none)))))

unfoldable pub error_of : Board → State → ℕ → List ℕ → Option ℕ
error_of b s kind p = error_for b (unconfigured s.config) (open# s.air) kind p

-- ---- what a command without an error brings

abbrev pub setting_of : ℕ → List ℕ → Setting
setting_of t p = record { tag = t; config = record { modulation = config_of p; word = sync_word p } }

abbrev pub tx_of : ℕ → List ℕ → Tx
tx_of t p = record { tag = t; flags = get flags p; packet = packet_of p }
