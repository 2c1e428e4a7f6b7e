-- 01 "Sheet of known values": its starred lines, one field each, in its order.
-- Assumes nothing.
use Rattle.std.specs.Prelude.{ℕ, ◌≡◌, true, false, List, [], ◌∷◌, ◌++◌, negsuc}
use Rattle.crc16.specs.Crc.{crc_of}
use Rattle.cobs.specs.Decoding.{decoded}
use Rattle.cobs.specs.Answers.{encoded_max, decode_answer}
use Rattle.cobs.specs.declared.Decoded.TheVariants as D
use Rattle.frame.specs.Body.{body, frame}
use Rattle.kind.specs.Kinds.{PING, CANCELLED}
use Rattle.modulation.specs.declared.Lora.{Lora}
use Rattle.modulation.specs.declared.Modulation.TheVariants as M
use Rattle.rx.specs.Rx.{rx_of}
use Rattle.board.specs.Board.{sx1262}
use Rattle.board.specs.Ldro.{ldro}
use Rattle.device.specs.State.{configured, Input}
use Rattle.device.specs.Messages.{ok, tx_done, message_bytes}
use Rattle.device.specs.Demands.{defined, history}
use Rattle.device.specs.Scripts.{lent, bytes_in}

-- all bytes that the device has written after some events from power-up; the board is P C.2.2's
abbrev pub written : List Input → List ℕ
written is = (history (defined sx1262) is).bytes

-- P C.2.1: PING 0001, and its OK
abbrev pub ping : List ℕ
ping = 0x03 ∷ 0x01 ∷ 0x01 ∷ 0x03 ∷ 0x9D ∷ 0xC8 ∷ 0x00 ∷ []

abbrev pub ping_ok : List ℕ
ping_ok = 0x03 ∷ 0x80 ∷ 0x01 ∷ 0x03 ∷ 0xF7 ∷ 0xC4 ∷ 0x00 ∷ []

-- P C.2.3: SET_CONFIG 0003 for LoRa, and its OK
abbrev pub set_config : List ℕ
set_config =
    0x03 ∷ 0x03 ∷ 0x03 ∷ 0x08 ∷ 0x01 ∷ 0xA0 ∷ 0x27 ∷ 0xBE ∷ 0x33 ∷ 0x07 ∷ 0x07 ∷ 0x02 ∷ 0x08 ∷ 0x04 ∷ 0x24 ∷ 0x14
    ∷ 0x0E ∷ 0x02 ∷ 0x01 ∷ 0x03 ∷ 0xD9 ∷ 0x1F ∷ 0x00 ∷ []

abbrev pub set_config_ok : List ℕ
set_config_ok =
    0x03 ∷ 0x80 ∷ 0x03 ∷ 0x01 ∷ 0x09 ∷ 0x01 ∷ 0x01 ∷ 0xA0 ∷ 0x27 ∷ 0xBE ∷ 0x33 ∷ 0x07 ∷ 0x07 ∷ 0x02 ∷ 0x08 ∷ 0x04
    ∷ 0x24 ∷ 0x14 ∷ 0x0E ∷ 0x02 ∷ 0x01 ∷ 0x03 ∷ 0xC8 ∷ 0x91 ∷ 0x00 ∷ []

-- P C.5.3: TX 002A with flags 2
abbrev pub tx_flags_2 : List ℕ
tx_flags_2 = 0x03 ∷ 0x04 ∷ 0x2A ∷ 0x06 ∷ 0x02 ∷ 0x68 ∷ 0x69 ∷ 0xC7 ∷ 0x57 ∷ 0x00 ∷ []

-- the events by which C.2.3 configures the device
abbrev pub to_configure : List Input
to_configure = bytes_in set_config ++ (lent configured ∷ [])

pub record KnownValues : Type 0 where
  -- the check value of the nine digits 1 to 9
  pub check : crc_of (0x31 ∷ 0x32 ∷ 0x33 ∷ 0x34 ∷ 0x35 ∷ 0x36 ∷ 0x37 ∷ 0x38 ∷ 0x39 ∷ []) ≡ 0x29B1
  -- PING 0001 and its OK: the two frames, and what the device writes when the first comes in
  pub ping_0001 : (frame (body PING 0x0001 []) ≡ ping) × (message_bytes (ok 0x0001) ≡ ping_ok) × (written (bytes_in ping) ≡ ping_ok)
  -- OK 0033
  pub ok_0033 : message_bytes (ok 0x0033) ≡ 0x03 ∷ 0x80 ∷ 0x33 ∷ 0x01 ∷ 0x02 ∷ 0xA7 ∷ 0x00 ∷ []
  -- a TX to a device that is UNCONFIGURED
  pub unconfigured :
      written (bytes_in (0x03 ∷ 0x04 ∷ 0x28 ∷ 0x01 ∷ 0x05 ∷ 0x68 ∷ 0x69 ∷ 0x24 ∷ 0x7D ∷ 0x00 ∷ []))
      ≡ 0x03 ∷ 0x81 ∷ 0x28 ∷ 0x02 ∷ 0x03 ∷ 0x03 ∷ 0x53 ∷ 0x7E ∷ 0x00 ∷ []
  -- a TX with flags 2 to one that is CONFIGURED; the OK to C.2.3 comes before it
  pub flags_2 :
      written (to_configure ++ bytes_in tx_flags_2)
      ≡ set_config_ok ++ (0x03 ∷ 0x81 ∷ 0x2A ∷ 0x02 ∷ 0x01 ∷ 0x03 ∷ 0x59 ∷ 0xF5 ∷ 0x00 ∷ [])
  -- TX_DONE 0014, cancelled
  pub cancelled_0014 :
      message_bytes (tx_done CANCELLED 0 0x0014) ≡ 0x03 ∷ 0xC1 ∷ 0x14 ∷ 0x02 ∷ 0x02 ∷ 0x01 ∷ 0x01 ∷ 0x01 ∷ 0x03 ∷ 0x82 ∷ 0xCF ∷ 0x00 ∷ []
  -- unstuffing 05, 01 and nothing, with the room that is always enough
  pub unstuff :
      (decode_answer (0x05 ∷ []) encoded_max ≡ D.Stuff)
      × (decode_answer (0x01 ∷ []) encoded_max ≡ D.Done 0)
      × (decoded (0x01 ∷ []) ≡ [])
      × (decode_answer [] encoded_max ≡ D.Stuff)
  -- LDRO at SF11 and SF10 with 125 kHz, which is bw 7, and at SF12 with 500 kHz, bw 9 (P 10.1), whatever the other parameters are
  pub ldro_edges : (m : Lora)
      → (m.sf ≡ 11 → m.bw ≡ 7 → ldro (M.Lora m) ≡ true)
      × (m.sf ≡ 10 → m.bw ≡ 7 → ldro (M.Lora m) ≡ false)
      × (m.sf ≡ 12 → m.bw ≡ 9 → ldro (M.Lora m) ≡ false)
  -- the rssi in CC FC, whatever follows; negsuc 819 is -820
  pub rssi_820 : (rest : List ℕ) → (rx_of (0xCC ∷ 0xFC ∷ rest)).rssi ≡ negsuc 819
