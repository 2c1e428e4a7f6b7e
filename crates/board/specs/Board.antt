-- The board: 01 "What the firmware covers". A profile has what may differ from board to board; the rest is the same for all.
-- Assumes nothing.
use Rattle.std.specs.Prelude.{ℕ, ◌+◌, ◌^◌, Bool, false, ◌||◌, List, [], ◌∷◌, ◌++◌, eqb, ℤ, pos, negsuc, length}
use Rattle.kind.specs.Kinds.{packet_max}
use Rattle.info.specs.declared.Info.{Info}

-- a profile
pub record Board : Type 0 where
  -- the radio chip: P 8
  pub chip : ℕ
  -- the capability bits that are set: P 9
  pub bits : List ℕ
  -- the spreading factors and the bandwidth values that LoRa may have: P 10.1
  pub sfs : List ℕ
  pub bws : List ℕ
  -- the frequencies, in Hz, and the powers, in dBm, both ends included
  pub freq_min : ℕ
  pub freq_max : ℕ
  pub power_min : ℤ
  pub power_max : ℤ
  pub mcu_uid : List ℕ
  pub radio_uid : List ℕ

-- whether n is one of some numbers
unfoldable pub among : ℕ → List ℕ → Bool
among n [] = false
among n (x ∷ xs) = eqb n x || among n xs

-- the number in which just these bits are set
unfoldable pub bitmap : List ℕ → ℕ
bitmap [] = 0
bitmap (n ∷ ns) = 2 ^ n + bitmap ns

-- how many packets the RX ring holds
abbrev pub ring_max : ℕ
ring_max = 64

-- how many TX can be open: with the radio or waiting
abbrev pub tx_max : ℕ
tx_max = 16

-- P's example C.2.2; negsuc 8 is -9
unfoldable pub sx1262 : Board
sx1262 =
    record {
      chip = 0x0002;
      bits = 0 ∷ 1 ∷ 16 ∷ [];
      sfs = 5 ∷ 6 ∷ 7 ∷ 8 ∷ 9 ∷ 10 ∷ 11 ∷ 12 ∷ [];
      bws = 0 ∷ 1 ∷ 2 ∷ 3 ∷ 4 ∷ 5 ∷ 6 ∷ 7 ∷ 8 ∷ 9 ∷ [];
      freq_min = 150000000;
      freq_max = 960000000;
      power_min = negsuc 8;
      power_max = pos 22;
      mcu_uid = 0xDE ∷ 0xAD ∷ 0xBE ∷ 0xEF ∷ 0x01 ∷ 0x23 ∷ 0x45 ∷ 0x67 ∷ [];
      radio_uid = [];
    }

-- what a board says of itself (P 6.2): protocol 1.0, firmware 0.1.0, and its profile
unfoldable pub board_info : Board → Info
board_info b =
    record {
      proto_major = 1;
      proto_minor = 0;
      fw_major = 0;
      fw_minor = 1;
      fw_patch = 0;
      radio_chip_id = b.chip;
      capability_bitmap = bitmap b.bits;
      supported_sf_bitmap = bitmap b.sfs;
      supported_bw_bitmap = bitmap b.bws;
      max_payload_bytes = packet_max;
      rx_queue_capacity = ring_max;
      tx_queue_capacity = tx_max;
      freq_min_hz = b.freq_min;
      freq_max_hz = b.freq_max;
      tx_power_min_dbm = b.power_min;
      tx_power_max_dbm = b.power_max;
      mcu_uid_len = length b.mcu_uid;
      radio_uid_len = length b.radio_uid;
    }

-- the bytes that go with it
abbrev pub uids_of : Board → List ℕ
uids_of b = b.mcu_uid ++ b.radio_uid
