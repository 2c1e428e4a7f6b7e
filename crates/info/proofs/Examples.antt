-- The definitions on P's example and at their edges, by computing.
-- Assumes nothing.
use mathlib.Core.Path.{◌≡◌, refl}
use mathlib.Core.List.{List, [], ◌∷◌, ◌++◌}
use Prim.Native.Nat.{ℕ}
use lib.IntN.{pos, negsuc}
use lib.ListN.{replicate}
use Rattle.buffer.specs.Lay.{lay}
use Rattle.scalar.specs.Scalars.{le, number, signed, unsigned}
use Rattle.form.specs.declared.Form.TheVariants as F
use Rattle.info.specs.Info.{info_form, info_of, mcu_uid_of, radio_uid_of, info_head, info_bytes}
use Rattle.info.specs.declared.Info.{Info}

-- P C.2.2: protocol 1.0, firmware 0.1.0, an SX1262; 150 to 960 MHz, -9 to 22 dBm
abbrev pub sx1262 : Info
sx1262 =
    record {
      proto_major = 1;
      proto_minor = 0;
      fw_major = 0;
      fw_minor = 1;
      fw_patch = 0;
      radio_chip_id = 2;
      capability_bitmap = 0x10003;
      supported_sf_bitmap = 0x1FE0;
      supported_bw_bitmap = 0x03FF;
      max_payload_bytes = 255;
      rx_queue_capacity = 64;
      tx_queue_capacity = 16;
      freq_min_hz = 150000000;
      freq_max_hz = 960000000;
      tx_power_min_dbm = negsuc 8;
      tx_power_max_dbm = pos 22;
      mcu_uid_len = 8;
      radio_uid_len = 0;
    }

abbrev pub uid : List ℕ
uid = 0xDE ∷ 0xAD ∷ 0xBE ∷ 0xEF ∷ 0x01 ∷ 0x23 ∷ 0x45 ∷ 0x67 ∷ []

abbrev pub payload : List ℕ
payload =
    0x01 ∷ 0x00 ∷ 0x00 ∷ 0x01 ∷ 0x00 ∷ 0x02 ∷ 0x00 ∷ 0x03 ∷ 0x00 ∷ 0x01 ∷ 0x00 ∷ 0x00 ∷ 0x00 ∷ 0x00 ∷ 0x00 ∷ 0xE0 ∷ 0x1F
    ∷ 0xFF ∷ 0x03 ∷ 0xFF ∷ 0x00 ∷ 0x40 ∷ 0x00 ∷ 0x10 ∷ 0x00 ∷ 0x80 ∷ 0xD1 ∷ 0xF0 ∷ 0x08 ∷ 0x00 ∷ 0x70 ∷ 0x38 ∷ 0x39 ∷ 0xF7
    ∷ 0x16 ∷ 0x08 ∷ 0xDE ∷ 0xAD ∷ 0xBE ∷ 0xEF ∷ 0x01 ∷ 0x23 ∷ 0x45 ∷ 0x67 ∷ 0x00 ∷ []

pub written : info_bytes sx1262 uid ≡ payload
unfolding info_bytes info_head lay le unsigned
written = refl

pub form : info_form payload ≡ F.Size 45
unfolding info_form number
form = refl

pub read : info_of payload ≡ sx1262
unfolding info_of number signed
read = refl

pub uid-read : mcu_uid_of payload ≡ uid
unfolding mcu_uid_of number
uid-read = refl

pub no-radio-uid : radio_uid_of payload ≡ []
unfolding radio_uid_of number
no-radio-uid = refl

-- both uids, each after its length
abbrev pub both : List ℕ
both = replicate 35 0 ++ 2 ∷ 0xA1 ∷ 0xA2 ∷ 1 ∷ 0xB1 ∷ []

pub both-form : info_form both ≡ F.Size 40
unfolding info_form number
both-form = refl

pub both-mcu : mcu_uid_of both ≡ 0xA1 ∷ 0xA2 ∷ []
unfolding mcu_uid_of number
both-mcu = refl

pub both-radio : radio_uid_of both ≡ 0xB1 ∷ []
unfolding radio_uid_of number
both-radio = refl

-- the longest uids, and one byte more of each
pub longest : info_form (replicate 35 0 ++ 32 ∷ (replicate 32 0 ++ 16 ∷ [])) ≡ F.Size 85
unfolding info_form number
longest = refl

pub mcu-over : info_form (replicate 35 0 ++ 33 ∷ (replicate 33 0 ++ 0 ∷ [])) ≡ F.Wrong
unfolding info_form number
mcu-over = refl

pub radio-over : info_form (replicate 35 0 ++ 32 ∷ (replicate 32 0 ++ 17 ∷ [])) ≡ F.Wrong
unfolding info_form number
radio-over = refl

-- a payload that ends before the length of radio_uid, and before that of mcu_uid
pub ends-early : info_form (replicate 36 0) ≡ F.Wrong
unfolding info_form number
ends-early = refl

pub ends-earlier : info_form (replicate 35 0) ≡ F.Wrong
unfolding info_form
ends-earlier = refl
