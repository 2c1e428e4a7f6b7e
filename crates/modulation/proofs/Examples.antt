-- The definitions on P's example and at the edges of 01's table, by computing.
-- Assumes nothing.
use Prim.Native.Nat.{ℕ}
use mathlib.Core.Path.{◌≡◌, refl}
use mathlib.Core.List.{List, [], ◌∷◌, ◌++◌}
use lib.IntN.{pos, negsuc}
use lib.ListN.{replicate}
use Rattle.buffer.specs.Lay.{lay}
use Rattle.scalar.specs.Scalars.{le, number, signed, unsigned}
use Rattle.modulation.specs.Lora.{lora_of, lora_bytes}
use Rattle.modulation.specs.Fsk.{fsk_of, fsk_bytes}
use Rattle.modulation.specs.Modulations.{config_form, config_of, config_bytes, sync_word}
use Rattle.modulation.specs.declared.Lora.{Lora}
use Rattle.modulation.specs.declared.Fsk.{Fsk}
use Rattle.form.specs.declared.Form.TheVariants as F
use Rattle.modulation.specs.declared.Modulation.TheVariants as M

-- ---- LoRa: P C.2.3

abbrev lora : Lora
lora =
    record {
      freq_hz = 868100000;
      sf = 7;
      bw = 7;
      cr = 0;
      preamble_len = 8;
      sync_word = 0x1424;
      tx_power_dbm = pos 14;
      header_mode = 0;
      payload_crc = 1;
      iq_invert = 0;
    }

abbrev bytes : List ℕ
bytes = 0xA0 ∷ 0x27 ∷ 0xBE ∷ 0x33 ∷ 0x07 ∷ 0x07 ∷ 0x00 ∷ 0x08 ∷ 0x00 ∷ 0x24 ∷ 0x14 ∷ 0x0E ∷ 0x00 ∷ 0x01 ∷ 0x00 ∷ []

pub written : lora_bytes lora ≡ bytes
unfolding lora_bytes lay le unsigned
written = refl

pub read : lora_of bytes ≡ lora
unfolding lora_of number signed
read = refl

pub payload : config_bytes (M.Lora lora) [] ≡ 1 ∷ bytes
unfolding config_bytes lora_bytes lay le unsigned
payload = refl

pub configured : config_of (1 ∷ bytes) ≡ M.Lora lora
unfolding config_of lora_of number signed
configured = refl

-- a power below zero: F7 is -9 dBm
pub low-power-read : (lora_of (replicate 11 0 ++ 0xF7 ∷ replicate 3 0)).tx_power_dbm ≡ negsuc 8
unfolding lora_of number signed
low-power-read = refl

pub low-power-written : unsigned 0x80 (negsuc 8) ≡ 0xF7
unfolding unsigned
low-power-written = refl

-- ---- FSK, with a sync word of two bytes

abbrev fsk : Fsk
fsk =
    record {
      freq_hz = 868100000;
      bitrate_bps = 50000;
      freq_dev_hz = 25000;
      rx_bw = 0x0B;
      preamble_len = 0x0105;
      sync_word_len = 2;
    }

abbrev fsk-payload : List ℕ
fsk-payload =
    0x02 ∷ 0xA0 ∷ 0x27 ∷ 0xBE ∷ 0x33 ∷ 0x50 ∷ 0xC3 ∷ 0x00 ∷ 0x00 ∷ 0xA8 ∷ 0x61 ∷ 0x00 ∷ 0x00 ∷ 0x0B ∷ 0x05 ∷ 0x01 ∷ 0x02 ∷ 0x2D ∷ 0xD4 ∷ []

pub fsk-written : config_bytes (M.Fsk fsk) (0x2D ∷ 0xD4 ∷ []) ≡ fsk-payload
unfolding config_bytes fsk_bytes lay le
fsk-written = refl

pub fsk-read : config_of fsk-payload ≡ M.Fsk fsk
unfolding config_of fsk_of number
fsk-read = refl

pub fsk-form : config_form fsk-payload ≡ F.Size 19
unfolding config_form number
fsk-form = refl

-- a further byte is no part of it, and LoRa has none
pub fsk-word : sync_word (fsk-payload ++ 0xFF ∷ []) ≡ 0x2D ∷ 0xD4 ∷ []
unfolding sync_word number
fsk-word = refl

pub lora-word : sync_word (1 ∷ (bytes ++ 0xFF ∷ 0xFF ∷ [])) ≡ []
unfolding sync_word number
lora-word = refl

-- ---- forms

-- no modulation, and one that 01 does not cover
pub empty : config_form [] ≡ F.Wrong
unfolding config_form number
empty = refl

pub third : config_form (3 ∷ replicate 15 0) ≡ F.Wrong
unfolding config_form number
third = refl

pub zeroth : config_form (0 ∷ replicate 15 0) ≡ F.Wrong
unfolding config_form number
zeroth = refl

-- LoRa's size does not wait for the parameters
pub alone : config_form (1 ∷ []) ≡ F.Size 16
unfolding config_form number
alone = refl

-- FSK's does; a sync word has at most 8 bytes
pub fsk-short : config_form (2 ∷ replicate 15 0) ≡ F.Wrong
unfolding config_form number
fsk-short = refl

pub word_none : config_form (2 ∷ replicate 16 0) ≡ F.Size 17
unfolding config_form number
word_none = refl

pub word-full : config_form (2 ∷ (replicate 15 0 ++ 8 ∷ [])) ≡ F.Size 25
unfolding config_form number
word-full = refl

pub word-long : config_form (2 ∷ (replicate 15 0 ++ 9 ∷ replicate 9 0)) ≡ F.Wrong
unfolding config_form number
word-long = refl
