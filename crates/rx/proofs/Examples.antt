-- The definitions on P's examples C.2.6 and C.4.1 and at the edges, by computing.
-- Assumes nothing.
use mathlib.Core.Path.{◌≡◌, refl}
use mathlib.Core.List.{List, [], ◌∷◌}
use Prim.Native.Nat.{ℕ}
use lib.IntN.{pos, negsuc}
use lib.ListN.{take, replicate, set}
use Rattle.buffer.specs.Lay.{lay}
use Rattle.scalar.specs.Scalars.{le, number, signed, unsigned}
use Rattle.form.specs.declared.Form.TheVariants as F
use Rattle.rx.specs.Rx.{rx_form, rx_of, rx_packet, rx_bytes}
use Rattle.rx.specs.declared.Rx.{Rx}

-- P C.2.6: the payload of the RX in the loop, and what P says of it
abbrev pub loop : List ℕ
loop =
    0x21 ∷ 0xFD ∷ 0x5F ∷ 0x00 ∷ 0x83 ∷ 0xFF ∷ 0xFF ∷ 0xFF ∷ 0x80 ∷ 0xDE ∷ 0x80 ∷ 0x02 ∷ 0x00 ∷ 0x00 ∷ 0x00 ∷ 0x00
    ∷ 0x01 ∷ 0x00 ∷ 0x00 ∷ 0x00 ∷ 0x01 ∷ 0x02 ∷ 0x03 ∷ 0x04 ∷ []

abbrev pub loop-fields : Rx
loop-fields =
    record {
      rssi = negsuc 734;
      snr = pos 95;
      freq_err = negsuc 124;
      timestamp_us = 42000000;
      crc_valid = 1;
      packets_dropped = 0;
      origin = 0;
    }

pub loop-form : rx_form loop ≡ F.Size 24
unfolding rx_form number
loop-form = refl

pub loop-of : rx_of loop ≡ loop-fields
unfolding rx_of number signed
loop-of = refl

pub loop-packet : rx_packet loop ≡ 0x01 ∷ 0x02 ∷ 0x03 ∷ 0x04 ∷ []
loop-packet = refl

pub loop-bytes : rx_bytes loop-fields ≡ take 20 loop
unfolding rx_bytes lay le unsigned
loop-bytes = refl

-- P C.4.1: the payload of the RX before the reconfiguration; 01's sheet has its rssi
abbrev pub active : List ℕ
active =
    0xCC ∷ 0xFC ∷ 0x50 ∷ 0x00 ∷ 0x00 ∷ 0x00 ∷ 0x00 ∷ 0x00 ∷ 0x80 ∷ 0xF0 ∷ 0xFA ∷ 0x02 ∷ 0x00 ∷ 0x00 ∷ 0x00 ∷ 0x00
    ∷ 0x01 ∷ 0x00 ∷ 0x00 ∷ 0x00 ∷ 0xAA ∷ 0xBB ∷ []

abbrev pub active-fields : Rx
active-fields =
    record {
      rssi = negsuc 819;
      snr = pos 80;
      freq_err = pos 0;
      timestamp_us = 50000000;
      crc_valid = 1;
      packets_dropped = 0;
      origin = 0;
    }

pub active-form : rx_form active ≡ F.Size 22
unfolding rx_form number
active-form = refl

pub active-of : rx_of active ≡ active-fields
unfolding rx_of number signed
active-of = refl

pub active-packet : rx_packet active ≡ 0xAA ∷ 0xBB ∷ []
active-packet = refl

pub active-bytes : rx_bytes active-fields ≡ take 20 active
unfolding rx_bytes lay le unsigned
active-bytes = refl

-- 01's sheet: rssi bytes CC FC are -820
pub sheet-rssi : (rx_of active).rssi ≡ negsuc 819
unfolding rx_of number signed
sheet-rssi = refl

-- the form at its edges: 19 and 20 bytes, a packet of 255 and 256, crc_valid 2, origin 2
pub edges : (rx_form (replicate 19 0) ≡ F.Wrong)
    × (rx_form (replicate 20 0) ≡ F.Size 20)
    × (rx_form (replicate 275 0) ≡ F.Size 275)
    × (rx_form (replicate 276 0) ≡ F.Wrong)
    × (rx_form (set active 16 2) ≡ F.Wrong)
    × (rx_form (set active 19 2) ≡ F.Wrong)
unfolding rx_form number
edges = (refl, refl, refl, refl, refl, refl)
