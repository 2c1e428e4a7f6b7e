-- Field by field: what the calls promised, and a column of one byte for each byte read. The form says that the bytes are there.
-- Assumes nothing.
use mathlib.Core.Path.{ap, ◌∙◌}
use Prim.Native.Nat.{ℕ, ◌+◌}
use native.Mathlib.Omega.{arith}
use mir.Facts.{to_z-of_z}
use mir.Syntax.{w8}
use lib.ListN.{get_or}
use Rattle.scalar.specs.Scalars.{sign8, signed, column, get}
use Rattle.scalar.proofs.Laws.{get-byte}
use Rattle.info.specs.Info.{info_size, info_of}
use Rattle.info.proofs.Rows.{enough}
use Rattle.info.proofs.info_of.Goals as goal

pub u16_at-radio_chip_id-requires : goal.u16_at-radio_chip_id-requires
u16_at-radio_chip_id-requires c = let h = (enough _ c.requires).room in omega arith

pub u64_at-capability_bitmap-requires : goal.u64_at-capability_bitmap-requires
u64_at-capability_bitmap-requires c = let h = (enough _ c.requires).room in omega arith

pub u16_at-supported_sf_bitmap-requires : goal.u16_at-supported_sf_bitmap-requires
u16_at-supported_sf_bitmap-requires c =
    let h = (enough _ c.requires).room in omega arith

pub u16_at-supported_bw_bitmap-requires : goal.u16_at-supported_bw_bitmap-requires
u16_at-supported_bw_bitmap-requires c =
    let h = (enough _ c.requires).room in omega arith

pub u16_at-max_payload_bytes-requires : goal.u16_at-max_payload_bytes-requires
u16_at-max_payload_bytes-requires c =
    let h = (enough _ c.requires).room in omega arith

pub u16_at-rx_queue_capacity-requires : goal.u16_at-rx_queue_capacity-requires
u16_at-rx_queue_capacity-requires c =
    let h = (enough _ c.requires).room in omega arith

pub u16_at-tx_queue_capacity-requires : goal.u16_at-tx_queue_capacity-requires
u16_at-tx_queue_capacity-requires c =
    let h = (enough _ c.requires).room in omega arith

pub u32_at-freq_min_hz-requires : goal.u32_at-freq_min_hz-requires
u32_at-freq_min_hz-requires c =
    let h = (enough _ c.requires).room in omega arith

pub u32_at-freq_max_hz-requires : goal.u32_at-freq_max_hz-requires
u32_at-freq_max_hz-requires c =
    let h = (enough _ c.requires).room in omega arith

pub bounds-payload-33 : goal.bounds-payload-33
bounds-payload-33 c =
    let h = (enough _ c.requires).room in omega arith

pub bounds-payload-34 : goal.bounds-payload-34
bounds-payload-34 c =
    let h = (enough _ c.requires).room in omega arith

pub bounds-payload-35 : goal.bounds-payload-35
bounds-payload-35 c =
    let h = (enough _ c.requires).room in omega arith

pub bounds-payload-0 : goal.bounds-payload-0
bounds-payload-0 c =
    let h = (enough _ c.requires).room in omega arith

pub bounds-payload-1 : goal.bounds-payload-1
bounds-payload-1 c =
    let h = (enough _ c.requires).room in omega arith

pub bounds-payload-2 : goal.bounds-payload-2
bounds-payload-2 c =
    let h = (enough _ c.requires).room in omega arith

pub bounds-payload-3 : goal.bounds-payload-3
bounds-payload-3 c =
    let h = (enough _ c.requires).room in omega arith

pub bounds-payload-4 : goal.bounds-payload-4
bounds-payload-4 c =
    let h = (enough _ c.requires).room in omega arith

pub bounds-payload-mcu_uid_len : goal.bounds-payload-mcu_uid_len
bounds-payload-mcu_uid_len c =
    let p = c.args.payload.now in
    let h = (enough p c.requires).room in
    omega (arith, get-byte 35 p (omega arith))

pub returns : goal.returns
unfolding info_of
returns c =
    let u16-at = c.u16_at-radio_chip_id in
    let u64-at = c.u64_at-capability_bitmap in
    let u16-at2 = c.u16_at-supported_sf_bitmap in
    let u16-at3 = c.u16_at-supported_bw_bitmap in
    let u16-at4 = c.u16_at-max_payload_bytes in
    let u16-at5 = c.u16_at-rx_queue_capacity in
    let u16-at6 = c.u16_at-tx_queue_capacity in
    let u32-at = c.u32_at-freq_min_hz in
    let u32-at2 = c.u32_at-freq_max_hz in
    let i8-of = c.i8_of-tx_power_min_dbm in
    let i8-of2 = c.i8_of-tx_power_max_dbm in
    let p = c.args.payload.now in
    let h = (enough p c.requires).room in
    let mcu = get-byte 35 p (omega arith) in
    λ i. record {
      proto_major = get-byte 0 p (omega arith) i;
      proto_minor = get-byte 1 p (omega arith) i;
      fw_major = get-byte 2 p (omega arith) i;
      fw_minor = get-byte 3 p (omega arith) i;
      fw_patch = get-byte 4 p (omega arith) i;
      radio_chip_id = u16-at.ensures i;
      capability_bitmap = u64-at.ensures i;
      supported_sf_bitmap = u16-at2.ensures i;
      supported_bw_bitmap = u16-at3.ensures i;
      max_payload_bytes = u16-at4.ensures i;
      rx_queue_capacity = u16-at5.ensures i;
      tx_queue_capacity = u16-at6.ensures i;
      freq_min_hz = u32-at.ensures i;
      freq_max_hz = u32-at2.ensures i;
      tx_power_min_dbm = (to_z-of_z {w = w8} record { sfits = i8-of.type_inv } ∙ i8-of.ensures ∙ ap (signed sign8) (get-byte 33 p (omega arith))) i;
      tx_power_max_dbm = (to_z-of_z {w = w8} record { sfits = i8-of2.type_inv } ∙ i8-of2.ensures ∙ ap (signed sign8) (get-byte 34 p (omega arith))) i;
      mcu_uid_len = mcu i;
      radio_uid_len = (get-byte (info_size + get_or p 35 0) p (omega arith) ∙ ap (λ (k : ℕ). get (column (info_size + k) 1) p) mcu) i;
    }
