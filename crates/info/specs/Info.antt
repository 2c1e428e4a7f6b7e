-- What the device says of itself, the OK to GET_INFO: P 6.2. The columns of its table say where each field stands, up to mcu_uid_len; then follow mcu_uid,
-- radio_uid_len (1) and radio_uid.
-- Assumes nothing.
use Rattle.std.specs.Prelude.{ℕ, ◌+◌, cond, List, ◌++◌, ltb, length, replicate, take, drop}
use Rattle.scalar.specs.Scalars.{le, sign8, signed, unsigned, Column, column, get, put}
use Rattle.form.specs.declared.Form.{Form}
use Rattle.form.specs.declared.Form.TheVariants as F
use Rattle.info.specs.declared.Info.{Info}

-- offset and size
abbrev proto_major : Column
proto_major = column 0 1

abbrev proto_minor : Column
proto_minor = column 1 1

abbrev fw_major : Column
fw_major = column 2 1

abbrev fw_minor : Column
fw_minor = column 3 1

abbrev fw_patch : Column
fw_patch = column 4 1

abbrev radio_chip_id : Column
radio_chip_id = column 5 2

abbrev capability_bitmap : Column
capability_bitmap = column 7 8

abbrev supported_sf_bitmap : Column
supported_sf_bitmap = column 15 2

abbrev supported_bw_bitmap : Column
supported_bw_bitmap = column 17 2

abbrev max_payload_bytes : Column
max_payload_bytes = column 19 2

abbrev rx_queue_capacity : Column
rx_queue_capacity = column 21 2

abbrev tx_queue_capacity : Column
tx_queue_capacity = column 23 2

abbrev freq_min_hz : Column
freq_min_hz = column 25 4

abbrev freq_max_hz : Column
freq_max_hz = column 29 4

abbrev tx_power_min_dbm : Column
tx_power_min_dbm = column 33 1

abbrev tx_power_max_dbm : Column
tx_power_max_dbm = column 34 1

abbrev pub mcu_uid_len : Column
mcu_uid_len = column 35 1

-- the bytes up to mcu_uid
abbrev pub info_size : ℕ
info_size = 36

-- the length of radio_uid stands after mcu_uid
abbrev pub mcu_len : List ℕ → ℕ
mcu_len p = get mcu_uid_len p

abbrev pub radio_len : List ℕ → ℕ
radio_len p = get (column (info_size + mcu_len p) 1) p

-- the longest uids
abbrev pub mcu_max : ℕ
mcu_max = 32

abbrev pub radio_max : ℕ
radio_max = 16

-- 01, FORM: too few bytes; uid lengths over 32 and 16
unfoldable pub info_form : List ℕ → Form
info_form p =
    cond (ltb (length p) info_size) F.Wrong
    (cond (ltb mcu_max (mcu_len p)) F.Wrong
    (cond (ltb (length p) (info_size + mcu_len p + 1)) F.Wrong
    (cond (ltb radio_max (radio_len p)) F.Wrong
    (F.Size (info_size + mcu_len p + 1 + radio_len p)))))

-- the fields in a payload of that form
unfoldable pub info_of : List ℕ → Info
info_of p =
    record {
      proto_major = get proto_major p;
      proto_minor = get proto_minor p;
      fw_major = get fw_major p;
      fw_minor = get fw_minor p;
      fw_patch = get fw_patch p;
      radio_chip_id = get radio_chip_id p;
      capability_bitmap = get capability_bitmap p;
      supported_sf_bitmap = get supported_sf_bitmap p;
      supported_bw_bitmap = get supported_bw_bitmap p;
      max_payload_bytes = get max_payload_bytes p;
      rx_queue_capacity = get rx_queue_capacity p;
      tx_queue_capacity = get tx_queue_capacity p;
      freq_min_hz = get freq_min_hz p;
      freq_max_hz = get freq_max_hz p;
      tx_power_min_dbm = signed sign8 (get tx_power_min_dbm p);
      tx_power_max_dbm = signed sign8 (get tx_power_max_dbm p);
      mcu_uid_len = mcu_len p;
      radio_uid_len = radio_len p;
    }

unfoldable pub mcu_uid_of : List ℕ → List ℕ
mcu_uid_of p = take (mcu_len p) (drop info_size p)

unfoldable pub radio_uid_of : List ℕ → List ℕ
radio_uid_of p = take (radio_len p) (drop (info_size + mcu_len p + 1) p)

-- the bytes up to mcu_uid
unfoldable pub info_head : Info → List ℕ
info_head m =
    put proto_major m.proto_major
    (put proto_minor m.proto_minor
    (put fw_major m.fw_major
    (put fw_minor m.fw_minor
    (put fw_patch m.fw_patch
    (put radio_chip_id m.radio_chip_id
    (put capability_bitmap m.capability_bitmap
    (put supported_sf_bitmap m.supported_sf_bitmap
    (put supported_bw_bitmap m.supported_bw_bitmap
    (put max_payload_bytes m.max_payload_bytes
    (put rx_queue_capacity m.rx_queue_capacity
    (put tx_queue_capacity m.tx_queue_capacity
    (put freq_min_hz m.freq_min_hz
    (put freq_max_hz m.freq_max_hz
    (put tx_power_min_dbm (unsigned sign8 m.tx_power_min_dbm)
    (put tx_power_max_dbm (unsigned sign8 m.tx_power_max_dbm)
    (put mcu_uid_len m.mcu_uid_len
    (replicate info_size 0)))))))))))))))))

-- all bytes; uids is mcu_uid and then radio_uid
unfoldable pub info_bytes : Info → List ℕ → List ℕ
info_bytes m uids =
    info_head m ++ (take m.mcu_uid_len uids ++ (le 1 m.radio_uid_len ++ drop m.mcu_uid_len uids))
