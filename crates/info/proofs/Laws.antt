-- What is written of an Info is read back: its fields, its uids and its form; and how long it is. The columns of the head compute, and each field is read back
-- by the laws of numbers; what stands behind the head is found by its length.
-- Assumes nothing.
use mathlib.Core.Path.{◌≡◌, refl, sym, ap, ap₂, subst, ◌∙◌}
use mathlib.Core.Bool.{true}
use mathlib.Core.List.{List, ◌++◌}
use Prim.Native.Nat.{ℕ, ◌+◌, ◌≤◌}
use native.Mathlib.Omega.{arith}
use borrow.Author.Tests.{eq-eqb}
use lib.ListN.{length, take, drop, length-append, length-drop, take-append-drop}
use lib.Seq.{length-take-le, take_all, take_at, drop_at, drop-drop}
use Rattle.buffer.specs.Lay.{lay}
use Rattle.scalar.specs.Scalars.{le, number, sign8, column, get}
use Rattle.scalar.proofs.Laws.{signed_back, number-le}
use Rattle.form.specs.Forms.{exactly}
use Rattle.form.specs.declared.Form.{Form}
use Rattle.form.specs.declared.Form.TheVariants as F
use Rattle.info.specs.Info.{info_size, mcu_len, radio_len, mcu_max, radio_max, info_form, info_of, mcu_uid_of, radio_uid_of, info_head, info_bytes}
use Rattle.info.specs.Ranges.{InfoIn}
use Rattle.info.specs.declared.Info.{Info}
use Rattle.info.proofs.Rows.{Row, is-sized, is-wrong, row, exact, sized}

-- ---- how long

pub length-head : (m : Info) → length (info_head m) ≡ info_size
unfolding info_head lay le
length-head m = refl

pub length-info : (m : Info) (uids : List ℕ) → length (info_bytes m uids) ≡ info_size + 1 + length uids
unfolding info_bytes le
length-info m uids =
    let k = m.mcu_uid_len in
    let n : length uids ≡ length (take k uids) + length (drop k uids) =
    ap length (sym (take-append-drop k uids)) ∙ length-append (take k uids) (drop k uids) in
    rw (length-append, length-head m, length-append) (omega arith)

-- the longest payload
pub info-size : (p : List ℕ) (n : ℕ) → info_form p ≡ F.Size n → n ≤ 85
info-size p n e = subst Below e (go (row p))
  where
    Below : Form → Type 0
    Below (F.Size k) = k ≤ 85
    Below F.Wrong = Unit {0}

    go : {f : Form} → Row p f → Below f
    go (is-sized s) = omega arith
    go is-wrong = tt

-- ---- read back

module _ (m : Info) (r : InfoIn m) (uids : List ℕ) where
  mcu-back : mcu_len (info_bytes m uids) ≡ m.mcu_uid_len
  unfolding info_bytes info_head lay le
  mcu-back = number-le 1 m.mcu_uid_len r.mcu_uid_len

  -- behind the head
  behind : drop info_size (info_bytes m uids) ≡ take m.mcu_uid_len uids ++ (le 1 m.radio_uid_len ++ drop m.mcu_uid_len uids)
  unfolding info_bytes
  behind = drop_at (info_head m) (take m.mcu_uid_len uids ++ (le 1 m.radio_uid_len ++ drop m.mcu_uid_len uids)) info_size (length-head m)

  module _ (h : m.mcu_uid_len ≤ length uids) where
    -- behind mcu_uid
    past : drop (info_size + m.mcu_uid_len) (info_bytes m uids) ≡ le 1 m.radio_uid_len ++ drop m.mcu_uid_len uids
    past =
        sym (drop-drop m.mcu_uid_len info_size (info_bytes m uids))
        ∙ ap (drop m.mcu_uid_len) behind
        ∙ drop_at (take m.mcu_uid_len uids) (le 1 m.radio_uid_len ++ drop m.mcu_uid_len uids) m.mcu_uid_len
        (length-take-le m.mcu_uid_len uids h)

    radio-back : radio_len (info_bytes m uids) ≡ m.radio_uid_len
    unfolding le
    radio-back =
        ap (λ (k : ℕ). get (column (info_size + k) 1) (info_bytes m uids)) mcu-back
        ∙ ap (λ (q : List ℕ). number (take 1 q)) past
        ∙ number-le 1 m.radio_uid_len r.radio_uid_len

    pub info-back : info_of (info_bytes m uids) ≡ m
    unfolding info_of info_bytes info_head lay le
    info-back =
        λ i.
        record {
          proto_major = number-le 1 m.proto_major r.proto_major i;
          proto_minor = number-le 1 m.proto_minor r.proto_minor i;
          fw_major = number-le 1 m.fw_major r.fw_major i;
          fw_minor = number-le 1 m.fw_minor r.fw_minor i;
          fw_patch = number-le 1 m.fw_patch r.fw_patch i;
          radio_chip_id = number-le 2 m.radio_chip_id r.radio_chip_id i;
          capability_bitmap = number-le 8 m.capability_bitmap r.capability_bitmap i;
          supported_sf_bitmap = number-le 2 m.supported_sf_bitmap r.supported_sf_bitmap i;
          supported_bw_bitmap = number-le 2 m.supported_bw_bitmap r.supported_bw_bitmap i;
          max_payload_bytes = number-le 2 m.max_payload_bytes r.max_payload_bytes i;
          rx_queue_capacity = number-le 2 m.rx_queue_capacity r.rx_queue_capacity i;
          tx_queue_capacity = number-le 2 m.tx_queue_capacity r.tx_queue_capacity i;
          freq_min_hz = number-le 4 m.freq_min_hz r.freq_min_hz i;
          freq_max_hz = number-le 4 m.freq_max_hz r.freq_max_hz i;
          tx_power_min_dbm = signed_back 1 sign8 refl m.tx_power_min_dbm r.tx_power_min_dbm i;
          tx_power_max_dbm = signed_back 1 sign8 refl m.tx_power_max_dbm r.tx_power_max_dbm i;
          mcu_uid_len = mcu-back i;
          radio_uid_len = radio-back i;
        }

  pub uids-back : length uids ≡ m.mcu_uid_len + m.radio_uid_len
      → (mcu_uid_of (info_bytes m uids) ≡ take m.mcu_uid_len uids) × (radio_uid_of (info_bytes m uids) ≡ drop m.mcu_uid_len uids)
  unfolding mcu_uid_of radio_uid_of le
  uids-back e =
      let k = m.mcu_uid_len in
      let h : k ≤ length uids = omega arith in (
        ap₂ (take {A = ℕ}) mcu-back behind ∙ take_at (take k uids) (le 1 m.radio_uid_len ++ drop k uids) k (length-take-le k uids h),
        ap₂ (λ (n j : ℕ). take n (drop (info_size + j + 1) (info_bytes m uids))) (radio-back h) mcu-back
            ∙ ap (take m.radio_uid_len) (sym (drop-drop 1 (info_size + k) (info_bytes m uids)) ∙ ap (drop 1) (past h))
            ∙ take_all m.radio_uid_len (drop k uids) (rw (length-drop k uids) (omega arith)),
      )

  -- ---- the form

  pub info-form-back : exactly (info_form (info_bytes m uids)) (length (info_bytes m uids)) ≡ true
      → (m.mcu_uid_len ≤ mcu_max) × (m.radio_uid_len ≤ radio_max) × (length uids ≡ m.mcu_uid_len + m.radio_uid_len)
  info-form-back e =
      let p = info_bytes m uids in
      let n = length-info m uids in
      let s = exact p e in
      let k = mcu-back in
      let l = radio-back (omega arith) in
      (omega arith, omega arith, omega arith)

  pub info-form-of : m.mcu_uid_len ≤ mcu_max → m.radio_uid_len ≤ radio_max → length uids ≡ m.mcu_uid_len + m.radio_uid_len
      → exactly (info_form (info_bytes m uids)) (length (info_bytes m uids)) ≡ true
  info-form-of a b e =
      let p = info_bytes m uids in
      let n = length-info m uids in
      let k = mcu-back in
      let l = radio-back (omega arith) in
      subst
      (λ (f : Form). exactly f (length p) ≡ true)
      (sized p (omega arith) refl (omega arith) (omega arith) refl (omega arith))
      (eq-eqb (info_size + mcu_len p + 1 + radio_len p) (length p) (omega arith))
