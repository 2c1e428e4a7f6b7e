-- What is written of a modulation is read back, and what is read is written back; how long it is, what a form tells, and what stands in bytes. The columns
-- compute, and each field is read back by the laws of numbers.
-- Assumes nothing.
use mathlib.Core.Path.{◌≡◌, refl, sym, ap, ap₂, subst, ◌∙◌}
use mathlib.Core.Bool.{Bool, true, false, cond, true≢false}
use mathlib.Core.List.{List, ◌∷◌, ◌++◌}
use mathlib.Core.Logic.{◌⊎◌, inl, inr}
use Prim.Native.Nat.{ℕ, ◌+◌, ◌<◌, ◌≤◌}
use native.Mathlib.Omega.{arith}
use borrow.Author.Tests.{le-ltb, eq-eqb, eqb-true}
use lib.Dec.{ltb, eqb}
use lib.ListN.{length, take, drop, length-drop, take-append-drop}
use lib.Seq.{take_all, length-take-le, drop-drop}
use Rattle.buffer.proofs.Deciding.{le-or-lt}
use Rattle.buffer.proofs.Laws.{next, no_more, the_rest}
use Rattle.buffer.specs.Lay.{lay}
use Rattle.scalar.specs.Bytes.{IsByte, Bytes}
use Rattle.scalar.specs.Scalars.{le, number, sign8, signed, unsigned, column, get}
use Rattle.scalar.proofs.Bytes.{each_take, each-drop, get-small}
use Rattle.scalar.proofs.Laws.{signed_back, signed_low, signed_high, mag-signed, number-le, le-number, get-byte}
use Rattle.form.specs.Forms.{exactly}
use Rattle.form.proofs.Laws.{exactly-size, passed}
use Rattle.modulation.specs.Lora.{lora_of, lora_bytes}
use Rattle.modulation.specs.Fsk.{sync_word_len, fsk_of, fsk_bytes}
use Rattle.modulation.specs.Modulations.{LORA, FSK, modulation_id, params_of, config_form, config_of, config_bytes, sync_word}
use Rattle.modulation.specs.Ranges.{LoraIn, FskIn, ModulationIn}
use Rattle.modulation.specs.declared.Lora.{Lora}
use Rattle.modulation.specs.declared.Fsk.{Fsk}
use Rattle.form.specs.declared.Form.{Form}
use Rattle.form.specs.declared.Form.TheVariants as F
use Rattle.modulation.specs.declared.Modulation.{Modulation}
use Rattle.modulation.specs.declared.Modulation.TheVariants as M
use Rattle.modulation.proofs.Rows.{of-lora, of-fsk, word_none, word_some, Row, is-lora, is-fsk, is-wrong, row}

-- ---- the parameters

pub lora-back : (m : Lora) → LoraIn m → (bs : List ℕ) → lora_of (lora_bytes m ++ bs) ≡ m
unfolding lora_of lora_bytes lay le
lora-back m r bs =
    λ i.
    record {
      freq_hz = number-le 4 m.freq_hz r.freq_hz i;
      sf = number-le 1 m.sf r.sf i;
      bw = number-le 1 m.bw r.bw i;
      cr = number-le 1 m.cr r.cr i;
      preamble_len = number-le 2 m.preamble_len r.preamble_len i;
      sync_word = number-le 2 m.sync_word r.sync_word i;
      tx_power_dbm = signed_back 1 sign8 refl m.tx_power_dbm r.tx_power_dbm i;
      header_mode = number-le 1 m.header_mode r.header_mode i;
      payload_crc = number-le 1 m.payload_crc r.payload_crc i;
      iq_invert = number-le 1 m.iq_invert r.iq_invert i;
    }

pub fsk-back : (m : Fsk) → FskIn m → (bs : List ℕ) → fsk_of (fsk_bytes m ++ bs) ≡ m
unfolding fsk_of fsk_bytes lay le
fsk-back m r bs =
    λ i.
    record {
      freq_hz = number-le 4 m.freq_hz r.freq_hz i;
      bitrate_bps = number-le 4 m.bitrate_bps r.bitrate_bps i;
      freq_dev_hz = number-le 4 m.freq_dev_hz r.freq_dev_hz i;
      rx_bw = number-le 1 m.rx_bw r.rx_bw i;
      preamble_len = number-le 2 m.preamble_len r.preamble_len i;
      sync_word_len = number-le 1 m.sync_word_len r.sync_word_len i;
    }

-- ---- the payload

pub config-back : (m : Modulation) → ModulationIn m → (word : List ℕ) → config_of (config_bytes m word) ≡ m
unfolding config_of config_bytes number
config-back (M.Lora m) r word = ap M.Lora (lora-back m r word)
config-back (M.Fsk m) r word = ap M.Fsk (fsk-back m r word)

-- its bytes before the sync word
abbrev pub fixed : Modulation → ℕ
fixed (M.Lora m) = 16
fixed (M.Fsk m) = 17

pub fixed-most : (m : Modulation) → fixed m ≤ 17
fixed-most (M.Lora m) = omega arith
fixed-most (M.Fsk m) = omega arith

pub length-config : (m : Modulation) (word : List ℕ) → length (config_bytes m word) ≡ fixed m + length word
unfolding config_bytes lora_bytes fsk_bytes lay le
length-config (M.Lora m) word = omega arith
length-config (M.Fsk m) word = omega arith

pub drop-config : (m : Modulation) (word : List ℕ) → word ≡ drop (fixed m) (config_bytes m word)
unfolding config_bytes lora_bytes fsk_bytes lay le
drop-config (M.Lora m) word = refl
drop-config (M.Fsk m) word = refl

-- the form that it has
abbrev pub form_of : Modulation → Form
form_of (M.Lora m) = F.Size 16
form_of (M.Fsk m) = cond (ltb 8 m.sync_word_len) F.Wrong (F.Size (17 + m.sync_word_len))

pub config-form-back : (m : Modulation) → ModulationIn m → (word : List ℕ) → config_form (config_bytes m word) ≡ form_of m
unfolding config_form config_bytes fsk_bytes lay le number
config-form-back (M.Lora m) r word = refl
config-form-back (M.Fsk m) r word =
    let n = length-config (M.Fsk m) word in
    rw (le-ltb (length (config_bytes (M.Fsk m) word)) 17 (omega arith), number-le 1 m.sync_word_len r.sync_word_len)

-- a payload of just that form has its sync word
abbrev pub word_len : Modulation → ℕ
word_len (M.Lora m) = 0
word_len (M.Fsk m) = m.sync_word_len

pub word-length : (m : Modulation) → ModulationIn m → (word : List ℕ) → exactly (config_form (config_bytes m word)) (length (config_bytes m word)) ≡ true
    → length word ≡ word_len m
word-length m r word e =
    go m (length-config m word) (subst (λ (f : Form). exactly f (length (config_bytes m word)) ≡ true) (config-form-back m r word) e)
  where
    go : (k : Modulation) {n : ℕ} → n ≡ fixed k + length word → exactly (form_of k) n ≡ true → length word ≡ word_len k
    go (M.Lora k) {n} l h = omega (arith, eqb-true 16 n h)
    go (M.Fsk k) {n} l h = omega (arith, eqb-true (17 + k.sync_word_len) n (passed (ltb 8 k.sync_word_len) _ n h).1)

-- and one that has it is of that form
pub word-form : (m : Modulation) → ModulationIn m → (word : List ℕ) → length word ≡ word_len m → word_len m ≤ 8
    → exactly (config_form (config_bytes m word)) (length (config_bytes m word)) ≡ true
word-form m r word e h =
    subst (λ (f : Form). exactly f (length (config_bytes m word)) ≡ true) (sym (config-form-back m r word)) (go m (length-config m word) e h)
  where
    go : (k : Modulation) {n : ℕ} → n ≡ fixed k + length word → length word ≡ word_len k → word_len k ≤ 8 → exactly (form_of k) n ≡ true
    go (M.Lora k) {n} l w h = eq-eqb 16 n (omega arith)
    go (M.Fsk k) {n} l w h = rw (le-ltb 8 k.sync_word_len h) (eq-eqb (17 + k.sync_word_len) n (omega arith))

pub word_back : (m : Modulation) → ModulationIn m → (word : List ℕ) → exactly (config_form (config_bytes m word)) (length (config_bytes m word)) ≡ true
    → sync_word (config_bytes m word) ≡ word
unfolding sync_word config_bytes lora_bytes fsk_bytes lay le number
word_back (M.Lora m) r word e = take_all 0 word (omega (arith, word-length (M.Lora m) r word e))
word_back (M.Fsk m) r word e =
    ap (λ (n : ℕ). take n word) (number-le 1 m.sync_word_len r.sync_word_len)
    ∙ take_all m.sync_word_len word (omega (arith, word-length (M.Fsk m) r word e))

-- ---- forms

pub form-bounds : (p : List ℕ) (n : ℕ) → config_form p ≡ F.Size n → (16 ≤ n) × (n ≤ 25)
form-bounds p n e = subst Bounds e (go (row p))
  where
    Bounds : Form → Type 0
    Bounds (F.Size k) = (16 ≤ k) × (k ≤ 25)
    Bounds F.Wrong = Unit {0}

    go : {f : Form} → Row p f → Bounds f
    go (is-lora t) = (omega arith, omega arith)
    go (is-fsk t h k) = (omega arith, omega arith)
    go is-wrong = tt

-- the longest payload
pub config-small : (p : List ℕ) → exactly (config_form p) (length p) ≡ true → length p ≤ 25
config-small p e = (form-bounds p (length p) (exactly-size (config_form p) (length p) e)).1

-- ---- what stands in bytes is a value of its type

lora-in : (p : List ℕ) → Bytes p → LoraIn (lora_of p)
unfolding lora_of
lora-in p b =
    record {
      freq_hz = get-small 0 4 p b;
      sf = get-small 4 1 p b;
      bw = get-small 5 1 p b;
      cr = get-small 6 1 p b;
      preamble_len = get-small 7 2 p b;
      sync_word = get-small 9 2 p b;
      tx_power_dbm = mag-signed sign8 _ (get-small 11 1 p b);
      header_mode = get-small 12 1 p b;
      payload_crc = get-small 13 1 p b;
      iq_invert = get-small 14 1 p b;
    }

fsk-in : (p : List ℕ) → Bytes p → FskIn (fsk_of p)
unfolding fsk_of
fsk-in p b =
    record {
      freq_hz = get-small 0 4 p b;
      bitrate_bps = get-small 4 4 p b;
      freq_dev_hz = get-small 8 4 p b;
      rx_bw = get-small 12 1 p b;
      preamble_len = get-small 13 2 p b;
      sync_word_len = get-small 15 1 p b;
    }

pub config-in : (p : List ℕ) → Bytes p → ModulationIn (config_of p)
unfolding config_of
config-in p b = go (eqb (get modulation_id p) LORA)
  where
    go : (lora : Bool) → ModulationIn (cond lora (M.Lora (lora_of (params_of p))) (M.Fsk (fsk_of (params_of p))))
    go true = lora-in (params_of p) (each-drop IsByte 1 p b)
    go false = fsk-in (params_of p) (each-drop IsByte 1 p b)

-- ---- a configuration that is read and written again is the same bytes

unsigned_back : (half u : ℕ) → u < half + half → unsigned half (signed half u) ≡ u
unfolding unsigned
unsigned_back half u h = go (le-or-lt half u)
  where
    go : (half ≤ u) ⊎ (u < half) → unsigned half (signed half u) ≡ u
    go (inl k) = rw (signed_high half u k) (omega arith)
    go (inr k) = rw (signed_low half u k) refl

module _ (q : List ℕ) (b : Bytes q) where
  -- a column with the number that stands in it, and what stands after it
  column-same : (at n : ℕ) → at + n ≤ length q → {x : ℕ} → x ≡ get (column at n) q → {r : List ℕ} → r ≡ drop (at + n) q → le n x ++ r ≡ drop at q
  column-same at n h e d =
      let bs = take n (drop at q) in
      let k : length bs ≡ n = length-take-le n (drop at q) (rw (length-drop at q) (omega arith)) in
      ap₂ ◌++◌ (ap₂ le (sym k) e ∙ le-number bs (each_take IsByte n (drop at q) (each-drop IsByte at q b))) (d ∙ sym (drop-drop n at q))
      ∙ take-append-drop n (drop at q)

  lora-same : 15 ≤ length q → lora_bytes (lora_of q) ++ drop 15 q ≡ q
  unfolding lora_bytes lora_of lay le
  lora-same h =
      column-same 0 4 (omega arith) refl
      (column-same 4 1 (omega arith) refl
      (column-same 5 1 (omega arith) refl
      (column-same 6 1 (omega arith) refl
      (column-same 7 2 (omega arith) refl
      (column-same 9 2 (omega arith) refl
      (column-same 11 1 (omega arith) (unsigned_back sign8 (get (column 11 1) q) (get-small 11 1 q b))
      (column-same 12 1 (omega arith) refl
      (column-same 13 1 (omega arith) refl
      (column-same 14 1 (omega arith) refl refl)))))))))

  fsk-same : 16 ≤ length q → fsk_bytes (fsk_of q) ++ drop 16 q ≡ q
  unfolding fsk_bytes fsk_of lay le
  fsk-same h =
      column-same 0 4 (omega arith) refl
      (column-same 4 4 (omega arith) refl
      (column-same 8 4 (omega arith) refl
      (column-same 12 1 (omega arith) refl
      (column-same 13 2 (omega arith) refl
      (column-same 15 1 (omega arith) refl refl)))))

pub config-same : (p : List ℕ) → Bytes p → exactly (config_form p) (length p) ≡ true → config_bytes (config_of p) (sync_word p) ≡ p
unfolding config_bytes
config-same p b e = go (row p) e
  where
    q : List ℕ
    q = params_of p

    bytes : Bytes q
    bytes = each-drop IsByte 1 p b

    whole : {id : ℕ} → get modulation_id p ≡ id → 0 < length p → id ∷ q ≡ p
    whole t h = sym (next p 0 h ∙ ap (λ (id : ℕ). id ∷ q) (get-byte 0 p h ∙ t))

    go : {f : Form} → Row p f → exactly f (length p) ≡ true → config_bytes (config_of p) (sync_word p) ≡ p
    go (is-lora t) e =
        let n = eqb-true 16 (length p) e in
        let l = length-drop 1 p in
        ap₂ config_bytes (sym (of-lora p refl t)) (sym (word_none p refl (omega arith)) ∙ sym (no_more q 15 (omega arith)))
        ∙ ap (λ (bs : List ℕ). LORA ∷ bs) (lora-same q bytes (omega arith))
        ∙ whole t (omega arith)
    go (is-fsk t h k) e =
        let n = eqb-true (17 + get sync_word_len q) (length p) e in
        let l = length-drop 1 p in
        ap₂
        config_bytes
        (sym (of-fsk p refl (omega arith)))
        (sym (word_some p refl t refl) ∙ the_rest p 17 (get sync_word_len q) (omega arith) ∙ sym (drop-drop 16 1 p))
        ∙ ap (λ (bs : List ℕ). FSK ∷ bs) (fsk-same q bytes (omega arith))
        ∙ whole t (omega arith)
    go is-wrong e = absurd (true≢false (sym e))
