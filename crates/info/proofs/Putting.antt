-- What put_info writes: its parts, one after the other, are the whole payload.
-- Assumes nothing.
use mathlib.Core.Path.{◌≡◌, ap, ◌∙◌}
use mathlib.Core.List.{List, ◌∷◌, ◌++◌}
use Prim.Native.Nat.{ℕ, ◌+◌, ◌<◌, ◌≤◌}
use native.Mathlib.Nat.{zero-add, mod-eq_of_lt}
use native.Mathlib.Omega.{arith}
use lib.ListN.{length, take, drop, set, length-append}
use Rattle.buffer.specs.Lay.{lay}
use Rattle.buffer.proofs.Laws.{length-lay, lay-lay, lay-next}
use Rattle.scalar.specs.Scalars.{le}
use Rattle.info.specs.Info.{info_size, info_head, info_bytes}
use Rattle.info.specs.declared.Info.{Info}
use Rattle.info.proofs.Laws.{length-head}

-- three pieces, and one byte between the last two
piled : (a b c d : List ℕ) (x : ℕ) → length a + length b + 1 + length c ≤ length d
    → lay (length a + length b + 1) c (set (lay (length a) b (lay 0 a d)) (length a + length b) x) ≡ lay 0 (a ++ (b ++ x ∷ c)) d
piled a b c d x room =
    let e = length-lay 0 a d (omega arith) in
    let f = length-lay (length a) b (lay 0 a d) (omega arith) in
    lay-next (length a + length b) x c (lay (length a) b (lay 0 a d)) (omega arith)
    ∙ lay-lay (length a) b (lay 0 a d) (omega arith) (x ∷ c)
    ∙ rw zero-add at (lay-lay 0 a d (omega arith) (b ++ x ∷ c))

module _ (m : Info) (uids : List ℕ) {mcu radio : List ℕ} (is-mcu : mcu ≡ take m.mcu_uid_len uids) (is-radio : radio ≡ drop m.mcu_uid_len uids) where
  pub sizes : length (info_bytes m uids) ≡ info_size + length mcu + 1 + length radio
  unfolding info_bytes le
  sizes = rw (length-append, length-head m, length-append, ← is-mcu, ← is-radio) (omega arith)

  module _ {head : List ℕ} (is-head : head ≡ info_head m) (small : m.radio_uid_len < 256) where
    whole : head ++ (mcu ++ m.radio_uid_len ∷ radio) ≡ info_bytes m uids
    unfolding info_bytes le
    whole = rw (is-head, is-mcu, is-radio, mod-eq_of_lt small)

    -- d₁, d₂ and d₃ are the memory after each copy; the byte is stored before the last
    pub laid : (d : List ℕ) {d₁ d₂ d₃ : List ℕ} → length (info_bytes m uids) ≤ length d → d₁ ≡ lay 0 head d → d₂ ≡ lay info_size mcu d₁
        → d₃ ≡ lay (info_size + length mcu + 1) radio (set d₂ (info_size + length mcu) m.radio_uid_len)
        → d₃ ≡ lay 0 (info_bytes m uids) d
    laid d room e f g =
        let n = sizes in
        let h : length head ≡ info_size = ap length is-head ∙ length-head m in
        g
        ∙ rw (f, e, ← h) (piled head mcu radio d m.radio_uid_len (omega arith))
        ∙ ap (λ (w : List ℕ). lay 0 w d) whole
