-- What reading answers and leaves, by what checking the message gives: each law is one way through the code. And what an answer tells of the run that was read.
-- Assumes nothing.
use mathlib.Core.Path.{◌≡◌, refl, sym, ◌∙◌}
use mathlib.Core.List.{List}
use Prim.Native.Nat.{ℕ, ◌+◌, ◌-◌, ◌≤◌}
use native.Mathlib.Omega.{arith}
use lib.ListN.{length, take, drop, length-take, length-drop}
use lib.Seq.{take-append-le, drop-append-le}
use Rattle.status.specs.declared.Refusal.{Refusal}
use Rattle.buffer.specs.Lay.{lay}
use Rattle.cobs.specs.Decoding.{decoded}
use Rattle.frame.specs.Body.{overhead, payload_of}
use Rattle.frame.specs.Reading.{open_answer, opened_result}
use Rattle.frame.specs.declared.Opened.{Opened}
use Rattle.frame.specs.declared.Opened.TheVariants as O
use Rattle.frame.proofs.Laws.{opens-facts}
use Rattle.frame.proofs.Same.{opened-same}
use Rattle.wellformed.specs.Checking.{fits_read, check}
use Rattle.wellformed.specs.declared.Kinds.{Kinds}
use Rattle.wellformed.specs.declared.Checked.{Checked}
use Rattle.wellformed.specs.declared.Checked.TheVariants as J
use Rattle.wellformed.proofs.Laws.{Good, good}
use Rattle.reader.specs.Reading.{if_wellformed, sifted, receive_answer, receive_left}

module _ (kinds : Kinds) (run d : List ℕ) where
  -- the frame is refused
  pub keeps : {r : Refusal} → open_answer run (length d) ≡ O.Refused r
      → (receive_answer kinds run (length d) ≡ O.Refused r) × (receive_left kinds run d ≡ d)
  unfolding receive_answer receive_left
  keeps e = (rw e, rw e)

  module _ {k t n : ℕ} (e : open_answer run (length d) ≡ O.Body k t n) where
    -- the message is
    pub refuses : {r : Refusal} → check kinds k t (fits_read kinds k (payload_of (decoded run))) ≡ J.Refused r
        → (receive_answer kinds run (length d) ≡ O.Refused r) × (receive_left kinds run d ≡ d)
    unfolding receive_answer receive_left
    refuses j = (rw (e, j), rw (e, j))

    -- neither is
    pub takes : check kinds k t (fits_read kinds k (payload_of (decoded run))) ≡ J.Good
        → (receive_answer kinds run (length d) ≡ O.Body k t n) × (receive_left kinds run d ≡ lay 0 (decoded run) d)
    unfolding receive_answer receive_left
    takes j = (rw (e, j), rw (e, j))

-- ---- what was read, in the caller's memory

-- what a reader answered, by a match on it
pub received : (kinds : Kinds) (run d : List ℕ) {o case : Opened} → opened_result o ≡ opened_result (receive_answer kinds run (length d)) → o ≡ case
    → receive_answer kinds run (length d) ≡ case
received kinds run d e m = sym (opened-same _ (receive_answer kinds run (length d)) e) ∙ m

sift-back : (kinds : Kinds) (b : List ℕ) (o : Opened) {k t n : ℕ} → sifted kinds b o ≡ O.Body k t n → o ≡ O.Body k t n
sift-back kinds b (O.Refused r) e = absurd (let z : ◌≡◌ {A = ℕ} 0 1 = cc in omega arith)
sift-back kinds b (O.Body k' t' n') {k} {t} {n} e = go (check kinds k' t' (fits_read kinds k' (payload_of b))) e
  where
    go : (j : Checked) → if_wellformed j (O.Body k' t' n') ≡ O.Body k t n → O.Body k' t' n' ≡ O.Body k t n
    go J.Good f = f
    go (J.Refused r) f = absurd (let z : ◌≡◌ {A = ℕ} 0 1 = cc in omega arith)

module _ (kinds : Kinds) (run d : List ℕ) {k t n : ℕ} (e : receive_answer kinds run (length d) ≡ O.Body k t n) where
  -- a message that was taken was a frame
  pub was-open : open_answer run (length d) ≡ O.Body k t n
  unfolding receive_answer
  was-open = sift-back kinds (decoded run) (open_answer run (length d)) e

  -- its payload is that part of the memory
  pub payload-there : take (3 + n - 3) (drop 3 (receive_left kinds run d)) ≡ payload_of (decoded run)
  unfolding receive_left lay
  payload-there =
      let o = opens-facts run (length d) was-open in
      let same : 3 + n - 3 ≡ n = omega arith in
      let size : length (decoded run) - overhead ≡ n = omega (arith, o.long) in
      let three : 3 ≤ length (decoded run) = omega (arith, o.long) in
      rw (same, e, drop-append-le 3 (decoded run) (drop (0 + length (decoded run)) d) three, size)
      (take-append-le n (drop 3 (decoded run)) (drop (0 + length (decoded run)) d) (rw (length-drop 3 (decoded run)) (omega (arith, o.long))))

  -- it passed TAG, TYPE and FORM
  pub was-good : Good kinds k t (fits_read kinds k (payload_of (decoded run)))
  unfolding receive_answer
  was-good = good kinds k t (fits_read kinds k (payload_of (decoded run)))
      (go (check kinds k t (fits_read kinds k (payload_of (decoded run)))) (rw was-open at e))
    where
      go : (j : Checked) → if_wellformed j (O.Body k t n) ≡ O.Body k t n → j ≡ J.Good
      go J.Good f = refl
      go (J.Refused r) f = absurd (let z : ◌≡◌ {A = ℕ} 0 1 = cc in omega arith)

  -- and its payload has the length that was said
  pub payload-long : length (payload_of (decoded run)) ≡ n
  payload-long =
      let o = opens-facts run (length d) was-open in
      rw length-take (rw length-drop (omega (arith, o.long)))
