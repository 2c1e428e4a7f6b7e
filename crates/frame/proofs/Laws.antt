-- The laws of frames, for every value: a body has the parts that it was built of, a frame that was written opens again, and what a run that opens
-- tells of its body.
-- The idea: each part stands at a seam of the pieces of a body; an answer is taken apart along the chain of tests that gave it.
-- Assumes nothing.
use mathlib.Core.Path.{◌≡◌, refl, sym, ap, ◌∙◌}
use mathlib.Core.Bool.{Bool, true, false, cond}
use mathlib.Core.List.{List}
use Prim.Native.Nat.{ℕ, ◌+◌, ◌-◌, ◌<◌, ◌≤◌}
use native.Mathlib.Nat.{le_refl}
use native.Mathlib.Omega.{arith}
use borrow.Author.Tests.{le-ltb, ltb-false, eq-eqb, eqb-true}
use lib.Dec.{ltb, eqb}
use lib.ListN.{length, take, drop, replicate, length-append, length-drop}
use lib.Seq.{take-append_seam, drop-append_seam, take-append-le, drop-append-le}
use Rattle.status.specs.declared.Refusal.{Refusal}
use Rattle.buffer.specs.Lay.{lay}
use Rattle.crc16.specs.Crc.{crc_of}
use Rattle.crc16.proofs.Laws.{crc-below}
use Rattle.cobs.specs.Encoding.{encoded}
use Rattle.cobs.specs.Decoding.{broken, decoded}
use Rattle.cobs.specs.Answers.{body_max, encoded_max, decode_answer, decode_left}
use Rattle.cobs.proofs.Laws.{length-bound, decoded-length, round_trip, encoded-sound}
use Rattle.scalar.specs.Scalars.{le, number}
use Rattle.scalar.proofs.Laws.{length-le, number-le}
use Rattle.frame.specs.Body.{covered, body, overhead, payload_max, kind_of, tag_of, payload_of, check_of, covered_of}
use Rattle.frame.specs.Reading.{open_body, open_answer, open_left, unpack_left}
use Rattle.frame.specs.declared.Opened.{Opened}
use Rattle.frame.specs.declared.Opened.TheVariants as O

-- what was laid from the start on, read again
pub take-laid : (a d : List ℕ) → take (length a) (lay 0 a d) ≡ a
unfolding lay
take-laid a d = take-append_seam a _

-- ---- the parts of a body

module _ (k t : ℕ) (p : List ℕ) where
  pub length-covered : length (covered k t p) ≡ length p + 3
  unfolding covered
  length-covered = simp (length-append, length-le) (omega arith)

  pub length-body : length (body k t p) ≡ length p + overhead
  unfolding body
  length-body = simp (length-append, length-le, length-covered) (omega arith)

  before-check : length (body k t p) - 2 ≡ length (covered k t p)
  before-check = omega (arith, length-covered, length-body)

  pub kind-body : kind_of (body k t p) ≡ k
  unfolding body covered number
  kind-body = omega arith

  pub tag-body : t < 65536 → tag_of (body k t p) ≡ t
  unfolding body covered le
  tag-body h = number-le 2 t h

  pub payload-body : payload_of (body k t p) ≡ p
  unfolding body covered le
  payload-body =
      let n : length (body k t p) - overhead ≡ length p = omega (arith, length-body) in
      rw n (take-append_seam p _)

  pub covered-body : covered_of (body k t p) ≡ covered k t p
  unfolding body
  covered-body = rw before-check (take-append_seam (covered k t p) _)

  pub check-body : check_of (body k t p) ≡ crc_of (covered k t p)
  unfolding body le
  check-body =
      rw before-check
      (ap (λ (bs : List ℕ). number (take 2 bs)) (drop-append_seam (covered k t p) _) ∙ number-le 2 _ (crc-below (covered k t p)))

  -- a body that was built opens
  pub body-opens : t < 65536 → length p ≤ payload_max → open_body (body k t p) ≡ O.Body k t (length p)
  unfolding open_body
  body-opens h l =
      let b = body k t p in
      let n = length-body in
      let s : length b - overhead ≡ length p = omega arith in
      simp (
        le-ltb (length b) overhead (omega arith),
        le-ltb body_max (length b) (omega arith),
        eq-eqb _ _ (ap crc_of covered-body ∙ sym check-body),
        kind-body,
        tag-body h,
        s,
      )

-- a frame that was written opens
pub frame-opens : (k t : ℕ) (p d : List ℕ) → t < 65536 → length p ≤ payload_max → length (encoded (body k t p)) ≤ length d
    → (open_answer (encoded (body k t p)) (length d) ≡ O.Body k t (length p)) × (open_left (encoded (body k t p)) d ≡ lay 0 (body k t p) d)
unfolding open_answer open_left
frame-opens k t p d h l f =
    let b = body k t p in
    let n = length-body k t p in
    let m = length-bound b in
    let w = le-ltb encoded_max (length (encoded b)) (omega arith) in
    let r = le-ltb (length d) (length (encoded b)) f in
    let o = body-opens k t p h l in
    (simp (w, r, encoded-sound, round_trip, o), simp (w, r, encoded-sound, round_trip, o))

-- ---- a run that opens

-- what it tells of its body
pub record Opens (run : List ℕ) (room k t n : ℕ) : Type 0 where
  pub small : length run ≤ encoded_max
  pub fits : length run ≤ room
  pub sound : broken run ≡ false
  pub long : length (decoded run) ≡ n + overhead
  pub most : n ≤ payload_max
  pub inside : length (decoded run) ≤ length run
  pub check : crc_of (covered_of (decoded run)) ≡ check_of (decoded run)
  pub kind : k ≡ kind_of (decoded run)
  pub tag : t ≡ tag_of (decoded run)

-- a test that refuses did not, where the answer is a body
passed : (b : Bool) (r : Refusal) (o : Opened) {k t n : ℕ} → cond b (O.Refused r) o ≡ O.Body k t n → (b ≡ false) × (o ≡ O.Body k t n)
passed true r o e = (cc, cc)
passed false r o e = (refl, e)

-- a test that takes did
taken : (b : Bool) (r : Refusal) {k t n i j m : ℕ} → cond b (O.Body i j m) (O.Refused r) ≡ O.Body k t n
    → (b ≡ true) × ((k ≡ i) × ((t ≡ j) × (n ≡ m)))
taken true r e = (refl, (cc, (cc, cc)))
taken false r e = (cc, (cc, (cc, cc)))

pub opens-facts : (run : List ℕ) (room : ℕ) {k t n : ℕ} → open_answer run room ≡ O.Body k t n → Opens run room k t n
unfolding open_answer open_body
opens-facts run room e =
    let b = decoded run in
    let a₁ = passed (ltb encoded_max (length run)) _ _ e in
    let a₂ = passed (ltb room (length run)) _ _ a₁.1 in
    let a₃ = passed (broken run) _ _ a₂.1 in
    let a₄ = passed (ltb (length b) overhead) _ _ a₃.1 in
    let a₅ = passed (ltb body_max (length b)) _ _ a₄.1 in
    let a₆ = taken (eqb (crc_of (covered_of b)) (check_of b)) _ a₅.1 in
    let l = ltb-false (length b) overhead a₄.0 in
    let m = ltb-false body_max (length b) a₅.0 in
    record {
      small = ltb-false encoded_max (length run) a₁.0;
      fits = ltb-false room (length run) a₂.0;
      sound = a₃.0;
      long = omega (arith, a₆.1.1.1);
      most = omega (arith, a₆.1.1.1);
      inside = decoded-length run;
      check = eqb-true _ _ a₆.0;
      kind = a₆.1.0;
      tag = a₆.1.1.0;
    }

module _ (run : List ℕ) (room : ℕ) (d : List ℕ) {k t n : ℕ} (e : open_answer run room ≡ O.Body k t n) (h : encoded_max ≤ length d) where
  abbrev o : Opens run room k t n
  o = opens-facts run room e

  -- working memory then
  pub unpack-lays : unpack_left run room d ≡ lay 0 (decoded run) d
  unfolding unpack_left decode_left decode_answer
  unpack-lays =
      let s = o.small in
      let f = le-ltb encoded_max (length run) s in
      simp (f, le-ltb room (length run) o.fits, le-ltb (length d) (length run) (omega arith), o.sound)

  -- the body in it
  pub unpack-body : take (n + overhead) (unpack_left run room d) ≡ decoded run
  unpack-body = rw (unpack-lays, ← o.long) (take-laid (decoded run) d)

  -- and the payload
  pub unpack-payload : take n (drop 3 (unpack_left run room d)) ≡ payload_of (decoded run)
  unfolding lay
  unpack-payload =
      let b = decoded run in
      let l = o.long in
      let s : length b - overhead ≡ n = omega arith in
      rw (unpack-lays, s, drop-append-le 3 b _ (omega arith)) (take-append-le n (drop 3 b) _ (rw length-drop (omega arith)))

-- the payload in working memory of zeros
pub payload-seen : (run : List ℕ) (room : ℕ) (memory : List ℕ) {k t n : ℕ} → open_answer run room ≡ O.Body k t n
    → memory ≡ unpack_left run room (replicate encoded_max 0) → take (3 + n - 3) (drop 3 memory) ≡ payload_of (decoded run)
payload-seen run room memory {k} {t} {n} e m =
    let same : 3 + n - 3 ≡ n = omega arith in
    rw (same, m) (unpack-payload run room (replicate encoded_max 0) e (le_refl encoded_max))
