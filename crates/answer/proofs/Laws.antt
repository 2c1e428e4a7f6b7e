-- Laws of the answers' payloads: an answer written and read back is the same, so are its bytes, and what is too long is never of the form.
-- The idea: an Info, an RX and a configuration have their own laws, and the other payloads compute.
-- Assumes nothing.
use mathlib.Core.Path.{◌≡◌, refl, sym, ap, ap₂, ◌∙◌}
use mathlib.Core.Bool.{Bool, true, false, cond, true≢false}
use mathlib.Core.List.{List, ◌++◌}
use Prim.Native.Nat.{ℕ, ◌+◌, ◌-◌, ◌<◌, ◌≤◌}
use native.Mathlib.Omega.{arith}
use borrow.Author.Tests.{eq-eqb, eqb-true}
use lib.Dec.{ltb, eqb}
use lib.ListN.{length, drop, length-drop, take-append-drop}
use Rattle.buffer.specs.Lay.{lay}
use Rattle.status.specs.declared.Refusal.TheVariants as R
use Rattle.status.proofs.Laws.{same_by, refusal-back, answer_by}
use Rattle.scalar.specs.Scalars.{le, column, get}
use Rattle.scalar.proofs.Laws.{number-le}
use Rattle.form.specs.Forms.{exactly, at_least}
use Rattle.form.proofs.Laws.{exactly-size, exactly-at-least, refuted, passed}
use Rattle.form.specs.declared.Form.{Form}
use Rattle.form.specs.declared.Form.TheVariants as F
use Rattle.kind.specs.Kinds.{OK, ERR, RX, is_answer}
use Rattle.kind.specs.declared.Name.{Name}
use Rattle.kind.specs.declared.Name.TheVariants as N
use Rattle.modulation.specs.Modulations.{config_form}
use Rattle.modulation.proofs.Laws.{config-back, config-small, fixed-most, length-config, word_back}
use Rattle.info.specs.Info.{info_form, info_bytes}
use Rattle.info.proofs.Laws.{info-back, info-form-back, info-size, length-info, uids-back}
use Rattle.rx.specs.Rx.{rx_form, rx_bytes}
use Rattle.rx.proofs.Laws.{packet-back, rx-back, rx-size}
use Rattle.answer.specs.Answers.{configured_form, configured_of, configured_bytes, tx_done_form, tx_done_bytes, ok_form, answer_form, answer_of}
use Rattle.answer.specs.Answers.{read_answer, answered_result, answer_kind, answer_name, MayAnswer, answer_bytes, answer_tail}
use Rattle.answer.specs.Ranges.{AnswerIn}
use Rattle.answer.specs.declared.Answer.{Answer}
use Rattle.answer.specs.declared.Answer.TheVariants as A
use Rattle.answer.specs.declared.Answered.{Answered}
use Rattle.answer.specs.declared.Answered.TheVariants as D

-- ---- the longest payloads

info-small : (p : List ℕ) → exactly (info_form p) (length p) ≡ true → length p ≤ 85
info-small p e = info-size p (length p) (exactly-size (info_form p) (length p) e)

rx-small : (p : List ℕ) → exactly (rx_form p) (length p) ≡ true → length p ≤ 275
rx-small p e = (rx-size p (length p) (exactly-size (rx_form p) (length p) e)).2

tx-done-small : (p : List ℕ) → exactly (tx_done_form p) (length p) ≡ true → length p ≤ 5
unfolding tx_done_form
tx-done-small p e =
    let n = length p in
    let size = (passed (ltb 2 (get (column 0 1) p)) _ n (passed (ltb n 5) _ n e).1).1 in
    omega (arith, eqb-true 5 n size)

-- the configuration in an OK to SET_CONFIG
configured-rest : (p : List ℕ) → exactly (configured_form p) (length p) ≡ true → exactly (config_form (drop 2 p)) (length (drop 2 p)) ≡ true
unfolding configured_form
configured-rest p e = go (config_form (drop 2 p)) refl
  where
    tested : (f : Form)
        → exactly (cond (ltb (length p) 2) F.Wrong (cond (ltb 2 (get (column 0 1) p)) F.Wrong (cond (ltb 2 (get (column 1 1) p)) F.Wrong f))) (length p) ≡ true
        → exactly f (length p) ≡ true
    tested f h =
        let n = length p in
        (passed (ltb 2 (get (column 1 1) p)) f n (passed (ltb 2 (get (column 0 1) p)) _ n (passed (ltb n 2) _ n h).1).1).1

    go : (f : Form) → config_form (drop 2 p) ≡ f → exactly (config_form (drop 2 p)) (length (drop 2 p)) ≡ true
    go (F.Size k) q =
        let h = eqb-true (2 + k) (length p) (tested (F.Size (2 + k)) (rw q at e)) in
        rw (q, length-drop 2 p) (eq-eqb k (length p - 2) (omega arith))
    go F.Wrong q = absurd (true≢false (sym (tested F.Wrong (rw q at e))))

configured-small : (p : List ℕ) → exactly (configured_form p) (length p) ≡ true → length p ≤ 27
configured-small p e = omega (arith, length-drop 2 p, config-small (drop 2 p) (configured-rest p e))

ok-small : (name : Name) (p : List ℕ) → exactly (ok_form name p) (length p) ≡ true → length p ≤ 85
ok-small N.Ping p e = omega (arith, eqb-true 0 (length p) e)
ok-small N.GetInfo p e = info-small p e
ok-small N.SetConfig p e = omega (arith, configured-small p e)
ok-small N.Tx p e = omega (arith, eqb-true 0 (length p) e)
ok-small N.RxStart p e = omega (arith, eqb-true 0 (length p) e)
ok-small N.RxStop p e = omega (arith, eqb-true 0 (length p) e)

pub answer-small : (k : ℕ) (name : Name) (p : List ℕ) → exactly (answer_form k name p) (length p) ≡ true → length p ≤ 275
unfolding answer_form
answer-small k name p = go (eqb k OK) (eqb k ERR) (eqb k RX)
  where
    go : (a b c : Bool) → exactly (cond a (ok_form name p) (cond b (F.Size 2) (cond c (rx_form p) (tx_done_form p)))) (length p) ≡ true
        → length p ≤ 275
    go true b c e = omega (arith, ok-small name p e)
    go false true c e = omega (arith, eqb-true 2 (length p) e)
    go false false true e = rx-small p e
    go false false false e = omega (arith, tx-done-small p e)

-- ---- how long

pub answer-length : (a : Answer) (bs : List ℕ) → (length (answer_bytes a bs) ≤ 37 + length bs) × (length bs ≤ length (answer_bytes a bs))
unfolding answer_bytes configured_bytes rx_bytes tx_done_bytes lay le
answer-length A.Ok bs = (omega arith, omega arith)
answer-length (A.Info m) bs = let n = length-info m bs in (omega arith, omega arith)
answer-length (A.Configured m) bs =
    let n = length-config m.current bs in
    let k = fixed-most m.current in
    (omega arith, omega arith)
answer-length (A.Err c) bs = (omega arith, omega arith)
answer-length (A.Rx m) bs = (omega arith, omega arith)
answer-length (A.TxDone r t) bs = (omega arith, omega arith)

-- the most bytes of variable length
pub answer-most : (a : Answer) (bs : List ℕ) → exactly (answer_form (answer_kind a) (answer_name a) (answer_bytes a bs)) (length (answer_bytes a bs)) ≡ true
    → length bs ≤ 255
unfolding answer_form answer_bytes rx_bytes lay le
answer-most A.Ok bs e = omega (arith, eqb-true 0 (length bs) e)
answer-most (A.Info m) bs e = omega (arith, info-small (info_bytes m bs) e, length-info m bs)
answer-most (A.Configured m) bs e = omega (arith, configured-small (configured_bytes m bs) e, (answer-length (A.Configured m) bs).1)
answer-most (A.Err c) bs e = omega (arith, eqb-true 2 (length (answer_bytes (A.Err c) bs)) e)
answer-most (A.Rx m) bs e = omega (arith, rx-small (rx_bytes m ++ bs) e)
answer-most (A.TxDone r t) bs e = omega (arith, tx-done-small (tx_done_bytes r t ++ bs) e, (answer-length (A.TxDone r t) bs).1)

pub answer-long : (a : Answer) (bs : List ℕ) → 255 < length bs
    → exactly (answer_form (answer_kind a) (answer_name a) (answer_bytes a bs)) (length (answer_bytes a bs)) ≡ false
answer-long a bs h = refuted _ (λ e. omega (arith, answer-most a bs e))

-- ---- what reading answers

answered-back : (a : Answered) → answer_by D.Answer D.Refused (answered_result a) ≡ a
answered-back (D.Answer a) = refl
answered-back (D.Refused r) = ap D.Refused (refusal-back r)

-- it is told by its number and its answer
pub answered-same : (a b : Answered) → answered_result a ≡ answered_result b → a ≡ b
answered-same = same_by answered_result (answer_by D.Answer D.Refused) answered-back

-- ---- read back

pub answer-is : (a : Answer) → is_answer (answer_kind a) ≡ true
unfolding is_answer
answer-is A.Ok = refl
answer-is (A.Info m) = refl
answer-is (A.Configured m) = refl
answer-is (A.Err c) = refl
answer-is (A.Rx m) = refl
answer-is (A.TxDone r t) = refl

of-back : (a : Answer) → AnswerIn a → (bs : List ℕ)
    → exactly (answer_form (answer_kind a) (answer_name a) (answer_bytes a bs)) (length (answer_bytes a bs)) ≡ true
    → answer_of (answer_kind a) (answer_name a) (answer_bytes a bs) ≡ a
unfolding answer_form answer_of answer_bytes configured_of configured_bytes tx_done_bytes lay le
of-back A.Ok r bs e = refl
of-back (A.Info m) r bs e = ap A.Info (info-back m r bs (omega (arith, (info-form-back m r bs e).2)))
of-back (A.Configured m) r bs e =
    λ i.
    A.Configured record {
      result = number-le 1 m.result r.result i;
      owner = number-le 1 m.owner r.owner i;
      current = config-back m.current r.current bs i;
    }
of-back (A.Err c) r bs e = ap A.Err (number-le 2 c r)
of-back (A.Rx m) r bs e = ap A.Rx (rx-back m r bs)
of-back (A.TxDone x t) r bs e = ap₂ A.TxDone (number-le 1 x r.0) (number-le 4 t r.1)

pub answer_back : (a : Answer) → AnswerIn a → (bs : List ℕ)
    → exactly (answer_form (answer_kind a) (answer_name a) (answer_bytes a bs)) (length (answer_bytes a bs)) ≡ true
    → read_answer (answer_kind a) (answer_name a) (answer_bytes a bs) ≡ D.Answer a
unfolding read_answer
answer_back a r bs e =
    let p = answer_bytes a bs in
    let h = exactly-at-least (answer_form (answer_kind a) (answer_name a) p) (length p) e in
    simp (answer-is a, h) (ap D.Answer (of-back a r bs e))

pub answer-tail : (a : Answer) → AnswerIn a → (bs : List ℕ)
    → exactly (answer_form (answer_kind a) (answer_name a) (answer_bytes a bs)) (length (answer_bytes a bs)) ≡ true
    → answer_tail (answer_kind a) (answer_name a) (answer_bytes a bs) ≡ bs
unfolding answer_form answer_tail answer_bytes configured_bytes tx_done_bytes lay le
answer-tail A.Ok r bs e = refl
answer-tail (A.Info m) r bs e =
    let u = uids-back m r bs (info-form-back m r bs e).2 in
    ap₂ ◌++◌ u.0 u.1 ∙ take-append-drop m.mcu_uid_len bs
answer-tail (A.Configured m) r bs e = word_back m.current r.current bs (configured-rest (configured_bytes m bs) e)
answer-tail (A.Err c) r bs e = refl
answer-tail (A.Rx m) r bs e = packet-back m bs
answer-tail (A.TxDone x t) r bs e = refl

-- ---- with each command that an answer may be read with

named : (a : Answer) (n : Name) → MayAnswer a n → (p : List ℕ)
    → (answer_form (answer_kind a) n p ≡ answer_form (answer_kind a) (answer_name a) p)
    × (answer_of (answer_kind a) n p ≡ answer_of (answer_kind a) (answer_name a) p)
    × (answer_tail (answer_kind a) n p ≡ answer_tail (answer_kind a) (answer_name a) p)
unfolding answer_form answer_of answer_tail
named A.Ok N.Ping h p = (refl, refl, refl)
named A.Ok N.GetInfo h p = absurd h
named A.Ok N.SetConfig h p = absurd h
named A.Ok N.Tx h p = (refl, refl, refl)
named A.Ok N.RxStart h p = (refl, refl, refl)
named A.Ok N.RxStop h p = (refl, refl, refl)
named (A.Info m) N.Ping h p = absurd h
named (A.Info m) N.GetInfo h p = (refl, refl, refl)
named (A.Info m) N.SetConfig h p = absurd h
named (A.Info m) N.Tx h p = absurd h
named (A.Info m) N.RxStart h p = absurd h
named (A.Info m) N.RxStop h p = absurd h
named (A.Configured m) N.Ping h p = absurd h
named (A.Configured m) N.GetInfo h p = absurd h
named (A.Configured m) N.SetConfig h p = (refl, refl, refl)
named (A.Configured m) N.Tx h p = absurd h
named (A.Configured m) N.RxStart h p = absurd h
named (A.Configured m) N.RxStop h p = absurd h
named (A.Err c) n h p = (refl, refl, refl)
named (A.Rx m) n h p = (refl, refl, refl)
named (A.TxDone r t) n h p = (refl, refl, refl)

module _ (a : Answer) (n : Name) (h : MayAnswer a n) (p : List ℕ) where
  pub form-named : answer_form (answer_kind a) n p ≡ answer_form (answer_kind a) (answer_name a) p
  form-named = (named a n h p).0

  pub read_named : read_answer (answer_kind a) n p ≡ read_answer (answer_kind a) (answer_name a) p
  unfolding read_answer
  read_named =
      ap₂
      (λ (f : Form) (x : Answer). cond (is_answer (answer_kind a)) (cond (at_least f (length p)) (D.Answer x) (D.Refused R.Form)) (D.Refused R.Type))
      form-named
      (named a n h p).1

  pub tail-named : answer_tail (answer_kind a) n p ≡ answer_tail (answer_kind a) (answer_name a) p
  tail-named = (named a n h p).2
