-- What a payload has if its form is met, and which OKs are empty.
-- The idea: where the form is met, each test before it that leads to Wrong was false.
-- Assumes nothing.
use mathlib.Core.Path.{◌≡◌, refl, sym}
use mathlib.Core.Bool.{Bool, true, false, cond, true≢false}
use mathlib.Core.List.{List, [], ◌∷◌}
use Prim.Native.Nat.{ℕ, ◌+◌, ◌-◌, ◌≤◌}
use native.Mathlib.Omega.{arith}
use borrow.Author.Tests.{ltb-false, leb-true, le-leb}
use denote.Enum.Declared.{tag_of}
use types.Run.{OneOf, miss}
use lib.Dec.{ltb}
use lib.ListN.{length, drop, length-drop}
use Rattle.scalar.specs.Scalars.{column, get}
use Rattle.form.specs.Forms.{at_least}
use Rattle.form.specs.declared.Form.{Form}
use Rattle.form.specs.declared.Form.TheVariants as F
use Rattle.modulation.specs.Modulations.{config_form}
use Rattle.rx.specs.Rx.{rx_size, rx_form}
use Rattle.kind.specs.declared.Name.{Name}
use Rattle.kind.specs.declared.Name.TheVariants as N
use Rattle.kind.specs.contracts.Name.{the_type}
use Rattle.answer.specs.Answers.{configured_size, configured_form, tx_done_size, tx_done_form, ok_form, ok_of}
use Rattle.answer.specs.declared.Answer.TheVariants as A

-- a form behind a test that leads to Wrong, and behind three
passed : (a : Bool) (f : Form) (n : ℕ) → at_least (cond a F.Wrong f) n ≡ true → (a ≡ false) × (at_least f n ≡ true)
passed true f n e = absurd (true≢false (sym e))
passed false f n e = (refl, e)

all-passed : (a b c : Bool) (f : Form) (n : ℕ) → at_least (cond a F.Wrong (cond b F.Wrong (cond c F.Wrong f))) n ≡ true → at_least f n ≡ true
all-passed a b c f n e = (passed c f n (passed b (cond c F.Wrong f) n (passed a (cond b F.Wrong (cond c F.Wrong f)) n e).1).1).1

pub rx-there : (p : List ℕ) → at_least (rx_form p) (length p) ≡ true → rx_size ≤ length p
unfolding rx_form
rx-there p e = ltb-false (length p) rx_size (passed _ _ (length p) e).0

pub tx-done-there : (p : List ℕ) → at_least (tx_done_form p) (length p) ≡ true → tx_done_size ≤ length p
unfolding tx_done_form
tx-done-there p e = ltb-false (length p) tx_done_size (passed _ _ (length p) e).0

-- an OK to SET_CONFIG: its first two fields, and the configuration after them
pub configured-there : (p : List ℕ) → at_least (configured_form p) (length p) ≡ true
    → (configured_size ≤ length p) × (at_least (config_form (drop configured_size p)) (length (drop configured_size p)) ≡ true)
unfolding configured_form
configured-there p e = (long, rest (config_form (drop 2 p)) refl)
  where
    long : 2 ≤ length p
    long = ltb-false (length p) 2 (passed _ _ (length p) e).0

    tested : (f : Form)
        → at_least (cond (ltb (length p) 2) F.Wrong (cond (ltb 2 (get (column 0 1) p)) F.Wrong (cond (ltb 2 (get (column 1 1) p)) F.Wrong f))) (length p) ≡ true
        → at_least f (length p) ≡ true
    tested f = all-passed (ltb (length p) 2) (ltb 2 (get (column 0 1) p)) (ltb 2 (get (column 1 1) p)) f (length p)

    rest : (f : Form) → config_form (drop 2 p) ≡ f → at_least (config_form (drop 2 p)) (length (drop 2 p)) ≡ true
    rest (F.Size k) q =
        let h = leb-true (2 + k) (length p) (tested (F.Size (2 + k)) (rw q at e)) in
        rw (q, length-drop 2 p) (le-leb k (length p - 2) (omega arith))
    rest F.Wrong q = absurd (true≢false (sym (tested F.Wrong (rw q at e))))
