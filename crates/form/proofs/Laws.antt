-- What a form tells of a payload's size, by cases on the form or on the test before it.
-- Assumes nothing.
use mathlib.Core.Path.{◌≡◌, refl, sym, ap}
use mathlib.Core.Bool.{Bool, true, false, cond, true≢false}
use Prim.Native.Nat.{ℕ}
use native.Mathlib.Omega.{arith}
use borrow.Author.Tests.{le-leb, eqb-true}
use Rattle.form.specs.Forms.{exactly, at_least}
use Rattle.form.specs.declared.Form.{Form}
use Rattle.form.specs.declared.Form.TheVariants as F

pub exactly-size : (f : Form) (n : ℕ) → exactly f n ≡ true → f ≡ F.Size n
exactly-size (F.Size k) n e = ap F.Size (eqb-true k n e)
exactly-size F.Wrong n e = absurd (true≢false (sym e))

pub exactly-at-least : (f : Form) (n : ℕ) → exactly f n ≡ true → at_least f n ≡ true
exactly-at-least (F.Size k) n e = le-leb k n (omega (arith, eqb-true k n e))
exactly-at-least F.Wrong n e = absurd (true≢false (sym e))

-- a size that cannot be right is not
pub refuted : (t : Bool) → (t ≡ true → ⊥) → t ≡ false
refuted true h = absurd (h refl)
refuted false h = refl

-- a test that refuses did not, where the size is right
pub passed : (t : Bool) (f : Form) (n : ℕ) → exactly (cond t F.Wrong f) n ≡ true → (t ≡ false) × (exactly f n ≡ true)
passed true f n e = absurd (true≢false (sym e))
passed false f n e = (refl, e)
