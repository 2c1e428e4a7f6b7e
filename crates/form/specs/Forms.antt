-- The form of a payload: how many bytes its known fields take, or that its layout or a value is wrong (FORM in 01's table).
-- Assumes nothing.
use Rattle.std.specs.Prelude.{ℕ, Bool, false, eqb, leb}
use Rattle.form.specs.declared.Form.{Form}
use Rattle.form.specs.declared.Form.TheVariants as F

-- a payload of n bytes has just the known fields
abbrev pub exactly : Form → ℕ → Bool
exactly (F.Size k) n = eqb k n
exactly F.Wrong n = false

-- it has them, and may have more (P 16.4)
abbrev pub at_least : Form → ℕ → Bool
at_least (F.Size k) n = leb k n
at_least F.Wrong n = false
