-- What comes back of an operation, whatever enum says it in code: a number of 01 "Numbers that come back", and the value that comes with it.
-- Assumes nothing.
use Rattle.std.specs.Prelude.{ℕ}
use Rattle.std.proofs.Math.Option.{Option, none, some}
use Rattle.status.specs.Numbers.{TAKEN}

-- 01's number, and the value that comes with it, which a refusal has none of
pub record Result (A : Type 0) : Type 0 where
  pub number : ℕ
  pub value : Option A

abbrev pub took : {A : Type 0} → A → Result A
took a = record { number = TAKEN; value = some a }

abbrev pub refused_with : {A : Type 0} → ℕ → Result A
refused_with n = record { number = n; value = none }

-- the value where one came, and else the second: what stood there
abbrev pub value_or : {A : Type 0} → Option A → A → A
value_or none old = old
value_or (some a) old = a
