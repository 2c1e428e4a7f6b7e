-- Why a reader or a writer refuses, and the number that comes back: 01 "Numbers that come back", 4 to 10.
-- Assumes nothing.
use Rattle.std.specs.Prelude.{ℕ}
use Rattle.status.specs.Numbers.{SHORT, STUFF, LENGTH, CHECK, TAG, TYPE, FORM}
use Rattle.status.specs.declared.Refusal.{Refusal}
use Rattle.status.specs.declared.Refusal.TheVariants as R

abbrev pub refusal_number : Refusal → ℕ
refusal_number R.Short = SHORT
refusal_number R.Stuff = STUFF
refusal_number R.Length = LENGTH
refusal_number R.Check = CHECK
refusal_number R.Tag = TAG
refusal_number R.Type = TYPE
refusal_number R.Form = FORM
