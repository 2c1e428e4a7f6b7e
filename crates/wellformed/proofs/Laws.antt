-- A message that is not refused passed each of TAG, TYPE and FORM; and what checking gives is known by its number.
-- Assumes nothing.
use mathlib.Core.Path.{◌≡◌, refl}
use mathlib.Core.Bool.{Bool, true, false, cond}
use Prim.Native.Nat.{ℕ}
use native.Mathlib.Omega.{arith}
use lib.Dec.{eqb}
use Rattle.status.specs.Numbers.{TAKEN}
use Rattle.status.specs.declared.Refusal.TheVariants as R
use Rattle.status.proofs.Laws.{same_by, refusal_of}
use Rattle.kind.specs.Kinds.{tag_wrong}
use Rattle.wellformed.specs.Checking.{has, check, checked_number}
use Rattle.wellformed.specs.declared.Kinds.{Kinds}
use Rattle.wellformed.specs.declared.Checked.{Checked}
use Rattle.wellformed.specs.declared.Checked.TheVariants as J

-- TAG, TYPE and FORM do not apply
pub record Good (kinds : Kinds) (k t : ℕ) (fits : Bool) : Type 0 where
  pub tag : tag_wrong k t ≡ false
  pub type : has kinds k ≡ true
  pub form : fits ≡ true

pub good : (kinds : Kinds) (k t : ℕ) (fits : Bool) → check kinds k t fits ≡ J.Good → Good kinds k t fits
unfolding check
good kinds k t fits e = go (tag_wrong k t) (has kinds k) fits refl refl refl
  where
    go : (a b c : Bool) → tag_wrong k t ≡ a → has kinds k ≡ b → fits ≡ c → Good kinds k t fits
    go true b c p q r = absurd (let z : ◌≡◌ {A = ℕ} 0 1 = cc (simp p at e) in omega arith)
    go false false c p q r = absurd (let z : ◌≡◌ {A = ℕ} 0 1 = cc (simp (p, q) at e) in omega arith)
    go false true false p q r = absurd (let z : ◌≡◌ {A = ℕ} 0 1 = cc (simp (p, q, r) at e) in omega arith)
    go false true true p q r = record { tag = p; type = q; form = r }

-- the result of a number
abbrev checked_by : ℕ → Checked
checked_by n = cond (eqb n TAKEN) J.Good (J.Refused (refusal_of n))

checked-back : (j : Checked) → checked_by (checked_number j) ≡ j
checked-back J.Good = refl
checked-back (J.Refused R.Short) = refl
checked-back (J.Refused R.Stuff) = refl
checked-back (J.Refused R.Length) = refl
checked-back (J.Refused R.Check) = refl
checked-back (J.Refused R.Tag) = refl
checked-back (J.Refused R.Type) = refl
checked-back (J.Refused R.Form) = refl

pub checked-same : (a b : Checked) → checked_number a ≡ checked_number b → a ≡ b
checked-same = same_by checked_number checked_by checked-back
