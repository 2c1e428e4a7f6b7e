-- A refusal is told by its number, and an answer that is a value or a refusal by what comes back of it.
-- The idea: the number and the value lead back to it.
-- Assumes nothing.
use mathlib.Core.Path.{◌≡◌, refl, sym, ap, ◌∙◌}
use mathlib.Core.Bool.{cond}
use mathlib.Core.Option.{Option, none, some}
use Prim.Native.Nat.{ℕ}
use lib.Dec.{eqb}
use Rattle.status.specs.Numbers.{SHORT, STUFF, LENGTH, CHECK, TAG, TYPE}
use Rattle.status.specs.Refusals.{refusal_number}
use Rattle.status.specs.Result.{Result}
use Rattle.status.specs.declared.Refusal.{Refusal}
use Rattle.status.specs.declared.Refusal.TheVariants as R

-- what leads back tells values apart
pub same_by : {A B : Type 0} (f : A → B) (g : B → A) → ((a : A) → g (f a) ≡ a) → (a b : A) → f a ≡ f b → a ≡ b
same_by f g back a b e = sym (back a) ∙ ap g e ∙ back b

-- the refusal of a number
abbrev pub refusal_of : ℕ → Refusal
refusal_of n =
    cond (eqb n SHORT) R.Short
    (cond (eqb n STUFF) R.Stuff
    (cond (eqb n LENGTH) R.Length
    (cond (eqb n CHECK) R.Check
    (cond (eqb n TAG) R.Tag
    (cond (eqb n TYPE) R.Type
    R.Form)))))

pub refusal-back : (r : Refusal) → refusal_of (refusal_number r) ≡ r
refusal-back R.Short = refl
refusal-back R.Stuff = refl
refusal-back R.Length = refl
refusal-back R.Check = refl
refusal-back R.Tag = refl
refusal-back R.Type = refl
refusal-back R.Form = refl

-- the answer that a number and a value lead back to, where it is a value or a refusal
abbrev by_value : {A X : Type 0} → (A → X) → X → Option A → X
by_value taken refused none = refused
by_value taken refused (some a) = taken a

abbrev pub answer_by : {A X : Type 0} → (A → X) → (Refusal → X) → Result A → X
answer_by taken refused c = by_value taken (refused (refusal_of c.number)) c.value
