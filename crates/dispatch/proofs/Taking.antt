-- A TX that starts says nothing; and what a SET_CONFIG does, by what a match knows of the radio.
-- Assumes nothing.
use Prim.Native.Nat.{ℕ}
use mathlib.Core.Path.{◌≡◌, refl, ap}
use mathlib.Core.List.{List}
use mathlib.Core.Logic.{◌⊎◌, inl, inr}
use Rattle.control.specs.declared.Radio.{Radio}
use Rattle.control.specs.declared.Radio.TheVariants.{Free, Listening, OnAir, Orphan, Configuring}
use Rattle.control.specs.declared.Device.{Device}
use Rattle.control.specs.declared.Taken.{Taken}
use Rattle.control.specs.Control.{done_at, Gives}
use Rattle.control.proofs.Laws.{writes_nothing}
use Rattle.queue.specs.Queue.{start, begin}
use Rattle.dispatch.specs.Commands.{pends, sets}

-- ---- TX

-- one that starts says nothing
pub starts : (m : List ℕ) (k n : ℕ) (d : Device) (o : List ℕ) (at : ℕ) {r : Taken} → r ≡ done_at at (start m k n d) → Gives (start m k n d) o at r o
unfolding start
starts m k n d o at e = writes_nothing (start m k n d) o at refl e

-- ---- SET_CONFIG

module _ (m : List ℕ) (d : Device) where
  -- with a TX or an orphan on air it waits
  pub sets-later : (r : Radio) → ((t : ℕ) × (r ≡ OnAir t)) ⊎ (r ≡ Orphan) → sets r m d ≡ pends d
  sets-later r (inl (t, e)) = ap (λ (x : Radio). sets x m d) e
  sets-later r (inr e) = ap (λ (x : Radio). sets x m d) e

  -- with no TX it begins
  pub sets-now : (r : Radio) → ((t : ℕ) → r ≡ Listening t → ⊥) → ((t : ℕ) → r ≡ OnAir t → ⊥) → (r ≡ Orphan → ⊥) → sets r m d ≡ begin m d
  sets-now Free k l n = refl
  sets-now Configuring k l n = refl
  sets-now (Listening t) k l n = absurd (k t refl)
  sets-now (OnAir t) k l n = absurd (l t refl)
  sets-now Orphan k l n = absurd (n refl)
