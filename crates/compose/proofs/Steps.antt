-- What writing answers and leaves where the message is of the writer's types and its payload is wrong: TAG, then FORM.
-- Assumes nothing.
use mathlib.Core.Path.{◌≡◌, refl}
use mathlib.Core.Bool.{Bool, true, false, cond}
use mathlib.Core.List.{List}
use Prim.Native.Nat.{ℕ}
use lib.ListN.{length}
use Rattle.status.specs.declared.Refusal.TheVariants as R
use Rattle.frame.specs.declared.Written.TheVariants as W
use Rattle.kind.specs.Kinds.{tag_wrong}
use Rattle.wellformed.specs.Checking.{has, fits_written, check}
use Rattle.wellformed.specs.declared.Kinds.{Kinds}
use Rattle.writer.specs.Writing.{body_answer, body_left, write_answer, write_left}

module _ (kinds : Kinds) (k t : ℕ) (p d : List ℕ) (h : has kinds k ≡ true) (f : fits_written kinds k p ≡ false) where
  pub wrong-body : (W.Refused (cond (tag_wrong k t) R.Tag R.Form) ≡ body_answer kinds k t p (length d)) × (d ≡ body_left kinds k t p d)
  unfolding body_answer body_left check
  wrong-body = go (tag_wrong k t) refl
    where
      go : (b : Bool) → tag_wrong k t ≡ b
          → (W.Refused (cond (tag_wrong k t) R.Tag R.Form) ≡ body_answer kinds k t p (length d)) × (d ≡ body_left kinds k t p d)
      go true e = (rw e, rw e)
      go false e = (rw (e, h, f), rw (e, h, f))

  pub wrong-frame : (W.Refused (cond (tag_wrong k t) R.Tag R.Form) ≡ write_answer kinds k t p (length d)) × (d ≡ write_left kinds k t p d)
  unfolding write_answer write_left check
  wrong-frame = go (tag_wrong k t) refl
    where
      go : (b : Bool) → tag_wrong k t ≡ b
          → (W.Refused (cond (tag_wrong k t) R.Tag R.Form) ≡ write_answer kinds k t p (length d)) × (d ≡ write_left kinds k t p d)
      go true e = (rw e, rw e)
      go false e = (rw (e, h, f), rw (e, h, f))
