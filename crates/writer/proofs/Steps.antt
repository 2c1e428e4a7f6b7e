-- What writing answers and leaves, by what checking the message gives: each law is one way through the code.
-- Assumes nothing.
use mathlib.Core.Path.{◌≡◌}
use mathlib.Core.List.{List}
use Prim.Native.Nat.{ℕ}
use lib.ListN.{length}
use Rattle.status.specs.declared.Refusal.{Refusal}
use Rattle.frame.specs.Body.{body}
use Rattle.frame.specs.Writing.{build_answer, build_left, frame_answer, frame_left}
use Rattle.frame.specs.declared.Written.TheVariants as W
use Rattle.wellformed.specs.Checking.{fits_written, check}
use Rattle.wellformed.specs.declared.Kinds.{Kinds}
use Rattle.wellformed.specs.declared.Checked.TheVariants as J
use Rattle.writer.specs.Writing.{body_answer, body_left, write_answer, write_left}

module _ (kinds : Kinds) (k t : ℕ) (p d : List ℕ) where
  module _ {r : Refusal} (j : check kinds k t (fits_written kinds k p) ≡ J.Refused r) where
    pub no_body : (body_answer kinds k t p (length d) ≡ W.Refused r) × (body_left kinds k t p d ≡ d)
    unfolding body_answer body_left
    no_body = (rw j, rw j)

    pub no_frame : (write_answer kinds k t p (length d) ≡ W.Refused r) × (write_left kinds k t p d ≡ d)
    unfolding write_answer write_left
    no_frame = (rw j, rw j)

  module _ (j : check kinds k t (fits_written kinds k p) ≡ J.Good) where
    pub as-body : (body_answer kinds k t p (length d) ≡ build_answer p (length d)) × (body_left kinds k t p d ≡ build_left k t p d)
    unfolding body_answer body_left build_left
    as-body = (rw j, rw j)

    pub as-frame : (write_answer kinds k t p (length d) ≡ frame_answer (body k t p) (length d))
        × (write_left kinds k t p d ≡ frame_left (body k t p) d)
    unfolding write_answer write_left frame_left
    as-frame = (rw j, rw j)
