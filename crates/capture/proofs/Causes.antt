-- A run is BAD where STUFF, LENGTH or CHECK applies, 5 to 7 of 01, and for no other cause: the room for a run is never short.
-- Assumes nothing.
use mathlib.Core.Bool.{Bool, true, false, cond}
use mathlib.Core.List.{List}
use Prim.Native.Nat.{ℕ, ◌-◌}
use lib.Dec.{ltb, eqb}
use lib.ListN.{length}
use Rattle.status.specs.declared.Refusal.{Refusal}
use Rattle.status.specs.declared.Refusal.TheVariants as R
use Rattle.crc16.specs.Crc.{crc_of}
use Rattle.cobs.specs.Decoding.{broken, decoded}
use Rattle.cobs.specs.Answers.{body_max, encoded_max}
use Rattle.frame.specs.Body.{overhead, kind_of, tag_of, check_of, covered_of}
use Rattle.frame.specs.Reading.{open_body, open_answer}
use Rattle.frame.specs.declared.Opened.{Opened}
use Rattle.frame.specs.declared.Opened.TheVariants as O

abbrev pub Bad : Refusal → Type 0
Bad R.Short = ⊥
Bad R.Stuff = Unit {0}
Bad R.Length = Unit {0}
Bad R.Check = Unit {0}
Bad R.Tag = ⊥
Bad R.Type = ⊥
Bad R.Form = ⊥

abbrev pub GoodOrBad : Opened → Type 0
GoodOrBad (O.Body kind tag len) = Unit {0}
GoodOrBad (O.Refused r) = Bad r

body-causes : (b : List ℕ) → GoodOrBad (open_body b)
unfolding open_body
body-causes b = go (ltb (length b) overhead) (ltb body_max (length b)) (eqb (crc_of (covered_of b)) (check_of b))
  where
    go : (t u v : Bool)
        → GoodOrBad (cond t (O.Refused R.Length) (cond u (O.Refused R.Length)
        (cond v (O.Body (kind_of b) (tag_of b) (length b - overhead)) (O.Refused R.Check))))
    go true u v = tt
    go false true v = tt
    go false false true = tt
    go false false false = tt

pub causes : (run : List ℕ) → GoodOrBad (open_answer run encoded_max)
unfolding open_answer
causes run = go (ltb encoded_max (length run)) (broken run)
  where
    go : (t u : Bool)
        → GoodOrBad (cond t (O.Refused R.Length) (cond t (O.Refused R.Short) (cond u (O.Refused R.Stuff) (open_body (decoded run)))))
    go true u = tt
    go false true = tt
    go false false = body-causes (decoded run)
