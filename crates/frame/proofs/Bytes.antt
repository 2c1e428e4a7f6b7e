-- Where a run is of bytes, so is the body in it: each byte of the body is one of the run's, or a zero. So its tag is a u16.
-- The idea: bytes stay bytes in the groups that the run is read as, and in the gaps between them.
-- Assumes nothing.
use mathlib.Core.Path.{◌≡◌}
use mathlib.Core.Bool.{Bool, true, false, cond}
use mathlib.Core.List.{List, [], ◌∷◌, ◌++◌}
use Prim.Native.Nat.{ℕ, ◌-◌, ◌<◌, ◌≤◌}
use native.Mathlib.Omega.{arith}
use lib.Dec.{eqb}
use lib.ListN.{length, drop, length-take, length-drop}
use Rattle.cobs.specs.Groups.{is_full, into}
use Rattle.cobs.specs.Decoding.{to_come, parts, groups, gap, joined, decoded}
use Rattle.scalar.specs.Bytes.{Each, IsByte, Bytes}
use Rattle.scalar.proofs.Bytes.{each_append, get-small}
use Rattle.frame.specs.Body.{overhead, payload_max, payload_of}
use Rattle.frame.specs.Reading.{open_answer}
use Rattle.frame.specs.declared.Opened.TheVariants as O
use Rattle.frame.proofs.Laws.{opens-facts}

-- ---- groups of bytes

into-each : (x : ℕ) (gs : List (List ℕ)) → x < 256 → Each Bytes gs → Each Bytes (into x gs)
into-each x [] h e = ((h, tt), tt)
into-each x (g ∷ gs) h e = ((h, e.0), e.1)

-- a code begins a group, any other byte joins one
next-each : (code : Bool) (x : ℕ) (gs : List (List ℕ)) → x < 256 → Each Bytes gs → Each Bytes (cond code ([] ∷ gs) (into x gs))
next-each true x gs h e = (tt, e)
next-each false x gs h e = into-each x gs h e

parts-each : (n : ℕ) (xs : List ℕ) → Bytes xs → Each Bytes (parts n xs)
unfolding parts
parts-each n [] b = (tt, tt)
parts-each n (x ∷ xs) b = next-each (eqb n 0) x (parts (to_come n x) xs) b.0 (parts-each (to_come n x) xs b.1)

-- what was left out between two groups
gap-bytes : (g : List ℕ) (gs : List (List ℕ)) → Bytes (gap g gs)
gap-bytes g [] = tt
gap-bytes g (h ∷ hs) = go (is_full g)
  where
    go : (t : Bool) → Bytes (cond t [] (0 ∷ []))
    go true = tt
    go false = (omega arith, tt)

joined_bytes : (gs : List (List ℕ)) → Each Bytes gs → Bytes (joined gs)
unfolding joined
joined_bytes [] e = tt
joined_bytes (g ∷ gs) e =
    each_append IsByte g (gap g gs ++ joined gs) e.0 (each_append IsByte (gap g gs) (joined gs) (gap-bytes g gs) (joined_bytes gs e.1))

-- what is decoded from bytes is bytes
pub decoded-bytes : (xs : List ℕ) → Bytes xs → Bytes (decoded xs)
unfolding decoded groups joined
decoded-bytes [] b = tt
decoded-bytes (x ∷ xs) b = joined_bytes (parts (x - 1) xs) (parts-each (x - 1) xs b.1)

-- ---- a run that opens

module _ (run : List ℕ) (room : ℕ) {k t n : ℕ} where
  -- its tag is a u16
  pub opened-tag : Bytes run → open_answer run room ≡ O.Body k t n → t < 65536
  opened-tag b e = omega (arith, (opens-facts run room e).tag, get-small 1 2 (decoded run) (decoded-bytes run b))

  -- its length is that of the payload, which is no longer than the longest
  pub opened-length : open_answer run room ≡ O.Body k t n → (n ≡ length (payload_of (decoded run))) × (n ≤ payload_max)
  opened-length e =
      let o = opens-facts run room e in
      let l = o.long in
      let b = decoded run in
      (omega (arith, length-take (length b - overhead) (drop 3 b), length-drop 3 b), o.most)
