-- COBS decoding ("unstuffing" in 01): P appendix A, `cobs_decode`, with the choices of 01 "Bytes on the wire".
-- Assumes nothing.
use Rattle.std.specs.Prelude.{ℕ, ◌-◌, Bool, true, false, cond, not, ◌||◌, List, [], ◌∷◌, ◌++◌, eqb}
use Rattle.cobs.specs.Groups.{is_full, into}

-- How many bytes of a group are still to come after the byte x, where n were to come before it.
-- With none to come, x is the code of the next group.
abbrev pub to_come : ℕ → ℕ → ℕ
to_come n x = cond (eqb n 0) (x - 1) (n - 1)

-- 01: a zero anywhere
unfoldable pub has_zero : List ℕ → Bool
has_zero [] = false
has_zero (x ∷ xs) = eqb x 0 || has_zero xs

-- P: no group reaches past the end; n bytes of the first are still to come
unfoldable pub whole : ℕ → List ℕ → Bool
whole n [] = eqb n 0
whole n (x ∷ xs) = whole (to_come n x) xs

-- STUFF: an empty source, a zero anywhere, a group that reaches past the end
unfoldable pub broken : List ℕ → Bool
broken [] = true
broken (x ∷ xs) = has_zero (x ∷ xs) || not (whole 0 (x ∷ xs))

-- the groups in some bytes, of which the first n belong to a group whose code was read before
unfoldable pub parts : ℕ → List ℕ → List (List ℕ)
parts n [] = [] ∷ []
parts n (x ∷ xs) =
    let gs = parts (to_come n x) xs in
    cond (eqb n 0) ([] ∷ gs) (into x gs)

-- the groups of an encoding
unfoldable pub groups : List ℕ → List (List ℕ)
groups [] = []
groups (x ∷ xs) = parts (x - 1) xs

-- what was left out between the group g and those that follow it: a zero, but nothing after a full group
abbrev pub gap : List ℕ → List (List ℕ) → List ℕ
gap g [] = []
gap g (h ∷ hs) = cond (is_full g) [] (0 ∷ [])

-- the bytes that some groups stand for
unfoldable pub joined : List (List ℕ) → List ℕ
joined [] = []
joined (g ∷ gs) = g ++ (gap g gs ++ joined gs)

-- the bytes that an encoding stands for
unfoldable pub decoded : List ℕ → List ℕ
decoded xs = joined (groups xs)
