-- COBS encoding ("stuffing" in 01): P appendix A, `cobs_encode`; 01 "Bytes on the wire".
-- Assumes nothing.
use Rattle.std.specs.Prelude.{ℕ, ◌+◌, ◌/◌, Bool, cond, ◌||◌, List, [], ◌∷◌, ◌++◌, eqb, length}
use Rattle.cobs.specs.Groups.{full, into, first}

-- whether the byte x ends a group that has n bytes before it: a zero does, and the 254th byte does
abbrev pub ends : ℕ → ℕ → Bool
ends n x = eqb x 0 || eqb (n + 1) full

-- what such an x leaves in the group: a zero is left out
abbrev pub last : ℕ → List ℕ
last x = cond (eqb x 0) [] (x ∷ [])

-- The source cut into groups, where the first has n bytes already.
-- After a full group another one follows, an empty one at the end of the source: that is the closing 01.
unfoldable pub grouped : ℕ → List ℕ → List (List ℕ)
grouped n [] = [] ∷ []
grouped n (x ∷ xs) =
    let gs = grouped (cond (ends n x) 0 (n + 1)) xs in
    cond (ends n x) (last x ∷ gs) (into x gs)

-- the first group of the source xs
unfoldable pub group : List ℕ → List ℕ
group xs = first (grouped 0 xs)

-- groups on the wire: each as its code and its bytes
unfoldable pub groups_bytes : List (List ℕ) → List ℕ
groups_bytes [] = []
groups_bytes (g ∷ gs) = (length g + 1) ∷ (g ++ groups_bytes gs)

-- the encoding of the bytes xs
unfoldable pub encoded : List ℕ → List ℕ
encoded xs = groups_bytes (grouped 0 xs)

-- the most that n bytes become
abbrev pub worst : ℕ → ℕ
worst n = n + n / full + 1
