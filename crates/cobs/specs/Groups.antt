-- COBS ("stuffing" in 01) works on groups: bytes without a zero, at most 254 of them. P 2.4 and appendix A.
-- On the wire a group is its code, which is its length and one, and then its bytes.
-- Assumes nothing.
use Rattle.std.specs.Prelude.{ℕ, Bool, List, [], ◌∷◌, eqb, length}

-- A full group has 254 bytes, and so the code FF. No zero stands after it.
abbrev pub full : ℕ
full = 254

abbrev pub is_full : List ℕ → Bool
is_full g = eqb (length g) full

-- the byte x put in front of the first of some groups
abbrev pub into : ℕ → List (List ℕ) → List (List ℕ)
into x [] = (x ∷ []) ∷ []
into x (g ∷ gs) = (x ∷ g) ∷ gs

-- the first of some groups
abbrev pub first : List (List ℕ) → List ℕ
first [] = []
first (g ∷ gs) = g
