-- The definitions step by step, one equation for each case of a byte.
-- Assumes nothing.
use mathlib.Core.Path.{◌≡◌, refl}
use mathlib.Core.Logic.{⊎_elim}
use mathlib.Core.List.{List, [], ◌∷◌}
use Prim.Native.Nat.{ℕ, suc, ◌+◌, ◌-◌}
use native.Mathlib.Omega.{arith}
use borrow.Author.Tests.{eq-eqb, ne_eqb}
use Rattle.buffer.proofs.Deciding.{same}
use Rattle.cobs.specs.Groups.{full, into, first}
use Rattle.cobs.specs.Encoding.{grouped}
use Rattle.cobs.specs.Decoding.{whole, parts}

-- a byte x of the source, in a group that has n: a zero, the 254th, or another
pub three : {P : Type 0} (n x : ℕ)
    → (x ≡ 0 → P)
    → ((x ≡ 0 → ⊥) → n + 1 ≡ full → P)
    → ((x ≡ 0 → ⊥) → (n + 1 ≡ full → ⊥) → P)
    → P
three n x z f m = ⊎_elim z (λ s. ⊎_elim (f s) (m s) (same (n + 1) full)) (same x 0)

pub cut-none : (n : ℕ) → grouped n [] ≡ [] ∷ []
unfolding grouped
cut-none n = refl

module _ (n x : ℕ) (xs : List ℕ) where
  pred-suc : suc n - 1 ≡ n
  pred-suc = omega arith

  pub cut-zero : x ≡ 0 → grouped n (x ∷ xs) ≡ [] ∷ grouped 0 xs
  unfolding grouped
  cut-zero z = simp (eq-eqb x 0 z)

  pub cut-full : (x ≡ 0 → ⊥) → n + 1 ≡ full → grouped n (x ∷ xs) ≡ (x ∷ []) ∷ grouped 0 xs
  unfolding grouped
  cut-full s f = simp (ne_eqb x 0 s, eq-eqb (n + 1) full f)

  pub cut-more : (x ≡ 0 → ⊥) → (n + 1 ≡ full → ⊥) → grouped n (x ∷ xs) ≡ into x (grouped (n + 1) xs)
  unfolding grouped
  cut-more s f = simp (ne_eqb x 0 s, ne_eqb (n + 1) full f)

  -- a byte of an encoding, where n bytes and one of its group are to come
  pub whole-byte : whole (suc n) (x ∷ xs) ≡ whole n xs
  unfolding whole
  whole-byte = rw (ne_eqb (suc n) 0 (λ e. omega arith), pred-suc) refl

  pub parts-byte : parts (suc n) (x ∷ xs) ≡ into x (parts n xs)
  unfolding parts
  parts-byte = rw (ne_eqb (suc n) 0 (λ e. omega arith), pred-suc) refl

-- the groups after the first
abbrev pub others : List (List ℕ) → List (List ℕ)
others [] = []
others (g ∷ gs) = gs

pub into-split : (x : ℕ) (gs : List (List ℕ)) → into x gs ≡ (x ∷ first gs) ∷ others gs
into-split x [] = refl
into-split x (g ∷ gs) = refl
