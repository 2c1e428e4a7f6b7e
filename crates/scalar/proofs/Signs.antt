-- Signed numbers of n bits in the machine, worked on in a wider w: what the casts, the sum and the difference ask, and what they give.
-- A signed local holds bits, and each step reads and writes them (`again`): a law first takes that away, then speaks of the number.
-- Assumes nothing.
use mathlib.Core.Path.{◌≡◌, refl, sym, ap, subst, ◌∙◌}
use mathlib.Core.Bool.{Bool, true, false, cond}
use Prim.Native.Nat.{ℕ, zero, suc, ◌+◌, ◌-◌, ◌^◌, ◌<◌, ◌≤◌}
use native.Mathlib.Omega.{arith}
use borrow.Author.Tests.{lt-ltb, le-ltb, ltb-true, ltb-false}
use lib.Dec.{T, leb, ltb, leb→le, le→leb}
use lib.IntN.{ℤ, pos, negsuc, nat_abs, ◌+ℤ◌, ◌-ℤ◌}
use lib.Pow.{pow_mono}
use lib.Signed.{mag, lt_z, non_neg}
use mir.Facts.{to_z-of_z, to_z_pos}
use mir.Syntax.{Width}
use mir.Val.{Fits, SFits, bits, hbits, to_z, of_z}
use mir.ValLaws.{pow-bits}
use Rattle.scalar.specs.Scalars.{unsigned, signed}
use Rattle.scalar.proofs.Laws.{unsigned-below, signed_low, signed_high}

-- ---- the numbers

raised : (k : ℕ) (z : ℤ) → mag z < k → lt_z z (pos 0) ≡ true → z +ℤ pos k ≡ pos (k - suc (mag z))
raised k (pos a) h t = let e = ltb-true a 0 t in absurd (omega arith)
raised k (negsuc a) h t = simp (le-ltb k (suc a) h)

unsigned-raised : (half : ℕ) (z : ℤ) → lt_z z (pos 0) ≡ true → half + half - suc (mag z) ≡ unsigned half z
unfolding unsigned
unsigned-raised half (pos a) t = let e = ltb-true a 0 t in absurd (omega arith)
unsigned-raised half (negsuc a) t = refl

kept : (half : ℕ) (z : ℤ) → lt_z z (pos 0) ≡ false → z ≡ pos (unsigned half z)
unfolding unsigned
kept half (pos a) t = refl
kept half (negsuc a) t = cc

lowered : (u k : ℕ) → u < k → pos u -ℤ pos k ≡ negsuc (k - suc u)
lowered u zero h = absurd (omega arith)
lowered u (suc k) h = simp (lt-ltb u (suc k) h)

lowered-mag : (half u k : ℕ) → half ≤ u → u < half + half → half ≤ k → k ≤ half + half → mag (pos u -ℤ pos k) < half
lowered-mag half u zero a b c d = absurd (omega arith)
lowered-mag half u (suc k) a b c d = go (ltb u (suc k)) refl
  where
    go : (t : Bool) → ltb u (suc k) ≡ t → mag (cond t (negsuc (suc k - suc u)) (pos (u - suc k))) < half
    go true e = omega (arith, ltb-true u (suc k) e)
    go false e = omega (arith, ltb-false u (suc k) e)

-- ---- the widths

-- half of the numbers of n bits, and all of them
abbrev half : Width → ℕ
half n = 2 ^ hbits n

abbrev all : Width → ℕ
all n = half n + half n

-- z, written at a width and read again
abbrev again : Width → ℤ → ℤ
again n z = to_z n (of_z n z)

all-bits : (n : Width) → 2 ^ bits n ≡ all n
all-bits n = let k = pow-bits n in omega arith

-- a wider one holds them all
room : (n w : Width) → T (leb (bits n) (hbits w)) → all n ≤ half w
room n w wide = let k = all-bits n in let m = pow_mono (leb→le (bits n) (hbits w) wide) in omega arith

-- ---- from a signed number x

module _ (n : Width) {x : ℤ} (fits : SFits n x) where
  same : again n x ≡ x
  same = to_z-of_z fits

  below : unsigned (half n) x < all n
  below = unsigned-below (half n) x fits.sfits

  -- the last cast, of a number z
  cast-to : (z : ℤ) (u : ℕ) → z ≡ pos u → u < all n → T (non_neg z) × Fits n (nat_abs z)
  cast-to z u e h =
      subst
      (λ (y : ℤ). T (non_neg y) × Fits n (nat_abs y))
      (sym e)
      (tt, record { fits = let k = all-bits n in omega arith })

  -- x is not below zero
  module _ (t : lt_z (again n x) (pos 0) ≡ false) where
    plain : again n x ≡ pos (unsigned (half n) x)
    plain = same ∙ kept (half n) x (rw same at t)

    pub plain-cast : T (non_neg (again n x)) × Fits n (nat_abs (again n x))
    plain-cast = cast-to (again n x) (unsigned (half n) x) plain below

    pub plain-is : nat_abs (again n x) ≡ unsigned (half n) x
    plain-is = ap nat_abs plain

  -- x is below zero
  module _ (w : Width) (wide : T (leb (bits n) (hbits w))) where
    pub widened : SFits w (again n x)
    widened = rw same record { sfits = let k = room n w wide in omega (arith, fits.sfits) }

    -- raised by k
    module _ (t : lt_z (again n x) (pos 0) ≡ true) (k : ℕ) (least : T (leb (half n) k)) (most : T (leb k (all n))) where
      sum : again w (again n x) +ℤ pos k ≡ pos (k - suc (mag x))
      sum =
          ap (λ (z : ℤ). z +ℤ pos k) (to_z-of_z widened ∙ same)
          ∙ raised k x (let l = leb→le (half n) k least in omega (arith, fits.sfits)) (rw same at t)

      bounded : k - suc (mag x) < all n
      bounded = let l = leb→le k (all n) most in let m = leb→le (half n) k least in omega (arith, fits.sfits)

      pub sum_fits : SFits w (again w (again n x) +ℤ pos k)
      sum_fits = subst (SFits w) (sym sum) record { sfits = let r = room n w wide in let f = bounded in omega arith }

      pub sum-cast : T (non_neg (again w (again w (again n x) +ℤ pos k))) × Fits n (nat_abs (again w (again w (again n x) +ℤ pos k)))
      sum-cast = cast-to (again w (again w (again n x) +ℤ pos k)) (k - suc (mag x)) (to_z-of_z sum_fits ∙ sum) bounded

    -- by all of them
    module _ (t : lt_z (again n x) (pos 0) ≡ true) where
      pub sum_is : nat_abs (again w (again w (again n x) +ℤ pos (all n))) ≡ unsigned (half n) x
      sum_is =
          let l = le→leb (half n) (all n) (omega arith) in
          let m = le→leb (all n) (all n) (omega arith) in
          ap nat_abs (to_z-of_z (sum_fits t (all n) l m) ∙ sum t (all n) l m)
          ∙ unsigned-raised (half n) x (rw same at t)

-- ---- to a signed number, from the number u with the same bytes

-- it is below half
pub low-is : (n : Width) {u : ℕ} → u < half n → to_z n u ≡ signed (half n) u
low-is n {u} h = to_z_pos n h ∙ sym (signed_low (half n) u h)

-- it is not
module _ (n w : Width) (wide : T (leb (bits n) (hbits w))) {u : ℕ} (fits : Fits n u) (h : half n ≤ u) where
  under : u < all n
  under = let k = all-bits n in omega (arith, fits.fits)

  read : to_z w u ≡ pos u
  read = to_z_pos w (let r = room n w wide in let m = under in omega arith)

  -- lowered by k: it fits the narrow width, and so the wide one
  module _ (k : ℕ) (least : T (leb (half n) k)) (most : T (leb k (all n))) where
    small : mag (to_z w u -ℤ pos k) < half n
    small = rw read (lowered-mag (half n) u k h under (leb→le (half n) k least) (leb→le k (all n) most))

    fits-wide : SFits w (to_z w u -ℤ pos k)
    fits-wide = record { sfits = let r = room n w wide in let m = small in omega arith }

    fits-narrow : SFits n (again w (to_z w u -ℤ pos k))
    fits-narrow = rw (to_z-of_z fits-wide) record { sfits = small }

  -- the same at k + 1, in the form to which a need computes, so that the need shows k
  module _ (k : ℕ) (least : T (leb (half n) (suc k))) (most : T (leb (suc k) (all n))) where
    pub difference-fits : SFits w (to_z w u +ℤ negsuc k)
    difference-fits = fits-wide (suc k) least most

    pub difference-cast : SFits n (again w (to_z w u +ℤ negsuc k))
    difference-cast = fits-narrow (suc k) least most

  -- by all of them
  pub difference-is : again n (again w (to_z w u -ℤ pos (all n))) ≡ signed (half n) u
  difference-is =
      let l = le→leb (half n) (all n) (omega arith) in
      let m = le→leb (all n) (all n) (omega arith) in
      to_z-of_z (fits-narrow (all n) l m)
      ∙ to_z-of_z (fits-wide (all n) l m)
      ∙ ap (λ (z : ℤ). z -ℤ pos (all n)) read
      ∙ lowered u (all n) under
      ∙ sym (signed_high (half n) u h)
