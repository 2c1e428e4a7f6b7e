-- What holds of each of a list, put together and cut; and the number in n bytes is below 256 ^ n. By induction on the list.
-- Assumes nothing.
use mathlib.Core.List.{List, [], ◌∷◌, ◌++◌}
use Prim.Native.Nat.{ℕ, zero, suc, ◌^◌, ◌<◌, ◌≤◌}
use native.Mathlib.Nat.{pow-succ', one-le-pow, not-suc-le-zero, le_of_suc-le-suc}
use native.Mathlib.Omega.{arith}
use lib.ListN.{length, take, drop, length-take}
use Rattle.scalar.specs.Scalars.{number, column, get}
use Rattle.scalar.specs.Bytes.{Each, IsByte, Bytes}

module _ {A : Type 0} (P : A → Type 0) where
  pub each_append : (xs ys : List A) → Each P xs → Each P ys → Each P (xs ++ ys)
  each_append [] ys p q = q
  each_append (x ∷ xs) ys p q = (p.0, each_append xs ys p.1 q)

  pub each_right : (xs ys : List A) → Each P (xs ++ ys) → Each P ys
  each_right [] ys p = p
  each_right (x ∷ xs) ys p = each_right xs ys p.1

  pub each_take : (n : ℕ) (xs : List A) → Each P xs → Each P (take n xs)
  each_take zero xs p = tt
  each_take (suc n) [] p = tt
  each_take (suc n) (x ∷ xs) p = (p.0, each_take n xs p.1)

  pub each-drop : (n : ℕ) (xs : List A) → Each P xs → Each P (drop n xs)
  each-drop zero xs p = p
  each-drop (suc n) [] p = tt
  each-drop (suc n) (x ∷ xs) p = each-drop n xs p.1

-- the number in at most n bytes
pub number_small : (bs : List ℕ) → Bytes bs → (n : ℕ) → length bs ≤ n → number bs < 256 ^ n
unfolding number
number_small [] p n h = one-le-pow n 256 (omega arith)
number_small (b ∷ bs) p zero h = absurd (not-suc-le-zero h)
number_small (b ∷ bs) p (suc n) h =
    let k = pow-succ' 256 n in
    let e = number_small bs p.1 n (le_of_suc-le-suc h) in
    omega (arith, p.0)

-- and so in a column
pub get-small : (at n : ℕ) (p : List ℕ) → Bytes p → get (column at n) p < 256 ^ n
get-small at n p b = number_small (take n (drop at p)) (each_take IsByte n (drop at p) (each-drop IsByte at p b)) n (omega (arith, length-take n (drop at p)))
