-- How the source is cut: where the first group ends, and what follows it.
-- Assumes nothing.
use mathlib.Core.Path.{◌≡◌, refl, ap, ◌∙◌}
use mathlib.Core.Logic.{⊎_elim}
use mathlib.Core.Bool.{cond}
use mathlib.Core.List.{List, [], ◌∷◌, ◌++◌}
use Prim.Native.Nat.{ℕ, suc, ◌+◌, ◌<◌, ◌≤◌, min}
use native.Mathlib.Omega.{arith}
use borrow.Author.Tests.{eq-eqb, ne_eqb}
use lib.Dec.{eqb}
use lib.ListN.{length, drop, get_or}
use Rattle.buffer.proofs.Deciding.{same}
use Rattle.buffer.proofs.Laws.{next, no_more}
use Rattle.cobs.specs.Groups.{full, first}
use Rattle.cobs.specs.Encoding.{grouped, group, groups_bytes, encoded}
use Rattle.cobs.proofs.Cases.{three, cut-zero, cut-full, cut-more, into-split, others}

-- a cut is never without a group
pub cut-split : (n : ℕ) (xs : List ℕ) → grouped n xs ≡ first (grouped n xs) ∷ others (grouped n xs)
unfolding grouped
cut-split n [] = refl
cut-split n (x ∷ xs) =
    three n x
    (λ z. rw (cut-zero n x xs z) refl)
    (λ s f. rw (cut-full n x xs s f) refl)
    (λ s f. rw (cut-more n x xs s f, into-split x (grouped (n + 1) xs)) refl)

-- the groups gs of xs, where the first has n bytes already
pub record Cut (n : ℕ) (xs : List ℕ) (gs : List (List ℕ)) : Type 0 where
  pub small : n + length (first gs) ≤ full
  pub inside : length (first gs) ≤ length xs
  pub at-full : n + length (first gs) ≡ full → others gs ≡ grouped 0 (drop (length (first gs)) xs)
  pub at-end : n + length (first gs) < full → length xs ≤ length (first gs) → others gs ≡ []
  pub at_zero : n + length (first gs) < full → length (first gs) < length xs → others gs ≡ grouped 0 (drop (suc (length (first gs))) xs)

pub cut-is : (n : ℕ) (xs : List ℕ) → n < full → Cut n xs (grouped n xs)
unfolding grouped
cut-is n [] h =
    record {
      small = omega arith;
      inside = omega arith;
      at-full = λ e. absurd (omega arith);
      at-end = λ e l. refl;
      at_zero = λ e l. absurd (omega arith);
    }
cut-is n (x ∷ xs) h =
    three n x
    (λ z.
    rw (cut-zero n x xs z)
    (record {
      small = omega arith;
      inside = omega arith;
      at-full = λ e. absurd (omega arith);
      at-end = λ e l. absurd (omega arith);
      at_zero = λ e l. refl;
    }))
    (λ s f.
    rw (cut-full n x xs s f)
    (record {
      small = omega arith;
      inside = omega arith;
      at-full = λ e. refl;
      at-end = λ e l. absurd (omega arith);
      at_zero = λ e l. absurd (omega arith);
    }))
    (λ s f.
    let c = cut-is (n + 1) xs (omega arith) in
    rw (cut-more n x xs s f, into-split x (grouped (n + 1) xs))
    (record {
      small = omega (arith, c.small);
      inside = omega (arith, c.inside);
      at-full = λ e. c.at-full (omega arith);
      at-end = λ e l. c.at-end (omega arith) (omega arith);
      at_zero = λ e l. c.at_zero (omega arith) (omega arith);
    }))

-- what is left of the first group after i bytes of it
abbrev pub left : ℕ → List ℕ → List ℕ
left i xs = cond (eqb i full) [] (first (grouped i xs))

-- nothing, once the group is full or the source at its end
pub left-done : (s : List ℕ) (i : ℕ) → i ≡ min (length s) full → left i (drop i s) ≡ []
unfolding grouped
left-done s i h =
    ⊎_elim (λ e. rw (eq-eqb i full e) refl) (λ e. rw (ne_eqb i full e, no_more s i (omega arith)) refl) (same i full)

module _ (s : List ℕ) (i : ℕ) (h : i < length s) (bounded : i < full) where
  abbrev x : ℕ
  x = get_or s i 0

  abbrev xs : List ℕ
  xs = drop (i + 1) s

  here : left i (drop i s) ≡ first (grouped i (x ∷ xs))
  here = rw (ne_eqb i full (λ e. omega arith), next s i h) refl

  -- nothing at a zero
  pub left-zero : x ≡ 0 → left i (drop i s) ≡ []
  left-zero z = here ∙ ap first (cut-zero i x xs z)

  -- else the byte, and what is left after it
  pub left-byte : (x ≡ 0 → ⊥) → left i (drop i s) ≡ x ∷ left (i + 1) xs
  left-byte n =
      here
      ∙ ⊎_elim (λ f. rw (cut-full i x xs n f, eq-eqb (i + 1) full f) refl)
      (λ f. rw (cut-more i x xs n f, into-split x (grouped (i + 1) xs), ne_eqb (i + 1) full f) refl) (same (i + 1) full)

-- an encoding is the code and the bytes of the first group, and then the others
pub encoded-split : (xs : List ℕ) → encoded xs ≡ ((length (group xs) + 1) ∷ group xs) ++ groups_bytes (others (grouped 0 xs))
unfolding encoded group groups_bytes
encoded-split xs = ap groups_bytes (cut-split 0 xs)
