-- The form of a payload, row by row: each row from the tests that lead to it, for the bytes m and r that they look at.
-- Assumes nothing.
use mathlib.Core.Path.{◌≡◌, refl, sym, subst}
use mathlib.Core.Bool.{true, true≢false}
use mathlib.Core.List.{List}
use mathlib.Core.Logic.{◌⊎◌, inl, inr}
use Prim.Native.Nat.{ℕ, ◌+◌, ◌<◌, ◌≤◌}
use borrow.Author.Tests.{lt-ltb, le-ltb, eqb-true}
use lib.ListN.{length}
use Rattle.buffer.proofs.Deciding.{le-or-lt}
use Rattle.scalar.specs.Scalars.{column, get}
use Rattle.form.specs.Forms.{exactly, at_least}
use Rattle.form.specs.declared.Form.{Form}
use Rattle.form.specs.declared.Form.TheVariants as F
use Rattle.info.specs.Info.{info_size, mcu_len, radio_len, mcu_max, radio_max, info_form}

module _ (p : List ℕ) where
  pub short : length p < info_size → F.Wrong ≡ info_form p
  unfolding info_form
  short h = rw (lt-ltb _ _ h)

  module _ (h : info_size ≤ length p) {m : ℕ} (mcu : m ≡ mcu_len p) where
    pub long-mcu : mcu_max < m → F.Wrong ≡ info_form p
    unfolding info_form
    long-mcu k = rw (le-ltb _ _ h, sym mcu, lt-ltb _ _ k)

    module _ (k : m ≤ mcu_max) where
      pub cut : length p < info_size + m + 1 → F.Wrong ≡ info_form p
      unfolding info_form
      cut l = rw (le-ltb _ _ h, sym mcu, le-ltb _ _ k, lt-ltb _ _ l)

      module _ (l : info_size + m + 1 ≤ length p) {r : ℕ} (radio : r ≡ get (column (info_size + m) 1) p) where
        pub long-radio : radio_max < r → F.Wrong ≡ info_form p
        unfolding info_form
        long-radio n = rw (le-ltb _ _ h, sym mcu, le-ltb _ _ k, le-ltb _ _ l, sym radio, lt-ltb _ _ n)

        pub sized : r ≤ radio_max → F.Size (info_size + m + 1 + r) ≡ info_form p
        unfolding info_form
        sized n = rw (le-ltb _ _ h, sym mcu, le-ltb _ _ k, le-ltb _ _ l, sym radio, le-ltb _ _ n)

-- what a payload of some size has
pub record Sized (p : List ℕ) : Type 0 where
  pub mcu : mcu_len p ≤ mcu_max
  pub radio : radio_len p ≤ radio_max
  pub room : info_size + mcu_len p + 1 ≤ length p

-- which row a payload has
pub data Row (p : List ℕ) : Form → Type 0 where
  is-sized : Sized p → Row p (F.Size (info_size + mcu_len p + 1 + radio_len p))
  is-wrong : Row p F.Wrong

pub row : (p : List ℕ) → Row p (info_form p)
row p = by_length (le-or-lt info_size (length p))
  where
    by-radio : info_size ≤ length p → mcu_len p ≤ mcu_max → info_size + mcu_len p + 1 ≤ length p
        → (radio_len p ≤ radio_max) ⊎ (radio_max < radio_len p) → Row p (info_form p)
    by-radio h k l (inl n) = subst (Row p) (sized p h refl k l refl n) (is-sized record { mcu = k; radio = n; room = l })
    by-radio h k l (inr n) = subst (Row p) (long-radio p h refl k l refl n) is-wrong

    by-room : info_size ≤ length p → mcu_len p ≤ mcu_max → (info_size + mcu_len p + 1 ≤ length p) ⊎ (length p < info_size + mcu_len p + 1) → Row p (info_form p)
    by-room h k (inl l) = by-radio h k l (le-or-lt (radio_len p) radio_max)
    by-room h k (inr l) = subst (Row p) (cut p h refl k l) is-wrong

    by-mcu : info_size ≤ length p → (mcu_len p ≤ mcu_max) ⊎ (mcu_max < mcu_len p) → Row p (info_form p)
    by-mcu h (inl k) = by-room h k (le-or-lt (info_size + mcu_len p + 1) (length p))
    by-mcu h (inr k) = subst (Row p) (long-mcu p h refl k) is-wrong

    by_length : (info_size ≤ length p) ⊎ (length p < info_size) → Row p (info_form p)
    by_length (inl h) = by-mcu h (le-or-lt (mcu_len p) mcu_max)
    by_length (inr h) = subst (Row p) (short p h) is-wrong

-- a payload with its known fields is long enough for them
pub enough : (p : List ℕ) → at_least (info_form p) (length p) ≡ true → Sized p
enough p = go (row p)
  where
    go : {f : Form} → Row p f → at_least f (length p) ≡ true → Sized p
    go (is-sized s) e = s
    go is-wrong e = absurd (true≢false (sym e))

-- and it ends with them, if it has just them
pub exact : (p : List ℕ) → exactly (info_form p) (length p) ≡ true → Sized p × (info_size + mcu_len p + 1 + radio_len p ≡ length p)
exact p = go (row p)
  where
    go : {f : Form} → Row p f → exactly f (length p) ≡ true → Sized p × (info_size + mcu_len p + 1 + radio_len p ≡ length p)
    go (is-sized s) e = (s, eqb-true (info_size + mcu_len p + 1 + radio_len p) (length p) e)
    go is-wrong e = absurd (true≢false (sym e))
