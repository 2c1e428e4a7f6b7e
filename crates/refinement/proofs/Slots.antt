-- Bytes that stand in a memory, and a ring of slots in it: what a store leaves of them.
-- The idea: from its index on the memory begins with the bytes, and a store elsewhere leaves them; two slots do not meet.
-- Assumes nothing.
use mathlib.Core.Path.{◌≡◌, sym, ap, subst, ◌∙◌}
use mathlib.Core.List.{List, [], ◌∷◌, ◌++◌, append_assoc}
use mathlib.Core.Logic.{⊎_elim}
use Prim.Native.Nat.{ℕ, zero, suc, ◌+◌, ◌-◌, ◌*◌, ◌%◌, ◌≤◌, ◌<◌}
use native.Mathlib.Omega.{arith}
use native.Mathlib.Nat.{eq-zero-or-pos}
use lib.ListN.{length, take, drop, length-append}
use lib.Seq.{take-add, drop-drop, drop_at, drop-append-le, take-append-add, take-append_seam, drop-append_seam, length-take-le}
use Rattle.buffer.specs.Lay.{lay}

-- ---- bytes in a memory

-- from index `at` on the memory m has the bytes bs
pub record At (m : List ℕ) (at : ℕ) (bs : List ℕ) : Type 0 where
  pub rest : List ℕ
  pub stands : drop at m ≡ bs ++ rest

-- the memory up to some index, and from an earlier one on
between : (m : List ℕ) (at n : ℕ) → at + n ≤ length m → drop at (take (at + n) m) ≡ take n (drop at m)
between m at n h = rw (take-add at n m) (drop_at (take at m) (take n (drop at m)) at (length-take-le at m (omega arith)))

-- a store, from an index before it on
behind : (m bs : List ℕ) (at n : ℕ) → at + n ≤ length m → drop at (lay (at + n) bs m) ≡ take n (drop at m) ++ (bs ++ drop (at + n + length bs) m)
unfolding lay
behind m bs at n h =
    drop-append-le at (take (at + n) m) _ (omega (arith, length-take-le (at + n) m h))
    ∙ ap (λ (l : List ℕ). l ++ (bs ++ drop (at + n + length bs) m)) (between m at n h)

-- a store, past its end
beyond : (m bs : List ℕ) (at n : ℕ) → at + length bs ≤ length m → drop (at + length bs + n) (lay at bs m) ≡ drop (at + length bs + n) m
unfolding lay
beyond m bs at n h =
    let e : length (take at m ++ bs) ≡ at + length bs = rw length-append (omega (arith, length-take-le at m (omega arith))) in
    sym (drop-drop n (at + length bs) (lay at bs m))
    ∙ ap (drop n) (rw (← append_assoc) (drop_at (take at m ++ bs) (drop (at + length bs) m) (at + length bs) e))
    ∙ drop-drop n (at + length bs) m

-- what was stored stands there
pub laid : (m bs : List ℕ) (at : ℕ) → at ≤ length m → At (lay at bs m) at bs
unfolding lay
laid m bs at h = record { rest = drop (at + length bs) m; stands = drop_at (take at m) _ at (length-take-le at m h) }

module _ {m bs : List ℕ} {at : ℕ} (s : At m at bs) where
  -- a store past it leaves it
  pub kept-before : (cs : List ℕ) (a : ℕ) → at + length bs ≤ a → a ≤ length m → At (lay a cs m) at bs
  kept-before cs a h k = subst (λ (i : ℕ). At (lay i cs m) at bs) (omega arith) (by_length (a - at - length bs) (omega arith))
    where
      by_length : (n : ℕ) → at + (length bs + n) ≤ length m → At (lay (at + (length bs + n)) cs m) at bs
      by_length n l =
          record {
            rest = take n s.rest ++ (cs ++ drop (at + (length bs + n) + length cs) m);
            stands = behind m cs at (length bs + n) l ∙ rw (s.stands, take-append-add bs s.rest n, append_assoc);
          }

  -- and so does a store before it
  pub kept-after : (cs : List ℕ) (a : ℕ) → a + length cs ≤ at → a + length cs ≤ length m → At (lay a cs m) at bs
  kept-after cs a h k =
      let e : a + length cs + (at - a - length cs) ≡ at = omega arith in
      record {
        rest = s.rest;
        stands = subst (λ (i : ℕ). drop i (lay a cs m) ≡ drop i m) e (beyond m cs a (at - a - length cs) k) ∙ s.stands;
      }

-- a store inside it
pub inside : {m : List ℕ} {at : ℕ} (a b c d : List ℕ) → At m at (a ++ (b ++ c)) → length d ≡ length b → at + length a ≤ length m
    → At (lay (at + length a) d m) at (a ++ (d ++ c))
inside {m} {at} a b c d s e h =
    let r = s.rest in
    let t : drop at m ≡ a ++ (b ++ (c ++ r)) = s.stands ∙ append_assoc a (b ++ c) r ∙ ap (λ (l : List ℕ). a ++ l) (append_assoc b c r) in
    let u : drop (at + length a) m ≡ b ++ (c ++ r) = sym (drop-drop (length a) at m) ∙ ap (drop (length a)) t ∙ drop-append_seam a (b ++ (c ++ r)) in
    let v : drop (at + length a + length d) m ≡ c ++ r =
    rw e (sym (drop-drop (length b) (at + length a) m) ∙ ap (drop (length b)) u ∙ drop-append_seam b (c ++ r)) in
    record { rest = r; stands = behind m d at (length a) h ∙ rw (t, take-append_seam, v) (simp append_assoc) }

-- ---- slots of one size, in a ring

-- what is used of the numbers: slots do not meet, and k + n is never k, modulo the count of slots
pub record Wheel (size count : ℕ) : Type 0 where
  pub before : (j k : ℕ) → j < k → j * size + size ≤ k * size
  pub below : (k : ℕ) → k % count < count
  pub still : (k : ℕ) → k < count → (k + 0) % count ≡ k
  pub turn : (k n : ℕ) → ((k + 1) % count + n) % count ≡ (k + suc n) % count
  pub other : (k n : ℕ) → k < count → suc n < count → (k + suc n) % count ≡ k → ⊥

pub wheel16 : Wheel 259 16
wheel16 =
    record {
      before = λ j k h. omega arith;
      below = λ k. omega arith;
      still = λ k h. omega arith;
      turn = λ k n. omega arith;
      other = λ k n h l e. omega arith;
    }

pub wheel64 : Wheel 276 64
wheel64 =
    record {
      before = λ j k h. omega arith;
      below = λ k. omega arith;
      still = λ k h. omega arith;
      turn = λ k n. omega arith;
      other = λ k n h l e. omega arith;
    }

-- in slot k of the memory m stand the bytes of x
pub record Slot {A : Type 0} (size : ℕ) (bytes : A → List ℕ) (m : List ℕ) (k : ℕ) (x : A) : Type 0 where
  pub short : length (bytes x) ≤ size
  pub at : At m (k * size) (bytes x)

-- in the slots from k on, around the ring, stand the bytes of each
abbrev pub Ring : {A : Type 0} → ℕ → ℕ → (A → List ℕ) → List ℕ → ℕ → List A → Type 0
Ring size count bytes m k [] = Unit {0}
Ring size count bytes m k (x ∷ xs) = Slot size bytes m k x × Ring size count bytes m ((k + 1) % count) xs

module _ {A : Type 0} (size count : ℕ) (bytes : A → List ℕ) (w : Wheel size count) (m : List ℕ) where
  -- a store into slot j leaves every other
  module _ (j a : ℕ) (bs : List ℕ) (from : j * size ≤ a) (to : a + length bs ≤ j * size + size) (fits : a + length bs ≤ length m) where
    pub slot_kept : (k : ℕ) (x : A) → (j ≡ k → ⊥) → Slot size bytes m k x → Slot size bytes (lay a bs m) k x
    slot_kept k x ne s =
        record {
          short = s.short;
          at =
              ⊎_elim
              (λ z. kept-after s.at bs a (omega (arith, w.before j k (omega arith))) fits)
              (λ z. kept-before s.at bs a (omega (arith, s.short, w.before k j (omega arith))) (omega arith))
              (eq-zero-or-pos (j - k));
        }

    -- where j is n after the first, past the last
    pub ring-kept : (k n : ℕ) (xs : List A) → k < count → length xs ≤ n → n < count → j ≡ (k + n) % count → Ring size count bytes m k xs
        → Ring size count bytes (lay a bs m) k xs
    ring-kept k n [] h l r e s = tt
    ring-kept k zero (x ∷ xs) h l r e s = absurd (omega arith)
    ring-kept k (suc n) (x ∷ xs) h l r e s = (
      slot_kept k x (λ z. w.other k n h r (sym e ∙ z)) s.0,
      ring-kept ((k + 1) % count) n xs (w.below (k + 1)) (omega arith) (omega arith) (e ∙ sym (w.turn k n)) s.1,
    )

    -- where j is no slot of the ring
    pub ring-apart : (k : ℕ) (xs : List A) → k < count → count ≤ j → Ring size count bytes m k xs → Ring size count bytes (lay a bs m) k xs
    ring-apart k [] h l s = tt
    ring-apart k (x ∷ xs) h l s = (slot_kept k x (λ z. omega arith) s.0, ring-apart ((k + 1) % count) xs (w.below (k + 1)) l s.1)

  -- one more, in the slot past the last
  pub ring-push : (y : A) (j : ℕ) → length (bytes y) ≤ size → j * size + length (bytes y) ≤ length m → (k : ℕ) (xs : List A) → k < count → length xs < count
      → j ≡ (k + length xs) % count → Ring size count bytes m k xs → Ring size count bytes (lay (j * size) (bytes y) m) k (xs ++ (y ∷ []))
  ring-push y j short fits k [] h l e s =
      let z : j ≡ k = e ∙ w.still k h in
      (record { short = short; at = subst (λ (i : ℕ). At (lay (j * size) (bytes y) m) (i * size) (bytes y)) z (laid m (bytes y) (j * size) (omega arith)) }, tt)
  ring-push y j short fits k (x ∷ xs) h l e s = (
    slot_kept j (j * size) (bytes y) (omega arith) (omega arith) fits k x (λ z. w.other k (length xs) h l (sym e ∙ z)) s.0,
    ring-push y j short fits ((k + 1) % count) xs (w.below (k + 1)) (omega arith) (e ∙ sym (w.turn k (length xs))) s.1,
  )
