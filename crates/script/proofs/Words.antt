-- The first word of a text, and the words of what follows it.
-- Assumes nothing.
use mathlib.Core.Path.{◌≡◌, refl, sym, ap, ◌∙◌}
use mathlib.Core.Bool.{Bool, true, false, cond, not}
use mathlib.Core.List.{List, [], ◌∷◌, ◌++◌, append_assoc, append-nil}
use Prim.Native.Nat.{ℕ, suc, ◌+◌, ◌<◌, ◌≤◌}
use native.Mathlib.Omega.{arith}
use borrow.Author.Tests.{ltb-true, ltb-false}
use lib.Dec.{ltb}
use lib.ListN.{length, take, drop}
use Rattle.std.specs.Prelude.{Some, None, position}
use Rattle.std.specs.List.{position_or_len}
use Rattle.std.specs.Option.{unwrap_or}
use Rattle.std.proofs.lemmas.List.Recursion.{is_position_or_len}
use Rattle.script.specs.Words.{blank, words_from, words}

-- how many blanks a text starts with
unfoldable lead : List ℕ → ℕ
lead [] = 0
lead (c ∷ s) = cond (blank c) (suc (lead s)) 0

-- how long the word is that it starts with
unfoldable pub span : List ℕ → ℕ
span [] = 0
span (c ∷ s) = cond (blank c) 0 (suc (span s))

lead-is : (s : List ℕ) → lead s ≡ position_or_len (λ c. not (blank c)) s
unfolding lead
lead-is = is_position_or_len lead (λ c. not (blank c)) refl (λ c s. go (blank c) (lead s))
  where
    go : (b : Bool) (n : ℕ) → cond b (suc n) 0 ≡ cond (not b) 0 (1 + n)
    go true n = omega arith
    go false n = refl

span-is : (s : List ℕ) → span s ≡ position_or_len blank s
unfolding span
span-is = is_position_or_len span blank refl (λ c s. go (blank c) (span s))
  where
    go : (b : Bool) (n : ℕ) → cond b 0 (suc n) ≡ cond b 0 (1 + n)
    go true n = refl
    go false n = omega arith

span-within : (s : List ℕ) → span s ≤ length s
unfolding span
span-within [] = omega arith
span-within (c ∷ s) = go (blank c) (span-within s)
  where
    go : (b : Bool) → span s ≤ length s → cond b 0 (suc (span s)) ≤ suc (length s)
    go true h = omega arith
    go false h = omega arith

-- what follows blanks
abbrev pub span_of : List ℕ → ℕ
span_of t = unwrap_or (position blank t) (length t)

pub span_of-is : (t : List ℕ) → (span_of t ≤ length t) × (span_of t ≡ span t)
span_of-is t = go (ltb (position_or_len blank t) (length t)) refl
  where
    go : (b : Bool) → ltb (position_or_len blank t) (length t) ≡ b
        → (unwrap_or (cond b (Some (position_or_len blank t)) None) (length t) ≤ length t)
        × (unwrap_or (cond b (Some (position_or_len blank t)) None) (length t) ≡ span t)
    go true p = (omega (arith, span-is t, span-within t), sym (span-is t))
    go false p = (omega arith, omega (arith, span-is t, span-within t, ltb-false _ _ p))

-- where bytes came already, the word goes on to the next blank
goes_on : (c : ℕ) (w u : List ℕ) → words_from (c ∷ w) u ≡ ((c ∷ w) ++ take (span u) u) ∷ words (drop (span u) u)
unfolding words_from span
goes_on c w [] = simp append-nil
goes_on c w (d ∷ u) = go (blank d) refl (goes_on c (w ++ (d ∷ [])) u)
  where
    go : (b : Bool) → blank d ≡ b
        → words_from (c ∷ (w ++ (d ∷ []))) u ≡ ((c ∷ (w ++ (d ∷ []))) ++ take (span u) u) ∷ words (drop (span u) u)
        → words_from (c ∷ w) (d ∷ u) ≡ ((c ∷ w) ++ take (span (d ∷ u)) (d ∷ u)) ∷ words (drop (span (d ∷ u)) (d ∷ u))
    go true e f = simp e (ap (λ (l : List ℕ). (c ∷ l) ∷ words u) (sym (append-nil w)))
    go false e f = simp e (f ∙ simp append_assoc)

-- past its blanks a text has a first word, unless it ends there
split : (s : List ℕ) → lead s < length s → let t = drop (lead s) s in words s ≡ take (span t) t ∷ words (drop (span t) t)
unfolding words_from lead span
split [] h = absurd (omega arith)
split (c ∷ s) h = go (blank c) refl (split s)
  where
    go : (b : Bool) → blank c ≡ b
        → (lead s < length s → words s ≡ take (span (drop (lead s) s)) (drop (lead s) s) ∷ words (drop (span (drop (lead s) s)) (drop (lead s) s)))
        → let t = drop (lead (c ∷ s)) (c ∷ s) in words (c ∷ s) ≡ take (span t) t ∷ words (drop (span t) t)
    go true e f = simp e (f (omega (arith, rw e at h)))
    go false e f = simp (e, goes_on c [] s)

no_words : (s : List ℕ) → length s ≤ lead s → words s ≡ []
unfolding words_from lead
no_words [] h = refl
no_words (c ∷ s) h = go (blank c) refl (no_words s)
  where
    go : (b : Bool) → blank c ≡ b → (length s ≤ lead s → words s ≡ []) → words (c ∷ s) ≡ []
    go true e f = simp e (f (omega (arith, rw e at h)))
    go false e f = absurd (omega (arith, rw e at h))

-- where the first word starts: nowhere, or at an index
pub none : (s : List ℕ) → position (λ c. not (blank c)) s ≡ None → words s ≡ []
none s e = go (ltb (position_or_len (λ c. not (blank c)) s) (length s)) refl e
  where
    go : (b : Bool) → ltb (position_or_len (λ c. not (blank c)) s) (length s) ≡ b
        → cond b (Some (position_or_len (λ c. not (blank c)) s)) None ≡ None → words s ≡ []
    go true p q = cc
    go false p q = no_words s (rw (← lead-is s) at (ltb-false _ _ p))

pub some : (s : List ℕ) (i : ℕ) → position (λ c. not (blank c)) s ≡ Some i
    → (i ≤ length s) × (words s ≡ take (span_of (drop i s)) (drop i s) ∷ words (drop (span_of (drop i s)) (drop i s)))
some s i e = go (ltb (position_or_len (λ c. not (blank c)) s) (length s)) refl e
  where
    go : (b : Bool) → ltb (position_or_len (λ c. not (blank c)) s) (length s) ≡ b
        → cond b (Some (position_or_len (λ c. not (blank c)) s)) None ≡ Some i
        → (i ≤ length s) × (words s ≡ take (span_of (drop i s)) (drop i s) ∷ words (drop (span_of (drop i s)) (drop i s)))
    go true p q =
        let k : lead s ≡ i = lead-is s ∙ cc in
        let h : lead s < length s = rw (← lead-is s) at (ltb-true _ _ p) in
        (omega (arith, h, k), rw (span_of-is (drop i s)).1 (rw (← k) (split s h)))
    go false p q = cc
