-- What a line starts and ends with.
-- Assumes nothing.
use mathlib.Core.Path.{◌≡◌, refl, sym, ap, ◌∙◌}
use mathlib.Core.Bool.{Bool, true, false, cond, ◌&&◌}
use mathlib.Core.List.{List, [], ◌∷◌}
use Prim.Native.Nat.{ℕ, zero, suc, ◌+◌, ◌-◌}
use Prim.Native.Char.{code}
use denote.Bor.{Bor}
use native.Mathlib.Omega.{arith}
use mathlib.Core.Logic.{◌⊎◌, inl, inr}
use borrow.Author.Tests.{eq-eqb, ne_eqb}
use lib.Dec.{eqb}
use lib.ListN.{length, take, drop}
use Rattle.std.specs.Prelude.{Option, Some, None}
use Rattle.std.specs.Option.{MatchOption, unwrap_or}
use Rattle.std.specs.Cmp.Lexicographic.{pointwise}
use Rattle.std.specs.List.{starts_with}
use Rattle.buffer.proofs.Deciding.{same as same_number}
use Rattle.script.specs.Items.{without_return, comment}

pub comment_is : (l : List ℕ) → starts_with eqb l (code "#" ∷ []) ≡ comment l
comment_is [] = refl
comment_is (c ∷ l) = go (same_number c (code "#"))
  where
    go : (c ≡ code "#") ⊎ (c ≡ code "#" → ⊥) → (eqb (code "#") c && true) ≡ eqb c (code "#")
    go (inl e) = simp (eq-eqb c _ e, eq-eqb _ c (sym e))
    go (inr h) = simp (ne_eqb c _ h, ne_eqb _ c (λ e. h (sym e)))

-- a carriage return at the end, or none
return-kept : (l : List ℕ) (n : ℕ) → length l ≡ suc n → pointwise eqb (drop n l) (code "\r" ∷ []) ≡ false → without_return l ≡ l
unfolding without_return
return-kept [] n h e = absurd (omega arith)
return-kept (c ∷ []) zero h e = go (eqb c (code "\r")) e
  where
    go : (b : Bool) → (b && true) ≡ false → cond b [] (c ∷ []) ≡ c ∷ []
    go true e = cc
    go false e = refl
return-kept (c ∷ []) (suc n) h e = absurd (omega arith)
return-kept (c ∷ d ∷ s) zero h e = absurd (omega arith)
return-kept (c ∷ d ∷ s) (suc n) h e = ap (λ (l : List ℕ). c ∷ l) (return-kept (d ∷ s) n (omega (arith, h)) e)

return-cut : (l : List ℕ) (n : ℕ) → length l ≡ suc n → pointwise eqb (drop n l) (code "\r" ∷ []) ≡ true → without_return l ≡ take n l
unfolding without_return
return-cut [] n h e = absurd (omega arith)
return-cut (c ∷ []) zero h e = go (eqb c (code "\r")) e
  where
    go : (b : Bool) → (b && true) ≡ true → cond b [] (c ∷ []) ≡ []
    go true e = refl
    go false e = cc
return-cut (c ∷ []) (suc n) h e = absurd (omega arith)
return-cut (c ∷ d ∷ s) zero h e = absurd (omega arith)
return-cut (c ∷ d ∷ s) (suc n) h e = ap (λ (l : List ℕ). c ∷ l) (return-cut (d ∷ s) n (omega (arith, h)) e)

kept : (l : List ℕ) → pointwise eqb (drop (length l - 1) l) (code "\r" ∷ []) ≡ false → without_return l ≡ l
unfolding without_return
kept [] e = refl
kept (c ∷ s) e = return-kept (c ∷ s) (length (c ∷ s) - 1) (omega arith) e

cut : (l : List ℕ) → pointwise eqb (drop (length l - 1) l) (code "\r" ∷ []) ≡ true → without_return l ≡ take (length l - 1) l
cut [] e = cc
cut (c ∷ s) e = return-cut (c ∷ s) (length (c ∷ s) - 1) (omega arith) e

-- the line that is left, as strip_suffix says it
pub line-left : (l : Bor (List ℕ)) (r : Option (Bor (List ℕ)))
    → MatchOption r (pointwise eqb (drop (length l.now - 1) l.now) (code "\r" ∷ []) ≡ false)
    (λ x. (pointwise eqb (drop (length l.now - 1) l.now) (code "\r" ∷ []) ≡ true) × (x.now ≡ take (length l.now - 1) l.now) × (length x.now + 1 ≡ length l.now))
    → without_return l.now ≡ (unwrap_or r l).now
line-left l None h = kept l.now h
line-left l (Some x) h = cut l.now h.0 ∙ sym h.1
