-- The search for the open line that has a tag: what one more line adds to it, for the loop; and what it finds, for the laws.
-- Assumes nothing.
use Rattle.std.proofs.Common.{◌≡◌, refl, sym, ap, ◌∙◌, ℕ, zero, suc, ◌+◌, ◌-◌, ◌/◌, ◌^◌, ◌≤◌, ◌<◌, Bool, true, cond, List, [], ◌∷◌, length, drop, get_or, arith}
use Rattle.std.specs.Prelude.{Option, Some, None}
use Rattle.std.proofs.Common.{drop-cons, eq-eqb, eqb-true, add-one, ap₂, subst, inl, inr}
use Rattle.std.proofs.Math.Nat.{div-eq_of_lt}
use Rattle.std.proofs.Math.Pow.{shr-shr, pow_mono}
use Rattle.std.specs.Int.Count.{count_leading_zeros, leading_length}
use Rattle.std.proofs.lemmas.Bool.{cases_Bool, and_parts}
use Rattle.ledger.specs.declared.Line.{Line}
use Rattle.ledger.specs.Lines.{no_line, has_tag, owner_from, owner}
use Rattle.ledger.specs.History.{Owns}
use Rattle.ledger.proofs.Digits.{digit-zero, digit-suc}

-- ---- one line after another

-- the lines from number i on
abbrev pub owner_past : ℕ → List Line → ℕ → ℕ → Option ℕ
owner_past i xs used tag = owner_from i (drop i xs) (used / 2 ^ i) tag

owner-cons : (x : Line) (xs : List Line) (u tag n : ℕ) {b : Bool} → has_tag tag x u ≡ b
    → owner_from n (x ∷ xs) u tag ≡ cond b (Some n) (owner_from (suc n) xs (u / 2) tag)
unfolding owner_from
owner-cons x xs u tag n e = ap (λ z. cond z (Some n) (owner_from (suc n) xs (u / 2) tag)) e

pub owner_at : (xs : List Line) (i used tag : ℕ) {b : Bool} → i < length xs → has_tag tag (get_or xs i no_line) (used / 2 ^ i) ≡ b
    → owner_past i xs used tag ≡ cond b (Some i) (owner_past (i + 1) xs used tag)
owner_at xs i used tag {b} h e =
    ap (λ l. owner_from i l (used / 2 ^ i) tag) (drop-cons xs i no_line h) ∙ owner-cons _ (drop (suc i) xs) (used / 2 ^ i) tag i e
    ∙ ap₂ (λ j u. cond b (Some i) (owner_from j (drop j xs) u tag)) (sym (add-one i)) (shr-shr used i 1)

-- where no digit is left, no line is open any more
pub owner-zero : (n : ℕ) (xs : List Line) (tag : ℕ) → owner_from n xs 0 tag ≡ None
unfolding owner_from has_tag
owner-zero n [] tag = refl
owner-zero n (x ∷ xs) tag = owner-zero (suc n) xs tag

pub owner-end : (xs : List Line) (i used tag : ℕ) → used < 0x10000 → 16 - count_leading_zeros 16 used ≤ i → owner_past i xs used tag ≡ None
owner-end xs i used tag f h =
    let l = leading_length 16 used f in
    let m : l.0 ≤ i = omega (arith, l.1) in
    let small : used < 2 ^ i = omega (arith, l.1, l.2, pow_mono m) in
    ap (λ u. owner_from i (drop i xs) u tag) (div-eq_of_lt small) ∙ owner-zero i (drop i xs) tag

-- ---- what is found

-- the first line, and a later one
first-owns : (x : Line) (xs : List Line) (u tag : ℕ) → has_tag tag x u ≡ true → Owns (x ∷ xs) u tag 0
unfolding has_tag
first-owns x xs u tag e =
    let both = and_parts _ _ e in
    record { inside = omega arith; opened = digit-zero u ∙ eqb-true _ _ both.0; tagged = eqb-true _ _ both.1 }

owns-first : (x : Line) (xs : List Line) (u tag : ℕ) → Owns (x ∷ xs) u tag 0 → has_tag tag x u ≡ true
unfolding has_tag
owns-first x xs u tag o = simp (eq-eqb _ _ (sym (digit-zero u) ∙ o.opened), eq-eqb _ _ o.tagged)

later-owns : (x : Line) (xs : List Line) (u tag j : ℕ) → Owns xs (u / 2) tag j → Owns (x ∷ xs) u tag (suc j)
later-owns x xs u tag j o = record { inside = (let i = o.inside in omega arith); opened = digit-suc u j ∙ o.opened; tagged = o.tagged }

pub owns-later : (x : Line) (xs : List Line) (u tag j : ℕ) → Owns (x ∷ xs) u tag (suc j) → Owns xs (u / 2) tag j
owns-later x xs u tag j o = record { inside = (let i = o.inside in omega arith); opened = sym (digit-suc u j) ∙ o.opened; tagged = o.tagged }

-- a line that was found owns the tag; where none was found, none does
pub found-from : (xs : List Line) (u tag n k : ℕ) → owner_from n xs u tag ≡ Some k → (j : ℕ) × (k ≡ n + j) × Owns xs u tag j
unfolding owner_from
found-from [] u tag n k e = absurd cc
found-from (x ∷ xs) u tag n k e = elim (cases_Bool (has_tag tag x u)) [
  | inl h ↦ (let q : Some n ≡ Some k = sym (owner-cons x xs u tag n h) ∙ e in (0, (let same : n ≡ k = cc in omega arith), first-owns x xs u tag h))
  | inr h ↦ (let r = found-from xs (u / 2) tag (suc n) k (sym (owner-cons x xs u tag n h) ∙ e) in
      (suc r.0, omega (arith, r.1), later-owns x xs u tag r.0 r.2))
]

-- so has a line that was found of all
pub owner-owns : (xs : List Line) (u tag k : ℕ) → owner xs u tag ≡ Some k → Owns xs u tag k
owner-owns xs u tag k e = let f = found-from xs u tag 0 k e in subst (Owns xs u tag) (omega (arith, f.1)) f.2

pub none-owns : (xs : List Line) (u tag n j : ℕ) → owner_from n xs u tag ≡ None → Owns xs u tag j → ⊥
unfolding owner_from
none-owns [] u tag n j e o = let i = o.inside in omega arith
none-owns (x ∷ xs) u tag n zero e o = let q = sym (owner-cons x xs u tag n (owns-first x xs u tag o)) ∙ e in cc
none-owns (x ∷ xs) u tag n (suc j) e o = elim (cases_Bool (has_tag tag x u)) [
  | inl h ↦ (let q = sym (owner-cons x xs u tag n h) ∙ e in cc)
  | inr h ↦ none-owns xs (u / 2) tag (suc n) j (sym (owner-cons x xs u tag n h) ∙ e) (owns-later x xs u tag j o)
]

-- where one line alone owns the tag it is found; where none does, none is
pub only-owner : (xs : List Line) (u tag j : ℕ) → Owns xs u tag j → ((i : ℕ) → Owns xs u tag i → i ≡ j) → owner xs u tag ≡ Some j
only-owner xs u tag j o only = go (owner xs u tag) refl
  where
    go : (r : Option ℕ) → owner xs u tag ≡ r → r ≡ Some j
    go None e = absurd (none-owns xs u tag 0 j e o)
    go (Some k) e = ap (λ n. Some n) (only k (owner-owns xs u tag k e))

pub no-owner : (xs : List Line) (u tag : ℕ) → ((j : ℕ) → Owns xs u tag j → ⊥) → owner xs u tag ≡ None
no-owner xs u tag nobody = go (owner xs u tag) refl
  where
    go : (r : Option ℕ) → owner xs u tag ≡ r → r ≡ None
    go None e = refl
    go (Some k) e = absurd (nobody k (owner-owns xs u tag k e))
