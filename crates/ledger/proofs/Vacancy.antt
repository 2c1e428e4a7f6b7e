-- The next tag: what one more candidate adds to the search, for the loop; and that it finds the first vacant tag, for the laws.
-- Assumes nothing.
use Rattle.std.proofs.Common.{◌≡◌, refl, sym, ap, ◌∙◌, ◌⊎◌, inl, inr, arith}
use Rattle.std.proofs.Common.{ℕ, zero, suc, ◌+◌, ◌-◌, ◌%◌, ◌≤◌, ◌<◌, Bool, true, false, cond, not, ◌&&◌, List, ◌∷◌, map, length, get_or, eqb}
use Rattle.std.specs.Prelude.{Option, Some, None, is_none, Contains}
use Rattle.std.specs.Cmp.{nat_eq_equiv}
use Rattle.std.proofs.lemmas.Bool.{cases_Bool, cases_lt, eqb-true, eqb-false, true≢false}
use Rattle.std.proofs.lemmas.List.{get_or-map, length-map}
use Rattle.std.proofs.lemmas.Map.Steps.{le-length_from_below}
use Rattle.std.proofs.lemmas.Map.Views.{list_any-from_Contains}
use Rattle.ledger.specs.declared.Line.{Line}
use Rattle.ledger.specs.Lines.{line_max, no_line, owner, wrapped, vacant, first_vacant, candidates}
use Rattle.ledger.specs.History.{Owns, NextTag}
use Rattle.ledger.proofs.Owner.{owner-owns, none-owns}

-- ---- one candidate after another

pub fresh-hit : (k : ℕ) (xs : List Line) (u tag : ℕ) → vacant xs u tag ≡ true → first_vacant k xs u tag ≡ tag
unfolding first_vacant
fresh-hit zero xs u tag e = refl
fresh-hit (suc k) xs u tag e = ap (λ z. cond z tag (first_vacant k xs u (wrapped (tag + 1)))) e

-- one that is passed leads on to r, which is vacant
pub fresh-passed : (k : ℕ) (xs : List Line) (u tag : ℕ) {r : ℕ} → vacant xs u r ≡ true → vacant xs u tag ≡ false → first_vacant k xs u tag ≡ r
    → (j : ℕ) × (first_vacant j xs u (wrapped (tag + 1)) ≡ r)
unfolding first_vacant
fresh-passed zero xs u tag v m e = absurd (true≢false (sym v ∙ ap (vacant xs u) (sym e) ∙ m))
fresh-passed (suc k) xs u tag v m e = (k, ap (λ z. cond z tag (first_vacant k xs u (wrapped (tag + 1)))) (sym m) ∙ e)

-- ---- what is found

-- a number that is not vacant is zero, or has an owner; and a vacant one is neither
pub not-vacant : (xs : List Line) (u tag : ℕ) → vacant xs u tag ≡ false → (tag ≡ 0) ⊎ ((j : ℕ) × Owns xs u tag j)
unfolding vacant
not-vacant xs u tag e = go (eqb tag 0) (owner xs u tag) refl refl e
  where
    go : (b : Bool) (r : Option ℕ) → eqb tag 0 ≡ b → owner xs u tag ≡ r → (not b && is_none r) ≡ false → (tag ≡ 0) ⊎ ((j : ℕ) × Owns xs u tag j)
    go true r h o q = inl (eqb-true tag 0 h)
    go false (Some k) h o q = inr (k, owner-owns xs u tag k o)
    go false None h o q = absurd (true≢false q)

pub is-vacant : (xs : List Line) (u tag : ℕ) → vacant xs u tag ≡ true → (tag ≡ 0 → ⊥) × ((j : ℕ) → Owns xs u tag j → ⊥)
unfolding vacant
is-vacant xs u tag e = go (eqb tag 0) (owner xs u tag) refl refl e
  where
    go : (b : Bool) (r : Option ℕ) → eqb tag 0 ≡ b → owner xs u tag ≡ r → (not b && is_none r) ≡ true → (tag ≡ 0 → ⊥) × ((j : ℕ) → Owns xs u tag j → ⊥)
    go true r h o q = absurd (true≢false (sym q))
    go false (Some k) h o q = absurd (true≢false (sym q))
    go false None h o q = (eqb-false tag 0 h, λ j. none-owns xs u tag 0 j o)

-- how far the search goes: each number before is not vacant, and where it ends early that one is
record Reaches (k : ℕ) (xs : List Line) (u from tag : ℕ) : Type 0 where
  steps : ℕ
  within : steps ≤ k
  there : tag ≡ wrapped (from + steps)
  passed : (m : ℕ) → m < steps → vacant xs u (wrapped (from + m)) ≡ false
  early : steps < k → vacant xs u tag ≡ true

reaches : (k : ℕ) (xs : List Line) (u from : ℕ) → from < 0x10000 → Reaches k xs u from (first_vacant k xs u from)
unfolding first_vacant
reaches zero xs u from h =
    record { steps = 0; within = omega arith; there = omega arith; passed = λ m l. absurd (omega arith); early = λ l. absurd (omega arith) }
reaches (suc k) xs u from h =
    elim (vacant xs u from) as (λ b. vacant xs u from ≡ b → Reaches (suc k) xs u from (cond b from (first_vacant k xs u (wrapped (from + 1))))) [
      | true ↦ λ e. record { steps = 0; within = omega arith; there = omega arith; passed = λ m l. absurd (omega arith); early = λ l. e }
      | false ↦ λ e. (let r = reaches k xs u (wrapped (from + 1)) (omega arith) in
          record {
            steps = suc r.steps;
            within = omega (arith, r.within);
            there = omega (arith, r.there);
            passed = before r.steps e r.passed;
            early = λ l. r.early (omega arith);
          })
    ] refl
  where
    before : (n : ℕ) → vacant xs u from ≡ false → ((m : ℕ) → m < n → vacant xs u (wrapped (wrapped (from + 1) + m)) ≡ false)
        → (m : ℕ) → m < suc n → vacant xs u (wrapped (from + m)) ≡ false
    before n e rest zero l = ap (vacant xs u) (let q : wrapped (from + 0) ≡ from = omega arith in q) ∙ e
    before n e rest (suc m) l =
        ap (vacant xs u) (let q : wrapped (from + suc m) ≡ wrapped (wrapped (from + 1) + m) = omega arith in q) ∙ rest m (omega arith)

module _ (xs : List Line) (u from : ℕ) (fits : from < 0x10000) (all : length xs ≡ line_max) where
  abbrev pub result : ℕ
  result = first_vacant candidates xs u from

  -- how many steps lead to zero, and to the tag of each line
  steps_to : ℕ → ℕ
  steps_to tag = (tag + 0x10000 - from) % 0x10000

  passed_over : List ℕ
  passed_over = map steps_to (0 ∷ map (λ x. x.tag.0) xs)

  counted : (q : ℕ) → q < 0x10000 → (wrapped (from + q) ≡ 0) ⊎ ((j : ℕ) × Owns xs u (wrapped (from + q)) j) → Contains passed_over q
  unfolding steps_to passed_over
  counted q l (inl z) = (0, omega arith, omega arith)
  counted q l (inr o) =
      let i = o.1.inside in
      let j : o.0 < length (map (λ x. x.tag.0) xs) = omega (arith, length-map xs (λ x. x.tag.0)) in
      let at : get_or (map steps_to (map (λ x. x.tag.0) xs)) o.0 q ≡ steps_to (wrapped (from + q)) =
      get_or-map steps_to (map (λ x. x.tag.0) xs) o.0 0 q j ∙ ap steps_to (get_or-map (λ x. x.tag.0) xs o.0 no_line 0 i ∙ o.1.tagged) in
      (suc o.0, omega (arith, length-map (map (λ x. x.tag.0) xs) steps_to), omega arith)

  -- as many candidates as lines, and two more: not all of them can be passed over
  pub found-vacant : vacant xs u result ≡ true
  unfolding passed_over
  found-vacant = elim (cases_Bool (vacant xs u result)) [
    | inl e ↦ e
    | inr e ↦ absurd (let n = le-length_from_below passed_over 18 (λ q l. list_any-from_Contains nat_eq_equiv q passed_over
        (counted q (omega arith) (not-vacant xs u _ (stuck e q l)))) in
        omega (arith, length-map (map (λ x. x.tag.0) xs) steps_to, length-map xs (λ x. x.tag.0)))
  ]
    where
      r : Reaches candidates xs u from result
      r = reaches candidates xs u from fits

      stuck : vacant xs u result ≡ false → (i : ℕ) → i < 18 → vacant xs u (wrapped (from + i)) ≡ false
      stuck e i l = elim (cases_lt i r.steps) [
        | inl b ↦ r.passed i b
        | inr b ↦ (let late : r.steps < candidates → ⊥ = λ h. true≢false (sym (r.early h) ∙ e) in
            let q : i ≡ r.steps = omega (arith, r.within) in
            ap (λ n. vacant xs u (wrapped (from + n))) q ∙ ap (vacant xs u) (sym r.there) ∙ e)
      ]

  pub first-vacant : NextTag (λ (tag : ℕ). (j : ℕ) × Owns xs u tag j) from result
  first-vacant =
      let r = reaches candidates xs u from fits in
      let v = is-vacant xs u result found-vacant in
      record {
        nonzero = v.0;
        vacant = λ o. v.1 o.0 o.1;
        steps = r.steps;
        there = r.there;
        passed = λ m l. not-vacant xs u _ (r.passed m l);
      }

  -- each number that is passed leads nearer to it
  pub fresh-nearer : (tag next : ℕ) → tag < 0x10000 → vacant xs u tag ≡ false → next ≡ wrapped (tag + 1)
      → (result + 0x10000 - next) % 0x10000 < (result + 0x10000 - tag) % 0x10000
  fresh-nearer tag next h e n =
      let other : tag ≡ result → ⊥ = λ q. true≢false (sym found-vacant ∙ ap (vacant xs u) (sym q) ∙ e) in
      omega (arith, first-vacant.there)
