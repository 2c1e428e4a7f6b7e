-- What the code's tests say by the board's definitions: a number of a list without gaps is one between two ends, and no bandwidth is over 500 kHz.
-- By induction on the list.
-- Assumes nothing.
use mathlib.Core.Path.{◌≡◌, refl, sym, ap, ◌∙◌}
use mathlib.Core.Bool.{Bool, true, false, cond, ◌&&◌, ◌||◌}
use mathlib.Core.List.{List, [], ◌∷◌}
use mathlib.Core.Logic.{◌⊎◌, inl, inr}
use Prim.Native.Nat.{ℕ, zero, suc, ◌+◌, ◌*◌, ◌%◌, ◌^◌, ◌<◌, ◌≤◌}
use native.Mathlib.Nat.{mod-eq_of_lt, pow-le-pow_right}
use native.Mathlib.Omega.{arith}
use borrow.Author.Tests.{lt-ltb, le-ltb, le-leb, lt-leb, eq-eqb, ne_eqb, eqb-true}
use lib.Dec.{leb, ltb, eqb, leb-zero, leb-suc-suc}
use lib.ListN.{get_or, length}
use Rattle.buffer.proofs.Deciding.{same, le-or-lt}
use Rattle.scalar.specs.Bytes.{Each}
use Rattle.board.specs.Board.{sx1262, among}
use Rattle.board.specs.Ldro.{bandwidths, slow}
use Rattle.modulation.specs.declared.Lora.{Lora}
use Rattle.modulation.specs.declared.Fsk.{Fsk}
use Rattle.board.specs.Params.{iq_good, lora_good, fsk_good, lora_taken, fsk_taken}

-- ---- values without gaps

-- n numbers from lo on
abbrev run : ℕ → ℕ → List ℕ
run lo zero = []
run lo (suc n) = lo ∷ run (suc lo) n

among-run : (x lo n : ℕ) → among x (run lo n) ≡ (leb lo x && ltb x (lo + n))
unfolding among
among-run x lo zero = go (le-or-lt lo x)
  where
    go : (lo ≤ x) ⊎ (x < lo) → false ≡ (leb lo x && ltb x (lo + 0))
    go (inl h) = simp (le-leb lo x h, le-ltb x (lo + 0) (omega arith))
    go (inr h) = simp (lt-leb lo x h)
among-run x lo (suc n) = ap (λ (t : Bool). eqb x lo || t) (among-run x (suc lo) n) ∙ go (same x lo) (le-or-lt lo x)
  where
    go : (x ≡ lo) ⊎ (x ≡ lo → ⊥) → (lo ≤ x) ⊎ (x < lo) → (eqb x lo || (leb (suc lo) x && ltb x (suc lo + n))) ≡ (leb lo x && ltb x (lo + suc n))
    go (inl e) h = simp (eq-eqb x lo e, le-leb lo x (omega arith), lt-ltb x (lo + suc n) (omega arith))
    go (inr d) (inl h) =
        let e : suc lo + n ≡ lo + suc n = omega arith in
        simp (ne_eqb x lo d, le-leb lo x h, le-leb (suc lo) x (omega arith), e)
    go (inr d) (inr h) = simp (ne_eqb x lo d, lt-leb lo x h, lt-leb (suc lo) x (omega arith))

sf-among : (x : ℕ) → among x sx1262.sfs ≡ (leb 5 x && leb x 12)
unfolding sx1262
sf-among x = among-run x 5 8 ∙ ap (λ (t : Bool). leb 5 x && t) (leb-suc-suc x 12)

bw-among : (x : ℕ) → among x sx1262.bws ≡ leb x 9
unfolding sx1262
bw-among x = among-run x 0 10 ∙ ap (λ (t : Bool). t && ltb x 10) (leb-zero x) ∙ leb-suc-suc x 9

-- no bit 17
iq-none : (x : ℕ) → iq_good sx1262 x ≡ eqb x 0
unfolding sx1262 among
iq-none x = go (eqb x 1) refl
  where
    go : (t : Bool) → eqb x 1 ≡ t → cond t false (eqb x 0) ≡ eqb x 0
    go true e = sym (ne_eqb x 0 (omega (arith, eqb-true x 1 e)))
    go false e = refl

-- the parameters that 01's board takes, in 01's own numbers
pub lora-taken : (m : Lora) → lora_good sx1262 m ≡ lora_taken m
unfolding lora_good sx1262
lora-taken m = rw (sf-among, bw-among, iq-none)

pub fsk-taken : (m : Fsk) → fsk_good sx1262 m ≡ fsk_taken m
unfolding fsk_good sx1262
fsk-taken m = refl

-- ---- LDRO

most : (k : ℕ) (l : List ℕ) → Each (λ (x : ℕ). x ≤ k) l → (n : ℕ) → get_or l n 0 ≤ k
most k [] h n = omega arith
most k (x ∷ xs) h zero = h.0
most k (x ∷ xs) h (suc n) = most k xs h.1 n

pub bandwidth-most : (bw : ℕ) → get_or bandwidths bw 0 ≤ 500000
bandwidth-most bw = most 500000 bandwidths (omega arith) bw

least : (k : ℕ) (l : List ℕ) → Each (λ (x : ℕ). k ≤ x) l → (n : ℕ) → n < length l → k ≤ get_or l n 0
least k [] h n p = omega arith
least k (x ∷ xs) h zero p = h.0
least k (x ∷ xs) h (suc n) p = least k xs h.1 n (omega arith)

pub bandwidth-least : (bw : ℕ) → bw ≤ 9 → 7810 ≤ get_or bandwidths bw 0
bandwidth-least bw h = least 7810 bandwidths (omega arith) bw (omega arith)

pub high-slow : (sf bw : ℕ) → 12 < sf → true ≡ slow sf bw
unfolding slow
high-slow sf bw h =
    sym (lt-ltb (16 * get_or bandwidths bw 0) (1000 * 2 ^ sf) (omega (arith, bandwidth-most bw, pow-le-pow_right {n = 2} (omega arith) h)))

-- the shift loses nothing
pub shift : (sf : ℕ) → sf ≤ 12 → 1000 * 2 ^ sf % 4294967296 ≡ 1000 * 2 ^ sf
shift sf h = mod-eq_of_lt (omega (arith, pow-le-pow_right {n = 2} (omega arith) h))
