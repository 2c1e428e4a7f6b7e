-- The form of a payload, the configuration and the sync word in it, row by row: each row from the tests that lead to it, for the bytes that they look at.
-- Assumes nothing.
use mathlib.Core.Path.{◌≡◌, refl, sym, ap, subst, ◌∙◌}
use mathlib.Core.Bool.{Bool, true, false, cond, true≢false}
use mathlib.Core.List.{List, []}
use mathlib.Core.Logic.{◌⊎◌, inl, inr}
use Prim.Native.Nat.{ℕ, ◌+◌, ◌<◌, ◌≤◌}
use native.Mathlib.Omega.{arith}
use borrow.Author.Tests.{lt-ltb, le-ltb, eq-eqb, ne_eqb, leb-true}
use lib.Dec.{eqb}
use lib.ListN.{length, get_or, take, drop}
use lib.Seq.{take_all, drop-drop}
use Rattle.buffer.proofs.Deciding.{same, le-or-lt}
use Rattle.buffer.proofs.Laws.{no_more}
use Rattle.scalar.specs.Scalars.{number, get}
use Rattle.scalar.proofs.Laws.{get-byte}
use Rattle.form.specs.Forms.{at_least}
use Rattle.modulation.specs.Lora.{lora_of}
use Rattle.modulation.specs.Fsk.{sync_word_len, fsk_of}
use Rattle.modulation.specs.Modulations.{LORA, FSK, modulation_id, params_of, config_form, config_of, sync_word}
use Rattle.form.specs.declared.Form.{Form}
use Rattle.form.specs.declared.Form.TheVariants as F
use Rattle.modulation.specs.declared.Modulation.TheVariants as M

pub empty : (p : List ℕ) → length p ≡ 0 → F.Wrong ≡ config_form p
unfolding config_form number
empty p h = rw (no_more p 0 (omega arith)) refl

-- no byte after FSK's parameters
pub word-short : (p : List ℕ) → length p ≤ 16 → [] ≡ sync_word p
unfolding sync_word
word-short p h = go (eqb (get modulation_id p) FSK)
  where
    go : (t : Bool) → [] ≡ cond t (take (get sync_word_len (params_of p)) (drop 17 p)) []
    go true = rw (no_more p 17 (omega arith)) (sym (take_all (get sync_word_len (params_of p)) [] (omega arith)))
    go false = refl

module _ (p : List ℕ) {id : ℕ} (first : id ≡ get modulation_id p) where
  pub lora : id ≡ LORA → F.Size 16 ≡ config_form p
  unfolding config_form
  lora t = simp (eq-eqb _ _ (sym first ∙ t))

  pub other : (id ≡ LORA → ⊥) → (id ≡ FSK → ⊥) → F.Wrong ≡ config_form p
  unfolding config_form
  other t u = simp (ne_eqb _ _ (λ e. t (first ∙ e)), ne_eqb _ _ (λ e. u (first ∙ e)))

  pub of-lora : id ≡ LORA → M.Lora (lora_of (params_of p)) ≡ config_of p
  unfolding config_of
  of-lora t = simp (eq-eqb _ _ (sym first ∙ t))

  pub of-fsk : (id ≡ LORA → ⊥) → M.Fsk (fsk_of (params_of p)) ≡ config_of p
  unfolding config_of
  of-fsk t = simp (ne_eqb _ _ (λ e. t (first ∙ e)))

  pub word_none : (id ≡ FSK → ⊥) → [] ≡ sync_word p
  unfolding sync_word
  word_none t = simp (ne_eqb _ _ (λ e. t (first ∙ e)))

  pub word_some : id ≡ FSK → {n : ℕ} → n ≡ get sync_word_len (params_of p) → take n (drop 17 p) ≡ sync_word p
  unfolding sync_word
  word_some t e = rw (e, eq-eqb _ _ (sym first ∙ t))

  module _ (t : id ≡ FSK) where
    pub short : length p < 17 → F.Wrong ≡ config_form p
    unfolding config_form
    short h = rw (sym first ∙ t, lt-ltb _ _ h)

    module _ (h : 17 ≤ length p) {n : ℕ} (word : n ≡ get sync_word_len (params_of p)) where
      pub long : 8 < n → F.Wrong ≡ config_form p
      unfolding config_form
      long k = rw (sym first ∙ t, le-ltb _ _ h, sym word, lt-ltb _ _ k)

      pub fsk : n ≤ 8 → F.Size (17 + n) ≡ config_form p
      unfolding config_form
      fsk k = rw (sym first ∙ t, le-ltb _ _ h, sym word, le-ltb _ _ k)

-- the byte that says how long the sync word is
pub word_byte : (p : List ℕ) → 17 ≤ length p → get_or p 16 0 ≡ get sync_word_len (params_of p)
word_byte p h = get-byte 16 p h ∙ ap (λ (q : List ℕ). number (take 1 q)) (sym (drop-drop 15 1 p))

-- which row a payload has, with what its size rests on
pub data Row (p : List ℕ) : Form → Type 0 where
  is-lora : get modulation_id p ≡ LORA → Row p (F.Size 16)
  is-fsk : get modulation_id p ≡ FSK → 17 ≤ length p → get sync_word_len (params_of p) ≤ 8 → Row p (F.Size (17 + get sync_word_len (params_of p)))
  is-wrong : Row p F.Wrong

module _ (p : List ℕ) where
  by_word : get modulation_id p ≡ FSK → 17 ≤ length p
      → (get sync_word_len (params_of p) ≤ 8) ⊎ (8 < get sync_word_len (params_of p)) → Row p (config_form p)
  by_word t h (inl k) = subst (Row p) (fsk p refl t h refl k) (is-fsk t h k)
  by_word t h (inr k) = subst (Row p) (long p refl t h refl k) is-wrong

  by_length : get modulation_id p ≡ FSK → (17 ≤ length p) ⊎ (length p < 17) → Row p (config_form p)
  by_length t (inl h) = by_word t h (le-or-lt (get sync_word_len (params_of p)) 8)
  by_length t (inr h) = subst (Row p) (short p refl t h) is-wrong

  by-id : (get modulation_id p ≡ LORA) ⊎ (get modulation_id p ≡ LORA → ⊥)
      → (get modulation_id p ≡ FSK) ⊎ (get modulation_id p ≡ FSK → ⊥) → Row p (config_form p)
  by-id (inl t) u = subst (Row p) (lora p refl t) (is-lora t)
  by-id (inr t) (inl u) = by_length u (le-or-lt 17 (length p))
  by-id (inr t) (inr u) = subst (Row p) (other p refl t u) is-wrong

  pub row : Row p (config_form p)
  row = by-id (same (get modulation_id p) LORA) (same (get modulation_id p) FSK)

  -- a payload with its known fields has room for the parameters
  room : {f : Form} → Row p f → at_least f (length p) ≡ true
      → (16 ≤ length p) × ((get modulation_id p ≡ LORA → ⊥) → 17 ≤ length p)
  room (is-lora t) h = (leb-true 16 (length p) h, λ n. absurd (n t))
  room (is-fsk t h k) e = (omega arith, λ n. h)
  room is-wrong h = absurd (true≢false (sym h))

  module _ (h : at_least (config_form p) (length p) ≡ true) where
    pub enough : 16 ≤ length p
    enough = (room row h).0

    pub enough-fsk : (get modulation_id p ≡ LORA → ⊥) → 17 ≤ length p
    enough-fsk = (room row h).1
