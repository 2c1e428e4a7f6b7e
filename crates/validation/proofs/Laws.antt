-- The steps of validation by what the code looks at, and what is known of a command without an error. By cases on the payload and on each step's test.
-- Assumes nothing.
use mathlib.Core.Path.{◌≡◌, refl, sym, ap, subst, ◌∙◌}
use mathlib.Core.Bool.{Bool, true, false, cond, not, ◌&&◌, ◌||◌, true≢false, and-true, and-false}
use mathlib.Core.List.{List, [], ◌∷◌}
use mathlib.Core.Option.{Option, none, some, some-ne-none}
use mathlib.Core.Logic.{◌⊎◌, inl, inr}
use Prim.Native.Nat.{ℕ, suc, ◌+◌, ◌<◌, ◌≤◌}
use native.Mathlib.Nat.{not-suc-le-zero}
use native.Mathlib.Omega.{arith}
use borrow.Author.Tests.{eq-eqb, ne_eqb, eqb-true, le-leb, lt-leb, leb-true, leb-false, not-false}
use lib.Dec.{leb, eqb, eqb-suc-suc}
use lib.ListN.{length, get_or}
use Rattle.buffer.proofs.Deciding.{le-or-lt}
use Rattle.scalar.specs.Scalars.{get}
use Rattle.scalar.proofs.Laws.{get-byte}
use Rattle.form.specs.Forms.{exactly}
use Rattle.form.specs.declared.Form.{Form}
use Rattle.modulation.specs.Fsk.{sync_word_len, fsk_of}
use Rattle.modulation.specs.Modulations.{LORA, FSK, modulation_id, params_of, config_form, config_of}
use Rattle.modulation.specs.declared.Modulation.{Modulation}
use Rattle.modulation.proofs.Rows.{lora, fsk, of-fsk}
use Rattle.kind.specs.Kinds.{SET_CONFIG, TX, is_command}
use Rattle.command.specs.Commands.{flags, flags_max}
use Rattle.board.specs.Board.{Board, tx_max}
use Rattle.board.specs.Params.{freq_good, fsk_good, params_good}
use Rattle.device.specs.Frames.{needs_config, other_modulation, config_sized, tx_sized, sized, good, error_for}

-- ---- steps 4 and 5 of a SET_CONFIG, by the bytes that they look at

pub other-empty : (p : List ℕ) → length p ≡ 0 → false ≡ other_modulation p
other-empty [] e = refl
other-empty (b ∷ bs) e = absurd (omega arith)

pub other-first : (p : List ℕ) → 0 < length p → not (eqb (get_or p 0 0) LORA || eqb (get_or p 0 0) FSK) ≡ other_modulation p
other-first [] h = absurd (not-suc-le-zero h)
other-first (b ∷ bs) h = ap (λ (id : ℕ). not (eqb id LORA || eqb id FSK)) (get-byte 0 (b ∷ bs) h)

pub sized-empty : (p : List ℕ) → length p ≡ 0 → false ≡ config_sized p
sized-empty [] e = refl
sized-empty (b ∷ bs) e = absurd (omega arith)

pub sized-lora : (p : List ℕ) → 0 < length p → get_or p 0 0 ≡ LORA → eqb (length p) 16 ≡ config_sized p
sized-lora [] h t = absurd (not-suc-le-zero h)
sized-lora (b ∷ bs) h t = simp (eq-eqb _ _ (sym (get-byte 0 (b ∷ bs) h) ∙ t)) (eqb-suc-suc (length bs) 15)

pub sized-short : (p : List ℕ) → 0 < length p → (get_or p 0 0 ≡ LORA → ⊥) → length p < 17 → false ≡ config_sized p
sized-short [] h t s = absurd (not-suc-le-zero h)
sized-short (b ∷ bs) h t s = simp (ne_eqb _ _ (λ e. t (get-byte 0 (b ∷ bs) h ∙ e)), lt-leb 16 (length bs) (omega arith))

pub sized-fsk : (p : List ℕ) → 0 < length p → (get_or p 0 0 ≡ LORA → ⊥) → 17 ≤ length p → eqb (length p) (17 + get_or p 16 0) ≡ config_sized p
sized-fsk [] h t s = absurd (not-suc-le-zero h)
sized-fsk (b ∷ bs) h t s =
    let e : 17 + get_or bs 15 0 ≡ suc (16 + get_or bs 15 0) = omega arith in
    simp (ne_eqb _ _ (λ e. t (get-byte 0 (b ∷ bs) h ∙ e)), le-leb 16 (length bs) (omega arith), sym (get-byte 15 bs (omega arith)), e)
    (eqb-suc-suc (length bs) (16 + get_or bs 15 0))

-- ---- what a SET_CONFIG that passes both is

-- a configuration but for the longest sync word
abbrev pub Shape : List ℕ → Type 0
Shape p =
    ((get modulation_id p ≡ LORA) × (length p ≡ 16))
    ⊎ ((get modulation_id p ≡ FSK) × (length p ≡ 17 + get sync_word_len (params_of p)))

both : (s t : Bool) → (s && t) ≡ true → (s ≡ true) × (t ≡ true)
both true t e = (refl, e)
both false t e = absurd (true≢false (sym e))

pub shape : (p : List ℕ) → config_sized p ≡ true → other_modulation p ≡ false → Shape p
shape [] e k = absurd (true≢false (sym e))
shape (b ∷ bs) e k = go (eqb id LORA) refl (eqb id FSK) refl e k
  where
    id : ℕ
    id = get modulation_id (b ∷ bs)

    word : ℕ
    word = get sync_word_len bs

    go : (s : Bool) → eqb id LORA ≡ s → (t : Bool) → eqb id FSK ≡ t
        → cond s (eqb (length bs) 15) (leb 16 (length bs) && eqb (length bs) (16 + word)) ≡ true → not (s || t) ≡ false → Shape (b ∷ bs)
    go true i t j l k = inl (eqb-true id LORA i, omega (arith, eqb-true (length bs) 15 l))
    go false i true j l k =
        let e = (both (leb 16 (length bs)) (eqb (length bs) (16 + word)) l).1 in
        inr (eqb-true id FSK j, omega (arith, eqb-true (length bs) (16 + word) e))
    go false i false j l k = absurd (true≢false k)

module _ (p : List ℕ) where
  -- a shorter one is of its form
  pub exact : Shape p → (get modulation_id p ≡ FSK → get sync_word_len (params_of p) ≤ 8) → exactly (config_form p) (length p) ≡ true
  exact (inl s) w = subst (λ (f : Form). exactly f (length p) ≡ true) (lora p refl s.0) (eq-eqb 16 (length p) (sym s.1))
  exact (inr s) w =
      subst
      (λ (f : Form). exactly f (length p) ≡ true)
      (fsk p refl s.0 (omega arith) refl (w s.0))
      (eq-eqb (17 + get sync_word_len (params_of p)) (length p) (sym s.1))

  module _ (b : Board) where
    -- a longer one is not good
    long-bad : get modulation_id p ≡ FSK → 8 < get sync_word_len (params_of p) → false ≡ params_good b (config_of p)
    unfolding params_good fsk_good fsk_of
    long-bad t h =
        subst (λ (m : Modulation). false ≡ params_good b m) (of-fsk p refl (λ s. omega arith))
        (rw (lt-leb (get sync_word_len (params_of p)) 8 h) (sym (and-false (freq_good b (fsk_of (params_of p)).freq_hz))))

    -- so one that has not just its form is not good
    pub unfit : Shape p → exactly (config_form p) (length p) ≡ false → false ≡ params_good b (config_of p)
    unfit s e = go s (le-or-lt (get sync_word_len (params_of p)) 8)
      where
        go : Shape p → (get sync_word_len (params_of p) ≤ 8) ⊎ (8 < get sync_word_len (params_of p)) → false ≡ params_good b (config_of p)
        go t (inl h) = absurd (true≢false (sym (exact t (λ u. h)) ∙ e))
        go (inl t) (inr h) = absurd (true≢false (sym (exact (inl t) (λ u. omega arith)) ∙ e))
        go (inr t) (inr h) = long-bad t.0 h

    -- and a good one has just its form
    pub fit : Shape p → params_good b (config_of p) ≡ true → exactly (config_form p) (length p) ≡ true
    fit s e = go (exactly (config_form p) (length p)) refl
      where
        go : (t : Bool) → exactly (config_form p) (length p) ≡ t → t ≡ true
        go true q = refl
        go false q = absurd (true≢false (sym e ∙ sym (unfit s q)))

-- ---- step 5 of a TX

pub tx-size : (p : List ℕ) → tx_sized p ≡ true → (2 ≤ length p) × (length p ≤ 256)
tx-size p e = let s = both (leb 2 (length p)) (leb (length p) 256) e in (leb-true 2 (length p) s.0, leb-true (length p) 256 s.1)

-- ---- a command without an error

-- a step that objects to nothing
pass : (t : Bool) (x : ℕ) (o : Option ℕ) → cond t (some x) o ≡ none → (t ≡ false) × (o ≡ none)
pass true x o e = absurd (some-ne-none x e)
pass false x o e = (refl, e)

module _ (b : Board) (noConfig : Bool) (n kind : ℕ) (p : List ℕ) where
  -- what each step found
  pub record Passed : Type 0 where
    pub command : is_command kind ≡ true
    pub configured : (noConfig && needs_config kind) ≡ false
    pub known : (eqb kind SET_CONFIG && other_modulation p) ≡ false
    pub size : sized kind p ≡ true
    pub values : good b kind p ≡ true
    pub room : (eqb kind TX && leb tx_max n) ≡ false

  pub passed : error_for b noConfig n kind p ≡ none → Passed
  passed e =
      let s2 = pass (not (is_command kind)) _ _ e in
      let s3 = pass (noConfig && needs_config kind) _ _ s2.1 in
      let s4 = pass (eqb kind SET_CONFIG && other_modulation p) _ _ s3.1 in
      let s5 = pass (not (sized kind p)) _ _ s4.1 in
      let s6 = pass (not (good b kind p)) _ _ s5.1 in
      let s7 = pass (eqb kind TX && leb tx_max n) _ _ s6.1 in
      record {
        command = not-false (is_command kind) s2.0;
        configured = s3.0;
        known = s4.0;
        size = not-false (sized kind p) s5.0;
        values = not-false (good b kind p) s6.0;
        room = s7.0;
      }

  -- it is one of the six, and only SET_CONFIG and TX have a payload
  pub none-kind : error_for b noConfig n kind p ≡ none → (is_command kind ≡ true) × ((kind ≡ SET_CONFIG → ⊥) → (kind ≡ TX → ⊥) → length p ≡ 0)
  none-kind e =
      let k = passed e in (
        k.command,
        λ s t. eqb-true (length p) 0 (simp (ne_eqb kind SET_CONFIG s, ne_eqb kind TX t) at k.size),
      )

module _ (b : Board) (noConfig : Bool) (n : ℕ) (p : List ℕ) where
  -- a configuration's bytes
  pub none-set : error_for b noConfig n SET_CONFIG p ≡ none → exactly (config_form p) (length p) ≡ true
  none-set e = let k = passed b noConfig n SET_CONFIG p e in fit p b (shape p k.size k.known) k.values

  -- a packet, and room for it
  pub record TxIn : Type 0 where
    pub least : 2 ≤ length p
    pub most : length p ≤ 256
    pub bits : get flags p ≤ flags_max
    pub room : n < tx_max
    pub configured : noConfig ≡ false

  pub none-tx : error_for b noConfig n TX p ≡ none → TxIn
  none-tx e =
      let k = passed b noConfig n TX p e in
      let s = tx-size p k.size in
      record {
        least = s.0;
        most = s.1;
        bits = leb-true (get flags p) flags_max k.values;
        room = leb-false tx_max n k.room;
        configured = sym (and-true noConfig) ∙ k.configured;
      }
