-- What the loop over a piece keeps: the bytes that are still to come lead to where the whole piece leads, and add what is left of its lines.
-- Assumes nothing.
use mathlib.Core.Path.{◌≡◌, refl, ◌∙◌}
use mathlib.Core.List.{List}
use Prim.Native.Nat.{ℕ, ◌+◌, ◌*◌, ◌≤◌, ◌<◌}
use native.Mathlib.Omega.{arith}
use borrow.Author.Tests.{eq-eqb, ne_eqb}
use lib.ListN.{length, drop, get_or}
use Rattle.buffer.specs.Lay.{lay}
use Rattle.buffer.proofs.Laws.{next as next-byte, no_more}
use Rattle.buffer.proofs.Laying.{Laying, start, done, fits}
use Rattle.line.specs.Lines.{line_max}
use Rattle.capture.specs.Stream.{keep, line_run, RunSoFar, next, after_bytes, adds}
use Rattle.text.proofs.Writing.{wrote}
use Rattle.capture.proofs.Lengths.{length-adds}

abbrev pub place : ℕ → ℕ → List ℕ → RunSoFar
place at len kept = record { at = at; len = len; kept = kept }

module _ (at len : ℕ) (kept : List ℕ) (b : ℕ) where
  next-zero : b ≡ 0 → next (place at len kept) b ≡ place (at + len + 1) 0 kept
  unfolding next
  next-zero z = simp (eq-eqb b 0 z)

  next-other : (b ≡ 0 → ⊥) → next (place at len kept) b ≡ place at (len + 1) (keep len b kept)
  unfolding next
  next-other z = simp (ne_eqb b 0 z)

pub record Feeding (piece kept₀ dst₀ : List ℕ) (at₀ len₀ filled₀ : ℕ) (kept dst : List ℕ) (at len filled i : ℕ) : Type 0 where
  pub within : i ≤ length piece
  pub count : at + len ≡ at₀ + len₀ + i
  pub long : length kept ≡ length kept₀
  pub leads : after_bytes (place at len kept) (drop i piece) ≡ after_bytes (place at₀ len₀ kept₀) piece
  pub laying : Laying filled₀ (adds (place at₀ len₀ kept₀) piece) dst₀ filled (adds (place at len kept) (drop i piece)) dst

module _ (piece kept₀ dst₀ : List ℕ) (at₀ len₀ filled₀ : ℕ) where
  pub begins : filled₀ + line_max * length piece ≤ length dst₀
      → Feeding piece kept₀ dst₀ at₀ len₀ filled₀ kept₀ dst₀ at₀ len₀ filled₀ 0
  begins h =
      record {
        within = omega arith;
        count = omega arith;
        long = refl;
        leads = refl;
        laying = start filled₀ _ dst₀ (omega (arith, length-adds (place at₀ len₀ kept₀) piece));
      }

module _ {piece kept₀ dst₀ : List ℕ} {at₀ len₀ filled₀ : ℕ} {kept dst : List ℕ} {at len filled i : ℕ}
    (f : Feeding piece kept₀ dst₀ at₀ len₀ filled₀ kept dst at len filled i) where
  -- a zero: the run's line has room, and is written
  pub line-fits : i < length piece → get_or piece i 0 ≡ 0 → filled + length (line_run at len kept) ≤ length dst
  unfolding adds
  line-fits h z =
      let l = rw (next-byte piece i h, eq-eqb (get_or piece i 0) 0 z) at f.laying in
      fits (line_run at len kept) _ l

  pub zero : {r : ℕ} {e : List ℕ} → i < length piece → get_or piece i 0 ≡ 0
      → (r ≡ filled + length (line_run at len kept)) × (e ≡ lay filled (line_run at len kept) dst)
      → Feeding piece kept₀ dst₀ at₀ len₀ filled₀ kept e (at + len + 1) 0 r (i + 1)
  unfolding adds after_bytes
  zero h z w =
      let b = get_or piece i 0 in
      let n = next-zero at len kept b z in
      let l = rw (next-byte piece i h) at f.laying in
      let g : after_bytes (next (place at len kept) b) (drop (i + 1) piece) ≡ after_bytes (place at₀ len₀ kept₀) piece
      = rw (next-byte piece i h) at f.leads in
      record {
        within = omega arith;
        count = omega (arith, f.count);
        long = f.long;
        leads = rw n at g;
        laying = wrote (line_run at len kept) _ (rw (eq-eqb b 0 z, n) at l) w;
      }

  -- another byte is kept
  pub kept_on : {k : List ℕ} → i < length piece → (get_or piece i 0 ≡ 0 → ⊥)
      → k ≡ keep len (get_or piece i 0) kept → length k ≡ length kept
      → Feeding piece kept₀ dst₀ at₀ len₀ filled₀ k dst at (len + 1) filled (i + 1)
  unfolding adds after_bytes
  kept_on h z w m =
      let b = get_or piece i 0 in
      let n = next-other at len kept b z in
      let l = rw (next-byte piece i h) at f.laying in
      let g : after_bytes (next (place at len kept) b) (drop (i + 1) piece) ≡ after_bytes (place at₀ len₀ kept₀) piece
      = rw (next-byte piece i h) at f.leads in
      record {
        within = omega arith;
        count = omega (arith, f.count);
        long = m ∙ f.long;
        leads = rw w (rw n at g);
        laying = rw w (rw (ne_eqb b 0 z, n) at l);
      }

  -- the end of the piece
  pub ends : length piece ≤ i
      → (place at len kept ≡ after_bytes (place at₀ len₀ kept₀) piece)
      × (filled ≡ filled₀ + length (adds (place at₀ len₀ kept₀) piece))
      × (dst ≡ lay filled₀ (adds (place at₀ len₀ kept₀) piece) dst₀)
  unfolding adds after_bytes
  ends h =
      let l = rw (no_more piece i h) at f.laying in
      (rw (no_more piece i h) at f.leads, omega (arith, l.size), done l)
