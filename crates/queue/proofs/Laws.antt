-- Laws of what comes after a TX, and of the loop that cancels those that wait: what is left to write, laid on the output as it is,
-- is all that is to be written, laid on the output as it was.
-- Assumes nothing.
use Prim.Native.Nat.{ℕ, zero, suc, ◌+◌, ◌-◌, ◌*◌, ◌%◌, ◌<◌, ◌≤◌}
use mathlib.Core.Path.{◌≡◌, refl, sym, ap, ◌∙◌}
use mathlib.Core.Bool.{true, false}
use mathlib.Core.List.{List, ◌++◌}
use native.Mathlib.Omega.{arith}
use lib.ListN.{length, length-append}
use Rattle.buffer.specs.Lay.{lay}
use Rattle.buffer.proofs.Laws.{lay-none}
use Rattle.kind.specs.Kinds.{CANCELLED}
use Rattle.device.specs.Messages.{seen, tx_done}
use Rattle.emit.specs.Emitting.{bytes_of, frames_bytes, Writes}
use Rattle.emit.proofs.Laws.{lay-after, length-done}
use Rattle.control.specs.declared.Device.{Device}
use Rattle.slot.specs.Slots.{tag_at}
use Rattle.queue.specs.Queue.{start, waiting_tags, cancels, begin, next, after_tx}

-- ---- those that wait

-- the bytes of n TX_DONEs, from slot k on
abbrev pub reports : List ℕ → ℕ → ℕ → List ℕ
reports m k n = frames_bytes (cancels (waiting_tags m k n))

-- the first, and the rest
next-report : (m : List ℕ) (k n : ℕ) → 0 < n
    → reports m k n ≡ bytes_of (seen (tx_done CANCELLED 0 (tag_at m k))) ++ reports m ((k + 1) % 16) (n - 1)
unfolding frames_bytes waiting_tags
next-report m k zero h = absurd (omega arith)
next-report m k (suc n) h = let e : suc n - 1 ≡ n = omega arith in rw e

-- n from slot k₀ on were to be written to o₀ from index w₀ on; now `left` are, from slot k on, to o from index w on
pub record Turn (m : List ℕ) (k₀ n w₀ : ℕ) (o₀ : List ℕ) (k left w : ℕ) (o : List ℕ) : Type 0 where
  pub below : k < 16
  pub fits : w + 12 * left ≤ length o
  pub long : length o ≡ length o₀
  pub ends : w + length (reports m k left) ≡ w₀ + length (reports m k₀ n)
  pub same : lay w (reports m k left) o ≡ lay w₀ (reports m k₀ n) o₀

pub turn-first : (m : List ℕ) (k n w : ℕ) (o : List ℕ) → k < 16 → w + 12 * n ≤ length o → Turn m k n w o k n w o
turn-first m k n w o b f = record { below = b; fits = f; long = refl; ends = refl; same = refl }

module _ {m : List ℕ} {k₀ n w₀ : ℕ} {o₀ : List ℕ} {k left w : ℕ} {o : List ℕ} (t : Turn m k₀ n w₀ o₀ k left w o) where
  pub turn-next : 0 < left → {tag : ℕ} → tag ≡ tag_at m k → {w' : ℕ} {o' : List ℕ} → Writes (seen (tx_done CANCELLED 0 tag)) o w w' o' → length o' ≡ length o
      → Turn m k₀ n w₀ o₀ ((k + 1) % 16) (left - 1) w' o'
  turn-next p {tag} e {w'} {o'} s l =
      let f = seen (tx_done CANCELLED 0 (tag_at m k)) in
      let g : Writes f o w w' o' = rw e at s in
      let r = reports m ((k + 1) % 16) (left - 1) in
      let q = next-report m k left p in
      let a = ap length q ∙ length-append (bytes_of f) r in
      record {
        below = omega arith;
        fits = omega (arith, length-done CANCELLED 0 (tag_at m k), g.ends, t.fits);
        long = l ∙ t.long;
        ends = omega (arith, a, g.ends, t.ends);
        same = rw (g.lays, g.ends, lay-after w (bytes_of f) r o, ← q) t.same;
      }

  pub turn_last : left ≤ 0 → (w ≡ w₀ + length (reports m k₀ n)) × (o ≡ lay w₀ (reports m k₀ n) o₀)
  unfolding frames_bytes waiting_tags
  turn_last p =
      let z : left ≡ 0 = omega arith in
      (omega (arith, rw z at t.ends), sym (lay-none w o) ∙ (rw z at t.same))

-- ---- after a TX, the first that applies

module _ (m : List ℕ) (d : Device) where
  pub after-setting : d.air.pending ≡ true → after_tx m d ≡ begin m d
  unfolding after_tx
  after-setting p = simp p

  pub after-waiting : d.air.pending ≡ false → 0 < d.air.waiting → after_tx m d ≡ start m (d.air.first % 16) (d.air.waiting - 1) d
  unfolding after_tx
  after-waiting p h = simp p (go d.air.waiting h)
    where
      go : (n : ℕ) → 0 < n → next false n m d ≡ start m (d.air.first % 16) (n - 1) d
      go zero h = absurd (omega arith)
      go (suc n) h = let e : suc n - 1 ≡ n = omega arith in rw e

  pub after_none : d.air.pending ≡ false → d.air.waiting ≤ 0 → after_tx m d ≡ next false 0 m d
  unfolding after_tx
  after_none p h = let z : d.air.waiting ≡ 0 = omega arith in simp (p, z)
