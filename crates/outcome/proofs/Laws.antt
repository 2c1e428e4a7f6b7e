-- Laws of the outcomes: what the arms that stand for several variants of the radio give, the OK to a SET_CONFIG, and the ERR of a fault.
-- Assumes nothing.
use Prim.Native.Nat.{ℕ, ◌≤◌, ◌+◌}
use mathlib.Core.Path.{◌≡◌, refl, ap, ◌∙◌}
use mathlib.Core.Bool.{Bool, true, false}
use mathlib.Core.List.{List, [], ◌∷◌}
use native.Mathlib.Omega.{arith}
use lib.ListN.{length, take, drop, length-take, length-drop}
use Rattle.status.specs.Numbers.{PLACE}
use Rattle.buffer.specs.Lay.{lay}
use Rattle.kind.specs.Kinds.{ERADIO}
use Rattle.device.specs.Messages.{Frame}
use Rattle.emit.specs.Emitting.{frames_bytes}
use Rattle.emit.proofs.Laws.{Sent, sends-one, length-err}
use Rattle.control.specs.declared.Radio.{Radio}
use Rattle.control.specs.declared.Radio.TheVariants.{Free, Listening, OnAir, Orphan, Configuring}
use Rattle.control.specs.declared.Device.{Device}
use Rattle.control.specs.Control.{writes_first, Out, refused}
use Rattle.queue.specs.Queue.{after_tx}
use Rattle.outcome.specs.Outcomes.{on_sent, on_fault, fault_frames, on_configured}
use lib.Seq.{take_at}

-- ---- the arms of a match that stand for several variants

-- f gives y in each of them
pub unless-listening : (f : Radio → Out) {y : Out} → f Free ≡ y → ((t : ℕ) → f (OnAir t) ≡ y) → f Orphan ≡ y → f Configuring ≡ y → (r : Radio)
    → ((t : ℕ) → r ≡ Listening t → ⊥) → f r ≡ y
unless-listening f a b p q Free k = a
unless-listening f a b p q (Listening t) k = absurd (k t refl)
unless-listening f a b p q (OnAir t) k = b t
unless-listening f a b p q Orphan k = p
unless-listening f a b p q Configuring k = q

pub sent-other : (airtime : ℕ) (r : Radio) (m : List ℕ) (d : Device) → ((t : ℕ) → r ≡ OnAir t → ⊥) → (r ≡ Orphan → ⊥)
    → on_sent airtime r m d ≡ refused PLACE d
sent-other airtime Free m d k l = refl
sent-other airtime (Listening t) m d k l = refl
sent-other airtime (OnAir t) m d k l = absurd (k t refl)
sent-other airtime Orphan m d k l = absurd (l refl)
sent-other airtime Configuring m d k l = refl

pub configured-other : (r : Radio) (m : List ℕ) (d : Device) → (r ≡ Configuring → ⊥) → on_configured r m d ≡ refused PLACE d
configured-other Free m d k = refl
configured-other (Listening t) m d k = refl
configured-other (OnAir t) m d k = refl
configured-other Orphan m d k = refl
configured-other Configuring m d k = absurd (k refl)

-- nothing of an open session is with the radio
pub fault-other : (r : Radio) (m : List ℕ) (d : Device) → ((t : ℕ) → r ≡ Listening t → ⊥) → ((t : ℕ) → r ≡ OnAir t → ⊥) → (r ≡ Configuring → ⊥)
    → on_fault r m d ≡ writes_first (fault_frames d.link.session 0) (after_tx m d)
fault-other Free m d k l n = refl
fault-other (Listening t) m d k l n = absurd (k t refl)
fault-other (OnAir t) m d k l n = absurd (l t refl)
fault-other Orphan m d k l n = refl
fault-other Configuring m d k l n = absurd (n refl)

-- ---- the OK to a SET_CONFIG

-- the parameters as they came are all there
pub length_part : (n at : ℕ) (m : List ℕ) → at + n ≤ length m → {p : List ℕ} → p ≡ take n (drop at m) → length p ≡ n
length_part n at m h e = ap length e ∙ simp (length-take, length-drop) (omega arith)

-- two bytes, and then p
pub two-before : (a b : ℕ) (p d : List ℕ) (n : ℕ) → length p ≡ n + 1 → take (2 + n + 1) (lay 2 p (a ∷ b ∷ d)) ≡ a ∷ b ∷ p
unfolding lay
two-before a b p d n e = take_at (a ∷ b ∷ p) (drop (2 + length p) (a ∷ b ∷ d)) (2 + n + 1) (omega arith)

-- ---- the ERR of a fault

pub fault-bounded : (session : Bool) (t : ℕ) → length (frames_bytes (fault_frames session t)) ≤ 9
unfolding frames_bytes
fault-bounded true t = rw sends-one (length-err ERADIO t)
fault-bounded false t = omega arith

-- frames that stand at the output's start
pub from_start : {fs : List Frame} {o o1 : List ℕ} {w : ℕ} → (w ≡ length (frames_bytes fs)) × (o1 ≡ lay 0 (frames_bytes fs) o) → Sent fs o 0 w o1
from_start (e, l) = record { ends = omega arith; lays = l }
