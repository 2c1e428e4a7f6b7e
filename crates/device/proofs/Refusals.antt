-- Demand 1, and demand 2 for damaged frames: the three causes of refusal are exact, a refusal changes nothing, and damage draws ERR(EFRAME).
-- Idea: `Told n s o` says of any answer o with the cause n what demand 1 says of the step's. A refusal has it by computing, and what is taken has it as well;
-- the radio and the result of each test are arguments, so that every case computes.
-- Assumes nothing.
use Prim.Native.Nat.{ℕ, ◌<◌}
use mathlib.Core.Path.{◌≡◌, refl, ap, ◌∙◌}
use mathlib.Core.Bool.{Bool, true, false, cond, not, ◌&&◌}
use mathlib.Core.List.{List, [], ◌∷◌}
use native.Mathlib.Omega.{arith}
use native.Mathlib.Nat.{not-suc-le-zero}
use lib.Dec.{ltb}
use lib.ListN.{length}
use Rattle.status.specs.Numbers.{TAKEN, ROOM, STALL, PLACE}
use Rattle.kind.specs.Kinds.{EFRAME}
use Rattle.board.specs.Board.{Board}
use Rattle.device.specs.State.{Radio, free, listening, on_air, orphan, configuring, Packet, State, link, with_link}
use Rattle.device.specs.State.{Event, byte, tick, clear, busy, sent, configured, fault, packet, request, disconnect, Input, nothing}
use Rattle.device.specs.Frames.{damaged}
use Rattle.device.specs.Reading.{brings}
use Rattle.device.specs.Events.{Done, does, Out, taken, refused, on_received, on_run, unless_stalled, on_clear}
use Rattle.device.specs.Events.{on_busy, on_sent, on_configured, on_packet, on_event, unless_room, step}
use Rattle.device.specs.Due.{is_free, is_listening, is_on_air, is_configuring, reconfiguring, fits, byte?, err_due}
use Rattle.device.specs.Demands.{Exact, Demand1, Demand2}
use Rattle.device.proofs.Laws.{run-brings, same-free, same-stalled}

-- ---- what demand 1 says of an answer

-- one with the number TAKEN, and a refusal: for any kind of answer
module _ {A : Type 0} (number : A → ℕ) (refuse : ℕ → A) where
  pub exact-taken : (x : A) → number x ≡ TAKEN → Exact number refuse TAKEN x
  exact-taken x e = record { returns = e; stays = λ k f. absurd (omega arith) }

  pub exact-refused : (n : ℕ) → number (refuse n) ≡ n → Exact number refuse n (refuse n)
  exact-refused n e = record { returns = e; stays = λ k f. ap refuse f }

-- of the device's
abbrev Told : ℕ → State → Out → Type 0
Told n s o = Exact (λ (x : Out). x.number) (λ k. refused k s) n o

by-taking : (s : State) (x : Done) → Told TAKEN s (taken x)
by-taking s x = exact-taken _ _ (taken x) refl

by-refusing : (n : ℕ) (s : State) → Told n s (refused n s)
by-refusing n s = exact-refused _ _ n refl

-- ---- each event

exact-byte : (v : Bool) (b : Board) (n : ℕ) (s : State) → Told (cond v STALL TAKEN) s (unless_stalled v b n s)
exact-byte true b n s = by-refusing STALL s
exact-byte false b n s = by-taking s _

exact-clear : (r : Radio) (s : State) → Told (cond (not (is_listening r)) PLACE TAKEN) s (on_clear r s)
exact-clear free s = by-refusing PLACE s
exact-clear (listening t) s = by-taking s _
exact-clear (on_air t) s = by-refusing PLACE s
exact-clear orphan s = by-refusing PLACE s
exact-clear (configuring c) s = by-refusing PLACE s

exact-busy : (r : Radio) (s : State) → Told (cond (not (is_listening r)) PLACE TAKEN) s (on_busy r s)
exact-busy free s = by-refusing PLACE s
exact-busy (listening t) s = by-taking s _
exact-busy (on_air t) s = by-refusing PLACE s
exact-busy orphan s = by-refusing PLACE s
exact-busy (configuring c) s = by-refusing PLACE s

exact-sent : (airtime : ℕ) (r : Radio) (s : State) → Told (cond (not (is_on_air r)) PLACE TAKEN) s (on_sent airtime r s)
exact-sent airtime free s = by-refusing PLACE s
exact-sent airtime (listening t) s = by-refusing PLACE s
exact-sent airtime (on_air t) s = by-taking s _
exact-sent airtime orphan s = by-taking s _
exact-sent airtime (configuring c) s = by-refusing PLACE s

exact-configured : (r : Radio) (s : State) → Told (cond (not (is_configuring r)) PLACE TAKEN) s (on_configured r s)
exact-configured free s = by-refusing PLACE s
exact-configured (listening t) s = by-refusing PLACE s
exact-configured (on_air t) s = by-refusing PLACE s
exact-configured orphan s = by-refusing PLACE s
exact-configured (configuring c) s = by-taking s _

exact-packet : (v : Bool) (p : Packet) (s : State) → Told (cond (not v) PLACE TAKEN) s (on_packet v p s)
exact-packet true p s = by-taking s _
exact-packet false p s = by-refusing PLACE s

-- the causes but ROOM
abbrev cause_of : Event → State → ℕ
cause_of e s = cond (byte? e && reconfiguring s.air.pending s.air.radio) STALL (cond (not (fits e s.air.radio s.inbox.receiving)) PLACE TAKEN)

exact-event : (b : Board) (e : Event) (s : State) → Told (cause_of e s) s (on_event b e s)
exact-event b (byte n) s = rw (same-stalled s.air.pending s.air.radio) (exact-byte (reconfiguring s.air.pending s.air.radio) b n s)
exact-event b tick s = by-taking s _
exact-event b clear s = exact-clear s.air.radio s
exact-event b busy s = exact-busy s.air.radio s
exact-event b (sent airtime) s = exact-sent airtime s.air.radio s
exact-event b configured s = exact-configured s.air.radio s
exact-event b fault s = by-taking s _
exact-event b (packet p) s = rw (same-free s.air.radio) (exact-packet (s.inbox.receiving && is_free s.air.radio) p s)
exact-event b request s = by-taking s _
exact-event b disconnect s = by-taking s _

exact-room : (v : Bool) (b : Board) (e : Event) (s : State) → Told (cond v ROOM (cause_of e s)) s (unless_room v b e s)
exact-room true b e s = by-refusing ROOM s
exact-room false b e s = exact-event b e s

-- ---- the demands

-- 00, demand 1, for every state
pub demand1 : (b : Board) (s : State) (i : Input) → Demand1 b s i
unfolding step
demand1 b s i = exact-room (ltb i.room 283) b i.event s

-- a run that isn't empty and is damaged
on-damage : (b : Board) (run : List ℕ) (s : State)
    → 0 < length run
    → brings run ≡ damaged
    → on_run b run s ≡ does (with_link (link true 0 []) s) (err_due EFRAME 0 ∷ []) nothing
on-damage b [] s nonempty d = absurd (not-suc-le-zero nonempty)
on-damage b (r ∷ rs) s nonempty d = ap (λ x. on_received b x (with_link (link true 0 []) s)) (run-brings (r ∷ rs) ∙ d)

-- 00, demand 2, damaged frames, for every state
pub demand2 : (b : Board) (s : State) (room : ℕ) → Demand2 b s room
unfolding step
demand2 b s room enough goes nonempty d = rw (enough, same-stalled s.air.pending s.air.radio, goes) (ap taken (on-damage b s.link.run s nonempty d))
