-- The demands on the device in code after any list of calls from power-up: carried over from the device of the definition, since the two go in step.
-- Assumes nothing.
use mathlib.Core.Path.{◌≡◌, refl, sym, ap, ◌∙◌}
use mathlib.Core.List.{List, map}
use Prim.Native.Nat.{ℕ, suc}
use Rattle.scalar.specs.Bytes.{Each}
use Rattle.scalar.proofs.Bytes.{each_right}
use Rattle.board.specs.Board.{sx1262}
use Rattle.device.specs.State.{State, tags_of}
use Rattle.device.specs.State as S
use Rattle.device.specs.Demands.{defined, Demand1Seen, Contents, Demand2Seen, Demand2Wire, Demand3, InTime, DropCount, Receiving}
use Rattle.device.proofs.Back.{TagIn}
use Rattle.device.proofs.Ranges.{sx1262-in}
use Rattle.device.proofs.History as H
use Rattle.device.proofs.Carrying.{InStep, given-in, demand1-seen-carried, contents-carried, demand2-seen-carried}
use Rattle.device.proofs.Carrying.{demand2-wire-carried, demand3-carried, in-time-carried, drop-count-carried, receiving-carried}
use Rattle.control.specs.declared.Radio.{Radio}
use Rattle.control.specs.Control.{radio_of, unconfigured}
use Rattle.queue.specs.Queue.{waiting_tags}
use Rattle.machine.specs.Machine.{Machine, Call, Ran, stepped}
use Rattle.refinement.specs.Seen.{reply_of}
use Rattle.refinement.specs.Refines.{Memories, input_of, CallIn}
use Rattle.refinement.specs.Demands.{coded}
use Rattle.refinement.proofs.Stands.{RadioAs, as-free, as-listening, as-on_air, as-orphan, as-configuring, same-unconfigured}
use Rattle.refinement.proofs.Outcomes.{tags-wait}
use Rattle.refinement.proofs.Refusals.{demand1}
use Rattle.refinement.proofs.Refinement.{Meets, same-reply, meets-next, meets-first}

pub same-held : {m : List ℕ} {r : Radio} {q : S.Radio} → RadioAs m r q → S.held (radio_of r) ≡ S.held q
same-held as-free = refl
same-held as-listening = refl
same-held as-on_air = refl
same-held as-orphan = refl
same-held (as-configuring x) = refl

same-waiting : (y : Machine) (s : State) → Meets y s → waiting_tags y.commands y.device.air.first y.device.air.waiting ≡ tags_of s.air.waiting
same-waiting y s h =
    let a = h.stands.air in
    ap (waiting_tags y.commands y.device.air.first) a.count
    ∙ tags-wait y.commands y.device.air.first s.air.waiting a.ring
    (each_right TagIn (S.held s.air.radio) (tags_of s.air.waiting) h.ranges.air.tags)

-- a refusal changes nothing
refused-stays : (y : Machine) (c : Call) (n : ℕ) → (reply_of (stepped y c)).number ≡ suc n → (stepped y c).next ≡ y
unfolding reply_of
refused-stays y c n e = let d = demand1 y c in ap (λ (x : Ran). x.next) (d.stays n (sym d.returns ∙ e))

pub in_step : (w : Memories) → InStep (coded w) (defined sx1262) input_of Meets
in_step w =
    record {
      event = λ c. refl;
      room = λ c. refl;
      given_in = λ c i. i;
      power_up = meets-first w;
      answer = λ y s h c i. same-reply h c i;
      next = λ y s h c i. meets-next h c i;
      stays = λ y s h c i n e. refused-stays y c n e;
      radio = λ y s h. same-held h.stands.air.radio;
      waiting = λ y s h. same-waiting y s h;
      session = λ y s h. h.stands.link.session;
      unconfigured = λ y s h. ap unconfigured h.stands.mode ∙ same-unconfigured s.config;
      receiving = λ y s h. h.stands.inbox.receiving;
    }

module _ (w : Memories) (cs : List Call) (l : Each CallIn cs) where
  abbrev given : Each (defined sx1262).GivenIn (map input_of cs)
  given = given-in (in_step w) cs l

  pub demand1-seen : (c : Call) → CallIn c → Demand1Seen (coded w) cs c
  demand1-seen c i = demand1-seen-carried (in_step w) cs l c i (H.demand1-seen sx1262 sx1262-in (map input_of cs) given (input_of c) i)

  pub contents : (c : Call) → CallIn c → Contents sx1262 (coded w) cs c
  contents c i = contents-carried (in_step w) cs l c i (H.contents sx1262 sx1262-in (map input_of cs) given (input_of c) i)

  pub demand2-seen : (c : Call) → CallIn c → Demand2Seen (coded w) cs c
  demand2-seen c i = demand2-seen-carried (in_step w) cs l c i (H.demand2-seen sx1262 sx1262-in (map input_of cs) given (input_of c) i)

  pub demand2-wire : (c : Call) → CallIn c → Demand2Wire sx1262 (coded w) cs c
  demand2-wire c i = demand2-wire-carried (in_step w) cs l c i (H.demand2-wire sx1262 sx1262-in (map input_of cs) given (input_of c) i)

  pub demand3 : Demand3 (coded w) cs
  demand3 = demand3-carried (in_step w) cs l (H.demand3 sx1262 sx1262-in (map input_of cs) given)

  pub in-time : InTime (coded w) cs
  in-time = in-time-carried (in_step w) cs l (H.in-time sx1262 sx1262-in (map input_of cs) given)

  pub drop-count : DropCount (coded w) cs
  drop-count = drop-count-carried (in_step w) cs l (H.drop-count sx1262 sx1262-in (map input_of cs) given)

  pub receiving : Receiving (coded w) cs
  receiving = receiving-carried (in_step w) cs l (H.receiving sx1262 sx1262-in (map input_of cs) given)
