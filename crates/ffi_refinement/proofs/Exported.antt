-- The dongle that C calls goes in step with the device of the definition, from power-up on; so the demands hold of it.
-- The idea: it is the device in code (crate refinement) with its state in words, and a state that can be reached has numbers of its types, so that it
-- comes back from its words unchanged.
-- Assumes nothing.
use mathlib.Core.Path.{◌≡◌, refl, sym, ap, ap₂, subst, ◌∙◌}
use mathlib.Core.List.{List, [], ◌∷◌, ◌++◌, map}
use Prim.Native.Nat.{ℕ, suc, ◌<◌}
use native.Mathlib.Omega.{arith}
use lib.ListN.{length-append}
use Rattle.scalar.specs.Bytes.{Each}
use Rattle.board.specs.Board.{sx1262}
use Rattle.device.specs.State.{State}
use Rattle.device.specs.State as S
use Rattle.device.specs.Events.{step, Reply}
use Rattle.device.specs.Demands.{defined, History, history, after, onward, begins}
use Rattle.device.specs.Demands.{Demand1Seen, Contents, Demand2Seen, Demand2Wire, Demand3, InTime, DropCount, Receiving}
use Rattle.device.proofs.Back.{TagIn}
use Rattle.device.proofs.Ranges.{sx1262-in}
use Rattle.device.proofs.History as H
use Rattle.device.proofs.Carrying.{InStep, given-in, demand1-seen-carried, contents-carried, demand2-seen-carried}
use Rattle.device.proofs.Carrying.{demand2-wire-carried, demand3-carried, in-time-carried, drop-count-carried, receiving-carried}
use Rattle.control.specs.declared.Radio.{Radio}
use Rattle.control.specs.declared.Device.{Device}
use Rattle.control.specs.Control.{reply_numbers}
use Rattle.packed.specs.Words.{radio_tag, control_words, order_from}
use Rattle.packed.specs.Ranges.{DeviceIn}
use Rattle.packed.proofs.Laws.{round_trip, order-back}
use Rattle.machine.specs.Machine.{Machine, Call, stepped}
use Rattle.ffi_device.specs.Calls.{Dongle, first_dongle, machine_in, Left, in_words, called}
use Rattle.ffi_device.proofs.Calls.{called-steps}
use Rattle.refinement.specs.Seen.{reply_of}
use Rattle.refinement.specs.Refines.{zeros, powered_up, input_of, CallIn, replies}
use Rattle.refinement.specs.Named.{BytesStay, Uninterrupted}
use Rattle.refinement.proofs.Stands.{RunAs, as-run, as_long, RadioAs, as-free, as-listening, as-on_air, as-orphan, as-configuring}
use Rattle.refinement.proofs.Outcomes.{length-tags}
use Rattle.refinement.proofs.Refinement.{Meets, same-reply, meets-next, meets-first}
use Rattle.refinement.proofs.Demands.{in_step}
use Rattle.refinement.proofs.Refusals as R
use Rattle.refinement.proofs.Output as Output
use Rattle.refinement.proofs.Named.{InCode, stay-in-code, alone-in-code}
use Rattle.ffi_refinement.specs.Exported.{reply_from, exported, answers, Refines, number_in, settled, refusal}
use Rattle.ffi_refinement.specs.Exported.{Demand1, Unchanged, Demand2, RestStays, exported_orders}

-- ---- a state that can be reached has numbers of its types

run_small : {run rs : List ℕ} {n : ℕ} → RunAs run n rs → n < 0x10000
run_small (as-run h e) = omega arith
run_small (as_long e h) = omega arith

tag_small : {m : List ℕ} {r : Radio} {q : S.Radio} → RadioAs m r q → (ts : List ℕ) → Each TagIn (S.held q ++ ts) → radio_tag r < 0x10000
tag_small as-free ts l = omega arith
tag_small as-listening ts l = l.0.1
tag_small as-on_air ts l = l.0.1
tag_small as-orphan ts l = omega arith
tag_small (as-configuring x) ts l = omega arith

numbers-small : {y : Machine} {s : State} → Meets y s → DeviceIn y.device
numbers-small {y} {s} h =
    let l = h.stands.link in
    let a = h.stands.air in
    let i = h.stands.inbox in
    let n = length-append (S.held s.air.radio) (S.tags_of s.air.waiting) in
    record {
      ticks = omega (arith, l.ticks, l.bounded);
      run = run_small l.bytes;
      tag = tag_small a.radio (S.tags_of s.air.waiting) h.ranges.air.tags;
      first = omega (arith, a.first);
      waiting = omega (arith, a.count, h.ranges.air.bounded, n, length-tags s.air.waiting);
      ring = omega (arith, i.first);
      held = omega (arith, i.count, i.bounded);
      drops = omega (arith, i.drops, h.ranges.inbox.drops);
    }

-- ---- one call

-- what joins a dongle of C to a state of the definition: the machine that it is stands for the state, and its words are the library's own
record Joins (y : Dongle) (s : State) : Type 0 where
  meets : Meets (machine_in y) s
  own : settled y ≡ y

-- a machine with another state
abbrev with-device : Machine → Device → Machine
with-device x d = record { device = d; run = x.run; commands = x.commands; packets = x.packets }

-- the answer's words tell what the code answers
same-words : (y : Dongle) (c : Call) → reply_from (called y c) ≡ reply_of (stepped (machine_in y) c)
unfolding reply_from reply_of reply_numbers
same-words y c = ap reply_from (called-steps y c) ∙ rw (order-back (stepped (machine_in y) c).answer) refl

-- a machine in words
abbrev worded : Machine → Dongle
worded x = record { control = control_words x.device; run = x.run; commands = x.commands; packets = x.packets }

-- one whose state comes back from its words
back : (x : Machine) → DeviceIn x.device → machine_in (worded x) ≡ x
back x h = ap (λ (d : Device). with-device x d) (round_trip x.device h)

own-words : (x : Machine) → DeviceIn x.device → settled (worded x) ≡ worded x
own-words x h = ap (λ (d : Device). worded (with-device x d)) (round_trip x.device h)

in-words : (x : Machine) (s : State) → Meets x s → Joins (worded x) s
in-words x s h =
    let n = numbers-small h in
    record { meets = subst (λ (z : Machine). Meets z s) (sym (back x n)) h; own = own-words x n }

joins-next : (y : Dongle) (s : State) → Joins y s → (c : Call) → CallIn c → Joins (called y c).next (step sx1262 s (input_of c)).next
joins-next y s h c i =
    subst (λ (x : Left). Joins x.next (step sx1262 s (input_of c)).next) (sym (called-steps y c))
    (in-words (stepped (machine_in y) c).next (step sx1262 s (input_of c)).next (meets-next h.meets c i))

-- ---- power-up

joins-first : Joins first_dongle S.power_up
joins-first = in-words (powered_up zeros) S.power_up (meets-first zeros)

-- ---- demand 1

pub demand1 : (y : Dongle) (c : Call) → Demand1 y c
unfolding reply_numbers
demand1 y c =
    let d = R.demand1 (machine_in y) c in
    record {
      returns = ap number_in (called-steps y c) ∙ d.returns;
      stays = λ k e. called-steps y c ∙ ap in_words (d.stays k e);
    }

-- a refusal changes nothing where the words are the library's own
refused-stays : (y : Dongle) (c : Call) → settled y ≡ y → (n : ℕ) → (reply_from (called y c)).number ≡ suc n → (called y c).next ≡ y
unfolding reply_from
refused-stays y c own n e = let d = demand1 y c in ap (λ (x : Left). x.next) (d.stays n (sym d.returns ∙ e)) ∙ own

-- ---- every list of calls

all_alike : (y : Dongle) (s : State) → Joins y s → (cs : List Call) → Each CallIn cs → answers y cs ≡ replies s (map input_of cs)
unfolding answers replies
all_alike y s h [] l = refl
all_alike y s h (c ∷ cs) l =
    ap₂ (λ (r : Reply) (rs : List Reply). r ∷ rs) (same-words y c ∙ same-reply h.meets c l.0)
    (all_alike (called y c).next (step sx1262 s (input_of c)).next (joins-next y s h c l.0) cs l.1)

pub refines : (cs : List Call) → Refines cs
refines cs l = all_alike first_dongle S.power_up joins-first cs l

abbrev step-by-step : InStep exported (defined sx1262) input_of Joins
step-by-step =
    record {
      event = λ c. refl;
      room = λ c. refl;
      given_in = λ c i. i;
      power_up = joins-first;
      answer = λ y s h c i. same-words y c ∙ same-reply h.meets c i;
      next = λ y s h c i. joins-next y s h c i;
      stays = λ y s h c i n e. refused-stays y c h.own n e;
      radio = λ y s h. (in_step zeros).radio (machine_in y) s h.meets;
      waiting = λ y s h. (in_step zeros).waiting (machine_in y) s h.meets;
      session = λ y s h. (in_step zeros).session (machine_in y) s h.meets;
      unconfigured = λ y s h. (in_step zeros).unconfigured (machine_in y) s h.meets;
      receiving = λ y s h. (in_step zeros).receiving (machine_in y) s h.meets;
    }

module _ (cs : List Call) (l : Each CallIn cs) where
  abbrev given : Each (defined sx1262).GivenIn (map input_of cs)
  given = given-in step-by-step cs l

  pub demand1-seen : (c : Call) → CallIn c → Demand1Seen exported cs c
  demand1-seen c i = demand1-seen-carried step-by-step cs l c i (H.demand1-seen sx1262 sx1262-in (map input_of cs) given (input_of c) i)

  pub contents : (c : Call) → CallIn c → Contents sx1262 exported cs c
  contents c i = contents-carried step-by-step cs l c i (H.contents sx1262 sx1262-in (map input_of cs) given (input_of c) i)

  pub demand2-seen : (c : Call) → CallIn c → Demand2Seen exported cs c
  demand2-seen c i = demand2-seen-carried step-by-step cs l c i (H.demand2-seen sx1262 sx1262-in (map input_of cs) given (input_of c) i)

  pub demand2-wire : (c : Call) → CallIn c → Demand2Wire sx1262 exported cs c
  demand2-wire c i = demand2-wire-carried step-by-step cs l c i (H.demand2-wire sx1262 sx1262-in (map input_of cs) given (input_of c) i)

  pub demand3 : Demand3 exported cs
  demand3 = demand3-carried step-by-step cs l (H.demand3 sx1262 sx1262-in (map input_of cs) given)

  pub in-time : InTime exported cs
  in-time = in-time-carried step-by-step cs l (H.in-time sx1262 sx1262-in (map input_of cs) given)

  pub drop-count : DropCount exported cs
  drop-count = drop-count-carried step-by-step cs l (H.drop-count sx1262 sx1262-in (map input_of cs) given)

  pub receiving : Receiving exported cs
  receiving = receiving-carried step-by-step cs l (H.receiving sx1262 sx1262-in (map input_of cs) given)

-- ---- demand 1, after every list of calls

own-after : (cs : List Call) → Each CallIn cs → (h : History exported) (s : State) → Joins h.device s → let y = (after exported h cs).device in settled y ≡ y
unfolding after onward
own-after [] l h s j = j.own
own-after (c ∷ cs) l h s j = own-after cs l.1 (onward exported h c) (step sx1262 s (input_of c)).next (joins-next h.device s j c l.0)

pub unchanged : (cs : List Call) → Each CallIn cs → (c : Call) → Unchanged cs c
unfolding history
unchanged cs l c k e =
    let y = (history exported cs).device in
    (demand1 y c).stays k e ∙ ap (λ (z : Dongle). refusal (suc k) z c.out) (own-after cs l (begins exported) S.power_up joins-first)

-- ---- demand 2, damaged frames

pub demand2 : (y : Dongle) (o : List ℕ) → Demand2 y o
demand2 y o room goes some bad = called-steps y _ ∙ ap in_words (R.demand2 (machine_in y) o room goes some bad)

-- ---- the output

pub rest-stays : (y : Dongle) (c : Call) → RestStays y c
unfolding reply_numbers
rest-stays y c = rw (called-steps y c) (Output.rest-stays (machine_in y) c)

-- ---- the bytes that an order names

-- the dongle goes in step with the code
in_code : InCode exported_orders zeros
unfolding reply_numbers
in_code =
    record {
      machine = machine_in;
      power_up = back (powered_up zeros) (numbers-small (meets-first zeros));
      next = λ y s h c i. ap (λ (x : Left). machine_in x.next) (called-steps y c) ∙ back (stepped (machine_in y) c).next (numbers-small (meets-next h c i));
      number = λ y c. ap number_in (called-steps y c);
      order = λ y c. ap (λ (x : Left). order_from x.answer) (called-steps y c) ∙ order-back (stepped (machine_in y) c).answer;
      commands = λ y. refl;
    }

pub bytes-stay : (cs : List Call) → Each CallIn cs → BytesStay exported_orders cs
bytes-stay cs l = stay-in-code exported_orders zeros in_code cs l

pub uninterrupted : (cs : List Call) → Each CallIn cs → Uninterrupted exported_orders cs
uninterrupted cs l = alone-in-code exported_orders zeros in_code cs l
