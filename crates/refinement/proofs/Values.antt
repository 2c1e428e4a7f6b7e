-- An event that code passes is a value of its type.
-- The idea: that an argument is a value of its type stands in what the type owns of it, and the toolchain's `shadow` reads it off. Then event by event.
-- Assumes nothing.
use Prim.Native.Nat.{ℕ}
use mathlib.Core.List.{List}
use native.Mathlib.Omega.{arith}
use mir.Val.{Val}
use base.Logic.{via, snd∗}
use types.Logic.{sem}
use contract.Lifetimes.{Lfts}
use contract.Monad.{fact_use, fact_i}
use denote.RattleType.{owns}
use denote.Signature.{Signature, types_at}
use denote.Shadow.{shadow, shows_shadow}
use denote.Laws.{Is}
use denote.Triple.Entry.{Args, Vals, alive, on_entry}
use Rattle.device.specs.Ranges.{EventIn}
use Rattle.machine.specs.declared.Event.{Event}
use Rattle.machine.specs.declared.Event.TheVariants.{Byte, Tick, Clear, Busy, Sent, Configured, Fault, Packet, Request, Disconnect}
use Rattle.machine.specs.Machine.{event_of}
use Rattle.machine.specs.contracts.Event.{the_row}
use Rattle.machine.specs.contracts.step.{signature}
use Rattle.refinement.specs.Values.{EveryCall, ValuesIn}

-- what is read off what the parameters' types own holds in every call
pub every_call :
    (S : Signature) (P : (κs : Lfts S.lifetimes) → Args S κs → Type 0)
    → ((κs : Lfts S.lifetimes) (a : Args S κs) (vss : Vals S κs) → shadow (owns (types_at S.params κs) a vss) → P κs a)
    → EveryCall S P
every_call S P read M 𝓤 𝓛 κs qs a vss =
    let o = owns (types_at S.params κs) a vss in
    let e = on_entry 𝓛 S κs qs a vss in
    let shows = via 𝓤 (sem 𝓛 o) (snd∗ 𝓤 (alive 𝓛 S κs qs) (sem 𝓛 o)) (shows_shadow 𝓛 o) in
    fact_use 𝓤 (shadow o) shows (λ h. fact_i 𝓤 (P κs a) e (read κs a vss h))

-- an event that is a value of its type, as the machine values vs
pub event-in : (e : Event) (vs : List Val) → Is the_row e vs → (bs : List ℕ) → EventIn (event_of e bs)
event-in (Byte b) vs h bs = omega (arith, h)
event-in Tick vs h bs = tt
event-in Clear vs h bs = tt
event-in Busy vs h bs = tt
event-in (Sent airtime) vs h bs = omega (arith, h)
event-in Configured vs h bs = tt
event-in Fault vs h bs = tt
event-in (Packet p) vs h bs = omega (arith, h)
event-in Request vs h bs = tt
event-in Disconnect vs h bs = tt

pub values-in : ValuesIn
values-in = every_call signature _ (λ κs a vss h bs o. event-in a.1.0 vss.1.0 h.1.0 bs)
