-- An event that code passes is a value of its type: the statement, of every call of machine::step. proofs/ has it proved, as `values-in`.
-- The signature is the one that the toolchain makes of the function's declaration and states its contract with.
-- Assumes nothing.
use Rattle.std.specs.Prelude.{ℕ, List}
use seplogic.Ra.Ura.{Ura}
use base.Logic.{ent}
use types.Logic.{Logic}
use contract.Lifetimes.{Lfts, Shares}
use contract.Monad.{fact}
use denote.Signature.{Signature}
use denote.Triple.Entry.{Args, Vals, on_entry}
use Rattle.machine.specs.Machine.{event_of}
use Rattle.machine.specs.contracts.step.{signature}
use Rattle.refinement.specs.Refines.{CallIn}

-- P holds of the arguments a of every call of a function: in every model of the logic it follows from what the function's contract is given on entry, its
-- requires left out; which is that each of a is a value of its parameter's type, passed as the machine values vss
abbrev pub EveryCall : (S : Signature) → ((κs : Lfts S.lifetimes) → Args S κs → Type 0) → Type 2
EveryCall S P =
    (M : Type 1) (𝓤 : Ura M) (𝓛 : Logic 𝓤) (κs : Lfts S.lifetimes) (qs : Shares S.lifetimes) (a : Args S κs) (vss : Vals S κs)
    → ent 𝓤 (on_entry 𝓛 S κs qs a vss) (fact 𝓤 (P κs a))

-- values-in: the event is the second argument, a.1.0; a packet's bytes and the output may be any
abbrev pub ValuesIn : Type 2
ValuesIn = EveryCall signature (λ κs a. (bs o : List ℕ) → CallIn (record { event = event_of a.1.0 bs; out = o }))
