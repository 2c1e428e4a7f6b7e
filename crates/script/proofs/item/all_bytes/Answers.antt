-- The loop keeps `Gathering`, and goes on by a word each turn.
-- Assumes nothing.
use Rattle.std.proofs.Common.{arith, refl, sym, ◌∙◌}
use Rattle.script.proofs.Gathering.{ends, ends-bad, ends-full, goes_on}
use Rattle.script.proofs.item.all_bytes.Goals as goal

pub returns-then-n-memory : goal.returns-then-n-memory
returns-then-n-memory c =
    let both = ends-full c.loop-w.invariant c.in-Some.ensures c.if-n-memory.true in
    record { value = both.0; memory_after = both.1 }

pub returns-in_err-memory : goal.returns-in_err-memory
returns-in_err-memory c =
    let both = ends-bad c.loop-w.invariant c.in-Some.ensures (sym c.byte_of.ensures ∙ c.in_err-memory.was) in
    record { value = c.from_residual.ensures ∙ both.0; memory_after = both.1 }

pub loop-w-preserved : goal.loop-w-preserved
loop-w-preserved c =
    let loop = c.loop-w in
    let byte = sym c.byte_of.ensures ∙ c.in_ok-memory.was in
    goes_on loop.invariant c.in-Some.ensures byte (omega (arith, c.if-n-memory.false, loop.invariant.count, loop.invariant.long)) refl

pub returns : goal.returns
returns c =
    let both = ends c.loop-w.invariant c.in_default.ensures in
    record { value = both.0; memory_after = both.1 }
