-- The loop keeps `Feeding`; the counters stay below the bytes that came.
-- Assumes nothing.
use mathlib.Core.Path.{ap}
use native.Mathlib.Omega.{arith}
use Rattle.capture.specs.Stream.{RunSoFar, fed}
use Rattle.capture.proofs.Feeding.{begins, line-fits, zero, kept_on, ends}
use Rattle.capture.proofs.feed.Goals as goal

pub loop-i-init : goal.loop-i-init
loop-i-init c =
    begins _ _ _ _ _ _ c.requires.piece_in_bounds

pub write_line-filled-requires : goal.write_line-filled-requires
write_line-filled-requires c =
    let loop = c.loop-i in
    let loop-test = c.loop-i-test in
    let if1 = c.if-b-eq0 in
    record {
      encoded_max_in_bounds = omega (arith, loop.invariant.long, c.requires.encoded_max_in_bounds);
      run_in_bounds = line-fits loop.invariant
          loop-test.true if1.true;
    }

pub loop-i-preserved-then-b-eq0 : goal.loop-i-preserved-then-b-eq0
loop-i-preserved-then-b-eq0 c =
    let loop = c.loop-i in
    let loop-test = c.loop-i-test in
    let if1 = c.if-b-eq0 in
    let write-line = c.write_line-filled in
    zero loop.invariant loop-test.true if1.true (write-line.ensures.value, write-line.ensures.dst_after)

pub loop-i-preserved : goal.loop-i-preserved
loop-i-preserved c =
    let loop = c.loop-i in
    let loop-test = c.loop-i-test in
    let if1 = c.if-b-eq0 in
    let keep = c.keep in
    kept_on loop.invariant loop-test.true if1.false keep.ensures keep.auto.run

pub returns : goal.returns
unfolding fed
returns c =
    let e = ends c.loop-i.invariant c.loop-i-test.false in
    record { value = λ i. record { at = (e.0 i).at; len = (e.0 i).len; filled = e.1 i }; run_after = ap (λ (p : RunSoFar). p.kept) e.0; dst_after = e.2 }
