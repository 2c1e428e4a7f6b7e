-- The run is opened in working memory; what is found there is what the definition receives (Laws).
-- Assumes nothing.
use mathlib.Core.Path.{refl, sym, ◌∙◌}
use native.Mathlib.Omega.{arith}
use lib.ListN.{take}
use Rattle.cobs.specs.Answers.{encoded_max}
use Rattle.frame.proofs.Laws.{opens-facts, payload-seen}
use Rattle.link.proofs.Laws.{refused-run, untagged-run, tagged-run}
use Rattle.link.proofs.receive.Goals as goal

pub returns-in_default : goal.returns-in_default
returns-in_default c =
    let unpack = c.unpack-opened in
    let damaged = c.damaged in
    let e = sym unpack.ensures.value ∙ c.in_default.is in
    rw (refused-run (take c.args.n c.args.run.now) e) (record { gives = damaged.ensures; commands = refl })

pub returns-then-tag-eq0 : goal.returns-then-tag-eq0
returns-then-tag-eq0 c =
    let unpack = c.unpack-opened in
    let if1 = c.if-tag-eq0 in
    let damaged2 = c.damaged-then-tag-eq0 in
    let e = sym unpack.ensures.value ∙ c.in-Body.is in
    rw (untagged-run (take c.args.n c.args.run.now) e if1.true) (record { gives = damaged2.ensures; commands = refl })

pub overflow_add-len : goal.overflow_add-len
overflow_add-len c =
    let unpack = c.unpack-opened in
    let e = sym unpack.ensures.value ∙ c.in-Body.is in
    let o = opens-facts (take c.args.n c.args.run.now) encoded_max e in
    omega (arith, o.most)

pub slice_bounds-dispatch-end : goal.slice_bounds-dispatch-end
slice_bounds-dispatch-end c =
    let unpack = c.unpack-opened in
    let e = sym unpack.ensures.value ∙ c.in-Body.is in
    let o = opens-facts (take c.args.n c.args.run.now) encoded_max e in
    omega (arith, o.most, unpack.auto.memory)

pub returns : goal.returns
returns c =
    let unpack = c.unpack-opened in
    let if1 = c.if-tag-eq0 in
    let dispatch = c.dispatch in
    let run = take c.args.n c.args.run.now in
    let e = sym unpack.ensures.value ∙ c.in-Body.is in
    let p = payload-seen run encoded_max unpack.new.memory e unpack.ensures.memory_after in
    rw (tagged-run run e if1.false) (rw p at dispatch.ensures)
