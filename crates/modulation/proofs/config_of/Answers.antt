-- The form says that the parameters are there, and the first byte says which.
-- Assumes nothing.
use mathlib.Core.Path.{ap, ◌∙◌}
use native.Mathlib.Omega.{arith}
use borrow.Author.Rules.{part_to_end}
use Rattle.scalar.proofs.Laws.{get-byte}
use Rattle.modulation.specs.Lora.{lora_of}
use Rattle.modulation.specs.Fsk.{fsk_of}
use Rattle.modulation.specs.declared.Modulation.TheVariants as M
use Rattle.modulation.proofs.Rows.{of-lora, of-fsk, enough, enough-fsk}
use Rattle.modulation.proofs.config_of.Goals as goal

pub bounds-payload-0 : goal.bounds-payload-0
bounds-payload-0 c = omega (arith, enough c.args.payload.now c.requires)

pub slice_bounds-params-count : goal.slice_bounds-params-count
slice_bounds-params-count c = omega (arith, enough c.args.payload.now c.requires)

pub slice_bounds-params-start : goal.slice_bounds-params-start
slice_bounds-params-start c = omega (arith, enough c.args.payload.now c.requires)

pub lora_of-requires : goal.lora_of-requires
lora_of-requires c =
    let params = c.params-1 in
    omega (arith, enough c.args.payload.now c.requires, params.given)

pub returns-then-modulation-eq-LORA : goal.returns-then-modulation-eq-LORA
returns-then-modulation-eq-LORA c =
    let if1 = c.if-modulation-eq-LORA in
    let p = c.args.payload.now in
    let n = enough p c.requires in
    ap M.Lora (c.lora_of.ensures ∙ ap lora_of (part_to_end p 1)) ∙ of-lora p (get-byte 0 p (omega arith)) if1.true

pub fsk_of-requires : goal.fsk_of-requires
fsk_of-requires c =
    let params = c.params-1 in
    let p = c.args.payload.now in
    let n = enough p c.requires in
    let k = enough-fsk p c.requires (λ t. c.if-modulation-eq-LORA.false (get-byte 0 p (omega arith) ∙ t)) in
    omega (arith, params.given)

pub returns : goal.returns
returns c =
    let if1 = c.if-modulation-eq-LORA in
    let p = c.args.payload.now in
    let n = enough p c.requires in
    ap M.Fsk (c.fsk_of.ensures ∙ ap fsk_of (part_to_end p 1)) ∙ of-fsk p (get-byte 0 p (omega arith)) if1.false
