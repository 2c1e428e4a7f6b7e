-- By the case that the match found; the form says that the bytes are there, and the other OKs are empty.
-- Assumes nothing.
use mathlib.Core.Path.{ap, ◌∙◌}
use native.Mathlib.Omega.{arith}
use borrow.Author.Rules.{part_to_end}
use Rattle.scalar.proofs.Laws.{get-byte}
use Rattle.modulation.specs.Modulations.{config_of}
use Rattle.answer.specs.Answers.{configured_of}
use Rattle.answer.specs.declared.Answer.TheVariants as A
use Rattle.answer.proofs.Steps.{configured-there}
use Rattle.answer.proofs.ok_of.Goals as goal

pub slice_bounds-config_of-count : goal.slice_bounds-config_of-count
slice_bounds-config_of-count c =
    (configured-there c.args.payload.now (rw c.in-SetConfig.is at c.requires)).0

pub slice_bounds-config_of-start : goal.slice_bounds-config_of-start
slice_bounds-config_of-start c =
    (configured-there c.args.payload.now (rw c.in-SetConfig.is at c.requires)).0

pub config_of-current-requires : goal.config_of-current-requires
config_of-current-requires c =
    let p = c.args.payload.now in
    rw (part_to_end p 2) (configured-there p (rw c.in-SetConfig.is at c.requires)).1

pub bounds-payload-0 : goal.bounds-payload-0
bounds-payload-0 c =
    let h = (configured-there c.args.payload.now (rw c.in-SetConfig.is at c.requires)).0 in
    omega arith

pub bounds-payload-1 : goal.bounds-payload-1
bounds-payload-1 c =
    let h = (configured-there c.args.payload.now (rw c.in-SetConfig.is at c.requires)).0 in
    omega arith

pub returns-in-SetConfig : goal.returns-in-SetConfig
unfolding configured_of
returns-in-SetConfig c =
    let config-of = c.config_of-current in
    let p = c.args.payload.now in
    let h = (configured-there p (rw c.in-SetConfig.is at c.requires)).0 in
    rw c.in-SetConfig.is
    (λ i. A.Configured record {
      result = get-byte 0 p (omega arith) i;
      owner = get-byte 1 p (omega arith) i;
      current = (config-of.ensures ∙ ap config_of (part_to_end p 2)) i;
    })
