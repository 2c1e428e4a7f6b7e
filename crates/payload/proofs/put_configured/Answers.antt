-- Two bytes, and the configuration after them.
-- Assumes nothing.
use mathlib.Core.Path.{◌≡◌, ◌∙◌}
use mathlib.Core.List.{List, ◌∷◌}
use Prim.Native.Nat.{ℕ, ◌<◌}
use native.Mathlib.Nat.{mod-eq_of_lt}
use native.Mathlib.Omega.{arith}
use lib.ListN.{set, length-set}
use Rattle.buffer.specs.Lay.{lay}
use Rattle.buffer.proofs.Laws.{lay-next}
use Rattle.scalar.specs.Scalars.{le}
use Rattle.modulation.specs.Modulations.{config_bytes}
use Rattle.answer.specs.Answers.{configured_bytes}
use Rattle.answer.specs.declared.Configured.{Configured}
use Rattle.payload.proofs.put_configured.Goals as goal

configured-bytes : (m : Configured) (word : List ℕ) → m.result < 256 → m.owner < 256
    → configured_bytes m word ≡ m.result ∷ m.owner ∷ config_bytes m.current word
unfolding configured_bytes lay le
configured-bytes m word h k = rw (mod-eq_of_lt h, mod-eq_of_lt k)

pub bounds-dst-0 : goal.bounds-dst-0
bounds-dst-0 c =
    let e = configured-bytes c.args.m c.args.word.now (omega (arith, c.well_formed)) (omega (arith, c.well_formed)) in
    omega (arith, rw e at c.requires)

pub bounds-dst-1 : goal.bounds-dst-1
bounds-dst-1 c =
    let e = configured-bytes c.args.m c.args.word.now (omega (arith, c.well_formed)) (omega (arith, c.well_formed)) in
    rw length-set (omega (arith, rw e at c.requires))

pub put_config-requires : goal.put_config-requires
put_config-requires c =
    let e = configured-bytes c.args.m c.args.word.now (omega (arith, c.well_formed)) (omega (arith, c.well_formed)) in
    rw (length-set, length-set) (omega (arith, rw e at c.requires))

pub returns : goal.returns
returns c =
    let put-config = c.put_config in
    let m = c.args.m in
    let d = c.args.dst.now in
    let b = config_bytes m.current c.args.word.now in
    let e = configured-bytes m c.args.word.now (omega (arith, c.well_formed)) (omega (arith, c.well_formed)) in
    let h = rw e at c.requires in
    let k = length-set d 0 m.result in
    record {
      value = rw e (omega (arith, put-config.ensures.value));
      dst_after = rw e (put-config.ensures.dst_after
          ∙ lay-next 1 m.owner b (set d 0 m.result) (omega arith)
          ∙ lay-next 0 m.result (m.owner ∷ b) d (omega arith));
    }
