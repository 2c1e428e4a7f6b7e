-- The parts are as long as the payload; three copies and a store, one after the other, are one piece.
-- Assumes nothing.
use mathlib.Core.Path.{sym, ap, ◌∙◌}
use native.Mathlib.Omega.{arith}
use lib.ListN.{length, length-set}
use Rattle.info.proofs.Laws.{length-head}
use Rattle.info.proofs.Putting.{sizes, laid}
use Rattle.info.proofs.put_info.Goals as goal

pub copy-requires : goal.copy-requires
copy-requires c =
    let info-head = c.info_head-head in
    let part = c.part-mcu in
    let from = c.from-radio in
    let n = sizes c.args.m c.args.uids.now part.ensures from.ensures in
    let h = ap length info-head.ensures ∙ length-head c.args.m in
    omega (arith, c.requires)

pub copy-requires-2 : goal.copy-requires-2
copy-requires-2 c =
    let part = c.part-mcu in
    let from = c.from-radio in
    let copy = c.copy in
    let n = sizes c.args.m c.args.uids.now part.ensures from.ensures in
    let k = copy.auto.dst in
    omega (arith, c.requires)

pub bounds-dst-at : goal.bounds-dst-at
bounds-dst-at c =
    let part = c.part-mcu in
    let from = c.from-radio in
    let copy = c.copy in
    let copy2 = c.copy-2 in
    let n = sizes c.args.m c.args.uids.now part.ensures from.ensures in
    let k = copy2.auto.dst ∙ copy.auto.dst in
    omega (arith, c.requires)

pub copy-requires-3 : goal.copy-requires-3
copy-requires-3 c =
    let part = c.part-mcu in
    let from = c.from-radio in
    let copy = c.copy in
    let copy2 = c.copy-2 in
    let n = sizes c.args.m c.args.uids.now part.ensures from.ensures in
    let k = copy2.auto.dst ∙ copy.auto.dst in
    rw length-set (omega (arith, c.requires))

pub returns : goal.returns
returns c =
    let info-head = c.info_head-head in
    let part = c.part-mcu in
    let from = c.from-radio in
    let copy = c.copy in
    let copy2 = c.copy-2 in
    let copy3 = c.copy-3 in
    let m = c.args.m in
    let u = c.args.uids.now in
    let a = part.ensures in
    let b = from.ensures in
    record {
      value = sym (sizes m u a b);
      dst_after = laid m u a b info-head.ensures (omega (arith, c.well_formed)) c.args.dst.now c.requires copy.ensures
          copy2.ensures copy3.ensures;
    }
