-- Each return is one row of the form, with the bytes that the tests looked at.
-- Assumes nothing.
use Prim.Native.Nat.{◌+◌}
use native.Mathlib.Omega.{arith}
use lib.ListN.{get_or}
use Rattle.scalar.proofs.Laws.{get-byte}
use Rattle.info.specs.Info.{info_size}
use Rattle.info.proofs.Rows.{short, long-mcu, cut, long-radio, sized}
use Rattle.info.proofs.info_form.Goals as goal

pub returns-then-payload-lt-INFO_SIZE : goal.returns-then-payload-lt-INFO_SIZE
returns-then-payload-lt-INFO_SIZE c = short c.args.payload.now (omega arith)

pub returns-then-mcu-gt-MCU_MAX : goal.returns-then-mcu-gt-MCU_MAX
returns-then-mcu-gt-MCU_MAX c =
    let p = c.args.payload.now in
    long-mcu p (omega arith) (get-byte 35 p (omega arith)) (omega arith)

pub returns-then-payload-at : goal.returns-then-payload-at
returns-then-payload-at c =
    let p = c.args.payload.now in
    cut p (omega arith) (get-byte 35 p (omega arith)) (omega arith) (omega arith)

pub returns-then-radio-gt-RADIO_MAX : goal.returns-then-radio-gt-RADIO_MAX
returns-then-radio-gt-RADIO_MAX c =
    let p = c.args.payload.now in
    let radio = get-byte (info_size + get_or p 35 0) p (omega arith) in
    long-radio p (omega arith) (get-byte 35 p (omega arith)) (omega arith) (omega arith) radio (omega arith)

pub returns : goal.returns
returns c =
    let p = c.args.payload.now in
    let radio = get-byte (info_size + get_or p 35 0) p (omega arith) in
    sized p (omega arith) (get-byte 35 p (omega arith)) (omega arith) (omega arith) radio (omega arith)
