-- The branches are those of the definition.
-- Assumes nothing.
use mathlib.Core.Path.{sym}
use borrow.Author.Tests.{lt-ltb, le-ltb}
use Rattle.airtime.specs.Airtime.{airtime}
use Rattle.airtime.proofs.airtime.Goals as goal

pub returns-then-outside : goal.returns-then-outside
unfolding airtime
returns-then-outside c = simp (sym c.outside.ensures, c.if-outside.true)

pub returns-then-us-gt-US_MAX : goal.returns-then-us-gt-US_MAX
unfolding airtime
returns-then-us-gt-US_MAX c =
    let outside = c.outside in
    let if1 = c.if-outside in
    let microseconds = c.microseconds-us in
    simp (sym outside.ensures, if1.false, sym microseconds.ensures, lt-ltb _ _ c.if-us-gt-US_MAX.true)

pub returns : goal.returns
unfolding airtime
returns c =
    let outside = c.outside in
    let if1 = c.if-outside in
    let microseconds = c.microseconds-us in
    simp (sym outside.ensures, if1.false, sym microseconds.ensures, le-ltb _ _ c.if-us-gt-US_MAX.false)
