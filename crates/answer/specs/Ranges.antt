-- Each number of an answer is a value of its type: P 5.1, 6.2, 6.3 and 6.8 to 6.10.
-- Assumes nothing.
use Rattle.std.specs.Prelude.{◌<◌}
use Rattle.modulation.specs.Ranges.{ModulationIn}
use Rattle.info.specs.Ranges.{InfoIn}
use Rattle.rx.specs.Ranges.{RxIn}
use Rattle.answer.specs.declared.Configured.{Configured}
use Rattle.answer.specs.declared.Answer.{Answer}
use Rattle.answer.specs.declared.Answer.TheVariants as A

pub record ConfiguredIn (m : Configured) : Type 0 where
  pub result : m.result < 0x100
  pub owner : m.owner < 0x100
  pub current : ModulationIn m.current

abbrev pub AnswerIn : Answer → Type 0
AnswerIn A.Ok = Unit {0}
AnswerIn (A.Info m) = InfoIn m
AnswerIn (A.Configured m) = ConfiguredIn m
AnswerIn (A.Err c) = c < 0x10000
AnswerIn (A.Rx m) = RxIn m
AnswerIn (A.TxDone r t) = (r < 0x100) × (t < 0x100000000)
