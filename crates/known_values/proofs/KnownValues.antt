-- The sheet, by computing.
-- Assumes nothing.
use mathlib.Core.Path.{refl}
use Rattle.cobs.specs.Answers.{decode_answer}
use Rattle.device.proofs.Computing.{computes}
use Rattle.known_values.specs.KnownValues.{KnownValues}

pub known_values : KnownValues
unfolding computes decode_answer
known_values =
    record {
      check = refl;
      ping_0001 = (refl, refl, refl);
      ok_0033 = refl;
      unconfigured = refl;
      flags_2 = refl;
      cancelled_0014 = refl;
      unstuff = (refl, refl, refl, refl);
      ldro_edges = λ m. (λ e f. rw (e, f) refl, λ e f. rw (e, f) refl, λ e f. rw (e, f) refl);
      rssi_820 = λ rest. refl;
    }
