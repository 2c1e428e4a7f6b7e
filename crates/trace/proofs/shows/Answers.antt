-- In each arm the order and its flag are known, and the letters are the definition's.
-- Assumes nothing.
use mathlib.Core.Path.{refl}
use lib.Dec.{lit≤}
use Rattle.text.specs.Text.{hex}
use Rattle.trace.proofs.shows.Goals as goal

pub returns-in-Nothing : goal.returns-in-Nothing
unfolding hex
returns-in-Nothing c =
    record { n_in_bounds = lit≤ tt; by_index = λ m. rw c.in-Nothing.is refl }

pub returns-in-Standby : goal.returns-in-Standby
unfolding hex
returns-in-Standby c =
    record { n_in_bounds = lit≤ tt; by_index = λ m. rw c.in-Standby.is refl }

pub returns-in-Receive : goal.returns-in-Receive
unfolding hex
returns-in-Receive c =
    record { n_in_bounds = lit≤ tt; by_index = λ m. rw c.in-Receive.is refl }
