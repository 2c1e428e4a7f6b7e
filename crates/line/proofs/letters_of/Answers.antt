-- In each arm the type is known, and the letters are the definition's.
-- Assumes nothing.
use mathlib.Core.Path.{refl, sym}
use Rattle.line.proofs.Names.{unknown}
use lib.Dec.{lit≤}
use borrow.Author.Rules.{rules}
use Rattle.line.specs.Lines.{name}
use Rattle.line.proofs.letters_of.Goals as goal

pub returns-in-1 : goal.returns-in-1
unfolding name
returns-in-1 c =
    record { n_in_bounds = lit≤ tt; letters_value = rw c.in-1.is refl }

pub returns-in-2 : goal.returns-in-2
unfolding name
returns-in-2 c =
    record { n_in_bounds = lit≤ tt; letters_value = rw c.in-2.is refl }

pub returns-in-3 : goal.returns-in-3
unfolding name
returns-in-3 c =
    record { n_in_bounds = lit≤ tt; letters_value = rw c.in-3.is refl }

pub returns-in-4 : goal.returns-in-4
unfolding name
returns-in-4 c =
    record { n_in_bounds = lit≤ tt; letters_value = rw c.in-4.is refl }

pub returns-in-5 : goal.returns-in-5
unfolding name
returns-in-5 c =
    record { n_in_bounds = lit≤ tt; letters_value = rw c.in-5.is refl }

pub returns-in-6 : goal.returns-in-6
unfolding name
returns-in-6 c =
    record { n_in_bounds = lit≤ tt; letters_value = rw c.in-6.is refl }

pub returns-in-128 : goal.returns-in-128
unfolding name
returns-in-128 c =
    record { n_in_bounds = lit≤ tt; letters_value = rw c.in-128.is refl }

pub returns-in-129 : goal.returns-in-129
unfolding name
returns-in-129 c =
    record { n_in_bounds = lit≤ tt; letters_value = rw c.in-129.is refl }

pub returns-in-192 : goal.returns-in-192
unfolding name
returns-in-192 c =
    record { n_in_bounds = lit≤ tt; letters_value = rw c.in-192.is refl }

pub returns-in-193 : goal.returns-in-193
unfolding name
returns-in-193 c =
    record { n_in_bounds = lit≤ tt; letters_value = rw c.in-193.is refl }

pub returns-in_default : goal.returns-in_default
returns-in_default c =
    let known = unknown c.args.kind (search rules) (search rules) (search rules) (search rules) (search rules) (search rules) (search rules) (search rules)
    (search rules) (search rules) in
    record { n_in_bounds = lit≤ tt; letters_value = sym known }
