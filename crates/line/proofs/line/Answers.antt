-- Each call lays the next piece of the line.
-- Assumes nothing.
use Rattle.buffer.proofs.Laying.{start, fits}
use Rattle.text.specs.Text.{text, decimal}
use Rattle.text.proofs.Writing.{wrote, last_fits, ended}
use Rattle.line.specs.Lines.{hex4, name, two_columns, line}
use Rattle.line.proofs.line.Goals as goal

pub decimal-offset-requires : goal.decimal-offset-requires
unfolding line
decimal-offset-requires c =
    let s = c.args in
    let l0 = start s.from (line s.at s.opened s.n) s.dst.now c.requires in
    fits (decimal s.at) _ l0

pub put-bad-requires : goal.put-bad-requires
unfolding line two_columns
put-bad-requires c =
    let decimal' = c.decimal-offset in
    let s = c.args in
    let l0 = rw c.in_default.is at (start s.from (line s.at s.opened s.n) s.dst.now c.requires) in
    let l1 = wrote (decimal s.at) _ l0 (decimal'.ensures.value, decimal'.ensures.dst_after) in
    fits (text " BAD -") _ l1

pub last_column-requires : goal.last_column-requires
unfolding line two_columns
last_column-requires c =
    let decimal' = c.decimal-offset in
    let put = c.put-bad in
    let s = c.args in
    let l0 = rw c.in_default.is at (start s.from (line s.at s.opened s.n) s.dst.now c.requires) in
    let l1 = wrote (decimal s.at) _ l0 (decimal'.ensures.value, decimal'.ensures.dst_after) in
    let l2 = wrote (text " BAD -") _ l1 (put.ensures.value, put.ensures.dst_after) in
    last_fits l2

pub returns-in_default : goal.returns-in_default
unfolding line two_columns
returns-in_default c =
    let decimal' = c.decimal-offset in
    let put = c.put-bad in
    let last-column = c.last_column in
    let s = c.args in
    let e = c.in_default.is in
    let l0 = rw e at (start s.from (line s.at s.opened s.n) s.dst.now c.requires) in
    let l1 = wrote (decimal s.at) _ l0 (decimal'.ensures.value, decimal'.ensures.dst_after) in
    let l2 = wrote (text " BAD -") _ l1 (put.ensures.value, put.ensures.dst_after) in
    let both = ended _ l2 (last-column.ensures.value, last-column.ensures.dst_after) in
    record { value = rw e both.0; dst_after = rw e both.1 }

pub type_and_tag-tagged-requires : goal.type_and_tag-tagged-requires
unfolding line
type_and_tag-tagged-requires c =
    let decimal' = c.decimal-offset in
    let s = c.args in
    let l0 = rw c.in-Body.is at (start s.from (line s.at s.opened s.n) s.dst.now c.requires) in
    let l1 = wrote (decimal s.at) _ l0 (decimal'.ensures.value, decimal'.ensures.dst_after) in
    fits (two_columns (name _) (hex4 _)) _ l1

pub last_column-requires-2 : goal.last_column-requires-2
unfolding line
last_column-requires-2 c =
    let decimal' = c.decimal-offset in
    let type-and-tag = c.type_and_tag-tagged in
    let s = c.args in
    let l0 = rw c.in-Body.is at (start s.from (line s.at s.opened s.n) s.dst.now c.requires) in
    let l1 = wrote (decimal s.at) _ l0 (decimal'.ensures.value, decimal'.ensures.dst_after) in
    let l2 = wrote (two_columns (name _) (hex4 _)) _ l1 (type-and-tag.ensures.value, type-and-tag.ensures.dst_after) in
    last_fits l2

pub returns : goal.returns
unfolding line
returns c =
    let decimal' = c.decimal-offset in
    let type-and-tag = c.type_and_tag-tagged in
    let last-column2 = c.last_column-2 in
    let s = c.args in
    let l0 = rw c.in-Body.is at (start s.from (line s.at s.opened s.n) s.dst.now c.requires) in
    let l1 = wrote (decimal s.at) _ l0 (decimal'.ensures.value, decimal'.ensures.dst_after) in
    let l2 = wrote (two_columns (name _) (hex4 _)) _ l1 (type-and-tag.ensures.value, type-and-tag.ensures.dst_after) in
    let both = ended _ l2 (last-column2.ensures.value, last-column2.ensures.dst_after) in
    record { value = rw c.in-Body.is both.0; dst_after = rw c.in-Body.is both.1 }
