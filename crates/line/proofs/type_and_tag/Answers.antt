-- Each call lays the next piece.
-- Assumes nothing.
use Rattle.buffer.proofs.Laying.{start, fits}
use Rattle.text.specs.Text.{text}
use Rattle.text.proofs.Writing.{wrote, last_fits, ended}
use Rattle.line.specs.Lines.{hex4, name, two_columns}
use Rattle.line.proofs.type_and_tag.Goals as goal

pub put-space-requires : goal.put-space-requires
unfolding two_columns
put-space-requires c =
    let s = c.args in
    let l0 = start s.from (two_columns (name s.kind) (hex4 s.tag)) s.dst.now c.requires in
    fits (text " ") _ l0

pub name-named-requires : goal.name-named-requires
unfolding two_columns
name-named-requires c =
    let put = c.put-space in
    let s = c.args in
    let l0 = start s.from (two_columns (name s.kind) (hex4 s.tag)) s.dst.now c.requires in
    let l1 = wrote (text " ") _ l0 (put.ensures.value, put.ensures.dst_after) in
    fits (name s.kind) _ l1

pub put-next-requires : goal.put-next-requires
unfolding two_columns
put-next-requires c =
    let put = c.put-space in
    let name' = c.name-named in
    let s = c.args in
    let l0 = start s.from (two_columns (name s.kind) (hex4 s.tag)) s.dst.now c.requires in
    let l1 = wrote (text " ") _ l0 (put.ensures.value, put.ensures.dst_after) in
    let l2 = wrote (name s.kind) _ l1 (name'.ensures.value, name'.ensures.dst_after) in
    fits (text " ") _ l2

pub hex4-requires : goal.hex4-requires
unfolding two_columns
hex4-requires c =
    let put = c.put-space in
    let name' = c.name-named in
    let put2 = c.put-next in
    let s = c.args in
    let l0 = start s.from (two_columns (name s.kind) (hex4 s.tag)) s.dst.now c.requires in
    let l1 = wrote (text " ") _ l0 (put.ensures.value, put.ensures.dst_after) in
    let l2 = wrote (name s.kind) _ l1 (name'.ensures.value, name'.ensures.dst_after) in
    let l3 = wrote (text " ") _ l2 (put2.ensures.value, put2.ensures.dst_after) in
    last_fits l3

pub returns : goal.returns
unfolding two_columns
returns c =
    let put = c.put-space in
    let name' = c.name-named in
    let put2 = c.put-next in
    let hex4' = c.hex4 in
    let s = c.args in
    let l0 = start s.from (two_columns (name s.kind) (hex4 s.tag)) s.dst.now c.requires in
    let l1 = wrote (text " ") _ l0 (put.ensures.value, put.ensures.dst_after) in
    let l2 = wrote (name s.kind) _ l1 (name'.ensures.value, name'.ensures.dst_after) in
    let l3 = wrote (text " ") _ l2 (put2.ensures.value, put2.ensures.dst_after) in
    let both = ended _ l3 (hex4'.ensures.value, hex4'.ensures.dst_after) in
    record { value = both.0; dst_after = both.1 }
