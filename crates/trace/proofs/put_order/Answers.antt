-- The letters are put, and then the bytes.
-- Assumes nothing.
-- at the start, with the whole as the letters and the bytes
use mathlib.Core.Path.{◌≡◌}
use mathlib.Core.List.{List, ◌++◌}
use Prim.Native.Nat.{ℕ, ◌+◌, ◌≤◌}
use lib.ListN.{length, take, drop}
use Rattle.buffer.proofs.Laying.{Laying, start}
use Rattle.text.specs.Text.{hex}
use Rattle.text.proofs.Writing.{wrote, ended}
use Rattle.trace.specs.declared.Shown.{Shown}
use Rattle.trace.proofs.put_order.Goals as goal

begins : (s : Shown) (m : List ℕ) {whole : List ℕ} → take s.n s.letters ++ hex (take s.len (drop s.at m)) ≡ whole
    → (from : ℕ) (d : List ℕ) → from + length whole ≤ length d
    → Laying from whole d from (take s.n s.letters ++ hex (take s.len (drop s.at m))) d
begins s m {whole} e from d h = rw e (start from whole d h)

pub returns : goal.returns
returns c =
    let shows = c.shows-s in
    let put = c.put-named in
    let part = c.part in
    let hex = c.hex in
    let m = c.args.commands.now in
    let l = begins shows.result m (shows.ensures.by_index m) c.args.from c.args.dst.now c.requires in
    let both = ended _ (wrote _ _ l (put.ensures.value, put.ensures.dst_after))
    (rw part.ensures at hex.ensures.value, rw part.ensures at hex.ensures.dst_after) in
    record { value = both.0; dst_after = both.1 }
