-- The radio that is left decides the order; all else is the definition's.
-- Assumes nothing.
use mathlib.Core.Path.{sym, ◌∙◌}
use Rattle.emit.specs.Emitting.{frames_bytes}
use Rattle.session.specs.Session.{end_session}
use Rattle.session.proofs.end_session.Goals as goal

pub returns-then-is_free : goal.returns-then-is_free
unfolding end_session frames_bytes
returns-then-is_free c =
    let ended = c.ended-radio in
    let end-reception = c.end_reception-inbox in
    let is_free = c.is_free in
    let if1 = c.if-is_free in
    let f = rw ended.ensures at (sym is_free.ensures ∙ if1.true) in
    simp f (rw (ended.ensures, end-reception.ensures) at c.done.ensures)

pub returns : goal.returns
unfolding end_session frames_bytes
returns c =
    let ended = c.ended-radio in
    let end-reception = c.end_reception-inbox in
    let is_free = c.is_free in
    let if1 = c.if-is_free in
    let f = rw ended.ensures at (sym is_free.ensures ∙ if1.false) in
    simp f (rw (ended.ensures, end-reception.ensures) at c.done-2.ensures)
