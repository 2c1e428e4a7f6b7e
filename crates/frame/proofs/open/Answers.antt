-- A run that opens has its body in working memory, and that body has room.
-- Assumes nothing.
-- lent memory after an answer: a body, and a refusal
use mathlib.Core.Path.{◌≡◌, sym, ap, ◌∙◌}
use mathlib.Core.List.{List}
use Prim.Native.Nat.{ℕ}
use native.Mathlib.Nat.{le_refl}
use native.Mathlib.Omega.{arith}
use lib.ListN.{length, length-take}
use lib.Seq.{length-take-le}
use Rattle.status.specs.declared.Refusal.{Refusal}
use Rattle.buffer.specs.Lay.{lay}
use Rattle.cobs.specs.Decoding.{decoded}
use Rattle.cobs.specs.Answers.{encoded_max}
use Rattle.frame.specs.Reading.{open_answer, open_left, opened_result}
use Rattle.frame.specs.declared.Opened.TheVariants as O
use Rattle.frame.proofs.Laws.{opens-facts, unpack-body}
use Rattle.frame.proofs.open.Goals as goal

open-lays : (run d : List ℕ) {k t n : ℕ} → open_answer run (length d) ≡ O.Body k t n → open_left run d ≡ lay 0 (decoded run) d
unfolding open_left
open-lays run d e = simp e

open-keeps : (run d : List ℕ) {r : Refusal} → open_answer run (length d) ≡ O.Refused r → open_left run d ≡ d
unfolding open_left
open-keeps run d e = simp e

pub returns-in_default : goal.returns-in_default
returns-in_default c =
    let unpack = c.unpack-opened in
    let w = unpack.ensures in
    record { result_value = ap opened_result w.value; dst_after = sym (open-keeps c.args.run.now c.args.dst.now (sym w.value ∙ c.in_default.is)) }

pub overflow_add-memory : goal.overflow_add-memory
overflow_add-memory c =
    let w = c.unpack-opened in
    let o = opens-facts _ _ (sym w.ensures.value ∙ c.in-Body.is) in
    omega (arith, o.most)

pub slice_bounds-memory-end : goal.slice_bounds-memory-end
slice_bounds-memory-end c =
    let w = c.unpack-opened in
    let o = opens-facts _ _ (sym w.ensures.value ∙ c.in-Body.is) in
    rw w.auto.memory (omega (arith, o.most))

pub slice_bounds-copy-end : goal.slice_bounds-copy-end
slice_bounds-copy-end c =
    let w = c.unpack-opened in
    let o = opens-facts _ _ (sym w.ensures.value ∙ c.in-Body.is) in
    sym (length-take-le _ w.new.memory (rw w.auto.memory (omega (arith, o.most))))

pub copy-requires : goal.copy-requires
copy-requires c =
    let w = c.unpack-opened in
    let o = opens-facts _ _ (sym w.ensures.value ∙ c.in-Body.is) in
    rw length-take (omega (arith, o.fits, o.inside, o.long))

pub returns : goal.returns
returns c =
    let unpack = c.unpack-opened in
    let copy = c.copy in
    let w = unpack.ensures in
    let d = c.args.dst.now in
    let a = c.in-Body.is in
    let e = sym w.value ∙ a in
    record {
      result_value = ap opened_result (sym a ∙ w.value);
      dst_after = rw (copy.ensures, w.memory_after, unpack-body _ _ _ e (le_refl encoded_max))
          (sym (open-lays c.args.run.now d e));
    }
