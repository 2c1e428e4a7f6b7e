-- What a reader of one type alone knows of a message that it took: that its fields are there.
-- Assumes nothing.
use mathlib.Core.Path.{◌≡◌}
use mathlib.Core.List.{List}
use Prim.Native.Nat.{ℕ, ◌≤◌}
use borrow.Author.Tests.{eqb-true}
use lib.ListN.{length}
use Rattle.cobs.specs.Decoding.{decoded}
use Rattle.frame.specs.Body.{payload_of}
use Rattle.frame.specs.declared.Opened.TheVariants as O
use Rattle.kind.specs.Kinds.{RX, TX_DONE}
use Rattle.rx.specs.Rx.{rx_size}
use Rattle.answer.specs.Answers.{answer_form, tx_done_size}
use Rattle.answer.proofs.Steps.{rx-there, tx-done-there}
use Rattle.wellformed.specs.Checking.{has, form_of, fits_read}
use Rattle.reader.specs.Reading.{receive_answer}
use Rattle.wellformed.specs.declared.Kinds.TheVariants as K
use Rattle.reader.proofs.Steps.{was-good, payload-long}

module _ (run d : List ℕ) {k t n : ℕ} where
  pub rx-kept : receive_answer K.Rx run (length d) ≡ O.Body k t n → rx_size ≤ n
  unfolding has form_of fits_read answer_form
  rx-kept e =
      let g = was-good K.Rx run d e in
      rw (← payload-long K.Rx run d e) (rx-there (payload_of (decoded run)) (rw (eqb-true k RX g.type) at g.form))

  pub tx-done-kept : receive_answer K.TxDone run (length d) ≡ O.Body k t n → tx_done_size ≤ n
  unfolding has form_of fits_read answer_form
  tx-done-kept e =
      let g = was-good K.TxDone run d e in
      rw (← payload-long K.TxDone run d e) (tx-done-there (payload_of (decoded run)) (rw (eqb-true k TX_DONE g.type) at g.form))
