-- The name of a type that is none of the ten, and how long a name is.
-- Assumes nothing.
use mathlib.Core.Path.{◌≡◌}
use mathlib.Core.Bool.{Bool, true, false, cond}
use mathlib.Core.List.{List}
use Prim.Native.Nat.{ℕ, ◌≤◌}
use borrow.Author.Tests.{ne_eqb}
use lib.Dec.{T, leb, eqb, lit≤}
use lib.ListN.{length}
use Rattle.kind.specs.Kinds.{PING, GET_INFO, SET_CONFIG, TX, RX_START, RX_STOP, OK, ERR, RX, TX_DONE}
use Rattle.text.specs.Text.{text}
use Rattle.line.specs.Lines.{name}

pub unknown : (k : ℕ) → (k ≡ PING → ⊥) → (k ≡ GET_INFO → ⊥) → (k ≡ SET_CONFIG → ⊥) → (k ≡ TX → ⊥) → (k ≡ RX_START → ⊥)
    → (k ≡ RX_STOP → ⊥) → (k ≡ OK → ⊥) → (k ≡ ERR → ⊥) → (k ≡ RX → ⊥) → (k ≡ TX_DONE → ⊥) → name k ≡ text "?"
unfolding name
unknown k a b c d e f g h i j =
    simp (
      ne_eqb k PING a,
      ne_eqb k GET_INFO b,
      ne_eqb k SET_CONFIG c,
      ne_eqb k TX d,
      ne_eqb k RX_START e,
      ne_eqb k RX_STOP f,
      ne_eqb k OK g,
      ne_eqb k ERR h,
      ne_eqb k RX i,
      ne_eqb k TX_DONE j,
    )

record Short (l : List ℕ) : Type 0 where
  most : length l ≤ 10

short : (l : List ℕ) → T (leb (length l) 10) → Short l
short l h = record { most = lit≤ h }

either : (t : Bool) {a b : List ℕ} → Short a → Short b → Short (cond t a b)
either true p q = p
either false p q = q

pub length-name : (k : ℕ) → length (name k) ≤ 10
unfolding name
length-name k =
    (either (eqb k PING) (short (text "PING") tt)
    (either (eqb k GET_INFO) (short (text "GET_INFO") tt)
    (either (eqb k SET_CONFIG) (short (text "SET_CONFIG") tt)
    (either (eqb k TX) (short (text "TX") tt)
    (either (eqb k RX_START) (short (text "RX_START") tt)
    (either (eqb k RX_STOP) (short (text "RX_STOP") tt)
    (either (eqb k OK) (short (text "OK") tt)
    (either (eqb k ERR) (short (text "ERR") tt)
    (either (eqb k RX) (short (text "RX") tt)
    (either (eqb k TX_DONE) (short (text "TX_DONE") tt)
    (short (text "?") tt))))))))))).most
