-- Laws of the commands' payloads: a command written and read back is the same, so are its bytes, and what is too long is never of the form.
-- The idea: a configuration has its own laws, and the other payloads compute.
-- Assumes nothing.
use mathlib.Core.Path.{◌≡◌, refl, ap}
use mathlib.Core.Bool.{Bool, true, false, cond}
use mathlib.Core.List.{List, [], ◌∷◌}
use Prim.Native.Nat.{ℕ, ◌+◌, ◌<◌, ◌≤◌}
use native.Mathlib.Nat.{mod-eq_of_lt}
use native.Mathlib.Omega.{arith}
use borrow.Author.Tests.{ltb-false, eqb-true}
use denote.Enum.Declared.{tag_of}
use types.Run.{OneOf, miss}
use lib.Dec.{ltb, eqb}
use lib.ListN.{length}
use Rattle.status.proofs.Laws.{same_by, refusal-back, answer_by}
use Rattle.buffer.specs.Lay.{lay}
use Rattle.scalar.specs.Scalars.{le}
use Rattle.scalar.proofs.Laws.{number-le}
use Rattle.form.specs.Forms.{exactly}
use Rattle.form.proofs.Laws.{refuted, passed}
use Rattle.form.specs.declared.Form.TheVariants as F
use Rattle.kind.specs.Kinds.{SET_CONFIG, TX, is_command}
use Rattle.modulation.specs.declared.Modulation.{Modulation}
use Rattle.modulation.specs.Modulations.{config_form, config_bytes}
use Rattle.modulation.proofs.Laws.{config-back, config-small, fixed-most, length-config, word_back}
use Rattle.command.specs.Commands.{asked_result, tx_form, tx_bytes, command_form, command_of, read_command, command_kind, command_bytes, command_tail}
use Rattle.command.specs.Ranges.{CommandIn}
use Rattle.command.specs.declared.Command.{Command}
use Rattle.command.specs.declared.Command.TheVariants as C
use Rattle.command.specs.declared.Asked.{Asked}
use Rattle.command.specs.declared.Asked.TheVariants as A
use Rattle.command.specs.contracts.Command.{the_type}

-- ---- a TX's payload

-- of its form it has flags and a packet
pub tx-some : (p : List ℕ) → exactly (tx_form p) (length p) ≡ true → 0 < length p
unfolding tx_form
tx-some [] e = let z : ◌≡◌ {A = ℕ} 0 1 = cc in absurd (omega arith)
tx-some (x ∷ p) e = omega arith

-- and the packet is not too long
pub tx-small : (p : List ℕ) → exactly (tx_form p) (length p) ≡ true → length p ≤ 256
unfolding tx_form
tx-small p e =
    let n = length p in
    ltb-false 256 n (passed (ltb 256 n) _ n (passed (ltb n 2) _ n e).1).0

-- it is its flags and its packet
pub tx-bytes : (f : ℕ) (packet : List ℕ) → f < 256 → tx_bytes f packet ≡ f ∷ packet
unfolding tx_bytes lay le
tx-bytes f packet h = rw (mod-eq_of_lt h)

-- a command but SET_CONFIG and TX has the bytes alone
pub bytes-alone : (c : Command) (bs : List ℕ) → ((m : Modulation) → c ≡ C.SetConfig m → ⊥) → ((f : ℕ) → c ≡ C.Tx f → ⊥) → command_bytes c bs ≡ bs
unfolding command_bytes
bytes-alone C.Ping bs k l = refl
bytes-alone C.GetInfo bs k l = refl
bytes-alone (C.SetConfig m) bs k l = absurd (k m refl)
bytes-alone (C.Tx f) bs k l = absurd (l f refl)
bytes-alone C.RxStart bs k l = refl
bytes-alone C.RxStop bs k l = refl

-- ---- how long

pub command-length : (c : Command) (bs : List ℕ) → (length (command_bytes c bs) ≤ 17 + length bs) × (length bs ≤ length (command_bytes c bs))
unfolding command_bytes tx_bytes lay le
command-length C.Ping bs = (omega arith, omega arith)
command-length C.GetInfo bs = (omega arith, omega arith)
command-length (C.SetConfig m) bs =
    let n = length-config m bs in
    let k = fixed-most m in
    (omega arith, omega arith)
command-length (C.Tx f) bs = (omega arith, omega arith)
command-length C.RxStart bs = (omega arith, omega arith)
command-length C.RxStop bs = (omega arith, omega arith)

-- the longest payload
pub command-small : (k : ℕ) (p : List ℕ) → exactly (command_form k p) (length p) ≡ true → length p ≤ 275
unfolding command_form
command-small k p = go (eqb k SET_CONFIG) (eqb k TX)
  where
    go : (a b : Bool) → exactly (cond a (config_form p) (cond b (tx_form p) (F.Size 0))) (length p) ≡ true → length p ≤ 275
    go true b e = omega (arith, config-small p e)
    go false true e = omega (arith, tx-small p e)
    go false false e = omega (arith, eqb-true 0 (length p) e)

-- the most bytes of variable length
pub command-most : (c : Command) (bs : List ℕ) → exactly (command_form (command_kind c) (command_bytes c bs)) (length (command_bytes c bs)) ≡ true
    → length bs ≤ 255
unfolding command_form command_bytes tx_bytes lay le
command-most C.Ping bs e = omega (arith, eqb-true 0 (length bs) e)
command-most C.GetInfo bs e = omega (arith, eqb-true 0 (length bs) e)
command-most (C.SetConfig m) bs e = omega (arith, config-small (config_bytes m bs) e, (command-length (C.SetConfig m) bs).1)
command-most (C.Tx f) bs e = omega (arith, tx-small (tx_bytes f bs) e)
command-most C.RxStart bs e = omega (arith, eqb-true 0 (length bs) e)
command-most C.RxStop bs e = omega (arith, eqb-true 0 (length bs) e)

pub command-long : (c : Command) (bs : List ℕ) → 255 < length bs
    → exactly (command_form (command_kind c) (command_bytes c bs)) (length (command_bytes c bs)) ≡ false
command-long c bs h = refuted _ (λ e. omega (arith, command-most c bs e))

-- ---- what reading answers

asked-back : (a : Asked) → answer_by A.Command A.Refused (asked_result a) ≡ a
asked-back (A.Command c) = refl
asked-back (A.Refused r) = ap A.Refused (refusal-back r)

-- it is told by its number and its command
pub asked-same : (a b : Asked) → asked_result a ≡ asked_result b → a ≡ b
asked-same = same_by asked_result (answer_by A.Command A.Refused) asked-back

-- ---- read back

pub command-is : (c : Command) → is_command (command_kind c) ≡ true
unfolding is_command
command-is C.Ping = refl
command-is C.GetInfo = refl
command-is (C.SetConfig m) = refl
command-is (C.Tx f) = refl
command-is C.RxStart = refl
command-is C.RxStop = refl

of-back : (c : Command) → CommandIn c → (bs : List ℕ) → command_of (command_kind c) (command_bytes c bs) ≡ c
unfolding command_of command_bytes tx_bytes lay le
of-back C.Ping r bs = refl
of-back C.GetInfo r bs = refl
of-back (C.SetConfig m) r bs = ap C.SetConfig (config-back m r bs)
of-back (C.Tx f) r bs = ap C.Tx (number-le 1 f r)
of-back C.RxStart r bs = refl
of-back C.RxStop r bs = refl

pub command-back : (c : Command) → CommandIn c → (bs : List ℕ) → exactly (command_form (command_kind c) (command_bytes c bs)) (length (command_bytes c bs))
    ≡ true
    → read_command (command_kind c) (command_bytes c bs) ≡ A.Command c
unfolding read_command
command-back c r bs e = simp (command-is c, e) (ap A.Command (of-back c r bs))

pub command-tail : (c : Command) → CommandIn c → (bs : List ℕ) → exactly (command_form (command_kind c) (command_bytes c bs)) (length (command_bytes c bs))
    ≡ true
    → command_tail (command_kind c) (command_bytes c bs) ≡ bs
unfolding command_form command_tail command_bytes tx_bytes lay le
command-tail C.Ping r bs e = refl
command-tail C.GetInfo r bs e = refl
command-tail (C.SetConfig m) r bs e = word_back m r bs e
command-tail (C.Tx f) r bs e = refl
command-tail C.RxStart r bs e = refl
command-tail C.RxStop r bs e = refl
