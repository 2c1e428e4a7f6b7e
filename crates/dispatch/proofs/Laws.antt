-- What the code's tests say by the definitions: the error code and the type of a command choose what is done.
-- Assumes nothing.
use Prim.Native.Nat.{ℕ, ◌<◌, ◌≤◌}
use mathlib.Core.Path.{◌≡◌, refl, sym, ap, subst, ◌∙◌}
use mathlib.Core.Bool.{Bool, true, false, cond, not, ◌&&◌}
use mathlib.Core.List.{List, [], ◌∷◌}
use mathlib.Core.Option.{Option, none, some}
use native.Mathlib.Omega.{arith}
use borrow.Author.Tests.{eq-eqb, ne_eqb}
use lib.Dec.{leb, eqb}
use lib.ListN.{length}
use Rattle.form.proofs.Laws.{exactly-size}
use Rattle.kind.specs.Kinds.{GET_INFO, SET_CONFIG, TX, RX_START, RX_STOP, is_command, EPARAM, ELENGTH, ENOTCONFIGURED, EMODULATION, EUNKNOWN_CMD, EBUSY}
use Rattle.modulation.specs.Modulations.{config_form}
use Rattle.modulation.proofs.Laws.{form-bounds}
use Rattle.board.specs.Board.{Board, sx1262, tx_max}
use Rattle.device.specs.Messages.{seen, ok, ok_info, err}
use Rattle.device.specs.Frames.{needs_config, other_modulation, sized, good, error_for}
use Rattle.validation.specs.Codes.{code_of}
use Rattle.validation.proofs.Laws.{none-tx, none-set}
use Rattle.control.specs.declared.Device.{Device}
use Rattle.control.specs.declared.Order.TheVariants.{Nothing}
use Rattle.control.specs.declared.Taken.{Taken}
use Rattle.control.specs.Control.{unconfigured, Done, does, Gives}
use Rattle.dispatch.specs.Commands.{CommandGives, command_gives, open#, on_tx, on_set, CommandTaken, turned, at_once, on_command, unless, dispatched}

-- ---- what a command gives

-- by another name
pub rules : {x : CommandGives} (y : CommandGives) {o o' m' : List ℕ} {r : Taken} → x ≡ y → CommandTaken y o r o' m' → CommandTaken x o r o' m'
rules y e g = rw e g

-- the memory of commands stays
pub rules-only : {x : Done} {o o' m : List ℕ} {r : Taken} → Gives x o 0 r o' → CommandTaken (command_gives x m) o r o' m
rules-only g = record { gives = g; commands = refl }

-- ---- the error code

-- none of P 7's codes is 0
passing : (t : Bool) (x : ℕ) (o : Option ℕ) → 0 < x → (code_of o ≡ 0 → o ≡ none) → code_of (cond t (some x) o) ≡ 0 → cond t (some x) o ≡ none
passing true x o h f e = absurd (omega arith)
passing false x o h f e = f e

no_code : (b : Board) (noConfig : Bool) (n kind : ℕ) (p : List ℕ) → code_of (error_for b noConfig n kind p) ≡ 0 → error_for b noConfig n kind p ≡ none
no_code b noConfig n kind p =
    passing (not (is_command kind)) EUNKNOWN_CMD _ (omega arith)
    (passing (noConfig && needs_config kind) ENOTCONFIGURED _ (omega arith)
    (passing (eqb kind SET_CONFIG && other_modulation p) EMODULATION _ (omega arith)
    (passing (not (sized kind p)) ELENGTH _ (omega arith)
    (passing (not (good b kind p)) EPARAM _ (omega arith)
    (passing (eqb kind TX && leb tx_max n) EBUSY _ (omega arith)
    (λ e. refl))))))

-- an error code draws an ERR
with_code : (o : Option ℕ) (kind t : ℕ) (p m : List ℕ) (d : Device) → (code_of o ≡ 0 → ⊥)
    → unless o kind t p m d ≡ command_gives (does d (seen (err (code_of o) t) ∷ []) Nothing) m
with_code none kind t p m d h = absurd (h refl)
with_code (some code) kind t p m d h = refl

-- a command as the code judges it: by whether the device is UNCONFIGURED, how many TX are open, and the error code
module _ (kind : ℕ) (p : List ℕ) (d : Device) {noConfig : Bool} {n code : ℕ} (b : noConfig ≡ unconfigured d.mode) (o : n ≡ open# d.air)
    (c : code ≡ code_of (error_for sx1262 noConfig n kind p)) where
  same_code : code ≡ code_of (error_for sx1262 (unconfigured d.mode) (open# d.air) kind p)
  same_code = rw (b, o) at c

  none-as : code ≡ 0 → {k : ℕ} → kind ≡ k → error_for sx1262 (unconfigured d.mode) (open# d.air) k p ≡ none
  none-as z e =
      subst (λ (k : ℕ). error_for sx1262 (unconfigured d.mode) (open# d.air) k p ≡ none) e
      (no_code sx1262 (unconfigured d.mode) (open# d.air) kind p (sym same_code ∙ z))

  -- what is taken fits its slot
  pub tx-fits : code ≡ 0 → kind ≡ TX → ((1 ≤ length p) × (length p ≤ 256)) × (open# d.air < 16)
  tx-fits z e = let k = none-tx sx1262 (unconfigured d.mode) (open# d.air) p (none-as z e) in ((omega arith, k.most), k.room)

  pub set-fits : code ≡ 0 → kind ≡ SET_CONFIG → (1 ≤ length p) × (length p ≤ 256)
  set-fits z e =
      let k = none-set sx1262 (unconfigured d.mode) (open# d.air) p (none-as z e) in
      let s = form-bounds p (length p) (exactly-size (config_form p) (length p) k) in
      (omega arith, omega arith)

  module _ (t : ℕ) (m : List ℕ) where
    pub as_err : (code ≡ 0 → ⊥) → dispatched kind t p m d ≡ command_gives (does d (seen (err code t) ∷ []) Nothing) m
    unfolding dispatched
    as_err h =
        with_code (error_for sx1262 (unconfigured d.mode) (open# d.air) kind p) kind t p m d (λ z. h (same_code ∙ z))
        ∙ ap (λ (k : ℕ). command_gives (does d (seen (err k t) ∷ []) Nothing) m) (sym same_code)

    -- and without an error, by its type
    module _ (z : code ≡ 0) where
      obeyed : dispatched kind t p m d ≡ on_command kind t p m d
      unfolding dispatched
      obeyed = ap (λ (x : Option ℕ). unless x kind t p m d) (none-as z refl)

      pub as-tx : kind ≡ TX → dispatched kind t p m d ≡ on_tx t p m d
      as-tx e = obeyed ∙ simp (eq-eqb kind TX e)

      module _ (not-tx : kind ≡ TX → ⊥) where
        pub as-set : kind ≡ SET_CONFIG → dispatched kind t p m d ≡ on_set t p m d
        as-set e = obeyed ∙ simp (ne_eqb kind TX not-tx, eq-eqb kind SET_CONFIG e)

        pub as_plain : (kind ≡ SET_CONFIG → ⊥) → dispatched kind t p m d ≡ command_gives (at_once kind t d) m
        as_plain e = obeyed ∙ simp (ne_eqb kind TX not-tx, ne_eqb kind SET_CONFIG e)

-- ---- what is answered at once

module _ (kind t : ℕ) (d : Device) where
  pub as-start : kind ≡ RX_START → at_once kind t d ≡ turned true t d
  unfolding at_once
  as-start e = simp (eq-eqb kind RX_START e)

  module _ (not_start : kind ≡ RX_START → ⊥) where
    pub as-stop : kind ≡ RX_STOP → at_once kind t d ≡ turned false t d
    unfolding at_once
    as-stop e = simp (ne_eqb kind RX_START not_start, eq-eqb kind RX_STOP e)

    module _ (not-stop : kind ≡ RX_STOP → ⊥) where
      pub as-info : kind ≡ GET_INFO → at_once kind t d ≡ does d (seen (ok_info sx1262 t) ∷ []) Nothing
      unfolding at_once
      as-info e = simp (ne_eqb kind RX_START not_start, ne_eqb kind RX_STOP not-stop, eq-eqb kind GET_INFO e)

      pub as-ping : (kind ≡ GET_INFO → ⊥) → at_once kind t d ≡ does d (seen (ok t) ∷ []) Nothing
      unfolding at_once
      as-ping e = simp (ne_eqb kind RX_START not_start, ne_eqb kind RX_STOP not-stop, ne_eqb kind GET_INFO e)
