-- The error that a command draws is the same by 01's steps, as the device has it, and by the command's type, as it is due.
-- The idea: for each of the six types the tests are the same ones in another order, and any other type draws EUNKNOWN_CMD in both.
-- Assumes nothing.
use mathlib.Core.Path.{◌≡◌, refl, sym, ap}
use mathlib.Core.Bool.{Bool, true, false, cond, ◌&&◌, ◌||◌, not}
use mathlib.Core.List.{List, [], ◌∷◌}
use mathlib.Core.Option.{Option, none, some}
use Prim.Native.Nat.{ℕ, zero, suc, ◌<◌}
use native.Mathlib.Omega.{arith}
use borrow.Author.Tests.{le-leb, lt-leb, ne_eqb}
use lib.Dec.{leb, eqb, leb-suc-suc, eqb-suc-zero}
use lib.ListN.{length}
use Rattle.scalar.specs.Scalars.{get}
use Rattle.kind.specs.Kinds.{is_command, EPARAM, ELENGTH, EMODULATION, EUNKNOWN_CMD, EBUSY}
use Rattle.modulation.specs.Lora.{lora_size}
use Rattle.modulation.specs.Modulations.{LORA, modulation_id, config_of}
use Rattle.command.specs.Commands.{flags}
use Rattle.board.specs.Board.{Board}
use Rattle.board.specs.Params.{params_good}
use Rattle.device.specs.State.{Config, Setting, Tx, Radio, free, listening, on_air, orphan, configuring, air, tags_of, open#}
use Rattle.device.specs.Frames.{error_for, unconfigured}
use Rattle.device.specs.Due.{payload_error, value_error, command_error, opened}

-- ---- how many TX are open

length-tags : (ws : List Tx) → length (tags_of ws) ≡ length ws
length-tags [] = refl
length-tags (w ∷ ws) = ap suc (length-tags ws)

pub same-open : (r : Radio) (ws : List Tx) (p : Option Setting) → open# (air r ws p) ≡ opened r ws
same-open free ws p = length-tags ws
same-open (listening t) ws p = ap suc (length-tags ws)
same-open (on_air t) ws p = ap suc (length-tags ws)
same-open orphan ws p = length-tags ws
same-open (configuring x) ws p = length-tags ws

-- ---- the tests of each kind of payload, for all their results

empty-error : (p : List ℕ) → cond {A = Option ℕ} (not (eqb (length p) 0)) (some ELENGTH) none ≡ payload_error p
empty-error [] = refl
empty-error (x ∷ xs) = rw (eqb-suc-zero (length xs))

set-tests : (lora fsk s f g : Bool)
    → cond {A = Option ℕ} (not (lora || fsk)) (some EMODULATION) (cond (not (cond lora s f)) (some ELENGTH) (cond (not g) (some EPARAM) none))
    ≡ cond lora (value_error s g) (cond fsk (value_error f g) (some EMODULATION))
set-tests true fsk true f true = refl
set-tests true fsk true f false = refl
set-tests true fsk false f g = refl
set-tests false true s true true = refl
set-tests false true s true false = refl
set-tests false true s false g = refl
set-tests false false s f g = refl

tx-tests : (size good full : Bool)
    → cond {A = Option ℕ} (not size) (some ELENGTH) (cond (not good) (some EPARAM) (cond full (some EBUSY) none))
    ≡ cond size (cond good (cond full (some EBUSY) none) (some EPARAM)) (some ELENGTH)
tx-tests false good full = refl
tx-tests true false full = refl
tx-tests true true full = refl

-- ---- each type

module _ (b : Board) (n : ℕ) where
  abbrev Same : Option Config → ℕ → List ℕ → Type 0
  Same k kind p = error_for b (unconfigured k) n kind p ≡ command_error b k n kind p

  set-error : (k : Option Config) (p : List ℕ) → Same k 3 p
  unfolding is_command
  set-error none [] = refl
  set-error (some x) [] = refl
  set-error none (m ∷ ps) = set-tests (eqb (get modulation_id (m ∷ ps)) LORA) _ (eqb (length ps) lora_size) _ (params_good b (config_of (m ∷ ps)))
  set-error (some x) (m ∷ ps) = set-tests (eqb (get modulation_id (m ∷ ps)) LORA) _ (eqb (length ps) lora_size) _ (params_good b (config_of (m ∷ ps)))

  tx-error : (k : Option Config) (p : List ℕ) → Same k 4 p
  unfolding is_command
  tx-error none p = refl
  tx-error (some x) [] = refl
  tx-error (some x) (f ∷ bs) =
      rw (leb-suc-suc 1 (length bs), leb-suc-suc (length bs) 255)
      (tx-tests (leb 1 (length bs) && leb (length bs) 255) (leb (get flags (f ∷ bs)) 1) (leb 16 n))

  pub no-command : (k : Option Config) (kind : ℕ) (p : List ℕ) → 6 < kind → command_error b k n kind p ≡ some EUNKNOWN_CMD
  no-command k kind p h =
      rw (ne_eqb kind 1 (λ e. omega arith), ne_eqb kind 2 (λ e. omega arith), ne_eqb kind 3 (λ e. omega arith))
      (rw (ne_eqb kind 4 (λ e. omega arith), ne_eqb kind 5 (λ e. omega arith), ne_eqb kind 6 (λ e. omega arith)) refl)

  unknown : (k : Option Config) (kind : ℕ) (p : List ℕ) → 6 < kind → Same k kind p
  unfolding is_command
  unknown k kind p h = rw (le-leb 1 kind (omega arith), lt-leb kind 6 h) (sym (no-command k kind p h))

  pub same-error : (k : Option Config) (kind : ℕ) (p : List ℕ) → Same k kind p
  unfolding is_command
  same-error k zero p = refl
  same-error none (suc zero) p = empty-error p
  same-error (some x) (suc zero) p = empty-error p
  same-error none (suc (suc zero)) p = empty-error p
  same-error (some x) (suc (suc zero)) p = empty-error p
  same-error k (suc (suc (suc zero))) p = set-error k p
  same-error k (suc (suc (suc (suc zero)))) p = tx-error k p
  same-error none (suc (suc (suc (suc (suc zero))))) p = refl
  same-error (some x) (suc (suc (suc (suc (suc zero))))) p = empty-error p
  same-error none (suc (suc (suc (suc (suc (suc zero)))))) p = refl
  same-error (some x) (suc (suc (suc (suc (suc (suc zero)))))) p = empty-error p
  same-error k (suc (suc (suc (suc (suc (suc (suc m))))))) p = unknown k (suc (suc (suc (suc (suc (suc (suc m))))))) p (omega arith)
