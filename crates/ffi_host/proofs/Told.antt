-- What a match told of an answer, and what the callee promised to come back of it, give the same number and the same count; and what is left beside it
-- is left.
-- Assumes nothing.
use mathlib.Core.Path.{◌≡◌, sym, ap, ◌∙◌}
use Prim.Native.Nat.{ℕ}
use Rattle.status.specs.Result.{Result, value_or}

module _ {A : Type 0} (result : A → Result ℕ) where
  pub told : {answer case : A} {came : Result ℕ} → answer ≡ case → result answer ≡ came → (old : ℕ)
      → ((result case).number ≡ came.number) × (value_or (result case).value old ≡ value_or came.value old)
  told t p old =
      let e = sym (ap result t) ∙ p in
      (ap (λ (x : Result ℕ). x.number) e, ap (λ (x : Result ℕ). value_or x.value old) e)

  pub told-beside : {answer case : A} {came : Result ℕ} {P : Type 0} → answer ≡ case → result answer ≡ came → P → (old : ℕ)
      → ((result case).number ≡ came.number) × (P × (value_or (result case).value old ≡ value_or came.value old))
  told-beside t p left old =
      let e = told t p old in
      (e.0, (left, e.1))
