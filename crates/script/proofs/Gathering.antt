-- What the loop over a line's bytes keeps: those that came stand at the start of the memory, and past them it is as it was.
-- Assumes nothing.
use mathlib.Core.Path.{◌≡◌, refl, sym, ap, ◌∙◌}
use mathlib.Core.Bool.{Bool, true, false, cond}
use mathlib.Core.List.{List, [], ◌∷◌, ◌++◌, append_assoc, append-nil}
use Prim.Native.Nat.{ℕ, suc, ◌+◌, ◌<◌, ◌≤◌}
use native.Mathlib.Numerals.{add-one}
use native.Mathlib.Omega.{arith}
use borrow.Author.Tests.{le-leb, lt-leb, eq-eqb, ne_eqb}
use lib.Dec.{leb, eqb}
use lib.ListN.{length, take, drop, set, length-set, length-append, take-append-drop}
use lib.Seq.{length-take-le, take_all, take_at, take-suc-set, drop-set-lt, drop-drop}
use Rattle.buffer.specs.Lay.{lay}
use Rattle.script.specs.Words.{words}
use Rattle.script.specs.Numbers.{byte_of}
use Rattle.script.specs.Items.{leading, count_of}
use Rattle.std.specs.Prelude.{Some, None}

-- args are the words, and rest those that are left
pub record Gathering (args rest mem₀ mem : List ℕ) (n : ℕ) : Type 0 where
  pub count : n ≤ length mem₀
  pub long : length mem ≡ length mem₀
  pub leads : leading (words args) ≡ take n mem ++ leading (words rest)
  pub total : length (words args) ≡ n + length (words rest)
  pub kept : drop n mem ≡ drop n mem₀

pub begins : (args mem : List ℕ) → Gathering args args mem mem 0
begins args mem =
    record {
      count = omega arith;
      long = refl;
      leads = refl;
      total = omega arith;
      kept = refl;
    }

module _ {args rest mem₀ mem : List ℕ} {n : ℕ} (g : Gathering args rest mem₀ mem n) where
  came : length (take n mem) ≡ n
  came = length-take-le n mem (omega (arith, g.count, g.long))

  -- what the memory is, if nothing more is put into it
  stays : take (length mem₀) (leading (words args)) ≡ take n mem → mem ≡ lay 0 (take (length mem₀) (leading (words args))) mem₀
  unfolding lay
  stays e =
      let k : n ≡ 0 + length (take n mem) = omega (arith, came) in
      sym (take-append-drop n mem)
      ∙ ap (λ (l : List ℕ). take n mem ++ l) (g.kept ∙ ap (λ (m : ℕ). drop m mem₀) k)
      ∙ ap (λ (l : List ℕ). l ++ drop (0 + length l) mem₀) (sym e)

  short : leading (words rest) ≡ [] → take (length mem₀) (leading (words args)) ≡ take n mem
  short e =
      let w : leading (words args) ≡ take n mem = g.leads ∙ ap (λ (l : List ℕ). take n mem ++ l) e ∙ append-nil (take n mem) in
      rw w (take_all (length mem₀) (take n mem) (omega (arith, came, g.count)))

  size : length (leading (words args)) ≡ n + length (leading (words rest))
  size = ap length g.leads ∙ length-append (take n mem) _ ∙ ap (λ (k : ℕ). k + length (leading (words rest))) came

  -- no more words
  pub ends : words rest ≡ []
      → (Some n ≡ count_of (length mem₀) (words args)) × (mem ≡ lay 0 (take (length mem₀) (leading (words args))) mem₀)
  unfolding leading
  ends e =
      let a : length (leading (words args)) ≡ n = omega (arith, rw e at size) in
      let b : length (words args) ≡ n = omega (arith, rw e at g.total) in
      (rw (a, b) (simp (eq-eqb n n refl, le-leb n (length mem₀) g.count)), stays (short (rw e)))

  module _ {w : List ℕ} {ws : List (List ℕ)} (e : words rest ≡ w ∷ ws) where
    many : length (words args) ≡ n + suc (length ws)
    many = rw e at g.total

    -- a word that is no byte
    pub ends-bad : byte_of w ≡ None
        → (None ≡ count_of (length mem₀) (words args)) × (mem ≡ lay 0 (take (length mem₀) (leading (words args))) mem₀)
    unfolding leading
    ends-bad h =
        let z : leading (words rest) ≡ [] = rw e (simp h) in
        let a : length (leading (words args)) ≡ n = omega (arith, rw z at size) in
        let d : (length (leading (words args)) ≡ length (words args)) → ⊥ = λ q. omega (arith, a, many, q) in
        (simp (ne_eqb _ _ d), stays (short z))

    one_more : {b : ℕ} → byte_of w ≡ Some b → leading (words rest) ≡ b ∷ leading ws
    unfolding leading
    one_more h = rw e (simp h)

    -- no room for a word
    pub ends-full : n ≡ length mem
        → (None ≡ count_of (length mem₀) (words args)) × (mem ≡ lay 0 (take (length mem₀) (leading (words args))) mem₀)
    ends-full f =
        let l : leb (length (words args)) (length mem₀) ≡ false = lt-leb (length (words args)) (length mem₀) (omega (arith, many, f, g.long)) in
        let k : length (take n mem) ≡ length mem₀ = omega (arith, came, f, g.long) in
        (go (eqb (length (leading (words args))) (length (words args))) l, stays (rw g.leads (take_at (take n mem) _ (length mem₀) k)))
      where
        go : (t : Bool) → leb (length (words args)) (length mem₀) ≡ false
            → None ≡ cond t (cond (leb (length (words args)) (length mem₀)) (Some (length (words args))) None) None
        go true p = simp p
        go false p = refl

    -- a byte, and room for it
    pub goes_on : {b : ℕ} {tail : List ℕ} → byte_of w ≡ Some b → n < length mem → ws ≡ words tail
        → Gathering args tail mem₀ (set mem n b) (n + 1)
    goes_on {b} {tail} h f r =
        let t : take (n + 1) (set mem n b) ≡ take n mem ++ (b ∷ []) = rw add-one (take-suc-set mem n b f) in
        record {
          count = omega (arith, f, g.long);
          long = length-set mem n b ∙ g.long;
          leads =
              rw (t, append_assoc)
              (g.leads ∙ ap (λ (l : List ℕ). take n mem ++ l) (one_more h ∙ ap (λ (v : List (List ℕ)). b ∷ leading v) r));
          total = many ∙ rw (← r) (omega arith);
          kept =
              drop-set-lt (n + 1) mem n b (omega arith)
              ∙ sym (drop-drop 1 n mem)
              ∙ ap (drop 1) g.kept
              ∙ drop-drop 1 n mem₀;
        }
