-- The laws of COBS, for all sources: decoding undoes encoding, an encoding has no zero and at most the worst case's length, and tells its source,
-- which is no longer.
-- The idea: both ways go through the groups. Cutting and joining undo one another, and so do writing groups and reading them.
-- Assumes nothing.
use mathlib.Core.Path.{◌≡◌, refl, sym, ap, ap₂, ◌∙◌}
use mathlib.Core.Bool.{Bool, true, false, cond, ◌||◌}
use mathlib.Core.List.{List, [], ◌∷◌, ◌++◌, append-nil}
use Prim.Native.Nat.{ℕ, zero, suc, ◌+◌, ◌-◌, ◌*◌, ◌<◌, ◌≤◌}
use native.Mathlib.Omega.{arith}
use borrow.Author.Tests.{ne_eqb, le-ltb}
use lib.Dec.{eqb}
use lib.ListN.{length, length-append}
use lib.Seq.{append_snoc, take-append_seam, drop-append_seam}
use Rattle.buffer.specs.Lay.{lay}
use Rattle.cobs.specs.Groups.{full, is_full, first}
use Rattle.cobs.specs.Encoding.{grouped, groups_bytes, encoded, worst}
use Rattle.cobs.specs.Decoding.{has_zero, whole, broken, parts, groups, gap, joined, decoded}
use Rattle.cobs.specs.Answers.{body_max, encoded_max, decode_answer, decode_left}
use Rattle.cobs.specs.declared.Decoded.TheVariants as D
use Rattle.cobs.proofs.Cases.{three, cut-none, cut-zero, cut-full, cut-more, parts-byte, into-split, others}
use Rattle.cobs.proofs.Cutting.{cut-split, encoded-split}
use Rattle.cobs.proofs.Reading.{or_assoc, parts-split, parts-some, whole-skip, broken-some, gap-full}

-- ---- writing groups and reading them

-- a code counts its group's bytes
counted : (g : List ℕ) → length g + 1 - 1 ≡ length g
counted g = omega arith

groups-wire : (gs : List (List ℕ)) → groups (groups_bytes gs) ≡ gs
unfolding groups groups_bytes
groups-wire [] = refl
groups-wire (g ∷ gs) =
    rw (counted g)
    (parts-split (length g) (g ++ groups_bytes gs) (simp length-append (omega arith))
    ∙ ap₂ (λ (h : List ℕ) (r : List ℕ). h ∷ groups r) (take-append_seam g (groups_bytes gs)) (drop-append_seam g (groups_bytes gs))
    ∙ ap (λ (hs : List (List ℕ)). g ∷ hs) (groups-wire gs))

-- an encoding ends with its last group
whole-wire : (gs : List (List ℕ)) → whole 0 (groups_bytes gs) ≡ true
unfolding whole groups_bytes
whole-wire [] = refl
whole-wire (g ∷ gs) =
    ap (λ (n : ℕ). whole n (g ++ groups_bytes gs)) (counted g) ∙ whole-skip (length g) (g ++ groups_bytes gs) (simp length-append (omega arith))
    ∙ ap (whole 0) (drop-append_seam g (groups_bytes gs)) ∙ whole-wire gs

-- ---- no zero

zero-append : (a b : List ℕ) → has_zero (a ++ b) ≡ (has_zero a || has_zero b)
unfolding has_zero
zero-append [] b = refl
zero-append (x ∷ a) b = ap (λ (t : Bool). eqb x 0 || t) (zero-append a b) ∙ sym (or_assoc (eqb x 0) (has_zero a) (has_zero b))

-- groups without a zero
abbrev Clean : List (List ℕ) → Type 0
Clean [] = Unit
Clean (g ∷ gs) = (has_zero g ≡ false) × Clean gs

cut-clean : (n : ℕ) (xs : List ℕ) → Clean (grouped n xs)
unfolding grouped has_zero
cut-clean n [] = (refl, tt)
cut-clean n (x ∷ xs) =
    three n x (λ z. rw (cut-zero n x xs z) (refl, cut-clean 0 xs))
    (λ s f. rw (cut-full n x xs s f) (simp (ne_eqb x 0 s), cut-clean 0 xs))
    (λ s f.
    let c = rw (cut-split (n + 1) xs) at (cut-clean (n + 1) xs) in
    rw (cut-more n x xs s f, into-split x (grouped (n + 1) xs)) (simp (ne_eqb x 0 s) c.0, c.1))

wire-clean : (gs : List (List ℕ)) → Clean gs → has_zero (groups_bytes gs) ≡ false
unfolding has_zero groups_bytes
wire-clean [] c = refl
wire-clean (g ∷ gs) c = simp (ne_eqb (length g + 1) 0 (λ e. omega arith), zero-append, c.0) (wire-clean gs c.1)

-- an encoding has no zero
pub no_zero : (s : List ℕ) → has_zero (encoded s) ≡ false
unfolding encoded
no_zero s = wire-clean (grouped 0 s) (cut-clean 0 s)

-- ---- the length

-- each full group costs one byte more
wire-length : (n : ℕ) (xs : List ℕ) → n < full → 254 * length (groups_bytes (grouped n xs)) ≤ 255 * length xs + n + 254
unfolding grouped groups_bytes
wire-length n [] h = omega arith
wire-length n (x ∷ xs) h =
    three n x (λ z. rw (cut-zero n x xs z) (omega (arith, wire-length 0 xs (omega arith))))
    (λ s f. rw (cut-full n x xs s f) (omega (arith, wire-length 0 xs (omega arith))))
    (λ s f.
    let l = rw (cut-split (n + 1) xs) at (wire-length (n + 1) xs (omega arith)) in
    rw (cut-more n x xs s f, into-split x (grouped (n + 1) xs)) (omega arith))

-- an encoding is at most the worst case
pub length-bound : (s : List ℕ) → length (encoded s) ≤ worst (length s)
unfolding encoded
length-bound s = omega (arith, wire-length 0 s (omega arith))

-- the bytes of some groups, and one for each group: what they take on the wire
abbrev total : List (List ℕ) → ℕ
total [] = 0
total (g ∷ gs) = length g + 1 + total gs

total-parts : (m : ℕ) (xs : List ℕ) → total (parts m xs) ≡ length xs + 1
unfolding parts
total-parts m [] = refl
total-parts zero (x ∷ xs) = omega (arith, total-parts (x - 1) xs)
total-parts (suc m) (x ∷ xs) =
    let e = ap total (sym (parts-some m xs)) ∙ total-parts m xs in
    rw (parts-byte m x xs, into-split x (parts m xs)) (omega arith)

gap_length : (g : List ℕ) (gs : List (List ℕ)) → length (gap g gs) ≤ 1
gap_length g [] = omega arith
gap_length g (h ∷ hs) = go (is_full g)
  where
    go : (t : Bool) → length {A = ℕ} (cond t [] (0 ∷ [])) ≤ 1
    go true = omega arith
    go false = omega arith

total-joined : (gs : List (List ℕ)) → length (joined gs) ≤ total gs
unfolding joined
total-joined [] = omega arith
total-joined (g ∷ gs) = simp length-append (omega (arith, gap_length g gs, total-joined gs))

-- what is decoded is no longer than its encoding
pub decoded-length : (xs : List ℕ) → length (decoded xs) ≤ length xs
unfolding decoded groups joined
decoded-length [] = omega arith
decoded-length (x ∷ xs) = omega (arith, total-joined (parts (x - 1) xs), total-parts (x - 1) xs)

-- ---- cutting and joining

-- a zero was left out between a group that is not full and the next
gap-cut : (g : List ℕ) (xs : List ℕ) → length g < full → gap g (grouped 0 xs) ≡ 0 ∷ []
gap-cut g xs h = rw (cut-split 0 xs, ne_eqb (length g) full (λ e. omega arith)) refl

-- the bytes p are those of the first group that were cut before
joined-cut : (p : List ℕ) (xs : List ℕ) → length p < full
    → joined ((p ++ first (grouped (length p) xs)) ∷ others (grouped (length p) xs)) ≡ p ++ xs
unfolding joined
joined-cut p [] h = rw (cut-none (length p)) (append-nil (p ++ []))
joined-cut p (x ∷ xs) h =
    let again : joined (grouped 0 xs) ≡ xs = ap joined (cut-split 0 xs) ∙ joined-cut [] xs (omega arith) in
    let long : length (p ++ x ∷ []) ≡ length p + 1 = length-append p (x ∷ []) in
    three (length p) x
    (λ z.
    rw (cut-zero (length p) x xs z, append-nil p)
    (ap₂ (λ (g j : List ℕ). p ++ (g ++ j)) (gap-cut p xs h) again ∙ ap (λ (y : ℕ). p ++ y ∷ xs) (sym z)))
    (λ s f.
    rw (cut-full (length p) x xs s f)
    (ap₂ (λ (g j : List ℕ). (p ++ x ∷ []) ++ (g ++ j)) (gap-full (p ++ x ∷ []) (grouped 0 xs) (long ∙ f)) again
    ∙ append_snoc p x xs))
    (λ s f.
    rw (cut-more (length p) x xs s f, into-split x (grouped (length p + 1) xs), ← append_snoc p x (first (grouped (length p + 1) xs)))
    (rw long at (joined-cut (p ++ x ∷ []) xs (omega arith)) ∙ append_snoc p x xs))

-- decoding undoes encoding
pub round_trip : (s : List ℕ) → decoded (encoded s) ≡ s
unfolding decoded encoded
round_trip s = ap joined (groups-wire (grouped 0 s) ∙ cut-split 0 s) ∙ joined-cut [] s (omega arith)

-- two sources that differ never encode to the same bytes
pub injective : (a b : List ℕ) → encoded a ≡ encoded b → a ≡ b
injective a b e = sym (round_trip a) ∙ ap decoded e ∙ round_trip b

-- an encoding is never refused as one
pub encoded-sound : (s : List ℕ) → broken (encoded s) ≡ false
unfolding encoded
encoded-sound s =
    broken-some (encoded s) (λ e. omega (arith, sym (ap length (encoded-split s)) ∙ e)) ∙ simp (no_zero s, whole-wire (grouped 0 s))

-- what `encode` wrote, `decode` takes, and writes the source again
pub read_back : (s d : List ℕ) → length s ≤ body_max → length (encoded s) ≤ length d
    → (decode_answer (encoded s) (length d) ≡ D.Done (length s)) × (decode_left (encoded s) d ≡ lay 0 s d)
unfolding decode_answer decode_left
read_back s d h k =
    let l = length-bound s in
    let e = le-ltb encoded_max (length (encoded s)) (omega arith) in
    let f = le-ltb (length d) (length (encoded s)) (omega arith) in
    (simp (e, f, encoded-sound, round_trip), simp (e, f, encoded-sound, round_trip))
