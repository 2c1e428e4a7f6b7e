-- What stands on the wire: frames one after another. P 2.5, step 1, and 01 "A run of bytes becomes a frame": a zero ends a run, and the run is what
-- stands before it.
-- Assumes nothing.
use Rattle.std.specs.Prelude.{ℕ, cond, List, [], ◌∷◌, ◌++◌, eqb}

-- The runs that are ended in some bytes, where `run` has come before them: 01 "A run of bytes becomes a frame". A zero ends the run, any other byte
-- joins it. What no zero ends is left out (P 2.5).
unfoldable pub runs : List ℕ → List ℕ → List (List ℕ)
runs run [] = []
runs run (b ∷ bs) =
    let rs = runs (cond (eqb b 0) [] (run ++ b ∷ [])) bs in
    cond (eqb b 0) (run ∷ rs) rs
