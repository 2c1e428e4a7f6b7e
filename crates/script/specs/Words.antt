-- Words: what blanks separate.
-- Assumes nothing.
use Rattle.std.specs.Prelude.{ℕ, Bool, true, cond, List, [], ◌∷◌, ◌++◌, eqb, bytes_eq}
use Prim.Native.Char.{code}

-- a space or a tab
abbrev pub blank : ℕ → Bool
blank c = cond (eqb c (code " ")) true (eqb c (code "\t"))

-- the bytes that came since the last blank, as a word
abbrev pub word_so_far : List ℕ → List (List ℕ)
word_so_far [] = []
word_so_far (c ∷ w) = (c ∷ w) ∷ []

-- the words of a text, where the bytes w came before it since the last blank
unfoldable pub words_from : List ℕ → List ℕ → List (List ℕ)
words_from w [] = word_so_far w
words_from w (c ∷ s) = cond (blank c) (word_so_far w) [] ++ words_from (cond (blank c) [] (w ++ (c ∷ []))) s

abbrev pub words : List ℕ → List (List ℕ)
words s = words_from [] s

-- the first of some words, empty if there is none, and the others
abbrev pub word : List (List ℕ) → List ℕ
word [] = []
word (w ∷ ws) = w

abbrev pub others : List (List ℕ) → List (List ℕ)
others [] = []
others (w ∷ ws) = ws

-- whether two texts are the same
abbrev pub same : List ℕ → List ℕ → Bool
same = bytes_eq
