-- A line of a listing: 01 "Sheet of known values", its last part, in the order of its columns.
-- Assumes nothing.
use Rattle.std.specs.Prelude.{ℕ, ◌/◌, ◌%◌, cond, List, [], ◌∷◌, ◌++◌, eqb}
use Rattle.frame.specs.declared.Opened.{Opened}
use Rattle.frame.specs.declared.Opened.TheVariants as O
use Rattle.kind.specs.Kinds.{PING, GET_INFO, SET_CONFIG, TX, RX_START, RX_STOP, OK, ERR, RX, TX_DONE}
use Rattle.text.specs.Text.{text, digit, decimal}

-- ---- numbers

-- four hexadecimal digits
unfoldable pub hex4 : ℕ → List ℕ
hex4 n = digit (n / 4096) ∷ digit (n / 256 % 16) ∷ digit (n / 16 % 16) ∷ digit (n % 16) ∷ []

-- ---- the columns, of a run with what opening it answers

-- the name of a type, `?` if it is none of the ten
unfoldable pub name : ℕ → List ℕ
name kind =
    cond (eqb kind PING) (text "PING")
    (cond (eqb kind GET_INFO) (text "GET_INFO")
    (cond (eqb kind SET_CONFIG) (text "SET_CONFIG")
    (cond (eqb kind TX) (text "TX")
    (cond (eqb kind RX_START) (text "RX_START")
    (cond (eqb kind RX_STOP) (text "RX_STOP")
    (cond (eqb kind OK) (text "OK")
    (cond (eqb kind ERR) (text "ERR")
    (cond (eqb kind RX) (text "RX")
    (cond (eqb kind TX_DONE) (text "TX_DONE")
    (text "?"))))))))))

-- type: its name, BAD if STUFF, LENGTH or CHECK applies
abbrev pub type_column : Opened → List ℕ
type_column (O.Body kind tag len) = name kind
type_column (O.Refused r) = text "BAD"

-- tag: four digits, - if BAD
abbrev pub tag_column : Opened → List ℕ
tag_column (O.Body kind tag len) = hex4 tag
tag_column (O.Refused r) = text "-"

-- len: the payload's length, the run's length n if BAD
abbrev pub len_column : Opened → ℕ → ℕ
len_column (O.Body kind tag len) n = len
len_column (O.Refused r) n = n

-- the last column, after its space and with the line end
abbrev pub last_column : ℕ → List ℕ
last_column len = text " " ++ (decimal len ++ text "\n")

-- two columns, each after a space
unfoldable pub two_columns : List ℕ → List ℕ → List ℕ
two_columns a b = text " " ++ (a ++ (text " " ++ b))

-- the line of a run of n bytes at an offset
unfoldable pub line : ℕ → Opened → ℕ → List ℕ
line at o n = decimal at ++ (two_columns (type_column o) (tag_column o) ++ last_column (len_column o n))

-- the longest line: 20 digits, a space, 10 letters, a space, 4 digits, a space, 20 digits and the line end
abbrev pub line_max : ℕ
line_max = 58
