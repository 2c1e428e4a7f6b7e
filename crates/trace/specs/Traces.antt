-- A trace: a line for each event whose answer is not plain, and a last line.
-- Assumes nothing.
use Rattle.std.specs.Prelude.{ℕ, Bool, true, false, cond, List, [], ◌∷◌, ◌++◌, eqb, take, drop}
use Rattle.text.specs.Text.{text, decimal, hex}
use Rattle.control.specs.declared.Reply.{Reply}
use Rattle.control.specs.declared.Order.{Order}
use Rattle.control.specs.declared.Order.TheVariants as O

-- whether there is no order
abbrev pub none : Order → Bool
none O.Nothing = true
none O.Standby = false
none (O.Configure at len ldro) = false
none (O.Transmit at len listen) = false
none O.Receive = false

-- number 0, no bytes, order none
abbrev pub plain : Reply → Bool
plain a = cond (eqb a.number 0) (cond (eqb a.written 0) (none a.order) false) false

-- 1 or 0, and a slash
abbrev pub flag : Bool → List ℕ
flag on = cond on (text "1/") (text "0/")

-- an order, with the bytes that it names in the memory of commands m
abbrev pub order_text : Order → List ℕ → List ℕ
order_text O.Nothing m = text "none"
order_text O.Standby m = text "standby"
order_text (O.Configure at len ldro) m = text "configure/" ++ (flag ldro ++ hex (take len (drop at m)))
order_text (O.Transmit at len listen) m = text "transmit/" ++ (flag listen ++ hex (take len (drop at m)))
order_text O.Receive m = text "receive"

-- bytes, or a dash if there are none
abbrev pub bytes_text : List ℕ → List ℕ
bytes_text [] = text "-"
bytes_text (b ∷ bs) = hex (b ∷ bs)

-- the last column, after its space and with the line end
abbrev pub line_end : List ℕ → List ℕ
line_end bs = text " " ++ (bytes_text bs ++ text "\n")

-- a column that is a number, and the space after it
unfoldable pub number_column : ℕ → List ℕ
number_column n = decimal n ++ text " "

-- the line of the event with index k, of which out has what it wrote
unfoldable pub trace_line : ℕ → Reply → List ℕ → List ℕ → List ℕ
trace_line k a m out =
    number_column k ++ (number_column a.number ++ (order_text a.order m ++ line_end (take a.written out)))

unfoldable pub event_text : ℕ → Reply → List ℕ → List ℕ → List ℕ
event_text k a m out = cond (plain a) [] (trace_line k a m out)

-- a line of a name and a number
unfoldable pub count_line : List ℕ → ℕ → List ℕ
count_line name n = name ++ (decimal n ++ text "\n")

-- a bad line, by its number, and how many events there were
abbrev pub bad_line : ℕ → List ℕ
bad_line n = count_line (text "bad line ") n

abbrev pub events_line : ℕ → List ℕ
events_line n = count_line (text "events ") n
