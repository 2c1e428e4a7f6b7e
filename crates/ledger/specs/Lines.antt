-- The lines of a ledger, and the tags that it gives: 02 §2.
-- Assumes nothing.
use Rattle.std.specs.Prelude.{ℕ, zero, suc, ◌+◌, ◌/◌, ◌%◌, Bool, cond, not, ◌&&◌, ◌||◌, List, [], ◌∷◌, eqb, get_or, Option, Some, None, is_none}
use Rattle.kind.specs.Kinds.{TX, OK, ERR, TX_DONE}
use Rattle.ledger.specs.declared.Line.{Line}
use Rattle.ledger.specs.declared.Ledger.{Ledger}

-- how many lines a ledger has
abbrev pub line_max : ℕ
line_max = 16

abbrev pub no_line : Line
no_line = record { tag = record { 0 = 0 }; command = 0; accepted = 0 }

abbrev pub line_at : Ledger → ℕ → Line
line_at l k = get_or l.lines k no_line

-- ---- which open line has a tag

-- a line has the tag and is open, which the lowest digit of u says
unfoldable pub has_tag : ℕ → Line → ℕ → Bool
has_tag tag x u = eqb (u % 2) 1 && eqb x.tag.0 tag

-- the lowest that is open and has the tag, of lines from number n on: the lowest digit of u is the first one's
unfoldable pub owner_from : ℕ → List Line → ℕ → ℕ → Option ℕ
owner_from n [] u tag = None
owner_from n (x ∷ xs) u tag = cond (has_tag tag x u) (Some n) (owner_from (suc n) xs (u / 2) tag)

abbrev pub owner : List Line → ℕ → ℕ → Option ℕ
owner lines used tag = owner_from 0 lines used tag

-- ---- the next tag

-- after 0xFFFF comes 0
abbrev pub wrapped : ℕ → ℕ
wrapped n = n % 0x10000

-- a tag that can be given: not zero, and that of no open line
unfoldable pub vacant : List Line → ℕ → ℕ → Bool
vacant lines used tag = not (eqb tag 0) && is_none (owner lines used tag)

-- the first vacant one of tag and the k numbers after it: the last of them where none before it is
unfoldable pub first_vacant : ℕ → List Line → ℕ → ℕ → ℕ
first_vacant zero lines used tag = tag
first_vacant (suc k) lines used tag = cond (vacant lines used tag) tag (first_vacant k lines used (wrapped (tag + 1)))

-- as many numbers can be passed over: zero, and the tag of each line
abbrev pub candidates : ℕ
candidates = line_max + 1

-- ---- what a line waits for

-- a TX that has its OK
abbrev pub accepted : Line → Bool
accepted x = eqb x.command TX && eqb x.accepted 1

-- such a TX waits for its TX_DONE, and every other command for an OK or an ERR
unfoldable pub awaits : Line → ℕ → Bool
awaits x kind = cond (accepted x) (eqb kind TX_DONE) (eqb kind OK || eqb kind ERR)
