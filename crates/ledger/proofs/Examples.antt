-- The ledger on calls by hand, computed: 02 §2.
-- Assumes nothing.
use mathlib.Core.Path.{◌≡◌, refl, ap, ◌∙◌}
use mathlib.Core.List.{List, [], ◌∷◌}
use Prim.Native.Nat.{ℕ}
use borrow.Author.Tests.{eq-eqb}
use lib.Count.{ones, ones_in, ones-ones, count_trailing_zeros}
use lib.ListN.{replicate}
use Rattle.status.specs.Numbers.{TYPE, LEDGER}
use Rattle.status.specs.Result.{took, refused_with}
use Rattle.kind.specs.Kinds.{is_command, PING, TX, OK, ERR, RX, TX_DONE}
use Rattle.ledger.specs.declared.Ledger.{Ledger}
use Rattle.ledger.specs.Digits.{lowest}
use Rattle.ledger.specs.Lines.{no_line, has_tag, owner_from, vacant, first_vacant, awaits}
use Rattle.ledger.specs.Calls.{new_ledger, open_answer, opened_result, UNEXPECTED, NOBODYS, FITS, verdict_at, verdict_of}
use Rattle.ledger.proofs.Openings.{answer-by}
use Rattle.ledger.specs.History.{Call, opens, hears, connects, Reply, place, report, nothing, leaves, replies}

-- what comes back of calls, one after another
unfoldable pub answers : Ledger → List Call → List Reply
answers l [] = []
answers l (c ∷ cs) = replies l c ∷ answers (leaves l c) cs

abbrev given : ℕ → ℕ → Reply
given tag line = place (took record { tag = record { 0 = tag }; line = line })

abbrev fits : ℕ → ℕ → ℕ → Reply
fits command line closed = report record { verdict = FITS; command = command; line = line; closed = closed }

abbrev unexpected : Reply
unexpected = report record { verdict = UNEXPECTED; command = 0; line = 0; closed = 0 }

abbrev nobodys : Reply
nobodys = report record { verdict = NOBODYS; command = 0; line = 0; closed = 0 }

-- a PING and a TX: the TX waits for its OK, and then for its TX_DONE. The line of the PING is taken again, its tag is not. An ERR closes a TX without its OK.
pub answered : answers new_ledger
    (opens PING ∷ opens TX ∷ hears TX_DONE 2 ∷ hears OK 2 ∷ hears OK 2 ∷ hears ERR 2
    ∷ hears OK 1 ∷ hears OK 1 ∷ opens TX ∷ hears ERR 3 ∷ hears TX_DONE 2 ∷ [])
    ≡ given 1 0 ∷ given 2 1 ∷ unexpected ∷ fits TX 1 0 ∷ unexpected ∷ unexpected
    ∷ fits PING 0 1 ∷ unexpected ∷ given 3 0 ∷ fits TX 0 1 ∷ fits TX 1 1 ∷ []
unfolding new_ledger open_answer lowest count_trailing_zeros ones ones_in is_command first_vacant vacant owner_from has_tag verdict_of verdict_at awaits answers
answered = refl

-- what is nobody's, and what has no tag or is no answer
pub others : answers new_ledger
    (opens PING ∷ hears RX 0 ∷ hears RX 1 ∷ hears ERR 0 ∷ hears OK 0 ∷ hears TX_DONE 0 ∷ hears TX_DONE 1 ∷ hears PING 1 ∷ hears 0x82 1 ∷ [])
    ≡ given 1 0 ∷ nobodys ∷ nobodys ∷ nobodys ∷ unexpected ∷ unexpected ∷ unexpected ∷ unexpected ∷ unexpected ∷ []
unfolding new_ledger open_answer lowest count_trailing_zeros ones ones_in is_command first_vacant vacant owner_from has_tag verdict_of verdict_at awaits answers
others = refl

-- the tags wrap after 0xFFFF, and pass over zero and over 1, which is open; after a new connection they go on, and the old ones fit no more
abbrev late : Ledger
late = record { counter = 0xFFFF; used = 2; lines = no_line ∷ record { tag = record { 0 = 1 }; command = PING; accepted = 0 } ∷ replicate 14 no_line }

pub wrapping : answers late (opens PING ∷ opens TX ∷ connects ∷ opens PING ∷ hears OK 1 ∷ hears OK 2 ∷ hears OK 3 ∷ [])
    ≡ given 0xFFFF 0 ∷ given 2 2 ∷ nothing ∷ given 3 0 ∷ unexpected ∷ unexpected ∷ fits PING 0 1 ∷ []
unfolding open_answer lowest count_trailing_zeros ones ones_in is_command first_vacant vacant owner_from has_tag verdict_of verdict_at awaits answers
wrapping = refl

-- LEDGER comes before TYPE
pub refused : (l : Ledger) → (l.used ≡ 0xFFFF → opened_result (open_answer l 0) ≡ refused_with LEDGER)
    × (opened_result (open_answer new_ledger 0) ≡ refused_with TYPE)
unfolding new_ledger open_answer ones ones_in is_command
refused l = (λ e. ap opened_result (answer-by l 0 (eq-eqb _ _ (ap ones e ∙ ones-ones 16)) refl), refl)
