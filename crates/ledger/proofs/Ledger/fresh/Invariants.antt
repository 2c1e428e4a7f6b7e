-- The invariant: the candidates passed have not decided it. So many are left before the one that does.
-- Assumes nothing.
use Rattle.std.proofs.Common.{◌≡◌, ◌+◌, ◌-◌, ◌%◌, ◌<◌, ℕ}
use Rattle.ledger.specs.Lines.{first_vacant, candidates}
use Rattle.ledger.proofs.Ledger.fresh.Given as goal

abbrev pub invariant-loop-self : goal.invariant-loop-self
invariant-loop-self l =
    let now = l.fn.self in
    (l.tag < 0x10000) × (k : ℕ) × (first_vacant k now.lines now.used l.tag ≡ first_vacant candidates now.lines now.used now.counter)

abbrev pub decreases-loop-self : goal.decreases-loop-self
decreases-loop-self l = (first_vacant candidates l.fn.self.lines l.fn.self.used l.fn.self.counter + 0x10000 - l.tag) % 0x10000
