-- The demands on the defined device over every list of events from power-up: demands 1 and 2 by what was seen, what is written and ordered, what is written is
-- read back, demand 3, 01's last line on events, the drop count, and when receiving is on.
-- The idea: a history is good where its tally is that of its device (Keeping), and so is what the observer knows (Observing), each number is a value of its
-- type (Ranges), and its bytes are the wires of messages that are read back (Wires); one event more keeps that.
-- Assumes nothing.
use mathlib.Core.Path.{◌≡◌, refl, sym, ap, ap₂, ◌∙◌}
use mathlib.Core.Bool.{Bool, true, false}
use mathlib.Core.List.{List, [], ◌∷◌, ◌++◌, map, append-nil}
use Prim.Native.Nat.{ℕ, zero, suc, ◌+◌, ◌≤◌, ◌<◌, zero-le, min}
use native.Mathlib.Omega.{arith}
use native.Mathlib.Nat.{le_refl, le_trans, le_of_suc-le-suc, not-suc-le-zero}
use lib.ListN.{length, take, get_or, length-append, length-map}
use lib.Dec.{leb}
use borrow.Author.Tests.{leb-true, leb-false}
use Rattle.scalar.specs.Bytes.{Each}
use Rattle.board.specs.Board.{Board}
use Rattle.device.specs.State.{Radio, free, listening, on_air, orphan, configuring, Event, Input, held, tags_of, open#}
use Rattle.device.specs.Messages.{Message, messages_bytes, seen}
use Rattle.device.specs.Events.{Out, step, reply}
use Rattle.device.specs.Tally.{Entry, entry, waits, open?, Tally, tallied, dones, reported_tags, newly_reported}
use Rattle.device.specs.Observer.{Observer, observed}
use Rattle.device.specs.Due.{number_due, messages_due, order_due}
use Rattle.device.specs.Ranges.{InputIn, BoardIn}
use Rattle.device.specs.Demands.{Demand1Seen, messages_next, Contents, Demand2Seen, eframes, Demand2Wire, Demand3, InTime, DropCount, drop_counts}
use Rattle.device.specs.Demands.{Receiving, defined, History, onward, after, history, Closed, was_reported, was_dropped, closed}
use Rattle.device.specs.Demands.{open_count, outcomes, place_of}
use Rattle.device.proofs.Laws.{at_radio, in_queue, reported_of, dones-append}
use Rattle.device.proofs.Wires.{AllSendable, sendable-append, wires-append, read_all}
use Rattle.device.proofs.Back.{all_back}
use Rattle.device.proofs.Ranges as R
use Rattle.device.proofs.Refusals.{demand1}
use Rattle.device.proofs.Keeping.{length-open, tally_of, tally_out, Shaped, is_free, none-waits, Keeps, keeps, passed}
use Rattle.device.proofs.Observing.{known_of, known_out, MatchesDue, returns}
use Rattle.device.proofs.Due.{damage-due, eframes-due, drops-due}

-- ---- good histories

record Good (b : Board) (h : History (defined b)) : Type 0 where
  before : List Closed
  agrees : h.tally ≡ tally_of before h.device
  shaped : Shaped h.device
  ranges : R.StateIn h.device
  sent : List Message
  sendable : AllSendable sent
  bytes : h.bytes ≡ messages_bytes sent
  wrote : dones (map seen sent) ≡ reported_of before
  lost : ℕ
  knows : h.observer ≡ known_of lost h.device
  drops : h.device.inbox.drops ≡ min lost 65535

reported-append : (xs ys : List Closed) → reported_of (xs ++ ys) ≡ reported_of xs ++ reported_of ys
reported-append [] ys = refl
reported-append (was_reported t ∷ xs) ys = ap (λ ts. t ∷ ts) (reported-append xs ys)
reported-append (was_dropped t ∷ xs) ys = reported-append xs ys

-- the tally reads the messages off the bytes
read_off : (e : Event) (o : Out) (t : Tally) → AllSendable o.written → tallied e (reply o) t ≡ tally_out e o t
unfolding tallied
read_off e o t s = rw (read_all o.written s)

-- and so does the observer
seen-off : (e : Event) (o : Out) (t : Tally) (k : Observer) → AllSendable o.written → observed e (reply o) t k ≡ known_out e o t k
unfolding observed
seen-off e o t k s = rw (read_all o.written s)

module _ (b : Board) (board : BoardIn b) where
  -- what one event more does
  module _ {h : History (defined b)} (g : Good b h) (i : Input) (l : InputIn i) where
    kept : Keeps g.before h.device i.event (step b h.device i)
    kept = keeps b g.before h.device i g.shaped

    ranged : R.Kept (step b h.device i)
    ranged = R.keeps b board h.device g.ranges i l

    tally-next : (onward (defined b) h i).tally ≡ tally_of (g.before ++ kept.more) (step b h.device i).next
    unfolding onward
    tally-next =
        let o = step b h.device i in
        read_off i.event o h.tally ranged.sendable ∙ ap (tally_out i.event o) g.agrees ∙ kept.agrees

    reports-next : newly_reported h.tally.txs (onward (defined b) h i).tally.txs ≡ reported_of kept.more
    reports-next = ap₂ (λ (t u : Tally). newly_reported t.txs u.txs) g.agrees tally-next ∙ kept.reports

    told : MatchesDue b g.before g.lost h.device i.event (step b h.device i)
    told = returns b g.before g.lost h.device i g.drops (none-waits g.shaped)

    observer-next : (onward (defined b) h i).observer ≡ known_of told.lost (step b h.device i).next
    unfolding onward
    observer-next =
        seen-off i.event (step b h.device i) h.tally h.observer ranged.sendable
        ∙ ap₂ (known_out i.event (step b h.device i)) g.agrees g.knows
        ∙ told.knows

    good-next : Good b (onward (defined b) h i)
    unfolding onward
    good-next =
        record {
          before = g.before ++ kept.more;
          agrees = tally-next;
          shaped = kept.shape;
          ranges = ranged.next;
          sent = g.sent ++ (step b h.device i).written;
          sendable = sendable-append g.sent (step b h.device i).written g.sendable ranged.sendable;
          bytes = rw (wires-append, g.bytes);
          wrote = rw (dones-append, reported-append, g.wrote, kept.writes);
          lost = told.lost;
          knows = observer-next;
          drops = told.drops;
        }

  good-after : (is : List Input) → Each InputIn is → {h : History (defined b)} → Good b h → Good b (after (defined b) h is)
  unfolding after
  good-after [] l g = g
  good-after (i ∷ is) l g = good-after is l.1 (good-next g i l.0)

  good : (is : List Input) → Each InputIn is → Good b (history (defined b) is)
  unfolding history messages_bytes
  good is l =
      good-after is l record {
        before = [];
        agrees = refl;
        shaped = is_free;
        ranges = R.at-power-up;
        sent = [];
        sendable = tt;
        bytes = refl;
        wrote = refl;
        lost = 0;
        knows = refl;
        drops = refl;
      }

  -- ---- demand 1, by what was seen

  pub demand1-seen : (is : List Input) → Each InputIn is → (i : Input) → InputIn i → Demand1Seen (defined b) is i
  unfolding messages_bytes
  demand1-seen is l i e =
      let g = good is l in
      let s = (history (defined b) is).device in
      let d = demand1 b s i in
      record {
        returns = d.returns ∙ ap (number_due i.room i.event) (sym g.knows);
        stays = λ n k. let r = d.stays n (sym d.returns ∙ k) in (ap (λ o. messages_bytes o.written) r, ap (λ o. o.order) r, ap (λ o. o.next) r);
      }

  -- ---- what is written and ordered

  -- the messages that are written are those that are due
  writes-due : (is : List Input) → Each InputIn is → (i : Input) → InputIn i
      → (step b (history (defined b) is).device i).written ≡ messages_next b (defined b) is i
  writes-due is l i e =
      let g = good is l in
      (told g i e).written ∙ sym (ap₂ (messages_due b (step b (history (defined b) is).device i).number i.event) g.agrees g.knows)

  pub contents : (is : List Input) → Each InputIn is → (i : Input) → InputIn i → Contents b (defined b) is i
  contents is l i e =
      let g = good is l in
      record {
        count = refl;
        bytes = ap messages_bytes (writes-due is l i e);
        order = (told g i e).order ∙ sym (ap₂ (order_due b (step b (history (defined b) is).device i).number i.event) g.agrees g.knows);
      }

  -- ---- demand 2, the bytes

  pub demand2-wire : (is : List Input) → Each InputIn is → (i : Input) → InputIn i → Demand2Wire b (defined b) is i
  demand2-wire is l i e =
      let ms = (step b (history (defined b) is).device i).written in
      let s = (ranged (good is l) i e).sendable in
      record { split = read_all ms s ∙ ap (map seen) (writes-due is l i e); back = rw (← writes-due is l i e) (all_back ms s) }

  -- ---- demand 2, damaged frames, by what was seen

  pub demand2-seen : (is : List Input) → Each InputIn is → (i : Input) → InputIn i → Demand2Seen (defined b) is i
  unfolding messages_bytes
  demand2-seen is l i e =
      let h = history (defined b) is in
      let n = (step b h.device i).number in
      let c = contents is l i e in
      record {
        returns = ap eframes (demand2-wire is l i e).split ∙ eframes-due b h.tally h.observer n i.event;
        alone = λ k d.
            let m = damage-due b h.tally h.observer i.event d in
            (c.bytes ∙ rw (k, m.0) (append-nil _), c.order ∙ rw k m.1);
      }

  -- ---- demand 3

  -- the reported ones of a good tally
  none_open : (ts us : List ℕ) → reported_tags (at_radio ts ++ in_queue us) ≡ []
  none_open [] [] = refl
  none_open [] (u ∷ us) = none_open [] us
  none_open (t ∷ ts) us = none_open ts us

  closed-first : (c : List Closed) (l : List Entry) → reported_tags (map closed c ++ l) ≡ reported_of c ++ reported_tags l
  closed-first [] l = refl
  closed-first (was_reported t ∷ c) l = ap (λ ts. t ∷ ts) (closed-first c l)
  closed-first (was_dropped t ∷ c) l = closed-first c l

  at_most_one : (r : Radio) → length (at_radio (held r)) ≤ 1
  at_most_one free = zero-le
  at_most_one (listening t) = le_refl 1
  at_most_one (on_air t) = le_refl 1
  at_most_one orphan = zero-le
  at_most_one (configuring c) = zero-le

  pub demand3 : (is : List Input) → Each InputIn is → Demand3 (defined b) is
  demand3 is l =
      let g = good is l in
      let h = history (defined b) is in
      record {
        before = g.before;
        places = ap (λ (t : Tally). t.txs) g.agrees;
        one = at_most_one h.device.air.radio;
        bounded = rw (length-open h.device) g.ranges.air.bounded;
        each = λ i e. ap dones (read_all (step b h.device i).written (ranged g i e).sendable) ∙ (kept g i e).writes ∙ sym (reports-next g i e);
        whole = rw (g.bytes, read_all g.sent g.sendable, g.agrees, closed-first, none_open, append-nil) g.wrote;
        most = λ i e. (ranged g i e).most;
        most_but_packets = λ i e w. (ranged g i e).others (rw (sym (read_all (step b h.device i).written (ranged g i e).sendable)) w);
      }

  -- ---- 01's last line on events

  abbrev closed# : {h : History (defined b)} → Good b h → ℕ
  closed# g = length g.before

  -- one event more: no number is lost, no closed one opens, and while any is open each busy, sent or fault taken closes one
  module _ {h : History (defined b)} (g : Good b h) (i : Input) (l : InputIn i) where
    more : closed# g + length (kept g i l).more ≡ closed# (good-next g i l)
    unfolding good-next
    more = sym (length-append g.before (kept g i l).more)

    no-loss : closed# g + open# h.device.air ≤ closed# (good-next g i l) + open# (onward (defined b) h i).device.air
    unfolding onward
    no-loss = omega (arith, more, (kept g i l).grows)

    gained : 0 < open# (onward (defined b) h i).device.air → closed# g + passed i.event (step b h.device i).number ≤ closed# (good-next g i l)
    unfolding onward
    gained o = omega (arith, more, (kept g i l).pace o)

  stays : (is : List Input) (l : Each InputIn is) {h : History (defined b)} (g : Good b h) → closed# g ≤ closed# (good-after is l g)
  unfolding good-after after
  stays [] l g = le_refl _
  stays (i ∷ is) l g = le_trans (omega (arith, more g i l.0)) (stays is l.1 (good-next g i l.0))

  -- the TX with number n is closed once as many have ended as are open up to it
  late : (is : List Input) (l : Each InputIn is) {h : History (defined b)} (g : Good b h) (n : ℕ)
      → n < closed# g + open# h.device.air → suc n ≤ closed# g + outcomes (defined b) h is
      → n < closed# (good-after is l g)
  unfolding good-after after outcomes
  late [] l g n h k = omega arith
  late (i ∷ is) l {h} g n m k = go (leb (open# (onward (defined b) h i).device.air) 0) refl (late is l.1 (good-next g i l.0) n)
    where
      go : (v : Bool) → leb (open# (onward (defined b) h i).device.air) 0 ≡ v
          → (n < closed# (good-next g i l.0) + open# (onward (defined b) h i).device.air
          → suc n ≤ closed# (good-next g i l.0) + outcomes (defined b) (onward (defined b) h i) is
          → n < closed# (good-after is l.1 (good-next g i l.0)))
          → n < closed# (good-after is l.1 (good-next g i l.0))
      go true z ih = omega (arith, no-loss g i l.0, leb-true (open# (onward (defined b) h i).device.air) 0 z, stays is l.1 (good-next g i l.0))
      go false z ih = ih (omega (arith, no-loss g i l.0)) (omega (arith, gained g i l.0 (leb-false (open# (onward (defined b) h i).device.air) 0 z)))

  -- the same of the tally: how many are open before number n, and its place
  queue-opens : (n : ℕ) (ts : List ℕ) → n ≤ length ts → open_count (take n (in_queue ts)) ≡ n
  unfolding open_count
  queue-opens zero ts h = refl
  queue-opens (suc n) [] h = absurd (not-suc-le-zero h)
  queue-opens (suc n) (t ∷ ts) h = omega (arith, queue-opens n ts (le_of_suc-le-suc h))

  radio-opens : (n : ℕ) (ts us : List ℕ) → n ≤ length (ts ++ us) → open_count (take n (at_radio ts ++ in_queue us)) ≡ n
  unfolding open_count
  radio-opens n [] us h = queue-opens n us h
  radio-opens zero (t ∷ ts) us h = refl
  radio-opens (suc n) (t ∷ ts) us h = omega (arith, radio-opens n ts us (le_of_suc-le-suc h))

  open-before : (n : ℕ) (c : List Closed) (ts us : List ℕ) → n ≤ length c + length (ts ++ us)
      → n ≤ length c + open_count (take n (map closed c ++ (at_radio ts ++ in_queue us)))
  unfolding open_count
  open-before n [] ts us h = omega (arith, radio-opens n ts us (omega arith))
  open-before zero (x ∷ c) ts us h = zero-le
  open-before (suc n) (was_reported t ∷ c) ts us h = omega (arith, open-before n c ts us (omega arith))
  open-before (suc n) (was_dropped t ∷ c) ts us h = omega (arith, open-before n c ts us (omega arith))

  closed_at : (c : List Closed) (l : List Entry) (n : ℕ) (d : Entry) → n < length c → open? (place_of (get_or (map closed c ++ l) n d)) ≡ false
  closed_at [] l n d h = absurd (not-suc-le-zero h)
  closed_at (was_reported t ∷ c) l zero d h = refl
  closed_at (was_dropped t ∷ c) l zero d h = refl
  closed_at (x ∷ c) l (suc n) d h = closed_at c l n d (le_of_suc-le-suc h)

  pub in-time : (is : List Input) → Each InputIn is → InTime (defined b) is
  in-time is l n m js r k =
      let g = good is l in
      let e = good-after js r g in
      let s = (history (defined b) is).device in
      let a : length (history (defined b) is).tally.txs ≡ closed# g + open# s.air =
      ap (λ (t : Tally). length t.txs) g.agrees ∙ rw (length-append, length-map, length-open s) in
      let o : n ≤ closed# g + open_count (take n (history (defined b) is).tally.txs) =
      rw g.agrees (open-before n g.before (held s.air.radio) (tags_of s.air.waiting) (omega arith)) in
      rw e.agrees (closed_at e.before _ n (entry 0 waits) (late js r g n (omega arith) (omega arith)))

  -- ---- the drop count

  pub drop-count : (is : List Input) → Each InputIn is → DropCount (defined b) is
  drop-count is l i e =
      let h = history (defined b) is in
      ap drop_counts (demand2-wire is l i e).split ∙ drops-due b h.tally h.observer (step b h.device i).number i.event

  -- ---- receiving

  pub receiving : (is : List Input) → Each InputIn is → Receiving (defined b) is
  receiving is l =
      let g = good is l in
      record {
        session_on = R.session_on g.ranges.receives;
        configured = R.if-configured g.ranges.receives;
        session_seen = rw g.agrees;
        config_seen = rw g.knows;
        receiving_seen = rw g.knows;
      }
