-- What is demanded of a device after a list of events holds of every device that goes in step with it: proved of one, it is carried to the other.
-- The idea: the two answer alike, and the tally, what the observer knows and the bytes are made of events and answers alone.
-- Assumes nothing.
use mathlib.Core.Path.{◌≡◌, refl}
use mathlib.Core.List.{List, [], ◌∷◌, map}
use Prim.Native.Nat.{ℕ, suc}
use Rattle.scalar.specs.Bytes.{Each}
use Rattle.board.specs.Board.{Board}
use Rattle.device.specs.Demands.{System, History, onward, after, history, Demand1Seen, Contents}
use Rattle.device.specs.Demands.{Demand2Seen, Demand2Wire, Demand3, outcomes, InTime, DropCount, Receiving}

-- The device y goes in step with z: what y is given is given to z by g, and R joins their states. R may say more of the two states than is asked for here.
pub record InStep (y z : System) (g : y.Given → z.Given) (R : y.State → z.State → Type 0) : Type 0 where
  pub event : (c : y.Given) → y.event c ≡ z.event (g c)
  pub room : (c : y.Given) → y.room c ≡ z.room (g c)
  pub given_in : (c : y.Given) → y.GivenIn c → z.GivenIn (g c)
  pub power_up : R y.power_up z.power_up
  pub answer : (s : y.State) (t : z.State) → R s t → (c : y.Given) → y.GivenIn c → y.answer s c ≡ z.answer t (g c)
  pub next : (s : y.State) (t : z.State) → R s t → (c : y.Given) → y.GivenIn c → R (y.next s c) (z.next t (g c))
  pub stays : (s : y.State) (t : z.State) → R s t → (c : y.Given) → y.GivenIn c → (n : ℕ) → (y.answer s c).number ≡ suc n → y.next s c ≡ s
  pub radio : (s : y.State) (t : z.State) → R s t → y.radio s ≡ z.radio t
  pub waiting : (s : y.State) (t : z.State) → R s t → y.waiting s ≡ z.waiting t
  pub session : (s : y.State) (t : z.State) → R s t → y.session s ≡ z.session t
  pub unconfigured : (s : y.State) (t : z.State) → R s t → y.unconfigured s ≡ z.unconfigured t
  pub receiving : (s : y.State) (t : z.State) → R s t → y.receiving s ≡ z.receiving t

-- two histories that differ in the device's state alone, and there as R says
record Alike (y z : System) (R : y.State → z.State → Type 0) (h : History y) (k : History z) : Type 0 where
  device : R h.device k.device
  tally : h.tally ≡ k.tally
  observer : h.observer ≡ k.observer
  bytes : h.bytes ≡ k.bytes

module _ {y z : System} {g : y.Given → z.Given} {R : y.State → z.State → Type 0} (p : InStep y z g R) where
  -- what z is given instead has values of their types, too
  pub given-in : (cs : List y.Given) → Each y.GivenIn cs → Each z.GivenIn (map g cs)
  given-in [] l = tt
  given-in (c ∷ cs) l = (p.given_in c l.0, given-in cs l.1)

  -- ---- histories

  module _ {h : History y} {k : History z} (a : Alike y z R h k) (c : y.Given) (i : y.GivenIn c) where
    answers : y.answer h.device c ≡ z.answer k.device (g c)
    answers = p.answer h.device k.device a.device c i

    alike_next : Alike y z R (onward y h c) (onward z k (g c))
    unfolding onward
    alike_next =
        record {
          device = p.next h.device k.device a.device c i;
          tally = rw (p.event c, answers, a.tally);
          observer = rw (p.event c, answers, a.tally, a.observer);
          bytes = rw (answers, a.bytes);
        }

  alike-after : (cs : List y.Given) → Each y.GivenIn cs → {h : History y} {k : History z} → Alike y z R h k
      → Alike y z R (after y h cs) (after z k (map g cs))
  unfolding after
  alike-after [] l a = a
  alike-after (c ∷ cs) l a = alike-after cs l.1 (alike_next a c l.0)

  alike : (cs : List y.Given) → Each y.GivenIn cs → Alike y z R (history y cs) (history z (map g cs))
  unfolding history
  alike cs l = alike-after cs l record { device = p.power_up; tally = refl; observer = refl; bytes = refl }

  alike-outcomes : (cs : List y.Given) → Each y.GivenIn cs → {h : History y} {k : History z} → Alike y z R h k → outcomes y h cs ≡ outcomes z k (map g cs)
  unfolding outcomes
  alike-outcomes [] l a = refl
  alike-outcomes (c ∷ cs) l a = rw (p.event c, answers a c l.0, alike-outcomes cs l.1 (alike_next a c l.0))

  -- ---- the demands

  module _ (cs : List y.Given) (l : Each y.GivenIn cs) where
    pub demand1-seen-carried : (c : y.Given) → y.GivenIn c → Demand1Seen z (map g cs) (g c) → Demand1Seen y cs c
    demand1-seen-carried c i d =
        let a = alike cs l in
        let e = answers a c i in
        record {
          returns = rw (e, p.room c, p.event c, a.observer) d.returns;
          stays = λ n k.
              let s = d.stays n (rw e at k) in
              (rw e s.0, rw e s.1, p.stays (history y cs).device (history z (map g cs)).device a.device c i n k);
        }

    pub contents-carried : {b : Board} (c : y.Given) → y.GivenIn c → Contents b z (map g cs) (g c) → Contents b y cs c
    contents-carried c i d =
        let a = alike cs l in
        let e = answers a c i in
        record {
          count = rw e d.count;
          bytes = rw (e, p.event c, a.tally, a.observer) d.bytes;
          order = rw (e, p.event c, a.tally, a.observer) d.order;
        }

    pub demand2-seen-carried : (c : y.Given) → y.GivenIn c → Demand2Seen z (map g cs) (g c) → Demand2Seen y cs c
    demand2-seen-carried c i d =
        let a = alike cs l in
        let e = answers a c i in
        record {
          returns = rw (e, p.event c, a.tally) d.returns;
          alone = λ k q. let s = d.alone (rw e at k) (rw (p.event c, a.tally) at q) in (rw e s.0, rw e s.1);
        }

    pub demand2-wire-carried : {b : Board} (c : y.Given) → y.GivenIn c → Demand2Wire b z (map g cs) (g c) → Demand2Wire b y cs c
    demand2-wire-carried c i d =
        let a = alike cs l in
        let e = answers a c i in
        record { split = rw (e, p.event c, a.tally, a.observer) d.split; back = rw (e, p.event c, a.tally, a.observer) d.back }

    pub demand3-carried : Demand3 z (map g cs) → Demand3 y cs
    demand3-carried d =
        let a = alike cs l in
        let r = p.radio (history y cs).device (history z (map g cs)).device a.device in
        let w = p.waiting (history y cs).device (history z (map g cs)).device a.device in
        record {
          before = d.before;
          places = rw (a.tally, r, w) d.places;
          one = rw r d.one;
          bounded = rw (r, w) d.bounded;
          each = λ c i. rw ((alike_next a c i).tally, answers a c i, a.tally) (d.each (g c) (p.given_in c i));
          whole = rw (a.bytes, a.tally) d.whole;
          most = λ c i. rw (answers a c i) (d.most (g c) (p.given_in c i));
          most_but_packets = λ c i. rw (answers a c i) (d.most_but_packets (g c) (p.given_in c i));
        }

    pub in-time-carried : InTime z (map g cs) → InTime y cs
    in-time-carried d n m js r o =
        let a = alike cs l in
        rw (alike-after js r a).tally (d n (rw a.tally at m) (map g js) (given-in js r) (rw (alike-outcomes js r a, a.tally) at o))

    pub drop-count-carried : DropCount z (map g cs) → DropCount y cs
    drop-count-carried d c i =
        let a = alike cs l in
        rw (answers a c i, p.event c, a.observer) (d (g c) (p.given_in c i))

    pub receiving-carried : Receiving z (map g cs) → Receiving y cs
    receiving-carried d =
        let a = alike cs l in
        let v = p.session (history y cs).device (history z (map g cs)).device a.device in
        let u = p.unconfigured (history y cs).device (history z (map g cs)).device a.device in
        let r = p.receiving (history y cs).device (history z (map g cs)).device a.device in
        record {
          session_on = rw (r, v) d.session_on;
          configured = rw (u, r) d.configured;
          session_seen = rw (v, a.tally) d.session_seen;
          config_seen = rw (u, a.observer) d.config_seen;
          receiving_seen = rw (r, a.observer) d.receiving_seen;
        }
