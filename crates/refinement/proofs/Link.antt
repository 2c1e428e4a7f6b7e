-- The host's side, in code and in the definition: tick, disconnect and byte.
-- Assumes nothing.
use mathlib.Core.Path.{◌≡◌, refl, sym, ap, ap₂, subst, ◌∙◌}
use mathlib.Core.Bool.{Bool, true, false, cond, not, ◌&&◌, ◌||◌}
use mathlib.Core.List.{List, [], ◌∷◌, ◌++◌}
use mathlib.Core.Option.{Option}
use Prim.Native.Nat.{ℕ, suc, ◌+◌, ◌≤◌, ◌<◌}
use native.Mathlib.Omega.{arith}
use native.Mathlib.Numerals.{add-one}
use borrow.Author.Tests.{leb-true, leb-false, ltb-true, ltb-false, eqb-true, eqb-false}
use lib.Dec.{leb, ltb, eqb}
use lib.ListN.{length, set, length-append, length-set}
use lib.Seq.{take-suc-set, length-take-le}
use Rattle.device.specs.State.{State}
use Rattle.device.specs.State as S
use Rattle.device.specs.Events.{ticks_max}
use Rattle.device.specs.Events as E
use Rattle.control.specs.declared.Radio.{Radio}
use Rattle.control.specs.declared.Air.{Air}
use Rattle.control.specs.declared.Device.{Device}
use Rattle.control.specs.declared.Order.TheVariants.{Nothing, Standby}
use Rattle.control.specs.Control.{link, with_link, free?, runs?, stalled, Done, does}
use Rattle.session.specs.Session.{ended, end_session, on_tick, on_disconnect}
use Rattle.link.specs.Link.{joins_run, on_join}
use Rattle.refinement.specs.Seen.{order_in}
use Rattle.refinement.proofs.Stands.{RunAs, as-run, as_long, RadioAs, as-free, as-listening, as-on_air, as-orphan, as-configuring, PendingAs}
use Rattle.refinement.proofs.Stands.{as_none, as_some, AirAs, Stands, Agrees, quietly, empty-link, empty-air, empty-inbox, with-link}

-- ---- stalled

same_runs : {m : List ℕ} {r : Radio} {q : S.Radio} → RadioAs m r q → runs? r ≡ S.runs? q
same_runs as-free = refl
same_runs as-listening = refl
same_runs as-on_air = refl
same_runs as-orphan = refl
same_runs (as-configuring x) = refl

same-waits : {m : List ℕ} {v : Bool} {o : Option S.Setting} → PendingAs m v o → v ≡ S.waits? o
same-waits as_none = refl
same-waits (as_some x) = refl

pub same-stalled : {a : Air} {m : List ℕ} {b : S.Air} → AirAs a m b → stalled a ≡ S.stalled b
same-stalled h = ap₂ ◌||◌ (same-waits h.pending) (same_runs h.radio)

-- ---- a session's end

ended-as : {m : List ℕ} {r : Radio} {q : S.Radio} → RadioAs m r q → RadioAs m (ended r) (E.ended q)
ended-as as-free = as-free
ended-as as-listening = as-free
ended-as as-on_air = as-orphan
ended-as as-orphan = as-orphan
ended-as (as-configuring x) = as-configuring x

ended-order : {m : List ℕ} {r : Radio} {q : S.Radio} → RadioAs m r q
    → order_in m (cond (free? (ended r)) Standby Nothing) ≡ cond (S.free? (E.ended q)) S.standby S.nothing
ended-order as-free = refl
ended-order as-listening = refl
ended-order as-on_air = refl
ended-order as-orphan = refl
ended-order (as-configuring x) = refl

module _ {d : Device} {run m p : List ℕ} {s : State} (h : Stands d run m p s) where
  pub ends : Agrees (end_session d) run m p (E.end_session s.air.radio)
  unfolding end_session
  ends =
      record {
        next =
            record {
              link = empty-link false 0 (omega arith) h.link.long;
              mode = refl;
              air = empty-air d.air.first (ended-as h.air.radio) h.air.first h.air.long;
              inbox = empty-inbox d.inbox.first refl h.inbox.first h.inbox.long;
            };
        writes = refl;
        order = ended-order h.air.radio;
      }

  -- a session is opened
  pub opens : Stands (with_link d (link true 0 0)) run m p (S.with_link (S.link true 0 []) s)
  opens = with-link h (empty-link true 0 (omega arith) h.link.long)

  -- ---- tick, disconnect

  abbrev ticks : Bool → Bool → Done
  ticks v a = cond v (cond a (end_session d) (does (with_link d (link true (d.link.ticks + 1) d.link.run)) [] Nothing)) (does d [] Nothing)

  pub on-tick : Agrees (on_tick d) run m p (E.on_tick s)
  on-tick =
      subst (λ (v : Bool). Agrees (ticks v (leb 1000 (d.link.ticks + 1))) run m p (E.on_tick s))
      (sym (ap₂ (λ (a b : Bool). a && not b) h.link.session (same-stalled h.air)))
      (go (s.link.session && not (S.stalled s.air)) (leb 1000 (d.link.ticks + 1)) (eqb (suc s.link.ticks) ticks_max) refl refl)
    where
      go : (v a b : Bool) → leb 1000 (d.link.ticks + 1) ≡ a → eqb (suc s.link.ticks) 1000 ≡ b
          → Agrees (ticks v a) run m p
          (cond v (cond b (E.end_session s.air.radio) (E.does (S.with_link (S.link true (suc s.link.ticks) s.link.run) s) [] S.nothing))
          (E.does s [] S.nothing))
      go true true true e f = ends
      go true false false e f =
          let n = leb-false 1000 (d.link.ticks + 1) e in
          quietly
          (with-link h record {
            session = refl;
            ticks = omega (arith, h.link.ticks);
            bounded = omega (arith, h.link.ticks);
            bytes = h.link.bytes;
            long = h.link.long;
          })
      go true true false e f =
          absurd (eqb-false (suc s.link.ticks) 1000 f (omega (arith, leb-true 1000 (d.link.ticks + 1) e, h.link.ticks, h.link.bounded)))
      go true false true e f = absurd (omega (arith, leb-false 1000 (d.link.ticks + 1) e, eqb-true (suc s.link.ticks) 1000 f, h.link.ticks))
      go false a b e f = quietly h

  pub on-disconnect : Agrees (on_disconnect d.link.session d) run m p (E.on_disconnect s.link.session s)
  on-disconnect =
      subst (λ (v : Bool). Agrees (on_disconnect v d) run m p (E.on_disconnect s.link.session s)) (sym h.link.session) (go s.link.session)
    where
      go : (v : Bool) → Agrees (on_disconnect v d) run m p (E.on_disconnect v s)
      go true = ends
      go false =
          let k = empty-link false s.link.ticks h.link.bounded h.link.long in
          quietly (with-link h record { session = refl; ticks = h.link.ticks; bounded = k.bounded; bytes = k.bytes; long = k.long })

  -- ---- a byte that joins the run

  grows : (b n : ℕ) {rs : List ℕ} → RunAs run n rs → n < 282 → RunAs (set run n b) (n + 1) (rs ++ (b ∷ []))
  grows b n (as-run l e) k =
      as-run {n = n + 1} (omega arith) (ap (λ (xs : List ℕ). xs ++ (b ∷ [])) e ∙ rw add-one (sym (take-suc-set run n b (omega (arith, h.link.long)))))
  grows b n (as_long l e) k = absurd (omega arith)

  too_long : (b n : ℕ) {rs : List ℕ} → RunAs run n rs → 282 ≤ n → RunAs run 283 (rs ++ (b ∷ []))
  too_long b n {rs} (as-run l e) k =
      as_long {rs = rs ++ (b ∷ [])} refl (rw length-append (omega (arith, ap length e, length-take-le n run (omega (arith, h.link.long)))))
  too_long b n {rs} (as_long l e) k = as_long {rs = rs ++ (b ∷ [])} refl (rw length-append (omega arith))

  joins : {n : ℕ} {rs run' : List ℕ} → RunAs run' n rs → length run' ≡ 282
      → Agrees (joins_run d n) run' m p (E.does (S.with_link (S.link s.link.session s.link.ticks rs) s) [] S.nothing)
  joins x l =
      quietly (with-link h record { session = h.link.session; ticks = h.link.ticks; bounded = h.link.bounded; bytes = x; long = l })

  pub on-join : (b : ℕ) → Agrees (on_join b run m d).gives (on_join b run m d).run (on_join b run m d).commands p
      (E.does (S.with_link (S.link s.link.session s.link.ticks (s.link.run ++ (b ∷ []))) s) [] S.nothing)
  unfolding on_join
  on-join b = go (ltb d.link.run 282) refl
    where
      go : (v : Bool) → ltb d.link.run 282 ≡ v
          → Agrees (joins_run d (cond v (d.link.run + 1) 283)) (cond v (set run d.link.run b) run) m p
          (E.does (S.with_link (S.link s.link.session s.link.ticks (s.link.run ++ (b ∷ []))) s) [] S.nothing)
      go true e = joins (grows b d.link.run h.link.bytes (ltb-true d.link.run 282 e)) (length-set run d.link.run b ∙ h.link.long)
      go false e = joins (too_long b d.link.run h.link.bytes (ltb-false d.link.run 282 e)) h.link.long
