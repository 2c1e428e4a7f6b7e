-- Laws of what a run brings, and of the tally's lists: the closed TX stand first, and what befalls the open ones goes past them.
-- Assumes nothing.
use mathlib.Core.Path.{◌≡◌, refl, ap, ap₂}
use mathlib.Core.Bool.{false, ◌||◌}
use mathlib.Core.Option.{Option, none, some}
use mathlib.Core.List.{List, [], ◌∷◌, ◌++◌, map, map-append, append_assoc}
use Prim.Native.Nat.{ℕ, zero, suc, ◌+◌}
use lib.ListN.{length, length-append}
use Rattle.cobs.specs.Decoding.{decoded}
use Rattle.cobs.specs.Answers.{encoded_max}
use Rattle.frame.specs.Body.{payload_of}
use Rattle.frame.specs.Reading.{open_answer}
use Rattle.frame.specs.declared.Opened.{Opened}
use Rattle.frame.specs.declared.Opened.TheVariants as O
use Rattle.kind.specs.Kinds.{ERR}
use Rattle.device.specs.State.{RadioOf, Radio, free, listening, on_air, orphan, configuring, Setting, Tx, tags_of, free?, waits?, runs?}
use Rattle.device.specs.Messages.{Message, cancelled, seen}
use Rattle.device.specs.Frames.{received, untagged}
use Rattle.device.specs.Reading.{found, frame_in, tagged, brings}
use Rattle.device.specs.Tally.{Entry, entry, reported, dropped, with_radio, waits, open_to, radio_reported, started, wrote, dones, newly_reported}
use Rattle.device.specs.Due.{is_free, is_configuring, reconfiguring}
use Rattle.device.specs.Demands.{Closed, was_reported, was_dropped, closed}

-- the entries of TX with the radio, and of TX that wait, by their tags
abbrev pub at_radio : List ℕ → List Entry
at_radio ts = map (λ t. entry t with_radio) ts

abbrev pub in_queue : List ℕ → List Entry
in_queue ts = map (λ t. entry t waits) ts

-- ---- a run

-- what a run brings, to the device and to an observer
pub run-brings : (run : List ℕ) → received run ≡ brings run
unfolding received brings frame_in
run-brings run = go (open_answer run encoded_max)
  where
    go : (o : Opened) → untagged o (payload_of (decoded run)) ≡ tagged (found o (payload_of (decoded run)))
    go (O.Body k zero n) = refl
    go (O.Body k (suc t) n) = refl
    go (O.Refused r) = refl

-- ---- the radio, as the device asks of it and as an observer does

pub same-free : {C : Type 0} (r : RadioOf C) → free? r ≡ is_free r
same-free free = refl
same-free (listening t) = refl
same-free (on_air t) = refl
same-free orphan = refl
same-free (configuring c) = refl

pub same_runs : {C : Type 0} (r : RadioOf C) → runs? r ≡ is_configuring r
same_runs free = refl
same_runs (listening t) = refl
same_runs (on_air t) = refl
same_runs orphan = refl
same_runs (configuring c) = refl

pub same-stalled : (p : Option Setting) (r : Radio) → (waits? p || runs? r) ≡ reconfiguring p r
same-stalled none r = same_runs r
same-stalled (some c) r = refl

-- ---- past the closed ones

-- an f that moves no closed one goes past them
past : (f : Entry → Entry) → ((x : Closed) → f (closed x) ≡ closed x) → (c : List Closed) (l : List Entry)
    → map f (map closed c ++ l) ≡ map closed c ++ map f l
past f h [] l = refl
past f h (x ∷ c) l = ap₂ (λ y ys. y ∷ ys) (h x) (past f h c l)

stays-radio : (x : Closed) → radio_reported (closed x) ≡ closed x
stays-radio (was_reported t) = refl
stays-radio (was_dropped t) = refl

stays-reported : (x : Closed) → open_to reported (closed x) ≡ closed x
stays-reported (was_reported t) = refl
stays-reported (was_dropped t) = refl

stays-dropped : (x : Closed) → open_to dropped (closed x) ≡ closed x
stays-dropped (was_reported t) = refl
stays-dropped (was_dropped t) = refl

pub past-radio : (c : List Closed) (l : List Entry) → map radio_reported (map closed c ++ l) ≡ map closed c ++ map radio_reported l
past-radio = past radio_reported stays-radio

pub past-reported : (c : List Closed) (l : List Entry) → map (open_to reported) (map closed c ++ l) ≡ map closed c ++ map (open_to reported) l
past-reported = past (open_to reported) stays-reported

pub past-dropped : (c : List Closed) (l : List Entry) → map (open_to dropped) (map closed c ++ l) ≡ map closed c ++ map (open_to dropped) l
past-dropped = past (open_to dropped) stays-dropped

pub past-started : (c : List Closed) (l : List Entry) → started (map closed c ++ l) ≡ map closed c ++ started l
past-started [] l = refl
past-started (was_reported t ∷ c) l = ap (λ ys. entry t reported ∷ ys) (past-started c l)
past-started (was_dropped t ∷ c) l = ap (λ ys. entry t dropped ∷ ys) (past-started c l)

pub past-newly : (c : List Closed) (l m : List Entry) → newly_reported (map closed c ++ l) (map closed c ++ m) ≡ newly_reported l m
past-newly [] l m = refl
past-newly (was_reported t ∷ c) l m = past-newly c l m
past-newly (was_dropped t ∷ c) l m = past-newly c l m

pub closed-append : (c d : List Closed) (l : List Entry) → map closed (c ++ d) ++ l ≡ map closed c ++ (map closed d ++ l)
closed-append [] d l = refl
closed-append (x ∷ c) d l = ap (λ ys. closed x ∷ ys) (closed-append c d l)

-- ---- the waiting ones

pub queue-radio : (ts : List ℕ) → map radio_reported (in_queue ts) ≡ in_queue ts
queue-radio [] = refl
queue-radio (t ∷ ts) = ap (λ ys. entry t waits ∷ ys) (queue-radio ts)

pub queue-reported : (ts : List ℕ) → map (open_to reported) (in_queue ts) ≡ map closed (map was_reported ts) ++ []
queue-reported [] = refl
queue-reported (t ∷ ts) = ap (λ ys. entry t reported ∷ ys) (queue-reported ts)

pub queue-dropped : (ts : List ℕ) → map (open_to dropped) (in_queue ts) ≡ map closed (map was_dropped ts) ++ []
queue-dropped [] = refl
queue-dropped (t ∷ ts) = ap (λ ys. entry t dropped ∷ ys) (queue-dropped ts)

pub tags-more : (ws : List Tx) (x : Tx) → tags_of (ws ++ (x ∷ [])) ≡ tags_of ws ++ (x.tag ∷ [])
tags-more [] x = refl
tags-more (w ∷ ws) x = ap (λ (ts : List ℕ). w.tag ∷ ts) (tags-more ws x)

pub queue-more : (ws : List Tx) (x : Tx) → in_queue (tags_of (ws ++ (x ∷ []))) ≡ in_queue (tags_of ws) ++ (entry x.tag waits ∷ [])
queue-more ws x = rw (tags-more ws x, map-append)

pub length-queue : (ws : List Tx) (x : Tx) → length (tags_of (ws ++ (x ∷ []))) ≡ length (tags_of ws) + 1
length-queue ws x = rw (tags-more ws x, length-append)

-- ---- what is newly reported

pub newly-more : (ts : List ℕ) (t : ℕ) → newly_reported (in_queue ts) (in_queue ts ++ (entry t waits ∷ [])) ≡ []
newly-more [] t = refl
newly-more (u ∷ ts) t = newly-more ts t

pub newly-reported : (ts : List ℕ) → newly_reported (in_queue ts) (map closed (map was_reported ts) ++ []) ≡ ts
newly-reported [] = refl
newly-reported (t ∷ ts) = ap (λ us. t ∷ us) (newly-reported ts)

pub newly-dropped : (ts : List ℕ) → newly_reported (in_queue ts) (map closed (map was_dropped ts) ++ []) ≡ []
newly-dropped [] = refl
newly-dropped (t ∷ ts) = newly-dropped ts

pub newly-self : (l : List Entry) → newly_reported l l ≡ []
newly-self [] = refl
newly-self (entry t reported ∷ l) = newly-self l
newly-self (entry t dropped ∷ l) = newly-self l
newly-self (entry t with_radio ∷ l) = newly-self l
newly-self (entry t waits ∷ l) = newly-self l

-- ---- tags

-- the tags of the reported ones among closed ones
abbrev pub reported_of : List Closed → List ℕ
reported_of [] = []
reported_of (was_reported t ∷ c) = t ∷ reported_of c
reported_of (was_dropped t ∷ c) = reported_of c

pub all-reported : (ts : List ℕ) → reported_of (map was_reported ts) ≡ ts
all-reported [] = refl
all-reported (t ∷ ts) = ap (λ us. t ∷ us) (all-reported ts)

pub none-reported : (ts : List ℕ) → reported_of (map was_dropped ts) ≡ []
none-reported [] = refl
none-reported (t ∷ ts) = none-reported ts

pub dones-append : (xs ys : List Message) → dones (map seen (xs ++ ys)) ≡ dones (map seen xs) ++ dones (map seen ys)
dones-append [] ys = refl
dones-append (m ∷ xs) ys = rw (dones-append xs ys, append_assoc)

pub dones-cancelled : (ts : List ℕ) → dones (map seen (cancelled ts)) ≡ ts
dones-cancelled [] = refl
dones-cancelled (t ∷ ts) = ap (λ us. t ∷ us) (dones-cancelled ts)

pub no-err : (ts : List ℕ) → wrote ERR (map seen (cancelled ts)) ≡ false
no-err [] = refl
no-err (t ∷ ts) = no-err ts
