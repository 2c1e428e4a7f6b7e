-- A state that is put into words and taken out again is the same, if each of its numbers is a value of its type.
-- The numbers of a word stand at fixed places, and none reaches into the next: dividing and taking the rest finds each again.
-- Assumes nothing.
use Prim.Native.Nat.{ℕ, ◌+◌, ◌*◌, ◌/◌, ◌%◌, ◌≤◌, ◌<◌}
use mathlib.Core.Path.{◌≡◌, refl, ap, ◌∙◌}
use mathlib.Core.Bool.{Bool, true, false}
use mathlib.Core.List.{List, [], ◌∷◌}
use native.Mathlib.Omega.{arith}
use denote.Enum.Declared.{tag_of}
use types.Run.{OneOf, miss}
use lib.Dec.{eqb}
use Rattle.device.specs.Messages.{yes}
use Rattle.control.specs.declared.Mode.{Mode}
use Rattle.control.specs.declared.Mode.TheVariants.{Unconfigured, Lora, Fsk}
use Rattle.control.specs.declared.Radio.{Radio}
use Rattle.control.specs.declared.Radio.TheVariants.{Free, Listening, OnAir, Orphan, Configuring}
use Rattle.control.specs.declared.Link.{Link}
use Rattle.control.specs.declared.Air.{Air}
use Rattle.control.specs.declared.Inbox.{Inbox}
use Rattle.control.specs.declared.Device.{Device}
use Rattle.control.specs.declared.Order.{Order}
use Rattle.control.specs.declared.Order.TheVariants.{Nothing, Standby, Configure, Transmit, Receive}
use Rattle.control.specs.declared.Reply.{Reply}
use Rattle.control.specs.Control.{power_up, order_number, order_values, reply_numbers}
use Rattle.control.specs.contracts.Order.{the_type}
use Rattle.packed.specs.Words.{mode_number, mode_in, low_bit, link_word, link_in, radio_number, radio_tag, radio_in}
use Rattle.packed.specs.Words.{air_word, air_in, inbox_word, inbox_in, control_words, device_in, order_from}
use Rattle.packed.specs.Ranges.{DeviceIn}

-- ---- bounds

pub yes-small : (b : Bool) → yes b ≤ 1
yes-small true = omega arith
yes-small false = omega arith

pub radio-small : (r : Radio) → radio_number r ≤ 4
radio-small Free = omega arith
radio-small (Listening t) = omega arith
radio-small (OnAir t) = omega arith
radio-small Orphan = omega arith
radio-small Configuring = omega arith

-- ---- an order without values

pub no-values : (o : Order) → ((at n : ℕ) (l : Bool) → o ≡ Configure at n l → ⊥) → ((at n : ℕ) (l : Bool) → o ≡ Transmit at n l → ⊥) → order_values o ≡ 0 ∷
    0 ∷ 0 ∷ 0 ∷ []
no-values Nothing k l = refl
no-values Standby k l = refl
no-values (Configure at n ldro) k l = absurd (k at n ldro refl)
no-values (Transmit at n listen) k l = absurd (l at n listen refl)
no-values Receive k l = refl

-- ---- back from words

mode-back : (m : Mode) → mode_in (mode_number m) ≡ m
mode-back Unconfigured = refl
mode-back Lora = refl
mode-back Fsk = refl

radio-back : (r : Radio) → radio_in (radio_number r) (radio_tag r) ≡ r
radio-back Free = refl
radio-back (Listening t) = refl
radio-back (OnAir t) = refl
radio-back Orphan = refl
radio-back Configuring = refl

yes-back : (b : Bool) → eqb (yes b) 1 ≡ b
yes-back true = refl
yes-back false = refl

-- the lowest bits, whatever stands above them
low1 : (k n : ℕ) → k ≤ 1 → (k + n * 2) % 2 ≡ k
low1 k n h = omega arith

low8 : (k n : ℕ) → k < 0x100 → (k + n * 0x100) % 0x100 ≡ k
low8 k n h = omega arith

low16 : (k n : ℕ) → k < 0x10000 → (k + n * 0x10000) % 0x10000 ≡ k
low16 k n h = omega arith

odd-back : (b : Bool) (n w : ℕ) → w ≡ yes b + n * 2 → low_bit w ≡ b
odd-back b n w e = ap (λ (v : ℕ). eqb (v % 2) 1) e ∙ (ap (λ (v : ℕ). eqb v 1) (low1 (yes b) n (yes-small b)) ∙ yes-back b)

back8 : (k n w : ℕ) → k < 0x100 → w ≡ k + n * 0x100 → w % 0x100 ≡ k
back8 k n w h e = ap (λ (v : ℕ). v % 0x100) e ∙ low8 k n h

back16 : (k n w : ℕ) → k < 0x10000 → w ≡ k + n * 0x10000 → w % 0x10000 ≡ k
back16 k n w h e = ap (λ (v : ℕ). v % 0x10000) e ∙ low16 k n h

link-back : (l : Link) → l.ticks < 0x10000 → l.run < 0x10000 → link_in (link_word l) ≡ l
link-back l t r =
    let y = yes-small l.session in
    let a = odd-back l.session (l.ticks * 0x8000 + l.run * 0x80000000) (link_word l) (omega arith) in
    let b = back16 l.ticks l.run (link_word l / 0x10000) t (omega arith) in
    let c = back16 l.run 0 (link_word l / 0x100000000) r (omega arith) in
    rw (a, b, c) refl

air-back : (x : Air) → radio_tag x.radio < 0x10000 → x.first < 0x100 → x.waiting < 0x100 → air_in (air_word x) ≡ x
air-back x t f n =
    let y = yes-small x.pending in
    let z = radio-small x.radio in
    let v = yes x.pending + x.first * 0x100 + x.waiting * 0x10000 in
    let a = back16 (radio_number x.radio) (radio_tag x.radio + v * 0x10000) (air_word x) (omega arith) (omega arith) in
    let b = back16 (radio_tag x.radio) v (air_word x / 0x10000) t (omega arith) in
    let c = odd-back x.pending (x.first * 0x80 + x.waiting * 0x8000) (air_word x / 0x100000000) (omega arith) in
    let d = back8 x.first x.waiting (air_word x / 0x10000000000) f (omega arith) in
    let e = back8 x.waiting 0 (air_word x / 0x1000000000000) n (omega arith) in
    rw (a, b, c, d, e, radio-back x.radio) refl

inbox-back : (i : Inbox) → i.first < 0x100 → i.held < 0x100 → i.drops < 0x10000 → inbox_in (inbox_word i) ≡ i
inbox-back i f n k =
    let y = yes-small i.receiving in
    let a = odd-back i.receiving (i.first * 0x8000 + i.held * 0x80000000 + i.drops * 0x800000000000) (inbox_word i) (omega arith) in
    let b = back8 i.first (i.held * 0x100 + i.drops * 0x1000000) (inbox_word i / 0x10000) f (omega arith) in
    let c = back8 i.held (i.drops * 0x100) (inbox_word i / 0x100000000) n (omega arith) in
    let d = back16 i.drops 0 (inbox_word i / 0x1000000000000) k (omega arith) in
    rw (a, b, c, d) refl

pub round_trip : (d : Device) → DeviceIn d → device_in (control_words d) ≡ d
unfolding control_words device_in
round_trip d h =
    let a = mode-back d.mode in
    let b = link-back d.link h.ticks h.run in
    let c = air-back d.air h.tag h.first h.waiting in
    let e = inbox-back d.inbox h.ring h.held h.drops in
    rw (a, b, c, e) refl

pub power-up-words : control_words power_up ≡ 0 ∷ 0 ∷ 0 ∷ 0 ∷ []
unfolding control_words
power-up-words = refl

-- ---- an order is told whole

told : (n w : ℕ) (o : Order) → order_from (n ∷ w ∷ order_number o ∷ order_values o) ≡ o
unfolding order_from
told n w Nothing = refl
told n w Standby = refl
told n w (Configure at len ldro) = ap (Configure at len) (yes-back ldro)
told n w (Transmit at len listen) = ap (Transmit at len) (yes-back listen)
told n w Receive = refl

pub order-back : (a : Reply) → order_from (reply_numbers a) ≡ a.order
unfolding reply_numbers
order-back a = told a.number a.written a.order
