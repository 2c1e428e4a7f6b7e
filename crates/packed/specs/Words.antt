-- The device's state and its answers as words, numbers below 2^64: what a C program keeps between two events, and what it is told at each.
-- Every list of words stands for a state. Of a number as many low bits count as its type has, and a mode or a radio past the last is
-- the last. Four zeros are the state at power-up.
-- Assumes nothing.
use Rattle.std.specs.Prelude.{ℕ, ◌+◌, ◌*◌, ◌/◌, ◌%◌, Bool, cond, List, [], ◌∷◌, eqb, ltb, get_or}
use Rattle.device.specs.Messages.{yes}
use Rattle.control.specs.declared.Mode.{Mode}
use Rattle.control.specs.declared.Mode.TheVariants.{Unconfigured, Lora, Fsk}
use Rattle.control.specs.declared.Radio.{Radio}
use Rattle.control.specs.declared.Radio.TheVariants.{Free, Listening, OnAir, Orphan, Configuring}
use Rattle.control.specs.declared.Link.{Link}
use Rattle.control.specs.declared.Air.{Air}
use Rattle.control.specs.declared.Inbox.{Inbox}
use Rattle.control.specs.declared.Device.{Device}
use Rattle.control.specs.declared.Order.{Order}
use Rattle.control.specs.declared.Order.TheVariants.{Nothing, Standby, Configure, Transmit, Receive}
use Rattle.control.specs.Control.{link, air, inbox, device}

-- ---- the state: a word for the mode, the link, the radio's side and reception

-- the lowest bit
abbrev pub low_bit : ℕ → Bool
low_bit w = eqb (w % 2) 1

abbrev pub mode_number : Mode → ℕ
mode_number Unconfigured = 0
mode_number Lora = 1
mode_number Fsk = 2

abbrev pub mode_in : ℕ → Mode
mode_in n = cond (ltb 1 n) Fsk (cond (eqb n 1) Lora Unconfigured)

-- session, ticks, run: 16 bits each
abbrev pub link_word : Link → ℕ
link_word l = yes l.session + l.ticks * 0x10000 + l.run * 0x100000000

abbrev pub link_in : ℕ → Link
link_in w = link (low_bit w) (w / 0x10000 % 0x10000) (w / 0x100000000 % 0x10000)

-- the radio and the tag of the TX that it has, 16 bits each; pending, first, waiting: 8 bits each
abbrev pub radio_number : Radio → ℕ
radio_number Free = 0
radio_number (Listening t) = 1
radio_number (OnAir t) = 2
radio_number Orphan = 3
radio_number Configuring = 4

abbrev pub radio_tag : Radio → ℕ
radio_tag Free = 0
radio_tag (Listening t) = t
radio_tag (OnAir t) = t
radio_tag Orphan = 0
radio_tag Configuring = 0

abbrev pub radio_in : ℕ → ℕ → Radio
radio_in n t =
    cond (eqb n 0) Free
    (cond (eqb n 1) (Listening t)
    (cond (eqb n 2) (OnAir t)
    (cond (eqb n 3) Orphan
    Configuring)))

abbrev pub air_word : Air → ℕ
air_word a =
    radio_number a.radio + radio_tag a.radio * 0x10000 + yes a.pending * 0x100000000 + a.first * 0x10000000000 + a.waiting * 0x1000000000000

abbrev pub air_in : ℕ → Air
air_in w =
    air (radio_in (w % 0x10000) (w / 0x10000 % 0x10000)) (low_bit (w / 0x100000000)) (w / 0x10000000000 % 0x100) (w / 0x1000000000000 % 0x100)

-- receiving, first, held, drops: 16 bits each
abbrev pub inbox_word : Inbox → ℕ
inbox_word i = yes i.receiving + i.first * 0x10000 + i.held * 0x100000000 + i.drops * 0x1000000000000

abbrev pub inbox_in : ℕ → Inbox
inbox_in w = inbox (low_bit w) (w / 0x10000 % 0x100) (w / 0x100000000 % 0x100) (w / 0x1000000000000 % 0x10000)

unfoldable pub control_words : Device → List ℕ
control_words d = mode_number d.mode ∷ link_word d.link ∷ air_word d.air ∷ inbox_word d.inbox ∷ []

unfoldable pub device_in : List ℕ → Device
device_in w = device (mode_in (get_or w 0 0)) (link_in (get_or w 1 0)) (air_in (get_or w 2 0)) (inbox_in (get_or w 3 0))

-- ---- the answer: its words are its numbers (crate control, `replyNumbers`)

-- the order that they tell
unfoldable pub order_from : List ℕ → Order
order_from w =
    let k = get_or w 2 0 in
    cond (eqb k 1) Standby
    (cond (eqb k 2) (Configure (get_or w 3 0) (get_or w 4 0) (eqb (get_or w 5 0) 1))
    (cond (eqb k 3) (Transmit (get_or w 3 0) (get_or w 4 0) (eqb (get_or w 6 0) 1))
    (cond (eqb k 4) Receive
    Nothing)))
