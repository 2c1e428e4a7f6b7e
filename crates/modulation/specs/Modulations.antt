-- A configuration: the modulation (1) and its parameters. P 6.3 and 10; 01 covers LoRa and FSK.
-- Assumes nothing.
use Rattle.std.specs.Prelude.{ℕ, ◌+◌, cond, List, [], ◌∷◌, ◌++◌, ltb, eqb, length, take, drop}
use Rattle.scalar.specs.Scalars.{Column, column, get}
use Rattle.modulation.specs.Lora.{lora_size, lora_of, lora_bytes}
use Rattle.modulation.specs.Fsk.{sync_word_len, fsk_size, sync_word_max, fsk_of, fsk_bytes}
use Rattle.form.specs.declared.Form.{Form}
use Rattle.form.specs.declared.Form.TheVariants as F
use Rattle.modulation.specs.declared.Modulation.{Modulation}
use Rattle.modulation.specs.declared.Modulation.TheVariants as M

-- P 10
abbrev pub LORA : ℕ
LORA = 1

abbrev pub FSK : ℕ
FSK = 2

abbrev pub modulation_id : Column
modulation_id = column 0 1

-- where the parameters stand, after it
abbrev pub params_at : ℕ
params_at = 1

abbrev pub params_of : List ℕ → List ℕ
params_of p = drop params_at p

-- 01, FORM: a modulation not 1 or 2 or sync_word_len over 8; the sizes are P 10's
abbrev fsk_form : List ℕ → Form
fsk_form p =
    cond (ltb (length p) (params_at + fsk_size)) F.Wrong
    (cond (ltb sync_word_max (get sync_word_len (params_of p))) F.Wrong
    (F.Size (params_at + fsk_size + get sync_word_len (params_of p))))

unfoldable pub config_form : List ℕ → Form
config_form p =
    cond (eqb (get modulation_id p) LORA) (F.Size (params_at + lora_size))
    (cond (eqb (get modulation_id p) FSK) (fsk_form p)
    F.Wrong)

-- the configuration in a payload of that form
unfoldable pub config_of : List ℕ → Modulation
config_of p =
    cond (eqb (get modulation_id p) LORA) (M.Lora (lora_of (params_of p)))
    (M.Fsk (fsk_of (params_of p)))

-- the payload of a configuration with the bytes of its sync word, none for LoRa
unfoldable pub config_bytes : Modulation → List ℕ → List ℕ
config_bytes (M.Lora m) word = LORA ∷ (lora_bytes m ++ word)
config_bytes (M.Fsk m) word = FSK ∷ (fsk_bytes m ++ word)

-- the sync word in a payload of that form: after FSK's parameters, as many bytes as they say; further bytes are no part of it
unfoldable pub sync_word : List ℕ → List ℕ
sync_word p = cond (eqb (get modulation_id p) FSK) (take (get sync_word_len (params_of p)) (drop (params_at + fsk_size) p)) []
