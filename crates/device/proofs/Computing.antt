-- What a history computes with: `unfolding computes` opens these definitions, so that `refl` can run a script of events.
-- Assumes nothing.
use Rattle.buffer.specs.Lay.{lay}
use Rattle.crc16.specs.Crc.{bit, bits, byte, crc_from, crc_of}
use Rattle.cobs.specs.Encoding.{grouped, encoded}
use Rattle.cobs.specs.Encoding as E
use Rattle.cobs.specs.Decoding.{has_zero, whole, broken, parts, groups, joined, decoded}
use Rattle.scalar.specs.Scalars.{le, number, signed, unsigned}
use Rattle.frame.specs.Body.{covered, body, frame}
use Rattle.frame.specs.Reading.{open_body, open_answer}
use Rattle.frame.specs.Stream.{runs}
use Rattle.kind.specs.Kinds.{is_command}
use Rattle.modulation.specs.Lora.{lora_of, lora_bytes}
use Rattle.modulation.specs.Modulations.{config_of, config_bytes, sync_word}
use Rattle.info.specs.Info.{info_head, info_bytes}
use Rattle.rx.specs.Rx.{rx_of, rx_bytes}
use Rattle.answer.specs.Answers.{configured_bytes, tx_done_bytes, answer_bytes}
use Rattle.board.specs.Board.{among, bitmap, sx1262, board_info}
use Rattle.board.specs.Params.{lora_good, params_good}
use Rattle.board.specs.Ldro.{slow, ldro}
use Rattle.device.specs.Messages.{message_bytes, messages_bytes}
use Rattle.device.specs.Frames.{received, error_of}
use Rattle.device.specs.Reading.{frame_in, frames_in, frames, brings}
use Rattle.device.specs.Events.{listens, idle, step}
use Rattle.device.specs.Tally.{tallied}
use Rattle.device.specs.Observer.{observed}
use Rattle.device.specs.Due.{messages_due, order_due}
use Rattle.device.specs.Demands.{onward, after, history, eframes, drop_counts}

unfoldable pub computes : Unit {0}
unfolding lay bit bits byte crc_from crc_of
    grouped encoded E.groups_bytes has_zero whole broken parts groups joined decoded le number
    signed unsigned covered body frame open_body open_answer
    runs is_command lora_of lora_bytes config_of config_bytes sync_word
    info_head info_bytes rx_of rx_bytes configured_bytes tx_done_bytes answer_bytes
    among bitmap sx1262 board_info lora_good params_good slow ldro
    message_bytes messages_bytes received error_of listens idle step
    frame_in frames_in frames brings tallied observed
    messages_due order_due onward after history eframes drop_counts
computes = tt
