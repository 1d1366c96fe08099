-- What the examples compute with: to unfold this name is to unfold every definition of the radio side. Assumes nothing.
use Rattle.crc_a.specs.CrcA.{polynomial, start, shifted, shifted_by, byte_in, bytes_in, crc_a, sent as crca_crc_a_sent, with_crc, crc_right}
use Rattle.locks.specs.Locks.{lock_bits, pages_each, lock_of, locked_by as locks_locked_by, clear_at, static_block, may_static, static_gain, dynamic_block, may_dynamic, dynamic_gain, may_block, block_gain}
use Rattle.locks.specs.Table.{row_for, rows_for}
use Rattle.image.specs.Layout.{size_of, byte, four_at, page_at, bytes_of, store, region_of}
use Rattle.image.specs.Settings.{count_readable}
use Rattle.image.specs.Shown.{shown}
use Rattle.image.specs.Mirror.{chosen, wanted, text, allowed, mirror_for, replaced, through}
use Rattle.image.specs.Tail.{counter_in, counter, next_count, counted, with_failed}
use Rattle.image.specs.Uid.{uid, bcc0, bcc1}
use Rattle.image.specs.Write.{statics, dynamics, blocks, locked_by, statics_written, capability_written, dynamics_written, written_in, written, write as image_write_write}
use Rattle.tag.specs.Outcome.{bits_of, byte_of, low_bytes, answer_of, over, apply, lost, ack, nak_after, says}
use Rattle.tag.specs.State.{field_off, moved, halted, answering}
use Rattle.reads.specs.Read.{bound, seen, page_byte, pages_by, counting, read_answered, read, fast_read}
use Rattle.commands.specs.Commands.{under_password, refuses, write as commands_commands_write, size_code, version, read_count, limit_reached, same, failing, wrong_counted, accepted, rejected, pwd_auth, hlta}
use Rattle.active.specs.Frame.{command_of, in_active}
use Rattle.selection.specs.Selection.{is_reqa, is_wupa, wakes, in_idle, in_halt, forty, own1, own2, sent as selection_selection_sent, asks, known, anticollision, select, in_ready, in_ready1, in_ready2}
use Rattle.radio.specs.Heard.{is_read_zero, hearing, heard}
use Rattle.radio.specs.Call.{padded, is_frame, refusal, taken, called_at, called}
use Rattle.radio.specs.Reach.{wupa, select1, select2}
use Rattle.tag.specs.Record.{wait_of, state_of, meant, tag_of, flag_of, record_of, field_loss}
use Rattle.runs.specs.Run.{ours, from_off, next, at_end, image_after}
use Rattle.runs.specs.Seen.{acks, data_for, new_for, last_written, carries, offers, none_offers}
use Rattle.demands.specs.Demand.{Holds}
use Rattle.demands.specs.Wrong.{lazy, unless, once}

unfoldable pub computes : Unit {0}
unfolding polynomial start shifted shifted_by byte_in bytes_in crc_a crca_crc_a_sent with_crc crc_right lock_bits pages_each lock_of locks_locked_by clear_at static_block may_static static_gain dynamic_block may_dynamic dynamic_gain may_block block_gain row_for rows_for size_of byte four_at page_at bytes_of store region_of shown chosen wanted text allowed mirror_for replaced through counter_in counter next_count counted with_failed uid bcc0 bcc1 statics dynamics blocks locked_by statics_written capability_written dynamics_written written_in written image_write_write bits_of byte_of low_bytes answer_of over apply lost ack nak_after says field_off moved halted answering bound seen page_byte pages_by counting read_answered read fast_read under_password refuses commands_commands_write size_code version count_readable read_count limit_reached same failing wrong_counted accepted rejected pwd_auth hlta command_of in_active is_reqa is_wupa wakes in_idle in_halt forty own1 own2 selection_selection_sent asks known anticollision select in_ready in_ready1 in_ready2 is_read_zero hearing heard padded is_frame refusal taken called_at called wupa select1 select2 wait_of state_of meant tag_of flag_of record_of field_loss Holds ours from_off next at_end image_after acks data_for new_for last_written carries offers none_offers lazy unless once
computes = tt
