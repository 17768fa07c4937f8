-- One name to open every definition of the node where a whole packet is computed. Assumes nothing.
use Rattle.rfc1321.proofs.Computes.{computes as md5_computes}
use Rattle.bsmp.specs.Base.{sum, has, first}
use Rattle.bsmp.specs.Codes.{command_of, operation_of, no_operation, kind_of}
use Rattle.bsmp.specs.Board.{in_group, members, group_bytes, writable_group, set_of, usable_variables, usable_curves, usable_functions, usable_groups, whole_values, whole_curves, fit_lengths, whole_sums, fresh, usable, faults}
use Rattle.bsmp.specs.Message.{writes_variable, writes_group, variable_list, group_list, curve_list, function_list, line, check, judge}
use Rattle.bsmp.specs.Message.{operated, changed, after, values_of, spoken, state_after, said, carried, handled}
use Rattle.bsmp.specs.Packet.{usable_place, in_multicast, frame, ends, served, packet, function_result, board_store, fresh_board}
use Rattle.bsmp.specs.Number.{little, little_bytes, meant, in_range, unsigned_of, reading, writing}

-- to unfold this is to unfold all that its line names
unfoldable pub computes : Type 0
unfolding sum has first command_of operation_of no_operation kind_of in_group members group_bytes writable_group set_of usable_variables usable_curves usable_functions usable_groups whole_values whole_curves fit_lengths whole_sums fresh usable faults writes_variable writes_group variable_list group_list curve_list function_list line check judge operated changed after values_of spoken state_after said carried handled usable_place in_multicast frame ends served packet function_result board_store fresh_board little little_bytes meant in_range unsigned_of reading writing md5_computes
computes = Unit {0}
