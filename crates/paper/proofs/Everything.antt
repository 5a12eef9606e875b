-- All of `paper` open at once, for the proofs that compute with it: to unfold `everything` is to unfold what the lines below name.
-- Rests on nothing.
use mathlib.Core.List.{flat_map, flatten}
use lib.Ieee.{of_int, div, mul, add, to_unsigned}
use Rattle.paper.specs.Map.{word, trailer, to_nodes, N, to_links, L, mark, ins, outs, link_at, link_from, link_out, link_to, link_in, well_formed, first_port, P, input, output, inputs, outputs, port_node, is_output, source_port, target_port, port_links, in_links, out_links, out_neighbours, within_limits, missing, second}
use Rattle.paper.specs.Order.{started, fills_last, follow, follow_all, turn, queue_after, order, place_in, never_ordered}
use Rattle.paper.specs.Lines.{last_pushed, without, take_from, take_all, position_above, new_lines, push, place, frontier_after, placed_as, tables_of, tables}
use Rattle.paper.specs.Area.{size, start, W, word_of, section, part, K, order_of, position, lines_of, nodes_of, starts, contents, written, prepared, cleared, scratch_cleared}
use Rattle.paper.specs.Accepted.{links_between, right_after, lines_between, starts_well, accepted}
use Rattle.paper.specs.Intervals.{touched, listed_positions, interval, within, contiguous, intervals}
use Rattle.paper.specs.Walk.{M, next_on, start_nodes, stands_below, visit, step, walk_after, answer_of, walk, walk_on, line_check}
use Rattle.paper.specs.OrderCheck.{places_of, in_range, neighbour_places, insert, insert_all, pass_node, pass_other, step_topo, topo_after, reply_of, order_check}
use Rattle.paper.specs.Records.{record_at, records_in, words_of_records, next_position, next_below, next_above, grow, behind, extend_line, extend_lines, extend, inside_on, inside, nodes_in}
use Rattle.paper.specs.Ports.{earlier_ports, first_line, line_count_at, lines_at, view_start, other_end, first_other_end, conflict}
use Rattle.paper.specs.Path.{leads, fed_by, farther, rounds, level_at, ends_at, closing, step_before, path_to, path_from, back_path, steps_of, shown_of}
use Rattle.paper.specs.Refusals.{refuse, earliest, rule1, rule2, rule3, bad_link, refuse_link, rule45, rule6, rule7, rule8, rule9, rule10, rule14, on_line, used_before, bad_record, whole_records, rule12, straddles, rule13, rule11, decide, answer, on_refusal}
use Rattle.paper.specs.Calls.{untouched, unprepared, prepare, area_after, opening, call, call_into, line_rules, is_node_convex, order_rules, topo_is_node_convex, port_rules, is_convex, topo_is_convex, said, words_of, needed, get_intervals_from_nodes, is_convex_by_intervals, try_extend_intervals, nodes_in_intervals, path_answer, show_path, lines_at_port, view_at, part_at, view_of_port}
use Rattle.paper.specs.Words.{words_from, bytes_from, put_words}
use Rattle.paper.specs.Lookup.{lookup, rounded, float, quotient, product, moved, guess}
use Rattle.paper.specs.Plain.{highest_lowest}
use Rattle.paper.specs.Text.{onto, split, last_if_any, lines_in, is_digit, value_onto, is_number, read_number, also, collect, read_list, decimal_in, decimal, show_reply, show_refused, show_line, show_order, show_way, ask_says, why_says, first_output, say_line, say_lines, say_prepared, output as printed, ask, why}

of_the_kit : Unit {0}
unfolding flat_map flatten of_int div mul add to_unsigned
of_the_kit = tt

of_Map : Unit {0}
unfolding word trailer to_nodes N to_links L mark ins outs link_at link_from link_out link_to link_in well_formed first_port P input output inputs outputs port_node is_output source_port target_port port_links in_links out_links out_neighbours within_limits missing second
of_Map = tt

of_Order : Unit {0}
unfolding started fills_last follow follow_all turn queue_after order place_in never_ordered
of_Order = tt

of_Lines : Unit {0}
unfolding last_pushed without take_from take_all position_above new_lines push place frontier_after placed_as tables_of tables
of_Lines = tt

of_Area : Unit {0}
unfolding size start W word_of section part K order_of position lines_of nodes_of starts contents written prepared cleared scratch_cleared
of_Area = tt

of_Accepted : Unit {0}
unfolding links_between right_after lines_between starts_well accepted
of_Accepted = tt

of_Intervals : Unit {0}
unfolding touched listed_positions interval within contiguous intervals
of_Intervals = tt

of_Walk : Unit {0}
unfolding M next_on start_nodes stands_below visit step walk_after answer_of walk walk_on line_check
of_Walk = tt

of_OrderCheck : Unit {0}
unfolding places_of in_range neighbour_places insert insert_all pass_node pass_other step_topo topo_after reply_of order_check
of_OrderCheck = tt

of_Records : Unit {0}
unfolding record_at records_in words_of_records next_position next_below next_above grow behind extend_line extend_lines extend inside_on inside nodes_in
of_Records = tt

of_Ports : Unit {0}
unfolding earlier_ports first_line line_count_at lines_at view_start other_end first_other_end conflict
of_Ports = tt

of_Path : Unit {0}
unfolding leads fed_by farther rounds level_at ends_at closing step_before path_to path_from back_path steps_of shown_of
of_Path = tt

of_Refusals : Unit {0}
unfolding refuse earliest rule1 rule2 rule3 bad_link refuse_link rule45 rule6 rule7 rule8 rule9 rule10 rule14 on_line used_before bad_record whole_records rule12 straddles rule13 rule11 decide answer on_refusal
of_Refusals = tt

of_Calls : Unit {0}
unfolding untouched unprepared prepare area_after opening call call_into line_rules is_node_convex order_rules topo_is_node_convex port_rules is_convex topo_is_convex said words_of needed get_intervals_from_nodes is_convex_by_intervals try_extend_intervals nodes_in_intervals path_answer show_path lines_at_port view_at part_at view_of_port
of_Calls = tt

of_Words : Unit {0}
unfolding words_from bytes_from put_words
of_Words = tt

of_Lookup : Unit {0}
unfolding lookup rounded float quotient product moved guess
of_Lookup = tt

of_Plain : Unit {0}
unfolding highest_lowest
of_Plain = tt

of_Text : Unit {0}
unfolding onto split last_if_any lines_in is_digit value_onto is_number read_number also collect read_list decimal_in decimal show_reply show_refused show_line show_order show_way ask_says why_says first_output say_line say_lines say_prepared printed ask why
of_Text = tt

unfoldable pub everything : Unit {0}
unfolding of_the_kit of_Map of_Order of_Lines of_Area of_Accepted of_Intervals of_Walk of_OrderCheck of_Records of_Ports of_Path of_Refusals of_Calls of_Words of_Lookup of_Plain of_Text
everything = tt
