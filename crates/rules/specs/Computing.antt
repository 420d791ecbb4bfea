-- All definitions that the sets and the worked trace compute with, bundled once.
use Rattle.rules.specs.Below.{every, any, sum, table_from, table, lowest_from, lowest, list_from, list}
use Rattle.rules.specs.Register.{seat_at, piece_at, number_at, unused_right, used_right, line_right, is_right, adds, total_from, total, is_before, line_from, line_of, has_line, is_full}
use Rattle.rules.specs.Register.{renumbered, inserted, removed, one_more_by, one_less_by}
use Rattle.rules.specs.Reach.{hit, widen_from, widen, close, reaching, reachb}
use Rattle.rules.specs.Tables.{state, is_free, is_draft, is_frozen, is_live, link_at, holds_of, reaches, in_group, leader_of, places, count_of, is_root}
use Rattle.rules.specs.Tables.{is_kept, leader_entry, count_entry, namings, into_entry, finish, into_of}
use Rattle.rules.specs.Tables.{all_four, well_free, well_draft, well_frozen, well, sound_at, is_sound, sums_right, into_right, is_sound_store, empty_tables, empty}
use Rattle.rules.specs.Commands.{first_of, at_limit, not_held, is_linked, none_free, table_refusals, no_line, not_yours}
use Rattle.rules.specs.Commands.{seat_refusals, register_refusals, is_again, meant, refusals, with_states, with_links, with_holds, one_more, one_less}
use Rattle.rules.specs.Commands.{free_all, gone, gone_list, first_free, freeze_first, edit, settles, freed_by, after, value_of, verdict, next_tables, noted, next_store}
use Rattle.rules.specs.Commands.{settled, step_to}
use Rattle.rules.specs.Calls.{seen_at}

unfoldable pub computing : Unit {0}
unfolding seat_at piece_at number_at unused_right used_right line_right is_right adds total_from total is_before line_from line_of has_line is_full renumbered inserted removed one_more_by one_less_by
    every any sum table_from table lowest_from lowest list_from list hit widen_from widen close reaching reachb state is_free is_draft is_frozen is_live link_at
    holds_of reaches in_group leader_of places count_of is_root is_kept leader_entry count_entry namings into_entry finish into_of all_four well_free well_draft well_frozen well sound_at is_sound
    sums_right into_right is_sound_store empty_tables empty first_of at_limit not_held is_linked none_free table_refusals no_line not_yours seat_refusals register_refusals is_again meant refusals
    with_states with_links with_holds one_more one_less free_all gone gone_list first_free freeze_first
    edit settles freed_by after value_of verdict next_tables noted next_store settled step_to seen_at
computing = tt
