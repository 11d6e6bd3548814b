-- The names that the proofs of this crate use: of std, of the layers below and of `specs/`.
pub use Rattle.std.proofs.Common.{All, AllPairs, Bool, List, None, Option, Some, [], add-one, add-zero, ap, append-nil, append_assoc, arith, cond, count_by, drop, eqb, false, get_or, inl, inr, is_none, is_some, length, length-append, map as map_list, nat_eq, nat_le, nat_lt, not, refl, rules, slice_index_or, subst, suc, sym, take, true, zero, ℕ, ⊎_elim, ◌&&◌, ◌++◌, ◌+◌, ◌<◌, ◌^◌, ◌||◌, ◌∙◌, ◌∷◌, ◌≡◌, ◌≢◌, ◌≤◌, ◌⊎◌, ◌*◌}
pub use Rattle.std.proofs.lemmas.Bool.{and_left, and_parts, and_right, cases_Bool, cases_lt, cond_both, eq-eqb, eqb-false, eqb-true, false_from_ne_true, false≢true, le-leb, leb-true, lt-leb, ltb-false, ltb-true, ne_eqb, not-true, or_parts, true_from_ne_false, true≢false}
pub use Rattle.std.proofs.lemmas.Bool.Decides.{nat_tests}
pub use Rattle.std.proofs.lemmas.Grind.{reverse_onto}
pub use Rattle.std.proofs.lemmas.List.{drop-take, drop_at, length-map, length-reverse, length-take, length-take-le, length_push, map-append, nil_from_length, reverse-append, reverse-reverse, same_from_push, take-append-drop, take_all, take_at, take_more}
pub use Rattle.std.proofs.lemmas.List.Elements.{All-filter, All-from_recursion, All-map, All-push, filter-append, filter_agree, recursion_from_All}
pub use Rattle.std.proofs.lemmas.List.Sums.{passes_at_first, split_at_first, sum_by-append, sum_by-cons, sum_by_push}
pub use Rattle.std.proofs.lemmas.Option.{cond_some, get_or_from_slice_get, none-some, same_Some, slice_get_within}
pub use Rattle.std.specs.FinMap.{FinMap, get, get-empty, insert, len, nat_cmp-IsAntisymmetric, remove, same_map}
pub use Rattle.std.specs.List.{AllByRecursion, list_any, position, position_or_len, sum_by}
pub use Rattle.std.specs.Option.{option_and_then, option_map_or}
pub use Rattle.std.specs.Ordering.{nat_cmp}
pub use Rattle.std.specs.Prelude.{Err, IfOk, IfSome, IsSome, Ok, Result, filter, find, min, option_map, option_to_list, remove as common_remove, reverse, slice_get, unwrap_or, vec_len, ⊤, ◌-◌}
pub use mathlib.Core.List.{IsPrefix}
pub use Rattle.fp_book.proofs.Changes.{NotHeld, by_held, by_local, count, count_is, left_by, not_held, ready, turns_none}
pub use Rattle.fp_book.proofs.Queue.{count-append, count-cons, count_without_other, count_without_own}
pub use Rattle.fp_book.proofs.Sums.{OneChanges, Rows, amount, get-removed, inserted, kept, left_of, len-sum, removed, sum-le, sum-none, sum-remove}
pub use Rattle.fp_book.proofs.Tells.{Tells, followed_log, names_by, unnamed_by, verdict_tells}
pub use Rattle.fp_book.proofs.Turns.{frames_at}
pub use Rattle.fp_book.specs.Calls.{Answers, ClocksAt, ClosesOne, ComesFirst, Discards, Due, EndsDialogue, ExtendsDialogue, Follows, GivesDone, GoesDown, IsDue, OpensDialogue, PicksParcel, PutsTurnBack, Refuses, Sends, TakesTurn, Ticks, Unsends, abort_for, due_at, entries_in, given_of, is_idle, joins, more_accepted, posted_line, posted_totals, turn_of, waiting_in, without}
pub use Rattle.fp_book.specs.Rules.{admitted, entries_in, facts_of, facts_with, first_that_fits, is_full as book_is_full, is_lost, named as named_in, number_of, rule, rules_up, verdict, verdict_by}
pub use Rattle.fp_book.specs.Limits.{all_entries, most_dialogues, most_places}
pub use Rattle.fp_book.specs.Log.{logged as book_logged}
pub use Rattle.fp_book.specs.Outbox.{IsNext as BookNext, Outbox, being_sent, is_of_other, nothing, places_out, unsent_frames, waiting_frames}
pub use Rattle.fp_book.specs.Parcel.{birth_of as parcel_birth, is_frame_of, local_of as parcel_local, octets_of as parcel_octets}
pub use Rattle.fp_book.specs.Shelf.{AreBorn as FramesBorn, IsOwn, Shelf, Sound, base, empty_shelf, frame_out, frames_for, free_with, keep, no_totals, of_row, one_if, places_held, turns_of, unsent_for}
pub use Rattle.fp_book.specs.Totals.{sent_by, served_by, sum_of}
pub use Rattle.fp_book.specs.declared.answers.Given.{Given}
pub use Rattle.fp_book.specs.declared.answers.Posted.{Posted}
pub use Rattle.fp_book.specs.declared.line.Line.{Line}
pub use Rattle.fp_book.specs.declared.line.LoggedStep.{LoggedStep}
pub use Rattle.fp_book.specs.declared.parcel.Content.{Content}
pub use Rattle.fp_book.specs.declared.parcel.Parcel.{Parcel}
pub use Rattle.fp_book.specs.declared.parcel.Waiting.{Waiting}
pub use Rattle.fp_book.specs.declared.totals.Totals.{Totals}
pub use Rattle.fp_book.specs.declared.rules.Rule.{Rule}
pub use Rattle.fp_book.specs.declared.verdict.Verdict.{Verdict}
pub use Rattle.fp_entry.specs.Arrival.{IsArrival, SameArrival}
pub use Rattle.fp_entry.specs.Entries.{component_count, entry_at, is_clock, is_from_component, place_count}
pub use Rattle.fp_entry.specs.Prepared.{Answers as SameAnswers, IsLost, IsPrepared, SameIncoming, arrival_of, components_of as components_came}
pub use Rattle.fp_entry.specs.declared.arrival.Arrival.{Arrival}
pub use Rattle.fp_entry.specs.declared.entry.Entry.{Entry}
pub use Rattle.fp_entry.specs.declared.entry.EntryKind.TheVariants.{Clock}
pub use Rattle.fp_entry.specs.declared.prepared.Prepared.{Prepared}
pub use Rattle.fp_q773.specs.Tid.{Tid, octets_of}
pub use Rattle.fp_q773.specs.declared.kind.Kind.{Kind}
pub use Rattle.fp_q773.specs.declared.provider_abort.AbortCause.{AbortCause}
pub use Rattle.fp_records.specs.Table.{Contents}
pub use Rattle.fp_steps.specs.Places.{greatest_place, handed_in, last_place, table_at}
pub use Rattle.fp_reply.specs.ProviderAbort.{AbortFrame, frame_octets}
pub use Rattle.fp_reply.specs.Reply.{frame_of}
pub use Rattle.fp_row.proofs.Keeping.{IsOut, known_turn}
pub use Rattle.fp_row.proofs.Waiting.{waiting_ready}
pub use Rattle.fp_row.specs.Calls.{Ends, Extends, IsSame, ended_by, frames_in, requested_of}
pub use Rattle.fp_row.specs.Laws.{KeepsOrder, RowsKeepTheirOrder}
pub use Rattle.fp_row.specs.Rows.{ClosesAt}
pub use Rattle.fp_row.specs.Row.{entries_out as row_entries_out, frames_of, has_clock, is_admitted, is_closed, is_due as row_is_due, is_held, is_ready as row_is_ready, kept_of, places_taken, queued_of, requests_of, sent_of, served_of, start_of, turn_of as row_turn_of, turn_out as row_turn, unserved as row_unserved, waits as row_waits}
pub use Rattle.fp_row.specs.Turn.{birth_of as turn_birth, frames_for as turn_frames, frames_under, most_entries, served_in as turn_served}
pub use Rattle.fp_row.specs.declared.done.Done.{Done}
pub use Rattle.fp_row.specs.declared.ending.Ending.{Ending}
pub use Rattle.fp_row.specs.declared.row.Row.{Row}
pub use Rattle.fp_row.specs.declared.turn.Turn.{Turn}
pub use Rattle.fp_service.proofs.Folding.{cut-closed, cut-cut, cut-front, requests-append}
pub use Rattle.fp_service.specs.Dialogue.{fresh, is_over, next_due}
pub use Rattle.fp_service.specs.Fold.{core_after, cut, requests}
pub use Rattle.fp_service.specs.declared.dialogue.Core.{Core}
pub use Rattle.fp_service.specs.declared.request.Request.{Request}
pub use Rattle.fp_tids.specs.Identifiers.{AreSerials, base_of, first_of as first_identifier, identifier, is_free, last_serial, last_tag, serial_of}
pub use Rattle.fp_steps.specs.Accepted.{accepted, accepted_in, admits, admits_on, core_of, core_on, course, ending, ending_at, ending_by, ending_in, entry_count, has_clock_on, in_places, is_due, is_ended, is_ending, is_full, numbers_from, position_in, positions, receiver, served, start}
pub use Rattle.fp_steps.specs.After.{Follows as FollowsHistory, IsAfter, LeadsTo}
pub use Rattle.fp_steps.specs.Answers.{AllAnswered, IsAnswer, IsLongestReady, IsNext, IsPicked, IsTaken, gave, given_for, if_out, posted, put_back, ticked}
pub use Rattle.fp_steps.specs.Births.{Beginning, beginning, beginning_after, births, destination, for_one, how_many, is_one, local_of, named, opened_in, sender_of, sum_to}
pub use Rattle.fp_steps.specs.Headline.{Headline, InOrder, Runs}
pub use Rattle.fp_steps.specs.History.{AtEachMoment, Event, IsCame, IsNone, IsRead, IsReadBy, Tells as HistoryTells, outputs_of}
pub use Rattle.fp_steps.specs.Idle.{IdleIsDone}
pub use Rattle.fp_steps.specs.Laws.{AreInPlace, AnswersAreOne, AnswersExist, HeadlineHolds, IdentifiersComeBackLate, LinesAreRetoldOnce, RetoldLinesAreCounted, RunsAreOne, SentAlike, log_with}
pub use Rattle.fp_steps.specs.Lined.{ByAge, Freed, Lined, Sorted, as_waiting}
pub use Rattle.fp_steps.specs.Messages.{addressee, answer_by, answer_to, begun, components_in, facts_in, opened_with, refused, refused_by, taking}
pub use Rattle.fp_steps.specs.proof_only.Log.{NamesThen, back_by, back_in, births_after, first_of as first_step, moves, name_in, name_of, named_after, names_in, others, others_if, place_if, place_in, place_of as table_place, place_or, placed, sending_after, step_in, tick_in, told_by, told_from, told_where, turns_after}
pub use Rattle.fp_steps.specs.LogLines.{HasPlace, IsLine, IsLineOf, IsLog}
pub use Rattle.fp_steps.specs.Makes.{MakesOf, MakesStep, PostsTo}
pub use Rattle.fp_steps.specs.Retold.{LogsRun, Retells, RetellsOne, step_of}
pub use Rattle.fp_steps.specs.Serials.{IdentifiersHold, free, goes, gone_at, without_first}
pub use Rattle.fp_steps.specs.Sending.{Handed, abort_out, aborts, aborts_sent, asked, asked_at, frame_for, frame_from, if_queued, out, out_after, queued, queued_in, sent, sent_in}
pub use Rattle.fp_steps.specs.Tied.{AbortsTied, IsGone, IsStraight, IsTied, Opened, OpenedTo, Story, Tied, TiedAt, asked_in, began_with, beginning_of, core_in, handed, row_at, row_of, served_in, start_in, story, untold, waits_in}
pub use Rattle.fp_steps.specs.proof_only.Tokens.{Holds, IsPlace, ParcelIs, TakesFirst, TakesOut, local_in as turn_local, turns_at}
pub use Rattle.fp_steps.specs.Told.{birth_out, birth_picked, birth_under, is_written, lines_told, log_of, logged, told, told_back, told_message, told_tick, written}
pub use Rattle.fp_steps.specs.Totals.{AddUp, AreFew, added_by, capped, capped_totals, components_of, entries_served, frames_sent, is_sent, local_after, local_out, plus, totals_of, totals_over}
pub use Rattle.fp_steps.specs.Turns.{IsReadyBefore, count_after, count_out, due_of, is_ready, local_if_out, next_served, ready_for, turn_out, unserved, waits}
pub use Rattle.fp_steps.specs.Waiting.{QueuedFrame, aborts_waiting, frame_is_out, frames, frames_after, frames_by, has_frame, held, is_down, is_held as dialogue_held, is_sending, is_waiting, numbered, picked, picked_after, places, waiting}
pub use Rattle.fp_steps.specs.declared.log.Named.{Named}
pub use Rattle.fp_steps.specs.declared.output.Output.{Output}
pub use Rattle.fp_steps.specs.declared.step.Step.{Step}
