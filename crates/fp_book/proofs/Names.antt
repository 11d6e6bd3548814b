-- The names that the proofs of this crate use: of std, of the layers below and of `specs/`.
pub use Rattle.std.proofs.Common.{All, AllPairs, Bool, Equal, Greater, IsSome, Less, List, None, Option, Ordering, Some, T, [], add-zero, ap, append-nil, append_assoc, arith, cond, count_by, drop, eqb, false, filter, get_or, if◌then◌else◌, inl, inr, is_eq, is_lt, is_none, is_some, le_refl, length, length-append, length-take-le, map, min, nat_eq, nat_le, nat_lt, not, option_map, option_to_list, refl, rules, slice_get, slice_index_or, subst, suc, sum_by, sym, take, take_all, true, unwrap_or, vec_capacity, vec_len, zero, zero-add, ℕ, ⊎_elim, ◌&&◌, ◌++◌, ◌+◌, ◌-◌, ◌<◌, ◌^◌, ◌||◌, ◌∙◌, ◌∷◌, ◌≡◌, ◌≢◌, ◌≤◌, ◌⊎◌, ◌*◌}
pub use Rattle.std.proofs.Math.Bool.{not-not, or-false, or-true, or_comm}
pub use Rattle.std.proofs.lemmas.Bool.{and_from, and_left, and_parts, and_right, both_ways, cases_Bool, cond_both, eq-eqb, eqb-false, eqb-true, false_from_ne_true, false≢true, le-leb, leb-false, leb-true, lt-ltb, ltb-false, ltb-true, not-true, or_cases, or_left, or_parts, or_right}
pub use Rattle.std.proofs.lemmas.Bool.Decides.{nat_tests}
pub use Rattle.std.proofs.lemmas.Fn.{filter_same}
pub use Rattle.std.proofs.lemmas.List.{drop-append-le, drop-drop, drop_all, drop_min, get_or-drop, length-drop, length-map, map-append, map_more, nil_from_length, take-append-drop, take-append-le, take_min, take_more}
pub use Rattle.std.proofs.lemmas.List.Concat.{flat_map-append}
pub use Rattle.std.proofs.lemmas.List.Elements.{All-nil, All-push, filter-append, recursion_from_All}
pub use Rattle.std.proofs.lemmas.List.Filters.{length-filter_both}
pub use Rattle.std.proofs.lemmas.List.Folds.{list_any-append}
pub use Rattle.std.proofs.lemmas.List.Quantifiers.{all_pairs_push}
pub use Rattle.std.proofs.lemmas.List.Sums.{count_by-le-length, length-filter, sum_by-append, sum_by-cons, sum_by-le-sum_by}
pub use Rattle.std.proofs.lemmas.Option.{get_or_from_slice_get, slice_get_within}
pub use Rattle.std.specs.Cmp.{nat_cmp_total}
pub use Rattle.std.specs.FinMap.{get, insert, len}
pub use Rattle.std.specs.FinMap.Entries.{below_all, by_order}
pub use Rattle.std.specs.List.{AllByRecursion}
pub use Rattle.std.specs.Option.{option_and_then, option_map_or}
pub use Rattle.std.specs.Ordering.{eq_by_cmp, nat_cmp}
pub use Rattle.std.specs.Prelude.{IsTrue, ⊤, ◌↔◌}
pub use Rattle.std.specs.VecDeque.{deque_capacity}
pub use mathlib.Core.List.{IsPrefix}
pub use Rattle.fp_entry.specs.Delivered.{delivered}
pub use Rattle.fp_entry.specs.Entries.{AreEntries, AreGiven, Delivers, component_count, entry_at, is_clock, is_from_component, place_count, takes_a_place}
pub use Rattle.fp_entry.specs.Incoming.{element_count}
pub use Rattle.fp_entry.specs.Prepared.{arrival_of}
pub use Rattle.fp_entry.specs.declared.arrival.Arrival.{Arrival}
pub use Rattle.fp_entry.specs.declared.entry.Entry.{Entry}
pub use Rattle.fp_entry.specs.declared.entry.EntryKind.TheVariants.{Clock, PeerEnd}
pub use Rattle.fp_entry.specs.declared.fault.Fault.{Fault}
pub use Rattle.fp_entry.specs.declared.incoming.Incoming.{Incoming}
pub use Rattle.fp_entry.specs.declared.prepared.Prepared.{Prepared}
pub use Rattle.fp_entry.specs.declared.prepared.Prepared.TheVariants.{Lost, Message, Refused}
pub use Rattle.fp_q773.specs.Ids.{destination_identifier, message_kind, originating_identifier}
pub use Rattle.fp_q773.specs.Laws.{IdentifiersAreThoseOfTheMessage, IdsAreOne, SameIds}
pub use Rattle.fp_q773.specs.Tid.{Tid, octets_of}
pub use Rattle.fp_q773.specs.Value.{ComponentValue, MessageValue, abort, begin, continuing, end, is_faulty, unidirectional}
pub use Rattle.fp_q773.specs.declared.ids.Ids.{Ids}
pub use Rattle.fp_q773.specs.declared.kind.Kind.{Kind}
pub use Rattle.fp_q773.specs.declared.kind.Kind.TheVariants.{Abort, Begin, Continue, End, Unidirectional, Unknown}
pub use Rattle.fp_q773.specs.declared.provider_abort.AbortCause.{AbortCause}
pub use Rattle.fp_records.specs.Table.{Contents}
pub use Rattle.fp_reply.specs.ProviderAbort.{AbortFrame}
pub use Rattle.fp_reply.specs.Reply.{frame_of}
pub use Rattle.fp_row.proofs.Keeping.{ready_stays}
pub use Rattle.fp_row.specs.Calls.{Accepts, Clocks, Ends, Extends, FramesStay, HandsOut, IsSame, Opens, SendsOne, ended_by, frames_in, requested_of, sending}
pub use Rattle.fp_row.specs.Laws.{IsServed, KeepsOrder, RowsKeepTheirOrder}
pub use Rattle.fp_row.specs.Row.{deadline_of, entries_out, frames_of, has_clock, has_turn_out, is_admitted, is_closed, is_due, is_held, is_ready, kept_of, places_taken, requests_of, sent_of, served_of, start_of, turn_of, turn_out, unserved, waiting_of, waits}
pub use Rattle.fp_row.specs.Rows.{Closes, ClosesAt, is_sent}
pub use Rattle.fp_row.specs.declared.done.Done.{Done}
pub use Rattle.fp_row.specs.declared.ending.Ending.{Ending}
pub use Rattle.fp_row.specs.declared.ending.Ending.TheVariants.{ByPeer, Closed}
pub use Rattle.fp_row.specs.declared.requested.Requested.{Requested}
pub use Rattle.fp_row.specs.declared.row.Row.{Row}
pub use Rattle.fp_row.specs.declared.turn.Turn.{Turn}
pub use Rattle.fp_row.specs.Turn.{most_entries}
pub use Rattle.fp_service.specs.Dialogue.{is_over, next_due}
pub use Rattle.fp_service.specs.Laws.{AsksOnceAtMost}
pub use Rattle.fp_service.specs.declared.request.Request.{Request}
pub use Rattle.fp_tids.specs.Identifiers.{AreSerials, IsGiven, LocalIds, all_serials, base_of, first_of, identifier, is_free, last_serial, last_tag, serial_of, with_returned}
pub use Rattle.fp_tids.specs.Laws.{AllAreSerials, GivingLeavesSerials, ReturningKeepsSerials, SerialsAreShown, SerialsComeBackLast}
pub use Rattle.fp_timers.specs.Deadlines.{ComesAfter, HasRoom, IsEarliestDue, IsEarliestDueAfter}
pub use Rattle.fp_timers.specs.declared.timers.Timer.{Timer}
pub use Rattle.fp_book.specs.Calls.{Answers, ClocksAt, ClosesDialogue, ClosesOne, ComesFirst, Discards, Due, EndsDialogue, ExtendsDialogue, Follows, GivesDone, GoesDown, Hands, IsDue, OpensDialogue, PicksParcel, Posts, PutsTurnBack, Queues, Refuses, Sends, SendsAbort, SendsFrame, Takes, TakesTurn, Ticks, Unsends, abort_for, are_some, asks_for_memory, closed_answer, due_at, entries_in, is_idle, joins, more_accepted, one_sent, more_served, posted_line, posted_totals, waiting_in, without}
pub use Rattle.fp_book.specs.proof_only.Clocking.{AreAgreed, Clocking, ClocksNext, Deadlines, IsDueIn, Stays, due_now, idle_among, is_among}
pub use Rattle.fp_book.specs.proof_only.Dialogues.{AnsweredBy, Changes, EndsAt, ExtendsAt, GivesAt, Grows, HandsOutAt, OpensAt, PutsBackAt, SendsAt, Drops, drops_frames, is_due_at, is_unsent, left_as, request_count, takes_more, with_deadline}
pub use Rattle.fp_book.specs.Holding.{IsQuiet, busy_count, is_busy}
pub use Rattle.fp_book.specs.Laws.{DialoguesAreKeptInOrder, PostingKeepsSound, SerialsOfDialoguesComeBackLate, accounted, frames_under, is_told, told, turn_entries}
pub use Rattle.fp_book.specs.Limits.{all_entries, most_aborts_waiting, most_dialogues, most_elements, most_lines, most_places, most_unserved}
pub use Rattle.fp_book.specs.Log.{Drains, gap_at_end, logged, lose_behind, lost_in, one_more}
pub use Rattle.fp_book.specs.Outbox.{IsNext, Outbox, Picks, frames_held, is_of_other, nothing, places_out, being_sent, unsent_frames, waiting_frames, with_nothing_out, without_frames_of, without_waiting}
pub use Rattle.fp_book.specs.Parcel.{birth_of, dialogue_of, is_frame_of}
pub use Rattle.fp_book.specs.ReadyQueue.{IsEmptyIfNone, is_other}
pub use Rattle.fp_book.specs.Receipt.{IsReceipt, accepted_components, treated_as}
pub use Rattle.fp_book.specs.Rules.{ReadMessagesHaveFewEntries, admitted, facts_of, facts_with, first_that_fits, is_full, lacks_room, named, number_of, rule, rules_up, too_many, verdict, verdict_by}
pub use Rattle.fp_book.specs.proof_only.Sending.{dialogue_out}
pub use Rattle.fp_book.specs.Shelf.{AreBorn, IsOwn, Shelf, Sound, base, empty_shelf, frame_out, frames_for, free_with, gone_with, keep, no_totals, of_row, one_if, places_held, ready_count, turns_of, unsent_for, with_dialogue}
pub use Rattle.fp_book.specs.Totals.{accepted_by, sent_by, served_by, sum_of, with_row}
pub use Rattle.fp_book.specs.proof_only.Views.{AreTimed, IsKept, deadline_at, gone_of, link_with_tag, shelf_of}
pub use Rattle.fp_book.specs.declared.answers.Given.{Given}
pub use Rattle.fp_book.specs.declared.answers.Posted.{Posted}
pub use Rattle.fp_book.specs.declared.answers.Posted.TheVariants.{Accepted, Opened}
pub use Rattle.fp_book.specs.declared.answers.Receipt.{Receipt}
pub use Rattle.fp_book.specs.declared.book.Book.TheInside.{Inside}
pub use Rattle.fp_book.specs.declared.dialogues.Dropped.{Dropped}
pub use Rattle.fp_book.specs.declared.dialogues.Left.{Left}
pub use Rattle.fp_book.specs.declared.line.Line.{Line}
pub use Rattle.fp_book.specs.declared.line.Line.TheVariants.{Step}
pub use Rattle.fp_book.specs.declared.line.LoggedStep.{LoggedStep}
pub use Rattle.fp_book.specs.declared.parcel.Content.{Content}
pub use Rattle.fp_book.specs.declared.parcel.Parcel.{Parcel}
pub use Rattle.fp_book.specs.declared.parcel.Waiting.{Waiting}
pub use Rattle.fp_book.specs.declared.rules.Facts.{Facts}
pub use Rattle.fp_book.specs.declared.rules.Rule.{Rule}
pub use Rattle.fp_book.specs.declared.taken.Taken.{Taken}
pub use Rattle.fp_book.specs.declared.taken.Taken.TheVariants.{Memory, NoRoom, Nothing}
pub use Rattle.fp_book.specs.declared.totals.Totals.{Totals}
pub use Rattle.fp_book.specs.declared.verdict.Verdict.{Verdict}
pub use Rattle.fp_book.specs.declared.verdict.Verdict.TheVariants.{Discard, Extend, Open, Refuse}
