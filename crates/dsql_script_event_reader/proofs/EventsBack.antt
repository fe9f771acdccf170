-- An event that a line shows is read as this event: the proof has a case for each form of event.
use Rattle.std.proofs.Common.{◌≡◌, ℕ, ◌<◌, ◌^◌, true, leb, Some, refl, arith}
use Rattle.std.proofs.lemmas.Bool.{le-leb, and_parts}
use Rattle.dsql_history.specs.pool.declared.moves.CloseCause.{CloseCause}
use Rattle.dsql_history.specs.pool.declared.moves.CloseCause.TheVariants.{Bad}
use Rattle.dsql_history.specs.pool.declared.moves.Move.{Move}
use Rattle.dsql_history.specs.pool.declared.moves.Move.TheVariants.{OpenStart, Lend, Back, CloseStart, Gone, Fell}
use Rattle.dsql_history.specs.declared.event.Setting.{Setting}
use Rattle.dsql_history.specs.declared.event.Setting.TheVariants.{MaxOpen}
use Rattle.dsql_script_spelling.specs.CapsNames.{caps_names}
use Rattle.dsql_script_report.specs.Lines.{cause_word, limit_word, move_data, json_of}
use Rattle.dsql_script_read_back.proofs.ReadCaps.{among_its_names}
use Rattle.dsql_script_read_back.proofs.ReadNumbers.{as_i64_signed}
use Rattle.dsql_script_read_back.proofs.ReadTexts.{IsRead, deeper}
use Rattle.dsql_script_event_lines.specs.Moves.{cause_of}
use Rattle.dsql_script_event_lines.specs.WellFormed.{is_client, is_named_op, is_well_formed}
use Rattle.dsql_script_event_reader.specs.Events.{setting_of, event_of}
use Rattle.dsql_script_event_reader.specs.Fits.{MoveFits, shown_move, NumbersFit, shown}
use Rattle.dsql_script_event_reader.proofs.DriverBack.{call_is_read_back, call_is_read, answer_is_read_back, answer_is_read}
use Rattle.dsql_script_event_reader.proofs.MovesBack.{in_word, owner_is_read_back, move_is_read}
use Rattle.dsql_script_event_reader.proofs.Spelled.{list_is_read, also, no_more, texts_are_read, natural_spelled, number_spelled, integer_spelled, string_spelled}
use Rattle.dsql_script_event_reader.proofs.ValuesBack.{texts_are_read_back}
use Rattle.dsql_history.specs.declared.event.Event.{Event}
use Rattle.dsql_history.specs.declared.event.Event.TheVariants.{Run, Entered, Heard, Pool, Waits, Ticked, SetLimit, Replied, Ended}
use Rattle.dsql_script_event_reader.proofs.AskedBack.{op_is_read_back, entered_is_read}
use Rattle.dsql_script_event_reader.proofs.RepliesBack.{reply_is_read_back, reply_is_read}

in_byte : (n : ℕ) → n < 2 ^ 8 → leb n 255 ≡ true
in_byte n few = le-leb n 255 (omega arith)

cause_is_read_back : (c : CloseCause) → cause_of (cause_word c) ≡ Some c
cause_is_read_back Bad = refl
cause_is_read_back _ = refl

move_is_read_back : (m : Move) → MoveFits m → event_of (move_data m) ≡ Some (Pool (shown_move m))
move_is_read_back (OpenStart conn call) fits = rw (in_word conn fits.0, in_word call fits.1) refl
move_is_read_back (Lend conn tenure owner call) fits = rw (in_word conn fits.0, in_word tenure fits.1, owner_is_read_back owner fits.2) refl
move_is_read_back (Back conn) fits = rw (in_word conn fits) refl
move_is_read_back (CloseStart conn cause) fits = rw (in_word conn fits, cause_is_read_back cause) refl
move_is_read_back (Gone conn) fits = rw (in_word conn fits) refl
move_is_read_back (Fell conn call) fits = rw (in_word conn fits.0, in_word call fits.1) refl

setting_is_read_back : (s : Setting) → setting_of (limit_word s) ≡ Some s
setting_is_read_back MaxOpen = refl
setting_is_read_back _ = refl

pub event_is_read_back : (e : Event) → is_well_formed e ≡ true → NumbersFit e → event_of (json_of e) ≡ Some (shown e)
event_is_read_back (Run version caps) named fits = rw (in_byte version fits, texts_are_read_back (caps_names caps), among_its_names caps) refl
event_is_read_back (Entered client n o) named fits = rw (in_byte client fits.0, in_word n fits.1, op_is_read_back client n o (and_parts (is_client client) (is_named_op o) named).1 fits.2) refl
event_is_read_back (Heard entry) named fits =
    rw (in_word entry.conn fits.0, in_word entry.tenure fits.1, owner_is_read_back entry.owner fits.2, in_word entry.call_no fits.3, in_word entry.tx fits.4, call_is_read_back entry.call fits.5, answer_is_read_back entry.answer fits.6) refl
event_is_read_back (Pool move) named fits = move_is_read_back move fits
event_is_read_back (Waits n) named fits = rw (in_word n fits) refl
event_is_read_back (SetLimit setting n) named fits = rw (setting_is_read_back setting, as_i64_signed n fits) refl
event_is_read_back (Replied n reply) named fits = rw (in_word n fits.0, reply_is_read_back reply fits.1) refl
event_is_read_back _ named fits = refl

pub event_is_read : (e : Event) → NumbersFit e → IsRead 5 (json_of e)
event_is_read (Run version caps) fits = list_is_read (also (string_spelled 4 _) (also (natural_spelled 4 version (omega arith)) (also (list_is_read (texts_are_read 3 (caps_names caps))) no_more)))
event_is_read (Entered client n o) fits = entered_is_read client n o fits.0 fits.1 fits.2
event_is_read (Heard entry) fits =
    list_is_read (also (string_spelled 4 _) (also (number_spelled 4 entry.conn fits.0) (also (number_spelled 4 entry.tenure fits.1) (also (string_spelled 4 _) (also (number_spelled 4 entry.call_no fits.3) (also (number_spelled 4 entry.tx fits.4) (also (call_is_read entry.call fits.5) (also (answer_is_read entry.answer fits.6) no_more))))))))
event_is_read (Pool move) fits = deeper 1 5 (json_of (Pool move)) (omega arith) (move_is_read move fits)
event_is_read (Waits n) fits = list_is_read (also (string_spelled 4 _) (also (number_spelled 4 n fits) no_more))
event_is_read (Ticked now) fits = list_is_read (also (string_spelled 4 _) (also (natural_spelled 4 now fits) no_more))
event_is_read (SetLimit setting n) fits = list_is_read (also (string_spelled 4 _) (also (string_spelled 4 _) (also (integer_spelled 4 n fits) no_more)))
event_is_read (Replied n reply) fits = list_is_read (also (string_spelled 4 _) (also (number_spelled 4 n fits.0) (also (reply_is_read reply fits.1) no_more)))
event_is_read Ended fits = list_is_read (also (string_spelled 4 _) no_more)
