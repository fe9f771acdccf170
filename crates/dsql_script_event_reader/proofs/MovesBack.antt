-- Proves that owners and moves are read back as their lines show them. The argument has a case for each kind.
use Rattle.std.proofs.Common.{◌≡◌, ℕ, ◌<◌, ◌^◌, true, leb, decimal, Some, refl, arith}
use Rattle.std.proofs.lemmas.Bool.{le-leb}
use Rattle.dsql_history.specs.journal.declared.entry.Owner.{Owner}
use Rattle.dsql_history.specs.journal.declared.entry.Owner.TheVariants.{Call, Tx, Pin, House}
use Rattle.dsql_history.specs.pool.declared.moves.Move.{Move}
use Rattle.dsql_history.specs.pool.declared.moves.Move.TheVariants.{OpenStart, Lend, Back, CloseStart, Gone, Fell}
use Rattle.dsql_script_calls.specs.ScriptWords.{moment_of}
use Rattle.dsql_script_report.specs.Lines.{owner_word, move_data}
use Rattle.dsql_script_read_back.proofs.ReadMoments.{number_is_read}
use Rattle.dsql_script_read_back.proofs.ReadTexts.{IsRead}
use Rattle.dsql_script_event_lines.specs.Moves.{numbered, owner_of}
use Rattle.dsql_script_event_reader.specs.Fits.{OwnerFits, MoveFits}
use Rattle.dsql_script_event_reader.proofs.Spelled.{list_is_read, also, no_more, number_spelled, string_spelled}

-- A number below 2³² is at most 4294967295.
pub in_word : (n : ℕ) → n < 2 ^ 32 → leb n 4294967295 ≡ true
in_word n few = le-leb n 4294967295 (omega arith)

pub numbered_back : (n : ℕ) → n < 2 ^ 32 → numbered (decimal n) ≡ Some n
numbered_back n few =
    let small : n < 2 ^ 64 = omega arith in
    let read : moment_of (decimal n) ≡ Some n = number_is_read n small in
    rw (read, in_word n few) refl

pub owner_is_read_back : (o : Owner) → OwnerFits o → owner_of (owner_word o) ≡ Some o
owner_is_read_back (Call n) few = rw (numbered_back n few) refl
owner_is_read_back (Tx n) few = rw (numbered_back n few) refl
owner_is_read_back (Pin n) few = rw (numbered_back n few) refl
owner_is_read_back House few = refl

pub move_is_read : (m : Move) → MoveFits m → IsRead 1 (move_data m)
move_is_read (OpenStart conn call) fits = list_is_read (also (string_spelled 0 _) (also (number_spelled 0 conn fits.0) (also (number_spelled 0 call fits.1) no_more)))
move_is_read (Lend conn tenure owner call) fits = list_is_read (also (string_spelled 0 _) (also (number_spelled 0 conn fits.0) (also (number_spelled 0 tenure fits.1) (also (string_spelled 0 _) no_more))))
move_is_read (Back conn) fits = list_is_read (also (string_spelled 0 _) (also (number_spelled 0 conn fits) no_more))
move_is_read (CloseStart conn cause) fits = list_is_read (also (string_spelled 0 _) (also (number_spelled 0 conn fits) (also (string_spelled 0 _) no_more)))
move_is_read (Gone conn) fits = list_is_read (also (string_spelled 0 _) (also (number_spelled 0 conn fits) no_more))
move_is_read (Fell conn call) fits = list_is_read (also (string_spelled 0 _) (also (number_spelled 0 conn fits.0) (also (number_spelled 0 call fits.1) no_more)))
