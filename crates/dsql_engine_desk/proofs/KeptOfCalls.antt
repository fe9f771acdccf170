-- What the row of a call says.
use Rattle.std.proofs.Common.{◌≡◌, ℕ, true, List, Option, get_or, refl, sym, ap, subst, ◌∙◌}
use Rattle.std.specs.Prelude.{IfOk, Result, Ok, Err}
use Rattle.std.proofs.Math.ListN.{get_or-map}
use Rattle.dsql_laws_calls.specs.journal.declared.entry.Entry.{Entry}
use Rattle.dsql_laws_calls.specs.history.declared.work.Work.{Work}
use Rattle.dsql_laws_calls.specs.history.declared.work.Work.TheVariants.{Look}
use Rattle.dsql_laws_calls.specs.history.declared.reply.Reply.{Reply}
use Rattle.dsql_laws_calls.specs.history.Readers.Tries.{try_number, tries}
use Rattle.dsql_laws_calls.specs.history.Readers.Unfinished.{is_unfinished}
use Rattle.dsql_laws_calls.specs.history.Readers.Works.{work}
use Rattle.dsql_laws_calls.specs.history.Legal.{Lawful}
use Rattle.dsql_engine_calls.specs.declared.call.CallRow.{CallRow}
use Rattle.dsql_engine_calls.specs.declared.no_room.NoRoom.{NoRoom}
use Rattle.dsql_engine_calls.specs.Tried.{number}
use Rattle.dsql_engine_calls.proofs.KeptTries.{kept_number}
use Rattle.dsql_engine_effects.specs.Heard.{Decides}
use Rattle.dsql_engine_desk.specs.Appending.{DecidesNow}
use Rattle.dsql_engine_desk.specs.declared.desk.Desk.{Desk}
use Rattle.dsql_engine_calls.specs.Calls.{nobody, row_at}
use Rattle.dsql_engine_desk.specs.Desk.{past, Stands}

pub work_kept : (d : Desk) (n : ℕ) → Stands d → (row_at d.calls.items n).work ≡ work (past d) n
unfolding Stands
work_kept d n s = sym (get_or-map (λ (row : CallRow). row.work) d.calls.items n nobody) ∙ ap (λ (works : List Work). get_or works n Look) s.tables.calls.works

-- The row of a call without a reply gives the number of its newest try.
number_kept : (d : Desk) (n : ℕ) → Stands d → is_unfinished (past d) n ≡ true → number (row_at d.calls.items n).tried ≡ try_number (tries (past d) n)
unfolding Stands
number_kept d n s left = ap number (s.tables.calls.tried n left) ∙ kept_number (tries (past d) n)

-- What an answer decides by the call's row, it decides by the history.
pub decides_kept : (d : Desk) (e : Entry) (told : Result (Option Reply) NoRoom) → Stands d
    → IfOk told (λ reply. Decides (number (row_at d.calls.items e.call_no).tried) (row_at d.calls.items e.call_no).work e e.answer reply) → IfOk told (DecidesNow (past d) e e.answer)
decides_kept d e (Ok reply) s decides =
    let n = e.call_no in
    let row = row_at d.calls.items n in
    record {
      same = refl;
      decides = λ left.
          subst (λ (w : Work). Decides (try_number (tries (past d) n)) w e e.answer reply) (work_kept d n s)
          (subst (λ (i : ℕ). Decides i row.work e e.answer reply) (number_kept d n s left) decides);
    }
decides_kept d e (Err none) s decides = tt

pub lawful_kept : (d : Desk) → Stands d → Lawful (past d)
unfolding Stands
lawful_kept d s = s.tables.lawful
