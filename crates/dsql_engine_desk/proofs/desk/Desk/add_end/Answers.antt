use Rattle.std.proofs.Common.{ap, refl, rules, ◌∙◌, ◌≡◌, List}
use Rattle.dsql_laws_calls.specs.numbered.Numbered.{all_changed}
use Rattle.dsql_laws_calls.specs.rows.OpenRows.{ended_by}
use Rattle.dsql_laws_calls.specs.rows.declared.end.RowsEnd.TheVariants.{EndOfRun}
use Rattle.dsql_laws_calls.specs.tx.Transactions as transactions
use Rattle.dsql_laws_calls.specs.tx.declared.end.TxEnd.TheVariants as tx_ends
use Rattle.dsql_laws_calls.specs.works.HandedOut.{Made}
use Rattle.dsql_laws_calls.specs.history.declared.work.Work.{Work}
use Rattle.dsql_laws_calls.specs.history.Readers.HandedOut.{handed_out, rows_at_end}
use Rattle.dsql_laws_calls.specs.history.Readers.Works.{works}
use Rattle.dsql_engine_effects.specs.Ended.{numbered, rows_ended, works_inside, works_of}
use Rattle.dsql_engine_effects.proofs.AsEntered.{rows_end_at_last}
use Rattle.dsql_engine_effects.proofs.OnceKept.{rows_once_at_end}
use Rattle.dsql_engine_desk.specs.Desk.{past}
use Rattle.dsql_engine_desk.proofs.OtherEvents.{end_keeps}
use Rattle.dsql_engine_desk.proofs.desk.Desk.add_end.Goals as goal

pub returns : goal.returns
returns c =
    let d = c.args.self.now in
    let H = past d in
    let may = c.requires.may in
    let t = may.tables in
    let p = c.note.ensures.past in
    let ending : List Work → Made → Made = λ ws made. all_changed (ended_by EndOfRun) (rows_ended works_inside 0 ws (numbered ws) made) in
    let all : works_of d.calls.items ≡ works H = t.calls.works in
    let rows : ending (works_of d.calls.items) d.rows.rows ≡ rows_at_end H (handed_out H)
    = ap (λ ws. ending ws d.rows.rows) all ∙ (ap (ending (works H)) t.rows ∙ rows_end_at_last H (handed_out H) c.requires.few t.once) in
    record {
      tables = record {
        lawful = rw p may.lawful;
        calm = rw p may.calm;
        caps = rw p t.caps;
        ended = rw p refl;
        lines = record { there = rw p t.lines.there; inside = rw p t.lines.inside };
        calls = rw p (end_keeps H d.calls.items t.calls);
        unfinished = rw p t.unfinished;
        sent = rw p t.sent;
        step = rw p refl;
        labels = rw p t.labels;
        tx_labels = rw p t.tx_labels;
        rows = rw p (c.end_run.ensures.rows ∙ rows);
        once = rw p (rows_once_at_end H (handed_out H) t.once);
        counted = rw p t.counted;
        txs = rw p (c.end_run.ensures.txs ∙ ap (all_changed (transactions.ended_by tx_ends.EndOfRun)) t.txs);
        room = search rules;
      };
      event = p;
      trimmed = c.note.ensures.trimmed;
      paid = search rules;
      closed_by = refl;
      pool = refl;
    }
