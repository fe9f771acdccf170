use Rattle.std.proofs.Common.{◌≡◌, sym, ap, subst, refl, rules, ◌∙◌}
use Rattle.std.specs.Prelude.{slice_set, slice_index_or}
use Rattle.dsql_laws_calls.specs.history.Readers.HandedOut.{handed_out}
use Rattle.dsql_laws_calls.specs.history.Readers.Transactions.{transactions, tx_heard}
use Rattle.dsql_laws_calls.specs.history.Readers.Works.{work, works}
use Rattle.dsql_engine_calls.specs.Calls.{row_at}
use Rattle.dsql_engine_calls.proofs.Borrowers.{row_work}
use Rattle.dsql_engine_desk.specs.Desk.{past}
use Rattle.dsql_engine_lines.specs.Inside.{lines_heard}
use Rattle.dsql_engine_lines.specs.Lines.{in_transactions}
use Rattle.dsql_engine_lines.specs.There.{nothing_there, then_there}
use Rattle.dsql_engine_effects.specs.Heard.{HearsBegin, HearsRows, rows_after}
use Rattle.dsql_engine_effects.proofs.AsHeard.{rows_as_heard}
use Rattle.dsql_engine_effects.proofs.OnceKept.{rows_once_heard}
use Rattle.dsql_engine_desk.proofs.Kept.{answered_keeps, decides_in_row}
use Rattle.dsql_engine_desk.proofs.desk.Desk.add_answer.Goals as goal

pub tell_answer-requires-clause-decides : goal.tell_answer-requires-clause-decides
tell_answer-requires-clause-decides c =
    let d = c.args.self.now in
    let may = c.requires.may in
    decides_in_row (past d) c.args.entry d.calls.items c.args.copy c.args.reply may.lawful may.tables.calls c.requires.decides

pub tell_answer-requires-clause-rows : goal.tell_answer-requires-clause-rows
tell_answer-requires-clause-rows c =
    let d = c.args.self.now in
    let n = c.args.entry.call_no in
    let t = c.requires.may.tables in
    subst (λ rows. HearsRows (row_at d.calls.items n).work n c.args.entry.call rows) (sym t.rows)
    (subst (λ w. HearsRows w n c.args.entry.call (handed_out (past d))) (sym (row_work (past d) d.calls.items n t.calls)) c.requires.rows)

pub tell_answer-requires-clause-begin : goal.tell_answer-requires-clause-begin
tell_answer-requires-clause-begin c = subst (λ txs. HearsBegin c.args.entry.call_no c.args.entry.call txs) (sym c.requires.may.tables.txs) c.requires.begin

pub returns : goal.returns
returns c =
    let d = c.args.self.now in
    let H = past d in
    let e = c.args.entry in
    let n = e.call_no in
    let may = c.requires.may in
    let t = may.tables in
    let is : (row_at d.calls.items n).work ≡ work H n = row_work H d.calls.items n t.calls in
    let p = c.note.ensures.past in
    record {
      tables = record {
        lawful = rw p may.lawful;
        calm = rw p may.calm;
        caps = rw p t.caps;
        ended = rw p t.ended;
        lines = record {
          there = rw p (c.note_entry.ensures.there ∙ ap (λ xs. slice_set xs e.conn (then_there e (slice_index_or xs e.conn nothing_there))) t.lines.there);
          inside = rw p (c.note_entry.ensures.inside ∙ (ap (λ ws. lines_heard ws e (in_transactions d.lines)) t.calls.works ∙ ap (lines_heard (works H) e) t.lines.inside));
        };
        calls = rw p (answered_keeps H e d.calls.items _ _ may.lawful c.requires.rows t.calls t.rows c.tell_answer.ensures.items);
        unfinished = rw p t.unfinished;
        sent = rw p (c.note_sent.ensures.items ∙ ap (λ xs. slice_set xs n e.conn) t.sent);
        step = rw p refl;
        labels = rw p t.labels;
        tx_labels = rw p t.tx_labels;
        rows =
            rw p
            (c.tell_answer.ensures.rows
            ∙ (ap (λ ts. rows_after ts (row_at d.calls.items n).work n e.call e.answer d.rows.rows) t.txs
            ∙ (ap (λ w. rows_after (transactions H) w n e.call e.answer d.rows.rows) is ∙ (ap (rows_after (transactions H) (work H n) n e.call e.answer) t.rows ∙ rows_as_heard H (work H n) n e.call e.answer (handed_out H)))));
        once = rw p (rows_once_heard H (work H n) n e.call e.answer (handed_out H) c.requires.rows t.once);
        counted = rw p t.counted;
        txs = rw p (c.tell_answer.ensures.txs ∙ ap (tx_heard e) t.txs);
        room = search rules;
      };
      event = p;
      trimmed = c.note.ensures.trimmed;
      paid = search rules;
      closed_by = refl;
      pool = refl;
    }
