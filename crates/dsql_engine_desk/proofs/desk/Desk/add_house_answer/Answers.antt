use Rattle.std.proofs.Common.{sym, ap, refl, rules, ◌∙◌}
use Rattle.std.specs.Prelude.{slice_set, slice_index_or}
use Rattle.dsql_engine_desk.specs.Desk.{past}
use Rattle.dsql_engine_lines.specs.Inside.{lines_heard}
use Rattle.dsql_engine_lines.specs.Lines.{in_transactions}
use Rattle.dsql_engine_lines.specs.There.{nothing_there, then_there}
use Rattle.dsql_laws_calls.specs.history.Readers.Transactions.{transactions}
use Rattle.dsql_laws_calls.specs.history.Readers.Works.{works}
use Rattle.dsql_engine_desk.proofs.HouseCalls.{house_keeps, house_rows, house_txs}
use Rattle.dsql_engine_desk.proofs.desk.Desk.add_house_answer.Goals as goal

pub returns : goal.returns
returns c =
    let d = c.args.self.now in
    let H = past d in
    let e = c.args.entry in
    let may = c.requires.may in
    let t = may.tables in
    let opens = c.requires.opens in
    let p = c.note.ensures.past in
    record {
      tables = record {
        lawful = rw p may.lawful;
        calm = rw p may.calm;
        caps = rw p t.caps;
        ended = rw p t.ended;
        lines = record {
          there = rw p (c.note_entry.ensures.there ∙ ap (λ xs. slice_set xs e.conn (then_there e (slice_index_or xs e.conn nothing_there))) t.lines.there);
          inside = rw p (c.note_entry.ensures.inside ∙ (ap (λ ws. lines_heard ws e (in_transactions d.lines)) t.calls.works ∙ ap (lines_heard (works H) e) t.lines.inside));
        };
        calls = rw p (house_keeps H e d.calls.items t.lawful opens c.requires.house t.calls);
        unfinished = rw p t.unfinished;
        sent = rw p (c.note_sent.ensures.items ∙ ap (λ xs. slice_set xs e.call_no e.conn) t.sent);
        step = rw p refl;
        labels = rw p t.labels;
        tx_labels = rw p t.tx_labels;
        rows = rw p (t.rows ∙ sym (house_rows H e opens));
        once = rw p (rw (house_rows H e opens) t.once);
        counted = rw p t.counted;
        txs = rw p (t.txs ∙ sym (house_txs e (transactions H) opens));
        room = search rules;
      };
      event = p;
      trimmed = c.note.ensures.trimmed;
      paid = search rules;
      closed_by = refl;
      pool = refl;
    }
