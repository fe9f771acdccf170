use Rattle.std.proofs.Common.{sym, refl, rules, ◌∙◌}
use Rattle.dsql_engine_desk.specs.Desk.{past}
use Rattle.dsql_engine_desk.proofs.OtherEvents.{beside_keeps}
use Rattle.dsql_engine_desk.proofs.desk.Desk.add_beside.Goals as goal

pub returns : goal.returns
returns c =
    let d = c.args.self.now in
    let H = past d in
    let may = c.requires.may in
    let t = may.tables in
    let k = beside_keeps H c.args.event d.calls.items c.requires.beside t.calls in
    let p = c.note.ensures.past in
    record {
      tables = record {
        lawful = rw p may.lawful;
        calm = rw p may.calm;
        caps = rw p (t.caps ∙ sym k.caps);
        ended = rw p (t.ended ∙ sym k.has_ended);
        lines = record { there = rw p (t.lines.there ∙ sym k.there); inside = rw p (t.lines.inside ∙ sym k.lines) };
        calls = rw p k.calls;
        unfinished = rw p (t.unfinished ∙ sym k.unfinished);
        sent = rw p (t.sent ∙ sym k.sent);
        step = rw p (sym k.step);
        labels = rw p (rw k.works t.labels);
        tx_labels = rw p (rw k.works t.tx_labels);
        rows = rw p (t.rows ∙ sym k.handed_out);
        once = rw p (rw k.handed_out t.once);
        counted = rw p (rw k.works t.counted);
        txs = rw p (t.txs ∙ sym k.transactions);
        room = search rules;
      };
      event = p;
      trimmed = c.note.ensures.trimmed;
      paid = search rules;
      closed_by = refl;
      pool = refl;
    }
