use Rattle.std.proofs.Common.{◌∷◌, sym, ap, subst, refl, rules, ◌∙◌}
use Rattle.dsql_laws_calls.specs.pool.Pooled.{without}
use Rattle.dsql_laws_calls.specs.history.declared.event.Event.TheVariants.{Replied}
use Rattle.dsql_engine_calls.specs.Calls.{KeepsCalls}
use Rattle.dsql_engine_desk.specs.Desk.{past}
use Rattle.dsql_engine_desk.proofs.Kept.{replied_keeps}
use Rattle.dsql_engine_desk.proofs.desk.Desk.add_reply.Goals as goal

pub returns : goal.returns
returns c =
    let d = c.args.self.now in
    let H = past d in
    let n = c.args.call in
    let reply = c.args.reply in
    let may = c.requires in
    let t = may.tables in
    let p = c.note.ensures.past in
    record {
      tables = record {
        lawful = rw p may.lawful;
        calm = rw p may.calm;
        caps = rw p t.caps;
        ended = rw p t.ended;
        lines = record { there = rw p t.lines.there; inside = rw p t.lines.inside };
        calls = rw p (subst (λ rs. KeepsCalls (Replied n reply ∷ H) rs) (sym c.forget.ensures.items) (replied_keeps H n reply d.calls.items t.calls));
        unfinished = rw p (c.take_out.ensures.items ∙ ap (without n) t.unfinished);
        sent = rw p t.sent;
        step = rw p refl;
        labels = rw p t.labels;
        tx_labels = rw p t.tx_labels;
        rows = rw p t.rows;
        once = rw p t.once;
        counted = rw p t.counted;
        txs = rw p t.txs;
        room = search rules;
      };
      event = p;
      trimmed = c.note.ensures.trimmed;
      paid = search rules;
      closed_by = refl;
      pool = refl;
    }
