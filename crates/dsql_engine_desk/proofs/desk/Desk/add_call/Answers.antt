use Rattle.std.proofs.Common.{◌≡◌, ◌++◌, ◌∷◌, [], ℕ, List, length, length-append, arith, ◌+◌, rules, ap, refl, ◌∙◌}
use Rattle.std.specs.Prelude.{position}
use Rattle.indexmap.specs.IndexMap.{get_by_text}
use Rattle.dsql_laws_calls.specs.history.Readers.HandedOut.{handed_out}
use Rattle.dsql_laws_calls.specs.history.Readers.Works.{begins_as, hands_out_as, works, work_of}
use Rattle.dsql_engine_lines.specs.Inside.{lines_entered}
use Rattle.dsql_engine_effects.specs.Ended.{rows_with_end, txs_with_end, works_of}
use Rattle.dsql_engine_effects.proofs.OnceKept.{rows_once_entered}
use Rattle.dsql_engine_desk.proofs.EndedSame.{closed_same}
use Rattle.dsql_engine_desk.specs.Desk.{past}
use Rattle.dsql_engine_effects.specs.Starts.{closed_rows, labelled, label_made, tx_label_made}
use Rattle.dsql_engine_desk.proofs.Kept.{added_keeps}
use Rattle.dsql_engine_desk.proofs.Known.{enters_next}
use Rattle.dsql_engine_desk.proofs.Moves.{inside_entered}
use Rattle.dsql_engine_effects.proofs.Labelled.{labelled_pushed, tx_labelled_pushed}
use Rattle.dsql_engine_desk.proofs.desk.Desk.add_call.Goals as goal

pub returns : goal.returns
returns c =
    let H = past c.args.self.now in
    let client = c.args.client in
    let n = c.args.call in
    let op = c.args.op in
    let may = c.requires.may in
    let t = may.tables in
    let s = c.requires.starts in
    let w = work_of (works H) op in
    let next : n ≡ length (works H) = enters_next H client n op may.lawful.1 in
    let labels : (label : List ℕ) → get_by_text c.note_label.new.labels label ≡ position (hands_out_as label) (works H ++ w ∷ [])
    = λ label.
    c.note_label.ensures.labels label
    ∙ ap (λ made. labelled made n label (get_by_text c.args.self.now.labels label)) s.label
    ∙ ap (λ earlier. labelled (label_made w) n label earlier) (t.labels label)
    ∙ labelled_pushed (works H) w n label next in
    let tx_labels : (label : List ℕ) → get_by_text c.note_label-2.new.labels label ≡ position (begins_as label) (works H ++ w ∷ [])
    = λ label.
    c.note_label-2.ensures.labels label
    ∙ ap (λ made. labelled made n label (get_by_text c.args.self.now.tx_labels label)) s.tx_label
    ∙ ap (λ earlier. labelled (tx_label_made w) n label earlier) (t.tx_labels label)
    ∙ tx_labelled_pushed (works H) w n label next in
    let closed = c.close_rows.new.calls.items in
    let all : works_of closed ≡ works H
    = ap works_of c.close_rows.ensures.calls ∙ (closed_same (λ r. r.work) c.args.start.closes n c.args.self.now.rows.rows c.args.self.now.calls.items (λ r m. refl) ∙ t.calls.works) in
    let rows : c.close_rows.new.rows.rows ≡ closed_rows c.args.start.closes (handed_out H) = c.close_rows.ensures.rows ∙ ap (closed_rows c.args.start.closes) t.rows in
    let p = c.note.ensures.past in
    let few = c.requires.few in
    let more : length (works H ++ w ∷ []) ≡ length (works H) + 1 = length-append (works H) (w ∷ []) in
    record {
      tables = record {
        lawful = rw p may.lawful;
        calm = rw p may.calm;
        caps = rw p t.caps;
        ended = rw p t.ended;
        lines = record { there = rw p (ap (λ v. v.items) c.note_call.ensures.there ∙ t.lines.there); inside = rw p (inside_entered c.note_call.new.self c.args.self.now.lines c.note_call.ensures.calls c.note_call.ensures.still_open ∙ ap lines_entered t.lines.inside) };
        calls = rw p (added_keeps H client n op c.args.start c.new.result c.args.self.now.calls.items _ _ _ _ _ _ t.lawful next s c.new.ensures t.calls t.txs t.rows c.close_rows.ensures.rows c.close_rows.ensures.calls c.end_tx.ensures.calls c.put.ensures.items);
        unfinished = search rules;
        sent = rw p (c.put-3.ensures.items ∙ ap (λ xs. xs ++ 0 ∷ []) t.sent);
        step = rw p refl;
        labels = rw p labels;
        tx_labels = rw p tx_labels;
        rows = rw p (c.end_tx.ensures.rows ∙ (ap (λ ws. rows_with_end c.args.start.ends ws c.close_rows.new.rows.rows) all ∙ (ap (rows_with_end c.args.start.ends (works H)) rows ∙ s.rows)));
        once = rw p (rows_once_entered H op (handed_out H) t.once);
        counted = rw p (omega (arith, few, more));
        txs = rw p (c.end_tx.ensures.txs ∙ (ap (txs_with_end c.args.start.ends) t.txs ∙ s.txs));
        room = search rules;
      };
      event = p;
      trimmed = c.note.ensures.trimmed;
      paid = search rules;
      closed_by = refl;
      pool = refl;
    }
