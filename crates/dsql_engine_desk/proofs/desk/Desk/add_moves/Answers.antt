use Rattle.std.proofs.Common.{◌≡◌, length, sym, ap, subst, refl, arith, ◌∙◌}
use Rattle.dsql_laws_calls.specs.laws.OwedMade.{with_moves}
use Rattle.dsql_engine_calls.specs.Calls.{KeepsCalls}
use Rattle.dsql_engine_desk.specs.Desk.{past}
use Rattle.std.specs.Prelude.{vec_len, vec_capacity}
use Rattle.dsql_engine_desk.proofs.Moves.{inside_same, leaves, there_moves, stays_calm}
use Rattle.dsql_engine_lines.specs.There.{lent_by_all}
use Rattle.dsql_engine_calls.specs.Tries.{tried_by_all}
use Rattle.dsql_engine_desk.proofs.Kept.{moves_keep}
use Rattle.dsql_engine_desk.proofs.desk.Desk.add_moves.Goals as goal

pub returns : goal.returns
returns c =
    let d = c.args.self.now in
    let H = past d in
    let ms = d.pool.moves in
    let may = c.requires in
    let t = may.tables in
    let count : length c.moves-count.result.now ≡ length ms = ap length c.moves-count.ensures in
    let lent : length c.moves-2.result.now ≡ length ms = ap length c.moves-2.ensures in
    let noted : length c.moves-3.result.now ≡ length ms = ap length c.moves-3.ensures in
    let p : c.note_moves.new.self.past ≡ with_moves ms H = c.note_moves.ensures.past ∙ ap (λ ns. with_moves ns H) c.moves-3.ensures in
    let rest = leaves ms H in
    record {
      tables = record {
        lawful = rw p may.lawful;
        calm = rw p (stays_calm ms H t.calm);
        caps = rw p (t.caps ∙ sym rest.caps);
        ended = rw p (t.ended ∙ sym rest.has_ended);
        lines = record {
          there = rw p (c.note_all_lent.ensures.there ∙ (ap (λ ns. lent_by_all ns d.lines.there.items) c.moves-2.ensures ∙ (ap (lent_by_all ms) t.lines.there ∙ sym (there_moves ms H))));
          inside = rw p (inside_same c.note_all_lent.new.self d.lines c.note_all_lent.ensures.calls c.note_all_lent.ensures.still_open ∙ (t.lines.inside ∙ sym rest.lines));
        };
        calls =
            rw p
            (subst (λ rs. KeepsCalls (with_moves ms H) rs) (sym (c.note_tries.ensures.items ∙ ap (λ ns. tried_by_all c.args.answer ns d.calls.items) c.moves.ensures))
            (moves_keep ms H d.calls.items c.args.answer may.lawful may.answered t.calls));
        unfinished = rw p (t.unfinished ∙ sym rest.unfinished);
        sent = rw p (t.sent ∙ sym rest.sent);
        step = rw p (t.step ∙ sym may.step);
        labels = rw p (rw rest.works t.labels);
        tx_labels = rw p (rw rest.works t.tx_labels);
        rows = rw p (t.rows ∙ sym rest.handed_out);
        once = rw p (rw rest.handed_out t.once);
        counted = rw p (rw rest.works t.counted);
        txs = rw p (t.txs ∙ sym rest.transactions);
        room = record {
          history = omega (arith, c.note_moves.ensures.spare, t.room.history, may.paid, count, noted);
          there = omega (arith, c.note_all_lent.ensures.len, c.note_all_lent.ensures.capacity, t.room.there, may.paid, count, lent);
          lines = let same = ap (λ (v : _). vec_len v) c.note_all_lent.ensures.calls in let room = ap (λ (v : _). vec_capacity v) c.note_all_lent.ensures.calls in omega (arith, same, room, t.room.lines);
          opened = let same = ap (λ (v : _). vec_len v) c.note_all_lent.ensures.still_open in let room = ap (λ (v : _). vec_capacity v) c.note_all_lent.ensures.still_open in omega (arith, same, room, t.room.opened);
          calls = omega (arith, c.note_tries.ensures.len, c.note_tries.ensures.capacity, t.room.calls);
          unfinished = omega (arith, t.room.unfinished);
          sent = omega (arith, t.room.sent);
          labels = omega (arith, t.room.labels);
          tx_labels = omega (arith, t.room.tx_labels);
          rows = omega (arith, t.room.rows);
          txs = omega (arith, t.room.txs);
        };
      };
      came = p;
      trimmed = c.note_moves.ensures.trimmed;
      paid = omega (arith, may.paid, count);
      closed_by = refl;
      pool = refl;
    }
