use Rattle.std.proofs.Common.{[], ◌∷◌, sym, ap, subst, refl, rules, ◌∙◌}
use Rattle.dsql_laws_calls.specs.driver.declared.answer.DriverAnswer.TheVariants.{Bad}
use Rattle.dsql_laws_calls.specs.history.declared.event.Event.TheVariants.{Pool}
use Rattle.dsql_engine_calls.specs.Calls.{KeepsCalls}
use Rattle.dsql_engine_desk.specs.Desk.{past}
use Rattle.dsql_engine_desk.specs.Step.{own_step, step_after_move}
use Rattle.std.specs.Prelude.{cond}
use Rattle.dsql_laws_calls.specs.journal.Readers.{is_empty}
use Rattle.dsql_engine_lines.specs.There.{lent_by}
use Rattle.dsql_engine_desk.proofs.Kept.{moves_keep, unrefused}
use Rattle.dsql_engine_desk.proofs.Moves.{inside_same, there_move}
use Rattle.dsql_engine_desk.proofs.desk.Desk.add_move.Goals as goal

pub returns : goal.returns
returns c =
    let d = c.args.self.now in
    let H = past d in
    let it = c.args.it in
    let may = c.requires.may in
    let t = may.tables in
    let p = c.note.ensures.past in
    record {
      tables = record {
        lawful = rw p may.lawful;
        calm = rw p may.calm;
        caps = rw p t.caps;
        ended = rw p t.ended;
        lines = record { there = rw p (c.note_lent.ensures.there ∙ (ap (lent_by it) t.lines.there ∙ sym (there_move it H))); inside = rw p (inside_same c.note_lent.new.self d.lines c.note_lent.ensures.calls c.note_lent.ensures.still_open ∙ t.lines.inside) };
        calls =
            rw p
            (subst (λ rs. KeepsCalls (Pool it ∷ H) rs) (sym c.note_try.ensures.items)
            (moves_keep (it ∷ []) H d.calls.items Bad may.lawful (unrefused it H c.requires.other) t.calls));
        unfinished = rw p t.unfinished;
        sent = rw p t.sent;
        step = rw p (c.step_after_move-self.ensures ∙ (ap (step_after_move it) t.step ∙ sym (ap (λ due. cond (is_empty due) (step_after_move it (own_step H)) (own_step H)) c.requires.owing)));
        labels = rw p t.labels;
        tx_labels = rw p t.tx_labels;
        rows = rw p t.rows;
        once = rw p t.once;
        counted = rw p t.counted;
        txs = rw p t.txs;
        room = search rules;
      };
      event = p;
      trimmed = c.note.ensures.trimmed;
      paid = search rules;
      closed_by = refl;
      pool = refl;
    }
