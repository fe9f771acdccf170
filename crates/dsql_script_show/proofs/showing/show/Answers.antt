use Rattle.std.proofs.Common.{◌≡◌, ◌-◌, ◌≤◌, ℕ, List, [], Option, sym, subst}
use Rattle.std.specs.Prelude.{Err, reverse}
use Rattle.dsql_history.specs.declared.event.Event.{Event}
use Rattle.dsql_script_report.specs.Lines.{text_of}
use Rattle.dsql_history.specs.Trimmed.{IsLeftOf}
use Rattle.dsql_script_show.specs.Report.{with_text, StopsBetween, oldest, Shows}
use Rattle.dsql_script_show.proofs.Errors.{err_is}
use Rattle.dsql_script_show.proofs.Texts.{left_length, shows_left, stops_left, slice_rest}
use Rattle.dsql_script_show.proofs.showing.show.Goals as goal

pub returns-in_err-show_events-clause-stops : goal.returns-in_err-show_events-clause-stops
returns-in_err-show_events-clause-stops g c =
    let is : c.from_residual.result ≡ Err c.in_err-show_events.field-0.0 = err_is c.from_residual.result c.in_err-show_events.field-0.0 c.from_residual.ensures.1 in
    let held = g.K.Sink.written c.args.output.now in
    let holds = g.K.Sink.written c.show_events.new.output in
    let kept = c.args.kept.now in
    let trimmed = c.args.trimmed in
    let n = c.shown.inside.count in
    let more : trimmed ≤ n = subst (λ (k : ℕ). trimmed ≤ k) (sym c.shown.view_is) c.requires.trimmed in
    let P : ℕ → Type 0 = λ k. (past : List Event) → IsLeftOf past trimmed kept → (w : Option (List ℕ)) → Shows w k past held → StopsBetween w (text_of (oldest k past)) (text_of past) holds in
    let stops : P n = λ past left w shows. stops_left w held holds n trimmed past kept left more shows
    (subst (λ es. StopsBetween held [] (text_of (reverse es)) holds) (slice_rest (n - trimmed) kept) c.in_err-show_events.ensures.err) in
    rw is (subst P c.shown.view_is stops)

pub returns-clause-shows : goal.returns-clause-shows
returns-clause-shows g c =
    let held = g.K.Sink.written c.args.output.now in
    let holds = g.K.Sink.written c.show_events.new.output in
    let kept = c.args.kept.now in
    let trimmed = c.args.trimmed in
    let n = c.shown.inside.count in
    let more : trimmed ≤ n = subst (λ (k : ℕ). trimmed ≤ k) (sym c.shown.view_is) c.requires.trimmed in
    let P : ℕ → Type 0 = λ k. (past : List Event) → IsLeftOf past trimmed kept → (w : Option (List ℕ)) → Shows w k past held → holds ≡ with_text w (text_of past) in
    let shows : P n = λ past left w shows. shows_left w held holds n trimmed past kept left more shows
    (subst (λ es. holds ≡ with_text held (text_of (reverse es))) (slice_rest (n - trimmed) kept) c.in_ok-show_events.ensures.ok) in
    subst P c.shown.view_is shows

pub returns-clause-ok : goal.returns-clause-ok
returns-clause-ok g c = λ past left. left_length past c.args.kept.now c.args.trimmed left
