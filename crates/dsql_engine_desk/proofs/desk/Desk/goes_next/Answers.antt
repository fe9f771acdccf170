use Rattle.std.proofs.Common.{◌≡◌, rules, sym, ap, ◌∙◌}
use Rattle.dsql_laws_calls.specs.driver.declared.caps.Caps.{Caps}
use Rattle.dsql_engine_exchanged.specs.Exchanged.{unheard}
use Rattle.dsql_engine_exchanged.specs.declared.exchanged.Exchanged.{Exchanged}
use Rattle.dsql_engine_desk.specs.Desk.{past, Stands}
use Rattle.dsql_engine_desk.specs.Next.{there_at}
use Rattle.dsql_engine_exchanged.specs.Inside.{inside_told}
use Rattle.dsql_laws_calls.specs.history.Readers.Course.{caps}
use Rattle.dsql_laws_calls.specs.history.Rules.Sent.{asked_by}
use Rattle.dsql_engine_lines.specs.Inside.{InTransactions, line_at, lines}
use Rattle.dsql_engine_desk.proofs.desk.Desk.goes_next.Goals as goal

pub returns-in-Some : goal.returns-in-Some
unfolding Stands
returns-in-Some c =
    let d = c.args.self.now in
    let H = past d in
    let asked = asked_by H c.args.call in
    let calls : d.lines.calls.items ≡ (lines H).calls = ap (λ (it : InTransactions). it.calls) c.requires.tables.lines.inside in
    let line : c.in-Some.line.now ≡ line_at (lines H).calls c.args.call = search (rules, calls) in
    c.next.ensures asked (sym c.aim-aim.ensures) (sym c.params-count.ensures)
    ∙ (ap (λ (can : Caps). inside_told can c.is_bad.result asked c.args.wish c.in-Some.line.now.heard) c.requires.tables.caps
    ∙ (ap (λ b. inside_told (caps H) b asked c.args.wish c.in-Some.line.now.heard) c.is_bad.ensures
    ∙ ap (λ it. inside_told (caps H) (there_at H c.args.conn).ending.bad asked c.args.wish it.heard) line))

pub returns-in-None : goal.returns-in-None
unfolding Stands
returns-in-None c =
    let d = c.args.self.now in
    let H = past d in
    let asked = asked_by H c.args.call in
    let calls : d.lines.calls.items ≡ (lines H).calls = ap (λ (it : InTransactions). it.calls) c.requires.tables.lines.inside in
    let line : unheard ≡ (line_at (lines H).calls c.args.call).heard = search (rules, calls) in
    c.next-in-None.ensures asked (sym c.aim-aim.ensures) (sym c.params-count.ensures)
    ∙ (ap (λ (can : Caps). inside_told can c.is_bad.result asked c.args.wish c.new.result) c.requires.tables.caps
    ∙ (ap (λ b. inside_told (caps H) b asked c.args.wish c.new.result) c.is_bad.ensures
    ∙ ap (λ (it : Exchanged). inside_told (caps H) (there_at H c.args.conn).ending.bad asked c.args.wish it) (c.new.ensures ∙ line)))
