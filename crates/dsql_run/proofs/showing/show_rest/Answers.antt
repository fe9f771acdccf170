use Rattle.std.proofs.Common.{◌≡◌, ◌≤◌, ℕ, List, arith, subst, sym}
use Rattle.std.proofs.lemmas.Result.{on_err_weaker, on_ok_weaker}
use Rattle.dsql_run_outcome.specs.history.declared.event.Event.{Event}
use Rattle.dsql_run_outcome.specs.history.Trimmed.{IsLeftOf}
use Rattle.dsql_run_outcome.proofs.script_show.Texts.{left_length}
use Rattle.dsql_run.proofs.showing.show_rest.Goals as goal

-- What a player returns is what is left of its history.
left_of : (past kept : List Event) (trimmed told : ℕ) → IsLeftOf past trimmed kept → told ≡ trimmed → IsLeftOf past told kept
left_of past kept trimmed told left is = subst (λ (n : ℕ). IsLeftOf past n kept) (sym is) left

pub show-requires-clause-trimmed : goal.show-requires-clause-trimmed
show-requires-clause-trimmed g c = subst (λ (n : ℕ). n ≤ c.args.shown.now) (sym c.trimmed.ensures) c.requires.trimmed

pub show-requires-clause-within : goal.show-requires-clause-within
show-requires-clause-within g c =
    let past = c.args.player.now.past in
    let kept = c.history.result.now in
    let left = left_of past kept c.args.player.now.trimmed c.trimmed.result c.history.ensures.left c.trimmed.ensures in
    omega (arith, c.requires.within, left_length past kept c.trimmed.result left)

pub returns-clause-ok : goal.returns-clause-ok
returns-clause-ok g c =
    let past = c.args.player.now.past in
    let left = left_of past c.history.result.now c.args.player.now.trimmed c.trimmed.result c.history.ensures.left c.trimmed.ensures in
    on_ok_weaker c.show.result (λ shown. shown past left) c.show.ensures.ok

pub returns-clause-within : goal.returns-clause-within
returns-clause-within g c =
    let past = c.args.player.now.past in
    c.show.ensures.within past (left_of past c.history.result.now c.args.player.now.trimmed c.trimmed.result c.history.ensures.left c.trimmed.ensures)

pub returns-clause-trimmed : goal.returns-clause-trimmed
returns-clause-trimmed g c = subst (λ (n : ℕ). n ≤ c.show.new.shown) c.trimmed.ensures c.show.ensures.trimmed

pub returns-clause-shows : goal.returns-clause-shows
returns-clause-shows g c =
    let past = c.args.player.now.past in
    let left = left_of past c.history.result.now c.args.player.now.trimmed c.trimmed.result c.history.ensures.left c.trimmed.ensures in
    on_ok_weaker c.show.result (λ shows. shows past left) c.show.ensures.shows

pub returns-clause-stops : goal.returns-clause-stops
returns-clause-stops g c =
    let past = c.args.player.now.past in
    let left = left_of past c.history.result.now c.args.player.now.trimmed c.trimmed.result c.history.ensures.left c.trimmed.ensures in
    on_err_weaker c.show.result (λ stops. stops past left) c.show.ensures.stops
