use Rattle.std.proofs.Common.{◌≡◌, ◌∙◌, ◌⊎◌, inl, inr, sym, true, false}
use Rattle.std.proofs.lemmas.Result.{err_from_is_err_and}
use Rattle.dsql_engine_laws.specs.journal.Readers.{is_empty}
use Rattle.dsql_engine_laws.specs.history.Readers.Calls.{is_busy}
use Rattle.dsql_player_wires.specs.Seats.{seat}
use Rattle.dsql_player.proofs.Entered.{acts_answer, failed}
use Rattle.dsql_player.proofs.Kept.{admits_entered, admits_kept}
use Rattle.dsql_player.proofs.Stepped.{flipped}
use Rattle.dsql_player.proofs.admitting.admit.Goals as goal
use Rattle.dsql_player.proofs.admitting.admit.Goals.{then-has_call-via-then-has_call, then-has_call-via-else-has_call+then-has_kept}

pub returns-in_err-keep-clause-act : goal.returns-in_err-keep-clause-act
returns-in_err-keep-clause-act c =
    let p = err_from_is_err_and c.from_residual.result c.from_residual.ensures.1 in
    let a = c.in_err-keep.ensures.act in
    failed c.from_residual.result p.0 c.args.player.now c.keep.new.self p.1 (p.2 ∙ a.fails.memory) a.fails.same c.requires.ready

pub returns-then-has_call : goal.returns-then-has_call
returns-then-has_call c =
    let client = c.args.client in
    let old = c.args.player.now in
    let new = c.keep.new.self in
    let done = c.in_ok-keep.ensures in
    let waits : (is_busy client old.past ≡ true) ⊎ (is_empty (seat old.seats client).kept ≡ false) =
    elim c.then-has_call.branch [
      | then-has_call-via-then-has_call w ↦ inl (sym w.if-has_call.ensures)
      | then-has_call-via-else-has_call+then-has_kept w ↦ inr (flipped (is_empty (seat old.seats client).kept) true (sym w.if-has_kept.ensures))
    ] in
    record {
      admits = admits_kept client c.args.line old new c.requires.ready waits done.past done.keeps;
      course = done.course;
      act = acts_answer {A = Unit {0}} tt false old new done.act;
      trimmed = done.trimmed;
    }

pub enter-requires-clause-free : goal.enter-requires-clause-free
enter-requires-clause-free c = sym c.if-has_call.ensures

pub returns-in_err-enter-clause-act : goal.returns-in_err-enter-clause-act
returns-in_err-enter-clause-act c =
    let p = err_from_is_err_and c.from_residual-in_err-enter.result c.from_residual-in_err-enter.ensures.1 in
    let a = c.in_err-enter.ensures.act in
    failed c.from_residual-in_err-enter.result p.0 c.args.player.now c.enter.new.self p.1 (p.2 ∙ a.fails.memory) a.fails.same c.requires.ready

pub returns : goal.returns
returns c =
    let client = c.args.client in
    let old = c.args.player.now in
    let new = c.enter.new.self in
    let none : is_empty (seat old.seats client).kept ≡ true = flipped (is_empty (seat old.seats client).kept) false (sym c.if-has_kept.ensures) in
    record {
      admits = admits_entered client c.args.line old new c.requires.ready (sym c.if-has_call.ensures) none c.in_ok-enter.ensures.enters;
      course = c.in_ok-enter.ensures.course;
      act = acts_answer {A = Unit {0}} tt true old new c.in_ok-enter.ensures.act;
      trimmed = c.in_ok-enter.ensures.trimmed;
    }
