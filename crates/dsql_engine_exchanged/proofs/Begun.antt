-- What was heard in the line of a begin decides what it sends next.
use Rattle.std.proofs.Common.{◌≡◌, ℕ, ◌==◌, Bool, true, false, ◌||◌, cond, List, [], ◌∷◌, refl, sym, ap, ◌∙◌, Option, None, Some}
use Rattle.std.specs.Option.{option_map}
use Rattle.dsql_history.specs.driver.declared.caps.Caps.{Caps}
use Rattle.dsql_history.specs.driver.declared.call.DriverCall.{DriverCall}
use Rattle.dsql_history.specs.driver.declared.call.DriverCall.TheVariants.{Begin, Valid}
use Rattle.dsql_history.specs.driver.declared.call.DriverCall.TheVariants as calls
use Rattle.dsql_history.specs.driver.declared.call.Level.{Level}
use Rattle.dsql_history.specs.driver.Kinds.{is_begin}
use Rattle.dsql_history.specs.driver.Fits.{is_done}
use Rattle.dsql_history.specs.journal.declared.entry.Entry.{Entry}
use Rattle.dsql_engine_exchanged.specs.Exchanged.{ends_line}
use Rattle.dsql_history.specs.works.Exchanges.{exchanges, step_of, with_exchange}
use Rattle.dsql_history.specs.works.Line.{Asked, test_of}
use Rattle.dsql_history.specs.Readers.Lines.{is_about, line_among}
use Rattle.dsql_history.specs.Rules.Line.{is_due}
use Rattle.dsql_history.specs.Rules.Sent.{begin_line}
use Rattle.dsql_engine_exchanged.specs.declared.bare.BareCall.{BareCall}
use Rattle.dsql_engine_exchanged.specs.declared.bare.BareCall.TheVariants as bare
use Rattle.dsql_engine_exchanged.specs.declared.beginning.Beginning.{Beginning}
use Rattle.dsql_engine_exchanged.specs.declared.beginning.Beginning.TheVariants.{Ready, Begun, Failed, Over}
use Rattle.dsql_engine_exchanged.specs.Filled.{filled}
use Rattle.dsql_engine_exchanged.specs.Beginning.{beginning_after, beginning_in, begun_if, bare_begin}
use Rattle.dsql_engine_exchanged.specs.Turns.{BeginsInTurn}

-- The filled test is the test, if the driver has one.
pub test_filled : (can : Caps) (asked : Asked) → option_map (filled asked) (cond can.validator (Some bare.Valid) None) ≡ test_of can
test_filled can asked = by can.validator
  where
    by : (b : Bool) → option_map (filled asked) (cond b (Some bare.Valid) None) ≡ cond b (Some Valid) None
    by true = refl
    by false = refl

begin_filled : (can : Caps) (reset_due : Bool) (level : Level) (read_only : Bool) (asked : Asked) (line : List Entry)
    → option_map (filled asked) (bare_begin can reset_due level read_only (beginning_in line)) ≡ begin_line can reset_due (Begin level read_only) line
begin_filled can true level read_only asked [] = refl
begin_filled can false level read_only asked [] = refl
begin_filled can reset_due level read_only asked (e ∷ earlier) = by (ends_line e) (is_begin e.call) (is_done e.answer)
  where
    by : (over begin done : Bool)
        → option_map (filled asked) (bare_begin can reset_due level read_only (cond over Over (cond begin (cond done Begun Failed) Ready)))
        ≡ cond over None (cond begin (cond done None (test_of can)) (Some (Begin level read_only)))
    by true begin done = refl
    by false false done = refl
    by false true true = refl
    by false true false = test_filled can asked

-- The bare driver call, filled with what is asked, is the next driver call.
pub begin_so : (can : Caps) (reset_due : Bool) (level : Level) (read_only : Bool) (it : Beginning) (sent : Option BareCall) → sent ≡ bare_begin can reset_due level read_only it
    → (asked : Asked) (line : List Entry) → beginning_in line ≡ it → option_map (filled asked) sent ≡ begin_line can reset_due (Begin level read_only) line
begin_so can reset_due level read_only it sent is asked line heard =
    ap (option_map (filled asked)) (is ∙ ap (bare_begin can reset_due level read_only) (sym heard)) ∙ begin_filled can reset_due level read_only asked line

resets : (call : DriverCall) → is_due (Some calls.Reset) call ≡ true → step_of call ≡ None
resets calls.Reset sent = refl
resets _ sent = absurd cc

begins : (level : Level) (read_only : Bool) (call : DriverCall) → is_due (Some (Begin level read_only)) call ≡ true → step_of call ≡ None
begins level read_only (Begin other only) sent = refl
begins level read_only _ sent = absurd cc

tests : (b : Bool) (call : DriverCall) → is_due (cond b (Some Valid) None) call ≡ true → step_of call ≡ None
tests true Valid sent = refl
tests true _ sent = absurd cc
tests false call sent = absurd cc

-- What a begin sends is no step of a course.
pub not_a_step : (can : Caps) (reset_due : Bool) (level : Level) (read_only : Bool) (line : List Entry) (call : DriverCall)
    → is_due (begin_line can reset_due (Begin level read_only) line) call ≡ true → step_of call ≡ None
not_a_step can true level read_only [] call sent = resets call sent
not_a_step can false level read_only [] call sent = begins level read_only call sent
not_a_step can reset_due level read_only (e ∷ earlier) call sent = by (ends_line e) (is_begin e.call) (is_done e.answer) sent
  where
    by : (over begin done : Bool) → is_due (cond over None (cond begin (cond done None (test_of can)) (Some (Begin level read_only)))) call ≡ true → step_of call ≡ None
    by true begin done due = absurd cc
    by false false done due = begins level read_only call due
    by false true true due = absurd cc
    by false true false due = tests can.validator call due

-- A begin exchanges no step of a course.
pub nothing_exchanged : (can : Caps) (level : Level) (read_only : Bool) (line : List Entry) → BeginsInTurn can (Begin level read_only) line → exchanges line ≡ []
nothing_exchanged can level read_only [] so = refl
nothing_exchanged can level read_only (e ∷ earlier) so =
    ap (λ step. with_exchange step e.answer (exchanges earlier)) (not_a_step can so.0.0 level read_only earlier e.call so.0.1) ∙ nothing_exchanged can level read_only earlier so.1

about_nothing : (call : DriverCall) → is_about [] call ≡ false
about_nothing (calls.Next rows) = refl
about_nothing _ = refl

-- An entry is recorded exactly if it belongs to the line of the begin.
pub begin_heard : (n : ℕ) (e : Entry) (heard : List Entry) (old new : Beginning) → new ≡ begun_if n e old
    → exchanges (line_among n heard) ≡ [] → old ≡ beginning_in (line_among n heard) → new ≡ beginning_in (line_among n (e ∷ heard))
begin_heard n e heard old new step none is =
    step ∙ (ap (begun_if n e) is ∙ by (e.call_no == n) (is_about (exchanges line) e.call) (ap (λ made. is_about made e.call) none ∙ about_nothing e.call))
  where
    line : List Entry
    line = line_among n heard

    by : (own about : Bool) → about ≡ false → cond own (beginning_after e) (beginning_in line) ≡ beginning_in (cond (own || about) (e ∷ line) line)
    by true about h = refl
    by false true h = absurd cc
    by false false h = refl
