-- The label of the next line is new to the run, as it is to the reader. The argument counts how often each label is made.
use Rattle.std.proofs.Common.{◌≡◌, ◌+◌, ◌≤◌, ℕ, Bool, true, false, cond, List, Option, Some, is_some, ap, subst, ◌∙◌, arith}
use Rattle.std.specs.Prelude.{Result, Ok, Err, IfOk}
use Rattle.dsql_run_outcome.specs.history.declared.event.Event.{Event}
use Rattle.dsql_run_outcome.specs.follows.Labels.{times_in}
use Rattle.dsql_run_outcome.specs.player.Naming.{MakeOnce, times}
use Rattle.dsql_run_outcome.specs.player.Playing.{Playing}
use Rattle.dsql_run_outcome.specs.player_wires.Seats.{Seat}
use Rattle.dsql_run_outcome.specs.script_reader.ScriptHead.{Progress, unread}
use Rattle.dsql_run_outcome.specs.script_reader.ScriptLabels.{kind_of}
use Rattle.dsql_run_outcome.specs.script_reader.declared.script.ScriptLine.{ScriptLine}
use Rattle.dsql_run_outcome.specs.script_source.Naming.{LearnsLabel, known, times_next}
use Rattle.dsql_run_outcome.specs.script_source.Script.{line_as_played}
use Rattle.dsql_run_outcome.specs.script_source.declared.stop.Stop.{Stop}
use Rattle.dsql_run_outcome.specs.Playing.{MatchesLabels}

at_most_once : (b : Bool) → cond b 1 0 ≤ 1
at_most_once true = omega arith
at_most_once false = omega arith

with_next : (next : Option ScriptLine) (line : ScriptLine) (reader : Progress) (player : Playing) → MatchesLabels next reader player → next ≡ Some line
    → (label : List ℕ) → known label reader ≡ times_in label (line_as_played line) + times label player.past player.seats
with_next next line reader player matches is label = subst (λ it. known label reader ≡ times_next label it + times label player.past player.seats) is (matches label)

pub next_is_new : (next : Option ScriptLine) (line : ScriptLine) (reader : Progress) (player : Playing) → MatchesLabels next reader player → next ≡ Some line
    → MakeOnce (λ label. times_in label (line_as_played line)) player.past player.seats
next_is_new next line reader player matches is label =
    let all = with_next next line reader player matches is label in
    let once : known label reader ≤ 1 = at_most_once (is_some (kind_of reader.labels label)) in
    omega (arith, all, once)

-- After the line was played and the next one was read, the labels match again.
pub next_matches : (next read : Option ScriptLine) (line : ScriptLine) (before now : Progress) (old mid new : Playing) → MatchesLabels next before old → next ≡ Some line → LearnsLabel read before now
    → ((label : List ℕ) → times label mid.past mid.seats ≡ times_in label (line_as_played line) + times label old.past old.seats) → new.past ≡ mid.past → new.seats ≡ mid.seats → MatchesLabels read now new
next_matches next read line before now old mid new matches is learns plays past seats label =
    let all = with_next next line before old matches is label in
    let learned = learns label in
    let played = plays label in
    let same : times label new.past new.seats ≡ times label mid.past mid.seats =
    ap (λ (H : List Event). times label H new.seats) past ∙ ap (λ (s : List Seat). times label mid.past s) seats in
    omega (arith, all, learned, played, same)

-- The labels match as a run begins, after the head of its script.
pub first_matches : (read : Result (Option ScriptLine) Stop) (before now : Progress) (player : Playing) → before ≡ unread → IfOk read (λ line. LearnsLabel line before now) → ((label : List ℕ) → times label player.past player.seats ≡ 0)
    → IfOk read (λ line. MatchesLabels line now player)
first_matches (Ok line) before now player is learns none = λ label.
    let nothing : known label before ≡ 0 = ap (known label) is in
    let learned = learns label in
    let unmade = none label in
    omega (arith, nothing, learned, unmade)
first_matches (Err stop) before now player is learns none = tt
