-- Trimming the events of a run changes nothing that holds of its history. The argument carries each record over
-- to the trimmed player.
use Rattle.std.proofs.Common.{◌≡◌, ℕ, Bool, false, List, Option, sym, subst}
use Rattle.std.specs.Prelude.{Result}
use Rattle.dsql_run_outcome.specs.driver.declared.caps.Caps.{Caps}
use Rattle.dsql_run_outcome.specs.driver.Wires.{WireTold}
use Rattle.dsql_run_outcome.specs.history.declared.event.Event.{Event}
use Rattle.dsql_run_outcome.specs.history.Readers.Course.{has_ended}
use Rattle.dsql_run_outcome.specs.follows.Moments.{Moment}
use Rattle.dsql_run_outcome.specs.follows.Follows.{after}
use Rattle.dsql_run_outcome.specs.player.Planned.{plans_made}
use Rattle.dsql_run_outcome.specs.player.Playing.{IsAt, IsReady, Playing}
use Rattle.dsql_run_outcome.specs.script_reader.declared.script.ScriptLine.{ScriptLine}
use Rattle.dsql_run_outcome.specs.script_source.Position.{Position}
use Rattle.dsql_run_outcome.specs.script_source.declared.stop.Stop.{Stop}
use Rattle.dsql_run_outcome.specs.wire.Journaled.{Journaled}
use Rattle.dsql_run_outcome.specs.player_wires.WiresFit.{WiresFit}
use Rattle.dsql_run_outcome.specs.Followed.{FollowsSoFar}
use Rattle.dsql_run_outcome.specs.Lent.{Lent, TellsOf}
use Rattle.dsql_run_outcome.specs.Runs.{Between}
use Rattle.dsql_run_outcome.proofs.Lines.{LinesSoFar}

module _ (old new : Playing) (same : new.past ≡ old.past) (stays : (m : Moment) → IsAt m old → IsAt m new) where
  pub between_still : {W : Type 0} (heard : W → Option WireTold) (telling : Bool) (slots : List (Option (Journaled W))) → (IsReady old → IsReady new) → Between heard telling old slots → Between heard telling new slots
  between_still heard telling slots ready b = record {
    ready = ready b.ready;
    running = subst (λ (past : List Event). has_ended past ≡ false) (sym same) b.running;
    wires = subst (λ (past : List Event). WiresFit heard telling past slots) (sym same) b.wires;
    moment = b.moment;
    at = stays b.moment b.at;
  }

  pub so_far_still : {W : Type 0} (read : Result (Option ScriptLine) Stop) (before : Option (List ℕ)) (reader : Position) (left : Option (List ℕ)) (asked : Option Caps) (run : Event) (lent : Lent W)
      → LinesSoFar read before reader left asked run old lent → LinesSoFar read before reader left asked run new lent
  so_far_still read before reader left asked run lent s = record {
    lines = s.lines;
    parts = s.parts;
    reads = s.reads;
    counted = s.counted;
    follows = subst (λ (past : List Event). FollowsSoFar run s.lines s.parts past) (sym same) s.follows;
    at = stays (after run s.parts) s.at;
    told = subst (λ (past : List Event). TellsOf lent (plans_made run s.parts) past) (sym same) s.told;
  }
