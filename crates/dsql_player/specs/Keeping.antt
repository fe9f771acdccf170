-- What the acts of a player keep.
use Rattle.std.specs.Prelude.{◌≡◌, ◌+◌, ℕ, List, Result, OnOk, OnErr, IfErr}
use Rattle.dsql_engine_laws.specs.journal.declared.entry.Entry.{Entry}
use Rattle.dsql_engine_laws.specs.journal.declared.entry.Permit.{Permit}
use Rattle.dsql_engine_laws.specs.history.declared.event.Event.{Event}
use Rattle.dsql_engine_laws.specs.history.Readers.Course.{has_ended}
use Rattle.dsql_engine_laws.specs.history.Legal.{Legal}
use Rattle.dsql_player.specs.declared.halt.Halt.{Halt}
use Rattle.dsql_player.specs.declared.halt.Halt.TheVariants as halts
use Rattle.dsql_player.specs.Acts.{TakesAnswer}
use Rattle.dsql_player.specs.Carried.{HearsNothing}
use Rattle.dsql_player.specs.Naming.{times}
use Rattle.dsql_player.specs.Playing.{Playing, IsReady}

-- Holds if the act fails only for want of memory, and then nothing happened.
pub record FailsForMemory {A : Type 0} (result : Result A Halt) (old new : List Event) : Type 0 where
  pub same : OnErr result (new ≡ old)
  pub memory : IfErr result (λ halt. halt ≡ halts.Memory)

-- Holds if the run didn't end in between, and the script is as far as before. Calls and kept lines make each label as
-- often as before, and as often again as `more` returns.
pub record TakesUp (more : List ℕ → ℕ) (old new : Playing) : Type 0 where
  pub ended : has_ended new.past ≡ has_ended old.past
  pub released : new.released ≡ old.released
  pub named : (label : List ℕ) → times label new.past new.seats ≡ more label + times label old.past old.seats

-- Holds if the run didn't end in between, no line was taken up, and the script is as far as before.
abbrev pub SameCourse : Playing → Playing → Type 0
SameCourse old new = TakesUp (λ label. 0) old new

-- Holds of an act in which no driver's answer is heard.
pub record ActsUnheard {A : Type 0} (result : Result A Halt) (old new : Playing) : Type 0 where
  pub ready : OnOk result (IsReady new)
  pub unheard : HearsNothing old.past new.past
  pub fails : FailsForMemory result old.past new.past
  pub legal : Legal new.past

-- Holds if the layer's own call was answered, and the player took the answer in.
pub record IsTaken (permit : Permit) (before after : Playing) : Type 0 where
  pub entry : Entry
  pub takes : TakesAnswer permit entry before after
