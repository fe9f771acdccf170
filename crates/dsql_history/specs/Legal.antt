-- Defines which histories are legal. A history is read from its newest event back: in `e ∷ before`, e happened
-- after all of before.
use Rattle.std.specs.Prelude.{ℕ, ◌≡◌, ◌==◌, Bool, true, false, ◌||◌, List, [], ◌∷◌}
use Rattle.dsql_history_work.specs.journal.Journal.{IsJournalPrefix, IsWhole}
use Rattle.dsql_pool.specs.declared.moves.Move.TheVariants.{Gone, Fell}
use Rattle.dsql_history.specs.declared.event.Event.{Event}
use Rattle.dsql_history.specs.declared.event.Event.TheVariants.{Pool}
use Rattle.dsql_history.specs.Readers.Course.{has_begun}
use Rattle.dsql_history.specs.Readers.Journals.{journal}
use Rattle.dsql_history.specs.Rules.Course.{keeps_course, is_from_outside}
use Rattle.dsql_history.specs.Rules.Numbers.{keeps_numbers}
use Rattle.dsql_history.specs.Rules.Moves.{keeps_sets}
use Rattle.dsql_history.specs.Rules.Limit.{keeps_limit}
use Rattle.dsql_history.specs.Rules.Asking.{keeps_asking}
use Rattle.dsql_history.specs.Rules.Order.{keeps_order}
use Rattle.dsql_history.specs.Rules.Causes.{keeps_causes}
use Rattle.dsql_history.specs.Rules.Line.{keeps_line}
use Rattle.dsql_history.specs.Rules.Journals.{keeps_journals}
use Rattle.dsql_history.specs.Rules.Replies.{keeps_replies}
use Rattle.dsql_history.specs.Rules.Settled.{Settled}

-- Holds if the event keeps each rule after these events.
pub record KeepsEach (before : List Event) (e : Event) : Type 0 where
  pub course : keeps_course before e ≡ true
  pub numbers : keeps_numbers before e ≡ true
  pub sets : keeps_sets before e ≡ true
  pub limit : keeps_limit before e ≡ true
  pub asking : keeps_asking before e ≡ true
  pub order : keeps_order before e ≡ true
  pub causes : keeps_causes before e ≡ true
  pub line : keeps_line before e ≡ true
  pub journals : keeps_journals before e ≡ true
  pub replies : keeps_replies before e ≡ true

-- Holds if the event may follow these events. The definition doesn't unfold by itself: a proof that needs a
-- rule opens it by `unfolding Allowed`.
unfoldable pub Allowed : List Event → Event → Type 0
Allowed before e = KeepsEach before e

-- Holds if each event may follow the events before it.
abbrev pub Lawful : List Event → Type 0
Lawful [] = Unit {0}
Lawful (e ∷ before) = Lawful before × Allowed before e

-- Holds if the history before each event from outside is settled.
abbrev pub Calm : List Event → Type 0
Calm [] = Unit {0}
Calm (e ∷ before) = Calm before × (is_from_outside e ≡ true → Settled before)

-- Is true if the connection has left the four sets.
abbrev pub has_left : List Event → ℕ → Bool
has_left [] c = false
has_left (Pool (Gone d) ∷ before) c = (d == c) || has_left before c
has_left (Pool (Fell d n) ∷ before) c = (d == c) || has_left before c
has_left (_ ∷ before) c = has_left before c

-- Holds if each connection's journal is a prefix of a whole journal, and is whole if the connection has left
-- the four sets.
pub record KeepsJournals (history : List Event) : Type 0 where
  pub beginnings : (c : ℕ) → IsJournalPrefix (journal history c)
  pub wholes : (c : ℕ) → has_left history c ≡ true → IsWhole (journal history c)

pub record Legal (history : List Event) : Type 0 where
  pub begun : has_begun history ≡ true
  pub lawful : Lawful history
  pub calm : Calm history
  pub settled : Settled history
  pub journals : KeepsJournals history
