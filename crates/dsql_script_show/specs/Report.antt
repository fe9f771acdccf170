-- Defines how much of the report of a history a sink holds.
use Rattle.std.specs.Prelude.{ℕ, ◌≡◌, ◌<◌, Bool, true, false, List, ◌++◌, length, Option, option_map, Result, Err, take, reverse}
use Rattle.dsql_script_show.specs.declared.showing.ShowFault.{ShowFault}
use Rattle.dsql_script_show.specs.declared.showing.ShowFault.TheVariants.{Failed}
use Rattle.dsql_history.specs.declared.event.Event.{Event}
use Rattle.dsql_script_report.specs.Lines.{text_of}

-- Holds if the list `whole` begins with the list `front`.
pub record Begins {A : Type 0} (front whole : List A) : Type 0 where
  pub rest : List A
  pub parts : whole ≡ front ++ rest

-- Returns what a sink that held w holds after this text is written to it. It is `None` if the sink's bytes
-- aren't known.
abbrev pub with_text : Option (List ℕ) → List ℕ → Option (List ℕ)
with_text w text = option_map (λ bytes. bytes ++ text) w

-- Holds if a sink that held w now holds w followed by a beginning of this text.
pub record ShowsFront (w : Option (List ℕ)) (text : List ℕ) (now : Option (List ℕ)) : Type 0 where
  pub front : List ℕ
  pub begins : Begins front text
  pub written : now ≡ with_text w front

-- Holds if a sink that held w now holds w followed by a text that stops short of `text`. It holds all of
-- `least` and not all of `text`, of which it holds a beginning.
pub record StopsBetween (w : Option (List ℕ)) (least text : List ℕ) (now : Option (List ℕ)) : Type 0 where
  pub front : List ℕ
  pub holds : Begins least front
  pub begins : Begins front text
  pub short : length front < length text
  pub written : now ≡ with_text w front

-- Is true if the sink failed.
abbrev pub is_sink_fault : Result Unit ShowFault → Bool
is_sink_fault (Err Failed) = true
is_sink_fault _ = false

-- Returns the first n events of a history, which is newest first.
abbrev pub oldest : ℕ → List Event → List Event
oldest n past = reverse (take n (reverse past))

-- Holds if a sink that held w at first now holds w followed by the text of the first n events.
abbrev pub Shows : Option (List ℕ) → ℕ → List Event → Option (List ℕ) → Type 0
Shows w n past now = now ≡ with_text w (text_of (oldest n past))
