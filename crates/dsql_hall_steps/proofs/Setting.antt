-- The house sets a limit or the present moment. The argument is that nothing is heard in that step, and that each client
-- keeps its leave.
use Rattle.std.proofs.Common.{◌≡◌, ℕ, true, false, List, [], ◌∷◌, ◌++◌, length, None, refl, Option, ap, sym, ◌∙◌, append_assoc}
use Rattle.std.specs.List.{list_all}
use Rattle.dsql_engine_laws.specs.driver.Wires.{WireTold}
use Rattle.dsql_engine_laws.specs.history.declared.event.Control.{Control}
use Rattle.dsql_engine_laws.specs.history.declared.event.Control.TheVariants.{Set, Tick}
use Rattle.dsql_engine_laws.specs.history.declared.event.Event.{Event}
use Rattle.dsql_engine_laws.specs.history.Legal.{Legal}
use Rattle.dsql_engine_laws.specs.history.Readers.Controls.{taken, told, told_after}
use Rattle.dsql_engine_laws.specs.follows.Moments.{Moment}
use Rattle.dsql_engine_laws.specs.Chores.{hears_on}
use Rattle.dsql_engine_laws.proofs.laws.Tests.{both}
use Rattle.dsql_player.specs.Acts.{SamePermits}
use Rattle.dsql_player.specs.Carried.{HearsNothing}
use Rattle.dsql_player.specs.Keeping.{SameCourse}
use Rattle.dsql_player.specs.Playing.{IsAt, IsReady, Playing}
use Rattle.dsql_player.specs.Stepping.{IsTold, TakesStep}
use Rattle.dsql_hall_steps.specs.Halls.{GoesOn, InHall, IsHall, Keeps}
use Rattle.dsql_hall_steps.specs.House.{ComesFirst}
use Rattle.dsql_hall_steps.specs.Limits.{set_in, sets_limit, settings_first}
use Rattle.dsql_hall_steps.specs.Racing.{resting}
use Rattle.dsql_hall_steps.specs.Terms.{Terms}
use Rattle.dsql_hall_steps.proofs.Entering.{step_races}
use Rattle.dsql_hall_steps.proofs.Frames.{step_sets}
use Rattle.dsql_hall_steps.proofs.Moving.{grouped_of, moves_on, step_moves}
use Rattle.dsql_hall_steps.proofs.SetFirst.{first_stays}

-- A limit or a moment is heard on no connection.
told_off : (control : Control) (c : ℕ) → hears_on c (told control) ≡ false
told_off (Tick now) c = refl
told_off (Set setting n) c = refl

-- A limit is set after those before it.
told_sets : (past before : List Event) (control : Control) → sets_limit control ≡ true → set_in (told_after before control ∷ past) ≡ set_in past ++ control ∷ []
told_sets past before (Set setting n) limit = refl
told_sets past before (Tick now) limit = absurd cc

-- What setting a limit or the present moment says of the player.
pub record HasSet (control : Control) (p q : Playing) : Type 0 where
  pub tells : (m : Moment) → IsAt m p → TakesStep m p q (IsTold p.past control)
  pub handed : SamePermits p.seats q.seats
  pub course : SameCourse p q
  pub ready : IsReady q
  pub unheard : HearsNothing p.past q.past
  pub legal : Legal q.past
  pub trimmed : q.trimmed ≡ p.trimmed

module _ {W : Type 0} (heard : W → Option WireTold) (race : Terms) (h : InHall W) (q : Playing) (control : Control) (is : IsHall heard race h) (runs : h.stopped ≡ None) (set : HasSet control h.player q) where
  abbrev p : Playing
  p = h.player

  on : GoesOn heard race h
  on = is.well runs

  t : TakesStep (resting race.lines p) p q (IsTold p.past control)
  t = set.tells (resting race.lines p) on.at

  quiet : (c : ℕ) → hears_on c t.first ≡ false
  quiet c = ap (hears_on c) t.kind_is.told ∙ told_off (taken p.past control) c

  -- The hall after that, with these limits to come. With those that were set they are the same as before.
  told_on : (later : List Control) → list_all sets_limit later ≡ true → set_in (told_after p.past control ∷ p.past) ++ later ≡ set_in p.past ++ h.settings → IsHall heard race (record h { player = q; settings = later })
  told_on later limits same =
      moves_on heard race h q later is runs keeps (step_moves race p q (IsTold p.past control) t quiet on.ready set.ready set.unheard (λ client permit has. set.handed.permit client ∙ has))
    where
      grown : set_in q.past ≡ set_in (told_after p.past control ∷ p.past)
      grown =
          step_sets p.past q.past t.first t.call (grouped_of (resting race.lines p) p q (IsTold p.past control) t)
          ∙ ap (λ e. set_in (e ∷ p.past)) t.kind_is.told

      keeps : Keeps race q later
      keeps = record {
        legal = set.legal;
        running = set.course.ended ∙ is.keeps.running;
        ordered = step_races race.run race.lines p q (IsTold p.past control) is.keeps.ordered t;
        whole = set.trimmed ∙ is.keeps.whole;
        settings = ap (λ sets. sets ++ later) grown ∙ (same ∙ is.keeps.settings);
        first = first_stays (length (settings_first race.lines)) p.past q.past t.events t.grows is.keeps.first;
        limits = limits;
      }

  -- The first of the limits that are to come was set.
  pub set_on : (later : List Control) → ComesFirst control h.settings later → IsHall heard race (record h { player = q; settings = later })
  set_on later first =
      let limits : (sets_limit control ≡ true) × (list_all sets_limit later ≡ true) =
      both (sets_limit control) (list_all sets_limit later) (ap (list_all sets_limit) (sym first.is) ∙ is.keeps.limits) in
      told_on later limits.1
      (ap (λ sets. sets ++ later) (told_sets p.past p.past control limits.0)
      ∙ (append_assoc (set_in p.past) (control ∷ []) later ∙ ap (λ settings. set_in p.past ++ settings) (sym first.is)))

-- The present moment was set.
pub ticked_on : {W : Type 0} (heard : W → Option WireTold) (race : Terms) (h : InHall W) (q : Playing) (now : ℕ) → IsHall heard race h → h.stopped ≡ None → HasSet (Tick now) h.player q
    → IsHall heard race (record h { player = q })
ticked_on heard race h q now is runs set = told_on heard race h q (Tick now) is runs set h.settings is.keeps.limits refl
