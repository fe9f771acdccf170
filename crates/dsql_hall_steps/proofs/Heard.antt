-- What becomes of the hall as a driver call's answer comes back into it. The argument compares it with the hall to which the
-- work came home.
use Rattle.std.proofs.Common.{◌≡◌, ◌-◌, ℕ, true, false, List, set, Option, Some, is_some, refl, ap, sym, subst, ◌∙◌}
use Rattle.dsql_engine_laws.specs.laws_steps.Groups.{after_heard}
use Rattle.dsql_engine_laws.specs.wire.Journaled.{Journaled}
use Rattle.dsql_player.specs.declared.halt.Halt.{Halt}
use Rattle.dsql_player.specs.Playing.{Playing}
use Rattle.dsql_hall_bonds.specs.Work.{Work, without}
use Rattle.dsql_hall_steps.specs.Errands.{Brought}
use Rattle.dsql_hall_steps.specs.Halls.{InHall}
use Rattle.dsql_hall_steps.specs.Hearing.{DropsAnswer, TakesAnswerIn, brought_home}

module _ {W : Type 0} (h before : InHall W) (back it : Brought W) (conn : ℕ) (slots : List (Option (Journaled W))) (out : List Work) (was : h ≡ before) (same : back ≡ it) (its : back.work.conn ≡ conn)
    (put : slots ≡ set h.slots conn (Some back.wire)) (struck : out ≡ without back.work.conn h.out) where
  abbrev at : InHall W
  at = record h { slots = slots; out = out; away = h.away - 1 }

  -- The work came home.
  home : at ≡ brought_home it.work it.wire before
  home =
      ap (λ s. record h { slots = s; out = out; away = h.away - 1 }) (put ∙ ap (λ c. set h.slots c (Some back.wire)) (sym its))
      ∙ (ap (λ o. record h { slots = set h.slots back.work.conn (Some back.wire); out = o; away = h.away - 1 }) struck
      ∙ (ap (brought_home back.work back.wire) was ∙ ap (λ (b : Brought W). brought_home b.work b.wire before) same))

  -- The answer is taken in.
  pub taken_home : (q : Playing) → q.past ≡ after_heard h.player.past back.entry → TakesAnswerIn it.entry (brought_home it.work it.wire before) (record h { player = q; slots = slots; out = out; away = h.away - 1 })
  taken_home q past =
      subst (λ (b : InHall W). TakesAnswerIn it.entry b (record at { player = q })) home
      (record { only = refl; heard = past ∙ ap (λ (b : Brought W). after_heard h.player.past b.entry) same })

  -- Or it is dropped.
  pub dropped_home : (q : Playing) (stopped : Option Halt) → q ≡ h.player → (is_some h.stopped ≡ true → stopped ≡ h.stopped)
      → DropsAnswer (brought_home it.work it.wire before) (record h { player = q; slots = slots; out = out; away = h.away - 1; stopped = stopped })
  dropped_home q stopped kept still =
      subst (λ (b : InHall W). DropsAnswer b (record at { player = q; stopped = stopped })) home
      (record { only = ap (λ (p : Playing). record at { player = p; stopped = stopped }) kept; still = still })

-- A run that hasn't stopped has stopped for no reason.
pub no_reason : (o stopped : Option Halt) → is_some o ≡ false → is_some o ≡ true → stopped ≡ o
no_reason o stopped none some = let clash : false ≡ true = sym none ∙ some in absurd cc
