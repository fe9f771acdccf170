-- Rows that come too late are ended as they are made. The argument is that ending new rows in the table is the
-- same as adding ended rows.
use Rattle.std.proofs.Common.{◌≡◌, ◌==◌, ℕ, Bool, true, false, cond, List, [], ◌∷◌, ◌++◌, Some, refl, ap, is_some}
use Rattle.std.specs.Prelude.{if◌then◌else◌}
use Rattle.std.proofs.lemmas.Bool.{eq-eqb}
use Rattle.dsql_history.specs.driver.declared.answer.DriverAnswer.{DriverAnswer}
use Rattle.dsql_history.specs.driver.declared.answer.DriverAnswer.TheVariants.{Cursor}
use Rattle.dsql_history.specs.numbered.Numbered.{Numbered, thing_of, was_made, changed}
use Rattle.dsql_history.proofs.numbered.Numbers.{changes_one_number}
use Rattle.dsql_history.specs.rows.declared.end.RowsEnd.TheVariants.{TxEnded}
use Rattle.dsql_history.specs.rows.OpenRows.{fresh, ended_by}
use Rattle.dsql_history.specs.works.HandedOut.{Made}
use Rattle.dsql_engine_effects.specs.Heard.{made_by}

module _ {X : Type 0} where
  -- What was just added to things is there.
  pub made_now : (n : ℕ) (new : X) (things : Numbered X) → was_made n things ≡ false → was_made n (things ++ (n, new) ∷ []) ≡ true
  made_now n new things none = ap is_some (changes_one_number.made n new things none)

  -- A change of what was just added changes it in its place.
  pub changed_new : (change : X → X) (n : ℕ) (new : X) (things : Numbered X) → was_made n things ≡ false → changed change n (things ++ (n, new) ∷ []) ≡ things ++ (n, change new) ∷ []
  changed_new change n new [] none = ap (λ (b : Bool). if b then (n, change new) ∷ [] else (n, new) ∷ []) (eq-eqb n n refl)
  changed_new change n new (it ∷ later) none =
      elim (n == it.0) as (λ b. is_some (cond b (Some it.1) (thing_of n later)) ≡ false → (if b then (it.0, change it.1) ∷ (later ++ (n, new) ∷ []) else it ∷ changed change n (later ++ (n, new) ∷ [])) ≡ it ∷ (later ++ (n, change new) ∷ [])) [
        | true ↦ λ made. absurd cc
        | false ↦ λ not. ap (λ (rest : Numbered X). it ∷ rest) (changed_new change n new later not)
      ] none

pub made_late : (late : Bool) (n : ℕ) (answer : DriverAnswer) (cursor : ℕ) (columns : List (List ℕ)) (rows : Made) → answer ≡ Cursor cursor columns → late ≡ true
    → rows ++ (n, ended_by TxEnded (fresh cursor columns)) ∷ [] ≡ made_by late n answer rows
made_late late n answer cursor columns rows is so = rw (is, so) refl
