-- A desk that stands for a settled history that has begun stands for a legal one.
use Rattle.std.proofs.Common.{◌≡◌, ℕ, true, false, List, [], ◌∷◌, refl, ap, ◌∙◌, sym, subst}
use Rattle.dsql_engine_hearing.specs.driver.declared.caps.Caps.{Caps}
use Rattle.dsql_engine_hearing.specs.history.declared.event.Event.TheVariants.{Run}
use Rattle.dsql_engine_hearing.specs.journal.Readers.{is_empty}
use Rattle.dsql_engine_hearing.specs.history.declared.event.Event.{Event}
use Rattle.dsql_engine_hearing.specs.history.Legal.{Legal}
use Rattle.dsql_engine_hearing.specs.history.Readers.Course.{has_begun, has_ended}
use Rattle.dsql_engine_hearing.specs.history.Rules.Settled.{Settled}
use Rattle.dsql_engine_hearing.proofs.laws.Journals.{keeps_journals_of}
use Rattle.dsql_engine_hearing.specs.desk.declared.desk.Desk.{Desk}
use Rattle.dsql_engine_hearing.specs.desk.Desk.{past, Stands}

begun_of : (H : List Event) → is_empty H ≡ false → has_begun H ≡ true
begun_of [] h = absurd cc
begun_of (e ∷ H) h = refl

pub legal_of : (d : Desk) → Stands d → Settled (past d) → is_empty (past d) ≡ false → Legal (past d)
unfolding Stands
legal_of d s t begun = record { begun = begun_of (past d) begun; lawful = s.tables.lawful; calm = s.tables.calm; settled = t; journals = keeps_journals_of (past d) s.tables.lawful }

pub ended_of : (d : Desk) → Stands d → d.ended ≡ has_ended (past d)
unfolding Stands
ended_of d s = s.tables.ended

-- The settled history of a run that begins is legal.
pub legal_at_first : (d : Desk) (version : ℕ) (can : Caps) → Stands d → Settled (past d) → past d ≡ Run version can ∷ [] → Legal (past d)
legal_at_first d version can s t first = legal_of d s t (ap is_empty first)

-- A desk with the same history as another stands for a legal one too, if that history is settled and has begun.
pub legal_kept : (d k : Desk) → Stands k → past k ≡ past d → Settled (past d) → is_empty (past d) ≡ false → Legal (past k)
legal_kept d k s same t begun = legal_of k s (subst (λ (H : List Event). Settled H) (sym same) t) (ap is_empty same ∙ begun)
