-- A call that closes rows on entry leaves each other call standing somewhere and lent connections in use as
-- before. It is a case of a call that enters and doesn't close the database.
use Rattle.std.proofs.Common.{◌≡◌, ℕ, true, List, refl}
use Rattle.dsql_laws_calls.specs.history.declared.event.Event.{Event}
use Rattle.dsql_laws_calls.specs.history.declared.event.Op.TheVariants.{RowsClose}
use Rattle.dsql_laws_calls.specs.history.Rules.Settled.{calls_stand, calls_stand_but, uses_what_is_lent}
use Rattle.dsql_laws_calls.specs.history.Legal.{Lawful}
use Rattle.dsql_laws_others.proofs.Entered.{Enters, enters}
use Rattle.dsql_laws_others.proofs.Somewhere.{each_on}
use Rattle.dsql_laws_others.proofs.Holding.{live_closes}
use Rattle.dsql_laws_others.proofs.StillUsed.{all_used_on}

entered_close : (H : List Event) (client n : ℕ) (label : List ℕ) → Lawful (enters H client n (RowsClose label)) → Enters H client n (RowsClose label)
entered_close H client n label l = record { lawful = l; pool = refl; end = refl }

pub goes_on_closing : (H : List Event) (client n : ℕ) (label : List ℕ) → Lawful (enters H client n (RowsClose label)) → calls_stand H ≡ true → calls_stand_but n (enters H client n (RowsClose label)) ≡ true
goes_on_closing H client n label l h = each_on H client n (RowsClose label) (entered_close H client n label l) h

pub used_closing : (H : List Event) (client n : ℕ) (label : List ℕ) → Lawful (enters H client n (RowsClose label)) → uses_what_is_lent (enters H client n (RowsClose label)) ≡ uses_what_is_lent H
used_closing H client n label l = all_used_on H client n (RowsClose label) (entered_close H client n label l) (λ c t own at lives gone. live_closes H c t own l.0 at lives)
