-- What a server may have carried out for a call is never sent again, whatever the call does. The exception is
-- the query of one row on the database. The argument takes the calls on the database and those in a transaction
-- apart.
use Rattle.std.proofs.Common.{◌≡◌, ◌≢◌, ℕ, ◌≤◌, ◌⊎◌, inl, inr, true, false, List, ◌∷◌, refl, arith}
use Rattle.dsql_laws_calls.specs.journal.declared.entry.Entry.{Entry}
use Rattle.dsql_laws_calls.specs.history.declared.event.Event.{Event}
use Rattle.dsql_laws_calls.specs.history.declared.event.Event.TheVariants.{Heard}
use Rattle.dsql_laws_calls.specs.history.declared.work.Scope.TheVariants.{Db, Held}
use Rattle.dsql_laws_calls.specs.history.declared.work.Work.{Work}
use Rattle.dsql_laws_calls.specs.history.declared.work.Task.TheVariants.{Execute, ReadOne, HandOut}
use Rattle.dsql_laws_calls.specs.history.declared.work.Work.TheVariants.{Statement, Ping}
use Rattle.dsql_laws_calls.specs.history.Readers.Works.{scope, work}
use Rattle.dsql_laws_calls.specs.history.Legal.{Lawful}
use Rattle.dsql_laws_once.specs.Once.{is_statement, carried_out, reads_one}
use Rattle.dsql_laws_once.proofs.Inside.{carried_inside, sent_inside}
use Rattle.dsql_laws_once.proofs.Once.{works_alone, nat_case, carried_alone, sent_alone}
use Rattle.dsql_laws_once.proofs.Stated.{states, carried_states, statement_states}

-- Holds if the work is on the database, or in a transaction.
abbrev Place : Work → Type 0
Place w = (works_alone w ≡ true) ⊎ ((k : ℕ) × (scope w ≡ Held k))

placed : (w : Work) → states w ≡ true → reads_one w ≡ false → Place w
placed (Statement Db Execute) h one = inl refl
placed (Statement (Held k) Execute) h one = inr (k, refl)
placed (Statement Db (ReadOne dests)) h one = absurd cc
placed (Statement (Held k) (ReadOne dests)) h one = inr (k, refl)
placed (Statement Db (HandOut label)) h one = inl refl
placed (Statement (Held k) (HandOut label)) h one = inr (k, refl)
placed Ping h one = inl refl
placed w h one = absurd cc

pub carried_out_once : (H : List Event) (n : ℕ) → Lawful H → n ≢ 0 → reads_one (work H n) ≡ false → carried_out H n ≤ 1
carried_out_once H n l some one = by (nat_case (carried_out H n))
  where
    at : Place (work H n) → carried_out H n ≤ 1
    at (inl alone) = carried_alone H n l some alone
    at (inr inside) = carried_inside H n inside.0 l some inside.1

    by : (carried_out H n ≡ 0) ⊎ (1 ≤ carried_out H n) → carried_out H n ≤ 1
    by (inl none) = omega (arith, none)
    by (inr more) = at (placed (work H n) (carried_states H n l some more) one)

pub sent_first : (H : List Event) (e : Entry) → Lawful (Heard e ∷ H) → e.call_no ≢ 0 → is_statement e.call ≡ true → reads_one (work H e.call_no) ≡ false → carried_out H e.call_no ≡ 0
sent_first H e l some statement one = at (placed (work H e.call_no) (statement_states H e l some statement) one)
  where
    at : Place (work H e.call_no) → carried_out H e.call_no ≡ 0
    at (inl alone) = sent_alone H e l some statement alone
    at (inr inside) = sent_inside H e inside.0 l some statement inside.1
