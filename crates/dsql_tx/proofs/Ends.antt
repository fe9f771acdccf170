-- Proves that the first end of a transaction stays.
use Rattle.std.proofs.Common.{◌≡◌, ℕ, List, [], ◌∷◌, Option, Some, None, refl}
use Rattle.std.specs.Prelude.{fold}
use Rattle.dsql_value_numbered.specs.Numbered.{Numbered, thing_of}
use Rattle.dsql_value_numbered.proofs.Kept.{Has, Keeps, kept_beside_new, kept_by_change, kept_by_all}
use Rattle.dsql_tx.specs.declared.end.TxEnd.{TxEnd}
use Rattle.dsql_tx.specs.declared.end.TxEnd.TheVariants.{EndOfRun}
use Rattle.dsql_tx.specs.declared.tx.Tx.{Tx}
use Rattle.dsql_tx.specs.Transactions.{ended_by}
use Rattle.dsql_tx.specs.Laws.{Change, Begins, Ends, EndsAll, after, end_in, FirstEndStays}

abbrev IsEndedBy : TxEnd → Tx → Type 0
IsEndedBy by tx = tx.ended ≡ Some by

keeps_first : (by later : TxEnd) → Keeps (IsEndedBy by) (ended_by later)
keeps_first by later tx h = rw h refl

stays_after : (n : ℕ) (by : TxEnd) (txs : Numbered Tx) (change : Change) → Has (IsEndedBy by) (thing_of n txs) → Has (IsEndedBy by) (thing_of n (after txs change))
stays_after n by txs (Begins m tx) h = kept_beside_new (IsEndedBy by) n m tx txs h
stays_after n by txs (Ends m end) h = kept_by_change (IsEndedBy by) (ended_by end) (keeps_first by end) n m txs h
stays_after n by txs EndsAll h = kept_by_all (IsEndedBy by) (ended_by EndOfRun) (keeps_first by EndOfRun) n txs h

stays_after_all : (n : ℕ) (by : TxEnd) (txs : Numbered Tx) (later : List Change) → Has (IsEndedBy by) (thing_of n txs) → Has (IsEndedBy by) (thing_of n (fold after txs later))
stays_after_all n by txs [] h = h
stays_after_all n by txs (change ∷ later) h = stays_after_all n by (after txs change) later (stays_after n by txs change h)

has_end : (by : TxEnd) (o : Option Tx) → end_in o ≡ Some by → Has (IsEndedBy by) o
has_end by None h = cc
has_end by (Some tx) h = h

end_had : (by : TxEnd) (o : Option Tx) → Has (IsEndedBy by) o → end_in o ≡ Some by
end_had by None h = absurd h
end_had by (Some tx) h = h

pub first_end_stays : FirstEndStays
first_end_stays = record {
  live = λ conn tenure token. refl;
  first = λ by tx live. rw live refl;
  stays = λ by later tx. refl;
  whatever_comes = λ n by txs later h. end_had by (thing_of n (fold after txs later)) (stays_after_all n by txs later (has_end by (thing_of n txs) h));
}
