-- The owner to which the connection is lent on which a call sends.
use Rattle.std.proofs.Common.{◌≡◌, ◌≢◌, ◌==◌, ℕ, zero, suc, Bool, true, false, cond, List, [], ◌∷◌, Option, Some, None, refl, sym, ap, ◌∙◌}
use Rattle.std.specs.Prelude.{length, slice_index_or}
use Rattle.dsql_laws_calls.specs.journal.declared.entry.Owner.{Owner}
use Rattle.dsql_laws_calls.specs.journal.declared.entry.Owner.TheVariants as owners
use Rattle.dsql_laws_calls.specs.journal.Kinds.{number_of}
use Rattle.dsql_laws_calls.specs.pool.declared.conn.Place.{Place}
use Rattle.dsql_laws_calls.specs.pool.declared.conn.Place.TheVariants.{Lent}
use Rattle.dsql_laws_calls.proofs.laws.Tests.{same_itself, same_number}
use Rattle.dsql_laws_calls.specs.history.declared.event.Event.{Event}
use Rattle.dsql_laws_calls.specs.history.declared.event.Event.TheVariants.{Entered}
use Rattle.dsql_laws_calls.specs.history.declared.event.Op.{Op}
use Rattle.dsql_laws_calls.specs.history.declared.event.Op.TheVariants as ops
use Rattle.dsql_laws_calls.specs.history.declared.event.Target.TheVariants as targets
use Rattle.dsql_laws_calls.specs.history.declared.work.Scope.TheVariants.{Held}
use Rattle.dsql_laws_calls.specs.history.declared.work.Work.{Work}
use Rattle.dsql_laws_calls.specs.history.declared.work.Work.TheVariants.{Begin, Look}
use Rattle.dsql_laws_calls.specs.history.Readers.Calls.{calls}
use Rattle.dsql_laws_calls.specs.history.Readers.Pool.{home, place}
use Rattle.dsql_laws_calls.specs.history.Readers.Works.{owner_as, owner_of, scope, tx_maker, work, work_of, works}
use Rattle.dsql_laws_calls.specs.history.Legal.{Lawful}
use Rattle.dsql_laws_calls.proofs.Begun.{still_begins}
use Rattle.dsql_laws_calls.proofs.Owners.{lent_number, owner_is_of}
use Rattle.dsql_laws_calls.proofs.Plain.{begins}
use Rattle.dsql_laws_calls.proofs.Works.{enters_next, new_work, old_work}
use Rattle.dsql_engine_desk.specs.Next.{lent_at, lent_under}
use Rattle.dsql_engine_lines.proofs.Enders.{maker_begins}

-- Holds if connection c is lent to call n or its transaction.
pub record LentTo (H : List Event) (n c : ℕ) : Type 0 where
  pub tenure : ℕ
  pub owner : Owner
  pub here : home H n ≡ c
  pub at : place H c ≡ Some (Lent tenure owner)
  pub number : n ≡ number_of owner

lent_in : (H : List Event) (n c : ℕ) (p : Option Place) → place H (home H n) ≡ p → lent_at n (home H n) p ≡ Some c → LentTo H n c
lent_in H n c (Some (Lent t own)) is h = by (number_of own == n) refl h
  where
    by : (b : Bool) → (number_of own == n) ≡ b → cond b (Some (home H n)) None ≡ Some c → LentTo H n c
    by true same h = let here : home H n ≡ c = cc in record { tenure = t; owner = own; here = here; at = ap (place H) (sym here) ∙ is; number = sym (same_number (number_of own) n same) }
    by false other h = absurd cc
lent_in H n c _ is h = absurd cc

pub lent_to : (H : List Event) (n c : ℕ) → lent_under H n ≡ Some c → LentTo H n c
lent_to H n c h = lent_in H n c (place H (home H n)) refl h

named_begins : (ws : List Work) (op : Op) (k : ℕ) → scope (work_of ws op) ≡ Held k → k ≢ 0 → begins (slice_index_or ws k Look) ≡ true
named_begins ws (ops.Exec (targets.Label tx) text args) k is some = let at : tx_maker ws tx ≡ k = cc in maker_begins ws tx k at some
named_begins ws (ops.Query label (targets.Label tx) text args) k is some = let at : tx_maker ws tx ≡ k = cc in maker_begins ws tx k at some
named_begins ws (ops.One (targets.Label tx) dests text args) k is some = let at : tx_maker ws tx ≡ k = cc in maker_begins ws tx k at some
named_begins ws op k is some = absurd cc

-- The transaction in which a call works is that of a call that begins one.
pub tx_begins : (H : List Event) (n k : ℕ) → Lawful H → scope (work H n) ≡ Held k → k ≢ 0 → begins (work H k) ≡ true
tx_begins [] zero k l is some = absurd cc
tx_begins [] (suc n) k l is some = absurd cc
tx_begins (Entered client m op ∷ H) n k l is some = by (n == m) refl (tx_begins H n k l.0)
  where
    next : m ≡ length (calls H)
    next = enters_next H client m op l.1

    by : (b : Bool) → (n == m) ≡ b → (scope (work H n) ≡ Held k → k ≢ 0 → begins (work H k) ≡ true) → begins (work (Entered client m op ∷ H) k) ≡ true
    by true found before =
        let same = same_number n m found in
        let new : scope (work_of (works H) op) ≡ Held k = sym (ap scope (ap (work (Entered client m op ∷ H)) same ∙ new_work H client m op next)) ∙ is in
        still_begins H (Entered client m op) k (named_begins (works H) op k new some)
    by false apart before =
        let other : n ≢ m = λ same. let wrong : false ≡ true = sym apart ∙ (ap (λ j. j == m) same ∙ same_itself m) in absurd cc in
        still_begins H (Entered client m op) k (before (sym (ap scope (old_work H client m op n next other)) ∙ is) some)
tx_begins (e ∷ H) n k l is some = still_begins H e k (tx_begins H n k l.0 is some)

begin_owner : (w : Work) (n : ℕ) → begins w ≡ true → owner_as w n ≡ owners.Tx n
begin_owner (Begin label level read_only) n h = refl
begin_owner w n h = absurd cc

-- A connection that is lent to a call that begins a transaction is lent to that transaction.
pub lent_to_tx : (H : List Event) (c t k : ℕ) (own : Owner) → Lawful H → place H c ≡ Some (Lent t own) → k ≡ number_of own → begins (work H k) ≡ true → own ≡ owners.Tx k
lent_to_tx H c t k own l at is begin =
    let of_it = owner_is_of H c t own l at in
    of_it.1 ∙ ap (owner_of H) (sym is) ∙ begin_owner (work H k) k begin

-- A call in a transaction sends on the connection that is lent to that transaction.
pub inside_lent : (H : List Event) (c t n k : ℕ) (own : Owner) → Lawful H → place H c ≡ Some (Lent t own) → k ≡ number_of own → scope (work H n) ≡ Held k → own ≡ owners.Tx k
inside_lent H c t n k own l at is inside =
    let some : k ≢ 0 = λ none. lent_number H c t own l at (sym is ∙ none) in
    lent_to_tx H c t k own l at is (tx_begins H n k l inside some)
