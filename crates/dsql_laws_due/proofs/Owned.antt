-- All entries that are heard in a tenure have its owner. So a transaction's tenure is the transaction's in the
-- journal, too.
use Rattle.std.proofs.Common.{◌≡◌, ◌≢◌, ℕ, ◌==◌, ◌⊎◌, inl, inr, true, false, not, ◌&&◌, ◌||◌, List, [], ◌∷◌, Some, refl, sym, ap, subst, ◌∙◌}
use Rattle.std.specs.List.{list_all}
use Rattle.dsql_laws_calls.specs.driver.Kinds.{is_connect, is_shut}
use Rattle.dsql_laws_calls.specs.journal.declared.entry.Entry.{Entry}
use Rattle.dsql_laws_calls.specs.journal.declared.entry.Owner.{Owner}
use Rattle.dsql_laws_calls.specs.journal.declared.entry.Owner.TheVariants.{Tx}
use Rattle.dsql_laws_calls.specs.journal.Kinds.{is_call, is_tx_number, number_of, same_owner}
use Rattle.dsql_laws_calls.specs.journal.Readers.{of_tenure}
use Rattle.dsql_laws_calls.specs.pool.declared.conn.Place.TheVariants.{Lent}
use Rattle.dsql_laws_calls.specs.pool.declared.moves.Move.TheVariants.{Lend}
use Rattle.dsql_laws_calls.proofs.laws_work.Rows.{same_or_not}
use Rattle.dsql_laws_calls.proofs.laws.Tests.{both, together}
use Rattle.dsql_laws_calls.specs.history.declared.event.Event.{Event}
use Rattle.dsql_laws_calls.specs.history.declared.event.Event.TheVariants.{Heard, Pool}
use Rattle.dsql_laws_calls.specs.history.declared.work.Work.{Work}
use Rattle.dsql_laws_calls.specs.history.declared.work.Work.TheVariants as works_of
use Rattle.dsql_laws_calls.specs.history.Readers.Journals.{heard_in, journal}
use Rattle.dsql_laws_calls.specs.history.Readers.Pool.{place, pool}
use Rattle.dsql_laws_calls.specs.history.Readers.Works.{owner_as, work}
use Rattle.dsql_laws_calls.specs.history.Rules.Moves.{hears_in}
use Rattle.dsql_laws_calls.specs.history.Legal.{Allowed, Lawful}
use Rattle.dsql_laws_calls.proofs.laws.Journals.{keeps_journals_of}
use Rattle.dsql_laws_tenures.specs.Tenures.{IsOfTransaction}
use Rattle.dsql_laws_calls.proofs.BeginningsAt.{heard_more, heard_other, heard_same, is_answer}
use Rattle.dsql_laws_calls.proofs.Lent.{lent_before}
use Rattle.dsql_laws_calls.proofs.Looks.{heard_there}
use Rattle.dsql_laws_calls.proofs.Owners.{owner_is_of}
use Rattle.dsql_laws_calls.proofs.Plain.{begins}
use Rattle.dsql_laws_calls.proofs.Tenures.{fresh_lending}
use Rattle.dsql_laws_due.proofs.Ways.{owner_begins}

-- What is heard on a lent connection has the connection's owner.
pub heard_owner : (H : List Event) (e : Entry) (t : ℕ) (own : Owner) → Allowed H (Heard e) → place H e.conn ≡ Some (Lent t own) → same_owner e.owner own ≡ true
heard_owner H e t own a is =
    let there = heard_there H e a in
    let hears : hears_in (pool H) (Some (Lent t own)) e ≡ true = subst (λ at. hears_in (pool H) at e ≡ true) is there.sets in
    let x = both (not (is_connect e.call || is_shut e.call)) ((e.tenure == t) && same_owner e.owner own) hears in
    let y = both (e.tenure == t) (same_owner e.owner own) x.1 in
    y.1

owned : (H : List Event) (c t : ℕ) (own : Owner) → Lawful H → place H c ≡ Some (Lent t own) → list_all (λ x. same_owner x.owner own) (heard_in H c t) ≡ true
owned [] c t own l is = absurd cc
owned (e ∷ H) c t own l is = by (owned H c t own l.0) (lent_before H e c t own l.0 is)
  where
    answered : (x : Entry) → e ≡ Heard x → place H c ≡ Some (Lent t own) → list_all (λ x. same_owner x.owner own) (heard_in H c t) ≡ true → (x.conn ≡ c) ⊎ (x.conn ≢ c) → list_all (λ x. same_owner x.owner own) (heard_in (e ∷ H) c t) ≡ true
    answered x its before rest (inl here) =
        let a : Allowed H (Heard x) = subst (λ y. Allowed H y) its l.1 in
        ap (λ y. list_all (λ z. same_owner z.owner own) (heard_in (y ∷ H) c t)) its
        ∙ (ap (λ L. list_all (λ z. same_owner z.owner own) L) (heard_more H x c t own a before here)
        ∙ together (same_owner x.owner own) (list_all (λ z. same_owner z.owner own) (heard_in H c t)) (heard_owner H x t own a (ap (place H) here ∙ before)) rest)
    answered x its before rest (inr apart) =
        ap (λ y. list_all (λ z. same_owner z.owner own) (heard_in (y ∷ H) c t)) its ∙ (ap (λ J. list_all (λ z. same_owner z.owner own) (of_tenure t J)) (heard_other H x c apart) ∙ rest)

    event : (y : Event) → e ≡ y → place H c ≡ Some (Lent t own) → list_all (λ x. same_owner x.owner own) (heard_in H c t) ≡ true → list_all (λ x. same_owner x.owner own) (heard_in (e ∷ H) c t) ≡ true
    event (Heard x) its before rest = answered x its before rest (same_or_not x.conn c)
    event y its before rest = ap (λ J. list_all (λ z. same_owner z.owner own) (of_tenure t J)) (heard_same H e c (ap is_answer its)) ∙ rest

    by : (place H c ≡ Some (Lent t own) → list_all (λ x. same_owner x.owner own) (heard_in H c t) ≡ true) → (place H c ≡ Some (Lent t own)) ⊎ ((k : ℕ) × (e ≡ Pool (Lend c t own k)))
        → list_all (λ x. same_owner x.owner own) (heard_in (e ∷ H) c t) ≡ true
    by rest (inl before) = event e refl before (rest before)
    by rest (inr w) =
        ap (λ L. list_all (λ z. same_owner z.owner own) L)
        (ap (of_tenure t) (heard_same H e c (ap is_answer w.1)) ∙ fresh_lending H c t own w.0 l.0 (subst (λ x. Allowed H x) w.1 l.1))

-- A tenure that isn't a call's is a transaction's.
pub owner_tx : (H : List Event) (c t : ℕ) (own : Owner) → Lawful H → place H c ≡ Some (Lent t own) → is_call own ≡ false → own ≡ Tx (number_of own)
owner_tx H c t own l is other = let o = owner_is_of H c t own l is in o.1 ∙ by (work H (number_of own)) (owner_begins H c t own l is other)
  where
    by : (w : Work) → begins w ≡ true → owner_as w (number_of own) ≡ Tx (number_of own)
    by (works_of.Begin label level read_only) h = refl
    by w h = absurd cc

pub of_transaction : (H : List Event) (c t : ℕ) (own : Owner) → Lawful H → place H c ≡ Some (Lent t own) → is_call own ≡ false → IsOfTransaction (number_of own) t (journal H c)
of_transaction H c t own l is other =
    let keeps = keeps_journals_of H l in
    record { beginning = keeps.beginnings c; owner = numbers (heard_in H c t) (owned H c t own l is) }
  where
    of_number : (o : Owner) → same_owner o (Tx (number_of own)) ≡ true → is_tx_number (number_of own) o ≡ true
    of_number (Tx n) h = h
    of_number o h = absurd cc

    numbers : (L : List Entry) → list_all (λ x. same_owner x.owner own) L ≡ true → list_all (λ x. is_tx_number (number_of own) x.owner) L ≡ true
    numbers [] h = refl
    numbers (x ∷ L) h =
        let b = both (same_owner x.owner own) (list_all (λ y. same_owner y.owner own) L) h in
        together (is_tx_number (number_of own) x.owner) (list_all (λ y. is_tx_number (number_of own) y.owner) L)
        (of_number x.owner (ap (same_owner x.owner) (sym (owner_tx H c t own l is other)) ∙ b.0)) (numbers L b.1)
