-- Journals of connections that hold nothing open: how they begin, go on and end.
use Rattle.std.proofs.Common.{◌≡◌, ℕ, Bool, true, false, cond, ◌==◌, ◌&&◌, ◌||◌, List, [], ◌∷◌, refl}
use Rattle.std.specs.Prelude.{IsTrue, IsFalse}
use Rattle.std.specs.List.{list_all, list_any, filter}
use native.Mathlib.Omega.{arith}
use Rattle.std.proofs.lemmas.Bool.Decides.{nat_tests}
use Rattle.dsql_driver.specs.declared.call.DriverCall.TheVariants.{Connect}
use Rattle.dsql_driver.specs.declared.answer.DriverAnswer.{DriverAnswer}
use Rattle.dsql_driver.specs.declared.answer.DriverAnswer.TheVariants.{Done, Bad, Fail, Memory}
use Rattle.dsql_driver.specs.Fits.{fits_of, is_memory, is_invalid}
use Rattle.dsql_tenure_journal.specs.declared.entry.Entry.{Entry}
use Rattle.dsql_tenure_journal.specs.Kinds.{◌⇒◌, is_call}
use Rattle.dsql_driver.specs.Kinds.{is_bad}
use Rattle.dsql_tenure_journal.specs.Readers.{LiveHandle, is_empty, of_tenure, handles, cursors, begun, begins, was_refused, was_shut, went_bad, went_invalid}
use Rattle.dsql_tenure_journal.specs.Tenure.{is_whole_tenure, has_ended_transactions, has_closed_cursors, has_closed_handles}
use Rattle.dsql_tenure_journal.specs.Journal.{may_follow, is_journal_prefix, IsJournalPrefix}
use Rattle.dsql_tenure_journal.specs.Entries.{connect_entry}
use Rattle.dsql_tenure_journal.proofs.Conjunctions.{join2}

-- Holds if connection c was opened and isn't shut, and nothing is left on it to close before it is given back.
pub record Plain (c : ℕ) (journal : List Entry) : Type 0 where
  pub one : IsTrue (list_all (λ x. x.conn == c) journal)
  pub opened : IsFalse (is_empty journal)
  pub not_refused : IsFalse (was_refused journal)
  pub not_shut : IsFalse (was_shut journal)
  pub call_handles : IsTrue (list_all (λ h. is_call h.owner) (handles journal))
  pub no_cursors : cursors journal ≡ []
  pub none_begun : begun journal ≡ []

-- Holds if nothing was answered Bad or Invalid, so that calls may go on.
pub record Good (journal : List Entry) : Type 0 where
  pub not_bad : IsFalse (went_bad journal)
  pub not_invalid : IsFalse (went_invalid journal)

-- A beginning with an entry that may follow it is a beginning.
pub IsJournalPrefix-with : (e : Entry) (J : List Entry) → IsJournalPrefix J → may_follow J e ≡ true → IsJournalPrefix (e ∷ J)
IsJournalPrefix-with e J beginning may = join2 (may_follow J e) (is_journal_prefix J) may beginning

pub of_tenure-with : (t : ℕ) (e : Entry) (J : List Entry) → e.tenure ≡ t → of_tenure t (e ∷ J) ≡ e ∷ of_tenure t J
of_tenure-with t e J same = grind (arith, nat_tests, same)

-- A Good journal stays Good with an answer that is neither Bad nor Invalid.
pub Good-with : (e : Entry) (J : List Entry) → Good J → is_bad e.answer ≡ false → is_invalid e.answer ≡ false → Good (e ∷ J)
Good-with e J good not_bad not_invalid = record { not_bad = grind (arith, good.not_bad, not_bad); not_invalid = grind (arith, good.not_invalid, not_invalid) }

pub still_one : (c : ℕ) (J : List Entry) → list_all (λ x. x.conn == c) J ≡ true → (c == c) && list_all (λ x. x.conn == c) J ≡ true
still_one c J one = grind (arith, nat_tests, one)

-- A connection that was opened is Plain and Good.
pub Plain-connect : (c : ℕ) → Plain c (connect_entry c Done ∷ [])
Plain-connect c = record { one = still_one c [] refl; opened = refl; not_refused = refl; not_shut = refl; call_handles = refl; no_cursors = refl; none_begun = refl }

pub Good-connect : (c : ℕ) → Good (connect_entry c Done ∷ [])
Good-connect c = record { not_bad = refl; not_invalid = refl }

-- On a Plain connection each tenure is whole.

none_more : (b : Bool) (n : ℕ) (ns : List ℕ) → cond b (n ∷ ns) ns ≡ [] → (b ≡ false) × (ns ≡ [])
none_more true n ns h = grind (arith, h)
none_more false n ns h = (refl, h)

none_with : (b : Bool) (e : Entry) (J : List Entry) → begins e ≡ false → begun J ≡ [] → begun (cond b (e ∷ J) J) ≡ []
none_with true e J not_here none = rw not_here none
none_with false e J not_here none = none

begun-filter : (f : Entry → Bool) (J : List Entry) → begun J ≡ [] → begun (filter f J) ≡ []
begun-filter f [] h = refl
begun-filter f (e ∷ J) h =
    let p = none_more (begins e) e.tx (begun J) h in
    none_with (f e) e (filter f J) p.0 (begun-filter f J p.1)

or_later : (a b : Bool) → b ≡ true → a || b ≡ true
or_later true b h = refl
or_later false b h = h

closed_handles : (n : ℕ) (live : List LiveHandle) → list_all (λ h. is_call h.owner) live ≡ true → list_all (λ h. (h.tenure == n) ⇒ is_call h.owner) live ≡ true
closed_handles n [] all = refl
closed_handles n (h ∷ live) all = grind (arith, all, closed_handles n live)

pub is_whole_tenure-plain : (c n : ℕ) (J : List Entry) → Plain c J → is_whole_tenure n J ≡ true
is_whole_tenure-plain c n J plain =
    join2 (has_ended_transactions n J) (went_bad J || has_closed_cursors n J && has_closed_handles n J)
    (rw (begun-filter (λ x. x.tenure == n) J plain.none_begun) refl)
    (or_later (went_bad J) (has_closed_cursors n J && has_closed_handles n J)
    (join2 (has_closed_cursors n J) (has_closed_handles n J) (rw plain.no_cursors refl) (closed_handles n (handles J) plain.call_handles)))

any_with : {X : Type 0} (test : X → Bool) (b : Bool) (x : X) (some all : List X) → list_any test (x ∷ all) ≡ false → list_any test some ≡ false → list_any test (cond b (x ∷ some) some) ≡ false
any_with test true x some all h rest = grind (arith, h, rest)
any_with test false x some all h rest = rest

any_tail : (here later : Bool) → here || later ≡ false → later ≡ false
any_tail true later h = grind (arith, h)
any_tail false later h = h

any-filter : {X : Type 0} (test keep : X → Bool) (xs : List X) → list_any test xs ≡ false → list_any test (filter keep xs) ≡ false
any-filter test keep [] h = refl
any-filter test keep (x ∷ xs) h = any_with test (keep x) x (filter keep xs) xs h (any-filter test keep xs (any_tail (test x) (list_any test xs) h))

-- In a tenure of a Good journal nothing was answered Bad.
pub went_bad-in : (t : ℕ) (J : List Entry) → went_bad J ≡ false → went_bad (of_tenure t J) ≡ false
went_bad-in t J good = any-filter (λ x. is_bad x.answer) (λ x. x.tenure == t) J good

-- A connection begins with its Connect, and is over if that was refused.

pub may_follow-connect : (c : ℕ) (answer : DriverAnswer) → fits_of Connect answer ≡ true → is_memory answer ≡ false → may_follow [] (connect_entry c answer) ≡ true
may_follow-connect c Done fitting heard = refl
may_follow-connect c Bad fitting heard = refl
may_follow-connect c (Fail text) fitting heard = refl
may_follow-connect c Memory fitting heard = grind (arith, heard)
may_follow-connect c _ fitting heard = grind (arith, fitting)
