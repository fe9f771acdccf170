-- Any answer that fits may come to the Connect of a connection that is being opened.
use Rattle.std.proofs.Common.{◌≡◌, ℕ, true, false, ◌||◌, List, [], Option, Some, refl, sym, ap, subst}
use Rattle.dsql_laws.specs.driver.Fits.{fits_of, is_memory}
use Rattle.dsql_laws.specs.driver.declared.answer.DriverAnswer.{DriverAnswer}
use Rattle.dsql_laws.specs.driver.declared.call.DriverCall.TheVariants.{Connect}
use Rattle.dsql_laws.specs.journal.declared.entry.Owner.{Owner}
use Rattle.dsql_laws.specs.journal.Entries.{connect_entry}
use Rattle.dsql_laws.specs.journal.Journal.{may_follow}
use Rattle.dsql_laws.proofs.journal.PlainJournals.{may_follow-connect}
use Rattle.dsql_laws.specs.pool.declared.conn.Place.TheVariants.{Opening}
use Rattle.dsql_laws.specs.pool.Places.{is_opening, is_closing}
use Rattle.dsql_laws.specs.history.declared.event.Event.{Event}
use Rattle.dsql_laws.specs.history.declared.event.Event.TheVariants.{Ended}
use Rattle.dsql_laws.specs.history.Readers.Journals.{journal}
use Rattle.dsql_laws.specs.history.Readers.Owed.{owed}
use Rattle.dsql_laws.specs.history.Readers.Pool.{place}
use Rattle.dsql_laws.specs.history.Rules.Order.{follows}
use Rattle.dsql_laws.specs.history.Legal.{Lawful}
use Rattle.dsql_laws_calls.proofs.Spared.{was_heard, was_opened, unpressed}
use Rattle.dsql_laws_calls.proofs.Unspoilt.{Fine, fine}

-- If the pool owes no move, the last event wasn't a Connect or a Shut of a connection that is being opened or
-- closed.
pub unheard : (H : List Event) (c : ℕ) → owed H ≡ [] → (is_opening (place H c) || is_closing (place H c)) ≡ true → was_heard c H ≡ false
unheard H c none at = unpressed H Ended c (ap (λ ms. follows ms Ended) none) refl at

pub follows_connect : (H : List Event) (c : ℕ) (wanted : Option Owner) (answer : DriverAnswer) → Lawful H → owed H ≡ [] → place H c ≡ Some (Opening wanted) → fits_of Connect answer ≡ true → is_memory answer ≡ false
    → may_follow (journal H c) (connect_entry c answer) ≡ true
follows_connect H c wanted answer l none is fit heard =
    let had : Fine (was_heard c H) (was_opened c H) (journal H c) (Some (Opening wanted)) = subst (λ p. Fine (was_heard c H) (was_opened c H) (journal H c) p) is (fine H l c) in
    let nothing : journal H c ≡ [] = had.0 (unheard H c none (ap (λ at. is_opening at || is_closing at) is)) in
    subst (λ J. may_follow J (connect_entry c answer) ≡ true) (sym nothing) (may_follow-connect c answer fit heard)
