-- Proves that callers are kept apart in a whole history. Each event of a lawful history comes after a lawful
-- history, so the law of one event applies to each.
use Rattle.std.proofs.Common.{◌≡◌, Bool, true, ◌&&◌, List, [], ◌∷◌, refl}
use Rattle.dsql_laws_calls.specs.journal.declared.entry.Entry.{Entry}
use Rattle.dsql_laws_calls.proofs.laws.Tests.{together}
use Rattle.dsql_laws_calls.specs.history.declared.event.Event.{Event}
use Rattle.dsql_laws_calls.specs.history.declared.event.Event.TheVariants.{Heard}
use Rattle.dsql_laws_calls.specs.history.Legal.{Lawful}
use Rattle.dsql_laws_apart.specs.Apart.{has_unfinished_sender, names_what_was_made, uses_its_connection, begins_as_asked, stands_in_its_transaction, comes_from_within, tidies_after_the_end, keeps_to_its_own, is_apart, are_apart}
use Rattle.dsql_laws_apart.proofs.Begins.{asked_for}
use Rattle.dsql_laws_apart.proofs.Rules.{unfinished_sends, made_names, connection_uses, transaction_stands, within_comes, end_tidies, own_keeps}

all_of : (a b c d f g h i : Bool) → a ≡ true → b ≡ true → c ≡ true → d ≡ true → f ≡ true → g ≡ true → h ≡ true → i ≡ true → (a && (b && (c && (d && (f && (g && (h && i))))))) ≡ true
all_of a b c d f g h i p q r s t u v w = rw (p, q, r, s, t, u, v, w) refl

heard_apart : (H : List Event) (e : Entry) → Lawful (Heard e ∷ H) → is_apart H e ≡ true
heard_apart H e l =
    all_of (has_unfinished_sender H e) (names_what_was_made H e) (uses_its_connection H e) (begins_as_asked H e) (stands_in_its_transaction e) (comes_from_within H e) (tidies_after_the_end H e) (keeps_to_its_own H e)
    (unfinished_sends H e l) (made_names H e l) (connection_uses H e l) (asked_for H e l) (transaction_stands H e l) (within_comes H e l) (end_tidies H e l) (own_keeps H e l)

pub all_apart : (H : List Event) → Lawful H → are_apart H ≡ true
all_apart [] l = refl
all_apart (Heard e ∷ H) l = together (are_apart H) (is_apart H e) (all_apart H l.0) (heard_apart H e l)
all_apart (e ∷ H) l = all_apart H l.0
