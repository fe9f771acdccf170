-- What was heard of each connection as a history goes on, and which connections have a wire then. The argument
-- goes through the kinds of calls.
use Rattle.std.proofs.Common.{◌≡◌, ◌≢◌, ◌==◌, ◌⊎◌, ℕ, Bool, true, false, not, ◌&&◌, ◌||◌, List, [], ◌∷◌, ◌++◌, refl, sym, ◌∙◌, arith}
use Rattle.std.specs.List.{list_all}
use Rattle.std.proofs.lemmas.Bool.Decides.{nat_tests}
use Rattle.dsql_history.specs.driver.Fits.{is_done}
use Rattle.dsql_history.specs.driver.Kinds.{is_connect, is_shut}
use Rattle.dsql_history.specs.driver.declared.call.DriverCall.{DriverCall}
use Rattle.dsql_history.specs.driver.declared.call.DriverCall.TheVariants.{Connect, Shut}
use Rattle.dsql_history.specs.journal.declared.entry.Entry.{Entry}
use Rattle.dsql_history.proofs.journal.Conjunctions.{parts2}
use Rattle.dsql_history.specs.declared.event.Event.{Event}
use Rattle.dsql_history.specs.declared.event.Event.TheVariants.{Heard}
use Rattle.dsql_history.specs.Readers.Journals.{journal}
use Rattle.dsql_player_wires.specs.Told.{hears_nothing}
use Rattle.dsql_player_wires.specs.WiresFit.{was_opened, is_wired}

pub same_to_itself : (n : ℕ) → (n == n) ≡ true
same_to_itself n = grind (arith, nat_tests)

pub other_number : (n m : ℕ) → n ≢ m → (n == m) ≡ false
other_number n m h = grind (arith, nat_tests)

pub same_or_not : (n m : ℕ) → (n ≡ m) ⊎ (n ≢ m)
same_or_not n m = grind (arith, nat_tests)

pub not_so : (b : Bool) → not b ≡ true → b ≡ false
not_so true h = absurd cc
not_so false h = refl

-- An entry is added to the journal of its connection, and to no other.
pub journal_here : (past : List Event) (e : Entry) → journal (Heard e ∷ past) e.conn ≡ e ∷ journal past e.conn
journal_here past e = rw same_to_itself refl

pub journal_elsewhere : (past : List Event) (e : Entry) (c : ℕ) → c ≢ e.conn → journal (Heard e ∷ past) c ≡ journal past c
journal_elsewhere past e c n = rw (other_number e.conn c (λ h. n (sym h))) refl

-- What isn't heard is added to no journal.
pub unheard_event : (e : Event) (past : List Event) (c : ℕ) → hears_nothing e ≡ true → journal (e ∷ past) c ≡ journal past c
unheard_event (Heard x) past c h = absurd cc
unheard_event _ past c h = refl

pub unheard : (more past : List Event) (c : ℕ) → list_all hears_nothing more ≡ true → journal (more ++ past) c ≡ journal past c
unheard [] past c h = refl
unheard (e ∷ more) past c h =
    let p = parts2 (hears_nothing e) (list_all hears_nothing more) h in
    unheard_event e (more ++ past) c p.0 ∙ unheard more past c p.1

pub shut_only : (q : DriverCall) → is_shut q ≡ true → is_connect q ≡ false
shut_only Shut h = refl
shut_only _ h = absurd cc

connect_only : (q : DriverCall) → is_connect q ≡ true → is_shut q ≡ false
connect_only Connect h = refl
connect_only _ h = absurd cc

-- An answer to a call other than Connect and Shut leaves the connection its wire.
pub still_wired : (e : Entry) (entries : List Entry) → is_connect e.call ≡ false → is_shut e.call ≡ false → is_wired (e ∷ entries) ≡ is_wired entries
still_wired e entries opens shuts = rw (opens, shuts) refl

-- A connection that was shut has no wire.
pub shut_unwired : (e : Entry) (entries : List Entry) → is_shut e.call ≡ true → is_wired (e ∷ entries) ≡ false
shut_unwired e entries shuts = rw shuts (never (was_opened (e ∷ entries)))
  where
    never : (b : Bool) → (b && false) ≡ false
    never true = refl
    never false = refl

-- A Connect gives its connection a wire exactly if it was answered Done.
pub opened_wired : (e : Entry) → is_connect e.call ≡ true → is_wired (e ∷ []) ≡ is_done e.answer
opened_wired e opens = rw (opens, connect_only e.call opens) (alone (is_done e.answer))
  where
    alone : (b : Bool) → ((b || false) && true) ≡ b
    alone true = refl
    alone false = refl
