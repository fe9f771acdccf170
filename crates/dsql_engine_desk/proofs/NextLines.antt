-- What is sent next in the line of a call is decided by what was heard there.
use Rattle.std.proofs.Common.{◌≡◌, ◌==◌, ℕ, Bool, true, false, cond, List, Option, Some, None, refl, sym, ap, ◌∙◌}
use Rattle.std.specs.Option.{option_map}
use Rattle.dsql_laws_calls.specs.course.declared.course.Wish.{Wish}
use Rattle.dsql_laws_calls.specs.driver.declared.call.DriverCall.{DriverCall}
use Rattle.dsql_laws_calls.specs.driver.declared.call.DriverCall.TheVariants as calls
use Rattle.dsql_laws_calls.specs.driver.declared.call.Level.{Level}
use Rattle.dsql_engine_exchanged.specs.Lines.{line_told}
use Rattle.dsql_engine_exchanged.proofs.Sent.{told_as_heard}
use Rattle.dsql_laws_calls.specs.journal.declared.entry.Entry.{Entry}
use Rattle.dsql_laws_calls.specs.journal.declared.entry.Owner.TheVariants as owners
use Rattle.dsql_laws_calls.specs.journal.Kinds.{number_of}
use Rattle.dsql_laws_calls.specs.journal.Readers.{went_bad}
use Rattle.dsql_laws_calls.specs.pool.declared.conn.Place.{Place}
use Rattle.dsql_laws_calls.specs.pool.declared.conn.Place.TheVariants.{Lent}
use Rattle.dsql_laws_calls.specs.works.Line.{Asked}
use Rattle.dsql_engine_exchanged.specs.declared.bare.BareCall.{BareCall}
use Rattle.dsql_engine_exchanged.specs.Beginning.{beginning_in}
use Rattle.dsql_engine_exchanged.specs.Filled.{filled}
use Rattle.dsql_engine_exchanged.specs.Inside.{inside_told}
use Rattle.dsql_engine_exchanged.proofs.Open.{heard_exchanged}
use Rattle.dsql_engine_exchanged.proofs.Told.{inside_as_heard}
use Rattle.dsql_laws_calls.specs.history.declared.event.Event.{Event}
use Rattle.dsql_laws_calls.specs.history.declared.work.Scope.TheVariants.{Db, Held}
use Rattle.dsql_laws_calls.specs.history.declared.work.Work.{Work}
use Rattle.dsql_laws_calls.specs.history.declared.work.Work.TheVariants.{Statement, Begin, Ping, Look}
use Rattle.dsql_laws_calls.specs.history.Readers.Course.{caps}
use Rattle.dsql_laws_calls.specs.history.Readers.Journals.{heard_in, journal}
use Rattle.dsql_laws_calls.specs.history.Readers.Lines.{line_among}
use Rattle.dsql_laws_calls.specs.history.Readers.Pool.{home, place}
use Rattle.dsql_laws_calls.specs.history.Readers.Works.{borrower, owner_as, owner_of, scope, work}
use Rattle.dsql_laws_calls.specs.history.Rules.Sent.{asked_by, begin_line, db_line, is_reset_due, Sender, sender, tx_line, line_at as line_at_place, line_for, line_of}
use Rattle.dsql_laws_calls.specs.history.Legal.{Lawful}
use Rattle.dsql_laws_calls.proofs.Lines.{line_here, line_there}
use Rattle.dsql_laws_calls.proofs.Inside.{inside_uses}
use Rattle.dsql_laws_calls.proofs.Owners.{owner_is_of}
use Rattle.dsql_laws_calls.proofs.Plain.{begins}
use Rattle.dsql_engine_calls.specs.Calls.{options_of}
use Rattle.dsql_engine_lines.specs.Inside.{line_at, lines}
use Rattle.dsql_engine_desk.specs.Next.{has_line, lent_at, lent_under, there_at}
use Rattle.dsql_engine_desk.proofs.LentTo.{inside_lent, lent_to, lent_to_tx}
use Rattle.dsql_engine_lines.proofs.OfCalls.{kept_line}
use Rattle.dsql_engine_lines.proofs.OfConnections.{kept_bad, kept_beginning, kept_made}

-- Nothing is sent if no connection is lent.

none_at : (H : List Event) (n : ℕ) (wish : Wish) (c : ℕ) (p : Option Place) → lent_at (borrower H n) c p ≡ None → line_at_place H n wish c p ≡ None
none_at H n wish c (Some (Lent t own)) h = by (number_of own == borrower H n) (line_there H c t own n wish) h
  where
    by : (b : Bool) (d : Option DriverCall) → cond b (Some c) None ≡ None → cond b d None ≡ None
    by true d h = absurd cc
    by false d h = refl
none_at H n wish c _ h = refl

pub none_lent : (H : List Event) (n : ℕ) (wish : Wish) → lent_under H (borrower H n) ≡ None → line_of H n wish ≡ None
none_lent H n wish h = none_at H n wish (home H (borrower H n)) (place H (home H (borrower H n))) h

-- A call that begins a transaction.

record Begins (w : Work) (n : ℕ) (level : Level) (read_only : Bool) : Type 0 where
  label : List ℕ
  is : w ≡ Begin label level read_only

abbrev level_or : Level → Option (Level × Bool) → Level
level_or d None = d
level_or d (Some p) = p.0

abbrev only_or : Bool → Option (Level × Bool) → Bool
only_or d None = d
only_or d (Some p) = p.1

begins_so : (w : Work) (n : ℕ) (level : Level) (read_only : Bool) (options : Option (Level × Bool)) → options ≡ Some (level, read_only) → options_of w ≡ options → Begins w n level read_only
begins_so (Begin label own only) n level read_only options is h =
    let same : options_of (Begin label own only) ≡ Some (level, read_only) = h ∙ is in
    record { label = label; is = ap (λ it. Begin label it only) (ap (level_or level) same) ∙ ap (λ it. Begin label level it) (ap (only_or read_only) same) }
begins_so w n level read_only options is h = absurd cc

pub next_begins : (H : List Event) (n c : ℕ) (wish : Wish) (level : Level) (read_only : Bool) (sent : Option BareCall) → Lawful H → lent_under H (borrower H n) ≡ Some c → options_of (work H n) ≡ Some (level, read_only)
    → ((asked : Asked) (line : List Entry) → beginning_in line ≡ (there_at H c).beginning → option_map (filled asked) sent ≡ begin_line (caps H) (is_reset_due H c) (calls.Begin level read_only) line)
    → option_map (filled (asked_by H n)) sent ≡ line_of H n wish
next_begins H n c wish level read_only sent l lent options so =
    let it = lent_to H (borrower H n) c lent in
    let b = begins_so (work H n) n level read_only (options_of (work H n)) options refl in
    let own : borrower H n ≡ n = own_line b.label b.is in
    let number : n ≡ number_of it.owner = sym own ∙ it.number in
    let to_tx : it.owner ≡ owners.Tx n = lent_to_tx H c it.tenure n it.owner l it.at number (ap begins b.is) in
    let at : place H c ≡ Some (Lent it.tenure (owners.Tx n)) = it.at ∙ ap (λ o. Some (Lent it.tenure o)) to_tx in
    so (asked_by H n) (line_among n (heard_in H c it.tenure)) (sym (kept_beginning H c it.tenure n l at))
    ∙ sym
    (line_here H c it.tenure (owners.Tx n) n wish l at own
    ∙ ap (λ w. line_for w (scope w) (sender H n c wish) (line_among n (heard_in H c it.tenure))) b.is)
  where
    own_line : (label : List ℕ) → work H n ≡ Begin label level read_only → borrower H n ≡ n
    own_line label begin = rw begin refl

-- A call on the database.

db_owner : (w : Work) (n : ℕ) → options_of w ≡ None → owner_as w n ≡ owners.Call n
db_owner (Begin label level read_only) n h = absurd cc
db_owner w n h = refl

-- A call on the database that begins no transaction sends next what its line says.
on_db : (S : Sender) (w : Work) (line : List Entry) → options_of w ≡ None → line_for w Db S line ≡ db_line S line
on_db S (Begin label level read_only) line h = absurd cc
on_db S w line h = refl

own_borrower : (H : List Event) (n : ℕ) (w : Work) → work H n ≡ w → has_line w ≡ true → scope w ≡ Db → borrower H n ≡ n
own_borrower H n (Statement Db task) is line db = rw is refl
own_borrower H n (Begin label level read_only) is line db = rw is refl
own_borrower H n Ping is line db = rw is refl
own_borrower H n Look is line db = rw is refl
own_borrower H n w is line db = absurd cc

pub next_on_db : (H : List Event) (n c : ℕ) (wish : Wish) (sent : Option BareCall) → Lawful H → lent_under H (borrower H n) ≡ Some c → has_line (work H n) ≡ true → options_of (work H n) ≡ None → scope (work H n) ≡ Db
    → option_map (filled (asked_by H n)) sent ≡ line_told (caps H) (is_reset_due H c) (asked_by H n) wish (there_at H c).made → option_map (filled (asked_by H n)) sent ≡ line_of H n wish
next_on_db H n c wish sent l lent line options db so =
    let it = lent_to H (borrower H n) c lent in
    let own : borrower H n ≡ n = own_borrower H n (work H n) refl line db in
    let of_it = owner_is_of H c it.tenure it.owner l it.at in
    let to_call : it.owner ≡ owners.Call n = of_it.1 ∙ ap (owner_of H) (sym (sym own ∙ it.number)) ∙ db_owner (work H n) n options in
    let at : place H c ≡ Some (Lent it.tenure (owners.Call n)) = it.at ∙ ap (λ o. Some (Lent it.tenure o)) to_call in
    let heard = heard_in H c it.tenure in
    so
    ∙ (ap (λ made. line_told (caps H) (is_reset_due H c) (asked_by H n) wish made) (kept_made H c it.tenure (owners.Call n) l at)
    ∙ (told_as_heard (caps H) (is_reset_due H c) (asked_by H n) wish heard
    ∙ sym
    (line_here H c it.tenure (owners.Call n) n wish l at own
    ∙ (ap (λ s. line_for (work H n) s (sender H n c wish) heard) db ∙ on_db (sender H n c wish) (work H n) heard options))))

-- A call in a transaction.

in_tx : (S : Sender) (w : Work) (k : ℕ) (line : List Entry) → options_of w ≡ None → line_for w (Held k) S line ≡ tx_line S line
in_tx S (Begin label level read_only) k line h = absurd cc
in_tx S w k line h = refl

pub next_in_tx : (H : List Event) (n c k : ℕ) (wish : Wish) (sent : Option BareCall) → Lawful H → lent_under H (borrower H n) ≡ Some c → options_of (work H n) ≡ None → scope (work H n) ≡ Held k
    → option_map (filled (asked_by H n)) sent ≡ inside_told (caps H) (there_at H c).ending.bad (asked_by H n) wish (line_at (lines H).calls n).heard → option_map (filled (asked_by H n)) sent ≡ line_of H n wish
next_in_tx H n c k wish sent l lent options inside so =
    let it = lent_to H (borrower H n) c lent in
    let uses : borrower H n ≡ k = inside_uses H n k inside in
    let to_tx : it.owner ≡ owners.Tx k = inside_lent H c it.tenure n k it.owner l it.at (sym uses ∙ it.number) inside in
    let at : place H c ≡ Some (Lent it.tenure (owners.Tx k)) = it.at ∙ ap (λ o. Some (Lent it.tenure o)) to_tx in
    let line = line_among n (heard_in H c it.tenure) in
    let bad = went_bad (journal H c) in
    so
    ∙ (ap (λ b. inside_told (caps H) b (asked_by H n) wish (line_at (lines H).calls n).heard) (kept_bad H c it.tenure (owners.Tx k) l at)
    ∙ (ap (λ made. inside_told (caps H) bad (asked_by H n) wish made.heard) (kept_line H c it.tenure n k l inside at)
    ∙ (ap (inside_told (caps H) bad (asked_by H n) wish) (heard_exchanged line)
    ∙ (inside_as_heard (caps H) bad (asked_by H n) wish line
    ∙ sym (line_here H c it.tenure (owners.Tx k) n wish l at uses ∙ (ap (λ s. line_for (work H n) s (sender H n c wish) line) inside ∙ in_tx (sender H n c wish) (work H n) k line options))))))
