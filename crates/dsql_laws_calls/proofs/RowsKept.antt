-- Live rows keep the connection that their query uses, and a fetch is for rows that were made.
use Rattle.std.proofs.Common.{◌≡◌, ℕ, ◌==◌, ◌⊎◌, inl, inr, Bool, true, false, ◌||◌, List, [], ◌∷◌, Option, Some, is_some, refl, sym, ap, subst, ◌∙◌}
use Rattle.dsql_laws.specs.journal.declared.entry.Entry.{Entry}
use Rattle.dsql_laws.specs.journal.declared.entry.Owner.{Owner}
use Rattle.dsql_laws.specs.journal.Kinds.{number_of}
use Rattle.dsql_laws.specs.driver.Kinds.{is_begin}
use Rattle.dsql_laws.specs.pool.declared.conn.Place.TheVariants.{Lent}
use Rattle.dsql_laws.specs.rows.declared.rows.Rows.{Rows}
use Rattle.dsql_laws.specs.rows.OpenRows.{is_live}
use Rattle.dsql_laws.specs.history.Readers.HandedOut.{live, handed_out, rows_by, are_live}
use Rattle.dsql_laws.proofs.Tests.{same_number, same_itself}
use Rattle.dsql_laws.specs.history.declared.event.Event.{Event}
use Rattle.dsql_laws.specs.history.declared.event.Event.TheVariants.{Entered, Heard, Ended}
use Rattle.dsql_laws.specs.history.declared.work.Scope.TheVariants.{Db, Held}
use Rattle.dsql_laws.specs.history.declared.work.Work.{Work}
use Rattle.dsql_laws.specs.history.declared.work.Task.TheVariants.{HandOut}
use Rattle.dsql_laws.specs.history.declared.work.Work.TheVariants.{Statement, Fetch, Look}
use Rattle.dsql_laws.specs.history.Readers.Works.{work, asks, borrower, hands_out_in}
use Rattle.dsql_laws.specs.history.Readers.Pool.{place, home}
use Rattle.dsql_laws.specs.history.Readers.Transactions.{is_over, goes_on}
use Rattle.dsql_laws.specs.history.Readers.Calls.{site}
use Rattle.dsql_laws.specs.history.Rules.Line.{rest, is_used, may_come}
use Rattle.dsql_laws.specs.history.Legal.{Lawful}
use Rattle.dsql_laws_calls.specs.Kept.{KeepsItsConnection}
use Rattle.dsql_laws_calls.proofs.Owners.{owner_is_of, at_home}
use Rattle.dsql_laws_calls.proofs.Lent.{stays_lent}
use Rattle.dsql_laws_calls.proofs.Looks.{heard_there, comes}
use Rattle.dsql_laws_calls.proofs.Makers.{hands_out, rows_hand_out}
use Rattle.dsql_laws_calls.proofs.Begun.{begin_heard}
use Rattle.dsql_laws_calls.proofs.TxEnders.{BegunNow, went_on}
use Rattle.dsql_laws_calls.proofs.Own.{going_used, asks_own}
use Rattle.dsql_laws_calls.proofs.BeginningsAt.{way_of}
use Rattle.dsql_laws_calls.proofs.Inside.{live_goes, was_live, heard_live}
use Rattle.dsql_laws_calls.proofs.Coming.{sound}
use Rattle.dsql_laws_calls.proofs.Stays.{work_stays}
use Rattle.dsql_laws_calls.proofs.Ends.{zero_work}
use Rattle.dsql_laws_calls.proofs.LiveRows.{live_some}
use Rattle.dsql_laws_calls.proofs.Rows.{none_at_end}

-- Holds if a connection is lent to call k, or to the transaction that call k began.
pub record Borrows (H : List Event) (k : ℕ) : Type 0 where
  pub conn : ℕ
  pub tenure : ℕ
  pub owner : Owner
  pub number : number_of owner ≡ k
  pub lent : place H conn ≡ Some (Lent tenure owner)

borrows_on : (H : List Event) (e : Event) (k : ℕ) → Lawful (e ∷ H) → is_used H k ≡ true → Borrows H k → Borrows (e ∷ H) k
borrows_on H e k l used b = record {
  conn = b.conn;
  tenure = b.tenure;
  owner = b.owner;
  number = b.number;
  lent = stays_lent H e b.conn b.tenure b.owner l.0 l.1 b.lent (ap (is_used H) b.number ∙ used);
}

-- A transaction that goes on keeps its connection.
pub tx_borrows : (H : List Event) (k : ℕ) → Lawful H → goes_on H k ≡ true → Borrows H k
tx_borrows [] k l h = absurd cc
tx_borrows (e ∷ H) k l h = by (tx_borrows H k l.0) (went_on H e k h)
  where
    new : (x : Entry) → e ≡ Heard x → is_begin x.call ≡ true → k ≡ x.call_no → Borrows (e ∷ H) k
    new x is begin own =
        let lx : Lawful (Heard x ∷ H) = subst (λ y. Lawful (y ∷ H)) is l in
        let there = heard_there H x lx.1 in
        let u = way_of H x lx.0 lx.1 (begin_heard H x (place H x.conn) there.sets there.line begin) in
        subst (λ y. Borrows (y ∷ H) k) (sym is) (record { conn = x.conn; tenure = x.tenure; owner = u.owner; number = u.own ∙ sym own; lent = u.lent })

    by : (goes_on H k ≡ true → Borrows H k) → (goes_on H k ≡ true) ⊎ BegunNow e k → Borrows (e ∷ H) k
    by rest (inl before) = borrows_on H e k l (going_used H k before) (rest before)
    by rest (inr it) = new it.entry it.heard it.begin it.own

pub live_used : (H : List Event) (n : ℕ) → are_live H n ≡ true → is_used H n ≡ true
live_used H n h = later (goes_on H n) (are_live H n) h
  where
    later : (g v : Bool) → v ≡ true → (g || (v || is_some (rest H n))) ≡ true
    later true v k = refl
    later false true k = refl
    later false false k = absurd cc

-- Is true if the call is a query on the database. Live rows of such a query keep its connection.
abbrev on_db : Work → Bool
on_db (Statement Db (HandOut label)) = true
on_db w = false

asks_on_db : (w : Work) → on_db w ≡ true → asks w ≡ true
asks_on_db (Statement Db (HandOut label)) h = refl
asks_on_db w h = absurd cc

was_on_db : (H : List Event) (e : Event) (n : ℕ) → is_some (rows_by H n) ≡ true → on_db (work (e ∷ H) n) ≡ true → on_db (work H n) ≡ true
was_on_db H e n some h = sym (ap on_db (work_stays H e n (busy (work H n) (rows_hand_out H n some)))) ∙ h
  where
    busy : (w : Work) → hands_out w ≡ true → w ≡ Look → ⊥
    busy w x look = let wrong : false ≡ true = sym (ap hands_out look) ∙ x in cc

live_on : (H : List Event) (e : Event) (n : ℕ) → Lawful (e ∷ H) → are_live H n ≡ true → on_db (work (e ∷ H) n) ≡ true → (are_live H n ≡ true → on_db (work H n) ≡ true → Borrows H n) → Borrows (e ∷ H) n
live_on H e n l were h rest = borrows_on H e n l (live_used H n were) (rest were (was_on_db H e n (live_some (rows_by H n) were) h))

db_borrows : (H : List Event) (n : ℕ) → Lawful H → are_live H n ≡ true → on_db (work H n) ≡ true → Borrows H n
db_borrows [] n l lives h = absurd cc
db_borrows (Entered client m op ∷ H) n l lives h = live_on H (Entered client m op) n l (was_live H client m op n lives) h (db_borrows H n l.0)
db_borrows (Heard e ∷ H) n l lives h = by (db_borrows H n l.0) (heard_live H (work H e.call_no) e.call_no e.call e.answer n (handed_out H) lives)
  where
    by : (are_live H n ≡ true → on_db (work H n) ≡ true → Borrows H n) → (live (rows_by H n) ≡ true) ⊎ ((n ≡ e.call_no) × ((k : ℕ) → hands_out_in k (work H e.call_no) ≡ true → is_over H k ≡ false)) → Borrows (Heard e ∷ H) n
    by rest (inl were) = live_on H (Heard e) n l were h rest
    by rest (inr w) = new w.0
      where
        new : n ≡ e.call_no → Borrows (Heard e ∷ H) n
        new own =
            let there = heard_there H e l.1 in
            let asking = asks_on_db (work H e.call_no) (ap (λ j. on_db (work H j)) (sym own) ∙ h) in
            let some = asks_numbered H e.call_no asking in
            let s = sound H l.0 in
            let u = s.coming e (comes H e (place H e.conn) there.sets there.line some) in
            let number : number_of u.owner ≡ e.call_no = sym (u.borrowed (λ none. absurd (never (e.call_no == 0) (ap (λ j. j == 0) none) some))) ∙ asks_own H e.call_no asking in
            record { conn = e.conn; tenure = e.tenure; owner = u.owner; number = number ∙ sym own; lent = u.lent }
          where
            never : (b : Bool) → b ≡ true → b ≡ false → ⊥
            never b x y = cc

            asks_numbered : (K : List Event) (m : ℕ) → asks (work K m) ≡ true → (m == 0) ≡ false
            asks_numbered K m asking = at (m == 0) refl
              where
                at : (b : Bool) → (m == 0) ≡ b → b ≡ false
                at true is = let wrong : false ≡ true = sym (ap asks (ap (work K) (same_number m 0 is) ∙ zero_work K)) ∙ asking in absurd cc
                at false is = refl
db_borrows (Ended ∷ H) n l lives h = let wrong : true ≡ false = sym lives ∙ none_at_end H n in absurd cc
db_borrows (e ∷ H) n l lives h = live_on H e n l lives h (db_borrows H n l.0)

keeps : (H : List Event) (n k : ℕ) → Lawful H → borrower H n ≡ k → Borrows H k → KeepsItsConnection H n
keeps H n k l uses b =
    let o = owner_is_of H b.conn b.tenure b.owner l b.lent in
    let number : number_of b.owner ≡ borrower H n = b.number ∙ sym uses in
    let at : site H n ≡ b.conn = ap (home H) (sym number) ∙ at_home H b.conn b.tenure b.owner l b.lent in
    record { tenure = b.tenure; owner = b.owner; not_house = o.0; borrowed = number; lent = ap (place H) at ∙ b.lent }

is_live_some : (o : Option Rows) (rows : Rows) → o ≡ Some rows → is_live rows ≡ true → live o ≡ true
is_live_some o rows is h = ap live is ∙ h

-- Live rows keep the connection that their query uses.
pub rows_keep : (H : List Event) (n : ℕ) (rows : Rows) → Lawful H → rows_by H n ≡ Some rows → is_live rows ≡ true → KeepsItsConnection H n
rows_keep H n rows l is h = by (work H n) refl (rows_hand_out H n (live_some (rows_by H n) lives))
  where
    lives : live (rows_by H n) ≡ true
    lives = is_live_some (rows_by H n) rows is h

    by : (w : Work) → work H n ≡ w → hands_out w ≡ true → KeepsItsConnection H n
    by (Statement Db (HandOut label)) its x = keeps H n n l (rw its refl) (db_borrows H n l (is_live_some (rows_by H n) rows is h) (ap on_db its))
    by (Statement (Held k) (HandOut label)) its x = keeps H n k l (rw its refl) (tx_borrows H k l (live_goes H n k l (is_live_some (rows_by H n) rows is h) (ap (hands_out_in k) its ∙ same_itself k)))
    by w its x = absurd cc

-- A fetch is for rows that were made.
pub rows_fetched : (H : List Event) (e : Entry) (k : ℕ) → Lawful H → may_come H e ≡ true → work H e.call_no ≡ Fetch k → is_some (rows_by H k) ≡ true
rows_fetched H e k l h it = let s = sound H l in let u = s.coming e h in u.rowed k (inl it)
