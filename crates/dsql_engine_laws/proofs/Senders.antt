-- The sender of the newest driver call of a lent connection's tenure: how an event changes it, and that it uses
-- the connection.
use Rattle.std.proofs.Common.{◌≡◌, ◌≢◌, ℕ, ◌<◌, ◌==◌, ◌⊎◌, inl, inr, Bool, true, false, cond, List, [], ◌∷◌, length, Option, Some, refl, sym, ap, subst, ◌∙◌, arith}
use Rattle.dsql_engine_hearing.specs.journal.declared.entry.Entry.{Entry}
use Rattle.dsql_engine_hearing.specs.journal.declared.entry.Owner.{Owner}
use Rattle.dsql_engine_hearing.specs.journal.Kinds.{number_of}
use Rattle.dsql_engine_hearing.specs.journal.Readers.{of_tenure}
use Rattle.dsql_engine_hearing.specs.pool.declared.conn.Place.{Place}
use Rattle.dsql_engine_hearing.specs.pool.declared.conn.Place.TheVariants.{Lent}
use Rattle.dsql_engine_hearing.specs.pool.Calls.{wants}
use Rattle.dsql_engine_hearing.specs.history.Rules.Wishes.{newest_sender}
use Rattle.dsql_engine_hearing.proofs.laws.Tests.{other_number, same_number}
use Rattle.dsql_engine_hearing.proofs.laws.Wanted.{none_wanted}
use Rattle.dsql_engine_hearing.proofs.laws_work.Rows.{same_or_not}
use Rattle.dsql_engine_hearing.specs.history.declared.event.Event.{Event}
use Rattle.dsql_engine_hearing.specs.history.declared.event.Event.TheVariants.{Heard}
use Rattle.dsql_engine_hearing.specs.history.Readers.Calls.{site}
use Rattle.dsql_engine_hearing.specs.history.Readers.Journals.{heard_in, journal}
use Rattle.dsql_engine_hearing.specs.history.Readers.Pool.{home, place, pool}
use Rattle.dsql_engine_hearing.specs.history.Readers.Works.{borrower, works}
use Rattle.dsql_engine_hearing.specs.history.Legal.{Allowed, Lawful}
use Rattle.dsql_engine_hearing.proofs.laws.Wanting.{wants_its_own}
use Rattle.dsql_engine_hearing.proofs.laws_callers.Works.{borrower_stays, some_works, works_stay}
use Rattle.dsql_engine_hearing.specs.laws_calls.UnderWay.{StaysWithItsCall}
use Rattle.dsql_engine_hearing.proofs.laws_calls.BeginningsAt.{heard_same, is_answer}
use Rattle.dsql_engine_hearing.proofs.laws_calls.Coming.{stays_with_its_call}
use Rattle.dsql_engine_hearing.proofs.laws_calls.Lent.{Lends, lent_before}
use Rattle.dsql_engine_hearing.proofs.laws_calls.Looks.{comes, heard_there}
use Rattle.dsql_engine_hearing.proofs.laws_calls.Own.{asks_own}
use Rattle.dsql_engine_hearing.proofs.laws_calls.Owners.{at_home}
use Rattle.dsql_engine_hearing.proofs.laws_calls.Tenures.{fresh_lending}
use Rattle.dsql_engine_hearing.proofs.laws_calls.Wanted.{lent_wants_none}
use Rattle.dsql_engine_hearing.proofs.desk.Known.{unfinished_known}
use Rattle.dsql_engine_laws.specs.Turns.{sender_at, sender_in}

-- Holds if the connection is lent.
pub record IsLent (H : List Event) (c : ℕ) : Type 0 where
  pub tenure : ℕ
  pub owner : Owner
  pub lent : place H c ≡ Some (Lent tenure owner)

-- A connection that isn't lent has no sender in its tenure.
pub lent_or_silent : (H : List Event) (c : ℕ) → IsLent H c ⊎ (sender_at H c ≡ 0)
lent_or_silent H c = by (place H c) refl
  where
    by : (at : Option Place) → place H c ≡ at → IsLent H c ⊎ (sender_at H c ≡ 0)
    by (Some (Lent t own)) is = inl (record { tenure = t; owner = own; lent = is })
    by _ is = inr (ap (sender_in H c) is)

-- How an event changes the sender.

-- Holds if the connection was already lent before the event, and its sender is the same.
record LentAsBefore (H : List Event) (x : Event) (c t : ℕ) (own : Owner) : Type 0 where
  lent : place H c ≡ Some (Lent t own)
  same : sender_at (x ∷ H) c ≡ sender_at H c

-- After an event that is no answer, the connection is lent as before, or its tenure is new and has no sender
-- yet.
quiet_lent : (H : List Event) (x : Event) (c t : ℕ) (own : Owner) → Lawful (x ∷ H) → is_answer x ≡ false → place (x ∷ H) c ≡ Some (Lent t own) → LentAsBefore H x c t own ⊎ (sender_at (x ∷ H) c ≡ 0)
quiet_lent H x c t own l quiet is = by (lent_before H x c t own l.0 is)
  where
    unheard : sender_at (x ∷ H) c ≡ newest_sender (heard_in H c t)
    unheard = ap (sender_in (x ∷ H) c) is ∙ ap (λ J. newest_sender (of_tenure t J)) (heard_same H x c quiet)

    by : (place H c ≡ Some (Lent t own)) ⊎ Lends x c t own → LentAsBefore H x c t own ⊎ (sender_at (x ∷ H) c ≡ 0)
    by (inl before) = inl (record { lent = before; same = unheard ∙ sym (ap (sender_in H c) before) })
    by (inr lends) = inr (unheard ∙ ap newest_sender (fresh_lending H c t own lends.0 l.0 (subst (λ y. Allowed H y) lends.1 l.1)))

pub quiet_sender : (H : List Event) (x : Event) (c : ℕ) → Lawful (x ∷ H) → is_answer x ≡ false → (sender_at (x ∷ H) c ≡ sender_at H c) ⊎ (sender_at (x ∷ H) c ≡ 0)
quiet_sender H x c l quiet = by (lent_or_silent (x ∷ H) c)
  where
    still : (t : ℕ) (own : Owner) → LentAsBefore H x c t own ⊎ (sender_at (x ∷ H) c ≡ 0) → (sender_at (x ∷ H) c ≡ sender_at H c) ⊎ (sender_at (x ∷ H) c ≡ 0)
    still t own (inl before) = inl before.same
    still t own (inr none) = inr none

    by : IsLent (x ∷ H) c ⊎ (sender_at (x ∷ H) c ≡ 0) → (sender_at (x ∷ H) c ≡ sender_at H c) ⊎ (sender_at (x ∷ H) c ≡ 0)
    by (inl it) = still it.tenure it.owner (quiet_lent H x c it.tenure it.owner l quiet it.lent)
    by (inr none) = inr none

-- Holds if the answer is on the connection, and its call is the sender.
pub record SentBy (e : Entry) (c m : ℕ) : Type 0 where
  pub sender : m ≡ e.call_no
  pub at : e.conn ≡ c

pub heard_sender : (H : List Event) (e : Entry) (c : ℕ) → (sender_at (Heard e ∷ H) c ≡ sender_at H c) ⊎ SentBy e c (sender_at (Heard e ∷ H) c)
heard_sender H e c = by (place H c)
  where
    J : List Entry
    J = journal H c

    in_tenure : (t : ℕ) (b : Bool) → e.conn ≡ c → (newest_sender (cond b (e ∷ of_tenure t J) (of_tenure t J)) ≡ newest_sender (of_tenure t J)) ⊎ SentBy e c (newest_sender (cond b (e ∷ of_tenure t J) (of_tenure t J)))
    in_tenure t true here = inr (record { sender = refl; at = here })
    in_tenure t false here = inl refl

    on : (t : ℕ) (b : Bool) → (e.conn == c) ≡ b → (newest_sender (of_tenure t (cond b (e ∷ J) J)) ≡ newest_sender (of_tenure t J)) ⊎ SentBy e c (newest_sender (of_tenure t (cond b (e ∷ J) J)))
    on t true is = in_tenure t (e.tenure == t) (same_number e.conn c is)
    on t false is = inl refl

    by : (at : Option Place) → (sender_in (Heard e ∷ H) c at ≡ sender_in H c at) ⊎ SentBy e c (sender_in (Heard e ∷ H) c at)
    by (Some (Lent t own)) = on t (e.conn == c) refl
    by _ = inl refl

-- A sender uses the connection.

-- Holds if call m has entered and uses the connection that is lent to call k or to its transaction.
pub record Uses (H : List Event) (k m : ℕ) : Type 0 where
  pub entered : m < length (works H)
  pub borrowed : borrower H m ≡ k

uses_on : (H : List Event) (x : Event) (k m : ℕ) → Uses H k m → Uses (x ∷ H) k m
uses_on H x k m it = record { entered = works_stay H x m it.entered; borrowed = borrower_stays H x m it.entered ∙ it.borrowed }

abbrev SenderUses : List Event → Type 0
SenderUses H = (c t : ℕ) (own : Owner) → place H c ≡ Some (Lent t own) → (sender_at H c ≡ 0) ⊎ Uses H (number_of own) (sender_at H c)

uses_still : (H : List Event) (x : Event) (c k : ℕ) → sender_at (x ∷ H) c ≡ sender_at H c → (sender_at H c ≡ 0) ⊎ Uses H k (sender_at H c) → (sender_at (x ∷ H) c ≡ 0) ⊎ Uses (x ∷ H) k (sender_at (x ∷ H) c)
uses_still H x c k same (inl none) = inl (same ∙ none)
uses_still H x c k same (inr it) = inr (subst (λ m. Uses (x ∷ H) k m) (sym same) (uses_on H x k (sender_at H c) it))

uses_quiet : (H : List Event) (x : Event) → Lawful (x ∷ H) → is_answer x ≡ false → SenderUses H → SenderUses (x ∷ H)
uses_quiet H x l quiet had c t own is = by (quiet_lent H x c t own l quiet is)
  where
    by : LentAsBefore H x c t own ⊎ (sender_at (x ∷ H) c ≡ 0) → (sender_at (x ∷ H) c ≡ 0) ⊎ Uses (x ∷ H) (number_of own) (sender_at (x ∷ H) c)
    by (inl before) = uses_still H x c (number_of own) before.same (had c t own before.lent)
    by (inr none) = inl none

owner_of : (t u : ℕ) (o p : Owner) → Some (Lent t o) ≡ Some (Lent u p) → o ≡ p
owner_of t u o p same = cc

heard_uses : (H : List Event) (e : Entry) (c t : ℕ) (own : Owner) → Lawful (Heard e ∷ H) → place H c ≡ Some (Lent t own) → e.conn ≡ c → (e.call_no ≡ 0) ⊎ Uses H (number_of own) e.call_no
heard_uses H e c t own l is at = by (same_or_not e.call_no 0)
  where
    by : (e.call_no ≡ 0) ⊎ (e.call_no ≢ 0) → (e.call_no ≡ 0) ⊎ Uses H (number_of own) e.call_no
    by (inl none) = inl none
    by (inr some) =
        let there = heard_there H e l.1 in
        let it : StaysWithItsCall H e = stays_with_its_call H e l.0 (comes H e (place H e.conn) there.sets there.line (other_number e.call_no 0 some)) in
        let same : it.owner ≡ own = owner_of e.tenure t it.owner own (sym it.lent ∙ (ap (place H) at ∙ is)) in
        inr (record { entered = unfinished_known H e.call_no l.0 (it.unfinished some); borrowed = it.used some ∙ ap number_of same })

uses_heard : (H : List Event) (e : Entry) → Lawful (Heard e ∷ H) → SenderUses H → SenderUses (Heard e ∷ H)
uses_heard H e l had c t own is = by (heard_sender H e c)
  where
    k : ℕ
    k = number_of own

    new : (m : ℕ) → m ≡ e.call_no → (e.call_no ≡ 0) ⊎ Uses H k e.call_no → (m ≡ 0) ⊎ Uses (Heard e ∷ H) k m
    new m sent (inl none) = inl (sent ∙ none)
    new m sent (inr it) = inr (subst (λ j. Uses (Heard e ∷ H) k j) (sym sent) (uses_on H (Heard e) k e.call_no it))

    by : (sender_at (Heard e ∷ H) c ≡ sender_at H c) ⊎ SentBy e c (sender_at (Heard e ∷ H) c) → (sender_at (Heard e ∷ H) c ≡ 0) ⊎ Uses (Heard e ∷ H) k (sender_at (Heard e ∷ H) c)
    by (inl same) = uses_still H (Heard e) c k same (had c t own is)
    by (inr sent) = new (sender_at (Heard e ∷ H) c) sent.sender (heard_uses H e c t own l is sent.at)

-- The call that sent the newest driver call of a tenure has entered and uses the connection.
pub sender_uses : (H : List Event) → Lawful H → (c t : ℕ) (own : Owner) → place H c ≡ Some (Lent t own) → (sender_at H c ≡ 0) ⊎ Uses H (number_of own) (sender_at H c)
sender_uses [] l = λ c t own is. absurd cc
sender_uses (Heard e ∷ H) l = uses_heard H e l (sender_uses H l.0)
sender_uses (e ∷ H) l = uses_quiet H e l refl (sender_uses H l.0)

pub sender_entered : (H : List Event) (c : ℕ) → Lawful H → sender_at H c < length (works H)
sender_entered H c l = by (lent_or_silent H c)
  where
    silent : sender_at H c ≡ 0 → sender_at H c < length (works H)
    silent none = let some = some_works H in omega (arith, none, some)

    known : (k : ℕ) → (sender_at H c ≡ 0) ⊎ Uses H k (sender_at H c) → sender_at H c < length (works H)
    known k (inl none) = silent none
    known k (inr it) = it.entered

    by : IsLent H c ⊎ (sender_at H c ≡ 0) → sender_at H c < length (works H)
    by (inl it) = known (number_of it.owner) (sender_uses H l c it.tenure it.owner it.lent)
    by (inr none) = silent none

-- Holds if a call uses this connection and wants no other, as a call that sent last on it does.
pub record IsThere (H : List Event) (c n : ℕ) : Type 0 where
  pub site : site H n ≡ c
  pub content : wants n (pool H) ≡ false

content_there : (H : List Event) (c t : ℕ) (own : Owner) (n : ℕ) → Lawful H → n ≢ 0 → place H c ≡ Some (Lent t own) → borrower H n ≡ number_of own → wants n (pool H) ≡ false
content_there H c t own n l some is uses = by (wants n (pool H)) refl
  where
    by : (b : Bool) → wants n (pool H) ≡ b → wants n (pool H) ≡ false
    by false is_so = is_so
    by true is_so =
        let itself : number_of own ≡ n = sym uses ∙ asks_own H n (wants_its_own H n l some is_so) in
        ap (λ m. wants m (pool H)) (sym itself) ∙ none_wanted (number_of own) (pool H) (lent_wants_none H c t own l is)

pub sender_there : (H : List Event) (c : ℕ) → Lawful H → sender_at H c ≢ 0 → IsThere H c (sender_at H c)
sender_there H c l some = by (lent_or_silent H c)
  where
    with_user : (it : IsLent H c) → (sender_at H c ≡ 0) ⊎ Uses H (number_of it.owner) (sender_at H c) → IsThere H c (sender_at H c)
    with_user it (inl none) = absurd (some none)
    with_user it (inr u) = record {
      site = ap (home H) u.borrowed ∙ at_home H c it.tenure it.owner l it.lent;
      content = content_there H c it.tenure it.owner (sender_at H c) l some it.lent u.borrowed;
    }

    by : IsLent H c ⊎ (sender_at H c ≡ 0) → IsThere H c (sender_at H c)
    by (inl it) = with_user it (sender_uses H l c it.tenure it.owner it.lent)
    by (inr none) = absurd (some none)
