-- A refusal in a call's last try gives the call its reply.
use Rattle.std.proofs.Common.{◌≡◌, ℕ, ◌==◌, ◌⊎◌, inl, inr, Bool, true, false, not, ◌&&◌, cond, List, [], ◌∷◌, length, Option, Some, None, is_some, refl, ap, subst}
use Rattle.std.specs.Prelude.{nat_lt}
use Rattle.dsql_laws.specs.driver.declared.answer.DriverAnswer.{DriverAnswer}
use Rattle.dsql_laws.specs.driver.declared.answer.DriverAnswer.TheVariants.{Bad, Fail}
use Rattle.dsql_laws.specs.driver.Fits.{is_done, is_failure}
use Rattle.dsql_laws.specs.driver.Kinds.{is_connect, is_bad}
use Rattle.dsql_laws.specs.journal.declared.entry.Entry.{Entry}
use Rattle.dsql_laws.specs.journal.Readers.{is_empty}
use Rattle.dsql_laws.specs.journal.Facts.{MayFollow}
use Rattle.dsql_laws.proofs.journal.Sentences.{MayFollow-of}
use Rattle.dsql_laws.specs.pool.declared.conn.Place.{Place}
use Rattle.dsql_laws.specs.pool.declared.conn.Place.TheVariants.{Opening}
use Rattle.dsql_laws.specs.pool.declared.moves.Move.TheVariants.{Lend, Fell}
use Rattle.dsql_laws.specs.pool.Calls.{moves_opened, moves_failed}
use Rattle.dsql_laws.specs.pool.Pooled.{place_at}
use Rattle.dsql_laws.specs.history.declared.record.Try.{Try}
use Rattle.dsql_laws.specs.history.declared.record.Try.TheVariants.{Served, Lost, Refused}
use Rattle.dsql_laws.specs.history.Readers.Owed.{answered}
use Rattle.dsql_laws.specs.history.Readers.Tries.{with_try, lost, has_a_try, most_tries, tries, newest_answer, loses, tries_again}
use Rattle.dsql_laws.proofs.Tests.{both}
use Rattle.dsql_laws.proofs.AbleMoves.{connect_fails, MayHear}
use Rattle.dsql_laws.specs.history.declared.event.Event.{Event}
use Rattle.dsql_laws.specs.history.declared.event.Event.TheVariants.{Heard, Pool}
use Rattle.dsql_laws.specs.history.declared.reply.Reply.{Reply}
use Rattle.dsql_laws.specs.history.declared.reply.Reply.TheVariants.{BadConn}
use Rattle.dsql_laws.specs.history.Readers.Decisions.{reply_to, bad_reply}
use Rattle.dsql_laws.specs.history.Readers.Journals.{journal}
use Rattle.dsql_laws.specs.history.Readers.Pool.{pool, place}
use Rattle.dsql_laws.specs.history.Readers.Works.{work, asks}
use Rattle.dsql_laws.specs.history.Rules.Moves.{hears_in, is_house_entry}
use Rattle.dsql_laws.specs.history.Rules.Order.{follows}
use Rattle.dsql_laws.specs.history.Legal.{Allowed, Lawful}
use Rattle.dsql_laws.proofs.AtRest.{keeps_of}
use Rattle.dsql_laws_calls.proofs.Falls.{opened_falls_none, first_falls}
use Rattle.dsql_laws.specs.history.declared.work.Work.{Work}

hears : (H : List Event) (e : Entry) → Allowed H (Heard e) → MayHear H e
unfolding Allowed
hears H e a = record { sets = a.sets; follows = a.journals }

connect_told : (H : List Event) (e : Entry) (c n : ℕ) (at : Option Place) → MayHear H e → place H e.conn ≡ at → follows (answered e.answer e.conn (pool H) at) (Pool (Fell c n)) ≡ true
    → not (is_empty (answered e.answer e.conn (pool H) at)) ≡ true → is_failure e.answer ≡ true
connect_told H e c n (Some (Opening wanted)) may is h some = by (is_done e.answer) refl h some
  where
    sets : hears_in (pool H) (Some (Opening wanted)) e ≡ true
    sets = subst (λ at. hears_in (pool H) at e ≡ true) is may.sets

    by : (b : Bool) → is_done e.answer ≡ b → follows (cond b (moves_opened e.conn (pool H)) (moves_failed e.conn (pool H))) (Pool (Fell c n)) ≡ true
        → not (is_empty (cond b (moves_opened e.conn (pool H)) (moves_failed e.conn (pool H)))) ≡ true → is_failure e.answer ≡ true
    by true done k first = absurd (first_falls (moves_opened e.conn (pool H)) c n (opened_falls_none e.conn (pool H) (place_at (pool H) e.conn)) k first)
    by false undone k first =
        let connects = both (is_connect e.call) ((e.tenure == 1) && is_house_entry e) sets in
        let m : MayFollow (journal H e.conn) e = MayFollow-of (journal H e.conn) e may.follows in
        connect_fails e.call e.answer connects.0 m.answer.fitting m.answer.heard undone
connect_told H e c n _ may is h some = absurd cc

newest_told : (H : List Event) (c n : ℕ) → Lawful H → Allowed H (Pool (Fell c n)) → is_failure (newest_answer H) ≡ true
newest_told [] c n l a = refl
newest_told (Heard e ∷ H) c n l a =
    let keeps = keeps_of (Heard e ∷ H) (Pool (Fell c n)) a in
    connect_told H e c n (place H e.conn) (hears H e l.1) refl keeps.order keeps.causes
newest_told (_ ∷ H) c n l a = refl

tried_now : (b : Bool) (x : Try) (a : DriverAnswer) (before earlier : List Try) → with_try b x before ≡ Refused a ∷ earlier → (x ≡ Refused a) ⊎ (before ≡ Refused a ∷ earlier)
tried_now true x a before earlier is = inl cc
tried_now false x a before earlier is = inr is

-- A refused try doesn't become lost.
refused_before : (b : Bool) (ts : List Try) (a : DriverAnswer) (earlier : List Try) → cond b (lost ts) ts ≡ Refused a ∷ earlier → ts ≡ Refused a ∷ earlier
refused_before true (Served ∷ ts) a earlier is = absurd cc
refused_before _ _ a earlier is = is

-- A refusal that fell to a call is the failed answer of a Connect.
pub refusal_failed : (H : List Event) (n : ℕ) (a : DriverAnswer) (earlier : List Try) → Lawful H → tries H n ≡ Refused a ∷ earlier → is_failure a ≡ true
refusal_failed [] n a earlier l is = absurd cc
refusal_failed (Heard e ∷ H) n a earlier l is = refusal_failed H n a earlier l.0 (refused_before ((e.call_no == n) && loses (work H n) e) (tries H n) a earlier is)
refusal_failed (Pool (Lend c t o m) ∷ H) n a earlier l is = by (refusal_failed H n a earlier l.0) (tried_now (m == n) Served a (tries H n) earlier is)
  where
    by : (tries H n ≡ Refused a ∷ earlier → is_failure a ≡ true) → (Served ≡ Refused a) ⊎ (tries H n ≡ Refused a ∷ earlier) → is_failure a ≡ true
    by rest (inl other) = absurd cc
    by rest (inr k) = rest k
refusal_failed (Pool (Fell c m) ∷ H) n a earlier l is = by (refusal_failed H n a earlier l.0) (tried_now (m == n) (Refused (newest_answer H)) a (tries H n) earlier is)
  where
    by : (tries H n ≡ Refused a ∷ earlier → is_failure a ≡ true) → (Refused (newest_answer H) ≡ Refused a) ⊎ (tries H n ≡ Refused a ∷ earlier) → is_failure a ≡ true
    by rest (inl now) = let same : newest_answer H ≡ a = cc in subst (λ b. is_failure b ≡ true) same (newest_told H c m l.0 l.1)
    by rest (inr k) = rest k
refusal_failed (_ ∷ H) n a earlier l is = refusal_failed H n a earlier l.0 is

-- The last try gives the reason for its failure.

bad_told : (w : Work) (k : ℕ) → nat_lt k most_tries ≡ false → is_some (bad_reply (tries_again w k) k) ≡ true
bad_told w k last = by (asks w)
  where
    by : (b : Bool) → is_some (bad_reply (b && nat_lt k most_tries) k) ≡ true
    by true = ap (λ b. is_some (cond {A = Option Reply} b None (Some (BadConn k)))) last
    by false = refl

pub refusal_told : (H : List Event) (w : Work) (n : ℕ) (a : DriverAnswer) (earlier : List Try) → Lawful H → tries H n ≡ Refused a ∷ earlier → has_a_try (Refused a ∷ earlier) ≡ false
    → is_some (reply_to (tries_again w (length (Refused a ∷ earlier))) (length (Refused a ∷ earlier)) a) ≡ true
refusal_told H w n a earlier l is last = by a (refusal_failed H n a earlier l is) last
  where
    many : ℕ
    many = length (Refused a ∷ earlier)

    by : (b : DriverAnswer) → is_failure b ≡ true → (is_bad b && nat_lt many most_tries) ≡ false → is_some (reply_to (tries_again w many) many b) ≡ true
    by Bad f k = bad_told w many k
    by (Fail text) f k = refl
    by _ f k = absurd cc

pub loss_told : (w : Work) (earlier : List Try) → has_a_try (Lost ∷ earlier) ≡ false → is_some (bad_reply (tries_again w (length (Lost ∷ earlier))) (length (Lost ∷ earlier))) ≡ true
loss_told w earlier last = bad_told w (length (Lost ∷ earlier)) last
