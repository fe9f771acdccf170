-- What was heard on a connection, by its place: facts that concern only that connection.
use Rattle.std.proofs.Common.{◌≡◌, ℕ, ◌≤◌, ◌+◌, Bool, true, false, not, ◌==◌, ◌||◌, List, [], ◌∷◌, is_none, refl, sym, subst, ◌∙◌}
use native.Mathlib.Omega.{arith}
use Rattle.dsql_history.specs.course.declared.course.Wish.{Wish}
use Rattle.dsql_history.specs.driver.declared.answer.DriverAnswer.TheVariants.{Done}
use Rattle.dsql_history.specs.driver.declared.caps.Caps.{Caps}
use Rattle.dsql_history.specs.driver.Kinds.{is_reset, is_valid}
use Rattle.dsql_history.specs.journal.declared.entry.Entry.{Entry}
use Rattle.dsql_history.specs.journal.declared.entry.Owner.TheVariants.{Call}
use Rattle.dsql_history.specs.journal.Entries.{connect_entry}
use Rattle.dsql_history.specs.journal.Kinds.{◌⇒◌}
use Rattle.dsql_history.specs.journal.Readers.{last_tenure, of_tenure, went_bad}
use Rattle.dsql_history.specs.journal.Journal.{is_last_tenure_whole, may_follow}
use Rattle.dsql_history.specs.journal.Tenure.{is_whole_tenure}
use Rattle.dsql_history.specs.journal.Facts.{MayFollow}
use Rattle.dsql_history.proofs.journal.PlainJournals.{went_bad-in}
use Rattle.dsql_history.proofs.journal.Sentences.{MayFollow-of}
use Rattle.dsql_history.specs.works.Exchanges.{exchanges}
use Rattle.dsql_history.specs.works.Journals.{ends_invalid}
use Rattle.dsql_history.specs.works.Line.{Asked, is_due_in_line, line_after}
use Rattle.dsql_laws_work.proofs.CallLines.{sent_entry, step}
use Rattle.dsql_laws_work.proofs.KeptRows.{keeps_rows}
use Rattle.dsql_laws_work.proofs.Lines.{ends_bad, none_left, sent_entry_of}
use Rattle.dsql_laws_work.proofs.MadeLines.{MadeAt}
use Rattle.dsql_laws_work.proofs.Standing as first
use Rattle.dsql_laws_tenures.proofs.Numbers.{same_number}
use Rattle.dsql_laws_tenures.specs.Tenures.{IsOfTransaction}
use Rattle.dsql_laws_tenures.specs.Connections.{IsAlone, IsOpen, IsQuiet}
use Rattle.dsql_laws_tenures.proofs.Alone.{each_whole, last_whole}
use Rattle.dsql_laws_tenures.proofs.FirstTenures.{as_first}
use Rattle.dsql_laws_tenures.proofs.TenureQuiet.{alone_first, never_invalid, quiet_again, quiet_opened}
use Rattle.dsql_laws_tenures.proofs.Transactions.{transaction_first}
use Rattle.dsql_laws_tenures.proofs.Serves.{Serves, same_tenure, serves_cursors, serves_first, serves_handles, serves_on, serves_so_far, whole_there}

-- Holds if the connection is idle.
pub record Rests (c l : ℕ) (J : List Entry) : Type 0 where
  pub quiet : IsQuiet c J
  pub below : last_tenure J ≤ l + 1

-- Holds if the connection is being closed, and wasn't shut yet.
pub record Leaves (c l : ℕ) (J : List Entry) : Type 0 where
  pub is_open : IsOpen c J
  pub whole : is_last_tenure_whole J ≡ true
  pub below : last_tenure J ≤ l + 1

-- Holds if the connection is lent to call n in tenure t.
pub record Works (c l t n : ℕ) (J : List Entry) : Type 0 where
  pub tenure : t ≡ l + 1
  pub serves : Serves c t n J

-- Holds if the connection is lent to transaction k in tenure t.
pub record HoldsTransaction (c l t k : ℕ) (J : List Entry) : Type 0 where
  pub tenure : t ≡ l + 1
  pub alone : IsAlone c t J
  pub own : IsOfTransaction k t J

-- A connection at rest, idle or opened by the last event, can be lent to a call.
pub works_first : (c l t n : ℕ) (J : List Entry) → Rests c l J → t ≡ l + 2 → Works c (l + 1) t n J
works_first c l t n J s is = record { tenure = omega arith; serves = serves_first c t n J s.quiet (omega (arith, s.below)) }

pub rests_opened : (c l u : ℕ) (heard : Bool) (J : List Entry) → first.Opens c l u heard true J → Rests c l J
rests_opened c l u heard J s =
    let is : J ≡ connect_entry c Done ∷ [] = s.done refl in
    record { quiet = rw is (quiet_opened c); below = rw is (omega arith) }

-- If no answer of the connection was Bad, the last answer of the tenure wasn't Bad.
not_bad_in : (t : ℕ) (J : List Entry) → went_bad J ≡ false → ends_bad (of_tenure t J) ≡ false
not_bad_in t J good = by_list (of_tenure t J) (went_bad-in t J good)
  where
    by_list : (L : List Entry) → went_bad L ≡ false → ends_bad L ≡ false
    by_list [] h = refl
    by_list (e ∷ L) h = grind (arith, h)

-- A connection on which nothing more is due, and that no rows keep, has a whole tenure.
pub done_whole : (c t n : ℕ) (J : List Entry) (can : Caps) (reset : Bool) (asked : Asked) (w : Wish) → Serves c t n J
    → MadeAt can asked (step (of_tenure t J)) (exchanges (of_tenure t J)) → is_none (line_after can reset asked w (of_tenure t J)) ≡ true
    → keeps_rows asked.aim w (exchanges (of_tenure t J)) ≡ false → is_whole_tenure t J ≡ true
done_whole c t n J can reset asked w s made over free =
    let same = same_tenure c t n J s in
    whole_there c t n J s (first.done_whole c t n (as_first c t J) can reset asked w s.serves (rw same made) (rw same over) (rw same free))

-- Such a connection is quiet, unless it is a bad one.
pub quiet_served : (c t n : ℕ) (J : List Entry) (can : Caps) (reset : Bool) (asked : Asked) (w : Wish) → Serves c t n J
    → MadeAt can asked (step (of_tenure t J)) (exchanges (of_tenure t J)) → went_bad J ≡ false → ends_invalid J ≡ false
    → is_none (line_after can reset asked w (of_tenure t J)) ≡ true → keeps_rows asked.aim w (exchanges (of_tenure t J)) ≡ false → IsQuiet c J
quiet_served c t n J can reset asked w s made good tested over free =
    let a = s.alone in
    let o = a.is_open in
    let whole = done_whole c t n J can reset asked w s made over free in
    let left = none_left t n can reset asked w (of_tenure t J) (serves_so_far c t n J s) made over free (not_bad_in t J good) in
    record {
      is_open = o;
      whole = λ k. each_whole c t k J a whole;
      no_handles = serves_handles c t n J s ∙ left.handles;
      no_cursors = serves_cursors c t n J s ∙ left.cursors;
      not_bad = good;
      not_invalid = never_invalid J o.beginning o.not_shut tested;
    }

-- A connection that is given back and kept, and that no rows keep, is at rest.
pub rests_again : (c l t n : ℕ) (J : List Entry) (can : Caps) (reset : Bool) (asked : Asked) (w : Wish) → Works c l t n J
    → MadeAt can asked (step (of_tenure t J)) (exchanges (of_tenure t J)) → went_bad J ≡ false → ends_invalid J ≡ false
    → is_none (line_after can reset asked w (of_tenure t J)) ≡ true → keeps_rows asked.aim w (exchanges (of_tenure t J)) ≡ false → Rests c l J
rests_again c l t n J can reset asked w s made good tested over free =
    let v = s.serves in
    let a = v.alone in
    record { quiet = quiet_served c t n J can reset asked w v made good tested over free; below = omega (arith, a.rising, s.tenure) }

-- A connection that a transaction gives back is at rest.
pub rests_ended : (c l k t : ℕ) (J : List Entry) → IsAlone c t J → t ≡ l + 1 → IsOfTransaction k t J → is_whole_tenure t J ≡ true → went_bad J ≡ false → ends_invalid J ≡ false → Rests c l J
rests_ended c l k t J s is own whole good tested = record { quiet = quiet_again c k t J s own whole good tested; below = omega (arith, s.rising, is) }

-- A connection at rest can leave.
pub leaves_idle : (c l : ℕ) (J : List Entry) → Rests c l J → Leaves c l J
leaves_idle c l J s = let q = s.quiet in record { is_open = q.is_open; whole = q.whole (last_tenure J); below = s.below }

-- A lent connection whose tenure is whole can leave, whatever its owner.
pub leaves_alone : (c l t : ℕ) (J : List Entry) → IsAlone c t J → t ≡ l + 1 → is_whole_tenure t J ≡ true → Leaves c l J
leaves_alone c l t J s is whole = record { is_open = s.is_open; whole = last_whole c t J s whole; below = omega (arith, s.rising, is) }

pub leaves_lent : (c l t n : ℕ) (J : List Entry) → Works c l t n J → is_whole_tenure t J ≡ true → Leaves c l J
leaves_lent c l t n J s whole = let v = s.serves in leaves_alone c l t J v.alone s.tenure whole

-- An entry of a call's tenure is in no transaction.
outside : (b : Bool) (x : ℕ) → b ⇒ (x == 0) ≡ true → (not b ≡ true → (x == 0) ≡ true) → x ≡ 0
outside true x tests body = same_number x 0 tests
outside false x tests body = same_number x 0 (body refl)

pub tx_of_call : (n : ℕ) (J : List Entry) (e : Entry) → may_follow J e ≡ true → e.owner ≡ Call n → e.tx ≡ 0
tx_of_call n J e may owner =
    let f : MayFollow J e = MayFollow-of J e may in
    outside (is_reset e.call || is_valid e.call) e.tx f.tenure.tests (λ body. let b = rw owner at (f.tenure.in_body body) in b.no_transaction)

-- The next driver call of the call keeps the connection lent to it.
pub works_heard : (c l t n m : ℕ) (J : List Entry) (e : Entry) (can : Caps) (reset : Bool) (asked : Asked) (w : Wish) → Works c l t n J
    → MadeAt can asked (step (of_tenure t J)) (exchanges (of_tenure t J)) → may_follow J e ≡ true → e.conn ≡ c → e.tenure ≡ t → e.owner ≡ Call n → e.call_no ≡ m
    → is_due_in_line (line_after can reset asked w (of_tenure t J)) e.call ≡ true → Works c l t n (e ∷ J)
works_heard c l t n m J e can reset asked w s made may conn tenure owner number due =
    let is : e ≡ sent_entry c t n m e.call e.answer = sent_entry_of c t n m e conn tenure owner number (tx_of_call n J e may owner) in
    record {
      tenure = s.tenure;
      serves = subst (λ (x : Entry). Serves c t n (x ∷ J)) (sym is)
          (serves_on c t n m J can reset asked w e.call e.answer s.serves made due (subst (λ (x : Entry). may_follow J x ≡ true) is may));
    }
