-- A connection that a call's tenure has alone. What the call sends next may follow, with each answer that fits
-- there, and the connection serves on.
use Rattle.std.proofs.Common.{◌≡◌, ℕ, ◌<◌, ◌≤◌, Bool, true, false, ◌==◌, List, [], ◌∷◌, refl, ap, ◌∙◌}
use Rattle.std.specs.List.{list_all}
use native.Mathlib.Omega.{arith}
use Rattle.std.proofs.lemmas.Bool.Decides.{nat_tests}
use Rattle.dsql_history.specs.course.declared.course.Wish.{Wish}
use Rattle.dsql_history.specs.driver.declared.answer.DriverAnswer.{DriverAnswer}
use Rattle.dsql_history.specs.driver.declared.answer.DriverAnswer.TheVariants.{Done}
use Rattle.dsql_history.specs.driver.declared.call.DriverCall.{DriverCall}
use Rattle.dsql_history.specs.driver.declared.call.DriverCall.TheVariants.{Reset, Valid, Ping, Prepare, Exec, Query, Next, CloseRows, CloseStmt}
use Rattle.dsql_history.specs.driver.declared.caps.Caps.{Caps}
use Rattle.dsql_history.specs.driver.Fits.{is_invalid}
use Rattle.dsql_history.specs.driver.Kinds.{is_bad, is_connect}
use Rattle.dsql_history.specs.journal.declared.entry.Entry.{Entry}
use Rattle.dsql_history.specs.journal.declared.entry.Owner.TheVariants.{Call}
use Rattle.dsql_history.specs.journal.Kinds.{same_owner}
use Rattle.dsql_history.specs.journal.Entries.{connect_entry}
use Rattle.dsql_history.specs.journal.Readers.{cursors, cursors_after, handles, handles_after, is_empty, last_tenure, of_tenure, went_bad, went_invalid}
use Rattle.dsql_history.specs.journal.HandlesAndCursors.{fits_at_its_place}
use Rattle.dsql_history.specs.journal.Journal.{IsJournalPrefix, is_journal_prefix, may_follow}
use Rattle.dsql_history.specs.journal.Tenure.{is_whole_tenure}
use Rattle.dsql_history.specs.journal.Facts.{MayFollow}
use Rattle.dsql_history.proofs.journal.Conjunctions.{parts2}
use Rattle.dsql_history.proofs.journal.PlainJournals.{Good, Good-connect, Plain-connect}
use Rattle.dsql_history.proofs.journal.Sentences.{MayFollow-of}
use Rattle.dsql_history.proofs.journal.Tenures.{of_tenure-new}
use Rattle.dsql_history.specs.works.Exchanges.{exchanges}
use Rattle.dsql_history.specs.works.Line.{Asked, is_due_in_line, line_after}
use Rattle.dsql_laws_work.proofs.CallLines.{SoFar, is_sent, sent_entry, step}
use Rattle.dsql_laws_work.proofs.Lines as first
use Rattle.dsql_laws_work.proofs.Lines.{sends_no_more, sent_of}
use Rattle.dsql_laws_work.proofs.MadeLines.{MadeAt}
use Rattle.dsql_laws_tenures.proofs.Numbers.{is_itself}
use Rattle.dsql_laws_tenures.specs.Connections.{IsAlone, IsQuiet}
use Rattle.dsql_laws_tenures.proofs.Alone.{alone_on, last_is}
use Rattle.dsql_laws_tenures.proofs.TenureQuiet.{alone_first}
use Rattle.dsql_laws_tenures.proofs.FirstTenures.{as_first, first_any, first_new, first_tenure, first_whole}
use Rattle.dsql_laws_tenures.proofs.TenureFollows.{follows_there}

-- Holds if connection c serves call n in tenure t, which has it alone. It does so as if the tenure were the
-- first after its Connect, and the same is live.
pub record Serves (c t n : ℕ) (J : List Entry) : Type 0 where
  pub alone : IsAlone c t J
  pub later : (1 == t) ≡ false
  pub serves : first.Serves c t n (as_first c t J)
  pub live : handles J ≡ handles (as_first c t J)
  pub open_rows : cursors J ≡ cursors (as_first c t J)

-- Tenures are numbered from 1.
from_one : (J : List Entry) → IsJournalPrefix J → is_empty J ≡ false → 1 ≤ last_tenure J
from_one [] beginning some = absurd cc
from_one (e ∷ []) beginning some =
    let p = parts2 (may_follow [] e) (is_journal_prefix []) beginning in
    let m : MayFollow [] e = MayFollow-of [] e p.0 in
    grind (arith, nat_tests, m.whole_journal.from_one)
from_one (e ∷ x ∷ J) beginning some =
    let p = parts2 (may_follow (x ∷ J) e) (is_journal_prefix (x ∷ J)) beginning in
    let m : MayFollow (x ∷ J) e = MayFollow-of (x ∷ J) e p.0 in
    let before : 1 ≤ x.tenure = from_one (x ∷ J) p.1 refl in
    grind (arith, nat_tests, m.whole_journal.rising, before)

not_one : (n t : ℕ) → 1 ≤ n → n < t → (1 == t) ≡ false
not_one n t one above = grind (arith, nat_tests, one, above)

later_than : (n t : ℕ) → 1 ≤ n → n < t → 1 < t
later_than n t one above = omega arith

-- A lending begins a tenure in which nothing was heard yet.
pub serves_first : (c t n : ℕ) (J : List Entry) → IsQuiet c J → last_tenure J < t → Serves c t n J
serves_first c t n J q above =
    let o = q.is_open in
    let one = from_one J o.beginning o.opened in
    let less : 1 < t = later_than (last_tenure J) t one above in
    let is : as_first c t J ≡ connect_entry c Done ∷ [] = first_new c t J (of_tenure-new t J o.beginning above) in
    record {
      alone = alone_first c t J q (omega arith);
      later = not_one (last_tenure J) t one above;
      serves = rw is (first.serves_first c t n (connect_entry c Done ∷ []) refl (Plain-connect c) (Good-connect c) refl less);
      live = rw (is, q.no_handles) refl;
      open_rows = rw (is, q.no_cursors) refl;
    }

-- What is known of the tenure from the journal in which it comes first.

pub same_tenure : (c t n : ℕ) (J : List Entry) → Serves c t n J → of_tenure t (as_first c t J) ≡ of_tenure t J
same_tenure c t n J s = first_tenure c t J s.later

same_bad : (c t n : ℕ) (J : List Entry) → Serves c t n J → went_bad (as_first c t J) ≡ went_bad J
same_bad c t n J s = let a = s.alone in first_any (λ x. is_bad x.answer) c t J refl a.bad_here

same_invalid : (c t n : ℕ) (J : List Entry) → Serves c t n J → went_invalid (as_first c t J) ≡ went_invalid J
same_invalid c t n J s = let a = s.alone in first_any (λ x. is_invalid x.answer) c t J refl a.invalid_here

pub whole_there : (c t n : ℕ) (J : List Entry) → Serves c t n J → is_whole_tenure t (as_first c t J) ≡ true → is_whole_tenure t J ≡ true
whole_there c t n J s whole = let v = s.serves in first_whole c t J v.served.none_begun s.live s.open_rows (same_bad c t n J s) whole

-- As long as the call sends more, no answer was Bad or Invalid.
pub serves_good : (c t n : ℕ) (J : List Entry) → Serves c t n J → sends_no_more (of_tenure t J) ≡ false → Good J
serves_good c t n J s over =
    let v = s.serves in
    let good : Good (as_first c t J) = v.good (rw (same_tenure c t n J s) over) in
    record { not_bad = rw (same_bad c t n J s) at good.not_bad; not_invalid = rw (same_invalid c t n J s) at good.not_invalid }

-- The tenure holds what the call has sent so far, up to its present step.
pub serves_so_far : (c t n : ℕ) (J : List Entry) → Serves c t n J → SoFar t n (step (of_tenure t J)) (of_tenure t J)
serves_so_far c t n J s = let v = s.serves in rw (same_tenure c t n J s) at v.so_far

-- All entries of the tenure are the call's.
pub serves_owner : (c t n : ℕ) (J : List Entry) → Serves c t n J → list_all (λ x. same_owner x.owner (Call n)) (of_tenure t J) ≡ true
serves_owner c t n J s = let v = s.serves in rw (same_tenure c t n J s) at v.own

-- The live handles are those of the tenure.
pub serves_handles : (c t n : ℕ) (J : List Entry) → Serves c t n J → handles J ≡ handles (of_tenure t J)
serves_handles c t n J s = let v = s.serves in s.live ∙ v.live ∙ ap handles (same_tenure c t n J s)

pub serves_cursors : (c t n : ℕ) (J : List Entry) → Serves c t n J → cursors J ≡ cursors (of_tenure t J)
serves_cursors c t n J s = let v = s.serves in s.open_rows ∙ v.open_rows ∙ ap cursors (same_tenure c t n J s)

sent_later : (q : DriverCall) → is_sent q ≡ true → is_connect q ≡ false
sent_later Reset h = refl
sent_later Valid h = refl
sent_later Ping h = refl
sent_later (Prepare text) h = refl
sent_later (Exec input params) h = refl
sent_later (Query input params) h = refl
sent_later (Next rows) h = refl
sent_later (CloseRows rows) h = refl
sent_later (CloseStmt handle) h = refl
sent_later q h = absurd cc

-- What a call sends next on the connection.
module _ (c t n m : ℕ) (J : List Entry) (can : Caps) (reset : Bool) (asked : Asked) (w : Wish) where
  -- A driver call that is due may follow, with each answer that fits there.
  pub may_follow-due : (q : DriverCall) (a : DriverAnswer) → Serves c t n J → MadeAt can asked (step (of_tenure t J)) (exchanges (of_tenure t J))
      → is_due_in_line (line_after can reset asked w (of_tenure t J)) q ≡ true → fits_at_its_place J (sent_entry c t n m q a) ≡ true → may_follow J (sent_entry c t n m q a) ≡ true
  may_follow-due q a s made due fits =
      let F : List Entry = as_first c t J in
      let same = same_tenure c t n J s in
      let over : sends_no_more (of_tenure t J) ≡ false = first.due_while can reset asked w (of_tenure t J) (first.some_of (line_after can reset asked w (of_tenure t J)) q due) in
      let good = serves_good c t n J s over in
      let there : may_follow F (sent_entry c t n m q a) ≡ true =
      first.may_follow-due c t n m F can reset asked w q a s.serves (rw same made) (rw same due) (rw (← s.live, ← s.open_rows) fits) in
      follows_there c t n m q a F J s.alone good.not_bad good.not_invalid
      (record { tenure = same; live = s.live; open_rows = s.open_rows; whole = whole_there c t n J s })
      (sent_later q (sent_of (line_after can reset asked w (of_tenure t J)) q due)) (MayFollow-of F (sent_entry c t n m q a) there) fits

  -- After a driver call that was due, the connection serves on.
  pub serves_on : (q : DriverCall) (a : DriverAnswer) → Serves c t n J → MadeAt can asked (step (of_tenure t J)) (exchanges (of_tenure t J))
      → is_due_in_line (line_after can reset asked w (of_tenure t J)) q ≡ true → may_follow J (sent_entry c t n m q a) ≡ true → Serves c t n (sent_entry c t n m q a ∷ J)
  serves_on q a s made due may =
      let same = same_tenure c t n J s in
      let f : MayFollow J (sent_entry c t n m q a) = MayFollow-of J (sent_entry c t n m q a) may in
      record {
        alone = alone_on c t J (sent_entry c t n m q a) s.alone may refl refl;
        later = s.later;
        serves = rw (is_itself t) (first.serves_on c t n m (as_first c t J) can reset asked w q a s.serves (rw same made) (rw same due) f.answer.fitting);
        live = rw (is_itself t) (ap (handles_after (sent_entry c t n m q a) q a) s.live);
        open_rows = rw (is_itself t) (ap (cursors_after (sent_entry c t n m q a) q a) s.open_rows);
      }
