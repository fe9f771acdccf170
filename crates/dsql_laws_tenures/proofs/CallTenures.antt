-- A call's tenure on a connection that was quiet before: how far the call has come, what may follow, and what
-- the call leaves.
use Rattle.std.proofs.Common.{◌≡◌, ℕ, ◌<◌, Bool, true, false, not, ◌&&◌, List, [], ◌∷◌, ◌++◌, Option, None, Some, refl, sym, subst, ap, ◌∙◌}
use Rattle.dsql_history.specs.course.declared.course.Wish.{Wish}
use Rattle.dsql_history.specs.course.declared.course.Wish.TheVariants as wishes
use Rattle.dsql_history.specs.course.Made.{Exchange, rows_are_over}
use Rattle.dsql_history.specs.driver.declared.caps.Caps.{Caps}
use Rattle.dsql_history.specs.driver.Fits.{fits_of, is_memory}
use Rattle.dsql_history.specs.journal.declared.entry.Entry.{Entry}
use Rattle.dsql_history.specs.journal.HandlesAndCursors.{fits_at_its_place}
use Rattle.dsql_history.specs.journal.Journal.{IsJournalPrefix, is_journal_prefix, may_follow}
use Rattle.dsql_history.specs.journal.Readers.{last_tenure, of_tenure, went_bad}
use Rattle.dsql_history.specs.journal.Tenure.{is_whole_tenure}
use Rattle.dsql_history.specs.journal.Facts.{MayFollow}
use Rattle.dsql_history.proofs.journal.Conjunctions.{join2, parts2}
use Rattle.dsql_history.proofs.journal.PlainJournals.{IsJournalPrefix-with, of_tenure-with}
use Rattle.dsql_history.proofs.journal.Sentences.{MayFollow-of}
use Rattle.dsql_history.proofs.journal.Tenures.{of_tenure-new}
use Rattle.dsql_history.specs.works.Exchanges.{exchanges}
use Rattle.dsql_history.specs.works.Journals.{ends_invalid}
use Rattle.dsql_history.specs.works.Line.{Asked, handed, line_after}
use Rattle.dsql_history.specs.works.declared.work.Aim.{Aim}
use Rattle.dsql_laws_work.proofs.CallLines.{sent_entry, step}
use Rattle.dsql_laws_work.proofs.KeptRows.{keeps, keeps_rows, keeps_with}
use Rattle.dsql_laws_work.proofs.Lines.{made_on, sent_entry_of}
use Rattle.dsql_laws_work.proofs.MadeLines.{MadeAt}
use Rattle.dsql_laws_tenures.specs.Connections.{IsAlone, IsQuiet}
use Rattle.dsql_laws_tenures.specs.Calls.{ClosesOpenRows, IsLentToCall, IsOfCall, WasDue, WereSent}
use Rattle.dsql_laws_tenures.proofs.Serves.{Serves, may_follow-due, serves_first, serves_on}
use Rattle.dsql_laws_tenures.proofs.TenureStanding.{done_whole, quiet_served}

-- Holds if the connection serves the call, and `heard` is what was heard in its tenure.
pub record IsServed (can : Caps) (asked : Asked) (c t n : ℕ) (heard before : List Entry) : Type 0 where
  pub serves : Serves c t n (heard ++ before)
  pub made : MadeAt can asked (step heard) (exchanges heard)
  pub tenure : of_tenure t (heard ++ before) ≡ heard

sent_so : (c t n : ℕ) (e : Entry) → IsOfCall c t n e → e ≡ sent_entry c t n e.call_no e.call e.answer
sent_so c t n e o = sent_entry_of c t n e.call_no e o.conn o.tenure o.owner refl o.tx

served_on : (can : Caps) (reset_due : Bool) (asked : Asked) (c t n : ℕ) (e : Entry) (heard before : List Entry) → IsServed can asked c t n heard before → may_follow (heard ++ before) e ≡ true
    → IsOfCall c t n e → WasDue can reset_due asked e heard → IsServed can asked c t n (e ∷ heard) before
served_on can reset_due asked c t n e heard before v may o d =
    let J : List Entry = heard ++ before in
    let is = sent_so c t n e o in
    let m : MayFollow J e = MayFollow-of J e may in
    record {
      serves = subst (λ (x : Entry). Serves c t n (x ∷ J)) (sym is)
          (serves_on c t n e.call_no J can reset_due asked d.wish e.call e.answer v.serves (rw v.tenure v.made) (rw v.tenure d.due) (subst (λ (x : Entry). may_follow J x ≡ true) is may));
      made = made_on can reset_due asked d.wish heard e.call e.answer v.made d.due (join2 (fits_of e.call e.answer) (not (is_memory e.answer)) m.answer.fitting m.answer.heard);
      tenure = of_tenure-with t e J o.tenure ∙ ap (λ L. e ∷ L) v.tenure;
    }

served_so : (can : Caps) (reset_due : Bool) (asked : Asked) (c t n : ℕ) (heard before : List Entry) → IsQuiet c before → last_tenure before < t → IsJournalPrefix (heard ++ before)
    → WereSent can reset_due asked c t n heard → IsServed can asked c t n heard before
served_so can reset_due asked c t n [] before q above beginning sent = let o = q.is_open in record { serves = serves_first c t n before q above; made = refl; tenure = of_tenure-new t before o.beginning above }
served_so can reset_due asked c t n (e ∷ heard) before q above beginning sent =
    let p = parts2 (may_follow (heard ++ before) e) (is_journal_prefix (heard ++ before)) beginning in
    served_on can reset_due asked c t n e heard before (served_so can reset_due asked c t n heard before q above p.1 sent.0) p.0 sent.1 sent.2

pub served : (can : Caps) (reset_due : Bool) (asked : Asked) (c t n : ℕ) (heard before : List Entry) → IsLentToCall can reset_due asked c t n heard before → IsServed can asked c t n heard before
served can reset_due asked c t n heard before l = served_so can reset_due asked c t n heard before l.quiet l.above l.beginning l.sent

pub call_alone : (can : Caps) (reset_due : Bool) (asked : Asked) (c t n : ℕ) (heard before : List Entry) → IsLentToCall can reset_due asked c t n heard before → IsAlone c t (heard ++ before)
call_alone can reset_due asked c t n heard before l = let v = served can reset_due asked c t n heard before l in let s = v.serves in s.alone

pub call_tenure : (can : Caps) (reset_due : Bool) (asked : Asked) (c t n : ℕ) (heard before : List Entry) → IsLentToCall can reset_due asked c t n heard before → of_tenure t (heard ++ before) ≡ heard
call_tenure can reset_due asked c t n heard before l = let v = served can reset_due asked c t n heard before l in v.tenure

-- An entry that is due may follow.
pub call_follows : (can : Caps) (reset_due : Bool) (asked : Asked) (c t n : ℕ) (heard before : List Entry) (e : Entry) → IsLentToCall can reset_due asked c t n heard before → IsOfCall c t n e
    → WasDue can reset_due asked e heard → fits_at_its_place (heard ++ before) e ≡ true → may_follow (heard ++ before) e ≡ true
call_follows can reset_due asked c t n heard before e l o d fits =
    let v = served can reset_due asked c t n heard before l in
    let J : List Entry = heard ++ before in
    let is = sent_so c t n e o in
    subst (λ (x : Entry). may_follow J x ≡ true) (sym is)
    (may_follow-due c t n e.call_no J can reset_due asked d.wish e.call e.answer v.serves (rw v.tenure v.made) (rw v.tenure d.due) (subst (λ (x : Entry). fits_at_its_place J x ≡ true) is fits))

-- An entry that is due keeps the tenure.
pub call_keeps : (can : Caps) (reset_due : Bool) (asked : Asked) (c t n : ℕ) (heard before : List Entry) (e : Entry) → IsLentToCall can reset_due asked c t n heard before → IsOfCall c t n e
    → WasDue can reset_due asked e heard → may_follow (heard ++ before) e ≡ true → IsLentToCall can reset_due asked c t n (e ∷ heard) before
call_keeps can reset_due asked c t n heard before e l o d may =
    record { quiet = l.quiet; above = l.above; beginning = IsJournalPrefix-with e (heard ++ before) l.beginning may; sent = (l.sent, o, d) }

none_kept : (aim : Aim) (wish : Wish) (made : List Exchange) → ClosesOpenRows aim wish made → keeps_rows aim wish made ≡ false
none_kept aim wish made closes = by_handed (handed aim made) refl
  where
    by_over : (b : Bool) → rows_are_over made ≡ b → (rows_are_over made ≡ false → wish ≡ wishes.Close) → not b && keeps wish ≡ false
    by_over true is close = refl
    by_over false is close = rw (close is) refl

    by_handed : (o : Option ℕ) → handed aim made ≡ o → keeps_with wish made o ≡ false
    by_handed None is = refl
    by_handed (Some rows) is = by_over (rows_are_over made) refl (closes rows is)

-- A call that has nothing more to send, and keeps no rows open, leaves a whole tenure.
pub call_whole : (can : Caps) (reset_due : Bool) (asked : Asked) (wish : Wish) (c t n : ℕ) (heard before : List Entry) → IsLentToCall can reset_due asked c t n heard before
    → line_after can reset_due asked wish heard ≡ None → ClosesOpenRows asked.aim wish (exchanges heard) → is_whole_tenure t (heard ++ before) ≡ true
call_whole can reset_due asked wish c t n heard before l none closes =
    let v = served can reset_due asked c t n heard before l in
    done_whole c t n (heard ++ before) can reset_due asked wish v.serves (rw v.tenure v.made) (rw (v.tenure, none) refl) (rw v.tenure (none_kept asked.aim wish (exchanges heard) closes))

-- Such a call leaves a quiet connection, unless the connection is a bad one.
pub call_quiet : (can : Caps) (reset_due : Bool) (asked : Asked) (wish : Wish) (c t n : ℕ) (heard before : List Entry) → IsLentToCall can reset_due asked c t n heard before
    → line_after can reset_due asked wish heard ≡ None → ClosesOpenRows asked.aim wish (exchanges heard) → went_bad (heard ++ before) ≡ false → ends_invalid (heard ++ before) ≡ false
    → IsQuiet c (heard ++ before)
call_quiet can reset_due asked wish c t n heard before l none closes good tested =
    let v = served can reset_due asked c t n heard before l in
    quiet_served c t n (heard ++ before) can reset_due asked wish v.serves (rw v.tenure v.made) good tested (rw (v.tenure, none) refl) (rw v.tenure (none_kept asked.aim wish (exchanges heard) closes))
