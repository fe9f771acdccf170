-- What is known of the lines of a transaction's tenure stays true after a driver call that is due in one of
-- them.
use Rattle.std.proofs.Common.{◌≡◌, ℕ, Bool, true, false, not, if◌then◌else◌, ◌==◌, ◌&&◌, ◌||◌, inl, inr, List, [], ◌∷◌, Option, None, Some, refl, sym, ◌∙◌}
use Rattle.std.specs.List.{list_any}
use Rattle.dsql_history.specs.driver.declared.caps.Caps.{Caps}
use Rattle.dsql_history.specs.driver.declared.answer.DriverAnswer.{DriverAnswer}
use Rattle.dsql_history.specs.driver.declared.answer.DriverAnswer.TheVariants.{Cursor, Prepared}
use Rattle.dsql_history.specs.driver.declared.call.DriverCall.{DriverCall}
use Rattle.dsql_history.specs.driver.declared.call.DriverCall.TheVariants.{Next, CloseRows, CloseStmt}
use Rattle.dsql_history.specs.driver.Fits.{fits_of, is_memory}
use Rattle.dsql_history.specs.course.declared.call.Due.{Due}
use Rattle.dsql_history.specs.course.Made.{Exchange}
use Rattle.dsql_history.specs.journal.declared.entry.Entry.{Entry}
use Rattle.dsql_history.specs.journal.Readers.{of_tenure}
use Rattle.dsql_history.proofs.journal.Conjunctions.{join2}
use Rattle.dsql_history.specs.works.Exchanges.{step_of, with_exchange}
use Rattle.dsql_history.specs.works.Line.{Asked}
use Rattle.dsql_history.specs.Readers.Lines.{has_sent, is_about, line_among}
use Rattle.dsql_laws_tenures.specs.Tenures.{made_by, IsOfTransaction}
use Rattle.dsql_laws_tenures.specs.Orderly.{asks_text, gives_cursor, gives_handle, opens_once, prepares_once, OpensOnce, PreparesOnce}
use Rattle.dsql_laws_tenures.specs.Sent.{Grows, IsDue, IsSentIn, KeepsLines, WasSent}
use Rattle.dsql_laws_tenures.proofs.Numbers.{impossible, neither, same_number}
use Rattle.dsql_laws_tenures.proofs.LineSteps.{Here, line_step}
use Rattle.dsql_laws_tenures.proofs.Entries.{Newest, newest}
use Rattle.dsql_laws_tenures.proofs.Sends.{Sends, body_sends}
use Rattle.dsql_laws_tenures.proofs.SharedCursors as cursors
use Rattle.dsql_laws_tenures.proofs.SharedHandles as handles
use Rattle.dsql_laws_tenures.proofs.OrderSent.{sent_in_order, sent_opens_once, sent_prepares_once}

-- A line whose exchanges were each due stays so with a driver call that is due.
sent_on : (can : Caps) (asked : Asked) (q : DriverCall) (a : DriverAnswer) (made : List Exchange) → WasSent can asked made → IsDue can asked made q → fits_of q a && not (is_memory a) ≡ true
    → WasSent can asked (with_exchange (step_of q) a made)
sent_on can asked q a made sent due fits = by_step (step_of q) refl
  where
    by_step : (d : Option Due) → step_of q ≡ d → WasSent can asked (with_exchange d a made)
    by_step None is = sent
    by_step (Some d) is = (sent, record { call = q; answer = a; due = due; fits = fits; is = rw is refl })

none_some : (o : Option Asked) (it : Asked) → o ≡ None → o ≡ Some it → ⊥
none_some o it h k = cc

-- A driver call that is due in a line is about no other line.
no_other : (k t n m : ℕ) (bad : Bool) (q : DriverCall) (J : List Entry) → IsOfTransaction k t J → Sends (made_by n t J) bad q → is_about (made_by m t J) q ≡ true → n ≡ m
no_other k t n m bad (Next rows) J s sends about = cursors.one_line k t n m rows J s sends.0 about
no_other k t n m bad (CloseRows rows) J s sends about = cursors.one_line k t n m rows J s sends.0 about
no_other k t n m bad (CloseStmt handle) J s sends about = handles.one_line k t n m handle J s sends.0 about
no_other k t n m bad q J s sends about = absurd (impossible about)

abbrev gives : Exchange → Bool
gives x = gives_cursor x || gives_handle x

-- A driver call that is about a line gives neither a cursor nor a handle.
gives_none : (made before : List Exchange) (q : DriverCall) (a : DriverAnswer) → is_about made q ≡ true → fits_of q a ≡ true → list_any gives before ≡ false → list_any gives (with_exchange (step_of q) a before) ≡ false
gives_none made before (Next rows) (Cursor r columns) about fit none = absurd (impossible fit)
gives_none made before (Next rows) (Prepared m inputs) about fit none = absurd (impossible fit)
gives_none made before (Next rows) a about fit none = none
gives_none made before (CloseRows rows) (Cursor r columns) about fit none = absurd (impossible fit)
gives_none made before (CloseRows rows) (Prepared m inputs) about fit none = absurd (impossible fit)
gives_none made before (CloseRows rows) a about fit none = none
gives_none made before (CloseStmt handle) (Cursor r columns) about fit none = absurd (impossible fit)
gives_none made before (CloseStmt handle) (Prepared m inputs) about fit none = absurd (impossible fit)
gives_none made before (CloseStmt handle) a about fit none = none
gives_none made before q a about fit none = absurd (impossible about)

by_truth : (P : Type 0) (b c : Bool) → (b ≡ true → P) → (c ≡ true → P) → b || c ≡ true → P
by_truth P true c f g h = f refl
by_truth P false c f g h = g h

module _ (can : Caps) (asked : ℕ → Option Asked) (k t n : ℕ) (it : Asked) (e : Entry) (J : List Entry) (s : Newest k t e J) (lines : KeepsLines can asked t J) (d : IsSentIn can asked t n it e J) where
  fits : fits_of e.call e.answer && not (is_memory e.answer) ≡ true
  fits = let m = s.may in join2 (fits_of e.call e.answer) (not (is_memory e.answer)) m.answer.fitting m.answer.heard

  sends : (b : IsDue can it (made_by n t J) e.call) → Sends (made_by n t J) b.bad e.call
  sends b = body_sends can it b.bad b.wish (made_by n t J) e.call (lines.text n it d.asks) (sent_in_order can it (made_by n t J) (lines.text n it d.asks) (lines.own n it d.asks)) b.due

  -- The entry is of that one line, and otherwise only of lines of calls without a text.
  own_line : (m : ℕ) (other : Asked) → asked m ≡ Some other → Here m t e J → m ≡ n
  own_line m other is here =
      by_truth (m ≡ n) (e.call_no == m) (is_about (made_by m t J) e.call)
      (λ number. let same = same_number e.call_no m number in
      elim d.by [ inl own ↦ sym same ∙ own | inr w ↦ absurd (none_some (asked m) other (rw same at w.0) is) ])
      (λ about. let b = d.due in sym (no_other k t n m b.bad e.call J s.before (sends b) about)) here.of_line

  own_sent : (m : ℕ) (other : Asked) → asked m ≡ Some other → WasSent can other (made_by m t (e ∷ J))
  own_sent m other is =
      elim (line_step m t e J) [
        | inl w ↦ rw w.same (lines.own m other is)
        | inr w ↦
            let same = own_line m other is w in
            let one : it ≡ other = let asks = rw same at is in both (asked n) it other d.asks asks in
            rw (w.more, same, ← one) (sent_on can it e.call e.answer (made_by n t J) (lines.own n it d.asks) d.due fits)
      ]
    where
      both : (o : Option Asked) (x y : Asked) → o ≡ Some x → o ≡ Some y → x ≡ y
      both o x y h j = cc

  other_gives_none : (m : ℕ) → asked m ≡ None → list_any gives (made_by m t (e ∷ J)) ≡ false
  other_gives_none m none =
      let may = s.may in
      elim (line_step m t e J) [
        | inl w ↦ rw w.same (lines.others m none)
        | inr w ↦
            rw w.more
            (by_truth (list_any gives (with_exchange (step_of e.call) e.answer (made_by m t J)) ≡ false) (e.call_no == m) (is_about (made_by m t J) e.call)
            (λ number. let same = same_number e.call_no m number in
            elim d.by [
              | inl own ↦ absurd (none_some (asked n) it (rw (← (sym same ∙ own)) none) d.asks)
              | inr x ↦ gives_none (made_by n t J) (made_by m t J) e.call e.answer x.1 may.answer.fitting (lines.others m none)
            ])
            (λ about. gives_none (made_by m t J) (made_by m t J) e.call e.answer about may.answer.fitting (lines.others m none)) w.of_line)
      ]

  sent_lines : KeepsLines can asked t (e ∷ J)
  sent_lines = record { own = own_sent; text = lines.text; others = other_gives_none }

pub lines_sent : (can : Caps) (asked : ℕ → Option Asked) (k t n : ℕ) (it : Asked) (e : Entry) (J : List Entry) → IsOfTransaction k t (e ∷ J) → KeepsLines can asked t J → IsSentIn can asked t n it e J
    → KeepsLines can asked t (e ∷ J)
lines_sent can asked k t n it e J s lines d = sent_lines can asked k t n it e J (newest k t e J s) lines d

-- If the lines stay as they were, `KeepsLines` stays true.
same_lines : (can : Caps) (asked : ℕ → Option Asked) (t : ℕ) (J later : List Entry) → ((n : ℕ) → made_by n t later ≡ made_by n t J) → KeepsLines can asked t J → KeepsLines can asked t later
same_lines can asked t J later same lines =
    record { own = λ n it is. rw (same n) (lines.own n it is); text = lines.text; others = λ n none. rw (same n) (lines.others n none) }

pub lines_stepless : (can : Caps) (asked : ℕ → Option Asked) (t : ℕ) (e : Entry) (J : List Entry) → KeepsLines can asked t J → step_of e.call ≡ None → KeepsLines can asked t (e ∷ J)
lines_stepless can asked t e J lines none = same_lines can asked t J (e ∷ J) (λ n. elim (line_step n t e J) [ inl w ↦ w.same | inr w ↦ w.more ∙ rw none refl ]) lines

pub lines_elsewhere : (can : Caps) (asked : ℕ → Option Asked) (t : ℕ) (e : Entry) (J : List Entry) → KeepsLines can asked t J → (e.tenure == t) ≡ false → KeepsLines can asked t (e ∷ J)
lines_elsewhere can asked t e J lines off = same_lines can asked t J (e ∷ J) (λ n. rw off refl) lines

pub lines_first : (can : Caps) (asked : ℕ → Option Asked) (t : ℕ) (J : List Entry) → ((n : ℕ) (it : Asked) → asked n ≡ Some it → asks_text it.aim ≡ true) → of_tenure t J ≡ [] → KeepsLines can asked t J
lines_first can asked t J text none = record { own = λ n it is. rw none tt; text = text; others = λ n is. rw none refl }

-- The line of a call that has sent nothing is empty.
none_sent : (n : ℕ) (L : List Entry) → has_sent n L ≡ false → line_among n L ≡ []
none_sent n [] h = refl
none_sent n (e ∷ L) h =
    let both = neither (e.call_no == n) (has_sent n L) h in
    rw (none_sent n L both.1) (rw both.0 (not_about e.call))
  where
    not_about : (q : DriverCall) → (if is_about [] q then e ∷ [] else []) ≡ []
    not_about (Next rows) = refl
    not_about _ = refl

pub lines_more : (can : Caps) (asked later : ℕ → Option Asked) (t : ℕ) (J : List Entry) → KeepsLines can asked t J → Grows asked later (of_tenure t J) → KeepsLines can later t J
lines_more can asked later t J lines g = record {
  own = λ n it is. elim (g.own n it is) [ inl had ↦ lines.own n it had | inr new ↦ rw (none_sent n (of_tenure t J) new) tt ];
  text = g.text;
  others = λ n none. lines.others n (g.others n none);
}

-- If nothing was given, nothing was given twice.
none_twice : (made : List Exchange) → list_any gives made ≡ false → (opens_once made ≡ true) × (prepares_once made ≡ true)
none_twice [] h = (refl, refl)
none_twice (x ∷ made) h =
    let both = neither (gives x) (list_any gives made) h in
    let here = neither (gives_cursor x) (gives_handle x) both.0 in
    let rest = none_twice made both.1 in
    (rw (here.0, rest.0) refl, rw (here.1, rest.1) refl)

pub lines_once : (can : Caps) (asked : ℕ → Option Asked) (t : ℕ) (J : List Entry) → KeepsLines can asked t J → OpensOnce t J
lines_once can asked t J lines = record { line = λ n. by_asked n (asked n) refl }
  where
    by_asked : (n : ℕ) (o : Option Asked) → asked n ≡ o → opens_once (made_by n t J) ≡ true
    by_asked n None is = (none_twice (made_by n t J) (lines.others n is)).0
    by_asked n (Some it) is = sent_opens_once can it (made_by n t J) (lines.text n it is) (lines.own n it is)

pub lines_prepare_once : (can : Caps) (asked : ℕ → Option Asked) (t : ℕ) (J : List Entry) → KeepsLines can asked t J → PreparesOnce t J
lines_prepare_once can asked t J lines = record { line = λ n. by_asked n (asked n) refl }
  where
    by_asked : (n : ℕ) (o : Option Asked) → asked n ≡ o → prepares_once (made_by n t J) ≡ true
    by_asked n None is = (none_twice (made_by n t J) (lines.others n is)).1
    by_asked n (Some it) is = sent_prepares_once can it (made_by n t J) (lines.text n it is) (lines.own n it is)
