-- What is under way on a connection that is lent to a transaction. It belongs to the begin, to a call in the
-- transaction, or to another call that works there.
use Rattle.std.proofs.Common.{◌≡◌, ◌≢◌, ℕ, ◌==◌, ◌⊎◌, inl, inr, Bool, true, false, List, Some, is_some, refl, sym, ap, subst, ◌∙◌}
use Rattle.dsql_laws_calls.specs.driver.declared.call.DriverCall.{DriverCall}
use Rattle.dsql_laws_calls.specs.driver.declared.call.DriverCall.TheVariants as calls
use Rattle.dsql_laws_calls.specs.course.declared.course.Wish.TheVariants as wishes
use Rattle.dsql_laws_calls.specs.journal.declared.entry.Entry.{Entry}
use Rattle.dsql_laws_calls.specs.journal.declared.entry.Owner.{Owner}
use Rattle.dsql_laws_calls.specs.journal.Kinds.{is_call, number_of}
use Rattle.dsql_laws_calls.specs.pool.declared.conn.Place.TheVariants.{Lent}
use Rattle.dsql_laws_calls.proofs.laws.Tests.{same_number}
use Rattle.dsql_laws_calls.specs.history.declared.event.Event.{Event}
use Rattle.dsql_laws_calls.specs.history.declared.work.Scope.{Scope}
use Rattle.dsql_laws_calls.specs.history.declared.work.Scope.TheVariants.{Db, Held}
use Rattle.dsql_laws_calls.specs.history.Readers.Course.{caps}
use Rattle.dsql_laws_calls.specs.history.Readers.Unfinished.{is_unfinished}
use Rattle.dsql_laws_calls.specs.history.Readers.Works.{work, scope, asks}
use Rattle.dsql_laws_calls.specs.history.Readers.Journals.{heard_in}
use Rattle.dsql_laws_calls.specs.history.Readers.Lines.{line_among}
use Rattle.dsql_laws_calls.specs.history.Readers.Pool.{place}
use Rattle.dsql_laws_calls.specs.history.Readers.Transactions.{is_begun}
use Rattle.dsql_laws_calls.specs.history.Rules.Sent.{is_reset_due}
use Rattle.dsql_laws_calls.specs.history.Rules.Line.{is_due, may_come}
use Rattle.dsql_laws_calls.specs.history.Legal.{Lawful}
use Rattle.dsql_laws_calls.proofs.Lines.{line_there}
use Rattle.dsql_laws_calls.proofs.Ends.{zero_work}
use Rattle.dsql_laws_calls.proofs.Own.{OwnWay, own_sends, own_way}
use Rattle.dsql_laws_calls.proofs.Inside.{inside, inside_uses}
use Rattle.dsql_laws_calls.proofs.Beginnings.{began_sends_none, begin_there}
use Rattle.dsql_laws_calls.proofs.BeginningsAt.{beginnings}
use Rattle.dsql_laws_calls.proofs.Sound.{Sound}
use Rattle.dsql_laws_calls.proofs.UnderWay.{InsideWay, UnderWay, clash}
use Rattle.dsql_laws_due.proofs.Holds.{TxWay, IsOther, Holds}
use Rattle.dsql_laws_due.proofs.Ways.{owner_begins}

-- Holds if the driver call is of the transaction's begin, which hasn't begun the transaction yet.
pub record BeginsWay (H : List Event) (c t : ℕ) (own : Owner) (m : ℕ) (q : DriverCall) : Type 0 where
  pub itself : number_of own ≡ m
  pub unbegun : is_begun H (number_of own) ≡ false
  pub unfinished : is_unfinished H m ≡ true
  pub due : is_due (line_there H c t own (number_of own) wishes.Nothing) q ≡ true

-- Holds if the driver call is of a call in the transaction.
pub record InnerWay (H : List Event) (c t : ℕ) (own : Owner) (m : ℕ) (q : DriverCall) : Type 0 where
  pub begun : is_begun H (number_of own) ≡ true
  pub inner : scope (work H m) ≡ Held (number_of own)
  pub unfinished : is_unfinished H m ≡ true
  pub way : InsideWay H c t own m q

-- Holds if the driver call is of another call.
pub record OtherWay (H : List Event) (c t : ℕ) (own : Owner) (m : ℕ) (q : DriverCall) : Type 0 where
  pub other : IsOther H m
  pub way : TxWay H c t own m q

abbrev pub Came : List Event → ℕ → ℕ → Owner → ℕ → DriverCall → Type 0
Came H c t own m q = BeginsWay H c t own m q ⊎ (InnerWay H c t own m q ⊎ OtherWay H c t own m q)

same_lent : (t u : ℕ) (o p : Owner) → Some (Lent t o) ≡ Some (Lent u p) → o ≡ p
same_lent t u o p h = cc

-- A driver call of a begin is due only before its transaction is begun.
begins_way : (H : List Event) (e : Entry) (own : Owner) → Lawful H → place H e.conn ≡ Some (Lent e.tenure own) → is_call own ≡ false → OwnWay H e → BeginsWay H e.conn e.tenure own e.call_no e.call
begins_way H e own l is other u = record { itself = ap number_of (sym same) ∙ u.own; unbegun = by (is_begun H (number_of own)) refl; unfinished = u.unfinished; due = due }
  where
    same : u.owner ≡ own
    same = same_lent e.tenure e.tenure u.owner own (sym u.lent ∙ is)

    due : is_due (line_there H e.conn e.tenure own (number_of own) wishes.Nothing) e.call ≡ true
    due = subst (λ o. is_due (line_there H e.conn e.tenure o (number_of o) wishes.Nothing) e.call ≡ true) same u.due

    sends : is_some (line_there H e.conn e.tenure own (number_of own) wishes.Nothing) ≡ true
    sends = subst (λ o. is_some (line_there H e.conn e.tenure o (number_of o) wishes.Nothing) ≡ true) same (own_sends H e u)

    by : (b : Bool) → is_begun H (number_of own) ≡ b → b ≡ false
    by true begun =
        let b = beginnings H l in
        let at = begin_there H e.conn e.tenure own (owner_begins H e.conn e.tenure own l is other) other in
        let none = began_sends_none (caps H) (is_reset_due H e.conn) (calls.Begin at.0 at.1) (line_among (number_of own) (heard_in H e.conn e.tenure)) (b.began e.conn e.tenure own is begun) in
        clash (sym sends ∙ (ap (λ d. is_some d) at.2 ∙ none))
    by false begun = refl

pub came : (H : List Event) (e : Entry) (own : Owner) → Lawful H → Sound H → Holds H → may_come H e ≡ true → place H e.conn ≡ Some (Lent e.tenure own) → is_call own ≡ false → Came H e.conn e.tenure own e.call_no e.call
came H e own l s h may is other = by (e.call_no == 0) refl
  where
    another : asks (work H e.call_no) ≡ false → scope (work H e.call_no) ≡ Db → Came H e.conn e.tenure own e.call_no e.call
    another a s_is = let its : IsOther H e.call_no = record { asks_none = a; outside = s_is } in inr (inr (record { other = its; way = h.coming e own may is other its }))

    within : (u : UnderWay H e) → (e.call_no == 0) ≡ false → (k : ℕ) → scope (work H e.call_no) ≡ Held k → Came H e.conn e.tenure own e.call_no e.call
    within u some k inner =
        let same = same_lent e.tenure e.tenure u.owner own (sym u.lent ∙ is) in
        let numbered : e.call_no ≢ 0 = λ none. never (e.call_no == 0) (ap (λ j. j == 0) none) some in
        let number : k ≡ number_of u.owner = sym (inside_uses H e.call_no k inner) ∙ u.borrowed numbered in
        let mine : scope (work H e.call_no) ≡ Held (number_of u.owner) = inner ∙ ap Held number in
        let i = inside H l in
        let begun : is_begun H (number_of u.owner) ≡ true = i.coming e (number_of u.owner) may mine in
        inr
        (inl (record {
          begun = subst (λ o. is_begun H (number_of o) ≡ true) same begun;
          inner = subst (λ o. scope (work H e.call_no) ≡ Held (number_of o)) same mine;
          unfinished = u.unfinished numbered;
          way = subst (λ o. InsideWay H e.conn e.tenure o e.call_no e.call) same (u.within mine);
        }))
      where
        never : (b : Bool) → b ≡ true → b ≡ false → ⊥
        never b x y = cc

    scoped : (sc : Scope) → scope (work H e.call_no) ≡ sc → (e.call_no == 0) ≡ false → asks (work H e.call_no) ≡ false → Came H e.conn e.tenure own e.call_no e.call
    scoped Db its some a = another a its
    scoped (Held k) its some a = within (s.coming e may) some k its

    asking : (b : Bool) → asks (work H e.call_no) ≡ b → (e.call_no == 0) ≡ false → Came H e.conn e.tenure own e.call_no e.call
    asking true a some = inl (begins_way H e own l is other (own_way H e l may some a))
    asking false a some = scoped (scope (work H e.call_no)) refl some a

    by : (b : Bool) → (e.call_no == 0) ≡ b → Came H e.conn e.tenure own e.call_no e.call
    by true layer = let nobody = ap (work H) (same_number e.call_no 0 layer) ∙ zero_work H in another (ap asks nobody) (ap scope nobody)
    by false some = asking (asks (work H e.call_no)) refl some
