-- A call that a refusal fell to last works on a connection of its own, has no connection and has made no rows.
-- So it replies, or may ask again. The proof is by induction on the history.
use Rattle.std.proofs.Common.{◌≡◌, ◌≢◌, ℕ, ◌==◌, ◌⊎◌, inl, inr, Bool, true, false, not, ◌&&◌, cond, List, [], ◌∷◌, Option, Some, None, is_none, is_some, refl, sym, ap, ◌∙◌, arith}
use Rattle.std.specs.Prelude.{find, option_map}
use Rattle.std.specs.List.{list_any}
use Rattle.dsql_laws_calls.specs.journal.declared.entry.Entry.{Entry}
use Rattle.dsql_laws_calls.specs.journal.declared.entry.Owner.{Owner}
use Rattle.dsql_laws_calls.specs.journal.Kinds.{number_of}
use Rattle.dsql_laws_calls.specs.wait.Requests.{waits}
use Rattle.dsql_laws_calls.specs.pool.declared.conn.Conn.{Conn}
use Rattle.dsql_laws_calls.specs.pool.declared.conn.Place.{Place}
use Rattle.dsql_laws_calls.specs.pool.declared.conn.Place.TheVariants.{Lent, Opening}
use Rattle.dsql_laws_calls.specs.pool.declared.moves.Move.TheVariants.{OpenStart, Lend, Back, CloseStart, Gone, Fell}
use Rattle.dsql_laws_calls.specs.pool.Calls.{wants}
use Rattle.dsql_laws_calls.specs.pool.Places.{is_for}
use Rattle.dsql_laws_calls.specs.history.declared.record.Try.{Try}
use Rattle.dsql_laws_calls.specs.history.declared.record.Try.TheVariants.{Served, Refused}
use Rattle.dsql_laws_calls.specs.history.Readers.Pool.{is_home, smallest, place, pool}
use Rattle.dsql_laws_calls.specs.history.Readers.Tries.{asks_again, has_a_try, lost, with_try, loses, newest_answer, tries}
use Rattle.dsql_laws_calls.proofs.laws.Places.{neither}
use Rattle.dsql_laws_calls.proofs.laws.Tests.{same_itself, same_number, together}
use Rattle.dsql_laws_calls.proofs.laws.Wanted.{wanted}
use Rattle.dsql_laws_calls.proofs.Cases.{true_false}
use Rattle.dsql_laws_calls.specs.history.declared.event.Event.{Event}
use Rattle.dsql_laws_calls.specs.history.declared.event.Event.TheVariants.{Heard, Pool}
use Rattle.dsql_laws_calls.specs.history.Readers.Calls.{reply_due}
use Rattle.dsql_laws_calls.specs.history.Readers.HandedOut.{handed_out, rows_by}
use Rattle.dsql_laws_calls.specs.history.Readers.Unfinished.{is_unfinished}
use Rattle.dsql_laws_calls.specs.history.Readers.Works.{asks, work}
use Rattle.dsql_laws_calls.specs.history.Rules.Asking.{may_ask, may_try}
use Rattle.dsql_laws_calls.specs.history.Legal.{Lawful}
use Rattle.dsql_laws_calls.proofs.laws.Tried.{lends_to}
use Rattle.dsql_laws_calls.proofs.laws.Wanting.{wanting_works}
use Rattle.dsql_laws_callers.proofs.Numbered.{found_there, numbered}
use Rattle.dsql_laws_callers.proofs.Works.{asks_still}
use Rattle.dsql_laws_calls.proofs.BeginningsAt.{is_answer}
use Rattle.dsql_laws_calls.proofs.Coming.{sound}
use Rattle.dsql_laws_calls.proofs.Lent.{lent_before, Lends}
use Rattle.dsql_laws_calls.proofs.Looks.{comes, heard_there}
use Rattle.dsql_laws_calls.proofs.Makers.{hands_out, some_heard}
use Rattle.dsql_laws_calls.proofs.Own.{asks_own}
use Rattle.dsql_laws_calls.proofs.RowsNew.{content, were_made}
use Rattle.dsql_laws_calls.proofs.Untried.{fallen_wanted}
use Rattle.dsql_laws_calls.proofs.Wanted.{lent_wants_none}

-- Is true if a refusal fell to the call, and nothing has happened to it since.
abbrev was_refused : List Try → Bool
was_refused (Refused answer ∷ earlier) = true
was_refused tries = false

pub record Refusal (H : List Event) (n : ℕ) : Type 0 where
  pub asking : asks (work H n) ≡ true
  pub unlent : (c t : ℕ) (owner : Owner) → place H c ≡ Some (Lent t owner) → number_of owner ≢ n
  pub rowless : rows_by H n ≡ None

never_some : {X : Type 0} (o : Option X) → (is_some o ≡ true → ⊥) → o ≡ None
never_some None never = refl
never_some (Some x) never = absurd (never refl)

none_some : {X : Type 0} (o : Option X) → o ≡ None → is_some o ≡ true → ⊥
none_some None none some = cc
none_some (Some x) none some = cc

-- This stays so unless a connection is lent to the call or the call hears an answer.
quietly : (H : List Event) (e : Event) (n : ℕ) → Lawful (e ∷ H) → is_answer e ≡ false → ((c t : ℕ) (owner : Owner) → Lends e c t owner → number_of owner ≢ n) → Refusal H n → Refusal (e ∷ H) n
quietly H e n l quiet other r =
    record {
      asking = asks_still H e n r.asking;
      unlent = λ c t owner is. by c t owner (lent_before H e c t owner l.0 is);
      rowless = never_some (rows_by (e ∷ H) n) (λ some. none_some (rows_by H n) r.rowless (were_made H e n quiet some));
    }
  where
    by : (c t : ℕ) (owner : Owner) → (place H c ≡ Some (Lent t owner)) ⊎ Lends e c t owner → number_of owner ≢ n
    by c t owner (inl before) = r.unlent c t owner before
    by c t owner (inr lends) = other c t owner lends

still : (H : List Event) (e : Event) (n : ℕ) → Lawful (e ∷ H) → is_answer e ≡ false → ((c t k : ℕ) (owner : Owner) → e ≡ Pool (Lend c t owner k) → ⊥) → Refusal H n → Refusal (e ∷ H) n
still H e n l quiet lends = quietly H e n l quiet (λ c t owner now. absurd (lends c t now.0 owner now.1))

-- This stays so over an answer, since a call that hears one has a connection.
heard_so : (H : List Event) (e : Entry) (n : ℕ) → Lawful (Heard e ∷ H) → n ≢ 0 → Refusal H n → Refusal (Heard e ∷ H) n
heard_so H e n l some r =
    record {
      asking = r.asking;
      unlent = r.unlent;
      rowless = never_some (rows_by (Heard e ∷ H) n) (λ made. by (some_heard H (work H e.call_no) e.call_no e.call e.answer n (handed_out H) made));
    }
  where
    by : (is_some (rows_by H n) ≡ true) ⊎ ((n ≡ e.call_no) × (hands_out (work H e.call_no) ≡ true)) → ⊥
    by (inl were) = none_some (rows_by H n) r.rowless were
    by (inr now) =
        let there = heard_there H e l.1 in
        let numbered_so : (e.call_no == 0) ≡ false = other (e.call_no == 0) (λ zero. some (now.0 ∙ same_number e.call_no 0 zero)) in
        let s = sound H l.0 in
        let u = s.coming e (comes H e (place H e.conn) there.sets there.line numbered_so) in
        let own : asks (work H e.call_no) ≡ true = ap (λ j. asks (work H j)) (sym now.0) ∙ r.asking in
        r.unlent e.conn e.tenure u.owner u.lent (sym (u.borrowed (λ zero. some (now.0 ∙ zero))) ∙ (asks_own H e.call_no own ∙ sym now.0))
      where
        other : (b : Bool) → (b ≡ true → ⊥) → b ≡ false
        other true never = absurd (never refl)
        other false never = refl

-- A refusal falls to a call that wants a connection, so the call has none and has made no rows.
falls_so : (H : List Event) (c n : ℕ) → Lawful (Pool (Fell c n) ∷ H) → n ≢ 0 → Refusal (Pool (Fell c n) ∷ H) n
falls_so H c n l some =
    let wanting = fallen_wanted H c n l.1 some in
    let none : wanted n (pool H) ≡ 0 → ⊥ = λ zero. absurd (omega (arith, wanting, zero)) in
    record {
      asking = wanting_works H n l.0 some wanting;
      unlent = λ d t owner is. by d t owner none (lent_before H (Pool (Fell c n)) d t owner l.0 is);
      rowless = never_some (rows_by H n) (λ made. none (content H n l.0 some made));
    }
  where
    by : (d t : ℕ) (owner : Owner) → (wanted n (pool H) ≡ 0 → ⊥) → (place H d ≡ Some (Lent t owner)) ⊎ Lends (Pool (Fell c n)) d t owner → number_of owner ≢ n
    by d t owner none (inl before) same = none (ap (λ j. wanted j (pool H)) (sym same) ∙ lent_wants_none H d t owner l.0 before)
    by d t owner none (inr lends) same = let clash = lends.1 in cc

refused_still : (b : Bool) (tried : List Try) → was_refused (cond b (lost tried) tried) ≡ true → was_refused tried ≡ true
refused_still true (Served ∷ earlier) h = absurd cc
refused_still _ _ h = h

pub refusal : (H : List Event) (n : ℕ) → Lawful H → n ≢ 0 → was_refused (tries H n) ≡ true → Refusal H n
refusal [] n l some now = absurd cc
refusal (Heard e ∷ H) n l some now = heard_so H e n l some (refusal H n l.0 some (refused_still ((e.call_no == n) && loses (work H n) e) (tries H n) now))
refusal (Pool (Lend c t owner m) ∷ H) n l some now = by (refusal H n l.0 some) (m == n) refl now
  where
    others : (m == n) ≡ false → (d u : ℕ) (own : Owner) → Lends (Pool (Lend c t owner m)) d u own → number_of own ≢ n
    others other d u own lends same =
        let its : owner ≡ own = let is = lends.1 in cc in
        true_false (m == n) (ap (λ k. k == n) (lends_to H c t owner m l.1 ∙ (ap number_of its ∙ same)) ∙ same_itself n) other

    by : (was_refused (tries H n) ≡ true → Refusal H n) → (b : Bool) → (m == n) ≡ b → was_refused (with_try b Served (tries H n)) ≡ true → Refusal (Pool (Lend c t owner m) ∷ H) n
    by earlier true its k = absurd cc
    by earlier false other k = quietly H (Pool (Lend c t owner m)) n l refl (others other) (earlier k)
refusal (Pool (Fell c m) ∷ H) n l some now = by (refusal H n l.0 some) (m == n) refl now
  where
    by : (was_refused (tries H n) ≡ true → Refusal H n) → (b : Bool) → (m == n) ≡ b → was_refused (with_try b (Refused (newest_answer H)) (tries H n)) ≡ true → Refusal (Pool (Fell c m) ∷ H) n
    by earlier true its k = let same = same_number m n its in rw same (falls_so H c n (rw same at l) some)
    by earlier false other k = still H (Pool (Fell c m)) n l refl (λ d t j owner is. cc) (earlier k)
refusal (Pool (OpenStart c m) ∷ H) n l some now = still H (Pool (OpenStart c m)) n l refl (λ d t j owner is. cc) (refusal H n l.0 some now)
refusal (Pool (Back c) ∷ H) n l some now = still H (Pool (Back c)) n l refl (λ d t j owner is. cc) (refusal H n l.0 some now)
refusal (Pool (CloseStart c why) ∷ H) n l some now = still H (Pool (CloseStart c why)) n l refl (λ d t j owner is. cc) (refusal H n l.0 some now)
refusal (Pool (Gone c) ∷ H) n l some now = still H (Pool (Gone c)) n l refl (λ d t j owner is. cc) (refusal H n l.0 some now)
refusal (e ∷ H) n l some now = still H e n l refl (λ d t j owner is. cc) (refusal H n l.0 some now)

-- So the call may ask again, if it doesn't want a connection yet and its reply isn't settled.

record LentTo (n : ℕ) (p : Place) : Type 0 where
  tenure : ℕ
  owner : Owner
  is : p ≡ Lent tenure owner
  own : number_of owner ≡ n

lent_to : (n : ℕ) (p : Place) → is_for n p ≡ false → is_home n p ≡ true → LentTo n p
lent_to n (Lent t o) unwanted here = record { tenure = t; owner = o; is = refl; own = same_number (number_of o) n here }
lent_to n (Opening (Some o)) unwanted here = absurd (true_false (number_of o == n) here unwanted)
lent_to n (Opening None) unwanted here = absurd cc
lent_to n _ unwanted here = absurd cc

found_lent : (n : ℕ) (conns : List Conn) (x : Conn) → list_any (λ y. is_for n y.place) conns ≡ false → find (λ y. is_home n y.place) conns ≡ Some x → LentTo n x.place
found_lent n [] x unwanted is = absurd cc
found_lent n (y ∷ ys) x unwanted is =
    let b = neither (is_for n y.place) (list_any (λ z. is_for n z.place) ys) unwanted in by b.0 (found_lent n ys x b.1) (is_home n y.place) refl is
  where
    by : is_for n y.place ≡ false → (find (λ z. is_home n z.place) ys ≡ Some x → LentTo n x.place) → (b : Bool) → is_home n y.place ≡ b → cond b (Some y) (find (λ z. is_home n z.place) ys) ≡ Some x → LentTo n x.place
    by other rest true here same = let it : y ≡ x = cc in lent_to n x.place (ap (λ (z : Conn). is_for n z.place) (sym it) ∙ other) (ap (λ (z : Conn). is_home n z.place) (sym it) ∙ here)
    by other rest false here same = rest same

homeless : (H : List Event) (n : ℕ) → Refusal H n → wants n (pool H) ≡ false → smallest (is_home n) (pool H) ≡ None
homeless H n r unwanting = by (find (λ y. is_home n y.place) (pool H).conns) refl
  where
    by : (o : Option Conn) → find (λ y. is_home n y.place) (pool H).conns ≡ o → smallest (is_home n) (pool H) ≡ None
    by None is = ap (option_map (λ (y : Conn). y.number)) is
    by (Some x) is =
        let b = neither (waits n (pool H).waiting) (list_any (λ y. is_for n y.place) (pool H).conns) unwanting in
        let lent = found_lent n (pool H).conns x b.1 is in
        let found = found_there (λ y. is_home n y.place) 0 (pool H).opened (pool H).conns x (numbered H) is in
        let there : place H x.number ≡ Some (Lent lent.tenure lent.owner) = ap (option_map (λ (y : Conn). y.place)) found.there ∙ ap Some lent.is in
        absurd (r.unlent x.number lent.tenure lent.owner there lent.own)

again_refused : (tried : List Try) → asks_again tried ≡ true → (was_refused tried ≡ true) × (has_a_try tried ≡ true)
again_refused (Refused answer ∷ earlier) h = (refl, h)
again_refused [] h = absurd cc
again_refused (_ ∷ earlier) h = absurd cc

pub may_ask_again : (H : List Event) (n : ℕ) → Lawful H → n ≢ 0 → is_unfinished H n ≡ true → asks_again (tries H n) ≡ true → wants n (pool H) ≡ false → reply_due H n ≡ None → may_ask H n ≡ true
may_ask_again H n l some u again unwanting undue =
    let a = again_refused (tries H n) again in
    let r = refusal H n l some a.0 in
    together (is_unfinished H n) _ u
    (together (asks (work H n)) _ r.asking
    (together (may_try H n) _
    (together (has_a_try (tries H n)) _ a.1 (together (is_none (smallest (is_home n) (pool H))) _ (ap (λ o. is_none o) (homeless H n r unwanting)) (ap (λ o. is_none o) r.rowless)))
    (together (not (wants n (pool H))) _ (ap not unwanting) (ap (λ o. is_none o) undue))))
