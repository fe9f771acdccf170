-- Proves what the journal of one connection is at each place where the connection stands.
use Rattle.std.proofs.Common.{◌≡◌, ℕ, ◌==◌, Bool, true, false, ◌&&◌, List, [], ◌∷◌, cond, is_none, refl, ◌∙◌}
use Rattle.std.specs.List.{filter}
use native.Mathlib.Omega.{arith}
use Rattle.std.proofs.lemmas.Bool.Decides.{nat_tests}
use Rattle.dsql_history_work.specs.driver.Fits.{is_done}
use Rattle.dsql_history_work.specs.driver.declared.caps.Caps.{Caps}
use Rattle.dsql_history_work.specs.driver.declared.call.DriverCall.{DriverCall}
use Rattle.dsql_history_work.specs.driver.declared.call.DriverCall.TheVariants.{Connect}
use Rattle.dsql_history_work.specs.driver.declared.answer.DriverAnswer.{DriverAnswer}
use Rattle.dsql_history_work.specs.driver.declared.answer.DriverAnswer.TheVariants.{Done}
use Rattle.dsql_history_work.specs.course.declared.course.Wish.{Wish}
use Rattle.dsql_history_work.specs.journal.declared.entry.Entry.{Entry}
use Rattle.dsql_history_work.specs.journal.declared.entry.Owner.{Owner}
use Rattle.dsql_history_work.specs.journal.declared.entry.Owner.TheVariants.{House}
use Rattle.dsql_history_work.specs.journal.Kinds.{◌⇒◌, is_house}
use Rattle.dsql_history_work.specs.driver.Kinds.{is_connect}
use Rattle.dsql_history_work.specs.journal.Readers.{of_tenure, cursors, begun, begins, went_bad}
use Rattle.dsql_history_work.specs.journal.Tenure.{is_whole_tenure}
use Rattle.dsql_history_work.specs.journal.Journal.{may_follow}
use Rattle.dsql_history_work.specs.journal.Facts.{MayFollow}
use Rattle.dsql_history_work.specs.journal.Entries.{connect_entry}
use Rattle.dsql_history_work.proofs.journal.Sentences.{MayFollow-of}
use Rattle.dsql_laws_work.proofs.CallLines.{step}
use Rattle.dsql_history_work.proofs.journal.PlainJournals.{went_bad-in, is_whole_tenure-plain}
use Rattle.dsql_history_work.specs.Exchanges.{exchanges}
use Rattle.dsql_history_work.specs.Line.{Asked, line_after}
use Rattle.dsql_laws_work.proofs.KeptRows.{keeps_rows}
use Rattle.dsql_laws_work.proofs.ServedCalls.{plain_of}
use Rattle.dsql_laws_work.proofs.MadeLines.{MadeAt}
use Rattle.dsql_laws_work.proofs.Lines.{Serves, ends_bad, none_left, entry_with, same_parts}

-- Holds if the connection is being opened. Its journal is empty until its Connect is answered, and has only
-- that entry if the Connect was done.
pub record Opens (c l u : ℕ) (heard opened : Bool) (J : List Entry) : Type 0 where
  pub unlent : l ≡ 0
  pub unused : u ≡ 0
  pub fresh : heard ≡ false → J ≡ []
  pub done : opened ≡ true → J ≡ connect_entry c Done ∷ []

-- The last answer in a tenure of a connection that isn't known to be bad isn't Bad.
not_bad_in : (t : ℕ) (J : List Entry) → went_bad J ≡ false → ends_bad (of_tenure t J) ≡ false
not_bad_in t J good = by_list (of_tenure t J) (went_bad-in t J good)
  where
    by_list : (L : List Entry) → went_bad L ≡ false → ends_bad L ≡ false
    by_list [] h = refl
    by_list (e ∷ L) h = grind (arith, h)

none_more : (b : Bool) (n : ℕ) (ns : List ℕ) → cond b (n ∷ ns) ns ≡ [] → (b ≡ false) × (ns ≡ [])
none_more true n ns h = grind (arith, h)
none_more false n ns h = (refl, h)

none_with : (b : Bool) (e : Entry) (J : List Entry) → begins e ≡ false → begun J ≡ [] → begun (cond b (e ∷ J) J) ≡ []
none_with true e J not_here none = rw not_here none
none_with false e J not_here none = none

none_begun : (f : Entry → Bool) (J : List Entry) → begun J ≡ [] → begun (filter f J) ≡ []
none_begun f [] h = refl
none_begun f (e ∷ J) h =
    let p = none_more (begins e) e.tx (begun J) h in
    none_with (f e) e (filter f J) p.0 (none_begun f J p.1)

-- After a Bad each tenure is whole, if no transaction is begun: what is live doesn't count.
pub whole_when_bad : (t : ℕ) (J : List Entry) → begun J ≡ [] → went_bad J ≡ true → is_whole_tenure t J ≡ true
whole_when_bad t J none bad = rw (none_begun (λ x. x.tenure == t) J none, bad) refl

-- If nothing more is due on a connection, and no rows keep it, its tenure is whole.
pub done_whole : (c t n : ℕ) (J : List Entry) (can : Caps) (reset : Bool) (asked : Asked) (w : Wish) → Serves c t n J
    → MadeAt can asked (step (of_tenure t J)) (exchanges (of_tenure t J)) → is_none (line_after can reset asked w (of_tenure t J)) ≡ true
    → keeps_rows asked.aim w (exchanges (of_tenure t J)) ≡ false → is_whole_tenure t J ≡ true
done_whole c t n J can reset asked w v made over free = by_bad (went_bad J) refl
  where
    by_bad : (b : Bool) → went_bad J ≡ b → is_whole_tenure t J ≡ true
    by_bad true is = whole_when_bad t J v.served.none_begun is
    by_bad false is =
        let left = none_left t n can reset asked w (of_tenure t J) v.so_far made over free (not_bad_in t J is) in
        is_whole_tenure-plain c t J (plain_of c J v.served (v.open_rows ∙ left.cursors))

connect_only : (q : DriverCall) → is_connect q ≡ true → q ≡ Connect
connect_only Connect h = refl
connect_only _ h = absurd cc

house_only : (o : Owner) → is_house o ≡ true → o ≡ House
house_only House h = refl
house_only _ h = absurd cc

done_only : (a : DriverAnswer) → is_done a ≡ true → a ≡ Done
done_only Done h = refl
done_only _ h = absurd cc

house_tx : (e : Entry) → is_house e.owner ⇒ ((e.call_no == 0) && (e.tx == 0)) ≡ true → is_house e.owner ≡ true → e.tx ≡ 0
house_tx e h k = grind (arith, nat_tests)

whole_parts : (q r : DriverCall) (a b : DriverAnswer) (c : ℕ) → q ≡ r → a ≡ b → entry_with c 1 House 0 0 q a ≡ entry_with c 1 House 0 0 r b
whole_parts q r a b c call answer = cc

-- A connection that is being opened is still so after the answer to its Connect.
pub opens_heard : (c l u : ℕ) (opened : Bool) (J : List Entry) (e : Entry) → Opens c l u false opened J → may_follow J e ≡ true → e.conn ≡ c → is_connect e.call ≡ true
    → e.tenure ≡ 1 → is_house e.owner ≡ true → e.call_no ≡ 0 → Opens c l u true (is_done e.answer) (e ∷ J)
opens_heard c l u opened J e s may conn connect tenure owner number =
    let none : J ≡ [] = s.fresh refl in
    let m : MayFollow J e = MayFollow-of J e may in
    let tx : e.tx ≡ 0 = house_tx e m.tenure.house_numbers owner in
    let is : e ≡ entry_with c 1 House 0 0 e.call e.answer = same_parts e.conn c e.tenure 1 e.call_no 0 e.tx 0 e.owner House e.call e.answer conn tenure (house_only e.owner owner) number tx in
    record {
      unlent = s.unlent;
      unused = s.unused;
      fresh = λ h. absurd cc;
      done = λ h.
          let it : e ≡ connect_entry c Done = is ∙ whole_parts e.call Connect e.answer Done c (connect_only e.call connect) (done_only e.answer h) in
          rw (none, it) refl;
    }
