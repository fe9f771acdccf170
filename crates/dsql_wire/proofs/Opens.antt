-- Only a Connect by the House in tenure 1, with no call number and no transaction, opens a connection. The proof takes
-- apart what may come first in a journal.
use Rattle.std.proofs.Common.{◌≡◌, ◌≢◌, ◌↔◌, ℕ, zero, suc, Bool, true, false, ◌&&◌, ◌||◌, Option, Some, None, ◌==◌, IsTrue, List, [], ◌∷◌, refl, sym, ◌∙◌, ap, subst}
use Rattle.std.specs.Prelude.{IfSome}
use Rattle.std.proofs.lemmas.Bool.Decides.{nat_tests}
use native.Mathlib.Omega.{arith}
use Rattle.dsql_driver.specs.declared.call.DriverCall.{DriverCall}
use Rattle.dsql_driver.specs.declared.call.DriverCall.TheVariants.{Connect, Valid}
use Rattle.dsql_driver.specs.declared.answer.DriverAnswer.{DriverAnswer}
use Rattle.dsql_driver.specs.declared.answer.DriverAnswer.TheVariants.{Done, Bad, Fail}
use Rattle.dsql_driver.specs.Fits.{is_done, is_failure}
use Rattle.dsql_driver.specs.declared.wire.Refused.{Refused}
use Rattle.dsql_driver.specs.declared.wire.Refused.TheVariants as refused
use Rattle.dsql_driver.specs.Wires as wires
use Rattle.dsql_driver.specs.Wires.{WireTold, newly_told}
use Rattle.dsql_tenure_journal.specs.Readers.{handles_after, cursors_after}
use Rattle.dsql_tenure_journal.specs.declared.entry.Entry.{Entry}
use Rattle.dsql_tenure_journal.specs.declared.entry.Permit.{Permit}
use Rattle.dsql_tenure_journal.specs.declared.entry.Owner.{Owner}
use Rattle.dsql_tenure_journal.specs.declared.entry.Owner.TheVariants.{Call, Tx, Pin, House}
use Rattle.dsql_tenure_journal.specs.Kinds.{is_house}
use Rattle.dsql_driver.specs.Kinds.{is_connect}
use Rattle.dsql_tenure_journal.specs.Facts.{MayFollow}
use Rattle.dsql_tenure_journal.specs.Journal.{may_follow}
use Rattle.dsql_tenure_journal.specs.HandlesAndCursors.{fits_at_its_place}
use Rattle.dsql_tenure_journal.specs.Permits.{entry_of}
use Rattle.dsql_tenure_journal.proofs.Conjunctions.{parts2, parts5, join2}
use Rattle.dsql_tenure_journal.proofs.Sentences.{MayFollow-of}
use Rattle.dsql_tenure.specs.Beginnings.{is_beginning_of, IsBeginningOf}
use Rattle.dsql_tenure.specs.Judged.{Judged, MaySend, answered}
use Rattle.dsql_wire.specs.Told.{TellsOf}
use Rattle.dsql_wire.specs.Journaled.{MayBeSent, Agrees, has_handles, has_cursors}
use Rattle.dsql_wire.specs.Opening.{opens, refusal}
use Rattle.dsql_wire.proofs.Answered.{Makes, makes}

-- An entry that begins a journal may follow the empty journal.
first_follows : (c : ℕ) (e : Entry) → IsBeginningOf c (e ∷ []) → MayFollow [] e
first_follows c e h =
    let p : (may_follow [] e && true ≡ true) × ((e.conn == c) && true ≡ true) = parts2 (may_follow [] e && true) ((e.conn == c) && true) h in
    MayFollow-of [] e (parts2 (may_follow [] e) true p.0).0

abbrev by : (c t : ℕ) → Owner → (n x : ℕ) → DriverCall → Permit
by c t o n x call = record { conn = c; tenure = t; owner = o; call_no = n; tx = x; call = call }

-- A Connect that may come first is by the House, in tenure 1, with no call number and no transaction.
by_house : (c t : ℕ) (o : Owner) (n x : ℕ) (a : DriverAnswer) → MayFollow [] (entry_of (by c t o n x Connect) a) → opens (by c t o n x Connect) ≡ true
by_house c t (Call m) n x a f = let clash : false ≡ true = (f.tenure.in_body refl).kind in absurd cc
by_house c t (Tx m) n zero a f = grind (arith, nat_tests, f.tenure.in_body refl)
by_house c t (Tx m) n (suc x) a f =
    let some : suc x ≢ 0 = omega arith in
    let clash : false ≡ true = (f.transaction some).begin_first in
    absurd cc
by_house c t (Pin m) n zero a f = let clash : false ≡ true = f.tenure.in_body refl in absurd cc
by_house c t (Pin m) n (suc x) a f =
    let some : suc x ≢ 0 = omega arith in
    let clash : false ≡ true = (f.transaction some).begin_first in
    absurd cc
by_house c t House n x a f =
    let p : ((n == 0) ≡ true) × ((x == 0) ≡ true) = parts2 (n == 0) (x == 0) f.tenure.house_numbers in
    join2 ((t == 1) && (n == 0)) (x == 0) (join2 (t == 1) (n == 0) f.whole_journal.from_one p.0) p.1

moved : (c d : ℕ) (j k : List Entry) (p : Permit) → c ≡ d → j ≡ k → MayBeSent c j p → MayBeSent d k p
moved c d j k p conns journals may = subst (λ (i : List Entry). MayBeSent d i p) journals (subst (λ (n : ℕ). MayBeSent n j p) conns may)

sent_opens : (c t : ℕ) (o : Owner) (n x : ℕ) (call : DriverCall) → MayBeSent c [] (by c t o n x call) → opens (by c t o n x call) ≡ true
sent_opens c t o n x Connect may = by_house c t o n x Bad (first_follows c (entry_of (by c t o n x Connect) Bad) (may Bad refl))
sent_opens c t o n x Valid may =
    let f : MayFollow [] (entry_of (by c t o n x Valid) Done) = first_follows c (entry_of (by c t o n x Valid) Done) (may Done refl) in
    let clash : false ≡ true = f.whole_journal.connect_first in
    absurd cc
sent_opens c t o n x call may =
    let f : MayFollow [] (answered (by c t o n x call) Bad) = first_follows c (answered (by c t o n x call) Bad) (may Bad refl) in
    let clash : false ≡ true = f.whole_journal.connect_first in
    absurd cc

-- Such a Connect may come first, whatever answer it gets.
begins_with : (c : ℕ) (a : DriverAnswer) → fits_at_its_place [] (entry_of (by c 1 House 0 0 Connect) a) ≡ true → IsBeginningOf c (entry_of (by c 1 House 0 0 Connect) a ∷ [])
begins_with c a h =
    let e : Entry = entry_of (by c 1 House 0 0 Connect) a in
    let same : (c == c) ≡ true = grind (arith, nat_tests) in
    join2 (may_follow [] e && true) ((c == c) && true) (join2 (may_follow [] e) true h refl) (join2 (c == c) true same refl)

opens_sent : (c t : ℕ) (o : Owner) (n x : ℕ) (call : DriverCall) → opens (by c t o n x call) ≡ true → MayBeSent c [] (by c t o n x call)
opens_sent c t House n x Connect h = λ a fits.
    let p : ((t == 1) && (n == 0) ≡ true) × ((x == 0) ≡ true) = parts2 ((t == 1) && (n == 0)) (x == 0) h in
    let q : ((t == 1) ≡ true) × ((n == 0) ≡ true) = parts2 (t == 1) (n == 0) p.0 in
    let ts : t ≡ 1 = grind (arith, nat_tests, q.0) in
    let ns : n ≡ 0 = grind (arith, nat_tests, q.1) in
    let xs : x ≡ 0 = grind (arith, nat_tests, p.1) in
    let same : entry_of (by c t House n x Connect) a ≡ entry_of (by c 1 House 0 0 Connect) a = rw (ts, ns, xs) refl in
    ap (λ (e : Entry). is_beginning_of c (e ∷ [])) same ∙ begins_with c a fits
opens_sent c t House n x call h = let clash : false ≡ true = h in absurd cc
opens_sent c t o n x Connect h = let clash : false ≡ true = h in absurd cc
opens_sent c t o n x call h = let clash : false ≡ true = h in absurd cc

pub only_connects : (p : Permit) → MayBeSent p.conn [] p ↔ IsTrue (opens p)
only_connects p = ((λ may. sent_opens p.conn p.tenure p.owner p.call_no p.tx p.call may), (λ h. opens_sent p.conn p.tenure p.owner p.call_no p.tx p.call h))

-- If the judge of an empty journal allows a permit, the permit may be sent.
pub may_begin : (j : Judged) (p : Permit) (b : Bool) → j.conn ≡ p.conn → j.journal ≡ [] → IsTrue b ↔ MaySend j p → b ≡ true → MayBeSent p.conn [] p
may_begin j p b conn journal judged h = moved j.conn p.conn j.journal [] p conn journal (judged.0 h)

pub no_begin : (j : Judged) (p : Permit) (b : Bool) → j.conn ≡ p.conn → j.journal ≡ [] → IsTrue b ↔ MaySend j p → b ≡ false → MayBeSent p.conn [] p → ⊥
no_begin j p b conn journal judged h may =
    let yes_it_may : b ≡ true = judged.1 (moved p.conn j.conn [] j.journal p (sym conn) (sym journal) may) in
    let clash : true ≡ false = sym yes_it_may ∙ h in
    cc

connect_of : (call : DriverCall) → is_connect call ≡ true → call ≡ Connect
connect_of Connect h = refl
connect_of _ h = let clash : false ≡ true = h in absurd cc

-- A permit that may come first is for a Connect.
opened_by : (p : Permit) → MayBeSent p.conn [] p → p.call ≡ Connect
opened_by p may =
    connect_of p.call (parts5 (is_connect p.call) (is_house p.owner) (p.tenure == 1) (p.call_no == 0) (p.tx == 0) (sent_opens p.conn p.tenure p.owner p.call_no p.tx p.call may)).0

fits_first : (e : Entry) (a : DriverAnswer) → is_done a || is_failure a ≡ true → e.call ≡ Connect → e.answer ≡ a → fits_at_its_place [] e ≡ true
fits_first e Done h c a = rw (c, a) refl
fits_first e Bad h c a = rw (c, a) refl
fits_first e (Fail text) h c a = rw (c, a) refl
fits_first e _ h c a = let clash : false ≡ true = h in absurd cc

fits_opened : (p : Permit) (a : DriverAnswer) → MayBeSent p.conn [] p → is_done a || is_failure a ≡ true → fits_at_its_place [] (answered p a) ≡ true
fits_opened p a may h =
    let made : Makes p a (answered p a) = makes p a (answered p a) refl in
    fits_first (answered p a) a h (made.call ∙ opened_by p may) made.answer

pub fits_done : (p : Permit) → MayBeSent p.conn [] p → fits_at_its_place [] (answered p Done) ≡ true
fits_done p may = fits_opened p Done may refl

failure_of : (r : Refused) (a : DriverAnswer) → refusal r ≡ Some a → is_done a || is_failure a ≡ true
failure_of refused.Bad a h = let is : Bad ≡ a = cc in rw (← is) refl
failure_of (refused.Fail text) a h = let is : Fail text ≡ a = cc in rw (← is) refl
failure_of refused.Memory a h = absurd cc

-- The entry that a refusal makes of such a permit fits at its place.
pub fits_refused : (r : Refused) (p : Permit) (a : DriverAnswer) (e : Entry) → MayBeSent p.conn [] p → refusal r ≡ Some a → e ≡ answered p a → fits_at_its_place [] e ≡ true
fits_refused r p a e may h is = rw is (fits_opened p a may (failure_of r a h))

pub begins_done : (p : Permit) → MayBeSent p.conn [] p → IsBeginningOf p.conn (answered p Done ∷ [])
begins_done p may = may Done (fits_done p may)

told_new : (told : Option WireTold) (conn : ℕ) (e : Entry) → e.call ≡ Connect → e.answer ≡ Done → IfSome told (λ t. t ≡ newly_told conn) → IfSome told (TellsOf conn (e ∷ []))
told_new None conn e c a h = tt
told_new (Some told) conn e c a h = record { number = ap (λ (t : WireTold). t.number) h; calls = rw (c, a) (ap (λ (t : WireTold). t.calls) h) }

-- A new wire agrees with a journal that holds only its Connect.
pub agrees_new : (told : Option WireTold) (hs : List ℕ) (cs : List wires.LiveCursor) (p : Permit) → MayBeSent p.conn [] p → IfSome told (λ t. t ≡ newly_told p.conn) → Agrees told hs cs p.conn (answered p Done ∷ [])
agrees_new told hs cs p may new =
    let e : Entry = answered p Done in
    let made : Makes p Done e = makes p Done e refl in
    let c : e.call ≡ Connect = made.call ∙ opened_by p may in
    record {
      started = refl;
      tells = told_new told p.conn e c made.answer new;
      handles_live = no_handles hs e c;
      cursors_live = no_cursors cs e c;
    }
  where
    no_handles : (hs : List ℕ) (e : Entry) → e.call ≡ Connect → has_handles hs (handles_after e e.call e.answer []) ≡ true
    no_handles hs e c = rw c refl

    no_cursors : (cs : List wires.LiveCursor) (e : Entry) → e.call ≡ Connect → has_cursors cs (cursors_after e e.call e.answer []) ≡ true
    no_cursors cs e c = rw c refl
