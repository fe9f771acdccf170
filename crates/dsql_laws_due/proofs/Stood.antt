-- After each event, what was heard on each connection fits the connection's place.
use Rattle.std.proofs.Common.{◌≡◌, ◌≢◌, ℕ, ◌+◌, ◌==◌, true, false, not, ◌&&◌, ◌||◌, cond, List, [], ◌∷◌, Option, Some, None, is_some, refl, sym, ap, subst, ◌∙◌, arith}
use Rattle.std.proofs.lemmas.Bool.{or_parts}
use Rattle.dsql_laws_calls.specs.driver.Fits.{is_done}
use Rattle.dsql_laws_calls.specs.driver.Kinds.{is_connect}
use Rattle.dsql_laws_calls.specs.course.declared.course.Wish.{Wish}
use Rattle.dsql_laws_calls.specs.journal.declared.entry.Entry.{Entry}
use Rattle.dsql_laws_calls.specs.journal.declared.entry.Owner.{Owner}
use Rattle.dsql_laws_calls.specs.journal.declared.entry.Owner.TheVariants.{Call, Tx, Pin, House}
use Rattle.dsql_laws_calls.specs.journal.Kinds.{is_call, is_house, number_of}
use Rattle.dsql_laws_calls.specs.journal.Readers.{went_bad}
use Rattle.dsql_laws_calls.specs.pool.declared.conn.Conn.{Conn}
use Rattle.dsql_laws_calls.specs.pool.declared.conn.Place.{Place}
use Rattle.dsql_laws_calls.specs.pool.declared.conn.Place.TheVariants.{Idle, Lent, Opening, Closing}
use Rattle.dsql_laws_calls.specs.pool.declared.moves.CloseCause.{CloseCause}
use Rattle.dsql_laws_calls.specs.pool.declared.moves.Move.{Move}
use Rattle.dsql_laws_calls.specs.pool.declared.moves.Move.TheVariants.{OpenStart, Lend, Back, CloseStart, Gone, Fell}
use Rattle.dsql_laws_calls.specs.pool.Changes.{lent, back, closing, conn_changed, gone}
use Rattle.dsql_laws_calls.specs.pool.Moved.{begun, shut}
use Rattle.dsql_laws_calls.specs.pool.Places.{conn_of, place_of, lends_of, is_opening, is_closing}
use Rattle.dsql_laws_calls.specs.pool.Pooled.{next_number, next_tenure, place_at}
use Rattle.dsql_laws_calls.specs.works.Journals.{ends_invalid}
use Rattle.dsql_laws_calls.proofs.laws_work.Rows.{by_number, not_true}
use Rattle.dsql_laws_calls.proofs.laws_work.Standing.{Opens, opens_heard}
use Rattle.dsql_laws_calls.specs.history.declared.event.Control.TheVariants.{Tick, Set}
use Rattle.dsql_laws_calls.proofs.laws.Tests.{both, same_number, same_itself, other_number}
use Rattle.dsql_laws_calls.proofs.Cases.{control_conns}
use Rattle.dsql_laws_calls.proofs.Found.{place_in, lends_in, uses_in, changed_place, changed_lends, lends_more, changed_off, gone_at, gone_off, begun_at, begun_off, shut_found}
use Rattle.dsql_laws_calls.specs.history.declared.event.Event.{Event}
use Rattle.dsql_laws_calls.specs.history.declared.event.Event.TheVariants.{Entered, Heard, Pool, Ticked, SetLimit, Ended}
use Rattle.dsql_laws_calls.specs.history.declared.event.Op.TheVariants.{DbClose}
use Rattle.dsql_laws_calls.specs.history.declared.work.Work.{Work}
use Rattle.dsql_laws_calls.specs.history.declared.work.Work.TheVariants as works_of
use Rattle.dsql_laws_calls.specs.history.Readers.Course.{caps}
use Rattle.dsql_laws_calls.specs.history.Readers.Journals.{heard_in, journal}
use Rattle.dsql_laws_calls.specs.history.Readers.Owed.{owed}
use Rattle.dsql_laws_calls.specs.history.Readers.Pool.{pool, place, uses, wanted_by}
use Rattle.dsql_laws_calls.specs.history.Readers.Works.{owner_as, work}
use Rattle.dsql_laws_calls.specs.history.Rules.Journals.{leaves_whole}
use Rattle.dsql_laws_calls.specs.history.Rules.Line.{is_due, is_used, leaves_from}
use Rattle.dsql_laws_calls.specs.history.Rules.Moves.{hears_in, is_house_entry}
use Rattle.dsql_laws_calls.specs.history.Rules.Order.{follows}
use Rattle.dsql_laws_calls.specs.history.Rules.Sent.{asked_by, is_reset_due}
use Rattle.dsql_laws_calls.specs.history.Legal.{Allowed, Lawful}
use Rattle.dsql_laws_calls.proofs.laws.AtRest.{keeps_of}
use Rattle.dsql_laws_tenures.proofs.Alone.{alone_on}
use Rattle.dsql_laws_tenures.proofs.TenureQuiet.{alone_first}
use Rattle.dsql_laws_tenures.proofs.TenureStanding.{Rests, works_first, works_heard, rests_again, rests_ended}
use Rattle.dsql_laws_calls.proofs.BeginningsAt.{heard_tenure}
use Rattle.dsql_laws_calls.proofs.Born.{born}
use Rattle.dsql_laws_calls.proofs.CallTenures.{call_line, plain_due}
use Rattle.dsql_laws_calls.proofs.Coming.{sound}
use Rattle.dsql_laws_calls.proofs.Lent.{back_line, move_facts}
use Rattle.dsql_laws_calls.proofs.LineParts.{heard_follows}
use Rattle.dsql_laws_calls.proofs.Looks.{heard_there as hears}
use Rattle.dsql_laws_calls.proofs.Owners.{owner_is_of, same_owner_is}
use Rattle.dsql_laws_calls.proofs.Plain.{line_plain}
use Rattle.dsql_laws_calls.proofs.Sound.{was_under_way}
use Rattle.dsql_laws_calls.proofs.Spared.{was_heard, was_opened, opened_when, moves, unpressed}
use Rattle.dsql_laws_calls.proofs.Tenures.{there_any, there_from}
use Rattle.dsql_laws_calls.proofs.UnderWay.{UnderWay}
use Rattle.dsql_laws_calls.proofs.Unspoilt.{Fine, fine, there_lent}
use Rattle.dsql_laws_due.proofs.CallRows.{finished}
use Rattle.dsql_laws_due.proofs.Owned.{heard_owner, of_transaction}
use Rattle.dsql_laws_due.proofs.Standing as standing
use Rattle.dsql_laws_due.proofs.Standing.{LentTo, Stands, StandsIn, lends, stands_found, untouched, let_be, rests_from, rests_back, lent_to, opening_opens}

follows_of : (H : List Event) (e : Event) → Allowed H e → follows (owed H) e ≡ true
follows_of H e a = let k = keeps_of H e a in k.order

-- An event that neither moves a connection nor is an answer on it leaves it as it stands.
stands_quiet : (H : List Event) (e : Event) → Allowed H e → ((d : ℕ) → StandsIn H d) → ((d : ℕ) → moves d e ≡ false) → ((d : ℕ) → conn_of d (pool (e ∷ H)).conns ≡ conn_of d (pool H).conns) → (d : ℕ)
    → Stands d (lends (e ∷ H) d) (uses (e ∷ H) d) false false (journal H d) (place (e ∷ H) d)
stands_quiet H e a s still same d = untouched H e d (conn_of d (pool (e ∷ H)).conns) (journal H d) (s d) (follows_of H e a) (still d) (same d) refl

stands_closed : (H : List Event) (e : Event) → Allowed H e → ((d : ℕ) → StandsIn H d) → ((d : ℕ) → moves d e ≡ false) → (d : ℕ)
    → Stands d (lends_of d (shut (pool H)).conns) (uses_in (conn_of d (shut (pool H)).conns)) false false (journal H d) (place_at (shut (pool H)) d)
stands_closed H e a s still d = let_be H e d (conn_of d (shut (pool H)).conns) (s d) (follows_of H e a) (still d) (shut_found d (pool H))

-- A move of one connection leaves the others as they stand.
stands_beside : (H : List Event) (m : Move) (d : ℕ) (found : Option Conn) → Allowed H (Pool m) → ((d : ℕ) → StandsIn H d) → moves d (Pool m) ≡ false → found ≡ conn_of d (pool H).conns
    → Stands d (lends_in found) (uses_in found) false false (journal H d) (place_in found)
stands_beside H m d found a s still is = untouched H (Pool m) d found (journal H d) (s d) (follows_of H (Pool m) a) still is refl

turned : (c d : ℕ) → d ≢ c → (c == d) ≡ false
turned c d apart = other_number c d (λ same. apart (sym same))

stands_open : (H : List Event) (c n : ℕ) → Lawful H → Allowed H (Pool (OpenStart c n)) → ((d : ℕ) → StandsIn H d) → (d : ℕ) → StandsIn (Pool (OpenStart c n) ∷ H) d
stands_open H c n l a s d =
    by_number (next_number (pool H)) d (StandsIn (Pool (OpenStart c n) ∷ H))
    (let b = born H l in
    let none = b.none (next_number (pool H)) (omega arith) in
    let is = begun_at (wanted_by H n) (pool H) none in
    stands_found (next_number (pool H)) 0 0 false false [] (journal H (next_number (pool H))) (Some (Opening (wanted_by H n))) (conn_of (next_number (pool H)) (begun (wanted_by H n) (pool H)).conns)
    (ap lends_in is) (ap uses_in is) (b.silent (next_number (pool H)) (omega arith)) (ap place_in is)
    (record { unlent = refl; unused = refl; fresh = λ h. refl; done = λ h. absurd cc }))
    (λ apart. stands_beside H (OpenStart c n) d (conn_of d (begun (wanted_by H n) (pool H)).conns) a s refl (begun_off d (wanted_by H n) (pool H) apart))

-- A connection at rest can be lent to a call or to a transaction.
lent_first : (c l t : ℕ) (J : List Entry) (owner : Owner) (w : Work) → owner ≡ owner_as w (number_of owner) → Rests c l J → t ≡ l + 2 → LentTo c (l + 1) t owner J
lent_first c l t J (Call n) w is rests tenure = works_first c l t n J rests tenure
lent_first c l t J (Tx k) w is rests tenure = (omega (arith, tenure), alone_first c t J rests.quiet (omega (arith, rests.below, tenure)))
lent_first c l t J (Pin n) w is rests tenure = absurd (by w is)
  where
    by : (v : Work) → Pin n ≡ owner_as v n → ⊥
    by (works_of.Begin label level read_only) h = cc
    by v h = cc
lent_first c l t J House w is rests tenure = absurd (by w is)
  where
    by : (v : Work) → House ≡ owner_as v 0 → ⊥
    by (works_of.Begin label level read_only) h = cc
    by v h = cc

stands_lend : (H : List Event) (c t : ℕ) (o : Owner) (n : ℕ) → Lawful (Pool (Lend c t o n) ∷ H) → ((d : ℕ) → StandsIn H d) → (d : ℕ) → StandsIn (Pool (Lend c t o n) ∷ H) d
stands_lend H c t o n l s d =
    by_number c d (StandsIn (Pool (Lend c t o n) ∷ H))
    (let f = move_facts H (Lend c t o n) l.1 in
    let numbers = both (t == next_tenure (pool H) c) (n == number_of o) f.numbers in
    let tenure : t ≡ lends H c + 2 = same_number t (next_tenure (pool H) c) numbers.0 in
    let there = there_from (place H c) f.moves in
    let rests = rests_from c (lends H c) (uses H c) (was_heard c H) (was_opened c H) (journal H c) (place H c) (s c) f.moves (opened_when H c (Lend c t o n) l.0 (keeps_of H (Pool (Lend c t o n)) l.1) (same_itself c)) in
    let placed = changed_place c (lent t o (pool H).moment) (Lent t o) (pool H).conns (λ x. refl) (λ x. refl) there in
    let found = conn_of c (conn_changed c (lent t o (pool H).moment) (pool H).conns) in
    let owner = owner_is_of (Pool (Lend c t o n) ∷ H) c t o l placed in
    stands_found c (lends H c + 1) (uses_in found) false false (journal H c) (journal H c) (Some (Lent t o)) found (lends_more c t o (pool H).moment (pool H).conns there) refl refl placed
    (lent_first c (lends H c) t (journal H c) o (work H (number_of o)) owner.1 rests tenure))
    (λ apart.
    stands_beside H (Lend c t o n) d (conn_of d (conn_changed c (lent t o (pool H).moment) (pool H).conns)) l.1 s (turned c d apart) (changed_off c d (lent t o (pool H).moment) (pool H).conns (λ x. refl) apart))

-- A connection that comes back to be kept went well, and its tenure is whole.

unspoilt : (H : List Event) (c t : ℕ) (own : Owner) → Lawful (Pool (Back c) ∷ H) → place H c ≡ Some (Lent t own) → (went_bad (journal H c) ≡ false) × (ends_invalid (journal H c) ≡ false)
unspoilt H c t own l is =
    let placed = changed_place c (back (pool H).moment) Idle (pool H).conns (λ x. refl) (λ x. refl) (ap (λ p. is_some p) is) in
    or_parts (went_bad (journal H c)) (ends_invalid (journal H c)) (subst (λ p. Fine false false (journal H c) p) placed (fine (Pool (Back c) ∷ H) l c))

back_whole : (H : List Event) (c : ℕ) → Allowed H (Pool (Back c)) → leaves_whole H c (place H c) ≡ true
unfolding Allowed
back_whole H c a = a.journals

close_whole : (H : List Event) (c : ℕ) (why : CloseCause) → Allowed H (Pool (CloseStart c why)) → leaves_whole H c (place H c) ≡ true
unfolding Allowed
close_whole H c why a = a.journals

unused : (H : List Event) (c t : ℕ) (own : Owner) → place H c ≡ Some (Lent t own) → leaves_from H (place H c) ≡ true → is_used H (number_of own) ≡ false
unused H c t own is h =
    let a = both (not (is_house own)) (not (is_used H (number_of own))) (ap (leaves_from H) (sym is) ∙ h) in
    not_true (is_used H (number_of own)) a.1

rests_lent : (H : List Event) (c t : ℕ) (own : Owner) → Lawful (Pool (Back c) ∷ H) → place H c ≡ Some (Lent t own) → LentTo c (lends H c) t own (journal H c) → Rests c (lends H c) (journal H c)
rests_lent H c t (Call n) l is works =
    let good = unspoilt H c t (Call n) l is in
    let s = sound H l.0 in
    let f = s.facts in
    let done = finished H c t (Call n) l.0 is refl (unused H c t (Call n) is (back_line H c l.1)) in
    rests_again c (lends H c) t n (journal H c) (caps H) (is_reset_due H c) (asked_by H n) done.wish works (f.made c t (Call n) is refl) good.0 good.1 done.none done.free
rests_lent H c t (Tx k) l is alone =
    let good = unspoilt H c t (Tx k) l is in
    rests_ended c (lends H c) k t (journal H c) alone.1 alone.0 (of_transaction H c t (Tx k) l.0 is refl) (ap (leaves_whole H c) (sym is) ∙ back_whole H c l.1) good.0 good.1
rests_lent H c t (Pin n) l is none = absurd none
rests_lent H c t House l is none = absurd none

stands_back : (H : List Event) (c : ℕ) → Lawful (Pool (Back c) ∷ H) → ((d : ℕ) → StandsIn H d) → (d : ℕ) → StandsIn (Pool (Back c) ∷ H) d
stands_back H c l s d =
    by_number c d (StandsIn (Pool (Back c) ∷ H))
    (let f = move_facts H (Back c) l.1 in
    let found = conn_of c (conn_changed c (back (pool H).moment) (pool H).conns) in
    let rests = rests_back c (lends H c) (uses H c) (was_heard c H) (was_opened c H) (journal H c) (place H c) (s c) f.moves (opened_when H c (Back c) l.0 (keeps_of H (Pool (Back c)) l.1) (same_itself c)) (λ t own is. rests_lent H c t own l is (lent_to H c t own (s c) is)) in
    stands_found c (lends H c) (uses_in found) false false (journal H c) (journal H c) (Some Idle) found (changed_lends c (back (pool H).moment) (pool H).conns (λ x. refl) (λ x. refl)) refl refl
    (changed_place c (back (pool H).moment) Idle (pool H).conns (λ x. refl) (λ x. refl) (there_lent (place H c) f.moves)) rests)
    (λ apart. stands_beside H (Back c) d (conn_of d (conn_changed c (back (pool H).moment) (pool H).conns)) l.1 s (turned c d apart) (changed_off c d (back (pool H).moment) (pool H).conns (λ x. refl) apart))

stands_close : (H : List Event) (c : ℕ) (why : CloseCause) → Lawful H → Allowed H (Pool (CloseStart c why)) → ((d : ℕ) → StandsIn H d) → (d : ℕ) → StandsIn (Pool (CloseStart c why) ∷ H) d
stands_close H c why l a s d =
    by_number c d (StandsIn (Pool (CloseStart c why) ∷ H))
    (let f = move_facts H (CloseStart c why) a in
    let found = conn_of c (conn_changed c closing (pool H).conns) in
    let leaves = standing.leaves_from c (lends H c) (uses H c) (was_heard c H) (was_opened c H) (journal H c) (place H c) (s c) f.moves (opened_when H c (CloseStart c why) l (keeps_of H (Pool (CloseStart c why)) a) (same_itself c)) (λ t owner is. ap (leaves_whole H c) (sym is) ∙ close_whole H c why a) in
    stands_found c (lends H c) (uses_in found) false false (journal H c) (journal H c) (Some Closing) found (changed_lends c closing (pool H).conns (λ x. refl) (λ x. refl)) refl refl
    (changed_place c closing Closing (pool H).conns (λ x. refl) (λ x. refl) (there_any (place H c) f.moves)) (λ h. leaves))
    (λ apart. stands_beside H (CloseStart c why) d (conn_of d (conn_changed c closing (pool H).conns)) a s (turned c d apart) (changed_off c d closing (pool H).conns (λ x. refl) apart))

stands_out : (H : List Event) (m : Move) (c : ℕ) → Allowed H (Pool m) → ((d : ℕ) → StandsIn H d) → ((d : ℕ) → d ≢ c → moves d (Pool m) ≡ false) → (d : ℕ)
    → Stands d (lends_of d (gone c (pool H).conns)) (uses_in (conn_of d (gone c (pool H).conns))) false false (journal H d) (place_of d (gone c (pool H).conns))
stands_out H m c a s still d =
    by_number c d (λ e. Stands e (lends_of e (gone c (pool H).conns)) (uses_in (conn_of e (gone c (pool H).conns))) false false (journal H e) (place_of e (gone c (pool H).conns)))
    (subst (λ found. Stands c (lends_in found) (uses_in found) false false (journal H c) (place_in found)) (sym (gone_at c (pool H).conns)) tt)
    (λ apart. stands_beside H m d (conn_of d (gone c (pool H).conns)) a s (still d apart) (gone_off c d (pool H).conns apart))

stands_move : (H : List Event) (m : Move) → Lawful (Pool m ∷ H) → ((d : ℕ) → StandsIn H d) → (d : ℕ) → StandsIn (Pool m ∷ H) d
stands_move H (OpenStart c n) l s d = stands_open H c n l.0 l.1 s d
stands_move H (Lend c t o n) l s d = stands_lend H c t o n l s d
stands_move H (Back c) l s d = stands_back H c l s d
stands_move H (CloseStart c why) l s d = stands_close H c why l.0 l.1 s d
stands_move H (Gone c) l s d = stands_out H (Gone c) c l.1 s (λ e apart. turned c e apart) d
stands_move H (Fell c n) l s d = stands_out H (Fell c n) c l.1 s (λ e apart. turned c e apart) d

-- The event is an answer.

opens_next : (H : List Event) (e : Entry) (wanted : Option Owner) → Allowed H (Heard e) → ((d : ℕ) → StandsIn H d) → place H e.conn ≡ Some (Opening wanted)
    → Opens e.conn (lends H e.conn) (uses H e.conn) true (is_done e.answer) (e ∷ journal H e.conn)
opens_next H e wanted a s is =
    let f = hears H e a in
    let fits : hears_in (pool H) (Some (Opening wanted)) e ≡ true = subst (λ at. hears_in (pool H) at e ≡ true) is f.sets in
    let x = both (is_connect e.call) ((e.tenure == 1) && is_house_entry e) fits in
    let y = both (e.tenure == 1) (is_house_entry e) x.1 in
    let z = both (is_house e.owner) (e.call_no == 0) y.1 in
    let still : was_heard e.conn H ≡ false = unpressed H (Heard e) e.conn (follows_of H (Heard e) a) refl (ap (λ at. is_opening at || is_closing at) is) in
    let opens = subst (λ b. Opens e.conn (lends H e.conn) (uses H e.conn) b (was_opened e.conn H) (journal H e.conn)) still (opening_opens H e.conn wanted (s e.conn) is) in
    opens_heard e.conn (lends H e.conn) (uses H e.conn) (was_opened e.conn H) (journal H e.conn) e opens (heard_follows H e a) refl x.0 (same_number e.tenure 1 y.0) z.0 (same_number e.call_no 0 z.1)

lent_heard : (H : List Event) (e : Entry) (t : ℕ) (own : Owner) → Lawful (Heard e ∷ H) → place H e.conn ≡ Some (Lent t own) → LentTo e.conn (lends H e.conn) t own (journal H e.conn)
    → LentTo e.conn (lends H e.conn) t own (e ∷ journal H e.conn)
lent_heard H e t (Call n) l is works =
    let s = sound H l.0 in
    let f = s.facts in
    let w = was_under_way H e t (Call n) l.1 s is in
    let tenure = heard_tenure H e t (Call n) l.1 is in
    let x = line_to w.way w.owner in
    let due : is_due (call_line H e.conn t (Call n) x.0) e.call ≡ true = subst (λ u. is_due (call_line H e.conn u (Call n) x.0) e.call ≡ true) tenure x.1 in
    works_heard e.conn (lends H e.conn) t n e.call_no (journal H e.conn) e (caps H) (is_reset_due H e.conn) (asked_by H n) x.0 works (f.made e.conn t (Call n) is refl) (heard_follows H e l.1) refl tenure
    (same_owner_is e.owner (Call n) (heard_owner H e t (Call n) l.1 is)) refl
    (plain_due (call_line H e.conn t (Call n) x.0) e.call (line_plain (caps H) (is_reset_due H e.conn) (asked_by H n) x.0 (heard_in H e.conn t)) due)
  where
    line_to : (u : UnderWay H e) → u.owner ≡ Call n → (w : Wish) × (is_due (call_line H e.conn e.tenure (Call n) w) e.call ≡ true)
    line_to u same = let x = u.line (ap is_call same) in (x.0, subst (λ o. is_due (call_line H e.conn e.tenure o x.0) e.call ≡ true) same x.1)
lent_heard H e t (Tx k) l is alone =
    (alone.0, alone_on e.conn t (journal H e.conn) e alone.1 (heard_follows H e l.1) (heard_tenure H e t (Tx k) l.1 is) (ap is_house (same_owner_is e.owner (Tx k) (heard_owner H e t (Tx k) l.1 is))))
lent_heard H e t (Pin n) l is none = absurd none
lent_heard H e t House l is none = absurd none

heard_there : (H : List Event) (e : Entry) → Lawful (Heard e ∷ H) → ((d : ℕ) → StandsIn H d) → (p : Option Place) → place H e.conn ≡ p → Stands e.conn (lends H e.conn) (uses H e.conn) true (is_done e.answer) (e ∷ journal H e.conn) p
heard_there H e l s (Some (Opening wanted)) is = opens_next H e wanted l.1 s is
heard_there H e l s (Some Closing) is = λ h. absurd cc
heard_there H e l s (Some (Lent t o)) is = lent_heard H e t o l is (lent_to H e.conn t o (s e.conn) is)
heard_there H e l s (Some Idle) is = let f = hears H e l.1 in let fits : hears_in (pool H) (Some Idle) e ≡ true = subst (λ at. hears_in (pool H) at e ≡ true) is f.sets in absurd cc
heard_there H e l s None is = tt

stands_heard : (H : List Event) (e : Entry) → Lawful (Heard e ∷ H) → ((d : ℕ) → StandsIn H d) → (d : ℕ) → StandsIn (Heard e ∷ H) d
stands_heard H e l s d =
    by_number e.conn d (StandsIn (Heard e ∷ H))
    (subst (λ b. Stands e.conn (lends H e.conn) (uses H e.conn) b (b && is_done e.answer) (cond b (e ∷ journal H e.conn) (journal H e.conn)) (place H e.conn)) (sym (same_itself e.conn))
    (heard_there H e l s (place H e.conn) refl))
    (λ apart.
    subst (λ b. Stands d (lends H d) (uses H d) b (b && is_done e.answer) (cond b (e ∷ journal H d) (journal H d)) (place H d)) (sym (turned e.conn d apart))
    (untouched H (Heard e) d (conn_of d (pool H).conns) (journal H d) (s d) (follows_of H (Heard e) l.1) refl refl refl))

pub stands : (H : List Event) → Lawful H → (d : ℕ) → StandsIn H d
stands [] l d = tt
stands (Pool m ∷ H) l d = stands_move H m l (stands H l.0) d
stands (Heard e ∷ H) l d = stands_heard H e l (stands H l.0) d
stands (Entered client n DbClose ∷ H) l d = stands_closed H (Entered client n DbClose) l.1 (stands H l.0) (λ c. refl) d
stands (Ticked now ∷ H) l d = stands_quiet H (Ticked now) l.1 (stands H l.0) (λ c. refl) (λ c. ap (conn_of c) (control_conns (Tick now) (pool H))) d
stands (SetLimit setting k ∷ H) l d = stands_quiet H (SetLimit setting k) l.1 (stands H l.0) (λ c. refl) (λ c. ap (conn_of c) (control_conns (Set setting k) (pool H))) d
stands (Ended ∷ H) l d = stands_closed H Ended l.1 (stands H l.0) (λ c. refl) d
stands (e ∷ H) l d = stands_quiet H e l.1 (stands H l.0) (λ c. refl) (λ c. refl) d
