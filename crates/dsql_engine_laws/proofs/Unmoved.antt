-- A connection that is being opened or closed stays so until the driver answers on it. The argument goes through the
-- moves: the pool moves it only right after that answer, or if its journal is whole.
use Rattle.std.proofs.Common.{◌≡◌, ◌≢◌, ℕ, ◌==◌, ◌⊎◌, inl, inr, Bool, true, false, ◌&&◌, ◌||◌, List, [], ◌∷◌, ◌++◌, Option, Some, None, refl, sym, ap, subst, ◌∙◌}
use Rattle.std.proofs.lemmas.Bool.{or_cases}
use Rattle.std.specs.List.{list_any}
use Rattle.std.specs.Option.{option_map}
use Rattle.dsql_engine_hearing.specs.driver.Fits.{is_done, is_failure}
use Rattle.dsql_engine_hearing.specs.driver.Kinds.{is_connect, is_shut}
use Rattle.dsql_engine_hearing.specs.journal.declared.entry.Entry.{Entry}
use Rattle.dsql_engine_hearing.specs.journal.declared.entry.Owner.{Owner}
use Rattle.dsql_engine_hearing.specs.journal.Journal.{is_finished, is_journal_prefix, is_whole}
use Rattle.dsql_engine_hearing.specs.journal.Readers.{was_refused, was_shut}
use Rattle.dsql_engine_hearing.specs.pool.declared.conn.Place.{Place}
use Rattle.dsql_engine_hearing.specs.pool.declared.conn.Place.TheVariants.{Opening, Closing}
use Rattle.dsql_engine_hearing.specs.pool.declared.moves.Move.{Move}
use Rattle.dsql_engine_hearing.specs.pool.declared.moves.Move.TheVariants.{OpenStart, Lend, Back, CloseStart, Gone, Fell}
use Rattle.dsql_engine_hearing.specs.pool.Changes.{back, closing, lent, unwanted}
use Rattle.dsql_engine_hearing.specs.pool.Places.{conn_of, lends_of, is_closing, is_idle, is_lent, is_opening}
use Rattle.dsql_engine_hearing.specs.pool.Pooled.{next_number}
use Rattle.dsql_engine_hearing.specs.history.declared.event.Control.TheVariants.{Tick, Set}
use Rattle.dsql_engine_hearing.specs.history.declared.event.Event.{Event}
use Rattle.dsql_engine_hearing.specs.history.declared.event.Event.TheVariants.{Entered, Heard, Pool, Ticked, SetLimit, Ended}
use Rattle.dsql_engine_hearing.specs.history.declared.event.Op.TheVariants.{DbClose}
use Rattle.dsql_engine_hearing.specs.history.Readers.Journals.{journal}
use Rattle.dsql_engine_hearing.specs.history.Readers.Pool.{place, pool, wanted_by}
use Rattle.dsql_engine_hearing.specs.history.Legal.{Allowed, Lawful}
use Rattle.dsql_engine_hearing.proofs.laws.AtRest.{keeps_of}
use Rattle.dsql_engine_hearing.proofs.laws.Places.{neither}
use Rattle.dsql_engine_hearing.proofs.laws.Tests.{both, same_itself, same_number}
use Rattle.dsql_engine_hearing.proofs.laws_calls.Born.{open_is_old}
use Rattle.dsql_engine_hearing.proofs.laws_calls.Cases.{control_conns, true_false}
use Rattle.dsql_engine_hearing.proofs.laws_calls.Found.{begun_off, changed_off, gone_off, lends_in, place_in, shut_found, unwanted_in, unwanted_lent, unwanted_place}
use Rattle.dsql_engine_hearing.proofs.laws_calls.Lent.{move_facts}
use Rattle.dsql_engine_hearing.proofs.laws_calls.Spared.{is_of, opened_when, takes, was_heard, was_opened}
use Rattle.dsql_engine_hearing.proofs.laws_due.Standing.{closing_leaves, opening_opens}
use Rattle.dsql_engine_hearing.proofs.laws_due.Stood.{stands}
use Rattle.dsql_engine_laws.specs.Chores.{hears_on}

-- Is true if a connection in this place is being opened or closed.
abbrev pub is_pending : Option Place → Bool
is_pending at = is_opening at || is_closing at

-- Returns the place without the request for which a connection is being opened.
abbrev pub kind : Option Place → Option Place
kind at = option_map unwanted_place at

-- Holds if the connection is in the same place, whatever request it is being opened for, and was lent as often.
pub record Stays (H K : List Event) (c : ℕ) : Type 0 where
  pub at : kind (place K c) ≡ kind (place H c)
  pub lends : lends_of c (pool K).conns ≡ lends_of c (pool H).conns

kind_pending : (at : Option Place) → is_pending (kind at) ≡ is_pending at
kind_pending None = refl
kind_pending (Some (Opening wanted)) = refl
kind_pending (Some _) = refl

kind_again : (at : Option Place) → kind (kind at) ≡ kind at
kind_again None = refl
kind_again (Some (Opening wanted)) = refl
kind_again (Some _) = refl

-- The journal of such a connection isn't whole before its Connect or its Shut is answered.

never : (a b : Bool) → a ≡ false → b ≡ false → (a || b) ≡ true → ⊥
never true b h k is = cc
never false b h k is = cc

unfinished : (J : List Entry) → was_refused J ≡ false → was_shut J ≡ false → is_whole J ≡ true → ⊥
unfinished [] refused shut whole = cc
unfinished (e ∷ J) refused shut whole =
    let a = both (is_journal_prefix (e ∷ J)) (is_finished (e ∷ J)) whole in
    let s = neither (is_shut e.call) (was_shut J) shut in
    let r = neither (is_connect e.call && is_failure e.answer) (was_refused J) refused in
    never (is_shut e.call) (is_connect e.call && is_failure e.answer) s.0 r.0 a.1

opening_unfinished : (H : List Event) (c : ℕ) (wanted : Option Owner) → Lawful H → was_heard c H ≡ false → place H c ≡ Some (Opening wanted) → is_whole (journal H c) ≡ true → ⊥
opening_unfinished H c wanted l still at whole =
    let o = opening_opens H c wanted (stands H l c) at in
    let clash : is_whole [] ≡ true = subst (λ J. is_whole J ≡ true) (o.fresh still) whole in
    cc

closing_unfinished : (H : List Event) (c : ℕ) → Lawful H → was_heard c H ≡ false → place H c ≡ Some Closing → is_whole (journal H c) ≡ true → ⊥
closing_unfinished H c l still at whole =
    let v = closing_leaves H c (stands H l c) at still in unfinished (journal H c) v.is_open.not_refused v.is_open.not_shut whole

pending_unfinished : (H : List Event) (c : ℕ) → Lawful H → was_heard c H ≡ false → is_pending (place H c) ≡ true → is_whole (journal H c) ≡ true → ⊥
pending_unfinished H c l still pending whole = by (place H c) refl pending
  where
    by : (at : Option Place) → place H c ≡ at → is_pending at ≡ true → ⊥
    by (Some (Opening wanted)) is h = opening_unfinished H c wanted l still is whole
    by (Some Closing) is h = closing_unfinished H c l still is whole
    by _ is h = absurd cc

gone_whole : (H : List Event) (c : ℕ) → Allowed H (Pool (Gone c)) → is_whole (journal H c) ≡ true
unfolding Allowed
gone_whole H c a = a.journals

fell_whole : (H : List Event) (c n : ℕ) → Allowed H (Pool (Fell c n)) → is_whole (journal H c) ≡ true
unfolding Allowed
fell_whole H c n a = a.journals

-- No move is of such a connection.

was_answered : (H : List Event) (c : ℕ) → was_opened c H ≡ true → was_heard c H ≡ true
was_answered (Heard e ∷ H) c h = let a = both (e.conn == c) (is_done e.answer) h in a.0
was_answered _ c h = absurd cc

from_closing : (test : Option Place → Bool) (at : Option Place) → test (Some Closing) ≡ false → is_closing at ≡ true → test at ≡ true → ⊥
from_closing test (Some Closing) fails h passes = true_false (test (Some Closing)) passes fails
from_closing test _ fails h passes = cc

-- A closing connection is neither lent, nor given back, nor closed again.
closing_stays : (H : List Event) (m : Move) (c : ℕ) → Allowed H (Pool m) → takes c m ≡ true → is_closing (place H c) ≡ true → ⊥
closing_stays H (Lend d t o n) c a h closes =
    let f = move_facts H (Lend d t o n) a in
    from_closing (λ at. is_idle at || is_opening at) (place H c) refl closes (subst (λ e. (is_idle (place H e) || is_opening (place H e)) ≡ true) (same_number d c h) f.moves)
closing_stays H (Back d) c a h closes =
    let f = move_facts H (Back d) a in
    from_closing (λ at. is_lent at || is_opening at) (place H c) refl closes (subst (λ e. (is_lent (place H e) || is_opening (place H e)) ≡ true) (same_number d c h) f.moves)
closing_stays H (CloseStart d why) c a h closes =
    let f = move_facts H (CloseStart d why) a in
    from_closing (λ at. is_idle at || (is_lent at || is_opening at)) (place H c) refl closes
    (subst (λ e. (is_idle (place H e) || (is_lent (place H e) || is_opening (place H e))) ≡ true) (same_number d c h) f.moves)
closing_stays H _ c a h closes = cc

taken_never : (H : List Event) (m : Move) (c : ℕ) → Lawful (Pool m ∷ H) → was_heard c H ≡ false → is_pending (place H c) ≡ true → takes c m ≡ true → ⊥
taken_never H m c l still pending h = by (or_cases (is_opening (place H c)) (is_closing (place H c)) pending)
  where
    by : (is_opening (place H c) ≡ true) ⊎ (is_closing (place H c) ≡ true) → ⊥
    by (inl opens) = true_false (was_heard c H) (was_answered H c (opened_when H c m l.0 (keeps_of H (Pool m) l.1) h opens)) still
    by (inr closes) = closing_stays H m c l.1 h closes

moved_never : (H : List Event) (m : Move) (c : ℕ) → Lawful (Pool m ∷ H) → was_heard c H ≡ false → is_pending (place H c) ≡ true → is_of c m ≡ true → ⊥
moved_never H (OpenStart d n) c l still pending h = cc
moved_never H (Gone d) c l still pending h = pending_unfinished H c l.0 still pending (subst (λ e. is_whole (journal H e) ≡ true) (same_number d c h) (gone_whole H d l.1))
moved_never H (Fell d n) c l still pending h = pending_unfinished H c l.0 still pending (subst (λ e. is_whole (journal H e) ≡ true) (same_number d c h) (fell_whole H d n l.1))
moved_never H m c l still pending h = taken_never H m c l still pending h

-- So each event leaves it in its place.

not_new : (H : List Event) (c : ℕ) → Lawful H → is_pending (place H c) ≡ true → c ≢ next_number (pool H)
not_new H c l pending = by (place H c) refl pending
  where
    by : (at : Option Place) → place H c ≡ at → is_pending at ≡ true → c ≢ next_number (pool H)
    by None is h = absurd cc
    by (Some p) is h = open_is_old H c p l is

other : (c d : ℕ) → ((d == c) ≡ true → ⊥) → c ≢ d
other c d apart same = apart (subst (λ e. (e == c) ≡ true) same (same_itself c))

beside : (H : List Event) (m : Move) (c : ℕ) → Lawful H → is_pending (place H c) ≡ true → (is_of c m ≡ true → ⊥) → conn_of c (pool (Pool m ∷ H)).conns ≡ conn_of c (pool H).conns
beside H (OpenStart d n) c l pending apart = begun_off c (wanted_by H n) (pool H) (not_new H c l pending)
beside H (Lend d t o n) c l pending apart = changed_off d c (lent t o (pool H).moment) (pool H).conns (λ x. refl) (other c d apart)
beside H (Back d) c l pending apart = changed_off d c (back (pool H).moment) (pool H).conns (λ x. refl) (other c d apart)
beside H (CloseStart d why) c l pending apart = changed_off d c closing (pool H).conns (λ x. refl) (other c d apart)
beside H (Gone d) c l pending apart = gone_off d c (pool H).conns (other c d apart)
beside H (Fell d n) c l pending apart = gone_off d c (pool H).conns (other c d apart)

stays_as : (H K : List Event) (c : ℕ) → conn_of c (pool K).conns ≡ conn_of c (pool H).conns → Stays H K c
stays_as H K c same = record { at = ap (λ found. kind (place_in found)) same; lends = ap lends_in same }

-- As the database closes, no request wants the connection any longer.
stays_unwanted : (H K : List Event) (c : ℕ) → conn_of c (pool K).conns ≡ option_map unwanted (conn_of c (pool H).conns) → Stays H K c
stays_unwanted H K c is =
    let counts = unwanted_lent (conn_of c (pool H).conns) in
    record { at = ap (λ found. kind (place_in found)) is ∙ ap kind (unwanted_in (conn_of c (pool H).conns)) ∙ kind_again (place H c); lends = ap lends_in is ∙ counts.0 }

stays_on : (H : List Event) (x : Event) (c : ℕ) → Lawful (x ∷ H) → was_heard c H ≡ false → is_pending (place H c) ≡ true → Stays H (x ∷ H) c
stays_on H (Pool m) c l still pending = stays_as H (Pool m ∷ H) c (beside H m c l.0 pending (moved_never H m c l still pending))
stays_on H (Entered client n DbClose) c l still pending = stays_unwanted H (Entered client n DbClose ∷ H) c (shut_found c (pool H))
stays_on H Ended c l still pending = stays_unwanted H (Ended ∷ H) c (shut_found c (pool H))
stays_on H (Ticked now) c l still pending = stays_as H (Ticked now ∷ H) c (ap (conn_of c) (control_conns (Tick now) (pool H)))
stays_on H (SetLimit s k) c l still pending = stays_as H (SetLimit s k ∷ H) c (ap (conn_of c) (control_conns (Set s k) (pool H)))
stays_on H x c l still pending = stays_as H (x ∷ H) c refl

heard_last : (H : List Event) (x : Event) (c : ℕ) → was_heard c (x ∷ H) ≡ hears_on c x
heard_last H (Heard e) c = refl
heard_last H _ c = refl

-- Holds if the connection stays in its place, and the last event is no answer on it.
record Lasts (H K : List Event) (c : ℕ) : Type 0 where
  stays : Stays H K c
  still : was_heard c K ≡ false

lasts : (H events : List Event) (c : ℕ) → Lawful (events ++ H) → was_heard c H ≡ false → is_pending (place H c) ≡ true → list_any (hears_on c) events ≡ false → Lasts H (events ++ H) c
lasts H [] c l still pending none = record { stays = record { at = refl; lends = refl }; still = still }
lasts H (x ∷ events) c l still pending none =
    let K : List Event = events ++ H in
    let a = neither (hears_on c x) (list_any (hears_on c) events) none in
    let before = lasts H events c l.0 still pending a.1 in
    let there : is_pending (place K c) ≡ true = sym (kind_pending (place K c)) ∙ ap is_pending before.stays.at ∙ kind_pending (place H c) ∙ pending in
    let more = stays_on K x c l before.still there in
    record { stays = record { at = more.at ∙ before.stays.at; lends = more.lends ∙ before.stays.lends }; still = heard_last K x c ∙ a.0 }

-- A connection that is being opened or closed stays in its place until the driver answers on it.
pub pending_stays : (H events : List Event) (c : ℕ) → Lawful (events ++ H) → was_heard c H ≡ false → is_pending (place H c) ≡ true → list_any (hears_on c) events ≡ false → Stays H (events ++ H) c
pending_stays H events c l still pending none = (lasts H events c l still pending none).stays
