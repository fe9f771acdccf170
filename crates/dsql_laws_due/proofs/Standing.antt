-- What was heard on a connection fits the connection's place, whatever its owner.
use Rattle.std.proofs.Common.{◌≡◌, ℕ, ◌+◌, Bool, true, false, ◌||◌, List, Option, Some, None, refl, ap, subst, ◌∙◌}
use Rattle.std.specs.Option.{option_map}
use Rattle.dsql_laws_calls.specs.journal.declared.entry.Entry.{Entry}
use Rattle.dsql_laws_calls.specs.journal.declared.entry.Owner.{Owner}
use Rattle.dsql_laws_calls.specs.journal.declared.entry.Owner.TheVariants.{Call, Tx, Pin, House}
use Rattle.dsql_laws_calls.specs.journal.Tenure.{is_whole_tenure}
use Rattle.dsql_laws_calls.specs.pool.declared.conn.Conn.{Conn}
use Rattle.dsql_laws_calls.specs.pool.declared.conn.Place.{Place}
use Rattle.dsql_laws_calls.specs.pool.declared.conn.Place.TheVariants.{Idle, Lent, Opening, Closing}
use Rattle.dsql_laws_calls.specs.pool.Changes.{unwanted}
use Rattle.dsql_laws_calls.specs.pool.Places.{conn_of, lends_of, is_idle, is_lent, is_opening, is_closing}
use Rattle.dsql_laws_calls.proofs.laws_work.Standing.{Opens}
use Rattle.dsql_laws_calls.proofs.Found.{place_in, lends_in, uses_in, unwanted_place, unwanted_in, unwanted_lent}
use Rattle.dsql_laws_calls.specs.history.declared.event.Event.{Event}
use Rattle.dsql_laws_calls.specs.history.Readers.Journals.{journal}
use Rattle.dsql_laws_calls.specs.history.Readers.Owed.{owed}
use Rattle.dsql_laws_calls.specs.history.Readers.Pool.{pool, place, uses}
use Rattle.dsql_laws_calls.specs.history.Rules.Order.{follows}
use Rattle.dsql_laws_tenures.specs.Connections.{IsAlone}
use Rattle.dsql_laws_tenures.proofs.TenureStanding.{Rests, Leaves, Works, rests_opened, leaves_idle, leaves_lent, leaves_alone}
use Rattle.dsql_laws_calls.proofs.Spared.{was_heard, was_opened, moves, unpressed}

-- Holds if the connection is lent to this owner in tenure t. A transaction has the connection alone.
abbrev pub LentTo : ℕ → ℕ → ℕ → Owner → List Entry → Type 0
LentTo c l t (Call n) J = Works c l t n J
LentTo c l t (Tx k) J = (t ≡ l + 1) × IsAlone c t J
LentTo c l t owner J = ⊥

-- Holds if what was heard on connection c fits its place. Here `l` is how often the connection was lent, `u`
-- how often to an owner other than the house, and `J` its journal. `heard` says whether the last event is an
-- answer on it, and `opened` whether that event answered its Connect with Done.
abbrev pub Stands : ℕ → ℕ → ℕ → Bool → Bool → List Entry → Option Place → Type 0
Stands c l u heard opened J None = Unit {0}
Stands c l u heard opened J (Some (Opening wanted)) = Opens c l u heard opened J
Stands c l u heard opened J (Some Idle) = Rests c l J
Stands c l u heard opened J (Some (Lent t owner)) = LentTo c l t owner J
Stands c l u heard opened J (Some Closing) = heard ≡ false → Leaves c l J

abbrev pub lends : List Event → ℕ → ℕ
lends H c = lends_of c (pool H).conns

abbrev pub StandsIn : List Event → ℕ → Type 0
StandsIn H c = Stands c (lends H c) (uses H c) (was_heard c H) (was_opened c H) (journal H c) (place H c)

-- A connection stands as before if the last event wasn't an answer on it, or if it is neither being opened nor
-- being closed.
stands_on : (c l u : ℕ) (heard opened : Bool) (J : List Entry) (p : Option Place) → Stands c l u heard opened J p → ((is_opening p || is_closing p) ≡ true → heard ≡ false) → Stands c l u false false J p
stands_on c l u heard opened J (Some (Opening wanted)) s h = record { unlent = s.unlent; unused = s.unused; fresh = λ k. s.fresh (h refl); done = λ k. absurd cc }
stands_on c l u heard opened J (Some Closing) s h = λ k. s (h refl)
stands_on c l u heard opened J _ s h = s

-- A connection that no call wants any longer stands as before.
stands_unwanted : (c l u : ℕ) (heard opened : Bool) (J : List Entry) (p : Option Place) → Stands c l u heard opened J p → Stands c l u heard opened J (option_map unwanted_place p)
stands_unwanted c l u heard opened J (Some (Opening wanted)) s = s
stands_unwanted c l u heard opened J _ s = s

stands_same : (d l m u v : ℕ) (h o : Bool) (J K : List Entry) (p q : Option Place) → m ≡ l → v ≡ u → K ≡ J → q ≡ p → Stands d l u h o J p → Stands d m v h o K q
stands_same d l m u v h o J K p q a b c e s = rw (a, b, c, e) s

-- A connection stands as the pool's entry for it says.
pub stands_found : (d l u : ℕ) (h o : Bool) (J K : List Entry) (p : Option Place) (found : Option Conn) → lends_in found ≡ l → uses_in found ≡ u → K ≡ J → place_in found ≡ p
    → Stands d l u h o J p → Stands d (lends_in found) (uses_in found) h o K (place_in found)
stands_found d l u h o J K p found a b c e s = stands_same d l (lends_in found) u (uses_in found) h o J K p (place_in found) a b c e s

-- A connection that the event doesn't touch stands as before.
pub untouched : (H : List Event) (e : Event) (d : ℕ) (found : Option Conn) (K : List Entry) → StandsIn H d → follows (owed H) e ≡ true → moves d e ≡ false → found ≡ conn_of d (pool H).conns → K ≡ journal H d
    → Stands d (lends_in found) (uses_in found) false false K (place_in found)
untouched H e d found K s f still is same =
    stands_found d (lends H d) (uses H d) false false (journal H d) K (place H d) found (ap lends_in is) (ap uses_in is) same (ap place_in is)
    (stands_on d (lends H d) (uses H d) (was_heard d H) (was_opened d H) (journal H d) (place H d) s (unpressed H e d f still))

-- A connection stands as before if the event changes only that no call wants it any longer.
pub let_be : (H : List Event) (e : Event) (d : ℕ) (found : Option Conn) → StandsIn H d → follows (owed H) e ≡ true → moves d e ≡ false → found ≡ option_map unwanted (conn_of d (pool H).conns)
    → Stands d (lends_in found) (uses_in found) false false (journal H d) (place_in found)
let_be H e d found s f still is =
    let counts = unwanted_lent (conn_of d (pool H).conns) in
    stands_found d (lends H d) (uses H d) false false (journal H d) (journal H d) (option_map unwanted_place (place H d)) found (ap lends_in is ∙ counts.0) (ap uses_in is ∙ counts.1) refl
    (ap place_in is ∙ unwanted_in (conn_of d (pool H).conns))
    (stands_unwanted d (lends H d) (uses H d) false false (journal H d) (place H d)
    (stands_on d (lends H d) (uses H d) (was_heard d H) (was_opened d H) (journal H d) (place H d) s (unpressed H e d f still)))

-- A connection that a move takes out of its place was idle, was opened by the last event, or was lent.

stands_as : (c l u : ℕ) (h o : Bool) (J : List Entry) (at p : Option Place) → at ≡ p → Stands c l u h o J at → Stands c l u h o J p
stands_as c l u h o J at p is s = subst (λ q. Stands c l u h o J q) is s

opened_rests : (c l u : ℕ) (h o : Bool) (J : List Entry) → Opens c l u h o J → o ≡ true → Rests c l J
opened_rests c l u h o J s opened = rests_opened c l u h J (subst (λ b. Opens c l u h b J) opened s)

-- A connection that is to be lent is at rest.
pub rests_from : (c l u : ℕ) (h o : Bool) (J : List Entry) (at : Option Place) → Stands c l u h o J at → (is_idle at || is_opening at) ≡ true → (is_opening at ≡ true → o ≡ true) → Rests c l J
rests_from c l u h o J (Some Idle) s from opened = s
rests_from c l u h o J (Some (Opening wanted)) s from opened = opened_rests c l u h o J s (opened refl)
rests_from c l u h o J _ s from opened = absurd cc

-- A connection that is given back, or kept once it was opened, is at rest.
pub rests_back : (c l u : ℕ) (h o : Bool) (J : List Entry) (at : Option Place) → Stands c l u h o J at → (is_lent at || is_opening at) ≡ true → (is_opening at ≡ true → o ≡ true)
    → ((t : ℕ) (owner : Owner) → at ≡ Some (Lent t owner) → Rests c l J) → Rests c l J
rests_back c l u h o J (Some (Lent t owner)) s from opened lent = lent t owner refl
rests_back c l u h o J (Some (Opening wanted)) s from opened lent = opened_rests c l u h o J s (opened refl)
rests_back c l u h o J _ s from opened lent = absurd cc

left_by : (c l t : ℕ) (owner : Owner) (J : List Entry) → LentTo c l t owner J → is_whole_tenure t J ≡ true → Leaves c l J
left_by c l t (Call n) J s whole = leaves_lent c l t n J s whole
left_by c l t (Tx k) J s whole = leaves_alone c l t J s.1 s.0 whole
left_by c l t (Pin n) J s whole = absurd s
left_by c l t House J s whole = absurd s

-- A connection whose closing begins can leave.
pub leaves_from : (c l u : ℕ) (h o : Bool) (J : List Entry) (at : Option Place) → Stands c l u h o J at → (is_idle at || (is_lent at || is_opening at)) ≡ true → (is_opening at ≡ true → o ≡ true)
    → ((t : ℕ) (owner : Owner) → at ≡ Some (Lent t owner) → is_whole_tenure t J ≡ true) → Leaves c l J
leaves_from c l u h o J (Some (Lent t owner)) s from opened whole = left_by c l t owner J s (whole t owner refl)
leaves_from c l u h o J (Some (Opening wanted)) s from opened whole = leaves_idle c l J (opened_rests c l u h o J s (opened refl))
leaves_from c l u h o J (Some Idle) s from opened whole = leaves_idle c l J s
leaves_from c l u h o J (Some Closing) s from opened whole = absurd cc
leaves_from c l u h o J None s from opened whole = absurd cc

-- What is known of a connection that is lent, and of one whose Connect or Shut is being answered.

pub lent_to : (H : List Event) (c t : ℕ) (own : Owner) → StandsIn H c → place H c ≡ Some (Lent t own) → LentTo c (lends H c) t own (journal H c)
lent_to H c t own s is = stands_as c (lends H c) (uses H c) (was_heard c H) (was_opened c H) (journal H c) (place H c) (Some (Lent t own)) is s

pub opening_opens : (H : List Event) (c : ℕ) (wanted : Option Owner) → StandsIn H c → place H c ≡ Some (Opening wanted) → Opens c (lends H c) (uses H c) (was_heard c H) (was_opened c H) (journal H c)
opening_opens H c wanted s is = stands_as c (lends H c) (uses H c) (was_heard c H) (was_opened c H) (journal H c) (place H c) (Some (Opening wanted)) is s

pub closing_leaves : (H : List Event) (c : ℕ) → StandsIn H c → place H c ≡ Some Closing → was_heard c H ≡ false → Leaves c (lends H c) (journal H c)
closing_leaves H c s is = stands_as c (lends H c) (uses H c) (was_heard c H) (was_opened c H) (journal H c) (place H c) (Some Closing) is s
