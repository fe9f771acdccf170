-- Proves that the moves which the pool owes are allowed one after another. Each of them can be made in its
-- turn, and so keeps each rule.
use Rattle.std.proofs.Common.{◌≡◌, ℕ, ◌==◌, nat_lt, Bool, true, false, not, ◌||◌, List, [], ◌∷◌, refl, ap, subst, ◌∙◌, Option, Some}
use Rattle.dsql_history.specs.journal.Readers.{is_empty}
use Rattle.dsql_history.specs.journal.Journal.{is_whole}
use Rattle.dsql_history.specs.pool.declared.conn.Place.{Place}
use Rattle.dsql_history.specs.pool.declared.conn.Place.TheVariants.{Lent}
use Rattle.dsql_history.specs.pool.declared.moves.Move.{Move}
use Rattle.dsql_history.specs.pool.declared.moves.Move.TheVariants.{OpenStart, Lend, Back, CloseStart, Gone, Fell}
use Rattle.dsql_history.specs.pool.Places.{is_idle, is_lent, is_opening, is_closing}
use Rattle.dsql_history.specs.pool.Pooled.{next_number, open_count, most_allowed}
use Rattle.dsql_history.specs.pool.Moved.{made, moved}
use Rattle.dsql_history.specs.declared.event.Event.{Event}
use Rattle.dsql_history.specs.declared.event.Event.TheVariants.{Pool}
use Rattle.dsql_history.specs.Readers.Journals.{journal}
use Rattle.dsql_history.specs.Readers.Pool.{pool, place}
use Rattle.dsql_history.specs.Readers.Owed.{left_of, owed}
use Rattle.dsql_history.specs.Rules.Asking.{is_asked_for, keeps_asking}
use Rattle.dsql_history.specs.Rules.Causes.{is_owed, is_given_back, keeps_causes}
use Rattle.dsql_history.specs.Rules.Course.{keeps_course}
use Rattle.dsql_history.specs.Rules.Journals.{leaves_whole, keeps_journals}
use Rattle.dsql_history.specs.Rules.Limit.{keeps_limit}
use Rattle.dsql_history.specs.Rules.Line.{leaves_from, keeps_line}
use Rattle.dsql_history.specs.Rules.Moves.{keeps_sets}
use Rattle.dsql_history.specs.Rules.Order.{follows, keeps_order}
use Rattle.dsql_history.specs.Legal.{Allowed, Lawful}
use Rattle.dsql_laws.proofs.Tests.{both, together, move_itself}
use Rattle.dsql_laws.proofs.OwedMoves.{is_own, are_own, own_moved, owed_own}
use Rattle.dsql_laws.proofs.Truths.{or_first, or_second}
use Rattle.dsql_laws.proofs.Able.{is_able, are_able}
use Rattle.dsql_laws.specs.OwedMade.{with_moves}
use Rattle.dsql_laws.proofs.AbleMoves.{able}

-- Nothing is owed before the run began.
begun_owing : (H : List Event) (m : Move) (ms : List Move) → owed H ≡ m ∷ ms → keeps_course H (Pool m) ≡ true
begun_owing [] m ms is = absurd cc
begun_owing (e ∷ H) m ms is = refl

owing : (H : List Event) (m : Move) (ms : List Move) → owed H ≡ m ∷ ms → is_owed H ≡ true
owing H m ms is = ap (λ ns. not (is_empty ns)) is

-- A connection that is idle or being opened isn't lent.
unlent_place : (o : Option Place) → (is_idle o || is_opening o) ≡ true → is_lent o ≡ false
unlent_place (Some (Lent t o)) h = absurd cc
unlent_place _ h = refl

opening_place : (o : Option Place) → is_opening o ≡ true → is_lent o ≡ false
opening_place (Some (Lent t o)) h = absurd cc
opening_place _ h = refl

lines_alone : (H : List Event) (o : Option Place) → is_lent o ≡ false → leaves_from H o ≡ true
lines_alone H (Some (Lent t o)) h = absurd cc
lines_alone H _ h = refl

wholes_alone : (H : List Event) (c : ℕ) (o : Option Place) → is_lent o ≡ false → leaves_whole H c o ≡ true
wholes_alone H c (Some (Lent t o)) h = absurd cc
wholes_alone H c _ h = refl

or_both : (a b c : Bool) → (a || b) ≡ true → (a || (c || b)) ≡ true
or_both true b c h = refl
or_both false b true h = refl
or_both false b false h = h

-- Each rule, for a move that can be made and is owed.

able_sets : (H : List Event) (m : Move) → is_able (journal H) (pool H) m ≡ true → keeps_sets H (Pool m) ≡ true
able_sets H (OpenStart c n) h = let a = both (c == next_number (pool H)) (nat_lt (open_count (pool H)) (most_allowed (pool H))) h in together (c == next_number (pool H)) true a.0 refl
able_sets H (Lend c t o n) h = h
able_sets H (Back c) h = together (is_lent (place H c) || is_opening (place H c)) true (or_second (is_lent (place H c)) (is_opening (place H c)) h) refl
able_sets H (CloseStart c why) h =
    together (is_idle (place H c) || (is_lent (place H c) || is_opening (place H c))) true (or_both (is_idle (place H c)) (is_opening (place H c)) (is_lent (place H c)) h) refl
able_sets H (Gone c) h = let a = both (is_closing (place H c)) (is_whole (journal H c)) h in together (is_closing (place H c)) true a.0 refl
able_sets H (Fell c n) h = let a = both (is_opening (place H c)) (is_whole (journal H c)) h in together (is_opening (place H c)) true a.0 refl

able_limit : (H : List Event) (m : Move) → is_able (journal H) (pool H) m ≡ true → keeps_limit H (Pool m) ≡ true
able_limit H (OpenStart c n) h = let a = both (c == next_number (pool H)) (nat_lt (open_count (pool H)) (most_allowed (pool H))) h in a.1
able_limit H _ h = refl

able_line : (H : List Event) (m : Move) → is_able (journal H) (pool H) m ≡ true → keeps_line H (Pool m) ≡ true
able_line H (Back c) h = lines_alone H (place H c) (opening_place (place H c) h)
able_line H (CloseStart c why) h = lines_alone H (place H c) (unlent_place (place H c) h)
able_line H _ h = refl

able_journals : (H : List Event) (m : Move) → is_able (journal H) (pool H) m ≡ true → keeps_journals H (Pool m) ≡ true
able_journals H (Back c) h = wholes_alone H c (place H c) (opening_place (place H c) h)
able_journals H (CloseStart c why) h = wholes_alone H c (place H c) (unlent_place (place H c) h)
able_journals H (Gone c) h = let a = both (is_closing (place H c)) (is_whole (journal H c)) h in a.1
able_journals H (Fell c n) h = let a = both (is_opening (place H c)) (is_whole (journal H c)) h in a.1
able_journals H _ h = refl

owed_asking : (H : List Event) (m : Move) → is_owed H ≡ true → keeps_asking H (Pool m) ≡ true
owed_asking H (OpenStart c n) h = or_first (is_owed H) (is_asked_for H n (OpenStart c n)) h
owed_asking H (Lend c t o n) h = or_first (is_owed H) (is_asked_for H n (Lend c t o n)) h
owed_asking H _ h = refl

owed_causes : (H : List Event) (m : Move) → is_owed H ≡ true → keeps_causes H (Pool m) ≡ true
owed_causes H (Back c) h = or_first (is_owed H) (is_given_back H c (Back c)) h
owed_causes H (CloseStart c why) h = or_first (is_owed H) (is_given_back H c (CloseStart c why)) h
owed_causes H (Gone c) h = h
owed_causes H (Fell c n) h = h
owed_causes H _ h = refl

owed_order : (H : List Event) (m : Move) (ms : List Move) → owed H ≡ m ∷ ms → keeps_order H (Pool m) ≡ true
owed_order H m ms is = ap (λ ns. follows ns (Pool m)) is ∙ move_itself m

-- The move that is owed first may come.
pub next_allowed : (H : List Event) (m : Move) (ms : List Move) → Lawful H → owed H ≡ m ∷ ms → Allowed H (Pool m)
unfolding Allowed
next_allowed H m ms l is =
    let all : are_able (journal H) (m ∷ ms) (pool H) ≡ true = subst (λ ns. are_able (journal H) ns (pool H) ≡ true) is (able H l) in
    let can = both (is_able (journal H) (pool H) m) (are_able (journal H) ms (moved m (pool H))) all in
    let owes = owing H m ms is in
    record {
      course = begun_owing H m ms is;
      numbers = refl;
      sets = able_sets H m can.0;
      limit = able_limit H m can.0;
      asking = owed_asking H m owes;
      order = owed_order H m ms is;
      causes = owed_causes H m owes;
      line = able_line H m can.0;
      journals = able_journals H m can.0;
      replies = refl;
    }

-- After the move that was owed first, the others are owed.
pub next_owed : (H : List Event) (m : Move) (ms : List Move) → owed H ≡ m ∷ ms → owed (Pool m ∷ H) ≡ ms
next_owed H m ms is = ap (left_of H m) is

pub all_lawful : (H : List Event) (ms : List Move) → Lawful H → owed H ≡ ms → Lawful (with_moves ms H)
all_lawful H [] l is = l
all_lawful H (m ∷ ms) l is = all_lawful (Pool m ∷ H) ms (l, next_allowed H m ms l is) (next_owed H m ms is)

pub owed_lawful : (H : List Event) → Lawful H → Lawful (with_moves (owed H) H)
owed_lawful H l = all_lawful H (owed H) l refl

all_made : (H : List Event) (ms : List Move) → owed H ≡ ms → owed (with_moves ms H) ≡ []
all_made H [] is = is
all_made H (m ∷ ms) is = all_made (Pool m ∷ H) ms (next_owed H m ms is)

pub owed_made : (H : List Event) → owed (with_moves (owed H) H) ≡ []
owed_made H = all_made H (owed H) refl

pub pool_made : (H : List Event) (ms : List Move) → are_own ms ≡ true → pool (with_moves ms H) ≡ made ms (pool H)
pool_made H [] own = refl
pool_made H (m ∷ ms) own =
    let a = both (is_own m) (are_own ms) own in
    pool_made (Pool m ∷ H) ms a.1 ∙ ap (made ms) (own_moved H m (pool H) a.0)

pub owed_pool : (H : List Event) → pool (with_moves (owed H) H) ≡ made (owed H) (pool H)
owed_pool H = pool_made H (owed H) (owed_own H)
