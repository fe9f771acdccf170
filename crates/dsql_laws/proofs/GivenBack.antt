-- Proves that the moves of a connection that is given back are allowed one after another. After the first move
-- the others are owed, and owed moves are allowed.
use Rattle.std.proofs.Common.{◌&&◌, ◌≡◌, ℕ, true, not, ◌||◌, List, [], ◌∷◌, refl, sym, ap, subst, ◌∙◌}
use Rattle.std.specs.Prelude.{drop}
use Rattle.dsql_history.specs.journal.Kinds.{is_house, number_of}
use Rattle.dsql_history.specs.pool.declared.moves.CloseCause.{CloseCause}
use Rattle.dsql_history.specs.pool.declared.moves.Move.{Move}
use Rattle.dsql_history.specs.pool.declared.moves.Move.TheVariants.{Back, CloseStart}
use Rattle.dsql_history.specs.pool.declared.moves.Outcome.{Outcome}
use Rattle.dsql_history.specs.pool.declared.moves.Outcome.TheVariants.{Closes, Serves, Rests}
use Rattle.dsql_history.specs.pool.Places.{is_idle, is_lent, is_opening}
use Rattle.dsql_history.specs.pool.Pooled.{next_tenure}
use Rattle.dsql_history.specs.pool.Moved.{made}
use Rattle.dsql_history.specs.pool.Decisions.{lends_to_oldest, moves_back, when_given_back}
use Rattle.dsql_history.specs.Same.{is_first}
use Rattle.dsql_history.specs.declared.event.Event.{Event}
use Rattle.dsql_history.specs.declared.event.Event.TheVariants.{Pool}
use Rattle.dsql_history.specs.Readers.Pool.{pool, place}
use Rattle.dsql_history.specs.Readers.Owed.{fate, given_back, left_of, owed}
use Rattle.dsql_history.specs.Rules.Causes.{goes_in_turn, is_owed, is_given_back}
use Rattle.dsql_history.specs.Rules.Course.{keeps_course}
use Rattle.dsql_history.specs.Rules.Journals.{leaves_whole}
use Rattle.dsql_history.specs.Rules.Line.{is_used, leaves_from}
use Rattle.dsql_history.specs.Rules.Order.{follows, keeps_order}
use Rattle.dsql_history.specs.Legal.{Allowed, Lawful}
use Rattle.dsql_laws.proofs.Tests.{together, move_itself}
use Rattle.dsql_laws.proofs.OwedMoves.{back_own}
use Rattle.dsql_laws.proofs.Truths.{or_second}
use Rattle.dsql_laws.specs.OwedMade.{with_moves}
use Rattle.dsql_laws.specs.Leaving.{MayLeave}
use Rattle.dsql_laws.proofs.OwedAllowed.{all_lawful, pool_made}

-- No connection is lent before the run began.
begun_lending : (H : List Event) (c : ℕ) (m : Move) → is_lent (place H c) ≡ true → keeps_course H (Pool m) ≡ true
begun_lending [] c m h = absurd cc
begun_lending (e ∷ H) c m h = refl

none_owed : (H : List Event) (m : Move) → owed H ≡ [] → keeps_order H (Pool m) ≡ true
none_owed H m none = ap (λ ms. follows ms (Pool m)) none

leaves_line : (H : List Event) (c : ℕ) → MayLeave H c → leaves_from H (place H c) ≡ true
leaves_line H c may =
    subst (λ at. leaves_from H at ≡ true) (sym may.lent)
    (together (not (is_house may.owner)) (not (is_used H (number_of may.owner))) (ap not may.owned) (ap not may.unused))

leaves_journal : (H : List Event) (c : ℕ) → MayLeave H c → leaves_whole H c (place H c) ≡ true
leaves_journal H c may = subst (λ at. leaves_whole H c at ≡ true) (sym may.lent) may.whole

lent_now : (H : List Event) (c : ℕ) → MayLeave H c → is_lent (place H c) ≡ true
lent_now H c may = ap is_lent may.lent

cause_now : (H : List Event) (c : ℕ) (m : Move) (ms : List Move) → MayLeave H c → given_back H c ≡ m ∷ ms → (is_owed H || is_given_back H c m) ≡ true
cause_now H c m ms may is =
    or_second (is_owed H) (is_given_back H c m)
    (together (is_lent (place H c)) (goes_in_turn H (place H c) && is_first (given_back H c) m) (lent_now H c may)
    (together (goes_in_turn H (place H c)) (is_first (given_back H c) m) may.turn (ap (λ ns. is_first ns m) is ∙ move_itself m)))

back_allowed : (H : List Event) (c : ℕ) (ms : List Move) → MayLeave H c → given_back H c ≡ Back c ∷ ms → Allowed H (Pool (Back c))
unfolding Allowed
back_allowed H c ms may is =
    let lent = lent_now H c may in
    record {
      course = begun_lending H c (Back c) lent;
      numbers = refl;
      sets = together (is_lent (place H c) || is_opening (place H c)) true (ap (λ b. b || is_opening (place H c)) lent) refl;
      limit = refl;
      asking = refl;
      order = none_owed H (Back c) may.owing;
      causes = cause_now H c (Back c) ms may is;
      line = leaves_line H c may;
      journals = leaves_journal H c may;
      replies = refl;
    }

close_allowed : (H : List Event) (c : ℕ) (why : CloseCause) (ms : List Move) → MayLeave H c → given_back H c ≡ CloseStart c why ∷ ms → Allowed H (Pool (CloseStart c why))
unfolding Allowed
close_allowed H c why ms may is =
    let lent = lent_now H c may in
    let out : (is_lent (place H c) || is_opening (place H c)) ≡ true = ap (λ b. b || is_opening (place H c)) lent in
    record {
      course = begun_lending H c (CloseStart c why) lent;
      numbers = refl;
      sets = together (is_idle (place H c) || (is_lent (place H c) || is_opening (place H c))) true (or_second (is_idle (place H c)) (is_lent (place H c) || is_opening (place H c)) out) refl;
      limit = refl;
      asking = refl;
      order = none_owed H (CloseStart c why) may.owing;
      causes = cause_now H c (CloseStart c why) ms may is;
      line = leaves_line H c may;
      journals = leaves_journal H c may;
      replies = refl;
    }

-- After the first move, the others are owed.
back_owed : (H : List Event) (c : ℕ) (ms : List Move) → owed H ≡ [] → given_back H c ≡ Back c ∷ ms → owed (Pool (Back c) ∷ H) ≡ ms
back_owed H c ms none is = ap (left_of H (Back c)) none ∙ ap (drop 1) is

close_owed : (H : List Event) (c : ℕ) (why : CloseCause) (ms : List Move) → owed H ≡ [] → given_back H c ≡ CloseStart c why ∷ ms → owed (Pool (CloseStart c why) ∷ H) ≡ ms
close_owed H c why ms none is = ap (left_of H (CloseStart c why)) none ∙ ap (drop 1) is

starts_back : (H : List Event) (c : ℕ) (ms : List Move) → Lawful H → MayLeave H c → given_back H c ≡ Back c ∷ ms → Lawful (with_moves (given_back H c) H)
starts_back H c ms l may is =
    subst (λ ns. Lawful (with_moves ns H)) (sym is) (all_lawful (Pool (Back c) ∷ H) ms (l, back_allowed H c ms may is) (back_owed H c ms may.owing is))

starts_closing : (H : List Event) (c : ℕ) (why : CloseCause) (ms : List Move) → Lawful H → MayLeave H c → given_back H c ≡ CloseStart c why ∷ ms → Lawful (with_moves (given_back H c) H)
starts_closing H c why ms l may is =
    subst (λ ns. Lawful (with_moves ns H)) (sym is) (all_lawful (Pool (CloseStart c why) ∷ H) ms (l, close_allowed H c why ms may is) (close_owed H c why ms may.owing is))

pub back_lawful : (H : List Event) (c : ℕ) → Lawful H → MayLeave H c → Lawful (with_moves (given_back H c) H)
back_lawful H c l may = by (when_given_back (fate H c) c (pool H)) refl
  where
    by : (o : Outcome) → when_given_back (fate H c) c (pool H) ≡ o → Lawful (with_moves (given_back H c) H)
    by (Closes why) is = starts_closing H c why [] l may (ap (moves_back c (pool H)) is)
    by Serves is = starts_back H c (lends_to_oldest c (next_tenure (pool H) c) (pool H).waiting) l may (ap (moves_back c (pool H)) is)
    by Rests is = starts_back H c [] l may (ap (moves_back c (pool H)) is)

pub back_pool : (H : List Event) (c : ℕ) → pool (with_moves (given_back H c) H) ≡ made (given_back H c) (pool H)
back_pool H c = pool_made H (given_back H c) (back_own c (pool H) (when_given_back (fate H c) c (pool H)))

all_made : (H : List Event) (ms : List Move) → owed H ≡ ms → owed (with_moves ms H) ≡ []
all_made H [] is = is
all_made H (m ∷ ms) is = all_made (Pool m ∷ H) ms (ap (left_of H m) is)

pub back_made : (H : List Event) (c : ℕ) → MayLeave H c → owed (with_moves (given_back H c) H) ≡ []
back_made H c may = by (when_given_back (fate H c) c (pool H)) refl
  where
    started : (ms : List Move) → given_back H c ≡ Back c ∷ ms → owed (with_moves (given_back H c) H) ≡ []
    started ms is = subst (λ ns. owed (with_moves ns H) ≡ []) (sym is) (all_made (Pool (Back c) ∷ H) ms (back_owed H c ms may.owing is))

    closing : (why : CloseCause) (ms : List Move) → given_back H c ≡ CloseStart c why ∷ ms → owed (with_moves (given_back H c) H) ≡ []
    closing why ms is = subst (λ ns. owed (with_moves ns H) ≡ []) (sym is) (all_made (Pool (CloseStart c why) ∷ H) ms (close_owed H c why ms may.owing is))

    by : (o : Outcome) → when_given_back (fate H c) c (pool H) ≡ o → owed (with_moves (given_back H c) H) ≡ []
    by (Closes why) is = closing why [] (ap (moves_back c (pool H)) is)
    by Serves is = started (lends_to_oldest c (next_tenure (pool H) c) (pool H).waiting) (ap (moves_back c (pool H)) is)
    by Rests is = started [] (ap (moves_back c (pool H)) is)
