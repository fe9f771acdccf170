-- Proves that a connection which is lent to a call is one of the call's tries.
use Rattle.std.proofs.Common.{◌≡◌, ℕ, ◌+◌, ◌≤◌, ◌==◌, Bool, true, false, cond, List, [], ◌∷◌, length, ◌++◌, refl, Option, arith, ◌&&◌, sym, ap, ◌∙◌}
use Rattle.std.specs.Prelude.{count_by}
use Rattle.dsql_history.specs.journal.declared.entry.Owner.{Owner}
use Rattle.dsql_history.specs.pool.declared.conn.Conn.{Conn}
use Rattle.dsql_history.specs.pool.declared.conn.Place.{Place}
use Rattle.dsql_history.specs.pool.declared.conn.Place.TheVariants.{Idle, Lent}
use Rattle.dsql_history.specs.pool.Changes.{opening, unwanted, lent, back, closing}
use Rattle.dsql_history.specs.journal.Kinds.{number_of}
use Rattle.dsql_history.specs.pool.Pooled.{Pooled, next_number}
use Rattle.dsql_history.specs.pool.Moved.{shut}
use Rattle.dsql_history.proofs.pool.Frees.{count-more}
use Rattle.dsql_history.specs.declared.event.Control.{Control}
use Rattle.dsql_history.specs.declared.event.Setting.TheVariants.{MaxOpen}
use Rattle.dsql_history.specs.declared.event.Control.TheVariants.{Tick, Set}
use Rattle.dsql_history.specs.declared.record.Try.{Try}
use Rattle.dsql_history.specs.declared.record.Try.TheVariants.{Served, Refused}
use Rattle.dsql_history.specs.Readers.Pool.{with_control, pool, wanted_by}
use Rattle.dsql_history.specs.Readers.Tries.{lost, with_try, tries, newest_answer, loses}
use Rattle.dsql_laws.proofs.Counts.{mapped_fewer, changed_fewer, changed_one_more, gone_fewer}
use Rattle.dsql_history.specs.pool.declared.moves.Move.TheVariants.{OpenStart, Lend, Back, CloseStart, Gone, Fell}
use Rattle.dsql_history.specs.declared.event.Event.{Event}
use Rattle.dsql_history.specs.declared.event.Event.TheVariants.{Entered, Heard, Pool, Ticked, SetLimit, Ended}
use Rattle.dsql_history.specs.declared.event.Op.TheVariants.{DbClose}
use Rattle.dsql_history.specs.Readers.Works.{work}
use Rattle.dsql_history.specs.Rules.Moves.{moves_from, numbers_lending}
use Rattle.dsql_history.specs.Legal.{Allowed, Lawful}
use Rattle.dsql_laws.proofs.Tests.{both, same_number}

-- Is true if the connection is lent to an owner with number n.
abbrev pub is_lent_to : ℕ → Place → Bool
is_lent_to n (Lent tenure owner) = number_of owner == n
is_lent_to n _ = false

abbrev pub is_lent_out : ℕ → Conn → Bool
is_lent_out n x = is_lent_to n x.place

abbrev pub lent_count : ℕ → Pooled → ℕ
lent_count n p = count_by (is_lent_out n) p.conns

unlent : (n : ℕ) (x : Conn) → cond {A = ℕ} (is_lent_out n (unwanted x)) 1 0 ≤ cond {A = ℕ} (is_lent_out n x) 1 0
unlent n x = at x.place refl
  where
    at : (place : Place) → x.place ≡ place → cond {A = ℕ} (is_lent_out n (unwanted x)) 1 0 ≤ cond {A = ℕ} (is_lent_out n x) 1 0
    at Idle is = rw is (omega arith)
    at _ is = rw is (omega arith)

pub shut_fewer : (n : ℕ) (p : Pooled) → lent_count n (shut p) ≤ lent_count n p
shut_fewer n p = mapped_fewer (is_lent_out n) unwanted p.conns (unlent n)

pub begun_same : (n c : ℕ) (w : Option Owner) (conns : List Conn) → count_by (is_lent_out n) (conns ++ opening c w ∷ []) ≤ count_by (is_lent_out n) conns
begun_same n c w conns = let more = count-more (is_lent_out n) (opening c w) conns in omega (arith, more)

-- The number of tries stays the same if a try is lost.
pub lost_count : (b : Bool) (ts : List Try) → length (cond b (lost ts) ts) ≡ length ts
lost_count true (Served ∷ ts) = refl
lost_count _ _ = refl

pub same_control : (control : Control) (n : ℕ) (p : Pooled) → lent_count n (with_control control p) ≡ lent_count n p
same_control (Set MaxOpen k) n p = refl
same_control _ n p = refl

-- The call of a lending is its owner's number.
pub lends_to : (H : List Event) (c t : ℕ) (o : Owner) (n : ℕ) → Allowed H (Pool (Lend c t o n)) → n ≡ number_of o
unfolding Allowed
lends_to H c t o n a =
    let s = both (moves_from (pool H) (Lend c t o n)) (numbers_lending (pool H) (Lend c t o n)) a.sets in
    let m = both (t == _) (n == number_of o) s.1 in
    same_number n (number_of o) m.1

lent_one : (b : Bool) (had now : ℕ) (ts : List Try) → had ≤ length ts → (b ≡ false → now ≤ had) → now ≤ had + 1 → now ≤ length (with_try b Served ts)
lent_one true had now ts h k m = omega (arith, h, m)
lent_one false had now ts h k m = let few = k refl in omega (arith, h, few)

more_tries : (b : Bool) (t : Try) (now : ℕ) (ts : List Try) → now ≤ length ts → now ≤ length (with_try b t ts)
more_tries true t now ts h = omega (arith, h)
more_tries false t now ts h = h

pub lent_tried : (H : List Event) (n : ℕ) → Lawful H → lent_count n (pool H) ≤ length (tries H n)
lent_tried [] n l = omega arith
lent_tried (Entered client m DbClose ∷ H) n l = let rest = lent_tried H n l.0 in let few = shut_fewer n (pool H) in omega (arith, rest, few)
lent_tried (Heard e ∷ H) n l =
    let rest = lent_tried H n l.0 in
    let same = lost_count ((e.call_no == n) && loses (work H n) e) (tries H n) in
    omega (arith, rest, same)
lent_tried (Pool (OpenStart c m) ∷ H) n l = let rest = lent_tried H n l.0 in let same = begun_same n (next_number (pool H)) (wanted_by H m) (pool H).conns in omega (arith, rest, same)
lent_tried (Pool (Lend c t o m) ∷ H) n l =
    let rest = lent_tried H n l.0 in
    let whose = lends_to H c t o m l.1 in
    let other : (m == n) ≡ false → lent_count n (pool (Pool (Lend c t o m) ∷ H)) ≤ lent_count n (pool H) =
    λ not. changed_fewer (is_lent_out n) c (lent t o (pool H).moment) (pool H).conns (λ x. ap (λ k. k == n) (sym whose) ∙ not)
    in
    lent_one (m == n) (lent_count n (pool H)) (lent_count n (pool (Pool (Lend c t o m) ∷ H))) (tries H n) rest other (changed_one_more (is_lent_out n) c (lent t o (pool H).moment) (pool H).conns)
lent_tried (Pool (Back c) ∷ H) n l =
    let rest = lent_tried H n l.0 in
    let few = changed_fewer (is_lent_out n) c (back (pool H).moment) (pool H).conns (λ x. refl) in
    omega (arith, rest, few)
lent_tried (Pool (CloseStart c why) ∷ H) n l =
    let rest = lent_tried H n l.0 in
    let few = changed_fewer (is_lent_out n) c closing (pool H).conns (λ x. refl) in
    omega (arith, rest, few)
lent_tried (Pool (Gone c) ∷ H) n l = let rest = lent_tried H n l.0 in let few = gone_fewer (is_lent_out n) c (pool H).conns in omega (arith, rest, few)
lent_tried (Pool (Fell c m) ∷ H) n l =
    let rest = lent_tried H n l.0 in
    let few = gone_fewer (is_lent_out n) c (pool H).conns in
    more_tries (m == n) (Refused (newest_answer H)) (lent_count n (pool (Pool (Fell c m) ∷ H))) (tries H n) (omega (arith, rest, few))
lent_tried (Ticked now ∷ H) n l = let rest = lent_tried H n l.0 in let same = same_control (Tick now) n (pool H) in omega (arith, rest, same)
lent_tried (SetLimit s k ∷ H) n l = let rest = lent_tried H n l.0 in let same = same_control (Set s k) n (pool H) in omega (arith, rest, same)
lent_tried (Ended ∷ H) n l = let rest = lent_tried H n l.0 in let few = shut_fewer n (pool H) in omega (arith, rest, few)
lent_tried (_ ∷ H) n l = lent_tried H n l.0
