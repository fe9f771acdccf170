-- Who waits, who is served, and what the figures count.
use Rattle.std.proofs.Common.{◌≡◌, ℕ, ◌+◌, ◌≤◌, Bool, true, false, not, ◌&&◌, cond, List, [], ◌∷◌, Option, Some, None, refl, ap, ◌∙◌, arith}
use Rattle.std.specs.Prelude.{count_by, nat_le, Ok, Err}
use Rattle.std.proofs.lemmas.List.Sums.{sum_by-append}
use Rattle.dsql_tenure_journal.specs.Readers.{is_empty}
use Rattle.dsql_wait.specs.declared.request.Request.{Request}
use Rattle.dsql_wait.specs.Requests.{request_of}
use Rattle.dsql_pool.specs.declared.conn.Place.{Place}
use Rattle.dsql_pool.specs.declared.moves.CloseCause.{CloseCause}
use Rattle.dsql_pool.specs.declared.moves.CloseCause.TheVariants as for
use Rattle.dsql_pool.specs.declared.moves.Move.{Move}
use Rattle.dsql_pool.specs.declared.moves.Move.TheVariants.{Lend, Back, CloseStart, Fell}
use Rattle.dsql_pool.specs.declared.request.Asked.TheVariants as asked
use Rattle.dsql_pool.specs.declared.request.AskFault.TheVariants.{TooMany}
use Rattle.dsql_pool.specs.declared.stats.Counts.{Counts}
use Rattle.dsql_pool.specs.Counted.{saturated, largest_total, closed_for, wait_over}
use Rattle.dsql_pool.specs.Pooled.{Pooled, open_count, next_number, next_tenure, is_limited, most_open, most_allowed}
use Rattle.dsql_pool.specs.Moved.{moved, made}
use Rattle.dsql_pool.specs.Decisions.{last, takes_idle, are_too_many, may_open, when_none_idle, lends_to_oldest, moves_back, moves_unwanted, when_opened, falls_to, oldest_call}
use Rattle.dsql_pool.specs.Laws.{WaitsOnlyAtTheLimit, ServesTheOldest, FiguresCountTheMoves, is_idle_full, is_idle_time, is_lifetime}
use Rattle.dsql_pool.proofs.Nearly.{true_le}
use Rattle.dsql_pool.proofs.Resting.{full_where_none_opens}
use Rattle.dsql_pool.proofs.Returning.{when_rests}

-- Holds of a request that waits.
record Waits (r : Request) (p : Pooled) : Type 0 where
  none_idle : takes_idle r p ≡ false
  all_open : most_allowed p ≤ open_count p
  still_open : p.closed ≡ false

waits_without : (r : Request) (p : Pooled) (many may : Bool) → p.closed ≡ false → takes_idle r p ≡ false → are_too_many p ≡ many → may_open p ≡ may → cond many (Err TooMany) (cond may (Ok (asked.Opening (next_number p))) (Ok asked.Queued)) ≡ Ok asked.Queued → Waits r p
waits_without r p true may o t e f h = cc
waits_without r p false true o t e f h = cc
waits_without r p false false o t e f h = record { none_idle = t; all_open = true_le (most_allowed p) (open_count p) (full_where_none_opens p e f); still_open = o }

waits_at : (r : Request) (p : Pooled) (closed takes : Bool) → p.closed ≡ closed → takes_idle r p ≡ takes → cond closed (Ok asked.Closed) (cond takes (Ok (asked.Lent (last p.idle) (next_tenure p (last p.idle)))) (when_none_idle p)) ≡ Ok asked.Queued → Waits r p
waits_at r p true takes o t h = cc
waits_at r p false true o t h = cc
waits_at r p false false o t h = waits_without r p (are_too_many p) (may_open p) o t refl refl h

many_are_open : (p : Pooled) → are_too_many p ≡ true → (is_limited p ≡ false) × (most_open ≤ open_count p)
many_are_open p h = (second (nat_le most_open (open_count p)) (is_limited p) h, true_le most_open (open_count p) (first (nat_le most_open (open_count p)) (is_limited p) h))
  where
    first : (a b : Bool) → (a && not b) ≡ true → a ≡ true
    first true b h = refl
    first false b h = cc

    second : (a b : Bool) → (a && not b) ≡ true → b ≡ false
    second true true h = cc
    second true false h = refl
    second false b h = cc

refused_without : (p : Pooled) (many may : Bool) → are_too_many p ≡ many → cond many (Err TooMany) (cond may (Ok (asked.Opening (next_number p))) (Ok asked.Queued)) ≡ Err TooMany → (is_limited p ≡ false) × (most_open ≤ open_count p)
refused_without p true may e h = many_are_open p e
refused_without p false true e h = cc
refused_without p false false e h = cc

refused_at : (p : Pooled) (closed takes : Bool) → cond closed (Ok asked.Closed) (cond takes (Ok (asked.Lent (last p.idle) (next_tenure p (last p.idle)))) (when_none_idle p)) ≡ Err TooMany → (is_limited p ≡ false) × (most_open ≤ open_count p)
refused_at p true takes h = cc
refused_at p false true h = cc
refused_at p false false h = refused_without p (are_too_many p) (may_open p) refl h

pub waits_only_at_the_limit : WaitsOnlyAtTheLimit
waits_only_at_the_limit = record {
  none_idle = λ r p h. (waits_at r p p.closed (takes_idle r p) refl refl h).none_idle;
  all_open = λ r p h. (waits_at r p p.closed (takes_idle r p) refl refl h).all_open;
  still_open = λ r p h. (waits_at r p p.closed (takes_idle r p) refl refl h).still_open;
  refused = λ r p h. refused_at p p.closed (takes_idle r p) h;
}

none_there : (rs : List Request) → is_empty rs ≡ true → rs ≡ []
none_there [] h = refl
none_there (r ∷ rs) h = cc

pub serves_the_oldest : ServesTheOldest
serves_the_oldest = record {
  given_back = λ fate c p r rs waits serves. ap (moves_back c p) serves ∙ ap (λ (ws : List Request). Back c ∷ lends_to_oldest c (next_tenure p c) ws) waits;
  opened = λ c p r rs waits place serves.
      ap (λ (o : Option Place). when_opened o c p) place
      ∙ (ap (moves_unwanted c p) serves ∙ ap (λ (ws : List Request). lends_to_oldest c (next_tenure p c) ws) waits);
  fell = λ c p r rs waits place. ap (λ (o : Option Place). falls_to o p) place ∙ ap oldest_call waits;
  joins_last = λ r p. refl;
  none_rests = λ expired p h. none_there p.waiting (when_rests expired p h).1.nobody;
}

counted : (test : Move → Bool) (m : Move) (ms : List Move) → count_by test (m ∷ ms) ≡ cond (test m) 1 0 + count_by test ms
counted test m ms = let split = sum_by-append (λ (n : Move). cond (test n) 1 0) (m ∷ []) ms in omega (arith, split)

-- A figure that counts each single move that passes a test counts all such moves of a list.
figure : (test : Move → Bool) (of : Counts → ℕ) → ((m : Move) (p : Pooled) → of p.counts ≤ largest_total → of (moved m p).counts ≡ saturated (of p.counts + cond (test m) 1 0)) → (ms : List Move) (p : Pooled) → of p.counts ≤ largest_total → of (made ms p).counts ≡ saturated (of p.counts + count_by test ms)
figure test of step [] p most = omega (arith, most)
figure test of step (m ∷ ms) p most =
    let here = step m p most in
    let within : of (moved m p).counts ≤ largest_total = omega (arith, here) in
    let rest = figure test of step ms (moved m p) within in
    let all = counted test m ms in
    omega (arith, here, rest, all, most)

over_idle_full : (moment : ℕ) (o : Option Request) (counts : Counts) → (wait_over moment o counts).idle_full ≡ counts.idle_full
over_idle_full moment None counts = refl
over_idle_full moment (Some r) counts = refl

closed_idle_full : (c : ℕ) (cause : CloseCause) (counts : Counts) → counts.idle_full ≤ largest_total → (closed_for cause counts).idle_full ≡ saturated (counts.idle_full + cond (is_idle_full (CloseStart c cause)) 1 0)
closed_idle_full c for.IdleFull counts most = refl
closed_idle_full c _ counts most = omega (arith, most)

step_idle_full : (m : Move) (p : Pooled) → p.counts.idle_full ≤ largest_total → (moved m p).counts.idle_full ≡ saturated (p.counts.idle_full + cond (is_idle_full m) 1 0)
step_idle_full (Lend c tenure owner n) p most = let same = over_idle_full p.moment (request_of n p.waiting) p.counts in omega (arith, most, same)
step_idle_full (CloseStart c cause) p most = closed_idle_full c cause p.counts most
step_idle_full (Fell c n) p most = let same = over_idle_full p.moment (request_of n p.waiting) p.counts in omega (arith, most, same)
step_idle_full _ p most = omega (arith, most)

over_idle_time : (moment : ℕ) (o : Option Request) (counts : Counts) → (wait_over moment o counts).idle_time ≡ counts.idle_time
over_idle_time moment None counts = refl
over_idle_time moment (Some r) counts = refl

closed_idle_time : (c : ℕ) (cause : CloseCause) (counts : Counts) → counts.idle_time ≤ largest_total → (closed_for cause counts).idle_time ≡ saturated (counts.idle_time + cond (is_idle_time (CloseStart c cause)) 1 0)
closed_idle_time c for.IdleTime counts most = refl
closed_idle_time c _ counts most = omega (arith, most)

step_idle_time : (m : Move) (p : Pooled) → p.counts.idle_time ≤ largest_total → (moved m p).counts.idle_time ≡ saturated (p.counts.idle_time + cond (is_idle_time m) 1 0)
step_idle_time (Lend c tenure owner n) p most = let same = over_idle_time p.moment (request_of n p.waiting) p.counts in omega (arith, most, same)
step_idle_time (CloseStart c cause) p most = closed_idle_time c cause p.counts most
step_idle_time (Fell c n) p most = let same = over_idle_time p.moment (request_of n p.waiting) p.counts in omega (arith, most, same)
step_idle_time _ p most = omega (arith, most)

over_lifetime : (moment : ℕ) (o : Option Request) (counts : Counts) → (wait_over moment o counts).lifetime ≡ counts.lifetime
over_lifetime moment None counts = refl
over_lifetime moment (Some r) counts = refl

closed_lifetime : (c : ℕ) (cause : CloseCause) (counts : Counts) → counts.lifetime ≤ largest_total → (closed_for cause counts).lifetime ≡ saturated (counts.lifetime + cond (is_lifetime (CloseStart c cause)) 1 0)
closed_lifetime c for.Lifetime counts most = refl
closed_lifetime c _ counts most = omega (arith, most)

step_lifetime : (m : Move) (p : Pooled) → p.counts.lifetime ≤ largest_total → (moved m p).counts.lifetime ≡ saturated (p.counts.lifetime + cond (is_lifetime m) 1 0)
step_lifetime (Lend c tenure owner n) p most = let same = over_lifetime p.moment (request_of n p.waiting) p.counts in omega (arith, most, same)
step_lifetime (CloseStart c cause) p most = closed_lifetime c cause p.counts most
step_lifetime (Fell c n) p most = let same = over_lifetime p.moment (request_of n p.waiting) p.counts in omega (arith, most, same)
step_lifetime _ p most = omega (arith, most)

over_waits : (moment : ℕ) (o : Option Request) (counts : Counts) → (wait_over moment o counts).waits ≡ counts.waits
over_waits moment None counts = refl
over_waits moment (Some r) counts = refl

closed_waits : (cause : CloseCause) (counts : Counts) → (closed_for cause counts).waits ≡ counts.waits
closed_waits for.Bad counts = refl
closed_waits _ counts = refl

step_waits : (m : Move) (p : Pooled) → (moved m p).counts.waits ≡ p.counts.waits
step_waits (Lend c tenure owner n) p = over_waits p.moment (request_of n p.waiting) p.counts
step_waits (CloseStart c cause) p = closed_waits cause p.counts
step_waits (Fell c n) p = over_waits p.moment (request_of n p.waiting) p.counts
step_waits _ p = refl

made_waits : (ms : List Move) (p : Pooled) → (made ms p).counts.waits ≡ p.counts.waits
made_waits [] p = refl
made_waits (m ∷ ms) p = made_waits ms (moved m p) ∙ step_waits m p

pub figures_count_the_moves : FiguresCountTheMoves
figures_count_the_moves = record {
  idle_full = figure is_idle_full (λ counts. counts.idle_full) step_idle_full;
  idle_time = figure is_idle_time (λ counts. counts.idle_time) step_idle_time;
  lifetime = figure is_lifetime (λ counts. counts.lifetime) step_lifetime;
  waits = made_waits;
  joined = λ r p. refl;
}
