-- The argument that the pool is at rest after each call, by the move that each makes.
use Rattle.std.proofs.Common.{◌≡◌, ℕ, zero, suc, ◌-◌, ◌<◌, Bool, true, false, not, ◌&&◌, ◌||◌, eqb, cond, List, [], ◌∷◌, ◌++◌, length, get_or, Option, Some, None, refl, sym, ap, ◌∙◌, subst, arith, length-append}
use Rattle.std.specs.Prelude.{Ok, Err, nat_le}
use Rattle.std.specs.List.{list_all}
use Rattle.std.specs.Option.{option_map}
use Rattle.std.proofs.lemmas.Bool.{eq-eqb}
use Rattle.std.proofs.lemmas.Bool.Decides.{nat_tests}
use Rattle.std.proofs.lemmas.List.Folds.{list_all-append}
use Rattle.dsql_tenure_journal.specs.declared.entry.Owner.{Owner}
use Rattle.dsql_tenure_journal.specs.declared.entry.Owner.TheVariants.{House}
use Rattle.dsql_tenure_journal.specs.Readers.{is_empty}
use Rattle.dsql_time.specs.Limits.{has_expired}
use Rattle.dsql_wait.specs.declared.request.Request.{Request}
use Rattle.dsql_pool.specs.declared.conn.Place.{Place}
use Rattle.dsql_pool.specs.declared.conn.Place.TheVariants.{Lent, Opening, Closing}
use Rattle.dsql_pool.specs.declared.conn.Conn.{Conn}
use Rattle.dsql_pool.specs.declared.moves.Fate.{Fate}
use Rattle.dsql_pool.specs.declared.moves.Fate.TheVariants as fate
use Rattle.dsql_pool.specs.declared.moves.CloseCause.{CloseCause}
use Rattle.dsql_pool.specs.declared.moves.CloseCause.TheVariants as for
use Rattle.dsql_pool.specs.declared.moves.Move.{Move}
use Rattle.dsql_pool.specs.declared.moves.Move.TheVariants.{Lend, CloseStart, Gone, Fell}
use Rattle.dsql_pool.specs.declared.moves.Outcome.{Outcome}
use Rattle.dsql_pool.specs.declared.moves.Outcome.TheVariants.{Closes, Serves, Rests}
use Rattle.dsql_pool.specs.declared.request.Asked.TheVariants as asked
use Rattle.dsql_pool.specs.declared.request.AskFault.TheVariants.{TooMany}
use Rattle.dsql_pool.specs.Places.{conn_of, is_idle, is_lent, is_opening, is_closing, is_free}
use Rattle.dsql_tenure_journal.specs.Kinds.{number_of}
use Rattle.dsql_pool.specs.Changes.{opening, opened_at, gone}
use Rattle.dsql_pool.specs.Pooled.{Pooled, place_at, open_count, free_openings, next_number, next_tenure, most_allowed, most_open}
use Rattle.dsql_pool.specs.Moved.{moved, made, begun, joined}
use Rattle.dsql_pool.specs.Decisions.{last, takes_idle, are_too_many, may_open, when_none_idle, when_good, when_given_back, is_expired, moves_back, moves_unwanted, when_opened, falls_to, openings_for_waiting}
use Rattle.dsql_pool.specs.Calls.{after_asked, asks, moves_opened, moves_failed, moves_given_back, moves_gone}
use Rattle.dsql_pool.specs.Rest.{AtRest, times}
use Rattle.dsql_pool.proofs.Due.{made_append, allowed_most}
use Rattle.dsql_pool.proofs.Lawful.{may_open_one}
use Rattle.dsql_pool.proofs.Placed.{placed_gone, placed_more}
use Rattle.dsql_pool.proofs.Young.{member_is_idle, young_gone, young_more}
use Rattle.dsql_pool.proofs.Frees.{passing, count-more, length-gone, enough_kept}
use Rattle.dsql_pool.proofs.Leaving.{free}
use Rattle.dsql_pool.proofs.Nearly.{Nearly, wholly, young_at, le_true, or_kept, or_left, or_right, and_kept, empty_filter, opened_rests}
use Rattle.dsql_pool.proofs.Rows.{all_filter}
use Rattle.dsql_pool.proofs.Stepping.{kept_many, lend_rests, lend_enough, serve_enough, close_rests, close_enough, close_enough_still}
use Rattle.dsql_pool.proofs.Returning.{when_rests, when_serves, when_closes, back_rests, served_rests}
use Rattle.dsql_pool.proofs.Settling as settling

-- A place that was found is the place of a connection.
found_at : (o : Option Conn) (place : Place) → option_map (λ x. x.place) o ≡ Some place → (x : Conn) × (o ≡ Some x) × (x.place ≡ place)
found_at None place e = cc
found_at (Some x) place e = let same : x.place ≡ place = cc in (x, refl, same)

passes_none : (p : Pooled) (c : ℕ) (place : Place) → place_at p c ≡ Some place → is_free place ≡ false → passing free (conn_of c p.conns) ≡ 0
passes_none p c place e not_free =
    let x = found_at (conn_of c p.conns) place e in
    ap (passing free) x.1 ∙ (ap (λ (l : Place). cond {A = ℕ} (is_free l) 1 0) x.2 ∙ ap (λ (b : Bool). cond {A = ℕ} b 1 0) not_free)

-- A number taken from a list stands in it.
stands : (ns : List ℕ) (i : ℕ) → i < length ns → times (get_or ns i 0) ns ≡ 0 → ⊥
stands [] i within none = omega (arith, within)
stands (n ∷ ns) zero within none = let first : times n (n ∷ ns) ≡ suc (times n ns) = ap (λ (b : Bool). cond b (suc (times n ns)) (times n ns)) (eq-eqb n n refl) in omega (arith, first, none)
stands (n ∷ ns) (suc i) within none =
    let d = get_or ns i 0 in
    stands ns i (omega (arith, within)) (elim (eqb n d) as (λ b. cond b (suc (times d ns)) (times d ns) ≡ 0 → times d ns ≡ 0) [ true ↦ λ z. absurd (omega (arith, z)) | false ↦ λ z. z ] none)

last_stands : (ns : List ℕ) → is_empty ns ≡ false → times (last ns) ns ≡ 0 → ⊥
last_stands [] h none = cc
last_stands (n ∷ ns) h none = stands (n ∷ ns) (length (n ∷ ns) - 1) (omega arith) none

takes_some : (r : Request) (p : Pooled) → takes_idle r p ≡ true → is_empty p.idle ≡ false
takes_some r p h = second (not r.last) (is_empty p.idle) h
  where
    second : (a b : Bool) → (a && not b) ≡ true → b ≡ false
    second true true h = cc
    second true false h = refl
    second false b h = cc

pub full_where_none_opens : (p : Pooled) → are_too_many p ≡ false → may_open p ≡ false → nat_le (most_allowed p) (open_count p) ≡ true
full_where_none_opens p few may = grind (arith, nat_tests, few, may)

-- The pool is at rest after an opening has begun for a request.
begun_rests : (owner : Owner) (p : Pooled) → AtRest p → are_too_many p ≡ false → may_open p ≡ true → AtRest (begun (Some owner) p)
begun_rests owner p h few may =
    let q = begun (Some owner) p in
    let more = length-append p.conns (opening (next_number p) (Some owner) ∷ []) in
    let left = may_open_one p few may in
    let most = allowed_most p in
    let frees = count-more free (opening (next_number p) (Some owner)) p.conns in
    wholly q
    (record {
      placed = placed_more (next_number p) (Some owner) p.idle p.conns h.placed;
      most = le_true (open_count q) most_open (omega (arith, more, left, most));
      served = h.served;
      few = h.few;
      young = young_more p.limits p.moment (next_number p) (Some owner) p.conns (young_at p h);
      none = h.none;
    })
    (enough_kept (length p.waiting) (free_openings p) (most_allowed p) (open_count p) (length p.waiting) (free_openings q) (most_allowed q) (open_count q) h.enough (omega (arith, frees)) (omega (arith, more)))

waits_rightly : (r : Request) (p : Pooled) → takes_idle r p ≡ false → (is_empty p.idle || list_all (λ s. s.last) p.waiting) ≡ true → (is_empty p.idle || list_all (λ s. s.last) (p.waiting ++ r ∷ [])) ≡ true
waits_rightly r p takes served =
    elim (is_empty p.idle) as (λ b. (not r.last && not b) ≡ false → (b || list_all (λ s. s.last) p.waiting) ≡ true → (b || list_all (λ s. s.last) (p.waiting ++ r ∷ [])) ≡ true) [
      | true ↦ λ t s. refl
      | false ↦ λ t s. list_all-append (λ (q : Request). q.last) p.waiting (r ∷ []) ∙ and_last (list_all (λ q. q.last) p.waiting) r.last s t
    ] takes served
  where
    and_last : (a b : Bool) → a ≡ true → (not b && true) ≡ false → (a && (b && true)) ≡ true
    and_last true true h t = refl
    and_last true false h t = cc
    and_last false b h t = cc

-- The pool is at rest after a request has joined those that wait.
joined_rests : (r : Request) (p : Pooled) → AtRest p → p.closed ≡ false → takes_idle r p ≡ false → nat_le (most_allowed p) (open_count p) ≡ true → AtRest (joined r p)
joined_rests r p h open_still takes full =
    wholly (joined r p)
    (record {
      placed = h.placed;
      most = h.most;
      served = waits_rightly r p takes h.served;
      few = h.few;
      young = young_at p h;
      none = or_left (not p.closed) (is_empty p.idle && is_empty (p.waiting ++ r ∷ [])) (ap not open_still);
    })
    (or_right (nat_le (length (p.waiting ++ r ∷ [])) (free_openings p)) (nat_le (most_allowed p) (open_count p)) full)

none_idle_rests : (r : Request) (p : Pooled) → AtRest p → p.closed ≡ false → takes_idle r p ≡ false → AtRest (after_asked r (when_none_idle p) p)
none_idle_rests r p h open_still takes =
    elim (are_too_many p) as (λ b. are_too_many p ≡ b → AtRest (after_asked r (cond b (Err TooMany) (cond (may_open p) (Ok (asked.Opening (next_number p))) (Ok asked.Queued))) p)) [
      | true ↦ λ many. h
      | false ↦ λ few.
          elim (may_open p) as (λ b. may_open p ≡ b → AtRest (after_asked r (cond b (Ok (asked.Opening (next_number p))) (Ok asked.Queued)) p)) [
            | true ↦ λ may. begun_rests r.owner p h few may
            | false ↦ λ may_not. joined_rests r p h open_still takes (full_where_none_opens p few may_not)
          ] refl
    ] refl

pub asked_rests : (r : Request) (p : Pooled) → AtRest p → AtRest (asks r p)
asked_rests r p h =
    elim p.closed as (λ b. p.closed ≡ b → AtRest (after_asked r (cond b (Ok asked.Closed) (cond (takes_idle r p) (Ok (asked.Lent (last p.idle) (next_tenure p (last p.idle)))) (when_none_idle p))) p)) [
      | true ↦ λ closed. h
      | false ↦ λ open_still.
          elim (takes_idle r p) as (λ b. takes_idle r p ≡ b → AtRest (after_asked r (cond b (Ok (asked.Lent (last p.idle) (next_tenure p (last p.idle)))) (when_none_idle p)) p)) [
            | true ↦ λ takes.
                let c = last p.idle in
                let is = member_is_idle p.idle p.conns c h.placed (last_stands p.idle (takes_some r p takes)) in
                lend_rests c (next_tenure p c) r.call r.owner p h (lend_enough c (next_tenure p c) r.call r.owner p h (settling.idle_not_free (conn_of c p.conns) is))
            | false ↦ λ takes. none_idle_rests r p h open_still takes
          ] refl
    ] refl

-- The pool is at rest after a connection that was opened and isn't wanted was placed.
unwanted_rests : (c : ℕ) (x : Conn) (p : Pooled) (outcome : Outcome) → AtRest p → conn_of c p.conns ≡ Some x → x.place ≡ Opening None → when_good false p ≡ outcome → AtRest (made (moves_unwanted c p outcome) p)
unwanted_rests c x p (Closes cause) h found at e = close_rests c cause p h (close_enough_still c cause p (when_closes cause p h e))
unwanted_rests c x p Serves h found at e = served p.waiting refl
  where
    served : (ws : List Request) → p.waiting ≡ ws → AtRest (made (moves_unwanted c (record p { waiting = ws }) Serves) p)
    served [] waits = h
    served (r ∷ rs) waits = lend_rests c (next_tenure p c) r.call r.owner p h (serve_enough c (next_tenure p c) r.owner p r rs waits h)
unwanted_rests c x p Rests h found at e =
    let keeps = when_rests false p e in
    let now : opened_at p.moment x ≡ p.moment = ap (λ (l : Place). cond (is_opening (Some l)) p.moment x.created) at in
    back_rests c x p h found (ap (λ (l : Place). is_idle (Some l)) at) keeps.1 (ap (λ m. has_expired m p.limits.lifetime p.moment) now ∙ never p.limits.lifetime p.moment)
  where
    never : (life moment : ℕ) → has_expired moment life moment ≡ false
    never life moment = grind (arith, nat_tests)

pub opened_call_rests : (c : ℕ) (p : Pooled) → AtRest p → is_opening (place_at p c) ≡ true → AtRest (made (moves_opened c p) p)
opened_call_rests c p h may = placed (place_at p c) refl may
  where
    placed : (o : Option Place) → place_at p c ≡ o → is_opening o ≡ true → AtRest (made (when_opened o c p) p)
    placed (Some (Opening (Some owner))) e k =
        lend_rests c (next_tenure p c) (number_of owner) owner p h (lend_enough c (next_tenure p c) (number_of owner) owner p h (passes_none p c (Opening (Some owner)) e refl))
    placed (Some (Opening None)) e k =
        let x = found_at (conn_of c p.conns) (Opening None) e in
        unwanted_rests c x.0 p (when_good false p) h x.1 x.2 refl
    placed _ e k = cc

-- The pool is at rest after a lent connection that nothing is said against was placed.
good_rests : (c : ℕ) (x : Conn) (p : Pooled) (expired : Bool) (outcome : Outcome) (tenure : ℕ) (owner : Owner) → AtRest p → conn_of c p.conns ≡ Some x → x.place ≡ Lent tenure owner → is_expired p (conn_of c p.conns) ≡ expired → when_good expired p ≡ outcome → AtRest (made (moves_back c p outcome) p)
good_rests c x p expired (Closes cause) tenure owner h found at old e =
    close_rests c cause p h (close_enough c cause p h (ap (passing free) found ∙ ap (λ (l : Place). cond {A = ℕ} (is_free l) 1 0) at))
good_rests c x p expired Serves tenure owner h found at old e = served p.waiting refl (when_serves expired p e).1
  where
    served : (ws : List Request) → p.waiting ≡ ws → is_empty ws ≡ false → AtRest (made (moves_back c (record p { waiting = ws }) Serves) p)
    served [] waits some = cc
    served (r ∷ rs) waits some = served_rests c (next_tenure p c) r.owner x r rs p waits h found (ap (λ (l : Place). is_idle (Some l)) at) (ap is_free at) (when_serves expired p e).0
good_rests c x p expired Rests tenure owner h found at old e =
    let keeps = when_rests expired p e in
    let made_then : opened_at p.moment x ≡ x.created = ap (λ (l : Place). cond (is_opening (Some l)) p.moment x.created) at in
    back_rests c x p h found (ap (λ (l : Place). is_idle (Some l)) at) keeps.1
    (ap (λ m. has_expired m p.limits.lifetime p.moment) made_then ∙ (ap (is_expired p) (sym found) ∙ (old ∙ keeps.0)))

bad_rests : (c : ℕ) (cause : CloseCause) (p : Pooled) (tenure : ℕ) (owner : Owner) → AtRest p → place_at p c ≡ Some (Lent tenure owner) → AtRest (moved (CloseStart c cause) p)
bad_rests c cause p tenure owner h e = close_rests c cause p h (close_enough c cause p h (passes_none p c (Lent tenure owner) e refl))

by_fate : (fated : Fate) (c : ℕ) (p : Pooled) (tenure : ℕ) (owner : Owner) → AtRest p → place_at p c ≡ Some (Lent tenure owner) → AtRest (made (moves_given_back fated c p) p)
by_fate fate.Bad c p tenure owner h e = bad_rests c for.Bad p tenure owner h e
by_fate fate.Invalid c p tenure owner h e = bad_rests c for.Invalid p tenure owner h e
by_fate fate.Discarded c p tenure owner h e = bad_rests c for.Discarded p tenure owner h e
by_fate fate.Good c p tenure owner h e =
    let x = found_at (conn_of c p.conns) (Lent tenure owner) e in
    good_rests c x.0 p (is_expired p (conn_of c p.conns)) (when_given_back fate.Good c p) tenure owner h x.1 x.2 refl refl

pub given_back_rests : (fated : Fate) (c : ℕ) (p : Pooled) → AtRest p → is_lent (place_at p c) ≡ true → AtRest (made (moves_given_back fated c p) p)
given_back_rests fated c p h may = placed (place_at p c) refl may
  where
    placed : (o : Option Place) → place_at p c ≡ o → is_lent o ≡ true → AtRest (made (moves_given_back fated c p) p)
    placed (Some (Lent tenure owner)) e k = by_fate fated c p tenure owner h e
    placed _ e k = cc

pub house_rests : (c tenure : ℕ) (p : Pooled) → AtRest p → is_idle (place_at p c) ≡ true → AtRest (moved (Lend c tenure House 0) p)
house_rests c tenure p h may = lend_rests c tenure 0 House p h (lend_enough c tenure 0 House p h (settling.idle_not_free (conn_of c p.conns) may))

-- After a connection that isn't idle has gone, the pool is at rest except for openings that are due.
gone_nearly : (c n : ℕ) (p : Pooled) → AtRest p → is_idle (place_at p c) ≡ false → Nearly (moved (Fell c n) p)
gone_nearly c n p h busy =
    let q = moved (Fell c n) p in
    record {
      placed = placed_gone c p.idle p.conns busy h.placed;
      most = kept_many p (length (gone c p.conns)) (length-gone c p.conns) h.most;
      served = or_kept (is_empty p.idle) (list_all (λ r. r.last) p.waiting) (is_empty p.idle) (list_all (λ r. r.last) q.waiting) h.served (λ k. k) (all_filter (λ (r : Request). r.last) (λ (r : Request). not (eqb r.call n)) p.waiting);
      few = h.few;
      young = young_gone p.limits p.moment c p.conns (young_at p h);
      none = or_kept (not p.closed) (is_empty p.idle && is_empty p.waiting) (not p.closed) (is_empty p.idle && is_empty q.waiting) h.none (λ k. k) (λ k. and_kept (is_empty p.idle) (is_empty p.waiting) (is_empty p.idle) (is_empty q.waiting) k (λ m. m) (empty_filter (λ (r : Request). not (eqb r.call n)) p.waiting));
    }

shut_nearly : (c : ℕ) (p : Pooled) → AtRest p → is_idle (place_at p c) ≡ false → Nearly (moved (Gone c) p)
shut_nearly c p h busy =
    record {
      placed = placed_gone c p.idle p.conns busy h.placed;
      most = kept_many p (length (gone c p.conns)) (length-gone c p.conns) h.most;
      served = h.served;
      few = h.few;
      young = young_gone p.limits p.moment c p.conns (young_at p h);
      none = h.none;
    }

busy_opening : (o : Option Place) → is_opening o ≡ true → is_idle o ≡ false
busy_opening (Some (Opening wanted)) h = refl
busy_opening _ h = cc

busy_closing : (o : Option Place) → is_closing o ≡ true → is_idle o ≡ false
busy_closing (Some Closing) h = refl
busy_closing _ h = cc

-- The pool is at rest after moves and the openings that they leave due.
pub then_rests : (ms : List Move) (p : Pooled) → Nearly (made ms p) → AtRest (made (ms ++ openings_for_waiting (made ms p)) p)
then_rests ms p h = subst AtRest (sym (made_append ms (openings_for_waiting (made ms p)) p)) (opened_rests (made ms p) h)

pub failed_rests : (c : ℕ) (p : Pooled) → AtRest p → is_opening (place_at p c) ≡ true → AtRest (made (moves_failed c p) p)
failed_rests c p h may = then_rests (Fell c (falls_to (place_at p c) p) ∷ []) p (gone_nearly c (falls_to (place_at p c) p) p h (busy_opening (place_at p c) may))

pub gone_rests : (c : ℕ) (p : Pooled) → AtRest p → is_closing (place_at p c) ≡ true → AtRest (made (moves_gone c p) p)
gone_rests c p h may = then_rests (Gone c ∷ []) p (shut_nearly c p h (busy_closing (place_at p c) may))
