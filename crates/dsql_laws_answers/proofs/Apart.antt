-- A move of a connection that is lent neither before nor after leaves each lent connection in use. It also
-- leaves each call standing somewhere, if the move isn't of that call.
use Rattle.std.proofs.Common.{◌≡◌, ◌≢◌, ℕ, ◌⊎◌, inl, inr, Bool, true, false, ◌&&◌, ◌||◌, cond, List, ◌∷◌, Option, Some, None, is_some, is_none, nat_le, refl, sym, ap, ◌∙◌, arith}
use Rattle.std.specs.Option.{option_map}
use Rattle.std.specs.Prelude.{find}
use Rattle.dsql_laws_calls.specs.journal.declared.entry.Owner.{Owner}
use Rattle.dsql_laws_calls.specs.journal.Kinds.{number_of}
use Rattle.dsql_laws_calls.specs.wait.Requests.{waits}
use Rattle.dsql_laws_calls.specs.pool.declared.conn.Conn.{Conn}
use Rattle.dsql_laws_calls.specs.pool.declared.conn.Place.{Place}
use Rattle.dsql_laws_calls.specs.pool.declared.conn.Place.TheVariants.{Idle, Lent, Opening, Closing}
use Rattle.dsql_laws_calls.specs.pool.declared.moves.Move.{Move}
use Rattle.dsql_laws_calls.specs.pool.Places.{conn_of, is_for, is_lent}
use Rattle.dsql_laws_calls.specs.history.Readers.Pool.{smallest, is_home, or_none, pool, place, home}
use Rattle.dsql_laws_calls.specs.history.Readers.Tries.{tries}
use Rattle.dsql_laws_calls.proofs.laws.Wanted.{is_opening_for, found_counts}
use Rattle.dsql_laws_calls.proofs.pool.Frees.{passing}
use Rattle.dsql_laws_calls.proofs.Found.{place_in, uses_in}
use Rattle.dsql_laws_others.proofs.Once.{all_found, found_number, found_some}
use Rattle.dsql_laws_others.proofs.Settling.{each_stands}
use Rattle.dsql_laws_calls.specs.history.declared.event.Event.{Event}
use Rattle.dsql_laws_calls.specs.history.declared.event.Event.TheVariants.{Pool}
use Rattle.dsql_laws_calls.specs.history.declared.work.Scope.{Scope}
use Rattle.dsql_laws_calls.specs.history.declared.work.Scope.TheVariants.{Db, Held}
use Rattle.dsql_laws_calls.specs.history.declared.work.Work.{Work}
use Rattle.dsql_laws_calls.specs.history.declared.work.Work.TheVariants.{Statement, Begin, End, Ping, Fetch, Close, Look}
use Rattle.dsql_laws_calls.specs.history.Readers.Calls.{site, decided, done_with, has_begun_to_send, told_by_tries, told_by_scope, told_of_work, told_by_others, asks_nothing, rests, rests_with}
use Rattle.dsql_laws_calls.specs.history.Readers.Course.{caps}
use Rattle.dsql_laws_calls.specs.history.Readers.Journals.{journal}
use Rattle.dsql_laws_calls.specs.history.Readers.Lines.{has_sent}
use Rattle.dsql_laws_calls.specs.history.Readers.Transactions.{is_begun, tx_end}
use Rattle.dsql_laws_calls.specs.history.Readers.Unfinished.{unfinished, is_unfinished}
use Rattle.dsql_laws_calls.specs.history.Readers.Works.{work, scope, borrower}
use Rattle.dsql_laws_calls.specs.history.Rules.Line.{is_used}
use Rattle.dsql_laws_calls.specs.history.Rules.Settled.{is_in_use, is_kept, uses_what_is_lent}
use Rattle.dsql_laws_calls.specs.history.Rules.Stands.{is_own_step, is_settled_for, stand}
use Rattle.dsql_laws_calls.specs.history.Legal.{Lawful}
use Rattle.dsql_laws_callers.proofs.Homes.{home_owner}
use Rattle.dsql_laws_calls.proofs.BeginningsAt.{beginnings}
use Rattle.dsql_laws_calls.proofs.Inside.{inside, inside_uses}
use Rattle.dsql_laws_calls.proofs.Owners.{at_home}
use Rattle.dsql_laws_calls.proofs.UnderWay.{clash}
use Rattle.dsql_laws_others.proofs.Homes.{HomeStays, HomeUnlent, HomesStay, due_moved, used_moved}
use Rattle.dsql_laws_others.proofs.Leaves.{lent_used}
use Rattle.dsql_laws_others.proofs.LentBeside.{LentAt, either_still, lent_or_not}
use Rattle.dsql_laws_others.proofs.OnceLeft.{once}
use Rattle.dsql_laws_others.proofs.Untouched.{still_stands}
use Rattle.dsql_laws_answers.proofs.Beside.{both_still}
use Rattle.dsql_laws_answers.proofs.Layer.{Carried}

pub record Unlent (H : List Event) (move : Move) (c : ℕ) : Type 0 where
  pub lawful : Lawful (Pool move ∷ H)
  pub before : is_lent (place H c) ≡ false
  pub after : is_lent (place (Pool move ∷ H) c) ≡ false
  pub beside : (d : ℕ) → d ≢ c → conn_of d (pool (Pool move ∷ H)).conns ≡ conn_of d (pool H).conns

lent_apart : (H : List Event) (c d : ℕ) → is_lent (place H c) ≡ false → LentAt (place H d) → d ≢ c
lent_apart H c d out a same = clash (sym (ap is_lent (ap (place H) (sym same) ∙ a.is)) ∙ out)

-- The connection of each call stays the same, or isn't lent before or after.

homes_stay : (H : List Event) (move : Move) (c : ℕ) → Unlent H move c → HomesStay H (Pool move ∷ H)
homes_stay H move c u n = by (lent_or_not (place H (home H n)))
  where
    K : List Event
    K = Pool move ∷ H

    stays : LentAt (place H (home H n)) → HomeStays H K n
    stays a =
        let beside = u.beside (home H n) (lent_apart H c (home H n) u.before a) in
        let number : number_of a.owner ≡ n = home_owner H n (home H n) a.tenure a.owner refl a.is in
        record {
          homes = ap (home K) (sym number) ∙ at_home K (home H n) a.tenure a.owner u.lawful (ap place_in beside ∙ a.is);
          places = ap place_in beside;
          resets = ap (λ o. (caps H).resetter && nat_le 2 (uses_in o)) beside;
        }

    after : is_lent (place H (home H n)) ≡ false → LentAt (place K (home K n)) → ⊥
    after out b =
        let l = u.lawful in
        let number : number_of b.owner ≡ n = home_owner K n (home K n) b.tenure b.owner refl b.is in
        let was = sym (ap place_in (u.beside (home K n) (lent_apart K c (home K n) u.after b))) ∙ b.is in
        let there : home H n ≡ home K n = ap (home H) (sym number) ∙ at_home H (home K n) b.tenure b.owner l.0 was in
        clash (sym (ap is_lent (ap (place H) there ∙ was)) ∙ out)

    unlent : is_lent (place H (home H n)) ≡ false → LentAt (place K (home K n)) ⊎ (is_lent (place K (home K n)) ≡ false) → HomeUnlent H K n
    unlent out (inl b) = absurd (after out b)
    unlent out (inr b) = record { before = out; after = b }

    by : LentAt (place H (home H n)) ⊎ (is_lent (place H (home H n)) ≡ false) → HomeStays H K n ⊎ HomeUnlent H K n
    by (inl a) = inl (stays a)
    by (inr out) = inr (unlent out (lent_or_not (place K (home K n))))

-- Lent connections are in use as before.

used_apart : (H : List Event) (move : Move) (c : ℕ) → Unlent H move c → ((d t : ℕ) (o : Owner) → place H d ≡ Some (Lent t o) → tries (Pool move ∷ H) (number_of o) ≡ tries H (number_of o)) → uses_what_is_lent H ≡ true
    → uses_what_is_lent (Pool move ∷ H) ≡ true
used_apart H move c u tried h = all_found (λ x. is_in_use K x.place) (pool K).conns (once K) each
  where
    K : List Event
    K = Pool move ∷ H

    kept : (d t : ℕ) (o : Owner) → place K d ≡ Some (Lent t o) → is_kept K (number_of o) ≡ true
    kept d t o at =
        let n = number_of o in
        let was : place H d ≡ Some (Lent t o) = sym (ap place_in (u.beside d (lent_apart K c d u.after (record { tenure = t; owner = o; is = at })))) ∙ at in
        ap (λ b. b || rests K n) (used_moved H move n (homes_stay H move c u))
        ∙ (ap (λ ts. is_used H n || (is_unfinished H n && asks_nothing (caps H) (work H n) ts)) (tried d t o was) ∙ lent_used H d t o h was)

    each : (x : Conn) → conn_of x.number (pool K).conns ≡ Some x → is_in_use K x.place ≡ true
    each x found = by x.place refl
      where
        by : (p : Place) → x.place ≡ p → is_in_use K p ≡ true
        by (Lent t o) is = kept x.number t o (ap place_in found ∙ ap Some is)
        by _ is = refl

-- Where each call stands.

-- What the move leaves of a call that it isn't of.
pub record Left (H : List Event) (move : Move) (c j : ℕ) : Type 0 where
  pub waits : waits j (pool H).waiting ≡ true → waits j (pool (Pool move ∷ H)).waiting ≡ true
  pub unopened : (p : Place) → place H c ≡ Some p → is_for j p ≡ false
  pub tried : tries (Pool move ∷ H) j ≡ tries H j
  pub step : is_own_step (Pool move ∷ H) j ≡ is_own_step H j

some_number : (o : Option Conn) → is_some (option_map (λ (x : Conn). x.number) o) ≡ is_some o
some_number None = refl
some_number (Some x) = refl

-- A search that doesn't find that connection finds what it found before.
found_still : (H : List Event) (move : Move) (c : ℕ) (test : Place → Bool) → Unlent H move c → ((p : Place) → place H c ≡ Some p → test p ≡ false) → is_some (smallest test (pool H)) ≡ true → is_some (smallest test (pool (Pool move ∷ H))) ≡ true
found_still H move c test u off h =
    some_number (find (λ (x : Conn). test x.place) (pool (Pool move ∷ H)).conns) ∙ by (find (λ (x : Conn). test x.place) (pool H).conns) refl (sym (some_number (find (λ (x : Conn). test x.place) (pool H).conns)) ∙ h)
  where
    by : (o : Option Conn) → find (λ (x : Conn). test x.place) (pool H).conns ≡ o → is_some o ≡ true → is_some (find (λ (x : Conn). test x.place) (pool (Pool move ∷ H)).conns) ≡ true
    by None is some = absurd cc
    by (Some x) is some =
        let f = found_number (λ (y : Conn). test y.place) (pool H).conns x (once H) is in
        let apart : x.number ≢ c = λ same. clash (sym f.1 ∙ off x.place (sym (ap (place H) same) ∙ ap place_in f.0)) in
        found_some (λ (y : Conn). test y.place) x.number (pool (Pool move ∷ H)).conns x (u.beside x.number apart ∙ f.0) f.1

-- A call that has begun a transaction and isn't lent a connection has none in any other way.
homeless : (H : List Event) (k : ℕ) → Lawful H → is_begun H k ≡ true → is_lent (place H (home H k)) ≡ false → home H k ≡ 0
homeless H k l begun out = by (find (λ (x : Conn). is_home k x.place) (pool H).conns) refl
  where
    not_home : (p : Place) → is_home k p ≡ true → is_lent (Some p) ≡ false → is_for k p ≡ true
    not_home (Lent t o) h x = absurd cc
    not_home _ h x = h

    by : (o : Option Conn) → find (λ (x : Conn). is_home k x.place) (pool H).conns ≡ o → or_none (option_map (λ (x : Conn). x.number) (find (λ (x : Conn). is_home k x.place) (pool H).conns)) ≡ 0
    by None is = ap (λ o. or_none (option_map (λ (x : Conn). x.number) o)) is
    by (Some x) is =
        let f = found_number (λ (y : Conn). is_home k y.place) (pool H).conns x (once H) is in
        let at : home H k ≡ x.number = ap (λ o. or_none (option_map (λ (y : Conn). y.number) o)) is in
        let unlent : is_lent (Some x.place) ≡ false = sym (ap is_lent (ap (place H) at ∙ ap place_in f.0)) ∙ out in
        let opens = not_home x.place f.1 unlent in
        absurd (wanted_not opens f.0)
      where
        wanted_not : is_for k x.place ≡ true → conn_of x.number (pool H).conns ≡ Some x → ⊥
        wanted_not opens found =
            let bg = beginnings H l in
            let none = bg.wants k begun in
            let counted = found_counts (is_opening_for k) x.number (pool H).conns in
            let one : passing (is_opening_for k) (conn_of x.number (pool H).conns) ≡ 1 = ap (passing (is_opening_for k)) found ∙ ap (λ (b : Bool). cond {A = ℕ} b 1 0) opens in
            absurd (omega (arith, none, counted, one))

-- A call in a transaction that has begun to send after the move had begun before.
begun_before : (H : List Event) (move : Move) (c m k : ℕ) → Unlent H move c → scope (work H m) ≡ Held k → has_begun_to_send (Pool move ∷ H) m ≡ true → has_begun_to_send H m ≡ true
begun_before H move c m k u is h = by (homes_stay H move c u k)
  where
    K : List Event
    K = Pool move ∷ H

    uses : borrower H m ≡ k
    uses = inside_uses H m k is

    same : home K k ≡ home H k → has_begun_to_send H m ≡ true
    same at = ap (λ d. has_sent m (journal H d)) (ap (home H) uses ∙ (sym at ∙ ap (home K) (sym uses))) ∙ h

    by : HomeStays H K k ⊎ HomeUnlent H K k → has_begun_to_send H m ≡ true
    by (inl s) = same s.homes
    by (inr n) =
        let l = u.lawful in
        let i = inside H l.0 in
        let begun = i.sent m k (site K m) h is in
        same (homeless K k l begun n.after ∙ sym (homeless H k l.0 begun n.before))

told_apart : (H : List Event) (move : Move) (c j : ℕ) → Unlent H move c → tries (Pool move ∷ H) j ≡ tries H j → is_some (told_by_others H j) ≡ true → is_some (told_by_others (Pool move ∷ H) j) ≡ true
told_apart H move c j u tried h = by (work H j) refl h
  where
    K : List Event
    K = Pool move ∷ H

    own : (w : Work) → is_some (told_by_tries H w (tries H j)) ≡ true → is_some (told_by_tries K w (tries K j)) ≡ true
    own w x = ap (λ ts. is_some (told_by_tries K w ts)) tried ∙ x

    fewer : (now was : Bool) (k : ℕ) → (now ≡ true → was ≡ true) → is_some (cond was None (done_with (tx_end H k))) ≡ true → is_some (cond now None (done_with (tx_end H k))) ≡ true
    fewer now true k f x = absurd cc
    fewer true false k f x = clash (sym (f refl))
    fewer false false k f x = x

    in_scope : (w : Work) (s : Scope) → scope (work H j) ≡ s → is_some (told_by_scope H j w s) ≡ true → is_some (told_by_scope K j w s) ≡ true
    in_scope w Db is x = own w x
    in_scope w (Held k) is x = fewer (has_begun_to_send K j) (has_begun_to_send H j) k (begun_before H move c j k u is) x

    by : (w : Work) → work H j ≡ w → is_some (told_of_work H j w) ≡ true → is_some (told_of_work K j w) ≡ true
    by (Fetch k) is x = x
    by (Close k) is x = x
    by (End k) is x = absurd cc
    by Look is x = absurd cc
    by (Statement s task) is x = in_scope (Statement s task) s (ap scope is) x
    by (Begin label level read_only) is x = own (Begin label level read_only) x
    by Ping is x = own Ping x

settled_apart : (H : List Event) (move : Move) (c j : ℕ) → Unlent H move c → Left H move c j → is_settled_for H j ≡ true → is_settled_for (Pool move ∷ H) j ≡ true
settled_apart H move c j u s h =
    either_still (is_some (rests_with H j)) (is_none (decided H j) && is_some (told_by_others H j)) (is_some (rests_with K j)) (is_none (decided H j) && is_some (told_by_others K j)) resting
    (both_still (is_none (decided H j)) (is_some (told_by_others H j)) (is_some (told_by_others K j)) (told_apart H move c j u s.tried)) h
  where
    K : List Event
    K = Pool move ∷ H

    elsewhere : (p : Place) → place H c ≡ Some p → is_home j p ≡ false
    elsewhere (Lent t o) at = clash (sym (ap is_lent at) ∙ u.before)
    elsewhere Idle at = s.unopened Idle at
    elsewhere (Opening o) at = s.unopened (Opening o) at
    elsewhere Closing at = s.unopened Closing at

    resting : is_some (rests_with H j) ≡ true → is_some (rests_with K j) ≡ true
    resting x =
        ap (λ ts. is_some (cond (is_unfinished H j && asks_nothing (caps H) (work H j) ts) (smallest (is_home j) (pool K)) None)) s.tried ∙ by (rests H j) x
      where
        by : (b : Bool) → is_some (cond b (smallest (is_home j) (pool H)) None) ≡ true → is_some (cond b (smallest (is_home j) (pool K)) None) ≡ true
        by true y = found_still H move c (is_home j) u elsewhere y
        by false y = absurd cc

stands_apart : (H : List Event) (move : Move) (c j : ℕ) → Unlent H move c → Left H move c j → is_some (stand H j) ≡ true → is_some (stand (Pool move ∷ H) j) ≡ true
stands_apart H move c j u s h =
    still_stands H (Pool move ∷ H) j s.tried s.waits (found_still H move c (is_for j) u s.unopened) (λ x. ap (λ d. is_some d) (due_moved H move j (homes_stay H move c u)) ∙ x) (λ x. sym s.step ∙ x)
    (settled_apart H move c j u s) h

pub apart_carried : (H : List Event) (move : Move) (c : ℕ) → Unlent H move c → ((d t : ℕ) (o : Owner) → place H d ≡ Some (Lent t o) → tries (Pool move ∷ H) (number_of o) ≡ tries H (number_of o))
    → ((j : ℕ) → is_unfinished H j ≡ true → Left H move c j ⊎ (is_some (stand (Pool move ∷ H) j) ≡ true)) → Carried H (Pool move ∷ H)
apart_carried H move c u tried left = record {
  used = used_apart H move c u tried;
  somewhere = λ k h. each_stands k k (unfinished H) H (Pool move ∷ H) (λ j unfinished_it apart was. by j (was apart) (left j unfinished_it)) h;
}
  where
    by : (j : ℕ) → is_some (stand H j) ≡ true → Left H move c j ⊎ (is_some (stand (Pool move ∷ H) j) ≡ true) → is_some (stand (Pool move ∷ H) j) ≡ true
    by j so (inl s) = stands_apart H move c j u s so
    by j so (inr now) = now
