-- What the close of the database leaves of the connections and of what is sent there: a lent connection stays
-- lent.
use Rattle.std.proofs.Common.{◌≡◌, ℕ, ◌⊎◌, inl, inr, Bool, true, false, ◌&&◌, List, [], ◌∷◌, Option, Some, None, is_some, nat_le, refl, sym, ap, ◌∙◌}
use Rattle.std.specs.Prelude.{find}
use Rattle.std.specs.Option.{option_map}
use Rattle.dsql_laws_calls.specs.course.declared.course.Wish.{Wish}
use Rattle.dsql_laws_calls.specs.journal.declared.entry.Owner.{Owner}
use Rattle.dsql_laws_calls.specs.journal.Kinds.{number_of}
use Rattle.dsql_laws_calls.specs.pool.declared.conn.Conn.{Conn}
use Rattle.dsql_laws_calls.specs.pool.declared.conn.Place.{Place}
use Rattle.dsql_laws_calls.specs.pool.declared.conn.Place.TheVariants.{Lent, Opening}
use Rattle.dsql_laws_calls.specs.pool.Moved.{shut}
use Rattle.dsql_laws_calls.specs.pool.Places.{conn_of, is_lent}
use Rattle.dsql_laws_calls.specs.pool.Pooled.{Pooled}
use Rattle.dsql_laws_calls.specs.history.Readers.Pool.{is_home, or_none, smallest, pool, place, home}
use Rattle.dsql_laws_calls.proofs.Cases.{true_false}
use Rattle.dsql_laws_calls.proofs.Found.{place_in, uses_in, shut_found, unwanted_in, unwanted_lent, unwanted_place}
use Rattle.dsql_laws_others.proofs.Once.{found_number, found_some}
use Rattle.dsql_laws_calls.specs.history.declared.event.Event.{Event}
use Rattle.dsql_laws_calls.specs.history.Readers.Calls.{has_begun_to_send}
use Rattle.dsql_laws_calls.specs.history.Readers.Course.{caps}
use Rattle.dsql_laws_calls.specs.history.Readers.Journals.{journal}
use Rattle.dsql_laws_calls.specs.history.Readers.Lines.{has_sent}
use Rattle.dsql_laws_calls.specs.history.Readers.Works.{work, borrower}
use Rattle.dsql_laws_calls.specs.history.Rules.Sent.{is_reset_due, asked_by, line_at, line_of}
use Rattle.dsql_laws_calls.specs.history.Legal.{Lawful}
use Rattle.dsql_laws_callers.proofs.Homes.{home_owner}
use Rattle.dsql_laws_calls.proofs.Owners.{at_home}
use Rattle.dsql_laws_others.proofs.Alike.{line_asked}
use Rattle.dsql_laws_others.proofs.Homes.{HomeStays, HomeUnlent, no_line}
use Rattle.dsql_laws_others.proofs.LentBeside.{LentAt, lent_or_not, not_lent}
use Rattle.dsql_laws_others.proofs.Left.{silent_zero}
use Rattle.dsql_laws_others.proofs.OnceLeft.{once}

-- An event that closes the database and sends nothing.
pub record Shuts (H : List Event) (e : Event) : Type 0 where
  pub lawful : Lawful (e ∷ H)
  pub closed : pool (e ∷ H) ≡ shut (pool H)
  pub can : caps (e ∷ H) ≡ caps H
  pub heard : (c : ℕ) → journal (e ∷ H) c ≡ journal H c

-- A connection is lent after the event exactly if it was lent before.

same_place : (H : List Event) (e : Event) (d : ℕ) → Shuts H e → place (e ∷ H) d ≡ option_map unwanted_place (place H d)
same_place H e d s = ap (λ (p : Pooled). place_in (conn_of d p.conns)) s.closed ∙ (ap place_in (shut_found d (pool H)) ∙ unwanted_in (conn_of d (pool H).conns))

pub lent_after : (H : List Event) (e : Event) (d u : ℕ) (o : Owner) → Shuts H e → place H d ≡ Some (Lent u o) → place (e ∷ H) d ≡ Some (Lent u o)
lent_after H e d u o s is = same_place H e d s ∙ ap (option_map unwanted_place) is

pub lent_first : (H : List Event) (e : Event) (d u : ℕ) (o : Owner) → Shuts H e → place (e ∷ H) d ≡ Some (Lent u o) → place H d ≡ Some (Lent u o)
lent_first H e d u o s is = wanted (place H d) (sym (same_place H e d s) ∙ is)
  where
    wanted : (at : Option Place) → option_map unwanted_place at ≡ Some (Lent u o) → at ≡ Some (Lent u o)
    wanted (Some (Lent v p)) k = k
    wanted _ k = absurd cc

-- No connection is opened for a call.
none_opened : (H : List Event) (e : Event) (d : ℕ) (o : Owner) → Shuts H e → place (e ∷ H) d ≡ Some (Opening (Some o)) → ⊥
none_opened H e d o s is = never (place H d) (sym (same_place H e d s) ∙ is)
  where
    never : (at : Option Place) → option_map unwanted_place at ≡ Some (Opening (Some o)) → ⊥
    never (Some (Opening w)) k = let clash : None ≡ Some o = cc in cc
    never _ k = cc

same_resets : (H : List Event) (e : Event) (d : ℕ) → Shuts H e → is_reset_due (e ∷ H) d ≡ is_reset_due H d
same_resets H e d s =
    let uses = unwanted_lent (conn_of d (pool H).conns) in
    ap (λ (p : Pooled). (caps (e ∷ H)).resetter && nat_le 2 (uses_in (conn_of d p.conns))) s.closed
    ∙ (ap (λ o. (caps (e ∷ H)).resetter && nat_le 2 (uses_in o)) (shut_found d (pool H))
    ∙ (ap (λ k. (caps (e ∷ H)).resetter && nat_le 2 k) uses.1 ∙ ap (λ can. can.resetter && nat_le 2 (uses_in (conn_of d (pool H).conns))) s.can))

-- The connection of each call stays the same, or isn't lent before or after.
pub home_shut : (H : List Event) (e : Event) (n : ℕ) → Shuts H e → HomeStays H (e ∷ H) n ⊎ HomeUnlent H (e ∷ H) n
home_shut H e n s = by (lent_or_not (place H (home H n)))
  where
    K : List Event
    K = e ∷ H

    stays : LentAt (place H (home H n)) → HomeStays H (e ∷ H) n
    stays a =
        let number : number_of a.owner ≡ n = home_owner H n (home H n) a.tenure a.owner refl a.is in
        let still = lent_after H e (home H n) a.tenure a.owner s a.is in
        record { homes = ap (home K) (sym number) ∙ at_home K (home H n) a.tenure a.owner s.lawful still; places = still ∙ sym a.is; resets = same_resets H e (home H n) s }

    after : is_lent (place H (home H n)) ≡ false → LentAt (place (e ∷ H) (home (e ∷ H) n)) ⊎ (is_lent (place (e ∷ H) (home (e ∷ H) n)) ≡ false) → HomeUnlent H (e ∷ H) n
    after out (inr away) = record { before = out; after = away }
    after out (inl b) =
        let l = s.lawful in
        let number : number_of b.owner ≡ n = home_owner K n (home K n) b.tenure b.owner refl b.is in
        let before = lent_first H e (home K n) b.tenure b.owner s b.is in
        let there : home H n ≡ home K n = ap (home H) (sym number) ∙ at_home H (home K n) b.tenure b.owner l.0 before in
        absurd (not_lent (place H (home H n)) b.tenure b.owner out (ap (place H) there ∙ before))

    by : LentAt (place H (home H n)) ⊎ (is_lent (place H (home H n)) ≡ false) → HomeStays H (e ∷ H) n ⊎ HomeUnlent H (e ∷ H) n
    by (inl a) = inl (stays a)
    by (inr out) = inr (after out (lent_or_not (place K (home K n))))

-- A call whose connection isn't lent has none.
no_home : (H : List Event) (e : Event) (n : ℕ) → Shuts H e → is_lent (place (e ∷ H) (home (e ∷ H) n)) ≡ false → home (e ∷ H) n ≡ 0
no_home H e n s out = by (find test (pool K).conns) refl
  where
    K : List Event
    K = e ∷ H

    test : Conn → Bool
    test x = is_home n x.place

    placed : (x : Conn) → place (e ∷ H) x.number ≡ Some x.place → home (e ∷ H) n ≡ x.number → (p : Place) → x.place ≡ p → is_home n p ≡ true → ⊥
    placed x there here (Lent u o) at h = true_false (is_lent (place K (home K n))) (ap (λ d. is_lent (place K d)) here ∙ (ap is_lent there ∙ ap (λ p. is_lent (Some p)) at)) out
    placed x there here (Opening (Some o)) at h = none_opened H e x.number o s (there ∙ ap Some at)
    placed x there here _ at h = cc

    by : (o : Option Conn) → find test (pool (e ∷ H)).conns ≡ o → home (e ∷ H) n ≡ 0
    by None is = ap or_none (ap (option_map (λ (x : Conn). x.number)) is)
    by (Some x) is =
        let f = found_number test (pool K).conns x (once K) is in
        absurd (placed x (ap place_in f.0) (ap or_none (ap (option_map (λ (y : Conn). y.number)) is)) x.place refl f.1)

-- What is sent next.

-- What the event leaves of a call.
pub record CallStays (H : List Event) (e : Event) (n : ℕ) : Type 0 where
  pub asked : asked_by (e ∷ H) n ≡ asked_by H n
  pub its_work : work (e ∷ H) n ≡ work H n
  pub uses : borrower (e ∷ H) n ≡ borrower H n

pub shut_line : (H : List Event) (e : Event) (n : ℕ) (w : Wish) → Shuts H e → CallStays H e n → line_of (e ∷ H) n w ≡ line_of H n w
shut_line H e n w s k = by (home_shut H e (borrower H n) s)
  where
    K : List Event
    K = e ∷ H

    b : ℕ
    b = borrower H n

    here : line_of (e ∷ H) n w ≡ line_at (e ∷ H) n w (home (e ∷ H) (borrower H n)) (place (e ∷ H) (home (e ∷ H) (borrower H n)))
    here = ap (λ i. line_at K n w (home K i) (place K (home K i))) k.uses

    by : HomeStays H (e ∷ H) (borrower H n) ⊎ HomeUnlent H (e ∷ H) (borrower H n) → line_of (e ∷ H) n w ≡ line_of H n w
    by (inl h) =
        here
        ∙ (ap (λ d. line_at K n w d (place K d)) h.homes
        ∙ (ap (line_at K n w (home H b)) h.places
        ∙ line_asked H K n w (home H b) (place H (home H b)) (record { asked = k.asked; resets = h.resets; can = s.can; its_work = k.its_work; uses = k.uses; heard = s.heard (home H b) })))
    by (inr u) = here ∙ (no_line K n w (home K b) (place K (home K b)) u.after ∙ sym (no_line H n w (home H b) (place H (home H b)) u.before))

-- A call that has begun to send after the event had begun before.

pub shut_sent : (H : List Event) (e : Event) (n : ℕ) → Shuts H e → CallStays H e n → has_begun_to_send (e ∷ H) n ≡ true → has_begun_to_send H n ≡ true
shut_sent H e n s k h = by (home_shut H e (borrower H n) s)
  where
    K : List Event
    K = e ∷ H

    here : has_sent n (journal H (home (e ∷ H) (borrower H n))) ≡ true
    here = ap (has_sent n) (sym (s.heard (home K (borrower H n)))) ∙ (ap (λ i. has_sent n (journal K (home K i))) (sym k.uses) ∙ h)

    by : HomeStays H (e ∷ H) (borrower H n) ⊎ HomeUnlent H (e ∷ H) (borrower H n) → has_begun_to_send H n ≡ true
    by (inl g) = ap (λ d. has_sent n (journal H d)) (sym g.homes) ∙ here
    by (inr u) =
        let l = s.lawful in
        let none : journal H (home K (borrower H n)) ≡ [] = ap (journal H) (no_home H e (borrower H n) s u.after) ∙ silent_zero H l.0 in
        let clash : false ≡ true = sym (ap (has_sent n) none) ∙ here in
        absurd cc

-- A call that has a connection still has it.
pub still_home : (H : List Event) (e : Event) (n d : ℕ) (x : Conn) → Shuts H e → conn_of d (pool H).conns ≡ Some x → is_lent (Some x.place) ≡ true → is_home n x.place ≡ true → is_some (smallest (is_home n) (pool (e ∷ H))) ≡ true
still_home H e n d x s found lent home_is = by x.place refl lent home_is
  where
    K : List Event
    K = e ∷ H

    number : (o : Option Conn) → is_some o ≡ true → is_some (option_map (λ (y : Conn). y.number) o) ≡ true
    number None k = absurd cc
    number (Some y) k = refl

    after : (u : ℕ) (o : Owner) → x.place ≡ Lent u o → is_home n (Lent u o) ≡ true → (p : Option Conn) → conn_of d (pool (e ∷ H)).conns ≡ p → place_in p ≡ Some (Lent u o) → is_some (find (λ (y : Conn). is_home n y.place) (pool (e ∷ H)).conns) ≡ true
    after u o at h None is now = absurd cc
    after u o at h (Some y) is now = let same : y.place ≡ Lent u o = cc in found_some (λ z. is_home n z.place) d (pool K).conns y is (ap (is_home n) same ∙ h)

    by : (p : Place) → x.place ≡ p → is_lent (Some p) ≡ true → is_home n p ≡ true → is_some (smallest (is_home n) (pool (e ∷ H))) ≡ true
    by (Lent u o) at i h =
        let there : place K d ≡ Some (Lent u o) = lent_after H e d u o s (ap place_in found ∙ ap Some at) in
        number (find (λ y. is_home n y.place) (pool K).conns) (after u o at h (conn_of d (pool K).conns) refl there)
    by _ at i h = absurd cc
