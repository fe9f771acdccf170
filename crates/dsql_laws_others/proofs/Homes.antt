-- If a move leaves a call's connection as it is, or the connection isn't lent before or after, the move leaves
-- each line. The argument compares the places of that connection.
use Rattle.std.proofs.Common.{◌≡◌, ℕ, Bool, true, false, cond, List, ◌∷◌, Option, Some, None, is_some, refl, sym, ap, ◌∙◌, ◌⊎◌, inl, inr}
use Rattle.dsql_laws_calls.specs.course.declared.course.Wish.{Wish}
use Rattle.dsql_laws_calls.specs.pool.declared.conn.Place.{Place}
use Rattle.dsql_laws_calls.specs.pool.declared.conn.Place.TheVariants.{Lent}
use Rattle.dsql_laws_calls.specs.pool.declared.moves.Move.{Move}
use Rattle.dsql_laws_calls.specs.pool.Places.{is_lent}
use Rattle.dsql_laws_calls.specs.tx.declared.end.TxEnd.{TxEnd}
use Rattle.dsql_laws_calls.specs.history.declared.record.Try.{Try}
use Rattle.dsql_laws_calls.specs.history.declared.event.Event.{Event}
use Rattle.dsql_laws_calls.specs.history.declared.event.Event.TheVariants.{Pool}
use Rattle.dsql_laws_calls.specs.history.declared.work.Scope.{Scope}
use Rattle.dsql_laws_calls.specs.history.declared.work.Scope.TheVariants.{Db, Held}
use Rattle.dsql_laws_calls.specs.history.declared.work.Work.{Work}
use Rattle.dsql_laws_calls.specs.history.declared.work.Work.TheVariants.{Statement, Begin, End, Ping, Fetch, Close, Look}
use Rattle.dsql_laws_calls.specs.history.Readers.Calls.{has_begun_to_send, told_by_tries, told_by_scope, told_of_work, told_by_others, done_with}
use Rattle.dsql_laws_calls.specs.history.Readers.Transactions.{tx_end}
use Rattle.dsql_laws_calls.specs.history.Readers.Journals.{journal}
use Rattle.dsql_laws_calls.specs.history.Readers.Lines.{has_sent}
use Rattle.dsql_laws_calls.specs.history.Readers.Pool.{place, home}
use Rattle.dsql_laws_calls.specs.history.Readers.Tries.{tries}
use Rattle.dsql_laws_calls.specs.history.Readers.Works.{work, borrower}
use Rattle.dsql_laws_calls.specs.history.Rules.Ending.{ending_at, ending_with, ending}
use Rattle.dsql_laws_calls.specs.history.Rules.Line.{due_for, is_used}
use Rattle.dsql_laws_calls.specs.history.Rules.Sent.{is_reset_due, line_at, line_of}
use Rattle.dsql_laws_calls.proofs.Enders.{same_ender}
use Rattle.dsql_laws_others.proofs.Alike.{Concerns, Alike, due_alike, used_alike, line_asked, ends_alike, closings_alike, same_tx_ender}

pub record HomeStays (H K : List Event) (n : ℕ) : Type 0 where
  pub homes : home K n ≡ home H n
  pub places : place K (home H n) ≡ place H (home H n)
  pub resets : is_reset_due K (home H n) ≡ is_reset_due H (home H n)

pub record HomeUnlent (H K : List Event) (n : ℕ) : Type 0 where
  pub before : is_lent (place H (home H n)) ≡ false
  pub after : is_lent (place K (home K n)) ≡ false

-- Holds if this is so for the connection of each call.
abbrev pub HomesStay : List Event → List Event → Type 0
HomesStay H K = (n : ℕ) → HomeStays H K n ⊎ HomeUnlent H K n

pub no_line : (H : List Event) (n : ℕ) (w : Wish) (c : ℕ) (at : Option Place) → is_lent at ≡ false → line_at H n w c at ≡ None
no_line H n w c (Some (Lent t own)) out = absurd cc
no_line H n w c _ out = refl

pub no_ending : (H : List Event) (k c : ℕ) (o : Option TxEnd) → home H k ≡ c → is_lent (place H c) ≡ false → ending_with H k o ≡ None
no_ending H k c None is out = refl
no_ending H k c (Some end) is out = ap (λ d. ending_at H k d end (place H d)) is ∙ there (place H c) out
  where
    there : (at : Option Place) → is_lent at ≡ false → ending_at H k c end at ≡ None
    there (Some (Lent t own)) x = absurd cc
    there _ x = refl

pub line_by_home : (H : List Event) (move : Move) (n : ℕ) (w : Wish) → HomeStays H (Pool move ∷ H) (borrower H n) ⊎ HomeUnlent H (Pool move ∷ H) (borrower H n) → line_of (Pool move ∷ H) n w ≡ line_of H n w
line_by_home H move n w (inl s) =
    let K = Pool move ∷ H in
    let b = borrower H n in
    ap (λ d. line_at K n w d (place K d)) s.homes
    ∙ (ap (line_at K n w (home H b)) s.places ∙ line_asked H K n w (home H b) (place H (home H b)) (record { asked = refl; resets = s.resets; can = refl; its_work = refl; uses = refl; heard = refl }))
line_by_home H move n w (inr u) =
    let K = Pool move ∷ H in
    let b = borrower H n in
    no_line K n w (home K b) (place K (home K b)) u.after ∙ sym (no_line H n w (home H b) (place H (home H b)) u.before)

pub lines_stay : (H : List Event) (move : Move) → HomesStay H (Pool move ∷ H) → (n : ℕ) (w : Wish) → line_of (Pool move ∷ H) n w ≡ line_of H n w
lines_stay H move stays n w = line_by_home H move n w (stays (borrower H n))

pub ends_stay : (H : List Event) (move : Move) → HomesStay H (Pool move ∷ H) → (k : ℕ) → ending (Pool move ∷ H) k ≡ ending H k
ends_stay H move stays k = by (stays k)
  where
    K : List Event
    K = Pool move ∷ H

    by : HomeStays H K k ⊎ HomeUnlent H K k → ending K k ≡ ending H k
    by (inl s) = ends_alike H K k refl s.homes s.places (record { first = closings_alike H K k refl (λ j. refl) (lines_stay H move stays); can = refl; heard = refl })
    by (inr u) = no_ending K k (home K k) (tx_end H k) refl u.after ∙ sym (no_ending H k (home H k) (tx_end H k) refl u.before)

-- A move leaves a call alike if it leaves the ends and the lines that concern the call, and what the call has sent.
pub move_alike : (H : List Event) (move : Move) (m : ℕ) → ((k : ℕ) → ending (Pool move ∷ H) k ≡ ending H k) → ((n : ℕ) (w : Wish) → Concerns H m n → line_of (Pool move ∷ H) n w ≡ line_of H n w)
    → (has_begun_to_send (Pool move ∷ H) m ≡ has_begun_to_send H m) ⊎ ((n : ℕ) (w : Wish) → borrower H n ≡ borrower H m → line_of H n w ≡ None) → Alike H (Pool move ∷ H) m
move_alike H move m endings lines sent = record {
  unfinished = refl;
  its_work = refl;
  live = λ j. refl;
  enders = λ j. same_ender H (Pool move) j refl;
  late = λ j its. refl;
  going = λ j. refl;
  tx_enders = λ j. same_tx_ender H (Pool move) j refl;
  endings = endings;
  lines = lines;
  sent = sent;
  decided = refl;
}

pub moved_alike : (H : List Event) (move : Move) (m : ℕ) → HomesStay H (Pool move ∷ H) → Alike H (Pool move ∷ H) m
moved_alike H move m stays = move_alike H move m (ends_stay H move stays) (λ j w its. lines_stay H move stays j w) (sent (stays (borrower H m)))
  where
    K : List Event
    K = Pool move ∷ H

    sent : HomeStays H K (borrower H m) ⊎ HomeUnlent H K (borrower H m) → (has_begun_to_send K m ≡ has_begun_to_send H m) ⊎ ((n : ℕ) (w : Wish) → borrower H n ≡ borrower H m → line_of H n w ≡ None)
    sent (inl s) = inl (ap (λ d. has_sent m (journal H d)) s.homes)
    sent (inr u) =
        inr (λ n w same. ap (λ b. line_at H n w (home H b) (place H (home H b))) same ∙ no_line H n w (home H (borrower H m)) (place H (home H (borrower H m))) u.before)

pub due_moved : (H : List Event) (move : Move) (m : ℕ) → HomesStay H (Pool move ∷ H) → due_for (Pool move ∷ H) m ≡ due_for H m
due_moved H move m stays = due_alike H (Pool move ∷ H) m (moved_alike H move m stays)

pub used_moved : (H : List Event) (move : Move) (n : ℕ) → HomesStay H (Pool move ∷ H) → is_used (Pool move ∷ H) n ≡ is_used H n
used_moved H move n stays = used_alike H (Pool move ∷ H) n refl refl (ends_stay H move stays n) (lines_stay H move stays n)

-- What others have settled for a call stays settled, unless the call has begun to send.

tried_alike : (H : List Event) (move : Move) (w : Work) (ts us : List Try) → us ≡ ts → told_by_tries (Pool move ∷ H) w us ≡ told_by_tries H w ts
tried_alike H move w ts us same = ap (told_by_tries H w) same

told_inside : (H : List Event) (move : Move) (m : ℕ) (w : Work) (s : Scope) → tries (Pool move ∷ H) m ≡ tries H m → (has_begun_to_send (Pool move ∷ H) m ≡ true → has_begun_to_send H m ≡ true)
    → is_some (told_by_scope H m w s) ≡ true → is_some (told_by_scope (Pool move ∷ H) m w s) ≡ true
told_inside H move m w Db same fewer h = ap (λ o. is_some o) (tried_alike H move w (tries H m) (tries (Pool move ∷ H) m) same) ∙ h
told_inside H move m w (Held k) same fewer h = by (has_begun_to_send (Pool move ∷ H) m) (has_begun_to_send H m) fewer h
  where
    by : (now was : Bool) → (now ≡ true → was ≡ true) → is_some (cond was None (done_with (tx_end H k))) ≡ true → is_some (cond now None (done_with (tx_end H k))) ≡ true
    by now true f x = absurd cc
    by true false f x = let clash : false ≡ true = f refl in absurd cc
    by false false f x = x

pub told_still : (H : List Event) (move : Move) (m : ℕ) → tries (Pool move ∷ H) m ≡ tries H m → (has_begun_to_send (Pool move ∷ H) m ≡ true → has_begun_to_send H m ≡ true)
    → is_some (told_by_others H m) ≡ true → is_some (told_by_others (Pool move ∷ H) m) ≡ true
told_still H move m same fewer h = by (work H m) h
  where
    by : (w : Work) → is_some (told_of_work H m w) ≡ true → is_some (told_of_work (Pool move ∷ H) m w) ≡ true
    by (Fetch k) x = x
    by (Close k) x = x
    by (End k) x = absurd cc
    by Look x = absurd cc
    by (Statement s task) x = told_inside H move m (Statement s task) s same fewer x
    by (Begin label level read_only) x = told_inside H move m (Begin label level read_only) Db same fewer x
    by Ping x = told_inside H move m Ping Db same fewer x
