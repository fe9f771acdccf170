-- A call that wants a connection, or is lent one, has no reply yet.
use Rattle.std.proofs.Common.{◌≡◌, ◌≢◌, ℕ, zero, suc, ◌≤◌, ◌⊎◌, inl, inr, Bool, true, false, ◌&&◌, ◌||◌, cond, List, [], ◌∷◌, Option, Some, None, is_some, is_none, refl, sym, ap, subst, ◌∙◌, arith}
use Rattle.std.specs.Prelude.{find}
use Rattle.std.specs.List.{list_any}
use Rattle.std.specs.Option.{option_map}
use Rattle.dsql_laws.specs.driver.declared.caps.Caps.{Caps}
use Rattle.dsql_laws.specs.course.Made.{or_else}
use Rattle.dsql_laws.specs.journal.declared.entry.Owner.{Owner}
use Rattle.dsql_laws.specs.wait.Requests.{waits}
use Rattle.dsql_laws.specs.pool.declared.conn.Conn.{Conn}
use Rattle.dsql_laws.specs.pool.declared.moves.Move.TheVariants.{Lend}
use Rattle.dsql_laws.specs.pool.Calls.{wants}
use Rattle.dsql_laws.specs.pool.Places.{is_for}
use Rattle.dsql_laws.specs.pool.Pooled.{Pooled}
use Rattle.dsql_laws.specs.history.declared.record.Try.{Try}
use Rattle.dsql_laws.specs.history.declared.record.Try.TheVariants.{Served}
use Rattle.dsql_laws.specs.history.declared.reply.DbEnd.{DbEnd}
use Rattle.dsql_laws.specs.history.Readers.Pool.{smallest, pool}
use Rattle.dsql_laws.specs.history.Readers.Tries.{has_a_try, try_number, tries, tries_again}
use Rattle.dsql_laws.proofs.Counts.{uncounted, waits_none}
use Rattle.dsql_laws.proofs.Places.{neither, none_opens}
use Rattle.dsql_laws.proofs.Tests.{both, other_number}
use Rattle.dsql_laws.proofs.Wanted.{is_opening_for, wanted}
use Rattle.dsql_laws_work.proofs.Rows.{same_or_not}
use Rattle.dsql_laws_calls.proofs.Cases.{true_false}
use Rattle.dsql_laws.specs.history.declared.work.Work.{Work}
use Rattle.dsql_laws.specs.history.declared.work.Work.TheVariants.{Ping}
use Rattle.dsql_laws.specs.history.declared.event.Event.{Event}
use Rattle.dsql_laws.specs.history.declared.event.Event.TheVariants.{Entered, Pool, Replied, Ended}
use Rattle.dsql_laws.specs.history.declared.event.Op.TheVariants.{DbClose}
use Rattle.dsql_laws.specs.history.declared.reply.Reply.{Reply}
use Rattle.dsql_laws.specs.history.declared.reply.Reply.TheVariants.{DbClosed, TooMany}
use Rattle.dsql_laws.specs.history.Same.{is_reply}
use Rattle.dsql_laws.specs.history.Readers.Calls.{last_told, reply_due, told_as_lent, told_at_lending, told_by_others}
use Rattle.dsql_laws.specs.history.Readers.Course.{caps, db_end}
use Rattle.dsql_laws.specs.history.Readers.Unfinished.{is_unfinished}
use Rattle.dsql_laws.specs.history.Readers.Works.{work}
use Rattle.dsql_laws.specs.history.Rules.Asking.{ask_outcome, is_too_many, may_ask}
use Rattle.dsql_laws.specs.history.Rules.Line.{due_for}
use Rattle.dsql_laws.specs.history.Rules.Replies.{gave_back, has_cause, is_told_too_many}
use Rattle.dsql_laws.specs.history.Rules.Settled.{is_settled_but}
use Rattle.dsql_laws.specs.history.Legal.{Allowed, Lawful}
use Rattle.dsql_laws.proofs.Asker.{asker}
use Rattle.dsql_laws.proofs.Wanting.{wanting_works}
use Rattle.dsql_laws_calls.proofs.Closed.{closed_shut, opens_for_none, stays_closed}
use Rattle.dsql_laws_calls.proofs.Nowhere.{told_own}
use Rattle.dsql_laws_calls.proofs.Told.{wanting_undecided}
use Rattle.dsql_laws_calls.proofs.Untried.{wanting_has_try}
use Rattle.dsql_laws_calls.proofs.Works.{enters_unfinished, stays_unfinished}
use Rattle.dsql_laws_calls.proofs.Wanted.{lent_nothing, wants_no_more}

-- A call that wants a connection is counted.

pub unnumbered : (o : Option Conn) → option_map (λ (x : Conn). x.number) o ≡ None → o ≡ None
unnumbered None h = refl
unnumbered (Some x) h = absurd cc

none_counted : (n : ℕ) (p : Pooled) → waits n p.waiting ≡ false → smallest (is_for n) p ≡ None → wanted n p ≡ 0
none_counted n p unwaiting unopened =
    let waiting = waits_none n p.waiting unwaiting in
    let opening = uncounted (is_opening_for n) p.conns (unnumbered (find (λ (x : Conn). is_for n x.place) p.conns) unopened) in
    omega (arith, waiting, opening)

counted_wants : (n : ℕ) (p : Pooled) → 1 ≤ wanted n p → wants n p ≡ true
counted_wants n p some = by (wants n p) refl
  where
    by : (b : Bool) → wants n p ≡ b → b ≡ true
    by true is = refl
    by false is =
        let b = neither (waits n p.waiting) (list_any (λ conn. is_for n conn.place) p.conns) is in
        let none = none_counted n p b.0 (none_opens n p b.1) in
        absurd (omega (arith, some, none))

-- Once something has closed the database, no call wants a connection.

end_closes : (H : List Event) → is_some (db_end H) ≡ true → (pool H).closed ≡ true
end_closes [] h = absurd cc
end_closes (Ended ∷ H) h = refl
end_closes (Entered client m DbClose ∷ H) h = refl
end_closes (e1 ∷ H) h = stays_closed H e1 (end_closes H h)

closed_to_all : (H : List Event) (n : ℕ) → Lawful H → (pool H).closed ≡ true → wanted n (pool H) ≡ 0
closed_to_all H n l closed =
    let shut = closed_shut H l closed in
    none_counted n (pool H) (ap (waits n) shut.waiting) (opens_for_none H n l closed)

-- So a call that wants a connection has nothing to reply.

-- What is known of a reply that may come.
pub record RepliesNow (H : List Event) (n : ℕ) (reply : Reply) : Type 0 where
  pub unfinished : is_unfinished H n ≡ true
  pub done : is_none (due_for H n) ≡ true
  pub gave : gave_back H n ≡ true
  pub cause : has_cause H n reply ≡ true
  pub settled : is_settled_but n H ≡ true

pub replies_now : (H : List Event) (n : ℕ) (reply : Reply) → Allowed H (Replied n reply) → RepliesNow H n reply
unfolding Allowed
replies_now H n reply a =
    let b = both (is_none (due_for H n)) (gave_back H n && (has_cause H n reply && is_settled_but n H)) a.replies in
    let g = both (gave_back H n) (has_cause H n reply && is_settled_but n H) b.1 in
    let c = both (has_cause H n reply) (is_settled_but n H) g.1 in
    record { unfinished = a.numbers; done = b.0; gave = g.0; cause = c.0; settled = c.1 }

some_reply : (o : Option Reply) (reply : Reply) → is_reply o reply ≡ true → is_some o ≡ true
some_reply None reply h = absurd cc
some_reply (Some due) reply h = refl

asked_in_vain : (H : List Event) (n : ℕ) (reply : Reply) → is_told_too_many H n reply ≡ true → may_ask H n ≡ true
asked_in_vain H n TooMany h = let b = both (may_ask H n) (is_too_many (ask_outcome H n)) h in b.0
asked_in_vain H n reply h = absurd cc

closed_by_some : (o : Option DbEnd) → is_some (option_map DbClosed o) ≡ true → is_some o ≡ true
closed_by_some None h = absurd cc
closed_by_some (Some end) h = refl

-- Being lent a connection settles no reply for a ping that has a try left.
untold : (can : Caps) (it : Work) (ts : List Try) → has_a_try ts ≡ true → told_as_lent can it ts ≡ None
untold can Ping (Served ∷ earlier) left = absurd cc
untold can _ _ left = refl

or_none : (o : Option Reply) → is_some (or_else o None) ≡ is_some o
or_none None = refl
or_none (Some r) = refl

-- A call that wants a connection has no settled reply, as long as the database is open.
wanting_silent : (H : List Event) (n : ℕ) → Lawful H → n ≢ 0 → 1 ≤ wanted n (pool H) → is_some (reply_due H n) ≡ true → ⊥
wanting_silent H n l some now settled =
    let own = wanting_works H n l some now in
    let left = wanting_has_try H n l some now in
    let unlent : told_at_lending H n ≡ None = untold (caps H) (work H n) (tries H n) left in
    let others : is_some (told_by_others H n) ≡ true =
    sym (ap (λ (o : Option Reply). is_some (or_else (or_else o (told_by_others H n)) (told_at_lending H n))) (wanting_undecided H n l some now)
    ∙ (ap (λ (o : Option Reply). is_some (or_else (told_by_others H n) o)) unlent ∙ or_none (told_by_others H n)))
    ∙ settled
    in
    let told : told_by_others H n ≡ option_map DbClosed (db_end H) =
    told_own H n (work H n) own ∙ ap (λ (b : Bool). cond b (option_map DbClosed (db_end H)) (last_told (tries_again (work H n) (try_number (tries H n))) (try_number (tries H n)) (tries H n))) left
    in
    let end : is_some (db_end H) ≡ true = closed_by_some (db_end H) (sym (ap (λ (o : Option Reply). is_some o) told) ∙ others) in
    let none = closed_to_all H n l (end_closes H end) in
    absurd (omega (arith, now, none))

replies_wanting_none : (H : List Event) (n : ℕ) (reply : Reply) → Lawful H → n ≢ 0 → Allowed H (Replied n reply) → 1 ≤ wanted n (pool H) → ⊥
replies_wanting_none H n reply l some a now = let r = replies_now H n reply a in by (is_reply (reply_due H n) reply) refl r.cause
  where
    by : (b : Bool) → is_reply (reply_due H n) reply ≡ b → (b || is_told_too_many H n reply) ≡ true → ⊥
    by true is h = wanting_silent H n l some now (some_reply (reply_due H n) reply is)
    by false is h = true_false (wants n (pool H)) (counted_wants n (pool H) now) (asker H n (asked_in_vain H n reply h)).unwanting

-- A call that wants a connection has no reply.

-- A call that may ask or wants a connection has no reply.
asks_or_wants : (H : List Event) (n : ℕ) → (1 ≤ wanted n (pool H) → is_unfinished H n ≡ true) → ((may_ask H n ≡ true → ⊥) → wanted n (pool H) ≡ 0 → ⊥) → is_unfinished H n ≡ true
asks_or_wants H n had neither_one = by (may_ask H n) (wanted n (pool H)) refl refl
  where
    by : (b : Bool) (k : ℕ) → may_ask H n ≡ b → wanted n (pool H) ≡ k → is_unfinished H n ≡ true
    by true k may so_many = (asker H n may).unfinished
    by false zero may so_many = absurd (neither_one (λ asks. true_false (may_ask H n) asks may) so_many)
    by false (suc k) may so_many = had (omega (arith, so_many))

pub still_without_reply : (H : List Event) (e : Event) (n : ℕ) → ((reply : Reply) → e ≡ Replied n reply → ⊥) → is_unfinished H n ≡ true → is_unfinished (e ∷ H) n ≡ true
still_without_reply H (Replied m reply) n other u = by (same_or_not m n)
  where
    by : (m ≡ n) ⊎ (m ≢ n) → is_unfinished (Replied m reply ∷ H) n ≡ true
    by (inl same) = absurd (other reply (ap (λ k. Replied k reply) same))
    by (inr apart) = stays_unfinished H m reply n (other_number m n apart) u
still_without_reply H (Entered client m op) n other u = enters_unfinished H client m op n u
still_without_reply H e n other u = u

pub wanting_unfinished : (H : List Event) (n : ℕ) → Lawful H → n ≢ 0 → 1 ≤ wanted n (pool H) → is_unfinished H n ≡ true
wanting_unfinished [] n l some now = absurd (omega (arith, now))
wanting_unfinished (e ∷ H) n l some now = still_without_reply H e n replied (before (wanting_unfinished H n l.0 some))
  where
    replied : (reply : Reply) → e ≡ Replied n reply → ⊥
    replied reply is = replies_wanting_none H n reply l.0 some (subst (λ (d : Event). Allowed H d) is l.1) (subst (λ (d : Event). 1 ≤ wanted n (pool (d ∷ H))) is now)

    before : (1 ≤ wanted n (pool H) → is_unfinished H n ≡ true) → is_unfinished H n ≡ true
    before earlier = asks_or_wants H n earlier (λ silent none. let still = wants_no_more H e n l.1 some silent none in absurd (omega (arith, now, still)))

-- A call that is lent a connection has no reply.
pub lends_unfinished : (H : List Event) (c t : ℕ) (o : Owner) (n : ℕ) → Lawful H → Allowed H (Pool (Lend c t o n)) → n ≢ 0 → is_unfinished H n ≡ true
lends_unfinished H c t o n l a some = asks_or_wants H n (wanting_unfinished H n l some) (lent_nothing H c t o n l a)
