-- A call that has nothing to send, wants no connection and may not ask for one has a settled reply.
use Rattle.std.proofs.Common.{◌≡◌, ℕ, Bool, true, false, ◌||◌, List, Option, Some, None, is_some, refl, ap, ◌∙◌}
use Rattle.std.specs.List.{list_any}
use Rattle.std.specs.Prelude.{option_map}
use Rattle.dsql_laws_calls.specs.pool.Calls.{wants}
use Rattle.dsql_laws_calls.specs.pool.Places.{is_for}
use Rattle.dsql_laws_calls.specs.rows.declared.rows.Rows.{Rows}
use Rattle.dsql_laws_calls.specs.wait.Requests.{waits}
use Rattle.dsql_laws_calls.specs.history.Readers.HandedOut.{rows_by}
use Rattle.dsql_laws_calls.specs.history.Readers.Pool.{pool}
use Rattle.dsql_laws_calls.specs.history.Readers.Tries.{was_served, tries}
use Rattle.dsql_laws_calls.proofs.laws.Places.{neither}
use Rattle.dsql_laws_calls.specs.history.declared.event.Event.{Event}
use Rattle.dsql_laws_calls.specs.history.declared.work.Scope.TheVariants.{Held}
use Rattle.dsql_laws_calls.specs.history.declared.work.Work.{Work}
use Rattle.dsql_laws_calls.specs.history.declared.work.Work.TheVariants.{Statement, End, Fetch}
use Rattle.dsql_laws_calls.specs.history.Readers.Calls.{decided, reply_due, rests, told_at_lending, told_by_others}
use Rattle.dsql_laws_calls.specs.history.Readers.Transactions.{is_begun}
use Rattle.dsql_laws_calls.specs.history.Readers.Unfinished.{is_unfinished}
use Rattle.dsql_laws_calls.specs.history.Readers.Works.{asks, scope, work}
use Rattle.dsql_laws_calls.specs.history.Rules.Asking.{may_ask}
use Rattle.dsql_laws_calls.specs.history.Rules.Line.{due_for}
use Rattle.dsql_laws_calls.specs.history.Rules.Settled.{is_kept, uses_what_is_lent}
use Rattle.dsql_laws_calls.specs.history.Legal.{Lawful}
use Rattle.dsql_laws_calls.specs.Nothing.{HasNothing, is_elsewhere}
use Rattle.dsql_laws_calls.proofs.BeginningsAt.{beginnings}
use Rattle.dsql_laws_calls.proofs.Nowhere.{own_settled, settled_unserved}
use Rattle.dsql_laws_replies.proofs.EndReplies.{end_replies}
use Rattle.dsql_laws_replies.proofs.InsideReplies.{inside_replies}
use Rattle.dsql_laws_replies.proofs.Nowhere.{lent_used, restless, unused}
use Rattle.dsql_laws_replies.proofs.Served.{served_replies}
use Rattle.dsql_laws_due.proofs.FetchReplies.{fetch_replies}
use Rattle.dsql_laws_due.proofs.ServedRows.{never, rows_served}

has_nothing : (H : List Event) (n : ℕ) → Lawful H → is_unfinished H n ≡ true → is_some (due_for H n) ≡ false → wants n (pool H) ≡ false → uses_what_is_lent H ≡ true → was_served (tries H n) ≡ false → is_begun H n ≡ false
    → asks (work H n) ≡ true → HasNothing H n
has_nothing H n l u none unwanting used unserved unbegun own =
    let p = pool H in
    let rowless = made_none (rows_by H n) refl in
    let free : is_kept H n ≡ false = ap (λ b. b || rests H n) (unused H n u own none unbegun rowless) ∙ restless H n unserved in
    let apart = neither (waits n p.waiting) (list_any (λ conn. is_for n conn.place) p.conns) unwanting in
    record { unwanting = unwanting; homeless = ap (option_map (λ conn. conn.number)) (lent_used H n p.conns used free apart.1); rowless = rowless }
  where
    made_none : (o : Option Rows) → rows_by H n ≡ o → rows_by H n ≡ None
    made_none None is = is
    made_none (Some r) is = absurd (never (was_served (tries H n)) (rows_served H n l own (ap (λ o. is_some o) is)) unserved)

pub nowhere_replies : (H : List Event) (n : ℕ) → Lawful H → is_unfinished H n ≡ true → is_some (due_for H n) ≡ false → wants n (pool H) ≡ false → uses_what_is_lent H ≡ true → may_ask H n ≡ false
    → is_some (reply_due H n) ≡ true
nowhere_replies H n l u none unwanting used may = by (work H n) refl
  where
    -- A call that has begun a transaction has settled its reply itself.
    by_begun : (b : Bool) → is_begun H n ≡ b → was_served (tries H n) ≡ false → is_elsewhere (work H n) ≡ false → is_some (reply_due H n) ≡ true
    by_begun true begun unserved here = let b = beginnings H l in own_settled (decided H n) (told_by_others H n) (told_at_lending H n) (b.told n begun u)
    by_begun false unbegun unserved here = settled_unserved H n l u (has_nothing H n l u none unwanting used unserved unbegun) may unserved here

    by_try : (b : Bool) → was_served (tries H n) ≡ b → is_elsewhere (work H n) ≡ false → is_some (reply_due H n) ≡ true
    by_try true served here = served_replies H n l u served none
    by_try false unserved here = by_begun (is_begun H n) refl unserved here

    by : (w : Work) → work H n ≡ w → is_some (reply_due H n) ≡ true
    by (Fetch k) is = fetch_replies H n k l u is none
    by (End k) is = end_replies H n k l u is none
    by (Statement (Held k) task) is = inside_replies H n k l u (ap scope is) none
    by w is = by_try (was_served (tries H n)) refl (ap is_elsewhere is)
