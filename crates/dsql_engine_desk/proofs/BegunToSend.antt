-- A call that works in a transaction has sent something there exactly if it last sent on the transaction's
-- connection.
use Rattle.std.proofs.Common.{◌≡◌, ◌≢◌, ℕ, ◌==◌, true, false, not, ◌&&◌, List, sym, ap, ◌∙◌}
use Rattle.dsql_laws_calls.specs.history.declared.event.Event.{Event}
use Rattle.dsql_laws_calls.specs.history.declared.work.Work.TheVariants.{Look}
use Rattle.dsql_laws_calls.specs.history.Readers.Calls.{has_begun_to_send, site}
use Rattle.dsql_laws_calls.specs.history.Readers.Works.{work}
use Rattle.dsql_laws_calls.specs.history.Legal.{Lawful}
use Rattle.dsql_laws_calls.proofs.Ends.{zero_work}
use Rattle.dsql_engine_lines.specs.Inside.{work_inside, works_inside}
use Rattle.dsql_engine_lines.specs.Sent.{sent_on}
use Rattle.dsql_engine_lines.proofs.Newest.{begun_where_sent}

inside_numbered : (H : List Event) (n : ℕ) → works_inside H n ≡ true → n ≢ 0
inside_numbered H n inside none =
    let look : work H n ≡ Look = ap (work H) none ∙ zero_work H in
    let wrong : false ≡ true = sym (ap (work_inside H) look) ∙ inside in
    absurd cc

pub begun_so : (H : List Event) (n conn sent : ℕ) → Lawful H → works_inside H n ≡ true → conn ≡ site H n → sent ≡ sent_on H n → has_begun_to_send H n ≡ (not (conn == 0) && (sent == conn))
begun_so H n conn sent l inside at newest =
    begun_where_sent H n l (inside_numbered H n inside) inside
    ∙ (ap (λ c. not (c == 0) && (sent_on H n == c)) (sym at) ∙ ap (λ s. not (conn == 0) && (s == conn)) (sym newest))
