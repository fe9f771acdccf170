use Rattle.std.proofs.Common.{ap, rules}
use Rattle.std.specs.Prelude.{bytes_eq, string_bytes}
use Rattle.std.specs.Map.{lookup}
use Rattle.dsql_laws_calls.specs.history.Legal.{Allowed}
use Rattle.dsql_engine_desk.specs.Desk.{Stands}
use Rattle.dsql_engine_desk.proofs.Beginning.{stands_begun}
use Rattle.dsql_engine_desk.proofs.desk.Desk.start.Goals as goal

pub returns-clause-stands : goal.returns-clause-stands
unfolding Stands Allowed
returns-clause-stands c =
    stands_begun _ c.args.version c.args.caps (search rules) (λ label. ap (λ es. lookup (λ k. bytes_eq label (string_bytes k)) es) c.new-3.ensures.empty)
    (λ label. ap (λ es. lookup (λ k. bytes_eq label (string_bytes k)) es) c.new-4.ensures.empty)
    (λ once labels tx_labels.
    record {
      tables = record {
        lawful = search rules;
        calm = search rules;
        caps = search rules;
        ended = search rules;
        lines = record { there = search rules; inside = search rules };
        calls = search rules;
        unfinished = search rules;
        sent = search rules;
        step = search rules;
        labels = labels;
        tx_labels = tx_labels;
        rows = search rules;
        once = once;
        counted = search rules;
        txs = search rules;
        room = search rules;
      };
      closed_by = search rules;
      pool = search rules;
      room = search rules;
    })
