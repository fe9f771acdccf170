-- What is known of a desk that stands, and what an event leaves unchanged.
use Rattle.std.proofs.Common.{◌≡◌, ℕ, ◌≤◌, ◌<◌, false, List, [], ◌∷◌, length, refl, ap, arith}
use Rattle.dsql_laws_calls.specs.works.Limits.{most_within_a_step}
use Rattle.dsql_laws_calls.specs.pool.declared.pool.Pool.{Pool}
use Rattle.dsql_laws_calls.specs.pool.declared.moves.Outcome.{Outcome}
use Rattle.dsql_laws_calls.specs.pool.declared.moves.Outcome.TheVariants.{Closes, Serves, Rests}
use Rattle.dsql_laws_calls.specs.pool.Decisions.{moves_back}
use Rattle.dsql_laws_calls.specs.pool.Pooled.{Pooled, most_drawn}
use Rattle.dsql_laws_calls.specs.history.declared.event.Event.{Event}
use Rattle.dsql_laws_calls.specs.history.declared.event.Event.TheVariants.{Entered}
use Rattle.dsql_laws_calls.specs.history.declared.event.Op.{Op}
use Rattle.dsql_laws_calls.specs.history.declared.event.Op.TheVariants.{DbClose}
use Rattle.dsql_laws_calls.specs.history.Readers.Course.{db_end}
use Rattle.dsql_laws_calls.specs.history.Readers.Owed.{owed}
use Rattle.dsql_laws_calls.specs.history.Readers.Pool.{pool}
use Rattle.dsql_engine_desk.specs.declared.desk.Desk.{Desk}
use Rattle.dsql_engine_desk.specs.Appending.{is_close}
use Rattle.dsql_engine_desk.specs.Desk.{past, Tables, Stands}
use Rattle.dsql_engine_desk.proofs.Moves.{few_drawn}

pub few_openings : (d : Desk) → Stands d → length (past d) < most_within_a_step → d.pool.pooled.drawn ≤ most_drawn
unfolding Stands
few_openings d s few =
    let drawn = few_drawn (past d) in
    let is : d.pool.pooled.drawn ≡ (pool (past d)).drawn = ap (λ p. p.drawn) s.pool in
    omega (arith, drawn, is, few)

-- The tables stand beside any other pool.
pub beside_pool : (d : Desk) (other : Pool) → Tables d → Tables (record d { pool = other })
beside_pool d other t =
    record {
      lawful = t.lawful;
      calm = t.calm;
      caps = t.caps;
      ended = t.ended;
      lines = t.lines;
      calls = t.calls;
      unfinished = t.unfinished;
      sent = t.sent;
      step = t.step;
      labels = t.labels;
      tx_labels = t.tx_labels;
      rows = t.rows;
      once = t.once;
      counted = t.counted;
      txs = t.txs;
      room = record {
        history = t.room.history;
        there = t.room.there;
        lines = t.room.lines;
        opened = t.room.opened;
        calls = t.room.calls;
        unfinished = t.room.unfinished;
        sent = t.room.sent;
        labels = t.room.labels;
        tx_labels = t.room.tx_labels;
        rows = t.room.rows;
        txs = t.room.txs;
      };
    }

-- What a call leaves unchanged that enters and doesn't close the database.
pub record Enters (H : List Event) (client n : ℕ) (op : Op) : Type 0 where
  pub owing : owed (Entered client n op ∷ H) ≡ []
  pub closed_by : db_end (Entered client n op ∷ H) ≡ db_end H
  pub pool : pool (Entered client n op ∷ H) ≡ pool H

pub enters : (H : List Event) (client n : ℕ) (op : Op) → is_close op ≡ false → Enters H client n op
enters H client n DbClose other = absurd cc
enters H client n op other = record { owing = refl; closed_by = refl; pool = refl }

-- A connection that is given back makes at least one move.
pub some_move : (c : ℕ) (p : Pooled) (o : Outcome) → 1 ≤ length (moves_back c p o)
some_move c p (Closes why) = omega arith
some_move c p Serves = omega arith
some_move c p Rests = omega arith
