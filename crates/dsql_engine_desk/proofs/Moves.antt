-- What the pool's moves leave unchanged.
use Rattle.std.proofs.Common.{◌≡◌, ◌≤◌, List, [], ◌∷◌, ◌++◌, length, refl, ap, ◌∙◌, arith}
use Rattle.dsql_laws_calls.specs.pool.declared.moves.Move.{Move}
use Rattle.dsql_laws_calls.specs.pool.declared.moves.Move.TheVariants.{OpenStart, Lend, Back, CloseStart, Gone, Fell}
use Rattle.dsql_laws_calls.specs.pool.Pooled.{Pooled}
use Rattle.dsql_laws_calls.specs.history.declared.event.Event.{Event}
use Rattle.dsql_laws_calls.specs.history.declared.event.Event.TheVariants.{Entered, Pool, Ticked, SetLimit}
use Rattle.dsql_laws_calls.specs.history.declared.event.Op.TheVariants.{DbClose}
use Rattle.dsql_laws_calls.specs.history.declared.event.Control.{Control}
use Rattle.dsql_laws_calls.specs.history.declared.event.Setting.TheVariants.{MaxOpen}
use Rattle.dsql_laws_calls.specs.history.declared.event.Control.TheVariants.{Tick, Set}
use Rattle.dsql_laws_calls.specs.history.Readers.Course.{caps, db_end, has_ended}
use Rattle.dsql_laws_calls.specs.history.Readers.HandedOut.{handed_out}
use Rattle.dsql_laws_calls.specs.history.Readers.Pool.{with_control, pool}
use Rattle.dsql_laws_calls.specs.history.Readers.Transactions.{transactions}
use Rattle.dsql_laws_calls.specs.history.Readers.Unfinished.{unfinished}
use Rattle.dsql_laws_calls.specs.history.Readers.Works.{works}
use Rattle.dsql_laws_calls.specs.history.Legal.{Calm}
use Rattle.dsql_laws_calls.specs.laws.OwedMade.{with_moves}
use Rattle.dsql_engine_exchanged.specs.Heard.{nothing_heard}
use Rattle.dsql_engine_lines.specs.declared.lines.Lines.{Lines}
use Rattle.dsql_engine_lines.specs.Inside.{lines, lines_entered}
use Rattle.dsql_engine_lines.specs.Lines.{in_transactions}
use Rattle.dsql_engine_lines.specs.There.{heard_there, lent_by, lent_by_all}
use Rattle.dsql_engine_lines.specs.Sent.{sent}

-- What holds of a history K that moves leave unchanged from H.
pub record Leaves (H K : List Event) : Type 0 where
  pub caps : caps K ≡ caps H
  pub db_end : db_end K ≡ db_end H
  pub has_ended : has_ended K ≡ has_ended H
  pub unfinished : unfinished K ≡ unfinished H
  pub works : works K ≡ works H
  pub handed_out : handed_out K ≡ handed_out H
  pub transactions : transactions K ≡ transactions H
  pub sent : sent K ≡ sent H
  pub lines : lines K ≡ lines H

pub leaves : (ms : List Move) (H : List Event) → Leaves H (with_moves ms H)
leaves [] H = record { caps = refl; db_end = refl; has_ended = refl; unfinished = refl; works = refl; handed_out = refl; transactions = refl; sent = refl; lines = refl }
leaves (m ∷ ms) H =
    let rest = leaves ms (Pool m ∷ H) in
    record {
      caps = rest.caps;
      db_end = rest.db_end;
      has_ended = rest.has_ended;
      unfinished = rest.unfinished;
      works = rest.works;
      handed_out = rest.handed_out;
      transactions = rest.transactions;
      sent = rest.sent;
      lines = rest.lines;
    }

-- A move changes what was heard on connections since they were lent only if it begins an opening or is a
-- lending.
pub there_move : (m : Move) (H : List Event) → heard_there (Pool m ∷ H) ≡ lent_by m (heard_there H)
there_move (OpenStart c n) H = refl
there_move _ H = refl

pub there_moves : (ms : List Move) (H : List Event) → heard_there (with_moves ms H) ≡ lent_by_all ms (heard_there H)
there_moves [] H = refl
there_moves (m ∷ ms) H = there_moves ms (Pool m ∷ H) ∙ ap (lent_by_all ms) (there_move m H)

-- The lines of transactions are the same if the calls' lines and the open transactions are.
pub inside_same : (after before : Lines) → after.calls ≡ before.calls → after.«open» ≡ before.«open» → in_transactions after ≡ in_transactions before
inside_same after before same_calls same_open = rw (same_calls, same_open) refl

-- A call that enters adds one line, in which nothing was heard.
pub inside_entered : (after before : Lines) → after.calls.items ≡ before.calls.items ++ nothing_heard ∷ [] → after.«open» ≡ before.«open» → in_transactions after ≡ lines_entered (in_transactions before)
inside_entered after before more same_open = rw (more, same_open) refl

pub stays_calm : (ms : List Move) (H : List Event) → Calm H → Calm (with_moves ms H)
stays_calm [] H calm = calm
stays_calm (m ∷ ms) H calm = stays_calm ms (Pool m ∷ H) (calm, λ outside. absurd cc)

drawn_control : (control : Control) (p : Pooled) → (with_control control p).drawn ≡ p.drawn
drawn_control (Set MaxOpen n) p = refl
drawn_control _ p = refl

-- The pool has drawn at most as many numbers as there are events, because each opening and each lending is an
-- event.
pub few_drawn : (H : List Event) → (pool H).drawn ≤ length H
few_drawn [] = omega arith
few_drawn (Entered client n DbClose ∷ H) = let few = few_drawn H in omega (arith, few)
few_drawn (Pool (OpenStart c n) ∷ H) = let few = few_drawn H in omega (arith, few)
few_drawn (Pool (Lend c t o n) ∷ H) = let few = few_drawn H in omega (arith, few)
few_drawn (Pool (Back c) ∷ H) = let few = few_drawn H in omega (arith, few)
few_drawn (Pool (CloseStart c why) ∷ H) = let few = few_drawn H in omega (arith, few)
few_drawn (Pool (Gone c) ∷ H) = let few = few_drawn H in omega (arith, few)
few_drawn (Pool (Fell c n) ∷ H) = let few = few_drawn H in omega (arith, few)
few_drawn (Ticked now ∷ H) = let few = few_drawn H in let same = drawn_control (Tick now) (pool H) in omega (arith, few, same)
few_drawn (SetLimit s n ∷ H) = let few = few_drawn H in let same = drawn_control (Set s n) (pool H) in omega (arith, few, same)
few_drawn (_ ∷ H) = let few = few_drawn H in omega (arith, few)
