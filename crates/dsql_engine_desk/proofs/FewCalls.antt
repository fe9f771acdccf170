-- Each call is an event and has a row, so their number is bounded.
use Rattle.std.proofs.Common.{◌≡◌, ◌<◌, ◌≤◌, ◌+◌, List, [], ◌∷◌, length, length-set, length-append, sym, ap, ◌∙◌, arith}
use Rattle.std.proofs.lemmas.List.{length-map}
use Rattle.dsql_laws_calls.specs.history.declared.event.Event.{Event}
use Rattle.dsql_laws_calls.proofs.Stays.{as_many}
use Rattle.dsql_laws_calls.specs.history.declared.event.Event.TheVariants.{Entered, Heard, Replied}
use Rattle.dsql_laws_calls.specs.history.Readers.Calls.{calls, entering}
use Rattle.dsql_laws_calls.specs.history.Readers.HandedOut.{handed_out}
use Rattle.dsql_laws_calls.specs.history.Readers.Works.{works}
use Rattle.dsql_laws_calls.specs.works.Limits.{most_within_a_step}
use Rattle.dsql_engine_calls.specs.Tried.{most_counted}
use Rattle.dsql_engine_calls.specs.declared.call.CallRow.{CallRow}
use Rattle.dsql_engine_effects.specs.Once.{AreMadeOnce}
use Rattle.dsql_engine_desk.specs.declared.desk.Desk.{Desk}
use Rattle.dsql_engine_desk.specs.Desk.{past, Stands}

few_calls : (H : List Event) → length (calls H) ≤ length H + 1
few_calls [] = omega arith
few_calls (Entered client n op ∷ H) = let few = few_calls H in let more = length-append (calls H) (entering H client op ∷ []) in omega (arith, few, more)
few_calls (Heard e ∷ H) = let few = few_calls H in grind (arith, length-set, few)
few_calls (Replied n reply ∷ H) = let few = few_calls H in grind (arith, length-set, few)
few_calls (_ ∷ H) = let few = few_calls H in omega (arith, few)

pub rows_counted : (d : Desk) → Stands d → length d.calls.items ≡ length (calls (past d))
unfolding Stands
rows_counted d s = sym (length-map d.calls.items (λ (row : CallRow). row.call)) ∙ ap length s.tables.calls.calls

pub few_rows : (d : Desk) → Stands d → length d.calls.items ≤ length (past d) + 1
few_rows d s = let few = few_calls (past d) in let same = rows_counted d s in omega (arith, few, same)

-- The calls are few enough to be counted.
pub few_works : (H : List Event) → length H < most_within_a_step → length (works H) ≤ most_counted
few_works H few = let events = few_calls H in let same = as_many H in omega (arith, few, events, same)

-- Each query made its rows once.
pub made_once : (d : Desk) → Stands d → AreMadeOnce (handed_out (past d))
unfolding Stands
made_once d s = s.tables.once

-- Each call has a number that fits.
pub few_numbers : (d : Desk) → Stands d → length d.calls.items ≤ 4294967296
unfolding Stands
few_numbers d s = let few = s.tables.counted in let many = as_many (past d) in let same = rows_counted d s in omega (arith, few, many, same)
