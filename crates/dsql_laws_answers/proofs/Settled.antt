-- A call that has settled its reply itself and stands somewhere has something more to send.
use Rattle.std.proofs.Common.{◌≡◌, ◌≢◌, ℕ, ◌==◌, Bool, true, false, not, ◌&&◌, ◌||◌, cond, List, Option, Some, None, is_some, is_none, refl, sym, ap, ◌∙◌}
use Rattle.std.specs.List.{list_any}
use Rattle.dsql_laws_calls.specs.wait.Requests.{waits}
use Rattle.dsql_laws_calls.specs.pool.Calls.{wants}
use Rattle.dsql_laws_calls.specs.pool.Places.{is_for}
use Rattle.dsql_laws_calls.specs.history.Readers.Pool.{smallest, is_home, pool}
use Rattle.dsql_laws_calls.specs.history.Readers.Tries.{asks_again, tries}
use Rattle.dsql_laws_calls.proofs.laws.Places.{neither, none_opens}
use Rattle.dsql_laws_calls.proofs.laws.Tests.{other_number, second}
use Rattle.dsql_laws_others.proofs.Settling.{somewhere}
use Rattle.dsql_laws_calls.specs.history.declared.event.Event.{Event}
use Rattle.dsql_laws_calls.specs.history.declared.reply.Reply.{Reply}
use Rattle.dsql_laws_calls.specs.history.Readers.Calls.{site, decided, told_by_others, rests}
use Rattle.dsql_laws_calls.specs.history.Readers.Unfinished.{unfinished, is_unfinished}
use Rattle.dsql_laws_calls.specs.history.Rules.Line.{due_for}
use Rattle.dsql_laws_calls.specs.history.Rules.Settled.{calls_stand}
use Rattle.dsql_laws_calls.specs.history.Rules.Stands.{is_own_step, is_settled_for, has_to_reply, stand}
use Rattle.dsql_laws_calls.specs.history.Legal.{Lawful}
use Rattle.dsql_laws_calls.proofs.AtEnd.{all_has}
use Rattle.dsql_laws_calls.proofs.Told.{wants_undecided}

-- A call that has settled its reply, and neither rests nor asks again.
pub record Settling (H : List Event) (m : ℕ) : Type 0 where
  pub number : m ≢ 0
  pub unfinished : is_unfinished H m ≡ true
  pub decided : is_some (decided H m) ≡ true
  pub tried : asks_again (tries H m) ≡ false
  pub unresting : rests H m ≡ false

sends_only : (w d r a : Bool) (o : Option ℕ) → w ≡ false → is_some o ≡ false → r ≡ false → a ≡ false → (w || (is_some o || ((d || r) || a))) ≡ true → d ≡ true
sends_only true d r a o p q s t h = absurd cc
sends_only false true r a o p q s t h = refl
sends_only false false true a o p q s t h = absurd cc
sends_only false false false true o p q s t h = absurd cc
sends_only false false false false None p q s t h = absurd cc
sends_only false false false false (Some c) p q s t h = absurd cc

pub decided_not : {A : Type 0} (o : Option Reply) → is_some o ≡ true → o ≡ None → A
decided_not None h none = absurd cc
decided_not (Some r) h none = absurd cc

unwanting : (H : List Event) (m : ℕ) → Lawful H → Settling H m → wants m (pool H) ≡ false
unwanting H m l s = by (wants m (pool H)) refl
  where
    by : (b : Bool) → wants m (pool H) ≡ b → b ≡ false
    by true h = decided_not (decided H m) s.decided (wants_undecided H m l s.number h)
    by false h = refl

unsettled : (o : Option Reply) (b : Bool) → is_some o ≡ true → (is_none o && b) ≡ false
unsettled None b h = absurd cc
unsettled (Some r) b h = refl

and_not : (a b : Bool) → b ≡ false → (not a && b) ≡ false
and_not true b h = refl
and_not false b h = h

replies_not : (H : List Event) (m : ℕ) → Settling H m → has_to_reply H m ≡ false
replies_not H m s =
    and_not (is_own_step H m) (is_settled_for H m)
    (ap (λ b. is_some (cond b (smallest (is_home m) (pool H)) None) || (is_none (decided H m) && is_some (told_by_others H m))) s.unresting ∙ unsettled (decided H m) (is_some (told_by_others H m)) s.decided)

pub settling_sends : (H : List Event) (m : ℕ) → Lawful H → Settling H m → is_some (stand H m) ≡ true → is_some (due_for H m) ≡ true
settling_sends H m l s h =
    let wanting = neither (waits m (pool H).waiting) (list_any (λ conn. is_for m conn.place) (pool H).conns) (unwanting H m l s) in
    sends_only (waits m (pool H).waiting) (is_some (due_for H m)) (has_to_reply H m) (asks_again (tries H m)) (smallest (is_for m) (pool H)) wanting.0
    (ap (λ o. is_some o) (none_opens m (pool H) wanting.1)) (replies_not H m s) s.tried
    (sym (somewhere (waits m (pool H).waiting) (smallest (is_for m) (pool H)) (is_some (due_for H m)) (has_to_reply H m) (asks_again (tries H m)) (site H m)) ∙ h)

-- Each unfinished call stands somewhere if all calls go on.
pub stands_there : (H : List Event) (m : ℕ) → m ≢ 0 → is_unfinished H m ≡ true → calls_stand H ≡ true → is_some (stand H m) ≡ true
stands_there H m number u h = second (m == 0) (is_some (stand H m)) (other_number m 0 number) (all_has (λ k. (k == 0) || is_some (stand H k)) (unfinished H) m h u)
