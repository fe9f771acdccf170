-- A driver call that is due is sent on a lent connection.
use Rattle.std.proofs.Common.{◌≡◌, ℕ, Bool, true, false, cond, List, Option, Some, None, is_some, refl, sym, ap, ◌∙◌}
use Rattle.std.specs.Option.{option_map}
use Rattle.dsql_laws_calls.specs.driver.declared.call.DriverCall.{DriverCall}
use Rattle.dsql_laws_calls.specs.journal.declared.entry.Permit.{Permit}
use Rattle.dsql_laws_calls.specs.pool.declared.conn.Place.{Place}
use Rattle.dsql_laws_calls.specs.pool.Places.{is_lent}
use Rattle.dsql_laws_calls.specs.pool.declared.conn.Place.TheVariants.{Lent}
use Rattle.dsql_laws_calls.specs.works.Line.{Asked}
use Rattle.dsql_laws_calls.proofs.DueLent.{due_lent_for, lent_out}
use Rattle.dsql_laws_calls.specs.history.declared.event.Event.{Event}
use Rattle.dsql_laws_calls.specs.history.Readers.Calls.{site}
use Rattle.dsql_laws_calls.specs.history.Readers.Pool.{place}
use Rattle.dsql_laws_calls.specs.history.Readers.Unfinished.{is_unfinished}
use Rattle.dsql_laws_calls.specs.history.Readers.Works.{borrower, work}
use Rattle.dsql_laws_calls.specs.history.Rules.Line.{due_for, due_in}
use Rattle.dsql_laws_calls.specs.history.Rules.Sent.{asked_by}
use Rattle.dsql_laws_calls.specs.history.Legal.{Lawful}
use Rattle.dsql_laws_calls.proofs.laws.Numbered.{unfinished_from_one}
use Rattle.dsql_engine_exchanged.specs.declared.bare.BareCall.{BareCall}
use Rattle.dsql_engine_exchanged.specs.Filled.{filled}
use Rattle.dsql_engine_going.specs.Permits.{permit_for, sent_at}
use Rattle.dsql_engine_desk.proofs.Due.{is_filled}

due_out : (H : List Event) (m : ℕ) → Lawful H → is_some (due_for H m) ≡ true → is_lent (place H (site H m)) ≡ true
due_out H m l h = by (is_unfinished H m) refl h
  where
    by : (b : Bool) → is_unfinished H m ≡ b → is_some (cond b (due_in H m (work H m)) None) ≡ true → is_lent (place H (site H m)) ≡ true
    by true u k = lent_out (borrower H m) (place H (site H m)) (due_lent_for H m (unfinished_from_one H m l u) h)
    by false u k = absurd cc

leave_there : (m c : ℕ) (at : Option Place) (sent : Option DriverCall) → is_lent at ≡ true → is_some sent ≡ true → is_some (sent_at m c at sent) ≡ true
leave_there m c (Some (Lent t owner)) (Some call) lent due = refl
leave_there m c (Some (Lent t owner)) None lent due = absurd cc
leave_there m c at sent lent due = absurd cc

pub leave_given : (H : List Event) (m : ℕ) → Lawful H → is_some (due_for H m) ≡ true → is_some (permit_for H m) ≡ true
leave_given H m l due = leave_there m (site H m) (place H (site H m)) (due_for H m) (due_out H m l due) due

-- What the desk returns decides whether a driver call is due for call m.

pub due_told : (H : List Event) (m : ℕ) (answer found : Option BareCall) → option_map (filled (asked_by H m)) answer ≡ due_for H m → answer ≡ found → is_some (due_for H m) ≡ is_some found
due_told H m answer found sent is = sym (ap (λ o. is_some o) sent) ∙ (is_filled (asked_by H m) answer ∙ ap (λ o. is_some o) is)

-- What is sent there is the permit for the call.
pub permit_there : (H : List Event) (m c : ℕ) (due : BareCall) (at : Option Place) (asked : Asked) (answer : Option Permit)
    → c ≡ site H m → Some (filled (asked_by H m) due) ≡ due_for H m → at ≡ place H c → asked ≡ asked_by H m → answer ≡ sent_at m c at (Some (filled asked due)) → answer ≡ permit_for H m
permit_there H m c due at asked answer site_is due_is at_is asked_is is =
    is
    ∙ (ap (λ it. sent_at m c at (Some (filled it due))) asked_is
    ∙ (ap (sent_at m c at) due_is
    ∙ (ap (λ it. sent_at m c it (due_for H m)) at_is ∙ ap (λ d. sent_at m d (place H d) (due_for H m)) site_is)))
