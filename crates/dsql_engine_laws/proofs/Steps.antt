-- Each step of the core keeps the turns of what is under way.
use Rattle.std.proofs.Common.{◌≡◌, ℕ, Bool, true, false, List, [], ◌∷◌, refl, arith}
use Rattle.dsql_engine_hearing.specs.driver.declared.caps.Caps.{Caps}
use Rattle.dsql_engine_hearing.specs.journal.declared.entry.Entry.{Entry}
use Rattle.dsql_engine_hearing.specs.history.declared.event.Event.{Event}
use Rattle.dsql_engine_hearing.specs.history.declared.event.Event.TheVariants.{Run, Entered, Heard, Ticked, SetLimit, Ended}
use Rattle.dsql_engine_hearing.specs.history.declared.event.Op.{Op}
use Rattle.dsql_engine_hearing.specs.history.declared.event.Control.{Control}
use Rattle.dsql_engine_hearing.specs.history.declared.event.Control.TheVariants.{Tick, Set}
use Rattle.dsql_engine_hearing.specs.history.declared.record.Flight.{Flight}
use Rattle.dsql_engine_hearing.specs.history.Readers.Calls.{next_call}
use Rattle.dsql_engine_hearing.specs.history.Readers.Controls.{told, taken, told_after}
use Rattle.dsql_engine_hearing.specs.history.Readers.Owed.{owed}
use Rattle.dsql_engine_hearing.specs.history.Readers.Pool.{place}
use Rattle.dsql_engine_hearing.specs.history.Readers.Unfinished.{is_unfinished}
use Rattle.dsql_engine_hearing.specs.history.Rules.Flights.{is_in_flight, permitted, without_flight}
use Rattle.dsql_engine_hearing.specs.history.Rules.Stands.{stand}
use Rattle.dsql_engine_hearing.specs.history.Legal.{Lawful}
use Rattle.dsql_engine_hearing.proofs.desk.Known.{unfinished_known}
use Rattle.dsql_engine_hearing.specs.going.Reaching.{HasGoneOn}
use Rattle.dsql_engine_hearing.specs.going.declared.next.Next.{Next}
use Rattle.dsql_engine_hearing.proofs.Steps.{landed_apart}
use Rattle.dsql_engine_hearing.proofs.laws_calls.Stays.{as_many}
use Rattle.dsql_engine_hearing.specs.laws_steps.Groups.{after_end, after_enter, after_heard, after_control, gone_on, with_owed}
use Rattle.dsql_engine_laws.specs.Turns.{Flying, flies}
use Rattle.dsql_engine_laws.proofs.Begins.{more_flying, taking_off}
use Rattle.dsql_engine_laws.proofs.Flights.{free_landed}
use Rattle.dsql_engine_laws.proofs.Keeping.{FlyingBut, all_flying, any_flying, done_parked, heard_on, landing, later_on, nobody, quiet_on}
use Rattle.dsql_engine_laws.proofs.Later.{Later, entered_later, gone_later, heard_later, lawful_older, moves_later}

pub begun_flies : (version : ℕ) (caps : Caps) → Flying (Run version caps ∷ []) []
begun_flies version caps = record { known = refl; apart = refl; turns = λ c. refl }

-- A call that enters has no driver call under way.
pub new_parked : (H : List Event) (flights : List Flight) → Lawful H → Flying H flights → is_in_flight (next_call H) flights ≡ false
new_parked H flights l f = done_parked H (next_call H) flights (new (is_unfinished H (next_call H)) refl) f.known
  where
    new : (b : Bool) → is_unfinished H (next_call H) ≡ b → is_unfinished H (next_call H) ≡ false
    new true is = let old = unfinished_known H (next_call H) l is in let many = as_many H in absurd (omega (arith, old, many))
    new false is = is

pub enter_flies : (past : List Event) (client : ℕ) (op : Op) (flights : List Flight) → Lawful (after_enter past client op) → Flying past flights
    → Flying (after_enter past client op) (permitted (next_call past) (stand (after_enter past client op) (next_call past)) flights)
enter_flies past client op flights l f =
    let n = next_call past in
    let first : List Event = Entered client n op ∷ past in
    let K = after_enter past client op in
    let more : Later n first K = entered_later n first in
    let lawful : Lawful first = lawful_older n first K more l in
    let parked = new_parked past flights lawful.0 f in
    let entered : FlyingBut 0 0 first flights = quiet_on 0 0 past (Entered client n op) flights lawful refl tt (any_flying 0 0 past flights f) in
    more_flying K n flights (all_flying 0 0 K flights l refl (later_on n 0 0 first K flights more l parked entered))

-- A step of no call keeps the turns.
owed_flies : (first : List Event) (flights : List Flight) → Lawful (with_owed first) → Flying first flights → Flying (with_owed first) flights
owed_flies first flights l f =
    let K = with_owed first in
    let more : Later 0 first K = moves_later 0 (owed first) first in
    let lawful : Lawful first = lawful_older 0 first K more l in
    let parked = done_parked first 0 flights (nobody first 0 lawful refl) f.known in
    all_flying 0 0 K flights l refl (later_on 0 0 0 first K flights more l parked (any_flying 0 0 first flights f))

lawful_owed : (first : List Event) → Lawful (with_owed first) → Lawful first
lawful_owed first l = lawful_older 0 first (with_owed first) (moves_later 0 (owed first) first) l

told_flies : (past : List Event) (control : Control) (flights : List Flight) → Lawful (told control ∷ past) → Flying past flights → Flying (told control ∷ past) flights
told_flies past (Tick now) flights l f = all_flying 0 0 (Ticked now ∷ past) flights l refl (quiet_on 0 0 past (Ticked now) flights l refl tt (any_flying 0 0 past flights f))
told_flies past (Set setting n) flights l f =
    all_flying 0 0 (SetLimit setting n ∷ past) flights l refl (quiet_on 0 0 past (SetLimit setting n) flights l refl tt (any_flying 0 0 past flights f))

pub control_flies : (past : List Event) (control : Control) (flights : List Flight) → Lawful (after_control past control) → Flying past flights → Flying (after_control past control) flights
control_flies past control flights l f =
    let first : List Event = told_after past control ∷ past in owed_flies first flights l (told_flies past (taken past control) flights (lawful_owed first l) f)

pub end_flies : (past : List Event) (flights : List Flight) → Lawful (after_end past) → Flying past flights → Flying (after_end past) flights
end_flies past flights l f =
    let first : List Event = Ended ∷ past in
    let lawful = lawful_owed first l in
    owed_flies first flights l (all_flying 0 0 first flights lawful refl (quiet_on 0 0 past Ended flights lawful refl tt (any_flying 0 0 past flights f)))

-- An answer keeps the turns, with the flights that are left after its own driver call has landed.
heard_flies : (past : List Event) (e : Entry) (flights : List Flight) → Lawful (after_heard past e) → is_in_flight e.call_no flights ≡ false → FlyingBut e.call_no e.conn past flights
    → FlyingBut e.call_no e.conn (after_heard past e) flights
heard_flies past e flights l parked f =
    let n = e.call_no in
    let first : List Event = Heard e ∷ past in
    let K = after_heard past e in
    let more : Later n first K = heard_later past e (place past e.conn) in
    let lawful : Lawful first = lawful_older n first K more l in
    later_on n n e.conn first K flights more l parked (heard_on past e flights lawful f)

pub answer_flies : (past : List Event) (e : Entry) (before after : List Flight) (next : Next) → Lawful (after_heard past e) → Flying past before → flies e.call_no e.conn before ≡ true
    → HasGoneOn (after_heard past e) (without_flight e.call_no before) after e.call_no next → Flying (after_heard past e) after
answer_flies past e before after next l f at went =
    let n = e.call_no in
    let left = without_flight n before in
    let parked = landed_apart n before in
    taking_off (after_heard past e) n e.conn left after next l (heard_flies past e left l parked (landing past n e.conn before f at)) parked (free_landed n e.conn before f.apart at) went

pub layer_flies : (past : List Event) (e : Entry) (flights : List Flight) → Lawful (after_heard past e) → Flying past flights → e.call_no ≡ 0 → Flying (after_heard past e) flights
layer_flies past e flights l f none =
    let n = e.call_no in
    let first : List Event = Heard e ∷ past in
    let K = after_heard past e in
    let lawful : Lawful first = lawful_older n first K (heard_later past e (place past e.conn)) l in
    let parked = done_parked past n flights (nobody past n lawful.0 none) f.known in
    all_flying n e.conn K flights l none (heard_flies past e flights l parked (any_flying n e.conn past flights f))

pub wake_flies : (past : List Event) (n : ℕ) (flights : List Flight) → Lawful (gone_on n past) → Flying past flights → is_in_flight n flights ≡ false
    → Flying (gone_on n past) (permitted n (stand (gone_on n past) n) flights)
wake_flies past n flights l f parked =
    let K = gone_on n past in
    more_flying K n flights (all_flying 0 0 K flights l refl (later_on n 0 0 past K flights (gone_later n past) l parked (any_flying 0 0 past flights f)))
