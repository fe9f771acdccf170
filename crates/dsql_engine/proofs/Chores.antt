-- If a driver call of the layer is due on a connection, then the layer has one to make there.
use Rattle.std.proofs.Common.{◌≡◌, ℕ, Bool, true, not, List, [], Option, Some, None, is_some, refl, sym, ap, ◌∙◌}
use Rattle.std.specs.Prelude.{find}
use Rattle.std.specs.Option.{option_map}
use Rattle.dsql_engine_hearing.specs.course.Made.{or_else}
use Rattle.dsql_engine_hearing.specs.driver.declared.call.DriverCall.{DriverCall}
use Rattle.dsql_engine_hearing.specs.journal.declared.entry.Owner.{Owner}
use Rattle.dsql_engine_hearing.specs.journal.declared.entry.Permit.{Permit}
use Rattle.dsql_engine_hearing.specs.journal.Kinds.{is_house, number_of}
use Rattle.dsql_engine_hearing.specs.pool.declared.conn.Conn.{Conn}
use Rattle.dsql_engine_hearing.specs.pool.declared.conn.Place.{Place}
use Rattle.dsql_engine_hearing.specs.pool.declared.conn.Place.TheVariants.{Lent, Opening, Closing}
use Rattle.dsql_engine_hearing.specs.pool.Places.{is_closing, is_opening}
use Rattle.dsql_engine_hearing.specs.works.declared.work.Aim.TheVariants.{Execute}
use Rattle.dsql_engine_hearing.specs.works.Line.{Asked}
use Rattle.dsql_engine_hearing.proofs.laws.Tests.{both}
use Rattle.dsql_engine_hearing.specs.history.declared.event.Event.{Event}
use Rattle.dsql_engine_hearing.specs.history.Readers.Pool.{place, pool, smallest}
use Rattle.dsql_engine_hearing.specs.history.Rules.House.{chore_due, connect_due, is_untidy, shut_due, tidy_due}
use Rattle.dsql_engine_hearing.specs.history.Rules.Line.{tidying}
use Rattle.dsql_engine_hearing.specs.exchanged.declared.bare.BareCall.{BareCall}
use Rattle.dsql_engine_hearing.specs.exchanged.Filled.{filled}
use Rattle.dsql_engine_hearing.proofs.laws_others.OnceLeft.{once}
use Rattle.dsql_engine_hearing.proofs.laws_others.Once.{found_number}
use Rattle.dsql_engine_hearing.specs.going.Permits.{call_permit, chore_at, chore_permit, tx_carried}
use Rattle.dsql_engine_hearing.specs.going.declared.next.Next.TheVariants.{Send, Quiet}
use Rattle.dsql_engine.specs.Chores.{chore_next}

-- If something holds of each connection in such a place, it holds of the smallest connection in one.
found_there : (H : List Event) (test : Place → Bool) (right : Option Place → Bool) (c : ℕ) (found : Option Conn) → ((at : Place) → test at ≡ true → right (Some at) ≡ true) → find (λ conn. test conn.place) (pool H).conns ≡ found
    → option_map (λ (conn : Conn). conn.number) found ≡ Some c → right (place H c) ≡ true
found_there H test right c None each is k = absurd cc
found_there H test right c (Some x) each is k =
    let f = found_number (λ (conn : Conn). test conn.place) (pool H).conns x (once H) is in
    let same : x.number ≡ c = cc in
    let at : place H c ≡ Some x.place = ap (place H) (sym same) ∙ ap (option_map (λ (conn : Conn). conn.place)) f.0 in
    ap right at ∙ each x.place f.1

there : (H : List Event) (test : Place → Bool) (right : Option Place → Bool) (c : ℕ) → ((at : Place) → test at ≡ true → right (Some at) ≡ true) → smallest test (pool H) ≡ Some c → right (place H c) ≡ true
there H test right c each is = found_there H test right c (find (λ conn. test conn.place) (pool H).conns) each refl is

mapped : (f : DriverCall → Permit) (o : Option DriverCall) → is_some o ≡ true → is_some (option_map f o) ≡ true
mapped f None h = absurd cc
mapped f (Some call) h = refl

unmapped : (f : DriverCall → Permit) (o : Option DriverCall) → is_some (option_map f o) ≡ true → is_some o ≡ true
unmapped f None h = absurd cc
unmapped f (Some call) h = refl

tidies : (H : List Event) (c : ℕ) (at : Place) → is_untidy H at ≡ true → is_some (chore_at H c (Some at)) ≡ true
tidies H c (Lent t owner) h =
    let due = tidying H (number_of owner) in mapped (call_permit c t owner 0) due (both (not (is_house owner)) (is_some due) h).1
tidies H c _ h = absurd cc

shuts : (H : List Event) (c : ℕ) (at : Place) → is_closing (Some at) ≡ true → is_some (chore_at H c (Some at)) ≡ true
shuts H c Closing h = refl
shuts H c _ h = absurd cc

connects : (H : List Event) (c : ℕ) (at : Place) → is_opening (Some at) ≡ true → is_some (chore_at H c (Some at)) ≡ true
connects H c (Opening wanted) h = refl
connects H c _ h = absurd cc

one_of : (a b d : Option ℕ) (c : ℕ) (P : Bool) → (a ≡ Some c → P ≡ true) → (b ≡ Some c → P ≡ true) → (d ≡ Some c → P ≡ true) → or_else a (or_else b d) ≡ Some c → P ≡ true
one_of (Some x) b d c P first second third is = first is
one_of None (Some x) d c P first second third is = second is
one_of None None d c P first second third is = third is

pub chore_given : (H : List Event) (c : ℕ) → chore_due H ≡ Some c → is_some (chore_permit H c) ≡ true
chore_given H c is =
    let right : Option Place → Bool = λ at. is_some (chore_at H c at) in
    one_of (tidy_due H) (shut_due H) (connect_due H) c (is_some (chore_permit H c)) (there H (is_untidy H) right c (tidies H c)) (there H (λ at. is_closing (Some at)) right c (shuts H c)) (there H (λ at. is_opening (Some at)) right c (connects H c)) is

-- The due driver call is sent with its permit.
pub chore_sent : (H : List Event) (c : ℕ) (permit : Permit) → chore_due H ≡ Some c → chore_permit H c ≡ Some permit → chore_next H (chore_due H) ≡ Some (Send permit)
chore_sent H c permit due leave = ap (chore_next H) due ∙ ap (option_map Send) leave

pub chore_quiet : (H : List Event) → chore_due H ≡ None → chore_next H (chore_due H) ≡ Some Quiet
chore_quiet H none = ap (chore_next H) none

-- What the layer sends on a lent connection closes the rows of the owner's call or ends its transaction.
pub due_tidying : (H : List Event) (c t : ℕ) (owner : Owner) (at : Option Place) → is_some (chore_permit H c) ≡ true → at ≡ place H c → at ≡ Some (Lent t owner) → is_some (tidying H (number_of owner)) ≡ true
due_tidying H c t owner at due is lent = unmapped (call_permit c t owner 0) (tidying H (number_of owner)) (sym (ap (λ it. is_some (chore_at H c it)) (sym is ∙ lent)) ∙ due)

-- A call of which nothing is known asks nothing of the driver.
abbrev pub nobody_asks : Asked
nobody_asks = record { text = []; params = []; aim = Execute }

-- The permit holds the driver call, which has no statement, and the transaction that the driver call carries.
pub tidy_given : (c t : ℕ) (owner : Owner) (asked : Asked) (answer : Option BareCall) (sent : BareCall) (tx : ℕ) (due : Option DriverCall)
    → option_map (filled asked) answer ≡ due → answer ≡ Some sent → tx ≡ tx_carried owner (filled asked sent)
    → option_map (call_permit c t owner 0) due ≡ Some (record { conn = c; tenure = t; owner = owner; call_no = 0; tx = tx; call = filled asked sent })
tidy_given c t owner asked answer sent tx due told is carried =
    ap (option_map (call_permit c t owner 0)) (sym told ∙ ap (option_map (filled asked)) is)
    ∙ ap (λ k. Some (record { conn = c; tenure = t; owner = owner; call_no = 0; tx = k; call = filled asked sent })) (sym carried)
