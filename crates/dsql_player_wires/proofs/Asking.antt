-- A call was answered, and the history goes on with the answer and with what isn't heard. For each kind of call
-- the argument shows that the wires fit the new history, and what the fleet records.
use Rattle.std.proofs.Common.{◌≡◌, ◌≢◌, ℕ, Bool, true, false, List, [], ◌∷◌, ◌++◌, Option, Some, None, refl, sym, ◌∙◌, ap, subst, set}
use Rattle.std.specs.Prelude.{is_some, IfSome, IsSome, IsSomeAnd}
use Rattle.std.specs.List.{list_all}
use Rattle.dsql_history.specs.driver.Fits.{is_memory}
use Rattle.dsql_history.specs.driver.Kinds.{is_connect, is_shut}
use Rattle.dsql_history.specs.driver.Wires.{WireTold, FleetTold, connected_after}
use Rattle.dsql_history.specs.journal.HandlesAndCursors.{fits_at_its_place}
use Rattle.dsql_history.specs.journal.declared.entry.Entry.{Entry}
use Rattle.dsql_history.specs.journal.declared.entry.Permit.{Permit}
use Rattle.dsql_tenure.specs.Judged.{answered}
use Rattle.dsql_wire.specs.Journaled.{Journaled, MayBeSent}
use Rattle.dsql_wire.specs.Told.{TellsOf}
use Rattle.dsql_wire.proofs.Answered.{makes}
use Rattle.dsql_history.specs.declared.event.Event.{Event}
use Rattle.dsql_history.specs.declared.event.Event.TheVariants.{Heard}
use Rattle.dsql_history.specs.Readers.Journals.{journal}
use Rattle.dsql_player_wires.specs.Asked.{Answers, Performs, Connects}
use Rattle.dsql_player_wires.specs.Made.{Made, aside_on, no_aside}
use Rattle.dsql_player_wires.specs.Told.{hears_nothing, fleet_told, FleetTells, retired_slot}
use Rattle.dsql_player_wires.specs.WiresFit.{slot, HoldsWire, FitsAt, WiresFit, HearsEntry, KeepsPlans, OpensWire, RecordsAside}
use Rattle.dsql_player_wires.proofs.Permits.{conn_of_answered, sent_wired}
use Rattle.dsql_player_wires.proofs.Reading.{unheard_told, answered_told, shut_told, connect_told, slot_told}
use Rattle.dsql_player_wires.proofs.Plans.{answered_plans, heard_plans, opened_plans, shut_plans, unheard_plans}
use Rattle.dsql_player_wires.proofs.Telling.{tells_connect, tells_none}
use Rattle.dsql_player_wires.proofs.Wiring.{holds_here, holds_heard, held_fits, unheard_fits, answered_fits, shut_fits, opened_fits}

-- Holds if the entry that an answer makes of a permit is of the permit's connection and call.
record IsOf (p : Permit) (e : Entry) : Type 0 where
  conn : e.conn ≡ p.conn
  call : e.call ≡ p.call

is_of : (p : Permit) (e : Entry) → e ≡ answered p e.answer → IsOf p e
is_of p e is = record { conn = ap (λ (x : Entry). x.conn) is ∙ conn_of_answered p e.answer; call = (makes p e.answer e is).call }

others_of : {W : Type 0} (p : Permit) (e : Entry) (before after : List (Option W)) → IsOf p e → ((c : ℕ) → c ≢ p.conn → slot after c ≡ slot before c) → (c : ℕ) → c ≢ e.conn → slot after c ≡ slot before c
others_of p e before after of others = subst (λ (n : ℕ). (c : ℕ) → c ≢ n → slot after c ≡ slot before c) (sym of.conn) others

noted_of : {W : Type 0} (heard : W → Option WireTold) (p : Permit) (e : Entry) (before after : List (Option (Journaled W))) → IsOf p e → HearsEntry heard e (slot before p.conn) (slot after p.conn)
    → HearsEntry heard e (slot before e.conn) (slot after e.conn)
noted_of heard p e before after of noted = subst (λ (n : ℕ). HearsEntry heard e (slot before n) (slot after n)) (sym of.conn) noted

-- The wire of a connection takes every call that its journal lets be sent.
pub wire_sends : {W : Type 0} (heard : W → Option WireTold) (telling : Bool) (past : List Event) (p : Permit) (ws : List (Option (Journaled W))) → WiresFit heard telling past ws → MayBeSent p.conn (journal past p.conn) p
    → is_connect p.call ≡ false → IsSomeAnd (slot ws p.conn) (λ w. MayBeSent w.conn w.journal p)
wire_sends {W} heard telling past p ws fit may plain =
    by_wire (slot ws p.conn) (holds_here heard telling p.conn (journal past p.conn) (slot ws p.conn) (sent_wired p.conn (journal past p.conn) p may plain) (fit p.conn))
  where
    by_wire : (w : Option (Journaled W)) → HoldsWire heard telling p.conn (journal past p.conn) w → IsSomeAnd w (λ w. MayBeSent w.conn w.journal p)
    by_wire None h = absurd h
    by_wire (Some w) h =
        subst (λ (j : List Entry). MayBeSent w.conn j p) (sym h.journal) (subst (λ (n : ℕ). MayBeSent n (journal past p.conn) p) (sym h.conn) may)

-- What fits at its place on the wire fits in the history.
pub wire_fits : {W : Type 0} (heard : W → Option WireTold) (telling : Bool) (past : List Event) (p : Permit) (e : Entry) (ws : List (Option (Journaled W))) → WiresFit heard telling past ws → e ≡ answered p e.answer
    → IsSomeAnd (slot ws p.conn) (λ w. fits_at_its_place w.journal e ≡ true) → fits_at_its_place (journal past e.conn) e ≡ true
wire_fits heard telling past p e ws fit is fits =
    subst (λ (n : ℕ). fits_at_its_place (journal past n) e ≡ true) (sym (is_of p e is).conn) (held_fits heard telling p.conn (journal past p.conn) e (slot ws p.conn) (fit p.conn) fits)

pub connect_fits : (past : List Event) (p : Permit) (e : Entry) → journal past p.conn ≡ [] → Answers p [] e → fits_at_its_place (journal past e.conn) e ≡ true
connect_fits past p e nothing a =
    subst (λ (n : ℕ). fits_at_its_place (journal past n) e ≡ true) (sym (is_of p e a.entry).conn) (subst (λ (j : List Entry). fits_at_its_place j e ≡ true) (sym nothing) a.fits)

-- A connection of which nothing was heard has no wire.
pub no_wire : {W : Type 0} (heard : W → Option WireTold) (telling : Bool) (past : List Event) (c : ℕ) (ws : List (Option (Journaled W))) → WiresFit heard telling past ws → journal past c ≡ [] → slot ws c ≡ None
no_wire heard telling past c ws fit nothing = subst (λ (j : List Entry). FitsAt heard telling c j (slot ws c)) nothing (fit c)

-- If a call that is neither Connect nor Shut was answered, the wires fit the new history.
pub performed_fits : {W : Type 0} (heard : W → Option WireTold) (telling : Bool) (p : Permit) (e : Entry) (more past : List Event) (before after : List (Option (Journaled W))) → Performs heard p e before after
    → is_connect p.call ≡ false → is_shut p.call ≡ false → list_all hears_nothing more ≡ true → WiresFit heard telling past before → WiresFit heard telling (more ++ Heard e ∷ past) after
performed_fits heard telling p e more past before after h opens shuts quiet fit =
    let of = is_of p e h.entry in
    unheard_fits heard telling more (Heard e ∷ past) after quiet
    (answered_fits heard telling past e before after (ap is_connect of.call ∙ opens) (ap is_shut of.call ∙ shuts) (others_of p e before after of h.others) (noted_of heard p e before after of h.noted) fit)

pub performed_told : (made : List Made) (p : Permit) (e : Entry) (more past : List Event) → e ≡ answered p e.answer → is_connect p.call ≡ false → is_shut p.call ≡ false → list_all hears_nothing more ≡ true
    → fleet_told made (more ++ Heard e ∷ past) ≡ fleet_told made past
performed_told made p e more past is opens shuts quiet =
    let of = is_of p e is in
    unheard_told made more (Heard e ∷ past) quiet ∙ answered_told made past e (ap is_connect of.call ∙ opens) (ap is_shut of.call ∙ shuts)

pub performed_plans : {W : Type 0} (heard : W → Option WireTold) (p : Permit) (e : Entry) (more past : List Event) (before after : List (Option (Journaled W))) → Performs heard p e before after → list_all hears_nothing more ≡ true
    → KeepsPlans heard past (more ++ Heard e ∷ past) before after
performed_plans heard p e more past before after h quiet made fit =
    let of = is_of p e h.entry in
    unheard_plans heard made more (Heard e ∷ past) after quiet
    (answered_plans heard past e before after (others_of p e before after of h.others) (noted_of heard p e before after of h.noted) made fit)

pub performed_tells : {W : Type 0} (heard : W → Option WireTold) (p : Permit) (e : Entry) (more past : List Event) (before after : List (Option (Journaled W))) (fleet : Option FleetTold) → Performs heard p e before after
    → is_connect p.call ≡ false → is_shut p.call ≡ false → list_all hears_nothing more ≡ true → FleetTells heard [] fleet fleet past (more ++ Heard e ∷ past) before after
performed_tells heard p e more past before after fleet h opens shuts quiet =
    tells_none heard fleet past (more ++ Heard e ∷ past) before after (λ made. performed_told made p e more past h.entry opens shuts quiet) (performed_plans heard p e more past before after h quiet)

-- A Shut that was answered was heard by a wire. The lemmas after this one give that wire back.
pub wire_heard : {W : Type 0} (heard : W → Option WireTold) (e : Entry) (before after : Option (Journaled W)) → HearsEntry heard e before after → IsSome after
wire_heard heard e None after h = absurd h
wire_heard heard e (Some b) None h = absurd h
wire_heard heard e (Some b) (Some a) h = refl

pub gone_fits : {W : Type 0} (heard : W → Option WireTold) (telling : Bool) (p : Permit) (e : Entry) (more past : List Event) (before mid after : List (Option (Journaled W))) → Performs heard p e before mid
    → is_shut p.call ≡ true → after ≡ set mid p.conn None → list_all hears_nothing more ≡ true → WiresFit heard telling past before → WiresFit heard telling (more ++ Heard e ∷ past) after
gone_fits {W} heard telling p e more past before mid after h shuts taken quiet fit =
    let of = is_of p e h.entry in
    let here : after ≡ set mid e.conn None = subst (λ (n : ℕ). after ≡ set mid n None) (sym of.conn) taken in
    unheard_fits heard telling more (Heard e ∷ past) after quiet
    (shut_fits heard telling past e before mid after (ap is_shut of.call ∙ shuts) (others_of p e before mid of h.others) here fit)

pub gone_tells : {W : Type 0} (heard : W → Option WireTold) (p : Permit) (e : Entry) (more past : List Event) (before mid after : List (Option (Journaled W))) (fleet : Option FleetTold) → Performs heard p e before mid
    → is_shut p.call ≡ true → after ≡ set mid p.conn None → IfSome (slot mid p.conn) (λ w. IfSome (heard w.wire) (TellsOf w.conn w.journal)) → list_all hears_nothing more ≡ true
    → WiresFit heard (is_some fleet) past before → FleetTells heard [] fleet (retired_slot heard p.conn (slot mid p.conn) fleet) past (more ++ Heard e ∷ past) before after
gone_tells heard p e more past before mid after fleet h shuts taken exactly quiet fit =
    let of = is_of p e h.entry in
    let now : List Event = more ++ Heard e ∷ past in
    let noted : HearsEntry heard e (slot before e.conn) (slot mid e.conn) = noted_of heard p e before mid of h.noted in
    let holds : HoldsWire heard (is_some fleet) e.conn (e ∷ journal past e.conn) (slot mid e.conn) = holds_heard heard (is_some fleet) past e before mid fit noted in
    let here : after ≡ set mid e.conn None = subst (λ (n : ℕ). after ≡ set mid n None) (sym of.conn) taken in
    let keeps : KeepsPlans heard past now before after =
    λ made plans. unheard_plans heard made more (Heard e ∷ past) after quiet (shut_plans heard past e before mid after (others_of p e before mid of h.others) here made plans) in
    let tells : FleetTells heard [] fleet (retired_slot heard e.conn (slot mid e.conn) fleet) past now before after =
    slot_told heard e.conn (e ∷ journal past e.conn) (slot mid e.conn) fleet past now before after holds
    (subst (λ (n : ℕ). IfSome (slot mid n) (λ w. IfSome (heard w.wire) (TellsOf w.conn w.journal))) (sym of.conn) exactly)
    (λ made plans. heard_plans heard e (aside_on made e.conn) (slot before e.conn) (slot mid e.conn) noted (plans e.conn).told)
    (λ made. unheard_told made more (Heard e ∷ past) quiet ∙ shut_told made past e (ap is_shut of.call ∙ shuts))
    keeps in
    subst (λ (n : ℕ). FleetTells heard [] fleet (retired_slot heard n (slot mid n) fleet) past now before after) of.conn tells

-- If a Connect was answered, the wires fit the new history.
pub connected_fits : {W : Type 0} (heard : W → Option WireTold) (telling : Bool) (p : Permit) (e : Entry) (more past : List Event) (before after : List (Option (Journaled W))) → Connects heard telling p e before after
    → is_connect p.call ≡ true → journal past p.conn ≡ [] → list_all hears_nothing more ≡ true → WiresFit heard telling past before → WiresFit heard telling (more ++ Heard e ∷ past) after
connected_fits heard telling p e more past before after h opens nothing quiet fit =
    let of = is_of p e h.entry in
    unheard_fits heard telling more (Heard e ∷ past) after quiet
    (opened_fits heard telling past e before after (ap is_connect of.call ∙ opens)
    (ap (journal past) of.conn ∙ nothing)
    (others_of p e before after of h.others)
    (subst (λ (n : ℕ). OpensWire heard telling e (slot after n)) (sym of.conn) h.wire)
    fit)

pub connected_tells : {W : Type 0} (heard : W → Option WireTold) (telling : Bool) (p : Permit) (e : Entry) (more past : List Event) (before after : List (Option (Journaled W))) (fleet : Option FleetTold)
    → Connects heard telling p e before after → is_memory e.answer ≡ false → is_connect p.call ≡ true → journal past p.conn ≡ [] → list_all hears_nothing more ≡ true
    → FleetTells heard [] fleet (connected_after p.conn e.answer fleet) past (more ++ Heard e ∷ past) before after
connected_tells heard telling p e more past before after fleet h no_want opens nothing quiet =
    let of = is_of p e h.entry in
    let now : List Event = more ++ Heard e ∷ past in
    let unplanned = subst (λ (n : ℕ). RecordsAside heard no_aside (slot after n)) (sym of.conn) h.unplanned in
    let keeps : KeepsPlans heard past now before after =
    λ made plans. unheard_plans heard made more (Heard e ∷ past) after quiet
    (opened_plans heard past e before after (ap (journal past) of.conn ∙ nothing) (others_of p e before after of h.others) unplanned made plans) in
    subst (λ (n : ℕ). FleetTells heard [] fleet (connected_after n e.answer fleet) past now before after) of.conn
    (tells_connect heard e.conn e.answer fleet past now before after no_want (λ made. unheard_told made more (Heard e ∷ past) quiet ∙ connect_told made past e (ap is_connect of.call ∙ opens)) keeps)
