-- What a fleet records of the wires that are given back at a run's end. The argument goes through the slots from the
-- last one to the first, as the wires are given back.
use Rattle.std.proofs.Common.{◌≡◌, ℕ, suc, Bool, true, false, cond, List, [], ◌∷◌, ◌++◌, length, Option, Some, None, refl, sym, ◌∙◌, ap, subst, append_assoc}
use Rattle.std.specs.Prelude.{option_map, reverse, is_some, IfSome, MatchBool}
use Rattle.std.proofs.lemmas.List.{append-nil, get_or_past, length-reverse, reverse-append}
use Rattle.dsql_history.specs.driver.Wires.{WireTold, FleetTold, RetiredWire, with_retired, retired_after}
use Rattle.dsql_history.specs.journal.declared.entry.Entry.{Entry}
use Rattle.dsql_history.specs.declared.event.Event.{Event}
use Rattle.dsql_history.specs.Readers.Journals.{journal}
use Rattle.dsql_wire.specs.Journaled.{Journaled}
use Rattle.dsql_wire.specs.Told.{TellsOf}
use Rattle.dsql_player_wires.specs.Made.{Aside, Made, aside_on}
use Rattle.dsql_player_wires.specs.Told.{TellsJust, retired_from, retired_slot, tells_of, with_told}
use Rattle.dsql_player_wires.specs.WiresFit.{slot, HoldsWire, IsWireOf, PlansFit, RecordsAside, WiresFit, is_wired}
use Rattle.dsql_player_wires.specs.Stopped.{GotAllBack, RecordsJournal, wire_left, wires_left}
use Rattle.dsql_player_wires.proofs.Planned.{empty_unwired}
use Rattle.dsql_player_wires.proofs.Reading.{told_whole}
use Rattle.dsql_player_wires.proofs.Telling.{gives_none}

-- Holds if P holds of each element with its number. The last element has number 0.
abbrev Downward : {A : Type 0} → (ℕ → A → Type 0) → List A → Type 0
Downward P [] = Unit {0}
Downward P (x ∷ lower) = P (length lower) x × Downward P lower

one_longer : {A : Type 0} (xs : List A) (x : A) → length (xs ++ x ∷ []) ≡ suc (length xs)
one_longer [] x = refl
one_longer (y ∷ xs) x = ap (λ n. suc n) (one_longer xs x)

downward_then : {A : Type 0} (P : ℕ → A → Type 0) (lower : List A) (x : A) → Downward (λ (n : ℕ) (y : A). P (suc n) y) lower → P 0 x → Downward P (lower ++ x ∷ [])
downward_then P [] x each first = (first, tt)
downward_then P (y ∷ lower) x each first = (subst (λ (n : ℕ). P n y) (sym (one_longer lower x)) each.0, downward_then P lower x each.1 first)

-- What holds of each slot holds of each from the last one to the first.
downward : {W : Type 0} (P : ℕ → Option W → Type 0) (ws : List (Option W)) → ((c : ℕ) → P c (slot ws c)) → Downward P (reverse ws)
downward P [] each = tt
downward {W} P (w ∷ ws) each =
    subst (λ (xs : List (Option W)). Downward P xs) (sym (reverse-append (w ∷ []) ws)) (downward_then P (reverse ws) w (downward (λ (n : ℕ) (x : Option W). P (suc n) x) ws (λ c. each (suc c))) (each 0))

-- A table with no wire gives none back.

none_retired : {W : Type 0} (tells : W → Option WireTold) (ws : List (Option (Journaled W))) (t : Option FleetTold) → Downward (λ (n : ℕ) (w : Option (Journaled W)). w ≡ None) ws → retired_from tells ws t ≡ t
none_retired tells [] t empty = refl
none_retired tells (w ∷ lower) t empty = none_retired tells lower (retired_slot tells (length lower) w t) empty.1 ∙ ap (λ w. retired_slot tells (length lower) w t) empty.0

pub empty_unasked : {W : Type 0} (tells : W → Option WireTold) (ws : List (Option (Journaled W))) (t : Option FleetTold) → ((c : ℕ) → slot ws c ≡ None) → retired_from tells (reverse ws) t ≡ t
empty_unasked {W} tells ws t none = none_retired tells (reverse ws) t (downward (λ (n : ℕ) (w : Option (Journaled W)). w ≡ None) ws none)

-- The last wire is given back first.
pub retired_last : {W : Type 0} (tells : W → Option WireTold) (ws rest : List (Option (Journaled W))) (last : Option (Journaled W)) (number : ℕ) (before after : Option FleetTold)
    → ws ≡ rest ++ last ∷ [] → after ≡ retired_slot tells number last before → number ≡ length rest → retired_from tells (reverse rest) after ≡ retired_from tells (reverse ws) before
retired_last tells ws rest last number before after is retired at =
    ap (retired_from tells (reverse rest)) (retired ∙ ap (λ n. retired_slot tells n last before) (at ∙ sym (length-reverse rest)))
    ∙ sym (ap (λ xs. retired_from tells xs before) (ap reverse is ∙ reverse-append rest (last ∷ [])))

-- A fleet that keeps no record keeps none afterwards.
none_told : {W : Type 0} (tells : W → Option WireTold) (ws : List (Option (Journaled W))) → retired_from tells ws None ≡ None
none_told tells [] = refl
none_told tells (None ∷ lower) = none_told tells lower
none_told tells (Some w ∷ lower) = ap (retired_from tells lower) (gives_none (length lower) (tells w.wire)) ∙ none_told tells lower

-- A wire that records exactly its journal and these plans and wants is given back with that record.

with_none : (t : FleetTold) → Some t ≡ Some (with_retired [] t)
with_none t = ap (λ (rs : List RetiredWire). Some (record t { retired = rs })) (sym (append-nil t.retired))

records_wire : (c : ℕ) (told : Option WireTold) (all : WireTold) (t : FleetTold) → IfSome told (λ w. w ≡ all) → is_some told ≡ true → retired_after c told (Some t) ≡ Some (with_retired ((c, all) ∷ []) t)
records_wire c None all t exactly some = absurd cc
records_wire c (Some told) all t exactly some = ap (λ (w : WireTold). Some (with_retired ((c, w) ∷ []) t)) exactly

records_slot : {W : Type 0} (heard : W → Option WireTold) (c : ℕ) (aside : Aside) (entries : List Entry) (wire : Option (Journaled W)) (wired : Bool)
    → MatchBool wired (HoldsWire heard true c entries wire) (wire ≡ None) → RecordsAside heard aside wire → RecordsJournal heard wire
    → (t : FleetTold) → retired_slot heard c wire (Some t) ≡ Some (with_retired (cond wired ((c, tells_of c aside entries) ∷ []) []) t)
records_slot heard c aside entries wire false fit planned exact t = ap (λ w. retired_slot heard c w (Some t)) fit ∙ with_none t
records_slot heard c aside entries None true fit planned exact t = absurd fit
records_slot heard c aside entries (Some w) true fit planned exact t =
    let holds : IsWireOf heard true c entries w = fit in
    let of : IfSome (heard w.wire) (TellsOf c entries) =
    subst (λ (j : List Entry). IfSome (heard w.wire) (TellsOf c j)) holds.journal (subst (λ (n : ℕ). IfSome (heard w.wire) (TellsOf n w.journal)) holds.conn exact) in
    records_wire c (heard w.wire) (tells_of c aside entries) t (told_whole (heard w.wire) c aside entries of planned) (holds.tells refl)

-- Holds if the fleet records what is given back of connection c's slot as its wire's journal, plans and wants say.
abbrev GoesBack : {W : Type 0} → (W → Option WireTold) → List Made → List Event → ℕ → Option (Journaled W) → Type 0
GoesBack heard made past c wire = (t : FleetTold) → retired_slot heard c wire (Some t) ≡ Some (with_retired (wire_left made past c) t)

all_retired : {W : Type 0} (heard : W → Option WireTold) (made : List Made) (past : List Event) (ws : List (Option (Journaled W))) (t : FleetTold) → Downward (GoesBack heard made past) ws
    → retired_from heard ws (Some t) ≡ Some (with_retired (wires_left made past (length ws)) t)
all_retired heard made past [] t each = with_none t
all_retired heard made past (w ∷ lower) t each =
    let first : List RetiredWire = wire_left made past (length lower) in
    let rest : List RetiredWire = wires_left made past (length lower) in
    ap (retired_from heard lower) (each.0 t)
    ∙ all_retired heard made past lower (with_retired first t) each.1
    ∙ ap (λ (rs : List RetiredWire). Some (record t { retired = rs })) (append_assoc t.retired first rest)

left_told : {W : Type 0} (heard : W → Option WireTold) (made : List Made) (past : List Event) (ws : List (Option (Journaled W))) (t : Option FleetTold) → WiresFit heard (is_some t) past ws → PlansFit heard made past ws
    → ((c : ℕ) → RecordsJournal heard (slot ws c)) → retired_from heard (reverse ws) t ≡ option_map (with_retired (wires_left made past (length ws))) t
left_told heard made past ws None fit plans exact = none_told heard (reverse ws)
left_told heard made past ws (Some t) fit plans exact =
    all_retired heard made past (reverse ws) t
    (downward (GoesBack heard made past) ws (λ c. records_slot heard c (aside_on made c) (journal past c) (slot ws c) (is_wired (journal past c)) (fit c) (plans c).told (exact c)))
    ∙ ap (λ n. Some (with_retired (wires_left made past n) t)) (length-reverse ws)

-- If all wires that are left are given back, the fleet records exactly them after the history.
pub got_all_back : {W : Type 0} (heard : W → Option WireTold) (made : List Made) (told now : Option FleetTold) (past : List Event) (ws : List (Option (Journaled W))) → TellsJust heard made told now past ws → WiresFit heard (is_some now) past ws
    → ((c : ℕ) → RecordsJournal heard (slot ws c)) → GotAllBack made told (retired_from heard (reverse ws) now) past
got_all_back heard made told now past ws tells fit exact = record {
  below = length ws;
  none = λ c beyond. empty_unwired heard (is_some now) c (journal past c) (slot ws c) (is_wired (journal past c)) (get_or_past ws c None beyond) (fit c);
  records = left_told heard made past ws now fit tells.wires exact ∙ ap (option_map (with_retired (wires_left made past (length ws)))) tells.fleet;
}

-- If no slot has a wire, no connection has one.
pub none_wired : {W : Type 0} (heard : W → Option WireTold) (telling : Bool) (past : List Event) (ws : List (Option (Journaled W))) → WiresFit heard telling past ws → ((c : ℕ) → slot ws c ≡ None) → (c : ℕ) → is_wired (journal past c) ≡ false
none_wired heard telling past ws fit none c = empty_unwired heard telling c (journal past c) (slot ws c) (is_wired (journal past c)) (none c) (fit c)

-- If no wire is left, the fleet records the history alone.
no_wires : (t : Option FleetTold) → t ≡ option_map (with_retired []) t
no_wires None = refl
no_wires (Some t) = with_none t

pub none_to_give : (made : List Made) (told now : Option FleetTold) (past : List Event) → now ≡ with_told made told past → ((c : ℕ) → is_wired (journal past c) ≡ false) → GotAllBack made told now past
none_to_give made told now past is none = record { below = 0; none = λ c beyond. none c; records = is ∙ no_wires (with_told made told past) }
