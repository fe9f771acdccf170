-- The slots of wires: what is in one after a write, and what an entry makes of it. The argument goes through
-- the list to the place.
use Rattle.std.proofs.Common.{◌≡◌, ◌≢◌, ℕ, zero, suc, List, [], ◌∷◌, ◌++◌, get_or, set, Option, Some, None, refl, sym, subst, ◌∙◌}
use Rattle.std.specs.Prelude.{IsSomeAnd}
use Rattle.std.proofs.lemmas.List.{get_or-set_other}
use Rattle.dsql_history.specs.driver.Wires.{WireTold}
use Rattle.dsql_history.specs.journal.declared.entry.Entry.{Entry}
use Rattle.dsql_wire.specs.Journaled.{Journaled}
use Rattle.dsql_player_wires.specs.WiresFit.{slot, Hears, HearsEntry}

pub slot_elsewhere : {W : Type 0} (ws : List (Option W)) (d : ℕ) (w : Option W) (c : ℕ) → c ≢ d → slot (set ws d w) c ≡ slot ws c
slot_elsewhere ws d w c n = get_or-set_other ws d c w None n

-- A place that is set to what a list has beyond its end has that.
pub set_default : {A : Type 0} (xs : List A) (i : ℕ) (d : A) → get_or (set xs i d) i d ≡ d
set_default [] i d = refl
set_default (x ∷ xs) zero d = refl
set_default (x ∷ xs) (suc i) d = set_default xs i d

-- If a slot has a wire, it has the wire that was read there.
pub wire_here : {W : Type 0} (ws : List (Option W)) (i : ℕ) (x : Option W) (P : W → Type 0) (w : W) → IsSomeAnd (slot ws i) P → x ≡ get_or ws i x → x ≡ Some w → slot ws i ≡ Some w
wire_here [] i x P w some at is = absurd some
wire_here (y ∷ ws) zero x P w some at is = sym at ∙ is
wire_here (y ∷ ws) (suc i) x P w some at is = wire_here ws i x P w some at is

-- If the wire of a slot hears one more entry and goes back into its slot, the slot has heard it.
pub heard_here : {W : Type 0} (told : W → Option WireTold) (e : Entry) (ws : List (Option (Journaled W))) (i : ℕ) (before after : Journaled W) → slot ws i ≡ Some before → Hears told e before after
    → HearsEntry told e (slot ws i) (slot (set ws i (Some after)) i)
heard_here told e [] i before after is h = absurd cc
heard_here told e (y ∷ ws) zero before after is h = rw is h
heard_here told e (y ∷ ws) (suc i) before after is h = heard_here told e ws i before after is h

-- A wire that is written in place of another is in its slot.
pub set_wire : {W : Type 0} (ws : List (Option W)) (i : ℕ) (before after : W) → slot ws i ≡ Some before → slot (set ws i (Some after)) i ≡ Some after
set_wire [] i before after is = absurd cc
set_wire (y ∷ ws) zero before after is = refl
set_wire (y ∷ ws) (suc i) before after is = set_wire ws i before after is

-- What holds of no wire holds of each slot of an empty table.
pub each_of_none : {W : Type 0} (P : Option W → Type 0) (ws : List (Option W)) → P None → ws ≡ [] → (c : ℕ) → P (slot ws c)
each_of_none {W} P ws none empty c = subst (λ (xs : List (Option W)). P (slot xs c)) (sym empty) none

-- What holds of no wire, of the last slot and of each slot before it holds of each slot.
pub each_before : {W : Type 0} (P : Option W → Type 0) (ws rest : List (Option W)) (last : Option W) → P None → ws ≡ rest ++ last ∷ [] → P last → ((c : ℕ) → P (slot rest c)) → (c : ℕ) → P (slot ws c)
each_before {W} P ws rest last none is holds each c = subst (λ (xs : List (Option W)). P (slot xs c)) (sym is) (by rest each c)
  where
    by : (before : List (Option W)) → ((c : ℕ) → P (slot before c)) → (c : ℕ) → P (slot (before ++ last ∷ []) c)
    by [] each zero = holds
    by [] each (suc c) = none
    by (w ∷ before) each zero = each 0
    by (w ∷ before) each (suc c) = by before (λ c. each (suc c)) c
