-- If the wire in one slot has heard what it had heard, and records what it recorded, all wires are as before. The
-- argument goes from the slots to what fits them.
use Rattle.std.proofs.Common.{◌≡◌, inl, inr, ℕ, Bool, List, Option, Some, None, refl, sym, ap, subst, set}
use Rattle.std.specs.Prelude.{is_some, IfSome}
use Rattle.dsql_history.specs.driver.Wires.{WireTold}
use Rattle.dsql_history.specs.journal.declared.entry.Entry.{Entry}
use Rattle.dsql_history.specs.Readers.Journals.{journal}
use Rattle.dsql_wire.specs.Journaled.{Journaled}
use Rattle.dsql_player_wires.specs.Made.{Aside, aside_of, aside_on}
use Rattle.dsql_player_wires.specs.WiresFit.{slot, FitsAt, PlansAt, SameHeard, SameHeardIn, SameWires}
use Rattle.dsql_player_wires.proofs.Journals.{same_or_not}
use Rattle.dsql_player_wires.proofs.Slots.{slot_elsewhere, set_wire}
use Rattle.dsql_player_wires.proofs.Wiring.{fits_at_still}

same_in : {W : Type 0} (heard : W → Option WireTold) (w : Option (Journaled W)) → SameHeardIn heard w w
same_in heard None = refl
same_in heard (Some w) = record { conn = refl; journal = refl; told = refl }

fits_in : {W : Type 0} (heard : W → Option WireTold) (telling : Bool) (c : ℕ) (entries : List Entry) (before after : Option (Journaled W)) → SameHeardIn heard before after → FitsAt heard telling c entries before
    → FitsAt heard telling c entries after
fits_in {W} heard telling c entries None after same fit = subst (λ (w : Option (Journaled W)). FitsAt heard telling c entries w) (sym same) fit
fits_in heard telling c entries (Some b) None same fit = absurd same
fits_in heard telling c entries (Some b) (Some a) same fit = fits_at_still heard telling c entries b a (record { conn = same.conn; journal = same.journal; telling = ap is_some same.told }) fit

plans_in : {W : Type 0} (heard : W → Option WireTold) (aside : Aside) (entries : List Entry) (before after : Option (Journaled W)) → SameHeardIn heard before after → PlansAt heard aside entries before
    → PlansAt heard aside entries after
plans_in {W} heard aside entries None after same at = subst (λ (w : Option (Journaled W)). PlansAt heard aside entries w) (sym same) at
plans_in heard aside entries (Some b) None same at = absurd same
plans_in heard aside entries (Some b) (Some a) same at = record { unheard = at.unheard; told = subst (λ (told : Option WireTold). IfSome told (λ t. aside_of t ≡ aside)) (sym same.told) at.told }

same_wires : {W : Type 0} (heard : W → Option WireTold) (before after : List (Option (Journaled W))) → ((c : ℕ) → SameHeardIn heard (slot before c) (slot after c)) → SameWires heard before after
same_wires heard before after each = record {
  each = each;
  fits = λ past telling fit c. fits_in heard telling c (journal past c) (slot before c) (slot after c) (each c) (fit c);
  plans = λ past made fit c. plans_in heard (aside_on made c) (journal past c) (slot before c) (slot after c) (each c) (fit c);
}

-- If each slot is as it was, all wires are as before.
pub none_changed : {W : Type 0} (heard : W → Option WireTold) (before after : List (Option (Journaled W))) → ((c : ℕ) → slot after c ≡ slot before c) → SameWires heard before after
none_changed {W} heard before after same =
    same_wires heard before after (λ c. subst (λ (w : Option (Journaled W)). SameHeardIn heard (slot before c) w) (sym (same c)) (same_in heard (slot before c)))

-- If a wire that is the same goes back into its slot, all wires are as before.
pub one_changed : {W : Type 0} (heard : W → Option WireTold) (ws : List (Option (Journaled W))) (i : ℕ) (before after : Journaled W) → slot ws i ≡ Some before → SameHeard heard before after
    → SameWires heard ws (set ws i (Some after))
one_changed {W} heard ws i before after is same = same_wires heard ws now each
  where
    now : List (Option (Journaled W))
    now = set ws i (Some after)

    here : SameHeardIn heard (slot ws i) (slot now i)
    here =
        subst (λ (w : Option (Journaled W)). SameHeardIn heard w (slot now i)) (sym is)
        (subst (λ (w : Option (Journaled W)). SameHeardIn heard (Some before) w) (sym (set_wire ws i before after is)) same)

    each : (c : ℕ) → SameHeardIn heard (slot ws c) (slot now c)
    each c = elim (same_or_not c i) [
      | inl e ↦ subst (λ (k : ℕ). SameHeardIn heard (slot ws k) (slot now k)) (sym e) here
      | inr n ↦ subst (λ (w : Option (Journaled W)). SameHeardIn heard (slot ws c) w) (sym (slot_elsewhere ws i (Some after) c n)) (same_in heard (slot ws c))
    ]
