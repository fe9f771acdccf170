-- Each step of a cell is a move, at a pass of which the type of a keeper or a bond says what it knows.
use Rattle.std.proofs.Common.{◌≡◌, ℕ, List, ◌∷◌, None, refl, sym, ap, ◌∙◌, subst}
use mathlib.Core.Option.{some}
use lib.ListN.{get_elem?}
use Rattle.atomic_table.specs.Table.{State, Me, keeps, Allows, Splits, Joins}
use Rattle.dsql_hall_bonds.specs.Work.{Work, find, without}
use Rattle.dsql_hall_bonds.specs.Passes.{Known, Keeping, Bound, TakingBack, Spent, out_of, work_of, KeepsBonds, IsStruckOff}
use Rattle.dsql_hall_bonds.proofs.Moves.{makes, takes_back, was_out, strikes_off}

-- Holds of a cell if its passes keep the bonds.
abbrev Rule : State (Unit {0}) Known → Type 0
Rule cell = KeepsBonds cell.views

-- The keeper's pass may be cut in two.
pub bond_is_made : (by : ℕ) (keeper : Known) (work : Work)
    → keeper ≡ Keeping (out_of keeper)
    → find work.conn (out_of keeper) ≡ None
    → Splits Rule by keeper (Keeping (work ∷ out_of keeper)) (Bound work)
bond_is_made by keeper work is free cell h at = makes cell.views by (out_of keeper) work free h (at ∙ ap some is)

-- The pass of a bond may be brought into the keeper's.
pub bond_is_taken_back : (by : ℕ) (keeper : Known) (other : ℕ) (bond : Known) (work : Work)
    → keeper ≡ Keeping (out_of keeper)
    → bond ≡ Bound work
    → Joins Rule by keeper other bond (TakingBack (out_of keeper) (work_of bond)) Spent
bond_is_taken_back by keeper other bond work is bound cell h at apart there =
    let own : bond ≡ Bound (work_of bond) = bound ∙ ap Bound (sym (ap work_of bound)) in
    takes_back cell.views by (out_of keeper) other (work_of bond) h (at ∙ ap some is) apart (there ∙ ap some own)

-- The keeper finds the work of the bond that it took back, and may strike it off.
pub work_is_struck_off : (slots by : ℕ) (me : Me (Unit {0}) Known)
    (out : List Work) (work : Work) (held : List (ℕ × Unit {0}))
    → me ≡ (TakingBack out work, held)
    → Allows Rule slots by me 0 (λ n. n) (λ _ after. IsStruckOff me.0 after.0)
work_is_struck_off slots by me out work held is cell h _ at _ =
    (after, keeps, tt, strikes_off cell.views by out work h here, subst (λ k. IsStruckOff k after) (sym known) struck)
  where
    after : Known
    after = Keeping (without work.conn out)

    known : me.0 ≡ TakingBack out work
    known = ap (λ m. m.0) is

    here : get_elem? cell.views by ≡ some (TakingBack out work)
    here = at ∙ ap some known

    struck : IsStruckOff (TakingBack out work) after
    struck = record { was_out = was_out cell.views by out work h here; struck_off = refl }
