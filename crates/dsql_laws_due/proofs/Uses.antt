-- The number of uses of a connection that stays lent in its tenure stays the same.
use Rattle.std.proofs.Common.{◌≡◌, ◌≢◌, ℕ, ◌⊎◌, inl, inr, ◌&&◌, ◌||◌, List, ◌∷◌, Option, Some, is_some, nat_le, refl, sym, ap, ◌∙◌}
use Rattle.dsql_laws_calls.specs.driver.declared.caps.Caps.{Caps}
use Rattle.dsql_laws_calls.specs.journal.declared.entry.Owner.{Owner}
use Rattle.dsql_laws_calls.specs.pool.declared.conn.Place.TheVariants.{Idle, Lent, Closing}
use Rattle.dsql_laws_calls.specs.pool.declared.conn.Place.{Place}
use Rattle.dsql_laws_calls.specs.pool.declared.moves.Move.{Move}
use Rattle.dsql_laws_calls.specs.pool.declared.moves.Move.TheVariants.{OpenStart, Lend, Back, CloseStart, Gone, Fell}
use Rattle.dsql_laws_calls.specs.pool.Changes.{lent, back, closing}
use Rattle.dsql_laws_calls.specs.pool.Moved.{shut}
use Rattle.dsql_laws_calls.specs.pool.Places.{conn_of, is_idle, is_opening, is_closing}
use Rattle.dsql_laws_calls.proofs.laws_work.Rows.{same_or_not}
use Rattle.dsql_laws_calls.specs.history.declared.event.Control.TheVariants.{Tick, Set}
use Rattle.dsql_laws_calls.proofs.Cases.{control_conns}
use Rattle.dsql_laws_calls.proofs.Found.{uses_in, changed_place, changed_off, gone_off, begun_off, shut_found, unwanted_lent}
use Rattle.dsql_laws_calls.specs.history.declared.event.Event.{Event}
use Rattle.dsql_laws_calls.specs.history.declared.event.Event.TheVariants.{Entered, Pool, Ticked, SetLimit, Ended}
use Rattle.dsql_laws_calls.specs.history.declared.event.Op.TheVariants.{DbClose}
use Rattle.dsql_laws_calls.specs.history.Readers.Course.{caps}
use Rattle.dsql_laws_calls.specs.history.Readers.Pool.{place, pool, uses, wanted_by}
use Rattle.dsql_laws_calls.specs.history.Rules.Sent.{is_reset_due}
use Rattle.dsql_laws_calls.specs.history.Legal.{Allowed, Lawful}
use Rattle.dsql_laws_calls.proofs.Born.{open_is_old}
use Rattle.dsql_laws_calls.proofs.Lent.{elsewhere, move_facts}
use Rattle.dsql_laws_calls.proofs.Lines.{caps_stay}

not_there : (t : ℕ) (own : Owner) (p : Place) (q : Option Place) → q ≡ Some p → q ≡ Some (Lent t own) → (p ≡ Lent t own → ⊥) → ⊥
not_there t own p q is lent other = other (inner (sym is ∙ lent))
  where
    inner : Some p ≡ Some (Lent t own) → p ≡ Lent t own
    inner h = cc

move_uses : (H : List Event) (m : Move) (c t : ℕ) (own : Owner) → Lawful H → Allowed H (Pool m) → place H c ≡ Some (Lent t own) → place (Pool m ∷ H) c ≡ Some (Lent t own) → uses (Pool m ∷ H) c ≡ uses H c
move_uses H (OpenStart d k) c t own l a is still = ap uses_in (begun_off c (wanted_by H k) (pool H) (open_is_old H c (Lent t own) l is))
move_uses H (Lend d u o k) c t own l a is still =
    let f = move_facts H (Lend d u o k) a in
    ap uses_in (changed_off d c (lent u o (pool H).moment) (pool H).conns (λ x. refl) (elsewhere H d c t own (λ at. is_idle at || is_opening at) is refl f.moves))
move_uses H (Back d) c t own l a is still = by (same_or_not c d)
  where
    by : (c ≡ d) ⊎ (c ≢ d) → uses (Pool (Back d) ∷ H) c ≡ uses H c
    by (inl same) =
        let idle = changed_place c (back (pool H).moment) Idle (pool H).conns (λ x. refl) (λ x. refl) (ap (λ p. is_some p) is) in
        absurd (not_there t own Idle (place (Pool (Back d) ∷ H) c) (ap (λ e. place (Pool (Back e) ∷ H) c) (sym same) ∙ idle) still (λ h. cc))
    by (inr apart) = ap uses_in (changed_off d c (back (pool H).moment) (pool H).conns (λ x. refl) apart)
move_uses H (CloseStart d why) c t own l a is still = by (same_or_not c d)
  where
    by : (c ≡ d) ⊎ (c ≢ d) → uses (Pool (CloseStart d why) ∷ H) c ≡ uses H c
    by (inl same) =
        let shuts = changed_place c closing Closing (pool H).conns (λ x. refl) (λ x. refl) (ap (λ p. is_some p) is) in
        absurd (not_there t own Closing (place (Pool (CloseStart d why) ∷ H) c) (ap (λ e. place (Pool (CloseStart e why) ∷ H) c) (sym same) ∙ shuts) still (λ h. cc))
    by (inr apart) = ap uses_in (changed_off d c closing (pool H).conns (λ x. refl) apart)
move_uses H (Gone d) c t own l a is still = let f = move_facts H (Gone d) a in ap uses_in (gone_off d c (pool H).conns (elsewhere H d c t own is_closing is refl f.moves))
move_uses H (Fell d k) c t own l a is still = let f = move_facts H (Fell d k) a in ap uses_in (gone_off d c (pool H).conns (elsewhere H d c t own is_opening is refl f.moves))

shut_uses : (H : List Event) (c : ℕ) → uses_in (conn_of c (shut (pool H)).conns) ≡ uses H c
shut_uses H c = let counts = unwanted_lent (conn_of c (pool H).conns) in ap uses_in (shut_found c (pool H)) ∙ counts.1

uses_same : (H : List Event) (e : Event) (c t : ℕ) (own : Owner) → Lawful H → Allowed H e → place H c ≡ Some (Lent t own) → place (e ∷ H) c ≡ Some (Lent t own) → uses (e ∷ H) c ≡ uses H c
uses_same H (Pool m) c t own l a is still = move_uses H m c t own l a is still
uses_same H (Entered client k DbClose) c t own l a is still = shut_uses H c
uses_same H Ended c t own l a is still = shut_uses H c
uses_same H (Ticked now) c t own l a is still = ap (λ conns. uses_in (conn_of c conns)) (control_conns (Tick now) (pool H))
uses_same H (SetLimit s k) c t own l a is still = ap (λ conns. uses_in (conn_of c conns)) (control_conns (Set s k) (pool H))
uses_same H _ c t own l a is still = refl

pub reset_same : (H : List Event) (e : Event) (c t : ℕ) (own : Owner) → Lawful H → Allowed H e → place H c ≡ Some (Lent t own) → place (e ∷ H) c ≡ Some (Lent t own) → is_reset_due (e ∷ H) c ≡ is_reset_due H c
reset_same H e c t own l a is still = alike (caps H) (caps (e ∷ H)) (uses H c) (uses (e ∷ H) c) (caps_stay H e c (Lent t own) a is) (uses_same H e c t own l a is still)
  where
    alike : (ca cb : Caps) (x y : ℕ) → cb ≡ ca → y ≡ x → (cb.resetter && nat_le 2 y) ≡ (ca.resetter && nat_le 2 x)
    alike ca cb x y p q = rw (p, q) refl
