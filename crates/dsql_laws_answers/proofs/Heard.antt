-- An answer leaves each other lent connection in use.
use Rattle.std.proofs.Common.{◌≡◌, ◌≢◌, ℕ, ◌⊎◌, inl, inr, true, List, ◌∷◌, Some, refl, sym, ap, ◌∙◌}
use Rattle.dsql_laws_calls.specs.journal.declared.entry.Entry.{Entry}
use Rattle.dsql_laws_calls.specs.journal.declared.entry.Owner.{Owner}
use Rattle.dsql_laws_calls.specs.journal.Kinds.{number_of}
use Rattle.dsql_laws_calls.specs.pool.declared.conn.Conn.{Conn}
use Rattle.dsql_laws_calls.specs.pool.declared.conn.Place.{Place}
use Rattle.dsql_laws_calls.specs.pool.declared.conn.Place.TheVariants.{Lent}
use Rattle.dsql_laws_calls.specs.pool.Places.{conn_of}
use Rattle.dsql_laws_calls.proofs.Found.{place_in}
use Rattle.dsql_laws_calls.proofs.laws_work.Rows.{same_or_not}
use Rattle.dsql_laws_others.proofs.Once.{all_found}
use Rattle.dsql_laws_others.proofs.Leaves.{lent_used}
use Rattle.dsql_laws_calls.specs.history.declared.event.Event.{Event}
use Rattle.dsql_laws_calls.specs.history.declared.event.Event.TheVariants.{Heard}
use Rattle.dsql_laws_calls.specs.history.Readers.Pool.{pool, place, home}
use Rattle.dsql_laws_calls.specs.history.Rules.Settled.{is_in_use, is_kept, uses_what_is_lent}
use Rattle.dsql_laws_calls.proofs.Owners.{at_home}
use Rattle.dsql_laws_others.proofs.OnceLeft.{once}
use Rattle.dsql_laws_answers.proofs.Elsewhere.{HeardLent, kept_off}

pub used_heard : (H : List Event) (e : Entry) (t : ℕ) (own : Owner) → HeardLent H e t own → uses_what_is_lent H ≡ true → is_kept (Heard e ∷ H) (number_of own) ≡ true → uses_what_is_lent (Heard e ∷ H) ≡ true
used_heard H e t own h before itself = all_found (λ x. is_in_use (Heard e ∷ H) x.place) (pool H).conns (once H) each
  where
    lent : (d u : ℕ) (o : Owner) → place H d ≡ Some (Lent u o) → (number_of o ≡ number_of own) ⊎ (number_of o ≢ number_of own) → is_kept (Heard e ∷ H) (number_of o) ≡ true
    lent d u o at (inl same) = ap (is_kept (Heard e ∷ H)) same ∙ itself
    lent d u o at (inr apart) = kept_off H e t own d u o h at apart ∙ lent_used H d u o before at

    each : (x : Conn) → conn_of x.number (pool H).conns ≡ Some x → is_in_use (Heard e ∷ H) x.place ≡ true
    each x found = by x.place refl
      where
        by : (p : Place) → x.place ≡ p → is_in_use (Heard e ∷ H) p ≡ true
        by (Lent u o) is = lent x.number u o (ap place_in found ∙ ap Some is) (same_or_not (number_of o) (number_of own))
        by _ is = refl

pub beside_heard : (H : List Event) (e : Entry) (t d u : ℕ) (own o : Owner) → HeardLent H e t own → uses_what_is_lent H ≡ true → place H d ≡ Some (Lent u o) → d ≢ e.conn → is_kept (Heard e ∷ H) (number_of o) ≡ true
beside_heard H e t d u own o h before at apart =
    let l = h.lawful in
    kept_off H e t own d u o h at (λ same. apart (sym (at_home H d u o l.0 at) ∙ (ap (home H) same ∙ at_home H e.conn t own l.0 h.lent))) ∙ lent_used H d u o before at
