-- Proves that no connection is found if none is being opened for a call, and that neither part of a false
-- disjunction is true.
use Rattle.std.proofs.Common.{◌≡◌, ℕ, Bool, true, false, ◌||◌, List, [], ◌∷◌, None, refl, ap}
use Rattle.std.specs.Prelude.{find}
use Rattle.std.specs.List.{list_any}
use Rattle.std.specs.Option.{option_map}
use Rattle.dsql_history.specs.pool.declared.conn.Conn.{Conn}
use Rattle.dsql_history.specs.pool.Places.{is_for}
use Rattle.dsql_history.specs.pool.Pooled.{Pooled}
use Rattle.dsql_history.specs.Readers.Pool.{smallest}

none_found : (q : Conn → Bool) (conns : List Conn) → list_any q conns ≡ false → find q conns ≡ None
none_found q [] h = refl
none_found q (x ∷ xs) h =
    elim (q x) as (λ b. q x ≡ b → (b || list_any q xs) ≡ false → find q (x ∷ xs) ≡ None) [
      | true ↦ λ is k. absurd cc
      | false ↦ λ is k. rw is (none_found q xs k)
    ] refl h

pub none_opens : (n : ℕ) (p : Pooled) → list_any (λ conn. is_for n conn.place) p.conns ≡ false → smallest (is_for n) p ≡ None
none_opens n p none = ap (option_map (λ conn. conn.number)) (none_found (λ conn. is_for n conn.place) p.conns none)

pub neither : (a b : Bool) → (a || b) ≡ false → (a ≡ false) × (b ≡ false)
neither true b h = absurd cc
neither false b h = (refl, h)
