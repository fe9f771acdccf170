-- Work is found by its connection. The argument is by induction on the list of the work that is out.
use Rattle.std.proofs.Common.{◌≡◌, ◌≢◌, ◌==◌, ℕ, List, [], ◌∷◌, Some, None, cond, Bool, true, false, refl, sym, ap, ◌∙◌, eq-eqb, ne_eqb, eqb-true}
use Rattle.dsql_hall_bonds.specs.Work.{Work, find, without}

-- The newest work is found on its connection.
pub find_here : (work : Work) (out : List Work) → find work.conn (work ∷ out) ≡ Some work
find_here work out = ap (λ same. cond same (Some work) (find work.conn out)) (eq-eqb work.conn work.conn refl)

-- New work leaves what is found on the other connections.
pub find_other : (work : Work) (out : List Work) (conn : ℕ)
    → work.conn ≢ conn
    → find conn (work ∷ out) ≡ find conn out
find_other work out conn apart = ap (λ same. cond same (Some work) (find conn out)) (ne_eqb work.conn conn apart)

-- No work is found on a connection from which it was struck off.
pub find_without : (conn : ℕ) (out : List Work) → find conn (without conn out) ≡ None
find_without conn [] = refl
find_without conn (work ∷ older) = cases (find_without conn older) (work.conn == conn) refl
  where
    rest : List Work
    rest = without conn older

    cases : find conn rest ≡ None
        → (same : Bool)
        → (work.conn == conn) ≡ same
        → find conn (cond same rest (work ∷ rest)) ≡ None
    cases none true e = none
    cases none false e = ap (λ same. cond same (Some work) (find conn rest)) e ∙ none

-- Work that is struck off leaves what is found on the other connections.
pub find_without_other : (conn other : ℕ) (out : List Work)
    → conn ≢ other
    → find other (without conn out) ≡ find other out
find_without_other conn other [] apart = refl
find_without_other conn other (work ∷ older) apart =
    cases (find_without_other conn other older apart) (work.conn == conn) refl
  where
    rest : List Work
    rest = without conn older

    cases : find other rest ≡ find other older
        → (same : Bool)
        → (work.conn == conn) ≡ same
        → find other (cond same rest (work ∷ rest)) ≡ find other (work ∷ older)
    cases before true e =
        before ∙ sym (find_other work older other (λ met. apart (sym (eqb-true work.conn conn e) ∙ met)))
    cases before false e = ap (cond (work.conn == other) (Some work)) before
