-- Proves that the computed tests say what the definitions say. Each test is taken apart into its rules.
use Rattle.std.proofs.Common.{◌≡◌, ◌↔◌, Bool, true, false, not, ◌&&◌, ◌||◌, List, [], ◌∷◌, refl}
use Rattle.dsql_history.specs.declared.event.Event.{Event}
use Rattle.dsql_history.specs.Readers.Course.{has_begun}
use Rattle.dsql_history.specs.Rules.Course.{is_from_outside}
use Rattle.dsql_history.specs.Rules.Settled.{Settled}
use Rattle.dsql_history.specs.Legal.{Allowed, Lawful, Calm, Legal}
use Rattle.dsql_history.specs.Computed.{is_allowed, is_settled, is_lawful, is_calm, is_legal}
use Rattle.dsql_laws.proofs.Tests.{both, together}
use Rattle.dsql_laws.proofs.Journals.{keeps_journals_of}

chosen : (a b : Bool) → not a || b ≡ true → a ≡ true → b ≡ true
chosen true b h t = h
chosen false b h t = absurd cc

where_chosen : (a b : Bool) → (a ≡ true → b ≡ true) → not a || b ≡ true
where_chosen true b h = h refl
where_chosen false b h = refl

allowed_of : (before : List Event) (e : Event) → is_allowed before e ≡ true → Allowed before e
unfolding Allowed
allowed_of before e h =
    let a = both _ _ h in
    let b = both _ _ a.1 in
    let c = both _ _ b.1 in
    let d = both _ _ c.1 in
    let f = both _ _ d.1 in
    let g = both _ _ f.1 in
    let i = both _ _ g.1 in
    let j = both _ _ i.1 in
    let k = both _ _ j.1 in
    record {
      course = a.0;
      numbers = b.0;
      sets = c.0;
      limit = d.0;
      asking = f.0;
      order = g.0;
      causes = i.0;
      line = j.0;
      journals = k.0;
      replies = k.1;
    }

computed_of : (before : List Event) (e : Event) → Allowed before e → is_allowed before e ≡ true
unfolding Allowed
computed_of before e r =
    together _ _ r.course (together _ _ r.numbers (together _ _ r.sets (together _ _ r.limit (together _ _ r.asking (together _ _ r.order (together _ _ r.causes (together _ _ r.line (together _ _ r.journals r.replies))))))))

pub allowed_computed : (before : List Event) (e : Event) → (is_allowed before e ≡ true) ↔ Allowed before e
allowed_computed before e = (allowed_of before e, computed_of before e)

settled_of : (before : List Event) → is_settled before ≡ true → Settled before
settled_of before h =
    let a = both _ _ h in
    let b = both _ _ a.1 in
    record { nothing_owed = a.0; used = b.0; somewhere = b.1 }

is_settled_of : (before : List Event) → Settled before → is_settled before ≡ true
is_settled_of before s = together _ _ s.nothing_owed (together _ _ s.used s.somewhere)

pub settled_computed : (before : List Event) → (is_settled before ≡ true) ↔ Settled before
settled_computed before = (settled_of before, is_settled_of before)

lawful_of : (history : List Event) → is_lawful history ≡ true → Lawful history
lawful_of [] h = tt
lawful_of (e ∷ before) h =
    let a = both (is_lawful before) (is_allowed before e) h in (lawful_of before a.0, allowed_of before e a.1)

is_lawful_of : (history : List Event) → Lawful history → is_lawful history ≡ true
is_lawful_of [] h = refl
is_lawful_of (e ∷ before) h = together (is_lawful before) (is_allowed before e) (is_lawful_of before h.0) (computed_of before e h.1)

pub lawful_computed : (history : List Event) → (is_lawful history ≡ true) ↔ Lawful history
lawful_computed history = (lawful_of history, is_lawful_of history)

calm_of : (history : List Event) → is_calm history ≡ true → Calm history
calm_of [] h = tt
calm_of (e ∷ before) h =
    let a = both (is_calm before) (not (is_from_outside e) || is_settled before) h in
    (calm_of before a.0, λ t. settled_of before (chosen (is_from_outside e) (is_settled before) a.1 t))

is_calm_of : (history : List Event) → Calm history → is_calm history ≡ true
is_calm_of [] h = refl
is_calm_of (e ∷ before) h =
    together (is_calm before) (not (is_from_outside e) || is_settled before) (is_calm_of before h.0)
    (where_chosen (is_from_outside e) (is_settled before) (λ t. is_settled_of before (h.1 t)))

pub calm_computed : (history : List Event) → (is_calm history ≡ true) ↔ Calm history
calm_computed history = (calm_of history, is_calm_of history)

-- A history that passes the test is legal. No test of its journals is needed, because those of a lawful history
-- are kept.
legal_of : (history : List Event) → is_legal history ≡ true → Legal history
legal_of history h =
    let a = both (has_begun history) (is_lawful history && (is_calm history && is_settled history)) h in
    let b = both (is_lawful history) (is_calm history && is_settled history) a.1 in
    let c = both (is_calm history) (is_settled history) b.1 in
    let l : Lawful history = lawful_of history b.0 in
    record { begun = a.0; lawful = l; calm = calm_of history c.0; settled = settled_of history c.1; journals = keeps_journals_of history l }

is_legal_of : (history : List Event) → Legal history → is_legal history ≡ true
is_legal_of history r =
    together (has_begun history) (is_lawful history && (is_calm history && is_settled history)) r.begun
    (together (is_lawful history) (is_calm history && is_settled history) (is_lawful_of history r.lawful)
    (together (is_calm history) (is_settled history) (is_calm_of history r.calm) (is_settled_of history r.settled)))

pub legal_computed : (history : List Event) → (is_legal history ≡ true) ↔ Legal history
legal_computed history = (legal_of history, is_legal_of history)
