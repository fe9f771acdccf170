-- A call that has tried to get a connection has entered.
use Rattle.std.proofs.Common.{◌≡◌, ◌≢◌, ℕ, ◌<◌, ◌≤◌, ◌&&◌, ◌==◌, List, [], ◌∷◌, length, refl, sym, ◌∙◌, arith, subst}
use Rattle.std.proofs.lemmas.List.{length-append}
use Rattle.dsql_laws_calls.specs.pool.declared.moves.Move.TheVariants.{Lend, Fell}
use Rattle.dsql_laws_calls.specs.history.declared.event.Event.{Event}
use Rattle.dsql_laws_calls.specs.history.declared.event.Event.TheVariants.{Entered, Heard, Pool}
use Rattle.dsql_laws_calls.specs.history.declared.record.Try.{Try}
use Rattle.dsql_laws_calls.specs.history.declared.record.Try.TheVariants.{Served, Refused}
use Rattle.dsql_laws_calls.specs.history.Readers.Tries.{with_try, tries, newest_answer, loses}
use Rattle.dsql_laws_calls.specs.history.Readers.Works.{asks, works, work, work_of}
use Rattle.dsql_laws_calls.specs.history.Legal.{Lawful}
use Rattle.dsql_laws_calls.proofs.laws.ByCall.{by_call}
use Rattle.dsql_laws_calls.proofs.laws.Numbered.{some_calls}
use Rattle.dsql_laws_calls.proofs.laws.Tried.{lost_count}
use Rattle.dsql_laws_calls.proofs.laws.Wanting.{wanting_works}
use Rattle.dsql_laws_calls.proofs.Idle.{lends_asker}
use Rattle.dsql_laws_calls.proofs.Stays.{as_many}
use Rattle.dsql_laws_calls.proofs.Untried.{fallen_wanted}
use Rattle.dsql_engine_effects.proofs.AsEntered.{known}

one_try : (H : List Event) (k n : ℕ) (it : Try) → (k ≡ n → n < length (works H)) → (1 ≤ length (tries H n) → n < length (works H)) → 1 ≤ length (with_try (k == n) it (tries H n)) → n < length (works H)
one_try H k n it now before some = by_call k n (n < length (works H)) now (λ other. before (subst (λ b. 1 ≤ length (with_try b it (tries H n))) other some))

tried_known : (H : List Event) (n : ℕ) → Lawful H → n ≢ 0 → 1 ≤ length (tries H n) → n < length (works H)
tried_known [] n l some tried = absurd (omega (arith, tried))
tried_known (Entered client m op ∷ H) n l some tried =
    let known = tried_known H n l.0 some tried in
    let more = length-append (works H) (work_of (works H) op ∷ []) in
    omega (arith, known, more)
tried_known (Pool (Lend c t o m) ∷ H) n l some tried =
    one_try H m n Served (λ is. subst (λ i. i < length (works H)) is (known asks (works H) m refl (lends_asker H c t o m l.0 l.1 (λ none. some (sym is ∙ none)))))
    (tried_known H n l.0 some) tried
tried_known (Pool (Fell c m) ∷ H) n l some tried =
    one_try H m n (Refused (newest_answer H))
    (λ is.
    let own : m ≢ 0 = λ none. some (sym is ∙ none) in
    subst (λ i. i < length (works H)) is (known asks (works H) m refl (wanting_works H m l.0 own (fallen_wanted H c m l.1 own))))
    (tried_known H n l.0 some) tried
tried_known (Heard e ∷ H) n l some tried =
    let same = lost_count ((e.call_no == n) && loses (work H n) e) (tries H n) in
    tried_known H n l.0 some (omega (arith, same, tried))
tried_known (_ ∷ H) n l some tried = tried_known H n l.0 some tried

-- The next call has no tries yet.
pub none_tried : (H : List Event) (n : ℕ) → Lawful H → n ≡ length (works H) → tries H n ≡ []
none_tried H n l next = by (tries H n) refl
  where
    by : (ts : List Try) → tries H n ≡ ts → ts ≡ []
    by [] is = refl
    by (t ∷ ts) is =
        let calls = some_calls H in
        let many = as_many H in
        let tried : 1 ≤ length (tries H n) = subst (λ us. 1 ≤ length us) (sym is) (omega arith) in
        let known = tried_known H n l (λ none. omega (arith, none, next, calls, many)) tried in
        absurd (omega (arith, known, next))
