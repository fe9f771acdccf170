-- A call that ends a transaction ends that of a call that begins one.
use Rattle.std.proofs.Common.{◌≡◌, ◌≢◌, ◌==◌, ℕ, zero, suc, Bool, true, false, List, [], ◌∷◌, Option, Some, None, refl, sym, ap, ◌∙◌}
use Rattle.std.specs.Prelude.{length, position, slice_index_or}
use Rattle.std.proofs.lemmas.List.Quantifiers.{position-Some}
use Rattle.dsql_laws_calls.specs.works.Works.{or_zero}
use Rattle.dsql_laws_calls.proofs.laws.Tests.{same_itself, same_number}
use Rattle.dsql_laws_calls.specs.history.declared.event.Event.{Event}
use Rattle.dsql_laws_calls.specs.history.declared.event.Event.TheVariants.{Entered}
use Rattle.dsql_laws_calls.specs.history.declared.event.Op.{Op}
use Rattle.dsql_laws_calls.specs.history.declared.event.Op.TheVariants as ops
use Rattle.dsql_laws_calls.specs.history.declared.work.Work.{Work}
use Rattle.dsql_laws_calls.specs.history.declared.work.Work.TheVariants.{Begin, End, Look}
use Rattle.dsql_laws_calls.specs.history.Readers.Calls.{calls}
use Rattle.dsql_laws_calls.specs.history.Readers.Works.{begins_as, tx_maker, work, work_of, works}
use Rattle.dsql_laws_calls.specs.history.Legal.{Lawful}
use Rattle.dsql_laws_calls.proofs.Begun.{still_begins}
use Rattle.dsql_laws_calls.proofs.Plain.{begins}
use Rattle.dsql_laws_calls.proofs.Works.{enters_next, new_work, old_work}

begun_as : (w : Work) (label : List ℕ) → begins_as label w ≡ true → begins w ≡ true
begun_as (Begin own level read_only) label h = refl
begun_as w label h = absurd cc

-- The call that has a transaction's label begins that transaction.
pub maker_begins : (ws : List Work) (label : List ℕ) (k : ℕ) → tx_maker ws label ≡ k → k ≢ 0 → begins (slice_index_or ws k Look) ≡ true
maker_begins ws label k is some = by (position (begins_as label) ws) refl
  where
    by : (o : Option ℕ) → position (begins_as label) ws ≡ o → begins (slice_index_or ws k Look) ≡ true
    by None at = absurd (some (sym is ∙ ap or_zero at))
    by (Some j) at =
        let same : j ≡ k = sym (ap or_zero at) ∙ is in
        let found = position-Some (begins_as label) ws j Look at in
        ap (λ i. begins (slice_index_or ws i Look)) (sym same) ∙ begun_as (slice_index_or ws j Look) label found.1

named_ender : (ws : List Work) (op : Op) (k : ℕ) → work_of ws op ≡ End k → k ≢ 0 → begins (slice_index_or ws k Look) ≡ true
named_ender ws (ops.Commit tx) k is some = let at : tx_maker ws tx ≡ k = cc in maker_begins ws tx k at some
named_ender ws (ops.Rollback tx) k is some = let at : tx_maker ws tx ≡ k = cc in maker_begins ws tx k at some
named_ender ws op k is some = absurd cc

pub ender_begins : (H : List Event) (n k : ℕ) → Lawful H → work H n ≡ End k → k ≢ 0 → begins (work H k) ≡ true
ender_begins [] zero k l is some = absurd cc
ender_begins [] (suc n) k l is some = absurd cc
ender_begins (Entered client m op ∷ H) n k l is some = by (n == m) refl (ender_begins H n k l.0)
  where
    next : m ≡ length (calls H)
    next = enters_next H client m op l.1

    by : (b : Bool) → (n == m) ≡ b → (work H n ≡ End k → k ≢ 0 → begins (work H k) ≡ true) → begins (work (Entered client m op ∷ H) k) ≡ true
    by true found before =
        let same = same_number n m found in
        let new : work_of (works H) op ≡ End k = sym (ap (work (Entered client m op ∷ H)) same ∙ new_work H client m op next) ∙ is in
        still_begins H (Entered client m op) k (named_ender (works H) op k new some)
    by false apart before =
        let other : n ≢ m = λ same. let wrong : false ≡ true = sym apart ∙ (ap (λ j. j == m) same ∙ same_itself m) in absurd cc in
        still_begins H (Entered client m op) k (before (sym (old_work H client m op n next other) ∙ is) some)
ender_begins (e ∷ H) n k l is some = still_begins H e k (ender_begins H n k l.0 is some)
