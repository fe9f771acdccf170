-- What a call on rows does with these: it closes them if they are over, or fetches from them.
use Rattle.std.proofs.Common.{◌≡◌, ℕ, ◌==◌, ◌⊎◌, inl, inr, Bool, true, false, not, ◌||◌, List, sym, ap, ◌∙◌}
use Rattle.dsql_laws_calls.proofs.laws.Tests.{both, same_number}
use Rattle.dsql_laws_calls.specs.history.declared.event.Event.{Event}
use Rattle.dsql_laws_calls.specs.history.declared.work.Work.{Work}
use Rattle.dsql_laws_calls.specs.history.declared.work.Work.TheVariants.{Fetch, Close}
use Rattle.dsql_laws_calls.specs.history.Readers.Calls.{has_begun_to_send}
use Rattle.dsql_laws_calls.specs.history.Readers.HandedOut.{are_over, ender, is_late}
use Rattle.dsql_laws_calls.specs.history.Readers.Works.{is_fetch, scope, work}
use Rattle.dsql_laws_calls.specs.history.Rules.Sent.{closes}
use Rattle.dsql_laws_calls.proofs.EndedRows.{ender_over}

-- Rows that a call closes are over.
pub closed_over : (H : List Event) (c j : ℕ) → (c == 0) ≡ false → closes H c j ≡ true → are_over H j ≡ true
closed_over H c j some ends =
    let y = both (ender H j == c) (not (is_late H (scope (work H j))) || has_begun_to_send H c) ends in
    ender_over H j (λ none. never (c == 0) (ap (λ i. i == 0) (sym (same_number (ender H j) c y.0) ∙ none)) some)
  where
    never : (b : Bool) → b ≡ true → b ≡ false → ⊥
    never b x y = cc

-- A call on rows that fetches is a fetch from these rows.
pub fetch_of : (j : ℕ) (v : Work) → (v ≡ Fetch j) ⊎ (v ≡ Close j) → is_fetch v ≡ true → v ≡ Fetch j
fetch_of j v (inl its) x = its
fetch_of j v (inr its) x = let wrong : true ≡ false = sym x ∙ ap is_fetch its in absurd cc
