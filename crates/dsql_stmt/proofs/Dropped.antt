-- What is live after all that a close handed out was dropped. Dropping one after another is the same as leaving
-- out all at once.
use Rattle.std.proofs.Common.{◌≡◌, ◌≢◌, ℕ, Bool, true, false, ◌||◌, cond, eqb, filter, map, List, [], ◌∷◌, Some, None, Contains, refl, sym, ap, ◌∙◌, true≢false, arith}
use Rattle.std.specs.Prelude.{not}
use Rattle.std.specs.List.{list_any}
use Rattle.std.proofs.lemmas.Bool.{eqb-true, eq-eqb}
use Rattle.dsql_stmt.specs.declared.stmt.Prepared.{Prepared}
use Rattle.dsql_stmt.specs.Statements.{Live, is_of, is_handle, is_place, is_open, handle_on, prepared_on, handles_of, without_handle, IsOneEach}
use Rattle.dsql_stmt.specs.Laws.{all_dropped, DropsWhatWasHandedOut}
use Rattle.dsql_stmt.proofs.Counts.{count_by-filter, uncounted, unfound, lookup-first}
use Rattle.dsql_stmt.proofs.Places.{both, all_of, place_is}
use Rattle.dsql_stmt.proofs.OneEach.{one_handle_each}
use Rattle.dsql_stmt.proofs.HandedOut.{pair_of, contains_first, contains_later, only}
use Rattle.dsql_stmt.proofs.Seen.{seen}

-- Is true if the live handle is one of these.
abbrev pub is_among : List (ℕ × ℕ) → Live → Bool
is_among handles l = list_any (λ (pair : ℕ × ℕ). is_handle pair.0 pair.1 l) handles

abbrev pub without_all : List (ℕ × ℕ) → List Live → List Live
without_all handles live = filter (λ l. not (is_among handles l)) live

-- Leaving out one handle and then the others leaves out all of them.
without_both : (pair : ℕ × ℕ) (handles : List (ℕ × ℕ)) (live : List Live) → without_all handles (without_handle pair.0 pair.1 live) ≡ without_all (pair ∷ handles) live
without_both pair handles [] = refl
without_both pair handles (l ∷ live) =
    elim (is_handle pair.0 pair.1 l) as (λ b. without_all handles (cond (not b) (l ∷ without_handle pair.0 pair.1 live) (without_handle pair.0 pair.1 live)) ≡ cond (not (b || is_among handles l)) (l ∷ without_all (pair ∷ handles) live) (without_all (pair ∷ handles) live)) [
      | true ↦ without_both pair handles live
      | false ↦ ap (λ (rest : List Live). cond (not (is_among handles l)) (l ∷ rest) rest) (without_both pair handles live)
    ]

dropped_is : (handles : List (ℕ × ℕ)) (live : List Live) → all_dropped handles live ≡ without_all handles live
dropped_is [] [] = refl
dropped_is [] (l ∷ live) = ap (λ (rest : List Live). l ∷ rest) (dropped_is [] live)
dropped_is (pair ∷ handles) live = dropped_is handles (without_handle pair.0 pair.1 live) ∙ without_both pair handles live

or_second : (a b : Bool) → b ≡ true → (a || b) ≡ true
or_second true b h = refl
or_second false b h = h

-- If all handles of a statement are among those that go, nothing of it is left.
nothing : (n : ℕ) (handles : List (ℕ × ℕ)) (live : List Live) → ((l : Live) → is_among (handles_of n live) l ≡ true → is_among handles l ≡ true) → handles_of n (without_all handles live) ≡ []
nothing n handles [] h = refl
nothing n handles (l ∷ live) h =
    let left = without_all handles live in
    let others = filter (is_of n) live in
    elim (is_of n l) as (λ b. is_of n l ≡ b → ((m : Live) → is_among (map pair_of (cond b (l ∷ others) others)) m ≡ true → is_among handles m ≡ true) → handles_of n (without_all handles (l ∷ live)) ≡ []) [
      | true ↦ λ own all.
          let itself : is_handle l.0.1 l.1.handle l ≡ true = all_of (eqb l.0.1 l.0.1) (eqb l.1.handle l.1.handle) (eq-eqb l.0.1 l.0.1 refl) (eq-eqb l.1.handle l.1.handle refl) in
          let goes : is_among handles l ≡ true = all l (ap (λ (b : Bool). b || is_among (handles_of n live) l) itself) in
          ap (λ (b : Bool). handles_of n (cond (not b) (l ∷ left) left)) goes
          ∙ nothing n handles live (λ m among. all m (or_second (is_handle l.0.1 l.1.handle m) (is_among (handles_of n live) m) among))
      | false ↦ λ other all.
          let rest = nothing n handles live all in
          elim (is_among handles l) as (λ b. handles_of n (cond (not b) (l ∷ left) left) ≡ []) [
            | true ↦ rest
            | false ↦ ap (λ (b : Bool). map pair_of (cond b (l ∷ filter (is_of n) left) (filter (is_of n) left))) other ∙ rest
          ]
    ] refl h

-- A live handle that is among the handles is an item of their list.
stands : (handles : List (ℕ × ℕ)) (l : Live) → is_among handles l ≡ true → Contains handles (pair_of l)
stands [] l h = absurd (true≢false (sym h))
stands (pair ∷ handles) l h =
    elim (is_handle pair.0 pair.1 l) as (λ b. is_handle pair.0 pair.1 l ≡ b → (b || is_among handles l) ≡ true → Contains (pair ∷ handles) (pair_of l)) [
      | true ↦ λ here _.
          let parts = both (eqb pair.0 l.0.1) (eqb pair.1 l.1.handle) here in
          let conn : pair.0 ≡ l.0.1 = eqb-true pair.0 l.0.1 parts.0 in
          let handle : pair.1 ≡ l.1.handle = eqb-true pair.1 l.1.handle parts.1 in
          contains_first pair (pair_of l) handles (ap (λ (c : ℕ). (c, pair.1)) conn ∙ ap (λ (k : ℕ). (l.0.1, k)) handle)
      | false ↦ λ apart later. contains_later pair (pair_of l) handles (stands handles l later)
    ] refl h

-- A handle of another statement isn't among those of this one.
not_among : (n other conn : ℕ) (p : Prepared) (live : List Live) → other ≢ n → IsOneEach live → prepared_on other conn live ≡ Some p → is_among (handles_of n live) ((other, conn), p) ≡ false
not_among n other conn p live apart one found =
    elim (is_among (handles_of n live) ((other, conn), p)) as (λ b. is_among (handles_of n live) ((other, conn), p) ≡ b → b ≡ false) [
      | true ↦ λ among.
          let on = only n conn p.handle live (one.of_statement n conn) (stands (handles_of n live) ((other, conn), p) among) in
          absurd (apart (sym (one_handle_each.owner n other conn p.handle on.0 p.inputs live one on.1 (seen found))))
      | false ↦ λ _. refl
    ] refl

-- What another statement has live on a connection stays.
stay : (n other conn : ℕ) (live : List Live) → other ≢ n → IsOneEach live → prepared_on other conn (without_all (handles_of n live) live) ≡ prepared_on other conn live
stay n other conn live apart one =
    let keep : Live → Bool = λ l. not (is_among (handles_of n live) l) in
    elim (prepared_on other conn live) as (λ o. prepared_on other conn live ≡ o → prepared_on other conn (filter keep live) ≡ o) [
      | None ↦ λ none. uncounted (is_place other conn) (filter keep live) (omega (arith, unfound (is_place other conn) live none, count_by-filter (λ (l : Live). is_place other conn l.0) keep live))
      | Some p ↦ λ found. lookup-first (is_place other conn) keep p
          (λ l here is.
          let at = place_is other conn l here in
          let same : l ≡ ((other, conn), p) = ap (λ (q : Prepared). (l.0, q)) is ∙ (ap (λ (m : ℕ). ((m, l.0.1), p)) (sym at.0) ∙ ap (λ (c : ℕ). ((other, c), p)) (sym at.1)) in
          ap keep same ∙ ap not (not_among n other conn p live apart one found))
          live found
    ] refl

pub drops_what_was_handed_out : DropsWhatWasHandedOut
drops_what_was_handed_out = record {
  nothing_left = λ n live stmt opened.
      ap (λ (b : Bool). handles_of n (all_dropped (cond b (handles_of n live) []) live)) opened
      ∙ (ap (λ (left : List Live). handles_of n left) (dropped_is (handles_of n live) live)
      ∙ nothing n (handles_of n live) live (λ l among. among));
  other_statements = λ n other conn live stmt apart one.
      elim (is_open stmt) as (λ b. handle_on other conn (all_dropped (cond b (handles_of n live) []) live) ≡ handle_on other conn live) [
        | true ↦ ap (λ (left : List Live). handle_on other conn left) (dropped_is (handles_of n live) live) ∙ seen (stay n other conn live apart one)
        | false ↦ refl
      ];
}
