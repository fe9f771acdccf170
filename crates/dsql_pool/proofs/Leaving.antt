-- What closings leave as it was, and what they take out.
use Rattle.std.proofs.Common.{◌≡◌, ℕ, suc, Bool, true, false, eqb, cond, List, [], ◌∷◌, length, map, Option, Some, None, refl, sym, ap, ◌∙◌, subst, arith}
use Rattle.std.specs.Prelude.{count_by, is_none}
use Rattle.std.specs.List.{list_all, filter_map, cons_option}
use Rattle.std.specs.Option.{option_map}
use Rattle.std.proofs.lemmas.Bool.{eqb-true, eqb-false, ne_eqb, eq-eqb}
use Rattle.dsql_time.specs.declared.Limits.{Limits}
use Rattle.dsql_pool.specs.declared.conn.Conn.{Conn}
use Rattle.dsql_pool.specs.declared.moves.CloseCause.{CloseCause}
use Rattle.dsql_pool.specs.declared.moves.Move.{Move}
use Rattle.dsql_pool.specs.declared.moves.Move.TheVariants.{CloseStart}
use Rattle.dsql_pool.specs.Places.{conn_of, is_idle, is_free}
use Rattle.dsql_pool.specs.Changes.{conn_changed, closing}
use Rattle.dsql_pool.specs.Pooled.{Pooled}
use Rattle.dsql_pool.specs.Moved.{moved, made}
use Rattle.dsql_pool.specs.Decisions.{starts_closing, closing_for, closing_at, cause_at}
use Rattle.dsql_pool.specs.Rest.{times}
use Rattle.dsql_pool.proofs.Found.{found_changed, found_beside}
use Rattle.dsql_pool.proofs.Members.{without_all}
use Rattle.dsql_pool.proofs.Placed.{Placed, placed_away}
use Rattle.dsql_pool.proofs.Young.{Young, IsYoung, mapped}
use Rattle.dsql_pool.proofs.Frees.{passing, count-changed, length-changed}

-- What holds of no moves and is kept by each closing holds of all lists of closings.
by_closing : (P : List Move → Pooled → Type 0) → ((p : Pooled) → P [] p) → ((c : ℕ) (cause : CloseCause) (ms : List Move) (p : Pooled) → P ms (moved (CloseStart c cause) p) → P (CloseStart c cause ∷ ms) p) → (moves : List Move) (p : Pooled) → list_all starts_closing moves ≡ true → P moves p
by_closing P base step [] p h = base p
by_closing P base step (CloseStart c cause ∷ ms) p h = step c cause ms p (by_closing P base step ms (moved (CloseStart c cause) p) h)
by_closing P base step (_ ∷ ms) p h = cc

-- Returns the connections that the moves begin to close.
abbrev pub out : List Move → List ℕ
out [] = []
out (CloseStart c cause ∷ ms) = c ∷ out ms
out (_ ∷ ms) = out ms

-- Holds of what closings leave as it was.
pub record Leaves (p q : Pooled) : Type 0 where
  pub waiting : q.waiting ≡ p.waiting
  pub limits : q.limits ≡ p.limits
  pub moment : q.moment ≡ p.moment
  pub closed : q.closed ≡ p.closed
  pub as_many : length q.conns ≡ length p.conns

pub leaves : (moves : List Move) (p : Pooled) → list_all starts_closing moves ≡ true → Leaves p (made moves p)
leaves =
    by_closing (λ moves p. Leaves p (made moves p)) (λ p. record { waiting = refl; limits = refl; moment = refl; closed = refl; as_many = refl })
    (λ c cause ms p h. record { waiting = h.waiting; limits = h.limits; moment = h.moment; closed = h.closed; as_many = h.as_many ∙ length-changed c closing p.conns })

pub idle_out : (moves : List Move) (p : Pooled) → list_all starts_closing moves ≡ true → (made moves p).idle ≡ without_all (out moves) p.idle
idle_out = by_closing (λ moves p. (made moves p).idle ≡ without_all (out moves) p.idle) (λ p. refl) (λ c cause ms p h. h)

pub closings_placed : (moves : List Move) (p : Pooled) → list_all starts_closing moves ≡ true → Placed p.idle p.conns → Placed (made moves p).idle (made moves p).conns
closings_placed =
    by_closing (λ moves p. Placed p.idle p.conns → Placed (made moves p).idle (made moves p).conns) (λ p h. h)
    (λ c cause ms p rest h. rest (placed_away c closing (λ _. refl) (λ _. refl) p.idle p.conns h))

turned : (c d : ℕ) → eqb d c ≡ false → eqb c d ≡ false
turned c d apart = ne_eqb c d (λ same. eqb-false d c apart (sym same))

-- A connection that is idle after the closings was idle before them, and wasn't closed.
pub still_idle : (moves : List Move) (p : Pooled) → list_all starts_closing moves ≡ true → (d : ℕ) (x : Conn) → conn_of d (made moves p).conns ≡ Some x → is_idle (Some x.place) ≡ true → (conn_of d p.conns ≡ Some x) × (times d (out moves) ≡ 0)
still_idle =
    by_closing (λ moves p. (d : ℕ) (x : Conn) → conn_of d (made moves p).conns ≡ Some x → is_idle (Some x.place) ≡ true → (conn_of d p.conns ≡ Some x) × (times d (out moves) ≡ 0)) (λ p d x found is. (found, refl))
    (λ c cause ms p rest d x found is.
    let before = rest d x found is in
    elim (eqb d c) as (λ b. eqb d c ≡ b → (conn_of d p.conns ≡ Some x) × (cond (eqb c d) (suc (times d (out ms))) (times d (out ms)) ≡ 0)) [
      | true ↦ λ same.
          let there = ap (λ n. conn_of n (conn_changed c closing p.conns)) (sym (eqb-true d c same)) ∙ before.0 in
          let y = mapped closing (conn_of c p.conns) x (sym (found_changed c closing (λ _. refl) p.conns) ∙ there) in
          let not : true ≡ false = sym is ∙ ap (λ (z : Conn). is_idle (Some z.place)) y.2 in
          cc
      | false ↦ λ apart.
          (sym (found_beside c d closing (λ _. refl) p.conns apart) ∙ before.0, ap (λ (b : Bool). cond b (suc (times d (out ms))) (times d (out ms))) (turned c d apart) ∙ before.1)
    ] refl)

pub closings_young : (moves : List Move) (p : Pooled) → list_all starts_closing moves ≡ true → Young p.limits p.moment p.conns → Young p.limits p.moment (made moves p).conns
closings_young moves p h young = λ d x found is. young d x (still_idle moves p h d x found is).0 is

abbrev pub free : Conn → Bool
free conn = is_free conn.place

pub closed_is_none : (o : Option Conn) → passing free (option_map closing o) ≡ 0
closed_is_none None = refl
closed_is_none (Some x) = refl

-- If none of the closed connections is a free opening, there are as many free openings after the closings.
pub as_many_free : (moves : List Move) (p : Pooled) → list_all starts_closing moves ≡ true → ((d : ℕ) → (times d (out moves) ≡ 0 → ⊥) → passing free (conn_of d p.conns) ≡ 0) → count_by free (made moves p).conns ≡ count_by free p.conns
as_many_free =
    by_closing (λ moves p. ((d : ℕ) → (times d (out moves) ≡ 0 → ⊥) → passing free (conn_of d p.conns) ≡ 0) → count_by free (made moves p).conns ≡ count_by free p.conns) (λ p h. refl)
    (λ c cause ms p rest h.
    let here : passing free (conn_of c p.conns) ≡ 0 = h c (λ none. let some : times c (c ∷ out ms) ≡ suc (times c (out ms)) = ap (λ (b : Bool). cond b (suc (times c (out ms))) (times c (out ms))) (eq-eqb c c refl) in omega (arith, some, none)) in
    let gone = closed_is_none (conn_of c p.conns) in
    let change = count-changed free c closing p.conns in
    let before : count_by free (conn_changed c closing p.conns) ≡ count_by free p.conns = omega (arith, here, gone, change) in
    rest
    (λ d some.
    elim (eqb d c) as (λ b. eqb d c ≡ b → passing free (conn_of d (conn_changed c closing p.conns)) ≡ 0) [
      | true ↦ λ same.
          ap (λ n. passing free (conn_of n (conn_changed c closing p.conns))) (eqb-true d c same)
          ∙ (ap (passing free) (found_changed c closing (λ _. refl) p.conns) ∙ closed_is_none (conn_of c p.conns))
      | false ↦ λ apart.
          ap (passing free) (found_beside c d closing (λ _. refl) p.conns apart)
          ∙ h d (λ none. some (sym (ap (λ (b : Bool). cond b (suc (times d (out ms))) (times d (out ms))) (turned c d apart)) ∙ none))
    ] refl)
    ∙ before)

pub out-map : (cause : CloseCause) (ns : List ℕ) → out (map (λ c. CloseStart c cause) ns) ≡ ns
out-map cause [] = refl
out-map cause (n ∷ ns) = ap (λ (ms : List ℕ). n ∷ ms) (out-map cause ns)

-- A listed connection that isn't closed as outdated is within its time.
pub not_outdated : (limits : Limits) (moment : ℕ) (conns : List Conn) (idle : List ℕ) (d : ℕ) → (times d idle ≡ 0 → ⊥) → times d (out (filter_map (closing_at limits moment conns) idle)) ≡ 0 → IsYoung limits moment (conn_of d conns)
not_outdated limits moment conns [] d some none = absurd (some refl)
not_outdated limits moment conns (e ∷ es) d some none =
    elim (eqb e d) as (λ b. eqb e d ≡ b → (cond b (suc (times d es)) (times d es) ≡ 0 → ⊥) → IsYoung limits moment (conn_of d conns)) [
      | true ↦ λ same any.
          subst (λ n. IsYoung limits moment (conn_of n conns)) (eqb-true e d same)
          (elim (cause_at limits moment (conn_of e conns)) as (λ (o : Option CloseCause). times d (out (cons_option (closing_for e o) (filter_map (closing_at limits moment conns) es))) ≡ 0 → is_none o ≡ true) [
            | None ↦ λ k. refl
            | Some cause ↦ λ k.
                let stands = ap (λ (b : Bool). cond b (suc (times d (out (filter_map (closing_at limits moment conns) es)))) (times d (out (filter_map (closing_at limits moment conns) es)))) same in
                absurd (omega (arith, stands, k))
          ] none)
      | false ↦ λ apart any.
          not_outdated limits moment conns es d any
          (elim (cause_at limits moment (conn_of e conns)) as (λ (o : Option CloseCause). times d (out (cons_option (closing_for e o) (filter_map (closing_at limits moment conns) es))) ≡ 0 → times d (out (filter_map (closing_at limits moment conns) es)) ≡ 0) [
            | None ↦ λ k. k
            | Some cause ↦ λ k. sym (ap (λ (b : Bool). cond b (suc (times d (out (filter_map (closing_at limits moment conns) es)))) (times d (out (filter_map (closing_at limits moment conns) es)))) apart) ∙ k
          ] none)
    ] refl some
