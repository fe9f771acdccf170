-- What a search for a name finds, and what an edit at its place makes of the tokens. Both follow from the
-- names' order.
use Rattle.std.proofs.Common.{◌≡◌, ◌≢◌, ℕ, zero, suc, ◌+◌, ◌<◌, true, false, cond, [], ◌∷◌, ◌++◌, map, filter, length, get_or, set, take, Some, None, Result, Ok, Err, IfOk, IfErr, OnOk, OnErr, add-one, refl, ap, ◌∙◌, arith}
use Rattle.std.specs.Cmp.{IsTotalOrder}
use Rattle.std.specs.Cmp.Lexicographic.{nat_list_cmp_total}
use Rattle.std.specs.List.{insert}
use Rattle.std.proofs.lemmas.List.{append-nil}
use Rattle.std.specs.Option.{is_some, option_map_or, option_map, ok_or}
use Rattle.std.specs.List.Sorted.{IsSearchInRange, IsBinarySearchResult}
use Rattle.std.specs.FinMap.Entries.{is_sorted}
use Rattle.dsql_cancel.specs.declared.token.Token.{Token}
use Rattle.dsql_cancel.specs.declared.token.Cause.TheVariants.{Canceled}
use Rattle.dsql_cancel.specs.Token.{runs, runs_out, stopped, endless}
use Rattle.dsql_cancel.specs.Registry.{Name, Named, byte_order, token_of, was_made, with_token, canceled, running_out, cause_of, runs as runs_in}
use Rattle.dsql_cancel.specs.Table.{IsAt, IsGapFor}
use Rattle.dsql_cancel.proofs.Order.{comparisons_rise}
use Rattle.dsql_cancel.proofs.Places.{find_at, set_at, find_gap, insert_gap}

pub byte_order_total : IsTotalOrder byte_order
byte_order_total = nat_list_cmp_total

-- A binary search by name ends at the name, or at the gap for it.
pub searched : (name : Name) (es : Named) → is_sorted byte_order es ≡ true → (r : Result ℕ ℕ) → IsSearchInRange r (length es) → IsBinarySearchResult (λ (e : Name × Token). byte_order e.0 name) es r → record { found : IfOk r (IsAt es name); absent : IfErr r (IsGapFor es name) }
searched name es s (Ok i) range is = record { found = record { in_range = range; same = is }; absent = tt }
searched name es s (Err i) range is = record { found = tt; absent = record { in_range = range; parted = is (comparisons_rise byte_order_total es name s) } }

pub token_at : (name : Name) (es : Named) → is_sorted byte_order es ≡ true → (i : ℕ) → IsAt es name i → (d : Name × Token) → token_of name es ≡ Some (get_or es i d).1
token_at name es s i at d = find_at byte_order_total name es i s at.in_range at.same d

pub made_at : (name : Name) (es : Named) → is_sorted byte_order es ≡ true → (i : ℕ) → IsAt es name i → was_made name es ≡ true
made_at name es s i at = ap is_some (token_at name es s i at (name, endless))

pub runs_at : (name : Name) (es : Named) → is_sorted byte_order es ≡ true → (i : ℕ) → IsAt es name i → (d : Name × Token) → runs_in name es ≡ runs (get_or es i d).1
runs_at name es s i at d = ap (λ o. option_map_or runs o false) (token_at name es s i at d)

pub cause_at : (name : Name) (es : Named) → is_sorted byte_order es ≡ true → (i : ℕ) → IsAt es name i → (d : Name × Token) → cause_of name es ≡ Ok (get_or es i d).1.cause
cause_at name es s i at d = ap (λ o. ok_or (option_map (λ (t : Token). t.cause) o) (record {})) (token_at name es s i at d)

pub canceled_at : (name : Name) (es : Named) → is_sorted byte_order es ≡ true → (i : ℕ) → IsAt es name i → (d : Name × Token) → set es i ((get_or es i d).0, stopped Canceled (get_or es i d).1) ≡ canceled name es
canceled_at name es s i at d = set_at byte_order_total (stopped Canceled) name es i s at.in_range at.same d

pub no_token_in_gap : (name : Name) (es : Named) (i : ℕ) → IsGapFor es name i → token_of name es ≡ None
no_token_in_gap name es i gap = find_gap byte_order_total name es i gap.parted.0 gap.parted.1

pub not_made_in_gap : (name : Name) (es : Named) (i : ℕ) → IsGapFor es name i → was_made name es ≡ false
not_made_in_gap name es i gap = ap is_some (no_token_in_gap name es i gap)

pub no_cause_in_gap : (name : Name) (es : Named) (i : ℕ) → IsGapFor es name i → cause_of name es ≡ Err (record {})
no_cause_in_gap name es i gap = ap (λ o. ok_or (option_map (λ (t : Token). t.cause) o) (record {})) (no_token_in_gap name es i gap)

pub with_token_in_gap : (name : Name) (t : Token) (es : Named) (i : ℕ) → IsGapFor es name i → insert es i (name, t) ≡ with_token name t es
with_token_in_gap name t es i gap = insert_gap byte_order_total name t es i gap.in_range gap.parted.0 gap.parted.1

-- The names among one more token are the names so far, and that token's if it runs out.
pub running_more : (now : ℕ) (es : Named) (i : ℕ) (d : Name × Token) → i < length es → running_out now (take (suc i) es) ≡ running_out now (take i es) ++ cond (runs_out now (get_or es i d).1) ((get_or es i d).0 ∷ []) []
running_more now [] i d lt = absurd (omega arith)
running_more now (e ∷ es) zero d lt =
    elim (runs_out now e.1) as (λ b. map (λ (x : Name × Token). x.0) (cond b (e ∷ []) []) ≡ cond b (e.0 ∷ []) []) [ true ↦ refl | false ↦ refl ]
running_more now (e ∷ es) (suc i) d lt =
    let more = running_more now es i d (omega arith) in
    elim (runs_out now e.1) as (λ b. map (λ (x : Name × Token). x.0) (cond b (e ∷ filter (λ x. runs_out now x.1) (take (suc i) es)) (filter (λ x. runs_out now x.1) (take (suc i) es))) ≡ map (λ (x : Name × Token). x.0) (cond b (e ∷ filter (λ x. runs_out now x.1) (take i es)) (filter (λ x. runs_out now x.1) (take i es))) ++ cond (runs_out now (get_or es i d).1) ((get_or es i d).0 ∷ []) []) [
      | true ↦ ap (λ r. e.0 ∷ r) more
      | false ↦ more
    ]

pub running_then : (now : ℕ) (es : Named) (i : ℕ) (d : Name × Token) → i < length es → runs_out now (get_or es i d).1 ≡ true → running_out now (take (i + 1) es) ≡ running_out now (take i es) ++ (get_or es i d).0 ∷ []
running_then now es i d lt h = rw add-one (running_more now es i d lt ∙ ap (λ b. running_out now (take i es) ++ cond b ((get_or es i d).0 ∷ []) []) h)

pub running_else : (now : ℕ) (es : Named) (i : ℕ) (d : Name × Token) → i < length es → runs_out now (get_or es i d).1 ≡ false → running_out now (take (i + 1) es) ≡ running_out now (take i es)
running_else now es i d lt h = rw add-one (running_more now es i d lt ∙ ap (λ b. running_out now (take i es) ++ cond b ((get_or es i d).0 ∷ []) []) h ∙ append-nil (running_out now (take i es)))

-- If a token runs out, there is a name.
pub some_runs_out : (now : ℕ) (es : Named) (i : ℕ) (d : Name × Token) → i < length es → runs_out now (get_or es i d).1 ≡ true → running_out now es ≢ []
some_runs_out now [] i d lt h none = omega arith
some_runs_out now (e ∷ es) zero d lt h none = cc (ap (λ b. map (λ (x : Name × Token). x.0) (cond b (e ∷ filter (λ x. runs_out now x.1) es) (filter (λ x. runs_out now x.1) es))) h)
some_runs_out now (e ∷ es) (suc i) d lt h none =
    elim (runs_out now e.1) as (λ b. map (λ (x : Name × Token). x.0) (cond b (e ∷ filter (λ x. runs_out now x.1) es) (filter (λ x. runs_out now x.1) es)) ≡ [] → ⊥) [
      | true ↦ λ k. cc
      | false ↦ λ k. some_runs_out now es i d (omega arith) h k
    ] none

pub on_ok : {T E : Type 0} {P : Type 0} (r : Result T E) → P → OnOk r P
on_ok (Ok x) p = p
on_ok (Err e) p = tt

pub on_err : {T E : Type 0} {P : Type 0} (r : Result T E) → P → OnErr r P
on_err (Ok x) p = tt
on_err (Err e) p = p
