-- A SET changes only the value of its own key.
use Rattle.std.proofs.Common.{◌≡◌, ℕ, List, [], ◌∷◌, Bool, true, false, cond, Option, Some, ap, sym, refl, subst, ◌∙◌}
use Rattle.std.specs.BTreeMap.{insert_entry}
use Rattle.std.specs.Cmp.Lexicographic.{slice_cmp}
use Rattle.std.specs.Map.{lookup}
use Rattle.std.specs.Ordering.{is_eq, nat_cmp, match_ordering}
use Rattle.std.specs.declared.cmp.Ordering.{Ordering}
use Rattle.std.specs.declared.cmp.Ordering.TheVariants.{Less, Equal, Greater}
use Rattle.std.proofs.lemmas.Map.Text.{is_eq-slice_cmp}
use Rattle.std.proofs.lemmas.Slice.Eq.{bytes_eq-Decides}
use Rattle.dsql_mem_store.specs.Laws.{SetsOneKey}

-- Is true if both keys are the same.
abbrev is_at : List ℕ → List ℕ → Bool
is_at other key = is_eq (slice_cmp nat_cmp other key)

is_at-same : (other key : List ℕ) → is_at other key ≡ true → other ≡ key
is_at-same other key h = (bytes_eq-Decides other key).0 (sym (is_eq-slice_cmp other key) ∙ h)

is_at-self : (key : List ℕ) → is_at key key ≡ true
is_at-self key = is_eq-slice_cmp key key ∙ (bytes_eq-Decides key key).1 refl

replaced : {X : Type 0} (b : Bool) (old new : X) (rest : Option X) → cond b (Some new) rest ≡ cond b (Some new) (cond b (Some old) rest)
replaced true old new rest = refl
replaced false old new rest = refl

apart : {X : Type 0} (a b : Bool) (x y : X) (rest : Option X) → (a ≡ true → b ≡ true → ⊥) → cond b (Some y) (cond a (Some x) rest) ≡ cond a (Some x) (cond b (Some y) rest)
apart true true x y rest h = absurd (h refl refl)
apart true false x y rest h = refl
apart false true x y rest h = refl
apart false false x y rest h = refl

-- If an insertion into the later entries changes only its own key, so does the insertion before, at or after
-- the first entry.
at_first : {X : Type 0} (other key : List ℕ) (value : X) (e : List ℕ × X) (es rest : List (List ℕ × X)) (o : Ordering) → o ≡ slice_cmp nat_cmp key e.0 → lookup (is_at other) rest ≡ cond (is_at other key) (Some value) (lookup (is_at other) es) → lookup (is_at other) (match_ordering o ((key, value) ∷ e ∷ es) ((e.0, value) ∷ es) (e ∷ rest)) ≡ cond (is_at other key) (Some value) (lookup (is_at other) (e ∷ es))
at_first other key value e es rest Less h ih = refl
at_first other key value e es rest Equal h ih =
    let same : key ≡ e.0 = is_at-same key e.0 (ap is_eq (sym h)) in
    rw same (replaced (is_at other e.0) e.1 value (lookup (is_at other) es))
at_first other key value e es rest Greater h ih =
    rw ih (apart (is_at other key) (is_at other e.0) value e.1 (lookup (is_at other) es)
    (λ p q.
    let same : key ≡ e.0 = sym (is_at-same other key p) ∙ is_at-same other e.0 q in
    let equal : is_at key e.0 ≡ true = subst (λ (k : List ℕ). is_at key k ≡ true) same (is_at-self key) in
    let greater : is_at key e.0 ≡ false = ap is_eq (sym h) in
    cc))

lookup-insert : {X : Type 0} (other key : List ℕ) (value : X) (es : List (List ℕ × X)) → lookup (is_at other) (insert_entry (slice_cmp nat_cmp) es key value) ≡ cond (is_at other key) (Some value) (lookup (is_at other) es)
lookup-insert other key value [] = refl
lookup-insert other key value (e ∷ es) =
    at_first other key value e es (insert_entry (slice_cmp nat_cmp) es key value) (slice_cmp nat_cmp key e.0) refl (lookup-insert other key value es)

pub sets_one_key : SetsOneKey
sets_one_key key value store other =
    lookup-insert other key value store
    ∙ ap (λ test. cond test (Some value) (lookup (is_at other) store)) (is_eq-slice_cmp other key)
