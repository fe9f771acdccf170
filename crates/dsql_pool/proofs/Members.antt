-- How often a number stands in a list.
use Rattle.std.proofs.Common.{◌≡◌, ℕ, suc, ◌≤◌, Bool, true, false, not, eqb, cond, List, [], ◌∷◌, ◌++◌, length, refl, sym, ap, ◌∙◌, arith}
use Rattle.std.specs.List.{list_all}
use Rattle.std.proofs.lemmas.Bool.{eqb-true, eq-eqb, ne_eqb, eqb-false}
use Rattle.dsql_tenure_journal.specs.Readers.{is_empty}
use Rattle.dsql_pool.specs.Pooled.{without}
use Rattle.dsql_pool.specs.Rest.{times}
use Rattle.dsql_pool.proofs.Rows.{left_of, right_of, both}

pub times-without_other : (c d : ℕ) (ns : List ℕ) → eqb d c ≡ false → times d (without c ns) ≡ times d ns
times-without_other c d [] apart = refl
times-without_other c d (e ∷ es) apart =
    let rest = times-without_other c d es apart in
    elim (eqb e c) as (λ b. eqb e c ≡ b → times d (cond (not b) (e ∷ without c es) (without c es)) ≡ cond (eqb e d) (suc (times d es)) (times d es)) [
      | true ↦ λ here.
          let not : eqb e d ≡ false = ne_eqb e d (λ same. eqb-false d c apart (sym same ∙ eqb-true e c here)) in
          rest ∙ sym (ap (λ (b : Bool). cond b (suc (times d es)) (times d es)) not)
      | false ↦ λ behind. ap (λ (n : ℕ). cond (eqb e d) (suc n) n) rest
    ] refl

pub times-without_same : (c : ℕ) (ns : List ℕ) → times c (without c ns) ≡ 0
times-without_same c [] = refl
times-without_same c (e ∷ es) =
    let rest = times-without_same c es in
    elim (eqb e c) as (λ b. eqb e c ≡ b → times c (cond (not b) (e ∷ without c es) (without c es)) ≡ 0) [
      | true ↦ λ here. rest
      | false ↦ λ behind. ap (λ (b : Bool). cond b (suc (times c (without c es))) (times c (without c es))) behind ∙ rest
    ] refl

pub times-more_same : (c : ℕ) (ns : List ℕ) → times c (ns ++ c ∷ []) ≡ suc (times c ns)
times-more_same c [] = ap (λ (b : Bool). cond {A = ℕ} b 1 0) (eq-eqb c c refl)
times-more_same c (e ∷ es) = elim (eqb e c) as (λ b. cond b (suc (times c (es ++ c ∷ []))) (times c (es ++ c ∷ [])) ≡ suc (cond b (suc (times c es)) (times c es))) [ true ↦ ap suc (times-more_same c es) | false ↦ times-more_same c es ]

pub times-more_other : (c d : ℕ) (ns : List ℕ) → eqb c d ≡ false → times d (ns ++ c ∷ []) ≡ times d ns
times-more_other c d [] apart = ap (λ (b : Bool). cond {A = ℕ} b 1 0) apart
times-more_other c d (e ∷ es) apart = ap (λ (n : ℕ). cond (eqb e d) (suc n) n) (times-more_other c d es apart)

pub member_passes : (p : ℕ → Bool) (ns : List ℕ) (d : ℕ) → list_all p ns ≡ true → (times d ns ≡ 0 → ⊥) → p d ≡ true
member_passes p [] d h some = absurd (some refl)
member_passes p (e ∷ es) d h some =
    elim (eqb e d) as (λ b. eqb e d ≡ b → (cond b (suc (times d es)) (times d es) ≡ 0 → ⊥) → p d ≡ true) [
      | true ↦ λ here any. ap p (sym (eqb-true e d here)) ∙ left_of (p e) (list_all p es) h
      | false ↦ λ behind any. member_passes p es d (right_of (p e) (list_all p es) h) any
    ] refl some

stands_first : (e : ℕ) (es : List ℕ) → times e (e ∷ es) ≡ suc (times e es)
stands_first e es = ap (λ (b : Bool). cond b (suc (times e es)) (times e es)) (eq-eqb e e refl)

fewer_behind : (d e : ℕ) (es : List ℕ) → times d (e ∷ es) ≡ 0 → times d es ≡ 0
fewer_behind d e es = elim (eqb e d) as (λ b. cond b (suc (times d es)) (times d es) ≡ 0 → times d es ≡ 0) [ true ↦ λ h. absurd (omega arith) | false ↦ λ h. h ]

pub all_members : (p : ℕ → Bool) (ns : List ℕ) → ((d : ℕ) → (times d ns ≡ 0 → ⊥) → p d ≡ true) → list_all p ns ≡ true
all_members p [] h = refl
all_members p (e ∷ es) h =
    both (p e) (list_all p es)
    (h e (λ none. let one = stands_first e es in absurd (omega (arith, one, none))))
    (all_members p es (λ d some. h d (λ none. some (fewer_behind d e es none))))

pub none_left : (ns : List ℕ) → ((d : ℕ) → times d ns ≡ 0) → is_empty ns ≡ true
none_left [] h = refl
none_left (e ∷ es) h =
    let none = h e in
    let one = stands_first e es in
    absurd (omega (arith, one, none))

pub length-without : (c : ℕ) (ns : List ℕ) → length (without c ns) ≤ length ns
length-without c [] = omega arith
length-without c (e ∷ es) =
    let rest = length-without c es in
    elim (eqb e c) as (λ b. length (cond (not b) (e ∷ without c es) (without c es)) ≤ length (e ∷ es)) [ true ↦ omega (arith, rest) | false ↦ omega (arith, rest) ]

pub empty-without : (c : ℕ) (ns : List ℕ) → is_empty ns ≡ true → is_empty (without c ns) ≡ true
empty-without c [] h = refl
empty-without c (e ∷ es) h = cc

swapped : (c d : ℕ) (ns : List ℕ) → without c (without d ns) ≡ without d (without c ns)
swapped c d [] = refl
swapped c d (e ∷ es) =
    elim (eqb e c) as (λ b. eqb e c ≡ b → without c (cond (not (eqb e d)) (e ∷ without d es) (without d es)) ≡ without d (cond (not b) (e ∷ without c es) (without c es))) [
      | true ↦ λ here.
          elim (eqb e d) as (λ g. without c (cond (not g) (e ∷ without d es) (without d es)) ≡ without d (without c es)) [
            | true ↦ swapped c d es
            | false ↦ ap (λ (b : Bool). cond (not b) (e ∷ without c (without d es)) (without c (without d es))) here ∙ swapped c d es
          ]
      | false ↦ λ behind.
          elim (eqb e d) as (λ g. eqb e d ≡ g → without c (cond (not g) (e ∷ without d es) (without d es)) ≡ cond (not (eqb e d)) (e ∷ without d (without c es)) (without d (without c es))) [
            | true ↦ λ there. swapped c d es ∙ sym (ap (λ (b : Bool). cond (not b) (e ∷ without d (without c es)) (without d (without c es))) there)
            | false ↦ λ apart.
                ap (λ (b : Bool). cond (not b) (e ∷ without c (without d es)) (without c (without d es))) behind
                ∙ (ap (λ (ms : List ℕ). e ∷ ms) (swapped c d es) ∙ sym (ap (λ (b : Bool). cond (not b) (e ∷ without d (without c es)) (without d (without c es))) apart))
          ] refl
    ] refl

-- Returns the list without these numbers.
abbrev pub without_all : List ℕ → List ℕ → List ℕ
without_all [] ns = ns
without_all (c ∷ cs) ns = without_all cs (without c ns)

out_of : (cs : List ℕ) (c : ℕ) (ns : List ℕ) → without_all cs (without c ns) ≡ without c (without_all cs ns)
out_of [] c ns = refl
out_of (d ∷ ds) c ns = ap (without_all ds) (swapped d c ns) ∙ out_of ds c (without d ns)

-- After the first numbers of a list are taken out, at most the others are left.
pub first_ones_leave : (cs ns : List ℕ) → length (without_all cs (cs ++ ns)) ≤ length ns
first_ones_leave [] ns = omega arith
first_ones_leave (c ∷ cs) ns =
    let rest = first_ones_leave cs ns in
    let fewer = length-without c (without_all cs (cs ++ ns)) in
    let head : without c (c ∷ (cs ++ ns)) ≡ without c (cs ++ ns) = ap (λ (b : Bool). cond (not b) (c ∷ without c (cs ++ ns)) (without c (cs ++ ns))) (eq-eqb c c refl) in
    let same : length (without_all cs (without c (c ∷ (cs ++ ns)))) ≡ length (without c (without_all cs (cs ++ ns))) = ap (λ (ms : List ℕ). length (without_all cs ms)) head ∙ ap length (out_of cs c (cs ++ ns)) in
    omega (arith, rest, fewer, same)
