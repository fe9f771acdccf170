-- A connection is among the idle ones once if its place is idle, under each change.
use Rattle.std.proofs.Common.{◌≡◌, ℕ, suc, Bool, true, false, not, eqb, cond, List, [], ◌∷◌, ◌++◌, map, Option, Some, None, refl, sym, ap, ◌∙◌, subst}
use Rattle.std.specs.Option.{option_map, option_or}
use Rattle.std.proofs.lemmas.Bool.{eqb-true, eqb-false, ne_eqb, cond-true}
use Rattle.std.proofs.lemmas.List.Folds.{find-append}
use Rattle.dsql_tenure_journal.specs.declared.entry.Owner.{Owner}
use Rattle.dsql_pool.specs.declared.conn.Conn.{Conn}
use Rattle.dsql_pool.specs.Places.{conn_of, is_idle}
use Rattle.dsql_pool.specs.Changes.{conn_changed, gone, opening}
use Rattle.dsql_pool.specs.Pooled.{without}
use Rattle.dsql_pool.specs.Rest.{times}
use Rattle.dsql_pool.proofs.Found.{KeepsNumber, found_changed, found_beside}
use Rattle.dsql_pool.proofs.Members.{times-without_other, times-without_same, times-more_same, times-more_other}

-- Is true if what was found is idle.
abbrev pub idle_in : Option Conn → Bool
idle_in found = is_idle (option_map (λ conn. conn.place) found)

abbrev pub Placed : List ℕ → List Conn → Type 0
Placed idle conns = (c : ℕ) → times c idle ≡ cond (idle_in (conn_of c conns)) 1 0

-- What holds of c and of every number that differs from it holds of all numbers.
by_number : (P : ℕ → Type 0) (c : ℕ) → P c → ((d : ℕ) → eqb d c ≡ false → P d) → (d : ℕ) → P d
by_number P c here beside d =
    elim (eqb d c) as (λ b. eqb d c ≡ b → P d) [
      | true ↦ λ same. subst P (sym (eqb-true d c same)) here
      | false ↦ λ apart. beside d apart
    ] refl

turned : (c d : ℕ) → eqb d c ≡ false → eqb c d ≡ false
turned c d apart = ne_eqb c d (λ same. eqb-false d c apart (sym same))

never_idle : (f : Conn → Conn) → ((x : Conn) → is_idle (Some (f x).place) ≡ false) → (o : Option Conn) → idle_in (option_map f o) ≡ false
never_idle f never None = refl
never_idle f never (Some x) = never x

pub placed_away : (c : ℕ) (f : Conn → Conn) → KeepsNumber f → ((x : Conn) → is_idle (Some (f x).place) ≡ false) → (idle : List ℕ) (conns : List Conn) → Placed idle conns → Placed (without c idle) (conn_changed c f conns)
placed_away c f keeps never idle conns h =
    by_number (λ d. times d (without c idle) ≡ cond (idle_in (conn_of d (conn_changed c f conns))) 1 0) c
    (times-without_same c idle
    ∙ sym (ap (λ (o : Option Conn). cond {A = ℕ} (idle_in o) 1 0) (found_changed c f keeps conns) ∙ ap (λ (b : Bool). cond {A = ℕ} b 1 0) (never_idle f never (conn_of c conns))))
    (λ d apart. times-without_other c d idle apart ∙ (h d ∙ sym (ap (λ (o : Option Conn). cond {A = ℕ} (idle_in o) 1 0) (found_beside c d f keeps conns apart))))

pub placed_back : (c : ℕ) (f : Conn → Conn) → KeepsNumber f → (x : Conn) (idle : List ℕ) (conns : List Conn) → conn_of c conns ≡ Some x → is_idle (Some x.place) ≡ false → is_idle (Some (f x).place) ≡ true → Placed idle conns → Placed (idle ++ c ∷ []) (conn_changed c f conns)
placed_back c f keeps x idle conns found busy now h =
    by_number (λ d. times d (idle ++ c ∷ []) ≡ cond (idle_in (conn_of d (conn_changed c f conns))) 1 0) c
    (let none : times c idle ≡ 0 = h c ∙ (ap (λ (o : Option Conn). cond {A = ℕ} (idle_in o) 1 0) found ∙ ap (λ (b : Bool). cond {A = ℕ} b 1 0) busy) in
    times-more_same c idle
    ∙ (ap suc none
    ∙ sym (ap (λ (o : Option Conn). cond {A = ℕ} (idle_in o) 1 0) (found_changed c f keeps conns ∙ ap (option_map f) found) ∙ ap (λ (b : Bool). cond {A = ℕ} b 1 0) now)))
    (λ d apart. times-more_other c d idle (turned c d apart) ∙ (h d ∙ sym (ap (λ (o : Option Conn). cond {A = ℕ} (idle_in o) 1 0) (found_beside c d f keeps conns apart))))

pub found_gone : (c : ℕ) (conns : List Conn) → conn_of c (gone c conns) ≡ None
found_gone c [] = refl
found_gone c (x ∷ xs) =
    elim (eqb x.number c) as (λ b. eqb x.number c ≡ b → conn_of c (cond (not b) (x ∷ gone c xs) (gone c xs)) ≡ None) [
      | true ↦ λ here. found_gone c xs
      | false ↦ λ behind. ap (λ (b : Bool). cond b (Some x) (conn_of c (gone c xs))) behind ∙ found_gone c xs
    ] refl

pub found_without : (c d : ℕ) (conns : List Conn) → eqb d c ≡ false → conn_of d (gone c conns) ≡ conn_of d conns
found_without c d [] apart = refl
found_without c d (x ∷ xs) apart =
    elim (eqb x.number c) as (λ b. eqb x.number c ≡ b → conn_of d (cond (not b) (x ∷ gone c xs) (gone c xs)) ≡ cond (eqb x.number d) (Some x) (conn_of d xs)) [
      | true ↦ λ here.
          let not : eqb x.number d ≡ false = ne_eqb x.number d (λ same. eqb-false d c apart (sym same ∙ eqb-true x.number c here)) in
          found_without c d xs apart ∙ sym (ap (λ (b : Bool). cond b (Some x) (conn_of d xs)) not)
      | false ↦ λ behind. ap (λ (o : Option Conn). cond (eqb x.number d) (Some x) o) (found_without c d xs apart)
    ] refl

pub placed_gone : (c : ℕ) (idle : List ℕ) (conns : List Conn) → idle_in (conn_of c conns) ≡ false → Placed idle conns → Placed idle (gone c conns)
placed_gone c idle conns busy h =
    by_number (λ d. times d idle ≡ cond (idle_in (conn_of d (gone c conns))) 1 0) c
    (h c ∙ (ap (λ (b : Bool). cond {A = ℕ} b 1 0) busy ∙ sym (ap (λ (o : Option Conn). cond {A = ℕ} (idle_in o) 1 0) (found_gone c conns))))
    (λ d apart. h d ∙ sym (ap (λ (o : Option Conn). cond {A = ℕ} (idle_in o) 1 0) (found_without c d conns apart)))

new_is_busy : (d n : ℕ) (wanted : Option Owner) (o : Option Conn) → idle_in (option_or o (conn_of d (opening n wanted ∷ []))) ≡ idle_in o
new_is_busy d n wanted (Some x) = refl
new_is_busy d n wanted None = elim (eqb n d) as (λ b. idle_in (cond b (Some (opening n wanted)) None) ≡ false) [ true ↦ refl | false ↦ refl ]

pub found_more : (d n : ℕ) (wanted : Option Owner) (conns : List Conn) → conn_of d (conns ++ opening n wanted ∷ []) ≡ option_or (conn_of d conns) (conn_of d (opening n wanted ∷ []))
found_more d n wanted conns = find-append (λ (conn : Conn). eqb conn.number d) conns (opening n wanted ∷ [])

pub placed_more : (n : ℕ) (wanted : Option Owner) (idle : List ℕ) (conns : List Conn) → Placed idle conns → Placed idle (conns ++ opening n wanted ∷ [])
placed_more n wanted idle conns h =
    λ d. h d ∙ sym (ap (λ (b : Bool). cond {A = ℕ} b 1 0) (ap idle_in (found_more d n wanted conns) ∙ new_is_busy d n wanted (conn_of d conns)))

pub found_map : (d : ℕ) (f : Conn → Conn) → KeepsNumber f → (conns : List Conn) → conn_of d (map f conns) ≡ option_map f (conn_of d conns)
found_map d f keeps [] = refl
found_map d f keeps (x ∷ xs) =
    elim (eqb x.number d) as (λ b. eqb x.number d ≡ b → conn_of d (f x ∷ map f xs) ≡ option_map f (cond b (Some x) (conn_of d xs))) [
      | true ↦ λ here. cond-true (eqb (f x).number d) (Some (f x)) (conn_of d (map f xs)) (ap (λ n. eqb n d) (keeps x) ∙ here)
      | false ↦ λ behind. ap (λ (b : Bool). cond b (Some (f x)) (conn_of d (map f xs))) (ap (λ n. eqb n d) (keeps x) ∙ behind) ∙ found_map d f keeps xs
    ] refl

stays_idle : (f : Conn → Conn) → ((x : Conn) → is_idle (Some (f x).place) ≡ is_idle (Some x.place)) → (o : Option Conn) → idle_in (option_map f o) ≡ idle_in o
stays_idle f same None = refl
stays_idle f same (Some x) = same x

pub placed_map : (f : Conn → Conn) → KeepsNumber f → ((x : Conn) → is_idle (Some (f x).place) ≡ is_idle (Some x.place)) → (idle : List ℕ) (conns : List Conn) → Placed idle conns → Placed idle (map f conns)
placed_map f keeps same idle conns h =
    λ d. h d ∙ sym (ap (λ (b : Bool). cond {A = ℕ} b 1 0) (ap idle_in (found_map d f keeps conns) ∙ stays_idle f same (conn_of d conns)))
