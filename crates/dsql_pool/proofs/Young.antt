-- The argument that no idle connection is past its time, under each change.
use Rattle.std.proofs.Common.{◌≡◌, ℕ, Bool, true, false, eqb, cond, List, [], ◌∷◌, ◌++◌, map, Option, Some, None, refl, sym, ap, ◌∙◌, subst, arith}
use Rattle.std.specs.Prelude.{is_none}
use Rattle.std.specs.List.{list_all}
use Rattle.std.specs.Option.{option_map, option_or}
use Rattle.std.proofs.lemmas.Bool.{eqb-true}
use Rattle.dsql_tenure_journal.specs.declared.entry.Owner.{Owner}
use Rattle.dsql_time.specs.declared.Limits.{Limits}
use Rattle.dsql_pool.specs.declared.conn.Conn.{Conn}
use Rattle.dsql_pool.specs.Places.{conn_of, is_idle}
use Rattle.dsql_pool.specs.Changes.{conn_changed, gone, opening}
use Rattle.dsql_pool.specs.Rest.{times}
use Rattle.dsql_pool.specs.Decisions.{cause_at}
use Rattle.dsql_pool.proofs.Found.{KeepsNumber, found_changed, found_beside}
use Rattle.dsql_pool.proofs.Members.{member_passes, all_members}
use Rattle.dsql_pool.proofs.Placed.{Placed, idle_in, found_gone, found_without, found_more, found_map}

abbrev pub IsYoung : Limits → ℕ → Option Conn → Type 0
IsYoung limits moment found = is_none (cause_at limits moment found) ≡ true

-- Holds if each idle connection is within its time.
abbrev pub Young : Limits → ℕ → List Conn → Type 0
Young limits moment conns = (d : ℕ) (x : Conn) → conn_of d conns ≡ Some x → is_idle (Some x.place) ≡ true → IsYoung limits moment (Some x)

counted_once : (b : Bool) (n : ℕ) → n ≡ cond b 1 0 → (n ≡ 0 → ⊥) → b ≡ true
counted_once true n e some = refl
counted_once false n e some = absurd (some e)

if_found : (limits : Limits) (moment : ℕ) (o : Option Conn) → ((x : Conn) → o ≡ Some x → is_idle (Some x.place) ≡ true → IsYoung limits moment (Some x)) → idle_in o ≡ true → IsYoung limits moment o
if_found limits moment None h idle = refl
if_found limits moment (Some x) h idle = h x refl idle

pub member_is_idle : (idle : List ℕ) (conns : List Conn) (d : ℕ) → Placed idle conns → (times d idle ≡ 0 → ⊥) → idle_in (conn_of d conns) ≡ true
member_is_idle idle conns d h some = counted_once (idle_in (conn_of d conns)) (times d idle) (h d) some

pub young_list : (limits : Limits) (moment : ℕ) (idle : List ℕ) (conns : List Conn) → Placed idle conns → Young limits moment conns → list_all (λ c. is_none (cause_at limits moment (conn_of c conns))) idle ≡ true
young_list limits moment idle conns placed young =
    all_members (λ c. is_none (cause_at limits moment (conn_of c conns))) idle
    (λ d some. if_found limits moment (conn_of d conns) (young d) (member_is_idle idle conns d placed some))

-- An idle connection stands among the idle ones.
pub idle_is_member : (idle : List ℕ) (conns : List Conn) (d : ℕ) (x : Conn) → Placed idle conns → conn_of d conns ≡ Some x → is_idle (Some x.place) ≡ true → times d idle ≡ 0 → ⊥
idle_is_member idle conns d x placed found is none =
    let one : times d idle ≡ 1 = placed d ∙ (ap (λ (o : Option Conn). cond {A = ℕ} (idle_in o) 1 0) found ∙ ap (λ (b : Bool). cond {A = ℕ} b 1 0) is) in
    omega (arith, one, none)

pub list_young : (limits : Limits) (moment : ℕ) (idle : List ℕ) (conns : List Conn) → Placed idle conns → list_all (λ c. is_none (cause_at limits moment (conn_of c conns))) idle ≡ true → Young limits moment conns
list_young limits moment idle conns placed all =
    λ d x found is.
    subst (IsYoung limits moment) found
    (member_passes (λ c. is_none (cause_at limits moment (conn_of c conns))) idle d all (idle_is_member idle conns d x placed found is))

-- If only connection c differs, and is within its time if it is idle, the idle ones are within theirs.
pub young_off : (limits : Limits) (moment c : ℕ) (conns then : List Conn) → ((d : ℕ) → eqb d c ≡ false → conn_of d then ≡ conn_of d conns) → ((x : Conn) → conn_of c then ≡ Some x → is_idle (Some x.place) ≡ true → IsYoung limits moment (Some x)) → Young limits moment conns → Young limits moment then
young_off limits moment c conns then beside here young =
    λ d x found is.
    elim (eqb d c) as (λ b. eqb d c ≡ b → IsYoung limits moment (Some x)) [
      | true ↦ λ same. here x (ap (λ n. conn_of n then) (sym (eqb-true d c same)) ∙ found) is
      | false ↦ λ apart. young d x (sym (beside d apart) ∙ found) is
    ] refl

pub mapped : (f : Conn → Conn) (o : Option Conn) (x : Conn) → option_map f o ≡ Some x → (y : Conn) × (o ≡ Some y) × (x ≡ f y)
mapped f None x e = cc
mapped f (Some y) x e = let same : x ≡ f y = cc in (y, refl, same)

-- The idle connections are within their time after connection c has changed and isn't idle.
pub young_away : (limits : Limits) (moment c : ℕ) (f : Conn → Conn) (conns : List Conn) → KeepsNumber f → ((x : Conn) → is_idle (Some (f x).place) ≡ false) → Young limits moment conns → Young limits moment (conn_changed c f conns)
young_away limits moment c f conns keeps never =
    young_off limits moment c conns (conn_changed c f conns) (λ d apart. found_beside c d f keeps conns apart)
    (λ x found is.
    let y = mapped f (conn_of c conns) x (sym (found_changed c f keeps conns) ∙ found) in
    let not : true ≡ false = sym is ∙ (ap (λ (z : Conn). is_idle (Some z.place)) y.2 ∙ never y.0) in
    cc)

pub young_back : (limits : Limits) (moment c : ℕ) (f : Conn → Conn) (conns : List Conn) → KeepsNumber f → ((y : Conn) → conn_of c conns ≡ Some y → IsYoung limits moment (Some (f y))) → Young limits moment conns → Young limits moment (conn_changed c f conns)
young_back limits moment c f conns keeps young =
    young_off limits moment c conns (conn_changed c f conns) (λ d apart. found_beside c d f keeps conns apart)
    (λ x found is.
    let y = mapped f (conn_of c conns) x (sym (found_changed c f keeps conns) ∙ found) in
    subst (λ (z : Conn). IsYoung limits moment (Some z)) (sym y.2) (young y.0 y.1))

pub young_gone : (limits : Limits) (moment c : ℕ) (conns : List Conn) → Young limits moment conns → Young limits moment (gone c conns)
young_gone limits moment c conns =
    young_off limits moment c conns (gone c conns) (λ d apart. found_without c d conns apart) (λ x found is. let none : None ≡ Some x = sym (found_gone c conns) ∙ found in cc)

new_is_young : (limits : Limits) (moment d n : ℕ) (wanted : Option Owner) (o : Option Conn) (x : Conn) → option_or o (conn_of d (opening n wanted ∷ [])) ≡ Some x → is_idle (Some x.place) ≡ true → o ≡ Some x
new_is_young limits moment d n wanted (Some y) x e is = e
new_is_young limits moment d n wanted None x e is =
    elim (eqb n d) as (λ b. cond b (Some (opening n wanted)) None ≡ Some x → None ≡ Some x) [
      | true ↦ λ same.
          let new : opening n wanted ≡ x = cc in
          let not : false ≡ true = ap (λ (z : Conn). is_idle (Some z.place)) new ∙ is in
          cc
      | false ↦ λ same. same
    ] e

pub young_more : (limits : Limits) (moment n : ℕ) (wanted : Option Owner) (conns : List Conn) → Young limits moment conns → Young limits moment (conns ++ opening n wanted ∷ [])
young_more limits moment n wanted conns young =
    λ d x found is. young d x (new_is_young limits moment d n wanted (conn_of d conns) x (sym (found_more d n wanted conns) ∙ found) is) is

pub young_map : (limits : Limits) (moment : ℕ) (f : Conn → Conn) (conns : List Conn) → KeepsNumber f → ((x : Conn) → is_idle (Some (f x).place) ≡ true → f x ≡ x) → Young limits moment conns → Young limits moment (map f conns)
young_map limits moment f conns keeps same young =
    λ d x found is.
    let y = mapped f (conn_of d conns) x (sym (found_map d f keeps conns) ∙ found) in
    let stays : f y.0 ≡ y.0 = same y.0 (ap (λ (z : Conn). is_idle (Some z.place)) (sym y.2) ∙ is) in
    let is_y : x ≡ y.0 = y.2 ∙ stays in
    young d x (y.1 ∙ ap Some (sym is_y)) is
