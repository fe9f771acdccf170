-- Proves that a test of sameness says what it tests. The argument takes the kinds of owners, causes and moves
-- one by one.
use Rattle.std.proofs.Common.{◌≡◌, ◌≢◌, ℕ, ◌==◌, Bool, true, false, ◌&&◌, ◌||◌, refl, ap, arith}
use Rattle.std.proofs.lemmas.Bool.Decides.{nat_tests}
use Rattle.dsql_history.specs.journal.declared.entry.Owner.{Owner}
use Rattle.dsql_history.specs.journal.declared.entry.Owner.TheVariants.{Call, Tx, Pin, House}
use Rattle.dsql_history.specs.journal.Kinds.{same_owner}
use Rattle.dsql_history.specs.pool.declared.moves.CloseCause.{CloseCause}
use Rattle.dsql_history.specs.pool.declared.moves.CloseCause.TheVariants.{Bad, Invalid, OverLimit, IdleFull, Lifetime, IdleTime, DbClosed, Discarded}
use Rattle.dsql_history.specs.pool.declared.moves.Move.{Move}
use Rattle.dsql_history.specs.pool.declared.moves.Move.TheVariants.{OpenStart, Lend, Back, CloseStart, Gone, Fell}
use Rattle.dsql_history.specs.Same.{same_cause, same_move}

pub both : (a b : Bool) → (a && b) ≡ true → (a ≡ true) × (b ≡ true)
both true b h = (refl, h)
both false b h = absurd cc

pub together : (a b : Bool) → a ≡ true → b ≡ true → a && b ≡ true
together true b h k = k
together false b h k = absurd cc

-- If one of two holds and it isn't the first, the second holds.
pub second : (a b : Bool) → a ≡ false → (a || b) ≡ true → b ≡ true
second true b f h = absurd cc
second false b f h = h

pub same_number : (n m : ℕ) → (n == m) ≡ true → n ≡ m
same_number n m h = grind (arith, nat_tests)

pub same_itself : (n : ℕ) → (n == n) ≡ true
same_itself n = grind (arith, nat_tests)

pub other_number : (n m : ℕ) → n ≢ m → (n == m) ≡ false
other_number n m h = grind (arith, nat_tests)

owner_is : (o p : Owner) → same_owner o p ≡ true → o ≡ p
owner_is (Call n) (Call m) h = ap Call (same_number n m h)
owner_is (Tx n) (Tx m) h = ap Tx (same_number n m h)
owner_is (Pin n) (Pin m) h = ap Pin (same_number n m h)
owner_is House House h = refl
owner_is _ _ h = absurd cc

cause_is : (a b : CloseCause) → same_cause a b ≡ true → a ≡ b
cause_is Bad Bad h = refl
cause_is Invalid Invalid h = refl
cause_is OverLimit OverLimit h = refl
cause_is IdleFull IdleFull h = refl
cause_is Lifetime Lifetime h = refl
cause_is IdleTime IdleTime h = refl
cause_is DbClosed DbClosed h = refl
cause_is Discarded Discarded h = refl
cause_is _ _ h = absurd cc

pub move_is : (m k : Move) → same_move m k ≡ true → m ≡ k
move_is (OpenStart c n) (OpenStart d m) h =
    let a = both (c == d) (n == m) h in
    let p : c ≡ d = same_number c d a.0 in
    let q : n ≡ m = same_number n m a.1 in
    rw (p, q) refl
move_is (Lend c t o n) (Lend d u p m) h =
    let a = both (c == d) ((t == u) && (same_owner o p && (n == m))) h in
    let b = both (t == u) (same_owner o p && (n == m)) a.1 in
    let f = both (same_owner o p) (n == m) b.1 in
    let g : c ≡ d = same_number c d a.0 in
    let i : t ≡ u = same_number t u b.0 in
    let j : o ≡ p = owner_is o p f.0 in
    let k : n ≡ m = same_number n m f.1 in
    rw (g, i, j, k) refl
move_is (Back c) (Back d) h = ap Back (same_number c d h)
move_is (CloseStart c a) (CloseStart d b) h =
    let f = both (c == d) (same_cause a b) h in
    let p : c ≡ d = same_number c d f.0 in
    let q : a ≡ b = cause_is a b f.1 in
    rw (p, q) refl
move_is (Gone c) (Gone d) h = ap Gone (same_number c d h)
move_is (Fell c n) (Fell d m) h =
    let a = both (c == d) (n == m) h in
    let p : c ≡ d = same_number c d a.0 in
    let q : n ≡ m = same_number n m a.1 in
    rw (p, q) refl
move_is _ _ h = absurd cc

owner_itself : (o : Owner) → same_owner o o ≡ true
owner_itself (Call n) = same_itself n
owner_itself (Tx n) = same_itself n
owner_itself (Pin n) = same_itself n
owner_itself House = refl

cause_itself : (a : CloseCause) → same_cause a a ≡ true
cause_itself Bad = refl
cause_itself _ = refl

pub move_itself : (m : Move) → same_move m m ≡ true
move_itself (OpenStart c n) = together (c == c) (n == n) (same_itself c) (same_itself n)
move_itself (Lend c t o n) =
    together (c == c) ((t == t) && (same_owner o o && (n == n))) (same_itself c)
    (together (t == t) (same_owner o o && (n == n)) (same_itself t) (together (same_owner o o) (n == n) (owner_itself o) (same_itself n)))
move_itself (Back c) = same_itself c
move_itself (CloseStart c why) = together (c == c) (same_cause why why) (same_itself c) (cause_itself why)
move_itself (Gone c) = same_itself c
move_itself (Fell c n) = together (c == c) (n == n) (same_itself c) (same_itself n)
