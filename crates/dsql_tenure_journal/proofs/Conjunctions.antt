-- A conjunction of tests is true exactly if each of them is.
use Rattle.std.proofs.Common.{◌≡◌, Bool, true, false, ◌&&◌, refl}
use native.Mathlib.Omega.{arith}
use Rattle.dsql_tenure_journal.specs.Kinds.{◌⇒◌}

pub if_so : (a b : Bool) → a ⇒ b ≡ true → a ≡ true → b ≡ true
if_so true b h is = h
if_so false b h is = grind (arith)

pub so_if : (a b : Bool) → (a ≡ true → b ≡ true) → a ⇒ b ≡ true
so_if true b h = h refl
so_if false b h = refl

pub parts2 : (a b : Bool) → a && b ≡ true → (a ≡ true) × (b ≡ true)
parts2 true b h = (refl, h)
parts2 false b h = grind (arith)

pub join2 : (a b : Bool) → a ≡ true → b ≡ true → a && b ≡ true
join2 true b h k = k
join2 false b h k = h

pub parts3 : (a b c : Bool) → a && b && c ≡ true → (a ≡ true) × (b ≡ true) × (c ≡ true)
parts3 a b c all =
    let q : (a && b ≡ true) × (c ≡ true) = parts2 (a && b) c all in
    let p : (a ≡ true) × (b ≡ true) = parts2 a b q.0 in
    (p.0, p.1, q.1)

pub parts4 : (a b c d : Bool) → a && b && c && d ≡ true → (a ≡ true) × (b ≡ true) × (c ≡ true) × (d ≡ true)
parts4 a b c d all =
    let q : (a && b && c ≡ true) × (d ≡ true) = parts2 (a && b && c) d all in
    let p : (a ≡ true) × (b ≡ true) × (c ≡ true) = parts3 a b c q.0 in
    (p.0, p.1, p.2, q.1)

pub parts5 : (a b c d e : Bool) → a && b && c && d && e ≡ true → (a ≡ true) × (b ≡ true) × (c ≡ true) × (d ≡ true) × (e ≡ true)
parts5 a b c d e all =
    let q : (a && b && c && d ≡ true) × (e ≡ true) = parts2 (a && b && c && d) e all in
    let p : (a ≡ true) × (b ≡ true) × (c ≡ true) × (d ≡ true) = parts4 a b c d q.0 in
    (p.0, p.1, p.2, p.3, q.1)

pub parts6 : (a b c d e f : Bool) → a && b && c && d && e && f ≡ true → (a ≡ true) × (b ≡ true) × (c ≡ true) × (d ≡ true) × (e ≡ true) × (f ≡ true)
parts6 a b c d e f all =
    let q : (a && b && c && d && e ≡ true) × (f ≡ true) = parts2 (a && b && c && d && e) f all in
    let p : (a ≡ true) × (b ≡ true) × (c ≡ true) × (d ≡ true) × (e ≡ true) = parts5 a b c d e q.0 in
    (p.0, p.1, p.2, p.3, p.4, q.1)

pub parts7 : (a b c d e f g : Bool) → a && b && c && d && e && f && g ≡ true → (a ≡ true) × (b ≡ true) × (c ≡ true) × (d ≡ true) × (e ≡ true) × (f ≡ true) × (g ≡ true)
parts7 a b c d e f g all =
    let q : (a && b && c && d && e && f ≡ true) × (g ≡ true) = parts2 (a && b && c && d && e && f) g all in
    let p : (a ≡ true) × (b ≡ true) × (c ≡ true) × (d ≡ true) × (e ≡ true) × (f ≡ true) = parts6 a b c d e f q.0 in
    (p.0, p.1, p.2, p.3, p.4, p.5, q.1)

pub parts8 : (a b c d e f g h : Bool) → a && b && c && d && e && f && g && h ≡ true → (a ≡ true) × (b ≡ true) × (c ≡ true) × (d ≡ true) × (e ≡ true) × (f ≡ true) × (g ≡ true) × (h ≡ true)
parts8 a b c d e f g h all =
    let q : (a && b && c && d && e && f && g ≡ true) × (h ≡ true) = parts2 (a && b && c && d && e && f && g) h all in
    let p : (a ≡ true) × (b ≡ true) × (c ≡ true) × (d ≡ true) × (e ≡ true) × (f ≡ true) × (g ≡ true) = parts7 a b c d e f g q.0 in
    (p.0, p.1, p.2, p.3, p.4, p.5, p.6, q.1)

pub parts9 : (a b c d e f g h i : Bool) → a && b && c && d && e && f && g && h && i ≡ true → (a ≡ true) × (b ≡ true) × (c ≡ true) × (d ≡ true) × (e ≡ true) × (f ≡ true) × (g ≡ true) × (h ≡ true) × (i ≡ true)
parts9 a b c d e f g h i all =
    let q : (a && b && c && d && e && f && g && h ≡ true) × (i ≡ true) = parts2 (a && b && c && d && e && f && g && h) i all in
    let p : (a ≡ true) × (b ≡ true) × (c ≡ true) × (d ≡ true) × (e ≡ true) × (f ≡ true) × (g ≡ true) × (h ≡ true) = parts8 a b c d e f g h q.0 in
    (p.0, p.1, p.2, p.3, p.4, p.5, p.6, p.7, q.1)

pub parts10 : (a b c d e f g h i j : Bool) → a && b && c && d && e && f && g && h && i && j ≡ true → (a ≡ true) × (b ≡ true) × (c ≡ true) × (d ≡ true) × (e ≡ true) × (f ≡ true) × (g ≡ true) × (h ≡ true) × (i ≡ true) × (j ≡ true)
parts10 a b c d e f g h i j all =
    let q : (a && b && c && d && e && f && g && h && i ≡ true) × (j ≡ true) = parts2 (a && b && c && d && e && f && g && h && i) j all in
    let p : (a ≡ true) × (b ≡ true) × (c ≡ true) × (d ≡ true) × (e ≡ true) × (f ≡ true) × (g ≡ true) × (h ≡ true) × (i ≡ true) = parts9 a b c d e f g h i q.0 in
    (p.0, p.1, p.2, p.3, p.4, p.5, p.6, p.7, p.8, q.1)

pub join5 : (a b c d e : Bool) → a ≡ true → b ≡ true → c ≡ true → d ≡ true → e ≡ true → a && b && c && d && e ≡ true
join5 a b c d e ha hb hc hd he =
    join2 (a && b && c && d) e (join2 (a && b && c) d (join2 (a && b) c (join2 a b ha hb) hc) hd) he
