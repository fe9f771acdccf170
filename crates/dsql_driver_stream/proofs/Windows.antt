-- The items of a list from one place to another, as a reader's pending bytes stand in its buffer.
use Rattle.std.proofs.Common.{◌≡◌, ℕ, ◌+◌, ◌-◌, ◌≤◌, List, [], ◌++◌, length, take, drop, ap, sym, ◌∙◌, arith, length-take, length-drop, length-take-le}
use Rattle.std.proofs.lemmas.List.{drop_all, drop-drop, drop-take, take-take, take-append-drop}

-- No item stands between a place and itself.
pub window_nil : (start end : ℕ) (items : List ℕ) → start ≡ end → end ≤ length items → drop start (take end items) ≡ []
window_nil start end items at_end within =
    let stands : length (take end items) ≡ end = length-take-le end items within in drop_all start (take end items) (omega arith)

-- If no item stands between two places, they are the same.
pub window_ends : (start end : ℕ) (items : List ℕ) → start ≤ end → end ≤ length items → drop start (take end items) ≡ [] → start ≡ end
window_ends start end items ordered within none =
    omega (arith, ap length none, length-drop start (take end items), length-take-le end items within)

-- A window is its first items followed by the others.
window_parts : (count start end : ℕ) (items : List ℕ) → drop start (take end items) ≡ take count (drop start (take end items)) ++ drop (start + count) (take end items)
window_parts count start end items =
    sym (take-append-drop count (drop start (take end items))) ∙ ap (λ rest. take count (drop start (take end items)) ++ rest) (drop-drop count start (take end items))

-- A window is the slice from the one place to the other.
window_slice : (start end : ℕ) (items : List ℕ) → start ≤ end → take (end - start) (drop start items) ≡ drop start (take end items)
window_slice start end items ordered =
    let all : start + (end - start) ≡ end = omega (arith, ordered) in
    sym (drop-take start (end - start) items) ∙ ap (λ n. drop start (take n items)) all

-- A window is what is taken of its front followed by what is left of it.
pub window_run : (count most start end : ℕ) (items : List ℕ) → start ≤ end → count ≤ length (take most (take (end - start) (drop start items)))
    → drop start (take end items) ≡ take count (take most (take (end - start) (drop start items))) ++ drop (start + count) (take end items)
window_run count most start end items ordered within =
    let short : count ≤ most = omega (arith, within, length-take most (take (end - start) (drop start items))) in
    rw (take-take count most (take (end - start) (drop start items)) short, window_slice start end items ordered) (window_parts count start end items)
