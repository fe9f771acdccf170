-- What is written of a piece after one more write.
use Rattle.std.proofs.Common.{◌≡◌, ℕ, ◌+◌, ◌-◌, ◌≤◌, List, ◌++◌, Option, Some, None, option_map, length, take, drop, ◌∙◌, append_assoc, length-take-le, refl}
use Rattle.std.proofs.lemmas.List.{take-append-drop, take_rest}
use Rattle.std.proofs.Math.Seq.{take-append-add}

-- A front of a list followed by a front of the rest is a longer front.
front_on : (m n : ℕ) (piece : List ℕ) → m ≤ length piece → take (m + n) piece ≡ take m piece ++ take n (drop m piece)
front_on m n piece within =
    rw (length-take-le m piece within, take-append-drop m piece) at (take-append-add (take m piece) (drop m piece) n)

pub written_on : (m n : ℕ) (piece : List ℕ) (old mid new : Option (List ℕ)) → m ≤ length piece
    → mid ≡ option_map (λ w. w ++ take m piece) old → new ≡ option_map (λ w. w ++ take n (take (length piece - m) (drop m piece))) mid
    → new ≡ option_map (λ w. w ++ take (m + n) piece) old
written_on m n piece None mid new within front next = let unknown : mid ≡ None = front in next ∙ rw unknown refl
written_on m n piece (Some w) mid new within front next =
    let told : mid ≡ Some (w ++ take m piece) = front in
    next ∙ rw (told, take_rest piece m, front_on m n piece within, append_assoc w (take m piece) (take n (drop m piece))) refl
