-- Rows that are shown value by value. The argument is by induction on the values.
use Rattle.std.proofs.Common.{◌+◌, ◌<◌, ℕ, List, [], ◌∷◌, ◌++◌, length, take, get_or}
use Rattle.std.proofs.lemmas.List.{take_more}
use Rattle.sqlite_driver.specs.Values.{AllMatch}

-- Lists that match still do if both get one more item and these match.
pub AllMatch-push : {A B : Type 0} (R : A → B → Type 0) (xs : List A) (ys : List B) (x : A) (y : B) → AllMatch R xs ys → R x y → AllMatch R (xs ++ x ∷ []) (ys ++ y ∷ [])
AllMatch-push R [] [] x y h k = (k, tt)
AllMatch-push R (a ∷ xs) (b ∷ ys) x y h k = (h.0, AllMatch-push R xs ys x y h.1 k)
AllMatch-push R [] (b ∷ ys) x y h k = absurd h
AllMatch-push R (a ∷ xs) [] x y h k = absurd h

-- Items that match the first items of a list, with one that matches the next item, match one item more.
pub AllMatch-more : {A B : Type 0} (R : A → B → Type 0) (xs : List A) (ys : List B) (at : ℕ) (d : A) (y : B) → at < length xs → AllMatch R (take at xs) ys → R (get_or xs at d) y → AllMatch R (take (at + 1) xs) (ys ++ y ∷ [])
AllMatch-more R xs ys at d y within h k =
    rw (take_more xs at d within) (AllMatch-push R (take at xs) ys (get_or xs at d) y h k)
