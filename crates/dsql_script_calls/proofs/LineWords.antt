-- Proves facts about the words of a line, which a program has by reference. The argument compares bytes.
use Rattle.std.proofs.Common.{◌≡◌, ◌≢◌, ℕ, List, [], ◌∷◌, Bool, false, ◌||◌, ◌&&◌, map, refl, ap, inl, inr, Bor}
use Rattle.std.specs.Cmp.Lexicographic.{pointwise}
use Rattle.std.specs.List.{list_any}
use Rattle.std.specs.Str.{bytes_eq}
use Rattle.std.proofs.lemmas.Bool.{cases_Bool}
use Rattle.std.proofs.lemmas.Slice.Eq.{bytes_eq-Decides}

pub other_word : (a b : List ℕ) → a ≢ b → bytes_eq a b ≡ false
other_word a b other = elim (cases_Bool (bytes_eq a b)) [ inl is ↦ absurd (other ((bytes_eq-Decides a b).0 is)) | inr is ↦ is ]

abbrev pub texts : List (Bor (List ℕ)) → List (List ℕ)
texts words = map (λ w. w.now) words

pub list_any-map : {X Y : Type 0} (p : Y → Bool) (f : X → Y) (xs : List X) → list_any p (map f xs) ≡ list_any (λ x. p (f x)) xs
list_any-map p f [] = refl
list_any-map p f (x ∷ xs) = ap (λ b. p (f x) || b) (list_any-map p f xs)

pub pointwise-map : {X Y : Type 0} (eq : Y → Y → Bool) (f : X → Y) (xs ys : List X) → pointwise eq (map f xs) (map f ys) ≡ pointwise (λ x y. eq (f x) (f y)) xs ys
pointwise-map eq f [] [] = refl
pointwise-map eq f [] (y ∷ ys) = refl
pointwise-map eq f (x ∷ xs) [] = refl
pointwise-map eq f (x ∷ xs) (y ∷ ys) = ap (λ b. eq (f x) (f y) && b) (pointwise-map eq f xs ys)
