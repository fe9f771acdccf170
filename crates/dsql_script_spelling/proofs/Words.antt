-- Joining words that the program holds as references gives the text of the words themselves.
use Rattle.std.proofs.Common.{◌≡◌, ℕ, List, [], ◌∷◌, ◌++◌, map, refl, sym, ap, ◌∙◌}
use Rattle.std.specs.List.{flat_map, join_by}

flat_map-texts : {X : Type 0} (f : X → List ℕ) (sep : List ℕ) (xs : List X) → flat_map (λ x. sep ++ f x) xs ≡ flat_map (λ t. sep ++ t) (map f xs)
flat_map-texts f sep [] = refl
flat_map-texts f sep (x ∷ xs) = ap (λ rest. (sep ++ f x) ++ rest) (flat_map-texts f sep xs)

join_by-texts : {X : Type 0} (f : X → List ℕ) (sep : List ℕ) (xs : List X) → join_by f sep xs ≡ join_by (λ t. t) sep (map f xs)
join_by-texts f sep [] = refl
join_by-texts f sep (x ∷ xs) = ap (λ rest. f x ++ rest) (flat_map-texts f sep xs)

-- Lists whose elements have the same texts are joined to the same text.
pub join_by-map : {X Y : Type 0} (f : X → List ℕ) (g : Y → List ℕ) (sep : List ℕ) (xs : List X) (ys : List Y) → map f xs ≡ map g ys → join_by f sep xs ≡ join_by g sep ys
join_by-map f g sep xs ys same = join_by-texts f sep xs ∙ ap (join_by (λ t. t) sep) same ∙ sym (join_by-texts g sep ys)
