-- Proves that the JSON written for the parts of a line is read as the data of these parts. The argument counts
-- how deep they nest.
use Rattle.std.proofs.Common.{◌≡◌, ℕ, suc, ◌<◌, ◌≤◌, ◌^◌, ℤ, List, [], ◌∷◌, map, Bool, All, Some, FitsSigned, refl, arith}
use Rattle.std.specs.Int.{w64}
use Rattle.std.proofs.lemmas.List.Elements.{All-head, All-tail}
use Rattle.json.specs.Tree.{items_depth, ItemsHaveNumbers}
use Rattle.serde_json.specs.Data.{Data, boolean, string}
use Rattle.serde_json.specs.Read.{of_items}
use Rattle.serde_json.specs.View.{items_of}
use Rattle.serde_json.specs.Written.{items_outline}
use Rattle.dsql_script_spelling.specs.LineValues.{list_data, natural, integer}
use Rattle.dsql_script_read_back.proofs.ReadTexts.{IsRead, deeper, integer_is_read, natural_is_read, string_is_read, boolean_is_read}

-- Holds if the JSON written for these data, as the items of an array, is read as these data and nests at most
-- this deep.
pub record AreRead (most : ℕ) (ds : List Data) : Type 0 where
  pub numbers : ItemsHaveNumbers (items_outline (items_of ds))
  pub same : of_items (items_outline (items_of ds)) ≡ Some (items_of ds)
  pub nest : items_depth (items_outline (items_of ds)) ≤ most

pub no_more : {most : ℕ} → AreRead most []
no_more = record { numbers = tt; same = refl; nest = omega arith }

pub also : {most : ℕ} {d : Data} {ds : List Data} → IsRead most d → AreRead most ds → AreRead most (d ∷ ds)
also is are = record { numbers = (is.numbers, are.numbers); same = rw (is.same, are.same) refl; nest = omega (arith, is.nests, are.nest) }

-- An array nests one level deeper than its items.
pub list_is_read : {most : ℕ} {ds : List Data} → AreRead most ds → IsRead (suc most) (list_data ds)
list_is_read are = record { numbers = are.numbers; same = rw are.same refl; nests = omega (arith, are.nest) }

pub mapped_are_read : {A : Type 0} (most : ℕ) (data_of : A → Data) (Fits : A → Type 0) → ((x : A) → Fits x → IsRead most (data_of x)) → (xs : List A) → All Fits xs → AreRead most (map data_of xs)
mapped_are_read most data_of Fits is [] fit = no_more
mapped_are_read most data_of Fits is (x ∷ xs) fit = also (is x (All-head Fits x xs fit)) (mapped_are_read most data_of Fits is xs (All-tail Fits x xs fit))

-- Numbers, texts and truth values, which nest no deeper than is needed.

pub natural_spelled : (most n : ℕ) → n < 2 ^ 64 → IsRead most (natural n)
natural_spelled most n small = deeper 0 most (natural n) (omega arith) (natural_is_read n small)

pub number_spelled : (most n : ℕ) → n < 2 ^ 32 → IsRead most (natural n)
number_spelled most n small = natural_spelled most n (omega arith)

pub integer_spelled : (most : ℕ) (n : ℤ) → FitsSigned w64 n → IsRead most (integer n)
integer_spelled most n fits = deeper 0 most (integer n) (omega arith) (integer_is_read n fits)

pub string_spelled : (most : ℕ) (text : List ℕ) → IsRead most (string text)
string_spelled most text = deeper 0 most (string text) (omega arith) (string_is_read text)

pub boolean_spelled : (most : ℕ) (b : Bool) → IsRead most (boolean b)
boolean_spelled most b = deeper 0 most (boolean b) (omega arith) (boolean_is_read b)

pub texts_are_read : (most : ℕ) (texts : List (List ℕ)) → AreRead most (map string texts)
texts_are_read most [] = no_more
texts_are_read most (text ∷ texts) = also (string_spelled most text) (texts_are_read most texts)
