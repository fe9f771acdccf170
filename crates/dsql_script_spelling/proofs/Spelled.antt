-- The tokens of an array are its brackets and, between them, the tokens of its values in order.
use Rattle.std.proofs.Common.{◌≡◌, ℕ, List, [], ◌∷◌, ◌++◌, map, refl, ap, sym, subst, append_assoc, ◌∙◌}
use Rattle.std.specs.Prelude.{flat_map}
use Rattle.std.specs.Str.{IsUtf8}
use Rattle.std.proofs.lemmas.Grind.{common_steps}
use Rattle.json.specs.Token.{Token, end_array}
use Rattle.json.specs.Print.{print}
use Rattle.json.specs.Tree.{items_tokens}
use Rattle.serde_json.specs.Data.{Data}
use Rattle.serde_json.specs.View.{items_of}
use Rattle.serde_json.specs.Written.{items_outline, compact_text}
use Rattle.serde_json.proofs.Texts.{print-outline}
use Rattle.dsql_script_spelling.specs.Spelling.{tokens_of}

-- Returns the tokens of an array's values, one value after another.
abbrev pub each_tokens : {A : Type 0} → (A → Data) → List A → List Token
each_tokens data_of xs = flat_map (λ x. tokens_of (data_of x)) xs

pub items-each : {A : Type 0} (data_of : A → Data) (xs : List A) → items_tokens (items_outline (items_of (map data_of xs))) ≡ each_tokens data_of xs ++ end_array ∷ []
items-each data_of [] = refl
items-each data_of (x ∷ xs) = ap (λ s. tokens_of (data_of x) ++ s) (items-each data_of xs) ∙ sym (append_assoc (tokens_of (data_of x)) (each_tokens data_of xs) (end_array ∷ []))

pub ruleset spelled = (items-each, append_assoc, common_steps)

-- After a value was written, a writer over a buffer returns the buffer's text followed by the value's text.
pub written-text : (d : Data) (old before text : List ℕ) (first tokens : List Token)
    → first ≡ [] → tokens ≡ first ++ tokens_of d → before ≡ old → text ≡ before ++ print tokens → text ≡ old ++ compact_text d
written-text d old before text first tokens none added kept whole =
    whole ∙ ap (λ b. b ++ print tokens) kept ∙ ap (λ ts. old ++ print ts) (added ∙ ap (λ ts. ts ++ tokens_of d) none) ∙ ap (λ s. old ++ s) (print-outline d)

pub written-utf8 : (d : Data) (first tokens : List Token) → first ≡ [] → tokens ≡ first ++ tokens_of d → IsUtf8 (print tokens) → IsUtf8 (compact_text d)
written-utf8 d first tokens none added utf8 = subst IsUtf8 (ap print (added ∙ ap (λ ts. ts ++ tokens_of d) none) ∙ print-outline d) utf8
