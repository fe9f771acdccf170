-- Proves that the names of capabilities are read as these capabilities. The argument looks at each capability
-- in turn.
use Rattle.std.proofs.Common.{◌≡◌, ℕ, List, [], ◌∷◌, Bool, true, false, ◌&&◌, codes, Some, refl, ap, ◌∙◌}
use Rattle.std.proofs.Math.Bool.{or-false, false-or, and-true, and-false}
use Rattle.std.specs.Cmp.Lexicographic.{pointwise}
use Rattle.std.specs.Str.{bytes_eq}
use Rattle.std.proofs.lemmas.List.Folds.{list_any-append}
use Rattle.std.proofs.lemmas.Slice.Eq.{bytes_eq-Decides}
use Rattle.dsql_history.specs.driver.declared.caps.Caps.{Caps}
use Rattle.dsql_script_spelling.specs.CapsNames.{name_if, caps_names}
use Rattle.dsql_script_reader.specs.ScriptHead.{has_word, caps_among, caps_of}
use Rattle.dsql_script_reader.proofs.ScriptCaps.{caps_of_names}

has_word-name_if : (wanted : Bool) (name word : List ℕ) → has_word (name_if wanted name) word ≡ (wanted && bytes_eq name word)
has_word-name_if true name word = or-false (bytes_eq name word)
has_word-name_if false name word = refl

fast_exec : (caps : Caps) → has_word (caps_names caps) (codes "fast_exec") ≡ caps.fast_exec
fast_exec caps = simp (list_any-append, has_word-name_if, and-true, and-false, or-false)

fast_query : (caps : Caps) → has_word (caps_names caps) (codes "fast_query") ≡ caps.fast_query
fast_query caps = simp (list_any-append, has_word-name_if, and-true, and-false, or-false, false-or)

begin_options : (caps : Caps) → has_word (caps_names caps) (codes "begin_options") ≡ caps.begin_options
begin_options caps = simp (list_any-append, has_word-name_if, and-true, and-false, or-false, false-or)

named : (caps : Caps) → has_word (caps_names caps) (codes "named") ≡ caps.named
named caps = simp (list_any-append, has_word-name_if, and-true, and-false, or-false, false-or)

pinger : (caps : Caps) → has_word (caps_names caps) (codes "pinger") ≡ caps.pinger
pinger caps = simp (list_any-append, has_word-name_if, and-true, and-false, or-false, false-or)

resetter : (caps : Caps) → has_word (caps_names caps) (codes "resetter") ≡ caps.resetter
resetter caps = simp (list_any-append, has_word-name_if, and-true, and-false, or-false, false-or)

validator : (caps : Caps) → has_word (caps_names caps) (codes "validator") ≡ caps.validator
validator caps = simp (list_any-append, has_word-name_if, and-true, and-false, false-or)

pub among_its_names : (caps : Caps) → caps_among (caps_names caps) ≡ caps
among_its_names caps = rw (fast_exec caps, fast_query caps, begin_options caps, named caps, pinger caps, resetter caps, validator caps) refl

same_words : (words : List (List ℕ)) → pointwise bytes_eq words words ≡ true
same_words [] = refl
same_words (word ∷ words) = rw ((bytes_eq-Decides word word).1 refl) (same_words words)

pub caps_are_read_back : (caps : Caps) → caps_of (caps_names caps) ≡ Some caps
caps_are_read_back caps =
    let words = caps_names caps in
    caps_of_names words (ap (λ c. pointwise bytes_eq (caps_names c) words) (among_its_names caps) ∙ same_words words)
    ∙ ap Some (among_its_names caps)
