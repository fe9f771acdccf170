-- Lookups and insertions in a map whose keys are texts agree with lookups and insertions in the list of labels.
use Rattle.std.proofs.Common.{◌≡◌, ℕ, List, [], ◌∷◌, ◌++◌, false, cond, map, Option, Some, None, is_some, refl, sym, ap, ◌∙◌}
use Rattle.std.specs.Prelude.{String}
use Rattle.std.specs.Map.{lookup}
use Rattle.std.specs.Str.{bytes_eq}
use Rattle.std.specs.String.{string_bytes, string_eq}
use Rattle.std.proofs.lemmas.List.{map-append}
use Rattle.indexmap.specs.IndexMap.{IndexMap, insert_entry}
use Rattle.indexmap.proofs.CallerLemmas.{insert_entry-new}
use Rattle.dsql_script_reader.specs.declared.kind.Kind.{Kind}
use Rattle.dsql_script_reader.specs.ScriptLabels.{made_label, kind_of}

pub kind_of_entries : {Z : Type 0} (entries : List (String Z × Kind)) (label : List ℕ) → kind_of (map made_label entries) label ≡ lookup (λ key. bytes_eq label (string_bytes key)) entries
kind_of_entries [] label = refl
kind_of_entries (entry ∷ entries) label = ap (cond (bytes_eq label (string_bytes entry.0)) (Some entry.1)) (kind_of_entries entries label)

none_there : (kind : Option Kind) → is_some kind ≡ false → kind ≡ None
none_there None new = refl
none_there (Some kind) new = absurd (cc new)

pub labels_with : {Z S : Type 0} (labels : IndexMap (String Z) Kind S) (key : String Z) (kind : Kind) (label : List ℕ) → string_bytes key ≡ label → is_some (kind_of (map made_label labels.entries) label) ≡ false
    → map made_label (insert_entry string_eq labels.entries key kind) ≡ map made_label labels.entries ++ (label, kind) ∷ []
labels_with labels key kind label is new =
    let there = kind_of (map made_label labels.entries) in
    let none : lookup (string_eq key) labels.entries ≡ None = sym (kind_of_entries labels.entries (string_bytes key)) ∙ ap there is ∙ none_there (there label) new in
    ap (map made_label) (insert_entry-new string_eq labels key kind none)
    ∙ map-append made_label labels.entries ((key, kind) ∷ [])
    ∙ ap (λ l. map made_label labels.entries ++ (l, kind) ∷ []) is
