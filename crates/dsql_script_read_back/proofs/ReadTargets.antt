-- A call's target is read back, and so are the words that a report shows for a call with a text.
use Rattle.std.proofs.Common.{◌≡◌, ℕ, List, [], ◌∷◌, ◌++◌, true, false, ◌&&◌, length, codes, refl, ap, ◌∙◌}
use Rattle.std.specs.Prelude.{not, nat_le}
use Rattle.std.specs.Char.{is_ascii_lowercase}
use Rattle.std.specs.List.{list_all}
use Rattle.std.proofs.lemmas.Bool.{and_parts, not-true}
use Rattle.dsql_history.specs.scan.declared.dest.Dest.{Dest}
use Rattle.dsql_script_spelling.specs.Dests.{dests_word}
use Rattle.dsql_script_calls.specs.ScriptWords.{space, spaced_words, is_name, is_name_byte, is_database, most_name_rest}
use Rattle.dsql_script_read_back.proofs.LineParts.{alone, behind_it}
use Rattle.dsql_script_read_back.proofs.WordBytes.{Lacks, label_lacks, dests_lack_space}
use Rattle.dsql_history.specs.declared.event.Target.{Target}
use Rattle.dsql_history.specs.declared.event.Target.TheVariants.{Db, Label}
use Rattle.dsql_script_report.specs.LineOps.{target_word}
use Rattle.dsql_script_calls.specs.ScriptCalls.{target_of}
use Rattle.dsql_script_read_back.specs.ReadBack.{IsTarget}

-- A name isn't the word for the database.
pub not_database : (tx : List ℕ) → is_name tx ≡ true → is_database tx ≡ false
not_database [] name = refl
not_database (first ∷ rest) name =
    let front = is_ascii_lowercase first && nat_le (length rest) most_name_rest && list_all is_name_byte rest in
    not-true (is_database (first ∷ rest)) (and_parts front (not (is_database (first ∷ rest))) name).1

pub target_is_read_back : (target : Target) → IsTarget target → target_of (target_word target) ≡ target
target_is_read_back Db is = refl
target_is_read_back (Label tx) is = rw (not_database tx is) refl

pub target_lacks : (c : ℕ) (target : Target) → Lacks c (codes "db") → is_name_byte c ≡ false → IsTarget target → Lacks c (target_word target)
target_lacks c Db database other is = database
target_lacks c (Label tx) database other is = label_lacks c tx other is

target_alone : (target : Target) → IsTarget target → spaced_words (target_word target) ≡ target_word target ∷ []
target_alone target is = alone (target_word target) (target_lacks space target refl refl is)

abbrev after_word : List ℕ → List (List ℕ) → List (List ℕ)
after_word word words = word ∷ words

pub words_of_exec : (target : Target) → IsTarget target → spaced_words (codes "exec " ++ target_word target) ≡ codes "exec" ∷ target_word target ∷ []
words_of_exec target is = ap (after_word (codes "exec")) (target_alone target is)

pub words_of_query : (label : List ℕ) (target : Target) → is_name label ≡ true → IsTarget target
    → spaced_words (codes "query " ++ (label ++ (codes " " ++ target_word target))) ≡ codes "query" ∷ label ∷ target_word target ∷ []
words_of_query label target name is =
    ap (after_word (codes "query")) (behind_it label (target_word target) (label_lacks space label refl name) ∙ ap (after_word label) (target_alone target is))

pub words_of_one : (target : Target) (dests : List Dest) → IsTarget target
    → spaced_words (codes "one " ++ (target_word target ++ (codes " " ++ dests_word dests))) ≡ codes "one" ∷ target_word target ∷ dests_word dests ∷ []
words_of_one target dests is =
    ap (after_word (codes "one"))
    (behind_it (target_word target) (dests_word dests) (target_lacks space target refl refl is) ∙ ap (after_word (target_word target)) (alone (dests_word dests) (dests_lack_space dests)))
