-- The words that a report shows for a begin are read as this begin: the proof has a case for each level and for
-- `ro`.
use Rattle.std.proofs.Common.{◌≡◌, ℕ, List, ◌∷◌, ◌++◌, Bool, true, false, codes, None, Ok, refl, ap, ◌∙◌}
use Rattle.dsql_history.specs.driver.declared.call.Level.{Level}
use Rattle.dsql_history.specs.driver.declared.call.Level.TheVariants.{Default}
use Rattle.dsql_script_calls.specs.ScriptWords.{space, spaced_words, is_name}
use Rattle.dsql_script_read_back.proofs.LineParts.{behind_it}
use Rattle.dsql_script_read_back.proofs.WordBytes.{Lacks, bracket, lacks_both, label_lacks}
use Rattle.dsql_history.specs.declared.event.Op.TheVariants.{Begin}
use Rattle.dsql_script_report.specs.LineOps.{level_words, read_only_words, begin_words}
use Rattle.dsql_script_calls.specs.ScriptCalls.{call_of}

-- Returns the text that follows the label and a space.
abbrev options_text : Level → Bool → List ℕ
options_text level read_only = codes "db" ++ (level_words level ++ read_only_words read_only)

words_of_begin : (label : List ℕ) (level : Level) (read_only : Bool) → is_name label ≡ true
    → spaced_words (begin_words label level read_only) ≡ codes "begin" ∷ label ∷ spaced_words (options_text level read_only)
words_of_begin label level read_only name =
    ap (λ (words : List (List ℕ)). codes "begin" ∷ words) (behind_it label (options_text level read_only) (label_lacks space label refl name))

options_are_read : (label : List ℕ) (level : Level) (read_only : Bool) → is_name label ≡ true
    → call_of (codes "begin" ∷ label ∷ spaced_words (options_text level read_only)) None ≡ Ok (Begin label level read_only)
options_are_read label Default true name = rw name refl
options_are_read label Default false name = rw name refl
options_are_read label _ true name = rw name refl
options_are_read label _ false name = rw name refl

pub begin_is_read_back : (label : List ℕ) (level : Level) (read_only : Bool) → is_name label ≡ true
    → call_of (spaced_words (begin_words label level read_only)) None ≡ Ok (Begin label level read_only)
begin_is_read_back label level read_only name =
    ap (λ words. call_of words None) (words_of_begin label level read_only name) ∙ options_are_read label level read_only name

options_lack : (level : Level) (read_only : Bool) → Lacks bracket (options_text level read_only)
options_lack Default true = refl
options_lack Default false = refl
options_lack _ true = refl
options_lack _ false = refl

pub begin_lacks : (label : List ℕ) (level : Level) (read_only : Bool) → is_name label ≡ true → Lacks bracket (begin_words label level read_only)
begin_lacks label level read_only name =
    lacks_both bracket label (codes " " ++ options_text level read_only) (label_lacks bracket label refl name) (options_lack level read_only)
