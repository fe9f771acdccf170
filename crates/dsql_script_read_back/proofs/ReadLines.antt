-- A line of the words and the array that a report shows for a call is read as this call. Its words hold no bracket, so
-- the array begins at the first one.
use Rattle.std.proofs.Common.{◌≡◌, ℕ, List, [], ◌∷◌, ◌++◌, Bool, true, false, codes, Option, Some, None, Ok, option_map, append-nil, refl, ap, sym, ◌∙◌}
use Rattle.serde_json.specs.Written.{compact_text}
use Rattle.dsql_script_spelling.specs.Dests.{dests_word}
use Rattle.dsql_script_reader.specs.ScriptLines.{is_skipped, form_of, text_of, among_labels}
use Rattle.dsql_script_calls.specs.ScriptWords.{client_of, space, spaced_words}
use Rattle.dsql_script_read_back.specs.ReadBack.{Spells, line_words, held_text, MayBeAsked, line_text}
use Rattle.dsql_script_read_back.proofs.LineParts.{behind_it, is_told, with_array, without_array}
use Rattle.dsql_script_read_back.proofs.ReadTexts.{array_is_read}
use Rattle.dsql_script_read_back.proofs.WordBytes.{Lacks, bracket, lacks_both, dests_lack_bracket, label_lacks, client_word, client_lacks}
use Rattle.dsql_history.specs.declared.event.Op.{Op}
use Rattle.dsql_history.specs.declared.event.Op.TheVariants as op
use Rattle.dsql_script_report.specs.LineOps.{target_word, op_words, op_data}
use Rattle.dsql_script_reader.specs.declared.script.Head.{Head}
use Rattle.dsql_script_reader.specs.declared.script.ScriptLine.TheVariants.{Client}
use Rattle.dsql_script_reader.specs.ScriptLabels.{MadeLabel, label_fault}
use Rattle.dsql_script_read_back.proofs.ReadTargets.{target_lacks}
use Rattle.dsql_script_read_back.proofs.ReadBegins.{begin_lacks}
use Rattle.dsql_script_read_back.proofs.ReadCalls.{call_is_asked_back}

-- Returns the words of such a line. The next definition returns its array.
abbrev words_text : Bool → List ℕ → Op → List ℕ
words_text held word o = held_text held ++ (word ++ (codes " " ++ op_words o))

abbrev shown : Op → Option (List ℕ)
shown o = option_map compact_text (op_data o)

-- The words of a call hold no bracket.

op_lacks : (o : Op) → MayBeAsked o → Lacks bracket (op_words o)
op_lacks (op.Exec target text args) may = target_lacks bracket target refl refl may.0
op_lacks (op.Query label target text args) may = lacks_both bracket label (codes " " ++ target_word target) (label_lacks bracket label refl may.0) (target_lacks bracket target refl refl may.1)
op_lacks (op.One target dests text args) may = lacks_both bracket (target_word target) (codes " " ++ dests_word dests) (target_lacks bracket target refl refl may.0) (dests_lack_bracket dests)
op_lacks (op.Next rows) may = label_lacks bracket rows refl may
op_lacks (op.Scan rows dests) may = lacks_both bracket rows (codes " " ++ dests_word dests) (label_lacks bracket rows refl may.0) (dests_lack_bracket dests)
op_lacks (op.RowsClose rows) may = label_lacks bracket rows refl may
op_lacks (op.Err rows) may = label_lacks bracket rows refl may
op_lacks (op.Begin label level read_only) may = begin_lacks label level read_only may
op_lacks (op.Commit tx) may = label_lacks bracket tx refl may
op_lacks (op.Rollback tx) may = label_lacks bracket tx refl may
op_lacks _ may = refl

line_lacks : (held : Bool) (word : List ℕ) (o : Op) → Lacks bracket word → MayBeAsked o → Lacks bracket (words_text held word o)
line_lacks true word o none may = lacks_both bracket word (codes " " ++ op_words o) none (op_lacks o may)
line_lacks false word o none may = lacks_both bracket word (codes " " ++ op_words o) none (op_lacks o may)

-- The text splits at its spaces into the words of the line, since the word for the client holds no space.
words_are : (held : Bool) (word : List ℕ) (o : Op) → Lacks space word → spaced_words (words_text held word o) ≡ line_words held word (op_words o)
words_are true word o none = ap (λ words. codes "start" ∷ words) (behind_it word (op_words o) none)
words_are false word o none = behind_it word (op_words o) none

-- Such a line isn't skipped, since it begins with `c` or `start`.
told : (held : Bool) (word : List ℕ) (client : ℕ) (o : Op) (rest : List ℕ) → client_of word ≡ Some client → is_skipped (words_text held word o ++ rest) ≡ false
told true word client o rest is = is_told 115 (codes "tart " ++ (word ++ (codes " " ++ op_words o)) ++ rest) refl
told false word client o rest is =
    let named = client_word word client is in
    rw named.1 (is_told 99 ((named.0 ++ (codes " " ++ op_words o)) ++ rest) refl)

module _ (head : Head) (held : Bool) (word : List ℕ) (client : ℕ) (o : Op) (is : client_of word ≡ Some client) (may : MayBeAsked o) where
  none_in_words : Lacks bracket (words_text held word o)
  none_in_words = line_lacks held word o (client_lacks bracket word client refl refl is) may

  words_alone : spaced_words (words_text held word o) ≡ line_words held word (op_words o)
  words_alone = words_are held word o (client_lacks space word client refl refl is)

  -- A line without an array is read by its words alone. The next lemma says the same of a line with an array,
  -- which begins with a bracket.
  plain : text_of head (words_text held word o ++ []) ≡ form_of head (line_words held word (op_words o)) None
  plain = ap (text_of head) (append-nil (words_text held word o))
      ∙ without_array head (words_text held word o) (ap is_skipped (sym (append-nil (words_text held word o))) ∙ told held word client o [] is) none_in_words
      ∙ ap (λ words. form_of head words None) words_alone

  behind : (rest : List ℕ) → text_of head (words_text held word o ++ space ∷ bracket ∷ rest) ≡ form_of head (line_words held word (op_words o)) (Some (bracket ∷ rest))
  behind rest = with_array head (words_text held word o) rest (told held word client o (space ∷ bracket ∷ rest) is) none_in_words
      ∙ ap (λ words. form_of head words (Some (bracket ∷ rest))) words_alone

text_is_line : (head : Head) (held : Bool) (word : List ℕ) (client : ℕ) (o : Op) → client_of word ≡ Some client → MayBeAsked o → text_of head (line_text held word o) ≡ form_of head (line_words held word (op_words o)) (shown o)
text_is_line head held word client (op.Exec target text args) is may = behind head held word client (op.Exec target text args) is may _
text_is_line head held word client (op.Query label target text args) is may = behind head held word client (op.Query label target text args) is may _
text_is_line head held word client (op.One target dests text args) is may = behind head held word client (op.One target dests text args) is may _
text_is_line head held word client x is may = plain head held word client x is may

shown_is_read : (o : Op) → MayBeAsked o → Spells (shown o) (op_data o)
shown_is_read (op.Exec target text args) may = array_is_read text args may.1.0
shown_is_read (op.Query label target text args) may = array_is_read text args may.2.0
shown_is_read (op.One target dests text args) may = array_is_read text args may.2.0
shown_is_read _ may = tt

pub line_is_read_back : (head : Head) (labels : List MadeLabel) (held : Bool) (word : List ℕ) (client : ℕ) (o : Op) → client_of word ≡ Some client → MayBeAsked o → label_fault labels o ≡ None
    → among_labels labels (text_of head (line_text held word o)) ≡ Ok (Client client o held)
line_is_read_back head labels held word client o is may named =
    ap (among_labels labels) (text_is_line head held word client o is may)
    ∙ call_is_asked_back head labels held word client o (shown o) is may named (shown_is_read o may)
