-- The words of a call in a report are read as this call: the proof has a case for each kind of call.
use Rattle.std.proofs.Common.{◌≡◌, ℕ, ◌<◌, List, [], ◌∷◌, ◌++◌, Bool, true, ◌==◌, map, length, codes, Some, append-nil, refl, ap, ◌∙◌, arith, false, Option, None, Ok, subst}
use Rattle.std.specs.List.{slice_split}
use Rattle.std.proofs.lemmas.List.Splits.{slice_split_none, slice_split_at}
use Rattle.dsql_history.specs.scan.declared.dest.Dest.{Dest}
use Rattle.dsql_history.specs.scan.declared.dest.Dest.TheVariants.{Text}
use Rattle.dsql_script_spelling.specs.Dests.{dest_word, dests_word, dest_of, dests_of_words, dests_of, comma}
use Rattle.dsql_script_calls.specs.ScriptWords.{spaced_words, space, is_name, client_of}
use Rattle.dsql_script_read_back.proofs.LineParts.{alone, behind_it}
use Rattle.dsql_script_read_back.proofs.WordBytes.{none_of, dest_lacks_comma, dests_lack_space, label_lacks}
use Rattle.std.specs.Str.{bytes_eq}
use Rattle.std.proofs.lemmas.Bool.{le-ltb}
use Rattle.serde_json.specs.Read.{read}
use Rattle.dsql_history.specs.value.declared.arg.Named.{Named}
use Rattle.dsql_script_spelling.specs.LineArgs.{statement_data}
use Rattle.dsql_script_forms.specs.ScriptArgs.{most_args}
use Rattle.dsql_script_calls.proofs.LineWords.{other_word}
use Rattle.dsql_script_read_back.specs.ReadBack.{MayBeGiven, MayBeFilled, IsLabel, Spells, line_words, IsTarget, MayBeAsked}
use Rattle.dsql_script_read_back.proofs.ReadBack.{call_is_read_back}
use Rattle.dsql_history.specs.declared.event.Target.{Target}
use Rattle.dsql_history.specs.declared.event.Target.TheVariants.{Db, Label}
use Rattle.dsql_history.specs.declared.event.Op.{Op}
use Rattle.dsql_history.specs.declared.event.Op.TheVariants as op
use Rattle.dsql_script_report.specs.LineOps.{target_word, op_words, op_data}
use Rattle.dsql_script_calls.specs.ScriptCalls.{call_of}
use Rattle.dsql_script_reader.specs.declared.script.Head.{Head}
use Rattle.dsql_script_reader.specs.declared.script.ScriptLine.TheVariants.{Client}
use Rattle.dsql_script_reader.specs.ScriptLabels.{MadeLabel, label_fault}
use Rattle.dsql_script_reader.specs.ScriptLines.{Reading, client_line, form_of, unless_fault, among_labels}
use Rattle.dsql_script_read_back.proofs.ReadTargets.{not_database, words_of_exec, words_of_query, words_of_one}
use Rattle.dsql_script_read_back.proofs.ReadBegins.{begin_is_read_back}

abbrev is_comma : ℕ → Bool
is_comma byte = byte == comma

dest_is_read_back : (dest : Dest) → dest_of (dest_word dest) ≡ Some dest
dest_is_read_back Text = refl
dest_is_read_back _ = refl

words_of_dests : (dest : Dest) (dests : List Dest) → slice_split is_comma (dests_word (dest ∷ dests)) ≡ map dest_word (dest ∷ dests)
words_of_dests dest [] = ap (slice_split is_comma) (append-nil (dest_word dest)) ∙ slice_split_none is_comma (dest_word dest) (none_of is_comma (dest_word dest) (dest_lacks_comma dest))
words_of_dests dest (next ∷ dests) =
    slice_split_at is_comma (dest_word dest) comma (dests_word (next ∷ dests)) (none_of is_comma (dest_word dest) (dest_lacks_comma dest)) refl
    ∙ ap (λ words. dest_word dest ∷ words) (words_of_dests next dests)

each_is_read_back : (dests : List Dest) → dests_of_words (map dest_word dests) ≡ Some dests
each_is_read_back [] = refl
each_is_read_back (dest ∷ dests) = rw (dest_is_read_back dest, each_is_read_back dests) refl

pub dests_are_read_back : (dests : List Dest) → 0 < length dests → dests_of (dests_word dests) ≡ Some dests
dests_are_read_back [] some = absurd (omega arith)
dests_are_read_back (dest ∷ dests) some = ap dests_of_words (words_of_dests dest dests) ∙ each_is_read_back (dest ∷ dests)

abbrev after_word : List ℕ → List (List ℕ) → List (List ℕ)
after_word word words = word ∷ words

pub words_of_scan : (rows : List ℕ) (dests : List Dest) → is_name rows ≡ true → spaced_words (codes "scan " ++ (rows ++ (codes " " ++ dests_word dests))) ≡ codes "scan" ∷ rows ∷ dests_word dests ∷ []
words_of_scan rows dests name =
    ap (after_word (codes "scan")) (behind_it rows (dests_word dests) (label_lacks space rows refl name) ∙ ap (after_word rows) (alone (dests_word dests) (dests_lack_space dests)))

pub words_of_rows : (rows : List ℕ) → is_name rows ≡ true → spaced_words rows ≡ rows ∷ []
words_of_rows rows name = alone rows (label_lacks space rows refl name)

-- A call with a text, whose array is read as its own.
module _ (text : List ℕ) (args : List Named) (array : List ℕ) (may : MayBeGiven args) (seen : read array ≡ Some (statement_data text args)) where
  exec_is_read : (target : Target) → IsTarget target → call_of (codes "exec" ∷ target_word target ∷ []) (Some array) ≡ Ok (op.Exec target text args)
  exec_is_read Db is = rw (seen, call_is_read_back text args may.0, le-ltb most_args (length args) may.1) refl
  exec_is_read (Label tx) is = rw (not_database tx is, is, seen, call_is_read_back text args may.0, le-ltb most_args (length args) may.1) refl

  query_is_read : (label : List ℕ) (target : Target) → IsLabel label → IsTarget target → call_of (codes "query" ∷ label ∷ target_word target ∷ []) (Some array) ≡ Ok (op.Query label target text args)
  query_is_read label Db name is = rw (name, seen, call_is_read_back text args may.0, le-ltb most_args (length args) may.1) refl
  query_is_read label (Label tx) name is = rw (name, not_database tx is, is, seen, call_is_read_back text args may.0, le-ltb most_args (length args) may.1) refl

  one_is_read : (target : Target) (dests : List Dest) → IsTarget target → MayBeFilled dests → call_of (codes "one" ∷ target_word target ∷ dests_word dests ∷ []) (Some array) ≡ Ok (op.One target dests text args)
  one_is_read Db dests is fill = rw (dests_are_read_back dests fill.0, seen, call_is_read_back text args may.0, le-ltb most_args (length args) may.1, le-ltb most_args (length dests) fill.1) refl
  one_is_read (Label tx) dests is fill =
      rw (dests_are_read_back dests fill.0, not_database tx is, is, seen, call_is_read_back text args may.0, le-ltb most_args (length args) may.1, le-ltb most_args (length dests) fill.1) refl

pub call_is_read : (o : Op) (array : Option (List ℕ)) → MayBeAsked o → Spells array (op_data o) → call_of (spaced_words (op_words o)) array ≡ Ok o
call_is_read (op.Exec target text args) (Some array) may seen =
    ap (λ words. call_of words (Some array)) (words_of_exec target may.0) ∙ exec_is_read text args array may.1 seen target may.0
call_is_read (op.Query label target text args) (Some array) may seen =
    ap (λ words. call_of words (Some array)) (words_of_query label target may.0 may.1) ∙ query_is_read text args array may.2 seen label target may.0 may.1
call_is_read (op.One target dests text args) (Some array) may seen =
    ap (λ words. call_of words (Some array)) (words_of_one target dests may.0) ∙ one_is_read text args array may.2 seen target dests may.0 may.1
call_is_read (op.Next rows) None may seen = ap (λ words. call_of (codes "next" ∷ words) None) (words_of_rows rows may) ∙ rw may refl
call_is_read (op.Scan rows dests) None may seen =
    ap (λ words. call_of words None) (words_of_scan rows dests may.0)
    ∙ rw (may.0, dests_are_read_back dests may.1.0, le-ltb most_args (length dests) may.1.1) refl
call_is_read (op.RowsClose rows) None may seen = ap (λ words. call_of (codes "rowsclose" ∷ words) None) (words_of_rows rows may) ∙ rw may refl
call_is_read (op.Err rows) None may seen = ap (λ words. call_of (codes "err" ∷ words) None) (words_of_rows rows may) ∙ rw may refl
call_is_read (op.Begin label level read_only) None may seen = begin_is_read_back label level read_only may
call_is_read (op.Commit tx) None may seen = ap (λ words. call_of (codes "commit" ∷ words) None) (words_of_rows tx may) ∙ rw may refl
call_is_read (op.Rollback tx) None may seen = ap (λ words. call_of (codes "rollback" ∷ words) None) (words_of_rows tx may) ∙ rw may refl
call_is_read op.Ping None may seen = refl
call_is_read op.DbClose None may seen = refl
call_is_read op.Stats None may seen = refl
call_is_read _ _ may seen = absurd seen

-- A word for a client isn't the first word of another form.
other : (word name : List ℕ) (client : ℕ) → client_of word ≡ Some client → client_of name ≡ None → bytes_eq word name ≡ false
other word name client is none =
    other_word word name (λ e. let clash : client_of name ≡ Some client = subst (λ (w : List ℕ). client_of w ≡ Some client) e is in absurd cc)

clients_line : (head : Head) (held : Bool) (word words : List ℕ) (client : ℕ) (array : Option (List ℕ)) → client_of word ≡ Some client → form_of head (line_words held word words) array ≡ client_line held word (spaced_words words) array
clients_line head true word words client array is = refl
clients_line head false word words client array is = rw (
  other word (codes "version") client is refl,
  other word (codes "caps") client is refl,
  other word (codes "maxopen") client is refl,
  other word (codes "maxidle") client is refl,
  other word (codes "maxlife") client is refl,
  other word (codes "maxidletime") client is refl,
  other word (codes "tick") client is refl,
  other word (codes "fault") client is refl,
  other word (codes "start") client is refl,
  other word (codes "step") client is refl,
) refl

-- A call that is read is accepted if its labels have no fault.
taken : (labels : List MadeLabel) (client : ℕ) (o : Op) (held : Bool) (reading : Reading) → label_fault labels o ≡ None → reading ≡ Ok (Client client o held) → among_labels labels reading ≡ Ok (Client client o held)
taken labels client o held reading none is = ap (among_labels labels) is ∙ ap (unless_fault (Client client o held)) none

pub call_is_asked_back : (head : Head) (labels : List MadeLabel) (held : Bool) (word : List ℕ) (client : ℕ) (o : Op) (array : Option (List ℕ)) → client_of word ≡ Some client → MayBeAsked o → label_fault labels o ≡ None → Spells array (op_data o)
    → among_labels labels (form_of head (line_words held word (op_words o)) array) ≡ Ok (Client client o held)
call_is_asked_back head labels held word client o array is may named seen =
    let asked : client_line held word (spaced_words (op_words o)) array ≡ Ok (Client client o held) = rw (is, call_is_read o array may seen) refl in
    taken labels client o held (form_of head (line_words held word (op_words o)) array) named (clients_line head held word (op_words o) client array is ∙ asked)
