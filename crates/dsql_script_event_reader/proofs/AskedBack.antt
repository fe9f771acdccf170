-- A client's call that a line shows is read as this call: the proof has a case for each form of call.
use Rattle.std.proofs.Common.{length, ◌≡◌, ℕ, ◌<◌, ◌^◌, List, [], ◌∷◌, true, None, Some, refl, ap, ◌∙◌, arith}
use Rattle.std.specs.Result.{result_ok}
use Rattle.std.proofs.lemmas.Bool.{and_parts}
use Rattle.dsql_history.specs.value.declared.arg.Named.{Named}
use Rattle.dsql_history.specs.scan.declared.dest.Dest.{Dest}
use Rattle.dsql_script_spelling.specs.LineArgs.{arg_data, argument_data, statement_data}
use Rattle.dsql_script_calls.specs.ScriptWords.{is_name}
use Rattle.dsql_script_report.specs.LineOps.{if_any, op_words, op_data, entered_data}
use Rattle.dsql_script_read_back.specs.ReadBack.{IsInRange, IsTarget}
use Rattle.dsql_script_read_back.proofs.ReadBack.{call_is_read_back as statement_is_read_back}
use Rattle.dsql_script_read_back.proofs.ReadCalls.{dests_are_read_back, words_of_scan, call_is_read}
use Rattle.dsql_script_read_back.proofs.ReadTexts.{IsRead, deeper, arg_is_read, named_is_read as named_arg_is_read}
use Rattle.dsql_script_event_lines.specs.WellFormed.{has_dests, is_named_target, is_named_op}
use Rattle.dsql_script_event_reader.specs.Fits.{ArgsFit, OpFits}
use Rattle.dsql_script_event_reader.proofs.Spelled.{AreRead, list_is_read, also, no_more, mapped_are_read, natural_spelled, number_spelled, string_spelled}
use Rattle.dsql_history.specs.declared.event.Target.{Target}
use Rattle.dsql_history.specs.declared.event.Target.TheVariants as targets
use Rattle.dsql_history.specs.declared.event.Op.{Op}
use Rattle.dsql_history.specs.declared.event.Op.TheVariants as op
use Rattle.dsql_script_read_back.proofs.ReadTargets.{target_is_read_back, words_of_exec, words_of_query, words_of_one}
use Rattle.dsql_script_event_reader.specs.Asked.{op_of, op_in}

some_dests : (dests : List Dest) → has_dests dests ≡ true → 0 < length dests
some_dests [] some = cc
some_dests (dest ∷ dests) some = omega arith

named_target : (target : Target) → is_named_target target ≡ true → IsTarget target
named_target targets.Db named = tt
named_target (targets.Label tx) named = named

pub op_is_read_back : (client n : ℕ) (o : Op) → is_named_op o ≡ true → OpFits o → op_in (entered_data client n o) ≡ Some o
op_is_read_back client n (op.Exec target text args) named fits =
    let is = named_target target named in
    ap (λ words. op_of words (entered_data client n (op.Exec target text args))) (words_of_exec target is)
    ∙ rw (target_is_read_back target is, statement_is_read_back text args fits) refl
op_is_read_back client n (op.Query label target text args) named fits =
    let parts = and_parts (is_name label) (is_named_target target) named in
    let is = named_target target parts.1 in
    ap (λ words. op_of words (entered_data client n (op.Query label target text args))) (words_of_query label target parts.0 is)
    ∙ rw (target_is_read_back target is, statement_is_read_back text args fits) refl
op_is_read_back client n (op.One target dests text args) named fits =
    let parts = and_parts (is_named_target target) (has_dests dests) named in
    let is = named_target target parts.0 in
    ap (λ words. op_of words (entered_data client n (op.One target dests text args))) (words_of_one target dests is)
    ∙ rw (target_is_read_back target is, dests_are_read_back dests (some_dests dests parts.1), statement_is_read_back text args fits) refl
op_is_read_back client n (op.Scan rows dests) named fits =
    let parts = and_parts (is_name rows) (has_dests dests) named in
    ap (λ words. op_of words (entered_data client n (op.Scan rows dests))) (words_of_scan rows dests parts.0)
    ∙ rw (dests_are_read_back dests (some_dests dests parts.1)) refl
op_is_read_back client n op.Ping named fits = refl
op_is_read_back client n op.DbClose named fits = refl
op_is_read_back client n op.Stats named fits = refl
op_is_read_back client n x named fits = ap result_ok (call_is_read x None named tt)

-- How deep the arrays of calls nest, at most.

named_is_read : (named : Named) → IsInRange named.arg → IsRead 3 (argument_data named)
named_is_read named fits = deeper 2 3 (argument_data named) (omega arith) (named_arg_is_read named.name (arg_data named.arg) (arg_is_read named.arg fits))

statement_is_read : (text : List ℕ) (args : List Named) → ArgsFit args → IsRead 4 (statement_data text args)
statement_is_read text args fit = list_is_read (also (string_spelled 3 text) (mapped_are_read 3 argument_data (λ named. IsInRange named.arg) named_is_read args fit))

-- The array of a call, if it has one, is read back.
array_is_read : (o : Op) → OpFits o → AreRead 4 (if_any (op_data o))
array_is_read (op.Exec target text args) fits = also (statement_is_read text args fits) no_more
array_is_read (op.Query label target text args) fits = also (statement_is_read text args fits) no_more
array_is_read (op.One target dests text args) fits = also (statement_is_read text args fits) no_more
array_is_read _ fits = no_more

pub entered_is_read : (client n : ℕ) (o : Op) → client < 2 ^ 8 → n < 2 ^ 32 → OpFits o → IsRead 5 (entered_data client n o)
entered_is_read client n o few small fits =
    list_is_read (also (string_spelled 4 _) (also (natural_spelled 4 client (omega arith)) (also (number_spelled 4 n small) (also (string_spelled 4 (op_words o)) (array_is_read o fits)))))
