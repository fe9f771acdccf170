use Rattle.std.proofs.Common.{[], ◌∷◌, refl}
use Rattle.std.proofs.lemmas.Str.{IsUtf8-append}
use Rattle.json.proofs.Printed.Utf8.{IsUtf8-are_ascii}
use Rattle.serde_json.specs.Written.{compact_text}
use Rattle.dsql_script_report.specs.Lines.{json_of}
use Rattle.dsql_script_report.proofs.line.append_whole.Goals as goal

pub returns-clause-utf8 : goal.returns-clause-utf8
returns-clause-utf8 c =
    IsUtf8-append (compact_text (json_of c.args.event.now)) (10 ∷ []) c.in_ok-append_array.ensures.utf8 (IsUtf8-are_ascii (10 ∷ []) refl)
