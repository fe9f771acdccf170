use Rattle.std.specs.Prelude.{⊤}
use Rattle.std.specs.Str.{chars, is_utf8}
use Rattle.hex.specs.Hex.{decode_pairs}
use Rattle.serde_json.proofs.OnLiterals.{serde_json_on_literals}

-- What a proof unfolds to compute how a literal line is read.
unfoldable pub script_on_literals : ⊤
unfolding chars is_utf8 decode_pairs serde_json_on_literals
script_on_literals = tt
