-- Defines what part of a line a writer holds, as the tokens of JSON.
use Rattle.std.specs.Prelude.{◌≡◌, List, ◌++◌, Result, OnOk}
use Rattle.json.specs.Token.{Token}
use Rattle.json.specs.Tree.{json_tokens}
use Rattle.json.specs.Written.{Written}
use Rattle.serde_json.specs.Data.{Data}
use Rattle.serde_json.specs.Written.{outline}

-- Returns the tokens of a value without floats, in order.
abbrev pub tokens_of : Data → List Token
tokens_of d = json_tokens (outline d)

-- Holds if, on success, the writer has these tokens after those that it had. The bytes before its first token
-- stay in any case.
abbrev pub Adds : {E : Type 0} → Result (Unit {0}) E → Written → Written → List Token → Type 0
Adds r old new ts = OnOk r (new.tokens ≡ old.tokens ++ ts) × (new.before ≡ old.before)

-- Holds if, on success, the writer has the tokens of this value after those that it had.
abbrev pub Spells : {E : Type 0} → Result (Unit {0}) E → Written → Written → Data → Type 0
Spells r old new d = Adds r old new (tokens_of d)
