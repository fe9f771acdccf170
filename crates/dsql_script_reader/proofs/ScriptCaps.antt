-- Proves which capabilities words name. The argument compares the words with the names of the capabilities
-- among them.
use Rattle.std.proofs.Common.{◌≡◌, ℕ, List, true, false, Some, None, refl}
use Rattle.std.specs.Cmp.Lexicographic.{pointwise}
use Rattle.std.specs.Str.{bytes_eq}
use Rattle.dsql_script_spelling.specs.CapsNames.{caps_names}
use Rattle.dsql_script_reader.specs.ScriptHead.{caps_among, caps_of}

pub caps_of_names : (words : List (List ℕ)) → pointwise bytes_eq (caps_names (caps_among words)) words ≡ true → caps_of words ≡ Some (caps_among words)
caps_of_names words same = rw same refl

pub caps_of_others : (words : List (List ℕ)) → pointwise bytes_eq (caps_names (caps_among words)) words ≡ false → caps_of words ≡ None
caps_of_others words other = rw other refl
