-- Proves how objects with one member, with two, and with any other number are read. The argument counts their
-- members.
use Rattle.std.proofs.Common.{◌≡◌, ◌≢◌, ◌-◌, List, [], ◌∷◌, length, Some, None, option_map, arith, refl}
use Rattle.std.specs.Prelude.{slice_get, string_bytes, String}
use Rattle.std.specs.declared.alloc.Global.{Global}
use Rattle.serde_json.specs.Data.{member, no_members}
use Rattle.serde_json.specs.View.{view, members_view}
use Rattle.serde_json.specs.declared.value.Value.{Value}
use Rattle.dsql_script_forms.specs.ScriptArgs.{argument, arg_of_members, named_of_members}

abbrev pub Entry : Type 0
Entry = String Global × Value

pub one_member : (es : List Entry) (e : Entry) → length es ≡ 1 → slice_get es 0 ≡ Some e → members_view es ≡ member (string_bytes e.0) (view e.1) no_members
one_member [] e one first = absurd (omega arith)
one_member (x ∷ []) e one first = cc
one_member (x ∷ y ∷ es) e one first = absurd (omega arith)

pub two_members : (es : List Entry) (a b : Entry) → length es ≡ 2 → slice_get es 0 ≡ Some a → slice_get es (length es - 1) ≡ Some b
    → members_view es ≡ member (string_bytes a.0) (view a.1) (member (string_bytes b.0) (view b.1) no_members)
two_members [] a b two first last = absurd (omega arith)
two_members (x ∷ []) a b two first last = absurd (omega arith)
two_members (x ∷ y ∷ []) a b two first last = cc
two_members (x ∷ y ∷ z ∷ es) a b two first last = absurd (omega arith)

pub arg_of_members_other : (es : List Entry) → length es ≢ 1 → arg_of_members (members_view es) ≡ None
arg_of_members_other [] other = refl
arg_of_members_other (x ∷ []) other = absurd (other refl)
arg_of_members_other (x ∷ y ∷ es) other = refl

pub named_of_members_other : (es : List Entry) → length es ≢ 2 → named_of_members (members_view es) ≡ option_map (argument None) (arg_of_members (members_view es))
named_of_members_other [] other = refl
named_of_members_other (x ∷ []) other = refl
named_of_members_other (x ∷ y ∷ []) other = absurd (other refl)
named_of_members_other (x ∷ y ∷ z ∷ es) other = refl
