-- Proves that values, parameters, cells and texts are read back as their lines show them. The argument has a
-- case for each kind.
use Rattle.std.proofs.Common.{◌≡◌, ℕ, List, [], ◌∷◌, map, All, Option, Some, None, option_map, refl, ap, ◌∙◌, arith}
use Rattle.std.specs.Prelude.{option_and_then, codes}
use Rattle.std.proofs.lemmas.List.Elements.{All-head, All-tail}
use Rattle.serde_json.specs.Data.{Data, string}
use Rattle.serde_json.specs.Find.{get, as_str}
use Rattle.serde_json.specs.View.{items_of}
use Rattle.dsql_history.specs.value.declared.arg.Arg.TheVariants as arg
use Rattle.dsql_history.specs.value.declared.value.Value.{Value}
use Rattle.dsql_history.specs.value.declared.value.Value.TheVariants as value
use Rattle.dsql_history.specs.value.declared.value.Param.{Param}
use Rattle.dsql_history.specs.scan.declared.cell.Cell.{Cell}
use Rattle.dsql_history.specs.scan.declared.cell.Cell.TheVariants as cell
use Rattle.dsql_script_spelling.specs.LineValues.{value_data, named_data, param_data, cell_data}
use Rattle.dsql_script_read_back.proofs.ReadBack.{argument_is_read_back}
use Rattle.dsql_script_read_back.proofs.ReadTexts.{IsRead, deeper, arg_is_read}
use Rattle.dsql_script_event_lines.specs.Parts.{each_of}
use Rattle.dsql_script_event_reader.specs.Values.{value_as, value_of, cell_as, cell_of, parameter, param_by, param_of}
use Rattle.dsql_script_event_reader.specs.Fits.{ValueFits, ParamFits, CellFits}

pub each_is_read_back : {A : Type 0} (read : Data → Option A) (data_of : A → Data) (Fits : A → Type 0) → ((x : A) → Fits x → read (data_of x) ≡ Some x) → (xs : List A) → All Fits xs → each_of read (items_of (map data_of xs)) ≡ Some xs
each_is_read_back read data_of Fits back [] fit = refl
each_is_read_back read data_of Fits back (x ∷ xs) fit =
    rw (back x (All-head Fits x xs fit), each_is_read_back read data_of Fits back xs (All-tail Fits x xs fit)) refl

pub texts_are_read_back : (texts : List (List ℕ)) → each_of as_str (items_of (map string texts)) ≡ Some texts
texts_are_read_back [] = refl
texts_are_read_back (text ∷ texts) = rw (texts_are_read_back texts) refl

pub value_is_read_back : (v : Value) → ValueFits v → value_of (value_data v) ≡ Some v
value_is_read_back (value.Int n) fits = ap (option_and_then value_as) (argument_is_read_back (arg.I64 n) fits)
value_is_read_back (value.Bytes bytes) fits = ap (option_and_then value_as) (argument_is_read_back (arg.Bytes bytes) fits)
value_is_read_back (value.Time n) fits = ap (option_and_then value_as) (argument_is_read_back (arg.Time n) fits)
value_is_read_back _ fits = refl

pub value_is_read : (v : Value) → ValueFits v → IsRead 1 (value_data v)
value_is_read value.Nil fits = arg_is_read arg.Nil tt
value_is_read (value.Int n) fits = arg_is_read (arg.I64 n) fits
value_is_read (value.Bool b) fits = arg_is_read (arg.Bool b) tt
value_is_read (value.Bytes bytes) fits = arg_is_read (arg.Bytes bytes) fits
value_is_read (value.Text text) fits = arg_is_read (arg.Text text) tt
value_is_read (value.Time n) fits = arg_is_read (arg.Time n) fits

pub cell_is_read_back : (c : Cell) → CellFits c → cell_of (cell_data c) ≡ Some c
cell_is_read_back (cell.Bytes bytes) fits = ap (option_and_then cell_as) (argument_is_read_back (arg.Bytes bytes) fits)
cell_is_read_back (cell.Int n) fits = ap (option_and_then cell_as) (argument_is_read_back (arg.I64 n) fits)
cell_is_read_back (cell.Uint n) fits = ap (option_and_then cell_as) (argument_is_read_back (arg.U64 n) fits)
cell_is_read_back (cell.Time n) fits = ap (option_and_then cell_as) (argument_is_read_back (arg.Time n) fits)
cell_is_read_back _ fits = refl

pub cell_is_read : (c : Cell) → CellFits c → IsRead 1 (cell_data c)
cell_is_read cell.Null fits = arg_is_read arg.Nil tt
cell_is_read (cell.Text text) fits = arg_is_read (arg.Text text) tt
cell_is_read (cell.Bytes bytes) fits = arg_is_read (arg.Bytes bytes) fits
cell_is_read (cell.Bool b) fits = arg_is_read (arg.Bool b) tt
cell_is_read (cell.Int n) fits = arg_is_read (arg.I64 n) fits
cell_is_read (cell.Uint n) fits = arg_is_read (arg.U64 n) fits
cell_is_read (cell.Time n) fits = arg_is_read (arg.Time n) fits

-- The data of a value have no member `name`.
nameless : (v : Value) → get (codes "name") (value_data v) ≡ None
nameless value.Nil = refl
nameless _ = refl

with_name : (name : Option (List ℕ)) (v : Value) → ValueFits v → param_of (named_data name (value_data v)) ≡ Some (parameter name v)
with_name None v fits = ap (λ o. param_by o (value_data v)) (nameless v) ∙ ap (option_map (parameter None)) (value_is_read_back v fits)
with_name (Some name) v fits = ap (option_map (parameter (Some name))) (value_is_read_back v fits)

pub param_is_read_back : (p : Param) → ParamFits p → param_of (param_data p) ≡ Some p
param_is_read_back p fits = with_name p.name p.value fits

named_is_read : (name : Option (List ℕ)) (d : Data) → IsRead 1 d → IsRead 2 (named_data name d)
named_is_read None d is = deeper 1 2 d (omega arith) is
named_is_read (Some name) d is = record { numbers = (tt, (is.numbers, tt)); same = rw is.same refl; nests = omega (arith, is.nests) }

pub param_is_read : (p : Param) → ParamFits p → IsRead 2 (param_data p)
param_is_read p fits = named_is_read p.name (value_data p.value) (value_is_read p.value fits)
