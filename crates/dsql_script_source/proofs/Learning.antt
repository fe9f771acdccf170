-- A line that is read makes a label that no line before it made. The argument is that the reader refuses any other.
use Rattle.std.proofs.Common.{◌≡◌, ℕ, ◌+◌, Bool, true, false, ◌||◌, cond, List, [], ◌∷◌, ◌++◌, Option, Some, None, is_some, inl, inr, refl, sym, ap, subst, ◌∙◌, arith}
use Rattle.std.specs.Prelude.{Ok, Err, bytes_eq, nat_le, if◌then◌else◌}
use Rattle.std.specs.Option.{option_or}
use Rattle.std.proofs.lemmas.Bool.{cases_Bool}
use Rattle.std.proofs.lemmas.List.{append-nil}
use Rattle.std.proofs.lemmas.Slice.Eq.{bytes_eq-Decides}
use Rattle.dsql_history.specs.declared.event.Op.{Op}
use Rattle.dsql_history.specs.declared.event.Op.TheVariants.{Query, Begin}
use Rattle.dsql_follows.specs.Labels.{times_by}
use Rattle.dsql_script_forms.specs.declared.fault.LineFault.{LineFault}
use Rattle.dsql_script_forms.specs.declared.fault.LineFault.TheVariants.{LabelTaken, TooMany}
use Rattle.dsql_script_forms.specs.declared.fault.What.TheVariants.{Lines}
use Rattle.dsql_script_reader.specs.declared.kind.Kind.{Kind}
use Rattle.dsql_script_reader.specs.declared.kind.Kind.TheVariants.{Rows, Transaction}
use Rattle.dsql_script_reader.specs.declared.script.ScriptLine.{ScriptLine}
use Rattle.dsql_script_reader.specs.declared.script.ScriptLine.TheVariants.{Client}
use Rattle.dsql_script_reader.specs.ScriptHead.{Progress, after, labels_made}
use Rattle.dsql_script_reader.specs.ScriptLabels.{MadeLabel, kind_of, label_fault, line_fault, target_fault}
use Rattle.dsql_script_reader.specs.ScriptLines.{Reading, among_labels, line_of, most_lines, read_of, unless_fault}
use Rattle.dsql_script_source.specs.Naming.{LearnsLabel, known, times_next}

-- Labels that are known.

kind_pushed : (labels : List MadeLabel) (own label : List ℕ) (kind : Kind) → is_some (kind_of (labels ++ (own, kind) ∷ []) label) ≡ (is_some (kind_of labels label) || bytes_eq label own)
kind_pushed [] own label kind = elim (cases_Bool (bytes_eq label own)) [ inl same ↦ rw same refl | inr other ↦ rw other refl ]
kind_pushed (e ∷ es) own label kind = elim (cases_Bool (bytes_eq label e.0)) [ inl same ↦ rw same refl | inr other ↦ rw other (kind_pushed es own label kind) ]

-- Returns how often a label is made that is known or not.
times_if : Bool → ℕ
times_if b = cond b 1 0

counted : (a : Bool) → times_if (a || false) ≡ 0 + times_if a
unfolding times_if
counted true = refl
counted false = refl

learned : (labels : List MadeLabel) (own label : List ℕ) (kind : Kind) → is_some (kind_of labels own) ≡ false
    → cond (is_some (kind_of (labels ++ (own, kind) ∷ []) label)) 1 0 ≡ cond (bytes_eq own label) 1 0 + cond (is_some (kind_of labels label)) 1 0
unfolding times_if
learned labels own label kind new = elim (cases_Bool (bytes_eq own label)) [
  | inl same ↦
      let it : own ≡ label = (bytes_eq-Decides own label).0 same in
      let back : bytes_eq label own ≡ true = (bytes_eq-Decides label own).1 (sym it) in
      let none : is_some (kind_of labels label) ≡ false = ap (λ l. is_some (kind_of labels l)) (sym it) ∙ new in
      rw (kind_pushed labels own label kind, none, back, same) refl
  | inr other ↦ elim (cases_Bool (bytes_eq label own)) [
    | inl back ↦
        let same : bytes_eq own label ≡ true = (bytes_eq-Decides own label).1 (sym ((bytes_eq-Decides label own).0 back)) in
        let clash : true ≡ false = sym same ∙ other in
        absurd (cc clash)
    | inr apart ↦ rw (kind_pushed labels own label kind, apart, other) (counted (is_some (kind_of labels label)))
  ]
]

-- A call without a fault.

second_none : (a b : Option LineFault) → option_or a b ≡ None → b ≡ None
second_none (Some fault) b h = absurd cc
second_none None b h = h

not_made : (b : Bool) → (if b then Some LabelTaken else None) ≡ None → b ≡ false
not_made true h = absurd cc
not_made false h = refl

call_learns : (labels : List MadeLabel) (op : Op) → label_fault labels op ≡ None → (label : List ℕ)
    → cond (is_some (kind_of (labels ++ labels_made op) label)) 1 0 ≡ times_by label op + cond (is_some (kind_of labels label)) 1 0
call_learns labels (Query own target text args) none label =
    learned labels own label Rows
    (not_made (is_some (kind_of labels own)) (second_none (target_fault labels target) (if is_some (kind_of labels own) then Some LabelTaken else None) none))
call_learns labels (Begin own level read_only) none label = learned labels own label Transaction (not_made (is_some (kind_of labels own)) none)
call_learns labels op none label =
    let same : is_some (kind_of (labels ++ []) label) ≡ is_some (kind_of labels label) = ap (λ ls. is_some (kind_of ls label)) (append-nil labels) in
    rw same (omega arith)

line_learns : (before : Progress) (s : ScriptLine) → line_fault before.labels s ≡ None → (label : List ℕ) → known label (after before s) ≡ times_next label (Some s) + known label before
line_learns before (Client client op true) none label = call_learns before.labels op none label
line_learns before (Client client op false) none label = call_learns before.labels op none label
line_learns before s none label = omega arith

-- A line that was read has no fault.

no_fault : (labels : List MadeLabel) (reading : Reading) (s : ScriptLine) → among_labels labels reading ≡ Ok s → line_fault labels s ≡ None
no_fault labels (Err fault) s is = absurd cc
no_fault labels (Ok line) s is = by (line_fault labels line) refl is
  where
    by : (fault : Option LineFault) → line_fault labels line ≡ fault → unless_fault line fault ≡ Ok s → line_fault labels s ≡ None
    by (Some fault) at h = absurd cc
    by None at h = let same : line ≡ s = cc in subst (λ l. line_fault labels l ≡ None) same at

pub learns : (before : Progress) (line : List ℕ) (s : ScriptLine) → read_of before line ≡ Ok s → LearnsLabel (Some s) before (after before s)
learns before line s is label = line_learns before s (by (nat_le most_lines before.lines) is) label
  where
    by : (b : Bool) → (if b then Err (TooMany Lines) else among_labels before.labels (line_of before.race before.head line)) ≡ Ok s → line_fault before.labels s ≡ None
    by true h = absurd cc
    by false h = no_fault before.labels (line_of before.race before.head line) s h

-- A line that is read after lines that make no label makes its label as if it were the first.
pub learned_then : (read : Option ScriptLine) (first before now : Progress) → before.labels ≡ first.labels → LearnsLabel read before now → LearnsLabel read first now
unfolding times_if
learned_then read first before now same learns label =
    let still : known label before ≡ known label first = ap (λ labels. times_if (is_some (kind_of labels label))) same in
    let more = learns label in
    omega (arith, still, more)
