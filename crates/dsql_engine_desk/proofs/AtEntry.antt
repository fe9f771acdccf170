-- What the desk records of a call as it enters, if the call closes rows or ends a transaction.
use Rattle.std.proofs.Common.{◌≡◌, ◌==◌, ◌<◌, ◌≤◌, ℕ, Bool, true, false, cond, List, [], ◌∷◌, length, Option, None, Some, refl, ap, sym, subst, ◌∙◌}
use Rattle.std.specs.Option.{option_map}
use Rattle.std.specs.Prelude.{if◌then◌else◌, IfOk, IfSome, IfNone, Result, Ok, Err, string_bytes}
use Rattle.dsql_laws_calls.specs.rows.declared.rows.Rows.{Rows}
use Rattle.dsql_laws_calls.specs.rows.declared.end.RowsEnd.TheVariants as ends
use Rattle.dsql_laws_calls.specs.rows.OpenRows.{rows_of, ended_by}
use Rattle.dsql_laws_calls.specs.numbered.Numbered.{Numbered, changed}
use Rattle.dsql_laws_calls.specs.tx.declared.end.TxEnd.{TxEnd}
use Rattle.dsql_laws_calls.specs.tx.declared.end.TxEnd.TheVariants as tx_ends
use Rattle.dsql_laws_calls.specs.tx.declared.tx.Tx.{Tx}
use Rattle.dsql_engine_calls.specs.declared.no_room.NoRoom.{NoRoom}
use Rattle.dsql_engine_calls.specs.Tried.{most_counted}
use Rattle.dsql_laws_calls.specs.works.HandedOut.{Made}
use Rattle.dsql_laws_calls.specs.works.Limits.{most_within_a_step}
use Rattle.dsql_engine_effects.specs.Starts.{AreMade, closed_rows, Starts, ending_of}
use Rattle.dsql_laws_calls.specs.history.declared.event.Event.{Event}
use Rattle.dsql_laws_calls.specs.history.declared.event.Op.{Op}
use Rattle.dsql_laws_calls.specs.history.declared.event.Op.TheVariants as ops
use Rattle.dsql_laws_calls.specs.history.declared.event.Target.{Target}
use Rattle.dsql_laws_calls.specs.history.declared.event.Target.TheVariants as targets
use Rattle.dsql_laws_calls.specs.history.declared.reply.Reply.{Reply}
use Rattle.dsql_laws_calls.specs.history.declared.work.Work.TheVariants.{Close, End}
use Rattle.dsql_laws_calls.specs.history.Readers.Calls.{is_there, target_refused, told_at_entry, tx_refused}
use Rattle.dsql_laws_calls.specs.history.Readers.HandedOut.{handed_out, rows_by, rows_entered}
use Rattle.dsql_laws_calls.specs.history.Readers.Transactions.{transactions}
use Rattle.dsql_laws_calls.specs.history.Readers.Unfinished.{is_unfinished}
use Rattle.dsql_laws_calls.specs.history.Readers.Works.{rows_maker, tx_maker, works}
use Rattle.dsql_engine_calls.specs.declared.call.CallStart.{CallStart}
use Rattle.dsql_engine_calls.specs.declared.call.Ending.{Ending}
use Rattle.dsql_engine_effects.specs.Ended.{rows_with_end, txs_with_end}
use Rattle.dsql_engine_effects.specs.Once.{AreMadeOnce}
use Rattle.dsql_engine_effects.specs.Starting.{StartsOver, told_on}
use Rattle.dsql_engine_effects.proofs.AsEntered.{rows_end_as, txs_end_as}
use Rattle.dsql_engine_effects.proofs.AsHeard.{told_absent, told_there}
use Rattle.dsql_engine_desk.specs.declared.desk.Desk.{Desk}
use Rattle.dsql_engine_desk.specs.Desk.{past, Stands}
use Rattle.dsql_engine_desk.proofs.FewCalls.{few_works, made_once}
use Rattle.dsql_engine_desk.specs.Entering.{IsNamed, NoneNamed, StartsEnd, tx_named}

-- A change at a number that no rows have changes nothing.
unmade : (change : Rows → Rows) (n : ℕ) (rows : Made) → rows_of n rows ≡ None → changed change n rows ≡ rows
unmade change n [] none = refl
unmade change n (e ∷ later) none = by_number (n == e.0) none (unmade change n later)
  where
    by_number : (b : Bool) → cond b (Some e.1) (rows_of n later) ≡ None → (rows_of n later ≡ None → changed change n later ≡ later)
        → (if b then (e.0, change e.1) ∷ later else e ∷ changed change n later) ≡ e ∷ later
    by_number true none rest = absurd cc
    by_number false none rest = ap (λ l. e ∷ l) (rest none)

none_to_close : (H : List Event) (n : ℕ) (b : Bool) → cond b None (rows_by H n) ≡ None → handed_out H ≡ cond b (handed_out H) (changed (ended_by ends.Close) n (handed_out H))
none_to_close H n true none = refl
none_to_close H n false none = sym (unmade (ended_by ends.Close) n (handed_out H) none)

closes_as_entered : (H : List Event) (label : List ℕ) (closes : Option ℕ) → IfSome closes (λ k. IsNamed H label k) → IfNone closes (NoneNamed H label)
    → closed_rows closes (handed_out H) ≡ rows_entered H (ops.RowsClose label) (handed_out H)
closes_as_entered H label None some none = none_to_close H (rows_maker (works H) label) (is_unfinished H (rows_maker (works H) label)) none
closes_as_entered H label (Some k) some none =
    let replied : is_unfinished H (rows_maker (works H) label) ≡ false = ap (is_unfinished H) (sym some.number) ∙ some.replied in
    rw (replied, ← some.number) refl

closes_made : (H : List Event) (label : List ℕ) (closes : Option ℕ) → IfSome closes (λ k. IsNamed H label k) → AreMade closes (handed_out H)
closes_made H label None some = tt
closes_made H label (Some k) some = some.made

pub starts_closing : (H : List Event) (label : List ℕ) (maker : ℕ) (closes : Option ℕ) (decided : Option Reply) (it : CallStart) → StartsOver (Close maker) closes None decided it → maker ≡ rows_maker (works H) label
    → decided ≡ told_at_entry H (ops.RowsClose label) → IfSome closes (λ k. IsNamed H label k) → IfNone closes (NoneNamed H label) → Starts H (ops.RowsClose label) it
starts_closing H label maker closes decided it over is told some none =
    record {
      work = over.work_is ∙ ap Close is;
      text = over.text;
      params = over.params;
      decided = over.decided_so ∙ told;
      label = ap (option_map string_bytes) over.label;
      tx_label = ap (option_map string_bytes) over.tx_label;
      made = subst (λ (k : Option ℕ). AreMade k (handed_out H)) (sym over.closes_so) (closes_made H label closes some);
      rows =
          ap (λ (e : Option Ending). rows_with_end e (works H) (closed_rows it.closes (handed_out H))) over.ends_so
          ∙ (ap (λ (k : Option ℕ). closed_rows k (handed_out H)) over.closes_so ∙ closes_as_entered H label closes some none);
      txs = ap (λ (e : Option Ending). txs_with_end e (transactions H)) over.ends_so;
    }

-- The reply that a call on the transaction of a label gets at once.

pub told_named : (H : List Event) (label : List ℕ) (named : Option ℕ) → named ≡ tx_named H label → told_on label named (transactions H) ≡ tx_refused H label
told_named H label named is = ap (λ (k : Option ℕ). told_on label k (transactions H)) is ∙ by (is_there H (tx_maker (works H) label)) refl
  where
    by : (b : Bool) → is_there H (tx_maker (works H) label) ≡ b → told_on label (tx_named H label) (transactions H) ≡ tx_refused H label
    by true there =
        ap (λ (b : Bool). told_on label (cond b (Some (tx_maker (works H) label)) None) (transactions H)) there ∙ told_there H label (tx_maker (works H) label) refl there
    by false absent = ap (λ (b : Bool). told_on label (cond b (Some (tx_maker (works H) label)) None) (transactions H)) absent ∙ told_absent H label absent

pub starts_end : (H : List Event) (label : List ℕ) (end : TxEnd) (maker : ℕ) (ends : Option Ending) (decided : Option Reply) (it : CallStart) → StartsOver (End maker) None ends decided it → maker ≡ tx_maker (works H) label
    → ends ≡ cond (is_unfinished H maker) None (Some (record { tx = maker; by = end })) → decided ≡ tx_refused H label → StartsEnd H label end it
starts_end H label end maker ends decided it over is ending told =
    record {
      over =
          record {
            work_is = over.work_is ∙ ap End is;
            text = over.text;
            params = over.params;
            decided_so = over.decided_so ∙ told;
            label = over.label;
            tx_label = over.tx_label;
            closes_so = over.closes_so;
            ends_so = over.ends_so ∙ (ending ∙ ap (λ (k : ℕ). cond (is_unfinished H k) None (Some (record { tx = k; by = end }))) is);
          };
    }

-- A commit or a rollback.

starts_ending : (H : List Event) (label : List ℕ) (end : TxEnd) (it : CallStart) → length (works H) ≤ most_counted → AreMadeOnce (handed_out H) → StartsEnd H label end it
    → (rows_with_end it.ends (works H) (closed_rows it.closes (handed_out H)) ≡ rows_with_end (ending_of H label end) (works H) (handed_out H)) × (AreMade it.closes (handed_out H))
starts_ending H label end it few once start =
    let over = start.over in (
      ap (λ (e : Option Ending). rows_with_end e (works H) (closed_rows it.closes (handed_out H))) over.ends_so ∙ ap (λ (k : Option ℕ). rows_with_end (ending_of H label end) (works H) (closed_rows k (handed_out H))) over.closes_so,
      subst (λ (k : Option ℕ). AreMade k (handed_out H)) (sym over.closes_so) tt,
    )

pub starts_commit : (H : List Event) (label : List ℕ) (it : CallStart) → length (works H) ≤ most_counted → AreMadeOnce (handed_out H) → StartsEnd H label tx_ends.Commit it → Starts H (ops.Commit label) it
starts_commit H label it few once start =
    let over = start.over in
    let ending = starts_ending H label tx_ends.Commit it few once start in
    record {
      work = over.work_is;
      text = over.text;
      params = over.params;
      decided = over.decided_so;
      label = ap (option_map string_bytes) over.label;
      tx_label = ap (option_map string_bytes) over.tx_label;
      made = ending.1;
      rows = ending.0 ∙ rows_end_as H label tx_ends.Commit (handed_out H) few once;
      txs = ap (λ (e : Option Ending). txs_with_end e (transactions H)) over.ends_so ∙ txs_end_as H label tx_ends.Commit (transactions H);
    }

pub starts_rollback : (H : List Event) (label : List ℕ) (it : CallStart) → length (works H) ≤ most_counted → AreMadeOnce (handed_out H) → StartsEnd H label tx_ends.Rollback it → Starts H (ops.Rollback label) it
starts_rollback H label it few once start =
    let over = start.over in
    let ending = starts_ending H label tx_ends.Rollback it few once start in
    record {
      work = over.work_is;
      text = over.text;
      params = over.params;
      decided = over.decided_so;
      label = ap (option_map string_bytes) over.label;
      tx_label = ap (option_map string_bytes) over.tx_label;
      made = ending.1;
      rows = ending.0 ∙ rows_end_as H label tx_ends.Rollback (handed_out H) few once;
      txs = ap (λ (e : Option Ending). txs_with_end e (transactions H)) over.ends_so ∙ txs_end_as H label tx_ends.Rollback (transactions H);
    }

-- The reply that a call made on a transaction gets at once is the one by which its target refuses it.
pub told_target : (H : List Event) (target : Target) (label : List ℕ) (named : Option ℕ) (txs : Numbered Tx) (told : Result (Option Reply) NoRoom) → target ≡ targets.Label label → named ≡ tx_named H label → txs ≡ transactions H
    → IfOk told (λ reply. reply ≡ told_on label named txs) → IfOk told (λ reply. reply ≡ target_refused H target)
told_target H target label named txs (Ok reply) is is_named begun so = so ∙ (ap (told_on label named) begun ∙ (told_named H label named is_named ∙ sym (ap (target_refused H) is)))
told_target H target label named txs (Err none) is is_named begun so = tt

pub commit_so : (d : Desk) (op : Op) (label : List ℕ) (start : Result CallStart NoRoom) → Stands d → length (past d) < most_within_a_step → op ≡ ops.Commit label → IfOk start (λ it. StartsEnd (past d) label tx_ends.Commit it)
    → IfOk start (λ it. Starts (past d) op it)
commit_so d op label (Ok it) s few is so = subst (λ (o : Op). Starts (past d) o it) (sym is) (starts_commit (past d) label it (few_works (past d) few) (made_once d s) so)
commit_so d op label (Err none) s few is so = tt

pub rollback_so : (d : Desk) (op : Op) (label : List ℕ) (start : Result CallStart NoRoom) → Stands d → length (past d) < most_within_a_step → op ≡ ops.Rollback label → IfOk start (λ it. StartsEnd (past d) label tx_ends.Rollback it)
    → IfOk start (λ it. Starts (past d) op it)
rollback_so d op label (Ok it) s few is so = subst (λ (o : Op). Starts (past d) o it) (sym is) (starts_rollback (past d) label it (few_works (past d) few) (made_once d s) so)
rollback_so d op label (Err none) s few is so = tt
