-- What was heard of a transaction's end decides what is sent next to end it.
use Rattle.std.proofs.Common.{◌≡◌, Bool, true, false, ◌||◌, cond, List, [], ◌∷◌, refl, sym, ap, ◌∙◌, Option, None, Some}
use Rattle.std.specs.List.{list_any}
use Rattle.std.specs.Option.{option_map}
use Rattle.dsql_history.specs.driver.declared.caps.Caps.{Caps}
use Rattle.dsql_history.specs.driver.declared.call.DriverCall.{DriverCall}
use Rattle.dsql_history.specs.driver.Kinds.{is_bad, is_ending, is_valid}
use Rattle.dsql_history.specs.journal.declared.entry.Entry.{Entry}
use Rattle.dsql_history.specs.journal.Readers.{went_bad}
use Rattle.dsql_history.specs.tx.declared.end.TxEnd.{TxEnd}
use Rattle.dsql_history.specs.tx.declared.end.TxEnd.TheVariants as ends
use Rattle.dsql_history.specs.works.Line.{Asked, test_of}
use Rattle.dsql_history.specs.declared.event.Event.{Event}
use Rattle.dsql_history.specs.Readers.Course.{caps}
use Rattle.dsql_history.specs.Rules.Ending.{ended_by_call, end_after}
use Rattle.dsql_engine_exchanged.specs.declared.bare.BareCall.{BareCall}
use Rattle.dsql_engine_exchanged.specs.declared.bare.BareCall.TheVariants as bare
use Rattle.dsql_engine_exchanged.specs.declared.ending.Ending.{Ending}
use Rattle.dsql_engine_exchanged.specs.Filled.{filled}
use Rattle.dsql_engine_exchanged.specs.Ending.{ending_in, bare_end, bare_ending}
use Rattle.dsql_engine_exchanged.proofs.Begun.{test_filled}

pub heard_ended : (heard : List Entry) → (ending_in heard).ended ≡ list_any (λ e. is_ending e.call) heard
heard_ended [] = refl
heard_ended (e ∷ earlier) = ap (λ b. is_ending e.call || b) (heard_ended earlier)

pub heard_tested : (heard : List Entry) → (ending_in heard).tested ≡ list_any (λ e. is_valid e.call) heard
heard_tested [] = refl
heard_tested (e ∷ earlier) = ap (λ b. is_valid e.call || b) (heard_tested earlier)

pub heard_bad : (heard : List Entry) → (ending_in heard).bad ≡ went_bad heard
heard_bad [] = refl
heard_bad (e ∷ earlier) = ap (λ b. is_bad e.answer || b) (heard_bad earlier)

end_filled : (asked : Asked) (end : TxEnd) → filled asked (bare_end end) ≡ ended_by_call end
end_filled asked ends.Commit = refl
end_filled asked _ = refl

-- Returns what follows after the rows, by what was heard.
rest : Caps → Bool → Bool → Bool → TxEnd → Option DriverCall
rest can ended tested bad end = cond ended (cond (bad || tested) None (test_of can)) (Some (ended_by_call end))

ending_filled : (can : Caps) (end : TxEnd) (asked : Asked) (it : Ending) → option_map (filled asked) (bare_ending can end it) ≡ rest can it.ended it.tested it.bad end
unfolding rest
ending_filled can end asked it = by it.ended (it.bad || it.tested)
  where
    by : (ended over : Bool)
        → option_map (filled asked) (cond ended (cond over None (cond can.validator (Some bare.Valid) None)) (Some (bare_end end))) ≡ cond ended (cond over None (test_of can)) (Some (ended_by_call end))
    by true true = refl
    by true false = test_filled can asked
    by false over = ap Some (end_filled asked end)

same_rest : (can other : Caps) (ended ended' tested tested' bad : Bool) (end : TxEnd) → other ≡ can → ended ≡ ended' → tested ≡ tested' → rest can ended tested bad end ≡ rest other ended' tested' bad end
same_rest can other ended ended' tested tested' bad end same is_ended is_tested =
    ap (λ c. rest c ended tested bad end) (sym same) ∙ (ap (λ b. rest other b tested bad end) is_ended ∙ ap (λ b. rest other ended' b bad end) is_tested)

-- The bare driver call, filled with what is asked, is the next driver call.
pub ending_so : (can : Caps) (end : TxEnd) (it : Ending) (sent : Option BareCall) → sent ≡ bare_ending can end it
    → (asked : Asked) (before : List Event) (heard : List Entry) → caps before ≡ can → (ending_in heard).ended ≡ it.ended → (ending_in heard).tested ≡ it.tested
    → option_map (filled asked) sent ≡ end_after before it.bad end heard
unfolding rest
ending_so can end it sent is asked before heard same is_ended is_tested =
    ap (option_map (filled asked)) is
    ∙ (ending_filled can end asked it ∙ same_rest can (caps before) _ _ _ _ it.bad end same (sym is_ended ∙ heard_ended heard) (sym is_tested ∙ heard_tested heard))
