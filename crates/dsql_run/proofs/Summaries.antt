-- What was written of a summary. The argument goes through the stops case by case.
use Rattle.std.proofs.Common.{◌≡◌, ◌⊎◌, ℕ, false, List, length, Option, Some, None, refl, ap, sym, subst, ◌∙◌, inl, inr}
use Rattle.std.specs.Prelude.{IfSome, Result, Ok, Err, reverse}
use Rattle.std.proofs.lemmas.List.{reverse-reverse}
use Rattle.dsql_run_outcome.specs.driver.Streams.{HasRisen}
use Rattle.dsql_run_outcome.specs.history.declared.event.Event.{Event}
use Rattle.dsql_run_outcome.specs.script_show.Report.{with_text}
use Rattle.dsql_run_outcome.specs.script_show.Summary.{line_of, summary_of}
use Rattle.dsql_run_outcome.specs.script_source.declared.stop.Stop.{Stop}
use Rattle.dsql_run_outcome.specs.script_source.declared.stop.Stop.TheVariants.{Read, Write, Memory, Refused, Full}
use Rattle.dsql_run_outcome.specs.Headline.{Seen, IsPlayed, NotBegun, RanSo}
use Rattle.dsql_run_outcome.specs.Runs.{Finishes, IsLinesEnd, is_write_fault}
use Rattle.dsql_run_outcome.specs.Summing.{Summarized, WritesPiece, summary, unreported}
use Rattle.dsql_run.specs.declared.playing.Kept.{Kept}

-- If the lines came to an end, the whole text was written.
pub whole_piece : (r : Result (Unit {0}) Stop) (text : List ℕ) (w now : Option (List ℕ)) → IsLinesEnd r → now ≡ with_text w text → WritesPiece r text w now
whole_piece (Err Write) text w now over is = absurd over
whole_piece (Err Memory) text w now over is = absurd over
whole_piece (Err Full) text w now over is = absurd over
whole_piece _ text w now over is = is

-- If no event was trimmed, the kept events are the whole history.
pub all_kept : (past kept : List Event) → kept ≡ reverse past → reverse kept ≡ past
all_kept past kept all = ap reverse all ∙ reverse-reverse past

-- A run whose report nobody keeps has no write fault.
pub no_write_fault : (stopped : Result (Unit {0}) Stop) (before after : Seen) → IsPlayed stopped (unreported before) (unreported after) → is_write_fault stopped ≡ false
no_write_fault (Err Write) before after (inl ran) = absurd (never (ran.write_fault refl))
  where
    never : HasRisen 0 0 → ⊥
    never risen = cc risen
no_write_fault (Err Write) before after (inr none) = absurd (cc none.memory)
no_write_fault _ before after played = refl

-- If a piece of the summary was written, its text counts the lines that were read.
so_many : (stopped told : Result (Unit {0}) Stop) (before after : Seen) (past : List Event) (lines : ℕ) → Finishes stopped told → (r : RanSo stopped (unreported before) (unreported after) past lines)
    → WritesPiece told (line_of (summary_of lines past)) before.written after.written → WritesPiece told (summary r.ran.lines r.ran.history) before.written after.written
so_many stopped told before after past lines finishes r writes = by told stopped finishes r.counted (no_write_fault stopped before after (inl r.ran)) writes
  where
    same : length r.ran.lines ≡ lines → line_of (summary_of lines past) ≡ summary r.ran.lines r.ran.history
    same counted = ap (λ n. line_of (summary_of n past)) (sym counted) ∙ ap (λ h. line_of (summary_of (length r.ran.lines) h)) (sym r.is)

    ends : (played : Result (Unit {0}) Stop) → Finishes played (Err Write) → is_write_fault played ≡ false → IsLinesEnd played
    ends (Err Write) f unfailed = absurd (cc unfailed)
    ends (Err Memory) (inl is) unfailed = absurd (cc is)
    ends (Err Memory) (inr (inl is)) unfailed = absurd (cc is)
    ends (Err Memory) (inr (inr write)) unfailed = absurd (cc write.1)
    ends (Err Full) (inl is) unfailed = absurd (cc is)
    ends (Err Full) (inr (inl is)) unfailed = absurd (cc is)
    ends (Err Full) (inr (inr write)) unfailed = absurd (cc write.1)
    ends _ f unfailed = tt

    over : (now played : Result (Unit {0}) Stop) → Finishes played now → IsLinesEnd now → IsLinesEnd played
    over now played (inl is) end = subst IsLinesEnd is end
    over now played (inr (inl is)) end = absurd {A = IsLinesEnd played} (subst IsLinesEnd is end)
    over now played (inr (inr write)) end = absurd {A = IsLinesEnd played} (subst IsLinesEnd write.0 end)

    by : (now played : Result (Unit {0}) Stop) → Finishes played now → (IsLinesEnd played → length r.ran.lines ≡ lines) → is_write_fault played ≡ false → WritesPiece now (line_of (summary_of lines past)) before.written after.written
        → WritesPiece now (summary r.ran.lines r.ran.history) before.written after.written
    by (Ok done) played f counted unfailed w = subst (λ text. WritesPiece (Ok done) text before.written after.written) (same (counted (over (Ok done) played f tt))) w
    by (Err Read) played f counted unfailed w = subst (λ text. WritesPiece (Err Read) text before.written after.written) (same (counted (over (Err Read) played f tt))) w
    by (Err Write) played f counted unfailed w = subst (λ text. WritesPiece (Err Write) text before.written after.written) (same (counted (ends played f unfailed))) w
    by (Err Memory) played f counted unfailed w = w
    by (Err (Refused number fault)) played f counted unfailed w =
        subst (λ text. WritesPiece (Err (Refused number fault)) text before.written after.written) (same (counted (over (Err (Refused number fault)) played f tt))) w
    by (Err Full) played f counted unfailed w = w

-- If nothing was written, the outside is as it was without a report.
seen_same : (before after : Seen) → unreported after ≡ unreported before → (after.written ≡ before.written) × (after.write_faults ≡ before.write_faults) → after ≡ before
seen_same before after same output =
    ap (λ (s : Seen). record s { written = after.written; write_faults = after.write_faults }) same
    ∙ (ap (λ w. record before { written = w; write_faults = after.write_faults }) output.0 ∙ ap (λ n. record before { write_faults = n }) output.1)

-- A run was summed up, or it hadn't begun.
pub summed : (kept : Option Kept) (stopped told : Result (Unit {0}) Stop) (before after : Seen) → Finishes stopped told → IfSome kept (λ k. RanSo stopped (unreported before) (unreported after) k.player.past k.script.reader.lines)
    → IfSome kept (λ k. WritesPiece told (line_of (summary_of k.script.reader.lines k.player.past)) before.written after.written) → (kept ≡ None → NotBegun stopped (unreported before) (unreported after)) → (kept ≡ None → told ≡ stopped)
    → (kept ≡ None → (after.written ≡ before.written) × (after.write_faults ≡ before.write_faults)) → Summarized stopped told before after ⊎ NotBegun told before after
summed (Some k) stopped told before after finishes ran writes none stays unwritten =
    inl (record { ran = ran.ran; written = so_many stopped told before after k.player.past k.script.reader.lines finishes ran writes })
summed None stopped told before after finishes ran writes none stays unwritten =
    let not_begun = none refl in
    inr (record { memory = stays refl ∙ not_begun.memory; same = seen_same before after not_begun.same (unwritten refl) })
