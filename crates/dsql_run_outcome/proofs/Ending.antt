-- What the history of a run follows if the run was ended, and where it was cut otherwise. The argument joins
-- what stopped the lines, what stopped the end, and the last stop.
use Rattle.std.proofs.Common.{◌≡◌, ◌⊎◌, ℕ, ◌≤◌, Bool, true, false, List, ◌++◌, Option, length, refl, ap, sym, subst, ◌∙◌, inl, inr}
use Rattle.std.specs.Prelude.{reverse, Result, Ok, Err}
use Rattle.dsql_hall.specs.driver.declared.caps.Caps.{Caps}
use Rattle.dsql_hall.specs.driver.Wires.{FleetTold}
use Rattle.dsql_hall.specs.history.declared.event.Event.{Event}
use Rattle.dsql_hall.specs.history.Readers.Journals.{journal}
use Rattle.dsql_hall.specs.follows.Moments.{Moment}
use Rattle.dsql_hall.specs.follows.Follows.{after, told}
use Rattle.dsql_hall.specs.player_wires.Extends.{Extends}
use Rattle.dsql_hall.specs.player_wires.Made.{Made}
use Rattle.dsql_hall.specs.player_wires.Stopped.{GivesAllBack, GotAllBack, NoSurplus, RecordsJournal, wants_of, with_answer}
use Rattle.dsql_hall.specs.player_wires.Told.{FleetTellsOn, retired_from, with_told}
use Rattle.dsql_hall.specs.player_wires.WiresFit.{is_wired, slot}
use Rattle.dsql_hall.proofs.player_wires.GivenBack.{got_all_back, none_to_give}
use Rattle.dsql_hall.specs.player.Planned.{plans_made}
use Rattle.dsql_hall.specs.player.Carried.{CarriesEnd, StopsInEnd}
use Rattle.dsql_hall.specs.player.Playing.{Playing, IsAt}
use Rattle.dsql_script_report.specs.Lines.{text_of}
use Rattle.dsql_script_show.specs.Report.{oldest, Shows, StopsBetween}
use Rattle.dsql_script_source.specs.Plays.{PlaysBy}
use Rattle.dsql_script_source.specs.Script.{Said}
use Rattle.dsql_script_source.specs.declared.stop.Stop.{Stop}
use Rattle.dsql_script_source.specs.declared.stop.Stop.TheVariants.{Read, Write, Memory, Full}
use Rattle.dsql_run_outcome.specs.Followed.{FollowsAll}
use Rattle.dsql_run_outcome.specs.Lent.{Lent, StopsAsking}
use Rattle.dsql_run_outcome.specs.Runs.{CutAtEnd, CutAtLine, Finishes, IsLinesEnd, Wrote, is_write_fault, ran_out, wanted_memory}
use Rattle.dsql_run_outcome.specs.Playing.{LinesPlayed, ScriptPlayed}
use Rattle.dsql_run_outcome.proofs.Following.{all_planning, end_follows, end_planning}
use Rattle.dsql_run_outcome.proofs.Saying.{plays_first}
use Rattle.dsql_run_outcome.proofs.Finished.{shows_of_wrote, wrote_older}
use Rattle.dsql_run_outcome.proofs.Writing.{stops_after_older}

-- If the last stop is a write fault, the run was ended.
pub so_ran : (ended final : Result (Unit {0}) Stop) → Finishes ended final → final ≡ Err Write → ran_out ended ≡ true
so_ran ended final (inl same) is = let e : ended ≡ Err Write = sym same ∙ is in rw e refl
so_ran ended final (inr (inl memory)) is = absurd (cc (sym memory ∙ is))
so_ran ended final (inr (inr write)) is = write.1

pub failed_is : (r : Result (Unit {0}) Stop) → is_write_fault r ≡ true → r ≡ Err Write
failed_is (Err Write) is = refl
failed_is _ is = absurd (cc is)

-- If a run goes on and no write failed, its lines have come to an end.
pub lines_over : (played : Result (Unit {0}) Stop) → ran_out played ≡ true → is_write_fault played ≡ false → IsLinesEnd played
lines_over (Err Write) ran unfailed = absurd (cc unfailed)
lines_over (Err Memory) ran unfailed = absurd (cc ran)
lines_over (Err Full) ran unfailed = absurd (cc ran)
lines_over _ ran unfailed = tt

ends_ran : (r : Result (Unit {0}) Stop) → IsLinesEnd r → ran_out r ≡ true
ends_ran (Err Memory) over = absurd over
ends_ran (Err Full) over = absurd over
ends_ran _ over = refl

not_wanting : (played : Result (Unit {0}) Stop) → ran_out played ≡ true → wanted_memory played ≡ false
not_wanting (Err Memory) ran = absurd (cc ran)
not_wanting _ ran = refl

-- If a write fails as the run ends, the events of its lines had been written before.
pub shown_before_end : (played ended final : Result (Unit {0}) Stop) (w mid : Option (List ℕ)) (n : ℕ) (rest past : List Event) → (ran_out ended ≡ true → ended ≡ played) → Finishes ended final → final ≡ Err Write
    → is_write_fault played ≡ false → Extends rest past → n ≤ length rest → Wrote played w n rest mid → Shows w n past mid
shown_before_end played ended final w mid n rest past same finishes is unfailed goes_on within wrote =
    let ran : ran_out played ≡ true = subst (λ r. ran_out r ≡ true) (same (so_ran ended final finishes is)) (so_ran ended final finishes is) in
    shows_of_wrote played w mid n past unfailed (not_wanting played ran) (wrote_older played w mid n rest past goes_on within wrote)

plays_ended : (race : Bool) (played ended : Result (Unit {0}) Stop) (bytes rest : Option (List ℕ)) (says : Said) → (ran_out ended ≡ true → ended ≡ played) → PlaysBy race played bytes rest says → PlaysBy race ended bytes rest says
plays_ended race played (Err Write) bytes rest says same plays = plays_first race played bytes rest says plays
plays_ended race played (Err Memory) bytes rest says same plays = plays_first race played bytes rest says plays
plays_ended race played (Err Full) bytes rest says same plays = plays_first race played bytes rest says plays
plays_ended race played _ bytes rest says same plays = subst (λ r. PlaysBy race r bytes rest says) (sym (same refl)) plays

-- By its last stop too, a run has of its script what it had when its lines were played.
pub plays_finished : (race : Bool) (played ended final : Result (Unit {0}) Stop) (bytes rest : Option (List ℕ)) (says : Said) → (ran_out ended ≡ true → ended ≡ played) → Finishes ended final → PlaysBy race played bytes rest says → PlaysBy race final bytes rest says
plays_finished race played ended final bytes rest says same (inl is) plays = rw is (plays_ended race played ended bytes rest says same plays)
plays_finished race played ended final bytes rest says same (inr (inl memory)) plays = rw memory (plays_first race played bytes rest says plays)
plays_finished race played ended final bytes rest says same (inr (inr write)) plays = rw write.0 (plays_first race played bytes rest says plays)

-- How a run ended: what stopped its lines, what stopped it then, and its last stop. And the history after its lines
-- were played, and at last.
pub record Ends (played ended final : Result (Unit {0}) Stop) (rest : Playing) (past : List Event) : Type 0 where
  pub same : ran_out ended ≡ true → ended ≡ played
  pub finishes : Finishes ended final
  pub extends : Extends rest.past past
  pub carries : ran_out ended ≡ true → (m : Moment) → IsAt m rest → CarriesEnd m rest.past past
  pub stops : ran_out played ≡ true → ran_out ended ≡ false → (m : Moment) → IsAt m rest → StopsInEnd m rest.past past
  pub stays : ran_out played ≡ false → past ≡ rest.past

played_ran : (played ended final : Result (Unit {0}) Stop) (rest : Playing) (past : List Event) → Ends played ended final rest past → ran_out ended ≡ true → ran_out played ≡ true
played_ran played ended final rest past e ran = subst (λ r. ran_out r ≡ true) (e.same ran) ran

-- If a run was ended, it follows its lines and the script's end.
ended_follows : {W : Type 0} (played ended final : Result (Unit {0}) Stop) (before left : Option (List ℕ)) (k : ℕ) (asked : Option Caps) (run : Event) (rest : Playing) (past : List Event) (w mid : Option (List ℕ)) (lent : Lent W) → Ends played ended final rest past
    → (l : LinesPlayed played before left k asked run rest w mid lent) → ran_out ended ≡ true → (all : FollowsAll run l.lines past) × (all.played.parts ≡ l.parts)
ended_follows played ended final before left k asked run rest past w mid lent e l ran =
    let through = played_ran played ended final rest past e ran in
    end_follows run l.lines l.parts rest.past past (l.follows through) (e.carries ran (after run l.parts) (l.at through))

-- What the fleet records as a run was ended, or as its wires were only given back.
pub record EndsAsking {W : Type 0} (played ended : Result (Unit {0}) Stop) (lent : Lent W) (after : Option FleetTold) (rest past : List Event) : Type 0 where
  pub end : ran_out ended ≡ true → FleetTellsOn lent.heard lent.now after rest past lent.slots
  pub unwired : ran_out ended ≡ true → (c : ℕ) → is_wired (journal past c) ≡ false
  pub left : ran_out played ≡ true → ran_out ended ≡ false → GivesAllBack lent.heard lent.now after rest past lent.slots
  pub given_back : ran_out played ≡ false → after ≡ retired_from lent.heard (reverse lent.slots) lent.now
  pub exact : ran_out played ≡ false → (c : ℕ) → RecordsJournal lent.heard (slot lent.slots c)

ended_short : {W : Type 0} (played ended final : Result (Unit {0}) Stop) (before left : Option (List ℕ)) (k : ℕ) (asked : Option Caps) (run : Event) (rest : Playing) (past : List Event) (w mid : Option (List ℕ)) (lent : Lent W)
    (told_after : Option FleetTold) → Ends played ended final rest past → EndsAsking played ended lent told_after rest.past past
    → (l : LinesPlayed played before left k asked run rest w mid lent) → ran_out ended ≡ false → StopsAsking run l.lines past lent.first told_after
ended_short played ended final before left k asked run rest past w mid lent told_after e a l out = by (ran_out played) refl
  where
    by : (b : Bool) → ran_out played ≡ b → StopsAsking run l.lines past lent.first told_after
    by true ran =
        let leaves = a.left ran out in
        record {
          made = plans_made run l.parts;
          stops = end_planning run l.lines l.parts rest.past past leaves.surplus (l.follows ran) (e.stops ran out (after run l.parts) (l.at ran));
          surplus = leaves.surplus;
          may = leaves.may;
          records = leaves.back (plans_made run l.parts) lent.first (l.told ran);
        }
    by false short =
        let s = l.short short in
        let made : List Made = wants_of s.surplus ++ s.made in
        let recorded : List Event = with_answer s.surplus rest.past in
        subst (λ h. StopsAsking run l.lines h lent.first told_after) (sym (e.stays short))
        (record {
          made = s.made;
          stops = s.stops;
          surplus = s.surplus;
          may = s.may;
          records = subst (λ told. GotAllBack made lent.first told recorded) (sym (a.given_back short)) (got_all_back lent.heard made lent.first lent.now recorded lent.slots s.tells s.wires (a.exact short));
        })

either_short : {W : Type 0} (played ended final : Result (Unit {0}) Stop) (before left : Option (List ℕ)) (k : ℕ) (asked : Option Caps) (run : Event) (rest : Playing) (past : List Event) (w mid : Option (List ℕ)) (lent : Lent W)
    (told_after : Option FleetTold) → Ends played ended final rest past → EndsAsking played ended lent told_after rest.past past → (l : LinesPlayed played before left k asked run rest w mid lent)
    → StopsAsking run l.lines past lent.first told_after
either_short played ended final before left k asked run rest past w mid lent told_after e a l = by (ran_out ended) refl
  where
    by : (b : Bool) → ran_out ended ≡ b → StopsAsking run l.lines past lent.first told_after
    by true ran =
        let all = ended_follows played ended final before left k asked run rest past w mid lent e l ran in
        record {
          made = plans_made run all.0.played.parts;
          stops = all_planning run l.lines past all.0;
          surplus = NoSurplus;
          may = tt;
          records = none_to_give (plans_made run all.0.played.parts) lent.first told_after past
              (subst (λ parts. told_after ≡ with_told (plans_made run parts) lent.first past) (sym all.1)
              (a.end ran (plans_made run l.parts) lent.first (l.told (played_ran played ended final rest past e ran))))
              (a.unwired ran);
        }
    by false out = ended_short played ended final before left k asked run rest past w mid lent told_after e a l out

-- A run that ran out by its last stop was ended.
pub final_ran : (ended final : Result (Unit {0}) Stop) → Finishes ended final → ran_out final ≡ true → ran_out ended ≡ true
final_ran ended final (inl same) ran = subst (λ r. ran_out r ≡ true) same ran
final_ran ended final (inr (inl memory)) ran = absurd (cc (sym (ap ran_out memory) ∙ ran))
final_ran ended final (inr (inr write)) ran = write.1

pub done_played : (played ended final : Result (Unit {0}) Stop) → (ran_out ended ≡ true → ended ≡ played) → Finishes ended final → final ≡ Ok tt → played ≡ Ok tt
done_played played ended final same (inl is) done =
    let it : ended ≡ Ok tt = sym is ∙ done in
    sym (same (ap ran_out it)) ∙ it
done_played played ended final same (inr (inl memory)) done = absurd (cc (sym memory ∙ done))
done_played played ended final same (inr (inr write)) done = absurd (cc (sym write.0 ∙ done))

-- What was written if the sink failed: the events of the lines after these were played, and all events at last.
pub record WrittenBy (played final : Result (Unit {0}) Stop) (w mid now : Option (List ℕ)) (n : ℕ) (rest past : List Event) : Type 0 where
  pub shown : IsLinesEnd played → n ≡ length rest
  pub unwritten : is_write_fault played ≡ true → now ≡ mid
  pub stops : is_write_fault played ≡ false → final ≡ Err Write → StopsBetween w (text_of (oldest n past)) (text_of past) now

cut_by : {W : Type 0} (failing : Bool) (played ended final : Result (Unit {0}) Stop) (before left : Option (List ℕ)) (k : ℕ) (asked : Option Caps) (source_failed : Bool) (run : Event) (rest : Playing) (past : List Event) (w mid now : Option (List ℕ)) (n : ℕ) (lent : Lent W)
    → is_write_fault played ≡ failing → ran_out played ≡ true → final ≡ Err Write → Ends played ended final rest past → (l : LinesPlayed played before left k asked run rest w mid lent) → (played ≡ Err Read → source_failed ≡ true)
    → WrittenBy played final w mid now n rest.past past → CutAtLine w run l.parts now ⊎ CutAtEnd false before left asked l.lines source_failed w (told run l.parts) past now
cut_by true played ended final before left k asked source_failed run rest past w mid now n lent is ran failed e l caused by =
    inl (subst (λ held. CutAtLine w run l.parts held) (sym (by.unwritten is)) (l.cut (failed_is played is)))
cut_by false played ended final before left k asked source_failed run rest past w mid now n lent is ran failed e l caused by =
    let over = lines_over played ran is in
    inr (record {
      played = played;
      over = over;
      plays = l.plays;
      read = l.read;
      caused = caused;
      written = subst (λ h. StopsBetween w (text_of h) (text_of past) now) (l.follows ran).is (stops_after_older w now n rest.past past e.extends (by.shown over) (by.stops is failed));
    })

-- If the lines came to an end by the last stop, they came to an end as they were played.
lines_ended : (played ended final : Result (Unit {0}) Stop) → (ran_out ended ≡ true → ended ≡ played) → Finishes ended final → IsLinesEnd final → IsLinesEnd played
lines_ended played ended final same (inl is) over =
    let it : IsLinesEnd ended = subst IsLinesEnd is over in subst IsLinesEnd (same (ends_ran ended it)) it
lines_ended played ended final same (inr (inl memory)) over = absurd {A = IsLinesEnd played} (subst IsLinesEnd memory over)
lines_ended played ended final same (inr (inr write)) over = absurd {A = IsLinesEnd played} (subst IsLinesEnd write.0 over)

-- The lines were played up to the run's end, as the last stop says.
pub script_played : {W : Type 0} (played ended final : Result (Unit {0}) Stop) (before left : Option (List ℕ)) (k : ℕ) (asked : Option Caps) (source_failed : Bool) (run : Event) (rest : Playing) (past : List Event) (w mid now : Option (List ℕ)) (n : ℕ)
    (lent : Lent W) (told_after : Option FleetTold) → Ends played ended final rest past → EndsAsking played ended lent told_after rest.past past → LinesPlayed played before left k asked run rest w mid lent
    → (played ≡ Err Read → source_failed ≡ true) → WrittenBy played final w mid now n rest.past past
    → ScriptPlayed final before left k asked source_failed run past w now lent.first told_after
script_played played ended final before left k asked source_failed run rest past w mid now n lent told_after e a l caused by = record {
  lines = l.lines;
  counted = λ over. l.counted (lines_ended played ended final e.same e.finishes over);
  plays = plays_finished false played ended final before left _ e.same e.finishes l.plays;
  read = λ done. l.read (done_played played ended final e.same e.finishes done);
  follows = λ ran. (ended_follows played ended final before left k asked run rest past w mid lent e l (final_ran ended final e.finishes ran)).0;
  told = λ ran.
      let through = final_ran ended final e.finishes ran in
      subst (λ parts. told_after ≡ with_told (plans_made run parts) lent.first past) (sym (ended_follows played ended final before left k asked run rest past w mid lent e l through).1)
      (a.end through (plans_made run l.parts) lent.first (l.told (played_ran played ended final rest past e through)));
  short = λ out. either_short played ended final before left k asked run rest past w mid lent told_after e a l;
  cut = λ failed.
      let ran = so_ran ended final e.finishes failed in
      let follows = ended_follows played ended final before left k asked run rest past w mid lent e l ran in
      record {
        all = follows.0;
        cut = subst (λ parts. CutAtLine w run parts now ⊎ CutAtEnd false before left asked l.lines source_failed w (told run parts) past now) (sym follows.1)
            (cut_by (is_write_fault played) played ended final before left k asked source_failed run rest past w mid now n lent refl (played_ran played ended final rest past e ran) failed e l caused by);
      };
}
