-- How a run is finished: its last stop, and what is written then. The argument goes through the stops case by
-- case.
use Rattle.std.proofs.Common.{◌≡◌, ◌⊎◌, ℕ, ◌≤◌, Bool, true, false, ◌||◌, List, [], Option, length, refl, sym, subst, ◌∙◌, arith, inl, inr}
use Rattle.std.specs.Prelude.{Result, Ok, Err, nat_lt, nat_le}
use Rattle.std.proofs.lemmas.Bool.{lt-ltb, ltb-true, le-leb, leb-true}
use Rattle.std.proofs.lemmas.List.{append-nil}
use Rattle.dsql_hall.specs.driver.Streams.{HasRisen, has_risen, last_count}
use Rattle.dsql_hall.specs.history.declared.event.Event.{Event}
use Rattle.dsql_hall.specs.player_wires.Extends.{Extends}
use Rattle.dsql_script_report.specs.Lines.{text_of}
use Rattle.dsql_script_show.specs.Report.{with_text, ShowsFront, Shows}
use Rattle.dsql_script_source.specs.declared.stop.Stop.{Stop}
use Rattle.dsql_script_source.specs.declared.stop.Stop.TheVariants.{Read, Write, Memory, Refused, Full}
use Rattle.dsql_run_outcome.specs.Runs.{ran_out, is_write_fault, is_cut, wanted_memory, Wrote, Writes}
use Rattle.dsql_run_outcome.proofs.Writing.{front_of_older, front_of_shown, oldest_older}

front_all : (w now : Option (List ℕ)) (text : List ℕ) → now ≡ with_text w text → ShowsFront w text now
front_all w now text is = record { front = text; begins = record { rest = []; parts = sym (append-nil text) }; written = is }

-- Whatever stopped a run, what was written is a beginning of its report.
front_of_wrote : (r : Result (Unit {0}) Stop) (w now : Option (List ℕ)) (n : ℕ) (past : List Event) → Wrote r w n past now → ShowsFront w (text_of past) now
front_of_wrote (Err Write) w now n past wrote = wrote
front_of_wrote (Err Memory) w now n past wrote = wrote
front_of_wrote _ w now n past wrote = front_of_shown w now n past wrote

pub shows_of_wrote : (r : Result (Unit {0}) Stop) (w now : Option (List ℕ)) (n : ℕ) (past : List Event) → is_write_fault r ≡ false → wanted_memory r ≡ false → Wrote r w n past now → Shows w n past now
shows_of_wrote (Err Write) w now n past f m wrote = absurd (cc f)
shows_of_wrote (Err Memory) w now n past f m wrote = absurd (cc m)
shows_of_wrote _ w now n past f m wrote = wrote

shows_older : (w now : Option (List ℕ)) (n : ℕ) (old new : List Event) → Extends old new → n ≤ length old → Shows w n old now → Shows w n new now
shows_older w now n old new e within shows = shows ∙ rw (oldest_older n old new e within) refl

-- If the history grows and nothing is written, what was written fits the longer history too.
pub wrote_older : (r : Result (Unit {0}) Stop) (w now : Option (List ℕ)) (n : ℕ) (old new : List Event) → Extends old new → n ≤ length old → Wrote r w n old now → Wrote r w n new now
wrote_older (Err Write) w now n old new e within wrote = front_of_older w now old new e wrote
wrote_older (Err Memory) w now n old new e within wrote = front_of_older w now old new e wrote
wrote_older _ w now n old new e within wrote = shows_older w now n old new e within wrote

full_front : (faulty : Bool) (w now : Option (List ℕ)) (past : List Event) → faulty ≡ true → ShowsFront w (text_of past) now → Writes (Err Full) faulty w past now
full_front true w now past is front = front
full_front false w now past is front = absurd (cc is)

so_failed : (a : Bool) → (a || false) ≡ true → a ≡ true
so_failed true h = refl
so_failed false h = absurd (cc h)

or_first : (a b : Bool) → a ≡ true → (a || b) ≡ true
or_first true b h = refl
or_first false b h = absurd (cc h)

or_second : (a b : Bool) → b ≡ true → (a || b) ≡ true
or_second true b h = refl
or_second false b h = h

-- If nothing more may be written, what was written is what a run with that stop writes.
pub finish_none : (played ended : Result (Unit {0}) Stop) (w now : Option (List ℕ)) (n : ℕ) (past : List Event) (risen : Bool) → (ran_out ended ≡ true → ended ≡ played) → is_cut played ended ≡ true
    → Wrote played w n past now → Writes ended (is_write_fault played || risen) w past now
finish_none played (Ok done) w now n past risen same cut wrote = absurd (cc (subst (λ r. is_cut r (Ok done) ≡ true) (sym (same refl)) cut))
finish_none played (Err Read) w now n past risen same cut wrote = absurd (cc (subst (λ r. is_cut r (Err Read) ≡ true) (sym (same refl)) cut))
finish_none played (Err Write) w now n past risen same cut wrote = front_of_wrote played w now n past wrote
finish_none played (Err Memory) w now n past risen same cut wrote = front_of_wrote played w now n past wrote
finish_none played (Err (Refused number fault)) w now n past risen same cut wrote = absurd (cc (subst (λ r. is_cut r (Err (Refused number fault)) ≡ true) (sym (same refl)) cut))
finish_none played (Err Full) w now n past risen same cut wrote =
    full_front (is_write_fault played || risen) w now past (or_first (is_write_fault played) risen (so_failed (is_write_fault played) cut)) (front_of_wrote played w now n past wrote)

writes_full : (faulty : Bool) (w now : Option (List ℕ)) (past : List Event) → now ≡ with_text w (text_of past) → Writes (Err Full) faulty w past now
writes_full true w now past is = front_all w now (text_of past) is
writes_full false w now past is = is

-- One more fault in a later step is one more fault in all.
pub writes_more : (r : Result (Unit {0}) Stop) (one all : Bool) (w now : Option (List ℕ)) (past : List Event) → (one ≡ true → all ≡ true) → Writes r one w past now → Writes r all w past now
writes_more (Err Full) true all w now past more writes = full_front all w now past (more refl) writes
writes_more (Err Full) false all w now past more writes = writes_full all w now past writes
writes_more _ one all w now past more writes = writes

split_or : (a b : Bool) → (a || b) ≡ true → (a ≡ true) ⊎ (b ≡ true)
split_or true b h = inl refl
split_or false b h = inr h

pub risen_later : (a b c : ℕ) → b ≤ c → has_risen a b ≡ true → has_risen a c ≡ true
risen_later a b c le h = elim (split_or (nat_lt a b) (nat_le last_count b) h) [
  | inl less ↦ or_first (nat_lt a c) (nat_le last_count c) (lt-ltb a c (omega (arith, ltb-true a b less, le)))
  | inr last ↦ or_second (nat_lt a c) (nat_le last_count c) (le-leb last_count c (omega (arith, leb-true last_count b last, le)))
]

pub risen_earlier : (a b c : ℕ) → a ≤ b → has_risen b c ≡ true → has_risen a c ≡ true
risen_earlier a b c le h = elim (split_or (nat_lt b c) (nat_le last_count c) h) [
  | inl less ↦ or_first (nat_lt a c) (nat_le last_count c) (lt-ltb a c (omega (arith, ltb-true b c less, le)))
  | inr last ↦ or_second (nat_lt a c) (nat_le last_count c) last
]

-- If the sink failed at the lines or at the end, its count of faults rose over the whole run.
pub all_risen : (r : Result (Unit {0}) Stop) (a b c : ℕ) → a ≤ b → b ≤ c → (r ≡ Err Write → HasRisen a b) → (is_write_fault r || has_risen b c) ≡ true → has_risen a c ≡ true
all_risen (Err Write) a b c one two caused h = risen_later a b c two (caused refl)
all_risen _ a b c one two caused h = risen_earlier a b c one h
