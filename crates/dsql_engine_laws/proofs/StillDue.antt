-- The layer's Connect or Shut stays due through each step without an answer on its connection, since that connection
-- stays in its place. No premise speaks of driver calls under way: those of clients' calls are on lent connections.
use Rattle.std.proofs.Common.{◌≡◌, ℕ, ◌+◌, Bool, true, false, ◌||◌, cond, List, [], ◌∷◌, ◌++◌, Option, Some, None, refl, sym, ap, ◌∙◌}
use Rattle.std.specs.List.{list_all, list_any}
use Rattle.dsql_engine_hearing.specs.driver.declared.call.DriverCall.TheVariants.{Shut}
use Rattle.dsql_engine_hearing.specs.journal.declared.entry.Permit.{Permit}
use Rattle.dsql_engine_hearing.specs.pool.declared.conn.Place.{Place}
use Rattle.dsql_engine_hearing.specs.pool.declared.conn.Place.TheVariants.{Lent, Opening, Closing}
use Rattle.dsql_engine_hearing.specs.pool.Places.{is_lent}
use Rattle.dsql_engine_hearing.specs.pool.Pooled.{next_tenure}
use Rattle.dsql_engine_hearing.specs.history.declared.event.Event.{Event}
use Rattle.dsql_engine_hearing.specs.history.declared.event.Event.TheVariants.{Heard}
use Rattle.dsql_engine_hearing.specs.history.Readers.Journals.{journal}
use Rattle.dsql_engine_hearing.specs.history.Readers.Owed.{owed}
use Rattle.dsql_engine_hearing.specs.history.Readers.Pool.{place, pool}
use Rattle.dsql_engine_hearing.specs.history.Rules.Settled.{owes_nothing}
use Rattle.dsql_engine_hearing.specs.history.Legal.{Lawful}
use Rattle.dsql_engine_hearing.proofs.laws.Places.{neither}
use Rattle.dsql_engine_hearing.proofs.laws.Tests.{both}
use Rattle.dsql_engine_hearing.proofs.laws_calls.FirstAnswers.{unheard}
use Rattle.dsql_engine_hearing.specs.going.Permits.{chore_at, chore_permit, house_permit}
use Rattle.dsql_engine_hearing.specs.laws_steps.Groups.{is_later_of}
use Rattle.dsql_engine_laws.specs.Chores.{hears_on}
use Rattle.dsql_engine_laws.proofs.Made.{no_moves}
use Rattle.dsql_engine_laws.proofs.Unmoved.{Stays, is_pending, kind, pending_stays}

-- In a step only the first event may be an answer.

later_hears_none : (n c : ℕ) (x : Event) → is_later_of n x ≡ true → hears_on c x ≡ false
later_hears_none n c (Heard e) h = absurd cc
later_hears_none n c _ h = refl

either_none : (a b : Bool) → a ≡ false → b ≡ false → (a || b) ≡ false
either_none true b h k = absurd cc
either_none false b h k = k

none_heard : (n c : ℕ) (more : List Event) (first : Event) → list_all (is_later_of n) more ≡ true → hears_on c first ≡ false → list_any (hears_on c) (more ++ first ∷ []) ≡ false
none_heard n c [] first later off = either_none (hears_on c first) false off refl
none_heard n c (x ∷ more) first later off =
    let a = both (is_later_of n x) (list_all (is_later_of n) more) later in
    either_none (hears_on c x) (list_any (hears_on c) (more ++ first ∷ [])) (later_hears_none n c x a.0) (none_heard n c more first a.1 off)

none_in_step : (events more : List Event) (first : Event) (n c : ℕ) → events ≡ more ++ first ∷ [] → list_all (is_later_of n) more ≡ true → hears_on c first ≡ false → list_any (hears_on c) events ≡ false
none_in_step events more first n c group later off = ap (list_any (hears_on c)) group ∙ none_heard n c more first later off

-- So the connection's journal stays the same.

one_unheard : (H : List Event) (x : Event) (c : ℕ) → hears_on c x ≡ false → journal (x ∷ H) c ≡ journal H c
one_unheard H (Heard e) c h = ap (λ b. cond b (e ∷ journal H c) (journal H c)) h
one_unheard H _ c h = refl

all_unheard : (H events : List Event) (c : ℕ) → list_any (hears_on c) events ≡ false → journal (events ++ H) c ≡ journal H c
all_unheard H [] c none = refl
all_unheard H (x ∷ events) c none =
    let a = neither (hears_on c x) (list_any (hears_on c) events) none in one_unheard (events ++ H) x c a.0 ∙ all_unheard H events c a.1

pub journal_stays : (past events more : List Event) (first : Event) (n c : ℕ) → events ≡ more ++ first ∷ [] → list_all (is_later_of n) more ≡ true → hears_on c first ≡ false
    → journal (events ++ past) c ≡ journal past c
journal_stays past events more first n c group later off = all_unheard past events c (none_in_step events more first n c group later off)

-- The layer's driver call on a connection that isn't lent.

awaits : (H : List Event) (c : ℕ) (p : Permit) (at : Option Place) → chore_at H c at ≡ Some p → is_lent at ≡ false → is_pending at ≡ true
awaits H c p (Some (Opening wanted)) is unlent = refl
awaits H c p (Some Closing) is unlent = refl
awaits H c p _ is unlent = absurd cc

kind_lent : (at : Option Place) → is_lent (kind at) ≡ is_lent at
kind_lent None = refl
kind_lent (Some (Opening wanted)) = refl
kind_lent (Some _) = refl

-- It doesn't depend on the request for which a connection is being opened.
chore_of_kind : (H : List Event) (c : ℕ) (at : Option Place) → chore_at H c (kind at) ≡ chore_at H c at
chore_of_kind H c None = refl
chore_of_kind H c (Some (Opening wanted)) = refl
chore_of_kind H c (Some _) = refl

chore_alike : (H K : List Event) (c : ℕ) (at : Option Place) → next_tenure (pool K) c ≡ next_tenure (pool H) c → is_lent at ≡ false → chore_at K c at ≡ chore_at H c at
chore_alike H K c (Some Closing) same unlent = ap (λ t. Some (house_permit c t Shut)) same
chore_alike H K c (Some (Lent t own)) same unlent = absurd cc
chore_alike H K c _ same unlent = refl

chore_stays : (H K : List Event) (c : ℕ) → Stays H K c → is_lent (place H c) ≡ false → chore_permit K c ≡ chore_permit H c
chore_stays H K c s unlent =
    sym (chore_of_kind K c (place K c)) ∙ ap (chore_at K c) s.at ∙ chore_of_kind K c (place H c)
    ∙ chore_alike H K c (place H c) (ap (λ k. k + 2) s.lends) unlent

-- Its connection stays in its place through a step.
stays_there : (past events : List Event) (c : ℕ) (permit : Permit) → Lawful (events ++ past) → owes_nothing past ≡ true → chore_permit past c ≡ Some permit → is_lent (place past c) ≡ false → list_any (hears_on c) events ≡ false
    → Stays past (events ++ past) c
stays_there past events c permit l owing is unlent none =
    let pending = awaits past c permit (place past c) is unlent in
    pending_stays past events c l (unheard past c (no_moves (owed past) owing) pending) pending none

pub due_stays : (past events more : List Event) (first : Event) (n c : ℕ) (permit : Permit) → Lawful (events ++ past) → owes_nothing past ≡ true → chore_permit past c ≡ Some permit → is_lent (place past c) ≡ false
    → events ≡ more ++ first ∷ [] → list_all (is_later_of n) more ≡ true → hears_on c first ≡ false → chore_permit (events ++ past) c ≡ Some permit
due_stays past events more first n c permit l owing is unlent group later off =
    chore_stays past (events ++ past) c (stays_there past events c permit l owing is unlent (none_in_step events more first n c group later off)) unlent ∙ is

pub unlent_stays : (past events more : List Event) (first : Event) (n c : ℕ) (permit : Permit) → Lawful (events ++ past) → owes_nothing past ≡ true → chore_permit past c ≡ Some permit → is_lent (place past c) ≡ false
    → events ≡ more ++ first ∷ [] → list_all (is_later_of n) more ≡ true → hears_on c first ≡ false → is_lent (place (events ++ past) c) ≡ false
unlent_stays past events more first n c permit l owing is unlent group later off =
    let s = stays_there past events c permit l owing is unlent (none_in_step events more first n c group later off) in
    sym (kind_lent (place (events ++ past) c)) ∙ ap is_lent s.at ∙ kind_lent (place past c) ∙ unlent
