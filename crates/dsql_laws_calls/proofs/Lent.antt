-- A connection stays lent as long as it is in use, and only a Lend makes it lent.
use Rattle.std.proofs.Common.{◌≡◌, ◌≢◌, ℕ, ◌⊎◌, inl, inr, Bool, true, false, not, ◌||◌, List, ◌∷◌, Option, Some, None, refl, sym, ap, subst, ◌∙◌, arith}
use Rattle.std.specs.Option.{option_map}
use Rattle.dsql_laws.specs.journal.declared.entry.Owner.{Owner}
use Rattle.dsql_laws.specs.journal.Kinds.{is_house, number_of}
use Rattle.dsql_laws.specs.pool.declared.conn.Conn.{Conn}
use Rattle.dsql_laws.specs.pool.declared.conn.Place.{Place}
use Rattle.dsql_laws.specs.pool.declared.conn.Place.TheVariants.{Idle, Lent, Opening, Closing}
use Rattle.dsql_laws.specs.pool.declared.moves.CloseCause.{CloseCause}
use Rattle.dsql_laws.specs.pool.declared.moves.Move.{Move}
use Rattle.dsql_laws.specs.pool.declared.moves.Move.TheVariants.{OpenStart, Lend, Back, CloseStart, Gone, Fell}
use Rattle.dsql_laws.specs.pool.Changes.{lent, back, closing, conn_changed, gone, unwanted}
use Rattle.dsql_laws.specs.pool.Places.{conn_of, place_of, is_idle, is_opening, is_lent, is_closing}
use Rattle.dsql_laws.specs.pool.Pooled.{next_number, place_at}
use Rattle.dsql_laws.specs.pool.Moved.{begun, shut}
use Rattle.dsql_laws.proofs.pool.Found.{KeepsNumber, found_changed}
use Rattle.dsql_laws_work.proofs.Rows.{same_or_not}
use Rattle.dsql_laws.specs.history.declared.event.Control.TheVariants.{Tick, Set}
use Rattle.dsql_laws.proofs.Tests.{both}
use Rattle.dsql_laws_calls.proofs.Found.{place_in, uses_in, unwanted_lent, changed_off, gone_at, gone_off, begun_at, begun_off, shut_found, unwanted_in, unwanted_place}
use Rattle.dsql_laws_calls.proofs.Cases.{true_false, control_conns}
use Rattle.dsql_laws.specs.history.declared.event.Event.{Event}
use Rattle.dsql_laws.specs.history.declared.event.Event.TheVariants.{Entered, Pool, Ticked, SetLimit, Ended}
use Rattle.dsql_laws.specs.history.declared.event.Op.TheVariants.{DbClose}
use Rattle.dsql_laws.specs.history.Readers.Pool.{pool, place, uses, wanted_by}
use Rattle.dsql_laws.specs.history.Rules.Moves.{moves_from, numbers_lending}
use Rattle.dsql_laws.specs.history.Rules.Line.{is_used, leaves_from}
use Rattle.dsql_laws.specs.history.Legal.{Allowed, Lawful}
use Rattle.dsql_laws_calls.proofs.Born.{born, open_is_old}

-- Holds if the move moves between the right sets, and a lending has the right tenure and call.
pub record MoveFacts (H : List Event) (m : Move) : Type 0 where
  pub moves : moves_from (pool H) m ≡ true
  pub numbers : numbers_lending (pool H) m ≡ true

pub move_facts : (H : List Event) (m : Move) → Allowed H (Pool m) → MoveFacts H m
unfolding Allowed
move_facts H m a = let s = both (moves_from (pool H) m) (numbers_lending (pool H) m) a.sets in record { moves = s.0; numbers = s.1 }

pub back_line : (H : List Event) (c : ℕ) → Allowed H (Pool (Back c)) → leaves_from H (place H c) ≡ true
unfolding Allowed
back_line H c a = a.line

pub close_line : (H : List Event) (c : ℕ) (why : CloseCause) → Allowed H (Pool (CloseStart c why)) → leaves_from H (place H c) ≡ true
unfolding Allowed
close_line H c why a = a.line

-- A connection that is lent and in use can't leave its owner.
never_left : (H : List Event) (c t : ℕ) (own : Owner) → place H c ≡ Some (Lent t own) → is_used H (number_of own) ≡ true → leaves_from H (place H c) ≡ true → ⊥
never_left H c t own is used h =
    let k = both (not (is_house own)) (not (is_used H (number_of own))) (ap (leaves_from H) (sym is) ∙ h) in
    by (is_used H (number_of own)) used k.1
  where
    by : (b : Bool) → b ≡ true → not b ≡ true → ⊥
    by true u k = cc
    by false u k = cc

-- A connection whose place passes a test that lent places fail isn't this lent connection.
pub elsewhere : (H : List Event) (d c t : ℕ) (own : Owner) (test : Option Place → Bool) → place H c ≡ Some (Lent t own) → test (Some (Lent t own)) ≡ false → test (place H d) ≡ true → c ≡ d → ⊥
elsewhere H d c t own test is not h same = true_false (test (place H d)) h (ap (λ e. test (place H e)) (sym same) ∙ ap test is ∙ not)

kept_move : (H : List Event) (m : Move) (c t : ℕ) (own : Owner) → Lawful H → Allowed H (Pool m) → place H c ≡ Some (Lent t own) → is_used H (number_of own) ≡ true → conn_of c (pool (Pool m ∷ H)).conns ≡ conn_of c (pool H).conns
kept_move H (OpenStart d k) c t own l a is used = begun_off c (wanted_by H k) (pool H) (open_is_old H c (Lent t own) l is)
kept_move H (Lend d u o k) c t own l a is used =
    let f = move_facts H (Lend d u o k) a in
    changed_off d c (lent u o (pool H).moment) (pool H).conns (λ x. refl) (elsewhere H d c t own (λ at. is_idle at || is_opening at) is refl f.moves)
kept_move H (Back d) c t own l a is used =
    changed_off d c (back (pool H).moment) (pool H).conns (λ x. refl) (λ same. never_left H c t own is used (subst (λ e. leaves_from H (place H e) ≡ true) (sym same) (back_line H d a)))
kept_move H (CloseStart d why) c t own l a is used =
    changed_off d c closing (pool H).conns (λ x. refl) (λ same. never_left H c t own is used (subst (λ e. leaves_from H (place H e) ≡ true) (sym same) (close_line H d why a)))
kept_move H (Gone d) c t own l a is used = let f = move_facts H (Gone d) a in gone_off d c (pool H).conns (elsewhere H d c t own is_closing is refl f.moves)
kept_move H (Fell d k) c t own l a is used = let f = move_facts H (Fell d k) a in gone_off d c (pool H).conns (elsewhere H d c t own is_opening is refl f.moves)

-- Holds if the connection is as it was, except perhaps for the call that wants it.
abbrev StaysAs : Option Conn → Option Conn → Type 0
StaysAs before after = (after ≡ before) ⊎ (after ≡ option_map unwanted before)

-- A connection that is in use stays as it is.
stays_found : (H : List Event) (e : Event) (c t : ℕ) (own : Owner) → Lawful H → Allowed H e → place H c ≡ Some (Lent t own) → is_used H (number_of own) ≡ true → StaysAs (conn_of c (pool H).conns) (conn_of c (pool (e ∷ H)).conns)
stays_found H (Pool m) c t own l a is used = inl (kept_move H m c t own l a is used)
stays_found H (Entered client k DbClose) c t own l a is used = inr (shut_found c (pool H))
stays_found H Ended c t own l a is used = inr (shut_found c (pool H))
stays_found H (Ticked now) c t own l a is used = inl (ap (conn_of c) (control_conns (Tick now) (pool H)))
stays_found H (SetLimit s k) c t own l a is used = inl (ap (conn_of c) (control_conns (Set s k) (pool H)))
stays_found H _ c t own l a is used = inl refl

still_lent : (before after : Option Conn) (t : ℕ) (o : Owner) → StaysAs before after → place_in before ≡ Some (Lent t o) → place_in after ≡ Some (Lent t o)
still_lent before after t o (inl same) is = ap place_in same ∙ is
still_lent before after t o (inr shut_now) is = ap place_in shut_now ∙ unwanted_in before ∙ ap (option_map unwanted_place) is

still_used : (before after : Option Conn) → StaysAs before after → uses_in after ≡ uses_in before
still_used before after (inl same) = ap uses_in same
still_used before after (inr shut_now) = let counts = unwanted_lent before in ap uses_in shut_now ∙ counts.1

-- A connection that is in use stays lent, and the number of its uses stays the same.
pub stays_lent : (H : List Event) (e : Event) (c t : ℕ) (own : Owner) → Lawful H → Allowed H e → place H c ≡ Some (Lent t own) → is_used H (number_of own) ≡ true → place (e ∷ H) c ≡ Some (Lent t own)
stays_lent H e c t own l a is used = still_lent (conn_of c (pool H).conns) (conn_of c (pool (e ∷ H)).conns) t own (stays_found H e c t own l a is used) is

pub uses_stay : (H : List Event) (e : Event) (c t : ℕ) (own : Owner) → Lawful H → Allowed H e → place H c ≡ Some (Lent t own) → is_used H (number_of own) ≡ true → uses (e ∷ H) c ≡ uses H c
uses_stay H e c t own l a is used = still_used (conn_of c (pool H).conns) (conn_of c (pool (e ∷ H)).conns) (stays_found H e c t own l a is used)

-- A lent connection was lent before the event, or the event lends it.

-- Holds if the event lends connection c to this owner in tenure t.
abbrev pub Lends : Event → ℕ → ℕ → Owner → Type 0
Lends e c t own = (k : ℕ) × (e ≡ Pool (Lend c t own k))

was_shut : (at : Option Place) (t : ℕ) (o : Owner) → option_map unwanted_place at ≡ Some (Lent t o) → at ≡ Some (Lent t o)
was_shut (Some (Lent u p)) t o h = h
was_shut _ t o h = absurd cc

lent_when_shut : (H : List Event) (c t : ℕ) (o : Owner) → place_at (shut (pool H)) c ≡ Some (Lent t o) → place H c ≡ Some (Lent t o)
lent_when_shut H c t o is = was_shut (place H c) t o (sym (ap place_in (shut_found c (pool H)) ∙ unwanted_in (conn_of c (pool H).conns)) ∙ is)

-- A change that moves a connection to another place doesn't leave it lent so.
placed_else : (f : Conn → Conn) (p : Place) (t : ℕ) (o : Owner) (found : Option Conn) → ((x : Conn) → (f x).place ≡ p) → (p ≡ Lent t o → ⊥) → place_in (option_map f found) ≡ Some (Lent t o) → ⊥
placed_else f p t o None at other h = cc
placed_else f p t o (Some x) at other h = other (sym (at x) ∙ inner (f x).place h)
  where
    inner : (q : Place) → Some q ≡ Some (Lent t o) → q ≡ Lent t o
    inner q k = cc

before_changed : (H : List Event) (d c t : ℕ) (own : Owner) (f : Conn → Conn) (p : Place) → KeepsNumber f → ((x : Conn) → (f x).place ≡ p) → (p ≡ Lent t own → ⊥)
    → place_in (conn_of c (conn_changed d f (pool H).conns)) ≡ Some (Lent t own) → place H c ≡ Some (Lent t own)
before_changed H d c t own f p keeps at other is = by (same_or_not c d)
  where
    by : (c ≡ d) ⊎ (c ≢ d) → place H c ≡ Some (Lent t own)
    by (inl same) =
        let here : place_in (option_map f (conn_of c (pool H).conns)) ≡ Some (Lent t own) =
        sym (ap (λ e. place_in (conn_of c (conn_changed e f (pool H).conns))) (sym same) ∙ ap place_in (found_changed c f keeps (pool H).conns)) ∙ is
        in
        absurd (placed_else f p t own (conn_of c (pool H).conns) at other here)
    by (inr apart) = sym (ap place_in (changed_off d c f (pool H).conns keeps apart)) ∙ is

before_gone : (H : List Event) (d c t : ℕ) (own : Owner) → place_in (conn_of c (gone d (pool H).conns)) ≡ Some (Lent t own) → place H c ≡ Some (Lent t own)
before_gone H d c t own is = by (same_or_not c d)
  where
    by : (c ≡ d) ⊎ (c ≢ d) → place H c ≡ Some (Lent t own)
    by (inl same) =
        let none : None ≡ Some (Lent t own) = sym (ap (λ e. place_in (conn_of c (gone e (pool H).conns))) (sym same) ∙ ap place_in (gone_at c (pool H).conns)) ∙ is in
        absurd cc
    by (inr apart) = sym (ap place_in (gone_off d c (pool H).conns apart)) ∙ is

before_open : (H : List Event) (k c t : ℕ) (own : Owner) → Lawful H → place_in (conn_of c (begun (wanted_by H k) (pool H)).conns) ≡ Some (Lent t own) → place H c ≡ Some (Lent t own)
before_open H k c t own l is = by (same_or_not c (next_number (pool H)))
  where
    by : (c ≡ next_number (pool H)) ⊎ (c ≢ next_number (pool H)) → place H c ≡ Some (Lent t own)
    by (inl new) =
        let b = born H l in
        let none : conn_of (next_number (pool H)) (pool H).conns ≡ None = b.none (next_number (pool H)) (omega arith) in
        let clash : Some (Opening (wanted_by H k)) ≡ Some (Lent t own) =
        sym (ap (λ e. place_in (conn_of e (begun (wanted_by H k) (pool H)).conns)) new ∙ ap place_in (begun_at (wanted_by H k) (pool H) none)) ∙ is
        in
        absurd cc
    by (inr apart) = sym (ap place_in (begun_off c (wanted_by H k) (pool H) apart)) ∙ is

before_lend : (H : List Event) (d u : ℕ) (o : Owner) (k c t : ℕ) (own : Owner) → place_in (conn_of c (conn_changed d (lent u o (pool H).moment) (pool H).conns)) ≡ Some (Lent t own)
    → (place H c ≡ Some (Lent t own)) ⊎ Lends (Pool (Lend d u o k)) c t own
before_lend H d u o k c t own is = by (same_or_not c d)
  where
    lent_now : (found : Option Conn) → place_in (option_map (lent u o (pool H).moment) found) ≡ Some (Lent t own) → (u ≡ t) × (o ≡ own)
    lent_now None h = absurd cc
    lent_now (Some x) h = (cc, cc)

    by : (c ≡ d) ⊎ (c ≢ d) → (place H c ≡ Some (Lent t own)) ⊎ Lends (Pool (Lend d u o k)) c t own
    by (inl same) =
        let here : place_in (option_map (lent u o (pool H).moment) (conn_of c (pool H).conns)) ≡ Some (Lent t own) =
        sym (ap (λ e. place_in (conn_of c (conn_changed e (lent u o (pool H).moment) (pool H).conns))) (sym same) ∙ ap place_in (found_changed c (lent u o (pool H).moment) (λ x. refl) (pool H).conns)) ∙ is
        in
        let is_now = lent_now (conn_of c (pool H).conns) here in
        inr (k, rw (same, is_now.0, is_now.1) refl)
    by (inr apart) = inl (sym (ap place_in (changed_off d c (lent u o (pool H).moment) (pool H).conns (λ x. refl) apart)) ∙ is)

not_lent : (t : ℕ) (own : Owner) (p : Place) → is_lent (Some p) ≡ false → p ≡ Lent t own → ⊥
not_lent t own p h is = let k : is_lent (Some (Lent t own)) ≡ false = ap (λ q. is_lent (Some q)) (sym is) ∙ h in cc

pub lent_before : (H : List Event) (e : Event) (c t : ℕ) (own : Owner) → Lawful H → place (e ∷ H) c ≡ Some (Lent t own) → (place H c ≡ Some (Lent t own)) ⊎ Lends e c t own
lent_before H (Pool (OpenStart d k)) c t own l is = inl (before_open H k c t own l is)
lent_before H (Pool (Lend d u o k)) c t own l is = before_lend H d u o k c t own is
lent_before H (Pool (Back d)) c t own l is = inl (before_changed H d c t own (back (pool H).moment) Idle (λ x. refl) (λ x. refl) (not_lent t own Idle refl) is)
lent_before H (Pool (CloseStart d why)) c t own l is = inl (before_changed H d c t own closing Closing (λ x. refl) (λ x. refl) (not_lent t own Closing refl) is)
lent_before H (Pool (Gone d)) c t own l is = inl (before_gone H d c t own is)
lent_before H (Pool (Fell d k)) c t own l is = inl (before_gone H d c t own is)
lent_before H (Entered client k DbClose) c t own l is = inl (lent_when_shut H c t own is)
lent_before H Ended c t own l is = inl (lent_when_shut H c t own is)
lent_before H (Ticked now) c t own l is = inl (sym (ap (place_of c) (control_conns (Tick now) (pool H))) ∙ is)
lent_before H (SetLimit s k) c t own l is = inl (sym (ap (place_of c) (control_conns (Set s k) (pool H))) ∙ is)
lent_before H _ c t own l is = inl is
