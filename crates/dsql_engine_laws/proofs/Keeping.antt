-- The call that sent last keeps its turn at each event, except the call whose driver call has just landed.
use Rattle.std.proofs.Common.{◌≡◌, ◌≢◌, ℕ, ◌==◌, ◌⊎◌, inl, inr, Bool, true, false, not, ◌&&◌, ◌||◌, List, [], ◌∷◌, ◌++◌, refl, sym, ap, subst, ◌∙◌, arith}
use Rattle.std.specs.List.{list_all}
use Rattle.std.proofs.lemmas.Bool.Decides.{nat_tests}
use Rattle.dsql_engine_hearing.specs.journal.declared.entry.Entry.{Entry}
use Rattle.dsql_engine_hearing.proofs.pool.Rows.{all_filter, all_pass}
use Rattle.dsql_engine_hearing.specs.history.declared.event.Event.{Event}
use Rattle.dsql_engine_hearing.specs.history.declared.event.Event.TheVariants.{Entered, Heard, Replied}
use Rattle.dsql_engine_hearing.specs.history.declared.record.Flight.{Flight}
use Rattle.dsql_engine_hearing.specs.history.declared.reply.Reply.{Reply}
use Rattle.dsql_engine_hearing.specs.history.Readers.Unfinished.{is_unfinished}
use Rattle.dsql_engine_hearing.specs.history.Rules.Flights.{is_in_flight, without_flight}
use Rattle.dsql_engine_hearing.specs.history.Legal.{Lawful}
use Rattle.dsql_engine_hearing.proofs.laws.Numbered.{unfinished_from_one}
use Rattle.dsql_engine_hearing.proofs.laws.Places.{neither}
use Rattle.dsql_engine_hearing.proofs.laws.Tests.{both, same_number, together}
use Rattle.dsql_engine_hearing.proofs.laws_calls.BeginningsAt.{is_answer}
use Rattle.dsql_engine_hearing.proofs.laws_work.Rows.{same_or_not}
use Rattle.dsql_engine_hearing.proofs.laws_calls.Stays.{as_many}
use Rattle.dsql_engine_hearing.proofs.laws_calls.Works.{enters_next, enters_unfinished, old_unfinished, stays_unfinished, still_unfinished}
use Rattle.dsql_engine_hearing.specs.going.Stepping.{are_of_unfinished}
use Rattle.dsql_engine_hearing.specs.laws_steps.Groups.{is_later_of}
use Rattle.dsql_engine_laws.specs.Turns.{Flying, flies, is_apart, keeps_turn, sender_at}
use Rattle.dsql_engine_laws.proofs.Flights.{apart_landed, flies_landed, one_place}
use Rattle.dsql_engine_laws.proofs.Later.{Later}
use Rattle.dsql_engine_laws.proofs.Senders.{SentBy, heard_sender, quiet_sender, sender_entered}

-- Holds if `Flying` does, except that call n may have sent last on connection d without having a driver call
-- under way there.
pub record FlyingBut (n d : ℕ) (H : List Event) (flights : List Flight) : Type 0 where
  pub known : are_of_unfinished H flights ≡ true
  pub apart : is_apart flights ≡ true
  pub turns : (c : ℕ) → ((sender_at H c ≡ n) × (c ≡ d)) ⊎ (keeps_turn H flights c ≡ true)

-- A call that has its reply keeps no turn.

done_keeps : (H : List Event) (flights : List Flight) (c : ℕ) → is_unfinished H (sender_at H c) ≡ false → keeps_turn H flights c ≡ true
done_keeps H flights c done = ap (λ b. not b || flies (sender_at H c) c flights) done

pub nobody : (H : List Event) (n : ℕ) → Lawful H → n ≡ 0 → is_unfinished H n ≡ false
nobody H n l none = by (is_unfinished H n) refl
  where
    by : (b : Bool) → is_unfinished H n ≡ b → is_unfinished H n ≡ false
    by true is = absurd (unfinished_from_one H n l is none)
    by false is = is

silent_keeps : (H : List Event) (flights : List Flight) (c : ℕ) → Lawful H → sender_at H c ≡ 0 → keeps_turn H flights c ≡ true
silent_keeps H flights c l none = done_keeps H flights c (nobody H (sender_at H c) l none)

pub any_flying : (n d : ℕ) (H : List Event) (flights : List Flight) → Flying H flights → FlyingBut n d H flights
any_flying n d H flights f = record { known = f.known; apart = f.apart; turns = λ c. inr (f.turns c) }

-- The layer needs no turn.
pub all_flying : (n d : ℕ) (H : List Event) (flights : List Flight) → Lawful H → n ≡ 0 → FlyingBut n d H flights → Flying H flights
all_flying n d H flights l none f = record { known = f.known; apart = f.apart; turns = λ c. by c (f.turns c) }
  where
    by : (c : ℕ) → ((sender_at H c ≡ n) × (c ≡ d)) ⊎ (keeps_turn H flights c ≡ true) → keeps_turn H flights c ≡ true
    by c (inl is) = silent_keeps H flights c l (is.0 ∙ none)
    by c (inr keeps) = keeps

-- Each flight belongs to a call that has no reply.

-- Holds if the event is no reply of a call with a driver call under way.
abbrev Spares : Event → List Flight → Type 0
Spares (Replied n reply) flights = is_in_flight n flights ≡ false
Spares x flights = Unit {0}

known_replied : (H : List Event) (n : ℕ) (reply : Reply) (flights : List Flight) → is_in_flight n flights ≡ false → are_of_unfinished H flights ≡ true → are_of_unfinished (Replied n reply ∷ H) flights ≡ true
known_replied H n reply [] parked h = refl
known_replied H n reply (x ∷ xs) parked h =
    let a = both (is_unfinished H x.call) (are_of_unfinished H xs) h in
    let p = neither (x.call == n) (is_in_flight n xs) parked in
    let other : (n == x.call) ≡ false = grind (arith, nat_tests, p.0) in
    together (is_unfinished (Replied n reply ∷ H) x.call) (are_of_unfinished (Replied n reply ∷ H) xs) (stays_unfinished H n reply x.call other a.0) (known_replied H n reply xs p.1 a.1)

known_on : (H : List Event) (x : Event) (flights : List Flight) → Spares x flights → are_of_unfinished H flights ≡ true → are_of_unfinished (x ∷ H) flights ≡ true
known_on H (Entered client n op) flights spared h =
    all_pass (λ (f : Flight). is_unfinished H f.call) (λ (f : Flight). is_unfinished (Entered client n op ∷ H) f.call) flights (λ f u. enters_unfinished H client n op f.call u) h
known_on H (Replied n reply) flights spared h = known_replied H n reply flights spared h
known_on H _ flights spared h = h

-- A call that has its reply has no driver call under way.
pub done_parked : (H : List Event) (n : ℕ) (flights : List Flight) → is_unfinished H n ≡ false → are_of_unfinished H flights ≡ true → is_in_flight n flights ≡ false
done_parked H n [] done h = refl
done_parked H n (x ∷ xs) done h =
    let a = both (is_unfinished H x.call) (are_of_unfinished H xs) h in by (x.call == n) refl a.0 (done_parked H n xs done a.1)
  where
    by : (b : Bool) → (x.call == n) ≡ b → is_unfinished H x.call ≡ true → is_in_flight n xs ≡ false → (b || is_in_flight n xs) ≡ false
    by true is u rest = let clash : true ≡ false = sym u ∙ (ap (is_unfinished H) (same_number x.call n is) ∙ done) in absurd cc
    by false is u rest = rest

pub flying_unfinished : (H : List Event) (n c : ℕ) (flights : List Flight) → are_of_unfinished H flights ≡ true → flies n c flights ≡ true → is_unfinished H n ≡ true
flying_unfinished H n c [] known h = absurd cc
flying_unfinished H n c (x ∷ xs) known h =
    let a = both (is_unfinished H x.call) (are_of_unfinished H xs) known in by (flying_unfinished H n c xs a.1) (x.call == n) refl a.0 h
  where
    by : (flies n c xs ≡ true → is_unfinished H n ≡ true) → (b : Bool) → (x.call == n) ≡ b → is_unfinished H x.call ≡ true → ((b && (x.conn == c)) || flies n c xs) ≡ true → is_unfinished H n ≡ true
    by rest true is u k = ap (is_unfinished H) (sym (same_number x.call n is)) ∙ u
    by rest false is u k = rest k

-- An event comes.

-- If the call that sent last has no reply after an event, it had none before it.
was_unfinished : (H : List Event) (x : Event) (c : ℕ) → Lawful (x ∷ H) → is_unfinished (x ∷ H) (sender_at H c) ≡ true → is_unfinished H (sender_at H c) ≡ true
was_unfinished H (Entered client n op) c l u =
    let m = sender_at H c in
    let new = enters_next H client n op l.1 in
    let many = as_many H in
    let less = sender_entered H c l.0 in
    let apart : m ≢ n = λ same. absurd (omega (arith, new, many, less, same)) in
    sym (old_unfinished H client n op m apart) ∙ u
was_unfinished H (Replied n reply) c l u = let k = still_unfinished H n reply (sender_at H c) u in k.1
was_unfinished H _ c l u = u

as_before : (u v f : Bool) → (v ≡ true → u ≡ true) → (not u || f) ≡ true → (not v || f) ≡ true
as_before u false f more h = refl
as_before true true f more h = h
as_before false true f more h = let clash : false ≡ true = more refl in absurd cc

keeps_same : (H : List Event) (x : Event) (flights : List Flight) (c : ℕ) → Lawful (x ∷ H) → sender_at (x ∷ H) c ≡ sender_at H c → keeps_turn H flights c ≡ true → keeps_turn (x ∷ H) flights c ≡ true
keeps_same H x flights c l same keeps =
    let m = sender_at H c in
    subst (λ j. (not (is_unfinished (x ∷ H) j) || flies j c flights) ≡ true) (sym same)
    (as_before (is_unfinished H m) (is_unfinished (x ∷ H) m) (flies m c flights) (was_unfinished H x c l) keeps)

turn_same : (n d : ℕ) (H : List Event) (x : Event) (flights : List Flight) (c : ℕ) → Lawful (x ∷ H) → sender_at (x ∷ H) c ≡ sender_at H c
    → ((sender_at H c ≡ n) × (c ≡ d)) ⊎ (keeps_turn H flights c ≡ true) → ((sender_at (x ∷ H) c ≡ n) × (c ≡ d)) ⊎ (keeps_turn (x ∷ H) flights c ≡ true)
turn_same n d H x flights c l same (inl is) = inl (same ∙ is.0, is.1)
turn_same n d H x flights c l same (inr keeps) = inr (keeps_same H x flights c l same keeps)

-- An event other than an answer keeps the turns.
pub quiet_on : (n d : ℕ) (H : List Event) (x : Event) (flights : List Flight) → Lawful (x ∷ H) → is_answer x ≡ false → Spares x flights → FlyingBut n d H flights → FlyingBut n d (x ∷ H) flights
quiet_on n d H x flights l quiet spared f = record { known = known_on H x flights spared f.known; apart = f.apart; turns = λ c. by c (quiet_sender H x c l quiet) }
  where
    by : (c : ℕ) → (sender_at (x ∷ H) c ≡ sender_at H c) ⊎ (sender_at (x ∷ H) c ≡ 0) → ((sender_at (x ∷ H) c ≡ n) × (c ≡ d)) ⊎ (keeps_turn (x ∷ H) flights c ≡ true)
    by c (inl same) = turn_same n d H x flights c l same (f.turns c)
    by c (inr none) = inr (silent_keeps (x ∷ H) flights c l none)

-- An answer keeps the turns.
pub heard_on : (H : List Event) (e : Entry) (flights : List Flight) → Lawful (Heard e ∷ H) → FlyingBut e.call_no e.conn H flights → FlyingBut e.call_no e.conn (Heard e ∷ H) flights
heard_on H e flights l f = record { known = f.known; apart = f.apart; turns = λ c. by c (heard_sender H e c) }
  where
    by : (c : ℕ) → (sender_at (Heard e ∷ H) c ≡ sender_at H c) ⊎ SentBy e c (sender_at (Heard e ∷ H) c)
        → ((sender_at (Heard e ∷ H) c ≡ e.call_no) × (c ≡ e.conn)) ⊎ (keeps_turn (Heard e ∷ H) flights c ≡ true)
    by c (inl same) = turn_same e.call_no e.conn H (Heard e) flights c l same (f.turns c)
    by c (inr sent) = inl (sent.sender, sym sent.at)

-- The later events of a step of a call with no driver call under way.

later_quiet : (n : ℕ) (x : Event) → is_later_of n x ≡ true → is_answer x ≡ false
later_quiet n (Heard e) h = absurd cc
later_quiet n x h = refl

later_spares : (n : ℕ) (x : Event) (flights : List Flight) → is_in_flight n flights ≡ false → is_later_of n x ≡ true → Spares x flights
later_spares n (Replied m reply) flights parked h = ap (λ j. is_in_flight j flights) (same_number m n h) ∙ parked
later_spares n _ flights parked h = tt

events_on : (k n d : ℕ) (H : List Event) (events : List Event) (flights : List Flight) → Lawful (events ++ H) → list_all (is_later_of k) events ≡ true → is_in_flight k flights ≡ false → FlyingBut n d H flights
    → FlyingBut n d (events ++ H) flights
events_on k n d H [] flights l later parked f = f
events_on k n d H (x ∷ events) flights l later parked f =
    let a = both (is_later_of k x) (list_all (is_later_of k) events) later in
    quiet_on n d (events ++ H) x flights l (later_quiet k x a.0) (later_spares k x flights parked a.0) (events_on k n d H events flights l.0 a.1 parked f)

pub later_on : (k n d : ℕ) (H K : List Event) (flights : List Flight) → Later k H K → Lawful K → is_in_flight k flights ≡ false → FlyingBut n d H flights → FlyingBut n d K flights
later_on k n d H K flights more l parked f =
    subst (λ G. FlyingBut n d G flights) (sym more.whole)
    (events_on k n d H more.events flights (subst (λ G. Lawful G) more.whole l) more.later parked f)

-- A driver call lands.

pub landing : (H : List Event) (n d : ℕ) (flights : List Flight) → Flying H flights → flies n d flights ≡ true → FlyingBut n d H (without_flight n flights)
landing H n d flights f at = record {
  known = all_filter (λ (x : Flight). is_unfinished H x.call) (λ (x : Flight). not (x.call == n)) flights f.known;
  apart = apart_landed n flights f.apart;
  turns = λ c. by c (same_or_not (sender_at H c) n);
}
  where
    of_another : (c : ℕ) (u : Bool) → sender_at H c ≢ n → (not u || flies (sender_at H c) c flights) ≡ true → (not u || flies (sender_at H c) c (without_flight n flights)) ≡ true
    of_another c false apart keeps = refl
    of_another c true apart keeps = flies_landed (sender_at H c) n c flights apart keeps

    its_own : (c : ℕ) → sender_at H c ≡ n → (not (is_unfinished H (sender_at H c)) || flies (sender_at H c) c flights) ≡ true → c ≡ d
    its_own c is keeps =
        let u = flying_unfinished H n d flights f.known at in
        let k : (not (is_unfinished H n) || flies n c flights) ≡ true = subst (λ j. (not (is_unfinished H j) || flies j c flights) ≡ true) is keeps in
        let there : flies n c flights ≡ true = ap (λ b. not b || flies n c flights) (sym u) ∙ k in
        one_place n c d flights f.apart there at

    by : (c : ℕ) → (sender_at H c ≡ n) ⊎ (sender_at H c ≢ n) → ((sender_at H c ≡ n) × (c ≡ d)) ⊎ (keeps_turn H (without_flight n flights) c ≡ true)
    by c (inl is) = inl (is, its_own c is (f.turns c))
    by c (inr apart) = inr (of_another c (is_unfinished H (sender_at H c)) apart (f.turns c))
