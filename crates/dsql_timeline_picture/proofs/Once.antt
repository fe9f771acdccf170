-- Each event and each lane is drawn once: the bars are made one by one from the events and from the lanes' numbers.
use Rattle.std.proofs.Common.{◌≡◌, ℕ, zero, suc, ◌+◌, List, [], ◌∷◌, ◌++◌, length, map, refl, ap, subst, ◌∙◌, arith}
use Rattle.std.specs.List.{enumerate_from, range_with_len}
use Rattle.std.specs.Prelude.{codes}
use Rattle.std.proofs.lemmas.List.{map-append}
use Rattle.dsql_history.specs.declared.event.Event.{Event}
use Rattle.dsql_script_report.specs.Lines.{line_of}
use Rattle.dsql_timeline_page.specs.declared.bar.Class.{Class}
use Rattle.dsql_timeline_picture.specs.Lanes.{Rows}
use Rattle.dsql_timeline_picture.specs.Kinds.{class_of}
use Rattle.dsql_timeline_picture.specs.Pictures.{Drawn, lanes_from, lanes_drawn, bars_from}

abbrev pub begins_at : Drawn → ℕ × List ℕ
begins_at d = (d.bar.column, d.title)

abbrev pub shows : Drawn → Class
shows d = d.bar.class

pub columns : (lanes : Rows) (i : ℕ) (events : List Event) → map begins_at (bars_from lanes i events) ≡ enumerate_from i (map line_of events)
columns lanes i [] = refl
columns lanes i (event ∷ later) = ap (λ (xs : List (ℕ × List ℕ)). (i, line_of event) ∷ xs) (columns lanes (i + 1) later)

pub classes : (lanes : Rows) (i : ℕ) (events : List Event) → map shows (bars_from lanes i events) ≡ map class_of events
classes lanes i [] = refl
classes lanes i (event ∷ later) = ap (λ (xs : List Class). class_of event ∷ xs) (classes lanes (i + 1) later)

abbrev pub number : Drawn → ℕ
number d = d.bar.owner

abbrev pub place : Drawn → ℕ
place d = d.bar.row

numbers_from : (name : List ℕ) (columns first : ℕ) (numbers : List ℕ) → map number (lanes_from name columns first numbers) ≡ numbers
numbers_from name columns first [] = refl
numbers_from name columns first (x ∷ numbers) = ap (λ (xs : List ℕ). x ∷ xs) (numbers_from name columns (first + 1) numbers)

places_from : (name : List ℕ) (columns first : ℕ) (numbers : List ℕ) → map place (lanes_from name columns first numbers) ≡ range_with_len first (length numbers)
places_from name columns first [] = refl
places_from name columns first (x ∷ numbers) = ap (λ (xs : List ℕ). first ∷ xs) (places_from name columns (first + 1) numbers)

range-append : (a n m : ℕ) → range_with_len a n ++ range_with_len (a + n) m ≡ range_with_len a (n + m)
range-append a zero m =
    let start : a + 0 ≡ a = omega arith in
    let count : 0 + m ≡ m = omega arith in
    rw (start, count) refl
range-append a (suc n) m =
    let start : a + 1 + n ≡ a + suc n = omega arith in
    let count : suc (n + m) ≡ suc n + m = omega arith in
    subst (λ (k : ℕ). range_with_len a (suc n) ++ range_with_len (a + suc n) m ≡ range_with_len a k) count
    (subst (λ (k : ℕ). a ∷ (range_with_len (a + 1) n ++ range_with_len k m) ≡ a ∷ range_with_len (a + 1) (n + m)) start (ap (λ (xs : List ℕ). a ∷ xs) (range-append (a + 1) n m)))

pub numbers : (lanes : Rows) (columns : ℕ) → map number (lanes_drawn lanes columns) ≡ lanes.conns ++ lanes.clients
numbers lanes columns =
    let conns = lanes_from (codes "connection") columns 1 lanes.conns in
    let clients = lanes_from (codes "client") columns (1 + length lanes.conns) lanes.clients in
    map-append number conns clients
    ∙ rw (numbers_from (codes "connection") columns 1 lanes.conns, numbers_from (codes "client") columns (1 + length lanes.conns) lanes.clients) refl

pub places : (lanes : Rows) (columns : ℕ) → map place (lanes_drawn lanes columns) ≡ range_with_len 1 (length lanes.conns + length lanes.clients)
places lanes columns =
    let conns = lanes_from (codes "connection") columns 1 lanes.conns in
    let clients = lanes_from (codes "client") columns (1 + length lanes.conns) lanes.clients in
    map-append place conns clients
    ∙ rw (places_from (codes "connection") columns 1 lanes.conns, places_from (codes "client") columns (1 + length lanes.conns) lanes.clients) (range-append 1 (length lanes.conns) (length lanes.clients))
