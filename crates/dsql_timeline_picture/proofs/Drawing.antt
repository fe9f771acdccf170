-- Bars that are drawn one after another: what is drawn and what is left to draw are together the whole.
use Rattle.std.proofs.Common.{◌≡◌, ℕ, ◌+◌, ◌<◌, ◌≤◌, List, [], ◌∷◌, ◌++◌, length, get_or, drop, refl, ap, subst, ◌∙◌, append_assoc, arith}
use Rattle.std.specs.List.{flat_map}
use Rattle.std.proofs.lemmas.List.{append-nil, drop_more, drop_all}
use Rattle.dsql_history.specs.declared.event.Event.{Event}
use Rattle.dsql_timeline_picture.specs.Lanes.{Rows}
use Rattle.dsql_timeline_picture.specs.Pictures.{Drawn, drawn_text, lane, lanes_from, event_drawn, bars_from}

-- One more is drawn.
more : {X : Type 0} (f : X → List ℕ) (page next whole : List ℕ) (x : X) (xs : List X) → page ++ flat_map f (x ∷ xs) ≡ whole → next ≡ page ++ f x → next ++ flat_map f xs ≡ whole
more f page next whole x xs so_far is = rw is (append_assoc page (f x) (flat_map f xs) ∙ so_far)

-- Nothing is left to draw.
none_left : {X Y : Type 0} (f : X → List ℕ) (from : List Y → List X) (page whole : List ℕ) (ys : List Y) (i : ℕ) → from [] ≡ [] → length ys ≤ i → page ++ flat_map f (from (drop i ys)) ≡ whole → page ≡ whole
none_left f from page whole ys i empty past so_far =
    let nothing : from (drop i ys) ≡ [] = ap from (drop_all i ys past) ∙ empty in
    let bare : page ++ flat_map f [] ≡ whole = rw nothing at so_far in
    rw append-nil at bare

pub lanes_more : (name : List ℕ) (columns first i d : ℕ) (numbers page next whole : List ℕ) → i < length numbers → page ++ flat_map drawn_text (lanes_from name columns (first + i) (drop i numbers)) ≡ whole
    → next ≡ page ++ drawn_text (lane columns (first + i) name (get_or numbers i d)) → next ++ flat_map drawn_text (lanes_from name columns (first + (i + 1)) (drop (i + 1) numbers)) ≡ whole
lanes_more name columns first i d numbers page next whole within so_far is =
    let number = get_or numbers i d in
    let left = drop (i + 1) numbers in
    let here : page ++ flat_map drawn_text (lanes_from name columns (first + i) (number ∷ left)) ≡ whole = subst (λ (xs : List ℕ). page ++ flat_map drawn_text (lanes_from name columns (first + i) xs) ≡ whole) (drop_more numbers i d within) so_far in
    let place : first + i + 1 ≡ first + (i + 1) = omega arith in
    subst (λ (k : ℕ). next ++ flat_map drawn_text (lanes_from name columns k left) ≡ whole) place
    (more drawn_text page next whole (lane columns (first + i) name number) (lanes_from name columns (first + i + 1) left) here is)

pub lanes_all : (name : List ℕ) (columns first i : ℕ) (numbers page whole : List ℕ) → length numbers ≤ i → page ++ flat_map drawn_text (lanes_from name columns (first + i) (drop i numbers)) ≡ whole → page ≡ whole
lanes_all name columns first i numbers page whole past so_far = none_left drawn_text (lanes_from name columns (first + i)) page whole numbers i refl past so_far

pub bars_more : (lanes : Rows) (i : ℕ) (d : Event) (events : List Event) (page next whole : List ℕ) → i < length events → page ++ flat_map drawn_text (bars_from lanes i (drop i events)) ≡ whole
    → next ≡ page ++ drawn_text (event_drawn lanes i (get_or events i d) (drop (i + 1) events)) → next ++ flat_map drawn_text (bars_from lanes (i + 1) (drop (i + 1) events)) ≡ whole
bars_more lanes i d events page next whole within so_far is =
    let event = get_or events i d in
    let later = drop (i + 1) events in
    let here : page ++ flat_map drawn_text (bars_from lanes i (event ∷ later)) ≡ whole = subst (λ (es : List Event). page ++ flat_map drawn_text (bars_from lanes i es) ≡ whole) (drop_more events i d within) so_far in
    more drawn_text page next whole (event_drawn lanes i event later) (bars_from lanes (i + 1) later) here is

pub bars_all : (lanes : Rows) (i : ℕ) (events : List Event) (page whole : List ℕ) → length events ≤ i → page ++ flat_map drawn_text (bars_from lanes i (drop i events)) ≡ whole → page ≡ whole
bars_all lanes i events page whole past so_far = none_left drawn_text (bars_from lanes i) page whole events i refl past so_far
