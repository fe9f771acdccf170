-- How many events of a history are counted. The counts are the same in either order, and each event adds at
-- most one to each.
use Rattle.std.proofs.Common.{◌≡◌, ℕ, ◌+◌, ◌<◌, Bool, List, length, take, get_or, refl, ap, ◌∙◌, arith}
use Rattle.std.specs.Prelude.{count_by, reverse}
use Rattle.std.proofs.lemmas.List.{take_more}
use Rattle.std.proofs.lemmas.List.Sorted.{IsPermutation-reverse, sum_by-IsPermutation}
use Rattle.std.proofs.lemmas.List.Sums.{count_by-le-length, sum_by_push}
use Rattle.dsql_script_show.specs.Counting.{IsBelow, one_if}
use Rattle.dsql_history.specs.declared.event.Event.{Event}
use Rattle.dsql_script_show.specs.Summary.{enters, hears, opens, replies_ok, replies_err, summary_of, with_event}

either_order : {X : Type 0} (p : X → Bool) (xs : List X) → count_by p (reverse xs) ≡ count_by p xs
either_order {X} p xs = sum_by-IsPermutation (λ (y : X). one_if (p y)) xs (reverse xs) (IsPermutation-reverse xs)

up_to : {X : Type 0} (p : X → Bool) (xs : List X) (i : ℕ) (d : X) → i < length xs → count_by p (take (i + 1) xs) ≡ count_by p (take i xs) + one_if (p (get_or xs i d))
up_to {X} p xs i d within = ap (count_by p) (take_more xs i d within) ∙ sum_by_push (λ (y : X). one_if (p y)) (take i xs) (get_or xs i d)

-- The summary of the first events and one more is that of the first events with this event added.
pub one_more : (lines : ℕ) (h : List Event) (i : ℕ) (d : Event) → i < length h → summary_of lines (take (i + 1) h) ≡ with_event (get_or h i d) (summary_of lines (take i h))
one_more lines h i d within = rw (up_to enters h i d within, up_to opens h i d within, up_to hears h i d within, up_to replies_ok h i d within, up_to replies_err h i d within) refl

pub newest_first : (lines : ℕ) (h : List Event) → summary_of lines (reverse h) ≡ summary_of lines h
newest_first lines h = rw (either_order enters h, either_order opens h, either_order hears h, either_order replies_ok h, either_order replies_err h) refl

few : (p : Event → Bool) (h : List Event) (most : ℕ) → length h < most → count_by p h < most
few p h most within = let most_of_all = count_by-le-length p h in omega (arith, most_of_all, within)

pub below : (lines : ℕ) (h : List Event) (most : ℕ) → length h < most → IsBelow (summary_of lines h) most
below lines h most within = record {
  calls = few enters h most within;
  connections = few opens h most within;
  entries = few hears h most within;
  oks = few replies_ok h most within;
  errors = few replies_err h most within;
}
