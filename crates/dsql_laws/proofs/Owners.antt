-- Proves that the owner for which a call asks has the call's number and isn't the House.
use Rattle.std.proofs.Common.{◌≡◌, ℕ, false, List, refl}
use Rattle.dsql_history.specs.journal.Kinds.{is_house, number_of}
use Rattle.dsql_history.specs.declared.event.Event.{Event}
use Rattle.dsql_history.specs.declared.work.Work.{Work}
use Rattle.dsql_history.specs.declared.work.Work.TheVariants.{Begin}
use Rattle.dsql_history.specs.Readers.Works.{work, owner_as, owner_of}

number_as : (w : Work) (n : ℕ) → number_of (owner_as w n) ≡ n
number_as (Begin label level read_only) n = refl
number_as w n = refl

house_as : (w : Work) (n : ℕ) → is_house (owner_as w n) ≡ false
house_as (Begin label level read_only) n = refl
house_as w n = refl

pub owner_number : (H : List Event) (n : ℕ) → number_of (owner_of H n) ≡ n
owner_number H n = number_as (work H n) n

pub owner_not_house : (H : List Event) (n : ℕ) → is_house (owner_of H n) ≡ false
owner_not_house H n = house_as (work H n) n
