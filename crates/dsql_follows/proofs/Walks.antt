-- Proves that a walk over events can be made in two stages.
use Rattle.std.proofs.Common.{◌≡◌, List, [], ◌∷◌, ◌++◌, refl, ap}
use Rattle.dsql_history.specs.declared.event.Event.{Event}
use Rattle.dsql_follows.specs.Moments.{Moment, begins_step, rested, with_event, walk}

pub now_goes_on : (m : Moment) (newer older : List Event) → (walk m (newer ++ older)).now ≡ (walk (walk m older).now newer).now
now_goes_on m [] older = refl
now_goes_on m (e ∷ newer) older = ap (λ now. with_event e (rested (begins_step now e) now)) (now_goes_on m newer older)

pub passed_goes_on : (m : Moment) (newer older : List Event) → (walk m (newer ++ older)).passed ≡ (walk (walk m older).now newer).passed ++ (walk m older).passed
passed_goes_on m [] older = refl
passed_goes_on m (e ∷ newer) older =
    let h : (walk m (newer ++ older)).now ≡ (walk (walk m older).now newer).now = now_goes_on m newer older in
    let k : (walk m (newer ++ older)).passed ≡ (walk (walk m older).now newer).passed ++ (walk m older).passed = passed_goes_on m newer older in
    rw (h, k) refl
