-- The closings are carried out one after another.
use Rattle.std.proofs.Common.{◌≡◌, List, slice_get, Some, ap, sym, ◌∙◌, arith}
use Rattle.std.proofs.lemmas.Option.{get_or_from_slice_get, slice_get_within}
use Rattle.dsql_pool.specs.declared.moves.Move.{Move}
use Rattle.dsql_pool.proofs.Closed.{closes_at, made_next}
use Rattle.dsql_pool.proofs.pool.Pool.close_noted.Goals as goal

pub close_one-requires : goal.close_one-requires
close_one-requires c =
    let moves = c.args.self.now.moves in
    let at = c.loop-at.at in
    let m = c.noted-closing.result in
    let there : slice_get moves at ≡ Some m = ap (λ (ms : List Move). slice_get ms at) (sym c.loop-at.invariant.1) ∙ c.noted-closing.ensures in
    closes_at moves at m m (slice_get_within moves at m there) (get_or_from_slice_get moves at m m there) c.requires

pub loop-at-preserved : goal.loop-at-preserved
loop-at-preserved c =
    let moves = c.args.self.now.moves in
    let at = c.loop-at.at in
    let m = c.noted-closing.result in
    let there : slice_get moves at ≡ Some m = ap (λ (ms : List Move). slice_get ms at) (sym c.loop-at.invariant.1) ∙ c.noted-closing.ensures in (
      made_next moves at m m c.args.self.now.pooled c.loop-at.self.pooled _ (slice_get_within moves at m there) (get_or_from_slice_get moves at m m there) c.loop-at.invariant.0 c.close_one.ensures.pooled,
      c.close_one.ensures.moves ∙ c.loop-at.invariant.1,
      c.close_one.ensures.drawn ∙ c.loop-at.invariant.2,
      omega (arith, c.loop-at.invariant.3, c.close_one.ensures.spare),
      c.close_one.ensures.capacity ∙ c.loop-at.invariant.4,
    )
