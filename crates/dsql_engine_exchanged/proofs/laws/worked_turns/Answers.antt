use Rattle.std.proofs.Common.{refl, true, false}
use Rattle.dsql_history.specs.course.declared.course.Wish.TheVariants as wishes
use Rattle.dsql_engine_exchanged.proofs.laws.worked_turns.Goals as goal

pub returns : goal.returns
returns c =
    record {
      inside = (
        record { bad = false; wish = wishes.Close; due = refl; fits = refl },
        (
          record { bad = false; wish = wishes.Fetch; due = refl; fits = refl },
          (record { bad = false; wish = wishes.Nothing; due = refl; fits = refl }, (record { bad = false; wish = wishes.Nothing; due = refl; fits = refl }, tt)),
        ),
      );
      begin = ((true, refl), ((true, refl), tt));
    }
