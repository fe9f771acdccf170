-- What a reader of lines holds.
use Rattle.std.specs.Prelude.{ℕ, Bool, List}

-- A reader's state: the bytes that were read and not handed out, and whether the reader saw the source's end.
pub record Buffered : Type 0 where
  pub pending : List ℕ
  pub ended : Bool
