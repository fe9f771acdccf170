-- The parts of the tag are the words and the digits.
use Rattle.dsql_timeline_page.proofs.head.append_frame.Goals as goal

pub returns : goal.returns
returns c = rw (← c.picture_word-word.ensures, ← c.format.ensures.text, ← c.format-2.ensures.text) c.append_all.ensures
