use Rattle.files.proofs.Taken.{taken}
use Rattle.files.proofs.read_text.Goals as goal

pub returns : goal.returns
returns g c =
    taken _ 65536 _ _ _ c.take.ensures.limit c.new-text.ensures.items (rw c.take.ensures.inner at c.in_ok-read_to_end.ensures.bytes)
