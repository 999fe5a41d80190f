use mathlib.Core.Path.{sym, subst}
use Rattle.reading.specs.Reading.{ReadAs, read_of}
use Rattle.running.proofs.Lent.{lent_part, lent_cleared}
use Rattle.running.proofs.read_into.Goals as goal

pub returns : goal.returns
returns c =
    let read = c.read in
    let args = c.args in
    record {
      read_as = subst (λ p. ReadAs args.f.now p (read_of read.new.self read.result))
          (sym (lent_part args.w.now read.new.w c.requires.lent read.auto.w)) read.ensures.read_as;
      w_unchanged = lent_cleared args.w.now read.new.w c.requires.lent read.auto.w;
    }
