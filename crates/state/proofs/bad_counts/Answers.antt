use borrow.Author.Tests.{eq-eqb, ne_eqb}
use Rattle.state.specs.Judged.{bad_counts_of}
use Rattle.state.proofs.Turns.{past_members, at_members, of_members, after_members}
use Rattle.state.proofs.bad_counts.Goals.{then-le-via-then-le, then-le-via-else-le+then-lt}
use Rattle.state.proofs.bad_counts.Goals.{then-n-eq0-via-then-n-eq0, then-n-eq0-via-else-n-eq0+then-n-eq0-2}
use Rattle.state.proofs.bad_counts.Goals.{then-n-eq0-via-else-n-eq0+else-n-eq0-2+then-n-eq0-3}
use Rattle.state.proofs.bad_counts.Goals as goal

pub returns-then-le : goal.returns-then-le
unfolding bad_counts_of
returns-then-le c =
    elim c.then-le.branch [
      | then-le-via-then-le w ↦ simp (past_members c.args.group c.le.ensures w.if-le.true)
      | then-le-via-else-le+then-lt w ↦ simp (at_members c.args.group c.le.ensures w.if-le.false, of_members c.args.g w.lt.ensures w.if-lt.true)
    ]

pub returns-then-n-eq0 : goal.returns-then-n-eq0
unfolding bad_counts_of
returns-then-n-eq0 c =
    let p = at_members c.args.group c.le.ensures c.if-le.false in
    let q = after_members c.args.g c.lt.ensures c.if-lt.false in
    elim c.then-n-eq0.branch [
      | then-n-eq0-via-then-n-eq0 w ↦ simp (p, q, eq-eqb _ 0 w.if-n-eq0.true)
      | then-n-eq0-via-else-n-eq0+then-n-eq0-2 w ↦ simp (p, q, ne_eqb _ 0 w.if-n-eq0.false, eq-eqb _ 0 w.if-n-eq0-2.true)
      | then-n-eq0-via-else-n-eq0+else-n-eq0-2+then-n-eq0-3 w ↦
          simp (p, q, ne_eqb _ 0 w.if-n-eq0.false, ne_eqb _ 0 w.if-n-eq0-2.false, eq-eqb _ 0 w.if-n-eq0-3.true)
    ]

pub returns : goal.returns
unfolding bad_counts_of
returns c =
    rw (c.from.ensures, c.from-2.ensures, c.from-3.ensures) (simp (
      at_members c.args.group c.le.ensures c.if-le.false,
      after_members c.args.g c.lt.ensures c.if-lt.false,
      ne_eqb _ 0 c.if-n-eq0.false,
      ne_eqb _ 0 c.if-n-eq0-2.false,
      ne_eqb _ 0 c.if-n-eq0-3.false,
    ))
