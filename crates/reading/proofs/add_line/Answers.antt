use Rattle.reading.proofs.Others.{bodied}
use Rattle.reading.proofs.add_line.Goals as goal

pub returns-in-Root-clause-judged : goal.returns-in-Root-clause-judged
returns-in-Root-clause-judged c d S low = rw c.in-Root.is (c.member_line.ensures.line_judged _ d S)

pub returns-in-Child-clause-judged : goal.returns-in-Child-clause-judged
returns-in-Child-clause-judged c d S low = rw c.in-Child.is (c.member_line-in-Child.ensures.line_judged _ d S)

pub returns-in-Predicate-clause-judged : goal.returns-in-Predicate-clause-judged
returns-in-Predicate-clause-judged c d S low = rw c.in-Predicate.is (c.predicate_line.ensures.line_judged _ d S)

pub returns-in-Table-clause-judged : goal.returns-in-Table-clause-judged
returns-in-Table-clause-judged c d S low = rw c.in-Table.is (c.table_line.ensures.line_judged _ d S)

pub returns-in-Rule-clause-judged : goal.returns-in-Rule-clause-judged
returns-in-Rule-clause-judged c d S low = rw c.in-Rule.is (c.add_rule.ensures.line_judged _ d S)

pub returns-in_default-clause-judged : goal.returns-in_default-clause-judged
returns-in_default-clause-judged c d S low =
    let n = c.in_default in
    let b = bodied c.args.l n.not-Root n.not-Child n.not-Predicate n.not-Table n.not-Grant n.not-Rule low in
    rw b.is (c.add_body.ensures.line_judged _ d b.body S b.is)
