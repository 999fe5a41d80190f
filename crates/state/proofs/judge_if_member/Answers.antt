use Rattle.state.proofs.MemberLines.{no_member, root_line, child_line}
use Rattle.state.proofs.judge_if_member.Goals as goal

pub returns-in-Root : goal.returns-in-Root
returns-in-Root g c d ns e = root_line d c.args.l _ _ _ c.in-Root.is (c.judge_joining.ensures.joins d ns e)

pub returns-in-Child : goal.returns-in-Child
returns-in-Child g c d ns e = child_line d c.args.l _ _ _ _ c.in-Child.is (c.judge_joining-in-Child.ensures.joins d ns e)

pub returns-in_default : goal.returns-in_default
returns-in_default g c d ns e = no_member c.args.l c.in_default.not-Root c.in_default.not-Child
