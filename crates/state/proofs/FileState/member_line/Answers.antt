use mathlib.Core.Path.{sym}
use Prim.Native.Nat.{◌<◌}
use native.Mathlib.Omega.{arith}
use Rattle.std.proofs.lemmas.Result.{err_from_is_err_and}
use Rattle.algebra.specs.Meant.{sort_meant}
use Rattle.names.specs.Looks.{member_count, most_members}
use Rattle.names.specs.declared.table.TheConstants.{MOST_ACTIONS}
use Rattle.state.proofs.Adding.{member_stands}
use Rattle.state.proofs.Lines.{names_stand}
use Rattle.state.proofs.Names.{most_is}
use Rattle.state.proofs.FileState.member_line.Goals as goal

pub returns-in_err-parent-clause-line_judged : goal.returns-in_err-parent-clause-line_judged
returns-in_err-parent-clause-line_judged c w d S =
    let p = err_from_is_err_and c.from_residual.result c.from_residual.ensures.1 in
    rw (p.1, p.2) (c.in_err-parent.ensures.joins d (names_stand _ d S.names) (sym S.is_group))

pub add_member-requires : goal.add_member-requires
add_member-requires c =
    let σ = sort_meant c.args.s in
    let joins = c.in_ok-parent.ensures.may_join in
    let room : member_count c.args.self.now.names σ < most_members MOST_ACTIONS σ = rw (← most_is σ) joins.0 in
    (omega arith, (room, joins.1))

pub returns-clause-line_judged : goal.returns-clause-line_judged
returns-clause-line_judged c w d S =
    let J = c.in_ok-parent.ensures.joins d (names_stand _ d S.names) (sym S.is_group) in
    (J.is_good, rw c.from-self.ensures (member_stands w _ d S _ _ _ c.add_member.ensures _ J))
