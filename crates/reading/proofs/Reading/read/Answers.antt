use Rattle.std.proofs.Common.{◌*◌, ◌<◌, ◌/◌, length, drop, refl, sym, ap, ◌∙◌, arith}
use denote.Enum.Bare.{differs_true, differs_false}
use Rattle.state.specs.Standing.{group_number}
use Rattle.state.specs.contracts.Group.{the_type}
use Rattle.state.specs.declared.Group.TheVariants.{Expression}
use Rattle.reading.proofs.Cut.{no_file}
use Rattle.reading.proofs.Reached.{none_at_start, beyond_later, ends, line_no, line_done, none_until, line_until, end_until, no_end, all_read}
use Rattle.reading.proofs.Reached.{expression_group}
use Rattle.std.proofs.lemmas.Bool.Decides.{nat_tests}
use Rattle.reading.proofs.Reading.read.Goals as goal

pub returns-then-not-is_file-clause-read_as : goal.returns-then-not-is_file-clause-read_as
returns-then-not-is_file-clause-read_as c = no_file _ (sym c.is_file.ensures ∙ c.if-not-is_file.true)

pub returns-then-not-is_file-clause-counted : goal.returns-then-not-is_file-clause-counted
returns-then-not-is_file-clause-counted c = none_until _ c.args.w.now _ (sym c.is_file.ensures ∙ c.if-not-is_file.true) (c.requires.fresh _)

pub loop-rest-init : goal.loop-rest-init
loop-rest-init c =
    record { room = refl; lines_read = none_at_start _ _ _ (sym c.is_file.ensures ∙ c.if-not-is_file.false) (c.requires.fresh _); beyond = refl }

pub returns-in-Err-clause-read_as : goal.returns-in-Err-clause-read_as
returns-in-Err-clause-read_as c =
    let R = c.loop-rest.invariant.lines_read.reached in
    let more : 0 < length c.loop-rest.rest.now = grind (arith, nat_tests) in
    line_no _ _ _ _ _ _ R more c.piece_end-end.ensures.value _ _ (c.in-Err.ensures.read R.declared R.stands)

pub returns-in-Err-clause-w_unchanged : goal.returns-in-Err-clause-w_unchanged
returns-in-Err-clause-w_unchanged c = let k = c.in-Err.ensures.kept in rw (k.0, k.1) c.loop-rest.invariant.beyond

pub returns-in-Err-clause-counted : goal.returns-in-Err-clause-counted
returns-in-Err-clause-counted c =
    rw c.in-Err.ensures.kept.0
    (line_until _ _ _ _ _ (sym c.is_file.ensures ∙ c.if-not-is_file.false) c.loop-rest.invariant.lines_read)

pub returns-in-Err-clause-few_written : goal.returns-in-Err-clause-few_written
returns-in-Err-clause-few_written c =
    let I = c.loop-rest.invariant in
    let r = I.lines_read.reached.room in
    ap (drop (2 * (length c.args.file.now / 9))) c.in-Err.ensures.kept.1 ∙ beyond_later _ _ (2 * c.loop-rest.self.state.grants) _ (omega arith) I.beyond

pub slice_bounds-rest-count : goal.slice_bounds-rest-count
slice_bounds-rest-count c =
    let more : 0 < length c.loop-rest.rest.now = grind (arith, nat_tests) in
    let e = ends _ _ _ _ _ _ c.loop-rest.invariant.lines_read.reached more c.piece_end-end.ensures.value in
    omega arith

pub slice_bounds-rest-start : goal.slice_bounds-rest-start
slice_bounds-rest-start c =
    let more : 0 < length c.loop-rest.rest.now = grind (arith, nat_tests) in
    let e = ends _ _ _ _ _ _ c.loop-rest.invariant.lines_read.reached more c.piece_end-end.ensures.value in
    omega arith

pub loop-rest-preserved : goal.loop-rest-preserved
loop-rest-preserved c =
    let I = c.loop-rest.invariant in
    let B = I.lines_read in
    let more : 0 < length c.loop-rest.rest.now = grind (arith, nat_tests) in
    let L = c.in_default.ensures.read B.reached.declared B.reached.stands in
    let few = L.no_fewer in
    record {
      room = omega (arith, c.read_line.auto.w, I.room);
      lines_read = line_done _ _ _ _ _ _ B more c.piece_end-end.ensures.value _ _ L;
      beyond = c.in_default.ensures.beyond ∙ beyond_later _ _ (2 * c.loop-rest.self.state.grants) _ (omega arith) I.beyond;
    }

-- a file without an E line that is taken fails here
pub returns-clause-read_as : goal.returns-clause-read_as
returns-clause-read_as c =
    let I = c.loop-rest.invariant in
    let ended = differs_false the_type tt c.loop-rest.self.state.group Expression (sym c.ne-unended.ensures ∙ c.if-unended.false) in
    all_read _ _ _ _ _ I.lines_read.reached (grind (arith, nat_tests)) (ap group_number ended)

pub returns-then-unended-clause-read_as : goal.returns-then-unended-clause-read_as
returns-then-unended-clause-read_as c =
    let I = c.loop-rest.invariant in
    let other = differs_true the_type _ _ (sym c.ne-unended.ensures ∙ c.if-unended.true) in
    no_end _ _ _ _ _ I.lines_read.reached (grind (arith, nat_tests)) (λ e. other (expression_group _ e))

pub returns-then-unended-clause-counted : goal.returns-then-unended-clause-counted
returns-then-unended-clause-counted c =
    let I = c.loop-rest.invariant in
    end_until _ _ _ _ _ (sym c.is_file.ensures ∙ c.if-not-is_file.false) I.lines_read (grind (arith, nat_tests))

pub returns-then-unended-clause-few_written : goal.returns-then-unended-clause-few_written
returns-then-unended-clause-few_written c =
    let I = c.loop-rest.invariant in
    let r = I.lines_read.reached.room in
    beyond_later _ _ (2 * c.loop-rest.self.state.grants) _ (omega arith) I.beyond

pub returns-clause-few_written : goal.returns-clause-few_written
returns-clause-few_written c =
    let I = c.loop-rest.invariant in
    let r = I.lines_read.reached.room in
    beyond_later _ _ (2 * c.loop-rest.self.state.grants) _ (omega arith) I.beyond
