use Rattle.std.proofs.Common.{refl, sym, ap, ◌∙◌}
use Rattle.std.proofs.lemmas.Result.{err_from_is_err_and}
use Rattle.std.proofs.Math.Option.{some}
use Rattle.reader.specs.Declarations.{group_of}
use Rattle.lines.specs.Parsed.{line_of}
use Rattle.reading.proofs.Others.{no_end_line}
use Rattle.reading.proofs.Reached.{same_reading, malformed, placeless, low_added, goal_read}
use Rattle.reading.proofs.read_line.Goals as goal

pub returns-in_default-clause-read : goal.returns-in_default-clause-read
returns-in_default-clause-read c d S = malformed d _ _ c.in_default.ensures c.from.ensures.0 c.from.ensures.1

pub returns-in_err-add_line-in_default-l : goal.returns-in_err-add_line-in_default-l
returns-in_err-add_line-in_default-l c =
    let p = err_from_is_err_and c.from_residual.result c.from_residual.ensures.1 in
    record {
      read = λ d S. rw p.1
          (placeless d _ _ (sym c.in-Some.ensures) _ p.2.0 p.2.1
          (c.in_err-add_line-in_default-l.ensures.judged d S (no_end_line _ c.in_default-l.not-Expression)));
      beyond = c.add_line.ensures.beyond;
      kept = rw p.1 (let k = c.in_err-add_line-in_default-l.ensures.kept in (same_reading _ _ k.0, k.1));
    }

pub returns-in-Expression-clause-read : goal.returns-in-Expression-clause-read
unfolding group_of
returns-in-Expression-clause-read c d S =
    goal_read d _ _ (sym c.in-Some.ensures ∙ ap (λ l. some (line_of l)) c.in-Expression.is) _ c.args.r.now _ refl _ (c.add_goal.ensures.added _ d S)

pub returns-in_ok-add_line-in_default-l : goal.returns-in_ok-add_line-in_default-l
returns-in_ok-add_line-in_default-l c =
    record {
      read = λ d S.
          let low = no_end_line _ c.in_default-l.not-Expression in
          let J = c.in_ok-add_line-in_default-l.ensures.judged d S low in
          low_added d _ _ (sym c.in-Some.ensures) _ _ c.args.r.now S low _ J.0 J.1;
      beyond = c.add_line.ensures.beyond;
      kept = tt;
    }
