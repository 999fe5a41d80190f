use Rattle.std.proofs.Common.{◌≡◌, false, Ok, get_or, arith}
use Rattle.std.proofs.lemmas.Result.{err_from_is_err_and}
use Rattle.words.specs.Contract.{suffix_byte}
use Rattle.words.proofs.Words.{seen}
use Rattle.expressions.proofs.Goes.{stays_same}
use Rattle.expressions.proofs.SuffixWays.{x_part, x_past, suffix_first, name_first, xs_first, xs_end, xs_bad, xs_next}
use Rattle.expressions.proofs.text_reader.Reader.suffixes.Goals as goal

pub loop-x-init : goal.loop-x-init
loop-x-init g c = record { so_far = xs_first _ _ _ _ c.args.self.now.within; stays = stays_same }

pub returns-in_err-x : goal.returns-in_err-x
returns-in_err-x g c =
    let p = err_from_is_err_and c.from_residual.result c.from_residual.ensures.1 in
    let i = c.loop-x.invariant in
    rw (p.1, p.2) record { part = xs_bad _ _ _ _ _ _ i.so_far _ _ (suffix_first i.stays _ c.in_err-x.ensures); stays = tt }

pub slice_bounds-put_name-count : goal.slice_bounds-put_name-count
slice_bounds-put_name-count g c = (x_part _ _ _ c.in_ok-x.ensures).0

pub slice_bounds-put_name-start : goal.slice_bounds-put_name-start
slice_bounds-put_name-start g c = omega (arith, x_part _ _ _ c.in_ok-x.ensures)

pub slice_bounds-put_name-end : goal.slice_bounds-put_name-end
slice_bounds-put_name-end g c = omega (arith, x_part _ _ _ c.in_ok-x.ensures)

pub invariant_of-self-clause-within : goal.invariant_of-self-clause-within
invariant_of-self-clause-within g c = (x_past _ _ _ c.in_ok-x.ensures c.loop-x.self.nodes).1

pub loop-x-smaller : goal.loop-x-smaller
loop-x-smaller g c = omega (arith, x_past _ _ _ c.in_ok-x.ensures c.loop-x.self.nodes)

pub loop-x-preserved : goal.loop-x-preserved
loop-x-preserved g c =
    let i = c.loop-x.invariant in
    let s = c.in_ok-x.ensures in
    record {
      so_far = xs_next _ _ _ _ _ _ i.so_far _ (suffix_first i.stays (Ok c.in_ok-x.x) s) _
          (name_first i.stays c.in_ok-x.x _ _ (x_part _ _ _ s).0 c.put_name.ensures);
      stays = record { text = i.stays.text; names = i.stays.names; bound = i.stays.bound; allow = i.stays.allow };
    }

pub returns : goal.returns
returns g c =
    let i = c.loop-x.invariant in
    let none : suffix_byte (get_or c.loop-x.self.text.now c.loop-x.self.at 0) ≡ false =
    seen suffix_byte c.peek.ensures c.is_suffix.ensures c.loop-x-test.false in
    record { part = xs_end _ _ _ _ _ _ i.so_far (rw i.stays.text at none); stays = i.stays }
