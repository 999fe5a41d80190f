use Rattle.std.proofs.Common.{◌≡◌, refl, ◌/◌, ◌%◌, arith}
use Rattle.state.specs.Standing.{grant_written}
use Rattle.state.proofs.put_grant.Goals as goal

pub returns : goal.returns
unfolding grant_written
returns c =
    let high : c.args.g / 256 % 256 ≡ c.args.g / 256 = let f = c.ranges.g.fits in omega arith in
    rw (c.to_le_bytes.ensures, high) refl
