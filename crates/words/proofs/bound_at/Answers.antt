use Rattle.std.proofs.Common.{◌≡◌, rules, tests, nat_eq, reverse}
use Rattle.std.proofs.lemmas.Iterator.Adapters.{YieldsList-from_rev_slice}
use Rattle.std.proofs.lemmas.Iterator.Search.{position_from_yields_List}
use Rattle.std.specs.Cmp.Lexicographic.{pointwise}
use Rattle.grammar.specs.Lookup.{same}
use Rattle.name_index.proofs.Same.{same_is}
use Rattle.words.proofs.Bound.{place_found}
use Rattle.words.proofs.bound_at.Goals as goal

pub returns : goal.returns
returns c =
    let n = c.args.name.now in
    place_found n (reverse c.args.bound.now)
    (position_from_yields_List (λ x. same n x.now) _ _ c.position.result c.position.ensures.ran (YieldsList-from_rev_slice c.args.bound.now cc)
    (λ x b q k. let h : (q ≡ _) × (b ≡ pointwise nat_eq n x.now.now) = search (rules, tests) in (h.0, same_is _ _ h.1)))
