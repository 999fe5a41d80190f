use Rattle.std.proofs.Common.{rules}
use Rattle.std.proofs.lemmas.List.Elements.{same_from_all_zip}
use Rattle.names.proofs.Equal.{same_names}
use Rattle.names.proofs.table.NamesClone.clone.Goals as goal

pub returns : goal.returns
returns g c =
    record {
      cases =
          same_names (search rules) (search rules) (search rules)
          (search (rules, same_from_all_zip)) (search (rules, same_from_all_zip)) (search (rules, same_from_all_zip));
    }
