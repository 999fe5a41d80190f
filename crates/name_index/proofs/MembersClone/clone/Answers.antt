use Rattle.std.proofs.Common.{rules, refl}
use Rattle.std.proofs.lemmas.List.Elements.{same_from_all_zip}
use Rattle.name_index.proofs.Equal.{same_members}
use Rattle.name_index.proofs.MembersClone.clone.Goals as goal

pub returns : goal.returns
returns g c = record { cases = same_members (search (rules, same_from_all_zip)) refl }
