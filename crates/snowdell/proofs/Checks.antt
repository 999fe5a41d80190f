-- Check, from what the reading tells.
use mathlib.Core.Path.{◌≡◌, sym, ap, ◌∙◌}
use mathlib.Core.List.{List}
use Prim.Native.Nat.{ℕ}
use Rattle.algebra.specs.Sort.{Sort, subject, object, action}
use Rattle.algebra.specs.Policy.{members}
use Rattle.names.specs.Looks.{member_count}
use Rattle.reader.specs.Declarations.{count}
use Rattle.reader.specs.File.{refused, read_file, policy_of, frame_of}
use Rattle.reader.proofs.Members.{file_sane}
use Rattle.state.proofs.NameTables.{count_is}
use Rattle.reading.specs.Reading.{ReadGood}
use Rattle.reading.specs.declared.Reading.{Reading}
use Rattle.engine.specs.Calls.{checked, check}

pub check_no : (f : List ℕ) (k l p : ℕ) → read_file f ≡ refused k l p
    → record { number = k; line = l; place = p; subjects = 0; objects = 0; actions = 0 } ≡ check f
unfolding check checked
check_no f k l p e = ap checked (sym e)

-- the frame's members are those that the state counts
pub counted : (f w : List ℕ) (r : Reading) (G : ReadGood f w r) (σ : Sort) → members (frame_of G.declared) σ ≡ member_count r.state.names σ
unfolding policy_of count
counted f w r G σ = (file_sane f _ G.outcome).counted σ
    ∙ count_is r.state.names G.declared G.stands.names σ

pub check_yes : (f w : List ℕ) (r : Reading) → ReadGood f w r → record {
  number = 0;
  line = 0;
  place = 0;
  subjects = member_count r.state.names subject;
  objects = member_count r.state.names object;
  actions = member_count r.state.names action;
} ≡ check f
unfolding check checked policy_of
check_yes f w r G = rw (← counted f w r G subject, ← counted f w r G object, ← counted f w r G action) (ap checked (sym G.outcome))
