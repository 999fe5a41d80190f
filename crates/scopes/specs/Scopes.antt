-- What a scope asks: numbers in their ranges, and a frame that has what it names.
use Rattle.std.specs.Prelude.{ℕ, ◌<◌}
use Rattle.algebra.specs.Sort.{Sort, subject, object, action}
use Rattle.algebra.specs.Policy.{Frame, compared, marked, members}
use Rattle.algebra.specs.Policy as policy
use Rattle.algebra.specs.declared.Scope.{Scope}
use Rattle.algebra.specs.declared.Scope.TheVariants.{Compared, Marked}

-- the number of its member, or of its predicate, is one of 64
abbrev pub Small : Scope → Type 0
Small (Compared s c m) = m < 64
Small (Marked s p) = p < 64

-- a scope names a member of its sort, or one of sixteen predicates
unfoldable pub Names : Frame → policy.Scope → Type 0
Names fr (compared σ op m) = m < members fr σ
Names fr (marked σ p) = p < 16

-- the member of a sort, of three
abbrev pub member_of : Sort → ℕ → ℕ → ℕ → ℕ
member_of subject s o a = s
member_of object s o a = o
member_of action s o a = a
