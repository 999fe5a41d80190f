-- What the ranges of a node's numbers say of its scope.
use mathlib.Core.List.{List}
use Prim.Native.Nat.{ℕ}
use native.Mathlib.Omega.{arith}
use Rattle.algebra.specs.Policy.{Frame}
use Rattle.algebra.specs.Meant.{sort_meant, scope_meant}
use Rattle.algebra.specs.StoredFrame as Frames
use Rattle.algebra.specs.StoredFrame.{Stands}
use Rattle.algebra.specs.declared.Counts.{Counts}
use Rattle.algebra.specs.declared.Scope.{Scope}
use Rattle.algebra.specs.declared.Scope.TheVariants.{Compared, Marked}
use Rattle.scopes.specs.Scopes.{Small, Names}
use Rattle.composer.specs.Compose.{ScopeFits}

pub scope_small : (n : Counts) (c : Scope) → Frames.Sized n → ScopeFits n c → Small c
scope_small n (Compared s o m) z f = omega (arith, z.most (sort_meant s))
scope_small n (Marked s p) z f = omega arith

pub scope_names : (n : Counts) (c : Scope) (fr : Frame) (t : List ℕ) → Stands fr n t → ScopeFits n c → Names fr (scope_meant c)
unfolding Names
scope_names n (Compared s o m) fr t st f = rw (st.counts (sort_meant s)) f
scope_names n (Marked s p) fr t st f = f
