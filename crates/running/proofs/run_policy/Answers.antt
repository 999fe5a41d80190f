-- `running::run_policy` meets its contract: an accepted reading is all that a run asks for.
use mathlib.Core.Path.{◌≡◌, sym, ap, subst, ◌∙◌}
use mathlib.Core.Bool.{Bool, false}
use mathlib.Core.List.{List}
use Prim.Native.Nat.{ℕ, ◌≤◌, ◌<◌}
use lib.ListN.{length, get_or}
use Rattle.algebra.specs.Sort.{subject, object, action}
use Rattle.algebra.specs.StoredFrame.{total}
use Rattle.algebra.specs.declared.Rule.{Rule}
use Rattle.plans.specs.Stored.{Ready}
use Rattle.name_index.specs.Entries.{tags_of}
use Rattle.name_index.specs.declared.Entry.{Entry}
use Rattle.running.proofs.Whole.{policy_in, ordered_as, is_sized, is_ready, is_composed}
use Rattle.running.proofs.run_policy.Goals as goal

-- what the run leaves stands before what it asks for: without the rules this is the fact that fails
pub returns : goal.returns
returns c f G =
    let a = c.args in
    let s = c.as_slice-4.ensures.value ∙ c.parents-subjects.ensures ∙ ap tags_of c.as_slice.ensures.value in
    let o = c.as_slice-5.ensures.value ∙ c.parents-objects.ensures ∙ ap tags_of c.as_slice-2.ensures.value in
    let x = c.as_slice-6.ensures.value ∙ c.parents-actions.ensures ∙ ap tags_of c.as_slice-3.ensures.value in
    c.compose.ensures (policy_in G) (rw (c.as_slice-7.ensures.value, c.as_slice-9.ensures.value, c.from.ensures)
    (is_composed f a.w.now a.r.now G c.counts.result c.counts.ensures c.tables.new.t c.tables_here.result (rw (s, o, x) at c.tables.ensures)
    (subst (λ (l : List (Entry Bool)). (i : ℕ) → i < length l → get_or c.tables_here.result i false ≡ get_or (tags_of l) i false)
    c.as_slice-8.ensures.value c.tables_here.ensures)))

pub tables-requires-clause-ordered : goal.tables-requires-clause-ordered
tables-requires-clause-ordered c =
    let a = c.args in
    let o = ordered_as c.requires.1.file a.w.now a.r.now c.requires.1.good in (
      o subject _ (c.as_slice-4.ensures.value ∙ c.parents-subjects.ensures ∙ ap tags_of c.as_slice.ensures.value),
      o object _ (c.as_slice-5.ensures.value ∙ c.parents-objects.ensures ∙ ap tags_of c.as_slice-2.ensures.value),
      o action _ (c.as_slice-6.ensures.value ∙ c.parents-actions.ensures ∙ ap tags_of c.as_slice-3.ensures.value),
    )

pub invariant_of-setting-clause-ready : goal.invariant_of-setting-clause-ready
invariant_of-setting-clause-ready c =
    let a = c.args in
    let rules = c.as_slice-7.ensures in
    subst (λ (l : List Rule). Ready c.counts.result (total c.counts.result) l) (sym rules.value)
    (is_ready c.requires.1.file a.w.now a.r.now c.requires.1.good c.counts.result c.counts.ensures
    (subst (λ (l : List Rule). length l ≤ 64) rules.value rules.fits))

pub compose-requires-clause-sized : goal.compose-requires-clause-sized
compose-requires-clause-sized c =
    let a = c.args in
    rw c.as_slice-9.ensures.value (is_sized c.requires.1.file a.w.now a.r.now c.requires.1.good c.counts.result c.counts.ensures)
