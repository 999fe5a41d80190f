-- Laws of a whole run: what it leaves is the policy's composition.
use mathlib.Core.Path.{◌≡◌, refl, sym, ap, ◌∙◌}
use mathlib.Core.Bool.{Bool, true, false}
use mathlib.Core.List.{List}
use Prim.Native.Nat.{ℕ, ◌+◌, ◌*◌, ◌≤◌, ◌<◌}
use native.Mathlib.Omega.{arith}
use lib.Dec.{eqb}
use lib.ListN.{length, get_or, take, drop, length-map, length-drop, get_or-map}
use lib.Seq.{ext_get_or, get_or-take, get_or-drop, length-take-le}
use Rattle.algebra.specs.Lists.{any}
use Rattle.algebra.specs.Answer.{deny, byte, sure}
use Rattle.algebra.specs.Algebra.{Model, Uses, answer, rounds}
use Rattle.algebra.specs.Policy.{Table, Policy, Scope, accesses, model, table_at, is_granted, table_answer, policy_answer, answers, policy_rounds, bytes}
use Rattle.algebra.specs.declared.Counts.{Counts}
use Rattle.algebra.specs.declared.Rule.{Rule}
use Rattle.nodes.specs.declared.Node.{Node}
use Rattle.algebra.proofs.Algebra.{same_answers, same_rounds}
use Rattle.algebra.proofs.Bytes.{length_answers, answers_at}
use Rattle.algebra.proofs.Tables.{answer_here, answer_away}
use Rattle.composer.specs.Compose.{TableIs, Composes, Composed}
use Rattle.composer.specs.Run.{table_in, Answered}
use Rattle.composer.proofs.Named.{is_here, is_away}

-- a table's answers are those of the data
table_same : (ts : List Table) (here : List Bool) (grants : ℕ) (w : List ℕ) (i : ℕ) → TableIs ts here grants w i
    → (x : ℕ) → table_answer ts i x ≡ table_in here grants w i x
unfolding is_granted
table_same ts here grants w i is x = go (table_at ts i).here refl
  where
    go : (b : Bool) → (table_at ts i).here ≡ b → table_answer ts i x ≡ table_in here grants w i x
    go true e =
        answer_here ts i x e ∙ ap (λ l. sure (any (eqb x) l)) (is.list e)
        ∙ sym (is_here i here grants w x (sym is.flag ∙ e))
    go false e = answer_away ts i x e ∙ sym (is_away i here grants w x (sym is.flag ∙ e))

module _ (P : Policy) (n : Counts) (w t : List ℕ) (m : List Node) (here : List Bool) (grants : ℕ) (rules : List Rule) (limit : ℕ)
    (cp : Composes P n w t m here grants rules limit) where
  pub whole : (r : ℕ) (w' : List ℕ) → length w' ≡ length w → 65536 ≤ length w → accesses P.frame ≤ 4096
      → Answered P.frame limit (table_in here grants w) P.tree 0 w r w' → Composed P w r w'
  unfolding bytes policy_answer policy_rounds
  whole r w' same long few d =
      let N : ℕ = accesses P.frame in
      let M : Model Scope = model P.frame in
      let T = table_in here grants w in
      let T' = table_answer P.tables in
      let ok : (i : ℕ) → Uses P.tree i → (x : ℕ) → x < N → T' i x ≡ T i x =
      λ i u x l. table_same P.tables here grants w i (cp.tables i u) x in
      let s : length (take N w') ≡ N = length-take-le N w' (omega arith) in
      let z : length (bytes P) ≡ N = length-map (answers P) byte ∙ length_answers P in
      let at : (x : ℕ) → x < N → get_or w' x 0 ≡ byte (answer M limit T P.tree x) =
      λ x l. let e : x ≡ 0 * 4096 + x = omega arith in ap (λ i. get_or w' i 0) e ∙ d.answers x l in
      record {
        answers = ext_get_or 0 (take N w') (bytes P) (s ∙ sym z)
            (λ x h. let l : x < N = omega arith in
            get_or-take N w' x 0 l ∙ at x l ∙ ap (λ k. byte (answer M k T P.tree x)) (sym cp.same_limit)
            ∙ ap byte (sym (answers_at P x l ∙ same_answers M P.limit T' T P.tree ok x l)) ∙ sym (get_or-map byte (answers P) x deny));
        all = d.all ∙ ap (λ k. rounds M k T P.tree) (sym cp.same_limit) ∙ sym (same_rounds M P.limit T' T P.tree ok);
        beyond = ext_get_or 0 (drop 57344 w') (drop 57344 w) (simp (length-drop, same))
            (λ i h. get_or-drop 57344 w' i 0 ∙ d.beyond (57344 + i) (omega arith) ∙ sym (get_or-drop 57344 w i 0));
      }
