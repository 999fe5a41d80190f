-- The verdict on an E line and its nodes, by the ways through their code; and the state after it.
use Rattle.std.proofs.Common.{◌≡◌, refl, sym, ap, ◌∙◌, subst, true, false, List, [], ◌∷◌, Result, Ok, Err, ℕ, ◌≤◌, ◌<◌, ltb, length, arith}
use Rattle.std.specs.Prelude as rust
use Rattle.std.proofs.Math.Option.{Option, some}
use Rattle.std.proofs.Math.Path.{fun_ext}
use borrow.Author.Tests.{lt-ltb, le-ltb}
use Rattle.algebra.proofs.Bool.{or_right}
use Rattle.algebra.specs.Algebra.{Tree, operators, held, bindings}
use Rattle.algebra.specs.Policy as policy
use Rattle.algebra.specs.Sort.{Sort, subject, object, action}
use Rattle.algebra.specs.StoredFrame.{size_of}
use Rattle.algebra.specs.declared.Counts.{Counts}
use Rattle.short_list.specs.ShortList.{how_many}
use Rattle.algebra.specs.Nodes.{Encodes}
use Rattle.algebra.specs.Meant.{found_of}
use Rattle.grammar.specs.Expression.{Exp}
use Rattle.grammar.specs.Machine.{Reading, read, wrong, reading}
use Rattle.grammar.specs.Names.{Kind}
use Rattle.grammar.specs.Tree.{tree_of}
use Rattle.grammar.proofs.Used.{used_table}
use Rattle.names.specs.Looks.{lookup_of, counts_of}
use Rattle.names.specs.declared.table.Names.{Names}
use Rattle.nodes.specs.Cells.{label, HasTree}
use Rattle.nodes.specs.declared.Node.{Node}
use Rattle.nodes.specs.declared.Counted.{Counted}
use Rattle.words.specs.Cells.{Yields}
use Rattle.words.specs.Contract.{Told, Answer}
use Rattle.words.specs.declared.Nodes.{Nodes}
use Rattle.reader.specs.Line.{expression_line}
use Rattle.reader.specs.Declarations.{Declared, count, group_of}
use Rattle.reader.specs.Expression.{lookup, is_declared}
use Rattle.reader.specs.Rows.{row, placeless, good, refuse, first, rows, out_of_order, without_rule, bad_counts, too_many}
use Rattle.reader.specs.Rows.{declared_already, not_declared, grants_away, two_sorts, not_of_grammar}
use Rattle.reader.specs.Rows.{name_not_declared, too_large_lem, too_deep, expression_rows}
use Rattle.reader.specs.File.{goal_of, add}
use Rattle.rows.specs.First.{number_of}
use Rattle.rows.specs.declared.Refusal.{Refusal}
use Rattle.rows.specs.declared.Refusal.TheVariants.{TooMany, WrongExpression, UndeclaredThere, TooLarge, TooManyBindings}
use Rattle.state.specs.Standing.{NamesStand, Stands}
use Rattle.state.specs.Judged.{late_of, bad_counts_of, turn_of}
use Rattle.state.specs.declared.State.{State}
use Rattle.state.proofs.Verdicts.{first_met_fact, first_passed, placeless_true, placeless_false, meets_7, past_11}
use Rattle.state.proofs.Turns.{turn_ok, in_order, counted, turned_down}
use Rattle.state.proofs.Lines.{few_after}
use Rattle.goals.specs.Goals.{GoalGood, GoalTaken, GoalJudged, ended_of}
use Rattle.goals.specs.declared.Fault.{Fault}
use Rattle.goals.specs.declared.Goal.{Goal}

-- ---- what the reader of expressions says, taken apart

record Whole (number : Kind → List ℕ → Option ℕ) (v : Reading) (p : Nodes) : Type 0 where
  expression : Exp
  is : v ≡ read expression
  yields : Yields number expression p

module _ (number : Kind → List ℕ → Option ℕ) (t : List ℕ) where
  told_bad : (v : Reading) (e : ℕ) → Told number t v (Err e) → v ≡ wrong e
  unfolding Told
  told_bad (read x) e h = absurd h
  told_bad (wrong p) e h = ap wrong (sym h)

  told_good : (v : Reading) (p : Nodes) → Told number t v (Ok p) → Whole number v p
  unfolding Told
  told_good (read x) p h = record { expression = x; is = refl; yields = h }
  told_good (wrong q) p h = absurd h

-- the nodes of an expression that was read, where it has few operators
pub has_tree : (number : Kind → List ℕ → Option ℕ) (t : List ℕ) (p : Nodes) → Answer number t (Ok p) → p.operators ≤ 64
    → {ns : List Node} → ns ≡ p.nodes.items → HasTree ns (length ns)
has_tree number t p told few {ns} e =
    let w = told_good number t (reading t) p told in
    let y = w.yields in
    let h : HasTree p.nodes.items (length p.nodes.items) = record {
      tree = tree_of number w.expression;
      start = 0;
      coded = y.tree (omega (arith, y.operators_are));
      few = y.few;
      long = omega arith;
    } in
    subst (λ (ms : List Node). HasTree ms (length ms)) (sym e) h

-- what is counted of some nodes
abbrev pub CountedOf : List Node → Counted → Type 0
CountedOf ns r = (t : Tree policy.Scope) (lo : ℕ) → Encodes (label ns) t lo (length ns)
    → (r.start ≡ lo) × (r.sets ≡ held t) × (r.bindings ≡ bindings t)

pub counted_of : {ns ms : List Node} → ns ≡ ms → (r : Counted) → CountedOf ns r → CountedOf ms r
counted_of e r h = subst (λ (ms : List Node). CountedOf ms r) e h

-- ---- a refusal

pub judged_no : (d : Declared) (limit : ℕ) (t : List ℕ) (r : Refusal) (p : ℕ) → first (rows d (expression_line limit t)) ≡ refuse (number_of r) p
    → {e : Fault} → e.refusal ≡ r → e.place ≡ p → GoalJudged d limit t (Err e)
unfolding GoalJudged
judged_no d limit t r p h {e} er ep = h ∙ rw (← er, ← ep)

-- ---- the verdict and the nodes

module _ {A K : ℕ} (names : Names A K) (n : Counts) (n_is : n ≡ counts_of names) (d : Declared) (ns : NamesStand names d) (group : ℕ) (g : d.group ≡ group)
    (limit : ℕ) (t : List ℕ) where
  sizes_are : (σ : Sort) → size_of n σ ≡ count d σ
  sizes_are subject = rw n_is (ns.members_many subject)
  sizes_are object = rw n_is (ns.members_many object)
  sizes_are action = rw n_is (ns.members_many action)

  no_rule_lem : without_rule d.rules (expression_line limit t) ≡ false
  unfolding without_rule
  no_rule_lem = go d.rules
    where
      go : (rs : List policy.Rule) → without_rule rs (expression_line limit t) ≡ false
      go [] = refl
      go (r ∷ rs) = refl

  group_7 : group_of (expression_line limit t) ≡ 7
  unfolding group_of
  group_7 = refl

  pub goal_turn : {r : Refusal} → turn_of (late_of group 7) (bad_counts_of group 7 n.subjects n.objects n.actions) ≡ rust.Err r
      → {e : Fault} → e.refusal ≡ r → e.place ≡ 0 → GoalJudged d limit t (Err e)
  goal_turn {r} h = judged_no d limit t r 0 (turned_down n d sizes_are group g (expression_line limit t) 7 group_7 no_rule_lem h)

  module _ {x : Unit {0}}
      (turn : turn_of (late_of group 7) (bad_counts_of group 7 n.subjects n.objects n.actions) ≡ rust.Ok x) where
    row_4 : out_of_order d (expression_line limit t) ≡ false
    row_4 = in_order n d sizes_are group g (expression_line limit t) 7 group_7 no_rule_lem (turn_ok _ _ turn).0

    row_8 : bad_counts d (expression_line limit t) ≡ false
    row_8 = counted n d sizes_are group g (expression_line limit t) 7 group_7 no_rule_lem (turn_ok _ _ turn).1

    pub goal_7 : 4096 < limit → {e : Fault} → e.refusal ≡ TooMany → e.place ≡ 0 → GoalJudged d limit t (Err e)
    unfolding too_many
    goal_7 h = judged_no d limit t TooMany 0 (meets_7 d _ row_4 row_8 (lt-ltb 4096 limit h))

    module _ (p7 : limit ≤ 4096) where
      -- the rows of the expression, where it reads so
      in_rows : (v : Reading) → reading t ≡ v
          → first (rows d (expression_line limit t))
          ≡ first (row 12 (not_of_grammar v) ∷ row 13 (name_not_declared d v) ∷ row 14 (placeless (too_large_lem d v)) ∷ row 16 (placeless (too_deep d v)) ∷ [])
      unfolding too_many declared_already not_declared grants_away two_sorts expression_rows
      in_rows v e =
          past_11 d (expression_line limit t) row_4 row_8 (le-ltb 4096 limit p7) refl refl refl refl
          ∙ ap (λ (x : Reading). first
          (row 12 (not_of_grammar x) ∷ row 13 (name_not_declared d x) ∷ row 14 (placeless (too_large_lem d x)) ∷ row 16 (placeless (too_deep d x)) ∷ [])) e

      said : (r : Result Nodes ℕ) → Answer (lookup_of names) t r → Told (lookup d) t (reading t) r
      said r told = subst (λ (n : Kind → List ℕ → Option ℕ). Told n t (reading t) r) (fun_ext (λ k. fun_ext (λ n. ns.looks k n))) told

      pub goal_12 : (p : ℕ) → Answer (lookup_of names) t (Err p) → {e : Fault} → e.refusal ≡ WrongExpression → e.place ≡ p → GoalJudged d limit t (Err e)
      unfolding not_of_grammar
      goal_12 p told =
          judged_no d limit t WrongExpression p
          (in_rows (wrong p) (told_bad (lookup d) t (reading t) p (said (Err p) told)) ∙ first_met_fact 12 p _ _ refl)

      module _ (p : Nodes) (told : Answer (lookup_of names) t (Ok p)) where
        whole : Whole (lookup d) (reading t) p
        whole = told_good (lookup d) t (reading t) p (said (Ok p) told)

        abbrev tree : Tree policy.Scope
        tree = tree_of (lookup d) whole.expression

        past_12 : first (rows d (expression_line limit t))
            ≡ first (row 13 (name_not_declared d (read whole.expression)) ∷ row 14 (placeless (too_large_lem d (read whole.expression)))
            ∷ row 16 (placeless (too_deep d (read whole.expression))) ∷ [])
        unfolding not_of_grammar
        past_12 = in_rows (read whole.expression) whole.is ∙ first_passed 12 _ _ refl

        missing_at : name_not_declared d (read whole.expression) ≡ found_of p.missing
        unfolding name_not_declared is_declared
        missing_at = sym whole.yields.missing_is

        pub goal_13 : {i : ℕ} → p.missing ≡ rust.Some i → {e : Fault} → e.refusal ≡ UndeclaredThere → e.place ≡ i → GoalJudged d limit t (Err e)
        goal_13 {i} h = judged_no d limit t UndeclaredThere i (past_12 ∙ first_met_fact 13 i _ _ (missing_at ∙ ap found_of h))

        module _ (h : p.missing ≡ rust.None) where
          past_13 : first (rows d (expression_line limit t))
              ≡ first (row 14 (placeless (too_large_lem d (read whole.expression))) ∷ row 16 (placeless (too_deep d (read whole.expression))) ∷ [])
          past_13 = past_12 ∙ first_passed 13 _ _ (missing_at ∙ ap found_of h)

          too_large : too_large_lem d (read whole.expression) ≡ true → {e : Fault} → e.refusal ≡ TooLarge → e.place ≡ 0 → GoalJudged d limit t (Err e)
          too_large q = judged_no d limit t TooLarge 0 (past_13 ∙ first_met_fact 14 0 _ _ (placeless_true q))

          pub goal_operators : 64 < p.operators → {e : Fault} → e.refusal ≡ TooLarge → e.place ≡ 0 → GoalJudged d limit t (Err e)
          unfolding too_large_lem
          goal_operators x = too_large (or_right (ltb 14 (held tree)) (lt-ltb 64 (operators tree) (omega (arith, whole.yields.operators_are))))

          module _ (few : p.operators ≤ 64) (r : Counted) (is_held : CountedOf p.nodes.items r) where
            few_operators : operators tree ≤ 64
            few_operators = omega (arith, whole.yields.operators_are)

            coded : Encodes (label p.nodes.items) tree 0 (how_many p.nodes)
            coded = whole.yields.tree few_operators

            counted_are : (r.start ≡ 0) × (r.sets ≡ held tree) × (r.bindings ≡ bindings tree)
            counted_are = is_held tree 0 coded

            pub goal_held : 14 < r.sets → {e : Fault} → e.refusal ≡ TooLarge → e.place ≡ 0 → GoalJudged d limit t (Err e)
            unfolding too_large_lem
            goal_held x = too_large (rw (lt-ltb 14 (held tree) (omega (arith, counted_are.1))))

            module _ (few-sets : r.sets ≤ 14) where
              few_held : held tree ≤ 14
              few_held = omega (arith, counted_are.1)

              past_14 : first (rows d (expression_line limit t)) ≡ first (row 16 (placeless (too_deep d (read whole.expression))) ∷ [])
              unfolding too_large_lem
              past_14 = past_13 ∙ first_passed 14 (placeless (too_large_lem d (read whole.expression))) _
                  (placeless_false (rw (le-ltb 14 (held tree) few_held, le-ltb 64 (operators tree) few_operators)))

              pub goal_deep : 4 < r.bindings → {e : Fault} → e.refusal ≡ TooManyBindings → e.place ≡ 0 → GoalJudged d limit t (Err e)
              unfolding too_deep
              goal_deep x =
                  judged_no d limit t TooManyBindings 0
                  (past_14 ∙ first_met_fact 16 0 _ _ (placeless_true (lt-ltb 4 (bindings tree) (omega (arith, counted_are.2)))))

              pub goal_good : r.bindings ≤ 4 → GoalJudged d limit t (Ok record { limit = limit; nodes = p })
              unfolding GoalJudged too_deep first
              goal_good x = record {
                verdict = past_14
                    ∙ first_passed 16 (placeless (too_deep d (read whole.expression))) [] (placeless_false (le-ltb 4 (bindings tree) few_bindings));
                limit_is = refl;
                good_goal = record {
                  expression = whole.expression;
                  reads = whole.is;
                  tree = coded;
                  few_nodes = whole.yields.few;
                  within = whole.yields.within h;
                  limited = p7;
                  few_held = few_held;
                  few_operators = few_operators;
                  few_bindings = few_bindings;
                  tables = used_table (lookup d) whole.expression (sym whole.yields.missing_is ∙ ap found_of h);
                };
              }
                where
                  few_bindings : bindings tree ≤ 4
                  few_bindings = omega (arith, counted_are.2)

-- ---- the verdict taken apart

module _ (d : Declared) (limit : ℕ) (t : List ℕ) where
  pub goal_no : (e : Fault) → GoalJudged d limit t (Err e) → first (rows d (expression_line limit t)) ≡ refuse (number_of e.refusal) e.place
  unfolding GoalJudged
  goal_no e h = h

  pub goal_taken : (g : Goal) → GoalJudged d limit t (Ok g) → GoalTaken d limit t g
  unfolding GoalJudged
  goal_taken g h = h

-- ---- what is declared after it

pub goal_added : (d : Declared) (limit : ℕ) (t : List ℕ) (p : Nodes) (G : GoalGood d limit t p)
    → (add d (expression_line limit t)).goal ≡ some (record { limit = limit; tree = tree_of (lookup d) G.expression })
unfolding add goal_of
goal_added d limit t p G = ap (goal_of d limit) G.reads

pub goal_stands : {A K : ℕ} (w : List ℕ) (st : State A K) (d : Declared) → Stands w st d → (limit : ℕ) (t : List ℕ)
    → first (rows d (expression_line limit t)) ≡ good
    → Stands w (ended_of st) (add d (expression_line limit t))
unfolding add ended_of group_of
goal_stands w st d S limit t e = record {
  is_group = refl;
  names = record { members = S.names.members; predicates = S.names.predicates; tables = S.names.tables; sets = S.names.sets };
  counted = λ h. few_after w st d S (expression_line limit t) e (omega arith);
  marks = S.marks;
  grants = S.grants;
  all_grants = S.all_grants;
  rules = S.rules;
  sorted = S.sorted;
  within = S.within;
  no_grants = λ h. absurd (omega arith);
}

-- the same of the code's answer
pub goal_line : {A K : ℕ} (w : List ℕ) (st : State A K) (d : Declared) → Stands w st d → (limit : ℕ) (t : List ℕ) (g : Goal) → GoalTaken d limit t g
    → (st' : State A K) → st' ≡ ended_of st → Stands w st' (add d (expression_line limit t))
goal_line {A} {K} w st d S limit t g J st' es =
    subst (λ (x : State A K). Stands w x (add d (expression_line limit t))) (sym es) (goal_stands w st d S limit t J.verdict)
