-- The cells that an expression's text yields are the nodes of its tree, its operators are counted, and the place is that of its first name
-- that is not declared. Assumes nothing.
use Rattle.std.proofs.Common.{◌≡◌, refl, sym, ap, subst, ◌∙◌, Bool, true, false, cond, not, ◌||◌, List, [], ◌∷◌, ◌++◌, ℕ, suc, ◌+◌, ◌≤◌, ◌<◌, min, ltb, arith}
use Rattle.std.proofs.Common.{length, get_or, length-append}
use Rattle.std.specs.Prelude as rust
use Rattle.std.proofs.Math.ListN.{get_or-append}
use Rattle.std.proofs.Math.Option.{Option, none, some, or_else}
use Rattle.std.proofs.Math.Seq.{get_or-append_seam}
use Rattle.short_list.specs.ShortList.{how_many}
use borrow.Author.Tests.{ltb-true, ltb-false, lt-ltb}
use Rattle.algebra.specs.Sort.{Sort, subject, object, action}
use Rattle.algebra.specs.Order.{Op, le, ge, lt, gt, eq}
use Rattle.algebra.specs.Answer.{Joiner, plus-sign, and-sign, minus-sign}
use Rattle.algebra.specs.Algebra.{Tree, table, join, override, scope, template, operators}
use Rattle.algebra.specs.Lists.{only}
use Rattle.algebra.specs.Meant.{op_meant, found_of}
use Rattle.algebra.specs.Policy as policy
use Rattle.algebra.specs.Nodes as meanings
use Rattle.algebra.specs.Nodes.{join_node, scope_node, size, Encodes}
use Rattle.algebra.specs.declared.Sort.TheVariants.{Subject, Object, Action}
use Rattle.algebra.proofs.Nodes.{size_le, some_size, encodes_same, more_table, more_join, more_template, more_override, more_scope, more_closure}
use Rattle.grammar.specs.Expression as Grammar
use Rattle.grammar.specs.Expression.{Exp, one, more, Fac, plain, scoped, closed_by, Pri, table_name, bracket, byte_j}
use Rattle.grammar.specs.Expression.{text_s, text_e, text_f, text_p}
use Rattle.grammar.specs.Names as Names
use Rattle.grammar.specs.Names.{Kind, Named, is_free, free_of, names_s, names_e, names_f, names_p, names, first_missing, missing}
use Rattle.grammar.specs.Lookup.{same, found, place}
use Rattle.grammar.specs.Tree.{scope_of, table_of, tree_e, tree_f, tree_p, tree_of}
use Rattle.grammar.proofs.Names.{entry}
use Rattle.nodes.specs.Cells.{node_meant, label}
use Rattle.nodes.specs.declared.Node.{Node}
use Rattle.nodes.specs.declared.Node.TheVariants.{Table, Join, Override, Template}
use Rattle.words.specs.Cells.{sort_named, op_named, joiner_named, most_nodes, most_count, counted_to, operators_after, stored, first_place, noted}
use Rattle.words.specs.Cells.{asked_as, node_with, emit_name, bound_as, emit_table, emit_s, emit_e, emit_f, emit_p, Yields}
use Rattle.words.specs.declared.Nodes.{Nodes}
use Rattle.words.specs.declared.Suffix.{Suffix}
use Rattle.words.specs.declared.Suffix.TheVariants.{Comparing, Marking, Closing}
use Rattle.words.proofs.Within.{filled_e}

-- ---- one node more

module _ (p : Nodes) (n : Node) where
  stored_used : how_many p.nodes ≤ most_nodes → how_many (stored p n).nodes ≡ min most_nodes (how_many p.nodes + 1)
  unfolding stored
  stored_used h = go (ltb (how_many p.nodes) most_nodes) refl
    where
      go : (b : Bool) → ltb (how_many p.nodes) most_nodes ≡ b → how_many (stored p n).nodes ≡ min most_nodes (how_many p.nodes + 1)
      go true e = rw e (omega (arith, ltb-true (how_many p.nodes) most_nodes e, length-append p.nodes.items (n ∷ [])))
      go false e = rw e (omega (arith, ltb-false (how_many p.nodes) most_nodes e))

  -- the nodes before stay
  stored_below : (j : ℕ) → j < how_many p.nodes → get_or (stored p n).nodes.items j Template ≡ get_or p.nodes.items j Template
  unfolding stored
  stored_below j l = go (ltb (how_many p.nodes) most_nodes) refl
    where
      go : (b : Bool) → ltb (how_many p.nodes) most_nodes ≡ b → get_or (stored p n).nodes.items j Template ≡ get_or p.nodes.items j Template
      go true e = rw e (get_or-append p.nodes.items (n ∷ []) Template j l)
      go false e = rw e

  stored_own : how_many p.nodes < most_nodes → get_or (stored p n).nodes.items (how_many p.nodes) Template ≡ n
  unfolding stored
  stored_own l = rw (lt-ltb (how_many p.nodes) most_nodes l) (get_or-append_seam p.nodes.items n [] Template)

-- ---- a tree's nodes, one after another

-- p' is p with the nodes of t after it, if there is room for them; the count stops at its bound
pub record Counts (p p' : Nodes) (t : Tree policy.Scope) : Type 0 where
  pub used_is : how_many p.nodes ≤ most_nodes → how_many p'.nodes ≡ min most_nodes (how_many p.nodes + size t)
  pub before : how_many p.nodes ≤ most_nodes → (j : ℕ) → j < how_many p.nodes → get_or p'.nodes.items j Template ≡ get_or p.nodes.items j Template
  pub nodes : how_many p.nodes + size t ≤ most_nodes → Encodes (label p'.nodes.items) t (how_many p.nodes) (how_many p'.nodes)
  pub operators_add : p.operators ≤ most_count → p'.operators ≡ min (p.operators + operators t) most_count

-- a node that is an operator
abbrev IsOperator : Node → Type 0
IsOperator n = (i : ℕ) → operators_after i n ≡ counted_to most_count i

counted_is : (i : ℕ) → i ≤ most_count → counted_to most_count i ≡ min (i + 1) most_count
unfolding counted_to
counted_is i h = go (ltb i most_count) refl
  where
    go : (b : Bool) → ltb i most_count ≡ b → cond b (i + 1) i ≡ min (i + 1) most_count
    go true e = omega (arith, ltb-true i most_count e)
    go false e = omega (arith, ltb-false i most_count e)

-- a node where it is put
own_node : (p : Nodes) (n : Node) {s : meanings.Node policy.Scope} → node_meant n ≡ s → how_many p.nodes < most_nodes
    → label (stored p n).nodes.items (how_many p.nodes) ≡ s
own_node p n e l = ap node_meant (stored_own p n l) ∙ e

-- the code's sorts, comparisons and signs are those of the definitions
meant_op : (o : Op) → op_meant (op_named o) ≡ o
meant_op le = refl
meant_op ge = refl
meant_op lt = refl
meant_op gt = refl
meant_op eq = refl

meant_join : (j : Joiner) → node_meant (Join (joiner_named j)) ≡ join_node j
meant_join plus-sign = refl
meant_join and-sign = refl
meant_join minus-sign = refl

-- where a tree ends, said in another way
ends_at : {at : ℕ → meanings.Node policy.Scope} {t : Tree policy.Scope} {lo hi hi' : ℕ} → hi ≡ hi' → Encodes at t lo hi → Encodes at t lo hi'
ends_at {at} {t} {lo} e x = subst (Encodes at t lo) e x

module _ (p : Nodes) where
  table_operators : (m : ℕ) → p.operators ≤ most_count → (stored p (Table m)).operators ≡ min (p.operators + operators {C = policy.Scope} (table m)) most_count
  unfolding stored operators_after operators
  table_operators m l = omega arith

  counts_table : (m : ℕ) → Counts p (stored p (Table m)) (table m)
  unfolding size operators
  counts_table m =
      let n : Node = Table m in
      record {
        used_is = stored_used p n;
        before = λ h. stored_below p n;
        nodes = λ l. ends_at (omega (arith, stored_used p n (omega arith)))
            (more_table (label p.nodes.items) (label (stored p n).nodes.items) (how_many p.nodes) (λ k i. ap node_meant (stored_below p n k i)) m
            (own_node p n refl (omega arith)));
        operators_add = table_operators m;
      }

  binary_operators : (n : Node) (p₁ p₂ : Nodes) (l r t' : Tree policy.Scope) → operators t' ≡ suc (operators l + operators r)
      → IsOperator n
      → (p.operators ≤ most_count → p₁.operators ≡ min (p.operators + operators l) most_count)
      → (p₁.operators ≤ most_count → p₂.operators ≡ min (p₁.operators + operators r) most_count)
      → p.operators ≤ most_count → (stored p₂ n).operators ≡ min (p.operators + operators t') most_count
  unfolding stored
  binary_operators n p₁ p₂ l r t' o ops f g z =
      let a = f z in
      let b = g (omega arith) in
      ops p₂.operators ∙ omega (arith, counted_is p₂.operators (omega arith))

  -- a node with two parts
  counts_binary : (n : Node) (p₁ p₂ : Nodes) (l r t' : Tree policy.Scope) → size t' ≡ suc (size l + size r) → operators t' ≡ suc (operators l + operators r)
      → ((at at' : ℕ → meanings.Node policy.Scope) (lo mid hi : ℕ) → ((j : ℕ) → j < hi → at' j ≡ at j) → at' hi ≡ node_meant n
      → Encodes at l lo mid → Encodes at r mid hi
      → Encodes at' t' lo (hi + 1)) → IsOperator n → Counts p p₁ l → Counts p₁ p₂ r
      → Counts p (stored p₂ n) t'
  counts_binary n p₁ p₂ l r t' s o larger ops x y =
      record {
        used_is = λ h. let a = x.used_is h in let b = y.used_is (omega arith) in omega (arith, stored_used p₂ n (omega arith));
        before = λ h k i.
            let a = x.used_is h in
            let b = y.used_is (omega arith) in
            stored_below p₂ n k (omega arith) ∙ y.before (omega arith) k (omega arith) ∙ x.before h k i;
        nodes = λ room.
            let a = x.used_is (omega arith) in
            let b = y.used_is (omega arith) in
            ends_at (omega (arith, stored_used p₂ n (omega arith)))
            (larger (label p₂.nodes.items) (label (stored p₂ n).nodes.items) (how_many p.nodes) (how_many p₁.nodes) (how_many p₂.nodes)
            (λ k i. ap node_meant (stored_below p₂ n k i)) (own_node p₂ n refl (omega arith))
            (encodes_same (λ k i q. ap node_meant (y.before (omega arith) k q)) (x.nodes (omega arith))) (y.nodes (omega arith)));
        operators_add = λ z. binary_operators n p₁ p₂ l r t' o ops x.operators_add y.operators_add z;
      }

  counts_join : (j : Joiner) (p₁ p₂ : Nodes) (l r : Tree policy.Scope) → Counts p p₁ l → Counts p₁ p₂ r
      → Counts p (stored p₂ (Join (joiner_named j))) (join j l r)
  unfolding size operators operators_after
  counts_join j p₁ p₂ l r x y =
      counts_binary (Join (joiner_named j)) p₁ p₂ l r (join j l r) refl refl (λ at at' lo mid hi h q. more_join at at' hi h j (q ∙ meant_join j))
      (λ i. refl) x y

  counts_template : (p₁ p₂ : Nodes) (e f : Tree policy.Scope) → Counts p p₁ e → Counts p₁ p₂ f → Counts p (stored p₂ Template) (template e f)
  unfolding size operators operators_after
  counts_template p₁ p₂ e f x y =
      counts_binary Template p₁ p₂ e f (template e f) refl refl (λ at at' lo mid hi h q. more_template at at' hi h q) (λ i. refl) x y

  override_operators : (p₁ p₂ p₃ : Nodes) (l m r : Tree policy.Scope)
      → (p.operators ≤ most_count → p₁.operators ≡ min (p.operators + operators l) most_count)
      → (p₁.operators ≤ most_count → p₂.operators ≡ min (p₁.operators + operators m) most_count)
      → (p₂.operators ≤ most_count → p₃.operators ≡ min (p₂.operators + operators r) most_count)
      → p.operators ≤ most_count → (stored p₃ Override).operators ≡ min (p.operators + operators (override l m r)) most_count
  unfolding stored operators operators_after
  override_operators p₁ p₂ p₃ l m r f g k z =
      let a = f z in
      let b = g (omega arith) in
      let d = k (omega arith) in
      omega (arith, counted_is p₃.operators (omega arith))

  counts_override : (p₁ p₂ p₃ : Nodes) (l m r : Tree policy.Scope) → Counts p p₁ l → Counts p₁ p₂ m → Counts p₂ p₃ r
      → Counts p (stored p₃ Override) (override l m r)
  unfolding size
  counts_override p₁ p₂ p₃ l m r x y w =
      let n : Node = Override in
      record {
        used_is = λ h.
            let a = x.used_is h in
            let b = y.used_is (omega arith) in
            let d = w.used_is (omega arith) in
            omega (arith, stored_used p₃ n (omega arith));
        before = λ h k i.
            let a = x.used_is h in
            let b = y.used_is (omega arith) in
            let d = w.used_is (omega arith) in
            stored_below p₃ n k (omega arith) ∙ w.before (omega arith) k (omega arith) ∙ y.before (omega arith) k (omega arith) ∙ x.before h k i;
        nodes = λ room.
            let a = x.used_is (omega arith) in
            let b = y.used_is (omega arith) in
            let d = w.used_is (omega arith) in
            ends_at (omega (arith, stored_used p₃ n (omega arith)))
            (more_override (label p₃.nodes.items) (label (stored p₃ n).nodes.items) (how_many p₃.nodes) (λ k i. ap node_meant (stored_below p₃ n k i))
            (own_node p₃ n refl (omega arith))
            (encodes_same (λ k i q. ap node_meant (w.before (omega arith) k (omega arith) ∙ y.before (omega arith) k q)) (x.nodes (omega arith)))
            (encodes_same (λ k i q. ap node_meant (w.before (omega arith) k q)) (y.nodes (omega arith)))
            (w.nodes (omega arith)));
        operators_add = λ z. override_operators p₁ p₂ p₃ l m r x.operators_add y.operators_add w.operators_add z;
      }

  unary_operators : (n : Node) (p₁ : Nodes) (t t' : Tree policy.Scope) → operators t' ≡ suc (operators t)
      → IsOperator n → (p.operators ≤ most_count → p₁.operators ≡ min (p.operators + operators t) most_count)
      → p.operators ≤ most_count → (stored p₁ n).operators ≡ min (p.operators + operators t') most_count
  unfolding stored
  unary_operators n p₁ t t' o ops f z = let a = f z in ops p₁.operators ∙ omega (arith, counted_is p₁.operators (omega arith))

  -- a node with one part
  counts_unary : (n : Node) (p₁ : Nodes) (t t' : Tree policy.Scope) → size t' ≡ suc (size t) → operators t' ≡ suc (operators t)
      → ((at at' : ℕ → meanings.Node policy.Scope) (lo hi : ℕ) → ((j : ℕ) → j < hi → at' j ≡ at j) → at' hi ≡ node_meant n
      → Encodes at t lo hi → Encodes at' t' lo (hi + 1))
      → IsOperator n → Counts p p₁ t → Counts p (stored p₁ n) t'
  counts_unary n p₁ t t' s o larger ops x =
      record {
        used_is = λ h. let a = x.used_is h in omega (arith, stored_used p₁ n (omega arith));
        before = λ h k i. let a = x.used_is h in stored_below p₁ n k (omega (arith, some_size t)) ∙ x.before h k i;
        nodes = λ room.
            let a = x.used_is (omega arith) in
            ends_at (omega (arith, stored_used p₁ n (omega arith)))
            (larger (label p₁.nodes.items) (label (stored p₁ n).nodes.items) (how_many p.nodes) (how_many p₁.nodes)
            (λ k i. ap node_meant (stored_below p₁ n k i)) (own_node p₁ n refl (omega arith)) (x.nodes (omega arith)));
        operators_add = λ z. unary_operators n p₁ t t' o ops x.operators_add z;
      }

  -- a missing name leaves the nodes and the counts as they are
  counts_noted : (o : Option ℕ) (i : ℕ) (p₁ : Nodes) (t : Tree policy.Scope) → Counts p p₁ t → Counts p (noted o i p₁) t
  unfolding noted
  counts_noted (some m) i p₁ t x = x
  counts_noted none i p₁ t x =
      record { used_is = x.used_is; before = x.before; nodes = x.nodes; operators_add = x.operators_add }

  counts_after : (o : Option ℕ) (i : ℕ) (p₁ : Nodes) (t : Tree policy.Scope) → Counts (noted o i p) p₁ t → Counts p p₁ t
  unfolding noted
  counts_after (some m) i p₁ t x = x
  counts_after none i p₁ t x =
      record { used_is = x.used_is; before = x.before; nodes = x.nodes; operators_add = x.operators_add }

-- no node yet
pub record Empty (p : Nodes) : Type 0 where
  pub no_nodes : p.nodes.items ≡ []
  pub no_operators : p.operators ≡ 0
  pub no_place : p.missing ≡ rust.None

or_else_assoc : (x y z : Option ℕ) → or_else (or_else x y) z ≡ or_else x (or_else y z)
unfolding or_else
or_else_assoc none y z = refl
or_else_assoc (some a) y z = refl

-- ---- the nodes of an expression are those of its tree
suffix_operator : (x : Suffix) (m : ℕ) → IsOperator (node_with x m)
unfolding operators_after
suffix_operator (Comparing s c) m i = refl
suffix_operator (Marking s) m i = refl
suffix_operator Closing m i = refl

module _ (number : Kind → List ℕ → Option ℕ) where
  counts_name : (x : Suffix) (n : List ℕ) (i : ℕ) (p p₁ : Nodes) (t t' : Tree policy.Scope) → size t' ≡ suc (size t) → operators t' ≡ suc (operators t)
      → ((at at' : ℕ → meanings.Node policy.Scope) (lo hi : ℕ) → ((j : ℕ) → j < hi → at' j ≡ at j)
      → at' hi ≡ node_meant (node_with x (place (number (asked_as x) n))) → Encodes at t lo hi → Encodes at' t' lo (hi + 1))
      → Counts p p₁ t → Counts p (emit_name number x n i p₁) t'
  unfolding emit_name
  counts_name x n i p p₁ t t' s o larger y =
      counts_unary p (node_with x (place (number (asked_as x) n))) _ t t' s o larger (suffix_operator x _) (counts_noted p (number (asked_as x) n) i p₁ t y)

  compare_is : (σ : Sort) (o : Op) (n : List ℕ)
      → node_meant (node_with (Comparing (sort_named σ) (op_named o)) (place (number (asked_as (Comparing (sort_named σ) (op_named o))) n)))
      ≡ scope_node (scope_of number (Grammar.compare σ o n))
  unfolding scope_of
  compare_is subject o n = rw (meant_op o)
  compare_is object o n = rw (meant_op o)
  compare_is action o n = rw (meant_op o)

  marked_is : (σ : Sort) (n : List ℕ) → node_meant (node_with (Marking (sort_named σ)) (place (number (asked_as (Marking (sort_named σ))) n)))
      ≡ scope_node (scope_of number (Grammar.marked n σ))
  unfolding scope_of
  marked_is subject n = refl
  marked_is object n = refl
  marked_is action n = refl

  counts_s : (c : Grammar.Scope) (i : ℕ) (p p₁ : Nodes) (t : Tree policy.Scope) → Counts p p₁ t → Counts p (emit_s number c i p₁) (scope (scope_of number c) t)
  unfolding emit_s size operators
  counts_s (Grammar.compare σ o n) i p p₁ t x =
      counts_name (Comparing (sort_named σ) (op_named o)) n _ p p₁ t _ refl refl (λ at at' lo hi h q. more_scope at at' hi h _ (q ∙ compare_is σ o n)) x
  counts_s (Grammar.marked n σ) i p p₁ t x =
      counts_name (Marking (sort_named σ)) n _ p p₁ t _ refl refl (λ at at' lo hi h q. more_scope at at' hi h _ (q ∙ marked_is σ n)) x

  mutual
    unfolding emit_e tree_e emit_table size operators

    counts_e : (xs : List (List ℕ)) (e : Exp) (i : ℕ) (p : Nodes) → Counts p (emit_e number xs e i p) (tree_e number xs e)
    counts_e xs (one f) i p = counts_f xs f i p
    counts_e xs (more e j f) i p = counts_join p j _ _ _ _ (counts_e xs e i p) (counts_f xs f _ _)

    counts_f : (xs : List (List ℕ)) (f : Fac) (i : ℕ) (p : Nodes) → Counts p (emit_f number xs f i p) (tree_f number xs f)
    counts_f xs (plain q) i p = counts_p xs q i p
    counts_f xs (scoped f c) i p = counts_s c _ p _ _ (counts_f xs f i p)
    counts_f xs (closed_by f n) i p =
        counts_name Closing n _ p _ (tree_f number xs f) _ refl refl (λ at at' lo hi h q. more_closure at at' hi h _ q) (counts_f xs f i p)

    counts_p : (xs : List (List ℕ)) (q : Pri) (i : ℕ) (p : Nodes) → Counts p (emit_p number xs q i p) (tree_p number xs q)
    counts_p xs (table_name n) i p = counts_after p (bound_as number xs n) i _ _ (counts_table (noted (bound_as number xs n) i p) (table_of number xs n))
    counts_p xs (bracket e) i p = counts_e xs e _ p
    counts_p xs (Grammar.override e f g) i p = counts_override p _ _ _ _ _ _ (counts_e xs e _ p) (counts_e xs f _ _) (counts_e xs g _ _)
    counts_p xs (Grammar.template x e f) i p = counts_template p _ _ _ _ (counts_e (x ∷ xs) e _ p) (counts_e xs f _ _)

  -- ---- and the place of its first name that is not declared
  -- where the names xs are bound, a table's name may be one of them
  declared : List (List ℕ) → Kind → List ℕ → Bool
  declared [] k n = found (number k n)
  declared (x ∷ xs) k n = not (is_free x k n) || declared xs k n

  abbrev Misses : List (List ℕ) → Nodes → Nodes → List Named → Type 0
  Misses xs p p' ns = found_of p'.missing ≡ or_else (found_of p.missing) (first_missing (declared xs) ns)

  first_append : (xs : List (List ℕ)) (ms ns : List Named)
      → first_missing (declared xs) (ms ++ ns) ≡ or_else (first_missing (declared xs) ms) (first_missing (declared xs) ns)
  unfolding first_missing or_else
  first_append xs [] ns = refl
  first_append xs (m ∷ ms) ns = go (declared xs m.kind m.name) (first_append xs ms ns)
    where
      go : (b : Bool) → first_missing (declared xs) (ms ++ ns) ≡ or_else (first_missing (declared xs) ms) (first_missing (declared xs) ns)
          → ◌≡◌ {A = Option ℕ} (elim b [ true ↦ first_missing (declared xs) (ms ++ ns) | false ↦ some m.place ])
          (or_else (elim b [ true ↦ first_missing (declared xs) ms | false ↦ some m.place ]) (first_missing (declared xs) ns))
      go true e = e
      go false e = refl

  misses_append : (xs : List (List ℕ)) (p p₁ p₂ : Nodes) (ms ns : List Named) → Misses xs p p₁ ms → Misses xs p₁ p₂ ns → Misses xs p p₂ (ms ++ ns)
  misses_append xs p p₁ p₂ ms ns x y = y ∙ rw (x, or_else_assoc, first_append xs ms ns)

  -- a name that x binds is not missing
  first_bound : (x : List ℕ) (xs : List (List ℕ)) (ns : List Named) → first_missing (declared (x ∷ xs)) ns ≡ first_missing (declared xs) (free_of x ns)
  unfolding first_missing free_of declared
  first_bound x xs [] = refl
  first_bound x xs (m ∷ ns) = go (is_free x m.kind m.name) (first_bound x xs ns)
    where
      go : (b : Bool) → first_missing (declared (x ∷ xs)) ns ≡ first_missing (declared xs) (free_of x ns)
          → ◌≡◌ {A = Option ℕ} (elim (not b || declared xs m.kind m.name) [ true ↦ first_missing (declared (x ∷ xs)) ns | false ↦ some m.place ])
          (first_missing (declared xs) (only b (m ∷ []) ++ free_of x ns))
      go true e = ap (λ (o : Option ℕ). elim (declared xs m.kind m.name) [ true ↦ o | false ↦ some m.place ]) e
      go false e = e

  misses_bound : (x : List ℕ) (xs : List (List ℕ)) (p p₁ : Nodes) (ns : List Named) → Misses (x ∷ xs) p p₁ ns → Misses xs p p₁ (free_of x ns)
  misses_bound x xs p p₁ ns m = m ∙ ap (or_else (found_of p.missing)) (first_bound x xs ns)

  noted_place : (o : Option ℕ) (i : ℕ) (p : Nodes)
      → found_of (noted o i p).missing ≡ or_else (found_of p.missing) (elim (found o) [ true ↦ none | false ↦ some i ])
  unfolding noted first_place found or_else
  noted_place (some m) i p = go p.missing
    where
      go : (x : rust.Option ℕ) → found_of x ≡ or_else (found_of x) none
      go (rust.Some j) = refl
      go rust.None = refl
  noted_place none i p = go p.missing
    where
      go : (x : rust.Option ℕ) → found_of (first_place x i) ≡ or_else (found_of x) (some i)
      go (rust.Some j) = refl
      go rust.None = refl

  -- names that are no tables' are not bound
  other_declared : (xs : List (List ℕ)) (k : Kind) (n : List ℕ) → ((x : List ℕ) → is_free x k n ≡ true) → declared xs k n ≡ found (number k n)
  unfolding declared
  other_declared [] k n h = refl
  other_declared (x ∷ xs) k n h = rw (h x) (other_declared xs k n h)

  table_declared : (xs : List (List ℕ)) (n : List ℕ) → declared xs Names.table n ≡ found (bound_as number xs n)
  unfolding declared bound_as is_free found
  table_declared [] n = refl
  table_declared (x ∷ xs) n = go (same n x) (table_declared xs n)
    where
      go : (b : Bool) → declared xs Names.table n ≡ found (bound_as number xs n)
          → (not (not b) || declared xs Names.table n) ≡ found {A = ℕ} (elim b [ true ↦ some 0 | false ↦ bound_as number xs n ])
      go true e = refl
      go false e = e

  misses_noted : (xs : List (List ℕ)) (k : Kind) (n : List ℕ) (o : Option ℕ) (i : ℕ) (c : Node) (p p₁ : Nodes) (ms : List Named)
      → declared xs k n ≡ found o → Misses xs p p₁ ms → Misses xs p (stored (noted o i p₁) c) (ms ++ (entry k n i ∷ []))
  unfolding stored first_missing
  misses_noted xs k n o i c p p₁ ms d x =
      misses_append xs p p₁ (stored (noted o i p₁) c) ms (entry k n i ∷ []) x
      (noted_place o i p₁ ∙ ap (λ (b : Bool). or_else (found_of p₁.missing) (elim b [ true ↦ none | false ↦ some i ])) (sym d))

  misses_name : (xs : List (List ℕ)) (s : Suffix) (n : List ℕ) (i : ℕ) (p p₁ : Nodes) (ms : List Named) → ((x : List ℕ) → is_free x (asked_as s) n ≡ true)
      → Misses xs p p₁ ms → Misses xs p (emit_name number s n i p₁) (ms ++ (entry (asked_as s) n i ∷ []))
  unfolding emit_name
  misses_name xs s n i p p₁ ms h x = misses_noted xs (asked_as s) n (number (asked_as s) n) i _ p p₁ ms (other_declared xs (asked_as s) n h) x

  misses_s : (xs : List (List ℕ)) (c : Grammar.Scope) (i : ℕ) (p p₁ : Nodes) (ms : List Named) → Misses xs p p₁ ms
      → Misses xs p (emit_s number c i p₁) (ms ++ names_s c i)
  unfolding emit_s names_s is_free
  misses_s xs (Grammar.compare subject o n) i p p₁ ms x = misses_name xs (Comparing Subject (op_named o)) n _ p p₁ ms (λ y. refl) x
  misses_s xs (Grammar.compare object o n) i p p₁ ms x = misses_name xs (Comparing Object (op_named o)) n _ p p₁ ms (λ y. refl) x
  misses_s xs (Grammar.compare action o n) i p p₁ ms x = misses_name xs (Comparing Action (op_named o)) n _ p p₁ ms (λ y. refl) x
  misses_s xs (Grammar.marked n subject) i p p₁ ms x = misses_name xs (Marking Subject) n i p p₁ ms (λ y. refl) x
  misses_s xs (Grammar.marked n object) i p p₁ ms x = misses_name xs (Marking Object) n i p p₁ ms (λ y. refl) x
  misses_s xs (Grammar.marked n action) i p p₁ ms x = misses_name xs (Marking Action) n i p p₁ ms (λ y. refl) x

  misses_none : (xs : List (List ℕ)) (p : Nodes) → Misses xs p p []
  unfolding or_else first_missing
  misses_none xs p = go (found_of p.missing)
    where
      go : (x : Option ℕ) → x ≡ or_else x none
      go none = refl
      go (some i) = refl

  mutual
    unfolding emit_e emit_table names_e stored is_free

    misses_e : (xs : List (List ℕ)) (e : Exp) (i : ℕ) (p : Nodes) → Misses xs p (emit_e number xs e i p) (names_e e i)
    misses_e xs (one f) i p = misses_f xs f i p
    misses_e xs (more e j f) i p =
        misses_append xs p (emit_e number xs e i p) (emit_f number xs f _ _) (names_e e i) _ (misses_e xs e i p) (misses_f xs f _ _)

    misses_f : (xs : List (List ℕ)) (f : Fac) (i : ℕ) (p : Nodes) → Misses xs p (emit_f number xs f i p) (names_f f i)
    misses_f xs (plain q) i p = misses_p xs q i p
    misses_f xs (scoped f c) i p = misses_s xs c _ p (emit_f number xs f i p) (names_f f i) (misses_f xs f i p)
    misses_f xs (closed_by f n) i p = misses_name xs Closing n _ p (emit_f number xs f i p) (names_f f i) (λ y. refl) (misses_f xs f i p)

    misses_p : (xs : List (List ℕ)) (q : Pri) (i : ℕ) (p : Nodes) → Misses xs p (emit_p number xs q i p) (names_p q i)
    misses_p xs (table_name n) i p =
        misses_noted xs Names.table n (bound_as number xs n) i (Table (table_of number xs n)) p p [] (table_declared xs n) (misses_none xs p)
    misses_p xs (bracket e) i p = misses_e xs e _ p
    misses_p xs (Grammar.override e f g) i p =
        let u : ℕ = i + 2 + length (text_e e) + 1 in
        let v : ℕ = u + length (text_e f) + 1 in
        let p₁ : Nodes = emit_e number xs e (i + 2) p in
        let p₂ : Nodes = emit_e number xs f u p₁ in
        misses_append xs p p₁ (emit_e number xs g v p₂) (names_e e (i + 2)) (names_e f u ++ names_e g v) (misses_e xs e (i + 2) p)
        (misses_append xs p₁ p₂ (emit_e number xs g v p₂) (names_e f u) (names_e g v) (misses_e xs f u p₁) (misses_e xs g v p₂))
    misses_p xs (Grammar.template x e f) i p =
        let u : ℕ = i + 3 + length x + 1 in
        let v : ℕ = u + length (text_e e) + 2 in
        let p₁ : Nodes = emit_e number (x ∷ xs) e u p in
        misses_append xs p p₁ (emit_e number xs f v p₁) (free_of x (names_e e u)) (names_e f v)
        (misses_bound x xs p p₁ (names_e e u) (misses_e (x ∷ xs) e u p)) (misses_e xs f v p₁)

  -- ---- a text's length bounds the counts
  mutual
    unfolding tree_e operators text_e

    operators_e : (xs : List (List ℕ)) (e : Exp) → operators (tree_e number xs e) ≤ length (text_e e)
    operators_e xs (one f) = operators_f xs f
    operators_e xs (more e j f) =
        omega (arith, operators_e xs e, operators_f xs f, length-append (text_e e) (byte_j j ∷ text_f f))

    operators_f : (xs : List (List ℕ)) (f : Fac) → operators (tree_f number xs f) ≤ length (text_f f)
    operators_f xs (plain q) = operators_p xs q
    operators_f xs (scoped f c) = omega (arith, operators_f xs f, length-append (text_f f) (94 ∷ 91 ∷ (text_s c ++ (93 ∷ []))))
    operators_f xs (closed_by f n) = omega (arith, operators_f xs f, length-append (text_f f) (42 ∷ n))

    operators_p : (xs : List (List ℕ)) (q : Pri) → operators (tree_p number xs q) ≤ length (text_p q)
    operators_p xs (table_name n) = omega arith
    operators_p xs (bracket e) = omega (arith, operators_e xs e, length-append (text_e e) (41 ∷ []))
    operators_p xs (Grammar.override e f g) =
        omega (
          arith,
          operators_e xs e,
          operators_e xs f,
          operators_e xs g,
          length-append (text_e e) (44 ∷ (text_e f ++ (44 ∷ (text_e g ++ (41 ∷ []))))),
          length-append (text_e f) (44 ∷ (text_e g ++ (41 ∷ []))),
          length-append (text_e g) (41 ∷ []),
        )
    operators_p xs (Grammar.template x e f) =
        omega (
          arith,
          operators_e (x ∷ xs) e,
          operators_e xs f,
          length-append x (46 ∷ (text_e e ++ (41 ∷ 40 ∷ (text_e f ++ (41 ∷ []))))),
          length-append (text_e e) (41 ∷ 40 ∷ (text_e f ++ (41 ∷ []))),
          length-append (text_e f) (41 ∷ []),
        )

  -- ---- from no node on
  pub yields : (e : Exp) (p : Nodes) → Empty p → Yields number e (emit_e number [] e 0 p)
  unfolding missing names or_else declared tree_of
  yields e p z =
      let t = tree_of number e in
      let x = counts_e [] e 0 p in
      let u : how_many p.nodes ≡ 0 = ap length z.no_nodes in
      let fill = filled_e number [] e 0 p record { few = omega arith; within = λ m j b. absurd (omega arith) } in
      record {
        few = fill.few;
        tree = λ o. subst (λ i. Encodes (label (emit_e number [] e 0 p).nodes.items) t i (how_many (emit_e number [] e 0 p).nodes)) u
            (x.nodes (omega (arith, size_le t)));
        operators_are = omega (arith, z.no_operators, x.operators_add (omega (arith, z.no_operators)));
        missing_is = misses_e [] e 0 p ∙ ap (λ (m : rust.Option ℕ). or_else (found_of m) (first_missing (declared []) (names_e e 0))) z.no_place;
        within = fill.within;
      }

  -- a text of at most 100,000 bytes has its operators counted
  pub operators_exact : (e : Exp) (p : Nodes) → Yields number e p → length (text_e e) ≤ most_count → p.operators ≡ operators (tree_of number e)
  unfolding tree_of
  operators_exact e p y l = omega (arith, y.operators_are, operators_e [] e)
