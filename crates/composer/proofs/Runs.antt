-- Laws of a run: what each kind of node makes of the sets, and what the run of a tree leaves by what the runs of its parts leave.
use mathlib.Core.Path.{◌≡◌, refl, sym, ap, ap₂, subst, ◌∙◌}
use mathlib.Core.List.{List, ◌∷◌, ◌++◌}
use Prim.Native.Nat.{ℕ, ◌+◌, ◌*◌, ◌-◌, ◌≤◌, ◌<◌}
use native.Mathlib.Omega.{arith}
use lib.ListN.{length, get_or, take, drop}
use lib.Seq.{get_or-take, get_or-drop}
use Rattle.algebra.specs.Lists.{tab}
use Rattle.algebra.specs.Answer.{Answer, byte, answer_of, known, keep, Joiner, joined, overridden}
use Rattle.algebra.specs.Rounds.{Clause, used}
use Rattle.algebra.specs.Algebra.{Tree, table, join, override, scope, closure, template, bind, permits, decided, close, answer, rounds}
use Rattle.algebra.specs.Nodes.{table_node, join_node, override_node, scope_node, closure_node, template_node, back}
use Rattle.algebra.specs.Policy.{Frame, Scope, accesses, in_scope, clauses, model}
use Rattle.algebra.proofs.Lists.{length_tab, every_cong}
use Rattle.algebra.proofs.Answer.{byte_small}
use Rattle.algebra.proofs.Algebra.{permits_cong}
use Rattle.algebra.proofs.Nodes.{some_nodes, is_table, halves, thirds, scoped, closed, filled}
use Rattle.sets.specs.Bytes.{put}
use Rattle.sets.specs.Sets.{byte_at, answer_at, set_at, put_set, Answers}
use Rattle.sets.proofs.Bytes.{part_put}
use Rattle.sets.proofs.Sets.{answer_of_byte, put_set_low, put_set_at, put_set_high, copied}
use Rattle.closure.specs.Closed.{answers_of, ClosedTo}
use Rattle.nodes.specs.Cells.{label}
use Rattle.nodes.specs.declared.Node.{Node}
use Rattle.composer.specs.Run.{Below, InForce, ClosedAt, Answered, FewRounds, AllAnswered}
use Rattle.composer.specs.declared.Setting.{Setting}
use Rattle.composer.proofs.Named.{Holding, still, within}

-- ---- a closure

-- the closure of a part of the memory is that of a set; m is how long the part is
pub closed_at : (fr : Frame) (set limit k m : ℕ) (w l : List ℕ) (r : ℕ) → m ≡ accesses fr → ClosedTo fr set limit (take m (drop (k * 4096) w)) r l
    → ClosedAt fr set limit k w r (take (k * 4096) w ++ (l ++ drop m (drop (k * 4096) w)))
closed_at fr set limit k m w l r e cl =
    let N : ℕ = accesses fr in
    let f : List ℕ → List ℕ = λ q. tab N (λ x. byte (close N (clauses fr set) limit (answers_of q) x)) in
    let same : take m (drop (k * 4096) w) ≡ set_at k N w = ap (λ m. take m (drop (k * 4096) w)) e in
    let bs : l ≡ f (set_at k N w) = cl.answers ∙ ap f same in
    let long : length l ≡ m = ap length bs ∙ length_tab N _ ∙ sym e in
    record {
      all = cl.all ∙ ap (λ q. used N (clauses fr set) limit (permits N (answers_of q))) same;
      bytes = part_put (k * 4096) m l w long ∙ ap (λ bs. put (k * 4096) bs w) bs;
    }

-- a closure by answers that are the same
close_cong : (N : ℕ) (G : List Clause) (lim : ℕ) (a a' : ℕ → Answer) → ((y : ℕ) → y < N → a y ≡ a' y) → (x : ℕ) → close N G lim a x ≡ close N G lim a' x
unfolding close decided
close_cong N G lim a a' h x = rw (permits_cong N a a' h, every_cong N (λ y. known (a y)) (λ y. known (a' y)) (λ y l. ap known (h y l)))

-- ---- answers in a set

all_answers : {N : ℕ} (k : ℕ) (f : ℕ → Answer) (w : List ℕ) → Holding k N f w → Answers k N w
all_answers k f w h x l = omega (arith, h x l, byte_small (f x))

answer_is : {N : ℕ} (k : ℕ) (f : ℕ → Answer) (w : List ℕ) → Holding k N f w → (x : ℕ) → x < N → answer_at k w x ≡ f x
answer_is k f w h x l = ap answer_of (h x l) ∙ answer_of_byte (f x)

-- a set below the one that is worked on stays
holding_below : {N : ℕ} (k i : ℕ) (f : ℕ → Answer) (w w' : List ℕ) → N ≤ 4096 → k < i → ((j : ℕ) → j < i * 4096 → get_or w' j 0 ≡ get_or w j 0)
    → Holding k N f w → Holding k N f w'
holding_below k i f w w' few l b h x m = b (k * 4096 + x) (omega arith) ∙ h x m

-- ---- the kinds of a node

module _ (fr : Frame) (lim : ℕ) (T : ℕ → ℕ → Answer) (few : accesses fr ≤ 4096) (k : ℕ) (room : k < 14) where
  abbrev N : ℕ
  N = accesses fr

  abbrev of : Tree Scope → ℕ → Answer
  of t x = answer (model fr) lim T t x

  -- set k becomes the answers of t, after what leaves the sets below it and the bytes beyond the sets as they were
  put_answers : (t : Tree Scope) (f : ℕ → Answer) (r : ℕ) (w w₁ w₂ : List ℕ) → 65536 ≤ length w₁
      → ((i : ℕ) → i < k * 4096 → get_or w₁ i 0 ≡ get_or w i 0) → ((i : ℕ) → 57344 ≤ i → get_or w₁ i 0 ≡ get_or w i 0) → w₂ ≡ put_set k N f w₁
      → ((x : ℕ) → x < N → f x ≡ of t x) → r ≡ rounds (model fr) lim T t → Answered fr lim T t k w r w₂
  put_answers t f r w w₁ w₂ long below beyond q v e =
      let fits : k * 4096 + N ≤ length w₁ = omega arith in
      record {
        answers = λ x l. ap (λ u. byte_at k u x) q ∙ put_set_at k N f w₁ fits x l ∙ ap byte (v x l);
        all = e;
        below = λ i l. ap (λ u. get_or u i 0) q ∙ put_set_low k N f w₁ fits i l ∙ below i l;
        beyond = λ i l. ap (λ u. get_or u i 0) q ∙ put_set_high k N f w₁ fits i (omega arith) ∙ beyond i l;
      }

  run_table : (i : ℕ) (w w' : List ℕ) → 65536 ≤ length w → w' ≡ put_set k N (T i) w → Answered fr lim T (table i) k w 0 w'
  unfolding answer rounds
  run_table i w w' long q = put_answers (table i) (T i) 0 w w w' long (λ i l. refl) (λ i l. refl) q (λ x l. refl) refl

  -- two parts, and three: each part's set is below that of the next
  run_two : (j : Joiner) (l r : Tree Scope) (w w₁ w₂ w₃ : List ℕ) (a b : ℕ) → Answered fr lim T l k w a w₁ → Answered fr lim T r (k + 1) w₁ b w₂
      → 65536 ≤ length w₂ → (Answers k N w₂ → Answers (k + 1) N w₂ → w₃ ≡ put_set k N (λ x. joined j (answer_at k w₂ x) (answer_at (k + 1) w₂ x)) w₂)
      → Answered fr lim T (join j l r) k w (a + b) w₃
  unfolding answer rounds
  run_two j l r w w₁ w₂ w₃ a b d e long s =
      let p : Holding k N (of l) w₂ = holding_below k (k + 1) (of l) w₁ w₂ few (omega arith) e.below d.answers in
      put_answers (join j l r) _ (a + b) w w₂ w₃ long (λ i h. e.below i (omega arith) ∙ d.below i h) (λ i h. e.beyond i h ∙ d.beyond i h)
      (s (all_answers k (of l) w₂ p) (all_answers (k + 1) (of r) w₂ e.answers))
      (λ x h. ap₂ (joined j) (answer_is k (of l) w₂ p x h) (answer_is (k + 1) (of r) w₂ e.answers x h)) (ap₂ ◌+◌ d.all e.all)

  run_three : (l m r : Tree Scope) (w w₁ w₂ w₃ w₄ : List ℕ) (a b c : ℕ) → Answered fr lim T l k w a w₁ → Answered fr lim T m (k + 1) w₁ b w₂
      → Answered fr lim T r (k + 2) w₂ c w₃ → 65536 ≤ length w₃
      → (Answers k N w₃ → Answers (k + 1) N w₃ → Answers (k + 2) N w₃
      → w₄ ≡ put_set k N (λ x. overridden (answer_at k w₃ x) (answer_at (k + 1) w₃ x) (answer_at (k + 2) w₃ x)) w₃)
      → Answered fr lim T (override l m r) k w (a + b + c) w₄
  unfolding answer rounds
  run_three l m r w w₁ w₂ w₃ w₄ a b c d e f long s =
      let p₂ : Holding k N (of l) w₂ = holding_below k (k + 1) (of l) w₁ w₂ few (omega arith) e.below d.answers in
      let p : Holding k N (of l) w₃ = holding_below k (k + 2) (of l) w₂ w₃ few (omega arith) f.below p₂ in
      let q : Holding (k + 1) N (of m) w₃ = holding_below (k + 1) (k + 2) (of m) w₂ w₃ few (omega arith) f.below e.answers in
      put_answers (override l m r) _ (a + b + c) w w₃ w₄ long (λ i h. f.below i (omega arith) ∙ e.below i (omega arith) ∙ d.below i h)
      (λ i h. f.beyond i h ∙ e.beyond i h ∙ d.beyond i h)
      (s (all_answers k (of l) w₃ p) (all_answers (k + 1) (of m) w₃ q) (all_answers (k + 2) (of r) w₃ f.answers))
      (λ x h. rw (answer_is k (of l) w₃ p x h, answer_is (k + 1) (of m) w₃ q x h, answer_is (k + 2) (of r) w₃ f.answers x h) refl)
      (ap₂ ◌+◌ (ap₂ ◌+◌ d.all e.all) f.all)

  -- x stands for F's answers, which stay in set k while E is run; then E's come there
  run_template : (e f : Tree Scope) (w w₁ w₂ w₃ : List ℕ) (a b : ℕ) → Answered fr lim T f k w a w₁ → Answered fr lim (bind (of f) T) e (k + 1) w₁ b w₂
      → 65536 ≤ length w₂ → w₃ ≡ put (k * 4096) (tab N (byte_at (k + 1) w₂)) w₂ → Answered fr lim T (template e f) k w (a + b) w₃
  unfolding answer rounds
  run_template e f w w₁ w₂ w₃ a b d g long q =
      let E : ℕ → Answer = answer (model fr) lim (bind (of f) T) e in
      put_answers (template e f) E (a + b) w w₂ w₃ long (λ i h. g.below i (omega arith) ∙ d.below i h) (λ i h. g.beyond i h ∙ d.beyond i h)
      (q ∙ copied k (k + 1) N E w₂ g.answers) (λ x h. refl) (ap₂ ◌+◌ d.all g.all)

  module _ (u : Tree Scope) (w w₁ : List ℕ) (a : ℕ) (long : 65536 ≤ length w₁) (d : Answered fr lim T u k w a w₁) where
    run_scope : (c : Scope) (w₂ : List ℕ) → w₂ ≡ put_set k N (λ x. keep (in_scope fr c x) (answer_at k w₁ x)) w₁ → Answered fr lim T (scope c u) k w a w₂
    unfolding answer rounds
    run_scope c w₂ q =
        put_answers (scope c u) _ a w w₁ w₂ long d.below d.beyond q (λ x l. ap (keep (in_scope fr c x)) (answer_is k (of u) w₁ d.answers x l)) d.all

    -- the bytes of the set are the answers
    set_answers : (x : ℕ) → x < N → answers_of (set_at k N w₁) x ≡ of u x
    set_answers x l = ap answer_of (get_or-take N (drop (k * 4096) w₁) x 0 l ∙ get_or-drop (k * 4096) w₁ x 0) ∙ answer_is k (of u) w₁ d.answers x l

    run_closure : (R b : ℕ) (w₂ : List ℕ) → ClosedAt fr R lim k w₁ b w₂ → Answered fr lim T (closure R u) k w (a + b) w₂
    unfolding answer rounds put_set
    run_closure R b w₂ cl =
        put_answers (closure R u) _ (a + b) w w₁ w₂ long d.below d.beyond cl.bytes
        (λ x l. close_cong N (clauses fr R) lim _ (of u) set_answers x)
        (ap₂ ◌+◌ d.all (cl.all ∙ ap (used N (clauses fr R) lim) (permits_cong N _ (of u) set_answers)))

-- ---- what a call of the run promises of each tree that ends there

module _ (m : List Node) (end : ℕ) where
  pub few_two : (j : Joiner) → label m (end - 1) ≡ join_node j → (mid a b : ℕ) → mid ≡ back (label m) (end - 1) 1 → FewRounds m mid a → FewRounds m (end - 1) b
      → FewRounds m end (a + b)
  few_two j o mid a b s f g e lo en =
      let v = halves j mid o s en in
      omega (arith, f v.l lo v.left, g v.r mid v.right, some_nodes v.left, some_nodes v.right)

  pub few_three : label m (end - 1) ≡ override_node → (second third a b d : ℕ) → third ≡ back (label m) (end - 1) 1 → second ≡ back (label m) third 1
      → FewRounds m second a → FewRounds m third b → FewRounds m (end - 1) d → FewRounds m end (a + b + d)
  few_three o second third a b d s z f g h e lo en =
      let v = thirds second third o s z en in
      let x = some_nodes v.left in
      let y = some_nodes v.middle in
      let w = some_nodes v.right in
      omega (arith, f v.p lo v.left, g v.q second v.middle, h v.s third v.right)

  pub few_scope : (c : Scope) → label m (end - 1) ≡ scope_node c → (a : ℕ) → FewRounds m (end - 1) a → FewRounds m end a
  few_scope c o a f e lo en = let v = scoped c o en in omega (arith, f v.u lo v.part, some_nodes v.part)

  pub few_closure : (R : ℕ) → label m (end - 1) ≡ closure_node R → (a b : ℕ) → b ≤ 4096 → FewRounds m (end - 1) a → FewRounds m end (a + b)
  few_closure R o a b h f e lo en = let v = closed R o en in omega (arith, f v.u lo v.part, some_nodes v.part)

  pub few_template : label m (end - 1) ≡ template_node → (mid a b : ℕ) → mid ≡ back (label m) (end - 1) 1 → FewRounds m (end - 1) a → FewRounds m mid b
      → FewRounds m end (a + b)
  few_template o mid a b s f g e lo en =
      let v = filled mid o s en in
      omega (arith, f v.f mid v.filling, g v.e lo v.body, some_nodes v.filling, some_nodes v.body)

  module _ (fr : Frame) (st : Setting) where
    abbrev lim : ℕ
    lim = st.limit

    abbrev Ran : List ℕ → ℕ → ℕ → List ℕ → ℕ → List ℕ → Type 0
    Ran bs end i w r w' = AllAnswered fr m end i bs st w r w'

    -- size is how many accesses there are
    module _ (bs : List ℕ) (k size : ℕ) (few : size ≤ 4096) (is-size : size ≡ accesses fr) (room : k < 14) (low : Below k bs) where
      few' : accesses fr ≤ 4096
      few' = omega arith

      pub ran_table : (i : ℕ) → label m (end - 1) ≡ table_node i → (w w' : List ℕ) → 65536 ≤ length w
          → ((T : ℕ → ℕ → Answer) → InForce st bs size w T → w' ≡ put_set k size (T i) w) → Ran bs end k w 0 w'
      ran_table i p w w' long q T o e lo en =
          subst (λ e. Answered fr lim T e k w 0 w') (sym (is_table i p en))
          (run_table fr lim T few' k room i w w' long
          (q T (subst (λ s. InForce st bs s w T) (sym is-size) o) ∙ ap (λ s. put_set k s (T i) w) is-size))

      pub ran_two : (j : Joiner) → label m (end - 1) ≡ join_node j → (mid : ℕ) (w w₁ w₂ w₃ : List ℕ) (a b : ℕ) → mid ≡ back (label m) (end - 1) 1
          → 65536 ≤ length w₂ → Ran bs mid k w a w₁ → Ran bs (end - 1) (k + 1) w₁ b w₂
          → (Answers k size w₂ → Answers (k + 1) size w₂ → w₃ ≡ put_set k size (λ x. joined j (answer_at k w₂ x) (answer_at (k + 1) w₂ x)) w₂)
          → Ran bs end k w (a + b) w₃
      ran_two j p mid w w₁ w₂ w₃ a b s long f g q T o e lo en =
          let v = halves j mid p s en in
          let x = f T o v.l lo v.left in
          let y = g T (still st few' bs k low w w₁ x.below x.beyond T o) v.r mid v.right in
          subst (λ e. Answered fr lim T e k w (a + b) w₃) (sym v.is)
          (run_two fr lim T few' k room j v.l v.r w w₁ w₂ w₃ a b x y long
          (subst (λ s. Answers k s w₂ → Answers (k + 1) s w₂ → w₃ ≡ put_set k s (λ x. joined j (answer_at k w₂ x) (answer_at (k + 1) w₂ x)) w₂) is-size q))

      pub ran_three : label m (end - 1) ≡ override_node → (second third : ℕ) (w w₁ w₂ w₃ w₄ : List ℕ) (a b d : ℕ) → third ≡ back (label m) (end - 1) 1
          → second ≡ back (label m) third 1 → 65536 ≤ length w₃ → Ran bs second k w a w₁ → Ran bs third (k + 1) w₁ b w₂ → Ran bs (end - 1) (k + 2) w₂ d w₃
          → (Answers k size w₃ → Answers (k + 1) size w₃ → Answers (k + 2) size w₃
          → w₄ ≡ put_set k size (λ x. overridden (answer_at k w₃ x) (answer_at (k + 1) w₃ x) (answer_at (k + 2) w₃ x)) w₃) → Ran bs end k w (a + b + d) w₄
      ran_three p second third w w₁ w₂ w₃ w₄ a b d s i long f g h q T o e lo en =
          let made : ℕ → List ℕ = λ s. put_set k s (λ x. overridden (answer_at k w₃ x) (answer_at (k + 1) w₃ x) (answer_at (k + 2) w₃ x)) w₃ in
          let v = thirds second third p s i en in
          let x = f T o v.p lo v.left in
          let o₁ = still st few' bs k low w w₁ x.below x.beyond T o in
          let y = g T o₁ v.q second v.middle in
          let u = h T (still st few' bs k low w₁ w₂ (λ i l. y.below i (omega arith)) y.beyond T o₁) v.s third v.right in
          subst (λ e. Answered fr lim T e k w (a + b + d) w₄) (sym v.is)
          (run_three fr lim T few' k room v.p v.q v.s w w₁ w₂ w₃ w₄ a b d x y u long
          (subst (λ s. Answers k s w₃ → Answers (k + 1) s w₃ → Answers (k + 2) s w₃ → w₄ ≡ made s) is-size q))

      -- F is run first, and then E within the binding of F's set
      pub ran_template : label m (end - 1) ≡ template_node → (bs' : List ℕ) (mid : ℕ) (w w₁ w₂ w₃ : List ℕ) (a b : ℕ) → mid ≡ back (label m) (end - 1) 1
          → bs' ≡ k ∷ bs → 65536 ≤ length w₂ → Ran bs (end - 1) k w a w₁ → Ran bs' mid (k + 1) w₁ b w₂
          → w₃ ≡ put (k * 4096) (tab size (byte_at (k + 1) w₂)) w₂ → Ran bs end k w (a + b) w₃
      ran_template p bs' mid w w₁ w₂ w₃ a b s i long f g q T o e lo en =
          let v = filled mid p s en in
          let x = f T o v.f mid v.filling in
          let F : ℕ → Answer = answer (model fr) lim T v.f in
          let y = g (bind F T) (within st few' bs k low w w₁ x.below x.beyond T o bs' F i x.answers) v.e lo v.body in
          subst (λ e. Answered fr lim T e k w (a + b) w₃) (sym v.is)
          (run_template fr lim T few' k room v.e v.f w w₁ w₂ w₃ a b x y long
          (subst (λ s. w₃ ≡ put (k * 4096) (tab s (byte_at (k + 1) w₂)) w₂) is-size q))

      module _ (w w₁ : List ℕ) (a : ℕ) (long : 65536 ≤ length w₁) (f : Ran bs (end - 1) k w a w₁) where
        pub ran_closure : (R : ℕ) → label m (end - 1) ≡ closure_node R → (b : ℕ) (w₂ : List ℕ) → ClosedAt fr R lim k w₁ b w₂ → Ran bs end k w (a + b) w₂
        ran_closure R p b w₂ cl T o e lo en =
            let v = closed R p en in
            subst (λ e. Answered fr lim T e k w (a + b) w₂) (sym v.is)
            (run_closure fr lim T few' k room v.u w w₁ a long (f T o v.u lo v.part) R b w₂ cl)

        pub ran_scope : (c : Scope) → label m (end - 1) ≡ scope_node c → (w₂ : List ℕ)
            → (Answers k (accesses fr) w₁ → w₂ ≡ put_set k (accesses fr) (λ x. keep (in_scope fr c x) (answer_at k w₁ x)) w₁) → Ran bs end k w a w₂
        ran_scope c p w₂ q T o e lo en =
            let v = scoped c p en in
            let d = f T o v.u lo v.part in
            let r = q (all_answers k (answer (model fr) lim T v.u) w₁ d.answers) in
            subst (λ e. Answered fr lim T e k w a w₂) (sym v.is) (run_scope fr lim T few' k room v.u w w₁ a long d c w₂ r)
