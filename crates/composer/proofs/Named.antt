-- What a number in a tree stands for: a binding in force, or a table.
use mathlib.Core.Path.{◌≡◌, sym, ap, fun_ext, subst, ◌∙◌}
use mathlib.Core.Bool.{Bool, true, false}
use mathlib.Core.List.{List, [], ◌∷◌}
use Prim.Native.Nat.{ℕ, suc, ◌+◌, ◌*◌, ◌-◌, ◌≤◌, ◌<◌, ◌/◌, ◌%◌}
use native.Mathlib.Omega.{arith}
use lib.Dec.{eqb}
use lib.ListN.{length, get_or}
use Rattle.algebra.specs.Lists.{any, gather, only, upto, tab}
use Rattle.algebra.specs.Answer.{Answer, undecided, byte, sure}
use Rattle.algebra.specs.Algebra.{bind}
use Rattle.algebra.specs.Grants.{grant_at_lem, grants_of}
use Rattle.algebra.proofs.Algebra.{by_table}
use Rattle.sets.specs.Bytes.{put}
use Rattle.sets.specs.Sets.{byte_at, put_set}
use Rattle.sets.proofs.Sets.{put_set_cong, copied}
use Rattle.composer.specs.Run.{table_in, Below, InForce}
use Rattle.composer.specs.declared.Setting.{Setting}

-- ---- a table

pub is_here : (i : ℕ) (here : List Bool) (grants : ℕ) (w : List ℕ) (x : ℕ) → get_or here i false ≡ true
    → table_in here grants w i x ≡ sure (any (eqb x) (grants_of 57344 i grants w))
unfolding table_in
is_here i here grants w x e = rw (e, table_in)

pub is_away : (i : ℕ) (here : List Bool) (grants : ℕ) (w : List ℕ) (x : ℕ) → get_or here i false ≡ false → table_in here grants w i x ≡ undecided
unfolding table_in
is_away i here grants w x e = rw (e, table_in)

-- m is n as the code has it
module _ (k n m : ℕ) (here : List Bool) (table grants : ℕ) (w w' : List ℕ) (is : m ≡ n) where
  pub table_here : get_or here table false ≡ true → w' ≡ put_set k m (λ x. sure (any (eqb x) (grants_of 57344 table grants w))) w
      → w' ≡ put_set k n (table_in here grants w table) w
  table_here e q =
      q ∙ ap (λ n. put_set k n (λ x. sure (any (eqb x) (grants_of 57344 table grants w))) w) is
      ∙ put_set_cong k n _ _ w (λ x h. sym (is_here table here grants w x e))

  pub table_away : get_or here table false ≡ false → w' ≡ put_set k m (λ x. undecided) w → w' ≡ put_set k n (table_in here grants w table) w
  table_away e q = q ∙ ap (λ n. put_set k n (λ x. undecided) w) is ∙ put_set_cong k n _ _ w (λ x h. sym (is_away table here grants w x e))

-- the tables are the same where the bytes beyond the sets are
tables_same : (here : List Bool) (grants : ℕ) (w w' : List ℕ) → ((i : ℕ) → 57344 ≤ i → get_or w' i 0 ≡ get_or w i 0)
    → table_in here grants w' ≡ table_in here grants w
unfolding table_in grants_of
tables_same here grants w w' h =
    let e : grant_at_lem 57344 w' ≡ grant_at_lem 57344 w = fun_ext (λ i. rw (h (57344 + 2 * i) (omega arith), h (57344 + 2 * i + 1) (omega arith))) in
    let list : (ℕ → ℕ) → ℕ → List ℕ = λ g i. gather (λ j. only (eqb (g j / 4096) i) (g j % 4096 ∷ [])) (upto grants) in
    ap {B = ℕ → ℕ → Answer} (λ g i x. elim (get_or here i false) [ true ↦ sure (any (eqb x) (list g i)) | false ↦ undecided ]) e

-- ---- a set more that is bound

pub below_more : (k i : ℕ) (bound : List ℕ) → k ≤ i → Below k bound → Below i bound
below_more k i bound h low n l = omega (arith, low n l)

pub below_inner : (k : ℕ) (bound inner : List ℕ) → inner ≡ k ∷ bound → Below k bound → Below (k + 1) inner
below_inner k bound inner e low = subst (Below (k + 1)) (sym e)
    (by_table (λ n. n < length (k ∷ bound) → get_or (k ∷ bound) n 0 < k + 1) (λ l. omega arith) (λ n l. omega (arith, low n (omega arith))))

-- ---- the number of a node

module _ (s : Setting) (bound : List ℕ) (k n number : ℕ) (w w' : List ℕ) (T : ℕ → ℕ → Answer) (f : InForce s bound n w T) where
  -- i is the number, j its set, and m is n, as the code has them
  pub named_bound : (i j m : ℕ) → number < length bound → i ≡ number → j ≡ get_or bound i 0 → m ≡ n → w' ≡ put (k * 4096) (tab m (byte_at j w)) w
      → w' ≡ put_set k n (T number) w
  named_bound i j m l p q is e =
      e ∙ ap (λ n. put (k * 4096) (tab n (byte_at j w)) w) is
      ∙ copied k j n (T number) w (λ x h. ap (λ j. byte_at j w x) (q ∙ ap (λ i. get_or bound i 0) p) ∙ f.inner number l x h)

  pub named_table : length bound ≤ number → w' ≡ put_set k n (table_in s.here s.grants w (number - length bound)) w → w' ≡ put_set k n (T number) w
  named_table l e =
      let is : number ≡ length bound + (number - length bound) = omega arith in
      e ∙ put_set_cong k n _ _ w (λ x h. sym (ap (λ i. T i x) is ∙ f.table (number - length bound) x h))

-- ---- what stays in force

-- with no binding in force every number is a table's
pub unbound : {s : Setting} {bound : List ℕ} {N : ℕ} {w : List ℕ} → length bound ≡ 0 → InForce s bound N w (table_in s.here s.grants w)
unbound {s} {bound} {N} {w} e =
    record { inner = λ n l. absurd (omega arith); table = λ n x h. ap (λ i. table_in s.here s.grants w i x) (omega arith) }

-- set k has the answers f
abbrev pub Holding : ℕ → ℕ → (ℕ → Answer) → List ℕ → Type 0
Holding k N f w = (x : ℕ) → x < N → byte_at k w x ≡ byte (f x)

-- the sets below k and the bytes beyond the sets are as they were
module _ (s : Setting) {N : ℕ} (few : N ≤ 4096) (bound : List ℕ) (k : ℕ) (low : Below k bound) (w w₁ : List ℕ)
    (below : (i : ℕ) → i < k * 4096 → get_or w₁ i 0 ≡ get_or w i 0) (beyond : (i : ℕ) → 57344 ≤ i → get_or w₁ i 0 ≡ get_or w i 0)
    (T : ℕ → ℕ → Answer) (f : InForce s bound N w T) where
  pub still : InForce s bound N w₁ T
  still =
      record {
        inner = λ n l x h. below (get_or bound n 0 * 4096 + x) (omega (arith, low n l)) ∙ f.inner n l x h;
        table = λ n x h. f.table n x h ∙ sym (ap (λ t. t n x) (tables_same s.here s.grants w w₁ beyond));
      }

  -- within the binding of set k
  pub within : (inner : List ℕ) (a : ℕ → Answer) → inner ≡ k ∷ bound → Holding k N a w₁ → InForce s inner N w₁ (bind a T)
  within inner a e h = subst (λ inner. InForce s inner N w₁ (bind a T)) (sym e)
      (record {
        inner = by_table (λ n. n < length (k ∷ bound) → (x : ℕ) → x < N → byte_at (get_or (k ∷ bound) n 0) w₁ x ≡ byte (bind a T n x))
            (λ l x z. h x z) (λ n l x z. still.inner n (omega arith) x z);
        table = λ n x z. let e : length (k ∷ bound) + n ≡ suc (length bound + n) = omega arith in ap (λ m. bind a T m x) e ∙ still.table n x z;
      })
