-- Laws of the grants in working memory: a loop that marks one grant a turn.
use mathlib.Core.Path.{◌≡◌, sym, ap, ap₂, ◌∙◌}
use mathlib.Core.Bool.{true, ◌||◌, or-false, or-true}
use mathlib.Core.List.{List, [], ◌∷◌, ◌++◌}
use Prim.Native.Nat.{ℕ, ◌+◌, ◌*◌, ◌/◌, ◌%◌, ◌≤◌, ◌<◌}
use native.Mathlib.Decide.{ℕ_discrete}
use native.Mathlib.Omega.{arith}
use lib.Dec.{eqb}
use lib.ListN.{length, get_or, take, drop, replicate, get_or-replicate}
use lib.ListN as lists
use lib.Seq.{get_or-set_same, get_or-set_other, get_or-drop, ext_get_or}
use borrow.Rule.Slice.PartMut.{put_mid}
use borrow.Author.Tests.{eq-eqb, ne_eqb}
use Rattle.algebra.specs.Lists.{any, tab, gather, only, upto}
use Rattle.algebra.specs.Answer.{Answer, permit, byte, sure}
use Rattle.sets.specs.Bytes.{put}
use Rattle.sets.specs.Sets.{Room, put_set}
use Rattle.algebra.specs.Grants.{grant_at_lem, grants_of}
use Rattle.sets.proofs.Bytes.{low_put}
use Rattle.algebra.proofs.Lists.{any_append, gather_more, length_tab, get_or_tab}

-- ---- the answers that the first i grants give a table

abbrev pub given : ℕ → ℕ → List ℕ → ℕ → Answer
given table i w x = sure (any (eqb x) (grants_of 57344 table i w))

-- what the i-th adds
module _ (table i : ℕ) (w : List ℕ) (x : ℕ) where
  grants_more : any (eqb x) (grants_of 57344 table (i + 1) w)
      ≡ (any (eqb x) (grants_of 57344 table i w) || any (eqb x) (only (eqb (grant_at_lem 57344 w i / 4096) table) (grant_at_lem 57344 w i % 4096 ∷ [])))
  unfolding grants_of
  grants_more =
      let f : ℕ → List ℕ = λ i. only (eqb (grant_at_lem 57344 w i / 4096) table) (grant_at_lem 57344 w i % 4096 ∷ []) in
      let more : gather f (upto (i + 1)) ≡ gather f (upto i) ++ f i = gather_more f i in
      ap (any (eqb x)) more ∙ any_append (eqb x) (gather f (upto i)) (f i)

  -- another table's
  grants_miss : (grant_at_lem 57344 w i / 4096 ≡ table → ⊥) → given table (i + 1) w x ≡ given table i w x
  grants_miss h =
      let e : any (eqb x) (grants_of 57344 table (i + 1) w) ≡ any (eqb x) (grants_of 57344 table i w) =
      rw (grants_more, ne_eqb (grant_at_lem 57344 w i / 4096) table h) (or-false (any (eqb x) (grants_of 57344 table i w))) in
      ap sure e

  -- of another access
  grants_other : grant_at_lem 57344 w i / 4096 ≡ table → (x ≡ grant_at_lem 57344 w i % 4096 → ⊥) → given table (i + 1) w x ≡ given table i w x
  grants_other h h' =
      let e : any (eqb x) (grants_of 57344 table (i + 1) w) ≡ any (eqb x) (grants_of 57344 table i w) = rw
      (grants_more, eq-eqb (grant_at_lem 57344 w i / 4096) table h, ne_eqb x (grant_at_lem 57344 w i % 4096) h') (or-false (any (eqb x) (grants_of 57344 table i w))) in
      ap sure e

  grants_hit : grant_at_lem 57344 w i / 4096 ≡ table → x ≡ grant_at_lem 57344 w i % 4096 → given table (i + 1) w x ≡ permit
  grants_hit h h' =
      let e : any (eqb x) (grants_of 57344 table (i + 1) w) ≡ true = rw
      (grants_more, eq-eqb (grant_at_lem 57344 w i / 4096) table h, eq-eqb x (grant_at_lem 57344 w i % 4096) h') (or-true (any (eqb x) (grants_of 57344 table i w))) in
      ap sure e

-- ---- a set that has what the first i grants give it

abbrev pub Given : ℕ → ℕ → ℕ → List ℕ → List ℕ → Type 0
Given table i n w set = (x : ℕ) → x < n → get_or set x 0 ≡ byte (given table i w x)

-- before the first turn
pub none_given : (table n m : ℕ) (w set : List ℕ) → n ≤ m → set ≡ replicate m 0 → Given table 0 n w set
unfolding grants_of
none_given table n m w set few e x h = ap (λ l. get_or l x 0) e ∙ get_or-replicate m x 0 0 (omega arith)

-- one turn: listed is the part of the memory that has the grants, and g the grant
module _ (table n i : ℕ) (w listed set : List ℕ) (part : listed ≡ drop 57344 w) (at : Given table i n w set) (g : ℕ) (read : g ≡ grant_at_lem 0 listed i) where
  grant_is : g ≡ grant_at_lem 57344 w i
  grant_is =
      let low : 57344 + (0 + 2 * i) ≡ 57344 + 2 * i = omega arith in
      let high : 57344 + (0 + 2 * i + 1) ≡ 57344 + 2 * i + 1 = omega arith in
      read ∙ ap (λ l. grant_at_lem 0 l i) part
      ∙ ap₂ (λ a b. a + 256 * b) (get_or-drop 57344 w (0 + 2 * i) 0 ∙ ap (λ j. get_or w j 0) low)
      (get_or-drop 57344 w (0 + 2 * i + 1) 0 ∙ ap (λ j. get_or w j 0) high)

  same_table : g / 4096 ≡ table → grant_at_lem 57344 w i / 4096 ≡ table
  same_table h = ap (λ g. g / 4096) (sym grant_is) ∙ h

  same_access : g % 4096 ≡ grant_at_lem 57344 w i % 4096
  same_access = ap (λ g. g % 4096) grant_is

  pub turn_miss : (g / 4096 ≡ table → ⊥) → Given table (i + 1) n w set
  turn_miss h x b = at x b ∙ ap byte (sym (grants_miss table i w x (λ e. h (ap (λ g. g / 4096) grant_is ∙ e))))

  pub turn_beyond : g / 4096 ≡ table → n ≤ g % 4096 → Given table (i + 1) n w set
  turn_beyond h l x b = at x b ∙ ap byte (sym (grants_other table i w x (same_table h) (λ e. omega (arith, same_access))))

  pub turn_hit : g / 4096 ≡ table → g % 4096 < length set → Given table (i + 1) n w (lists.set set (g % 4096) 2)
  turn_hit h l x b = go (ℕ_discrete x (g % 4096))
    where
      go : Dec (x ≡ g % 4096) → get_or (lists.set set (g % 4096) 2) x 0 ≡ byte (given table (i + 1) w x)
      go (yes e) = rw e (get_or-set_same set (g % 4096) 2 0 l) ∙ sym (ap byte (grants_hit table i w x (same_table h) (e ∙ same_access)))
      go (no e) = get_or-set_other set (g % 4096) x 2 0 e ∙ at x b ∙ sym (ap byte (grants_other table i w x (same_table h) (λ r. e (r ∙ sym same_access))))

-- the set is back in its place
pub set_given : (table k n m i : ℕ) (w set : List ℕ) → Room k n w → length set ≡ m → m ≡ n → Given table i n w set
    → put_mid (k * 4096) m (take 57344 w) set ++ drop 57344 w ≡ put_set k n (given table i w) w
unfolding put_set
set_given table k n m i w set room long is at =
    let f : ℕ → ℕ = λ x. byte (given table i w x) in
    low_put (k * 4096) m 57344 set w long (omega arith)
    ∙ ap (λ bs. put (k * 4096) bs w) (ext_get_or 0 set (tab n f) (long ∙ is ∙ sym (length_tab n f))
    (λ x h. let l : x < n = omega arith in at x l ∙ sym (get_or_tab n f x 0 l)))
