-- What is written for a template is well formed, within more brackets. Assumes nothing.
use mathlib.Core.Path.{◌≡◌, refl, ap, ◌∙◌}
use mathlib.Core.Logic.{◌⊎◌, inl, inr}
use mathlib.Core.Bool.{Bool, true, false, false≢true}
use mathlib.Core.List.Memᴰ
use mathlib.Core.List.{List, [], ◌∷◌, ◌++◌, Memᴰ}
use mathlib.Core.Option.{Option, none}
use Prim.Native.Nat.{ℕ, zero, suc, ◌+◌, ◌≤◌, ◌<◌}
use native.Mathlib.Omega.{arith}
use lib.ListN.{length, length-append}
use Rattle.algebra.specs.Algebra.{bindings}
use Rattle.algebra.specs.Bytes.{tally}
use Rattle.algebra.proofs.Lists.{of_gather}
use Rattle.algebra.proofs.Bytes.{tally_cons, tally_append}
use Rattle.algebra.proofs.WrittenOut.{written_bindings}
use Rattle.grammar.specs.Name.{is_letter_lem, is_name_lem}
use Rattle.grammar.specs.Expression.{Exp, one, more, Fac, plain, scoped, closed_by, Pri, table_name, bracket, override, template}
use Rattle.grammar.specs.Expression.{byte_j, text_s, text_e, text_f, text_p, OkE, OkF, OkP}
use Rattle.grammar.specs.Names.{Kind}
use Rattle.grammar.specs.Tree.{tree_e, tree_f, tree_p}
use Rattle.grammar.specs.Fresh.{is_among, without}
use Rattle.grammar.specs.WrittenOut.{free_e, free_f, free_p, put, others, renamed, write_e, write_f, write_p, written, out_e, out_f, out_p}
use Rattle.grammar.specs.Statements.{WrittenIsWellFormed, OutIsWellFormed}
use Rattle.grammar.proofs.Name.{name_parts}
use Rattle.grammar.proofs.Fresh.{of_without, no_longer, fresh_name}
use Rattle.grammar.proofs.WrittenOut.{by_name, put_same, put_other, out_tree}

-- ---- within more brackets
mutual
  ok_more : (e : Exp) (a b : ℕ) → OkE e a → a ≤ b → OkE e b
  ok_more (one f) a b h l = ok_factor f a b h l
  ok_more (more e j f) a b h l = (ok_more e a b h.0 l, ok_factor f a b h.1 l)

  ok_factor : (f : Fac) (a b : ℕ) → OkF f a → a ≤ b → OkF f b
  ok_factor (plain p) a b h l = ok_primary p a b h l
  ok_factor (scoped f c) a b h l = (ok_factor f a b h.0 l, h.1)
  ok_factor (closed_by f n) a b h l = (ok_factor f a b h.0 l, h.1)

  ok_primary : (p : Pri) (a b : ℕ) → OkP p a → a ≤ b → OkP p b
  ok_primary (table_name n) a b h l = h
  ok_primary (bracket e) zero b h l = absurd h
  ok_primary (bracket e) (suc a) zero h l = absurd (omega arith)
  ok_primary (bracket e) (suc a) (suc b) h l = ok_more e a b h (omega arith)
  ok_primary (override e f g) zero b h l = absurd h
  ok_primary (override e f g) (suc a) zero h l = absurd (omega arith)
  ok_primary (override e f g) (suc a) (suc b) h l = (ok_more e a b h.0 (omega arith), ok_more f a b h.1 (omega arith), ok_more g a b h.2 (omega arith))
  ok_primary (template x e f) zero b h l = absurd h
  ok_primary (template x e f) (suc a) zero h l = absurd (omega arith)
  ok_primary (template x e f) (suc a) (suc b) h l = (h.0, ok_more e a b h.1 (omega arith), ok_more f a b h.2 (omega arith))

-- ---- the lengths of texts
name_long : (n : List ℕ) → is_name_lem n ≡ true → 1 ≤ length n
unfolding is_letter_lem
name_long [] h = absurd (false≢true (name_parts [] h).word.first)
name_long (b ∷ n) h = omega arith

override_long : (e f g : Exp) → length (text_p (override e f g)) ≡ 5 + length (text_e e) + length (text_e f) + length (text_e g)
unfolding text_e
override_long e f g =
    let p = length-append (text_e e) (44 ∷ (text_e f ++ (44 ∷ (text_e g ++ (41 ∷ []))))) in
    let q = length-append (text_e f) (44 ∷ (text_e g ++ (41 ∷ []))) in
    let r = length-append (text_e g) (41 ∷ []) in
    omega arith

template_long : (x : List ℕ) (e f : Exp) → length (text_p (template x e f)) ≡ 7 + length x + length (text_e e) + length (text_e f)
unfolding text_e
template_long x e f =
    let p = length-append x (46 ∷ (text_e e ++ (41 ∷ 40 ∷ (text_e f ++ (41 ∷ []))))) in
    let q = length-append (text_e e) (41 ∷ 40 ∷ (text_e f ++ (41 ∷ []))) in
    let r = length-append (text_e f) (41 ∷ []) in
    omega arith

-- an expression has no more free names than bytes
mutual
  unfolding free_e text_e

  free_few : (e : Exp) (a : ℕ) → OkE e a → length (free_e e) ≤ length (text_e e)
  free_few (one f) a h = free_factor f a h
  free_few (more e j f) a h =
      omega (arith, free_few e a h.0, free_factor f a h.1, length-append (free_e e) (free_f f), length-append (text_e e) (byte_j j ∷ text_f f))

  free_factor : (f : Fac) (a : ℕ) → OkF f a → length (free_f f) ≤ length (text_f f)
  free_factor (plain p) a h = free_primary p a h
  free_factor (scoped f c) a h = omega (arith, free_factor f a h.0, length-append (text_f f) (94 ∷ 91 ∷ (text_s c ++ (93 ∷ []))))
  free_factor (closed_by f n) a h = omega (arith, free_factor f a h.0, length-append (text_f f) (42 ∷ n))

  free_primary : (p : Pri) (a : ℕ) → OkP p a → length (free_p p) ≤ length (text_p p)
  free_primary (table_name n) a h = name_long n h
  free_primary (bracket e) zero h = absurd h
  free_primary (bracket e) (suc a) h = omega (arith, free_few e a h, length-append (text_e e) (41 ∷ []))
  free_primary (override e f g) zero h = absurd h
  free_primary (override e f g) (suc a) h =
      omega (
        arith,
        free_few e a h.0,
        free_few f a h.1,
        free_few g a h.2,
        length-append (free_e e) (free_e f ++ free_e g),
        length-append (free_e f) (free_e g),
        override_long e f g,
      )
  free_primary (template x e f) zero h = absurd h
  free_primary (template x e f) (suc a) h =
      omega (arith, free_few e a h.1, free_few f a h.2, no_longer x (free_e e), length-append (without x (free_e e)) (free_e f), template_long x e f)

-- ---- what is written for a name: well formed within b brackets, and of free names it has that name's own and some of ms
pub record Apt (u : List ℕ → Pri) (ms : List (List ℕ)) (b : ℕ) : Type 0 where
  pub ok : (n : List ℕ) → is_name_lem n ≡ true → OkP (u n) b
  pub among : (n m : List ℕ) → Memᴰ m (free_p (u n)) → (m ≡ n) ⊎ Memᴰ m ms

-- the bound name is a name
renamed_name : (u : List ℕ → Pri) (ms : List (List ℕ)) (b : ℕ) (x : List ℕ) (e : Exp) (a : ℕ) → Apt u ms b → is_name_lem x ≡ true → OkE e a
    → length ms + length (text_e e) < 9596496 → is_name_lem (renamed u x e) ≡ true
unfolding renamed others
renamed_name u ms b x e a t h o l = go (is_among x (others u x e)) refl
  where
    inside : (n : List ℕ) → Memᴰ n (others u x e) → Memᴰ n (free_e e ++ ms)
    inside n i = let r = of_gather _ (without x (free_e e)) i in by (of_without x (free_e e) r.1).1 (t.among r.0 n r.2)
      where
        by : {k : List ℕ} → Memᴰ k (free_e e) → (n ≡ k) ⊎ Memᴰ n ms → Memᴰ n (free_e e ++ ms)
        by m (inl q) = rw q (Memᴰ.append_left ms m)
        by m (inr m') = Memᴰ.append_right (free_e e) m'

    go : (c : Bool) → is_among x (others u x e) ≡ c → is_name_lem (renamed u x e) ≡ true
    go true c = rw (renamed, c) (fresh_name (others u x e) (free_e e ++ ms) inside (omega (arith, free_few e a o, length-append (free_e e) ms)))
    go false c = rw (renamed, c) h

-- and within the template it is one name more
apt_under : (u : List ℕ → Pri) (ms : List (List ℕ)) (b : ℕ) (x y : List ℕ) → Apt u ms b → is_name_lem y ≡ true → Apt (put x (table_name y) u) (y ∷ ms) b
unfolding free_e
apt_under u ms b x y t h = record {
  ok = λ n i. by_name n x (λ d. rw (put_same x (table_name y) u n d) h) (λ d. rw (put_other x (table_name y) u n d) (t.ok n i));
  among = λ n m i. by_name n x
      (λ d. inr (Memᴰ.head (Memᴰ.eq_of_singleton (rw (put_same x (table_name y) u n d) at i))))
      (λ d. wider (t.among n m (rw (put_other x (table_name y) u n d) at i)));
}
  where
    wider : {n m : List ℕ} → (m ≡ n) ⊎ Memᴰ m ms → (m ≡ n) ⊎ Memᴰ m (y ∷ ms)
    wider (inl q) = inl q
    wider (inr k) = inr (Memᴰ.tail k)

-- ---- an expression in which they are written: within as many brackets more, and its names are names, if it binds none or the names are few
nowhere : Kind → List ℕ → Option ℕ
nowhere k n = none

abbrev Bounded : ℕ → List (List ℕ) → ℕ → Type 0
Bounded bound ms long = 1 ≤ bound → length ms + long < 9596496

mutual
  unfolding write_e tree_e bindings text_e

  write_ok : (u : List ℕ → Pri) (ms : List (List ℕ)) (b : ℕ) → Apt u ms b → (xs : List (List ℕ)) (e : Exp) (a k : ℕ) → OkE e a → a + b ≤ k
      → Bounded (bindings (tree_e nowhere xs e)) ms (length (text_e e)) → OkE (write_e u e) k
  write_ok u ms b t xs (one f) a k h l s = write_factor u ms b t xs f a k h l s
  write_ok u ms b t xs (more e j f) a k h l s = (
    write_ok u ms b t xs e a k h.0 l (λ i. let r = s (omega arith) in omega (arith, length-append (text_e e) (byte_j j ∷ text_f f))),
    write_factor u ms b t xs f a k h.1 l (λ i. let r = s (omega arith) in omega (arith, length-append (text_e e) (byte_j j ∷ text_f f))),
  )

  write_factor : (u : List ℕ → Pri) (ms : List (List ℕ)) (b : ℕ) → Apt u ms b → (xs : List (List ℕ)) (f : Fac) (a k : ℕ) → OkF f a → a + b ≤ k
      → Bounded (bindings (tree_f nowhere xs f)) ms (length (text_f f)) → OkF (write_f u f) k
  write_factor u ms b t xs (plain p) a k h l s = write_primary u ms b t xs p a k h l s
  write_factor u ms b t xs (scoped f c) a k h l s =
      (write_factor u ms b t xs f a k h.0 l (λ i. let r = s i in omega (arith, length-append (text_f f) (94 ∷ 91 ∷ (text_s c ++ (93 ∷ []))))), h.1)
  write_factor u ms b t xs (closed_by f n) a k h l s =
      (write_factor u ms b t xs f a k h.0 l (λ i. let r = s i in omega (arith, length-append (text_f f) (42 ∷ n))), h.1)

  write_primary : (u : List ℕ → Pri) (ms : List (List ℕ)) (b : ℕ) → Apt u ms b → (xs : List (List ℕ)) (p : Pri) (a k : ℕ) → OkP p a → a + b ≤ k
      → Bounded (bindings (tree_p nowhere xs p)) ms (length (text_p p)) → OkP (write_p u p) k
  write_primary u ms b t xs (table_name n) a k h l s = ok_primary (u n) b k (t.ok n h) (omega arith)
  write_primary u ms b t xs (bracket e) zero k h l s = absurd h
  write_primary u ms b t xs (bracket e) (suc a) zero h l s = absurd (omega arith)
  write_primary u ms b t xs (bracket e) (suc a) (suc k) h l s =
      write_ok u ms b t xs e a k h (omega arith) (λ i. let r = s i in omega (arith, length-append (text_e e) (41 ∷ [])))
  write_primary u ms b t xs (override e f g) zero k h l s = absurd h
  write_primary u ms b t xs (override e f g) (suc a) zero h l s = absurd (omega arith)
  write_primary u ms b t xs (override e f g) (suc a) (suc k) h l s = (
    write_ok u ms b t xs e a k h.0 (omega arith) (λ i. let r = s (omega arith) in omega (arith, override_long e f g)),
    write_ok u ms b t xs f a k h.1 (omega arith) (λ i. let r = s (omega arith) in omega (arith, override_long e f g)),
    write_ok u ms b t xs g a k h.2 (omega arith) (λ i. let r = s (omega arith) in omega (arith, override_long e f g)),
  )
  write_primary u ms b t xs (template x e f) zero k h l s = absurd h
  write_primary u ms b t xs (template x e f) (suc a) zero h l s = absurd (omega arith)
  write_primary u ms b t xs (template x e f) (suc a) (suc k) h l s =
      let r = s (omega arith) in
      let y = renamed u x e in
      let d : is_name_lem y ≡ true = renamed_name u ms b x e a t h.0 h.1 (omega (arith, template_long x e f)) in (
        d,
        write_ok (put x (table_name y) u) (y ∷ ms) b (apt_under u ms b x y t d) (x ∷ xs) e a k h.1 (omega arith) (λ i. omega (arith, template_long x e f)),
        write_ok u ms b t xs f a k h.2 (omega arith) (λ i. omega (arith, template_long x e f)),
      )

-- ---- E with `(F)` for each free x
apt_written : (x : List ℕ) (f : Exp) (b : ℕ) → OkE f b → Apt (put x (bracket f) table_name) (free_e f) (suc b)
unfolding free_e
apt_written x f b h = record {
  ok = λ n i. by_name n x (λ d. rw (put_same x (bracket f) table_name n d) h) (λ d. rw (put_other x (bracket f) table_name n d) i);
  among = λ n m i. by_name n x
      (λ d. inr (rw (put_same x (bracket f) table_name n d) at i))
      (λ d. inl (Memᴰ.eq_of_singleton (rw (put_other x (bracket f) table_name n d) at i)));
}

written_ok : (x : List ℕ) (e f : Exp) (a b k : ℕ) → OkE e a → OkE f b → a + suc b ≤ k
    → Bounded (bindings (tree_e nowhere [] e)) (free_e f) (length (text_e e)) → OkE (written x e f) k
unfolding written
written_ok x e f a b k h g l s = write_ok (put x (bracket f) table_name) (free_e f) (suc b) (apt_written x f b g) [] e a k h l s

pub written_is_well_formed : WrittenIsWellFormed
written_is_well_formed x e f zero h l = absurd h
written_is_well_formed x e f (suc a) h l =
    ok_primary (bracket (written x e f)) (suc (a + suc a)) (suc a + suc a)
    (written_ok x e f a a (a + suc a) h.1 h.2 (omega arith) (λ i. omega (arith, template_long x e f, free_few f a h.2)))
    (omega arith)

-- ---- every template written out: no template is left, so no name is bound where another is written
out_none : (e : Exp) → bindings (tree_e nowhere [] (out_e e)) ≡ 0
out_none e = ap bindings (out_tree nowhere [] e) ∙ written_bindings (tree_e nowhere [] e)

-- how many bytes '(' their texts have
bracket_opens : (e : Exp) → tally 40 (text_p (bracket e)) ≡ 1 + tally 40 (text_e e)
unfolding text_e tally
bracket_opens e = omega (arith, tally_append 40 (text_e e) (41 ∷ []))

override_opens : (e f g : Exp) → tally 40 (text_p (override e f g)) ≡ 1 + tally 40 (text_e e) + tally 40 (text_e f) + tally 40 (text_e g)
unfolding text_e tally
override_opens e f g =
    let p = tally_append 40 (text_e e) (44 ∷ (text_e f ++ (44 ∷ (text_e g ++ (41 ∷ []))))) in
    let q = tally_append 40 (text_e f) (44 ∷ (text_e g ++ (41 ∷ []))) in
    let r = tally_append 40 (text_e g) (41 ∷ []) in
    omega arith

template_opens : (x : List ℕ) (e f : Exp) → tally 40 (text_p (template x e f)) ≡ 2 + tally 40 x + tally 40 (text_e e) + tally 40 (text_e f)
unfolding text_e tally
template_opens x e f =
    let p = tally_append 40 x (46 ∷ (text_e e ++ (41 ∷ 40 ∷ (text_e f ++ (41 ∷ []))))) in
    let q = tally_append 40 (text_e e) (41 ∷ 40 ∷ (text_e f ++ (41 ∷ []))) in
    let r = tally_append 40 (text_e f) (41 ∷ []) in
    omega arith

mutual
  unfolding out_e text_e

  out_ok : (e : Exp) (a k : ℕ) → OkE e a → tally 40 (text_e e) ≤ k → OkE (out_e e) k
  out_ok (one f) a k h l = out_factor f a k h l
  out_ok (more e j f) a k h l =
      let p = tally_append 40 (text_e e) (byte_j j ∷ text_f f) in
      let q = tally_cons 40 (byte_j j) (text_f f) in
      (out_ok e a k h.0 (omega arith), out_factor f a k h.1 (omega arith))

  out_factor : (f : Fac) (a k : ℕ) → OkF f a → tally 40 (text_f f) ≤ k → OkF (out_f f) k
  out_factor (plain p) a k h l = out_primary p a k h l
  out_factor (scoped f c) a k h l = (out_factor f a k h.0 (omega (arith, tally_append 40 (text_f f) (94 ∷ 91 ∷ (text_s c ++ (93 ∷ []))))), h.1)
  out_factor (closed_by f n) a k h l = (out_factor f a k h.0 (omega (arith, tally_append 40 (text_f f) (42 ∷ n))), h.1)

  out_primary : (p : Pri) (a k : ℕ) → OkP p a → tally 40 (text_p p) ≤ k → OkP (out_p p) k
  out_primary (table_name n) a k h l = h
  out_primary (bracket e) zero k h l = absurd h
  out_primary (bracket e) (suc a) zero h l = absurd (omega (arith, bracket_opens e))
  out_primary (bracket e) (suc a) (suc k) h l = out_ok e a k h (omega (arith, bracket_opens e))
  out_primary (override e f g) zero k h l = absurd h
  out_primary (override e f g) (suc a) zero h l = absurd (omega (arith, override_opens e f g))
  out_primary (override e f g) (suc a) (suc k) h l =
      let t = override_opens e f g in
      (out_ok e a k h.0 (omega arith), out_ok f a k h.1 (omega arith), out_ok g a k h.2 (omega arith))
  out_primary (template x e f) zero k h l = absurd h
  out_primary (template x e f) (suc a) zero h l = absurd (omega (arith, template_opens x e f))
  out_primary (template x e f) (suc a) (suc k) h l =
      let t = template_opens x e f in
      let p = out_ok e a (tally 40 (text_e e)) h.1 (omega arith) in
      let q = out_ok f a (tally 40 (text_e f)) h.2 (omega arith) in
      let z = out_none e in
      written_ok x (out_e e) (out_e f) (tally 40 (text_e e)) (tally 40 (text_e f)) k p q (omega arith) (λ i. absurd (omega arith))

pub out_is_well_formed : OutIsWellFormed
out_is_well_formed e a h = out_ok e a (tally 40 (text_e e)) h (omega arith)
