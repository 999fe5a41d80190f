-- The ways through the readers of primaries, factors and expressions. Assumes nothing.
use Rattle.std.proofs.Common.{◌≡◌, refl, sym, ap, subst, ◌∙◌, Bool, true, false, cond, ◌&&◌, List, [], ◌∷◌, ◌++◌, Result, Ok, Err, ℕ, suc, arith}
use Rattle.std.proofs.Common.{◌+◌, ◌-◌, ◌≤◌, ◌<◌, eqb, length, get_or, drop, length-append}
use Rattle.std.proofs.lemmas.Bool.{false≢true}
use Rattle.std.proofs.Math.Option.{Option, none, some}
use Rattle.std.proofs.Math.Seq.{slice, length-slice}
use Rattle.std.specs.Prelude as rust
use borrow.Author.Tests.{eq-eqb, ne_eqb, eqb-true}
use Rattle.algebra.specs.Sort.{subject, object, action}
use Rattle.algebra.specs.Answer.{Joiner}
use Rattle.algebra.specs.Meant.{joiner_meant}
use Rattle.algebra.specs.declared.Joiner as joiners
use Rattle.algebra.specs.declared.Joiner.TheVariants.{Plus, And, Minus}
use Rattle.algebra.proofs.Bool.{or_none, and_left, and_right}
use Rattle.grammar.specs.Name.{is_letter_lem, is_name_byte_lem, Letter, of_sort, of_template, byte_of, letter_byte_lem, letter_word}
use Rattle.grammar.specs.Expression.{Exp, Fac, plain, table_name, bracket, override, template, byte_j, text_e, text_f, text_p}
use Rattle.grammar.specs.Machine.{Left, start, after, join, Frame, open_bracket, open_first, open_second, open_third, open_template, open_filling}
use Rattle.grammar.specs.Machine.{at_table, at_bound, State, need, begin, naming, have, unfilled, closed, parted, binding, delimited, joined, onward, last}
use Rattle.grammar.specs.Machine.{named, named_end, finish, grows, step, run}
use Rattle.grammar.specs.Names.{Kind}
use Rattle.nodes.specs.declared.Node.TheVariants.{Join, Override, Template}
use Rattle.words.specs.Cells.{joiner_named, stored, emit_table, emit_e, emit_f}
use Rattle.words.specs.Contract.{sign_byte, suffix_byte, Past, Word, Starts, Strict, ReadsName, Name, Unbinding, SuffixesAt, Stuck, PrimaryAt, FactorAt}
use Rattle.words.specs.Contract.{ReadsMore, MoreAt, ReadsExpression}
use Rattle.words.specs.Contract.{ExpressionAt, Awaits, StuckPart, ReadsPart, PartAt, OverrideAt, FillingAt, TemplateAt}
use Rattle.words.specs.declared.Nodes.{Nodes}
use Rattle.grammar.proofs.Name.{word_of_letter}
use Rattle.grammar.proofs.Machine.{is_in_lem, run_go, run_none, run_byte, next_byte, no_byte, settle_table, one_less, opens, full}
use Rattle.grammar.proofs.Complete.{joiner_step}
use Rattle.words.proofs.Words.{slice_one, begins_word, the_word}

-- ---- a byte that has to stand at a place
pub past_in : (t : List ℕ) (at b n : ℕ) → 0 < b → Past t at b (Ok n) → (at < n) × (n ≤ length t)
past_in t at b n h u = (omega (arith, u.0), omega (arith, u.0, is_in_lem b t at u.1 h))

-- ---- signs and delimiters
pub cond_same : (t : Bool) → cond {A = Option State} t none none ≡ none
cond_same true = refl
cond_same false = refl

-- after a factor that no suffix and no sign follows
pub delims : (a : ℕ) (ks : List Frame) (l : Left) (f : Fac) (b : ℕ) → suffix_byte b ≡ false → sign_byte b ≡ rust.None
    → onward a ks l f b ≡ delimited a ks (join l f) b
unfolding onward joined
delims a ks l f b s o = go (eqb b 43) (eqb b 38) (eqb b 45) refl refl refl o
  where
    go : (x y z : Bool) → eqb b 43 ≡ x → eqb b 38 ≡ y → eqb b 45 ≡ z
        → ◌≡◌ {A = rust.Option joiners.Joiner} (cond x (rust.Some Plus) (cond y (rust.Some And) (cond z (rust.Some Minus) rust.None))) rust.None
        → onward a ks l f b ≡ delimited a ks (join l f) b
    go true y z p q r h = absurd cc
    go false true z p q r h = absurd cc
    go false false true p q r h = absurd cc
    go false false false p q r h = let x = or_none (eqb b 94) (eqb b 42) s in rw (x.0, x.1, p, q, r)

sign_of : (b : ℕ) (j : joiners.Joiner) → rust.Some j ≡ sign_byte b → b ≡ byte_j (joiner_meant j)
unfolding byte_j
sign_of b j h = go (eqb b 43) (eqb b 38) (eqb b 45) refl refl refl h
  where
    go : (x y z : Bool) → eqb b 43 ≡ x → eqb b 38 ≡ y → eqb b 45 ≡ z
        → rust.Some j ≡ cond x (rust.Some Plus) (cond y (rust.Some And) (cond z (rust.Some Minus) rust.None)) → b ≡ byte_j (joiner_meant j)
    go true y z p q r h = let e : j ≡ Plus = cc in rw e (eqb-true b 43 p)
    go false true z p q r h = let e : j ≡ And = cc in rw e (eqb-true b 38 q)
    go false false true p q r h = let e : j ≡ Minus = cc in rw e (eqb-true b 45 r)
    go false false false p q r h = absurd cc

pos_sign : (j : joiners.Joiner) → 0 < byte_j (joiner_meant j)
unfolding byte_j
pos_sign Plus = omega arith
pos_sign And = omega arith
pos_sign Minus = omega arith

-- the code's signs are those of the definitions
named_meant : (j : joiners.Joiner) → joiner_named (joiner_meant j) ≡ j
named_meant Plus = refl
named_meant And = refl
named_meant Minus = refl

-- `t:` leads on in a bracket alone, and only right behind its '('
after_unbinding : (t : List ℕ) (at : ℕ) (ks : List Frame) (e : Exp) (j : Joiner) → Unbinding t at ks (after e j)
unfolding binding
after_unbinding t at [] e j p q a = refl
after_unbinding t at (open_bracket k ∷ ks) e j p q a = refl
after_unbinding t at (open_first k ∷ ks) e j p q a = refl
after_unbinding t at (open_second k x ∷ ks) e j p q a = refl
after_unbinding t at (open_third k x y ∷ ks) e j p q a = refl
after_unbinding t at (open_template k x ∷ ks) e j p q a = refl
after_unbinding t at (open_filling k x y ∷ ks) e j p q a = refl

-- which delimiter a bracket awaits
module _ (l : Left) (ks : List Frame) where
  bracket_awaits : Awaits 41 (open_bracket l ∷ ks)
  unfolding delimited closed parted last
  bracket_awaits = record { no_step = λ a e b x. rw (ne_eqb b 41 x) (cond_same (eqb b 44)); no_end = λ e. refl }

  first_awaits : Awaits 44 (open_first l ∷ ks)
  unfolding delimited closed parted last
  first_awaits = record { no_step = λ a e b x. rw (ne_eqb b 44 x) (cond_same (eqb b 41)); no_end = λ e. refl }

  second_awaits : (e₁ : Exp) → Awaits 44 (open_second l e₁ ∷ ks)
  unfolding delimited closed parted last
  second_awaits e₁ = record { no_step = λ a e b x. rw (ne_eqb b 44 x) (cond_same (eqb b 41)); no_end = λ e. refl }

  third_awaits : (e₁ e₂ : Exp) → Awaits 41 (open_third l e₁ e₂ ∷ ks)
  unfolding delimited closed parted last
  third_awaits e₁ e₂ = record { no_step = λ a e b x. rw (ne_eqb b 41 x) (cond_same (eqb b 44)); no_end = λ e. refl }

  template_awaits : (x : List ℕ) → Awaits 41 (open_template l x ∷ ks)
  unfolding delimited closed parted last
  template_awaits x = record { no_step = λ a e b y. rw (ne_eqb b 41 y) (cond_same (eqb b 44)); no_end = λ e. refl }

  filling_awaits : (x : List ℕ) (e₁ : Exp) → Awaits 41 (open_filling l x e₁ ∷ ks)
  unfolding delimited closed parted last
  filling_awaits x e₁ = record { no_step = λ a e b y. rw (ne_eqb b 41 y) (cond_same (eqb b 44)); no_end = λ e. refl }

module _ (number : Kind → List ℕ → Option ℕ) (xs : List (List ℕ)) (t : List ℕ) where
  -- ---- a part of a bracket
  module _ (at a : ℕ) (p q : Nodes) where
    pub g_bad : (c n : ℕ) → ExpressionAt number xs t at a p q (Err n) → PartAt number xs t at a c p q (Err n)
    unfolding ExpressionAt PartAt
    g_bad c n s = record { within = s.within; stops = λ ks w u. s.stops ks u }

    g_open : (c n : ℕ) → ReadsExpression number xs t at a n p q → (get_or t n 0 ≡ c → ⊥) → StuckPart t at a c n
    unfolding step finish
    g_open c n g h = record {
      within = g.within;
      stops = λ ks w u. g.reads ks
          ∙ run_none t n (have a ks g.left g.end) g.within (delims a ks _ _ _ g.no_suffix g.no_sign ∙ w.no_step a _ _ h) (w.no_end _);
    }

    pub g_past : (c n : ℕ) → ExpressionAt number xs t at a p q (Ok n) → (r : Result ℕ ℕ) → Past t n c r → PartAt number xs t at a c p q r
    unfolding ExpressionAt PartAt
    g_past c n g (Ok m) u = record { stop = n; next = u.0; expression = g; ending = u.1 }
    g_past c n g (Err m) u = subst (StuckPart t at a c) (sym u.0) (g_open c n g u.1)

    module _ (c n : ℕ) (x : PartAt number xs t at a c p q (Ok n)) where
      the_part : ReadsPart number xs t at a c n p q
      unfolding PartAt
      the_part = x

      pub g_in : 0 < c → (at < n) × (n ≤ length t)
      g_in h = let g = the_part in (omega (arith, g.expression.past, g.next), omega (arith, is_in_lem c t g.stop g.ending h, g.next))

      -- the expression that was read
      the_exp : Exp
      the_exp = let g = the_part in join g.expression.left g.expression.end

      part_spans : n ≡ at + length (text_e the_exp) + 1
      unfolding the_exp
      part_spans = omega (arith, the_part.next, the_part.expression.spans)

      part_emits : q ≡ emit_e number xs the_exp at p
      unfolding the_exp
      part_emits = the_part.expression.emits

      part_step : (ks : List Frame) (s : State) → 0 < c → step (have a ks the_part.expression.left the_part.expression.end) c ≡ some s
          → run (drop at t) (need a ks start) ≡ run (drop n t) s
      part_step ks s h y =
          let g = the_part in
          g.expression.reads ks ∙ run_byte t g.stop c _ s g.ending h y ∙ ap (λ (k : ℕ). run (drop k t) s) (sym g.next)

    the_stuck : (c n : ℕ) → PartAt number xs t at a c p q (Err n) → StuckPart t at a c n
    unfolding PartAt
    the_stuck c n x = x

  -- ---- the three parts of an override
  module _ (at a : ℕ) (p p' q : Nodes) where
    pub h_first : (n : ℕ) → PartAt number xs t at a 44 p q (Err n) → OverrideAt number xs t at a p p' (Err n)
    unfolding OverrideAt binding
    h_first n x =
        let s = the_stuck at a p q 44 n x in
        record { within = s.within; stops = λ ks l. s.stops (open_first l ∷ ks) (first_awaits l ks) (λ p q a. refl) }

    module _ (i : ℕ) (x : PartAt number xs t at a 44 p q (Ok i)) (q₂ : Nodes) where
      one_read : (ks : List Frame) (l : Left)
          → run (drop at t) (need a (open_first l ∷ ks) start) ≡ run (drop i t) (need a (open_second l (the_exp at a p q 44 i x) ∷ ks) start)
      unfolding step onward joined delimited parted the_exp
      one_read ks l = part_step at a p q 44 i x (open_first l ∷ ks) _ (omega arith) refl

      pub h_second : (n : ℕ) → PartAt number xs t i a 44 q q₂ (Err n) → OverrideAt number xs t at a p p' (Err n)
      unfolding OverrideAt binding
      h_second n y =
          let s = the_stuck i a q q₂ 44 n y in
          record { within = s.within; stops = λ ks l. one_read ks l ∙ s.stops _ (second_awaits l ks _) (λ p q a. refl) }

      module _ (j : ℕ) (y : PartAt number xs t i a 44 q q₂ (Ok j)) (q₃ : Nodes) where
        two_read : (ks : List Frame) (l : Left) → run (drop at t) (need a (open_first l ∷ ks) start)
            ≡ run (drop j t) (need a (open_third l (the_exp at a p q 44 i x) (the_exp i a q q₂ 44 j y) ∷ ks) start)
        unfolding step onward joined delimited parted the_exp
        two_read ks l = one_read ks l ∙ part_step i a q q₂ 44 j y (open_second l (the_exp at a p q 44 i x) ∷ ks) _ (omega arith) refl

        pub h_third : (n : ℕ) → PartAt number xs t j a 41 q₂ q₃ (Err n) → OverrideAt number xs t at a p p' (Err n)
        unfolding OverrideAt binding
        h_third n z =
            let s = the_stuck j a q₂ q₃ 41 n z in
            record { within = s.within; stops = λ ks l. two_read ks l ∙ s.stops _ (third_awaits l ks _ _) (λ p q a. refl) }

        module _ (n : ℕ) (z : PartAt number xs t j a 41 q₂ q₃ (Ok n)) where
          E₁ : Exp
          E₁ = the_exp at a p q 44 i x

          E₂ : Exp
          E₂ = the_exp i a q q₂ 44 j y

          E₃ : Exp
          E₃ = the_exp j a q₂ q₃ 41 n z

          three_emitted : (k : ℕ) → at ≡ k + 2 → p' ≡ stored q₃ Override → p' ≡ emit_f number xs (plain (override E₁ E₂ E₃)) k p
          unfolding emit_f E₁ E₂ E₃
          three_emitted k h w =
              let e₁ : Exp = the_exp at a p q 44 i x in
              let e₂ : Exp = the_exp i a q q₂ 44 j y in
              let e₃ : Exp = the_exp j a q₂ q₃ 41 n z in
              let s₁ = part_spans at a p q 44 i x in
              let s₂ = part_spans i a q q₂ 44 j y in
              let m₁ = part_emits at a p q 44 i x in
              let m₂ = part_emits i a q q₂ 44 j y in
              let m₃ = part_emits j a q₂ q₃ 41 n z in
              let a₁ : i ≡ k + 2 + length (text_e e₁) + 1 = omega arith in
              let a₂ : j ≡ k + 2 + length (text_e e₁) + 1 + length (text_e e₂) + 1 = omega arith in
              let u₁ : q ≡ emit_e number xs e₁ (k + 2) p = m₁ ∙ ap (λ (v : ℕ). emit_e number xs e₁ v p) h in
              let u₂ : q₂ ≡ emit_e number xs e₂ (k + 2 + length (text_e e₁) + 1) (emit_e number xs e₁ (k + 2) p) =
              m₂ ∙ ap (λ (v : ℕ). emit_e number xs e₂ v q) a₁ ∙ ap (λ (v : Nodes). emit_e number xs e₂ (k + 2 + length (text_e e₁) + 1) v) u₁ in
              let u₃ = m₃ ∙ ap (λ (v : ℕ). emit_e number xs e₃ v q₂) a₂
              ∙ ap (λ (v : Nodes). emit_e number xs e₃ (k + 2 + length (text_e e₁) + 1 + length (text_e e₂) + 1) v) u₂ in
              w ∙ ap (λ (v : Nodes). stored v Override) u₃

          pub h_good : p' ≡ stored q₃ Override → OverrideAt number xs t at a p p' (Ok n)
          unfolding OverrideAt step onward joined delimited closed the_exp text_p E₁ E₂ E₃
          h_good w =
              let u = g_in at a p q 44 i x (omega arith) in
              let v = g_in i a q q₂ 44 j y (omega arith) in
              let o = g_in j a q₂ q₃ 41 n z (omega arith) in
              record {
                x = E₁;
                y = E₂;
                z = E₃;
                past = omega arith;
                within = omega arith;
                spans = omega (
                  arith,
                  part_spans at a p q 44 i x,
                  part_spans i a q q₂ 44 j y,
                  part_spans j a q₂ q₃ 41 n z,
                  length-append (text_e E₁) (44 ∷ (text_e E₂ ++ (44 ∷ (text_e E₃ ++ (41 ∷ []))))),
                  length-append (text_e E₂) (44 ∷ (text_e E₃ ++ (41 ∷ []))),
                  length-append (text_e E₃) (41 ∷ []),
                );
                emits = λ k h. three_emitted k h w;
                reads = λ ks l. two_read ks l ∙ part_step j a q₂ q₃ 41 n z (open_third l E₁ E₂ ∷ ks) _ (omega arith) refl;
              }

  -- ---- primaries
  module _ (at a : ℕ) (p p' : Nodes) where
    pub p_full : get_or t at 0 ≡ 40 → a ≡ 0 → PrimaryAt number xs t at a p p' (Err at)
    unfolding PrimaryAt step is_letter_lem finish
    p_full e z =
        let i = is_in_lem 40 t at e (omega arith) in
        record {
          within = omega arith;
          stops = λ ks l u. run_none t at (need a ks l) (omega arith) (ap (step (need a ks l)) e ∙ full a ks (open_bracket l) z)
              refl;
        }

    -- a bracket opens
    module _ (e : get_or t at 0 ≡ 40) (ne : a ≡ 0 → ⊥) where
      inside : (ks : List Frame) (l : Left) → run (drop at t) (need a ks l) ≡ run (drop (at + 1) t) (need (a - 1) (open_bracket l ∷ ks) start)
      unfolding step is_letter_lem
      inside ks l = run_byte t at 40 (need a ks l) _ e (omega arith) (opens a ne ks (open_bracket l))

      pub p_part : (eqb (get_or t (at + 1) 0) 116 && eqb (get_or t (at + 1 + 1) 0) 58) ≡ false → (r : Result ℕ ℕ)
          → PartAt number xs t (at + 1) (a - 1) 41 p p' r → PrimaryAt number xs t at a p p' r
      unfolding PrimaryAt step onward joined delimited closed the_exp text_f emit_f
      p_part other (Err n) x =
          let s = the_stuck (at + 1) (a - 1) p p' 41 n x in
          record {
            within = s.within;
            stops = λ ks l u. inside ks l ∙ s.stops _ (bracket_awaits l ks) (λ b c i. absurd (false≢true (sym other ∙ rw (b, c))));
          }
      p_part other (Ok n) x =
          let i = g_in (at + 1) (a - 1) p p' 41 n x (omega arith) in
          let f : Exp = the_exp (at + 1) (a - 1) p p' 41 n x in (
            bracket f,
            record {
              past = omega arith;
              within = omega arith;
              spans = omega (arith, part_spans (at + 1) (a - 1) p p' 41 n x, length-append (text_e f) (41 ∷ []));
              emits = part_emits (at + 1) (a - 1) p p' 41 n x;
              reads = λ ks l. inside ks l ∙ part_step (at + 1) (a - 1) p p' 41 n x (open_bracket l ∷ ks) (have (suc (a - 1)) ks l (plain (bracket f)))
                  (omega arith) refl
                  ∙ ap (λ (m : ℕ). run (drop n t) (have m ks l (plain (bracket f)))) (one_less a ne);
            },
          )

      -- `(t:` binds a name
      to_bound : (eqb (get_or t (at + 1) 0) 116 && eqb (get_or t (at + 1 + 1) 0) 58) ≡ true → (ks : List Frame) (l : Left)
          → run (drop at t) (need a ks l) ≡ run (drop (at + 3) t) (begin (a - 1) ks (at_bound l))
      unfolding step grows is_name_byte_lem is_letter_lem letter_word letter_byte_lem named binding
      to_bound b ks l =
          let u = eqb-true (get_or t (at + 1) 0) 116 (and_left _ (eqb (get_or t (at + 1 + 1) 0) 58) b) in
          let v = eqb-true (get_or t (at + 1 + 1) 0) 58 (and_right (eqb (get_or t (at + 1) 0) 116) _ b) in
          let w : at + 1 + 1 + 1 ≡ at + 3 = omega arith in
          inside ks l
          ∙ run_byte t (at + 1) 116 (need (a - 1) (open_bracket l ∷ ks) start) (naming (a - 1) (open_bracket l ∷ ks) (at_table start) (116 ∷ [])) u
          (omega arith) refl
          ∙ run_byte t (at + 1 + 1) 58 (naming (a - 1) (open_bracket l ∷ ks) (at_table start) (116 ∷ [])) (begin (a - 1) ks (at_bound l)) v (omega arith) refl
          ∙ ap (λ (k : ℕ). run (drop k t) (begin (a - 1) ks (at_bound l))) w

      pub p_template : (eqb (get_or t (at + 1) 0) 116 && eqb (get_or t (at + 1 + 1) 0) 58) ≡ true → (r : Result ℕ ℕ)
          → TemplateAt number xs t (at + 3) (a - 1) p p' r
          → PrimaryAt number xs t at a p p' r
      unfolding PrimaryAt TemplateAt text_f
      p_template b (Ok n) c = (
        template c.x c.e c.f,
        record {
          past = omega (arith, c.past);
          within = c.within;
          spans = omega (arith, c.spans);
          emits = c.emits at refl;
          reads = λ ks l. to_bound b ks l ∙ c.reads ks l
              ∙ ap (λ (m : ℕ). run (drop n t) (have m ks l (plain (template c.x c.e c.f)))) (one_less a ne);
        },
      )
      p_template b (Err n) c = record { within = c.within; stops = λ ks l u. to_bound b ks l ∙ c.stops ks l }

    -- a word
    module _ (h : at ≤ length t) (ne : get_or t at 0 ≡ 40 → ⊥) where
      pub p_none : (n : ℕ) → Word t at (Err n) → PrimaryAt number xs t at a p p' (Err n)
      unfolding PrimaryAt Word step finish
      p_none n y =
          let e = y.1 in
          subst (Stuck t at a) (sym y.0) record { within = h; stops = λ ks l u. run_none t at (need a ks l) h (rw (e, ne_eqb _ 40 ne)) refl }

      word_starts : (ks : List Frame) (l : Left) → Starts (get_or t at 0) a ks (at_table l) (need a ks l)
      unfolding step finish
      word_starts ks l = record { steps = rw (ne_eqb _ 40 ne); ends = refl }

      module _ (e : ℕ) (x : Word t at (Ok e)) where
        to_word : (ks : List Frame) (l : Left) → run (drop at t) (need a ks l) ≡ run (drop e t) (naming a ks (at_table l) (slice at e t))
        to_word ks l = begins_word t at e (the_word t at e x) a ks (at_table l) _ (word_starts ks l)

        size : length (slice at e t) ≡ e - at
        size = length-slice at e t (the_word t at e x).within

        pub p_table : letter_word (slice at e t) ≡ none → p' ≡ emit_table number xs (slice at e t) at p → PrimaryAt number xs t at a p p' (Ok e)
        unfolding PrimaryAt text_f emit_f
        p_table k w =
            let y = the_word t at e x in (
              table_name (slice at e t),
              record {
                past = y.past;
                within = y.within;
                spans = omega (arith, size, y.past);
                emits = w;
                reads = λ ks l. to_word ks l ∙ settle_table a ks l _ k (drop e t)
                    (ap (grows (slice at e t)) (next_byte t e) ∙ y.over);
              },
            )

        -- a letter leads on by '(' alone, and only 'o', or by ':' where a name may be bound, and only 't'
        stuck_word : (w : Letter) → letter_word (slice at e t) ≡ some w
            → ((ks : List Frame) (l : Left) → Unbinding t at ks l → named a ks (at_table l) (slice at e t) (some w) (get_or t e 0) ≡ none)
            → PrimaryAt number xs t at a p p' (Err e)
        unfolding PrimaryAt step finish named_end
        stuck_word w v f =
            let y = the_word t at e x in
            let o = y.over in
            record {
              within = y.within;
              stops = λ ks l u. to_word ks l ∙ run_none t e (naming a ks (at_table l) (slice at e t)) y.within (rw (o, v) (f ks l u)) (rw v);
            }

        -- where `t` stands alone
        lone_t : letter_word (slice at e t) ≡ some of_template → (e ≡ at + 1) × (get_or t at 0 ≡ 116)
        unfolding byte_of
        lone_t v =
            let y = the_word t at e x in
            let w = word_of_letter _ of_template v in
            let i : e ≡ at + 1 = omega (arith, size, y.past, ap length w) in
            (i, ap (λ (b : List ℕ). get_or b 0 0) (sym (slice_one t at (omega (arith, y.within, y.past))) ∙ ap (λ (k : ℕ). slice at k t) (sym i) ∙ w))

        pub p_word : (w : Letter) → letter_word (slice at e t) ≡ some w → (w ≡ of_sort object → ⊥) → PrimaryAt number xs t at a p p' (Err e)
        unfolding named
        p_word (of_sort subject) w ne = stuck_word (of_sort subject) w (λ ks l u. refl)
        p_word (of_sort object) w ne = absurd (ne refl)
        p_word (of_sort action) w ne = stuck_word (of_sort action) w (λ ks l u. refl)
        p_word of_template w ne = stuck_word of_template w (λ ks l u. on_colon ks l u (eqb (get_or t e 0) 58) refl)
          where
            on_colon : (ks : List Frame) (l : Left) → Unbinding t at ks l → (b : Bool) → eqb (get_or t e 0) 58 ≡ b → cond b (binding a ks l) none ≡ none
            on_colon ks l u true h = let i = lone_t w in u i.1 (ap (λ (k : ℕ). get_or t k 0) (sym i.0) ∙ eqb-true _ 58 h) a
            on_colon ks l u false h = refl

        module _ (is_object : letter_word (slice at e t) ≡ some (of_sort object)) where
          pub p_lone : (n : ℕ) → Past t e 40 (Err n) → PrimaryAt number xs t at a p p' (Err n)
          unfolding named
          p_lone n y =
              subst (λ (i : ℕ). PrimaryAt number xs t at a p p' (Err i)) (sym y.0) (stuck_word (of_sort object) is_object (λ ks l u. rw (ne_eqb _ 40 y.1)))

          module _ (first : ℕ) (y : Past t e 40 (Ok first)) where
            pub p_full_2 : a ≡ 0 → PrimaryAt number xs t at a p p' (Err e)
            unfolding named
            p_full_2 i = stuck_word (of_sort object) is_object (λ ks l u. rw (eq-eqb _ 40 y.1) (full a ks (open_first l) i))

            module _ (na : a ≡ 0 → ⊥) where
              to_override : (ks : List Frame) (l : Left) → run (drop at t) (need a ks l) ≡ run (drop first t) (need (a - 1) (open_first l ∷ ks) start)
              unfolding step named
              to_override ks l =
                  let o = (the_word t at e x).over in
                  to_word ks l
                  ∙ run_go t e (naming a ks (at_table l) (slice at e t)) (need (a - 1) (open_first l ∷ ks) start) (is_in_lem 40 t e y.1 (omega arith))
                  (rw (o, is_object, eq-eqb _ 40 y.1) (opens a na ks (open_first l)))
                  ∙ ap (λ (k : ℕ). run (drop k t) (need (a - 1) (open_first l ∷ ks) start)) (sym y.0)

              pub p_override : (r' : Result ℕ ℕ) → OverrideAt number xs t first (a - 1) p p' r' → PrimaryAt number xs t at a p p' r'
              unfolding PrimaryAt OverrideAt text_f
              p_override (Ok n) c =
                  let k = the_word t at e x in
                  let f = y.0 in
                  let i : e ≡ at + 1 = omega (arith, size, k.past, ap length (word_of_letter _ (of_sort object) is_object)) in (
                    override c.x c.y c.z,
                    record {
                      past = omega (arith, c.past);
                      within = c.within;
                      spans = omega (arith, c.spans);
                      emits = c.emits at (omega arith);
                      reads = λ ks l. to_override ks l ∙ c.reads ks l
                          ∙ ap (λ (m : ℕ). run (drop n t) (have m ks l (plain (override c.x c.y c.z)))) (one_less a na);
                    },
                  )
              p_override (Err n) c = record { within = c.within; stops = λ ks l u. to_override ks l ∙ c.stops ks l }

  -- ---- factors
  module _ (at a : ℕ) (p q : Nodes) where
    pub f_bad : (p' : Nodes) (n : ℕ) → PrimaryAt number xs t at a p q (Err n) → FactorAt number xs t at a p p' (Err n)
    unfolding PrimaryAt FactorAt
    f_bad p' n x = x

    pub f_join : (p' : Nodes) (n : ℕ) → PrimaryAt number xs t at a p q (Ok n) → (r' : Result ℕ ℕ) → SuffixesAt number t n q p' r'
        → FactorAt number xs t at a p p' r'
    unfolding PrimaryAt FactorAt SuffixesAt
    f_join p' n c (Ok m) y =
        let f : Fac = plain c.0 in
        let s = y.0 in (
          s.with f,
          record {
            past = omega (arith, c.1.past, s.past);
            within = s.within;
            spans = omega (arith, c.1.spans, s.spans f);
            emits = s.emits xs f at p c.1.spans c.1.emits;
            reads = λ ks l. c.1.reads ks l ∙ s.reads a ks l f;
          },
          y.1,
        )
    f_join p' n c (Err m) y =
        record { within = y.within; stops = λ ks l u. c.1.reads ks l ∙ y.stops a ks l (plain c.0) }

  -- ---- signs and factors
  module _ (at a : ℕ) (p : Nodes) where
    pub m_first : at ≤ length t → ReadsMore number xs t at a at p p
    m_first h =
        record {
          left = λ l f. l;
          end = λ l f. f;
          past = omega arith;
          within = h;
          no_suffix = λ x. x;
          spans = λ l f. refl;
          emits = λ l f i u e w. w;
          reads = λ ks l f. refl;
        }

    module _ (i : ℕ) (q : Nodes) (x : ReadsMore number xs t at a i p q) where
      pub m_end : sign_byte (get_or t i 0) ≡ rust.None → MoreAt number xs t at a p q (Ok i)
      unfolding MoreAt
      m_end e = (x, e)

      module _ (b : ℕ) (j : joiners.Joiner) (w : b ≡ get_or t i 0) (y : rust.Some j ≡ sign_byte b) where
        the_sign : get_or t i 0 ≡ byte_j (joiner_meant j)
        the_sign = sym w ∙ sign_of b j y

        pub m_in : i < length t
        m_in = is_in_lem _ t i the_sign (pos_sign j)

        signed : (ks : List Frame) (l : Left) (f : Fac)
            → run (drop at t) (have a ks l f) ≡ run (drop (i + 1) t) (need a ks (after (join (x.left l f) (x.end l f)) (joiner_meant j)))
        signed ks l f = x.reads ks l f
            ∙ run_byte t i (byte_j (joiner_meant j)) _ _ the_sign (pos_sign j) (joiner_step (joiner_meant j) a ks (x.left l f) (x.end l f))

        pub m_bad : (p' g : Nodes) (n : ℕ) → FactorAt number xs t (i + 1) a q g (Err n) → MoreAt number xs t at a p p' (Err n)
        unfolding FactorAt MoreAt
        m_bad p' g n s = record { within = s.within; stops = λ ks l f. signed ks l f ∙ s.stops ks _ (after_unbinding t _ ks _ _) }

        pub m_past : (g : Nodes) (n : ℕ) → FactorAt number xs t (i + 1) a q g (Ok n) → (i < n) × (n ≤ length t)
        unfolding FactorAt
        m_past g n s = (omega (arith, s.1.past), s.1.within)

        pub m_next : (g q' : Nodes) (n : ℕ) → FactorAt number xs t (i + 1) a q g (Ok n) → q' ≡ stored g (Join j) → ReadsMore number xs t at a n p q'
        unfolding FactorAt join text_e emit_e
        m_next g q' n s v =
            record {
              left = λ l f. after (join (x.left l f) (x.end l f)) (joiner_meant j);
              end = λ l f. s.0;
              past = omega (arith, x.past, s.1.past);
              within = s.1.within;
              no_suffix = λ o. s.2;
              spans = λ l f.
                  omega (arith, x.spans l f, s.1.spans, length-append (text_e (join (x.left l f) (x.end l f))) (byte_j (joiner_meant j) ∷ text_f s.0));
              emits = λ l f h u d o.
                  let m = x.emits l f h u d o in
                  let c : i + 1 ≡ h + length (text_e (join (x.left l f) (x.end l f))) + 1 = omega (arith, x.spans l f) in
                  v ∙ ap (λ (k : joiners.Joiner). stored g (Join k)) (sym (named_meant j))
                  ∙ ap (λ (g' : Nodes). stored g' (Join (joiner_named (joiner_meant j))))
                  (s.1.emits ∙ ap (λ (q₁ : Nodes). emit_f number xs s.0 (i + 1) q₁) m
                  ∙ ap (λ (i' : ℕ). emit_f number xs s.0 i' (emit_e number xs (join (x.left l f) (x.end l f)) h u)) c);
              reads = λ ks l f. signed ks l f ∙ s.1.reads ks _;
            }

  -- ---- expressions
  module _ (at a : ℕ) (p q : Nodes) where
    pub e_bad : (p' : Nodes) (n : ℕ) → FactorAt number xs t at a p q (Err n) → ExpressionAt number xs t at a p p' (Err n)
    unfolding FactorAt ExpressionAt
    e_bad p' n s = record { within = s.within; stops = λ ks u. s.stops ks start u }

    pub e_join : (p' : Nodes) (n : ℕ) → FactorAt number xs t at a p q (Ok n) → (r' : Result ℕ ℕ) → MoreAt number xs t n a q p' r'
        → ExpressionAt number xs t at a p p' r'
    unfolding FactorAt MoreAt ExpressionAt join text_e emit_e
    e_join p' n s (Ok m) y =
        let g = y.0 in
        record {
          left = g.left start s.0;
          end = g.end start s.0;
          past = omega (arith, s.1.past, g.past);
          within = g.within;
          no_suffix = g.no_suffix s.2;
          no_sign = y.1;
          spans = omega (arith, s.1.spans, g.spans start s.0);
          emits = g.emits start s.0 at p s.1.spans s.1.emits;
          reads = λ ks. s.1.reads ks start ∙ g.reads ks start s.0;
        }
    e_join p' n s (Err m) y = record { within = y.within; stops = λ ks u. s.1.reads ks start ∙ y.stops ks start s.0 }

-- ---- templates
-- `t:` behind the bracket lies within the text
pub p_bound : (t : List ℕ) (at : ℕ) {r : Bool} → r ≡ (eqb (get_or t (at + 1) 0) 116 && eqb (get_or t (at + 1 + 1) 0) 58) → r ≡ true → at + 3 ≤ length t
p_bound t at e h =
    let v = eqb-true (get_or t (at + 1 + 1) 0) 58 (and_right (eqb (get_or t (at + 1) 0) 116) _ (sym e ∙ h)) in
    omega (arith, is_in_lem 58 t (at + 1 + 1) v (omega arith))

pub t_in : (t : List ℕ) (at to : ℕ) → Name t at (Ok to) → (at < to) × (to ≤ length t)
unfolding Name
t_in t at to m = (m.past, m.within)

-- a part by what is bound, said in another way
pub b_part : (number : Kind → List ℕ → Option ℕ) (t : List ℕ) (at a c : ℕ) (p q : Nodes) (r : Result ℕ ℕ) {xs ys : List (List ℕ)} → xs ≡ ys
    → PartAt number xs t at a c p q r → PartAt number ys t at a c p q r
b_part number t at a c p q r e x = subst (λ (ns : List (List ℕ)). PartAt number ns t at a c p q r) e x

strict_bound : (l : Left) → Strict (at_bound l)
unfolding named named_end
strict_bound l = record { no_step = λ a ks n w b. refl; no_end = λ ks n w. refl }

bound_starts : (a : ℕ) (ks : List Frame) (l : Left) (b : ℕ) → Starts b a ks (at_bound l) (begin a ks (at_bound l))
unfolding step finish
bound_starts a ks l b = record { steps = refl; ends = refl }

module _ (number : Kind → List ℕ → Option ℕ) (xs : List (List ℕ)) (t : List ℕ) where
  -- ---- F, from its '(' on
  module _ (at a : ℕ) (p p' : Nodes) where
    pub k_none : (n : ℕ) → at ≤ length t → Past t at 40 (Err n) → FillingAt number xs t at a p p' (Err n)
    unfolding FillingAt step finish
    k_none n h e =
        subst (λ (i : ℕ). FillingAt number xs t at a p p' (Err i)) (sym e.0)
        record { within = h; stops = λ ks l x f. run_none t at (unfilled a ks l x f) h (rw (ne_eqb _ 40 e.1)) refl }

    module _ (first : ℕ) (e : Past t at 40 (Ok first)) (q : Nodes) where
      to_filling : (ks : List Frame) (l : Left) (x : List ℕ) (f : Exp)
          → run (drop at t) (unfilled a ks l x f) ≡ run (drop first t) (need a (open_filling l x f ∷ ks) start)
      unfolding step
      to_filling ks l x f =
          run_byte t at 40 (unfilled a ks l x f) (need a (open_filling l x f ∷ ks) start) e.1 (omega arith) refl
          ∙ ap (λ (k : ℕ). run (drop k t) (need a (open_filling l x f ∷ ks) start)) (sym e.0)

      pub k_bad : (n : ℕ) → PartAt number xs t first a 41 p q (Err n) → FillingAt number xs t at a p p' (Err n)
      unfolding FillingAt binding
      k_bad n x =
          let s = the_stuck number xs t first a p q 41 n x in
          record { within = s.within; stops = λ ks l u f. to_filling ks l u f ∙ s.stops _ (filling_awaits l ks u f) (λ b c i. refl) }

      pub k_good : (n : ℕ) → PartAt number xs t first a 41 p q (Ok n) → p' ≡ stored q Template → FillingAt number xs t at a p p' (Ok n)
      unfolding FillingAt step onward joined delimited closed the_exp
      k_good n x w =
          let h = e.0 in
          let i = g_in number xs t first a p q 41 n x (omega arith) in
          let g : Exp = the_exp number xs t first a p q 41 n x in
          record {
            f = g;
            past = omega arith;
            within = omega arith;
            spans = omega (arith, part_spans number xs t first a p q 41 n x);
            emits = w ∙ ap (λ (v : Nodes). stored v Template)
                (part_emits number xs t first a p q 41 n x ∙ ap (λ (k : ℕ). emit_e number xs g k p) h);
            reads = λ ks l u f. to_filling ks l u f
                ∙ part_step number xs t first a p q 41 n x (open_filling l u f ∷ ks) (have (suc a) ks l (plain (template u f g))) (omega arith) refl;
          }

  -- ---- all of it, from its x on
  module _ (at a : ℕ) (p p' : Nodes) where
    pub t_none : (n : ℕ) → Name t at (Err n) → TemplateAt number xs t at a p p' (Err n)
    unfolding TemplateAt Name
    t_none n s = record { within = s.within; stops = λ ks l. s.stops a ks (at_bound l) _ (strict_bound l) (bound_starts a ks l _) }

    module _ (to : ℕ) (y : Name t at (Ok to)) where
      the_name : ReadsName t at to
      unfolding Name
      the_name = y

      pub t_open : (n : ℕ) → Past t to 46 (Err n) → TemplateAt number xs t at a p p' (Err n)
      unfolding TemplateAt step named finish named_end
      t_open n e =
          let m = the_name in
          let w = m.no_letter_fact in
          let o = m.over in
          subst (λ (i : ℕ). TemplateAt number xs t at a p p' (Err i)) (sym e.0) record {
            within = m.within;
            stops = λ ks l. m.reads a ks (at_bound l) _ (bound_starts a ks l _)
                ∙ run_none t to (naming a ks (at_bound l) (slice at to t)) m.within (rw (o, w, ne_eqb _ 46 e.1)) refl;
          }

      module _ (first : ℕ) (e : Past t to 46 (Ok first)) (u : Nodes) where
        to_body : (ks : List Frame) (l : Left)
            → run (drop at t) (begin a ks (at_bound l)) ≡ run (drop first t) (need a (open_template l (slice at to t) ∷ ks) start)
        unfolding step named is_name_byte_lem is_letter_lem
        to_body ks l =
            let m = the_name in
            let w = m.no_letter_fact in
            m.reads a ks (at_bound l) _ (bound_starts a ks l _)
            ∙ run_byte t to 46 (naming a ks (at_bound l) (slice at to t)) (need a (open_template l (slice at to t) ∷ ks) start) e.1 (omega arith)
            (rw (no_byte (slice at to t) 46 refl, w))
            ∙ ap (λ (k : ℕ). run (drop k t) (need a (open_template l (slice at to t) ∷ ks) start)) (sym e.0)

        pub t_bad : (n : ℕ) → PartAt number (slice at to t ∷ xs) t first a 41 p u (Err n) → TemplateAt number xs t at a p p' (Err n)
        unfolding TemplateAt binding
        t_bad n z =
            let s = the_stuck number (slice at to t ∷ xs) t first a p u 41 n z in
            record { within = s.within; stops = λ ks l. to_body ks l ∙ s.stops _ (template_awaits l ks _) (λ b c i. refl) }

        module _ (i : ℕ) (z : PartAt number (slice at to t ∷ xs) t first a 41 p u (Ok i)) where
          E : Exp
          E = the_exp number (slice at to t ∷ xs) t first a p u 41 i z

          through_body : (ks : List Frame) (l : Left) → run (drop at t) (begin a ks (at_bound l)) ≡ run (drop i t) (unfilled a ks l (slice at to t) E)
          unfolding step onward joined delimited closed the_exp E
          through_body ks l =
              to_body ks l ∙ part_step number (slice at to t ∷ xs) t first a p u 41 i z (open_template l (slice at to t) ∷ ks) _ (omega arith) refl

          name_size : length (slice at to t) ≡ to - at
          name_size = length-slice at to t the_name.within

          whole_emitted : (j : ℕ) (f : Exp) → at ≡ j + 3 → p' ≡ stored (emit_e number xs f (i + 1) u) Template
              → p' ≡ emit_f number xs (plain (template (slice at to t) E f)) j p
          unfolding emit_f E
          whole_emitted j f h w =
              let x : List ℕ = slice at to t in
              let k = part_spans number (x ∷ xs) t first a p u 41 i z in
              let m = the_name.past in
              let d = e.0 in
              let a₁ : first ≡ j + 3 + length x + 1 = omega (arith, name_size) in
              let a₂ : i + 1 ≡ j + 3 + length x + 1 + length (text_e E) + 2 = omega (arith, name_size) in
              let v : u ≡ emit_e number (x ∷ xs) E (j + 3 + length x + 1) p =
              part_emits number (x ∷ xs) t first a p u 41 i z ∙ ap (λ (n : ℕ). emit_e number (x ∷ xs) E n p) a₁ in
              w ∙ ap (λ (n : ℕ). stored (emit_e number xs f n u) Template) a₂
              ∙ ap (λ (n : Nodes). stored (emit_e number xs f (j + 3 + length x + 1 + length (text_e E) + 2) n) Template) v

          pub t_join : (r₂ : Result ℕ ℕ) → FillingAt number xs t i a u p' r₂ → TemplateAt number xs t at a p p' r₂
          unfolding TemplateAt FillingAt text_p E
          t_join (Err n) c = record { within = c.within; stops = λ ks l. through_body ks l ∙ c.stops ks l (slice at to t) E }
          t_join (Ok n) c =
              let x : List ℕ = slice at to t in
              let k = part_spans number (x ∷ xs) t first a p u 41 i z in
              let m = the_name.past in
              let d = e.0 in
              record {
                x = x;
                e = E;
                f = c.f;
                past = omega (arith, c.past, g_in number (x ∷ xs) t first a p u 41 i z (omega arith));
                within = c.within;
                spans = omega (
                  arith,
                  c.spans,
                  name_size,
                  length-append x (46 ∷ (text_e E ++ (41 ∷ 40 ∷ (text_e c.f ++ (41 ∷ []))))),
                  length-append (text_e E) (41 ∷ 40 ∷ (text_e c.f ++ (41 ∷ []))),
                  length-append (text_e c.f) (41 ∷ []),
                );
                emits = λ j h. whole_emitted j c.f h c.emits;
                reads = λ ks l. through_body ks l ∙ c.reads ks l x E;
              }
