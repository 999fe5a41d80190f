-- The ways through the readers of scopes and closures after a primary. Assumes nothing.
use Rattle.std.proofs.Common.{◌≡◌, refl, ap, ◌∙◌, true, false, List, [], ◌∷◌, ◌++◌, Result, Ok, Err, ℕ, ◌+◌, ◌≤◌, ◌<◌, length, get_or, drop, subst, sym, arith}
use Rattle.std.proofs.Common.{length-append, slice_range}
use Rattle.std.proofs.Math.Option.{Option, none}
use Rattle.std.proofs.Math.Seq.{slice, length-slice}
use borrow.Author.Tests.{eqb-true, ne_eqb}
use Rattle.grammar.specs.Expression.{Fac, scoped, closed_by, text_s, text_f}
use Rattle.grammar.specs.Machine.{Left, Frame, at_ruleset, at_scope, begin, have, caret, onward, named, named_end, finish, grows, step, run}
use Rattle.grammar.specs.Names.{Kind}
use Rattle.words.specs.Cells.{emit_name, emit_s, emit_f}
use Rattle.words.specs.Contract.{suffix_byte, Past, Starts, Strict, Name, ScopeAt, ReadsSuffixes, SuffixAt, SuffixesAt}
use Rattle.words.specs.declared.Suffix.TheVariants.{Closing}
use Rattle.words.specs.declared.SuffixText.{SuffixText}
use Rattle.words.specs.declared.Nodes.{Nodes}
use Rattle.names.specs.Looks.{lookup_of}
use Rattle.name_index.proofs.Same.{part_is}
use Rattle.expressions.specs.Reads.{Stays}
use Rattle.expressions.specs.declared.text_reader.Reader.{Reader}
use Rattle.grammar.proofs.Machine.{is_in_lem, run_none, run_byte, next_byte, settle_ruleset}

strict_ruleset : (l : Left) (f : Fac) → Strict (at_ruleset l f)
unfolding named named_end
strict_ruleset l f = record { no_step = λ a ks n w b. refl; no_end = λ ks n w. refl }

ruleset_starts : (a : ℕ) (ks : List Frame) (l : Left) (f : Fac) (b : ℕ) → Starts b a ks (at_ruleset l f) (begin a ks (at_ruleset l f))
unfolding step finish
ruleset_starts a ks l f b = record { steps = refl; ends = refl }

-- ---- what the calls on the way ask for
module _ (t : List ℕ) (at : ℕ) where
  pub x_in_2 : (i : ℕ) → Past t at 91 (Ok i) → i ≤ length t
  x_in_2 i b = omega (arith, b.0, is_in_lem 91 t at b.1 (omega arith))

module _ (t : List ℕ) (at : ℕ) where
  -- ---- a closure
  module _ (e : suffix_byte (get_or t at 0) ≡ true) (x : get_or t at 0 ≡ 94 → ⊥) where
    is_star : get_or t at 0 ≡ 42
    is_star = eqb-true _ 42 (rw (ne_eqb _ 94 x) at e)

    to_star : (a : ℕ) (ks : List Frame) (l : Left) (f : Fac) → run (drop at t) (have a ks l f) ≡ run (drop (at + 1) t) (begin a ks (at_ruleset l f))
    unfolding step onward
    to_star a ks l f = run_byte t at 42 (have a ks l f) (begin a ks (at_ruleset l f)) is_star (omega arith) refl

    pub x_no_name : (n : ℕ) → Name t (at + 1) (Err n) → SuffixAt t at (Err n)
    unfolding SuffixAt Name
    x_no_name n s =
        record { within = s.within; stops = λ a ks l f. to_star a ks l f ∙ s.stops a ks (at_ruleset l f) _ (strict_ruleset l f) (ruleset_starts a ks l f _) }

    pub x_name : (n : ℕ) → Name t (at + 1) (Ok n) → SuffixAt t at (Ok (record { suffix = Closing; from = at + 1; to = n; next = n }))
    unfolding SuffixAt Name text_f emit_f
    x_name n s =
        let m : List ℕ = slice (at + 1) n t in
        let g : grows m (get_or (drop n t) 0 0) ≡ false = ap (grows m) (next_byte t n) ∙ s.over in
        let k = length-slice (at + 1) n t s.within in (
          omega (arith, s.past),
          s.within,
          omega (arith, s.past),
          λ number p.
              record {
                with = λ f. closed_by f m;
                past = omega (arith, s.past);
                within = s.within;
                spans = λ f. omega (arith, length-append (text_f f) (42 ∷ m), s.past);
                emits = λ xs f i u h w. rw (w, h);
                reads = λ a ks l f. to_star a ks l f ∙ s.reads a ks (at_ruleset l f) (begin a ks (at_ruleset l f)) (ruleset_starts a ks l f _)
                    ∙ settle_ruleset a ks l m s.no_letter_fact f (drop n t) g;
              },
        )

  -- ---- a scope
  module _ (e : get_or t at 0 ≡ 94) where
    to_caret : (a : ℕ) (ks : List Frame) (l : Left) (f : Fac) → run (drop at t) (have a ks l f) ≡ run (drop (at + 1) t) (caret a ks l f)
    unfolding step onward
    to_caret a ks l f = run_byte t at 94 (have a ks l f) (caret a ks l f) e (omega arith) refl

    pub x_square : (p : ℕ) → Past t (at + 1) 91 (Err p) → SuffixAt t at (Err p)
    unfolding SuffixAt step finish
    x_square p x =
        let i = is_in_lem 94 t at e (omega arith) in
        subst (λ (j : ℕ). SuffixAt t at (Err j)) (sym x.0) record {
          within = omega arith;
          stops = λ a ks l f. to_caret a ks l f ∙ run_none t (at + 1) (caret a ks l f) (omega arith) (rw (ne_eqb _ 91 x.1)) refl;
        }

    module _ (inside : ℕ) (b : Past t (at + 1) 91 (Ok inside)) where
      to_scope : (a : ℕ) (ks : List Frame) (l : Left) (f : Fac) → run (drop at t) (have a ks l f) ≡ run (drop inside t) (begin a ks (at_scope l f))
      unfolding step
      to_scope a ks l f =
          to_caret a ks l f ∙ run_byte t (at + 1) 91 (caret a ks l f) (begin a ks (at_scope l f)) b.1 (omega arith) refl
          ∙ ap (λ (j : ℕ). run (drop j t) (begin a ks (at_scope l f))) (sym b.0)

      pub x_scope : (r : Result SuffixText ℕ) → ScopeAt t inside r → SuffixAt t at r
      unfolding SuffixAt ScopeAt text_f emit_f
      x_scope (Err n) s = record { within = s.within; stops = λ a ks l f. to_scope a ks l f ∙ s.stops a ks l f }
      x_scope (Ok x) s =
          let n = s.spans in
          let h : inside ≡ at + 1 + 1 = b.0 in (
            s.ordered,
            s.in_text,
            omega (arith, s.past),
            λ number p.
                record {
                  with = λ f. scoped f s.tree;
                  past = omega (arith, s.past);
                  within = s.within;
                  spans = λ f. omega (arith, n, h, length-append (text_f f) (94 ∷ 91 ∷ (text_s s.tree ++ (93 ∷ []))), length-append (text_s s.tree) (93 ∷ []));
                  emits = λ xs f i u h w. s.emits number p ∙ ap (λ (v : Nodes). emit_s number s.tree inside v) w
                      ∙ ap (λ (j : ℕ). emit_s number s.tree j (emit_f number xs f i u)) (omega arith);
                  reads = λ a ks l f. to_scope a ks l f ∙ s.reads a ks l f;
                },
          )

-- ---- a suffix that was read
module _ (t : List ℕ) (at : ℕ) (y : SuffixText) (the_suffix : SuffixAt t at (Ok y)) where
  pub x_part : (y.from ≤ y.to) × (y.to ≤ length t)
  unfolding SuffixAt
  x_part = (the_suffix.0, the_suffix.1)

  pub x_past : (p : Nodes) → (at < y.next) × (y.next ≤ length t)
  unfolding SuffixAt
  x_past p = (the_suffix.2, (the_suffix.3 (λ k n. none) p).within)

-- a suffix and its node, by what the reader read from at first
module _ {A K : ℕ} {r r' : Reader A K} (s : Stays r r') where
  pub suffix_first : (x : Result SuffixText ℕ) → SuffixAt r'.text.now r'.at x → SuffixAt r.text.now r'.at x
  suffix_first x h = rw s.text at h

  pub name_first : (y : SuffixText) (q q' : Nodes) → y.from ≤ y.to
      → q' ≡ emit_name (lookup_of r'.names.now) y.suffix (slice_range r'.text.now y.from y.to) y.from q
      → q' ≡ emit_name (lookup_of r.names.now) y.suffix (slice y.from y.to r.text.now) y.from q
  name_first y q q' l h = rw (part_is y.from y.to r'.text.now l, s.names, s.text) at h

-- ---- suffixes one after another
module _ (number : Kind → List ℕ → Option ℕ) (t : List ℕ) (at : ℕ) (p : Nodes) where
  pub xs_first : at ≤ length t → ReadsSuffixes number t at at p p
  xs_first h =
      record { with = λ f. f; past = omega arith; within = h; spans = λ f. refl; emits = λ xs f i u e w. w; reads = λ a ks l f. refl }

  module _ (i : ℕ) (q : Nodes) (x : ReadsSuffixes number t at i p q) where
    pub xs_end : suffix_byte (get_or t i 0) ≡ false → SuffixesAt number t at p q (Ok i)
    unfolding SuffixesAt
    xs_end e = (x, e)

    pub xs_bad : (p' : Nodes) (n : ℕ) → SuffixAt t i (Err n) → SuffixesAt number t at p p' (Err n)
    unfolding SuffixAt SuffixesAt
    xs_bad p' n s =
        record { within = s.within; stops = λ a ks l f. x.reads a ks l f ∙ s.stops a ks l (x.with f) }

    module _ (y : SuffixText) (the_suffix : SuffixAt t i (Ok y)) where
      pub xs_next : (q' : Nodes) → q' ≡ emit_name number y.suffix (slice y.from y.to t) y.from q
          → ReadsSuffixes number t at y.next p q'
      unfolding SuffixAt
      xs_next q' g =
          let s = the_suffix.3 number q in
          record {
            with = λ f. s.with (x.with f);
            past = omega (arith, x.past, s.past);
            within = s.within;
            spans = λ f. omega (arith, x.spans f, s.spans (x.with f));
            emits = λ ns f j u h w. g ∙ s.emits ns (x.with f) j u (omega (arith, x.spans f)) (x.emits ns f j u h w);
            reads = λ a ks l f. x.reads a ks l f ∙ s.reads a ks l (x.with f);
          }
