-- Where a file is refused: with a line's number and place if and only if the reading comes to that line and the line is refused so.
use mathlib.Core.Path.{◌≡◌, refl, sym, ap, ◌∙◌, subst}
use mathlib.Core.Bool.{Bool, true, false}
use mathlib.Core.List.{List, [], ◌∷◌}
use mathlib.Core.Option.{Option, none, some}
use Prim.Native.Nat.{ℕ, zero, suc, ◌+◌, ◌-◌, ◌≤◌, ◌<◌}
use native.Mathlib.Omega.{arith}
use lib.ListN.{length, get_or, take}
use Rattle.reader.specs.Text.{lines}
use Rattle.reader.specs.Line.{parse}
use Rattle.reader.specs.Declarations.{Declared, Goal, start}
use Rattle.reader.specs.Rows.{Verdict, good, refuse}
use Rattle.reader.specs.File.{Outcome, refused, is_file_lem, ended, judge, after, read_lines, read_file}
use Rattle.reader.specs.Reached.{line_at, declares, declared_before, verdict, Reached}

-- ---- lines, from 0: the verdict on line i after what those before it declare

verdict_in : Declared → List (List ℕ) → ℕ → Verdict
verdict_in d ls i = judge (declares d (take i ls)) (parse (get_or ls i []))

GoodBelow : Declared → List (List ℕ) → ℕ → Type 0
GoodBelow d ls i = (j : ℕ) → j < i → verdict_in d ls j ≡ good

-- the line that is refused
record RefusedAt (n : ℕ) (d : Declared) (ls : List (List ℕ)) (k l p : ℕ) : Type 0 where
  at : ℕ
  is_at : l ≡ n + at
  is_line : at < length ls
  good_below : GoodBelow d ls at
  is_refused : verdict_in d ls at ≡ refuse k p

ended_9 : (d : Declared) (g : Option Goal) (k l p : ℕ) → ended d g ≡ refused k l p → k ≡ 9
unfolding ended
ended_9 d none k l p e = let y : 9 ≡ k = cc in sym y
ended_9 d (some g) k l p e = absurd (let z : ◌≡◌ {A = ℕ} 0 1 = cc in omega arith)

-- a good line more before them
good_more : (d : Declared) (l : List ℕ) (ls : List (List ℕ)) (i : ℕ) → judge d (parse l) ≡ good → GoodBelow (after d (parse l)) ls i
    → GoodBelow d (l ∷ ls) (suc i)
unfolding GoodBelow verdict_in declares
good_more d l ls i e g zero h = e
good_more d l ls i e g (suc j) h = g j (omega arith)

refused_lines : (n : ℕ) (d : Declared) (ls : List (List ℕ)) (k l p : ℕ) → ¬ (k ≡ 9) → read_lines n d ls ≡ refused k l p → RefusedAt n d ls k l p
unfolding read_lines verdict_in GoodBelow declares
refused_lines n d [] k l p h e = absurd (h (ended_9 d d.goal k l p e))
refused_lines n d (x ∷ ls) k l p h e = go (refused_lines (suc n) (after d (parse x)) ls k l p h) (judge d (parse x)) refl e
  where
    go : (read_lines (suc n) (after d (parse x)) ls ≡ refused k l p → RefusedAt (suc n) (after d (parse x)) ls k l p) → (v : Verdict) → judge d (parse x) ≡ v
        → ◌≡◌ {A = Outcome} (elim v [ good ↦ read_lines (suc n) (after d (parse x)) ls | refuse j q ↦ refused j n q ]) (refused k l p)
        → RefusedAt n d (x ∷ ls) k l p
    go rest good v q = let r = rest q in record {
      at = suc r.at;
      is_at = let y = r.is_at in omega arith;
      is_line = let y = r.is_line in omega arith;
      good_below = good_more d x ls r.at v r.good_below;
      is_refused = r.is_refused;
    }
    go rest (refuse j r) v q = record {
      at = 0;
      is_at = let y : n ≡ l = cc in omega arith;
      is_line = omega arith;
      good_below = λ i i<0. absurd (omega arith);
      is_refused = v ∙ cc;
    }

-- a line's verdict decides how the reading goes on
by_verdict : (n : ℕ) (d : Declared) (x : List ℕ) (ls : List (List ℕ)) (v : Verdict) → judge d (parse x) ≡ v
    → read_lines n d (x ∷ ls) ≡ elim v as (λ _. Outcome) [ good ↦ read_lines (suc n) (after d (parse x)) ls | refuse k p ↦ refused k n p ]
unfolding read_lines
by_verdict n d x ls v e =
    ap (λ (w : Verdict). elim w as (λ _. Outcome) [ good ↦ read_lines (suc n) (after d (parse x)) ls | refuse k p ↦ refused k n p ]) e

lines_refused : (n : ℕ) (d : Declared) (ls : List (List ℕ)) (i k p : ℕ) → i < length ls → GoodBelow d ls i → verdict_in d ls i ≡ refuse k p
    → read_lines n d ls ≡ refused k (n + i) p
unfolding verdict_in GoodBelow declares
lines_refused n d [] i k p h g e = absurd (omega arith)
lines_refused n d (x ∷ ls) zero k p h g e = by_verdict n d x ls (refuse k p) e ∙ ap (λ (l : ℕ). refused k l p) (omega arith)
lines_refused n d (x ∷ ls) (suc i) k p h g e =
    by_verdict n d x ls good (g 0 (omega arith)) ∙ lines_refused (suc n) (after d (parse x)) ls i k p (omega arith) (λ j j<i. g (suc j) (omega arith)) e
    ∙ ap (λ (l : ℕ). refused k l p) (omega arith)

-- ---- files

-- lines of a file are numbered from 1
verdict_next : (f : List ℕ) (i : ℕ) → verdict f (suc i) ≡ verdict_in start (lines f) i
unfolding verdict line_at declared_before verdict_in
verdict_next f i = let e : suc i - 1 ≡ i = omega arith in ap (verdict_in start (lines f)) e

-- a refusal of a line, and not of the file as a whole
pub refused_at : (f : List ℕ) (k l p : ℕ) → ¬ (k ≡ 2) → ¬ (k ≡ 9) → read_file f ≡ refused k l p → Reached f l × (verdict f l ≡ refuse k p)
unfolding read_file GoodBelow
refused_at f k l p not-2 not-9 e = go (is_file_lem f) refl e
  where
    below : (m : ℕ) → GoodBelow start (lines f) m → (i : ℕ) → 1 ≤ i → i < suc m → verdict f i ≡ good
    below m g zero h₁ h₂ = absurd (omega arith)
    below m g (suc i) h₁ h₂ = verdict_next f i ∙ g i (omega arith)

    go : (b : Bool) → is_file_lem f ≡ b → ◌≡◌ {A = Outcome} (elim b [ true ↦ read_lines 1 start (lines f) | false ↦ refused 2 0 0 ]) (refused k l p)
        → Reached f l × (verdict f l ≡ refuse k p)
    go true h q =
        let r = refused_lines 1 start (lines f) k l p not-9 q in
        let s : l ≡ suc r.at = let y = r.is_at in omega arith in
        let w : Reached f (suc r.at) = record {
          is_file_fact = h;
          is_line = (omega arith, let y = r.is_line in omega arith);
          good_before = below r.at r.good_below;
        } in
        subst (λ (n : ℕ). Reached f n × (verdict f n ≡ refuse k p)) (sym s) (w, verdict_next f r.at ∙ r.is_refused)
    go false h q = absurd (not-2 (let y : 2 ≡ k = cc in sym y))

-- a line that the reading comes to is refused, and so the file
pub reached_refused : (f : List ℕ) (k l p : ℕ) → Reached f l → verdict f l ≡ refuse k p → read_file f ≡ refused k l p
unfolding read_file GoodBelow
reached_refused f k zero p r e = absurd (let h = r.is_line.0 in omega arith)
reached_refused f k (suc i) p r e =
    ap (λ (b : Bool). elim b as (λ _. Outcome) [ true ↦ read_lines 1 start (lines f) | false ↦ refused 2 0 0 ]) r.is_file_fact
    ∙ lines_refused 1 start (lines f) i k p (let h = r.is_line.1 in omega arith)
    (λ j h. sym (verdict_next f j) ∙ r.good_before (suc j) (omega arith) (omega arith)) (sym (verdict_next f i) ∙ e)
    ∙ ap (λ (l : ℕ). refused k l p) (omega arith)

-- ---- one line more

declares_next : (d : Declared) (ls : List (List ℕ)) (i : ℕ) → i < length ls
    → declares d (take (suc i) ls) ≡ after (declares d (take i ls)) (parse (get_or ls i []))
unfolding declares
declares_next d [] i h = absurd (omega arith)
declares_next d (x ∷ ls) zero h = refl
declares_next d (x ∷ ls) (suc i) h = declares_next (after d (parse x)) ls i (omega arith)

pub before_next : (f : List ℕ) (n : ℕ) → 1 ≤ n → n ≤ length (lines f) → declared_before f (suc n) ≡ after (declared_before f n) (parse (line_at f n))
unfolding declared_before line_at
before_next f zero h₁ h₂ = absurd (omega arith)
before_next f (suc i) h₁ h₂ =
    let e : suc (suc i) - 1 ≡ suc i = omega arith in
    let e' : suc i - 1 ≡ i = omega arith in
    rw (e, e') (declares_next start (lines f) i (omega arith))
