-- Laws of the table of a frame: three orders filled in one after the other, and then the marks.
use mathlib.Core.Path.{◌≡◌, sym, ap, subst, ◌∙◌}
use mathlib.Core.Bool.{cond}
use mathlib.Core.List.{List}
use Rattle.std.specs.Prelude as rust
use Prim.Native.Nat.{ℕ, ◌+◌, ◌*◌, ◌≤◌, ◌<◌}
use native.Mathlib.Omega.{arith}
use lib.ListN.{length, get_or, length-map}
use Rattle.algebra.specs.Sort.{Sort, subject, object, action}
use Rattle.algebra.specs.Policy.{Frame, parents, members, is_marked}
use Rattle.algebra.specs.StoredFrame.{size_of, order_at, order_byte_lem, Stands}
use Rattle.orders.specs.Orders.{parents_of, Filled}
use Rattle.algebra.specs.declared.Counts.{Counts}
use Rattle.algebra.specs.Meant.{found_of}
use Rattle.sets.specs.Bytes.{put}
use Rattle.sets.proofs.Bytes.{put_low, put_at}
use Rattle.composer.specs.Compose.{Listed}

module _ (s o a : List (rust.Option ℕ)) (marks t₀ t₁ t₂ t₃ t : List ℕ) (fs : Filled subject (parents_of s) t₀ t₁) (fo : Filled object (parents_of o) t₁ t₂)
    (fa : Filled action (parents_of a) t₂ t₃)
    (q : t ≡ put 12288 marks t₃) (all : length marks ≡ 1024) (long : length t₃ ≡ 16384) (few-s : length s ≤ 64) (few-o : length o ≤ 64)
    (few-a : length a ≤ 64) where
  size : (l : List (rust.Option ℕ)) → length (parents_of l) ≡ length l
  size l = length-map l found_of

  low : (i : ℕ) → i < 12288 → get_or t i 0 ≡ get_or t₃ i 0
  low i h = ap (λ u. get_or u i 0) q ∙ put_low 12288 marks t₃ (omega arith) i h

  order_subject : (x y : ℕ) → x < length (parents_of s) → y < length (parents_of s) → get_or t (0 + x * 64 + y) 0 ≡ order_byte_lem (parents_of s) x y
  order_subject x y h k =
      low (0 + x * 64 + y) (omega (arith, size s))
      ∙ fa.others (0 + x * 64 + y) (λ x' y' h' k' e. omega (arith, size s))
      ∙ fo.others (0 + x * 64 + y) (λ x' y' h' k' e. omega (arith, size s))
      ∙ fs.table x y h k

  order_object : (x y : ℕ) → x < length (parents_of o) → y < length (parents_of o) → get_or t (4096 + x * 64 + y) 0 ≡ order_byte_lem (parents_of o) x y
  order_object x y h k =
      low (4096 + x * 64 + y) (omega (arith, size o))
      ∙ fa.others (4096 + x * 64 + y) (λ x' y' h' k' e. omega (arith, size o))
      ∙ fo.table x y h k

  order_action : (x y : ℕ) → x < length (parents_of a) → y < length (parents_of a) → get_or t (8192 + x * 64 + y) 0 ≡ order_byte_lem (parents_of a) x y
  order_action x y h k = low (8192 + x * 64 + y) (omega (arith, size a)) ∙ fa.table x y h k

  pub is_stored : (fr : Frame) (n : Counts) → Listed fr s o a marks → ((σ : Sort) → members fr σ ≡ size_of n σ) → Stands fr n t
  is_stored fr n li cnt = record { counts = cnt; orders = orders; marks = marked }
    where
      orders : (σ : Sort) (x y : ℕ) → x < members fr σ → y < members fr σ → get_or t (order_at σ + x * 64 + y) 0 ≡ order_byte_lem (parents fr σ) x y
      orders subject x y =
          subst (λ ps. x < length ps → y < length ps → get_or t (0 + x * 64 + y) 0 ≡ order_byte_lem ps x y) (sym li.same_subjects) (order_subject x y)
      orders object x y =
          subst (λ ps. x < length ps → y < length ps → get_or t (4096 + x * 64 + y) 0 ≡ order_byte_lem ps x y) (sym li.same_objects) (order_object x y)
      orders action x y =
          subst (λ ps. x < length ps → y < length ps → get_or t (8192 + x * 64 + y) 0 ≡ order_byte_lem ps x y) (sym li.same_actions) (order_action x y)

      few : (σ : Sort) → members fr σ ≤ 64
      few subject = omega (arith, ap length li.same_subjects, size s)
      few object = omega (arith, ap length li.same_objects, size o)
      few action = omega (arith, ap length li.same_actions, size a)

      marked : (σ : Sort) (p x : ℕ) → p < 16 → x < members fr σ → get_or t (12288 + p * 64 + x) 0 ≡ cond (is_marked fr σ p x) 1 0
      marked σ p x h k =
          let i : 12288 + p * 64 + x ≡ 12288 + (p * 64 + x) = omega arith in
          ap (λ i. get_or t i 0) i
          ∙ ap (λ u. get_or u (12288 + (p * 64 + x)) 0) q
          ∙ put_at 12288 marks t₃ (omega arith) (p * 64 + x) (omega (arith, few σ))
          ∙ li.same_marks σ p x h k
