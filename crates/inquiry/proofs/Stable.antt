-- What a finding says can be told from the sheets alone, so it holds of every inquiry whose past is only known to exist.
use Rattle.std.proofs.Common.{◌≡◌, ℕ, ◌<◌, true, List, length, get_or, Some, None, subst, inl, inr, ⊎_elim, arith}
use mathlib.Core.Logic.{∥∥₁_elim, ∥∥₁_map}
use mathlib.Core.Bool.{Bool-set}
use native.Mathlib.Nat.{ℕ_set}
use Rattle.std.proofs.lemmas.Bool.{cases_order}
use Rattle.book.specs.Program.{Program, Valid}
use Rattle.answer.specs.Answer.{Answer}
use Rattle.answer.specs.Order.{Smaller}
use Rattle.answer.specs.Computed.{is_answer}
use Rattle.answer.proofs.Computing.{computed}
use Rattle.answer.proofs.StrictOrder.{Parts, first_difference, trichotomy, strict_total, none_smaller}
use Rattle.inquiry.specs.Cursor.{Cursor, Above}
use Rattle.inquiry.specs.Walk.{Finding, sheet, none, paused}
use Rattle.inquiry.specs.Promise.{Says}

refute : {A : Type 0} → ∥ A ∥₁ → (A → ⊥) → ⊥
refute h f = ∥∥₁_elim h (λ x y. absurd x) f

-- the smaller sheet has 0, and the other 1, at the first place where they differ
at_first : (s t : List ℕ) (n : ℕ) → Parts (λ i. get_or s i 0) (λ i. get_or t i 0) n → (d : ℕ) → ((i : ℕ) → i < d → get_or s i 0 ≡ get_or t i 0) → (get_or s d 0 ≡ get_or t d 0 → ⊥)
    → Smaller s t → (get_or s d 0 ≡ 0) × (get_or t d 0 ≡ 1)
at_first s t n p d same differ k =
    let z = k.zero in
    let o = k.one in
    elim (cases_order k.at d) [
      | inl e ↦ subst (λ i. (get_or s i 0 ≡ 0) × (get_or t i 0 ≡ 1)) e (z, o)
      | inr (inl l) ↦ let q = same k.at l in absurd (omega arith)
      | inr (inr l) ↦ absurd (differ (k.same d l))
    ]

smaller_stable : (s t : List ℕ) → ∥ Smaller s t ∥₁ → Smaller s t
smaller_stable s t h =
    elim (first_difference (λ i. get_or s i 0) (λ i. get_or t i 0) (length t)) [
      | inl e ↦ absurd (refute h (none_smaller s t e))
      | inr d ↦ record {
        at = d.at;
        same = d.same;
        zero = ∥∥₁_elim h (ℕ_set _ _) (λ k. (at_first s t (length t) d d.at d.same d.differ k).0);
        one = ∥∥₁_elim h (ℕ_set _ _) (λ k. (at_first s t (length t) d d.at d.same d.differ k).1);
      }
    ]

above_stable : (c : Cursor) (x : List ℕ) → ∥ Above c x ∥₁ → Above c x
above_stable None x h = tt
above_stable (Some c) x h = smaller_stable c x h

answer_stable : (b : Program) (x : List ℕ) → Valid b → ∥ Answer b x ∥₁ → Answer b x
answer_stable b x V h =
    let d = computed.tells b x V.proper in
    d.0 (∥∥₁_elim h (Bool-set (is_answer b x) true) (λ a. d.1 a))

pub says_stable : (b : Program) (c : Cursor) (w : List ℕ) (x : Finding) → Valid b → ∥ Says b c w x ∥₁ → Says b c w x
says_stable b c w none V h = λ y u. refute h (λ s. s y u)
says_stable b c w paused V h = tt
says_stable b c w (sheet x) V h =
    let a = answer_stable b x V (∥∥₁_map h (λ s. s.0.answer)) in (
      record {
        answer = a;
        above = above_stable c x (∥∥₁_map h (λ s. s.0.above));
        agrees = λ i l. ∥∥₁_elim h (ℕ_set _ _) (λ s. s.0.agrees i l);
      },
      λ y u. elim (trichotomy b.atoms x y a.sheet u.answer.sheet) [
        | inl e ↦ inl e
        | inr (inl l) ↦ inr l
        | inr (inr l) ↦ absurd
            (refute h (λ s. ⊎_elim (λ e. (strict_total 0).irreflexive y (subst (Smaller y) e l)) (λ m. (strict_total 0).irreflexive x ((strict_total 0).transitive x y x m l)) (s.1 y u)))
      ],
    )
