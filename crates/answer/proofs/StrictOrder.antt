-- The order of sheets is strict and total.
use Rattle.std.proofs.Common.{◌≡◌, ℕ, zero, suc, ◌<◌, ◌⊎◌, List, length, get_or, sym, refl, ◌∙◌, inl, inr, arith}
use Rattle.std.proofs.lemmas.List.{ext_get_or, get_or_past}
use Rattle.std.proofs.lemmas.Bool.{cases_eq, cases_lt, cases_order}
use Rattle.answer.specs.Answer.{Sheet}
use Rattle.answer.specs.Order.{Smaller, StrictTotal}

-- a number other than 0 stands inside the list
pub marked_low : (w : List ℕ) (a n : ℕ) → length w ≡ n → 0 < get_or w a 0 → a < n
marked_low w a n e h = elim (cases_lt a n) [ inl l ↦ l | inr l ↦ let z = get_or_past w a 0 (omega arith) in omega arith ]

-- the first place where two rows of numbers differ
pub record Parts (f g : ℕ → ℕ) (n : ℕ) : Type 0 where
  pub at : ℕ
  pub low : at < n
  pub same : (i : ℕ) → i < at → f i ≡ g i
  pub differ : f at ≡ g at → ⊥

-- two rows are the same below n, or they differ first at some place below it
pub first_difference : (f g : ℕ → ℕ) (n : ℕ) → ((i : ℕ) → i < n → f i ≡ g i) ⊎ Parts f g n
first_difference f g zero = inl (λ i h. omega arith)
first_difference f g (suc n) =
    elim (first_difference f g n) [
      | inr d ↦ inr (record { at = d.at; low = omega arith; same = d.same; differ = d.differ })
      | inl e ↦ elim (cases_eq (f n) (g n)) [
        | inl q ↦ inl (λ i h. elim (cases_lt i n) [ inl l ↦ e i l | inr l ↦ let z : i ≡ n = omega arith in rw z q ])
        | inr q ↦ inr (record { at = n; low = omega arith; same = e; differ = q })
      ]
    ]

-- of two different sheets one is smaller
pub trichotomy : (n : ℕ) (s t : List ℕ) → Sheet n s → Sheet n t → (s ≡ t) ⊎ (Smaller s t ⊎ Smaller t s)
trichotomy n s t hs ht =
    elim (first_difference (λ i. get_or s i 0) (λ i. get_or t i 0) n) [
      | inl e ↦ inl (ext_get_or 0 s t (hs.long ∙ sym ht.long) (λ i h. e i (rw hs.long at h)))
      | inr d ↦
          let h = hs.marks d.at in
          let k = ht.marks d.at in
          let z = d.differ in
          elim (cases_lt (get_or s d.at 0) (get_or t d.at 0)) [
            | inl l ↦ inr (inl (record { at = d.at; same = d.same; zero = omega arith; one = omega arith }))
            | inr l ↦ inr (inr (record { at = d.at; same = λ i q. sym (d.same i q); zero = omega arith; one = omega arith }))
          ]
    ]

-- the lower of the two places at which two pairs differ is the place of the outer pair
smaller_trans : (s t u : List ℕ) → Smaller s t → Smaller t u → Smaller s u
smaller_trans s t u h k =
    let hz = h.zero in
    let ho = h.one in
    let kz = k.zero in
    let ko = k.one in
    elim (cases_order h.at k.at) [
      | inl e ↦ let z : get_or t h.at 0 ≡ 0 = rw e kz in absurd (omega arith)
      | inr (inl l) ↦ record { at = h.at; same = λ i m. h.same i m ∙ k.same i (omega arith); zero = hz; one = sym (k.same h.at l) ∙ ho }
      | inr (inr l) ↦ record { at = k.at; same = λ i m. h.same i (omega arith) ∙ k.same i m; zero = h.same k.at l ∙ kz; one = ko }
    ]

-- the order is strict and total
pub strict_total : (n : ℕ) → StrictTotal n
strict_total n = record {
  irreflexive = λ s h. let z = h.zero in let o = h.one in omega arith;
  transitive = smaller_trans;
  total = trichotomy n;
}

-- rows that are the same below the length of the second have no place for the first to be smaller at
pub none_smaller : (s t : List ℕ) → ((i : ℕ) → i < length t → get_or s i 0 ≡ get_or t i 0) → Smaller s t → ⊥
none_smaller s t h k =
    let z = k.zero in
    let o = k.one in
    let l = marked_low t k.at (length t) refl (omega arith) in
    let e = h k.at l in
    omega arith
