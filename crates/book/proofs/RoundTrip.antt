-- A valid program is read back from its written form.
use Rattle.std.proofs.Common.{◌≡◌, ℕ, zero, suc, ◌+◌, ◌-◌, ◌<◌, ◌≤◌, Bool, true, false, cond, eqb, List, length, get_or, take, None, sym, refl, ap, ◌∙◌, subst, inl, inr, arith}
use Rattle.std.specs.Option.{option_map}
use Rattle.std.proofs.lemmas.List.FromFn.{fill_by_all}
use Rattle.std.proofs.ByRecursion.{All-get_or}
use Rattle.std.proofs.lemmas.List.{get_or_append_left, get_or-append_right, get_or-append-add, take_all}
use Rattle.std.proofs.lemmas.Bool.{cases_lt, eq-eqb}
use Rattle.std.proofs.lemmas.Bool.Decides.{nat_tests}
use Rattle.book.specs.Program.{ProgramRule, Program, rule_count, nth_rule, width, total, no_rule, ProperRule, Valid}
use Rattle.book.specs.Format.{body, encode}
use Rattle.book.specs.Refusal.{in_rule}
use Rattle.book.specs.Layout.{atoms_in, rules_in, literals_in, length_asked, place_at, positives_at, negatives_at, count_at, claimed_below, literal_from, literal_at, positive_part, negative_part, words, decode_rule, decode}
use Rattle.book.specs.Diagnosis.{header_fault, entry_fault_of, entry_fault, unclaimed_fault_of, literal_fault_of, literal_fault, body_fault, layout_fault}
use Rattle.book.proofs.Firsts.{first_all}
use Rattle.book.proofs.Encodes.{two_word, entry_fields, rule_literal, length-encode, total_within, total_more}
use Rattle.book.proofs.Parts.{words_by}

header_none : (bs : List ℕ) → 6 ≤ length bs → atoms_in bs ≤ 128 → rules_in bs ≤ 256 → literals_in bs ≤ 2048 → length bs ≡ length_asked bs
    → header_fault bs ≡ None
header_none bs a b c d e = grind (arith, nat_tests)

entry_none : (n b s k h p c : ℕ) → h < n → p ≡ s → p + c ≤ b → entry_fault_of n b s k h p c ≡ None
entry_none n b s k h p c x y z = grind (arith, nat_tests)

literal_none : (n p : ℕ) (starts : Bool) (q a : ℕ) → a < n → (starts ≡ false → q < a) → literal_fault_of n p starts q a ≡ None
literal_none n p true q a h g = grind (arith, nat_tests)
literal_none n p false q a h g = let l = g refl in grind (arith, nat_tests)

unclaimed_none : (m b s : ℕ) → s ≡ b → unclaimed_fault_of m b s ≡ None
unclaimed_none m b s e = grind (arith, nat_tests)

starts_false : (i p : ℕ) → cond (eqb i 0) true (eqb i p) ≡ false → (0 < i) × (i ≡ p → ⊥)
starts_false i p e = grind (arith, nat_tests)

-- the literals of a proper rule are atoms, and ascend but where the second part begins
module _ (n : ℕ) (r : ProgramRule) (v : ProperRule n r) (i : ℕ) (h : i < width r) where
  body_below : get_or (body r) i 0 < n
  body_below =
      elim (cases_lt i (length r.positives)) [
        | inl g ↦ rw (get_or_append_left r.positives r.negatives 0 i g) (All-get_or (λ a. a < n) r.positives i 0 g v.positives.atoms)
        | inr g ↦
            rw (get_or-append_right r.positives r.negatives (length r.positives) i 0 refl g)
            (All-get_or (λ a. a < n) r.negatives (i - length r.positives) 0 (omega arith) v.negatives.atoms)
      ]

  body_ascends : 0 < i → (i ≡ length r.positives → ⊥) → get_or (body r) (i - 1) 0 < get_or (body r) i 0
  body_ascends s f =
      let ps = r.positives in
      let ns = r.negatives in
      let t = length r.positives in
      elim (cases_lt i (length r.positives)) [
        | inl g ↦
            let e : i - 1 + 1 ≡ i = omega arith in
            let l : i - 1 < length r.positives = omega arith in
            rw (get_or_append_left ps ns 0 i g, get_or_append_left ps ns 0 (i - 1) l)
            (subst (λ (j : ℕ). get_or ps (i - 1) 0 < get_or ps j 0) e (v.positives.ascends (i - 1) (omega arith)))
        | inr g ↦
            let l : t ≤ i - 1 = omega arith in
            let e : i - 1 - t + 1 ≡ i - t = omega arith in
            rw (get_or-append_right ps ns t i 0 refl g, get_or-append_right ps ns t (i - 1) 0 refl l)
            (subst (λ (j : ℕ). get_or ns (i - 1 - t) 0 < get_or ns j 0) e (v.negatives.ascends (i - 1 - t) (omega arith)))
      ]

module _ (p : Program) where
  rules_is : rules_in (encode p) ≡ rule_count p
  rules_is = two_word (rule_count p)

  count_is : (k : ℕ) → k < rule_count p → count_at (encode p) k ≡ width (nth_rule p k)
  count_is k h = let f = entry_fields p k h in omega arith

  claimed_is : (k : ℕ) → k ≤ rule_count p → claimed_below (encode p) k ≡ total (take k p.rules)
  unfolding claimed_below
  claimed_is zero h = refl
  claimed_is (suc k) h =
      let i = claimed_is k (omega arith) in
      let c = count_is k (omega arith) in
      omega (arith, total_more p.rules k (omega arith))

  claimed_all : claimed_below (encode p) (rules_in (encode p)) ≡ literals_in (encode p)
  claimed_all =
      ap (claimed_below (encode p)) rules_is
      ∙ claimed_is (rule_count p) (omega arith)
      ∙ ap total (take_all (rule_count p) p.rules (omega arith))
      ∙ sym (two_word (total p.rules))

  same_rule : (k : ℕ) → k < rule_count p → nth_rule p k ≡ decode_rule (encode p) k
  same_rule k h =
      let bs = encode p in
      let r = nth_rule p k in
      let f = entry_fields p k h in
      let w = total_within p.rules k h in
      let z = length-encode p in
      let m = rules_is in
      let ps : words (positive_part (encode p) k) ≡ (nth_rule p k).positives =
      words_by (encode p) (place_at (encode p) k) (positives_at (encode p) k) r.positives f.2 (omega arith)
      (λ i g. rule_literal p k i h (omega arith) ∙ get_or_append_left r.positives r.negatives 0 i (omega arith)) in
      let ns : words (negative_part (encode p) k) ≡ (nth_rule p k).negatives =
      words_by (encode p) (place_at (encode p) k + positives_at (encode p) k) (negatives_at (encode p) k) r.negatives f.3 (omega arith)
      (λ i g.
      let e : place_at (encode p) k + positives_at (encode p) k + i ≡ place_at (encode p) k + (length (nth_rule p k).positives + i) = omega arith in
      ap (literal_at bs) e ∙ rule_literal p k (length r.positives + i) h (omega arith) ∙ get_or-append-add r.positives r.negatives i 0) in
      rw (f.0, ps, ns)

  pub decode-encode : decode (encode p) ≡ p
  unfolding decode
  decode-encode =
      let n = two_word p.atoms in
      let rs = fill_by_all (decode_rule (encode p)) p.rules (rules_in (encode p)) no_rule (sym rules_is) (λ k h. same_rule k (omega (arith, rules_is))) in
      rw (n, ← rs)

  module _ (v : Valid p) where
    no_entry : (k : ℕ) → k < rules_in (encode p) → option_map (in_rule k) (entry_fault (encode p) k) ≡ None
    no_entry k h =
        let l : k < rule_count p = omega (arith, rules_is) in
        let f = entry_fields p k l in
        let w = total_within p.rules k l in
        let c = claimed_is k (omega arith) in
        let d = count_is k l in
        let g = (v.proper k l).head (nth_rule p k).head (eq-eqb _ _ refl) in
        ap (option_map (in_rule k))
        (entry_none _ _ _ k _ _ _ (omega (arith, two_word p.atoms)) (f.1 ∙ sym c) (omega (arith, two_word (total p.rules))))

    no_literal : (k : ℕ) → k < rule_count p → (i : ℕ) → i < count_at (encode p) k → literal_fault (encode p) k i ≡ None
    no_literal k h i g =
        let r = nth_rule p k in
        let c = count_is k h in
        let w : i < width (nth_rule p k) = omega arith in
        let f = entry_fields p k h in
        let a = rule_literal p k i h w in
        literal_none (atoms_in (encode p)) (literal_from (encode p) (place_at (encode p) k + i)) _ (literal_at (encode p) (place_at (encode p) k + i - 1)) (literal_at (encode p) (place_at (encode p) k + i))
        (omega (arith, two_word p.atoms, body_below p.atoms r (v.proper k h) i w))
        (λ s.
        let t = starts_false i (positives_at (encode p) k) s in
        let e : place_at (encode p) k + i - 1 ≡ place_at (encode p) k + (i - 1) = omega arith in
        let q : literal_at (encode p) (place_at (encode p) k + i - 1) ≡ get_or (body (nth_rule p k)) (i - 1) 0 =
        ap (literal_at (encode p)) e ∙ rule_literal p k (i - 1) h (omega arith) in
        let u = body_ascends p.atoms r (v.proper k h) i w t.0 (λ x. t.1 (x ∙ sym f.2)) in
        omega arith)

    no_body : (k : ℕ) → k < rules_in (encode p) → body_fault (encode p) k ≡ None
    no_body k h =
        ap (option_map (in_rule k)) (first_all (literal_fault (encode p) k) (count_at (encode p) k) (no_literal k (omega (arith, rules_is))))

    pub no_fault : layout_fault (encode p) ≡ None
    no_fault =
        let lim = v.limited in
        let l = header_none (encode p) (omega (arith, length-encode p)) (omega (arith, two_word p.atoms)) (omega (arith, rules_is)) (omega (arith, two_word (total p.rules))) (omega (arith, length-encode p, rules_is, two_word (total p.rules))) in
        let e = first_all (λ k. option_map (in_rule k) (entry_fault (encode p) k)) (rules_in (encode p)) no_entry in
        let u = unclaimed_none (rules_in (encode p)) (literals_in (encode p)) (claimed_below (encode p) (rules_in (encode p))) claimed_all in
        let d = first_all (body_fault (encode p)) (rules_in (encode p)) no_body in
        rw (l, e, u) d
