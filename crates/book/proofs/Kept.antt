-- Where no fault is found, the book keeps every condition.
use Rattle.std.proofs.Common.{◌≡◌, ℕ, zero, suc, ◌+◌, ◌-◌, ◌<◌, ◌≤◌, Bool, true, false, cond, eqb, ltb, List, Some, None, subst, arith}
use Rattle.std.proofs.lemmas.Bool.Decides.{nat_tests}
use Rattle.std.specs.Option.{option_map}
use Rattle.book.specs.declared.refusal.Refusal.{Refusal}
use Rattle.book.specs.Refusal.{in_rule, in_no_rule}
use Rattle.book.specs.First.{first}
use Rattle.book.specs.Layout.{atoms_in, rules_in, literals_in, place_at, positives_at, count_at, claimed_below, literal_from, literal_at}
use Rattle.book.specs.Diagnosis.{header_fault, entries_fault, unclaimed_fault, literal_fault_of, literal_fault, body_fault, bodies_fault, layout_fault}
use Rattle.book.specs.Invariant.{Heads, Places, Claimed, Literals, Ascending}
use Rattle.book.proofs.Firsts.{first_none, mapped_none, or_else_none}
use Rattle.book.proofs.FirstLiteral.{entry_sound}

claimed_within : (bs : List ℕ) (m : ℕ) → entries_fault bs m ≡ None → claimed_below bs m ≤ literals_in bs
unfolding claimed_below
claimed_within bs zero e = omega arith
claimed_within bs (suc k) e = let s = entry_sound bs k (suc k) (omega arith) e in omega arith

pub literal_none : (n p : ℕ) (starts : Bool) (q a : ℕ)
    → literal_fault_of n p starts q a ≡ None → (a < n) × (starts ≡ false → q < a)
literal_none n p starts q a e = grind (arith, nat_tests)

literal_sound : (bs : List ℕ) (k i : ℕ) → k < rules_in bs → i < count_at bs k → bodies_fault bs (rules_in bs) ≡ None
    → literal_fault bs k i ≡ None
literal_sound bs k i h g e =
    first_none (literal_fault bs k) i (count_at bs k) g
    (mapped_none (in_rule k) (first (literal_fault bs k) (count_at bs k)) (first_none (body_fault bs) k (rules_in bs) h e))

claimed_all : (s b : ℕ) (f : Refusal) → s ≤ b → cond (ltb s b) (Some f) None ≡ None → s ≡ b
claimed_all s b f h e = grind (arith, nat_tests)

not_first : (i p : ℕ) → (i + 1 ≡ p → ⊥) → cond (eqb (i + 1) 0) true (eqb (i + 1) p) ≡ false
not_first i p h = grind (arith, nat_tests)

ascends : (bs : List ℕ) → bodies_fault bs (rules_in bs) ≡ None → Ascending bs
ascends bs e k i h =
    let n : place_at bs k + (i + 1) - 1 ≡ place_at bs k + i = omega arith in
    let l = literal_none (atoms_in bs) (literal_from bs (place_at bs k + (i + 1))) _ (literal_at bs (place_at bs k + (i + 1) - 1)) (literal_at bs (place_at bs k + (i + 1))) (literal_sound bs k (i + 1) h.0 h.1 e) in
    subst (λ (j : ℕ). literal_at bs j < literal_at bs (place_at bs k + (i + 1))) n (l.1 (not_first i (positives_at bs k) h.2))

pub kept : (bs : List ℕ) → layout_fault bs ≡ None → Heads bs × Places bs × Claimed bs × Literals bs × Ascending bs
kept bs e =
    let o1 = or_else_none (option_map in_no_rule (header_fault bs)) _ e in
    let o2 = or_else_none (entries_fault bs (rules_in bs)) _ o1.1 in
    let o3 = or_else_none (option_map in_no_rule (unclaimed_fault bs)) _ o2.1 in
    let u = mapped_none in_no_rule (unclaimed_fault bs) o3.0 in
    let w = claimed_within bs (rules_in bs) o2.0 in (
      λ k h. (entry_sound bs k (rules_in bs) h o2.0).0,
      λ k h. let s = entry_sound bs k (rules_in bs) h o2.0 in (s.1, s.2),
      claimed_all (claimed_below bs (rules_in bs)) (literals_in bs) _ w u,
      λ k i h g. (literal_none (atoms_in bs) _ _ _ _ (literal_sound bs k i h g o3.1)).0,
      ascends bs o3.1,
    )
