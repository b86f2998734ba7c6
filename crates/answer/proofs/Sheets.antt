-- A sheet is an answer set exactly when it has the atoms of the smallest set closed under its reduct.
use Rattle.std.proofs.Common.{◌≡◌, ℕ, ◌<◌, ◌≤◌, Bool, true, false, eqb, List, Decides, sym, refl, ◌∙◌, inl, inr, zero-add, arith, lit≤}
use Rattle.std.proofs.lemmas.List.{get_or_past}
use Rattle.std.proofs.lemmas.List.FromFn.{length-map-range_with_len, get_or-map-range_with_len}
use Rattle.std.proofs.lemmas.Bool.{cases_lt, eqb-true}
use Rattle.std.proofs.lemmas.Bool.Decides.{Decides-like, same_from_decides}
use Rattle.book.specs.Program.{Program, Proper, Valid, rule_count, nth_rule}
use Rattle.answer.specs.Tests.{each_of, bit}
use Rattle.answer.specs.Answer.{Sheet, inside, outside, reduct, Within, Closed, Least, Answer}
use Rattle.answer.specs.Computed.{sheet_by}
use Rattle.book.proofs.Handing.{all_below}
use Rattle.answer.proofs.Tests.{each_mono, each_same}
use Rattle.answer.proofs.StrictOrder.{marked_low}

-- an atom of a sheet is below its length
pub within : (n : ℕ) (s : List ℕ) (a : ℕ) → Sheet n s → inside s a ≡ true → a < n
within n s a S h = marked_low s a n S.long (let k = eqb-true _ _ h in omega arith)

-- a bit is 1 exactly where the test is passed
one_bit : (v : Bool) → eqb (bit v) 1 ≡ v
one_bit true = refl
one_bit false = refl

-- a bit is at most 1
bit_low : (v : Bool) → bit v ≤ 1
bit_low true = lit≤ tt
bit_low false = lit≤ tt

-- a sheet made of a set has its atoms
pub by_is : (n : ℕ) (t : ℕ → Bool) (a : ℕ) → a < n → inside (sheet_by n t) a ≡ t a
by_is n t a l = rw (get_or-map-range_with_len (λ a. bit (t a)) 0 n a a 0 l (zero-add a)) (one_bit (t a))

-- it is a sheet
pub by_sheet : (n : ℕ) (t : ℕ → Bool) → Sheet n (sheet_by n t)
by_sheet n t = record {
  long = length-map-range_with_len (λ a. bit (t a)) 0 n;
  marks =
      λ a. elim (cases_lt a n) [
        | inl l ↦ rw (get_or-map-range_with_len (λ a. bit (t a)) 0 n a a 0 l (zero-add a)) (bit_low (t a))
        | inr l ↦ rw (get_or_past (sheet_by n t) a 0 (rw (length-map-range_with_len (λ a. bit (t a)) 0 n) l)) (lit≤ tt)
      ];
}

-- it has no others
pub by_has : (n : ℕ) (t : ℕ → Bool) → Within (inside (sheet_by n t)) t
by_has n t a h = sym (by_is n t a (within n (sheet_by n t) a (by_sheet n t) h)) ∙ h

-- only the rules of the program matter
closed_like : (p : Program) (u v t : ℕ → Bool) → ((r : ℕ) → r < rule_count p → u r ≡ v r) → Closed p u t → Closed p v t
closed_like p u v t e C r a l hd w f = C r a l hd (e r l ∙ w) f

-- so the smallest closed set is the same
pub least_like : (p : Program) (u v t : ℕ → Bool) → ((r : ℕ) → r < rule_count p → u r ≡ v r) → Least p u t → Least p v t
least_like p u v t e L = record {
  closed = closed_like p u v t e L.closed;
  least = λ w C. L.least w (closed_like p v u w (λ r l. sym (e r l)) C);
}

-- of a closed set, the sheet of its atoms is closed
pub by_closed : (p : Program) (used t : ℕ → Bool) → Proper p → Closed p used t → Closed p used (inside (sheet_by p.atoms t))
by_closed p used t P C r a l hd u e =
    by_is p.atoms t a ((P r l).head a hd)
    ∙ C r a l hd u (each_mono (inside (sheet_by p.atoms t)) t (by_has p.atoms t) (nth_rule p r).positives e)

-- flags for the atoms that are out tell the rules that the reduct keeps
pub reduct_by : (p : Program) (s : List ℕ) (out : ℕ → Bool) → Valid p → ((a : ℕ) → a < 128 → out a ≡ outside s a)
    → (r : ℕ) → r < rule_count p → each_of out (nth_rule p r).negatives ≡ reduct p s r
reduct_by p s out V e r l =
    each_same out (outside s) (nth_rule p r).negatives
    (λ i. e _ (all_below p.atoms 128 (nth_rule p r).negatives V.limited.atoms (omega arith) (V.proper r l).negatives.atoms i))

module _ (p : Program) (s : List ℕ) (t : ℕ → Bool) (P : Proper p) (S : Sheet p.atoms s) (L : Least p (reduct p s) t) where
  -- the sheet has the atoms of the set
  abbrev Same : Type 0
  Same = (a : ℕ) → a < p.atoms → t a ≡ inside s a

  -- then the atoms of the sheet are in the set
  from_inside : Same → Within (inside s) t
  from_inside E a h = E a (within p.atoms s a S h) ∙ h

  -- such a sheet is an answer set
  pub answer_from : Same → Answer p s
  answer_from E = record {
    sheet = S;
    closed =
        λ r a l hd u e.
        sym (E a ((P r l).head a hd)) ∙ L.closed r a l hd u (each_mono (inside s) t (from_inside E) (nth_rule p r).positives e);
    least = λ w W C a h. L.least (inside w) C a (from_inside E a h);
  }

  -- an answer set is such a sheet
  pub answer_to : Answer p s → Same
  answer_to A a l =
      same_from_decides (t a) (inside s a) (λ e. e, λ e. e)
      (λ h. by_has p.atoms t a (A.least (sheet_by p.atoms t) (by_sheet p.atoms t) (by_closed p (reduct p s) t P L.closed) a h), L.least (inside s) A.closed a)

  -- a test for the one is a test for the other
  pub answer_decides : (r : Bool) → Decides r Same → Decides r (Answer p s)
  answer_decides r = Decides-like r answer_from answer_to
