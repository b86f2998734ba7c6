-- The functions that compute the smallest closed set and the test for an answer set are right.
use Rattle.std.proofs.Common.{◌≡◌, ℕ, zero, suc, ◌<◌, ◌≤◌, Bool, true, false, not, ◌&&◌, ◌||◌, eqb, List, [], ◌∷◌, get_or, Decides, sym, refl, ap, ◌∙◌, subst, arith, lit≤}
use Rattle.std.specs.Str.{bytes_eq}
use Rattle.std.proofs.lemmas.Slice.Eq.{bytes_eq-Decides}
use Rattle.std.proofs.lemmas.List.{ext_get_or}
use Rattle.std.proofs.lemmas.Bool.{false≢true, and_parts, and_from, eqb-true, eq-eqb}
use Rattle.std.proofs.lemmas.Bool.Decides.{nat_tests, Decides-like, Decides-below_and}
use Rattle.book.specs.Program.{Program, Proper, rule_count, nth_rule, headed}
use Rattle.answer.specs.Tests.{each_of, each_below}
use Rattle.answer.specs.Answer.{Sheet, inside, reduct, Closed, Least, Answer}
use Rattle.answer.specs.Computed.{sheet_by, on_sheets, is_closed, least_set, is_answer, Computed}
use Rattle.answer.proofs.Tests.{each_mono}
use Rattle.answer.proofs.Sheets.{by_is, by_has, by_sheet, by_closed, answer_from, answer_to}

-- a test that follows from another
implies : (x y : Bool) → (x ≡ true → y ≡ true) → (not x || y) ≡ true
implies true y f = f refl
implies false y f = refl

-- and what it tells
implied : (x y : Bool) → (not x || y) ≡ true → x ≡ true → y ≡ true
implied true y e h = e
implied false y e h = absurd (false≢true h)

-- one atom more at the front
sheet_more : (n x : ℕ) (s : List ℕ) → x ≤ 1 → Sheet n s → Sheet (suc n) (x ∷ s)
sheet_more n x s l S = record { long = ap suc S.long; marks = low }
  where
    low : (a : ℕ) → get_or (x ∷ s) a 0 ≤ 1
    low zero = l
    low (suc a) = S.marks a

-- a test of every sheet
each_sheet : (n : ℕ) (t : List ℕ → Bool) → ((s : List ℕ) → Sheet n s → t s ≡ true) → on_sheets t n ≡ true
each_sheet zero t f = f [] (record { long = refl; marks = λ a. lit≤ tt })
each_sheet (suc n) t f =
    and_from _ _ (each_sheet n (λ s. t (0 ∷ s)) (λ s S. f (0 ∷ s) (sheet_more n 0 s (lit≤ tt) S)))
    (each_sheet n (λ s. t (1 ∷ s)) (λ s S. f (1 ∷ s) (sheet_more n 1 s (lit≤ tt) S)))

-- what holds of 0 and of 1 holds of a number up to 1
one_of_two : (t : ℕ → Bool) (x : ℕ) → x ≤ 1 → t 0 ≡ true → t 1 ≡ true → t x ≡ true
one_of_two t zero l u v = u
one_of_two t (suc zero) l u v = v
one_of_two t (suc (suc x)) l u v = absurd (omega arith)

-- and what it tells of one sheet
the_sheet : (n : ℕ) (t : List ℕ → Bool) (s : List ℕ) → on_sheets t n ≡ true → Sheet n s → t s ≡ true
the_sheet zero t [] e S = e
the_sheet zero t (x ∷ xs) e S = absurd (omega (arith, S.long))
the_sheet (suc n) t [] e S = absurd (omega (arith, S.long))
the_sheet (suc n) t (x ∷ xs) e S =
    let T : Sheet n xs = record { long = omega (arith, S.long); marks = λ a. S.marks (suc a) } in
    let h = and_parts (on_sheets (λ s. t (0 ∷ s)) n) _ e in
    one_of_two (λ y. t (y ∷ xs)) x (S.marks 0) (the_sheet n (λ s. t (0 ∷ s)) xs h.0 T) (the_sheet n (λ s. t (1 ∷ s)) xs h.1 T)

-- the test for closed sheets
closed_is : (p : Program) (used : ℕ → Bool) (t : List ℕ) → Decides (is_closed p used t) (Closed p used (inside t))
closed_is p used t =
    Decides-like (is_closed p used t)
    (λ f r a l hd u e. rw (eqb-true a (nth_rule p r).head hd) (implied _ _ (f r l) (and_from _ _ u e)))
    (λ C r l. implies (used r && each_of (inside t) (nth_rule p r).positives) _
    (λ h. let q = and_parts (used r) _ h in C r (nth_rule p r).head l (eq-eqb _ _ refl) q.0 q.1))
    (Decides-below_and rule (λ k. rule k ≡ true) (each_below rule) (λ k. (λ e. e, λ e. e)) refl (λ _. refl) (rule_count p))
  where
    rule : ℕ → Bool
    rule r = not (used r && each_of (inside t) (nth_rule p r).positives) || headed (inside t) (nth_rule p r)

module _ (p : Program) (used : ℕ → Bool) where
  abbrev in_every : ℕ → Bool
  in_every a = on_sheets (λ t. not (is_closed p used t) || inside t a) p.atoms

  -- the smallest set is a sheet
  least_sheet : Sheet p.atoms (least_set p used)
  unfolding least_set
  least_sheet = by_sheet p.atoms in_every

  -- an atom of the smallest set is in every closed sheet
  in_closed : (a : ℕ) → inside (least_set p used) a ≡ true → (t : List ℕ) → Sheet p.atoms t → Closed p used (inside t) → inside t a ≡ true
  unfolding least_set
  in_closed a h t T C =
      implied (is_closed p used t) (inside t a)
      (the_sheet p.atoms (λ t. not (is_closed p used t) || inside t a) t (by_has p.atoms in_every a h) T) ((closed_is p used t).1 C)

  -- it is closed: every closed sheet has the head of a rule used whose positive atoms are in every closed sheet
  least_closed : Proper p → Closed p used (inside (least_set p used))
  unfolding least_set
  least_closed P r a l hd u e =
      by_is p.atoms in_every a ((P r l).head a hd)
      ∙ each_sheet p.atoms (λ t. not (is_closed p used t) || inside t a)
      (λ t T. implies (is_closed p used t) (inside t a)
      (λ c. let C = (closed_is p used t).0 c in
      C r a l hd u (each_mono (inside (least_set p used)) (inside t) (λ x k. in_closed x k t T C) (nth_rule p r).positives e)))

  -- it is within every closed set
  least_is : Proper p → Least p used (inside (least_set p used))
  least_is P = record {
    closed = least_closed P;
    least = λ u C a h. by_has p.atoms u a (in_closed a h (sheet_by p.atoms u) (by_sheet p.atoms u) (by_closed p used u P C));
  }

-- numbers up to 1 that are 1 together are equal
one_bits : (x y : ℕ) → x ≤ 1 → y ≤ 1 → eqb x 1 ≡ eqb y 1 → y ≡ x
one_bits x y u v e = grind (arith, nat_tests)

-- sheets that have the same atoms are the same
sheets_same : (n : ℕ) (s t : List ℕ) → Sheet n s → Sheet n t → ((a : ℕ) → a < n → inside t a ≡ inside s a) → s ≡ t
sheets_same n s t S T f =
    ext_get_or 0 s t (S.long ∙ sym T.long) (λ a l. one_bits (get_or t a 0) (get_or s a 0) (T.marks a) (S.marks a) (f a (rw S.long at l)))

-- the test for an answer set tells what it is called by
answer_tells : (p : Program) (s : List ℕ) → Proper p → Decides (is_answer p s) (Answer p s)
unfolding is_answer
answer_tells p s P =
    Decides-like (bytes_eq s M)
    (λ e. answer_from p s (inside M) P (subst (Sheet p.atoms) (sym e) S) L (λ a l. ap (λ (x : List ℕ). inside x a) (sym e)))
    (λ A. sheets_same p.atoms s M A.sheet S (answer_to p s (inside M) P A.sheet L A))
    (bytes_eq-Decides s M)
  where
    M : List ℕ
    M = least_set p (reduct p s)

    S : Sheet p.atoms (least_set p (reduct p s))
    S = least_sheet p (reduct p s)

    L : Least p (reduct p s) (inside (least_set p (reduct p s)))
    L = least_is p (reduct p s) P

-- the functions are right
pub computed : Computed
computed = record { sheet = least_sheet; least = least_is; tells = answer_tells }
