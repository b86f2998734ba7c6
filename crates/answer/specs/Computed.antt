-- The smallest closed set and the test for an answer set as functions, for statements that compute. Assumes nothing.
use Rattle.std.specs.Prelude.{ℕ, zero, suc, Bool, not, ◌&&◌, ◌||◌, List, [], ◌∷◌, map, Decides}
use Rattle.std.specs.List.{range_with_len}
use Rattle.std.specs.Str.{bytes_eq}
use Rattle.book.specs.Program.{Program, Proper, rule_count, nth_rule, headed}
use Rattle.answer.specs.Tests.{each_of, each_below, bit}
use Rattle.answer.specs.Answer.{Sheet, inside, reduct, Least, Answer}

-- the sheet over n atoms that has the atoms of a set
abbrev pub sheet_by : ℕ → (ℕ → Bool) → List ℕ
sheet_by n t = map (λ a. bit (t a)) (range_with_len 0 n)

-- every sheet over n atoms passes the test
abbrev pub on_sheets : (List ℕ → Bool) → ℕ → Bool
on_sheets t zero = t []
on_sheets t (suc n) = on_sheets (λ s. t (0 ∷ s)) n && on_sheets (λ s. t (1 ∷ s)) n

-- the sheet has the head of each rule used whose positive atoms it has
abbrev pub is_closed : Program → (ℕ → Bool) → List ℕ → Bool
is_closed p used t =
    each_below
    (λ r. not (used r && each_of (inside t) (nth_rule p r).positives) || headed (inside t) (nth_rule p r))
    (rule_count p)

-- the smallest closed set: the atoms that are in every closed sheet
unfoldable pub least_set : Program → (ℕ → Bool) → List ℕ
least_set p used = sheet_by p.atoms (λ a. on_sheets (λ t. not (is_closed p used t) || inside t a) p.atoms)

-- the sheet is the smallest set closed under its own reduct
unfoldable pub is_answer : Program → List ℕ → Bool
is_answer p s = bytes_eq s (least_set p (reduct p s))

-- the functions are right on every proper program
pub record Computed : Type 0 where
  pub sheet : (p : Program) (used : ℕ → Bool) → Sheet p.atoms (least_set p used)
  pub least : (p : Program) (used : ℕ → Bool) → Proper p → Least p used (inside (least_set p used))
  pub tells : (p : Program) (s : List ℕ) → Proper p → Decides (is_answer p s) (Answer p s)
