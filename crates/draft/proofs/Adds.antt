-- Rules that are not declined, and the valid program that takes one in.
use Rattle.std.proofs.Common.{◌≡◌, ℕ, ◌+◌, ◌-◌, ◌<◌, List, [], ◌∷◌, ◌++◌, length, None, arith}
use Rattle.std.proofs.ByRecursion.{All-from_get_or}
use Rattle.std.proofs.lemmas.Bool.Decides.{nat_tests}
use Rattle.std.proofs.lemmas.Grind.{common_steps}
use Rattle.book.specs.Program.{ProgramRule, Program, width, total, ProperPart, Valid}
use Rattle.book.proofs.Firsts.{first_none, or_else_none}
use Rattle.draft.specs.Adding.{with_rule, part_literal_fault, part_fault, add_fault, Addable}

-- a part without a fault
part_sound : (n s : ℕ) (xs : List ℕ) → part_fault n s xs ≡ None → ProperPart n xs
part_sound n s xs e =
    record {
      atoms =
          All-from_get_or (λ a. a < n) xs 0
          (λ i h. let f = first_none (part_literal_fault n s xs) i (length xs) h e in grind (arith, nat_tests));
      ascends =
          λ i h.
          let k : i + 1 - 1 ≡ i = omega arith in
          let f = first_none (part_literal_fault n s xs) (i + 1) (length xs) h e in grind (arith, nat_tests);
    }

-- what is not declined is to be added
pub addable : (p : Program) (r : ProgramRule) → add_fault p r ≡ None → Addable p r
addable p r e =
    record {
      proper = record {
        head = λ a t. grind (arith, nat_tests);
        positives = part_sound p.atoms 0 r.positives (grind (arith, nat_tests, or_else_none));
        negatives = part_sound p.atoms (length r.positives) r.negatives (grind (arith, nat_tests, or_else_none));
      };
      rules = grind (arith, nat_tests);
      positives = grind (arith, nat_tests);
      negatives = grind (arith, nat_tests);
      literals = grind (arith, nat_tests);
    }

-- the literals of one rule more
pub total_push : (rs : List ProgramRule) (r : ProgramRule) → total (rs ++ (r ∷ [])) ≡ total rs + width r
total_push [] r = omega arith
total_push (x ∷ rs) r = omega (arith, total_push rs r)

-- a valid program stays valid
pub valid_more : (p : Program) (r : ProgramRule) → Valid p → Addable p r → Valid (with_rule p r)
valid_more p r v a =
    record {
      proper = λ k h. let proper = v.proper in let new = a.proper in grind (arith, common_steps);
      limited = record {
        atoms = v.limited.atoms;
        rules = grind (arith, common_steps);
        literals = omega (arith, total_push p.rules r);
      };
    }
