-- What a set leaves outside.
use Rattle.std.proofs.Common.{◌≡◌, ℕ, ◌<◌, Bool, true, false, not, ◌&&◌, ◌||◌, List, [], ◌∷◌, refl, ap, ◌∙◌, ap₂}
use Rattle.std.proofs.lemmas.Bool.Decides.{same_from_decides}
use Rattle.book.specs.Program.{Program, rule_count, Proper}
use Rattle.answer.specs.Tests.{each_of, some_of}
use Rattle.answer.specs.Answer.{inside, outside, Least}
use Rattle.answer.specs.Computed.{least_set}
use Rattle.answer.proofs.Computing.{computed}
use Rattle.answer.proofs.Sheets.{least_like}

-- there is one smallest closed set, so flags of it are the sheet of it
pub least_flagged : (b : Program) (u v t : ℕ → Bool) → Proper b → ((r : ℕ) → r < rule_count b → v r ≡ u r) → Least b v t
    → (a : ℕ) → t a ≡ inside (least_set b u) a
least_flagged b u v t P same L a =
    let M = computed.least b u P in
    let N = least_like b v u t same L in
    same_from_decides _ _ (λ e. e, λ e. e) (M.least t N.closed a, N.least (inside (least_set b u)) M.closed a)

not-and : (x y : Bool) → not (x && y) ≡ (not x || not y)
not-and true y = refl
not-and false y = refl

-- not all of a part is inside where some of it is outside
pub outside_some : (t : ℕ → Bool) (s : List ℕ) → ((a : ℕ) → t a ≡ inside s a) → (xs : List ℕ) → not (each_of t xs) ≡ some_of (outside s) xs
outside_some t s h [] = refl
outside_some t s h (x ∷ xs) = not-and (t x) (each_of t xs) ∙ ap₂ ◌||◌ (ap not (h x)) (outside_some t s h xs)
