-- The order of sheets. Assumes nothing.
use Rattle.std.specs.Prelude.{◌≡◌, ℕ, ◌<◌, ◌⊎◌, List, slice_index, slice_index_or}
use Rattle.answer.specs.Answer.{Sheet}

-- of two different sheets, the smaller has 0 at the lowest atom where they differ
pub record Smaller (s t : List ℕ) : Type 0 where
  pub at : ℕ
  pub same : (i : ℕ) → i < at → slice_index s i ≡ slice_index t i
  pub zero : slice_index_or s at 0 ≡ 0
  pub one : slice_index_or t at 0 ≡ 1

-- it is a strict total order on the sheets over n atoms
pub record StrictTotal (n : ℕ) : Type 0 where
  pub irreflexive : (s : List ℕ) → Smaller s s → ⊥
  pub transitive : (s t u : List ℕ) → Smaller s t → Smaller t u → Smaller s u
  pub total : (s t : List ℕ) → Sheet n s → Sheet n t → (s ≡ t) ⊎ (Smaller s t ⊎ Smaller t s)
