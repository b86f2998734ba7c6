-- Tests over lists of numbers and over the numbers below a bound. Assumes nothing.
use Rattle.std.specs.Prelude.{ℕ, zero, suc, ◌+◌, Bool, true, false, ◌&&◌, ◌||◌, List, [], ◌∷◌}

-- every number of a list passes the test
abbrev pub each_of : (ℕ → Bool) → List ℕ → Bool
each_of t [] = true
each_of t (x ∷ xs) = t x && each_of t xs

-- some number of a list passes it
abbrev pub some_of : (ℕ → Bool) → List ℕ → Bool
some_of t [] = false
some_of t (x ∷ xs) = t x || some_of t xs

-- every number below a bound passes it
abbrev pub each_below : (ℕ → Bool) → ℕ → Bool
each_below t zero = true
each_below t (suc n) = t n && each_below t n

-- some number below a bound passes it
abbrev pub some_below : (ℕ → Bool) → ℕ → Bool
some_below t zero = false
some_below t (suc n) = t n || some_below t n

-- 1 for a test that is passed, and 0 for one that is not
abbrev pub bit : Bool → ℕ
bit true = 1
bit false = 0

-- how many numbers below a bound pass it
abbrev pub how_many : (ℕ → Bool) → ℕ → ℕ
how_many t zero = 0
how_many t (suc n) = bit (t n) + how_many t n
