-- What the bytes of every book in use keep. Assumes nothing.
use Rattle.std.specs.Prelude.{◌≡◌, ℕ, ◌+◌, ◌<◌, ◌≤◌, List, length, ◌≢◌, slice_index}
use Rattle.book.specs.Layout.{atoms_in, rules_in, literals_in, length_asked, head_at, place_at, positives_at, count_at, claimed_below, literal_at}

-- the counts are within their limits
abbrev pub Limits : List ℕ → Type 0
Limits bs = (atoms_in bs ≤ 128) × (rules_in bs ≤ 256) × (literals_in bs ≤ 2048)

-- the bytes are as many as the counts ask for
abbrev pub Long : List ℕ → Type 0
Long bs = length bs ≡ length_asked bs

-- each head is an atom
abbrev pub Heads : List ℕ → Type 0
Heads bs = (k : ℕ) → k < rules_in bs → head_at bs k < atoms_in bs

-- each body begins where the one before it ends, and all lie within the literals
abbrev pub Places : List ℕ → Type 0
Places bs =
    (k : ℕ) → k < rules_in bs → (place_at bs k ≡ claimed_below bs k) × (place_at bs k + count_at bs k ≤ literals_in bs)

-- no literal is left over
abbrev pub Claimed : List ℕ → Type 0
Claimed bs = claimed_below bs (rules_in bs) ≡ literals_in bs

-- each literal is an atom
abbrev pub Literals : List ℕ → Type 0
Literals bs = (k i : ℕ) → k < rules_in bs → i < count_at bs k → literal_at bs (place_at bs k + i) < atoms_in bs

-- within each part the atoms ascend
abbrev pub Ascending : List ℕ → Type 0
Ascending bs =
    (k i : ℕ) → (k < rules_in bs) × (i + 1 < count_at bs k) × (i + 1 ≢ positives_at bs k)
    → literal_at bs (place_at bs k + i) < literal_at bs (place_at bs k + (i + 1))

-- every number is a byte
abbrev pub Bytes : List ℕ → Type 0
Bytes bs = (i : ℕ) → slice_index bs i < 256
