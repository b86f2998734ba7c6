-- The steps that are left to a walk.
use Rattle.std.proofs.Common.{◌≡◌, ℕ, zero, suc, ◌+◌, ◌^◌, ◌<◌, ◌≤◌, List, [], ◌∷◌, length, set, refl, pow-suc, arith, lit≤}
use Rattle.std.proofs.lemmas.List.{get_or-set_same}
use Rattle.book.specs.Program.{Program}
use Rattle.operator.specs.Page.{Page, opens, Meaning, LawfulOn}
use Rattle.operator.specs.Pages.{grows_set, opens_le, opens_lt}
use Rattle.inquiry.specs.Cursor.{Cursor, Lowest}
use Rattle.inquiry.specs.Walk.{Level, level, out, inn, Walk, ended, at, retreat, Move, found, went, Step, clashes, falls_behind, finds, misses, chooses}
use Rattle.inquiry.proofs.Steps.{followed}

-- the nodes of the full binary tree of a depth
abbrev pub nodes : ℕ → ℕ
nodes zero = 1
nodes (suc k) = suc (nodes k + nodes k)

pub nodes_pow : (k : ℕ) → nodes k + 1 ≡ 2 ^ suc k
nodes_pow zero = refl
nodes_pow (suc k) = let h = nodes_pow k in rw pow-suc (omega arith)

pub nodes_pos : (k : ℕ) → 0 < nodes k
nodes_pos zero = lit≤ tt
nodes_pos (suc k) = omega arith

nodes_le : (i j : ℕ) → i ≤ j → nodes i ≤ nodes j
nodes_le zero j h = nodes_pos j
nodes_le (suc i) zero h = absurd (omega arith)
nodes_le (suc i) (suc j) h = let e = nodes_le i j (omega arith) in omega arith

-- the steps that the in sides still waiting may take
abbrev pub weight : ℕ → List Level → ℕ
weight n [] = 0
weight n (level out a q ∷ ls) = nodes (opens n (set q a 2)) + weight n ls
weight n (level inn a q ∷ ls) = weight n ls

abbrev pub left : ℕ → Walk → ℕ
left n ended = 0
left n (at p ls) = nodes (opens n p) + weight n ls

retreat_left : (n : ℕ) (ls : List Level) → left n (retreat ls) ≡ weight n ls
retreat_left n [] = refl
retreat_left n (level inn a q ∷ ls) = retreat_left n ls
retreat_left n (level out a q ∷ ls) = refl

-- a choice leaves two parts, each less than half
halves : (n : ℕ) (q : List ℕ) (a v : ℕ) → a < length q → Lowest n q a → suc (nodes (opens n (set q a (suc v))) + nodes (opens n (set q a (suc v)))) ≤ nodes (opens n q)
halves n q a v k lo =
    let g = get_or-set_same q a (suc v) 0 k in
    nodes_le (suc (opens n (set q a (suc v)))) (opens n q) (opens_lt n q (set q a (suc v)) (grows_set q a (suc v) lo.free) a lo.atom lo.free (omega arith))

-- a step that goes on takes one at least, and one that finds takes none back
abbrev pub Falls : ℕ → ℕ → Move → Type 0
Falls n k (went v) = left n v < k
Falls n k (found s v) = left n v ≤ k

pub step_falls : (f : Meaning) (b : Program) (c : Cursor) (p : List ℕ) (ls : List Level) (m : Move) → LawfulOn b f → Page b p → Step f b c p ls m → Falls b.atoms (left b.atoms (at p ls)) m
step_falls f b c p ls m h hp (clashes e) = let r = retreat_left b.atoms ls in let z = nodes_pos (opens b.atoms p) in omega arith
step_falls f b c p ls m h hp (falls_behind q e d) = let r = retreat_left b.atoms ls in let z = nodes_pos (opens b.atoms p) in omega arith
step_falls f b c p ls m h hp (misses q e nb fu na) = let r = retreat_left b.atoms ls in let z = nodes_pos (opens b.atoms p) in omega arith
step_falls f b c p ls m h hp (finds q e nb fu an) = let z = nodes_le (opens b.atoms q) (opens b.atoms p) (opens_le b.atoms p q (followed f b p q h hp e).growth) in omega arith
step_falls f b c p ls m h hp (chooses q a e nb lo) =
    let n = b.atoms in
    let A = followed f b p q h hp e in
    let k : a < length q = let z = A.page.long in let y = lo.atom in omega arith in
    let u = halves n q a 0 k lo in
    let v = halves n q a 1 k lo in
    let z = nodes_le (opens n q) (opens n p) (opens_le n p q A.growth) in omega arith
