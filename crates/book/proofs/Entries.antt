-- The entries of the contents, one after the other.
use Rattle.std.proofs.Common.{◌≡◌, ℕ, ◌+◌, ◌<◌, ◌≤◌, List, get_or, drop, None, ap, ◌∙◌, add-zero, add-one, arith}
use Rattle.std.proofs.lemmas.List.{drop-drop, get_or-drop}
use Rattle.std.proofs.lemmas.Bool.Decides.{nat_tests}
use Rattle.book.specs.Layout.{word, atoms_in, literals_in, entry_from, head_at, place_at, positives_at, negatives_at, claimed_below, count_at}
use Rattle.book.specs.Diagnosis.{entry_fault_of, entry_fault}

-- what is left of the contents after one entry more
pub contents_more : (bs t rest : List ℕ) (k : ℕ)
    → t ≡ drop (entry_from k) bs → rest ≡ drop 6 t → rest ≡ drop (entry_from (k + 1)) bs
contents_more bs t rest k e g =
    let n : entry_from k + 6 ≡ entry_from (k + 1) = omega arith in
    g ∙ ap (drop 6) e ∙ drop-drop 6 (entry_from k) bs ∙ ap (λ i. drop i bs) n

entry_byte : (bs t : List ℕ) (k i : ℕ) → t ≡ drop (entry_from k) bs → get_or t i 0 ≡ get_or bs (entry_from k + i) 0
entry_byte bs t k i e = rw e (get_or-drop (entry_from k) bs i 0)

-- one entry more claims its literals
pub claimed_more : (bs : List ℕ) (k : ℕ) → claimed_below bs (k + 1) ≡ claimed_below bs k + count_at bs k
unfolding claimed_below
claimed_more bs k = rw add-one

-- an entry without a fault
pub entry_none : (n b s k h p c : ℕ) → entry_fault_of n b s k h p c ≡ None → (h < n) × (p ≡ s) × (p + c ≤ b)
entry_none n b s k h p c e = grind (arith, nat_tests)

-- the fields of the entry that stands at the front of t
pub entry_fields : (bs t : List ℕ) (k : ℕ) → t ≡ drop (entry_from k) bs
    → (word t 0 ≡ head_at bs k) × (word t 2 ≡ place_at bs k) × (get_or t 4 0 ≡ positives_at bs k) × (get_or t 5 0 ≡ negatives_at bs k)
entry_fields bs t k e =
    let b0 : get_or t 0 0 ≡ get_or bs (entry_from k) 0 = entry_byte bs t k 0 e ∙ ap (λ i. get_or bs i 0) (add-zero (entry_from k)) in
    let b1 = entry_byte bs t k 1 e in
    let b2 = entry_byte bs t k 2 e in
    let b3 : get_or t 3 0 ≡ get_or bs (entry_from k + 2 + 1) 0 = entry_byte bs t k 3 e ∙ ap (λ i. get_or bs i 0) (omega arith) in
    (cc, cc, entry_byte bs t k 4 e, entry_byte bs t k 5 e)

-- what the entry at the front of t is declined for
pub entry_same : (bs t : List ℕ) (n b s k h p x y : ℕ)
    → n ≡ atoms_in bs → b ≡ literals_in bs → s ≡ claimed_below bs k → t ≡ drop (entry_from k) bs
    → h ≡ word t 0 → p ≡ word t 2 → x ≡ get_or t 4 0 → y ≡ get_or t 5 0
    → entry_fault_of n b s k h p (x + y) ≡ entry_fault bs k
entry_same bs t n b s k h p x y en eb es e eh ep ex ey = let f = entry_fields bs t k e in cc

-- how many literals are claimed after it
pub claimed_step : (bs t : List ℕ) (s k x y : ℕ)
    → s ≡ claimed_below bs k → t ≡ drop (entry_from k) bs → x ≡ get_or t 4 0 → y ≡ get_or t 5 0
    → s + (x + y) ≡ claimed_below bs (k + 1)
claimed_step bs t s k x y es e ex ey = let f = entry_fields bs t k e in let m = claimed_more bs k in cc
