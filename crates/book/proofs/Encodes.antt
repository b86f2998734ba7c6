-- What stands where in the bytes of a book.
use Rattle.std.proofs.Common.{◌≡◌, ℕ, zero, suc, ◌+◌, ◌*◌, ◌/◌, ◌%◌, ◌<◌, ◌≤◌, List, [], ◌∷◌, length, get_or, take, drop, sym, refl, ap, ◌∙◌, add-zero, add_assoc, zero-add, arith}
use native.Mathlib.Nat.{mod-add-div}
use Rattle.std.proofs.lemmas.List.{drop_at, drop-drop, drop_more, get_or-drop, get_or_append_left, get_or-append-add, length-append}
use Rattle.book.specs.Layout.{entry_from, head_at, place_at, positives_at, negatives_at, literal_from, literal_at}
use Rattle.book.specs.Program.{ProgramRule, Program, width, total, no_rule}
use Rattle.book.specs.Format.{twos, contents, body, flat, encode}

pub two_word : (n : ℕ) → n % 256 + 256 * (n / 256) ≡ n
two_word n = mod-add-div n 256

pub length-twos : (xs : List ℕ) → length (twos xs) ≡ 2 * length xs
length-twos [] = refl
length-twos (x ∷ xs) = let h = length-twos xs in omega arith

pub length-contents : (s : ℕ) (rs : List ProgramRule) → length (contents s rs) ≡ 6 * length rs
length-contents s [] = refl
length-contents s (r ∷ rs) = let h = length-contents (s + width r) rs in omega arith

pub length-flat : (rs : List ProgramRule) → length (flat rs) ≡ total rs
length-flat [] = refl
length-flat (r ∷ rs) =
    let h = length-flat rs in
    omega (arith, length-append (body r) (flat rs), length-append r.positives r.negatives)

drop-contents : (s : ℕ) (rs : List ProgramRule) (k : ℕ) → k ≤ length rs
    → drop (6 * k) (contents s rs) ≡ contents (s + total (take k rs)) (drop k rs)
drop-contents s rs zero h = ap (λ n. contents n rs) (sym (add-zero s))
drop-contents s [] (suc k) h = absurd (omega arith)
drop-contents s (r ∷ rs) (suc k) h =
    let e : 6 * suc k ≡ 6 + 6 * k = omega arith in
    ap (λ n. drop n (contents s (r ∷ rs))) e
    ∙ sym (drop-drop (6 * k) 6 (contents s (r ∷ rs)))
    ∙ drop-contents (s + width r) rs k (omega arith)
    ∙ ap (λ n. contents n (drop k rs)) (add_assoc s (width r) (total (take k rs)))

-- the bytes of entry k
entry_byte : (p : Program) (k j : ℕ) → k < length p.rules → j < 6
    → get_or (encode p) (entry_from k + j) 0
    ≡ get_or (contents (total (take k p.rules)) (get_or p.rules k no_rule ∷ drop (k + 1) p.rules)) j 0
entry_byte p k j h g =
    let rs = p.rules in
    let e : entry_from k + j ≡ 6 + (6 * k + j) = omega arith in
    let l : 6 * k + j < length (contents 0 rs) = omega (arith, length-contents 0 rs) in
    ap (λ i. get_or (encode p) i 0) e
    ∙ sym (get_or-drop 6 (encode p) (6 * k + j) 0)
    ∙ get_or_append_left (contents 0 rs) (twos (flat rs)) 0 (6 * k + j) l
    ∙ sym (get_or-drop (6 * k) (contents 0 rs) j 0)
    ∙ ap (λ t. get_or t j 0) (drop-contents 0 rs k (omega arith))
    ∙ ap (λ s. get_or (contents s (drop k rs)) j 0) (zero-add (total (take k rs)))
    ∙ ap (λ t. get_or (contents (total (take k rs)) t) j 0) (drop_more rs k no_rule h)

pub entry_fields : (p : Program) (k : ℕ) → k < length p.rules
    → (head_at (encode p) k ≡ (get_or p.rules k no_rule).head)
    × (place_at (encode p) k ≡ total (take k p.rules))
    × (positives_at (encode p) k ≡ length (get_or p.rules k no_rule).positives)
    × (negatives_at (encode p) k ≡ length (get_or p.rules k no_rule).negatives)
entry_fields p k h =
    let z : get_or (encode p) (entry_from k) 0 ≡ (get_or p.rules k no_rule).head % 256 =
    ap (λ i. get_or (encode p) i 0) (sym (add-zero (entry_from k))) ∙ entry_byte p k 0 h (omega arith) in
    let o = entry_byte p k 1 h (omega arith) in
    let t = entry_byte p k 2 h (omega arith) in
    let u : get_or (encode p) (entry_from k + 2 + 1) 0 ≡ total (take k p.rules) / 256 =
    ap (λ i. get_or (encode p) i 0) (add_assoc (entry_from k) 2 1) ∙ entry_byte p k 3 h (omega arith) in (
      omega (arith, two_word (get_or p.rules k no_rule).head),
      omega (arith, two_word (total (take k p.rules))),
      entry_byte p k 4 h (omega arith),
      entry_byte p k 5 h (omega arith),
    )

word-twos : (xs : List ℕ) (i : ℕ) → i < length xs → get_or (twos xs) (2 * i) 0 + 256 * get_or (twos xs) (2 * i + 1) 0 ≡ get_or xs i 0
word-twos [] i h = absurd (omega arith)
word-twos (x ∷ xs) zero h = two_word x
word-twos (x ∷ xs) (suc i) h =
    let e : 2 * suc i ≡ 2 + 2 * i = omega arith in
    let f : 2 * suc i + 1 ≡ 2 + (2 * i + 1) = omega arith in
    let p = ap (λ n. get_or (twos (x ∷ xs)) n 0) e ∙ sym (get_or-drop 2 (twos (x ∷ xs)) (2 * i) 0) in
    let q = ap (λ n. get_or (twos (x ∷ xs)) n 0) f ∙ sym (get_or-drop 2 (twos (x ∷ xs)) (2 * i + 1) 0) in
    let r = word-twos xs i (omega arith) in
    cc

literal_byte : (p : Program) (j t : ℕ) → get_or (encode p) (literal_from (encode p) j + t) 0 ≡ get_or (twos (flat p.rules)) (2 * j + t) 0
literal_byte p j t =
    let rs = p.rules in
    let e : literal_from (encode p) j + t ≡ 6 + (length (contents 0 rs) + (2 * j + t)) =
    omega (arith, two_word (length rs), length-contents 0 rs) in
    ap (λ i. get_or (encode p) i 0) e
    ∙ sym (get_or-drop 6 (encode p) (length (contents 0 rs) + (2 * j + t)) 0)
    ∙ get_or-append-add (contents 0 rs) (twos (flat rs)) (2 * j + t) 0

literal_is : (p : Program) (j : ℕ) → j < total p.rules → literal_at (encode p) j ≡ get_or (flat p.rules) j 0
literal_is p j h =
    let low : get_or (encode p) (literal_from (encode p) j) 0 ≡ get_or (twos (flat p.rules)) (2 * j) 0 =
    ap (λ i. get_or (encode p) i 0) (sym (add-zero (literal_from (encode p) j)))
    ∙ literal_byte p j 0
    ∙ ap (λ i. get_or (twos (flat p.rules)) i 0) (add-zero (2 * j)) in
    let q = literal_byte p j 1 in
    let r = word-twos (flat p.rules) j (omega (arith, length-flat p.rules)) in
    cc

drop-flat : (rs : List ProgramRule) (k : ℕ) → k ≤ length rs → drop (total (take k rs)) (flat rs) ≡ flat (drop k rs)
drop-flat rs zero h = refl
drop-flat [] (suc k) h = absurd (omega arith)
drop-flat (r ∷ rs) (suc k) h =
    sym (drop-drop (total (take k rs)) (width r) (flat (r ∷ rs)))
    ∙ ap (drop (total (take k rs))) (drop_at (body r) (flat rs) (width r) (length-append r.positives r.negatives))
    ∙ drop-flat rs k (omega arith)

pub total_within : (rs : List ProgramRule) (k : ℕ) → k < length rs → total (take k rs) + width (get_or rs k no_rule) ≤ total rs
total_within [] k h = absurd (omega arith)
total_within (r ∷ rs) zero h = omega arith
total_within (r ∷ rs) (suc k) h = let i = total_within rs k (omega arith) in omega arith

pub total_more : (rs : List ProgramRule) (k : ℕ) → k < length rs → total (take (suc k) rs) ≡ total (take k rs) + width (get_or rs k no_rule)
total_more [] k h = absurd (omega arith)
total_more (r ∷ rs) zero h = omega arith
total_more (r ∷ rs) (suc k) h = let i = total_more rs k (omega arith) in omega arith

-- literal i of rule k
pub rule_literal : (p : Program) (k i : ℕ) → k < length p.rules → i < width (get_or p.rules k no_rule)
    → literal_at (encode p) (place_at (encode p) k + i) ≡ get_or (body (get_or p.rules k no_rule)) i 0
rule_literal p k i h g =
    let rs = p.rules in
    let r = get_or p.rules k no_rule in
    let s = total (take k p.rules) in
    let w = total_within p.rules k h in
    ap (λ j. literal_at (encode p) (j + i)) (entry_fields p k h).1
    ∙ literal_is p (s + i) (omega arith)
    ∙ sym (get_or-drop s (flat rs) i 0)
    ∙ ap (λ t. get_or t i 0) (drop-flat rs k (omega arith) ∙ ap flat (drop_more rs k no_rule h))
    ∙ get_or_append_left (body r) (flat (drop (k + 1) rs)) 0 i (omega (arith, length-append r.positives r.negatives))

pub length-encode : (p : Program) → length (encode p) ≡ 6 + 6 * length p.rules + 2 * total p.rules
length-encode p =
    omega (arith, length-append (contents 0 p.rules) (twos (flat p.rules)), length-contents 0 p.rules, length-twos (flat p.rules), length-flat p.rules)
