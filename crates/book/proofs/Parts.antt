-- The parts of a body as they stand in the bytes.
use Rattle.std.proofs.Common.{◌≡◌, ℕ, zero, suc, ◌+◌, ◌*◌, ◌/◌, ◌%◌, ◌<◌, ◌≤◌, List, [], ◌∷◌, ◌++◌, length, get_or, take, drop, sym, refl, ap, ◌∙◌, ap₂, add-zero, zero-add, arith}
use Rattle.std.proofs.lemmas.List.{get_or-take, get_or-drop, drop-drop, take-append-drop, length-take-le, length-drop, get_or_past}
use Rattle.std.proofs.ByRecursion.{All-from_get_or}
use Rattle.std.proofs.lemmas.List.FromFn.{length-map-range_with_len, get_or-map-range_with_len, fill_by_all}
use Rattle.book.specs.Invariant.{Bytes}
use Rattle.book.specs.Program.{ProperPart}
use Rattle.book.specs.Format.{two, twos}
use Rattle.book.specs.Layout.{word, words, literal_from, literal_at}

-- the atoms of a part, one by one
pub words-length : (xs : List ℕ) → length (words xs) ≡ length xs / 2
unfolding words
words-length xs = length-map-range_with_len (λ i. word xs (2 * i)) 0 (length xs / 2)

pub words_at : (xs : List ℕ) (i : ℕ) → i < length xs / 2 → get_or (words xs) i 0 ≡ word xs (2 * i)
unfolding words
words_at xs i h = get_or-map-range_with_len (λ i. word xs (2 * i)) 0 (length xs / 2) i i 0 h (zero-add i)

pub words_past : (xs : List ℕ) (i : ℕ) → length xs / 2 ≤ i → get_or (words xs) i 0 ≡ 0
words_past xs i h = get_or_past (words xs) i 0 (omega (arith, words-length xs))

first_at : (xs : List ℕ) (i : ℕ) → 2 ≤ length xs → i < length xs / 2 → get_or (word xs 0 ∷ words (drop 2 xs)) i 0 ≡ word xs (2 * i)
first_at xs zero h l = refl
first_at xs (suc i) h l =
    let e : 2 + 2 * i ≡ 2 * suc i = omega arith in
    let g : 2 + (2 * i + 1) ≡ 2 * suc i + 1 = omega arith in
    let n = length-drop 2 xs in
    words_at (drop 2 xs) i (omega arith)
    ∙ ap₂ (λ lo hi. lo + 256 * hi) (get_or-drop 2 xs (2 * i) 0 ∙ ap (λ j. get_or xs j 0) e) (get_or-drop 2 xs (2 * i + 1) 0 ∙ ap (λ j. get_or xs j 0) g)

-- a part of two bytes or more has its first atom, and then those of what follows
pub words_first : (xs : List ℕ) → 2 ≤ length xs → words xs ≡ word xs 0 ∷ words (drop 2 xs)
unfolding words
words_first xs h =
    let n = length-drop 2 xs in
    let w = words-length (drop 2 xs) in
    sym (fill_by_all (λ i. word xs (2 * i)) (word xs 0 ∷ words (drop 2 xs)) (length xs / 2) 0 (omega arith)
    (λ i k. first_at xs i h (omega arith)))

-- a part of fewer bytes has no atom
pub words_none : (xs : List ℕ) → length xs < 2 → words xs ≡ []
unfolding words
words_none xs h = let z : length xs / 2 ≡ 0 = omega arith in rw z

-- the bytes of c literals from literal q on
abbrev pub part : List ℕ → ℕ → ℕ → List ℕ
part bs q c = take (2 * c) (drop (literal_from bs q) bs)

pub part_length : (bs : List ℕ) (q c : ℕ) → literal_from bs (q + c) ≤ length bs → length (part bs q c) ≡ 2 * c
part_length bs q c l = length-take-le (2 * c) (drop (literal_from bs q) bs) (simp length-drop (omega arith))

-- literal i of a part
part_word : (bs : List ℕ) (q c i : ℕ) → i < c → word (part bs q c) (2 * i) ≡ literal_at bs (q + i)
part_word bs q c i l =
    let f = literal_from bs q in
    let e : literal_from bs q + 2 * i ≡ literal_from bs (q + i) = omega arith in
    let g : literal_from bs q + (2 * i + 1) ≡ literal_from bs (q + i) + 1 = omega arith in
    let x = get_or-take (2 * c) (drop f bs) (2 * i) 0 (omega arith) ∙ get_or-drop f bs (2 * i) 0 ∙ ap (λ j. get_or bs j 0) e in
    let y = get_or-take (2 * c) (drop f bs) (2 * i + 1) 0 (omega arith) ∙ get_or-drop f bs (2 * i + 1) 0 ∙ ap (λ j. get_or bs j 0) g in
    ap₂ (λ lo hi. lo + 256 * hi) x y

pub length-words : (bs : List ℕ) (q c : ℕ) → literal_from bs (q + c) ≤ length bs → length (words (part bs q c)) ≡ c
length-words bs q c l = let n = part_length bs q c l in words-length (part bs q c) ∙ omega arith

pub get_or-words : (bs : List ℕ) (q c i : ℕ) → literal_from bs (q + c) ≤ length bs → i < c → get_or (words (part bs q c)) i 0 ≡ literal_at bs (q + i)
get_or-words bs q c i l h =
    let n = part_length bs q c l in words_at (part bs q c) i (omega arith) ∙ part_word bs q c i h

-- the atoms of a part are those of a list that has them one by one
pub words_by : (bs : List ℕ) (q c : ℕ) (xs : List ℕ) → c ≡ length xs → literal_from bs (q + c) ≤ length bs
    → ((i : ℕ) → i < c → literal_at bs (q + i) ≡ get_or xs i 0) → words (part bs q c) ≡ xs
unfolding words
words_by bs q c xs e l h =
    let n = part_length bs q c l in
    sym (fill_by_all (λ i. word (part bs q c) (2 * i)) xs (length (part bs q c) / 2) 0 (omega arith)
    (λ i k. let g : i < c = omega arith in sym (part_word bs q c i g ∙ h i g)))

pub twos-append : (xs ys : List ℕ) → twos (xs ++ ys) ≡ twos xs ++ twos ys
twos-append [] ys = refl
twos-append (x ∷ xs) ys = ap (λ t. two x ++ t) (twos-append xs ys)

-- two bytes are those of their number
pub two_bytes : (x y : ℕ) → x < 256 → two (x + 256 * y) ≡ x ∷ y ∷ []
two_bytes x y h =
    let a : (x + 256 * y) % 256 ≡ x = omega arith in
    let b : (x + 256 * y) / 256 ≡ y = omega arith in
    ap₂ (λ u v. u ∷ v ∷ []) a b

more_at : (bs : List ℕ) (q c i : ℕ) → literal_from bs (q + suc c) ≤ length bs → i < suc c
    → literal_at bs (q + i) ≡ get_or (literal_at bs q ∷ words (part bs (q + 1) c)) i 0
more_at bs q c zero l h = ap (literal_at bs) (add-zero q)
more_at bs q c (suc i) l h =
    let e : q + suc i ≡ q + 1 + i = omega arith in
    ap (literal_at bs) e ∙ sym (get_or-words bs (q + 1) c i (omega arith) (omega arith))

-- one literal more, at the front
words_more : (bs : List ℕ) (q c : ℕ) → literal_from bs (q + suc c) ≤ length bs
    → words (part bs q (suc c)) ≡ literal_at bs q ∷ words (part bs (q + 1) c)
words_more bs q c l =
    words_by bs q (suc c) (literal_at bs q ∷ words (part bs (q + 1) c)) (ap suc (sym (length-words bs (q + 1) c (omega arith)))) l
    (λ i h. more_at bs q c i l h)

take_two : (xs : List ℕ) (n : ℕ) → 2 ≤ length xs → take (2 + n) xs ≡ get_or xs 0 0 ∷ get_or xs 1 0 ∷ take n (drop 2 xs)
take_two [] n h = absurd (omega arith)
take_two (x ∷ []) n h = absurd (omega arith)
take_two (x ∷ y ∷ xs) n h = let e : 2 + n ≡ suc (suc n) = omega arith in rw e

part_more : (bs : List ℕ) (q c : ℕ) → literal_from bs (q + suc c) ≤ length bs
    → part bs q (suc c) ≡ get_or bs (literal_from bs q) 0 ∷ get_or bs (literal_from bs q + 1) 0 ∷ part bs (q + 1) c
part_more bs q c l =
    let f = literal_from bs q in
    let e : 2 * suc c ≡ 2 + 2 * c = omega arith in
    let g : literal_from bs q + 2 ≡ literal_from bs (q + 1) = omega arith in
    let t = take_two (drop f bs) (2 * c) (simp length-drop (omega arith)) in
    let x : get_or (drop (literal_from bs q) bs) 0 0 ≡ get_or bs (literal_from bs q) 0 = get_or-drop f bs 0 0 ∙ ap (λ i. get_or bs i 0) (add-zero f) in
    let y = get_or-drop f bs 1 0 in
    let d : drop 2 (drop (literal_from bs q) bs) ≡ drop (literal_from bs (q + 1)) bs = drop-drop 2 f bs ∙ ap (λ i. drop i bs) g in
    ap (λ n. take n (drop f bs)) e ∙ t ∙ ap₂ (λ u v. u ∷ v ∷ take (2 * c) (drop 2 (drop f bs))) x y ∙ ap (λ s. get_or bs f 0 ∷ get_or bs (f + 1) 0 ∷ take (2 * c) s) d

-- the bytes of a part are those of its atoms
pub twos-words : (bs : List ℕ) → Bytes bs → (q c : ℕ) → literal_from bs (q + c) ≤ length bs → twos (words (part bs q c)) ≡ part bs q c
unfolding words
twos-words bs byte q zero l = refl
twos-words bs byte q (suc c) l =
    ap twos (words_more bs q c l)
    ∙ ap₂ (λ t s. t ++ s) (two_bytes (get_or bs (literal_from bs q) 0) (get_or bs (literal_from bs q + 1) 0) (byte (literal_from bs q))) (twos-words bs byte (q + 1) c (omega arith))
    ∙ sym (part_more bs q c l)

-- a part and what follows it
pub part_then : (bs : List ℕ) (q c : ℕ) → part bs q c ++ drop (literal_from bs (q + c)) bs ≡ drop (literal_from bs q) bs
part_then bs q c =
    let e : literal_from bs q + 2 * c ≡ literal_from bs (q + c) = omega arith in
    ap (λ t. part bs q c ++ t) (sym (drop-drop (2 * c) (literal_from bs q) bs ∙ ap (λ i. drop i bs) e))
    ∙ take-append-drop (2 * c) (drop (literal_from bs q) bs)

-- a part whose literals are atoms and ascend
pub part_proper : (bs : List ℕ) (n q c : ℕ) → literal_from bs (q + c) ≤ length bs
    → ((i : ℕ) → i < c → literal_at bs (q + i) < n)
    → ((i : ℕ) → i + 1 < c → literal_at bs (q + i) < literal_at bs (q + (i + 1)))
    → ProperPart n (words (part bs q c))
part_proper bs n q c l h g =
    let e = length-words bs q c l in
    record {
      atoms =
          All-from_get_or (λ a. a < n) (words (part bs q c)) 0
          (λ i k. let j : i < c = omega arith in rw (get_or-words bs q c i l j) (h i j));
      ascends =
          λ i k.
          let j : i + 1 < c = omega arith in
          rw (get_or-words bs q c i l (omega arith), get_or-words bs q c (i + 1) l j) (g i j);
    }
