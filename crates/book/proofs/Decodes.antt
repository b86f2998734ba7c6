-- Bytes without a fault are the written form of the program that they hold.
use Rattle.std.proofs.Common.{◌≡◌, ℕ, zero, suc, ◌+◌, ◌*◌, ◌<◌, ◌≤◌, List, [], ◌∷◌, ◌++◌, map, length, get_or, take, drop, sym, refl, ap, ◌∙◌, ap₂, append_assoc, add-zero, add_assoc, zero-add, arith}
use Rattle.std.specs.List.{range_with_len}
use Rattle.std.proofs.lemmas.List.FromFn.{length-map-range_with_len, get_or-map-range_with_len}
use Rattle.std.proofs.lemmas.List.{get_or-drop, drop-drop, drop_all, take-append-drop, length-drop}
use Rattle.std.proofs.lemmas.Bool.{eqb-true}
use Rattle.book.specs.Program.{rule_count, nth_rule, width, total, no_rule, ProperRule, Valid}
use Rattle.book.specs.Format.{two, twos, body, flat, contents, encode}
use Rattle.book.specs.Layout.{atoms_in, rules_in, literals_in, entry_from, head_at, place_at, positives_at, negatives_at, count_at, claimed_below, literal_from, positive_part, negative_part, words, decode_rule, decode}
use Rattle.book.specs.Invariant.{Limits, Long, Heads, Places, Claimed, Literals, Ascending, Bytes}
use Rattle.book.proofs.Entries.{claimed_more}
use Rattle.book.proofs.Parts.{length-words, twos-append, two_bytes, twos-words, part_then, part_proper}

-- the first six of a list
six : (xs : List ℕ) → 6 ≤ length xs
    → xs ≡ get_or xs 0 0 ∷ get_or xs 1 0 ∷ get_or xs 2 0 ∷ get_or xs 3 0 ∷ get_or xs 4 0 ∷ get_or xs 5 0 ∷ drop 6 xs
six [] h = absurd (omega arith)
six (a ∷ []) h = absurd (omega arith)
six (a ∷ b ∷ []) h = absurd (omega arith)
six (a ∷ b ∷ c ∷ []) h = absurd (omega arith)
six (a ∷ b ∷ c ∷ d ∷ []) h = absurd (omega arith)
six (a ∷ b ∷ c ∷ d ∷ e ∷ []) h = absurd (omega arith)
six (a ∷ b ∷ c ∷ d ∷ e ∷ f ∷ xs) h = refl

-- the parts of the program that the bytes hold
pub atoms-decode : (bs : List ℕ) → (decode bs).atoms ≡ atoms_in bs
unfolding decode
atoms-decode bs = refl

pub count-decode : (bs : List ℕ) → rule_count (decode bs) ≡ rules_in bs
unfolding decode
count-decode bs = length-map-range_with_len (decode_rule bs) 0 (rules_in bs)

pub rule_decode : (bs : List ℕ) (k : ℕ) → k < rules_in bs → nth_rule (decode bs) k ≡ decode_rule bs k
unfolding decode
rule_decode bs k l = get_or-map-range_with_len (decode_rule bs) 0 (rules_in bs) k k no_rule l (zero-add k)

module _ (bs : List ℕ) (long : Long bs) (places : Places bs) (claimed : Claimed bs) where
  -- the parts of a rule lie within the bytes
  positives_within : (k : ℕ) → k < rules_in bs → literal_from bs (place_at bs k + positives_at bs k) ≤ length bs
  positives_within k h = let z = places k h in omega arith

  negatives_within : (k : ℕ) → k < rules_in bs → literal_from bs (place_at bs k + positives_at bs k + negatives_at bs k) ≤ length bs
  negatives_within k h = let z = places k h in omega arith

  width_is : (k : ℕ) → k < rules_in bs → width (decode_rule bs k) ≡ count_at bs k
  width_is k h =
      ap₂ (λ x y. x + y) (length-words bs (place_at bs k) (positives_at bs k) (positives_within k h))
      (length-words bs (place_at bs k + positives_at bs k) (negatives_at bs k) (negatives_within k h))

  claimed_next : (j : ℕ) → j < rules_in bs → claimed_below bs j + width (decode_rule bs j) ≡ claimed_below bs (j + 1)
  claimed_next j h = ap (λ w. claimed_below bs j + w) (width_is j h) ∙ sym (claimed_more bs j)

  -- what the rules from j on make of the literals that the entries before them claim
  totals : (k j : ℕ) → j + k ≡ rules_in bs → claimed_below bs j + total (map (decode_rule bs) (range_with_len j k)) ≡ claimed_below bs (rules_in bs)
  totals zero j e = let z : j ≡ rules_in bs = omega arith in let w = ap (claimed_below bs) z in omega arith
  totals (suc k) j e =
      let n = claimed_next j (omega arith) in let r = totals k (j + 1) (omega arith) in omega arith

  module _ (byte : Bytes bs) where
    entry_bytes : (j : ℕ) → j < rules_in bs
        → drop (entry_from j) bs
        ≡ two (head_at bs j) ++ (two (place_at bs j) ++ (positives_at bs j ∷ negatives_at bs j ∷ drop (entry_from (j + 1)) bs))
    entry_bytes j h =
        let f = entry_from j in
        let s = six (drop f bs) (simp length-drop (omega arith)) in
        let x0 : get_or (drop (entry_from j) bs) 0 0 ≡ get_or bs (entry_from j) 0 = get_or-drop f bs 0 0 ∙ ap (λ i. get_or bs i 0) (add-zero f) in
        let x1 = get_or-drop f bs 1 0 in
        let x2 = get_or-drop f bs 2 0 in
        let x3 : get_or (drop (entry_from j) bs) 3 0 ≡ get_or bs (entry_from j + 2 + 1) 0 = get_or-drop f bs 3 0 ∙ ap (λ i. get_or bs i 0) (omega arith) in
        let x4 = get_or-drop f bs 4 0 in
        let x5 = get_or-drop f bs 5 0 in
        let e : entry_from j + 6 ≡ entry_from (j + 1) = omega arith in
        let d : drop 6 (drop (entry_from j) bs) ≡ drop (entry_from (j + 1)) bs = drop-drop 6 f bs ∙ ap (λ i. drop i bs) e in
        let t = two_bytes (get_or bs f 0) (get_or bs (f + 1) 0) (byte f) in
        let u = two_bytes (get_or bs (f + 2) 0) (get_or bs (f + 2 + 1) 0) (byte (f + 2)) in
        cc

    entries : (k j : ℕ) → j + k ≡ rules_in bs
        → contents (claimed_below bs j) (map (decode_rule bs) (range_with_len j k)) ≡ take (6 * k) (drop (entry_from j) bs)
    entries zero j e = refl
    entries (suc k) j e =
        let h : j < rules_in bs = omega arith in
        let z = entry_bytes j h in
        let n : 6 * suc k ≡ suc (suc (suc (suc (suc (suc (6 * k)))))) = omega arith in
        let p = (places j h).0 in
        let a = length-words bs (place_at bs j) (positives_at bs j) (positives_within j h) in
        let c = length-words bs (place_at bs j + positives_at bs j) (negatives_at bs j) (negatives_within j h) in
        let w = claimed_next j h in
        let i = entries k (j + 1) (omega arith) in
        rw (z, n) (cc)

    bodies : (k j : ℕ) → j + k ≡ rules_in bs
        → twos (flat (map (decode_rule bs) (range_with_len j k))) ≡ drop (literal_from bs (claimed_below bs j)) bs
    bodies zero j e =
        let z : j ≡ rules_in bs = omega arith in
        let w = ap (claimed_below bs) z in
        sym (drop_all (literal_from bs (claimed_below bs j)) bs (omega arith))
    bodies (suc k) j e =
        let h : j < rules_in bs = omega arith in
        let q = place_at bs j in
        let a = positives_at bs j in
        let c = negatives_at bs j in
        let ps = twos-words bs byte q a (positives_within j h) in
        let ns = twos-words bs byte (q + a) c (negatives_within j h) in
        let z = (places j h).0 in
        let m = claimed_more bs j in
        let n : claimed_below bs (j + 1) ≡ place_at bs j + positives_at bs j + negatives_at bs j = omega arith in
        twos-append (body (decode_rule bs j)) (flat (map (decode_rule bs) (range_with_len (j + 1) k)))
        ∙ ap₂ (λ x y. x ++ y) (twos-append (words (positive_part bs j)) (words (negative_part bs j)) ∙ ap₂ (λ x y. x ++ y) ps ns) (bodies k (j + 1) (omega arith) ∙ ap (λ i. drop (literal_from bs i) bs) n)
        ∙ append_assoc (positive_part bs j) (negative_part bs j) (drop (literal_from bs (q + a + c)) bs)
        ∙ ap (λ t. positive_part bs j ++ t) (part_then bs (q + a) c)
        ∙ part_then bs q a
        ∙ ap (λ i. drop (literal_from bs i) bs) z

    pub encode-decode : 6 ≤ length bs → encode (decode bs) ≡ bs
    unfolding decode claimed_below
    encode-decode l =
        let m = count-decode bs in
        let t = totals (rules_in bs) 0 (zero-add (rules_in bs)) in
        let b : total (map (decode_rule bs) (range_with_len 0 (rules_in bs))) ≡ literals_in bs = sym (zero-add _) ∙ t ∙ claimed in
        let c = entries (rules_in bs) 0 (zero-add (rules_in bs)) in
        let f = bodies (rules_in bs) 0 (zero-add (rules_in bs)) in
        let d = take-append-drop (6 * rules_in bs) (drop 6 bs) in
        let g : drop (6 * rules_in bs) (drop 6 bs) ≡ drop (literal_from bs 0) bs = drop-drop (6 * rules_in bs) 6 bs ∙ ap (λ i. drop i bs) (omega arith) in
        let s = six bs l in
        let x = two_bytes (get_or bs 0 0) (get_or bs 1 0) (byte 0) in
        let y = two_bytes (get_or bs 2 0) (get_or bs 3 0) (byte 2) in
        let z = two_bytes (get_or bs 4 0) (get_or bs 5 0) (byte 4) in
        cc

  -- what a book in use keeps
  module _ (limits : Limits bs) (heads : Heads bs) (literals : Literals bs) (ascending : Ascending bs) where
    proper_rule : (k : ℕ) → k < rules_in bs → ProperRule (atoms_in bs) (decode_rule bs k)
    proper_rule k h =
        let q = place_at bs k in
        let a = positives_at bs k in
        let c = negatives_at bs k in
        record {
          head = λ x e. let z = eqb-true x (head_at bs k) e in let y = heads k h in omega arith;
          positives =
              part_proper bs (atoms_in bs) q a (positives_within k h) (λ i l. literals k i h (omega arith))
              (λ i l. ascending k i (h, omega arith, λ e. omega arith));
          negatives =
              part_proper bs (atoms_in bs) (q + a) c (negatives_within k h)
              (λ i l. rw (add_assoc q a i) (literals k (a + i) h (omega arith)))
              (λ i l.
              rw (add_assoc q a i, add_assoc q a (i + 1), ← add_assoc a i 1)
              (ascending k (a + i) (h, omega arith, λ e. omega arith)));
        }

    pub valid_decode : Valid (decode bs)
    unfolding decode claimed_below
    valid_decode =
        let m = count-decode bs in
        let t = totals (rules_in bs) 0 (zero-add (rules_in bs)) in
        record {
          proper = λ k h. let l : k < rules_in bs = omega arith in rw (rule_decode bs k l) (proper_rule k l);
          limited = record { atoms = limits.0; rules = omega (arith, limits); literals = omega (arith, limits, claimed) };
        }
