-- The rules of backward, one by one.
use Rattle.std.proofs.Common.{◌≡◌, ℕ, zero, suc, ◌+◌, ◌<◌, ◌≤◌, Bool, true, false, not, ◌&&◌, ◌||◌, eqb, List, [], ◌∷◌, ◌++◌, length, get_or, set, sym, refl, ap, ◌∙◌, subst, ap₂, inl, inr, add-one, arith, get_or-set_same, get_or-set_other}
use Rattle.std.proofs.lemmas.Bool.{and_parts, and_from, or_cases, or_left, or_right, eq-eqb, ne_eqb, eqb-true, cases_eq, cases_Bool, both_ways, not-true, not_from_false, false≢true}
use Rattle.std.proofs.Math.Bool.{and-true, and-false}
use Rattle.std.proofs.lemmas.Bool.Decides.{same_from_decides}
use Rattle.book.specs.Program.{ProgramRule, Program, rule_count, nth_rule}
use Rattle.answer.specs.Tests.{some_of, each_below, bit, how_many}
use Rattle.answer.specs.Answer.{heads}
use Rattle.operator.specs.Page.{is_in, is_out}
use Rattle.operator.specs.Operator.{live, only_open, last_positive, last_negative, body_is_in, body_is_out, backward_to, backward_marks}
use Rattle.answer.proofs.Tests.{untrue, many_lt}
use Rattle.answer.proofs.Rounds.{set_flag}
use Rattle.operator.specs.Booleans.{each_is, many_most}
use Rattle.operator.specs.Marks.{met}
use Rattle.operator.specs.declared.notes.Notes.{Notes}
use Rattle.operator.specs.Notes.{Noted}
use Rattle.operator.proofs.Literals.{some_last, some_amid}
use Rattle.operator.proofs.Tables.{some_next, fill_next}

-- the flags of a part

-- an atom of a part whose atoms are all below n
amid_below : (n a : ℕ) (xs : List ℕ) → ((i : ℕ) → get_or xs i 0 < n) → some_of (eqb a) xs ≡ true → a < n
amid_below n a [] h e = absurd (false≢true e)
amid_below n a (x ∷ xs) h e =
    elim (or_cases (eqb a x) (some_of (eqb a) xs) e) [
      | inl z ↦ let y = eqb-true a x z in let l = h 0 in omega arith
      | inr z ↦ amid_below n a xs (λ i. h (suc i)) z
    ]

pub lone_below : (n : ℕ) (p : List ℕ) (w a : ℕ) (xs : List ℕ) → ((i : ℕ) → get_or xs i 0 < n) → only_open (met p w) p a xs ≡ true → a < n
lone_below n p w a xs h e =
    let u = and_parts (met p 0 a && some_of (eqb a) xs) _ e in amid_below n a xs h (and_parts (met p 0 a) (some_of (eqb a) xs) u.0).1

-- an atom in the midst of such a part
pub midst_below : (n : ℕ) (ws xs : List ℕ) (x : ℕ) (ys : List ℕ) → ws ≡ xs ++ x ∷ ys → ((i : ℕ) → get_or ws i 0 < n) → x < n
midst_below n ws xs x ys e h = amid_below n x ws h (ap (some_of (eqb x)) e ∙ some_amid (eqb x) xs x ys (eq-eqb x x refl))

or_assoc : (x y z : Bool) → ((x || y) || z) ≡ (x || (y || z))
or_assoc true y z = refl
or_assoc false y z = refl

pub part_more : (xs : List ℕ) (g : Bool) (ys : List Bool) (x a : ℕ) → x < length ys → get_or ys a false ≡ (some_of (eqb a) xs || g)
    → get_or (set ys x true) a false ≡ (some_of (eqb a) (xs ++ x ∷ []) || g)
part_more xs g ys x a l h =
    set_flag ys x a l ∙ ap (λ y. eqb a x || y) h ∙ sym (ap (λ y. y || g) (some_last (eqb a) xs x) ∙ or_assoc (eqb a x) _ g)

-- how many pass

many_none : (t : ℕ → Bool) (n : ℕ) → ((k : ℕ) → k < n → t k ≡ false) → how_many t n ≡ 0
many_none t zero h = refl
many_none t (suc n) h = let e = many_none t n (λ k l. h k (omega arith)) in let f : bit (t n) ≡ 0 = ap bit (h n (omega arith)) in omega arith

many_sole : (t : ℕ → Bool) (n r : ℕ) → r < n → t r ≡ true → ((k : ℕ) → k < n → t k ≡ true → k ≡ r) → how_many t n ≡ 1
many_sole t zero r l e h = absurd (omega arith)
many_sole t (suc n) r l e h = elim (cases_eq n r) [
  | inl z ↦ let f : bit (t n) ≡ 1 = subst (λ i. bit (t i) ≡ 1) (sym z) (ap bit e) in let g = many_none t n (λ k m. untrue _ (λ q. let y = h k (omega arith) q in absurd (omega arith))) in omega arith
  | inr z ↦ let f : bit (t n) ≡ 0 = ap bit (untrue (t n) (λ q. z (h n (omega arith) q))) in let g = many_sole t n r (omega arith) e (λ k m. h k (omega arith)) in omega arith
]

many_two : (t : ℕ → Bool) (n k r : ℕ) → k < n → r < n → (k ≡ r → ⊥) → t k ≡ true → t r ≡ true → 2 ≤ how_many t n
many_two t n k r l m d e f =
    let u = many_lt (λ i. t i && not (eqb i k)) t n (λ i q. (and_parts (t i) _ q).0) k l (untrue _ (λ q. both_ways _ (not-true _ (and_parts (t k) _ q).1) (eq-eqb k k refl))) e in
    let v = many_lt (λ i. false) (λ i. t i && not (eqb i k)) n (λ i q. absurd (both_ways false refl q)) r m refl (and_from _ _ f (not_from_false _ (ne_eqb r k (λ z. d (sym z))))) in
    omega arith

-- a rule that is not out is the only such of its atom
sole_one : (hs outs : ℕ → Bool) (n r : ℕ) → r < n → hs r ≡ true → outs r ≡ false → eqb (how_many (λ k. hs k && not (outs k)) n) 1 ≡ each_below (λ k. not (hs k) || (eqb k r || outs k)) n
sole_one hs outs n r l h o = same_from_decides {P = (k : ℕ) → k < n → (hs k && not (outs k)) ≡ true → k ≡ r} _ _
    (λ e k m q. let c = eqb-true _ _ e in elim (cases_eq k r) [ inl z ↦ z | inr z ↦ let w = many_two t n k r m l z q tr in absurd (omega arith) ], λ f. eq-eqb _ _ (many_sole t n r l tr f)) (
      λ e k m q. let u = and_parts (hs k) _ q in elim (or_cases (not (hs k)) _ ((each_is (λ k. not (hs k) || (eqb k r || outs k)) n).0 e k m)) [
        | inl z ↦ absurd (both_ways _ (not-true _ z) u.0)
        | inr z ↦ elim (or_cases (eqb k r) _ z) [ inl y ↦ eqb-true k r y | inr y ↦ absurd (both_ways _ (not-true _ u.1) y) ]
      ],
      λ f. (each_is _ n).1 (λ k m. elim (cases_Bool (hs k)) [
        | inr z ↦ or_left _ _ (not_from_false _ z)
        | inl z ↦ elim (cases_Bool (outs k)) [ inl y ↦ or_right (not (hs k)) _ (or_right (eqb k r) _ y) | inr y ↦ or_right (not (hs k)) _ (or_left _ _ (eq-eqb k r (f k m (and_from _ _ z (not_from_false _ y))))) ]
      ]),
    )
  where
    t : ℕ → Bool
    t = λ k. hs k && not (outs k)

    tr : (hs r && not (outs r)) ≡ true
    tr = and_from _ _ h (not_from_false _ o)

-- one rule more

pub live_none : {x : ℕ} (b : Program) (p : List ℕ) (a : ℕ) → x ≡ 0 → x ≡ live b p a 0
unfolding live
live_none b p a e = e

pub live_most : (b : Program) (p : List ℕ) (a k : ℕ) → live b p a k ≤ k
unfolding live
live_most b p a k = many_most (λ r. heads b r a && not (body_is_out b p r)) k

counted : (xs : List ℕ) (h a : ℕ) → h < length xs → get_or (set xs h (get_or xs h 0 + 1)) a 0 ≡ bit (eqb a h) + get_or xs a 0
counted xs h a l =
    elim (cases_eq a h) [
      | inl e ↦ rw (e, eq-eqb h h refl) (get_or-set_same xs h _ 0 l ∙ omega arith)
      | inr e ↦ rw (ne_eqb a h e) (get_or-set_other xs h a _ 0 e ∙ omega arith)
    ]

live_next : (b : Program) (p : List ℕ) (a k : ℕ) → live b p a (k + 1) ≡ bit (heads b k a && not (body_is_out b p k)) + live b p a k
unfolding live
live_next b p a k = rw add-one refl

-- one rule more, whose body is not out, or is
pub live_more : (b : Program) (p : List ℕ) (h k a : ℕ) (xs : List ℕ) → h ≡ (nth_rule b k).head → h < length xs
    → body_is_out b p k ≡ false → get_or xs a 0 ≡ live b p a k → get_or (set xs h (get_or xs h 0 + 1)) a 0 ≡ live b p a (k + 1)
live_more b p h k a xs head l o e =
    counted xs h a l ∙ ap₂ (λ h y. bit (eqb a h) + y) head e
    ∙ ap (λ v. bit v + live b p a k) (sym (ap (λ q. heads b k a && not q) o ∙ and-true (heads b k a))) ∙ sym (live_next b p a k)

pub live_same : (b : Program) (p : List ℕ) (k a x : ℕ) → body_is_out b p k ≡ true → x ≡ live b p a k → x ≡ live b p a (k + 1)
live_same b p k a x o e =
    let z : bit (heads b k a && not (body_is_out b p k)) ≡ 0 = ap (λ q. bit (heads b k a && not q)) o ∙ ap bit (and-false (heads b k a)) in
    omega (arith, e, live_next b p a k)

and_turn : (x y z w : Bool) → (x ≡ false → z ≡ w) → (not x && (y && z)) ≡ (y && (not x && w))
and_turn true true z w f = refl
and_turn true false z w f = refl
and_turn false y z w f = ap (λ q. y && q) (f refl)

or_turn : (l s x : Bool) → (l || (s || x)) ≡ ((s || l) || x)
or_turn true true x = refl
or_turn true false x = refl
or_turn false true x = refl
or_turn false false x = refl

module _ (b : Program) (p : List ℕ) (k : ℕ) (t : Notes) (r : ProgramRule) (before : Noted b k t (backward_to k b p)) (rule : r ≡ nth_rule b k) where
  pub backward_in : (i o : Bool) (y z : ℕ → Bool) → i ≡ body_is_in b p k → o ≡ body_is_out b p k
      → ((a : ℕ) → y a ≡ ((i && some_of (eqb a) r.positives) || get_or t.atom_in a false))
      → ((a : ℕ) → z a ≡ ((o && last_negative p a r) || y a)) → (a : ℕ) → a < b.atoms → z a ≡ (backward_to (k + 1) b p).atom_in a
  backward_in i o y z ei eo e f a l =
      let S = i && some_of (eqb a) r.positives in let L = o && last_negative p a r in
      some_next (get_or t.atom_in a false) (z a) (S || L) (λ r. body_is_in b p r && some_of (eqb a) (nth_rule b r).positives || body_is_out b p r && last_negative p a (nth_rule b r)) k
      (f a ∙ ap (λ q. L || q) (e a) ∙ or_turn L S _) (before.atom_in a l)
      (ap (λ x. i && some_of (eqb a) x.positives || o && last_negative p a x) rule ∙ ap₂ (λ i o. i && some_of (eqb a) (nth_rule b k).positives || o && last_negative p a (nth_rule b k)) ei eo)

  pub backward_out : (i o : Bool) (y z : ℕ → Bool) → i ≡ body_is_in b p k → o ≡ body_is_out b p k
      → ((a : ℕ) → y a ≡ ((i && some_of (eqb a) r.negatives) || get_or t.atom_out a false))
      → ((a : ℕ) → z a ≡ ((o && last_positive p a r) || y a)) → (a : ℕ) → a < b.atoms → z a ≡ (backward_to (k + 1) b p).atom_out a
  backward_out i o y z ei eo e f a l =
      let S = i && some_of (eqb a) r.negatives in let L = o && last_positive p a r in
      some_next (get_or t.atom_out a false) (z a) (S || L) (λ r. body_is_in b p r && some_of (eqb a) (nth_rule b r).negatives || body_is_out b p r && last_positive p a (nth_rule b r)) k
      (f a ∙ ap (λ q. L || q) (e a) ∙ or_turn L S _) (before.atom_out a l)
      (ap (λ x. i && some_of (eqb a) x.negatives || o && last_positive p a x) rule ∙ ap₂ (λ i o. i && some_of (eqb a) (nth_rule b k).negatives || o && last_positive p a (nth_rule b k)) ei eo)

  pub backward_body_in : (v o : Bool) (count : ℕ) → k < rule_count b → k < length t.body_in → v ≡ (not o && (is_in p r.head && eqb count 1))
      → o ≡ body_is_out b p k → count ≡ live b p r.head (rule_count b) → (j : ℕ) → j < k + 1 → get_or (set t.body_in k v) j false ≡ (backward_marks b p).body_in j
  unfolding live
  backward_body_in v o count c l e g f =
      fill_next (backward_marks b p).body_in t.body_in k v l before.body_in (e ∙ ap₂ (λ o r. not o && (is_in p r.head && eqb count 1)) g rule ∙ last)
    where
      whole : body_is_out b p k ≡ false → eqb count 1 ≡ each_below (λ r. not (heads b r (nth_rule b k).head) || (eqb r k || body_is_out b p r)) (rule_count b)
      whole o =
          ap (λ x. eqb x 1) (f ∙ ap (λ (x : ProgramRule). how_many (λ r. heads b r x.head && not (body_is_out b p r)) (rule_count b)) rule)
          ∙ sole_one (λ r. heads b r (nth_rule b k).head) (body_is_out b p) (rule_count b) k c (eq-eqb (nth_rule b k).head (nth_rule b k).head refl) o

      last : (not (body_is_out b p k) && (is_in p (nth_rule b k).head && eqb count 1)) ≡ (backward_marks b p).body_in k
      last = and_turn (body_is_out b p k) (is_in p (nth_rule b k).head) (eqb count 1) _ whole

  pub backward_body_out : (v : Bool) → k < length t.body_out → v ≡ is_out p r.head → (j : ℕ) → j < k + 1 → get_or (set t.body_out k v) j false ≡ is_out p (nth_rule b j).head
  backward_body_out v l e = fill_next (λ r. is_out p (nth_rule b r).head) t.body_out k v l before.body_out (e ∙ ap (λ x. is_out p x.head) rule)
